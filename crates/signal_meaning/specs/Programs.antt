-- The programs of worked runs.
use Rattle.std.specs.Prelude.{ℕ, ◌+◌, List, [], ◌∷◌, ◌++◌, true, false}
use Prim.Native.String.{String}
use Rattle.elm_base.specs.declared.native.TheConstants.{ADD, SUBTRACT, MULTIPLY, DIVIDE, EQUAL, GREATER, LOG, CONSTANT, MAP, MAP2, FOLDP, MERGE, FILTER, FILTER_MAP, DROP_REPEATS, SAMPLE_ON, ASYNC, TEXT}
use Rattle.elm_meaning.specs.Patterns.{Pattern, patterns_of}
use Rattle.elm_meaning.specs.Values.{Value, Unit, Tree, Done, Local, Top, Input, Lambda, Call, If}
use Rattle.elm_meaning.specs.Answers.{truth}
use Rattle.elm_meaning.specs.Spelling.{int, text, tuple, made, record_of, native, maker, call, of_one, of_two, watch, tuple_term}
use Rattle.elm_meaning.specs.Examples.{show}
use Rattle.signal_meaning.specs.Events.{Event, Taken}
use Rattle.signal_meaning.specs.StageOne.{Start}

abbrev pub number : ℕ → Tree
number n = Done (int n)

abbrev pub plus : Tree → Tree → Tree
plus a b = call (native ADD) (a ∷ b ∷ [])

abbrev pub minus_one : Tree → Tree
minus_one a = call (native SUBTRACT) (a ∷ number 1 ∷ [])

abbrev pub times : Tree → Tree → Tree
times a b = call (native MULTIPLY) (a ∷ b ∷ [])

abbrev pub divided : Tree → Tree → Tree
divided a b = call (native DIVIDE) (a ∷ b ∷ [])

abbrev pub log : String → Tree → Tree
log tag e = call (native LOG) (Done (text tag) ∷ e ∷ [])

-- natives of signals

abbrev pub map : Tree → Tree → Tree
map f s = call (native MAP) (f ∷ s ∷ [])

abbrev pub map2 : Tree → Tree → Tree → Tree
map2 f s t = call (native MAP2) (f ∷ s ∷ t ∷ [])

abbrev pub foldp : Tree → ℕ → Tree → Tree
foldp f start s = call (native FOLDP) (f ∷ number start ∷ s ∷ [])

abbrev pub merge : Tree → Tree → Tree
merge s t = call (native MERGE) (s ∷ t ∷ [])

abbrev pub filter : Tree → ℕ → Tree → Tree
filter p d s = call (native FILTER) (p ∷ number d ∷ s ∷ [])

abbrev pub filter_map : Tree → ℕ → Tree → Tree
filter_map f d s = call (native FILTER_MAP) (f ∷ number d ∷ s ∷ [])

abbrev pub sample_on : Tree → Tree → Tree
sample_on s t = call (native SAMPLE_ON) (s ∷ t ∷ [])

abbrev pub drop_repeats : Tree → Tree
drop_repeats s = Call (native DROP_REPEATS) s

abbrev pub async : Tree → Tree
async s = Call (native ASYNC) s

-- how many changes so far: \_ n -> n + 1
abbrev pub count : Tree
count = Lambda Pattern.Anything (of_one (plus (Local 0) (number 1)))

-- the library's signals are the first nine top values and nodes

abbrev pub first_part : Tree
first_part = Lambda (Pattern.Tuple (patterns_of (Pattern.Local 0 ∷ Pattern.Anything ∷ []))) (Local 0)

abbrev pub second_part : Tree
second_part = Lambda (Pattern.Tuple (patterns_of (Pattern.Anything ∷ Pattern.Local 0 ∷ []))) (Local 0)

abbrev pub library : List Tree
library =
    Input 0 ∷ Input 1 ∷ Input 2 ∷ map first_part (Top 0) ∷ map second_part (Top 0)
    ∷ Input 3 ∷ Input 4 ∷ map first_part (Top 6) ∷ map second_part (Top 6) ∷ []

-- Mouse.position, Mouse.isDown, Mouse.clicks, Keyboard.arrows, Window.dimensions
abbrev pub device_values : List Value
device_values =
    tuple (int 0 ∷ int 0 ∷ []) ∷ truth false ∷ Unit ∷ record_of (("x", int 0) ∷ ("y", int 0) ∷ [])
    ∷ tuple (int 80 ∷ int 24 ∷ []) ∷ []

abbrev pub is_down : Tree
is_down = Top 1

abbrev pub clicks : Tree
clicks = Top 2

abbrev pub mouse_x : Tree
mouse_x = Top 3

-- the first top value of the program's own, and those behind it
abbrev pub own : ℕ → Tree
own n = Top (9 + n)

-- a program with its own top values, an inbound port with this first value or none, and the usual fuel
abbrev pub with_ports : List Value → List Tree → Start
with_ports ports tops = record { tops = library ++ tops; inputs = device_values ++ ports; fuel = 100000 }

abbrev pub program : List Tree → Start
program tops = with_ports [] tops

-- events

abbrev pub click : Event
click = Taken 2 Unit

abbrev pub moved : Value → Value → Event
moved x y = Taken 0 (tuple (x ∷ y ∷ []))

abbrev pub pressed : Event
pressed = Taken 1 (truth true)

-- the inbound port takes a value
abbrev pub sent : Value → Event
sent v = Taken 5 v

-- count = Signal.foldp (\_ n -> Debug.watch "count" (n + 1)) 0 Mouse.clicks; main = Signal.map show count
abbrev pub counted_clicks : Start
counted_clicks =
    program
    (foldp (Lambda Pattern.Anything (of_one (watch "count" (plus (Local 0) (number 1))))) 0 clicks
    ∷ map show (own 0) ∷ [])

-- a = Signal.async Mouse.x; b = Signal.map (\n -> n * 10) a; main = Signal.map2 (\p q -> show (p, q)) a b
abbrev pub queue : Start
queue =
    program
    (async mouse_x
    ∷ map (of_one (times (Local 0) (number 10))) (own 0)
    ∷ map2 (of_two (Call show (tuple_term (Local 0 ∷ Local 1 ∷ [])))) (own 0) (own 1) ∷ [])

-- a = Signal.map (\_ -> 1) (Signal.async Mouse.clicks); b = Signal.map (\_ -> 2) Mouse.isDown;
-- main = Signal.map show (Signal.foldp (\n s -> 10 * s + n) 0 (Signal.merge a b))
abbrev pub async_order : Start
async_order =
    program
    (map (Lambda Pattern.Anything (number 1)) (async clicks)
    ∷ map (Lambda Pattern.Anything (number 2)) is_down
    ∷ map show (foldp (of_two (plus (times (number 10) (Local 1)) (Local 0))) 0 (merge (own 0) (own 1))) ∷ [])

-- main = Signal.map show (Signal.merge Mouse.x (Signal.map (\n -> n + 100) Mouse.x))
abbrev pub merge_left : Start
merge_left = program (map show (merge mouse_x (map (of_one (plus (Local 0) (number 100))) mouse_x)) ∷ [])

-- f = Signal.map (\n m -> n + m) Mouse.x; g = Signal.dropRepeats f; main = Signal.map (\_ -> text "ok") g
abbrev pub function_equality : Start
function_equality =
    program
    (map (of_two (plus (Local 0) (Local 1))) mouse_x
    ∷ drop_repeats (own 0)
    ∷ map (Lambda Pattern.Anything (Call (native TEXT) (Done (text "ok")))) (own 1) ∷ [])

-- main = Signal.map (\n -> show (100 // n)) (Signal.foldp (\_ n -> n - 1) 2 Mouse.clicks), or with another lambda
abbrev pub counting_down : Tree → Start
counting_down quotient = program (map (of_one (Call show quotient)) (foldp (Lambda Pattern.Anything (of_one (minus_one (Local 0)))) 2 clicks) ∷ [])

abbrev pub div : Start
div = counting_down (divided (number 100) (Local 0))

-- \n -> show (if n == 0 then 0 else 100 // n)
abbrev pub div_fixed : Start
div_fixed =
    counting_down
    (If (call (native EQUAL) (Local 0 ∷ number 0 ∷ [])) (number 0) (divided (number 100) (Local 0)))

-- main = Signal.map2 (\p n -> show (p, n)) (Signal.map (Debug.log "x") Mouse.x) (Signal.foldp (\_ n -> n + 1) 0 Mouse.clicks)
abbrev pub logged_x : Start
logged_x =
    program
    (map2 (of_two (Call show (tuple_term (Local 0 ∷ Local 1 ∷ []))))
    (map (Call (native LOG) (Done (text "x"))) mouse_x) (foldp count 0 clicks) ∷ [])

-- port p : Signal { x : Int, y : Int }; main = Signal.map show (Signal.foldp (\_ n -> n + 1) 0 (Signal.dropRepeats p))
abbrev pub record_port : Start
record_port =
    with_ports (record_of (("x", int 0) ∷ ("y", int 0) ∷ []) ∷ [])
    (Input 5 ∷ map show (foldp count 0 (drop_repeats (own 0))) ∷ [])

-- port p : Signal Int; main = Signal.map (\n -> show (n - 1)) p
abbrev pub int_range : Start
int_range = with_ports (int 0 ∷ []) (Input 5 ∷ map (of_one (Call show (minus_one (Local 0)))) (own 0) ∷ [])

-- loop n = if n == 0 then 0 else loop (n - 1); main = show (loop 2), with this fuel
abbrev pub loop_fuel : ℕ → Start
loop_fuel fuel = record {
  tops = library
      ++ of_one (If (call (native EQUAL) (Local 0 ∷ number 0 ∷ [])) (number 0) (Call (own 0) (minus_one (Local 0))))
      ∷ Call show (Call (own 0) (number 2)) ∷ [];
  inputs = device_values;
  fuel = fuel;
}

-- \n -> n > 0
abbrev pub is_positive : Tree
is_positive = of_one (call (native GREATER) (Local 0 ∷ number 0 ∷ []))

-- Signal.filter (\n -> n > 0) 7 Mouse.x
abbrev pub positive_x : Start
positive_x = program (filter is_positive 7 mouse_x ∷ [])

-- Signal.filterMap (\n -> if n > 0 then Just (n * 2) else Nothing) 7 Mouse.x
abbrev pub doubled_x : Start
doubled_x =
    program
    (filter_map (of_one (If (call (native GREATER) (Local 0 ∷ number 0 ∷ [])) (Call (maker "Just" 1) (times (Local 0) (number 2))) (Done (made "Nothing" [])))) 7 mouse_x
    ∷ [])

-- Signal.sampleOn Mouse.clicks Mouse.x
abbrev pub sampled_x : Start
sampled_x = program (sample_on clicks mouse_x ∷ [])

-- Signal.constant 7; Signal.foldp (\_ n -> n + 1) 0 Mouse.position
abbrev pub steady : Start
steady = program (Call (native CONSTANT) (number 7) ∷ foldp count 0 (Top 0) ∷ [])

-- Signal.async Mouse.clicks; Signal.async Mouse.x
abbrev pub two_asyncs : Start
two_asyncs = program (async clicks ∷ async mouse_x ∷ [])

-- Signal.map (\n -> 100 // Debug.log "n" n) (Signal.foldp (\_ n -> n - 1) 2 Mouse.clicks); Signal.map (Debug.log "c") Mouse.clicks
abbrev pub logged_down : Start
logged_down =
    program
    (map (of_one (divided (number 100) (log "n" (Local 0)))) (foldp (Lambda Pattern.Anything (of_one (minus_one (Local 0)))) 2 clicks)
    ∷ map (of_one (log "c" (Local 0))) clicks ∷ [])

-- Signal.map (Debug.watch "x") Mouse.x; Signal.foldp (\_ n -> Debug.watch "count" (n + 1)) 0 Mouse.clicks
abbrev pub two_watches : Start
two_watches =
    program
    (map (of_one (watch "x" (Local 0))) mouse_x
    ∷ foldp (Lambda Pattern.Anything (of_one (watch "count" (plus (Local 0) (number 1))))) 0 clicks ∷ [])

-- a = Debug.log "a" 1; s = Signal.map (Debug.log "n") Mouse.x; b = Debug.log "b" 2, and perhaps more top values
abbrev pub logging_tops : List Tree → Start
logging_tops more =
    program (log "a" (number 1) ∷ map (of_one (log "n" (Local 0))) mouse_x ∷ log "b" (number 2) ∷ more)

-- port p : Signal String; Signal.dropRepeats p, with this fuel
abbrev pub text_repeats : ℕ → Start
text_repeats fuel = record {
  tops = library ++ Input 5 ∷ drop_repeats (own 0) ∷ [];
  inputs = device_values ++ text "ab" ∷ [];
  fuel = fuel;
}
