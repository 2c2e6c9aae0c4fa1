-- The unions, natives and devices of the library, with their written types.
use Rattle.std.specs.Prelude.{ℕ, Option, List, [], ◌∷◌, slice_get, codes}
use Prim.Native.String.{String}
use Rattle.elm_typing.specs.Ground.{Ground, NoGrounds}
use Rattle.elm_typing.specs.Spelling.{int, bool, tuple, record_of}
use Rattle.typing_rules.specs.WrittenTypes.{Written, Writtens, Variable, Named, Arrow, NoWrittens, AndWritten}
use Rattle.typing_rules.specs.Unions.{Union}

-- how written types are spelled

abbrev pub writtens : List Written → Writtens
writtens [] = NoWrittens
writtens (w ∷ ws) = AndWritten w (writtens ws)

abbrev pub named : String → List Written → Written
named name ws = Named (codes name) (writtens ws)

abbrev pub variable : String → Written
variable name = Variable (codes name)

abbrev pub a_ : Written
a_ = variable "a"

abbrev pub b_ : Written
b_ = variable "b"

abbrev pub c_ : Written
c_ = variable "c"

abbrev pub d_ : Written
d_ = variable "d"

abbrev pub e_ : Written
e_ = variable "e"

abbrev pub int_ : Written
int_ = named "Basics.Int" []

abbrev pub bool_ : Written
bool_ = named "Basics.Bool" []

abbrev pub char_ : Written
char_ = named "Basics.Char" []

abbrev pub string_ : Written
string_ = named "Basics.String" []

abbrev pub order_ : Written
order_ = named "Basics.Order" []

abbrev pub list_ : Written → Written
list_ w = named "Basics.List" (w ∷ [])

abbrev pub maybe_ : Written → Written
maybe_ w = named "Maybe.Maybe" (w ∷ [])

abbrev pub result_ : Written → Written → Written
result_ v w = named "Result.Result" (v ∷ w ∷ [])

abbrev pub signal_ : Written → Written
signal_ w = named "Signal.Signal" (w ∷ [])

abbrev pub element_ : Written
element_ = named "Graphics.Element.Element" []

abbrev pub direction_ : Written
direction_ = named "Graphics.Element.Direction" []

abbrev pub position_ : Written
position_ = named "Graphics.Element.Position" []

-- a function of these arguments
abbrev pub from : List Written → Written → Written
from [] result = result
from (w ∷ ws) result = Arrow w (from ws result)

-- of two numbers, of two values of a type, and of two that are ordered

abbrev pub arithmetic_ : Written
arithmetic_ = from (int_ ∷ int_ ∷ []) int_

abbrev pub equality_ : Written
equality_ = from (a_ ∷ a_ ∷ []) bool_

abbrev pub ordered_ : Written → Written
ordered_ result = from (variable "comparable" ∷ variable "comparable" ∷ []) result

-- the natives' types, in the order of their numbers
abbrev pub signatures : List Written
signatures =
    -- + - * // % rem, negate
    arithmetic_
    ∷ arithmetic_
    ∷ arithmetic_
    ∷ arithmetic_
    ∷ arithmetic_
    ∷ arithmetic_
    ∷ from (int_ ∷ []) int_
    -- == /=, < > <= >=, compare
    ∷ equality_
    ∷ equality_
    ∷ ordered_ bool_
    ∷ ordered_ bool_
    ∷ ordered_ bool_
    ∷ ordered_ bool_
    ∷ ordered_ order_
    -- ++, toString
    ∷ from (variable "appendable" ∷ variable "appendable" ∷ []) (variable "appendable")
    ∷ from (a_ ∷ []) string_
    -- Char.toCode, fromCode
    ∷ from (char_ ∷ []) int_
    ∷ from (int_ ∷ []) char_
    -- String.length, reverse, toList, fromList, toInt
    ∷ from (string_ ∷ []) int_
    ∷ from (string_ ∷ []) string_
    ∷ from (string_ ∷ []) (list_ char_)
    ∷ from (list_ char_ ∷ []) string_
    ∷ from (string_ ∷ []) (result_ string_ int_)
    -- Debug.watch, log, crash
    ∷ from (string_ ∷ a_ ∷ []) a_
    ∷ from (string_ ∷ a_ ∷ []) a_
    ∷ from (string_ ∷ []) a_
    -- Signal.constant, map to map5
    ∷ from (a_ ∷ []) (signal_ a_)
    ∷ from (from (a_ ∷ []) b_ ∷ signal_ a_ ∷ []) (signal_ b_)
    ∷ from (from (a_ ∷ b_ ∷ []) c_ ∷ signal_ a_ ∷ signal_ b_ ∷ []) (signal_ c_)
    ∷ from (from (a_ ∷ b_ ∷ c_ ∷ []) d_ ∷ signal_ a_ ∷ signal_ b_ ∷ signal_ c_ ∷ []) (signal_ d_)
    ∷ from (from (a_ ∷ b_ ∷ c_ ∷ d_ ∷ []) e_ ∷ signal_ a_ ∷ signal_ b_ ∷ signal_ c_ ∷ signal_ d_ ∷ []) (signal_ e_)
    ∷ from (from (a_ ∷ b_ ∷ c_ ∷ d_ ∷ e_ ∷ []) (variable "f") ∷ signal_ a_ ∷ signal_ b_ ∷ signal_ c_ ∷ signal_ d_ ∷ signal_ e_ ∷ [])
    (signal_ (variable "f"))
    -- foldp, merge, filter, filterMap, dropRepeats, sampleOn, async
    ∷ from (from (a_ ∷ variable "state" ∷ []) (variable "state") ∷ variable "state" ∷ signal_ a_ ∷ []) (signal_ (variable "state"))
    ∷ from (signal_ a_ ∷ signal_ a_ ∷ []) (signal_ a_)
    ∷ from (from (a_ ∷ []) bool_ ∷ a_ ∷ signal_ a_ ∷ []) (signal_ a_)
    ∷ from (from (a_ ∷ []) (maybe_ b_) ∷ b_ ∷ signal_ a_ ∷ []) (signal_ b_)
    ∷ from (signal_ a_ ∷ []) (signal_ a_)
    ∷ from (signal_ a_ ∷ signal_ b_ ∷ []) (signal_ b_)
    ∷ from (signal_ a_ ∷ []) (signal_ a_)
    -- Graphics.Element: text, empty, spacer, flow
    ∷ from (string_ ∷ []) element_
    ∷ element_
    ∷ from (int_ ∷ int_ ∷ []) element_
    ∷ from (direction_ ∷ list_ element_ ∷ []) element_
    -- up, down, left, right, topLeft, middle, bottomRight
    ∷ direction_
    ∷ direction_
    ∷ direction_
    ∷ direction_
    ∷ position_
    ∷ position_
    ∷ position_
    -- container, widthOf, heightOf
    ∷ from (int_ ∷ int_ ∷ position_ ∷ element_ ∷ []) element_
    ∷ from (element_ ∷ []) int_
    ∷ from (element_ ∷ []) int_
    ∷ []

-- the written type of the native with a number, where there is one
abbrev pub signature_of : ℕ → Option Written
signature_of number = slice_get signatures number

-- a constructor with the types of its arguments
abbrev pub with_parts : String → List Written → List ℕ × List Written
with_parts name parts = (codes name, parts)

abbrev pub union : String → List String → List (List ℕ × List Written) → Union
union name parameters constructors =
    record { name = codes name; parameters = spelled parameters; constructors = constructors }
  where
    spelled : List String → List (List ℕ)
    spelled [] = []
    spelled (p ∷ ps) = codes p ∷ spelled ps

-- The values of Direction and Position are constructors that no program names: they begin with small letters.
abbrev pub library_unions : List Union
library_unions =
    union "Basics.Int" [] []
    ∷ union "Basics.Char" [] []
    ∷ union "Basics.String" [] []
    ∷ union "Basics.List" ("a" ∷ []) []
    ∷ union "Signal.Signal" ("a" ∷ []) []
    ∷ union "Graphics.Element.Element" [] []
    ∷ union "Basics.Bool" [] (with_parts "True" [] ∷ with_parts "False" [] ∷ [])
    ∷ union "Basics.Order" [] (with_parts "LT" [] ∷ with_parts "EQ" [] ∷ with_parts "GT" [] ∷ [])
    ∷ union "Maybe.Maybe" ("a" ∷ []) (with_parts "Just" (a_ ∷ []) ∷ with_parts "Nothing" [] ∷ [])
    ∷ union "Result.Result" ("e" ∷ "a" ∷ []) (with_parts "Ok" (a_ ∷ []) ∷ with_parts "Err" (e_ ∷ []) ∷ [])
    ∷ union "Graphics.Element.Direction" [] (with_parts "up" [] ∷ with_parts "down" [] ∷ with_parts "left" [] ∷ with_parts "right" [] ∷ [])
    ∷ union "Graphics.Element.Position" [] (with_parts "topLeft" [] ∷ with_parts "middle" [] ∷ with_parts "bottomRight" [] ∷ [])
    ∷ []

-- the type of Elements
abbrev pub element : Ground
element = Ground.Named (codes "Graphics.Element.Element") NoGrounds

-- what the signals of the devices have as values: Mouse.position, isDown and clicks, Keyboard.arrows, Window.dimensions
abbrev pub devices : List Ground
devices =
    tuple (int ∷ int ∷ [])
    ∷ bool
    ∷ tuple []
    ∷ record_of (("x", int) ∷ ("y", int) ∷ [])
    ∷ tuple (int ∷ int ∷ [])
    ∷ []
