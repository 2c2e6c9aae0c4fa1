-- What the nodes say and are after a list of events. A past is such a list, the newest event first.
use Rattle.std.specs.Prelude.{ℕ, zero, suc, ◌+◌, Bool, true, false, ◌==◌, Option, Some, None, List, [], ◌∷◌, ◌++◌, length, drop, replicate, slice_get, slice_index_or}
use Rattle.elm_meaning.specs.Values.{Value, no_value}
use Rattle.elm_meaning.specs.Equations.{Equation}
use Rattle.signal_meaning.specs.Events.{Event, Taken, Delivered}
use Rattle.signal_meaning.specs.StageOne.{Network}
use Rattle.signal_meaning.specs.Nodes.{Say, Same, Change, Said, begins, answers}

-- a number that hasn't spoken says nothing new
abbrev pub say_of : Option Said → Say
say_of None = Same
say_of (Some said) = said.say

abbrev pub say_at : List Said → ℕ → Say
say_at below k = say_of (slice_get below k)

abbrev pub is_change : Say → Bool
is_change (Change v) = true
is_change _ = false

-- the new value, or the old one
abbrev pub value_after : Value → Say → Value
value_after old (Change v) = v
value_after old _ = old

-- a node's value and whether it changed, by the values before and by what was said since
abbrev pub value_of : List Value → List Said → ℕ → Value
value_of before below k = value_after (slice_index_or before k no_value) (say_at below k)

abbrev pub changes : List Said → ℕ → Bool
changes below k = is_change (say_at below k)

-- Nodes speak in the order of their numbers: each says what the rule makes of what the smaller numbers say.
abbrev pub Rule : Type 0
Rule = List Said → ℕ → Equation → Said

abbrev pub speak : Rule → List Equation → List Said → List Said
speak rule [] below = below
speak rule (q ∷ qs) below = speak rule qs (below ++ rule below (length below) q ∷ [])

abbrev pub all_say : Rule → List Equation → List Said
all_say rule equations = speak rule equations []

-- the values of nodes that nothing was said of
abbrev pub no_values : Network → List Value
no_values net = replicate (length net.equations) no_value

abbrev pub first_rule : Network → Rule
first_rule net below k q = begins net (value_of (no_values net) below) q

-- each place of a list of values, with what was said of it
abbrev pub values_after : List Value → List Said → List Value
values_after [] said = []
values_after (v ∷ vs) [] = v ∷ vs
values_after (v ∷ vs) (s ∷ ss) = value_after v s.say ∷ values_after vs ss

-- Asyncs have numbers of their own, in the order of their nodes: the inner signals of all asyncs, by these numbers.
abbrev pub inner_signals : List Equation → List ℕ
inner_signals [] = []
inner_signals (Equation.Async input ∷ qs) = input ∷ inner_signals qs
inner_signals (_ ∷ qs) = inner_signals qs

-- how many asyncs stand before node k, which is the number of its own if it is one
abbrev pub asyncs_before : ℕ → List Equation → ℕ
asyncs_before zero qs = 0
asyncs_before (suc k) [] = 0
asyncs_before (suc k) (Equation.Async input ∷ qs) = suc (asyncs_before k qs)
asyncs_before (suc k) (_ ∷ qs) = asyncs_before k qs

abbrev pub delivers : Event → ℕ → Bool
delivers (Taken input v) async = false
delivers (Delivered number) async = number == async

-- What the nodes have said at the last event, their values, and for the async of a number the changes of its inner signal
-- since event 0 and how many of these were delivered.
pub record Moment : Type 0 where
  pub said : List Said
  pub values : List Value
  pub made : ℕ → List Value
  pub gone : ℕ → ℕ

-- the changes that wait for the async of a number, the oldest first
abbrev pub waiting : Moment → ℕ → List Value
waiting m async = drop (m.gone async) (m.made async)

abbrev pub first_of : List Value → Option Value
first_of [] = None
first_of (v ∷ vs) = Some v

abbrev pub first_where : Bool → List Value → Option Value
first_where true waits = first_of waits
first_where false waits = None

-- what an event delivers to the async of a number: the oldest change that waits
abbrev pub delivered : Event → Moment → ℕ → Option Value
delivered e m async = first_where (delivers e async) (waiting m async)

-- one change more is gone where a delivery meets one that waits
abbrev pub one_where : Option Value → ℕ
one_where None = 0
one_where (Some v) = 1

abbrev pub new_value : Say → List Value
new_value (Change v) = v ∷ []
new_value _ = []

-- the change of an async's inner signal
abbrev pub inner_change : List Said → Option ℕ → List Value
inner_change said None = []
inner_change said (Some input) = new_value (say_at said input)

abbrev pub later_rule : Network → Event → Moment → Rule
later_rule net e m below k q =
    answers net e (value_of m.values below) (changes below) (slice_index_or m.values k no_value)
    (delivered e m (asyncs_before k net.equations)) q

abbrev pub first_moment : Network → List Said → Moment
first_moment net said = record { said = said; values = values_after (no_values net) said; made = λ async. []; gone = λ async. 0 }

abbrev pub next_moment : Network → Event → Moment → List Said → Moment
next_moment net e m said = record {
  said = said;
  values = values_after m.values said;
  made = λ async. m.made async ++ inner_change said (slice_get (inner_signals net.equations) async);
  gone = λ async. m.gone async + one_where (delivered e m async);
}

abbrev pub after_event : Network → Event → Moment → Moment
after_event net e m = next_moment net e m (all_say (later_rule net e m) net.equations)

-- the moment after a past, whether or not a node stopped the run before
abbrev pub moment : Network → List Event → Moment
moment net [] = first_moment net (all_say (first_rule net) net.equations)
moment net (e ∷ es) = after_event net e (moment net es)

-- what node k says at the last event, its value then, and whether it changed
abbrev pub say : Network → List Event → ℕ → Say
say net past k = say_at (moment net past).said k

abbrev pub value : Network → List Event → ℕ → Value
value net past k = slice_index_or (moment net past).values k no_value

abbrev pub changed : Network → List Event → ℕ → Bool
changed net [] k = false
changed net (e ∷ es) k = is_change (say net (e ∷ es) k)

-- the changes of the inner signal of the async with a number after event 0, and those that wait

abbrev pub made : Network → List Event → ℕ → List Value
made net past async = (moment net past).made async

abbrev pub pending : Network → List Event → ℕ → List Value
pending net past async = waiting (moment net past) async
