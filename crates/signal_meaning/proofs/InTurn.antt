-- Each node speaks by what the nodes say in the end, since those that it looks at have smaller numbers.
use Rattle.std.proofs.Common.{◌≡◌, ℕ, zero, suc, ◌+◌, ◌<◌, Bool, Option, Some, None, List, [], ◌∷◌, ◌++◌, length, map, refl, sym, ap, ap₂, ◌∙◌, arith, append_assoc, append-nil, subst}
use Rattle.std.specs.Prelude.{slice_get, slice_index_or, replicate, if◌then◌else◌, ◌||◌}
use Rattle.std.specs.List.{list_any}
use Rattle.elm_meaning.specs.declared.compared.Comparison.TheVariants.{Equality}
use Rattle.elm_meaning.specs.Values.{Value, no_value}
use Rattle.elm_meaning.specs.PairsVisited.{compared}
use Rattle.elm_meaning.specs.Equations.{Equation}
use Rattle.signal_meaning.specs.Events.{Event}
use Rattle.signal_meaning.specs.StageOne.{Network}
use Rattle.signal_meaning.specs.Nodes.{Same, Change, Said, silent, calls, if_held, if_just, unless_equal, begins, where_changed, answers}
use Rattle.signal_meaning.specs.Moments.{Rule, say_of, say_at, is_change, value_after, value_of, changes, speak, all_say, no_values, first_rule, later_rule, values_after, moment, say, value, changed, delivered, asyncs_before}
use Rattle.signal_meaning.specs.Order.{inputs_of, AllBelow, IsOrdered}

-- what is said behind what was said before

abbrev said_behind : Rule → List Equation → List Said → List Said
said_behind rule [] below = []
said_behind rule (q ∷ qs) below = rule below (length below) q ∷ said_behind rule qs (below ++ rule below (length below) q ∷ [])

speak-front : (rule : Rule) (qs : List Equation) (below : List Said) → speak rule qs below ≡ below ++ said_behind rule qs below
speak-front rule [] below = sym (append-nil below)
speak-front rule (q ∷ qs) below =
    speak-front rule qs (below ++ rule below (length below) q ∷ [])
    ∙ append_assoc below (rule below (length below) q ∷ []) (said_behind rule qs (below ++ rule below (length below) q ∷ []))

-- two lists say the same of the numbers below k
abbrev AlikeBelow : ℕ → List Said → List Said → Type 0
AlikeBelow k ss ts = (i : ℕ) → i < k → slice_get ss i ≡ slice_get ts i

front_alike : (below more : List Said) → AlikeBelow (length below) below (below ++ more)
front_alike [] more i h = absurd (omega arith)
front_alike (s ∷ ss) more zero h = refl
front_alike (s ∷ ss) more (suc i) h = front_alike ss more i (omega arith)

at_seam : (below more : List Said) (s : Said) → slice_get (below ++ (s ∷ more)) (length below) ≡ Some s
at_seam [] more s = refl
at_seam (b ∷ bs) more s = at_seam bs more s

longer : (below : List Said) (s : Said) → length (below ++ s ∷ []) ≡ suc (length below)
longer [] s = refl
longer (b ∷ bs) s = ap suc (longer bs s)

-- what number k says is what the rule makes of a list that says the same of the smaller numbers
pub record SpeaksAt (rule : Rule) (all : List Said) (k : ℕ) (q : Equation) : Type 0 where
  pub below : List Said
  pub long : length below ≡ k
  pub alike_below : AlikeBelow k below all
  pub says : slice_get all k ≡ Some (rule below k q)

speaks_here : (rule : Rule) (q : Equation) (qs : List Equation) (below : List Said) (k : ℕ) → length below ≡ k → SpeaksAt rule (speak rule (q ∷ qs) below) k q
speaks_here rule q qs below k e =
    let x = rule below (length below) q in
    let rest = said_behind rule qs (below ++ x ∷ []) in
    let whole : speak rule (q ∷ qs) below ≡ below ++ (x ∷ rest) = speak-front rule (q ∷ qs) below in
    record {
      below = below;
      long = e;
      alike_below = λ i h. front_alike below (x ∷ rest) i (subst (λ n. i < n) (sym e) h) ∙ ap (λ ss. slice_get ss i) (sym whole);
      says = ap (λ n. slice_get (speak rule (q ∷ qs) below) n) (sym e) ∙ ap (λ ss. slice_get ss (length below)) whole ∙ at_seam below rest x ∙ ap (λ n. Some (rule below n q)) e;
    }

speaks_from : (rule : Rule) (qs : List Equation) (below : List Said) (i k : ℕ) (q : Equation) → slice_get qs i ≡ Some q → length below + i ≡ k → SpeaksAt rule (speak rule qs below) k q
speaks_from rule [] below i k q h e = absurd (none_some h) where
  none_some : None ≡ Some q → ⊥
  none_some = λ p. cc
speaks_from rule (r ∷ qs) below zero k q h e =
    subst (λ p. SpeaksAt rule (speak rule (r ∷ qs) below) k p) (some_same r q h) (speaks_here rule r qs below k (omega arith)) where
      some_same : (a b : Equation) → Some a ≡ Some b → a ≡ b
      some_same a b p = cc
speaks_from rule (r ∷ qs) below (suc i) k q h e =
    let one = longer below (rule below (length below) r) in
    speaks_from rule qs (below ++ rule below (length below) r ∷ []) i k q h (omega arith)

pub speaks_at : (rule : Rule) (qs : List Equation) (k : ℕ) (q : Equation) → slice_get qs k ≡ Some q → SpeaksAt rule (all_say rule qs) k q
speaks_at rule qs k q h = speaks_from rule qs [] k k q h (omega arith)

-- values after what is said

after_nothing : (v : Value) → value_after v Same ≡ v
after_nothing v = refl

pub read_after : (vs : List Value) (ss : List Said) (k : ℕ) → k < length vs → slice_index_or (values_after vs ss) k no_value ≡ value_after (slice_index_or vs k no_value) (say_at ss k)
read_after [] ss k h = absurd (omega arith)
read_after (v ∷ vs) [] k h = refl
read_after (v ∷ vs) (s ∷ ss) zero h = refl
read_after (v ∷ vs) (s ∷ ss) (suc k) h = read_after vs ss k (omega arith)

length_after : (vs : List Value) (ss : List Said) → length (values_after vs ss) ≡ length vs
length_after [] ss = refl
length_after (v ∷ vs) [] = refl
length_after (v ∷ vs) (s ∷ ss) = ap suc (length_after vs ss)

length_none : (n : ℕ) → length (replicate n no_value) ≡ n
length_none zero = refl
length_none (suc n) = ap suc (length_none n)

pub length_values : (net : Network) (past : List Event) → length (moment net past).values ≡ length net.equations
length_values net [] = length_after (no_values net) (all_say (first_rule net) net.equations) ∙ length_none (length net.equations)
length_values net (e ∷ es) = length_after (moment net es).values (all_say (later_rule net e (moment net es)) net.equations) ∙ length_values net es

pub value_later : (net : Network) (e : Event) (es : List Event) (k : ℕ) → k < length net.equations → value net (e ∷ es) k ≡ value_after (value net es k) (say net (e ∷ es) k)
value_later net e es k h =
    read_after (moment net es).values (all_say (later_rule net e (moment net es)) net.equations) k (subst (λ n. k < n) (sym (length_values net es)) h)

none_at : (n k : ℕ) → slice_index_or (replicate n no_value) k no_value ≡ no_value
none_at zero k = refl
none_at (suc n) zero = refl
none_at (suc n) (suc k) = none_at n k

pub value_first : (net : Network) (k : ℕ) → k < length net.equations → value net [] k ≡ value_after no_value (say net [] k)
value_first net k h =
    read_after (no_values net) (all_say (first_rule net) net.equations) k (subst (λ n. k < n) (sym (length_none (length net.equations))) h)
    ∙ ap (λ v. value_after v (say net [] k)) (none_at (length net.equations) k)

-- a node sees no more than its inputs

abbrev SameValues : (ℕ → Value) → (ℕ → Value) → List ℕ → Type 0
SameValues value value' [] = Unit {0}
SameValues value value' (i ∷ is) = (value i ≡ value' i) × SameValues value value' is

abbrev SameChanges : (ℕ → Bool) → (ℕ → Bool) → List ℕ → Type 0
SameChanges changed changed' [] = Unit {0}
SameChanges changed changed' (i ∷ is) = (changed i ≡ changed' i) × SameChanges changed changed' is

map_same : (value value' : ℕ → Value) (is : List ℕ) → SameValues value value' is → map value is ≡ map value' is
map_same value value' [] h = refl
map_same value value' (i ∷ is) h = ap₂ (λ v vs. v ∷ vs) h.0 (map_same value value' is h.1)

any_same : (changed changed' : ℕ → Bool) (is : List ℕ) → SameChanges changed changed' is → list_any changed is ≡ list_any changed' is
any_same changed changed' [] h = refl
any_same changed changed' (i ∷ is) h = ap₂ (λ a b. a || b) h.0 (any_same changed changed' is h.1)

begins_same : (net : Network) (value value' : ℕ → Value) (q : Equation) → SameValues value value' (inputs_of q) → begins net value q ≡ begins net value' q
begins_same net value value' (Equation.Input place) h = refl
begins_same net value value' (Equation.Constant v) h = refl
begins_same net value value' (Equation.Map f inputs) h = ap (λ vs. calls net f vs Change) (map_same value value' inputs h)
begins_same net value value' (Equation.Foldp f start input) h = refl
begins_same net value value' (Equation.Merge left right) h = ap (λ v. silent (Change v)) h.0
begins_same net value value' (Equation.Filter test first input) h = ap (λ v. calls net test (v ∷ []) (if_held v (Change first))) h.0
begins_same net value value' (Equation.FilterMap f first input) h = ap (λ v. calls net f (v ∷ []) (if_just (Change first))) h.0
begins_same net value value' (Equation.DropRepeats input) h = ap (λ v. silent (Change v)) h.0
begins_same net value value' (Equation.SampleOn ticks input) h = ap (λ v. silent (Change v)) h.1.0
begins_same net value value' (Equation.Async input) h = ap (λ v. silent (Change v)) h.0

merged_same : (a a' b b' : Bool) (v v' w w' : Value) → a ≡ a' → b ≡ b' → v ≡ v' → w ≡ w'
    → silent (if a then Change v else (if b then Change w else Same)) ≡ silent (if a' then Change v' else (if b' then Change w' else Same))
merged_same a a' b b' v v' w w' p q r s =
    ap₂ (λ x y. silent (if x then Change v else (if y then Change w else Same))) p q
    ∙ ap₂ (λ x y. silent (if a' then Change x else (if b' then Change y else Same))) r s

answers_same : (net : Network) (e : Event) (value value' : ℕ → Value) (changed changed' : ℕ → Bool) (old : Value) (waits : Option Value) (q : Equation)
    → SameValues value value' (inputs_of q) → SameChanges changed changed' (inputs_of q) → answers net e value changed old waits q ≡ answers net e value' changed' old waits q
answers_same net e value value' changed changed' old waits (Equation.Input place) h c = refl
answers_same net e value value' changed changed' old waits (Equation.Constant v) h c = refl
answers_same net e value value' changed changed' old waits (Equation.Map f inputs) h c =
    ap₂ (λ b vs. where_changed b (calls net f vs Change)) (any_same changed changed' inputs c) (map_same value value' inputs h)
answers_same net e value value' changed changed' old waits (Equation.Foldp f start input) h c =
    ap₂ (λ b v. where_changed b (calls net f (v ∷ old ∷ []) Change)) c.0 h.0
answers_same net e value value' changed changed' old waits (Equation.Merge left right) h c =
    merged_same _ _ _ _ _ _ _ _ c.0 c.1.0 h.0 h.1.0
answers_same net e value value' changed changed' old waits (Equation.Filter test first input) h c =
    ap₂ (λ b v. where_changed b (calls net test (v ∷ []) (if_held v Same))) c.0 h.0
answers_same net e value value' changed changed' old waits (Equation.FilterMap f first input) h c =
    ap₂ (λ b v. where_changed b (calls net f (v ∷ []) (if_just Same))) c.0 h.0
answers_same net e value value' changed changed' old waits (Equation.DropRepeats input) h c =
    ap₂ (λ b v. where_changed b (silent (unless_equal v (compared Equality v old net.fuel).outcome))) c.0 h.0
answers_same net e value value' changed changed' old waits (Equation.SampleOn ticks input) h c =
    ap₂ (λ b v. where_changed b (silent (Change v))) c.0 h.1.0
answers_same net e value value' changed changed' old waits (Equation.Async input) h c = refl

-- what a list that says the same of the smaller numbers tells of inputs

say_alike : (k i : ℕ) (ss ts : List Said) → AlikeBelow k ss ts → i < k → say_at ss i ≡ say_at ts i
say_alike k i ss ts a h = ap say_of (a i h)

values_alike : (vs : List Value) (k : ℕ) (ss ts : List Said) (is : List ℕ) → AlikeBelow k ss ts → k < suc (length vs) → AllBelow k is
    → SameValues (value_of vs ss) (λ i. slice_index_or (values_after vs ts) i no_value) is
values_alike vs k ss ts [] a l b = tt
values_alike vs k ss ts (i ∷ is) a l b =
    let small : i < k = b.0 in
    (ap (value_after (slice_index_or vs i no_value)) (say_alike k i ss ts a small) ∙ sym (read_after vs ts i (omega arith)), values_alike vs k ss ts is a l b.1)

changes_alike : (k : ℕ) (ss ts : List Said) (is : List ℕ) → AlikeBelow k ss ts → AllBelow k is → SameChanges (changes ss) (λ i. is_change (say_at ts i)) is
changes_alike k ss ts [] a b = tt
changes_alike k ss ts (i ∷ is) a b = (ap is_change (say_alike k i ss ts a b.0), changes_alike k ss ts is a b.1)

some_below : (qs : List Equation) (k : ℕ) (q : Equation) → slice_get qs k ≡ Some q → k < suc (length qs)
some_below [] k q h = absurd (none_some h) where
  none_some : None ≡ Some q → ⊥
  none_some = λ p. cc
some_below (r ∷ qs) zero q h = omega arith
some_below (r ∷ qs) (suc k) q h = let l = some_below qs k q h in omega arith

pub first_answer : (net : Network) (k : ℕ) (q : Equation) → IsOrdered net → slice_get net.equations k ≡ Some q → say net [] k ≡ (begins net (value net []) q).say
first_answer net k q o h =
    let s = speaks_at (first_rule net) net.equations k q h in
    let all = all_say (first_rule net) net.equations in
    ap say_of s.says
    ∙ ap (λ said. said.say) (begins_same net (value_of (no_values net) s.below) (value net []) q
    (values_alike (no_values net) k s.below all (inputs_of q) s.alike_below (subst (λ n. k < suc n) (sym (length_none (length net.equations))) (some_below net.equations k q h)) (o k q h)))

pub later_answer : (net : Network) (e : Event) (es : List Event) (k : ℕ) (q : Equation) → IsOrdered net → slice_get net.equations k ≡ Some q
    → say net (e ∷ es) k ≡ (answers net e (value net (e ∷ es)) (changed net (e ∷ es)) (value net es k) (delivered e (moment net es) (asyncs_before k net.equations)) q).say
later_answer net e es k q o h =
    let m = moment net es in
    let rule = later_rule net e m in
    let s = speaks_at rule net.equations k q h in
    let all = all_say rule net.equations in
    ap say_of s.says
    ∙ ap (λ said. said.say) (answers_same net e (value_of m.values s.below) (value net (e ∷ es)) (changes s.below) (changed net (e ∷ es)) (value net es k) (delivered e m (asyncs_before k net.equations)) q
    (values_alike m.values k s.below all (inputs_of q) s.alike_below (subst (λ n. k < suc n) (sym (length_values net es)) (some_below net.equations k q h)) (o k q h))
    (changes_alike k s.below all (inputs_of q) s.alike_below (o k q h)))
