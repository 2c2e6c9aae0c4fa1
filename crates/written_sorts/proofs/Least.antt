-- The variables that have to be of sort signal decide whether any sorts make a type well sorted.
use Rattle.std.proofs.Common.{◌≡◌, ℕ, Bool, true, false, not, ◌&&◌, ◌||◌, ◌↔◌, Option, Some, None, List, [], ◌∷◌, ◌++◌, refl, sym, ◌∙◌, ap, subst, ⊎_elim, inl, inr}
use Rattle.std.specs.Str.{bytes_eq}
use Rattle.std.specs.List.{list_any}
use Rattle.std.proofs.lemmas.Bool.{cases_Bool, false≢true}
use Rattle.std.specs.Cmp.Lexicographic.{bytes_decides}
use Rattle.typing_rules.specs.WrittenTypes.{Written, Writtens, WrittenFields, Variable, Named, Arrow, Tuple, Fields, NoWrittens, AndWritten, NoWrittenFields, AndWrittenField}
use Rattle.written_sorts.specs.Sorting.{is_free}
use Rattle.written_sorts.specs.Marks.{Marks, is_signal, at_most, simple_before, holds, all_simple, fields_simple, CanBeSorted}
use Rattle.written_sorts.specs.Forced.{is_called, marks_of, end_of, where_signal, forced, forced_all, forced_fields, AllMarked, AreForced}
use Rattle.written_sorts.proofs.FromMarks.{left_of, right_of, no_mark}
use Rattle.written_sorts.proofs.ToMarks.{both_of}

pub all_append : (marks : Marks) (xs ys : List (List ℕ)) → AllMarked marks xs → AllMarked marks ys → AllMarked marks (xs ++ ys)
all_append marks [] ys one two = two
all_append marks (x ∷ xs) ys one two = (one.0, all_append marks xs ys one.1 two)

all_left : (marks : Marks) (xs ys : List (List ℕ)) → AllMarked marks (xs ++ ys) → AllMarked marks xs
all_left marks [] ys all = tt
all_left marks (x ∷ xs) ys all = (all.0, all_left marks xs ys all.1)

all_right : (marks : Marks) (xs ys : List (List ℕ)) → AllMarked marks (xs ++ ys) → AllMarked marks ys
all_right marks [] ys all = all
all_right marks (x ∷ xs) ys all = all_right marks xs ys all.1

less_at_most : (l s free : Bool) → (l ≡ true → s ≡ true) → at_most s free ≡ true → at_most l free ≡ true
less_at_most false s free below h = refl
less_at_most true true free below h = h
less_at_most true false free below h = absurd (false≢true (below refl))

less_not : (l s : Bool) → (l ≡ true → s ≡ true) → not s ≡ true → not l ≡ true
less_not false s below h = refl
less_not true true below h = h
less_not true false below h = absurd (false≢true (below refl))

implied : (b x : Bool) → (b ≡ true → x ≡ true) → at_most b x ≡ true
implied true x h = h refl
implied false x h = refl

at_most_true : (s x : Bool) → at_most s x ≡ true → s ≡ true → x ≡ true
at_most_true true x h e = h
at_most_true false x h e = absurd (false≢true e)

where_all : (marks : Marks) (b : Bool) (names : List (List ℕ)) → (b ≡ true → AllMarked marks names) → AllMarked marks (where_signal b names)
where_all marks true names h = h refl
where_all marks false names h = tt

all_where : (marks : Marks) (b : Bool) (names : List (List ℕ)) → b ≡ true → AllMarked marks (where_signal b names) → AllMarked marks names
all_where marks true names e h = h
all_where marks false names e h = absurd (false≢true e)

-- ---- marks below others

abbrev Below : Marks → Marks → Type 0
Below l s = (name : List ℕ) → l name ≡ true → s name ≡ true

ends : (s : Marks) (w : Written) → is_signal s w ≡ true → AllMarked s (end_of w)
ends s (Variable name) h = (h, tt)
ends s (Named name arguments) h = tt
ends s (Arrow a r) h = ends s r h
ends s (Tuple parts) h = tt
ends s (Fields before fields) h = tt

from_ends : (l s : Marks) (w : Written) → is_signal s w ≡ true → AllMarked l (end_of w) → is_signal l w ≡ true
from_ends l s (Variable name) h all = all.0
from_ends l s (Named name arguments) h all = h
from_ends l s (Arrow a r) h all = from_ends l s r h all
from_ends l s (Tuple parts) h all = absurd (false≢true h)
from_ends l s (Fields before fields) h all = absurd (false≢true h)

module _ (l s : Marks) (below : Below l s) where
  rises : (w : Written) → is_signal l w ≡ true → is_signal s w ≡ true
  rises (Variable name) h = below name h
  rises (Named name arguments) h = h
  rises (Arrow a r) h = rises r h
  rises (Tuple parts) h = h
  rises (Fields before fields) h = h

  result_ends : (a r : Written) → at_most (is_signal s a) (is_signal s r) ≡ true → is_signal l a ≡ true → is_signal s r ≡ true
  result_ends a r h e = at_most_true (is_signal s a) (is_signal s r) h (rises a e)

  mutual
    forced_in : (w : Written) → holds s w ≡ true → AllMarked s (forced l w)
    forced_in (Variable name) h = tt
    forced_in (Named name arguments) h = forced_in_all arguments h
    forced_in (Arrow a r) h =
        let rest = right_of (holds s a) _ h in
        all_append s (forced l a) _ (forced_in a (left_of (holds s a) _ h))
        (all_append s (forced l r) _ (forced_in r (left_of (holds s r) _ rest))
        (where_all s (is_signal l a) (end_of r) (λ e. ends s r (result_ends a r (right_of (holds s r) _ rest) e))))
    forced_in (Tuple parts) h = forced_in_all parts h
    forced_in (Fields before fields) h = forced_in_fields fields (right_of (simple_before s before) _ h)

    forced_in_all : (ws : Writtens) → all_simple s ws ≡ true → AllMarked s (forced_all l ws)
    forced_in_all NoWrittens h = tt
    forced_in_all (AndWritten w ws) h =
        all_append s (forced l w) _ (forced_in w (left_of (holds s w) _ h))
        (forced_in_all ws (right_of (not (is_signal s w)) _ (right_of (holds s w) _ h)))

    forced_in_fields : (fields : WrittenFields) → fields_simple s fields ≡ true → AllMarked s (forced_fields l fields)
    forced_in_fields NoWrittenFields h = tt
    forced_in_fields (AndWrittenField label w fields) h =
        all_append s (forced l w) _ (forced_in w (left_of (holds s w) _ h))
        (forced_in_fields fields (right_of (not (is_signal s w)) _ (right_of (holds s w) _ h)))

  before_below : (before : Option (List ℕ)) → simple_before s before ≡ true → simple_before l before ≡ true
  before_below None h = refl
  before_below (Some name) h = less_not (l name) (s name) (below name) h

  mutual
    settled : (w : Written) → holds s w ≡ true → AllMarked l (forced l w) → holds l w ≡ true
    settled (Variable name) h all = less_at_most (l name) (s name) (is_free name) (below name) h
    settled (Named name arguments) h all = all_settled arguments h all
    settled (Arrow a r) h all =
        let rest = right_of (holds s a) _ h in
        let behind = all_right l (forced l a) _ all in
        both_of (holds l a) _ (settled a (left_of (holds s a) _ h) (all_left l (forced l a) _ all))
        (both_of (holds l r) _ (settled r (left_of (holds s r) _ rest) (all_left l (forced l r) _ behind))
        (implied (is_signal l a) (is_signal l r) (λ e.
        from_ends l s r (result_ends a r (right_of (holds s r) _ rest) e)
        (all_where l (is_signal l a) (end_of r) e (all_right l (forced l r) _ behind)))))
    settled (Tuple parts) h all = all_settled parts h all
    settled (Fields before fields) h all =
        both_of (simple_before l before) _ (before_below before (left_of (simple_before s before) _ h))
        (fields_settled fields (right_of (simple_before s before) _ h) all)

    all_settled : (ws : Writtens) → all_simple s ws ≡ true → AllMarked l (forced_all l ws) → all_simple l ws ≡ true
    all_settled NoWrittens h all = refl
    all_settled (AndWritten w ws) h all =
        let rest = right_of (holds s w) _ h in
        both_of (holds l w) _ (settled w (left_of (holds s w) _ h) (all_left l (forced l w) _ all))
        (both_of (not (is_signal l w)) _ (less_not (is_signal l w) (is_signal s w) (rises w) (left_of (not (is_signal s w)) _ rest))
        (all_settled ws (right_of (not (is_signal s w)) _ rest) (all_right l (forced l w) _ all)))

    fields_settled : (fields : WrittenFields) → fields_simple s fields ≡ true → AllMarked l (forced_fields l fields) → fields_simple l fields ≡ true
    fields_settled NoWrittenFields h all = refl
    fields_settled (AndWrittenField label w fields) h all =
        let rest = right_of (holds s w) _ h in
        both_of (holds l w) _ (settled w (left_of (holds s w) _ h) (all_left l (forced l w) _ all))
        (both_of (not (is_signal l w)) _ (less_not (is_signal l w) (is_signal s w) (rises w) (left_of (not (is_signal s w)) _ rest))
        (fields_settled fields (right_of (not (is_signal s w)) _ rest) (all_right l (forced l w) _ all)))

-- ---- lists of variables

first_or : (x y : Bool) (A : Type 0) → (x || y) ≡ true → (x ≡ true → A) → (y ≡ true → A) → A
first_or true y A h one two = one refl
first_or false y A h one two = two h

names_below : (s : Marks) (names : List (List ℕ)) → AllMarked s names → Below (marks_of names) s
names_below s [] all name h = absurd (false≢true h)
names_below s (n ∷ ns) all name h =
    first_or (bytes_eq n name) (marks_of ns name) (s name ≡ true) h
    (λ e. subst (λ (x : List ℕ). s x ≡ true) ((bytes_decides n name).0 e) all.0) (names_below s ns all.1 name)

pub further_forced : (w : Written) (names : List (List ℕ)) → AreForced w names → AreForced w (forced (marks_of names) w)
further_forced w names are s h = forced_in (marks_of names) s (names_below s names (are s h)) w h

pub forced_decide : (w : Written) (names : List (List ℕ)) → AreForced w names → AllMarked (marks_of names) (forced (marks_of names) w) →
    CanBeSorted w ↔ (holds (marks_of names) w ≡ true)
forced_decide w names are all =
    (λ it. settled (marks_of names) it.0 (names_below it.0 names (are it.0 it.1)) w it.1 all, λ h. (marks_of names, h))
