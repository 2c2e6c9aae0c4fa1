-- Whether a written type makes sense is found by trying each choice of its variables.
use Rattle.std.proofs.Common.{◌≡◌, ℕ, Bool, true, false, not, ◌&&◌, ◌||◌, ◌↔◌, Option, Some, None, Result, Ok, Err, IfOk, List, [], ◌∷◌, ◌++◌, map, refl, sym, ◌∙◌, ap, ap₂, subst, ⊎_elim}
use Rattle.std.specs.Prelude.{if◌then◌else◌}
use Rattle.std.specs.Str.{bytes_eq}
use Rattle.std.specs.List.{Contains, list_any}
use Rattle.std.proofs.lemmas.Bool.{cases_Bool, cond-true, cond-false, and_parts, and_from, or_left, or_right, false≢true}
use Rattle.std.proofs.lemmas.List.Folds.{list_any-append}
use Rattle.std.proofs.lemmas.Slice.Eq.{bytes_eq-Decides}
use Rattle.module_groups.proofs.Members.{contains_here, contains_more, contains_cases, contains_none}
use Rattle.elm_base.specs.declared.tree.TypeTree.{TypeTree}
use Rattle.typing_rules.specs.WrittenTypes.{Written, Writtens, WrittenFields, Variable, Named, Arrow, Tuple, Fields, NoWrittens, AndWritten, NoWrittenFields, AndWrittenField}
use Rattle.written_sorts.specs.Sorting.{is_free, bars_hold, MakesSense}
use Rattle.written_sorts.specs.Marks.{Marks, is_signal, at_most, simple_before, holds, all_simple, fields_simple}
use Rattle.written_sorts.specs.Forced.{marks_of}
use Rattle.written_sorts.proofs.FromMarks.{well_sorted}
use Rattle.written_sorts.proofs.ToMarks.{can_be_sorted as some_marks}
use Rattle.type_sense.specs.WrittenOf.{written_of}
use Rattle.type_faults.proofs.Determined.{same_tests}
use Rattle.decl_faults.specs.Deciding.{of_before, variables, variables_of, variables_in, choices, can_be_sorted, makes_sense, sensible}

-- ---- only what the marks say of the type's variables counts

module _ (one two : Marks) where
  abbrev pub Same : List (List ℕ) → Type 0
  Same [] = Unit {0}
  Same (name ∷ names) = (one name ≡ two name) × Same names

  same_left : (xs ys : List (List ℕ)) → Same (xs ++ ys) → Same xs
  same_left [] ys h = tt
  same_left (x ∷ xs) ys h = (h.0, same_left xs ys h.1)

  same_right : (xs ys : List (List ℕ)) → Same (xs ++ ys) → Same ys
  same_right [] ys h = h
  same_right (x ∷ xs) ys h = same_right xs ys h.1

  pub same_signal : (w : Written) → Same (variables w) → is_signal one w ≡ is_signal two w
  same_signal (Variable name) h = h.0
  same_signal (Named name arguments) h = refl
  same_signal (Arrow a r) h = same_signal r (same_right (variables a) (variables r) h)
  same_signal (Tuple parts) h = refl
  same_signal (Fields before fields) h = refl

  same_before : (before : Option (List ℕ)) → Same (of_before before) → simple_before one before ≡ simple_before two before
  same_before None h = refl
  same_before (Some name) h = ap not h.0

  mutual
    pub same_holds : (w : Written) → Same (variables w) → holds one w ≡ holds two w
    same_holds (Variable name) h = ap (λ (b : Bool). at_most b (is_free name)) h.0
    same_holds (Named name arguments) h = same_all arguments h
    same_holds (Arrow a r) h =
        let left = same_left (variables a) (variables r) h in
        let right = same_right (variables a) (variables r) h in
        ap₂ (λ (b c : Bool). b && c) (same_holds a left)
        (ap₂ (λ (b c : Bool). b && c) (same_holds r right) (ap₂ at_most (same_signal a left) (same_signal r right)))
    same_holds (Tuple parts) h = same_all parts h
    same_holds (Fields before fields) h =
        ap₂ (λ (b c : Bool). b && c) (same_before before (same_left (of_before before) (variables_in fields) h))
        (same_fields fields (same_right (of_before before) (variables_in fields) h))

    same_all : (ws : Writtens) → Same (variables_of ws) → all_simple one ws ≡ all_simple two ws
    same_all NoWrittens h = refl
    same_all (AndWritten w ws) h =
        let left = same_left (variables w) (variables_of ws) h in
        ap₂ (λ (b c : Bool). b && c) (same_holds w left)
        (ap₂ (λ (b c : Bool). not b && c) (same_signal w left) (same_all ws (same_right (variables w) (variables_of ws) h)))

    same_fields : (fs : WrittenFields) → Same (variables_in fs) → fields_simple one fs ≡ fields_simple two fs
    same_fields NoWrittenFields h = refl
    same_fields (AndWrittenField label w fs) h =
        let left = same_left (variables w) (variables_in fs) h in
        ap₂ (λ (b c : Bool). b && c) (same_holds w left)
        (ap₂ (λ (b c : Bool). not b && c) (same_signal w left) (same_fields fs (same_right (variables w) (variables_in fs) h)))

-- ---- the choice of those that are marked

module _ (marks : Marks) where
  abbrev pub chosen : List (List ℕ) → List (List ℕ)
  chosen [] = []
  chosen (name ∷ names) = if marks name then name ∷ chosen names else chosen names

  was_marked : (names : List (List ℕ)) (name : List ℕ) → marks_of (chosen names) name ≡ true → marks name ≡ true
  was_marked [] name h = absurd (false≢true h)
  was_marked (x ∷ xs) name h =
      ⊎_elim (λ (on : marks x ≡ true).
      let e : (bytes_eq x name || marks_of (chosen xs) name) ≡ true =
      ap (λ (ns : List (List ℕ)). marks_of ns name) (sym (cond-true (marks x) (x ∷ chosen xs) (chosen xs) on)) ∙ h in
      ⊎_elim (λ (same : bytes_eq x name ≡ true). subst (λ (n : List ℕ). marks n ≡ true) ((bytes_eq-Decides x name).0 same) on)
      (λ (other : bytes_eq x name ≡ false).
      was_marked xs name (ap (λ (b : Bool). b || marks_of (chosen xs) name) (sym other) ∙ e)) (cases_Bool (bytes_eq x name)))
      (λ (off : marks x ≡ false).
      was_marked xs name (ap (λ (ns : List (List ℕ)). marks_of ns name) (sym (cond-false (marks x) (x ∷ chosen xs) (chosen xs) off)) ∙ h))
      (cases_Bool (marks x))

  stays_marked : (names : List (List ℕ)) (name : List ℕ) → Contains names name → marks name ≡ true → marks_of (chosen names) name ≡ true
  stays_marked [] name in' h = absurd (contains_none name in')
  stays_marked (x ∷ xs) name in' h =
      ⊎_elim (λ (on : marks x ≡ true).
      ap (λ (ns : List (List ℕ)). marks_of ns name) (cond-true (marks x) (x ∷ chosen xs) (chosen xs) on)
      ∙ ⊎_elim (λ (e : x ≡ name). or_left (bytes_eq x name) (marks_of (chosen xs) name) ((bytes_eq-Decides x name).1 e))
      (λ (later : Contains xs name). or_right (bytes_eq x name) (marks_of (chosen xs) name) (stays_marked xs name later h))
      (contains_cases x name xs in'))
      (λ (off : marks x ≡ false).
      ap (λ (ns : List (List ℕ)). marks_of ns name) (cond-false (marks x) (x ∷ chosen xs) (chosen xs) off)
      ∙ ⊎_elim (λ (e : x ≡ name). absurd (false≢true (sym off ∙ ap marks e ∙ h)))
      (λ (later : Contains xs name). stays_marked xs name later h) (contains_cases x name xs in'))
      (cases_Bool (marks x))

  same_mark : (names : List (List ℕ)) (name : List ℕ) → Contains names name → marks name ≡ marks_of (chosen names) name
  same_mark names name in' =
      same_tests (marks name) (marks_of (chosen names) name) (marks name ≡ true) (λ h. h, λ h. h)
      (was_marked names name, stays_marked names name in')

  all_same : (names part : List (List ℕ)) → ((name : List ℕ) → Contains part name → Contains names name) → Same marks (marks_of (chosen names)) part
  all_same names [] within = tt
  all_same names (x ∷ xs) within =
      (same_mark names x (within x (contains_here x xs)), all_same names xs (λ name in'. within name (contains_more x name xs in')))

  any_map : (test : List (List ℕ) → Bool) (name : List ℕ) (lists : List (List (List ℕ))) →
      list_any test (map (λ (c : List (List ℕ)). name ∷ c) lists) ≡ list_any (λ (c : List (List ℕ)). test (name ∷ c)) lists
  any_map test name [] = refl
  any_map test name (c ∷ cs) = ap (λ (b : Bool). test (name ∷ c) || b) (any_map test name cs)

  any_choice : (names : List (List ℕ)) (test : List (List ℕ) → Bool) → test (chosen names) ≡ true → list_any test (choices names) ≡ true
  any_choice [] test h = or_left (test []) false h
  any_choice (x ∷ xs) test h =
      let front = map (λ (c : List (List ℕ)). x ∷ c) (choices xs) in
      list_any-append test front (choices xs)
      ∙ ⊎_elim (λ (on : marks x ≡ true).
      or_left (list_any test front) (list_any test (choices xs))
      (any_map test x (choices xs)
      ∙ any_choice xs (λ (c : List (List ℕ)). test (x ∷ c)) (ap test (sym (cond-true (marks x) (x ∷ chosen xs) (chosen xs) on)) ∙ h)))
      (λ (off : marks x ≡ false).
      or_right (list_any test front) (list_any test (choices xs))
      (any_choice xs test (ap test (sym (cond-false (marks x) (x ∷ chosen xs) (chosen xs) off)) ∙ h)))
      (cases_Bool (marks x))

-- ---- the decision

some_choice : (test : List (List ℕ) → Bool) (lists : List (List (List ℕ))) → list_any test lists ≡ true → (choice : List (List ℕ)) × (test choice ≡ true)
some_choice test [] h = absurd (false≢true h)
some_choice test (c ∷ cs) h =
    ⊎_elim (λ (on : test c ≡ true). (c, on))
    (λ (off : test c ≡ false). some_choice test cs (ap (λ (b : Bool). b || list_any test cs) (sym off) ∙ h)) (cases_Bool (test c))

abbrev test_of : Written → List (List ℕ) → Bool
test_of written choice = holds (marks_of choice) written

marks_serve : (written : Written) (marks : Marks) → holds marks written ≡ true → can_be_sorted written ≡ true
marks_serve written marks h =
    any_choice marks (variables written) (test_of written)
    (sym (same_holds marks (marks_of (chosen marks (variables written))) written
    (all_same marks (variables written) (variables written) (λ name in'. in'))) ∙ h)

pub decides : (written : Written) → (makes_sense written ≡ true) ↔ MakesSense written
decides written = (
  λ h.
      let both = and_parts (bars_hold written) (can_be_sorted written) h in
      let some = some_choice (test_of written) (choices (variables written)) both.1 in
      record {
        bars = both.0;
        sorted = well_sorted (marks_of some.0) written both.0 some.1;
      },
  λ it. let marks = some_marks written it.sorted in and_from (bars_hold written) (can_be_sorted written) it.bars (marks_serve written marks.0 marks.1),
)

-- an answer that says whether a type makes sense is the function's
pub is_decided : (type : TypeTree) (sense : Bool) → (sense ≡ true) ↔ MakesSense (written_of type) → sense ≡ sensible type
is_decided type sense says = same_tests sense (sensible type) (MakesSense (written_of type)) says (decides (written_of type))

pub decided : {E : Type 0} (type : TypeTree) (answer : Result Bool E) → IfOk answer (λ sense. (sense ≡ true) ↔ MakesSense (written_of type)) →
    IfOk answer (λ sense. sense ≡ sensible type)
decided type (Ok sense) says = is_decided type sense says
decided type (Err e) says = tt
