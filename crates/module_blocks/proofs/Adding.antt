-- What is set besides in a table, step by step.
use Rattle.std.proofs.Common.{◌≡◌, ℕ, suc, ◌+◌, ◌<◌, ◌≤◌, Bool, true, false, not, ◌&&◌, ◌||◌, IsTrue, ◌↔◌, List, [], ◌∷◌, ◌++◌, length, get_or, set, take, replicate, slice_get, None, Some, Option, refl, sym, ◌∙◌, ap, subst, arith, ◌⊎◌, inl, inr, ⊎_elim}
use Rattle.std.specs.List.{list_any}
use Rattle.std.proofs.lemmas.Bool.{cases_eq, cases_lt, cases_Bool, false≢true, and_parts, and_from, or_cases, or_left, or_right}
use Rattle.std.proofs.lemmas.List.{get_or-set_same, get_or-set_other, get_or-replicate, get_or_past, length-replicate}
use Rattle.std.proofs.lemmas.List.Folds.{list_any_more}
use Rattle.std.proofs.lemmas.Option.{slice_get_past}
use mathlib.Core.Path.{fun_ext}
use Rattle.elm_base.specs.declared.token.At.{At}
use Rattle.bit_rows.specs.Bits.{bit_in}
use Rattle.bit_rows.specs.Table.{Table, row_of, bit_of, IsRectangular}
use Rattle.name_steps.specs.declared.step.Defined.{Defined}
use Rattle.module_names.specs.declared.walk.Use.{Use}
use Rattle.module_blocks.specs.Marks.{Adds}
use Rattle.module_blocks.specs.Refers.{names_one, stands_in, refers_by, refers_in, is_within, comes_before, place_or}

-- one bit that is set
pub Adds-set : (old new : Table) (a b : ℕ) → a < length old.rows → b < old.bits → IsRectangular old →
    new.rows ≡ set old.rows a (set (row_of old a) b true) → Adds (λ x y. (x ≡ a) × (y ≡ b)) old new
Adds-set old new a b in_rows in_bits whole e = λ x y.
    let row = set (row_of old a) b true in
    let long : b < length (row_of old a) = omega (arith, in_bits, whole a [] in_rows) in
    let here : row_of new a ≡ row = ap (λ (rows : List (List Bool)). get_or rows a []) e ∙ get_or-set_same old.rows a row [] in_rows in
    let there : (z : ℕ) → (z ≡ a → ⊥) → row_of new z ≡ row_of old z = λ z ne.
    ap (λ (rows : List (List Bool)). get_or rows z []) e ∙ get_or-set_other old.rows a z row [] ne in (
      λ h.
          ⊎_elim (λ (at : x ≡ a).
          ⊎_elim (λ (on : y ≡ b). inl (at, on))
          (λ (off : y ≡ b → ⊥).
          inr (sym (ap (λ (r : List Bool). bit_in r y) (ap (row_of new) at ∙ here) ∙ get_or-set_other (row_of old a) b y true false off
          ∙ ap (λ (z : ℕ). bit_of old z y) (sym at)) ∙ h)) (cases_eq y b))
          (λ (ne : x ≡ a → ⊥). inr (sym (ap (λ (r : List Bool). bit_in r y) (there x ne)) ∙ h)) (cases_eq x a),
      λ h.
          ⊎_elim (λ (both : (x ≡ a) × (y ≡ b)).
          ap (λ (z : ℕ). bit_of new z y) both.0 ∙ ap (bit_of new a) both.1 ∙ ap (λ (r : List Bool). bit_in r b) here
          ∙ get_or-set_same (row_of old a) b true false long)
          (λ (was : IsTrue (bit_of old x y)).
          ⊎_elim (λ (at : x ≡ a).
          ⊎_elim (λ (on : y ≡ b).
          ap (λ (z : ℕ). bit_of new z y) at ∙ ap (bit_of new a) on ∙ ap (λ (r : List Bool). bit_in r b) here
          ∙ get_or-set_same (row_of old a) b true false long)
          (λ (off : y ≡ b → ⊥).
          ap (λ (r : List Bool). bit_in r y) (ap (row_of new) at ∙ here) ∙ get_or-set_other (row_of old a) b y true false off
          ∙ ap (λ (z : ℕ). bit_of old z y) (sym at) ∙ was) (cases_eq y b))
          (λ (ne : x ≡ a → ⊥). ap (λ (r : List Bool). bit_in r y) (there x ne) ∙ was) (cases_eq x a)) h,
    )

-- nothing is set besides
pub Adds-none : (P : ℕ → ℕ → Type 0) (table : Table) → ((x y : ℕ) → P x y → ⊥) → Adds P table table
Adds-none P table none = λ x y. (λ h. inr h, λ h. ⊎_elim (λ (p : P x y). absurd (none x y p)) (λ (was : IsTrue (bit_of table x y)). was) h)

-- one step after another
pub Adds-more : (P Q R : ℕ → ℕ → Type 0) (old now new : Table) → Adds P old now → Adds Q now new → ((x y : ℕ) → R x y ↔ (P x y ⊎ Q x y)) → Adds R old new
Adds-more P Q R old now new first second same = λ x y. (
  λ h.
      ⊎_elim (λ (q : Q x y). inl ((same x y).1 (inr q)))
      (λ (was : IsTrue (bit_of now x y)).
      ⊎_elim (λ (p : P x y). inl ((same x y).1 (inl p))) (λ (before : IsTrue (bit_of old x y)). inr before) ((first x y).0 was)) ((second x y).0 h),
  λ h.
      (second x y).1
      (⊎_elim (λ (r : R x y).
      ⊎_elim (λ (p : P x y). inr ((first x y).1 (inl p))) (λ (q : Q x y). inl q) ((same x y).0 r))
      (λ (before : IsTrue (bit_of old x y)). inr ((first x y).1 (inr before))) h),
)

pub Adds-same : (P R : ℕ → ℕ → Type 0) (old now : Table) → Adds P old now → ((x y : ℕ) → R x y ↔ P x y) → Adds R old now
Adds-same P R old now first same = λ x y. (
  λ h. ⊎_elim (λ (p : P x y). inl ((same x y).1 p)) (λ (was : IsTrue (bit_of old x y)). inr was) ((first x y).0 h),
  λ h. (first x y).1 (⊎_elim (λ (r : R x y). inl ((same x y).0 r)) (λ (was : IsTrue (bit_of old x y)). inr was) h),
)

-- ---- the targets of one use

abbrev pub Targets : ℕ → (ℕ → Bool) → ℕ → ℕ → ℕ → Type 0
Targets a p below x y = (x ≡ a) × (y < below) × IsTrue (p y)

pub targets_more : (a : ℕ) (p : ℕ → Bool) (b : ℕ) → p b ≡ true → (x y : ℕ) → Targets a p (b + 1) x y ↔ (Targets a p b x y ⊎ ((x ≡ a) × (y ≡ b)))
targets_more a p b holds x y = (
  λ (at, low, passes). ⊎_elim (λ (e : y ≡ b). inr (at, e)) (λ (ne : y ≡ b → ⊥). inl (at, omega (arith, low, ne), passes)) (cases_eq y b),
  λ h.
      ⊎_elim (λ (t : Targets a p b x y). (t.0, omega (arith, t.1), t.2))
      (λ (both : (x ≡ a) × (y ≡ b)). (both.0, omega (arith, both.1), ap p both.1 ∙ holds)) h,
)

pub targets_same : (a : ℕ) (p : ℕ → Bool) (b : ℕ) → p b ≡ false → (x y : ℕ) → Targets a p (b + 1) x y ↔ Targets a p b x y
targets_same a p b fails x y = (
  λ (at, low, passes).
      ⊎_elim (λ (e : y ≡ b). absurd (false≢true (sym fails ∙ sym (ap p e) ∙ passes))) (λ (ne : y ≡ b → ⊥). (at, omega (arith, low, ne), passes)) (cases_eq y b),
  λ t. (t.0, omega (arith, t.1), t.2),
)

-- a name that stands for what a definition binds stands for that of one of them
pub names_within : («module» : List ℕ) (used : Use) (definitions : List Defined) (y : ℕ) →
    IsTrue (names_one «module» used.answer (slice_get definitions y)) → y < length definitions
names_within «module» used definitions y h =
    ⊎_elim (λ (in' : y < length definitions). in')
    (λ (out : length definitions ≤ y).
    absurd (false≢true (sym (ap (names_one «module» used.answer) (slice_get_past definitions y out)) ∙ h))) (cases_lt y (length definitions))

pub targets_all : (a : ℕ) («module» : List ℕ) (used : Use) (definitions : List Defined) (n : ℕ) → length definitions ≤ n → (x y : ℕ) →
    ((x ≡ a) × IsTrue (names_one «module» used.answer (slice_get definitions y)))
    ↔ Targets a (λ z. names_one «module» used.answer (slice_get definitions z)) n x y
targets_all a «module» used definitions n past x y = (
  λ (at, passes). (at, omega (arith, names_within «module» used definitions y passes, past), passes),
  λ t. (t.0, t.2),
)

-- ---- one use

-- nothing stands between a place and itself
none_between : (before' : Bool) → (not before' && before') ≡ false
none_between true = refl
none_between false = refl

stands_within : (used : Use) (definitions : List Defined) (end : At) (x : ℕ) → IsTrue (stands_in used definitions end x) → x < length definitions
stands_within used definitions end x h =
    ⊎_elim (λ (in' : x < length definitions). in')
    (λ (out : length definitions ≤ x).
    let later : length definitions ≤ x + 1 = omega (arith, out) in
    absurd (false≢true (sym (ap (λ (start : Option Defined). is_within (place_or end start) (place_or end (slice_get definitions (x + 1))) used.spot.at)
    (slice_get_past definitions x out)
    ∙ ap (λ (stop : Option Defined). is_within end (place_or end stop) used.spot.at) (slice_get_past definitions (x + 1) later)
    ∙ none_between (comes_before used.spot.at end)) ∙ h))) (cases_lt x (length definitions))

abbrev pub RefersBelow : List ℕ → List Defined → At → Use → ℕ → ℕ → ℕ → Type 0
RefersBelow «module» definitions end used below x y = (x < below) × IsTrue (refers_by «module» definitions end used x y)

pub refers_more : («module» : List ℕ) (definitions : List Defined) (end : At) (used : Use) (a : ℕ) → stands_in used definitions end a ≡ true → (x y : ℕ) →
    RefersBelow «module» definitions end used (a + 1) x y
    ↔ (RefersBelow «module» definitions end used a x y ⊎ ((x ≡ a) × IsTrue (names_one «module» used.answer (slice_get definitions y))))
refers_more «module» definitions end used a holds x y = (
  λ (low, refers).
      ⊎_elim (λ (e : x ≡ a). inr (e, (and_parts (stands_in used definitions end x) (names_one «module» used.answer (slice_get definitions y)) refers).1))
      (λ (ne : x ≡ a → ⊥). inl (omega (arith, low, ne), refers)) (cases_eq x a),
  λ h.
      ⊎_elim (λ (t : RefersBelow «module» definitions end used a x y). (omega (arith, t.0), t.1))
      (λ (both : (x ≡ a) × IsTrue (names_one «module» used.answer (slice_get definitions y))). (
        omega (arith, both.0),
        and_from (stands_in used definitions end x) (names_one «module» used.answer (slice_get definitions y))
            (ap (stands_in used definitions end) both.0 ∙ holds) both.1,
      )) h,
)

pub refers_same : («module» : List ℕ) (definitions : List Defined) (end : At) (used : Use) (a : ℕ) → stands_in used definitions end a ≡ false → (x y : ℕ) →
    RefersBelow «module» definitions end used (a + 1) x y ↔ RefersBelow «module» definitions end used a x y
refers_same «module» definitions end used a fails x y = (
  λ (low, refers).
      ⊎_elim (λ (e : x ≡ a).
      absurd (false≢true (sym fails ∙ sym (ap (stands_in used definitions end) e)
      ∙ (and_parts (stands_in used definitions end x) (names_one «module» used.answer (slice_get definitions y)) refers).0)))
      (λ (ne : x ≡ a → ⊥). (omega (arith, low, ne), refers)) (cases_eq x a),
  λ t. (omega (arith, t.0), t.1),
)

pub refers_all : («module» : List ℕ) (definitions : List Defined) (end : At) (used : Use) (n : ℕ) → length definitions ≤ n → (x y : ℕ) →
    IsTrue (refers_by «module» definitions end used x y) ↔ RefersBelow «module» definitions end used n x y
refers_all «module» definitions end used n past x y = (
  λ h.
      let in' = stands_within used definitions end x (and_parts (stands_in used definitions end x) (names_one «module» used.answer (slice_get definitions y)) h).0 in
      (omega (arith, in', past), h),
  λ t. t.1,
)

-- ---- all uses

pub uses_more : («module» : List ℕ) (definitions : List Defined) (end : At) (uses : List Use) (i : ℕ) (used : Use) → i < length uses → used ≡ get_or uses i used →
    (x y : ℕ) → IsTrue (refers_in «module» definitions end (take (i + 1) uses) x y)
    ↔ (IsTrue (refers_in «module» definitions end (take i uses) x y) ⊎ IsTrue (refers_by «module» definitions end used x y))
uses_more «module» definitions end uses i used in' at x y =
    let p : Use → Bool = λ u. refers_by «module» definitions end u x y in
    let more : list_any p (take (i + 1) uses) ≡ (list_any p (take i uses) || p used) =
    list_any_more p uses i used in' ∙ ap (λ (u : Use). list_any p (take i uses) || p u) (sym at) in (
      λ h. or_cases (list_any p (take i uses)) (p used) (sym more ∙ h),
      λ h. more ∙ ⊎_elim (λ (was : list_any p (take i uses) ≡ true). or_left (list_any p (take i uses)) (p used) was)
          (λ (now : p used ≡ true). or_right (list_any p (take i uses)) (p used) now) h,
    )

-- ---- a table in which nothing is set

pub none_set : (table : Table) (n : ℕ) → table.rows ≡ replicate n (replicate n false) → (a b : ℕ) → bit_of table a b ≡ false
none_set table n e a b =
    ap (λ (rows : List (List Bool)). bit_in (get_or rows a []) b) e
    ∙ ⊎_elim (λ (in' : a < n).
    ap (λ (row : List Bool). bit_in row b) (get_or-replicate n a (replicate n false) [] in')
    ∙ ⊎_elim (λ (low : b < n). get_or-replicate n b false false low)
    (λ (out : n ≤ b). let long : length (replicate n false) ≡ n = length-replicate n false in get_or_past (replicate n false) b false (omega (arith, long, out))) (cases_lt b n))
    (λ (out : n ≤ a).
    let long : length (replicate n (replicate n false)) ≡ n = length-replicate n (replicate n false) in
    ap (λ (row : List Bool). bit_in row b) (get_or_past (replicate n (replicate n false)) a [] (omega (arith, long, out)))) (cases_lt a n)

same_tests : (x y : Bool) → IsTrue x ↔ IsTrue y → x ≡ y
same_tests true y h = sym (h.0 refl)
same_tests false y h = ⊎_elim (λ (yes' : y ≡ true). h.1 yes' ∙ sym yes') (λ (no' : y ≡ false). sym no') (cases_Bool y)

pub exactly : (refers : ℕ → ℕ → Bool) (old new : Table) → ((a b : ℕ) → bit_of old a b ≡ false) → Adds (λ x y. IsTrue (refers x y)) old new → bit_of new ≡ refers
exactly refers old new none adds =
    fun_ext (λ a. fun_ext (λ b.
    same_tests (bit_of new a b) (refers a b) (
      λ h. ⊎_elim (λ (r : IsTrue (refers a b)). r) (λ (was : IsTrue (bit_of old a b)). absurd (false≢true (sym (none a b) ∙ was))) ((adds a b).0 h),
      λ r. (adds a b).1 (inl r),
    )))
