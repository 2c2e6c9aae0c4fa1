-- The least transitive table over the references says exactly which definition reaches which.
use Rattle.std.proofs.Common.{◌≡◌, ℕ, zero, suc, ◌<◌, ◌≤◌, Bool, true, false, ◌&&◌, IsTrue, List, [], length, map, refl, sym, ◌∙◌, ap, subst, arith, ⊎_elim, add-one}
use Rattle.std.proofs.lemmas.Bool.{or_cases, and_parts, cases_lt, false≢true}
use Rattle.std.proofs.lemmas.List.{length-map, get_or_past}
use Rattle.bit_rows.specs.Bits.{bit_in, passed_through}
use Rattle.bit_rows.specs.Table.{Table, row_of, bit_of, IsRectangular, IsLeastTransitive}
use Rattle.bit_rows.proofs.Closing.{PassesThrough, PassesThrough-map, IsClosedBelow, IsClosedBelow-none, IsClosedBelow-more, IsLeastTransitive-all}
use Rattle.bit_rows.proofs.Passing.{IsRectangular-passed}
use Rattle.module_groups.specs.Groups.{References, Reaches, at_once, over}
use Rattle.module_groups.specs.Search.{SaysWhatReaches}

-- the table with its rows passed through one of them
passed : ℕ → Table → Table
passed m old = record { bits = old.bits; rows = map (passed_through m (row_of old m)) old.rows }

-- passed through each row below a number in turn
passed_below : ℕ → Table → Table
passed_below zero given = given
passed_below (suc m) given = passed m (passed_below m given)

width : (m : ℕ) (given : Table) → (passed_below m given).bits ≡ given.bits
unfolding passed passed_below
width zero given = refl
width (suc m) given = width m given

height : (m : ℕ) (given : Table) → length (passed_below m given).rows ≡ length given.rows
unfolding passed passed_below
height zero given = refl
height (suc m) given =
    length-map (passed_below m given).rows (passed_through m (row_of (passed_below m given) m)) ∙ height m given

passes : (m : ℕ) (old : Table) → PassesThrough m old (passed m old)
unfolding passed
passes m old = PassesThrough-map m old (passed m old) refl

rectangular : (m : ℕ) (given : Table) → m ≤ length given.rows → IsRectangular given → IsRectangular (passed_below m given)
unfolding passed passed_below
rectangular zero given h whole = whole
rectangular (suc m) given h whole =
    IsRectangular-passed (passed_below m given) (passed m (passed_below m given)) m (omega (arith, h, height m given))
    (rectangular m given (omega (arith, h)) whole) refl refl

closed_below : (m : ℕ) (given : Table) → IsClosedBelow m given (passed_below m given)
unfolding passed_below
closed_below zero given = IsClosedBelow-none given
closed_below (suc m) given =
    subst (λ (n : ℕ). IsClosedBelow n given (passed m (passed_below m given))) (add-one m)
    (IsClosedBelow-more m given (passed_below m given) (passed m (passed_below m given)) (closed_below m given) (passes m (passed_below m given)))

-- a transitive relation that holds the given table holds all that is added
module _ (P : ℕ → ℕ → Type 0) (leads : (a b c : ℕ) → P a b → P b c → P a c) (given : Table) (holds : (a b : ℕ) → IsTrue (bit_of given a b) → P a b) where
  nothing_more : (m : ℕ) (a b : ℕ) → IsTrue (bit_of (passed_below m given) a b) → P a b
  unfolding passed_below
  nothing_more zero a b h = holds a b h
  nothing_more (suc m) a b h =
      let old = passed_below m given in
      ⊎_elim (λ (was : bit_of old a b ≡ true). nothing_more m a b was)
      (λ (led : (bit_of old a m && bit_of old m b) ≡ true).
      let both = and_parts (bit_of old a m) (bit_of old m b) led in leads a m b (nothing_more m a m both.0) (nothing_more m m b both.1))
      (or_cases (bit_of old a b) (bit_of old a m && bit_of old m b) (sym ((passes m old).passes a b) ∙ h))

-- A closed table over references between `count` definitions.
pub record IsClosure (count : ℕ) (refers : References) (reached : Table) : Type 0 where
  pub says : SaysWhatReaches refers reached
  pub within : (a b : ℕ) → IsTrue (bit_of reached a b) → (a < count) × (b < count)

within_table : (table : Table) → IsRectangular table → (a b : ℕ) → IsTrue (bit_of table a b) → (a < length table.rows) × (b < table.bits)
within_table table whole a b h =
    ⊎_elim (λ (in' : a < length table.rows).
    ⊎_elim (λ (low : b < table.bits). let both : (a < length table.rows) × (b < table.bits) = (in', low) in both)
    (λ (past : table.bits ≤ b). absurd (false≢true (sym (get_or_past (row_of table a) b false (omega (arith, whole a [] in', past))) ∙ h)))
    (cases_lt b table.bits))
    (λ (out : length table.rows ≤ a).
    absurd (false≢true (sym (ap (λ (row : List Bool). bit_in row b) (get_or_past table.rows a [] out)) ∙ h))) (cases_lt a (length table.rows))

complete_over : (given closed : Table) → IsLeastTransitive given closed → (a b : ℕ) → Reaches (bit_of given) a b → IsTrue (bit_of closed a b)
complete_over given closed so a b (at_once h) = so.includes a b h
complete_over given closed so a c (over {b = b} first second) =
    so.transitive a b c (complete_over given closed so a b first) (complete_over given closed so b c second)

pub SaysWhatReaches-closed : (given closed : Table) → length given.rows ≡ given.bits → IsRectangular given → IsLeastTransitive given closed →
    SaysWhatReaches (bit_of given) closed
SaysWhatReaches-closed given closed square whole so =
    let n = given.bits in
    let all = passed_below n given in
    let least : IsLeastTransitive given all =
    IsLeastTransitive-all given all (rectangular n given (omega (arith, square)) whole)
    (subst (λ (k : ℕ). IsClosedBelow k given all) (sym (width n given)) (closed_below n given)) in
    record {
      sound = λ a b h.
          nothing_more (Reaches (bit_of given)) (λ x y z first second. over first second) given (λ x y at. at_once at) n a b
          (so.least all least.includes least.transitive a b h);
      complete = complete_over given closed so;
    }

pub IsClosure-table : (refers : References) (reached : Table) → length reached.rows ≡ reached.bits → IsRectangular reached → SaysWhatReaches refers reached →
    IsClosure reached.bits refers reached
IsClosure-table refers reached square whole says = record {
  says = says;
  within = λ a b h. let in' = within_table reached whole a b h in (omega (arith, in'.0, square), in'.1);
}
