-- Imports that are passed: what comes of those behind them comes of all.
use Rattle.std.proofs.Common.{◌≡◌, ℕ, ◌+◌, Bool, true, false, suc, arith, ◌≤◌, List, [], ◌∷◌, length, drop, sym, ◌∙◌, ap, slice_get, Some, None, if◌then◌else◌, refl}
use Rattle.std.proofs.Math.ListN.{drop_of_length-le}
use Rattle.std.proofs.Math.Seq.{drop-nil}
use Rattle.elm_base.specs.declared.tree.Module.{Module}
use Rattle.elm_base.specs.declared.tree.Import.{Import}
use Rattle.reactor_outside.specs.Shelf.{Files}
use Rattle.module_visits.specs.Visits.{Outcome, Visits, pass, is_passed}
use Rattle.module_visits.specs.Stack.{behind_passed}

pub comes_of_all : (files : Files) (folder : List ℕ) (under ended : List Module) (is : List Import) (o : Outcome)
    → Visits files folder under ended (behind_passed ended is) o → Visits files folder under ended is o
comes_of_all files folder under ended [] o v = v
comes_of_all files folder under ended (i ∷ is) o v =
    go (is_passed ended i) refl (comes_of_all files folder under ended is o) v
  where
    go : (t : Bool) → is_passed ended i ≡ t
        → (Visits files folder under ended (behind_passed ended is) o → Visits files folder under ended is o)
        → Visits files folder under ended (if t then behind_passed ended is else i ∷ is) o
        → Visits files folder under ended (i ∷ is) o
    go true e more w = pass i is e (more w)
    go false e more w = w

-- the import at which passing stops isn't passed
pub not_passed : (ended : List Module) (is : List Import) (i : Import) (rest : List Import)
    → behind_passed ended is ≡ i ∷ rest → is_passed ended i ≡ false
not_passed ended [] i rest e = absurd (cc e)
not_passed ended (j ∷ js) i rest e = go (is_passed ended j) refl (not_passed ended js i rest) e
  where
    go : (t : Bool) → is_passed ended j ≡ t → (behind_passed ended js ≡ i ∷ rest → is_passed ended i ≡ false)
        → (if t then behind_passed ended js else j ∷ js) ≡ i ∷ rest → is_passed ended i ≡ false
    go true e more w = more w
    go false e more w = cc (e, w)

-- an element at a place, and those behind it
pub from_place : {A : Type 0} (xs : List A) (n : ℕ) (x : A) → slice_get xs n ≡ Some x → drop n xs ≡ x ∷ drop (n + 1) xs
from_place [] n x e = absurd (cc e)
from_place (y ∷ ys) Prim.Native.Nat.zero x e = cc e
from_place (y ∷ ys) (suc n) x e =
    let same : suc (n + 1) ≡ suc n + 1 = omega arith in
    from_place ys n x e ∙ ap (λ k. x ∷ drop k (y ∷ ys)) same

-- an import that is passed is left behind
pub passed_on : (ended : List Module) (is : List Import) (at : ℕ) (i : Import) → slice_get is at ≡ Some i → is_passed ended i ≡ true
    → behind_passed ended (drop (at + 1) is) ≡ behind_passed ended (drop at is)
passed_on ended is at i there e =
    sym (ap (behind_passed ended) (from_place is at i there) ∙ ap (λ (t : Bool). if t then behind_passed ended (drop (at + 1) is) else i ∷ drop (at + 1) is) e)

-- passing stops at an import that isn't passed
pub stops_there : (ended : List Module) (is : List Import) (at : ℕ) (i : Import) → slice_get is at ≡ Some i → is_passed ended i ≡ false
    → drop at is ≡ behind_passed ended (drop at is)
stops_there ended is at i there e =
    from_place is at i there ∙ sym (ap (behind_passed ended) (from_place is at i there) ∙ ap (λ (t : Bool). if t then behind_passed ended (drop (at + 1) is) else i ∷ drop (at + 1) is) e)

pub from_no_place : {A : Type 0} (xs : List A) (n : ℕ) → slice_get xs n ≡ None → drop n xs ≡ []
from_no_place [] n e = drop-nil n
from_no_place (y ∷ ys) Prim.Native.Nat.zero e = absurd (cc e)
from_no_place (y ∷ ys) (suc n) e = from_no_place ys n e

nothing_there : (ended : List Module) (is : List Import) (at : ℕ) → drop at is ≡ [] → drop at is ≡ behind_passed ended (drop at is)
nothing_there ended is at none = none ∙ sym (ap (behind_passed ended) none)

pub stops_none : (ended : List Module) (is : List Import) (at : ℕ) → slice_get is at ≡ None → drop at is ≡ behind_passed ended (drop at is)
stops_none ended is at e = nothing_there ended is at (from_no_place is at e)

-- it stops at the end
pub stops_behind : (ended : List Module) (is : List Import) (at : ℕ) → length is ≤ at → drop at is ≡ behind_passed ended (drop at is)
stops_behind ended is at long = nothing_there ended is at (drop_of_length-le is long)
