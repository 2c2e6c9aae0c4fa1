-- The first of several faults.
use Rattle.std.proofs.Common.{◌≡◌, ℕ, true, false, if◌then◌else◌, List, [], ◌∷◌, ◌++◌, Option, Some, None, refl, sym, ◌∙◌, ap, subst, ⊎_elim}
use Rattle.std.proofs.lemmas.Bool.{cases_Bool, cond-true, cond-false}
use Rattle.std.proofs.lemmas.List.{append_assoc, append-nil}
use Rattle.std.specs.List.{Contains}
use Rattle.std.proofs.lemmas.List.Elements.{Contains-append_cases, Contains-append_right}
use Rattle.module_groups.proofs.Members.{contains_here, contains_cases, contains_none}
use Rattle.elm_base.specs.declared.fault.ProjectFault.{ProjectFault}
use Rattle.module_names.specs.declared.flaws.Flaw.{Flaw}
use Rattle.module_blocks.specs.Refers.{comes_before}
use Rattle.module_scope.specs.Faults.{fault_of}
use Rattle.module_scope.specs.Finding.{first_in}
use Rattle.module_scope.specs.Firsts.{IsFirst, least}
use Rattle.module_scope.proofs.Places.{before_behind, one_way, never_itself}

-- none of those in which this one is the first stands before it
pub first_of_all : (flaws : List Flaw) (flaw : Flaw) → IsFirst flaws flaw → (other : Flaw) → Contains flaws other → comes_before other.at flaw.at ≡ false
first_of_all flaws flaw first other in' =
    ⊎_elim (λ (earlier : Contains first.before other). one_way flaw.at other.at (first.earlier other earlier))
    (λ (rest : Contains (flaw ∷ first.after) other).
    ⊎_elim (λ (e : flaw ≡ other). subst (λ (x : Flaw). comes_before x.at flaw.at ≡ false) e (never_itself flaw.at))
    (λ (later : Contains first.after other). first.later other later) (contains_cases flaw other first.after rest))
    (Contains-append_cases first.before (flaw ∷ first.after) other (subst (λ (xs : List Flaw). Contains xs other) first.listed in'))

-- one fault more, behind those that were looked at
step : (seen : List Flaw) (best next : Flaw) → IsFirst seen best → IsFirst (seen ++ next ∷ []) (if comes_before next.at best.at then next else best)
step seen best next first =
    ⊎_elim (λ (e : comes_before next.at best.at ≡ true).
    subst (λ (x : Flaw). IsFirst (seen ++ next ∷ []) x) (sym (cond-true (comes_before next.at best.at) next best e)) (record {
      before = seen;
      after = [];
      listed = refl;
      earlier = λ other in'. before_behind next.at best.at other.at e (first_of_all seen best first other in');
      later = λ other in'. absurd (contains_none other in');
    }))
    (λ (e : comes_before next.at best.at ≡ false).
    subst (λ (x : Flaw). IsFirst (seen ++ next ∷ []) x) (sym (cond-false (comes_before next.at best.at) next best e)) (record {
      before = first.before;
      after = first.after ++ next ∷ [];
      listed = ap (λ (xs : List Flaw). xs ++ next ∷ []) first.listed ∙ append_assoc first.before (best ∷ first.after) (next ∷ []);
      earlier = first.earlier;
      later = λ other in'.
          ⊎_elim (λ (was : Contains first.after other). first.later other was)
          (λ (new : Contains (next ∷ []) other).
          ⊎_elim (λ (same : next ≡ other). subst (λ (x : Flaw). comes_before x.at best.at ≡ false) same e)
          (λ (none : Contains [] other). absurd (contains_none other none)) (contains_cases next other [] new))
          (Contains-append_cases first.after (next ∷ []) other in');
    }))
    (cases_Bool (comes_before next.at best.at))

least_of : (seen : List Flaw) (best : Flaw) (more : List Flaw) → IsFirst seen best → IsFirst (seen ++ more) (least best more)
least_of seen best [] first = subst (λ (xs : List Flaw). IsFirst xs best) (sym (append-nil seen)) first
least_of seen best (next ∷ more) first =
    subst (λ (xs : List Flaw). IsFirst xs (least best (next ∷ more))) (append_assoc seen (next ∷ []) more)
    (least_of (seen ++ next ∷ []) (if comes_before next.at best.at then next else best) more (step seen best next first))

pub least_is_first : (first : Flaw) (more : List Flaw) → IsFirst (first ∷ more) (least first more)
least_is_first first more =
    least_of (first ∷ []) first more (record {
      before = [];
      after = [];
      listed = refl;
      earlier = λ other in'. absurd (contains_none other in');
      later = λ other in'. absurd (contains_none other in');
    })

-- what is found of a module's faults: that there is none, or the first
abbrev pub Says : List ℕ → List Flaw → Option ProjectFault → Type 0
Says «module» flaws None = flaws ≡ []
Says «module» flaws (Some fault) = (flaw : Flaw) × IsFirst flaws flaw × (fault ≡ fault_of «module» flaw)

pub first_in_says : («module» : List ℕ) (flaws : List Flaw) → Says «module» flaws (first_in «module» flaws)
first_in_says «module» [] = refl
first_in_says «module» (first ∷ more) = (least first more, least_is_first first more, refl)

pub name_fault : («module» : List ℕ) (flaws : List Flaw) (fault : ProjectFault) → first_in «module» flaws ≡ Some fault →
    (flaw : Flaw) × IsFirst flaws flaw × (fault ≡ fault_of «module» flaw)
name_fault «module» flaws fault e = subst (λ (found : Option ProjectFault). Says «module» flaws found) e (first_in_says «module» flaws)

pub no_fault : («module» : List ℕ) (flaws : List Flaw) → first_in «module» flaws ≡ None → flaws ≡ []
no_fault «module» flaws e = subst (λ (found : Option ProjectFault). Says «module» flaws found) e (first_in_says «module» flaws)

pub least_is_there : (first : Flaw) (more : List Flaw) → Contains (first ∷ more) (least first more)
least_is_there first more =
    let is = least_is_first first more in
    subst (λ (xs : List Flaw). Contains xs (least first more)) (sym is.listed)
    (Contains-append_right is.before (least first more ∷ is.after) (least first more) (contains_here (least first more) is.after))
