-- There is one first fault alone, or none.
use Rattle.std.proofs.Common.{◌≡◌, ℕ, Bool, true, false, IsTrue, ◌↔◌, List, [], ◌∷◌, ◌++◌, Option, Some, None, refl, sym, ◌∙◌, ap, subst, ⊎_elim}
use Rattle.std.proofs.lemmas.Bool.{cases_Bool, false≢true}
use Rattle.std.specs.List.{Contains}
use Rattle.std.proofs.lemmas.List.Elements.{Contains-append_right}
use mathlib.Core.Path.{fun_ext}
use Rattle.module_groups.specs.Groups.{Reaches}
use Rattle.module_groups.proofs.Members.{contains_here}
use Rattle.elm_base.specs.declared.fault.ProjectFault.{ProjectFault}
use Rattle.elm_base.specs.declared.tree.Module.{Module}
use Rattle.module_blocks.specs.Refers.{comes_before}
use Rattle.module_names.specs.declared.flaws.Flaw.{Flaw}
use Rattle.module_scope.specs.Faults.{Each, IsFirstOfAll, fault_of}
use Rattle.module_scope.specs.Finding.{first_in}
use Rattle.module_scope.specs.Firsts.{IsFirst, least}
use Rattle.module_scope.proofs.Least.{least_is_first}
use Rattle.module_scope.proofs.Places.{never_both}
use Rattle.type_names.specs.declared.known.KnownType.{KnownType}
use Rattle.type_names.specs.Known.{known_in}
use Rattle.alias_cycles.specs.declared.texts.AliasText.{AliasText}
use Rattle.alias_cycles.specs.Cycles.{refers}
use Rattle.type_faults.specs.Flaws.{Leads, faults_in}
use Rattle.type_faults.specs.Faults.{SaysWhatLeads, aliases_of, IsClear, IsFirstIn, IsTextFault, HasNoTextFault}
use Rattle.type_faults.specs.Finding.{or_else, first_by, first_of}
use Rattle.type_faults.proofs.Finding.{Clear, First}

-- ---- one first of several

abbrev pub Earlier : Flaw → List Flaw → Type 0
Earlier flaw before = (other : Flaw) → Contains before other → IsTrue (comes_before flaw.at other.at)

abbrev pub Later : Flaw → List Flaw → Type 0
Later flaw after = (other : Flaw) → Contains after other → comes_before other.at flaw.at ≡ false

behind_one : (x : Flaw) (xs : List Flaw) (other : Flaw) → Contains xs other → Contains (x ∷ xs) other
behind_one x xs other in' = Contains-append_right (x ∷ []) xs other in'

in_middle : (xs : List Flaw) (a : Flaw) (as' : List Flaw) → Contains (xs ++ a ∷ as') a
in_middle xs a as' = Contains-append_right xs (a ∷ as') a (contains_here a as')

-- one of two first flaws stands before the other in the list
apart : (x : Flaw) (xs : List Flaw) (a : Flaw) (as' : List Flaw) (b : Flaw) (bs : List Flaw) → x ∷ xs ++ a ∷ as' ≡ b ∷ bs →
    Earlier a (x ∷ xs) → Later b bs → ⊥
apart x xs a as' b bs e earlier later =
    let same : x ≡ b = cc in
    let rest : xs ++ a ∷ as' ≡ bs = cc in
    never_both (comes_before a.at b.at) (subst (λ (y : Flaw). IsTrue (comes_before a.at y.at)) same (earlier x (contains_here x xs)))
    (later a (subst (λ (ys : List Flaw). Contains ys a) rest (in_middle xs a as')))

same_first : (xs ys : List Flaw) (a b : Flaw) (as' bs : List Flaw) → xs ++ a ∷ as' ≡ ys ++ b ∷ bs →
    Earlier a xs → Later a as' → Earlier b ys → Later b bs → a ≡ b
same_first [] [] a b as' bs e earlier later sooner after = cc
same_first (x ∷ xs) [] a b as' bs e earlier later sooner after = absurd (apart x xs a as' b bs e earlier after)
same_first [] (y ∷ ys) a b as' bs e earlier later sooner after = absurd (apart y ys b bs a as' (sym e) sooner later)
same_first (x ∷ xs) (y ∷ ys) a b as' bs e earlier later sooner after =
    let rest : xs ++ a ∷ as' ≡ ys ++ b ∷ bs = cc in
    same_first xs ys a b as' bs rest (λ other in'. earlier other (behind_one x xs other in')) later
    (λ other in'. sooner other (behind_one y ys other in')) after

one_first : (flaws : List Flaw) (a b : Flaw) → IsFirst flaws a → IsFirst flaws b → a ≡ b
one_first flaws a b first other =
    same_first first.before other.before a b first.after other.after (sym first.listed ∙ other.listed) first.earlier first.later other.earlier other.later

never_none : (xs : List Flaw) (a : Flaw) (as' : List Flaw) → [] ≡ xs ++ a ∷ as' → ⊥
never_none [] a as' e = cc
never_none (x ∷ xs) a as' e = cc

first_in_is : («module» : List ℕ) (flaws : List Flaw) (flaw : Flaw) → IsFirst flaws flaw → first_in «module» flaws ≡ Some (fault_of «module» flaw)
first_in_is «module» [] flaw first = absurd (never_none first.before flaw first.after first.listed)
first_in_is «module» (next ∷ more) flaw first =
    ap (λ (found : Flaw). Some (fault_of «module» found)) (one_first (next ∷ more) (least next more) flaw (least_is_first next more) first)

-- ---- of several modules

-- where these are the faults of each module
module _ (flaws : Module → List Flaw) where
  pub none_of : (modules : List Module) → Each (Clear flaws) modules → first_by flaws modules ≡ None
  none_of [] all = refl
  none_of (next ∷ more) all =
      ap (λ (own : List Flaw). or_else (first_in next.name own) (first_by flaws more)) (all next (contains_here next more))
      ∙ none_of more (λ «module» in'. all «module» (Contains-append_right (next ∷ []) more «module» in'))

  some_of : (before : List Module) (next : Module) (after : List Module) (flaw : Flaw) → Each (Clear flaws) before → First flaws next flaw →
      first_by flaws (before ++ next ∷ after) ≡ Some (fault_of next.name flaw)
  some_of [] next after flaw all first =
      ap (λ (own : Option ProjectFault). or_else own (first_by flaws after)) (first_in_is next.name (flaws next) flaw first)
  some_of (earlier ∷ before) next after flaw all first =
      ap (λ (own : List Flaw). or_else (first_in earlier.name own) (first_by flaws (before ++ next ∷ after))) (all earlier (contains_here earlier before))
      ∙ some_of before next after flaw (λ «module» in'. all «module» (Contains-append_right (earlier ∷ []) before «module» in')) first

  pub found : (modules : List Module) (fault : ProjectFault) → IsFirstOfAll (Clear flaws) (First flaws) modules fault → first_by flaws modules ≡ Some fault
  found modules fault so =
      ap (first_by flaws) so.ordered ∙ some_of so.before so.«module» so.after so.flaw so.none so.one ∙ ap (λ (f : ProjectFault). Some f) (sym so.is)

-- ---- of a project

pub same_tests : (x y : Bool) (P : Type 0) → IsTrue x ↔ P → IsTrue y ↔ P → x ≡ y
same_tests x y P one two =
    ⊎_elim (λ (e : x ≡ true). e ∙ sym (two.1 (one.0 e)))
    (λ (e : x ≡ false).
    ⊎_elim (λ (f : y ≡ true). absurd (false≢true (sym e ∙ one.1 (two.0 f)))) (λ (f : y ≡ false). e ∙ sym f) (cases_Bool y)) (cases_Bool x)

pub same_leads : (aliases : List AliasText) (one two : Leads) → SaysWhatLeads aliases one → SaysWhatLeads aliases two → one ≡ two
same_leads aliases one two says also = fun_ext (λ a. fun_ext (λ b. same_tests (one a b) (two a b) (Reaches (refers aliases) a b) (says a b) (also a b)))

at_leads : (modules : List Module) (leads : Leads) → SaysWhatLeads (aliases_of modules) leads → (fault : ProjectFault) → IsTextFault modules fault →
    first_of (known_in modules) (aliases_of modules) leads modules ≡ Some fault
at_leads modules leads says fault so =
    ap (λ (l : Leads). first_of (known_in modules) (aliases_of modules) l modules) (same_leads (aliases_of modules) leads so.leads says so.says)
    ∙ found (faults_in (known_in modules) (aliases_of modules) so.leads) modules fault so.first

pub one_fault : (modules : List Module) (one two : ProjectFault) → IsTextFault modules one → IsTextFault modules two → one ≡ two
one_fault modules one two first second =
    let e : first_of (known_in modules) (aliases_of modules) first.leads modules ≡ Some one = at_leads modules first.leads first.says one first in
    let f : first_of (known_in modules) (aliases_of modules) first.leads modules ≡ Some two = at_leads modules first.leads first.says two second in
    let both : Some one ≡ Some two = sym e ∙ f in cc

pub not_both : (modules : List Module) (fault : ProjectFault) → HasNoTextFault modules → IsTextFault modules fault → ⊥
not_both modules fault none so =
    let e : first_of (known_in modules) (aliases_of modules) none.leads modules ≡ None = none_of (faults_in (known_in modules) (aliases_of modules) none.leads) modules none.clear in
    let f : first_of (known_in modules) (aliases_of modules) none.leads modules ≡ Some fault = at_leads modules none.leads none.says fault so in
    let both : None ≡ Some fault = sym e ∙ f in cc
