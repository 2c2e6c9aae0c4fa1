-- The function that finds the first fault finds the first fault.
use Rattle.std.proofs.Common.{◌≡◌, ℕ, Bool, IsTrue, ◌↔◌, List, [], ◌∷◌, ◌++◌, Option, Some, None, refl, sym, ◌∙◌, ap, subst, ⊎_elim}
use Rattle.std.specs.List.{Contains}
use Rattle.bit_rows.specs.Table.{Table, bit_of}
use Rattle.module_groups.specs.Search.{SaysWhatReaches}
use Rattle.module_groups.proofs.Members.{contains_cases, contains_none}
use Rattle.elm_base.specs.declared.fault.ProjectFault.{ProjectFault}
use Rattle.elm_base.specs.declared.tree.Module.{Module}
use Rattle.module_names.specs.declared.flaws.Flaw.{Flaw}
use Rattle.module_scope.specs.Faults.{Each, IsFirstOfAll}
use Rattle.module_scope.specs.Finding.{first_in}
use Rattle.module_scope.specs.Firsts.{IsFirst}
use Rattle.module_scope.proofs.Least.{Says as SaysIn, first_in_says}
use Rattle.type_names.specs.declared.known.KnownType.{KnownType}
use Rattle.type_names.specs.Known.{known_in}
use Rattle.alias_cycles.specs.declared.texts.AliasText.{AliasText}
use Rattle.alias_cycles.specs.Naming.{aliases_in}
use Rattle.alias_cycles.specs.Cycles.{refers}
use Rattle.type_faults.specs.Flaws.{Leads, faults_in}
use Rattle.type_faults.specs.Faults.{SaysWhatLeads, aliases_of, IsClear, IsFirstIn}
use Rattle.type_faults.specs.Finding.{or_else, first_by, first_of, Finds}

pub each_none : (holds : Module → Type 0) → Each holds []
each_none holds = λ «module» in'. absurd (contains_none «module» in')

pub each_behind : (holds : Module → Type 0) (first : Module) (more : List Module) → holds first → Each holds more → Each holds (first ∷ more)
each_behind holds first more one all «module» in' =
    ⊎_elim (λ (e : first ≡ «module»). subst holds e one) (λ (later : Contains more «module»). all «module» later) (contains_cases first «module» more in')

-- where these are the faults of each module
module _ (flaws : Module → List Flaw) where
  abbrev pub Clear : Module → Type 0
  Clear «module» = flaws «module» ≡ []

  abbrev pub First : Module → Flaw → Type 0
  First «module» flaw = IsFirst (flaws «module») flaw

  abbrev pub Says : List Module → Option ProjectFault → Type 0
  Says modules None = Each Clear modules
  Says modules (Some fault) = IsFirstOfAll Clear First modules fault

  one_more : (next : Module) (more : List Module) (own later : Option ProjectFault) → SaysIn next.name (flaws next) own →
      Says more later → Says (next ∷ more) (or_else own later)
  one_more next more (Some fault) later (flaw, first, is) all = record {
    before = [];
    «module» = next;
    after = more;
    ordered = refl;
    none = each_none Clear;
    flaw = flaw;
    one = first;
    is = is;
  }
  one_more next more None None clear all = each_behind Clear next more clear all
  one_more next more None (Some fault) clear found = record {
    before = next ∷ found.before;
    «module» = found.«module»;
    after = found.after;
    ordered = ap (λ (modules : List Module). next ∷ modules) found.ordered;
    none = each_behind Clear next found.before clear found.none;
    flaw = found.flaw;
    one = found.one;
    is = found.is;
  }

  pub says_all : (modules : List Module) → Says modules (first_by flaws modules)
  says_all [] = each_none Clear
  says_all (next ∷ more) =
      one_more next more (first_in next.name (flaws next)) (first_by flaws more) (first_in_says next.name (flaws next)) (says_all more)

pub says_leads : (aliases : List AliasText) (reached : Table) → SaysWhatReaches (refers aliases) reached → SaysWhatLeads aliases (bit_of reached)
says_leads aliases reached says a b = (λ h. says.sound a b h, λ h. says.complete a b h)

found_by : (modules : List Module) (leads : Leads) → SaysWhatLeads (aliases_of modules) leads → (found : Option ProjectFault) →
    Says (faults_in (known_in modules) (aliases_of modules) leads) modules found → Finds modules found
found_by modules leads says None all = record {
  leads = leads;
  says = says;
  clear = all;
}
found_by modules leads says (Some fault) first = record {
  leads = leads;
  says = says;
  first = first;
}

pub finds : (modules : List Module) (reached : Table) (found : Option ProjectFault) → SaysWhatReaches (refers (aliases_of modules)) reached →
    found ≡ first_of (known_in modules) (aliases_of modules) (bit_of reached) modules → Finds modules found
finds modules reached found says e =
    found_by modules (bit_of reached) (says_leads (aliases_of modules) reached says) found
    (subst (λ (o : Option ProjectFault). Says (faults_in (known_in modules) (aliases_of modules) (bit_of reached)) modules o) (sym e)
    (says_all (faults_in (known_in modules) (aliases_of modules) (bit_of reached)) modules))

-- the same by the types and aliases that were found
pub finds_at : (modules : List Module) (types : List KnownType) (aliases : List AliasText) (reached : Table) (found : Option ProjectFault) →
    types ≡ known_in modules → aliases ≡ aliases_in types modules → SaysWhatReaches (refers aliases) reached →
    found ≡ first_of types aliases (bit_of reached) modules → Finds modules found
finds_at modules types aliases reached found e f says is =
    let g : aliases ≡ aliases_of modules = f ∙ ap (λ (ts : List KnownType). aliases_in ts modules) e in
    finds modules reached found (subst (λ (xs : List AliasText). SaysWhatReaches (refers xs) reached) g says)
    (is ∙ ap (λ (ts : List KnownType). first_of ts aliases (bit_of reached) modules) e
    ∙ ap (λ (xs : List AliasText). first_of (known_in modules) xs (bit_of reached) modules) g)
