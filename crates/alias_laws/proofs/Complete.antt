-- In a project without faults in the texts of its types each alias is written out.
use Rattle.std.proofs.Common.{◌≡◌, ℕ, zero, suc, ◌<◌, true, false, List, [], ◌∷◌, Option, Some, None, length, refl, sym, ◌∙◌, ap, ap₂, subst, arith, ⊎_elim}
use Rattle.std.specs.Prelude.{slice_get}
use Rattle.std.specs.Str.{bytes_eq}
use Rattle.std.specs.List.{Contains, filter, range_with_len}
use Rattle.std.proofs.lemmas.Bool.{cases_Bool, cond-true, and_from, false≢true, false_from_ne_true}
use Rattle.std.proofs.lemmas.Slice.Eq.{bytes_eq-Decides}
use Rattle.module_groups.specs.Groups.{at_once, over}
use Rattle.module_groups.proofs.Members.{contains_here, range_has, counts_less}
use Rattle.elm_base.specs.declared.fault.FaultKind.TheVariants as kind
use Rattle.elm_base.specs.declared.token.At.{At}
use Rattle.elm_base.specs.declared.tree.Spot.{Spot}
use Rattle.elm_base.specs.declared.tree.TypeTree.{TypeTree}
use Rattle.elm_base.specs.declared.tree.Set.{Set}
use Rattle.elm_base.specs.declared.tree.Expr.{Expr}
use Rattle.elm_base.specs.declared.tree.Module.{Module}
use Rattle.elm_base.specs.declared.tree.Declaration.{Declaration, out-Declaration}
use Rattle.elm_base.specs.declared.tree.Declaration.TheOpen as tree
use Rattle.module_names.specs.Flaws.{flaw_of}
use Rattle.type_names.specs.declared.known.KnownType.{KnownType}
use Rattle.type_names.specs.declared.texts.Variables.{Variables}
use Rattle.type_names.specs.declared.texts.Variables.TheVariants.{Parameters}
use Rattle.type_names.specs.Known.{known_in}
use Rattle.type_names.specs.Answers.{Places, places_in}
use Rattle.type_names.specs.Texts.{flaws_in, flaws_layer, flaws_of}
use Rattle.let_annotations.specs.Annotations.{inside}
use Rattle.alias_cycles.specs.declared.texts.AliasText.{AliasText}
use Rattle.alias_cycles.specs.Naming as naming
use Rattle.alias_cycles.specs.Cycles.{is_alias, names_one, refers}
use Rattle.alias_expansion.specs.declared.plain_alias.PlainAlias.{PlainAlias}
use Rattle.alias_expansion.specs.Expansion.{alias_called, is_among, knows}
use Rattle.alias_expansion.specs.Table.{is_empty, is_clear, is_listed, AreWrittenOut}
use Rattle.type_faults.specs.Flaws.{Leads, is_called, leads_back, is_endless, endless_by, endless_layer, endless_of, place_of, fault_at, wrong_in, own_fault, let_faults, faults_of}
use Rattle.type_faults.specs.Faults.{HasNoTextFault, aliases_of}
use Rattle.alias_laws.specs.Once.{alias_name_layer, IsAliasOf}
use Rattle.alias_laws.proofs.Lists.{goes_in, none_in, left_none, right_none, stands_at, any_one, none_one}
use Rattle.alias_laws.proofs.Agreeing.{IsAlias, listed_by}
use Rattle.alias_laws.proofs.Known.{AreListed, alias_declared, known_where_clear}

no_fault : (at : At) (wrong : List Spot) → fault_at at wrong ≡ [] → wrong ≡ []
no_fault at [] h = refl
no_fault at (first ∷ more) h = absurd (let e : flaw_of kind.BadType at first.name ∷ [] ≡ [] = h in cc)

abbrev text : Places → List ℕ → TypeTree → AliasText
text places name written = record { «module» = places.name; name = name; names = naming.names_in places written }

itself : (name : List ℕ) → bytes_eq name name ≡ true
itself name = (bytes_eq-Decides name name).1 refl

module _ (modules : List Module) (table : List PlainAlias) (none : HasNoTextFault modules) (out : AreWrittenOut (known_in modules) modules table) where
  abbrev texts : List AliasText
  texts = aliases_of modules

  abbrev leads : Leads
  leads = none.leads

  abbrev places : Module → Places
  places home = places_in (known_in modules) home

  -- an alias of the project, with its number
  pub record Numbered (a : ℕ) : Type 0 where
    pub home : Module
    pub declaration : Declaration
    pub home_in : Contains modules home
    pub in_home : Contains home.declarations declaration
    pub at : At
    pub name : Spot
    pub parameters : List Spot
    pub written : TypeTree
    pub is : IsAlias declaration at name parameters written
    pub within : a < length texts
    pub here : slice_get texts a ≡ Some (text (places home) name.name written)

  pub record NumberOf (home : Module) (name : Spot) : Type 0 where
    pub place : ℕ
    pub it : Numbered place
    pub home_is : it.home ≡ home
    pub name_is : it.name ≡ name

  text_in : (home : Module) (declaration : Declaration) → Contains modules home → Contains home.declarations declaration →
      (at : At) (name : Spot) (parameters : List Spot) (written : TypeTree) → IsAlias declaration at name parameters written →
      Contains texts (text (places home) name.name written)
  text_in home declaration home_in in_home at name parameters written is =
      let it = text (places home) name.name written in
      let own : Contains (naming.alias_of (places home) declaration) it =
      subst (λ (layer : tree.Declaration-F Declaration Expr Set). Contains (naming.alias_layer (places home) layer) it) (sym is) (contains_here it []) in
      goes_in (naming.aliases_of (known_in modules)) modules home it home_in
      (goes_in (naming.alias_of (places home)) home.declarations declaration it in_home own)

  number : (home : Module) (declaration : Declaration) → Contains modules home → Contains home.declarations declaration →
      (at : At) (name : Spot) (parameters : List Spot) (written : TypeTree) → IsAlias declaration at name parameters written →
      NumberOf home name
  number home declaration home_in in_home at name parameters written is =
      let it = stands_at texts (text (places home) name.name written) (text_in home declaration home_in in_home at name parameters written is) in
      record {
        place = it.place;
        it = record {
          home = home;
          declaration = declaration;
          home_in = home_in;
          in_home = in_home;
          at = at;
          name = name;
          parameters = parameters;
          written = written;
          is = is;
          within = it.within;
          here = it.found;
        };
        home_is = refl;
        name_is = refl;
      }

  -- ---- nothing is wrong in it

  nothing_wrong : (home : Module) (declaration : Declaration) → Contains modules home → Contains home.declarations declaration →
      wrong_in (places home) texts leads declaration ≡ []
  nothing_wrong home declaration home_in in_home =
      no_fault (place_of declaration) (wrong_in (places home) texts leads declaration)
      (left_none (own_fault (places home) texts leads declaration) (let_faults (places home) (inside declaration))
      (none_in (faults_of (places home) texts leads) home.declarations declaration in_home (none.clear home home_in)))

  no_flaws : (a : ℕ) (x : Numbered a) → flaws_in (places x.home) Parameters x.parameters x.written ≡ []
  no_flaws a x =
      ap (flaws_layer (places x.home)) (sym x.is)
      ∙ left_none (flaws_of (places x.home) x.declaration) (endless_of texts leads x.home.name x.declaration)
      (nothing_wrong x.home x.declaration x.home_in x.in_home)

  not_endless : (a : ℕ) (x : Numbered a) → is_endless texts leads x.home.name x.name.name ≡ false
  not_endless a x =
      let it = is_endless texts leads x.home.name x.name.name in
      let e : endless_by texts leads x.home.name x.name ≡ [] =
      ap (endless_layer texts leads x.home.name) (sym x.is)
      ∙ right_none (flaws_of (places x.home) x.declaration) (endless_of texts leads x.home.name x.declaration)
      (nothing_wrong x.home x.declaration x.home_in x.in_home) in
      ⊎_elim (λ (on : it ≡ true). absurd (let f : x.name ∷ [] ≡ [] = sym (cond-true it (x.name ∷ []) [] on) ∙ e in cc))
      (λ (off : it ≡ false). off) (cases_Bool it)

  called : (a : ℕ) (x : Numbered a) → is_called x.home.name x.name.name (slice_get texts a) ≡ true
  called a x =
      ap (is_called x.home.name x.name.name) x.here
      ∙ and_from (bytes_eq x.home.name x.home.name) (bytes_eq x.name.name x.name.name) (itself x.home.name) (itself x.name.name)

  -- it doesn't lead back to itself
  not_back : (a : ℕ) (x : Numbered a) → leads a a ≡ false
  not_back a x =
      false_from_ne_true (leads a a) (λ (on : leads a a ≡ true).
      false≢true (sym (none_one (leads_back texts leads x.home.name x.name.name) (range_with_len 0 (length texts)) a
      (range_has 0 (length texts) a (omega arith) (let below = x.within in omega (arith, below))) (not_endless a x))
      ∙ and_from (is_called x.home.name x.name.name (slice_get texts a)) (leads a a) (called a x) on))

  -- ---- to how many aliases it leads

  abbrev count : ℕ → ℕ
  count a = length (filter (leads a) (range_with_len 0 (length texts)))

  fewer : (a b : ℕ) → Numbered b → leads a b ≡ true → count b < count a
  fewer a b y on =
      counts_less (leads b) (leads a) (λ c h. (none.says a c).1 (over ((none.says a b).0 on) ((none.says b c).0 h)))
      (range_with_len 0 (length texts)) b (range_has 0 (length texts) b (omega arith) (let below = y.within in omega (arith, below)))
      (not_back b y) on

  -- ---- the aliases that it names

  refers_to : (a b : ℕ) (x : Numbered a) (y : Numbered b) (found : KnownType) → Contains (naming.names_in (places x.home) x.written) found →
      found.«module» ≡ y.home.name → found.name ≡ y.name.name → refers texts a b ≡ true
  refers_to a b x y found in' home name =
      let own = text (places x.home) x.name.name x.written in
      let other = text (places y.home) y.name.name y.written in
      ap (λ (o : Option AliasText). names_one o (slice_get texts b)) x.here
      ∙ ap (λ (o : Option AliasText). names_one (Some own) o) y.here
      ∙ any_one (is_alias other) own.names found in'
      (and_from (bytes_eq found.«module» other.«module») (bytes_eq found.name other.name)
      ((bytes_eq-Decides found.«module» other.«module»).1 home) ((bytes_eq-Decides found.name other.name).1 name))

  clear_is : (spots : List Spot) → spots ≡ [] → is_empty spots ≡ true
  clear_is [] h = refl
  clear_is (x ∷ xs) h = absurd (let e : x ∷ xs ≡ [] = h in cc)

  abbrev IsListed : (home : Module) → Spot → Type 0
  IsListed home name = is_listed table home.name name.name ≡ true

  listed_below : (m a : ℕ) (x : Numbered a) → count a < m → IsListed x.home x.name
  listed_below zero a x h = absurd (omega (arith, h))
  listed_below (suc m) a x h =
      let here = places x.home in
      let clear = no_flaws a x in
      let named : AreListed table here (naming.names_in here x.written) = λ found in' known on.
      let declared = alias_declared modules found known on in
      let next = number declared.home declared.declaration declared.home_in declared.in_home declared.at declared.name declared.parameters declared.written declared.is in
      let home : found.«module» ≡ next.it.home.name = declared.home_is ∙ ap (λ (m : Module). m.name) (sym next.home_is) in
      let name : found.name ≡ next.it.name.name = declared.name_is ∙ ap (λ (s : Spot). s.name) (sym next.name_is) in
      let leads_on : leads a next.place ≡ true = (none.says a next.place).1 (at_once (refers_to a next.place x next.it found in' home name)) in
      let less = fewer a next.place next.it leads_on in
      ap₂ (λ (m n : List ℕ). is_among (alias_called table m n)) home name ∙ listed_below m next.place next.it (omega (arith, h, less)) in
      let known : knows table here x.written ≡ true = known_where_clear table here Parameters x.parameters x.written clear named in
      listed_by table (out-Declaration x.declaration) here x.at x.name x.parameters x.written x.is (out.done x.home x.home_in x.declaration x.in_home)
      (and_from (is_clear here x.parameters x.written) (knows table here x.written) (clear_is (flaws_in here Parameters x.parameters x.written) clear) known)

  pub all_listed : (home : Module) (declaration : Declaration) → Contains modules home → Contains home.declarations declaration →
      (at : At) (name : Spot) (parameters : List Spot) (written : TypeTree) → IsAlias declaration at name parameters written →
      is_listed table home.name name.name ≡ true
  all_listed home declaration home_in in_home at name parameters written is =
      let it = number home declaration home_in in_home at name parameters written is in
      ap₂ (λ (h : Module) (n : Spot). is_listed table h.name n.name) (sym it.home_is) (sym it.name_is)
      ∙ listed_below (suc (count it.place)) it.place it.it (omega arith)

  pub all_known : (home : Module) (variables : Variables) (parameters : List Spot) (written : TypeTree) →
      flaws_in (places home) variables parameters written ≡ [] → knows table (places home) written ≡ true
  all_known home variables parameters written clear =
      known_where_clear table (places home) variables parameters written clear (λ found in' known on.
      let declared = alias_declared modules found known on in
      ap₂ (λ (m n : List ℕ). is_among (alias_called table m n)) declared.home_is declared.name_is
      ∙ all_listed declared.home declared.declaration declared.home_in declared.in_home declared.at declared.name declared.parameters declared.written declared.is)

  alias_listed : (home name : List ℕ) («module» : Module) (declaration : Declaration) → IsAliasOf modules home name «module» declaration →
      (layer : tree.Declaration-F Declaration Expr Set) → out-Declaration declaration ≡ layer → alias_name_layer layer ≡ Some name →
      is_listed table home name ≡ true
  alias_listed home name «module» declaration it (tree.Alias at spot parameters written) is named =
      let same : Some spot.name ≡ Some name = named in
      let e : spot.name ≡ name = cc in
      ap₂ (λ (m n : List ℕ). is_listed table m n) (sym it.home_is) (sym e)
      ∙ all_listed «module» declaration it.module_in it.in_module at spot parameters written is
  alias_listed home name «module» declaration it (tree.Union at spot parameters constructors) is named = absurd (let e : None ≡ Some name = named in cc)
  alias_listed home name «module» declaration it (tree.Annotation at of written) is named = absurd (let e : None ≡ Some name = named in cc)
  alias_listed home name «module» declaration it (tree.Definition at of patterns body) is named = absurd (let e : None ≡ Some name = named in cc)
  alias_listed home name «module» declaration it (tree.PatternDefinition at pattern body) is named = absurd (let e : None ≡ Some name = named in cc)
  alias_listed home name «module» declaration it (tree.PortAnnotation at of written) is named = absurd (let e : None ≡ Some name = named in cc)
  alias_listed home name «module» declaration it (tree.PortDefinition at of body) is named = absurd (let e : None ≡ Some name = named in cc)
  alias_listed home name «module» declaration it (tree.Levels at side level operator) is named = absurd (let e : None ≡ Some name = named in cc)
  alias_listed home name «module» declaration it (tree.Native at of written number) is named = absurd (let e : None ≡ Some name = named in cc)
  alias_listed home name «module» declaration it (tree.Device at of written) is named = absurd (let e : None ≡ Some name = named in cc)
  alias_listed home name «module» declaration it (tree.Opaque at of parameters) is named = absurd (let e : None ≡ Some name = named in cc)

  pub each_listed : (home name : List ℕ) («module» : Module) (declaration : Declaration) → IsAliasOf modules home name «module» declaration →
      is_listed table home name ≡ true
  each_listed home name «module» declaration it = alias_listed home name «module» declaration it (out-Declaration declaration) refl it.name_is
