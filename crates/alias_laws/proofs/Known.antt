-- The types that names stand for are declared, and where nothing is wrong at places in a type, each name in it stands for one.
use Rattle.std.proofs.Common.{◌≡◌, ℕ, Bool, true, false, ◌&&◌, Option, List, [], ◌∷◌, ◌++◌, map, length, refl, sym, ◌∙◌, ap, subst, ◌⊎◌, inl, inr, ⊎_elim}
use Rattle.std.specs.Prelude.{if◌then◌else◌}
use Rattle.std.specs.List.{Contains}
use Rattle.std.proofs.lemmas.Bool.{cases_Bool, cond-true, cond-false, and_from, false≢true}
use Rattle.std.proofs.lemmas.List.Elements.{Contains-append_left, Contains-append_right, Contains-append_cases}
use Rattle.module_groups.proofs.Members.{contains_here, contains_cases, contains_none}
use Rattle.elm_base.specs.declared.token.At.{At}
use Rattle.elm_base.specs.declared.tree.Spot.{Spot}
use Rattle.elm_base.specs.declared.tree.Import.{Import}
use Rattle.elm_base.specs.declared.tree.Set.{Set}
use Rattle.elm_base.specs.declared.tree.Expr.{Expr}
use Rattle.elm_base.specs.declared.tree.Module.{Module}
use Rattle.elm_base.specs.declared.tree.TypeTree.{TypeTree, roll-TypeTree, map-TypeTree}
use Rattle.elm_base.specs.declared.tree.TypeTree.TheOpen as type
use Rattle.elm_base.specs.declared.tree.TypeTree.TheFolds.{fold-roll-TypeTree, ind-TypeTree}
use Rattle.elm_base.specs.declared.tree.Declaration.{Declaration, out-Declaration}
use Rattle.elm_base.specs.declared.tree.Declaration.TheOpen as tree
use Rattle.module_tops.specs.Tops.{spot_of}
use Rattle.type_names.specs.declared.known.KnownType.{KnownType}
use Rattle.type_names.specs.declared.answer.TypeAnswer.{TypeAnswer}
use Rattle.type_names.specs.declared.answer.TypeAnswer.TheVariants.{Stands, Unknown, Ambiguous}
use Rattle.type_names.specs.declared.texts.Variables.{Variables}
use Rattle.type_names.specs.Known.{known_as, known_layer, known_by, known_of, known_in}
use Rattle.type_names.specs.Answers.{gives, given, imported, is_own, own, are_of_one, settled, own_or, Places, answer_of}
use Rattle.type_names.specs.Texts.{stands_with, flaw_of_name, joined, in_fields, flaw_before, flaws_step, flaws_in}
use Rattle.alias_cycles.specs.Naming.{found_by, names_step, names_in}
use Rattle.alias_cycles.specs.Naming as naming
use Rattle.alias_expansion.specs.declared.plain_alias.PlainAlias.{PlainAlias}
use Rattle.alias_expansion.specs.Expansion.{alias_called, is_among, is_known, all_hold, fields_hold, knows_step, knows}
use Rattle.alias_laws.proofs.Lists.{comes_from, left_none, right_none, kept_was_there}
use Rattle.alias_laws.proofs.Agreeing.{IsAlias}

-- ---- what a name stands for is one of the types

settled_in : (types : List KnownType) (found : KnownType) → settled types ≡ Stands found → Contains types found
settled_in [] found h = absurd (let e : Unknown ≡ Stands found = h in cc)
settled_in (first ∷ more) found h =
    let one = are_of_one first.«module» more in
    ⊎_elim (λ (on : one ≡ true).
    let e : Stands first ≡ Stands found = sym (cond-true one (Stands first) Ambiguous on) ∙ h in
    let same : first ≡ found = cc in
    subst (λ (x : KnownType). Contains (first ∷ more) x) same (contains_here first more))
    (λ (off : one ≡ false). absurd (let e : Ambiguous ≡ Stands found = sym (cond-false one (Stands first) Ambiguous off) ∙ h in cc)) (cases_Bool one)

own_cases : (types : List KnownType) (answer : TypeAnswer) (found : KnownType) → own_or types answer ≡ Stands found →
    Contains types found ⊎ (answer ≡ Stands found)
own_cases [] answer found h = inr h
own_cases (first ∷ more) answer found h =
    let e : Stands first ≡ Stands found = h in
    let same : first ≡ found = cc in
    inl (subst (λ (x : KnownType). Contains (first ∷ more) x) same (contains_here first more))

imported_in : (types : List KnownType) (imports : List Import) (name : List ℕ) (found : KnownType) → Contains (imported types imports name) found →
    Contains types found
imported_in types imports name found h =
    let it = comes_from (given types name) imports found h in kept_was_there (gives it.source name) types found it.gives

pub answer_in : (places : Places) (name : List ℕ) (found : KnownType) → answer_of places name ≡ Stands found → Contains places.types found
answer_in places name found h =
    let defaults = imported places.types places.defaults name in
    let imports = imported places.types places.imports name in
    ⊎_elim (λ (mine : Contains (own places.types places.name name) found). kept_was_there (is_own places.name name) places.types found mine)
    (λ (e : settled (defaults ++ imports) ≡ Stands found).
    ⊎_elim (λ (first : Contains defaults found). imported_in places.types places.defaults name found first)
    (λ (second : Contains imports found). imported_in places.types places.imports name found second)
    (Contains-append_cases defaults imports found (settled_in (defaults ++ imports) found e)))
    (own_cases (own places.types places.name name) (settled (defaults ++ imports)) found h)

-- ---- an alias among the types is declared

pub record DeclaredAlias (modules : List Module) (found : KnownType) : Type 0 where
  pub home : Module
  pub declaration : Declaration
  pub home_in : Contains modules home
  pub in_home : Contains home.declarations declaration
  pub at : At
  pub name : Spot
  pub parameters : List Spot
  pub written : TypeTree
  pub is : IsAlias declaration at name parameters written
  pub home_is : found.«module» ≡ home.name
  pub name_is : found.name ≡ name.name

only_one : {X : Type 0} (x y : X) → Contains (x ∷ []) y → x ≡ y
only_one x y h = ⊎_elim (λ (e : x ≡ y). e) (λ (none : Contains [] y). absurd (contains_none y none)) (contains_cases x y [] h)

no_alias : (x found : KnownType) → x.alias ≡ false → Contains (x ∷ []) found → found.alias ≡ true → ⊥
no_alias x found off h on = false≢true (sym off ∙ ap (λ (k : KnownType). k.alias) (only_one x found h) ∙ on)

declared_by : (modules : List Module) (home : Module) (declaration : Declaration) → Contains modules home → Contains home.declarations declaration →
    (found : KnownType) → found.alias ≡ true → (layer : tree.Declaration-F Declaration Expr Set) → out-Declaration declaration ≡ layer →
    Contains (known_layer home.name home.exposes layer) found → DeclaredAlias modules found
declared_by modules home declaration home_in in_home found on (tree.Alias at name parameters written) is h =
    let same = only_one (known_as home.name home.exposes name.name (length parameters) true) found h in
    record {
      home = home;
      declaration = declaration;
      home_in = home_in;
      in_home = in_home;
      at = at;
      name = name;
      parameters = parameters;
      written = written;
      is = is;
      home_is = sym (ap (λ (k : KnownType). k.«module») same);
      name_is = sym (ap (λ (k : KnownType). k.name) same);
    }
declared_by modules home declaration home_in in_home found on (tree.Union at name parameters constructors) is h =
    absurd (no_alias (known_as home.name home.exposes name.name (length parameters) false) found refl h on)
declared_by modules home declaration home_in in_home found on (tree.Opaque at name parameters) is h =
    absurd (no_alias (known_as home.name home.exposes name (length parameters) false) found refl h on)
declared_by modules home declaration home_in in_home found on (tree.Annotation at name written) is h = absurd (contains_none found h)
declared_by modules home declaration home_in in_home found on (tree.Definition at name patterns body) is h = absurd (contains_none found h)
declared_by modules home declaration home_in in_home found on (tree.PatternDefinition at pattern body) is h = absurd (contains_none found h)
declared_by modules home declaration home_in in_home found on (tree.PortAnnotation at name written) is h = absurd (contains_none found h)
declared_by modules home declaration home_in in_home found on (tree.PortDefinition at name body) is h = absurd (contains_none found h)
declared_by modules home declaration home_in in_home found on (tree.Levels at side level operator) is h = absurd (contains_none found h)
declared_by modules home declaration home_in in_home found on (tree.Native at name written number) is h = absurd (contains_none found h)
declared_by modules home declaration home_in in_home found on (tree.Device at name written) is h = absurd (contains_none found h)

pub alias_declared : (modules : List Module) (found : KnownType) → Contains (known_in modules) found → found.alias ≡ true → DeclaredAlias modules found
alias_declared modules found h on =
    let one = comes_from known_of modules found h in
    let two = comes_from (known_by one.source.name one.source.exposes) one.source.declarations found one.gives in
    declared_by modules one.source two.source one.listed two.listed found on (out-Declaration two.source) refl two.gives

-- ---- a type without flaws

module _ (table : List PlainAlias) (places : Places) where
  -- each alias of the project among these is written out
  abbrev pub AreListed : List KnownType → Type 0
  AreListed types = (found : KnownType) → Contains types found → Contains places.types found → found.alias ≡ true →
      is_among (alias_called table found.«module» found.name) ≡ true

  listed_left : (xs ys : List KnownType) → AreListed (xs ++ ys) → AreListed xs
  listed_left xs ys all found h = all found (Contains-append_left xs ys found h)

  listed_right : (xs ys : List KnownType) → AreListed (xs ++ ys) → AreListed ys
  listed_right xs ys all found h = all found (Contains-append_right xs ys found h)

  alias_or : (alias : Bool) (among : Bool) → (alias ≡ true → among ≡ true) → (if alias then among else true) ≡ true
  alias_or true among h = h refl
  alias_or false among h = refl

  one_known : (name : List ℕ) (answer : TypeAnswer) → answer_of places name ≡ answer → (count : ℕ) → stands_with answer count ≡ true →
      AreListed (found_by answer) → is_known table answer ≡ true
  one_known name (Stands found) e count h all =
      alias_or found.alias (is_among (alias_called table found.«module» found.name)) (all found (contains_here found []) (answer_in places name found e))
  one_known name Unknown e count h all = absurd (false≢true h)
  one_known name Ambiguous e count h all = absurd (false≢true h)

  no_flaw : (at : At) (name : List ℕ) (count : ℕ) → flaw_of_name places at name count ≡ [] → stands_with (answer_of places name) count ≡ true
  no_flaw at name count h =
      let it = stands_with (answer_of places name) count in
      ⊎_elim (λ (on : it ≡ true). on)
      (λ (off : it ≡ false). absurd (let e : spot_of at name ∷ [] ≡ [] = sym (cond-false it [] (spot_of at name ∷ []) off) ∙ h in cc)) (cases_Bool it)

  module _ (variables : Variables) (parameters : List Spot) where
    abbrev flaws : TypeTree → List Spot
    flaws = flaws_in places variables parameters

    abbrev names : TypeTree → List KnownType
    names = names_in places

    abbrev Holds : TypeTree → Type 0
    Holds tree = flaws tree ≡ [] → AreListed (names tree) → knows table places tree ≡ true

    abbrev Sure : Type 0
    Sure = (tree : TypeTree) × Holds tree

    abbrev trees_of : List Sure → List TypeTree
    trees_of parts = map (λ (p : Sure). p.0) parts

    all_sure : (parts : List Sure) → joined (map flaws (trees_of parts)) ≡ [] → AreListed (naming.joined (map names (trees_of parts))) →
        all_hold (map (knows table places) (trees_of parts)) ≡ true
    all_sure [] h all = refl
    all_sure (p ∷ ps) h all =
        let mine = flaws p.0 in
        let rest = joined (map flaws (trees_of ps)) in
        and_from (knows table places p.0) (all_hold (map (knows table places) (trees_of ps)))
        (p.1 (left_none mine rest h) (listed_left (names p.0) (naming.joined (map names (trees_of ps))) all))
        (all_sure ps (right_none mine rest h) (listed_right (names p.0) (naming.joined (map names (trees_of ps))) all))

    abbrev Labelled : Type 0
    Labelled = Spot × Sure

    abbrev fields_of : List Labelled → List (Spot × TypeTree)
    fields_of fields = map (λ (f : Labelled). (f.0, f.1.0)) fields

    abbrev at_fields : {A : Type 0} → (TypeTree → A) → List Labelled → List (Spot × A)
    at_fields g fields = map (λ (f : Spot × TypeTree). (f.0, g f.1)) (fields_of fields)

    fields_sure : (fields : List Labelled) → in_fields (at_fields flaws fields) ≡ [] → AreListed (naming.in_fields (at_fields names fields)) →
        fields_hold (at_fields (knows table places) fields) ≡ true
    fields_sure [] h all = refl
    fields_sure (f ∷ fs) h all =
        let mine = flaws f.1.0 in
        let rest = in_fields (at_fields flaws fs) in
        and_from (knows table places f.1.0) (fields_hold (at_fields (knows table places) fs))
        (f.1.1 (left_none mine rest h) (listed_left (names f.1.0) (naming.in_fields (at_fields names fs)) all))
        (fields_sure fs (right_none mine rest h) (listed_right (names f.1.0) (naming.in_fields (at_fields names fs)) all))

    abbrev Layer : Type 0
    Layer = type.TypeTree-F TypeTree

    abbrev flaws_layer : Layer → List Spot
    flaws_layer x = flaws_step places variables parameters (map-TypeTree TypeTree (List Spot) flaws x)

    abbrev names_layer : Layer → List KnownType
    names_layer x = names_step places (map-TypeTree TypeTree (List KnownType) names x)

    abbrev knows_layer : Layer → Bool
    knows_layer x = knows_step table places (map-TypeTree TypeTree Bool (knows table places) x)

    node : (x : Layer) → (flaws_layer x ≡ [] → AreListed (names_layer x) → knows_layer x ≡ true) → Holds (roll-TypeTree x)
    node x e h all =
        fold-roll-TypeTree Bool (knows_step table places) x
        ∙ e (sym (fold-roll-TypeTree (List Spot) (flaws_step places variables parameters) x) ∙ h)
        (subst AreListed (fold-roll-TypeTree (List KnownType) (names_step places) x) all)

    named_sure : (at : At) (name : List ℕ) (parts : List Sure) → flaws_layer (type.Named at name (trees_of parts)) ≡ [] →
        AreListed (names_layer (type.Named at name (trees_of parts))) → knows_layer (type.Named at name (trees_of parts)) ≡ true
    named_sure at name parts h all =
        let count = length (map flaws (trees_of parts)) in
        let own = flaw_of_name places at name count in
        let rest = joined (map flaws (trees_of parts)) in
        let answer = answer_of places name in
        let inner = naming.joined (map names (trees_of parts)) in
        and_from (is_known table answer) (all_hold (map (knows table places) (trees_of parts)))
        (one_known name answer refl count (no_flaw at name count (left_none own rest h)) (listed_left (found_by answer) inner all))
        (all_sure parts (right_none own rest h) (listed_right (found_by answer) inner all))

    arrow_sure : (a b : Sure) → (flaws a.0 ++ flaws b.0) ≡ [] → AreListed (names a.0 ++ names b.0) →
        (knows table places a.0 && knows table places b.0) ≡ true
    arrow_sure a b h all =
        and_from (knows table places a.0) (knows table places b.0)
        (a.1 (left_none (flaws a.0) (flaws b.0) h) (listed_left (names a.0) (names b.0) all))
        (b.1 (right_none (flaws a.0) (flaws b.0) h) (listed_right (names a.0) (names b.0) all))

    record_sure : (before : Option Spot) (fields : List Labelled) → (flaw_before variables parameters before ++ in_fields (at_fields flaws fields)) ≡ [] →
        AreListed (naming.in_fields (at_fields names fields)) → fields_hold (at_fields (knows table places) fields) ≡ true
    record_sure before fields h all =
        fields_sure fields (right_none (flaw_before variables parameters before) (in_fields (at_fields flaws fields)) h) all

    layer_sure : (y : type.TypeTree-F Sure) → Holds (roll-TypeTree (map-TypeTree Sure TypeTree (λ (p : Sure). p.0) y))
    layer_sure (type.Variable at name) = node (type.Variable at name) (λ h all. refl)
    layer_sure (type.Named at name parts) = node (type.Named at name (trees_of parts)) (named_sure at name parts)
    layer_sure (type.Arrow at a b) = node (type.Arrow at a.0 b.0) (arrow_sure a b)
    layer_sure (type.Unit at) = node (type.Unit at) (λ h all. refl)
    layer_sure (type.Tuple at parts) = node (type.Tuple at (trees_of parts)) (all_sure parts)
    layer_sure (type.Brackets at inner) = node (type.Brackets at inner.0) inner.1
    layer_sure (type.Fields at before fields) = node (type.Fields at before (fields_of fields)) (record_sure before fields)

    pub known_where_clear : (tree : TypeTree) → Holds tree
    known_where_clear = ind-TypeTree Holds (λ x y is. subst (λ z. Holds (roll-TypeTree z)) is (layer_sure y))
