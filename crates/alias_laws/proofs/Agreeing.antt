-- Two tables of all aliases that can be written out have the same aliases.
use Rattle.std.proofs.Common.{◌≡◌, ℕ, Bool, true, false, ◌&&◌, Option, Some, None, List, [], ◌∷◌, ◌++◌, map, refl, sym, ◌∙◌, ap, ap₂, subst, ◌⊎◌, inl, inr, ⊎_elim}
use Rattle.std.specs.Prelude.{if◌then◌else◌}
use Rattle.std.specs.List.{Contains}
use Rattle.std.specs.Str.{bytes_eq}
use Rattle.std.proofs.lemmas.Bool.{cases_Bool, cond-true, cond-false, and_parts, and_from}
use Rattle.std.proofs.lemmas.Slice.Eq.{bytes_eq-Decides}
use mathlib.Core.Path.{fun_ext}
use Rattle.elm_base.specs.declared.token.At.{At}
use Rattle.elm_base.specs.declared.tree.Spot.{Spot}
use Rattle.elm_base.specs.declared.tree.TypeTree.{TypeTree}
use Rattle.elm_base.specs.declared.tree.TypeTree.TheOpen as type
use Rattle.elm_base.specs.declared.tree.TypeTree.TheFolds.{fold-TypeTree}
use Rattle.elm_base.specs.declared.tree.Set.{Set}
use Rattle.elm_base.specs.declared.tree.Expr.{Expr}
use Rattle.elm_base.specs.declared.tree.Module.{Module}
use Rattle.elm_base.specs.declared.tree.Declaration.{Declaration, out-Declaration}
use Rattle.elm_base.specs.declared.tree.Declaration.TheOpen as tree
use Rattle.type_names.specs.declared.known.KnownType.{KnownType}
use Rattle.type_names.specs.declared.answer.TypeAnswer.{TypeAnswer}
use Rattle.type_names.specs.declared.answer.TypeAnswer.TheVariants.{Stands, Unknown, Ambiguous}
use Rattle.type_names.specs.Answers.{Places, places_in, answer_of, dotted}
use Rattle.alias_expansion.specs.declared.plain_alias.PlainAlias.{PlainAlias}
use Rattle.alias_expansion.specs.Parts.{named}
use Rattle.alias_expansion.specs.Expansion.{is_called, alias_called, applied, meant, plain_step, plain, is_among, is_known, all_hold, knows_step, knows}
use Rattle.alias_expansion.specs.Table.{is_clear, is_listed, plain_alias, can_be, added_alias, added_layer, added, IsBuilt, begun, further, AreWrittenOut}
use Rattle.alias_laws.specs.Once.{alias_name_layer, IsAliasOf, AliasesOnce}
use Rattle.alias_laws.proofs.Within.{Within, among_some, stands_for_the_same, within_more}

-- ---- what a declaration adds

abbrev pub IsAlias : Declaration → At → Spot → List Spot → TypeTree → Type 0
IsAlias declaration at name parameters written = out-Declaration declaration ≡ tree.Alias at name parameters written

-- the declaration is an alias that these don't have, and it adds this one
pub record Adds (aliases : List PlainAlias) (places : Places) (declaration : Declaration) (alias : PlainAlias) : Type 0 where
  pub at : At
  pub name : Spot
  pub parameters : List Spot
  pub written : TypeTree
  pub is : IsAlias declaration at name parameters written
  pub can : can_be aliases places parameters written ≡ true
  pub entry : alias ≡ plain_alias aliases places name parameters written

called_one : («module» name : List ℕ) (entry alias : PlainAlias) → alias_called (entry ∷ []) «module» name ≡ Some alias → entry ≡ alias
called_one «module» name entry alias h =
    ⊎_elim (λ (on : is_called «module» name entry ≡ true).
    let e : Some entry ≡ Some alias = sym (cond-true (is_called «module» name entry) (Some entry) None on) ∙ h in cc)
    (λ (off : is_called «module» name entry ≡ false).
    absurd (let e : None ≡ Some alias = sym (cond-false (is_called «module» name entry) (Some entry) None off) ∙ h in cc))
    (cases_Bool (is_called «module» name entry))

none_called : («module» name : List ℕ) (alias : PlainAlias) → alias_called [] «module» name ≡ Some alias → ⊥
none_called «module» name alias h = let e : None ≡ Some alias = h in cc

module _ (aliases : List PlainAlias) (places : Places) (declaration : Declaration) where
  adds_alias : (at : At) (name : Spot) (parameters : List Spot) (written : TypeTree) → IsAlias declaration at name parameters written →
      («module» of : List ℕ) (alias : PlainAlias) → alias_called (added_alias aliases places name parameters written) «module» of ≡ Some alias →
      Adds aliases places declaration alias
  adds_alias at name parameters written is «module» of alias h =
      let entry = plain_alias aliases places name parameters written in
      let listed = is_listed aliases places.name name.name in
      let can = can_be aliases places parameters written in
      let behind : List PlainAlias = if can then entry ∷ [] else [] in
      ⊎_elim (λ (on : listed ≡ true).
      absurd (none_called «module» of alias
      (ap (λ (xs : List PlainAlias). alias_called xs «module» of) (sym (cond-true listed [] behind on)) ∙ h)))
      (λ (off : listed ≡ false).
      let inner : alias_called behind «module» of ≡ Some alias =
      ap (λ (xs : List PlainAlias). alias_called xs «module» of) (sym (cond-false listed [] behind off)) ∙ h in
      ⊎_elim (λ (yes' : can ≡ true). record {
        at = at;
        name = name;
        parameters = parameters;
        written = written;
        is = is;
        can = yes';
        entry = sym (called_one «module» of entry alias
            (ap (λ (xs : List PlainAlias). alias_called xs «module» of) (sym (cond-true can (entry ∷ []) [] yes')) ∙ inner));
      })
      (λ (no' : can ≡ false).
      absurd (none_called «module» of alias
      (ap (λ (xs : List PlainAlias). alias_called xs «module» of) (sym (cond-false can (entry ∷ []) [] no')) ∙ inner)))
      (cases_Bool can)) (cases_Bool listed)

  adds_by : (layer : tree.Declaration-F Declaration Expr Set) → out-Declaration declaration ≡ layer → («module» of : List ℕ) (alias : PlainAlias) →
      alias_called (added_layer aliases places layer) «module» of ≡ Some alias → Adds aliases places declaration alias
  adds_by (tree.Alias at name parameters written) is «module» of alias h = adds_alias at name parameters written is «module» of alias h
  adds_by (tree.Union at name parameters constructors) is «module» of alias h = absurd (none_called «module» of alias h)
  adds_by (tree.Annotation at name written) is «module» of alias h = absurd (none_called «module» of alias h)
  adds_by (tree.Definition at name patterns body) is «module» of alias h = absurd (none_called «module» of alias h)
  adds_by (tree.PatternDefinition at pattern body) is «module» of alias h = absurd (none_called «module» of alias h)
  adds_by (tree.PortAnnotation at name written) is «module» of alias h = absurd (none_called «module» of alias h)
  adds_by (tree.PortDefinition at name body) is «module» of alias h = absurd (none_called «module» of alias h)
  adds_by (tree.Levels at side level operator) is «module» of alias h = absurd (none_called «module» of alias h)
  adds_by (tree.Native at name written number) is «module» of alias h = absurd (none_called «module» of alias h)
  adds_by (tree.Device at name written) is «module» of alias h = absurd (none_called «module» of alias h)
  adds_by (tree.Opaque at name parameters) is «module» of alias h = absurd (none_called «module» of alias h)

  adds : («module» of : List ℕ) (alias : PlainAlias) → alias_called (added aliases places declaration) «module» of ≡ Some alias →
      Adds aliases places declaration alias
  adds = adds_by (out-Declaration declaration) refl

-- an alias of a longer table stands in the shorter one, or among what is new
called_cases : (aliases more : List PlainAlias) («module» name : List ℕ) (alias : PlainAlias) → alias_called (aliases ++ more) «module» name ≡ Some alias →
    (alias_called aliases «module» name ≡ Some alias) ⊎ (alias_called more «module» name ≡ Some alias)
called_cases [] more «module» name alias h = inr h
called_cases (a ∷ as') more «module» name alias h =
    let test = is_called «module» name a in
    ⊎_elim (λ (on : test ≡ true).
    inl (cond-true test (Some a) (alias_called as' «module» name) on ∙ sym (cond-true test (Some a) (alias_called (as' ++ more) «module» name) on) ∙ h))
    (λ (off : test ≡ false).
    ⊎_elim (λ (old : alias_called as' «module» name ≡ Some alias). inl (cond-false test (Some a) (alias_called as' «module» name) off ∙ old))
    (λ (new : alias_called more «module» name ≡ Some alias). inr new)
    (called_cases as' more «module» name alias (sym (cond-false test (Some a) (alias_called (as' ++ more) «module» name) off) ∙ h)))
    (cases_Bool test)

-- an alias that is found has the names by which it was looked for
found_named : (aliases : List PlainAlias) («module» name : List ℕ) (alias : PlainAlias) → alias_called aliases «module» name ≡ Some alias →
    (alias.«module» ≡ «module») × (alias.name ≡ name)
found_named [] «module» name alias h = absurd (none_called «module» name alias h)
found_named (a ∷ as') «module» name alias h =
    let test = is_called «module» name a in
    ⊎_elim (λ (on : test ≡ true).
    let e : Some a ≡ Some alias = sym (cond-true test (Some a) (alias_called as' «module» name) on) ∙ h in
    let same : a ≡ alias = cc in
    let both = and_parts (bytes_eq a.«module» «module») (bytes_eq a.name name) on in
    subst (λ (x : PlainAlias). (x.«module» ≡ «module») × (x.name ≡ name)) same
    ((bytes_eq-Decides a.«module» «module»).0 both.0, (bytes_eq-Decides a.name name).0 both.1))
    (λ (off : test ≡ false). found_named as' «module» name alias (sym (cond-false test (Some a) (alias_called as' «module» name) off) ∙ h)) (cases_Bool test)

-- what can be written out, and can't be added, is in the table
pub listed_by : (two : List PlainAlias) (layer : tree.Declaration-F Declaration Expr Set) (places : Places) (at : At) (name : Spot) (parameters : List Spot)
    (written : TypeTree) → layer ≡ tree.Alias at name parameters written → added_layer two places layer ≡ [] →
    can_be two places parameters written ≡ true → is_listed two places.name name.name ≡ true
listed_by two layer places at name parameters written is none can =
    let listed = is_listed two places.name name.name in
    let entry = plain_alias two places name parameters written in
    let can' = can_be two places parameters written in
    let behind : List PlainAlias = if can' then entry ∷ [] else [] in
    let empty : added_alias two places name parameters written ≡ [] = ap (added_layer two places) (sym is) ∙ none in
    ⊎_elim (λ (on : listed ≡ true). on)
    (λ (off : listed ≡ false).
    absurd (let e : entry ∷ [] ≡ [] = sym (cond-true can' (entry ∷ []) [] can) ∙ sym (cond-false listed [] behind off) ∙ empty in cc))
    (cases_Bool listed)

module _ (types : List KnownType) (modules : List Module) where
  -- where an alias of a table comes from
  pub record Origin (aliases : List PlainAlias) (alias : PlainAlias) : Type 0 where
    pub before : List PlainAlias
    pub within : Within before aliases
    pub home : Module
    pub declaration : Declaration
    pub home_in : Contains modules home
    pub in_home : Contains home.declarations declaration
    pub adds : Adds before (places_in types home) declaration alias

  -- the table may grow
  origin_more : (aliases more : List PlainAlias) (alias : PlainAlias) → Origin aliases alias → Origin (aliases ++ more) alias
  origin_more aliases more alias o = record {
    before = o.before;
    within = λ «module» name a h. within_more aliases more «module» name a (o.within «module» name a h);
    home = o.home;
    declaration = o.declaration;
    home_in = o.home_in;
    in_home = o.in_home;
    adds = o.adds;
  }

  pub origin : (aliases : List PlainAlias) → IsBuilt types modules aliases → («module» name : List ℕ) (alias : PlainAlias) →
      alias_called aliases «module» name ≡ Some alias → Origin aliases alias
  origin [] begun «module» name alias h = absurd (none_called «module» name alias h)
  origin _ (further aliases home declaration built home_in in_home) «module» name alias h =
      let new = added aliases (places_in types home) declaration in
      ⊎_elim (λ (old : alias_called aliases «module» name ≡ Some alias). origin_more aliases new alias (origin aliases built «module» name alias old))
      (λ (now : alias_called new «module» name ≡ Some alias). record {
        before = aliases;
        within = within_more aliases new;
        home = home;
        declaration = declaration;
        home_in = home_in;
        in_home = in_home;
        adds = adds aliases (places_in types home) declaration «module» name alias now;
      })
      (called_cases aliases new «module» name alias h)

  module _ (once : AliasesOnce modules) (two : List PlainAlias) (out : AreWrittenOut types modules two) where
    -- what a shorter table says of a text that can be written out by it
    same_text : (aliases : List PlainAlias) → Within aliases two → (places : Places) (parameters : List Spot) (written : TypeTree) →
        can_be aliases places parameters written ≡ true → (can_be two places parameters written ≡ true) × (plain aliases places written ≡ plain two places written)
    same_text aliases within places parameters written can =
        let both = and_parts (is_clear places parameters written) (knows aliases places written) can in
        let same = stands_for_the_same aliases two places within written both.1 in
        (and_from (is_clear places parameters written) (knows two places written) both.0 same.0, same.1)

    is_alias_of : (home : Module) (declaration : Declaration) → Contains modules home → Contains home.declarations declaration →
        (at : At) (name : Spot) (parameters : List Spot) (written : TypeTree) → IsAlias declaration at name parameters written →
        (of called : List ℕ) → home.name ≡ of → name.name ≡ called → IsAliasOf modules of called home declaration
    is_alias_of home declaration home_in in_home at name parameters written is of called e f = record {
      module_in = home_in;
      in_module = in_home;
      home_is = e;
      name_is = ap alias_name_layer is ∙ ap (λ (x : List ℕ). Some x) f;
    }

    abbrev entry_of : Places → Spot → List Spot → Option TypeTree → PlainAlias
    entry_of places name parameters text =
        record { «module» = places.name; name = name.name; parameters = map (λ spot. spot.name) parameters; written = text }

    -- an alias of a module by the whole table
    abbrev whole : Module → Spot → List Spot → TypeTree → PlainAlias
    whole home name parameters written = entry_of (places_in types home) name parameters (plain two (places_in types home) written)

    same_whole : (home other : Module) (name of : Spot) (parameters others : List Spot) (written text : TypeTree) → home ≡ other → name ≡ of →
        parameters ≡ others → written ≡ text → whole home name parameters written ≡ whole other of others text
    same_whole home other name of parameters others written text a b c d =
        ap (λ (m : Module). whole m name parameters written) a ∙ ap (λ (n : Spot). whole other n parameters written) b
        ∙ ap (λ (ps : List Spot). whole other of ps written) c ∙ ap (λ (w : TypeTree). whole other of others w) d

    is_whole : (aliases : List PlainAlias) → Within aliases two → (home : Module) (declaration : Declaration) (alias : PlainAlias) →
        (own : Adds aliases (places_in types home) declaration alias) → alias ≡ whole home own.name own.parameters own.written
    is_whole aliases within home declaration alias own =
        own.entry ∙ ap (entry_of (places_in types home) own.name own.parameters)
        (same_text aliases within (places_in types home) own.parameters own.written own.can).1

    -- two aliases of one name are one
    same_entry : (aliases : List PlainAlias) → Within aliases two → (home : Module) (declaration : Declaration) → Contains modules home →
        Contains home.declarations declaration → (alias : PlainAlias) (own : Adds aliases (places_in types home) declaration alias) →
        («module» name : List ℕ) → home.name ≡ «module» → own.name.name ≡ name → (other : PlainAlias) →
        alias_called two «module» name ≡ Some other → other ≡ alias
    same_entry aliases within home declaration home_in in_home alias own «module» name homed named other there =
        let o : Origin two other = origin two out.built «module» name other there in
        let it = o.adds in
        let found = found_named two «module» name other there in
        let o_homed : o.home.name ≡ «module» = sym (ap (λ (a : PlainAlias). a.«module») it.entry) ∙ found.0 in
        let o_named : it.name.name ≡ name = sym (ap (λ (a : PlainAlias). a.name) it.entry) ∙ found.1 in
        let one = once «module» name home o.home declaration o.declaration
        (is_alias_of home declaration home_in in_home own.at own.name own.parameters own.written own.is «module» name homed named)
        (is_alias_of o.home o.declaration o.home_in o.in_home it.at it.name it.parameters it.written it.is «module» name o_homed o_named) in
        let layers : tree.Alias own.at own.name own.parameters own.written ≡ tree.Alias it.at it.name it.parameters it.written =
        sym own.is ∙ ap out-Declaration one.1 ∙ it.is in
        let names : own.name ≡ it.name = cc in
        let lists : own.parameters ≡ it.parameters = cc in
        let texts : own.written ≡ it.written = cc in
        is_whole o.before o.within o.home o.declaration other it
        ∙ sym (same_whole home o.home own.name it.name own.parameters it.parameters own.written it.written one.0 names lists texts)
        ∙ sym (is_whole aliases within home declaration alias own)

    -- an alias that a declaration adds to a shorter table is that of the whole one
    new_within : (aliases : List PlainAlias) → Within aliases two → (home : Module) (declaration : Declaration) → Contains modules home →
        Contains home.declarations declaration → («module» name : List ℕ) (alias : PlainAlias) →
        alias_called (added aliases (places_in types home) declaration) «module» name ≡ Some alias → alias_called two «module» name ≡ Some alias
    new_within aliases within home declaration home_in in_home «module» name alias h =
        let places = places_in types home in
        let own = adds aliases places declaration «module» name alias h in
        let mine = found_named (added aliases places declaration) «module» name alias h in
        let text = same_text aliases within places own.parameters own.written own.can in
        let listed = listed_by two (out-Declaration declaration) places own.at own.name own.parameters own.written own.is
        (out.done home home_in declaration in_home) text.0 in
        let other = among_some (alias_called two home.name own.name.name) listed in
        let homed : home.name ≡ «module» = sym (ap (λ (a : PlainAlias). a.«module») own.entry) ∙ mine.0 in
        let named : own.name.name ≡ name = sym (ap (λ (a : PlainAlias). a.name) own.entry) ∙ mine.1 in
        let there : alias_called two «module» name ≡ Some other.0 =
        ap₂ (alias_called two) (sym homed) (sym named) ∙ other.1 in
        there ∙ ap (λ (a : PlainAlias). Some a) (same_entry aliases within home declaration home_in in_home alias own «module» name homed named other.0 there)

    -- each alias of a table that is built stands in the whole one
    built_within : (aliases : List PlainAlias) → IsBuilt types modules aliases → Within aliases two
    built_within [] begun «module» name alias h = absurd (none_called «module» name alias h)
    built_within _ (further aliases home declaration built home_in in_home) «module» name alias h =
        ⊎_elim (λ (old : alias_called aliases «module» name ≡ Some alias). built_within aliases built «module» name alias old)
        (λ (new : alias_called (added aliases (places_in types home) declaration) «module» name ≡ Some alias).
        new_within aliases (built_within aliases built) home declaration home_in in_home «module» name alias new)
        (called_cases aliases (added aliases (places_in types home) declaration) «module» name alias h)

same_found : (a b : Option PlainAlias) → ((alias : PlainAlias) → a ≡ Some alias → b ≡ Some alias) → ((alias : PlainAlias) → b ≡ Some alias → a ≡ Some alias) →
    a ≡ b
same_found None None f g = refl
same_found None (Some y) f g = absurd (let e : None ≡ Some y = g y refl in cc)
same_found (Some x) b f g = sym (f x refl)

pub same_aliases : (types : List KnownType) (modules : List Module) (one two : List PlainAlias) → AliasesOnce modules →
    AreWrittenOut types modules one → AreWrittenOut types modules two → («module» name : List ℕ) →
    alias_called one «module» name ≡ alias_called two «module» name
same_aliases types modules one two once first second «module» name =
    same_found (alias_called one «module» name) (alias_called two «module» name)
    (built_within types modules once two second one first.built «module» name) (built_within types modules once one first two second.built «module» name)

-- ---- what the tables say of types

module _ (one two : List PlainAlias) (same : («module» name : List ℕ) → alias_called one «module» name ≡ alias_called two «module» name) (places : Places) where
  same_called : (found : KnownType) (alias : Bool) (at : At) (arguments : List (Option TypeTree)) →
      (if alias then applied (alias_called one found.«module» found.name) arguments else named at (dotted found.«module» found.name) arguments)
      ≡ (if alias then applied (alias_called two found.«module» found.name) arguments else named at (dotted found.«module» found.name) arguments)
  same_called found true at arguments = ap (λ (a : Option PlainAlias). applied a arguments) (same found.«module» found.name)
  same_called found false at arguments = refl

  same_meant : (at : At) (answer : TypeAnswer) (arguments : List (Option TypeTree)) → meant one at answer arguments ≡ meant two at answer arguments
  same_meant at (Stands found) arguments = same_called found found.alias at arguments
  same_meant at Unknown arguments = refl
  same_meant at Ambiguous arguments = refl

  same_plain_step : (x : type.TypeTree-F (Option TypeTree)) → plain_step one places x ≡ plain_step two places x
  same_plain_step (type.Variable at name) = refl
  same_plain_step (type.Named at name arguments) = same_meant at (answer_of places name) arguments
  same_plain_step (type.Arrow at from to) = refl
  same_plain_step (type.Unit at) = refl
  same_plain_step (type.Tuple at parts) = refl
  same_plain_step (type.Brackets at inner) = refl
  same_plain_step (type.Fields at before fields) = refl

  pub same_plain : (written : TypeTree) → plain one places written ≡ plain two places written
  same_plain written =
      ap (λ (step : type.TypeTree-F (Option TypeTree) → Option TypeTree). fold-TypeTree (Option TypeTree) step written) (fun_ext same_plain_step)

  same_listed : (found : KnownType) (alias : Bool) →
      (if alias then is_among (alias_called one found.«module» found.name) else true)
      ≡ (if alias then is_among (alias_called two found.«module» found.name) else true)
  same_listed found true = ap is_among (same found.«module» found.name)
  same_listed found false = refl

  same_known : (answer : TypeAnswer) → is_known one answer ≡ is_known two answer
  same_known (Stands found) = same_listed found found.alias
  same_known Unknown = refl
  same_known Ambiguous = refl

  same_knows_step : (x : type.TypeTree-F Bool) → knows_step one places x ≡ knows_step two places x
  same_knows_step (type.Variable at name) = refl
  same_knows_step (type.Named at name arguments) = ap (λ (b : Bool). b && all_hold arguments) (same_known (answer_of places name))
  same_knows_step (type.Arrow at from to) = refl
  same_knows_step (type.Unit at) = refl
  same_knows_step (type.Tuple at parts) = refl
  same_knows_step (type.Brackets at inner) = refl
  same_knows_step (type.Fields at before fields) = refl

  pub same_knows : (written : TypeTree) → knows one places written ≡ knows two places written
  same_knows written = ap (λ (step : type.TypeTree-F Bool → Bool). fold-TypeTree Bool step written) (fun_ext same_knows_step)
