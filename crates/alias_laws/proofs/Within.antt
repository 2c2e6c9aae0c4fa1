-- A written type stands for the same by a larger table of aliases, where the smaller one knows all aliases in it.
use Rattle.std.proofs.Common.{◌≡◌, ℕ, Bool, true, false, ◌&&◌, Option, Some, None, List, [], ◌∷◌, ◌++◌, map, refl, sym, ◌∙◌, ap, ap₂, subst, ⊎_elim}
use Rattle.std.specs.Prelude.{if◌then◌else◌}
use Rattle.std.proofs.lemmas.Bool.{cases_Bool, cond-true, cond-false, and_parts, and_from, false≢true}
use Rattle.elm_base.specs.declared.token.At.{At}
use Rattle.elm_base.specs.declared.tree.Spot.{Spot}
use Rattle.elm_base.specs.declared.tree.TypeTree.{TypeTree, roll-TypeTree, map-TypeTree}
use Rattle.elm_base.specs.declared.tree.TypeTree.TheOpen as type
use Rattle.elm_base.specs.declared.tree.TypeTree.TheFolds.{fold-roll-TypeTree, ind-TypeTree}
use Rattle.type_names.specs.declared.known.KnownType.{KnownType}
use Rattle.type_names.specs.declared.answer.TypeAnswer.{TypeAnswer}
use Rattle.type_names.specs.declared.answer.TypeAnswer.TheVariants.{Stands, Unknown, Ambiguous}
use Rattle.type_names.specs.Answers.{Places, answer_of, dotted}
use Rattle.alias_expansion.specs.declared.plain_alias.PlainAlias.{PlainAlias}
use Rattle.alias_expansion.specs.Parts.{named, tuple, arrow, closed}
use Rattle.alias_expansion.specs.Expansion.{is_called, alias_called, applied, meant, plain_step, plain, is_among, is_known, all_hold, fields_hold, knows_step, knows}

-- each alias of the one stands in the other, the same
abbrev pub Within : List PlainAlias → List PlainAlias → Type 0
Within one two = («module» name : List ℕ) (alias : PlainAlias) → alias_called one «module» name ≡ Some alias → alias_called two «module» name ≡ Some alias

pub among_some : (found : Option PlainAlias) → is_among found ≡ true → (alias : PlainAlias) × (found ≡ Some alias)
among_some None h = absurd (false≢true h)
among_some (Some alias) h = (alias, refl)

module _ (one two : List PlainAlias) (places : Places) (within : Within one two) where
  -- ---- a name

  alias_known : (found : KnownType) (alias : Bool) →
      (if alias then is_among (alias_called one found.«module» found.name) else true) ≡ true →
      (if alias then is_among (alias_called two found.«module» found.name) else true) ≡ true
  alias_known found true h =
      let it = among_some (alias_called one found.«module» found.name) h in ap is_among (within found.«module» found.name it.0 it.1)
  alias_known found false h = refl

  known_also : (answer : TypeAnswer) → is_known one answer ≡ true → is_known two answer ≡ true
  known_also (Stands found) h = alias_known found found.alias h
  known_also Unknown h = absurd (false≢true h)
  known_also Ambiguous h = absurd (false≢true h)

  same_called : (found : KnownType) (alias : Bool) → (if alias then is_among (alias_called one found.«module» found.name) else true) ≡ true →
      (at : At) (arguments : List (Option TypeTree)) →
      (if alias then applied (alias_called one found.«module» found.name) arguments else named at (dotted found.«module» found.name) arguments)
      ≡ (if alias then applied (alias_called two found.«module» found.name) arguments else named at (dotted found.«module» found.name) arguments)
  same_called found true h at arguments =
      let it = among_some (alias_called one found.«module» found.name) h in
      ap (λ (a : Option PlainAlias). applied a arguments) (it.1 ∙ sym (within found.«module» found.name it.0 it.1))
  same_called found false h at arguments = refl

  same_meant : (answer : TypeAnswer) → is_known one answer ≡ true → (at : At) (arguments : List (Option TypeTree)) →
      meant one at answer arguments ≡ meant two at answer arguments
  same_meant (Stands found) h at arguments = same_called found found.alias h at arguments
  same_meant Unknown h at arguments = refl
  same_meant Ambiguous h at arguments = refl

  -- ---- several types

  abbrev Agrees : TypeTree → Type 0
  Agrees tree = knows one places tree ≡ true → (knows two places tree ≡ true) × (plain one places tree ≡ plain two places tree)

  abbrev Known : Type 0
  Known = (tree : TypeTree) × Agrees tree

  abbrev trees_of : List Known → List TypeTree
  trees_of parts = map (λ (p : Known). p.0) parts

  all_agree : (parts : List Known) → all_hold (map (knows one places) (trees_of parts)) ≡ true →
      (all_hold (map (knows two places) (trees_of parts)) ≡ true) × (map (plain one places) (trees_of parts) ≡ map (plain two places) (trees_of parts))
  all_agree [] h = (refl, refl)
  all_agree (p ∷ ps) h =
      let both = and_parts (knows one places p.0) (all_hold (map (knows one places) (trees_of ps))) h in
      let own = p.1 both.0 in
      let others = all_agree ps both.1 in (
        and_from (knows two places p.0) (all_hold (map (knows two places) (trees_of ps))) own.0 others.0,
        ap₂ (λ (x : Option TypeTree) (xs : List (Option TypeTree)). x ∷ xs) own.1 others.1,
      )

  abbrev Labelled : Type 0
  Labelled = Spot × Known

  abbrev fields_of : List Labelled → List (Spot × TypeTree)
  fields_of fields = map (λ (f : Labelled). (f.0, f.1.0)) fields

  abbrev known_fields : List PlainAlias → List Labelled → List (Spot × Bool)
  known_fields aliases fields = map (λ (f : Spot × TypeTree). (f.0, knows aliases places f.1)) (fields_of fields)

  abbrev plain_fields : List PlainAlias → List Labelled → List (Spot × Option TypeTree)
  plain_fields aliases fields = map (λ (f : Spot × TypeTree). (f.0, plain aliases places f.1)) (fields_of fields)

  fields_agree : (fields : List Labelled) → fields_hold (known_fields one fields) ≡ true →
      (fields_hold (known_fields two fields) ≡ true) × (plain_fields one fields ≡ plain_fields two fields)
  fields_agree [] h = (refl, refl)
  fields_agree (f ∷ fs) h =
      let both = and_parts (knows one places f.1.0) (fields_hold (known_fields one fs)) h in
      let own = f.1.1 both.0 in
      let others = fields_agree fs both.1 in (
        and_from (knows two places f.1.0) (fields_hold (known_fields two fs)) own.0 others.0,
        ap₂ (λ (x : Option TypeTree) (xs : List (Spot × Option TypeTree)). (f.0, x) ∷ xs) own.1 others.1,
      )

  -- ---- trees

  abbrev Layer : Type 0
  Layer = type.TypeTree-F TypeTree

  abbrev knows_layer : List PlainAlias → Layer → Bool
  knows_layer aliases x = knows_step aliases places (map-TypeTree TypeTree Bool (knows aliases places) x)

  abbrev plain_layer : List PlainAlias → Layer → Option TypeTree
  plain_layer aliases x = plain_step aliases places (map-TypeTree TypeTree (Option TypeTree) (plain aliases places) x)

  node : (x : Layer) → (knows_layer one x ≡ true → (knows_layer two x ≡ true) × (plain_layer one x ≡ plain_layer two x)) → Agrees (roll-TypeTree x)
  node x e h =
      let so = e (sym (fold-roll-TypeTree Bool (knows_step one places) x) ∙ h) in (
        fold-roll-TypeTree Bool (knows_step two places) x ∙ so.0,
        fold-roll-TypeTree (Option TypeTree) (plain_step one places) x ∙ so.1 ∙ sym (fold-roll-TypeTree (Option TypeTree) (plain_step two places) x),
      )

  named_agrees : (at : At) (name : List ℕ) (parts : List Known) → knows_layer one (type.Named at name (trees_of parts)) ≡ true →
      (knows_layer two (type.Named at name (trees_of parts)) ≡ true)
      × (plain_layer one (type.Named at name (trees_of parts)) ≡ plain_layer two (type.Named at name (trees_of parts)))
  named_agrees at name parts h =
      let both = and_parts (is_known one (answer_of places name)) (all_hold (map (knows one places) (trees_of parts))) h in
      let others = all_agree parts both.1 in (
        and_from (is_known two (answer_of places name)) (all_hold (map (knows two places) (trees_of parts))) (known_also (answer_of places name) both.0) others.0,
        same_meant (answer_of places name) both.0 at (map (plain one places) (trees_of parts))
            ∙ ap (λ (xs : List (Option TypeTree)). meant two at (answer_of places name) xs) others.1,
      )

  arrow_agrees : (at : At) (a b : Known) → (knows one places a.0 && knows one places b.0) ≡ true →
      ((knows two places a.0 && knows two places b.0) ≡ true)
      × (arrow at (plain one places a.0) (plain one places b.0) ≡ arrow at (plain two places a.0) (plain two places b.0))
  arrow_agrees at a b h =
      let both = and_parts (knows one places a.0) (knows one places b.0) h in
      let first = a.1 both.0 in
      let second = b.1 both.1 in (
        and_from (knows two places a.0) (knows two places b.0) first.0 second.0,
        ap₂ (arrow at) first.1 second.1,
      )

  tuple_agrees : (at : At) (parts : List Known) → all_hold (map (knows one places) (trees_of parts)) ≡ true →
      (all_hold (map (knows two places) (trees_of parts)) ≡ true)
      × (tuple at (map (plain one places) (trees_of parts)) ≡ tuple at (map (plain two places) (trees_of parts)))
  tuple_agrees at parts h = let all = all_agree parts h in (all.0, ap (tuple at) all.1)

  record_agrees : (at : At) (before : Option Spot) (fields : List Labelled) → fields_hold (known_fields one fields) ≡ true →
      (fields_hold (known_fields two fields) ≡ true) × (closed at before (plain_fields one fields) ≡ closed at before (plain_fields two fields))
  record_agrees at before fields h = let all = fields_agree fields h in (all.0, ap (closed at before) all.1)

  layer_agrees : (y : type.TypeTree-F Known) → Agrees (roll-TypeTree (map-TypeTree Known TypeTree (λ (p : Known). p.0) y))
  layer_agrees (type.Variable at name) = node (type.Variable at name) (λ h. (refl, refl))
  layer_agrees (type.Named at name parts) = node (type.Named at name (trees_of parts)) (named_agrees at name parts)
  layer_agrees (type.Arrow at a b) = node (type.Arrow at a.0 b.0) (arrow_agrees at a b)
  layer_agrees (type.Unit at) = node (type.Unit at) (λ h. (refl, refl))
  layer_agrees (type.Tuple at parts) = node (type.Tuple at (trees_of parts)) (tuple_agrees at parts)
  layer_agrees (type.Brackets at inner) = node (type.Brackets at inner.0) inner.1
  layer_agrees (type.Fields at before fields) = node (type.Fields at before (fields_of fields)) (record_agrees at before fields)

  pub stands_for_the_same : (tree : TypeTree) → Agrees tree
  stands_for_the_same = ind-TypeTree Agrees (λ x y is. subst (λ z. Agrees (roll-TypeTree z)) is (layer_agrees y))

-- ---- a table within a longer one

pub within_more : (aliases more : List PlainAlias) → Within aliases (aliases ++ more)
within_more [] more «module» name alias h = absurd (let e : None ≡ Some alias = h in cc)
within_more (a ∷ as') more «module» name alias h =
    ⊎_elim (λ (on : is_called «module» name a ≡ true).
    cond-true (is_called «module» name a) (Some a) (alias_called (as' ++ more) «module» name) on
    ∙ sym (cond-true (is_called «module» name a) (Some a) (alias_called as' «module» name) on) ∙ h)
    (λ (off : is_called «module» name a ≡ false).
    cond-false (is_called «module» name a) (Some a) (alias_called (as' ++ more) «module» name) off
    ∙ within_more as' more «module» name alias (sym (cond-false (is_called «module» name a) (Some a) (alias_called as' «module» name) off) ∙ h))
    (cases_Bool (is_called «module» name a))
