-- What the sorts of a tree come to is what they come to in the written type that it is.
use Rattle.std.proofs.Common.{◌≡◌, ℕ, Bool, true, false, not, ◌&&◌, ◌↔◌, Option, Some, None, List, [], ◌∷◌, ◌++◌, map, refl, sym, ◌∙◌, ap, subst}
use Rattle.std.specs.Str.{bytes_eq}
use Rattle.std.specs.List.{list_all, flat_map}
use Rattle.std.proofs.lemmas.Bool.{false≢true}
use Rattle.elm_base.specs.declared.token.At.{At}
use Rattle.elm_base.specs.declared.tree.Spot.{Spot}
use Rattle.elm_base.specs.declared.tree.TypeTree.{TypeTree, roll-TypeTree, map-TypeTree}
use Rattle.elm_base.specs.declared.tree.TypeTree.TheOpen as type
use Rattle.elm_base.specs.declared.tree.TypeTree.TheVariants as t
use Rattle.elm_base.specs.declared.tree.TypeTree.TheFolds.{fold-roll-TypeTree, ind-TypeTree}
use Rattle.elm_typing.specs.Names.{signal_name}
use Rattle.typing_rules.specs.WrittenTypes.{Written, Writtens, WrittenFields}
use Rattle.typing_rules.specs.WrittenTypes as w
use Rattle.typing_rules.specs.Library.{writtens}
use Rattle.written_sorts.specs.Sorting.{free_before, bars_hold, bars_hold_all, bars_hold_fields, HasWellSorted, MakesSense}
use Rattle.written_sorts.specs.Marks.{Marks, is_signal, at_most, simple_before, holds, all_simple, fields_simple}
use Rattle.written_sorts.specs.Forced.{end_of, where_signal, forced, forced_all, forced_fields, AllMarked, AreForced, marks_of}
use Rattle.written_sorts.proofs.FromMarks.{left_of, right_of, well_sorted}
use Rattle.written_sorts.proofs.ToMarks.{both_of, can_be_sorted}
use Rattle.written_sorts.proofs.Least.{further_forced, forced_decide, all_append}
use Rattle.type_sense.specs.declared.judged.Judged.{Judged}
use Rattle.type_sense.specs.WrittenOf.{name_before, written_fields, written_step, written_of}
use Rattle.type_sense.specs.Judging.{is_part, of_whole, of_parts, of_record, of_arrow, parts_hold, parts_bars, parts_forced, fields_hold, fields_bars, fields_forced, judged_step, judged, judged_written, judged_fields, record_of}

regroup : (a b c : Bool) → ((a && b) && c) ≡ (a && (b && c))
regroup true b c = refl
regroup false b c = refl

module _ (marks : Marks) where
  abbrev Agrees : TypeTree → Type 0
  Agrees tree = judged marks tree ≡ judged_written marks (written_of tree)

  abbrev Known : Type 0
  Known = (tree : TypeTree) × Agrees tree

  abbrev trees_of : List Known → List TypeTree
  trees_of parts = map (λ (p : Known). p.0) parts

  abbrev writtens_of : List Known → Writtens
  writtens_of parts = writtens (map written_of (trees_of parts))

  same_whole : (signal h k b c : Bool) (f g : List (List ℕ)) → h ≡ k → b ≡ c → f ≡ g → of_whole signal h b f ≡ of_whole signal k c g
  same_whole signal h k b c f g one two three =
      ap (λ x. of_whole signal x b f) one ∙ ap (λ x. of_whole signal k x f) two ∙ ap (λ x. of_whole signal k c x) three

  parts_agree : (parts : List Known) → parts_hold (map (judged marks) (trees_of parts)) ≡ all_simple marks (writtens_of parts)
  parts_agree [] = refl
  parts_agree (p ∷ ps) =
      ap (λ (j : Judged). is_part j && parts_hold (map (judged marks) (trees_of ps))) p.1
      ∙ ap (λ (b : Bool). (holds marks (written_of p.0) && not (is_signal marks (written_of p.0))) && b) (parts_agree ps)
      ∙ regroup (holds marks (written_of p.0)) (not (is_signal marks (written_of p.0))) (all_simple marks (writtens_of ps))

  bars_agree : (parts : List Known) → parts_bars (map (judged marks) (trees_of parts)) ≡ bars_hold_all (writtens_of parts)
  bars_agree [] = refl
  bars_agree (p ∷ ps) =
      ap (λ (j : Judged). j.bars && parts_bars (map (judged marks) (trees_of ps))) p.1
      ∙ ap (λ (b : Bool). bars_hold (written_of p.0) && b) (bars_agree ps)

  forced_agree : (parts : List Known) → parts_forced (map (judged marks) (trees_of parts)) ≡ forced_all marks (writtens_of parts)
  forced_agree [] = refl
  forced_agree (p ∷ ps) =
      ap (λ (j : Judged). j.forced ++ parts_forced (map (judged marks) (trees_of ps))) p.1
      ∙ ap (λ (names : List (List ℕ)). forced marks (written_of p.0) ++ names) (forced_agree ps)

  whole_agrees : (signal : Bool) (parts : List Known) → of_parts signal (map (judged marks) (trees_of parts))
      ≡ of_whole signal (all_simple marks (writtens_of parts)) (bars_hold_all (writtens_of parts)) (forced_all marks (writtens_of parts))
  whole_agrees signal parts = same_whole signal _ _ _ _ _ _ (parts_agree parts) (bars_agree parts) (forced_agree parts)

  -- ---- fields

  abbrev Labelled : Type 0
  Labelled = Spot × Known

  abbrev fields_of : List Labelled → List (Spot × TypeTree)
  fields_of fields = map (λ (f : Labelled). (f.0, f.1.0)) fields

  abbrev judged_of : List Labelled → List (Spot × Judged)
  judged_of fields = map (λ (f : Spot × TypeTree). (f.0, judged marks f.1)) (fields_of fields)

  abbrev written_of_fields : List Labelled → WrittenFields
  written_of_fields fields = written_fields (map (λ (f : Spot × TypeTree). (f.0, written_of f.1)) (fields_of fields))

  fields_agree : (fields : List Labelled) → fields_hold (judged_of fields) ≡ fields_simple marks (written_of_fields fields)
  fields_agree [] = refl
  fields_agree (f ∷ fs) =
      ap (λ (j : Judged). is_part j && fields_hold (judged_of fs)) f.1.1
      ∙ ap (λ (b : Bool). (holds marks (written_of f.1.0) && not (is_signal marks (written_of f.1.0))) && b) (fields_agree fs)
      ∙ regroup (holds marks (written_of f.1.0)) (not (is_signal marks (written_of f.1.0))) (fields_simple marks (written_of_fields fs))

  field_bars_agree : (fields : List Labelled) → fields_bars (judged_of fields) ≡ bars_hold_fields (written_of_fields fields)
  field_bars_agree [] = refl
  field_bars_agree (f ∷ fs) =
      ap (λ (j : Judged). j.bars && fields_bars (judged_of fs)) f.1.1
      ∙ ap (λ (b : Bool). bars_hold (written_of f.1.0) && b) (field_bars_agree fs)

  field_forced_agree : (fields : List Labelled) → fields_forced (judged_of fields) ≡ forced_fields marks (written_of_fields fields)
  field_forced_agree [] = refl
  field_forced_agree (f ∷ fs) =
      ap (λ (j : Judged). j.forced ++ fields_forced (judged_of fs)) f.1.1
      ∙ ap (λ (names : List (List ℕ)). forced marks (written_of f.1.0) ++ names) (field_forced_agree fs)

  record_agrees : (before : Option Spot) (fields : List Labelled) →
      of_record marks before (fields_hold (judged_of fields)) (fields_bars (judged_of fields)) (fields_forced (judged_of fields))
      ≡ judged_written marks (w.Fields (name_before before) (written_of_fields fields))
  record_agrees before fields =
      same_whole false _ _ _ _ _ _ (ap (λ (b : Bool). simple_before marks (name_before before) && b) (fields_agree fields))
      (ap (λ (b : Bool). free_before (name_before before) && b) (field_bars_agree fields)) (field_forced_agree fields)

  -- ---- trees

  abbrev Layer : Type 0
  Layer = type.TypeTree-F TypeTree

  node : (x : Layer) → judged_step marks (map-TypeTree TypeTree Judged (judged marks) x) ≡ judged_written marks (written_step (map-TypeTree TypeTree Written written_of x)) →
      Agrees (roll-TypeTree x)
  node x e = fold-roll-TypeTree Judged (judged_step marks) x ∙ e ∙ ap (judged_written marks) (sym (fold-roll-TypeTree Written written_step x))

  arrow_agrees : (a b : Known) → of_arrow (judged marks a.0) (judged marks b.0) ≡ judged_written marks (w.Arrow (written_of a.0) (written_of b.0))
  arrow_agrees a b = ap (λ (j : Judged). of_arrow j (judged marks b.0)) a.1 ∙ ap (λ (j : Judged). of_arrow (judged_written marks (written_of a.0)) j) b.1

  layer_agrees : (y : type.TypeTree-F Known) → Agrees (roll-TypeTree (map-TypeTree Known TypeTree (λ (p : Known). p.0) y))
  layer_agrees (type.Variable at name) = node (type.Variable at name) refl
  layer_agrees (type.Named at name parts) = node (type.Named at name (trees_of parts)) (whole_agrees (bytes_eq name signal_name) parts)
  layer_agrees (type.Arrow at a b) = node (type.Arrow at a.0 b.0) (arrow_agrees a b)
  layer_agrees (type.Unit at) = node (type.Unit at) refl
  layer_agrees (type.Tuple at parts) = node (type.Tuple at (trees_of parts)) (whole_agrees false parts)
  layer_agrees (type.Brackets at inner) = node (type.Brackets at inner.0) inner.1
  layer_agrees (type.Fields at before fields) = node (type.Fields at before (fields_of fields)) (record_agrees before fields)

  pub agrees : (tree : TypeTree) → judged marks tree ≡ judged_written marks (written_of tree)
  agrees = ind-TypeTree Agrees (λ x y is. subst (λ z. Agrees (roll-TypeTree z)) is (layer_agrees y))

  -- what the fold over types gives for a record
  pub judged_of_fields : (tree : TypeTree) (at : At) (before : Option Spot) (fields slice : List (Spot × TypeTree)) → tree ≡ t.Fields at before fields →
      slice ≡ fields → record_of marks before slice ≡ judged marks tree
  judged_of_fields tree at before fields slice is same =
      ap (λ (fs : List (Spot × TypeTree)). record_of marks before fs) same
      ∙ sym (ap (judged marks) (sym (t.rolls-Fields at before fields)) ∙ fold-roll-TypeTree Judged (judged_step marks) (type.Fields at before fields))
      ∙ ap (judged marks) (sym is)

-- ---- whether a type makes sense

all_marked : (marks : Marks) (names : List (List ℕ)) → list_all marks names ≡ true → AllMarked marks names
all_marked marks [] h = tt
all_marked marks (n ∷ ns) h = (left_of (marks n) _ h, all_marked marks ns (right_of (marks n) _ h))

sense : (written : Written) (names : List (List ℕ)) → AreForced written names → AllMarked (marks_of names) (forced (marks_of names) written) →
    ((bars_hold written && holds (marks_of names) written) ≡ true) ↔ MakesSense written
sense written names are all = (
  λ h. record {
    bars = left_of (bars_hold written) _ h;
    sorted = well_sorted (marks_of names) written (left_of (bars_hold written) _ h) (right_of (bars_hold written) _ h);
  },
  λ it. both_of (bars_hold written) _ it.bars ((forced_decide written names are all).0 (can_be_sorted written it.sorted)),
)

-- by what was found of a tree
pub tree_sense : (tree : TypeTree) (names : List (List ℕ)) (found : Judged) → found ≡ judged (marks_of names) tree → AreForced (written_of tree) names →
    list_all (marks_of names) found.forced ≡ true → ((found.bars && found.holds) ≡ true) ↔ MakesSense (written_of tree)
tree_sense tree names found e are all =
    let so : found ≡ judged_written (marks_of names) (written_of tree) = e ∙ agrees (marks_of names) tree in
    subst (λ (j : Judged). ((j.bars && j.holds) ≡ true) ↔ MakesSense (written_of tree)) (sym so)
    (sense (written_of tree) names are
    (all_marked (marks_of names) (forced (marks_of names) (written_of tree))
    (subst (λ (j : Judged). list_all (marks_of names) j.forced ≡ true) so all)))

pub none_forced : (tree : TypeTree) → AreForced (written_of tree) []
none_forced tree marks h = tt

pub more_forced : (tree : TypeTree) (names : List (List ℕ)) (found : Judged) → found ≡ judged (marks_of names) tree → AreForced (written_of tree) names →
    AreForced (written_of tree) (names ++ found.forced)
more_forced tree names found e are =
    let so : found ≡ judged_written (marks_of names) (written_of tree) = e ∙ agrees (marks_of names) tree in
    subst (λ (j : Judged). AreForced (written_of tree) (names ++ j.forced)) (sym so)
    (λ marks h. all_append marks names (forced (marks_of names) (written_of tree)) (are marks h) (further_forced (written_of tree) names are marks h))
