-- For private contracts: what the sorts of a tree come to, from those of its parts.
use Rattle.std.specs.Prelude.{ℕ, Bool, true, false, ◌&&◌, not, Option, Some, None, List, [], ◌∷◌, ◌++◌, map, bytes_eq}
use Rattle.std.specs.List.{list_all, flat_map}
use Rattle.elm_base.specs.declared.tree.Spot.{Spot}
use Rattle.elm_base.specs.declared.tree.TypeTree.{TypeTree}
use Rattle.elm_base.specs.declared.tree.TypeTree.TheOpen as type
use Rattle.elm_base.specs.declared.tree.TypeTree.TheFolds.{fold-TypeTree}
use Rattle.elm_typing.specs.Names.{signal_name}
use Rattle.typing_rules.specs.WrittenTypes.{Written}
use Rattle.written_sorts.specs.Sorting.{is_free, free_before, bars_hold}
use Rattle.written_sorts.specs.Marks.{Marks, is_signal, at_most, simple_before, holds}
use Rattle.written_sorts.specs.Forced.{end_of, where_signal, forced}
use Rattle.type_sense.specs.declared.judged.Judged.{Judged}
use Rattle.type_sense.specs.WrittenOf.{name_before}

-- may be a part of another type
abbrev pub is_part : Judged → Bool
is_part judged = judged.holds && not judged.signal

abbrev pub of_variable : Marks → List ℕ → Judged
of_variable marks name = record { signal = marks name; holds = at_most (marks name) (is_free name); bars = true; ends = name ∷ []; forced = [] }

abbrev pub of_whole : Bool → Bool → Bool → List (List ℕ) → Judged
of_whole signal holds bars forced = record { signal = signal; holds = holds; bars = bars; ends = []; forced = forced }

abbrev pub parts_hold : List Judged → Bool
parts_hold parts = list_all is_part parts

abbrev pub parts_bars : List Judged → Bool
parts_bars parts = list_all (λ part. part.bars) parts

abbrev pub parts_forced : List Judged → List (List ℕ)
parts_forced parts = flat_map (λ part. part.forced) parts

abbrev pub of_parts : Bool → List Judged → Judged
of_parts signal parts = of_whole signal (parts_hold parts) (parts_bars parts) (parts_forced parts)

abbrev pub fields_hold : List (Spot × Judged) → Bool
fields_hold fields = list_all (λ field. is_part field.1) fields

abbrev pub fields_bars : List (Spot × Judged) → Bool
fields_bars fields = list_all (λ field. field.1.bars) fields

abbrev pub fields_forced : List (Spot × Judged) → List (List ℕ)
fields_forced fields = flat_map (λ field. field.1.forced) fields

abbrev pub of_record : Marks → Option Spot → Bool → Bool → List (List ℕ) → Judged
of_record marks before holds bars forced =
    of_whole false (simple_before marks (name_before before) && holds) (free_before (name_before before) && bars) forced

abbrev pub of_arrow : Judged → Judged → Judged
of_arrow from to =
    record {
      signal = to.signal;
      holds = from.holds && (to.holds && at_most from.signal to.signal);
      bars = from.bars && to.bars;
      ends = to.ends;
      forced = from.forced ++ (to.forced ++ where_signal from.signal to.ends);
    }

abbrev pub judged_step : Marks → type.TypeTree-F Judged → Judged
judged_step marks (type.Variable at name) = of_variable marks name
judged_step marks (type.Named at name arguments) = of_parts (bytes_eq name signal_name) arguments
judged_step marks (type.Arrow at from to) = of_arrow from to
judged_step marks (type.Unit at) = of_whole false true true []
judged_step marks (type.Tuple at parts) = of_parts false parts
judged_step marks (type.Brackets at inner) = inner
judged_step marks (type.Fields at before fields) = of_record marks before (fields_hold fields) (fields_bars fields) (fields_forced fields)

abbrev pub judged : Marks → TypeTree → Judged
judged marks = fold-TypeTree Judged (judged_step marks)

-- the same of a written type
abbrev pub judged_written : Marks → Written → Judged
judged_written marks written =
    record {
      signal = is_signal marks written;
      holds = holds marks written;
      bars = bars_hold written;
      ends = end_of written;
      forced = forced marks written;
    }

abbrev pub judged_all : Marks → List TypeTree → List Judged
judged_all marks trees = map (judged marks) trees

abbrev pub judged_fields : Marks → List (Spot × TypeTree) → List (Spot × Judged)
judged_fields marks fields = map (λ field. (field.0, judged marks field.1)) fields

abbrev pub record_of : Marks → Option Spot → List (Spot × TypeTree) → Judged
record_of marks before fields =
    of_record marks before (fields_hold (judged_fields marks fields)) (fields_bars (judged_fields marks fields)) (fields_forced (judged_fields marks fields))
