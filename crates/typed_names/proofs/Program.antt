-- The code of definitions that are well typed.
use Rattle.std.proofs.Common.{◌≡◌, ℕ, zero, suc, Some, List, [], ◌∷◌, map, ap, ◌∙◌}
use Rattle.std.specs.Prelude.{slice_get}
use Rattle.elm_base.specs.declared.term.Code.{Code}
use Rattle.elm_base.specs.declared.term.TopValue.{TopValue}
use Rattle.elm_meaning.specs.FreeNames.{free_names}
use Rattle.elm_meaning.specs.Lowered.{IsLowered, top_places}
use Rattle.elm_meaning.specs.Terms.{tree_at, trees_of}
use Rattle.elm_meaning.specs.Values.{Tree}
use Rattle.core_trees.specs.Reading.{core_of}
use Rattle.core_definitions.specs.declared.one.CoreDefinition.{CoreDefinition}
use Rattle.typing_sound.specs.Settings.{Setting, world_of}
use Rattle.code_lower.specs.Whole.{IsCodeOf, all_of, tree_of_definition}
use Rattle.typed_names.specs.Typed.{AllTyped}
use Rattle.typed_names.proofs.Named.{closed}

closed_at : (p : Setting) (trees : List Tree) (tops : List TopValue) (ds : List CoreDefinition) → map (tree_at trees) (top_places tops) ≡ map tree_of_definition ds → AllTyped p ds →
    (at : ℕ) (top : TopValue) → slice_get tops at ≡ Some top → free_names (tree_at trees top.term) ≡ []
closed_at p trees [] ds e h at top is = absurd cc
closed_at p trees (x ∷ tops) [] e h at top is = absurd cc
closed_at p trees (x ∷ tops) (d ∷ ds) e h zero top is =
    let same : x ≡ top = cc in
    let here : tree_at trees x.term ≡ tree_of_definition d = cc in
    ap (λ y. free_names (tree_at trees y.term)) (same_back x top same) ∙ ap free_names here ∙ closed (world_of p) (core_of d.right.body) h.0.0 h.0.1
  where
    same_back : (a b : TopValue) → a ≡ b → b ≡ a
    same_back a b q = cc
closed_at p trees (x ∷ tops) (d ∷ ds) e h (suc at) top is =
    let rest : map (tree_at trees) (top_places tops) ≡ map tree_of_definition ds = cc in
    closed_at p trees tops ds rest h.1 at top is

pub is_lowered : (p : Setting) (groups : List (List CoreDefinition)) (code : Code) → IsCodeOf groups code → AllTyped p (all_of groups) → IsLowered code
is_lowered p groups code c typed = record {
  lower = c.laid_out.lower;
  tops_stand = c.laid_out.tops_stand;
  once = c.laid_out.once;
  closed = closed_at p (trees_of code.terms) code.tops (all_of groups) c.trees typed;
}
