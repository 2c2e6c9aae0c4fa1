-- The annotations in the blocks of `let` in an expression or a declaration, from left to right.
use Rattle.std.specs.Prelude.{ℕ, List, [], ◌∷◌, ◌++◌, map}
use Rattle.std.specs.List.{flat_map}
use Rattle.elm_base.specs.declared.token.At.{At}
use Rattle.elm_base.specs.declared.tree.TypeTree.{TypeTree}
use Rattle.elm_base.specs.declared.tree.Pattern.{Pattern}
use Rattle.elm_base.specs.declared.tree.Set.{Set}
use Rattle.elm_base.specs.declared.tree.Expr.{Expr, out-Expr}
use Rattle.elm_base.specs.declared.tree.Declaration.{Declaration}
use Rattle.elm_base.specs.declared.tree.Declaration.TheOpen as tree
use Rattle.elm_base.specs.declared.tree.Declaration.TheFolds.{fold-Expr, fold-Declaration, fold-Set}
use Rattle.let_annotations.specs.declared.annotation.LetAnnotation.{LetAnnotation}

abbrev pub annotation_of : At → List ℕ → TypeTree → LetAnnotation
annotation_of at name written = record { at = at; name = name; written = written }

-- of a declaration: that it is an annotation itself, and those in its body
pub record Part : Type 0 where
  pub own : List LetAnnotation
  pub inner : List LetAnnotation

abbrev pub part : List LetAnnotation → List LetAnnotation → Part
part own inner = record { own = own; inner = inner }

-- of a declaration that stands in a `let`
abbrev pub all_of : Part → List LetAnnotation
all_of part = part.own ++ part.inner

abbrev pub joined : List (List LetAnnotation) → List LetAnnotation
joined lists = flat_map (λ found. found) lists

abbrev pub of_block : List Part → List LetAnnotation
of_block parts = flat_map all_of parts

abbrev pub of_guards : List (List LetAnnotation × List LetAnnotation) → List LetAnnotation
of_guards branches = flat_map (λ branch. branch.0 ++ branch.1) branches

abbrev pub of_branches : List (Pattern × List LetAnnotation) → List LetAnnotation
of_branches branches = flat_map (λ branch. branch.1) branches

abbrev pub expr_step : tree.Expr-F Part (List LetAnnotation) (List LetAnnotation) → List LetAnnotation
expr_step (tree.Chain at operands operators) = joined operands
expr_step (tree.Binary at operator left right) = left ++ right
expr_step (tree.Negate at inner) = inner
expr_step (tree.Call at function arguments) = function ++ joined arguments
expr_step (tree.Access at from label) = from
expr_step (tree.Brackets at inner) = inner
expr_step (tree.Tuple at parts) = joined parts
expr_step (tree.List at parts) = joined parts
expr_step (tree.Range at low high) = low ++ high
expr_step (tree.Fields at fields) = joined fields
expr_step (tree.Extend at from fields) = from ++ joined fields
expr_step (tree.Update at from fields) = from ++ joined fields
expr_step (tree.Remove at from label fields) = from ++ joined fields
expr_step (tree.Lambda at patterns body) = body
expr_step (tree.If at condition first second) = condition ++ first ++ second
expr_step (tree.Guards at branches) = of_guards branches
expr_step (tree.Let at parts body) = of_block parts ++ body
expr_step (tree.Case at scrutinee branches) = scrutinee ++ of_branches branches
expr_step _ = []

abbrev pub declaration_step : tree.Declaration-F Part (List LetAnnotation) (List LetAnnotation) → Part
declaration_step (tree.Annotation at name written) = part (annotation_of at name written ∷ []) []
declaration_step (tree.Definition at name patterns body) = part [] body
declaration_step (tree.PatternDefinition at pattern body) = part [] body
declaration_step (tree.PortDefinition at name body) = part [] body
declaration_step _ = part [] []

abbrev pub set_step : tree.Set-F Part (List LetAnnotation) (List LetAnnotation) → List LetAnnotation
set_step set = set.value

abbrev pub found_in : Expr → List LetAnnotation
found_in = fold-Expr Part (List LetAnnotation) (List LetAnnotation) declaration_step expr_step set_step

abbrev pub part_of : Declaration → Part
part_of = fold-Declaration Part (List LetAnnotation) (List LetAnnotation) declaration_step expr_step set_step

abbrev pub found_in_field : Set → List LetAnnotation
found_in_field = fold-Set Part (List LetAnnotation) (List LetAnnotation) declaration_step expr_step set_step

-- those in the expressions of a declaration of a module
abbrev pub inside : Declaration → List LetAnnotation
inside declaration = (part_of declaration).inner

-- ---- for private contracts: one form, and none of another

abbrev pub found_in_all : List Expr → List LetAnnotation
found_in_all trees = joined (map found_in trees)

abbrev pub found_in_fields : List Set → List LetAnnotation
found_in_fields fields = joined (map found_in_field fields)

abbrev pub joined_layer : tree.Expr-F Declaration Expr Set → List LetAnnotation
joined_layer (tree.Binary at operator left right) = found_in left ++ found_in right
joined_layer (tree.Call at function arguments) = found_in function ++ found_in_all arguments
joined_layer (tree.Range at low high) = found_in low ++ found_in high
joined_layer (tree.Extend at from fields) = found_in from ++ found_in_fields fields
joined_layer (tree.Update at from fields) = found_in from ++ found_in_fields fields
joined_layer (tree.Remove at from label fields) = found_in from ++ found_in_fields fields
joined_layer (tree.If at condition first second) = found_in condition ++ found_in first ++ found_in second
joined_layer _ = []

abbrev pub joined_of : Expr → List LetAnnotation
joined_of x = joined_layer (out-Expr x)

abbrev pub chosen_in_guards : List (Expr × Expr) → List LetAnnotation
chosen_in_guards branches = of_guards (map (λ branch. (found_in branch.0, found_in branch.1)) branches)

abbrev pub guards_layer : tree.Expr-F Declaration Expr Set → List LetAnnotation
guards_layer (tree.Guards at branches) = chosen_in_guards branches
guards_layer _ = []

abbrev pub guards_of : Expr → List LetAnnotation
guards_of x = guards_layer (out-Expr x)

abbrev pub chosen_in_branches : List (Pattern × Expr) → List LetAnnotation
chosen_in_branches branches = of_branches (map (λ branch. (branch.0, found_in branch.1)) branches)

abbrev pub case_layer : tree.Expr-F Declaration Expr Set → List LetAnnotation
case_layer (tree.Case at scrutinee branches) = found_in scrutinee ++ chosen_in_branches branches
case_layer _ = []

abbrev pub case_of : Expr → List LetAnnotation
case_of x = case_layer (out-Expr x)

abbrev pub branches_layer : tree.Expr-F Declaration Expr Set → List LetAnnotation
branches_layer (tree.Case at scrutinee branches) = chosen_in_branches branches
branches_layer _ = []

abbrev pub branches_of : Expr → List LetAnnotation
branches_of x = branches_layer (out-Expr x)

abbrev pub found_in_block : List Declaration → List LetAnnotation
found_in_block definitions = of_block (map part_of definitions)

abbrev pub let_layer : tree.Expr-F Declaration Expr Set → List LetAnnotation
let_layer (tree.Let at definitions body) = found_in_block definitions ++ found_in body
let_layer _ = []

abbrev pub let_of : Expr → List LetAnnotation
let_of x = let_layer (out-Expr x)
