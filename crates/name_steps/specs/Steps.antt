-- What happens to names when an expression or a declaration is read from left to right.
use Rattle.std.specs.Prelude.{ℕ, Bool, true, false, ◌||◌, List, [], ◌∷◌, ◌++◌, map}
use Rattle.std.specs.List.{flat_map}
use Rattle.elm_base.specs.declared.token.At.{At}
use Rattle.elm_base.specs.declared.tree.Spot.{Spot}
use Rattle.elm_base.specs.declared.tree.Pattern.{Pattern}
use Rattle.elm_base.specs.declared.tree.Set.{Set}
use Rattle.elm_base.specs.declared.tree.Expr.{Expr, out-Expr}
use Rattle.elm_base.specs.declared.tree.Declaration.{Declaration}
use Rattle.elm_base.specs.declared.tree.Declaration.TheOpen as tree
use Rattle.elm_base.specs.declared.tree.Declaration.TheFolds.{fold-Expr, fold-Declaration, fold-Set}
use Rattle.name_steps.specs.declared.step.Defined.{Defined}
use Rattle.name_steps.specs.declared.step.Step.{Step}
use Rattle.name_steps.specs.declared.step.Step.TheVariants as step
use Rattle.name_steps.specs.PatternNames.{spot_of, binds_of, constructors_of}

-- of an expression its place, whether it is a lambda (brackets aside), and its steps
pub record Read : Type 0 where
  pub at : At
  pub lambda : Bool
  pub steps : List Step

-- of a declaration the definition that it is, if it is one, and its steps
pub record Part : Type 0 where
  pub definitions : List Defined
  pub steps : List Step

-- of a field of a record form its label, and its steps
pub record Field : Type 0 where
  pub label : Spot
  pub steps : List Step

abbrev pub plain : At → List Step → Read
plain at steps = record { at = at; lambda = false; steps = steps }

-- a name is used
abbrev pub used : At → List ℕ → List Step
used at name = step.Uses (spot_of at name ∷ []) ∷ []

-- the names of a pattern are used and bound
abbrev pub pattern_steps : Pattern → List Step
pattern_steps pattern = step.Uses (constructors_of pattern) ∷ step.Binds (binds_of pattern) ∷ []

abbrev pub patterns_steps : List Pattern → List Step
patterns_steps patterns = flat_map pattern_steps patterns

-- in a scope of their own
abbrev pub in_scope : List Step → List Step
in_scope steps = step.Opens ∷ steps ++ step.Closes ∷ []

-- one expression after the other
abbrev pub each : List Read → List Step
each reads = flat_map (λ read. read.steps) reads

-- the fields of a record form
abbrev pub fields_steps : List Field → List Step
fields_steps fields = step.Labels (map (λ field. field.label) fields) ∷ flat_map (λ field. field.steps) fields

abbrev pub definitions_of : List Part → List Defined
definitions_of parts = flat_map (λ part. part.definitions) parts

-- what definitions bind
abbrev pub bound_by : List Defined → List Spot
bound_by definitions = flat_map (λ defined. defined.binds) definitions

-- A `let`: all that its block defines is bound before anything of it is read.
abbrev pub let_steps : At → List Part → Read → List Step
let_steps at parts body =
    in_scope (step.Binds (bound_by (definitions_of parts)) ∷ step.Block at (definitions_of parts) body.at ∷ flat_map (λ part. part.steps) parts ++ body.steps)

abbrev pub expr_step : tree.Expr-F Part Read Field → Read
expr_step (tree.Chain at operands operators) = plain at (each operands ++ step.Uses (map (λ operator. spot_of operator.at operator.name) operators) ∷ [])
expr_step (tree.Binary at operator left right) = plain at (left.steps ++ used operator.at operator.name ++ right.steps)
expr_step (tree.Negate at inner) = plain at inner.steps
expr_step (tree.Call at function arguments) = plain at (function.steps ++ each arguments)
expr_step (tree.Int at value) = plain at []
expr_step (tree.Char at value) = plain at []
expr_step (tree.Text at value) = plain at []
expr_step (tree.Variable at name) = plain at (used at name)
expr_step (tree.Constructor at name) = plain at (used at name)
expr_step (tree.FieldFunction at label) = plain at []
expr_step (tree.Access at from label) = plain at from.steps
expr_step (tree.OperatorName at name) = plain at (used at name)
expr_step (tree.TupleMaker at parts) = plain at []
expr_step (tree.Unit at) = plain at []
expr_step (tree.Brackets at inner) = record { at = at; lambda = inner.lambda; steps = inner.steps }
expr_step (tree.Tuple at parts) = plain at (each parts)
expr_step (tree.List at parts) = plain at (each parts)
expr_step (tree.Range at low high) = plain at (low.steps ++ high.steps)
expr_step (tree.Fields at fields) = plain at (fields_steps fields)
expr_step (tree.Extend at from fields) = plain at (from.steps ++ fields_steps fields)
expr_step (tree.Update at from fields) = plain at (from.steps ++ fields_steps fields)
expr_step (tree.Remove at from label fields) = plain at (from.steps ++ fields_steps fields)
expr_step (tree.Lambda at patterns body) = record { at = at; lambda = true; steps = in_scope (patterns_steps patterns ++ body.steps) }
expr_step (tree.If at condition first second) = plain at (condition.steps ++ first.steps ++ second.steps)
expr_step (tree.Guards at branches) = plain at (flat_map (λ branch. branch.0.steps ++ branch.1.steps) branches)
expr_step (tree.Let at parts body) = plain at (let_steps at parts body)
expr_step (tree.Case at scrutinee branches) =
    plain at (scrutinee.steps ++ flat_map (λ branch. in_scope (pattern_steps branch.0 ++ branch.1.steps)) branches)

-- a definition of this name, which is empty where a pattern is defined
abbrev pub defined_of : At → List ℕ → List Spot → Bool → Defined
defined_of at name binds function = record { at = at; name = name; binds = binds; function = function }

-- whether there are any
abbrev pub are_some : {X : Type 0} → List X → Bool
are_some [] = false
are_some (x ∷ more) = true

abbrev pub declaration_step : tree.Declaration-F Part Read Field → Part
declaration_step (tree.Definition at name patterns body) = record {
  definitions = defined_of at name (spot_of at name ∷ []) (are_some patterns || body.lambda) ∷ [];
  steps = in_scope (patterns_steps patterns ++ body.steps);
}
declaration_step (tree.PatternDefinition at pattern body) = record {
  definitions = defined_of at [] (binds_of pattern) false ∷ [];
  steps = step.Uses (constructors_of pattern) ∷ [] ++ body.steps;
}
declaration_step (tree.PortDefinition at name body) = record {
  definitions = defined_of at name.name (name ∷ []) body.lambda ∷ [];
  steps = body.steps;
}
declaration_step _ = record { definitions = []; steps = [] }

abbrev pub set_step : tree.Set-F Part Read Field → Field
set_step set = record { label = spot_of set.at set.label; steps = set.value.steps }

abbrev pub read_of : Expr → Read
read_of = fold-Expr Part Read Field declaration_step expr_step set_step

abbrev pub part_of : Declaration → Part
part_of = fold-Declaration Part Read Field declaration_step expr_step set_step

abbrev pub field_of : Set → Field
field_of = fold-Set Part Read Field declaration_step expr_step set_step

-- the steps of the branches of a `case`, and none of another form
abbrev pub cases : List (Pattern × Expr) → List Step
cases branches = flat_map (λ (branch : Pattern × Read). in_scope (pattern_steps branch.0 ++ branch.1.steps)) (map (λ branch. (branch.0, read_of branch.1)) branches)

abbrev pub branches_layer : tree.Expr-F Declaration Expr Set → List Step
branches_layer (tree.Case at scrutinee branches) = cases branches
branches_layer _ = []

abbrev pub branches_of : Expr → List Step
branches_of x = branches_layer (out-Expr x)

-- the steps of a form with parts one behind the other, and none of another form
abbrev pub joined_layer : tree.Expr-F Declaration Expr Set → List Step
joined_layer (tree.Chain at operands operators) =
    each (map read_of operands) ++ step.Uses (map (λ operator. spot_of operator.at operator.name) operators) ∷ []
joined_layer (tree.Binary at operator left right) = (read_of left).steps ++ used operator.at operator.name ++ (read_of right).steps
joined_layer (tree.Call at function arguments) = (read_of function).steps ++ each (map read_of arguments)
joined_layer (tree.Range at low high) = (read_of low).steps ++ (read_of high).steps
joined_layer (tree.If at condition first second) = (read_of condition).steps ++ (read_of first).steps ++ (read_of second).steps
joined_layer (tree.Extend at from fields) = (read_of from).steps ++ fields_steps (map field_of fields)
joined_layer (tree.Update at from fields) = (read_of from).steps ++ fields_steps (map field_of fields)
joined_layer (tree.Remove at from label fields) = (read_of from).steps ++ fields_steps (map field_of fields)
joined_layer (tree.Case at scrutinee branches) = (read_of scrutinee).steps ++ cases branches
joined_layer _ = []

abbrev pub joined_of : Expr → List Step
joined_of x = joined_layer (out-Expr x)

-- the steps of a lambda, and none of another form
abbrev pub lambda_layer : tree.Expr-F Declaration Expr Set → List Step
lambda_layer (tree.Lambda at patterns body) = in_scope (patterns_steps patterns ++ (read_of body).steps)
lambda_layer _ = []

abbrev pub lambda_of : Expr → List Step
lambda_of x = lambda_layer (out-Expr x)

-- the steps of the branches of an `if` of several, and none of another form
abbrev pub choices : List (Expr × Expr) → List Step
choices branches = flat_map (λ (branch : Read × Read). branch.0.steps ++ branch.1.steps) (map (λ branch. (read_of branch.0, read_of branch.1)) branches)

abbrev pub guards_layer : tree.Expr-F Declaration Expr Set → List Step
guards_layer (tree.Guards at branches) = choices branches
guards_layer _ = []

abbrev pub guards_of : Expr → List Step
guards_of x = guards_layer (out-Expr x)

-- the steps of a `let`, and none of another form
abbrev pub block_layer : tree.Expr-F Declaration Expr Set → List Step
block_layer (tree.Let at definitions body) = let_steps at (map part_of definitions) (read_of body)
block_layer _ = []

abbrev pub block_of : Expr → List Step
block_of x = block_layer (out-Expr x)
