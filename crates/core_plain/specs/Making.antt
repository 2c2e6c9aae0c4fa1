-- The plain form, part by part.
use Rattle.std.specs.Prelude.{List, [], map}
use Rattle.elm_base.specs.declared.native.TheConstants.{NEGATE}
use Rattle.elm_base.specs.declared.tree.Set.{Set}
use Rattle.elm_base.specs.declared.tree.Pattern.{Pattern}
use Rattle.elm_base.specs.declared.tree.Expr.{Expr, out-Expr}
use Rattle.elm_base.specs.declared.tree.Declaration.{Declaration}
use Rattle.elm_base.specs.declared.tree.Declaration.TheOpen as tree
use Rattle.typing_rules.specs.Core.{Core, Native, Lambda, Call, Field, Tuple, ListOf, If, Guards, Case, Range, Fields, Update, Extend, Remove}
use Rattle.typing_rules.specs.CorePatterns.{CorePattern}
use Rattle.plain_form.specs.Naming.{Naming}
use Rattle.plain_form.specs.PlainForm.{cores, call, lambdas, use_of, operation, fields, guards, branches, with_fields, plain, plain_set, plain_pattern, plain_definition, groups_before, no_core}
use Rattle.core_trees.specs.declared.tree.CoreTree.{CoreTree}
use Rattle.core_trees.specs.declared.pattern.PatternTree.{PatternTree}
use Rattle.core_trees.specs.PatternReading.{pattern_of}
use Rattle.core_trees.specs.Reading.{core_of}

abbrev pub guard_of : CoreTree × CoreTree → Core × Core
guard_of branch = (core_of branch.0, core_of branch.1)

abbrev pub branch_of : PatternTree × CoreTree → CorePattern × Core
branch_of branch = (pattern_of branch.0, core_of branch.1)

-- ---- for private contracts: one form, and none of another

abbrev pub applied_layer : Naming → tree.Expr-F Declaration Expr Set → Core
applied_layer n (tree.Binary at operator left right) =
    operation operator.name (use_of n operator.at (n.thing operator.at)) (plain n left) (plain n right)
applied_layer n (tree.Negate at inner) = Call (Native NEGATE) (plain n inner)
applied_layer n (tree.Call at function arguments) = call (plain n function) (map (plain n) arguments)
applied_layer n (tree.Access at from label) = Field (plain n from) label
applied_layer n (tree.Tuple at parts) = Tuple (cores (map (plain n) parts))
applied_layer n (tree.List at parts) = ListOf (cores (map (plain n) parts))
applied_layer n (tree.Lambda at ps body) = lambdas (map (plain_pattern n) ps) (plain n body)
applied_layer n _ = no_core

abbrev pub applied_of : Naming → Expr → Core
applied_of n x = applied_layer n (out-Expr x)

abbrev pub guard_from : Naming → Expr × Expr → Core × Core
guard_from n branch = (plain n branch.0, plain n branch.1)

abbrev pub branch_from : Naming → Pattern × Expr → CorePattern × Core
branch_from n branch = (plain_pattern n branch.0, plain n branch.1)

abbrev pub branches_layer : Naming → tree.Expr-F Declaration Expr Set → List (CorePattern × Core)
branches_layer n (tree.Case at scrutinee choices) = map (branch_from n) choices
branches_layer n _ = []

abbrev pub branches_in : Naming → Expr → List (CorePattern × Core)
branches_in n x = branches_layer n (out-Expr x)

abbrev pub record_layer : Naming → tree.Expr-F Declaration Expr Set → Core
record_layer n (tree.Fields at sets) = Fields (fields (map (plain_set n) sets))
record_layer n (tree.Extend at from sets) = Extend (plain n from) (fields (map (plain_set n) sets))
record_layer n (tree.Update at from sets) = Update (plain n from) (fields (map (plain_set n) sets))
record_layer n (tree.Remove at from label sets) = with_fields (Remove (plain n from) label) (map (plain_set n) sets)
record_layer n _ = no_core

abbrev pub record_of : Naming → Expr → Core
record_of n x = record_layer n (out-Expr x)

abbrev pub branching_layer : Naming → tree.Expr-F Declaration Expr Set → Core
branching_layer n (tree.If at condition first second) = If (plain n condition) (plain n first) (plain n second)
branching_layer n (tree.Guards at choices) = Guards (guards (map (guard_from n) choices))
branching_layer n (tree.Case at scrutinee choices) = Case (plain n scrutinee) (branches (map (branch_from n) choices))
branching_layer n (tree.Range at low high) = Range (plain n low) (plain n high)
branching_layer n (tree.Let at definitions body) = groups_before n (n.groups at) (map (plain_definition n) definitions) (plain n body)
branching_layer n _ = no_core

abbrev pub branching_of : Naming → Expr → Core
branching_of n x = branching_layer n (out-Expr x)
