-- The plain term that a tree stands for.
use Rattle.std.specs.Prelude.{ℕ, Option, Some, None, List, [], ◌∷◌, map}
use Rattle.elm_base.specs.declared.tree.TypeTree.{TypeTree}
use Rattle.typing_rules.specs.WrittenTypes.{Written}
use Rattle.typing_rules.specs.CorePatterns.{CorePattern}
use Rattle.typing_rules.specs.Core.{Core, CoreGroup, Local, Top, Input, Literal, Native, Constructor, Held, Lambda, If, Guards, Case, LetValue, LetFunctions, Tuple, ListOf, Range, Fields, Update, Extend, Remove, Field, NoCoreFunctions, AndCoreFunction}
use Rattle.plain_form.specs.PlainForm.{cores, fields, guards, branches, call, lambdas}
use Rattle.type_sense.specs.WrittenOf.{written_of}
use Rattle.core_trees.specs.declared.tree.CoreTree.{CoreTree}
use Rattle.core_trees.specs.declared.tree.CoreTree.TheOpen as tree
use Rattle.core_trees.specs.declared.tree.CoreTree.TheFolds.{fold-CoreTree, fold-LetFunction, fold-LetGroup}
use Rattle.core_trees.specs.declared.tree.LetFunction.{LetFunction}
use Rattle.core_trees.specs.declared.tree.LetGroup.{LetGroup}
use Rattle.core_trees.specs.PatternReading.{pattern_of}

-- a function of a group, before the others
pub record Function : Type 0 where
  pub number : ℕ
  pub annotation : Option Written
  pub pattern : CorePattern
  pub body : Core

pub data Group : Type 0 where
  Value : (pattern : CorePattern) (value : Core) → Group
  Functions : (group : CoreGroup) → Group

abbrev pub annotation_of : Option TypeTree → Option Written
annotation_of None = None
annotation_of (Some written) = Some (written_of written)

abbrev pub functions : List Function → CoreGroup
functions [] = NoCoreFunctions
functions (f ∷ fs) = AndCoreFunction f.number f.annotation f.pattern f.body (functions fs)

abbrev pub group_before : Group → Core → Core
group_before (Value pattern value) body = LetValue pattern value body
group_before (Functions group) body = LetFunctions group body

-- the groups in order
abbrev pub groups_before : List Group → Core → Core
groups_before [] body = body
groups_before (g ∷ gs) body = group_before g (groups_before gs body)

abbrev pub core_step : tree.CoreTree-F Core Group Function → Core
core_step (tree.Local number) = Local number
core_step (tree.Top number) = Top number
core_step (tree.Input number) = Input number
core_step (tree.Literal value) = Literal value
core_step (tree.Native number) = Native number
core_step (tree.Constructor of_union name takes) = Constructor of_union name takes
core_step (tree.Held written inner) = Held (written_of written) inner
core_step (tree.Lambda pattern more body) = Lambda (pattern_of pattern) (lambdas (map pattern_of more) body)
core_step (tree.Call function arguments) = call function arguments
core_step (tree.If condition first second) = If condition first second
core_step (tree.Guards choices) = Guards (guards choices)
core_step (tree.Case scrutinee choices) = Case scrutinee (branches (map (λ choice. (pattern_of choice.0, choice.1)) choices))
core_step (tree.Let groups body) = groups_before groups body
core_step (tree.Tuple parts) = Tuple (cores parts)
core_step (tree.List parts) = ListOf (cores parts)
core_step (tree.Range low high) = Range low high
core_step (tree.Fields sets) = Fields (fields sets)
core_step (tree.Update from sets) = Update from (fields sets)
core_step (tree.Extend from sets) = Extend from (fields sets)
core_step (tree.Remove from label) = Remove from label
core_step (tree.Field from label) = Field from label

abbrev pub function_step : tree.LetFunction-F Core Group Function → Function
function_step f =
    record { number = f.number; annotation = annotation_of f.annotation; pattern = pattern_of f.pattern; body = lambdas (map pattern_of f.more) f.body }

abbrev pub group_step : tree.LetGroup-F Core Group Function → Group
group_step (tree.Value pattern value) = Value (pattern_of pattern) value
group_step (tree.Functions fs) = Functions (functions fs)

abbrev pub core_of : CoreTree → Core
core_of = fold-CoreTree Core Group Function core_step group_step function_step

abbrev pub function_of : LetFunction → Function
function_of = fold-LetFunction Core Group Function core_step group_step function_step

abbrev pub group_of : LetGroup → Group
group_of = fold-LetGroup Core Group Function core_step group_step function_step
