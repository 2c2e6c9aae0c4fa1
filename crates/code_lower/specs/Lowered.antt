-- What evaluation keeps of a plain term, as code has it: a name with a lambda on its right side is a function of a group.
use Rattle.elm_meaning.specs.Patterns.{Pattern}
use Rattle.elm_meaning.specs.NativeTable.{native_at}
use Rattle.elm_meaning.specs.Terms.{literal_value, native_tree, constructor_value}
use Rattle.elm_meaning.specs.Values.{Tree, Trees, FieldTrees, GuardedTrees, Branches, Group, Done, TupleTree, ListTree, RecordTree, NoTrees, AndTree, NoFieldTrees, AndFieldTree, NoGuards, AndGuard, NoBranches, AndBranch, NoFunctions, AndFunction}
use Rattle.typing_rules.specs.CorePatterns.{erased_pattern}
use Rattle.typing_rules.specs.Core.{Core, Cores, CoreFields, CoreGuards, CoreBranches, CoreGroup, Local, Top, Input, Literal, Native, Constructor, Held, Lambda, Call, If, Guards, Case, LetValue, LetFunctions, Tuple, ListOf, Range, Fields, Update, Extend, Remove, Field, NoCores, AndCore, NoCoreFields, AndCoreField, NoCoreGuards, AndCoreGuard, NoCoreBranches, AndCoreBranch, NoCoreFunctions, AndCoreFunction}

-- a value for a pattern, unless it is a name's lambda
abbrev pub let_value : Pattern → Tree → Tree → Tree
let_value (Pattern.Local number) (Tree.Lambda p b) body = Tree.LetFunctions (AndFunction number p b NoFunctions) body
let_value p e body = Tree.LetValue p e body

-- one line a form
abbrev mutual
  pub lowered : Core → Tree
  lowered (Local number) = Tree.Local number
  lowered (Top number) = Tree.Top number
  lowered (Input number) = Tree.Input number
  lowered (Literal value) = Done (literal_value value)
  lowered (Native number) = native_tree number (native_at number)
  lowered (Constructor union name takes) = Done (constructor_value name takes)
  lowered (Held written inner) = lowered inner
  lowered (Lambda p b) = Tree.Lambda (erased_pattern p) (lowered b)
  lowered (Call f a) = Tree.Call (lowered f) (lowered a)
  lowered (If c y n) = Tree.If (lowered c) (lowered y) (lowered n)
  lowered (Guards gs) = Tree.Guards (lowered_guards gs)
  lowered (Case e bs) = Tree.Case (lowered e) (lowered_branches bs)
  lowered (LetValue p e b) = let_value (erased_pattern p) (lowered e) (lowered b)
  lowered (LetFunctions g b) = Tree.LetFunctions (lowered_group g) (lowered b)
  lowered (Tuple es) = TupleTree (lowered_all es)
  lowered (ListOf es) = ListTree (lowered_all es)
  lowered (Range l h) = Tree.Range (lowered l) (lowered h)
  lowered (Fields fs) = RecordTree (lowered_fields fs)
  lowered (Update e fs) = Tree.Update (lowered e) (lowered_fields fs)
  lowered (Extend e fs) = Tree.Extend (lowered e) (lowered_fields fs)
  lowered (Remove e label) = Tree.Remove (lowered e) label
  lowered (Field e label) = Tree.Field (lowered e) label

  pub lowered_all : Cores → Trees
  lowered_all NoCores = NoTrees
  lowered_all (AndCore e es) = AndTree (lowered e) (lowered_all es)

  pub lowered_fields : CoreFields → FieldTrees
  lowered_fields NoCoreFields = NoFieldTrees
  lowered_fields (AndCoreField label e fs) = AndFieldTree label (lowered e) (lowered_fields fs)

  pub lowered_guards : CoreGuards → GuardedTrees
  lowered_guards NoCoreGuards = NoGuards
  lowered_guards (AndCoreGuard c b gs) = AndGuard (lowered c) (lowered b) (lowered_guards gs)

  pub lowered_branches : CoreBranches → Branches
  lowered_branches NoCoreBranches = NoBranches
  lowered_branches (AndCoreBranch p b bs) = AndBranch (erased_pattern p) (lowered b) (lowered_branches bs)

  pub lowered_group : CoreGroup → Group
  lowered_group NoCoreFunctions = NoFunctions
  lowered_group (AndCoreFunction name annotation p b g) = AndFunction name (erased_pattern p) (lowered b) (lowered_group g)
