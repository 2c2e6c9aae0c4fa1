-- The plain form of a program's trees, with what typing asks for and evaluation forgets: of which union a constructor is,
-- what a maker is held to, and what a `let` annotates.
use Rattle.std.specs.Prelude.{ℕ, Option, List}
use Rattle.elm_base.specs.declared.term.Literal.{Literal as TermLiteral}
use Rattle.elm_meaning.specs.Values.{Tree, Trees, FieldTrees, GuardedTrees, Branches, Group, Done, TupleTree, ListTree, RecordTree, NoTrees, AndTree, NoFieldTrees, AndFieldTree, NoGuards, AndGuard, NoBranches, AndBranch, NoFunctions, AndFunction}
use Rattle.elm_meaning.specs.NativeTable.{native_at}
use Rattle.elm_meaning.specs.Terms.{literal_value, native_tree, constructor_value}
use Rattle.typing_rules.specs.WrittenTypes.{Written}
use Rattle.typing_rules.specs.CorePatterns.{CorePattern, erased_pattern}

mutual
  pub data Core : Type 0 where
    Local : (number : ℕ) → Core
    Top : (number : ℕ) → Core
    Input : (number : ℕ) → Core
    Literal : (value : TermLiteral) → Core
    Native : (number : ℕ) → Core
    -- of the union with this name
    Constructor : (union name : List ℕ) (takes : ℕ) → Core
    -- a maker, or a definition of a `let` with an annotation, is held to what is written
    Held : (written : Written) (inner : Core) → Core
    Lambda : (pattern : CorePattern) (body : Core) → Core
    Call : (function argument : Core) → Core
    If : (condition yes no : Core) → Core
    Guards : (branches : CoreGuards) → Core
    Case : (scrutinee : Core) (branches : CoreBranches) → Core
    LetValue : (pattern : CorePattern) (value body : Core) → Core
    LetFunctions : (group : CoreGroup) (body : Core) → Core
    Tuple : (parts : Cores) → Core
    ListOf : (parts : Cores) → Core
    Range : (low high : Core) → Core
    Fields : (fields : CoreFields) → Core
    Update : (from : Core) (fields : CoreFields) → Core
    Extend : (from : Core) (fields : CoreFields) → Core
    Remove : (from : Core) (label : List ℕ) → Core
    Field : (from : Core) (label : List ℕ) → Core

  pub data Cores : Type 0 where
    NoCores : Cores
    AndCore : (first : Core) (others : Cores) → Cores

  pub data CoreFields : Type 0 where
    NoCoreFields : CoreFields
    AndCoreField : (label : List ℕ) (value : Core) (others : CoreFields) → CoreFields

  pub data CoreGuards : Type 0 where
    NoCoreGuards : CoreGuards
    AndCoreGuard : (condition body : Core) (others : CoreGuards) → CoreGuards

  pub data CoreBranches : Type 0 where
    NoCoreBranches : CoreBranches
    AndCoreBranch : (pattern : CorePattern) (body : Core) (others : CoreBranches) → CoreBranches

  -- functions that may call each other: the number of each one's name, its annotation, its parameter and its body
  pub data CoreGroup : Type 0 where
    NoCoreFunctions : CoreGroup
    AndCoreFunction : (name : ℕ) (annotation : Option Written) (pattern : CorePattern) (body : Core) (others : CoreGroup) → CoreGroup

-- what evaluation keeps
abbrev mutual
  pub erased : Core → Tree
  erased (Local number) = Tree.Local number
  erased (Top number) = Tree.Top number
  erased (Input number) = Tree.Input number
  erased (Literal value) = Done (literal_value value)
  erased (Native number) = native_tree number (native_at number)
  erased (Constructor union name takes) = Done (constructor_value name takes)
  erased (Held written inner) = erased inner
  erased (Lambda p b) = Tree.Lambda (erased_pattern p) (erased b)
  erased (Call f a) = Tree.Call (erased f) (erased a)
  erased (If c y n) = Tree.If (erased c) (erased y) (erased n)
  erased (Guards gs) = Tree.Guards (erased_guards gs)
  erased (Case e bs) = Tree.Case (erased e) (erased_branches bs)
  erased (LetValue p e b) = Tree.LetValue (erased_pattern p) (erased e) (erased b)
  erased (LetFunctions g b) = Tree.LetFunctions (erased_group g) (erased b)
  erased (Tuple es) = TupleTree (erased_all es)
  erased (ListOf es) = ListTree (erased_all es)
  erased (Range l h) = Tree.Range (erased l) (erased h)
  erased (Fields fs) = RecordTree (erased_fields fs)
  erased (Update e fs) = Tree.Update (erased e) (erased_fields fs)
  erased (Extend e fs) = Tree.Extend (erased e) (erased_fields fs)
  erased (Remove e label) = Tree.Remove (erased e) label
  erased (Field e label) = Tree.Field (erased e) label

  pub erased_all : Cores → Trees
  erased_all NoCores = NoTrees
  erased_all (AndCore e es) = AndTree (erased e) (erased_all es)

  pub erased_fields : CoreFields → FieldTrees
  erased_fields NoCoreFields = NoFieldTrees
  erased_fields (AndCoreField label e fs) = AndFieldTree label (erased e) (erased_fields fs)

  pub erased_guards : CoreGuards → GuardedTrees
  erased_guards NoCoreGuards = NoGuards
  erased_guards (AndCoreGuard c b gs) = AndGuard (erased c) (erased b) (erased_guards gs)

  pub erased_branches : CoreBranches → Branches
  erased_branches NoCoreBranches = NoBranches
  erased_branches (AndCoreBranch p b bs) = AndBranch (erased_pattern p) (erased b) (erased_branches bs)

  pub erased_group : CoreGroup → Group
  erased_group NoCoreFunctions = NoFunctions
  erased_group (AndCoreFunction name annotation p b g) = AndFunction name (erased_pattern p) (erased b) (erased_group g)
