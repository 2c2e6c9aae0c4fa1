-- How terms are laid out, one behind the other.
use Rattle.std.specs.Prelude.{◌≡◌, ℕ, ◌≤◌, ◌+◌, List, [], ◌∷◌, ◌++◌, Some, length, map, slice_get}
use Rattle.elm_base.specs.declared.term.Term.{Term}
use Rattle.elm_base.specs.declared.term.TermPattern.{TermPattern}
use Rattle.elm_meaning.specs.Patterns.{Pattern, pattern_of}
use Rattle.elm_meaning.specs.NativeTable.{native_at}
use Rattle.elm_meaning.specs.Values.{Tree, Trees, FieldTrees, GuardedTrees, Branches, Done, TupleTree, ListTree, RecordTree, NoTrees, AndTree, NoFieldTrees, AndFieldTree, NoGuards, AndGuard, NoBranches, AndBranch}
use Rattle.elm_meaning.specs.Terms.{tree_at, trees_of, literal_value, native_tree, constructor_value}
use Rattle.elm_meaning.specs.Lowered.{AllBelow, places_of, places_of_all, times}
use Rattle.core_trees.specs.declared.pattern.PatternTree.{PatternTree}
use Rattle.core_trees.specs.declared.tree.CoreTree.{CoreTree, out-CoreTree}
use Rattle.core_trees.specs.declared.tree.CoreTree.TheOpen as tree
use Rattle.core_trees.specs.declared.tree.LetFunction.{LetFunction}
use Rattle.core_trees.specs.declared.tree.LetGroup.{LetGroup}
use Rattle.core_trees.specs.PatternReading.{pattern_of as core_pattern_of}
use Rattle.core_trees.specs.Reading.{Group, Value, Functions, core_of, group_of}
use Rattle.typing_rules.specs.CorePatterns.{erased_pattern}
use Rattle.typing_rules.specs.Core.{CoreGroup, NoCoreFunctions, AndCoreFunction}
use Rattle.code_lower.specs.Lowered.{let_value, lowered, lowered_group}

abbrev pub AllFrom : ℕ → List ℕ → Type 0
AllFrom n [] = Unit {0}
AllFrom n (p ∷ ps) = (n ≤ p) × AllFrom n ps

-- Terms are added for these trees, which stand at these places. Each of them names parts before it among those that are
-- added; none is named twice, and those of the trees not at all.
pub record Lowers (old new : List Term) (places : List ℕ) (trees : List Tree) : Type 0 where
  pub added : List Term
  pub grown : new ≡ old ++ added
  pub lower : (at : ℕ) (t : Term) → slice_get added at ≡ Some t → AllBelow (length old + at) (places_of t)
  pub from : AllFrom (length old) (places ++ places_of_all added)
  pub below : AllBelow (length new) (places ++ places_of_all added)
  pub once : (place : ℕ) → times place (places ++ places_of_all added) ≤ 1
  pub are : map (tree_at (trees_of new)) places ≡ trees

abbrev pub tree_for : CoreTree → Tree
tree_for tree = lowered (core_of tree)

abbrev pub pattern_for : PatternTree → Pattern
pattern_for tree = erased_pattern (core_pattern_of tree)

-- ---- for private contracts: parts of several kinds

-- elements in front of the empty list
abbrev pub listed_for : List PatternTree → Pattern
listed_for [] = Pattern.Nil
listed_for (p ∷ ps) = Pattern.Cons (pattern_for p) (listed_for ps)

abbrev pub fields_for : List (List ℕ × CoreTree) → List Tree
fields_for fields = map (λ field. tree_for field.1) fields

abbrev pub labels_for : List (List ℕ × CoreTree) → List (List ℕ)
labels_for fields = map (λ field. field.0) fields

abbrev pub labels_of : List (List ℕ × ℕ) → List (List ℕ)
labels_of fields = map (λ field. field.0) fields

abbrev pub pairs_for : List (CoreTree × CoreTree) → List Tree
pairs_for [] = []
pairs_for (p ∷ ps) = tree_for p.0 ∷ tree_for p.1 ∷ pairs_for ps

abbrev pub patterns_of : List (TermPattern × ℕ) → List Pattern
patterns_of members = map (λ member. pattern_of member.0) members

-- the members of a group: the name of each function with its lambda, or a pattern with its value
abbrev pub members_in : CoreGroup → List (Pattern × Tree)
members_in NoCoreFunctions = []
members_in (AndCoreFunction number annotation p b g) =
    (Pattern.Local number, Tree.Lambda (erased_pattern p) (lowered b)) ∷ members_in g

abbrev pub members_for : Group → List (Pattern × Tree)
members_for (Value p e) = (erased_pattern p, lowered e) ∷ []
members_for (Functions g) = members_in g

abbrev pub trees_in : List (Pattern × Tree) → List Tree
trees_in members = map (λ member. member.1) members

abbrev pub patterns_in : List (Pattern × Tree) → List Pattern
patterns_in members = map (λ member. member.0) members

abbrev pub all_trees_in : List (List (Pattern × Tree)) → List Tree
all_trees_in [] = []
all_trees_in (m ∷ ms) = trees_in m ++ all_trees_in ms

-- ---- a term round one that stands

-- what has been added, with one tree at this place, becomes another tree at that place
abbrev pub Wraps : List Term → List Term → ℕ → ℕ → (Tree → Tree) → Type 0
Wraps old new from to f = (before : List Term) (tree : Tree) → Lowers before old (from ∷ []) (tree ∷ []) → Lowers before new (to ∷ []) (f tree ∷ [])

-- parameters one round the other
abbrev pub lambdas_for : List PatternTree → Tree → Tree
lambdas_for [] body = body
lambdas_for (p ∷ ps) body = Tree.Lambda (pattern_for p) (lambdas_for ps body)

-- one argument after the other
abbrev pub calls_for : Tree → List CoreTree → Tree
calls_for f [] = f
calls_for f (a ∷ more) = calls_for (Tree.Call f (tree_for a)) more

-- a function's parameters round its body
abbrev pub lambda_for : PatternTree → List PatternTree → CoreTree → Tree
lambda_for p more body = Tree.Lambda (pattern_for p) (lambdas_for more (tree_for body))

abbrev pub function_tree : LetFunction → Tree
function_tree f = lambda_for f.pattern f.more f.body

abbrev pub branch_patterns : List (PatternTree × CoreTree) → List Pattern
branch_patterns branches = map (λ branch. pattern_for branch.0) branches

abbrev pub branch_trees : List (PatternTree × CoreTree) → List Tree
branch_trees branches = map (λ branch. tree_for branch.1) branches

abbrev pub group_members : LetGroup → List (Pattern × Tree)
group_members group = members_for (group_of group)

abbrev pub function_name : LetFunction → Pattern
function_name f = Pattern.Local f.number

-- ---- one kind of trees, and the empty tuple of another

abbrev pub leaf_layer : tree.CoreTree-F CoreTree LetGroup LetFunction → Tree
leaf_layer (tree.Local number) = Tree.Local number
leaf_layer (tree.Top number) = Tree.Top number
leaf_layer (tree.Input number) = Tree.Input number
leaf_layer (tree.Literal value) = Done (literal_value value)
leaf_layer (tree.Native number) = native_tree number (native_at number)
leaf_layer (tree.Constructor of_union name takes) = Done (constructor_value name takes)
leaf_layer _ = TupleTree NoTrees

abbrev pub leaf_for : CoreTree → Tree
leaf_for whole = leaf_layer (out-CoreTree whole)

abbrev pub applied_layer : tree.CoreTree-F CoreTree LetGroup LetFunction → Tree
applied_layer (tree.Lambda pattern more body) = lambda_for pattern more body
applied_layer (tree.Call function arguments) = calls_for (tree_for function) arguments
applied_layer (tree.If condition first second) = Tree.If (tree_for condition) (tree_for first) (tree_for second)
applied_layer (tree.Range low high) = Tree.Range (tree_for low) (tree_for high)
applied_layer (tree.Remove from label) = Tree.Remove (tree_for from) label
applied_layer (tree.Field from label) = Tree.Field (tree_for from) label
applied_layer _ = TupleTree NoTrees

abbrev pub applied_for : CoreTree → Tree
applied_for whole = applied_layer (out-CoreTree whole)

abbrev pub trees_for : List CoreTree → Trees
trees_for [] = NoTrees
trees_for (e ∷ es) = AndTree (tree_for e) (trees_for es)

abbrev pub field_trees_for : List (List ℕ × CoreTree) → FieldTrees
field_trees_for [] = NoFieldTrees
field_trees_for (f ∷ fs) = AndFieldTree f.0 (tree_for f.1) (field_trees_for fs)

abbrev pub built_layer : tree.CoreTree-F CoreTree LetGroup LetFunction → Tree
built_layer (tree.Tuple parts) = TupleTree (trees_for parts)
built_layer (tree.List parts) = ListTree (trees_for parts)
built_layer (tree.Fields fields) = RecordTree (field_trees_for fields)
built_layer (tree.Update from fields) = Tree.Update (tree_for from) (field_trees_for fields)
built_layer (tree.Extend from fields) = Tree.Extend (tree_for from) (field_trees_for fields)
built_layer _ = TupleTree NoTrees

abbrev pub built_for : CoreTree → Tree
built_for whole = built_layer (out-CoreTree whole)

abbrev pub guards_for : List (CoreTree × CoreTree) → GuardedTrees
guards_for [] = NoGuards
guards_for (g ∷ gs) = AndGuard (tree_for g.0) (tree_for g.1) (guards_for gs)

abbrev pub branches_for : List (PatternTree × CoreTree) → Branches
branches_for [] = NoBranches
branches_for (b ∷ bs) = AndBranch (pattern_for b.0) (tree_for b.1) (branches_for bs)

abbrev pub group_before : Group → Tree → Tree
group_before (Value p e) rest = let_value (erased_pattern p) (lowered e) rest
group_before (Functions g) rest = Tree.LetFunctions (lowered_group g) rest

abbrev pub groups_before : List LetGroup → Tree → Tree
groups_before [] rest = rest
groups_before (g ∷ gs) rest = group_before (group_of g) (groups_before gs rest)

abbrev pub choice_layer : tree.CoreTree-F CoreTree LetGroup LetFunction → Tree
choice_layer (tree.Guards branches) = Tree.Guards (guards_for branches)
choice_layer (tree.Case scrutinee branches) = Tree.Case (tree_for scrutinee) (branches_for branches)
choice_layer (tree.Let groups body) = groups_before groups (tree_for body)
choice_layer _ = TupleTree NoTrees

abbrev pub choice_for : CoreTree → Tree
choice_for whole = choice_layer (out-CoreTree whole)

abbrev pub cases_layer : tree.CoreTree-F CoreTree LetGroup LetFunction → List (PatternTree × CoreTree)
cases_layer (tree.Case scrutinee branches) = branches
cases_layer _ = []

-- the branches of a `case`
abbrev pub cases_in : CoreTree → List (PatternTree × CoreTree)
cases_in whole = cases_layer (out-CoreTree whole)
