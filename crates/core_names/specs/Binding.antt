-- The binders of a definition, form by form.
use Rattle.std.specs.Prelude.{List, map}
use Rattle.elm_base.specs.declared.tree.Spot.{Spot}
use Rattle.elm_base.specs.declared.tree.Pattern.{Pattern}
use Rattle.elm_base.specs.declared.tree.Set.{Set}
use Rattle.elm_base.specs.declared.tree.Expr.{Expr, out-Expr}
use Rattle.elm_base.specs.declared.tree.Declaration.{Declaration}
use Rattle.elm_base.specs.declared.tree.Declaration.TheOpen as tree
use Rattle.elm_base.specs.declared.tree.Declaration.TheFolds.{fold-Set}
use Rattle.plain_form.specs.Naming.{Naming}
use Rattle.plain_form.specs.Numbering.{Binders as Places, no_binders, one, both, all, numbered, pattern_binders, declaration_binders_step, binders_step, binders_of, definition_binders}
use Rattle.core_names.specs.declared.binders.Binders.{Binders}
use Rattle.core_names.specs.declared.numbers.Numbered.{Numbered}
use Rattle.core_names.specs.Tables.{naming, tables_of}

abbrev pub listed : Binders → Places
listed binders = record { places = binders.places; own = binders.own }

-- the names of a definition, with its binders numbered
unfoldable pub names_of : Numbered → Naming
names_of numbers = numbered (naming (tables_of numbers.names)) (listed numbers.binders.now)

-- ---- for private contracts

abbrev pub set_binders : Naming → Set → Places
set_binders n = fold-Set Places Places Places declaration_binders_step (binders_step n) (λ set. set.value)

abbrev pub of_all : Naming → List Expr → Places
of_all n trees = all (map (binders_of n) trees)

abbrev pub of_sets : Naming → List Set → Places
of_sets n sets = all (map (set_binders n) sets)

abbrev pub of_block : Naming → List Declaration → Places
of_block n definitions = all (map (definition_binders n) definitions)

abbrev pub of_patterns : List Pattern → Places
of_patterns patterns = all (map pattern_binders patterns)

abbrev pub of_labels : List Spot → Places
of_labels labels = all (map (λ label. one label.at) labels)

abbrev pub in_guards : List (Places × Places) → Places
in_guards choices = all (map (λ choice. both choice.0 choice.1) choices)

abbrev pub of_guards : Naming → List (Expr × Expr) → Places
of_guards n branches = in_guards (map (λ branch. (binders_of n branch.0, binders_of n branch.1)) branches)

abbrev pub in_branches : List (Pattern × Places) → Places
in_branches choices = all (map (λ choice. both (pattern_binders choice.0) choice.1) choices)

abbrev pub of_branches : Naming → List (Pattern × Expr) → Places
of_branches n branches = in_branches (map (λ branch. (branch.0, binders_of n branch.1)) branches)

abbrev pub branches_layer : Naming → tree.Expr-F Declaration Expr Set → Places
branches_layer n (tree.Case at scrutinee branches) = of_branches n branches
branches_layer n _ = no_binders

abbrev pub branches_of : Naming → Expr → Places
branches_of n x = branches_layer n (out-Expr x)

-- records made from others
abbrev pub record_layer : Naming → tree.Expr-F Declaration Expr Set → Places
record_layer n (tree.Extend at from sets) = both (binders_of n from) (of_sets n sets)
record_layer n (tree.Update at from sets) = both (binders_of n from) (of_sets n sets)
record_layer n (tree.Remove at from label sets) = both (binders_of n from) (of_sets n sets)
record_layer n _ = no_binders

abbrev pub record_of : Naming → Expr → Places
record_of n x = record_layer n (out-Expr x)

-- forms with parts one behind the other
abbrev pub joined_layer : Naming → tree.Expr-F Declaration Expr Set → Places
joined_layer n (tree.Binary at operator left right) = both (binders_of n left) (binders_of n right)
joined_layer n (tree.Call at function arguments) = both (binders_of n function) (of_all n arguments)
joined_layer n (tree.Range at low high) = both (binders_of n low) (binders_of n high)
joined_layer n (tree.Extend at from sets) = both (binders_of n from) (of_sets n sets)
joined_layer n (tree.Update at from sets) = both (binders_of n from) (of_sets n sets)
joined_layer n (tree.Remove at from label sets) = both (binders_of n from) (of_sets n sets)
joined_layer n (tree.If at condition first second) = both (binders_of n condition) (both (binders_of n first) (binders_of n second))
joined_layer n (tree.Lambda at patterns body) = both (of_patterns patterns) (binders_of n body)
joined_layer n (tree.Let at definitions body) = both (of_block n definitions) (binders_of n body)
joined_layer n (tree.Case at scrutinee branches) = both (binders_of n scrutinee) (of_branches n branches)
joined_layer n _ = no_binders

abbrev pub joined_of : Naming → Expr → Places
joined_of n x = joined_layer n (out-Expr x)
