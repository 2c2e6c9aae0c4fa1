-- Parts of plain forms, in the words of trees.
use Rattle.std.specs.Prelude.{ℕ, zero, List, codes}
use Rattle.elm_base.specs.declared.tree.Set.{Set}
use Rattle.elm_base.specs.declared.tree.Expr.{Expr, out-Expr}
use Rattle.elm_base.specs.declared.tree.Declaration.{Declaration}
use Rattle.elm_base.specs.declared.tree.Declaration.TheOpen as tree
use Rattle.elm_base.specs.declared.term.Literal.{Literal as TermLiteral}
use Rattle.elm_base.specs.declared.term.Literal.TheVariants as literal
use Rattle.typing_rules.specs.Core.{Core, Constructor, Literal, Lambda, Field, Local, Tuple}
use Rattle.typing_rules.specs.CorePatterns.{CorePattern}
use Rattle.plain_form.specs.Naming.{Naming}
use Rattle.plain_form.specs.PlainForm.{use_of, lambdas, binders, parameters, no_core}
use Rattle.core_trees.specs.declared.tree.CoreTree.{CoreTree}
use Rattle.core_trees.specs.Reading.{core_of}

abbrev pub truth_named : List ℕ → Core
truth_named name = Constructor (codes "Basics.Bool") name zero

abbrev pub literal_of : TermLiteral → Core
literal_of value = Literal value

abbrev pub field_of : List ℕ × CoreTree → List ℕ × Core
field_of field = (field.0, core_of field.1)

-- ---- for a private contract: expressions without parts, and none of another

abbrev pub leaf_layer : Naming → tree.Expr-F Declaration Expr Set → Core
leaf_layer n (tree.Int at value) = Literal (literal.Int value)
leaf_layer n (tree.Char at value) = Literal (literal.Char value)
leaf_layer n (tree.Text at value) = Literal (literal.Text value)
leaf_layer n (tree.Unit at) = Literal literal.Unit
leaf_layer n (tree.Variable at name) = use_of n at (n.thing at)
leaf_layer n (tree.Constructor at name) = use_of n at (n.thing at)
leaf_layer n (tree.OperatorName at name) = use_of n at (n.thing at)
leaf_layer n (tree.FieldFunction at label) = Lambda (CorePattern.Local (n.own at zero)) (Field (Local (n.own at zero)) label)
leaf_layer n (tree.TupleMaker at parts) = lambdas (binders n at zero parts) (Tuple (parameters n at zero parts))
leaf_layer n _ = no_core

abbrev pub leaf_of : Naming → Expr → Core
leaf_of n x = leaf_layer n (out-Expr x)
