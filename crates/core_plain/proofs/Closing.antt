-- A whole definition.
use Rattle.std.proofs.Common.{◌≡◌, ◌∙◌, List, map, ap}
use Rattle.elm_base.specs.declared.tree.Pattern.{Pattern}
use Rattle.elm_base.specs.declared.tree.Expr.{Expr}
use Rattle.plain_form.specs.Numbering.{Binders, numbered, binders_in}
use Rattle.plain_form.specs.PlainForm.{plain, plain_pattern, lambdas}
use Rattle.core_trees.specs.declared.pattern.PatternTree.{PatternTree}
use Rattle.core_trees.specs.declared.tree.CoreTree.{CoreTree}
use Rattle.core_trees.specs.PatternReading.{pattern_of}
use Rattle.core_trees.specs.Reading.{core_of}
use Rattle.core_names.specs.declared.numbers.Numbered.{Numbered}
use Rattle.core_names.specs.Tables.{naming, tables_of}
use Rattle.core_names.specs.Binding.{names_of, listed}
use Rattle.core_plain.specs.Whole.{under, definition_of}

names_are : (of : Numbered) (b : Binders) → listed of.binders.now ≡ b → names_of of ≡ numbered (naming (tables_of of.names)) b
unfolding names_of
names_are of b is = ap (numbered (naming (tables_of of.names))) is

pub whole : (of : Numbered) (ps : List Pattern) (body : Expr) (patterns : List PatternTree) (tree : CoreTree) →
    listed of.binders.now ≡ binders_in (naming (tables_of of.names)) ps body → map pattern_of patterns ≡ map (plain_pattern (names_of of)) ps → core_of tree ≡ plain (names_of of) body →
    lambdas (map pattern_of patterns) (core_of tree) ≡ definition_of (naming (tables_of of.names)) ps body
whole of ps body patterns tree binders parameters made =
    ap (λ l. lambdas l (core_of tree)) parameters ∙ ap (lambdas (map (plain_pattern (names_of of)) ps)) made
    ∙ ap (λ n. under n ps body) (names_are of (binders_in (naming (tables_of of.names)) ps body) binders)
