-- The plain form of a whole definition at the top level.
use Rattle.std.specs.Prelude.{List, map}
use Rattle.elm_base.specs.declared.tree.Pattern.{Pattern}
use Rattle.elm_base.specs.declared.tree.Expr.{Expr}
use Rattle.typing_rules.specs.Core.{Core}
use Rattle.plain_form.specs.Naming.{Naming}
use Rattle.plain_form.specs.Numbering.{numbered, binders_in}
use Rattle.plain_form.specs.PlainForm.{plain, plain_pattern, lambdas}

-- its parameters round its body, under names with numbers
abbrev pub under : Naming → List Pattern → Expr → Core
under n ps body = lambdas (map (plain_pattern n) ps) (plain n body)

-- the binders are numbered by their places
abbrev pub definition_of : Naming → List Pattern → Expr → Core
definition_of n ps body = under (numbered n (binders_in n ps body)) ps body
