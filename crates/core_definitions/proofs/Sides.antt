-- What stands on the right side of a definition and of an outbound port.
use Rattle.std.proofs.Common.{◌≡◌, ◌∙◌, ℕ, List, [], sym, ap}
use Rattle.elm_base.specs.declared.token.At.{At}
use Rattle.elm_base.specs.declared.tree.Spot.{Spot}
use Rattle.elm_base.specs.declared.tree.Pattern.{Pattern}
use Rattle.elm_base.specs.declared.tree.Expr.{Expr}
use Rattle.elm_base.specs.declared.tree.Declaration.{Declaration, out-Declaration, out-roll-Declaration}
use Rattle.elm_base.specs.declared.tree.Declaration.TheVariants as d
use Rattle.elm_base.specs.declared.tree.Declaration.TheOpen as tree
use Rattle.plain_form.specs.Naming.{Naming}
use Rattle.core_plain.specs.Whole.{definition_of}
use Rattle.core_definitions.specs.Definitions.{right_layer, right_side}

pub definition_side : (n : Naming) (input : ℕ) (whole : Declaration) (at : At) (name : List ℕ) (ps given : List Pattern) (body : Expr) → whole ≡ d.Definition at name ps body → given ≡ ps →
    definition_of n given body ≡ right_side n input whole
definition_side n input whole at name ps given body is same =
    ap (λ l. definition_of n l body) same
    ∙ sym (ap (right_layer n input) (ap out-Declaration (is ∙ sym (d.rolls-Definition at name ps body)) ∙ out-roll-Declaration (tree.Definition at name ps body)))

pub port_side : (n : Naming) (input : ℕ) (whole : Declaration) (at : At) (name : Spot) (given : List Pattern) (body : Expr) → whole ≡ d.PortDefinition at name body → given ≡ [] →
    definition_of n given body ≡ right_side n input whole
port_side n input whole at name given body is same =
    ap (λ l. definition_of n l body) same
    ∙ sym (ap (right_layer n input) (ap out-Declaration (is ∙ sym (d.rolls-PortDefinition at name body)) ∙ out-roll-Declaration (tree.PortDefinition at name body)))
