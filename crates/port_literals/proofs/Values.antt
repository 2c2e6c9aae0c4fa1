-- Values and types, and their layers.
use Rattle.std.proofs.Common.{◌≡◌, ap, ◌∙◌}
use Rattle.elm_base.specs.declared.event.PortType.{PortType, out-PortType, roll-PortType}
use Rattle.elm_base.specs.declared.event.PortType.TheVariants as port
use Rattle.elm_base.specs.declared.event.PortType.TheOpen as type
use Rattle.elm_base.specs.declared.event.PortValue.{PortValue, out-PortValue, roll-PortValue}
use Rattle.elm_base.specs.declared.event.PortValue.TheFolds.{ind-PortValue}
use Rattle.elm_base.specs.declared.event.PortValue.TheVariants as value
use Rattle.elm_base.specs.declared.event.PortValue.TheOpen as layer

-- a layer made a value is that layer again
pub layer_again : (x : layer.PortValue-F PortValue) → out-PortValue (roll-PortValue x) ≡ x
layer_again layer.Unit = ap out-PortValue value.rolls-Unit ∙ value.outs-Unit
layer_again layer.Nothing = ap out-PortValue value.rolls-Nothing ∙ value.outs-Nothing
layer_again (layer.Int x) = ap out-PortValue (value.rolls-Int x) ∙ value.outs-Int x
layer_again (layer.Bool x) = ap out-PortValue (value.rolls-Bool x) ∙ value.outs-Bool x
layer_again (layer.Text x) = ap out-PortValue (value.rolls-Text x) ∙ value.outs-Text x
layer_again (layer.Just x) = ap out-PortValue (value.rolls-Just x) ∙ value.outs-Just x
layer_again (layer.List x) = ap out-PortValue (value.rolls-List x) ∙ value.outs-List x
layer_again (layer.Tuple x) = ap out-PortValue (value.rolls-Tuple x) ∙ value.outs-Tuple x
layer_again (layer.Fields x) = ap out-PortValue (value.rolls-Fields x) ∙ value.outs-Fields x

-- a value is made of its layer
pub value_again : (given : PortValue) → roll-PortValue (out-PortValue given) ≡ given
value_again = ind-PortValue (λ v. roll-PortValue (out-PortValue v) ≡ v) (λ x y is. ap roll-PortValue (layer_again x))

pub type_again : (x : type.PortType-F PortType) → out-PortType (roll-PortType x) ≡ x
type_again type.Unit = ap out-PortType port.rolls-Unit ∙ port.outs-Unit
type_again type.Int = ap out-PortType port.rolls-Int ∙ port.outs-Int
type_again type.Bool = ap out-PortType port.rolls-Bool ∙ port.outs-Bool
type_again type.Text = ap out-PortType port.rolls-Text ∙ port.outs-Text
type_again (type.Maybe x) = ap out-PortType (port.rolls-Maybe x) ∙ port.outs-Maybe x
type_again (type.List x) = ap out-PortType (port.rolls-List x) ∙ port.outs-List x
type_again (type.Tuple x) = ap out-PortType (port.rolls-Tuple x) ∙ port.outs-Tuple x
type_again (type.Fields x) = ap out-PortType (port.rolls-Fields x) ∙ port.outs-Fields x
