-- A literal has one value.
use Rattle.std.proofs.Common.{◌≡◌, Some, sym, ◌∙◌}
use Rattle.elm_base.specs.declared.event.PortValue.{PortValue}
use Rattle.port_literals.specs.Laws.{OneValue}
use Rattle.port_literals.proofs.Complete.{reads}

some_is : (x y : PortValue) → Some x ≡ Some y → x ≡ y
some_is x y h = cc

pub one_value : OneValue
one_value port is text given other h k = some_is given other (sym (reads 64 port given text h is) ∙ reads 64 port other text k is)
