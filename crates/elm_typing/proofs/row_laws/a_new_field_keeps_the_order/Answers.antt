use Rattle.elm_typing.proofs.RowMaps.{in_order-extended, extended-in_order}
use Rattle.elm_typing.proofs.row_laws.a_new_field_keeps_the_order.Goals as goal

pub returns : goal.returns
returns c = λ l t r. (extended-in_order l t r, λ h. in_order-extended l t r h.0 h.1)
