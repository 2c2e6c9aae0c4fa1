use Rattle.elm_typing.proofs.RowMaps.{maps_agree}
use Rattle.elm_typing.proofs.row_laws.rows_in_order_are_maps.Goals as goal

pub returns-clause-same : goal.returns-clause-same
returns-clause-same c = maps_agree
