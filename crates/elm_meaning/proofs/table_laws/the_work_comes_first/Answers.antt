use Rattle.elm_meaning.proofs.Spent.{enough_work, short_work}
use Rattle.elm_meaning.proofs.table_laws.the_work_comes_first.Goals as goal

pub returns : goal.returns
returns c = record { enough = enough_work; short = short_work }
