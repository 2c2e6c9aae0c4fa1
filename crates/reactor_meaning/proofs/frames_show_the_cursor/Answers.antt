use Rattle.reactor_meaning.proofs.Stepping.{frames_at}
use Rattle.reactor_meaning.proofs.frames_show_the_cursor.Goals as goal

pub returns : goal.returns
returns c = frames_at
