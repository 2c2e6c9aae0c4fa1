use Rattle.std.proofs.Common.{sym, subst}
use Rattle.session_file.specs.Written.{Fits}
use Rattle.session_bench.proofs.written_times.Goals as goal

pub write-requires : goal.write-requires
write-requires c = subst (Fits c.args.session.now.cursor) (sym c.deref.ensures.value) c.requires
