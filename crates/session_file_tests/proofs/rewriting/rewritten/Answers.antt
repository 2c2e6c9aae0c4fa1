use Rattle.std.proofs.Common.{sym, subst}
use Rattle.session_file.specs.Sessions.{SessionOf}
use Rattle.session_file_tests.proofs.rewriting.rewritten.Goals as goal

pub write-requires : goal.write-requires
write-requires c =
    c.a_session_may_be_written_again.ensures c.args.bytes.now c.in-Ok.session.cursor c.deref.result.now
    (subst (SessionOf c.args.bytes.now c.in-Ok.session.cursor) (sym c.deref.ensures.value) c.in-Ok.ensures)
