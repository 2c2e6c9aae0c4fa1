use Rattle.std.proofs.Common.{arith}
use Rattle.serde_json.specs.View.{view}
use Rattle.session_file.specs.declared.session.Session.{Session}
use Rattle.session_file.proofs.Whole.{session_of}
use Rattle.session_file.proofs.reading.read.Goals as goal

pub returns : goal.returns
returns c =
    session_of (λ (session : Session). (session.cursor, session.events.items)) c.args.bytes.now (view c.in_ok-value.value)
    (omega (arith, c.if-bytes-gt-MAX_BYTES.false)) c.in_ok-value.ensures.0 c.in_ok-value.ensures.1 c.session_in.result c.session_in.ensures
