use Rattle.reactor_meaning.specs.Command.{begun}
use Rattle.reactor_meaning.specs.Transcript.{frame_of}
use Rattle.reactor_engine.proofs.Running.{project_served, served_reads, served_writes, no_files}
use Rattle.reactor_engine.proofs.run.run_project.Goals as goal

pub returns-in-Ok-clause-ends : goal.returns-in-Ok-clause-ends
returns-in-Ok-clause-ends g c =
    project_served c.args.project.now (g.H.Shelf.files c.args.shelf.now) (g.H.Shelf.faults c.args.shelf.now) (g.H.Shelf.faults c.load.new.shelf)
    (record { reads = g.S.Source.faults c.args.script.now; writes = g.K.Sink.faults c.args.screen.now; left = g.S.Source.left c.args.script.now; taken = g.K.Sink.taken c.args.screen.now })
    (record { reads = g.S.Source.faults c.serve.new.script; writes = g.K.Sink.faults c.serve.new.screen; left = g.S.Source.left c.serve.new.script; taken = g.K.Sink.taken c.serve.new.screen })
    (record { port = c.in-Ok.port }) c.serve.result c.in-Ok.ensures.answer c.serve.ensures

pub returns-in-Ok-clause-reads_kept : goal.returns-in-Ok-clause-reads_kept
returns-in-Ok-clause-reads_kept g c =
    let first = begun (record { port = c.in-Ok.port }) no_files in
    served_reads (frame_of first) first
    (record { reads = g.S.Source.faults c.args.script.now; writes = g.K.Sink.faults c.args.screen.now; left = g.S.Source.left c.args.script.now; taken = g.K.Sink.taken c.args.screen.now })
    (record { reads = g.S.Source.faults c.serve.new.script; writes = g.K.Sink.faults c.serve.new.screen; left = g.S.Source.left c.serve.new.script; taken = g.K.Sink.taken c.serve.new.screen })
    c.serve.result (c.serve.ensures no_files)

pub returns-in-Ok-clause-writes_kept : goal.returns-in-Ok-clause-writes_kept
returns-in-Ok-clause-writes_kept g c =
    let first = begun (record { port = c.in-Ok.port }) no_files in
    served_writes (frame_of first) first
    (record { reads = g.S.Source.faults c.args.script.now; writes = g.K.Sink.faults c.args.screen.now; left = g.S.Source.left c.args.script.now; taken = g.K.Sink.taken c.args.screen.now })
    (record { reads = g.S.Source.faults c.serve.new.script; writes = g.K.Sink.faults c.serve.new.screen; left = g.S.Source.left c.serve.new.script; taken = g.K.Sink.taken c.serve.new.screen })
    c.serve.result (c.serve.ensures no_files)
