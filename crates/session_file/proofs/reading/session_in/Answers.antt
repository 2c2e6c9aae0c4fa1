use Rattle.std.proofs.Common.{map, sym, subst}
use Rattle.std.proofs.lemmas.Result.{err_from_is_err_and}
use Rattle.serde_json.specs.View.{view}
use Rattle.session_file.specs.Sessions as spec
use Rattle.session_file.proofs.Unique.{false_is}
use Rattle.session_file.proofs.Whole.{inputs_of, events_of, bounds_of, bounds_seen}
use Rattle.session_file.proofs.reading.session_in.Goals as goal

pub returns-then-not-is_within : goal.returns-then-not-is_within
returns-then-not-is_within c = λ m a h.
    let sheet = c.in-Some.sheet in
    let bounds = bounds_of c.a_sheet_has_one_content.ensures (view c.args.value.now) sheet.cursor (map view sheet.events.now) (map view sheet.inputs.now) c.in-Some.ensures.found a.0 a.1 h in
    let within = c.is_within.ensures.1 (bounds_seen view sheet.events.now sheet.inputs.now sheet.cursor bounds) in
    false_is c.is_within.result within c.if-not-is_within.true

pub returns-in_err-inputs : goal.returns-in_err-inputs
returns-in_err-inputs c =
    let sheet = c.in-Some.sheet in
    let e = err_from_is_err_and c.from_residual.result c.from_residual.ensures.1 in
    rw (e.1, e.2) (λ m a h.
    c.in_err-inputs.ensures.read m h.inputs
    (inputs_of c.a_sheet_has_one_content.ensures (view c.args.value.now) sheet.cursor (map view sheet.events.now) (map view sheet.inputs.now) c.in-Some.ensures.found a.0 a.1 h))

pub returns-in_err-events : goal.returns-in_err-events
returns-in_err-events c =
    let sheet = c.in-Some.sheet in
    let e = err_from_is_err_and c.from_residual-in_err-events.result c.from_residual-in_err-events.ensures.1 in
    rw (e.1, e.2) (λ m a h.
    c.in_err-events.ensures m a.1
    (subst (λ inputs. spec.EventsAre inputs (map view sheet.events.now) a.1) (sym c.deref.ensures.value)
    (events_of c.a_sheet_has_one_content.ensures (view c.args.value.now) sheet.cursor (map view sheet.events.now) (map view sheet.inputs.now) c.in-Some.ensures.found a.0 a.1 h
    c.a_text_has_one_type.ensures c.in_ok-inputs.inputs.items c.in_ok-inputs.ensures.read.each)))
