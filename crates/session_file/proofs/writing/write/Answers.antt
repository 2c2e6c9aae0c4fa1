use Rattle.std.proofs.Common.{◌≡◌, ◌++◌, ◌∙◌, ap}
use Rattle.serde_json.specs.View.{view}
use Rattle.session_file.specs.Written.{session_text}
use Rattle.session_file.proofs.Spelling.{text_is, written_spells}
use Rattle.session_file.proofs.writing.write.Goals as goal

pub returns-clause-written : goal.returns-clause-written
returns-clause-written c =
    let same : c.in_ok-text.text.items ≡ session_text c.args.cursor c.args.events.now =
    text_is (view c.in_ok-value.value) c.args.cursor c.args.events.now c.in_ok-text.text.items c.in_ok-value.ensures c.in_ok-text.ensures.text in
    c.in_ok-extend_from_slice.ensures.items ∙ ap (λ text. c.args.out.now.items ++ text) (c.deref.ensures.value ∙ same)

pub returns-clause-spelled : goal.returns-clause-spelled
returns-clause-spelled c =
    let same : c.in_ok-text.text.items ≡ session_text c.args.cursor c.args.events.now =
    text_is (view c.in_ok-value.value) c.args.cursor c.args.events.now c.in_ok-text.text.items c.in_ok-value.ensures c.in_ok-text.ensures.text in
    written_spells c.a_printed_value_is_its_literal.ensures c.given_types_are_ports.ensures.nestings (view c.in_ok-value.value) c.args.cursor c.args.events.now c.in_ok-text.text.items
    c.in_ok-value.ensures same c.requires c.in_ok-text.ensures.utf8 c.in_ok-text.ensures.reads_back
