use Rattle.std.proofs.Common.{All, sym, ◌∙◌, subst}
use Rattle.session_file.specs.Written.{IsNamed}
use Rattle.session_file.proofs.Spelling.{inputs_named}
use Rattle.session_file.proofs.writing.session_value.Goals as goal

pub input_values-requires : goal.input_values-requires
input_values-requires c = subst (All IsNamed) (sym (c.deref.ensures.value ∙ c.in_ok-inputs.ensures)) (inputs_named c.args.events.now c.requires)
