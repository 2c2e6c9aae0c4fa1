use Rattle.std.proofs.Common.{option_and_then, sym, subst, ap, ◌∙◌}
use Rattle.port_texts.specs.Reader.{ReadsWhole, spelled, type_at, max_depth}
use Rattle.port_texts.proofs.read.read.Goals as goal

pub returns : goal.returns
returns c =
    subst (λ o. ReadsWhole (option_and_then (λ found. spelled c.args.text.now found.0) o) c.spelled.result)
    (sym (ap (type_at max_depth) (sym c.new-left.ensures) ∙ c.in_ok-port.ensures)) c.spelled.ensures
