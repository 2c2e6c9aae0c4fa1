use Rattle.std.proofs.Common.{◌≡◌, ◌∷◌, [], ◌∙◌, ◌<◌, List, ℕ, ap, sym, rules, false, length, drop}
use Rattle.script_lines.specs.Reading.{read_line}
use Rattle.script_lines.proofs.Shortening.{readings_last}
use Rattle.script_lines.proofs.lines.Lines.finish.Goals as goal

pub returns-clause-says : goal.returns-clause-says
returns-clause-says c =
    let at = c.self.inside.handed_out in
    let same : c.left_of-line.result.now ≡ c.args.self.now = c.left_of-line.ensures ∙ ap (drop at) c.as_slice.ensures.value ∙ c.self.view_is in
    let some : 0 < length c.args.self.now = search (rules, ap length same) in
    readings_last c.args.self.now some c.requires
    ∙ ap (λ found. found ∷ []) (sym (c.in_ok-found.ensures ∙ ap (λ (bytes : List ℕ). read_line (record { bytes = bytes; ended = false })) same))
