use Rattle.std.proofs.Common.{◌++◌, ◌∙◌, ap, codes, append_assoc}
use Rattle.script_lines.specs.Drill.{pair_text, position_text}
use Rattle.script_lines.proofs.drill.push_place.Goals as goal

pub returns : goal.returns
unfolding position_text
returns c =
    let pair = pair_text c.args.left c.args.top in
    c.in_ok-push_pair.ensures
    ∙ ap (λ out. out ++ pair) c.in_ok-push_text.ensures
    ∙ append_assoc c.args.out.now.items (codes "input Mouse.position ") pair
