use Rattle.std.proofs.Common.{◌++◌, ◌∙◌, ◌-◌, ap, arith, length, refl}
use Rattle.script_lines.specs.Kept.{shortened_within, unfinished}
use Rattle.script_lines.proofs.Shortening.{unfinished_short}
use Rattle.script_lines.proofs.Kept.{fits_whole, fits_short, is_short, says_alike}
use Rattle.script_lines.proofs.lines.append_short.Goals as goal

pub overflow_sub-room : goal.overflow_sub-room
overflow_sub-room c = omega (arith, c.unfinished_len-room.ensures, ap (λ text. length (unfinished text)) c.as_slice.ensures.value, unfinished_short c.args.bytes.now.items c.requires)

pub returns-then-fits-clause-ok : goal.returns-then-fits-clause-ok
returns-then-fits-clause-ok c =
    fits_whole c.args.bytes.now.items c.args.piece.now _ (omega (arith, c.if-fits.ensures.0 refl, c.len.ensures)) c.in_ok-extend_from_slice.ensures.items

pub returns-clause-ok : goal.returns-clause-ok
returns-clause-ok c =
    fits_short c.args.bytes.now.items c.args.piece.now _ _ _ c.requires
    (c.unfinished_len-room.ensures ∙ ap (λ text. length (unfinished text)) c.as_slice.ensures.value)
    (c.deref.ensures.value ∙ c.in_ok-push_short.ensures ∙ ap (λ front. front ++ shortened_within (65537 - c.unfinished_len-room.result) c.args.piece.now) c.new-kept.ensures.items)
    c.in_ok-extend_from_slice-2.ensures.items

pub returns-then-fits-clause-short : goal.returns-then-fits-clause-short
returns-then-fits-clause-short c = is_short (c.args.bytes.now.items ++ c.args.piece.now) _ (returns-then-fits-clause-ok c)

pub returns-clause-says : goal.returns-clause-says
returns-clause-says c = says_alike (c.args.bytes.now.items ++ c.args.piece.now) _ (returns-clause-ok c)

pub returns-clause-short : goal.returns-clause-short
returns-clause-short c = is_short (c.args.bytes.now.items ++ c.args.piece.now) _ (returns-clause-ok c)
