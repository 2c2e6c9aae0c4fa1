use Rattle.std.proofs.Common.{◌≡◌, ◌≤◌, ◌<◌, ◌++◌, ◌∙◌, [], List, ℕ, take, length, Option, Some, None, IfSome, ap, arith}
use Rattle.std.specs.Option.{option_map}
use Rattle.std.proofs.lemmas.List.{length-take, take_all}
use Rattle.reactor_outside.proofs.folder.read_whole.Goals as goal

-- the first bytes, where they are fewer than there could have been, are all
whole : (told : Option (List ℕ)) (most : ℕ) (before bytes : List ℕ) → before ≡ [] → IfSome (option_map (take most) told) (λ xs. bytes ≡ before ++ xs) → length bytes < most → IfSome told (λ held. bytes ≡ held)
whole None most before bytes empty read fewer = tt
whole (Some held) most before bytes empty read fewer =
    let first : bytes ≡ take most held = read ∙ ap (λ b. b ++ take most held) empty in
    let fits : length held ≤ most = omega (arith, length-take most held, ap length first) in
    first ∙ take_all most held fits

pub returns-clause-whole : goal.returns-clause-whole
returns-clause-whole g c =
    let v = c.read_to_end.new.buf in
    let most = c.take-first.result.limit in
    let fewer : length v.items < most = omega (arith, v.ok.0, v.small) in
    rw (← c.take-first.ensures.inner) (whole (g.F.Read.remaining c.take-first.result.inner) most c.new-bytes.result.items v.items c.new-bytes.ensures.items c.in-Ok.ensures.bytes fewer)
