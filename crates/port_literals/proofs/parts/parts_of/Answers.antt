use Rattle.std.proofs.Common.{◌≡◌, ◌==◌, ◌<◌, ℕ, false, arith, length, ◌++◌, ◌∷◌, [], map, refl, sym, ap, ap₂, ◌∙◌}
use Rattle.elm_base.specs.Spaces.{trim_start}
use Rattle.port_literals.specs.declared.scan.Place.TheVariants as place
use Rattle.port_literals.specs.Parts.{cuts, trim}
use Rattle.port_literals.proofs.Turns.{map_push, part_turn, part_ends, some_text}
use Rattle.port_literals.proofs.parts.parts_of.Goals as goal

pub loop-at-preserved : goal.loop-at-preserved
loop-at-preserved c = (
  c.comma-at-in-loop-at.ensures.first,
  c.comma-at-in-loop-at.ensures.within,
  part_turn c.loop-at.left.now (map (λ one. one.now) c.loop-at.parts.items) c.loop-at.at c.loop-at.invariant.0 c.loop-at-test.true c.loop-at.invariant.2
      ∙ ap₂ (λ x y. x ++ map trim (cuts (place.Open 0) y))
      (sym (ap (map (λ one. one.now)) c.in_ok-push.ensures.items ∙ map_push (λ one. one.now) c.loop-at.parts.items _
      ∙ ap (λ t. map (λ one. one.now) c.loop-at.parts.items ++ t ∷ []) c.part_before.ensures))
      (sym c.behind_comma-left.ensures),
)

not_empty : (n : ℕ) → (n == 0) ≡ false → 0 < n
not_empty n h = grind (arith, h)

pub returns : goal.returns
returns c =
    let text = c.args.text.now in
    let found = map (λ one. one.now) c.loop-at.parts.items in
    let past = c.loop-at-test.false in
    let some = not_empty (length (trim_start text)) (sym (c.is_empty.ensures ∙ ap (λ t. length t == 0) c.trim_start.ensures) ∙ c.if-is_empty.false) in
    ap (map (λ one. one.now)) c.in_ok-push-2.ensures.items ∙ map_push (λ one. one.now) c.loop-at.parts.items _
    ∙ ap (λ t. found ++ t ∷ []) c.trim.ensures
    ∙ sym (some_text (trim_start text) text refl some
    ∙ part_ends c.loop-at.left.now found c.loop-at.at c.loop-at.invariant.0 (omega (arith, past)) c.loop-at.invariant.2)
