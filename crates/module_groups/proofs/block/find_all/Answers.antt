use Rattle.std.proofs.Common.{◌≡◌, ℕ, ◌<◌, List, Bool, length, replicate, false, Some, sym, ◌∙◌, ap, subst, arith}
use Rattle.std.proofs.lemmas.List.{length-replicate}
use Rattle.std.specs.List.{All, Contains}
use Rattle.module_groups.specs.declared.group.Component.{Component}
use Rattle.module_groups.specs.Search.{IsFirstFree}
use Rattle.module_groups.proofs.Reaching.{IsClosure-table}
use Rattle.module_groups.proofs.Marks.{MarksAlso, left_less, waits_no_more}
use Rattle.module_groups.proofs.Rounds.{IsInOrder, IsInOrder-none, IsInOrder-more, AreComponents-all, members_within, contains_itself, none_passed}
use Rattle.module_groups.proofs.block.find_all.Goals as goal

pub loop-first-init : goal.loop-first-init
loop-first-init c = record {
  behind = λ a k h. absurd (omega (arith, h, none_passed c.args.passed.now c.args.reached.now.bits a c.requires.none_passed));
  order = λ refers says.
      subst (λ (marks : List Bool). IsInOrder c.args.reached.now.bits refers marks c.new-found.result) (sym c.requires.none_taken)
      (subst (λ (found : List Component). IsInOrder c.args.reached.now.bits refers (replicate c.args.reached.now.bits false) found) (sym c.new-found.ensures)
      (IsInOrder-none c.args.reached.now.bits refers c.args.reached.now.bits));
}

pub take-requires : goal.take-requires
take-requires c =
    let reached = c.args.reached.now in
    let same : length c.loop-first.taken ≡ reached.bits =
    c.loop-first.auto.taken ∙ ap length c.requires.none_taken ∙ length-replicate reached.bits false in
    subst (λ (n : ℕ). All (λ (member : ℕ). member < n) c.as_slice.result.now) (sym same)
    (subst (λ (members : List ℕ). All (λ (member : ℕ). member < reached.bits) members) (sym (c.as_slice.ensures ∙ c.in_ok-group.ensures.members))
    (members_within reached c.in-Some.first))

pub loop-first-smaller : goal.loop-first-smaller
loop-first-smaller c =
    let reached = c.args.reached.now in
    let free : IsFirstFree reached.bits reached c.loop-first.taken (Some c.in-Some.first) = c.in-Some.ensures.first in
    left_less reached.bits c.loop-first.taken c.take.new.taken c.as_slice.result.now c.in-Some.first free.0 free.1
    (subst (λ (members : List ℕ). Contains members c.in-Some.first) (sym (c.as_slice.ensures ∙ c.in_ok-group.ensures.members))
    (contains_itself reached c.in-Some.first free.0)) c.take.ensures

pub loop-first-preserved : goal.loop-first-preserved
loop-first-preserved c =
    let reached = c.args.reached.now in
    record {
      behind = λ a k h.
          waits_no_more reached c.loop-first.taken c.take.new.taken c.as_slice.result.now a k c.take.ensures (c.in-Some.ensures.behind a k h);
      order = λ refers says.
          subst (λ (found : List Component). IsInOrder reached.bits refers c.take.new.taken found) (sym c.in_ok-push.ensures.ok)
          (IsInOrder-more reached.bits refers reached c.loop-first.taken c.take.new.taken c.loop-first.found c.in-Some.first c.in_ok-group.group
          (IsClosure-table refers reached c.requires.square c.bits-bits.ensures.rectangular says)
          (c.loop-first.invariant.order refers says) c.in-Some.ensures.first c.in_ok-group.ensures.members c.in_ok-group.ensures.recursive
          (subst (λ (members : List ℕ). MarksAlso c.loop-first.taken members c.take.new.taken) c.as_slice.ensures c.take.ensures));
    }

pub returns : goal.returns
returns c =
    λ refers says.
    AreComponents-all c.args.reached.now.bits refers c.args.reached.now c.loop-first.taken c.loop-first.found
    (IsClosure-table refers c.args.reached.now c.requires.square c.bits-bits.ensures.rectangular says)
    (c.loop-first.invariant.order refers says) c.in_default.ensures.first
