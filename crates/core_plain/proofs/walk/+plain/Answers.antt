use Rattle.std.proofs.Common.{◌≡◌, ◌∙◌, IfOk, map, option_map, sym, ap, subst}
use Rattle.core_names.specs.Binding.{names_of}
use Rattle.plain_form.specs.PlainForm.{plain_definition}
use Rattle.core_trees.specs.Reading.{core_of, group_of}
use Rattle.core_parts.specs.Members as members
use Rattle.core_plain.proofs.Forms.{case_made, case_same}
use Rattle.core_plain.proofs.Grouping.{met, passed, groups_stop, groups_turn, groups_end}
use Rattle.core_parts.proofs.Looking.{get_again}
use Rattle.core_parts.proofs.Further.{map_behind}
use Rattle.core_plain.proofs.walk.+plain.Goals as goal

pub branching-returns-in_ok-branches-in-Case : goal.branching-returns-in_ok-branches-in-Case
branching-returns-in_ok-branches-in-Case t c =
    case_made (names_of c.args.of.now) c.args.tree.now _ _ _ _ _ c.in-Case.is c.in_ok-scrutinee-in-Case.ensures c.in_ok-branches-in-Case.ensures

pub plain-returns-in-Case : goal.plain-returns-in-Case
plain-returns-in-Case t c =
    subst (λ e. IfOk c.branching-in-Case.result (λ made. core_of made ≡ e)) (case_same (names_of c.args.of.now) c.args.tree.now _ _ _ c.in-Case.is) c.branching-in-Case.ensures

pub member_at-returns-then-stands_at : goal.member_at-returns-then-stands_at
member_at-returns-then-stands_at t c =
    subst (λ d. IfOk c.member.result (λ made. members.member_of made ≡ members.member_from (names_of c.args.of.now) (map (plain_definition (names_of c.args.of.now)) c.args.block.now) d))
    (met (plain_definition (names_of c.args.of.now)) c.args.block.now c.loop-definition.definition-index c.definition-item.result c.args.at _ c.loop-definition-test.true c.definition-item.is
    (sym (c.stands_at.ensures (names_of c.args.of.now)) ∙ c.if-stands_at.true) c.loop-definition.invariant)
    c.member.ensures

pub member_at-loop-definition-preserved : goal.member_at-loop-definition-preserved
member_at-loop-definition-preserved t c =
    passed (plain_definition (names_of c.args.of.now)) c.args.block.now c.loop-definition.definition-index c.definition-item.result c.args.at _ c.loop-definition-test.true c.definition-item.is
    (sym (c.stands_at.ensures (names_of c.args.of.now)) ∙ c.if-stands_at.false) c.loop-definition.invariant

pub groups-returns-in-None : goal.groups-returns-in-None
groups-returns-in-None t c =
    groups_stop (λ group. group.now) (names_of c.args.of.now) c.loop-members.members-index c.args.places.now _ (map (plain_definition (names_of c.args.of.now)) c.args.block.now) _ c.loop-members-test.true (get_again c.loop-members.members-index c.args.places.now _ c.loop-members-test.true)
    (sym (ap (option_map group_of) c.in-None.is) ∙ c.in_ok-group.ensures) c.loop-members.invariant

pub groups-loop-members-preserved : goal.groups-loop-members-preserved
groups-loop-members-preserved t c =
    groups_turn (λ group. group.now) (names_of c.args.of.now) c.loop-members.members-index c.args.places.now _ (map (plain_definition (names_of c.args.of.now)) c.args.block.now) _ _ (group_of c.in-Some.made) c.loop-members-test.true (get_again c.loop-members.members-index c.args.places.now _ c.loop-members-test.true)
    (sym (ap (option_map group_of) c.in-Some.is) ∙ c.in_ok-group.ensures) (ap (map group_of) c.in_ok-push-in-Some.ensures.ok ∙ map_behind group_of _ _) c.loop-members.invariant

pub groups-returns : goal.groups-returns
groups-returns t c =
    groups_end (λ group. group.now) (names_of c.args.of.now) c.loop-members.members-index c.args.places.now (map (plain_definition (names_of c.args.of.now)) c.args.block.now) _ c.loop-members-test.false c.loop-members.invariant
