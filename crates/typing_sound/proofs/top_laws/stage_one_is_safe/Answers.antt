use Rattle.std.proofs.Common.{◌≡◌, Some, None, List, ◌++◌, sym, subst}
use Rattle.elm_typing.specs.Spelling.{all_simple}
use Rattle.elm_meaning.specs.Values.{Tree}
use Rattle.typing_rules.specs.Library.{library_unions}
use Rattle.typing_rules.specs.Nodes.{AreWellTyped}
use Rattle.signal_meaning.specs.StageOne.{Cause, nothing_begun, begin_all}
use Rattle.typing_sound.specs.SafeEndings.{TopsTyped}
use Rattle.typing_sound.specs.Settings.{with_simple_types, world_of}
use Rattle.typing_sound.proofs.SettledTops.{accepted_have_typings}
use Rattle.typing_sound.proofs.Started.{stage_one}
use Rattle.typing_sound.proofs.top_laws.stage_one_is_safe.Goals as goal

pub returns-clause-rules : goal.returns-clause-rules
returns-clause-rules c = λ p start e n a.
    subst (λ (ts : List Tree). (begin_all start.fuel ts nothing_begun).stop ≡ Some Cause.NoRule → ⊥) (sym e) (stage_one p start.fuel p.groups a n).has_rules

pub returns-clause-values : goal.returns-clause-values
returns-clause-values c = λ p start e n a.
    subst (λ (ts : List Tree). (begin_all start.fuel ts nothing_begun).stop ≡ None
    → TopsTyped (world_of p) (Some (begin_all start.fuel ts nothing_begun).equations) (begin_all start.fuel ts nothing_begun).values) (sym e)
    (λ k. (stage_one p start.fuel p.groups a n).typed k p.sorts)

pub returns-clause-equations : goal.returns-clause-equations
returns-clause-equations c = λ p start e n a.
    subst (λ (ts : List Tree). AreWellTyped (begin_all start.fuel ts nothing_begun).equations (world_of (with_simple_types p))) (sym e)
    ((stage_one p start.fuel p.groups a n).ordered all_simple (accepted_have_typings (library_unions ++ p.own) p.inputs p.groups a) tt)

pub returns-clause-equations_with_sorts : goal.returns-clause-equations_with_sorts
returns-clause-equations_with_sorts c = λ p start e n a h.
    subst (λ (ts : List Tree). AreWellTyped (begin_all start.fuel ts nothing_begun).equations (world_of p)) (sym e)
    ((stage_one p start.fuel p.groups a n).ordered p.sorts h tt)
