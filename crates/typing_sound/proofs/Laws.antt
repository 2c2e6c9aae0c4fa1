-- The public laws, from the lemmas on any world.
use Rattle.std.proofs.Common.{◌≡◌, ℕ, Some, None, List, refl, sym, ◌∙◌, subst}
use Rattle.elm_typing.specs.Ground.{Ground}
use Rattle.elm_typing.specs.Sorts.{Simple, Signal, sort_of}
use Rattle.elm_meaning.specs.Values.{Value, Tree}
use Rattle.elm_meaning.specs.Equations.{Equation}
use Rattle.elm_meaning.specs.Substitution.{no_names}
use Rattle.elm_meaning.specs.Progress.{Stage, Ending, Returns, Stops, NoRule, HasNoRule, state_of, stage_two}
use Rattle.elm_meaning.specs.Evaluation.{begun, eval}
use Rattle.elm_meaning.specs.Calls.{call_of}
use Rattle.typing_rules.specs.Worlds.{World, Surroundings, no_surroundings, MayStandIn}
use Rattle.typing_rules.specs.TermTypes.{ValueHas, AreTaken, TermHas}
use Rattle.typing_rules.specs.Nodes.{values, AreWellTyped}
use Rattle.typing_sound.specs.Safe.{HasLibrary}
use Rattle.typing_sound.specs.SafeEndings.{at_stage, Grows, IsSafe, TopsTyped, HasWellTyped}
use Rattle.typing_sound.specs.Settings.{Setting, world_of}
use Rattle.typing_sound.proofs.Combine.{same, same_world}
use Rattle.typing_sound.proofs.Monotone.{Below, term_more}
use Rattle.typing_sound.proofs.Bound.{typed_nothing}
use Rattle.typing_sound.proofs.Sound.{evaluate_safe, given_all_safe}

pub library : (p : Setting) → HasLibrary (world_of p)
library p = record { own = p.own; first = refl }

pub itself : (w : World) → Below w w
itself w = record { alike = same_world w; tops = λ n. same (w.tops n); nodes = λ n. same (w.nodes n) }

pub term_safe_in : (p : Setting) (tops : List Value) (stage : Stage) (e : Tree) (t : Ground) (fuel : ℕ) → TopsTyped (world_of p) stage tops → TermHas (at_stage stage (world_of p)) no_surroundings e t → IsSafe (world_of p) stage t (eval tops stage e fuel)
unfolding eval
term_safe_in p tops stage e t fuel T h =
    evaluate_safe (world_of p) (library p) tops e no_surroundings no_names (begun stage fuel) t T h (typed_nothing (at_stage stage (world_of p)))

pub call_safe_in : (p : Setting) (tops : List Value) (f : Value) (vs : List Value) (whole t : Ground) (fuel : ℕ) → TopsTyped (world_of p) None tops → ValueHas (world_of p) f whole → AreTaken (world_of p) (values vs) whole t → MayStandIn (world_of p) whole t → IsSafe (world_of p) None t (call_of tops f vs fuel)
call_safe_in p tops f vs whole t fuel T h k m = given_all_safe (world_of p) (library p) tops vs f (begun stage_two fuel) whole t T h k m

pub no_rule_only : (w : World) (stage : Stage) (t : Ground) (o : Ending) → IsSafe w stage t o → HasNoRule o → (stage ≡ None) × (sort_of w.sorts t ≡ Signal)
no_rule_only w stage t (Returns v s) h r = absurd r
no_rule_only w stage t (Stops x s) h r = absurd r
no_rule_only w stage t (NoRule s) h r = h

pub some_none : (qs : List Equation) → Some qs ≡ None → ⊥
some_none qs e = absurd cc

pub not_both : (w : World) (t : Ground) → sort_of w.sorts t ≡ Simple → sort_of w.sorts t ≡ Signal → ⊥
not_both w t a b = (let d : Simple ≡ Signal = sym a ∙ b in absurd cc)

typed_after : (w : World) (qs : List Equation) (s : Stage) → Grows w (Some qs) s → AreWellTyped qs w → HasWellTyped w s
typed_after w qs s g d = subst (HasWellTyped w) (sym g.1) (g.2 d)

pub well_typed_after : (w : World) (qs : List Equation) (t : Ground) (o : Ending) → IsSafe w (Some qs) t o → AreWellTyped qs w → HasWellTyped w (state_of o).stage
well_typed_after w qs t (Returns v s) h d = typed_after w qs s.stage h.0 d
well_typed_after w qs t (Stops x s) h d = typed_after w qs s.stage h d
well_typed_after w qs t (NoRule s) h d = absurd (some_none qs h.0)

pub more_in : (w : World) (s r : Surroundings) (e : Tree) (t : Ground) → ((y : ℕ) (u : Ground) → s y u → r y u) → TermHas w s e t → TermHas w r e t
more_in w s r e t f h = term_more w w (itself w) e s r (record { at = f }) t h
