-- Runs that are stopped stay so, and stage one goes on from the top values before.
use Rattle.std.proofs.Common.{◌≡◌, ℕ, Some, None, List, [], ◌∷◌, ◌++◌, length, refl, sym, ap, ◌∙◌}
use Rattle.elm_meaning.specs.Values.{Tree}
use Rattle.elm_meaning.specs.Progress.{Ending, Returns, Stops}
use Rattle.elm_meaning.specs.Evaluation.{eval}
use Rattle.signal_meaning.specs.Events.{Event}
use Rattle.signal_meaning.specs.StageOne.{Start, Cause, Begun, network, with_value, then_begin, begin_all}
use Rattle.signal_meaning.specs.Moments.{moment}
use Rattle.signal_meaning.specs.Outcomes.{Running, Stopped, Place, by_nodes, or_then, run, if_running, good}
use Rattle.signal_meaning.specs.NoteTable.{node_notes, event_notes}

pub run_stays : (start : Start) (e : Event) (es : List Event) (event : ℕ) (place : Place) (cause : Cause) → run start es ≡ Stopped event place cause → run start (e ∷ es) ≡ Stopped event place cause
run_stays start e es event place cause h = ap (λ r. or_then r (by_nodes (length (e ∷ es)) 0 (moment (network start) (e ∷ es)).said)) h

pub good_stays : (start : Start) (e : Event) (es : List Event) (event : ℕ) (place : Place) (cause : Cause) → run start es ≡ Stopped event place cause → good start (e ∷ es) ≡ good start es
good_stays start e es event place cause h = ap (λ r. if_running r (Some (e ∷ es)) (good start es)) (run_stays start e es event place cause h)

pub notes_stay : (start : Start) (e : Event) (es : List Event) (event : ℕ) (place : Place) (cause : Cause) → run start es ≡ Stopped event place cause → event_notes start (e ∷ es) ≡ []
notes_stay start e es event place cause h = ap (λ r. if_running r (node_notes (moment (network start) (e ∷ es)).said) []) h

pub good_running : (start : Start) (past : List Event) → run start past ≡ Running → good start past ≡ Some past
good_running start [] h = ap (λ r. if_running r (Some []) None) h
good_running start (e ∷ es) h = ap (λ r. if_running r (Some (e ∷ es)) (good start es)) h

-- stage one

some_none : {c : Cause} → Some c ≡ None → ⊥
some_none p = cc

then_turn : (o : Ending) (b : Begun) (fuel : ℕ) (es : List Tree) (e : Tree) → (then_begin o b (λ n. begin_all fuel es n)).stop ≡ None
    → ((n : Begun) → (begin_all fuel es n).stop ≡ None → begin_all fuel (es ++ e ∷ []) n ≡ begin_all fuel (e ∷ []) (begin_all fuel es n))
    → then_begin o b (λ n. begin_all fuel (es ++ e ∷ []) n) ≡ begin_all fuel (e ∷ []) (then_begin o b (λ n. begin_all fuel es n))
then_turn (Returns v s) b fuel es e h r = r (with_value v s b) h
then_turn (Stops x s) b fuel es e h r = absurd (some_none h)
then_turn (Ending.NoRule s) b fuel es e h r = absurd (some_none h)

pub in_turn : (fuel : ℕ) (es : List Tree) (e : Tree) (b : Begun) → (begin_all fuel es b).stop ≡ None → begin_all fuel (es ++ e ∷ []) b ≡ begin_all fuel (e ∷ []) (begin_all fuel es b)
in_turn fuel [] e b h = refl
in_turn fuel (f ∷ es) e b h =
    then_turn (eval b.values (Some b.equations) f fuel) b fuel es e h (λ n k. in_turn fuel es e n k)

then_stopped : (o : Ending) (b : Begun) (fuel : ℕ) (es more : List Tree) (cause : Cause) → (then_begin o b (λ n. begin_all fuel es n)).stop ≡ Some cause
    → ((n : Begun) → n.stop ≡ None → (begin_all fuel es n).stop ≡ Some cause → begin_all fuel (es ++ more) n ≡ begin_all fuel es n)
    → then_begin o b (λ n. begin_all fuel (es ++ more) n) ≡ then_begin o b (λ n. begin_all fuel es n)
then_stopped (Returns v s) b fuel es more cause h r = r (with_value v s b) refl h
then_stopped (Stops x s) b fuel es more cause h r = refl
then_stopped (Ending.NoRule s) b fuel es more cause h r = refl

pub no_more : (fuel : ℕ) (es more : List Tree) (b : Begun) (cause : Cause) → b.stop ≡ None → (begin_all fuel es b).stop ≡ Some cause → begin_all fuel (es ++ more) b ≡ begin_all fuel es b
no_more fuel [] more b cause n h = absurd (some_none (sym h ∙ n))
no_more fuel (f ∷ es) more b cause n h =
    then_stopped (eval b.values (Some b.equations) f fuel) b fuel es more cause h (λ m k l. no_more fuel es more m cause k l)
