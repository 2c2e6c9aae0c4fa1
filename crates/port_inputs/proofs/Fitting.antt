-- The first event that doesn't fit, and values placed one by one.
use Rattle.std.proofs.Common.{◌≡◌, ◌<◌, ◌≤◌, ◌+◌, ℕ, zero, suc, All, List, [], ◌∷◌, ◌++◌, take, drop, length, get_or, refl, sym, ◌∙◌, ap, subst, arith}
use Rattle.std.proofs.lemmas.List.{take_more, take_all, append_assoc}
use Rattle.std.proofs.lemmas.List.Elements.{All-more}
use Rattle.std.proofs.lemmas.List.{take-append-drop}
use Rattle.elm_base.specs.declared.event.Event.{Event}
use Rattle.port_inputs.specs.Fit.{Inputs, Fits, FirstOf}

-- the events before a place, the one there, and those behind it
split : {X : Type 0} (xs : List X) (at : ℕ) (d : X) → at < length xs → xs ≡ take at xs ++ get_or xs at d ∷ drop (at + 1) xs
split xs at d h =
    sym (take-append-drop (at + 1) xs) ∙ ap (λ front. front ++ drop (at + 1) xs) (take_more xs at d h) ∙ append_assoc (take at xs) (get_or xs at d ∷ []) (drop (at + 1) xs)

taken : {X : Type 0} (xs : List X) (at : ℕ) → at < length xs → length (take at xs) ≡ at
taken [] at h = absurd (omega (arith, h))
taken (x ∷ xs) zero h = refl
taken (x ∷ xs) (suc n) h = ap (λ k. suc k) (taken xs n (omega (arith, h)))

pub first_of : (Is : Event → Type 0) (inputs : Inputs) (events : List Event) (at : ℕ) (event : Event) → at < length events → event ≡ get_or events at event
    → All (Fits inputs) (take at events) → Is event → FirstOf Is inputs events (at + 1)
first_of Is inputs events at event within there fit is = record {
  before = take at events;
  event = event;
  behind = drop (at + 1) events;
  whole = split events at event within ∙ ap (λ e. take at events ++ e ∷ drop (at + 1) events) (sym there);
  counted = add_one at ∙ ap (λ n. suc n) (sym (taken events at within));
  fit = fit;
  is = is;
} where
  add_one : (n : ℕ) → n + 1 ≡ suc n
  add_one n = omega arith

pub one_fits : (inputs : Inputs) (events : List Event) (at : ℕ) (event : Event) → at < length events → event ≡ get_or events at event
    → All (Fits inputs) (take at events) → Fits inputs event → All (Fits inputs) (take (at + 1) events)
one_fits inputs events at event within there fit is =
    All-more (Fits inputs) events at event within fit (subst (Fits inputs) there is)

pub all_fit : (inputs : Inputs) (events : List Event) (at : ℕ) → length events ≤ at → All (Fits inputs) (take at events) → All (Fits inputs) events
all_fit inputs events at over fit = subst (All (Fits inputs)) (take_all at events over) fit
