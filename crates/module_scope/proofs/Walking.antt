-- Steps that are gone through keep exactly what is visible.
use Rattle.std.proofs.Common.{◌≡◌, ℕ, ◌+◌, ◌-◌, List, [], ◌∷◌, ◌++◌, length, take, map, get_or, refl, sym, ◌∙◌, ap, subst, arith}
use Rattle.std.proofs.lemmas.List.{append-nil, append_assoc, length-append}
use Rattle.std.proofs.lemmas.Grind.{fold-append}
use Rattle.std.proofs.Math.Seq.{take-append_seam}
use Rattle.std.specs.List.{Contains}
use Rattle.std.proofs.lemmas.List.Elements.{Contains-append_left, Contains-append_right}
use Rattle.elm_base.specs.declared.tree.Spot.{Spot}
use Rattle.name_steps.specs.declared.step.Step.{Step}
use Rattle.name_steps.specs.declared.step.Step.TheVariants as step
use Rattle.name_steps.specs.Steps.{in_scope}
use Rattle.module_names.specs.declared.walk.Use.{Use}
use Rattle.module_names.specs.Lookup.{Places}
use Rattle.module_names.specs.Walks.{State, start as at_start, opens, closes, adds, goes, walked, uses_in, use_of}
use Rattle.block_groups.proofs.Faults.{mapped}
use Rattle.module_scope.specs.Visible.{IsPlain, IsStill, IsWhole, none, plain, scope, AreVisible, start, bound, opened, still, closed}

length_less : (xs : List ℕ) (a : ℕ) → length (xs ++ a ∷ []) - 1 ≡ length xs
length_less [] a = refl
length_less (x ∷ xs) a = let e : length (xs ++ a ∷ []) ≡ length xs + 1 = length-append xs (a ∷ []) in omega (arith, e)

at_seam : (xs : List ℕ) (a : ℕ) → get_or (xs ++ a ∷ []) (length xs) 0 ≡ a
at_seam [] a = refl
at_seam (x ∷ xs) a = at_seam xs a

-- the last of a list behind others
last_of : (xs : List ℕ) (a : ℕ) → get_or (xs ++ a ∷ []) (length (xs ++ a ∷ []) - 1) 0 ≡ a
last_of xs a = ap (λ (n : ℕ). get_or (xs ++ a ∷ []) n 0) (length_less xs a) ∙ at_seam xs a

-- what a scope bound is gone when it closes
closed_back : (mid state : State) (more : List Spot) → mid.locals ≡ state.locals ++ more → mid.opened ≡ state.opened ++ length state.locals ∷ [] →
    ((closes mid).locals ≡ state.locals) × ((closes mid).opened ≡ state.opened)
closed_back mid state more e f = (
  ap (λ (o : List ℕ). take (get_or o (length o - 1) 0) mid.locals) f ∙ ap (λ (n : ℕ). take n mid.locals) (last_of state.opened (length state.locals))
      ∙ ap (take (length state.locals)) e ∙ take-append_seam state.locals more,
  ap (λ (o : List ℕ). take (length o - 1) o) f ∙ ap (λ (n : ℕ). take n (state.opened ++ length state.locals ∷ [])) (length_less state.opened (length state.locals))
      ∙ take-append_seam state.opened (length state.locals ∷ []),
)

module _ (places : Places) where
  -- a plain step binds more, or nothing
  plain_goes : (state : State) (next : Step) → IsPlain next →
      (more : List Spot) × ((goes places state next).locals ≡ state.locals ++ more) × ((goes places state next).opened ≡ state.opened)
  plain_goes state step.Opens h = absurd h
  plain_goes state step.Closes h = absurd h
  plain_goes state (step.Binds spots) h = (spots, refl, refl)
  plain_goes state (step.Uses spots) h = ([], sym (append-nil state.locals), refl)
  plain_goes state (step.Labels spots) h = ([], sym (append-nil state.locals), refl)
  plain_goes state (step.Block at definitions end) h = ([], sym (append-nil state.locals), refl)

  -- steps in a scope leave it as it was
  scope_goes : (state : State) (inner : List Step) →
      ((more : List Spot) × ((walked places (opens state) inner).locals ≡ (opens state).locals ++ more) × ((walked places (opens state) inner).opened ≡ (opens state).opened)) →
      ((walked places state (in_scope inner)).locals ≡ state.locals) × ((walked places state (in_scope inner)).opened ≡ state.opened)
  scope_goes state inner (more, e, f) =
      let on : walked places state (in_scope inner) ≡ closes (walked places (opens state) inner) =
      fold-append (goes places) (opens state) inner (step.Closes ∷ []) in
      let back = closed_back (walked places (opens state) inner) state more e f in
      (ap (λ (s : State). s.locals) on ∙ back.0, ap (λ (s : State). s.opened) on ∙ back.1)

  whole_goes : (steps : List Step) → IsWhole steps → (state : State) →
      (more : List Spot) × ((walked places state steps).locals ≡ state.locals ++ more) × ((walked places state steps).opened ≡ state.opened)
  whole_goes _ none state = ([], sym (append-nil state.locals), refl)
  whole_goes _ (plain {step = next} {more = rest} h whole) state =
      let (first, e, f) = plain_goes state next h in
      let (second, g, k) = whole_goes rest whole (goes places state next) in
      (first ++ second, g ∙ ap (λ (xs : List Spot). xs ++ second) e ∙ append_assoc state.locals first second, k ∙ f)
  whole_goes _ (scope {inner = inner} {more = rest} one two) state =
      let on : walked places state (in_scope inner ++ rest) ≡ walked places (walked places state (in_scope inner)) rest =
      fold-append (goes places) state (in_scope inner) rest in
      let back = scope_goes state inner (whole_goes inner one (opens state)) in
      let (second, g, k) = whole_goes rest two (walked places state (in_scope inner)) in (
        second,
        ap (λ (s : State). s.locals) on ∙ g ∙ ap (λ (xs : List Spot). xs ++ second) back.0,
        ap (λ (s : State). s.opened) on ∙ k ∙ back.1,
      )

  still_goes : (state : State) (next : Step) → IsStill next → (goes places state next).locals ≡ state.locals
  still_goes state step.Opens h = absurd h
  still_goes state step.Closes h = absurd h
  still_goes state (step.Binds spots) h = absurd h
  still_goes state (step.Uses spots) h = refl
  still_goes state (step.Labels spots) h = refl
  still_goes state (step.Block at definitions end) h = refl

  one_more : (before : List Step) (next : Step) → walked places at_start (before ++ next ∷ []) ≡ goes places (walked places at_start before) next
  one_more before next = fold-append (goes places) at_start before (next ∷ [])

  visible_goes : (steps : List Step) (spots : List Spot) → AreVisible steps spots → (walked places at_start steps).locals ≡ spots
  visible_goes _ _ start = refl
  visible_goes _ _ (bound {before = before} {spots = spots} so more) =
      ap (λ (s : State). s.locals) (one_more before (step.Binds more)) ∙ ap (λ (xs : List Spot). xs ++ more) (visible_goes before spots so)
  visible_goes _ _ (opened {before = before} {spots = spots} so) = ap (λ (s : State). s.locals) (one_more before step.Opens) ∙ visible_goes before spots so
  visible_goes _ _ (still {before = before} {spots = spots} so next h) =
      ap (λ (s : State). s.locals) (one_more before next) ∙ still_goes (walked places at_start before) next h ∙ visible_goes before spots so
  visible_goes _ _ (closed {before = before} {inner = inner} {spots = spots} so whole) =
      ap (λ (s : State). s.locals) (fold-append (goes places) at_start before (in_scope inner))
      ∙ (scope_goes (walked places at_start before) inner (whole_goes inner whole (opens (walked places at_start before)))).0 ∙ visible_goes before spots so

  -- uses stay
  use_stays : (next : Step) (state : State) (used : Use) → Contains state.uses used → Contains (goes places state next).uses used
  use_stays step.Opens state used h = h
  use_stays step.Closes state used h = h
  use_stays (step.Binds spots) state used h = h
  use_stays (step.Uses spots) state used h = Contains-append_left state.uses (map (use_of places state.locals) spots) used h
  use_stays (step.Labels spots) state used h = h
  use_stays (step.Block at definitions end) state used h = h

  uses_stay : (steps : List Step) (state : State) (used : Use) → Contains state.uses used → Contains (walked places state steps).uses used
  uses_stay [] state used h = h
  uses_stay (next ∷ more) state used h = uses_stay more (goes places state next) used (use_stays next state used h)

  pub looked_up : (before after : List Step) (spots visible : List Spot) (spot : Spot) → AreVisible before visible → Contains spots spot →
      Contains (uses_in places (before ++ step.Uses spots ∷ after)) (use_of places visible spot)
  looked_up before after spots visible spot so in' =
      let state = walked places at_start before in
      let here : Contains (adds places spots state).uses (use_of places state.locals spot) =
      Contains-append_right state.uses (map (use_of places state.locals) spots) (use_of places state.locals spot)
      (mapped (use_of places state.locals) spots spot in') in
      let there = uses_stay after (adds places spots state) (use_of places state.locals spot) here in
      subst (λ (s : State). Contains s.uses (use_of places visible spot)) (sym (fold-append (goes places) at_start before (step.Uses spots ∷ after)))
      (subst (λ (xs : List Spot). Contains (walked places (adds places spots state) after).uses (use_of places xs spot))
      (visible_goes before visible so) there)
