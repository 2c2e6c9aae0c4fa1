-- Conditions that are taken back.
use Rattle.std.proofs.Common.{◌≡◌, ℕ, ◌-◌, ◌≤◌, List, [], ◌∷◌, ◌++◌, length, length-append, drop, take, refl, sym, ◌∙◌, ap, subst, arith}
use Rattle.type_terms.specs.Terms.{State, nodes_of, Each}
use Rattle.type_unify.specs.Rests.{IsType}
use Rattle.type_conditions.specs.Conditions.{Asked, terms_in}
use Rattle.type_conditions.specs.Judging.{Grows}
use Rattle.type_conditions.specs.Marking.{Moment, Marks}

dropped : {A : Type 0} (xs ys : List A) → drop (length xs) (xs ++ ys) ≡ ys
dropped [] ys = refl
dropped (x ∷ xs) ys = dropped xs ys

taken : {A : Type 0} (xs ys : List A) → take (length xs) (xs ++ ys) ≡ xs
taken [] ys = refl
taken (x ∷ xs) ys = ap (λ l. x ∷ l) (taken xs ys)

-- the mark is not before the first state
pub mark-behind : (moment : Moment) (asked now : Asked) → Marks moment asked → Grows asked now → moment.states ≤ length now.states
mark-behind moment asked now m g =
    let l = ap length g.behind.1 in
    let a = length-append g.behind.0 asked.states in
    omega (arith, m.states, l, a)

pub states-back : (moment : Moment) (asked now : Asked) → Marks moment asked → Grows asked now → drop (length now.states - moment.states) now.states ≡ asked.states
states-back moment asked now m g =
    let l = ap length g.behind.1 in
    let a = length-append g.behind.0 asked.states in
    let n : length now.states - moment.states ≡ length g.behind.0 = omega (arith, m.states, l, a) in
    ap (λ (k : ℕ). drop k now.states) n ∙ ap (drop (length g.behind.0)) g.behind.1 ∙ dropped g.behind.0 asked.states

pub proper-back : (moment : Moment) (asked now : Asked) → Marks moment asked → Grows asked now → take moment.proper now.proper ≡ asked.proper
proper-back moment asked now m g =
    ap (λ (k : ℕ). take k now.proper) m.proper ∙ ap (take (length asked.proper)) g.after.1 ∙ taken asked.proper g.after.0

-- the conditions are those of the mark
pub gone-back : (moment : Moment) (asked now : Asked) (states : List State) (proper : List ℕ) → Marks moment asked → Grows asked now →
    states ≡ drop (length now.states - moment.states) now.states → proper ≡ take moment.proper now.proper →
    record { states = states; proper = proper } ≡ asked
gone-back moment asked now states proper m g es ep =
    let a : states ≡ asked.states = es ∙ states-back moment asked now m g in
    let b : proper ≡ asked.proper = ep ∙ proper-back moment asked now m g in
    ap (λ (l : List State). record { states = l; proper = proper }) a ∙ ap (λ (l : List ℕ). record { states = asked.states; proper = l }) b

pub types-back : (moment : Moment) (asked now : Asked) (states : List State) (proper : List ℕ) → Marks moment asked → Grows asked now →
    states ≡ drop (length now.states - moment.states) now.states → proper ≡ take moment.proper now.proper →
    Each (IsType (nodes_of states)) proper
types-back moment asked now states proper m g es ep =
    subst (λ (a : Asked). Each (IsType (terms_in a)) a.proper) (sym (gone-back moment asked now states proper m g es ep)) m.types
