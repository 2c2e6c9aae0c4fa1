-- Prefixes of one list, and what a replay keeps of their marks.
use Rattle.std.proofs.Common.{◌≡◌, ℕ, ◌+◌, ◌<◌, ◌≤◌, suc, zero, List, [], ◌∷◌, ◌++◌, length, take, map, ◌⊎◌, inl, inr, refl, sym, ap, ◌∙◌, arith, Some, subst, slice_get}
use Rattle.std.proofs.lemmas.List.{take_more, get_or-map, length-map}
use Rattle.std.proofs.lemmas.Option.{slice_get_within, get_or_from_slice_get}
use Rattle.std.proofs.lemmas.Bool.{cases_lt}
use Rattle.snapshots.specs.Prefixes.{IsPrefix, OneIsPrefix}
use Rattle.snapshots.specs.Past.{StandsFor, KeepsPrefixes}

-- of two prefixes the shorter is a prefix of the longer
pub prefix_of : {C : Type 0} (all : List C) (m n : ℕ) → m ≤ n → IsPrefix (take m all) (take n all)
prefix_of [] zero zero less = refl
prefix_of [] zero (suc n) less = refl
prefix_of [] (suc m) zero less = refl
prefix_of [] (suc m) (suc n) less = refl
prefix_of (x ∷ all) zero zero less = refl
prefix_of (x ∷ all) zero (suc n) less = refl
prefix_of (x ∷ all) (suc m) zero less = absurd (omega arith)
prefix_of (x ∷ all) (suc m) (suc n) less = let below : m ≤ n = omega arith in ap (λ xs. x ∷ xs) (prefix_of all m n below)

pub one_is_prefix : {C : Type 0} (all : List C) (m n : ℕ) → OneIsPrefix (take m all) (take n all)
one_is_prefix all m n = go (cases_lt n m)
  where
    go : (n < m) ⊎ (m ≤ n) → OneIsPrefix (take m all) (take n all)
    go (inl less) = inr (prefix_of all n m (omega arith))
    go (inr less) = inl (prefix_of all m n less)

pub prefix_of_all : {C : Type 0} (all : List C) (n : ℕ) → IsPrefix (take n all) all
prefix_of_all [] zero = refl
prefix_of_all [] (suc n) = refl
prefix_of_all (x ∷ all) zero = refl
prefix_of_all (x ∷ all) (suc n) = ap (λ xs. x ∷ xs) (prefix_of_all all n)

-- one event more
pub take_next : {E C : Type 0} (content : E → C) (events : List E) (at : ℕ) (event : E) → slice_get events at ≡ Some event →
    take (at + 1) (map content events) ≡ take at (map content events) ++ content event ∷ []
take_next content events at event here =
    let within : at < length events = slice_get_within events at event here in
    let inside : at < length (map content events) = rw (length-map events content) within in
    take_more (map content events) at (content event) inside
    ∙ ap (λ x. take at (map content events) ++ x ∷ []) (get_or-map content events at event (content event) within ∙ ap content (get_or_from_slice_get events at event event here))

-- what a call keeps of every mark, it keeps of the marks of each list
pub keeps_each : {M C : Type 0} (good good' : M → Type 0) (list_of list_of' : M → List C) →
    ((m : M) → good m → StandsFor good' list_of' m (list_of m)) → (m : M) (es : List C) → StandsFor good list_of m es → StandsFor good' list_of' m es
keeps_each {M} {C} good good' list_of list_of' keeps m es h =
    subst (λ (ys : List C). StandsFor good' list_of' m ys) h.listed (keeps m h.is_good)

-- what a cut keeps, where the marks before are older than the mark that it goes to
pub keeps_older : {M C : Type 0} (all : List C) (first : M → List C → Type 0) (good good' : M → Type 0) (list_of list_of' : M → List C) (older : M → M → Type 0) (mark : M) →
    KeepsPrefixes all first (StandsFor good list_of) → ((m : M) (n : ℕ) → first m (take n all) → older m mark) →
    ((m : M) → good m → older m mark → StandsFor good' list_of' m (list_of m)) →
    KeepsPrefixes all first (StandsFor good' list_of')
keeps_older {M} {C} all first good good' list_of list_of' older mark before newest keeps m n h =
    let here = before m n h in
    subst (λ (es : List C). StandsFor good' list_of' m es) here.listed (keeps m here.is_good (newest m n h))

-- and of the marks of prefixes
pub keeps_all : {M C : Type 0} (all : List C) (good good' : M → Type 0) (list_of list_of' : M → List C) →
    ((m : M) → good m → StandsFor good' list_of' m (list_of m)) →
    KeepsPrefixes all (StandsFor good list_of) (StandsFor good' list_of')
keeps_all all good good' list_of list_of' keeps m n h = keeps_each good good' list_of list_of' keeps m (take n all) h

pub keeps_then : {M C : Type 0} (all : List C) (first second third : M → List C → Type 0) →
    KeepsPrefixes all first second → KeepsPrefixes all second third → KeepsPrefixes all first third
keeps_then all first second third before after m n h = after m n (before m n h)

-- what a step along these events keeps
pub keeps_step : {M C : Type 0} (all : List C) (good good' : M → Type 0) (list_of list_of' : M → List C) (at : ℕ) (shown : List C) (event : C) →
    shown ≡ take at all → take (at + 1) all ≡ take at all ++ event ∷ [] →
    ((m : M) → good m → OneIsPrefix (list_of m) (shown ++ event ∷ []) → StandsFor good' list_of' m (list_of m)) →
    KeepsPrefixes all (StandsFor good list_of) (StandsFor good' list_of')
keeps_step {M} {C} all good good' list_of list_of' at shown event shows next keeps m n h =
    subst (λ (es : List C). StandsFor good' list_of' m es) h.listed (keeps m h.is_good near)
  where
    more : take (at + 1) all ≡ shown ++ event ∷ []
    more = next ∙ ap (λ es. es ++ event ∷ []) (sym shows)

    near : OneIsPrefix (list_of m) (shown ++ event ∷ [])
    near = subst (λ (es : List C). OneIsPrefix es (shown ++ event ∷ [])) (sym h.listed)
        (subst (λ (es : List C). OneIsPrefix (take n all) es) more (one_is_prefix all n (at + 1)))

-- what a step along these events keeps for which no memory was found
pub keeps_step_err : {M C : Type 0} (all : List C) (good good' : M → Type 0) (list_of list_of' : M → List C) (at : ℕ) (shown : List C) (event : C) →
    shown ≡ take at all → take (at + 1) all ≡ take at all ++ event ∷ [] →
    ((m : M) → good m → IsPrefix (list_of m) shown ⊎ IsPrefix (shown ++ event ∷ []) (list_of m) → StandsFor good' list_of' m (list_of m)) →
    KeepsPrefixes all (StandsFor good list_of) (StandsFor good' list_of')
keeps_step_err {M} {C} all good good' list_of list_of' at shown event shows next keeps m n h =
    subst (λ (es : List C). StandsFor good' list_of' m es) h.listed (keeps m h.is_good (near (cases_lt at n)))
  where
    more : take (at + 1) all ≡ shown ++ event ∷ []
    more = next ∙ ap (λ es. es ++ event ∷ []) (sym shows)

    near : (at < n) ⊎ (n ≤ at) → IsPrefix (list_of m) shown ⊎ IsPrefix (shown ++ event ∷ []) (list_of m)
    near (inl less) = let below : at + 1 ≤ n = omega arith in
        inr (subst (λ (es : List C). IsPrefix (shown ++ event ∷ []) es) (sym h.listed)
        (subst (λ (es : List C). IsPrefix es (take n all)) more (prefix_of all (at + 1) n below)))
    near (inr less) = inl (subst (λ (es : List C). IsPrefix es shown) (sym h.listed)
        (subst (λ (es : List C). IsPrefix (take n all) es) (sym shows) (prefix_of all n at less)))

-- at the end of all events each mark of a prefix stays
pub keeps_end_err : {M C : Type 0} (all : List C) (good good' : M → Type 0) (list_of list_of' : M → List C) (shown next : List C) →
    shown ≡ all →
    ((m : M) → good m → IsPrefix (list_of m) shown ⊎ IsPrefix next (list_of m) → StandsFor good' list_of' m (list_of m)) →
    KeepsPrefixes all (StandsFor good list_of) (StandsFor good' list_of')
keeps_end_err {M} {C} all good good' list_of list_of' shown next shows keeps m n h =
    subst (λ (es : List C). StandsFor good' list_of' m es) h.listed (keeps m h.is_good (inl near))
  where
    near : IsPrefix (list_of m) shown
    near = subst (λ (es : List C). IsPrefix es shown) (sym h.listed)
        (subst (λ (es : List C). IsPrefix (take n all) es) (sym shows) (prefix_of_all all n))

-- what is kept after a mark, a way back and events taken
pub keeps_played : {M C : Type 0} (all : List C) (good marked restored : M → Type 0) (list_of list_marked list_restored : M → List C) (played : M → List C → Type 0) →
    ((m : M) → good m → StandsFor marked list_marked m (list_of m)) → ((m : M) → marked m → StandsFor restored list_restored m (list_marked m)) →
    KeepsPrefixes all (StandsFor restored list_restored) played → KeepsPrefixes all (StandsFor good list_of) played
keeps_played all good marked restored list_of list_marked list_restored played first second third m n h =
    third m n (keeps_all all marked restored list_marked list_restored second m n (keeps_all all good marked list_of list_marked first m n h))

-- the mark of the state before is still good then, and stands for what was shown
pub back_played : {M C : Type 0} (all : List C) (marked restored : M → Type 0) (list_marked list_restored : M → List C) (played : M → List C → Type 0) (mark : M) (shown here : List C) →
    IsPrefix shown all → here ≡ shown → StandsFor marked list_marked mark here → ((m : M) → marked m → StandsFor restored list_restored m (list_marked m)) →
    KeepsPrefixes all (StandsFor restored list_restored) played → played mark shown
back_played {M} {C} all marked restored list_marked list_restored played mark shown here prefix same given second third =
    subst (λ (es : List C). played mark es) prefix (third mark (length shown)
    (keeps_all all marked restored list_marked list_restored second mark (length shown)
    (subst (λ (es : List C). StandsFor marked list_marked mark es) (same ∙ sym prefix) given)))
