-- The kept marks and the mark of the end, while events and the state change.
use Rattle.std.proofs.Common.{◌≡◌, ℕ, ◌+◌, ◌*◌, ◌/◌, ◌<◌, ◌≤◌, suc, zero, List, [], ◌∷◌, ◌++◌, length, take, get_or, ◌⊎◌, inl, inr, refl, sym, ap, ◌∙◌, arith, Option, Some, None, subst, unwrap_or, slice_get, min, length-take}
use Rattle.std.proofs.lemmas.List.{take-take, take_all, take-append-le}
use Rattle.std.proofs.lemmas.Option.{slice_get_within, slice_get_read}
use Rattle.std.proofs.Math.Nat.{div-mul-le_self, lt-div-mul-add}
use Rattle.std.proofs.lemmas.Nat.{mul-le, div_below}
use Rattle.std.proofs.lemmas.Bool.{cases_lt}
use Rattle.std.proofs.lemmas.Grind.{common_steps}
use Rattle.snapshots.specs.Past.{StandsFor, KeepsPrefixes}
use Rattle.snapshots.specs.Kept.{AreKept, AllFit, IsEnd}

-- kept marks stand where the marks of prefixes do
pub kept_stays : {M C : Type 0} (before after : M → List C → Type 0) (older : M → M → Type 0) (events : List C) (every : ℕ) (kept : List M) →
    AreKept before older events every kept → KeepsPrefixes events before after → AreKept after older events every kept
kept_stays before after older events every kept are keeps = record {
  enough = are.enough;
  within = are.within;
  own = λ k m here. keeps m (k * every) (are.own k m here);
  ordered = are.ordered;
}

-- the kept marks stay where a cut goes to a newer mark
pub kept_after_end : {M C : Type 0} (good good' : M → Type 0) (list_of list_of' : M → List C) (older : M → M → Type 0) (events : List C) (every : ℕ) (kept : List M) (mark : M) →
    AreKept (StandsFor good list_of) older events every kept → ((k : ℕ) (a : M) → slice_get kept k ≡ Some a → older a mark) →
    ((m : M) → good m → older m mark → StandsFor good' list_of' m (list_of m)) → AreKept (StandsFor good' list_of') older events every kept
kept_after_end {M} {C} good good' list_of list_of' older events every kept mark are newest keeps = record {
  enough = are.enough;
  within = are.within;
  own = λ k m here. own k m here (are.own k m here);
  ordered = are.ordered;
}
  where
    own : (k : ℕ) (m : M) → slice_get kept k ≡ Some m → StandsFor good list_of m (take (k * every) events) → StandsFor good' list_of' m (take (k * every) events)
    own k m here h = subst (λ (es : List C). StandsFor good' list_of' m es) h.listed (keeps m h.is_good (newest k m here))

-- the last kept mark that isn't behind the cursor
pub read_kept : {M C : Type 0} (stands : M → List C → Type 0) (older : M → M → Type 0) (events : List C) (every : ℕ) (kept : List M) (cursor : ℕ) (mark : M) →
    0 < every → cursor < length events → AreKept stands older events every kept → mark ≡ get_or kept (cursor / every) mark →
    stands mark (take (cursor / every * every) events)
read_kept stands older events every kept cursor mark spaced within are here =
    let room : cursor < length kept * every = omega (arith, within, are.enough) in
    let inside : cursor / every < length kept = div_below cursor every (length kept) spaced room in
    are.own (cursor / every) mark (slice_get_read kept (length kept) (cursor / every) mark refl inside here)

-- an element of a list with one more at the end
pub slice_get-last : {X : Type 0} (xs : List X) (y x : X) (k : ℕ) → slice_get (xs ++ y ∷ []) k ≡ Some x →
    (slice_get xs k ≡ Some x) ⊎ ((k ≡ length xs) × (x ≡ y))
slice_get-last [] y x zero here = inr (refl, cc)
slice_get-last [] y x (suc k) here = cc
slice_get-last (z ∷ xs) y x zero here = inl here
slice_get-last (z ∷ xs) y x (suc k) here = go (slice_get-last xs y x k here)
  where
    go : ((slice_get xs k ≡ Some x) ⊎ ((k ≡ length xs) × (x ≡ y))) → (slice_get xs k ≡ Some x) ⊎ ((suc k ≡ suc (length xs)) × (x ≡ y))
    go (inl found) = inl found
    go (inr last) = inr (ap suc last.0, last.1)

pub slice_get-take : {X : Type 0} (xs : List X) (n k : ℕ) (x : X) → slice_get (take n xs) k ≡ Some x → slice_get xs k ≡ Some x
slice_get-take [] zero k x here = cc
slice_get-take [] (suc n) k x here = cc
slice_get-take (y ∷ xs) zero k x here = cc
slice_get-take (y ∷ xs) (suc n) zero x here = here
slice_get-take (y ∷ xs) (suc n) (suc k) x here = slice_get-take xs n k x here

pub last_read : {X : Type 0} (xs : List X) (y d : X) → get_or (xs ++ y ∷ []) (length xs) d ≡ y
last_read [] y d = refl
last_read (x ∷ xs) y d = last_read xs y d

-- a mark of all events is kept, behind the others
pub kept_added : {M C : Type 0} (before after : M → List C → Type 0) (older : M → M → Type 0) (events : List C) (every : ℕ) (kept : List M) (mark : M) →
    0 < every → AreKept before older events every kept → length events / every ≡ length kept →
    ((m : M) (es : List C) → before m es → after m es) → after mark events →
    ((k : ℕ) (a : M) → slice_get kept k ≡ Some a → older a mark) →
    AreKept after older events every (kept ++ mark ∷ [])
kept_added {M} {C} before after older events every kept mark spaced are due keeps given newest = record {
  enough = rw more (grind (arith, are.enough));
  within = λ k less.
      let low : k ≤ length kept = omega (arith, more, less) in
      let below : k * every ≤ length kept * every = mul-le k every (length kept) every low (omega arith) in
      omega (arith, at_most, below);
  own = λ k m here. own k m (slice_get-last kept mark m k here);
  ordered = λ j k a b less first second. ordered j k a b less (slice_get-last kept mark a j first) (slice_get-last kept mark b k second);
}
  where
    more : length (kept ++ mark ∷ []) ≡ length kept + 1
    more = grind (arith, common_steps)

    at_most : length kept * every ≤ length events
    at_most = subst (λ (n : ℕ). n * every ≤ length events) due (div-mul-le_self (length events) every)

    all : take (length kept * every) events ≡ events
    all = take_all (length kept * every) events are.enough

    own : (k : ℕ) (m : M) → ((slice_get kept k ≡ Some m) ⊎ ((k ≡ length kept) × (m ≡ mark))) → after m (take (k * every) events)
    own k m (inl here) = keeps m (take (k * every) events) (are.own k m here)
    own k m (inr last) = subst (λ (n : ℕ). after m (take (n * every) events)) (sym last.0)
        (subst (λ (es : List C). after m es) (sym all) (subst (λ (x : M). after x events) (sym last.1) given))

    ordered : (j k : ℕ) (a b : M) → j < k → ((slice_get kept j ≡ Some a) ⊎ ((j ≡ length kept) × (a ≡ mark))) →
        ((slice_get kept k ≡ Some b) ⊎ ((k ≡ length kept) × (b ≡ mark))) → older a b
    ordered j k a b less (inl first) (inl second) = are.ordered j k a b less first second
    ordered j k a b less (inl first) (inr last) = subst (λ (x : M). older a x) (sym last.1) (newest j a first)
    ordered j k a b less (inr last) (inl second) = let inside : k < length kept = slice_get_within kept k b second in absurd (omega (arith, last.0, inside, less))
    ordered j k a b less (inr last) (inr behind) = absurd (omega (arith, last.0, behind.0, less))

-- one event more
pub kept_grown : {M C : Type 0} (before after : M → List C → Type 0) (older : M → M → Type 0) (events : List C) (every : ℕ) (kept : List M) (event : C) →
    AreKept before older events every kept → length events < length kept * every → KeepsPrefixes (events ++ event ∷ []) before after →
    AreKept after older (events ++ event ∷ []) every kept
kept_grown {M} {C} before after older events every kept event are room keeps = record {
  enough = rw more (omega arith);
  within = λ k less. let low : k * every ≤ length events = are.within k less in rw more (omega arith);
  own = λ k m here. keeps m (k * every) (subst (λ (es : List C). before m es) (same k (are.within k (slice_get_within kept k m here))) (are.own k m here));
  ordered = are.ordered;
}
  where
    more : length (events ++ event ∷ []) ≡ length events + 1
    more = grind (arith, common_steps)

    same : (k : ℕ) → k * every ≤ length events → take (k * every) events ≡ take (k * every) (events ++ event ∷ [])
    same k less = sym (take-append-le (k * every) events (event ∷ []) less)

pub take_first : {C : Type 0} (events : List C) (event : C) → take (length events) (events ++ event ∷ []) ≡ events
take_first [] event = refl
take_first (x ∷ events) event = ap (λ es. x ∷ es) (take_first events event)

pub take_whole : {C : Type 0} (events : List C) (event : C) → take (length events + 1) (events ++ event ∷ []) ≡ take (length events) (events ++ event ∷ []) ++ event ∷ []
take_whole events event =
    let most : length (events ++ event ∷ []) ≤ length events + 1 = grind (arith, common_steps) in
    take_all (length events + 1) (events ++ event ∷ []) most ∙ ap (λ es. es ++ event ∷ []) (sym (take_first events event))

-- what was made stays, and so the events fit
pub fit_stays : {E C D : Type 0} (content : E → C) (fits : D → C → Type 0) (made made' : D) (events : List E) → made' ≡ made → AllFit content (fits made) events → AllFit content (fits made') events
fit_stays content fits made made' events same fit k event here = subst (λ (d : _). fits d (content event)) (sym same) (fit k event here)

pub fit_grown : {E C : Type 0} (content : E → C) (fits : C → Type 0) (events : List E) (event : E) → AllFit content fits events → fits (content event) → AllFit content fits (events ++ event ∷ [])
fit_grown {E} {C} content fits events event fit one k x here = go (slice_get-last events event x k here)
  where
    go : ((slice_get events k ≡ Some x) ⊎ ((k ≡ length events) × (x ≡ event))) → fits (content x)
    go (inl found) = fit k x found
    go (inr last) = subst (λ (y : E). fits (content y)) (sym last.1) one

pub fit_cut : {E C : Type 0} (content : E → C) (fits : C → Type 0) (events : List E) (n : ℕ) → AllFit content fits events → AllFit content fits (take n events)
fit_cut content fits events n fit k event here = fit k event (slice_get-take events n k event here)

-- at the end there is no mark of it
pub end_same : {M C : Type 0} (before after : M → List C → Type 0) (older : M → M → Type 0) (events : List C) (cursor : ℕ) (kept kept' : List M) (end : Option M) →
    IsEnd before older events cursor kept end → cursor ≡ length events → IsEnd after older events cursor kept' end
end_same before after older events cursor kept kept' None ends at_end = at_end
end_same before after older events cursor kept kept' (Some m) ends at_end = let less : cursor < length events = ends.0 in absurd (omega arith)

pub end_grown : {M C : Type 0} (before after : M → List C → Type 0) (older : M → M → Type 0) (events : List C) (cursor : ℕ) (kept kept' : List M) (end : Option M) (event : C) →
    IsEnd before older events cursor kept end → cursor ≡ length events → IsEnd after older (events ++ event ∷ []) (length events + 1) kept' end
end_grown before after older events cursor kept kept' None event ends at_end = grind (arith, common_steps)
end_grown before after older events cursor kept kept' (Some m) event ends at_end = let less : cursor < length events = ends.0 in absurd (omega arith)

-- the mark of the end stays
pub end_stays : {M C : Type 0} (before after : M → List C → Type 0) (older : M → M → Type 0) (events : List C) (cursor : ℕ) (kept : List M) (end : Option M) →
    IsEnd before older events cursor kept end → KeepsPrefixes events before after → IsEnd after older events cursor kept end
end_stays before after older events cursor kept None ends keeps = ends
end_stays {M} {C} before after older events cursor kept (Some m) ends keeps =
    let all : take (length events) events ≡ events = take_all (length events) events (omega arith) in
    (ends.0, subst (λ (es : List C). after m es) all (keeps m (length events) (subst (λ (es : List C). before m es) (sym all) ends.1)), ends.2)

-- the mark of the end, after the cursor went back: the old one, or that of the state before
pub end_moved : {M C : Type 0} (before after : M → List C → Type 0) (older : M → M → Type 0) (events : List C) (cursor : ℕ) (kept : List M) (end : Option M) (shown : List C) (back : M) (next : ℕ) →
    IsEnd before older events cursor kept end → KeepsPrefixes events before after → shown ≡ take cursor events → after back shown →
    ((k : ℕ) (a : M) → slice_get kept k ≡ Some a → older a back) → next < length events →
    IsEnd after older events next kept (Some (unwrap_or end back))
end_moved {M} {C} before after older events cursor kept None shown back next ends keeps shows given newest less =
    let all : shown ≡ events = shows ∙ take_all cursor events (omega arith) in
    (less, subst (λ (es : List C). after back es) all given, newest)
end_moved before after older events cursor kept (Some m) shown back next ends keeps shows given newest less =
    let stays = end_stays before after older events cursor kept (Some m) ends keeps in
    (less, stays.1, stays.2)

-- the marks that are kept where later events are dropped
pub kept_cut : {M C : Type 0} (stands : M → List C → Type 0) (older : M → M → Type 0) (events : List C) (every : ℕ) (kept : List M) (cursor : ℕ) →
    0 < every → cursor ≤ length events → AreKept stands older events every kept →
    AreKept stands older (take cursor events) every (take (cursor / every + 1) kept)
kept_cut {M} {C} stands older events every kept cursor spaced within are = record {
  enough = rw (shorter, length-take) (enough (cases_lt (length kept) (cursor / every + 1)));
  within = λ k less. let low : k < min (cursor / every + 1) (length kept) = rw length-take at less in rw shorter (below k (omega arith));
  own = λ k m here.
      let inside : k < length (take (cursor / every + 1) kept) = slice_get_within (take (cursor / every + 1) kept) k m here in
      let low : k < min (cursor / every + 1) (length kept) = rw length-take at inside in
      let most : k * every ≤ cursor = below k (omega arith) in
      subst (λ (es : List C). stands m es) (sym (take-take (k * every) cursor events most)) (are.own k m (slice_get-take kept (cursor / every + 1) k m here));
  ordered = λ j k a b less first second. are.ordered j k a b less (slice_get-take kept (cursor / every + 1) j a first) (slice_get-take kept (cursor / every + 1) k b second);
}
  where
    shorter : length (take cursor events) ≡ cursor
    shorter = rw length-take (omega arith)

    below : (k : ℕ) → k ≤ cursor / every → k * every ≤ cursor
    below k less = let most : k * every ≤ cursor / every * every = mul-le k every (cursor / every) every less (omega arith) in omega (arith, most, div-mul-le_self cursor every)

    enough : (length kept < cursor / every + 1) ⊎ (cursor / every + 1 ≤ length kept) → cursor ≤ min (cursor / every + 1) (length kept) * every
    enough (inl less) = let e : min (cursor / every + 1) (length kept) ≡ length kept = omega arith in rw e (omega (arith, are.enough))
    enough (inr less) = let e : min (cursor / every + 1) (length kept) ≡ cursor / every + 1 = omega arith in
        let above : cursor < cursor / every * every + every = lt-div-mul-add spaced in
        let d : (cursor / every + 1) * every ≡ cursor / every * every + every = grind arith in
        rw (e, d) (omega arith)

-- the kept marks after the replay was cut to the last of them
pub kept_after_cut : {M C : Type 0} (good good' : M → Type 0) (list_of list_of' : M → List C) (older : M → M → Type 0) (events : List C) (every : ℕ) (kept : List M) (last : ℕ) (mark : M) →
    AreKept (StandsFor good list_of) older events every kept → length kept ≤ last + 1 → slice_get kept last ≡ Some mark →
    StandsFor good' list_of' mark (list_of mark) → ((m : M) → good m → older m mark → StandsFor good' list_of' m (list_of m)) →
    AreKept (StandsFor good' list_of') older events every kept
kept_after_cut {M} {C} good good' list_of list_of' older events every kept last mark are short found itself keeps = record {
  enough = are.enough;
  within = are.within;
  own = λ k m here. own k m here (cases_lt k last) (are.own k m here);
  ordered = are.ordered;
}
  where
    same : {X : Type 0} (x y : X) → Some x ≡ Some y → x ≡ y
    same x y e = cc

    own : (k : ℕ) (m : M) → slice_get kept k ≡ Some m → (k < last) ⊎ (last ≤ k) → StandsFor good list_of m (take (k * every) events) → StandsFor good' list_of' m (take (k * every) events)
    own k m here (inl less) h = subst (λ (es : List C). StandsFor good' list_of' m es) h.listed (keeps m h.is_good (are.ordered k last m mark less here found))
    own k m here (inr less) h =
        let inside : k < length kept = slice_get_within kept k m here in
        let at : k ≡ last = omega (arith, inside, short, less) in
        let e : m ≡ mark = same m mark (sym here ∙ ap (slice_get kept) at ∙ found) in
        subst (λ (es : List C). StandsFor good' list_of' m es) h.listed (subst (λ (x : M). StandsFor good' list_of' x (list_of x)) (sym e) itself)
