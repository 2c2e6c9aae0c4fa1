-- The rules are monotone: a form has a type wherever its parts have theirs.
use Rattle.std.proofs.Common.{◌≡◌, ℕ, suc, Bool, true, false, Some, List, [], ◌∷◌, ◌==◌, refl, subst}
use Rattle.std.specs.Prelude.{slice_get}
use Rattle.elm_typing.specs.Ground.{Ground, Grounds, Row}
use Rattle.elm_typing.specs.Sorts.{IsWellSorted, IsAtMost, sort_of}
use Rattle.typing_rules.specs.CorePatterns.{CorePattern, Fits}
use Rattle.typing_rules.specs.Worlds.{Types, Surroundings, exactly, Either, with_name, Bound, with_bound, World, IsProper, MayStandIn, AllMayStandIn}
use Rattle.typing_rules.specs.Rules.{Inside, Well, Incoming, Called, Branch, Abstracted, Chosen, Cased, NamedValue, TakenApart, Defined, Typings, under_work, Group, GivenBy, generalised, Grouped, OfParts, AndPart, Listed, Ranged, Over, FieldOver, OfFields, Extended, NewestIs, Updated, Removed, FieldOf}

-- one set is within another
abbrev pub Sub : Types → Types → Type 0
Sub P Q = (t : Ground) → P t → Q t

pub record Within (s r : Surroundings) : Type 0 where
  pub at : (y : ℕ) → Sub (s y) (r y)

pub same : (P : Types) → Sub P P
same P t h = h

pub same_within : (s : Surroundings) → Within s s
same_within s = record { at = λ y t h. h }

-- names

either_more : (b : Bool) (A C B D : Type 0) → (A → C) → (B → D) → Either b A B → Either b C D
either_more true A C B D f g h = f h
either_more false A C B D f g h = g h

pub name_more : (x : ℕ) (P Q : Types) (s r : Surroundings) → Sub P Q → Within s r → Within (with_name x P s) (with_name x Q r)
name_more x P Q s r f h = record { at = λ y t. either_more (x == y) (P t) (Q t) (s y t) (r y t) (f t) (h.at y t) }

pub bound_more : (bs : Bound) (s r : Surroundings) → Within s r → Within (with_bound bs s) (with_bound bs r)
bound_more [] s r h = h
bound_more (b ∷ bs) s r h = bound_more bs _ _ (name_more b.0 (exactly b.1) (exactly b.1) s r (same (exactly b.1)) h)

pub work_more : (xs : List ℕ) (ts : List Ground) (s r : Surroundings) → Within s r → Within (under_work xs ts s) (under_work xs ts r)
work_more [] ts s r h = h
work_more (x ∷ xs) [] s r h = h
work_more (x ∷ xs) (t ∷ ts) s r h = work_more xs ts _ _ (name_more x (exactly t) (exactly t) s r (same (exactly t)) h)

pub given_more : (i : ℕ) (G H : Typings) → ((ts : List Ground) → G ts → H ts) → Sub (GivenBy G i) (GivenBy H i)
given_more i G H f t h = (h.0, f h.0 h.1, h.2)

pub generalised_more : (xs : List ℕ) (i : ℕ) (G H : Typings) (s r : Surroundings) → ((ts : List Ground) → G ts → H ts) → Within s r → Within (generalised xs i G s) (generalised xs i H r)
generalised_more [] i G H s r f h = h
generalised_more (x ∷ xs) i G H s r f h =
    generalised_more xs (suc i) G H _ _ f (name_more x (GivenBy G i) (GivenBy H i) s r (given_more i G H f) h)

-- worlds that differ in the types of top values and nodes alone

pub record Alike (v w : World) : Type 0 where
  pub sorts : v.sorts ≡ w.sorts
  pub unions : v.unions ≡ w.unions
  pub inputs : v.inputs ≡ w.inputs

pub same_world : (w : World) → Alike w w
same_world w = record { sorts = refl; unions = refl; inputs = refl }

pub proper_more : (v w : World) (t : Ground) → Alike v w → IsProper v t → IsProper w t
proper_more v w t a h = record { sorted = subst (λ z. IsWellSorted z t) a.sorts h.sorted; ordered = h.ordered }

pub stands_more : (v w : World) (t u : Ground) → Alike v w → MayStandIn v t u → MayStandIn w t u
stands_more v w t u a h = subst (λ z. IsAtMost (sort_of z t) (sort_of z u)) a.sorts h

pub all_stand_more : (v w : World) (ts : List Ground) (u : Ground) → Alike v w → AllMayStandIn v ts u → AllMayStandIn w ts u
all_stand_more v w [] u a h = h
all_stand_more v w (t ∷ ts) u a h = (stands_more v w t u a h.0, all_stand_more v w ts u a h.1)

pub well_more : (v w : World) (E F : Types) → Alike v w → Sub E F → Sub (Well v E) (Well w F)
well_more v w E F a f t h = (proper_more v w t a h.0, f t h.1)

pub incoming_more : (v w : World) (n : ℕ) → Alike v w → Sub (Incoming v n) (Incoming w n)
incoming_more v w n a t h = (h.0, subst (λ z. slice_get z n ≡ Some h.0) a.inputs h.1, h.2)

-- rules

pub called_more : (F G A B : Types) → Sub F G → Sub A B → Sub (Called F A) (Called G B)
called_more F G A B f g t h = (h.0, f _ h.1, g _ h.2)

pub branch_more : (v w : World) (p : CorePattern) (B C : Inside) (s r : Surroundings) (from : Ground) → Alike v w → ((b : Bound) → Fits v.unions p from b → Sub (B (with_bound b s)) (C (with_bound b r))) → Sub (Branch v p B s from) (Branch w p C r from)
branch_more v w p B C s r from a f t h = (h.0, subst (λ z. Fits z p from h.0) a.unions h.1, f h.0 h.1 t h.2)

pub abstracted_more : (v w : World) (p : CorePattern) (B C : Inside) (s r : Surroundings) → Alike v w → ((from : Ground) (b : Bound) → Fits v.unions p from b → Sub (B (with_bound b s)) (C (with_bound b r))) → Sub (Abstracted v p B s) (Abstracted w p C r)
abstracted_more v w p B C s r a f t h = (h.0, h.1, h.2, branch_more v w p B C s r h.0 a (f h.0) h.1 h.3)

pub chosen_more : (C D Y Z N M : Types) → Sub C D → Sub Y Z → Sub N M → Sub (Chosen C Y N) (Chosen D Z M)
chosen_more C D Y Z N M f g k t h = (f _ h.0, g t h.1, k t h.2)

pub cased_more : (v w : World) (E F : Types) (B C : Ground → Types) → Alike v w → Sub E F → ((from : Ground) → Sub (B from) (C from)) → Sub (Cased v E B) (Cased w F C)
cased_more v w E F B C a f g t h = (h.0, f _ h.1, stands_more v w h.0 t a h.2, g h.0 t h.3)

named_more : (v w : World) (x : ℕ) (E F B C : Inside) (s r : Surroundings) → Alike v w → Sub (E s) (F r) → Sub (B (with_name x (E s) s)) (C (with_name x (F r) r)) → Sub (NamedValue v x E B s) (NamedValue w x F C r)
named_more v w x E F B C s r a f g t h = (h.0, f _ h.1, stands_more v w h.0 t a h.2, g t h.3)

apart_more : (v w : World) (p : CorePattern) (E F B C : Inside) (s r : Surroundings) → Alike v w → Sub (E s) (F r) → ((from : Ground) (b : Bound) → Fits v.unions p from b → Sub (B (with_bound b s)) (C (with_bound b r))) → Sub (TakenApart v p E B s) (TakenApart w p F C r)
apart_more v w p E F B C s r a f g t h = (h.0, f _ h.1, stands_more v w h.0 t a h.2, branch_more v w p B C s r h.0 a (g h.0) t h.3)

pub defined_more : (v w : World) (p : CorePattern) (E F B C : Inside) (s r : Surroundings) → Alike v w → Sub (E s) (F r) → ((x : ℕ) → p ≡ CorePattern.Local x → Sub (B (with_name x (E s) s)) (C (with_name x (F r) r))) → ((from : Ground) (b : Bound) → Fits v.unions p from b → Sub (B (with_bound b s)) (C (with_bound b r))) → Sub (Defined v p E B s) (Defined w p F C r)
defined_more v w (CorePattern.Local x) E F B C s r a f g k = named_more v w x E F B C s r a f (g x refl)
defined_more v w CorePattern.Anything E F B C s r a f g k = apart_more v w CorePattern.Anything E F B C s r a f k
defined_more v w (CorePattern.Literal l) E F B C s r a f g k = apart_more v w (CorePattern.Literal l) E F B C s r a f k
defined_more v w (CorePattern.Made u c ps) E F B C s r a f g k = apart_more v w (CorePattern.Made u c ps) E F B C s r a f k
defined_more v w CorePattern.Nil E F B C s r a f g k = apart_more v w CorePattern.Nil E F B C s r a f k
defined_more v w (CorePattern.Cons x y) E F B C s r a f g k = apart_more v w (CorePattern.Cons x y) E F B C s r a f k
defined_more v w (CorePattern.Tuple ps) E F B C s r a f g k = apart_more v w (CorePattern.Tuple ps) E F B C s r a f k
defined_more v w (CorePattern.Fields ls) E F B C s r a f g k = apart_more v w (CorePattern.Fields ls) E F B C s r a f k
defined_more v w (CorePattern.Named x n) E F B C s r a f g k = apart_more v w (CorePattern.Named x n) E F B C s r a f k

pub grouped_more : (v w : World) (xs : List ℕ) (G H : Group) (B C : Inside) (s r : Surroundings) → Alike v w → ((ts : List Ground) → G s ts → H r ts) → Sub (B (generalised xs 0 (G s) s)) (C (generalised xs 0 (H r) r)) → Sub (Grouped v xs G B s) (Grouped w xs H C r)
grouped_more v w xs G H B C s r a f g t h = (h.0, f h.0 h.1, all_stand_more v w h.0 t a h.2, g t h.3)

-- parts

pub of_parts_more : (P Q : Grounds → Type 0) → ((ts : Grounds) → P ts → Q ts) → Sub (OfParts P) (OfParts Q)
of_parts_more P Q f t h = (h.0, h.1, f h.0 h.2)

pub and_part_more : (E F : Types) (P Q : Grounds → Type 0) → Sub E F → ((ts : Grounds) → P ts → Q ts) → (ts : Grounds) → AndPart E P ts → AndPart F Q ts
and_part_more E F P Q f g ts h = (h.0, h.1, h.2, f _ h.3, g _ h.4)

pub listed_more : (E F : Types) → Sub E F → Sub (Listed E) (Listed F)
listed_more E F f t h = (h.0, h.1, f _ h.2)

pub ranged_more : (L M H K : Types) → Sub L M → Sub H K → Sub (Ranged L H) (Ranged M K)
ranged_more L M H K f g t h = (f _ h.0, g _ h.1, h.2)

-- records

abbrev pub SubOver : Over → Over → Type 0
SubOver F G = (before row : Row) → F before row → G before row

pub field_over_more : (l : List ℕ) (E F : Types) (P Q : Over) → Sub E F → SubOver P Q → SubOver (FieldOver l E P) (FieldOver l F Q)
field_over_more l E F P Q f g before row h = (h.0, h.1, f _ h.2, g _ _ h.3, h.4)

pub of_fields_more : (P Q : Over) → SubOver P Q → Sub (OfFields P) (OfFields Q)
of_fields_more P Q f t h = (h.0, h.1, f _ _ h.2)

pub extended_more : (E F : Types) (P Q : Over) → Sub E F → SubOver P Q → Sub (Extended E P) (Extended F Q)
extended_more E F P Q f g t h = (h.0, h.1, h.2, f _ h.3, g _ _ h.4)

pub newest_is_more : (l : List ℕ) (E F : Types) → Sub E F → (row : Row) → NewestIs l E row → NewestIs l F row
newest_is_more l E F f row h = (h.0, h.1, f _ h.2)

pub updated_more : (E F : Types) (P Q : Row → Type 0) → Sub E F → ((row : Row) → P row → Q row) → Sub (Updated E P) (Updated F Q)
updated_more E F P Q f g t h = (h.0, h.1, f _ h.2, g _ h.3)

pub removed_more : (E F : Types) (l : List ℕ) → Sub E F → Sub (Removed E l) (Removed F l)
removed_more E F l f t h = (h.0, h.1, h.2, f _ h.3, h.4)

pub field_of_more : (E F : Types) (l : List ℕ) → Sub E F → Sub (FieldOf E l) (FieldOf F l)
field_of_more E F l f t h = (h.0, f _ h.1, h.2)
