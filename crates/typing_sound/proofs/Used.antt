-- Typing doesn't depend on names that aren't used.
use Rattle.std.proofs.Common.{◌≡◌, ℕ, suc, Bool, true, false, ◌||◌, ◌==◌, List, [], ◌∷◌, ◌++◌, refl, sym, ap, ◌∙◌, subst}
use Rattle.std.specs.Prelude.{if◌then◌else◌}
use Rattle.std.proofs.lemmas.Bool.{eqb-true, eq-eqb}
use Rattle.elm_typing.specs.Ground.{Ground, Grounds, Row}
use Rattle.elm_meaning.specs.Patterns.{Pattern}
use Rattle.elm_meaning.specs.Values.{Tree, Done, Local, Top, Input, Lambda, Call, If, Guards, Case, LetValue, LetFunctions, TupleTree, ListTree, Range, RecordTree, Update, Extend, Remove, Field, NoTree, Trees, NoTrees, AndTree, FieldTrees, NoFieldTrees, AndFieldTree, GuardedTrees, NoGuards, AndGuard, Branches, NoBranches, AndBranch, Group, NoFunctions, AndFunction}
use Rattle.elm_meaning.specs.FreeNames.{is_among, without, function_names, free_names, free_in_all, free_in_fields, free_in_guards, free_in_branches, free_in_group}
use Rattle.elm_meaning.specs.Matching.{names_of}
use Rattle.typing_rules.specs.CorePatterns.{CorePattern, core_pattern, Fits}
use Rattle.typing_rules.specs.Worlds.{Types, Surroundings, exactly, Either, with_name, Bound, with_bound, World}
use Rattle.typing_rules.specs.Rules.{Typings, under_work, GivenBy, generalised}
use Rattle.typing_rules.specs.TermTypes.{TermHas, AllHave, EachHas, GuardsHave, BranchesHave, FieldsOver, NewestAre, EachFunctionHas, GroupHas}
use Rattle.typing_sound.proofs.Combine.{Sub, same, same_world, well_more, called_more, branch_more, abstracted_more, chosen_more, cased_more, defined_more, given_more, grouped_more, of_parts_more, and_part_more, listed_more, ranged_more, SubOver, field_over_more, of_fields_more, extended_more, newest_is_more, updated_more, removed_more, field_of_more}
use Rattle.typing_sound.proofs.Filled.{firsts, fits_names, local_names, Paired, paired}

-- the second surroundings give these names at least the types that the first give them
pub record WithinOn (xs : List ℕ) (s r : Surroundings) : Type 0 where
  pub at : (y : ℕ) → is_among y xs ≡ true → Sub (s y) (r y)

or_left : (a b : Bool) → a ≡ true → (a || b) ≡ true
or_left a b e = ap (λ z. z || b) e

or_right : (a b : Bool) → b ≡ true → (a || b) ≡ true
or_right true b e = refl
or_right false b e = e

pub among_left : (y : ℕ) (xs ys : List ℕ) → is_among y xs ≡ true → is_among y (xs ++ ys) ≡ true
among_left y [] ys e = absurd cc
among_left y (x ∷ xs) ys e = by_first (x == y) e (among_left y xs ys)
  where
    by_first : (b : Bool) → (b || is_among y xs) ≡ true → (is_among y xs ≡ true → is_among y (xs ++ ys) ≡ true) → (b || is_among y (xs ++ ys)) ≡ true
    by_first true h f = refl
    by_first false h f = f h

pub among_right : (y : ℕ) (xs ys : List ℕ) → is_among y ys ≡ true → is_among y (xs ++ ys) ≡ true
among_right y [] ys e = e
among_right y (x ∷ xs) ys e = or_right (x == y) (is_among y (xs ++ ys)) (among_right y xs ys e)

among_without : (y : ℕ) (ns xs : List ℕ) → is_among y xs ≡ true → is_among y ns ≡ false → is_among y (without ns xs) ≡ true
among_without y ns [] e h = absurd cc
among_without y ns (x ∷ xs) e h = by_first (x == y) refl e (among_without y ns xs)
  where
    hidden_not : (b : Bool) → is_among x ns ≡ b → is_among x ns ≡ false → is_among y (if b then without ns xs else x ∷ without ns xs) ≡ true → is_among y (if is_among x ns then without ns xs else x ∷ without ns xs) ≡ true
    hidden_not b p q g = subst (λ z. is_among y (if z then without ns xs else x ∷ without ns xs) ≡ true) (sym p) g

    kept : (b : Bool) → is_among y (without ns xs) ≡ true → is_among y (if b then without ns xs else x ∷ without ns xs) ≡ true
    kept true g = g
    kept false g = or_right (x == y) (is_among y (without ns xs)) g

    by_first : (b : Bool) → (x == y) ≡ b → (b || is_among y xs) ≡ true → (is_among y xs ≡ true → is_among y ns ≡ false → is_among y (without ns xs) ≡ true) → is_among y (if is_among x ns then without ns xs else x ∷ without ns xs) ≡ true
    by_first true p g f =
        let d = eqb-true x y p in
        let q : is_among x ns ≡ false = ap (λ z. is_among z ns) d ∙ h in
        hidden_not false q q (or_left (x == y) (is_among y (without ns xs)) p)
    by_first false p g f = kept (is_among x ns) (f g h)

on_left : (xs ys : List ℕ) (s r : Surroundings) → WithinOn (xs ++ ys) s r → WithinOn xs s r
on_left xs ys s r k = record { at = λ y e. k.at y (among_left y xs ys e) }

on_right : (xs ys : List ℕ) (s r : Surroundings) → WithinOn (xs ++ ys) s r → WithinOn ys s r
on_right xs ys s r k = record { at = λ y e. k.at y (among_right y xs ys e) }

-- surroundings in which these names stand for something else than outside, of which nothing is asked there
record Hides (ns : List ℕ) (s r z q : Surroundings) : Type 0 where
  at : (y : ℕ) → (is_among y ns ≡ false → Sub (s y) (r y)) → Sub (z y) (q y)

on_inside : (ns xs : List ℕ) (s r z q : Surroundings) → WithinOn (without ns xs) s r → Hides ns s r z q → WithinOn xs z q
on_inside ns xs s r z q k h = record { at = λ y e. h.at y (λ n. k.at y (among_without y ns xs e n)) }

hides_here : (b : Bool) (P Q S R : Types) → Sub P Q → (b ≡ false → Sub S R) → (t : Ground) → Either b (P t) (S t) → Either b (Q t) (R t)
hides_here true P Q S R f g t h = f t h
hides_here false P Q S R f g t h = g refl t h

first_not : (b c : Bool) → b ≡ false → c ≡ false → (b || c) ≡ false
first_not b c e f = ap (λ z. z || c) e ∙ f

hides_nothing : (s r : Surroundings) → Hides [] s r s r
hides_nothing s r = record { at = λ y f. f refl }

-- one more name is hidden first
hides_more : (x : ℕ) (ns : List ℕ) (P Q : Types) (s r z q : Surroundings) → Sub P Q → Hides ns (with_name x P s) (with_name x Q r) z q → Hides (x ∷ ns) s r z q
hides_more x ns P Q s r z q f h = record { at = λ y g. h.at y (λ n. hides_here (x == y) P Q (s y) (r y) f (λ e. g (first_not (x == y) (is_among y ns) e n))) }

hides_name : (x : ℕ) (P Q : Types) (s r : Surroundings) → Sub P Q → Hides (x ∷ []) s r (with_name x P s) (with_name x Q r)
hides_name x P Q s r f = hides_more x [] P Q s r _ _ f (hides_nothing (with_name x P s) (with_name x Q r))

hides_bound : (bs : Bound) (s r : Surroundings) → Hides (firsts bs) s r (with_bound bs s) (with_bound bs r)
hides_bound [] s r = hides_nothing s r
hides_bound (b ∷ bs) s r = hides_more b.0 (firsts bs) (exactly b.1) (exactly b.1) s r _ _ (same (exactly b.1)) (hides_bound bs _ _)

hides_work : (xs : List ℕ) (ts : List Ground) (s r : Surroundings) → Paired xs ts → Hides xs s r (under_work xs ts s) (under_work xs ts r)
hides_work [] [] s r k = hides_nothing s r
hides_work [] (t ∷ ts) s r k = absurd k
hides_work (x ∷ xs) [] s r k = absurd k
hides_work (x ∷ xs) (t ∷ ts) s r k = hides_more x xs (exactly t) (exactly t) s r _ _ (same (exactly t)) (hides_work xs ts _ _ k)

hides_given : (xs : List ℕ) (i : ℕ) (G H : Typings) (s r : Surroundings) → ((ts : List Ground) → G ts → H ts) → Hides xs s r (generalised xs i G s) (generalised xs i H r)
hides_given [] i G H s r f = hides_nothing s r
hides_given (x ∷ xs) i G H s r f = hides_more x xs (GivenBy G i) (GivenBy H i) s r _ _ (given_more i G H f) (hides_given xs (suc i) G H _ _ f)

pub itself : (y : ℕ) → is_among y (y ∷ []) ≡ true
itself y = or_left (y == y) false (eq-eqb y y refl)

module _ (w : World) where
  inside_pattern : (p : Pattern) (t : Ground) (bs : Bound) (xs : List ℕ) (s r : Surroundings) → Fits w.unions (core_pattern p) t bs → WithinOn (without (names_of p) xs) s r → WithinOn xs (with_bound bs s) (with_bound bs r)
  inside_pattern p t bs xs s r d k =
      on_inside (names_of p) xs s r _ _ k (subst (λ ns. Hides ns s r (with_bound bs s) (with_bound bs r)) (fits_names w.unions p t bs d) (hides_bound bs s r))

  inside_name : (p : Pattern) (x : ℕ) (P Q : Types) (xs : List ℕ) (s r : Surroundings) → core_pattern p ≡ CorePattern.Local x → Sub P Q → WithinOn (without (names_of p) xs) s r → WithinOn xs (with_name x P s) (with_name x Q r)
  inside_name p x P Q xs s r e f k =
      on_inside (names_of p) xs s r _ _ k (subst (λ ns. Hides ns s r (with_name x P s) (with_name x Q r)) (sym (local_names p x e)) (hides_name x P Q s r f))

  mutual
    pub term_used : (e : Tree) (s r : Surroundings) → WithinOn (free_names e) s r → Sub (TermHas w s e) (TermHas w r e)
    term_used (Done x) s r k = λ t h. h
    term_used (Local y) s r k = well_more w w _ _ (same_world w) (k.at y (itself y))
    term_used (Top n) s r k = λ t h. h
    term_used (Input n) s r k = λ t h. h
    term_used (Lambda p e) s r k =
        well_more w w _ _ (same_world w) (abstracted_more w w (core_pattern p) (λ z. TermHas w z e) (λ z. TermHas w z e) s r (same_world w)
        (λ from bs d. term_used e _ _ (inside_pattern p from bs (free_names e) s r d k)))
    term_used (Call f a) s r k =
        well_more w w _ _ (same_world w) (called_more _ _ _ _ (term_used f s r (on_left _ _ s r k)) (term_used a s r (on_right (free_names f) _ s r k)))
    term_used (If c y n) s r k =
        let i = on_right (free_names c) _ s r k in
        well_more w w _ _ (same_world w) (chosen_more _ _ _ _ _ _ (term_used c s r (on_left _ _ s r k)) (term_used y s r (on_left _ _ s r i)) (term_used n s r (on_right (free_names y) _ s r i)))
    term_used (Guards gs) s r k = well_more w w _ _ (same_world w) (guards_used gs s r k)
    term_used (Case e bs) s r k =
        well_more w w _ _ (same_world w) (cased_more w w _ _ _ _ (same_world w) (term_used e s r (on_left _ _ s r k)) (branches_used bs s r (on_right (free_names e) _ s r k)))
    term_used (LetValue p e d) s r k =
        let i = on_left _ _ s r k in
        let j = on_right (free_names e) _ s r k in
        well_more w w _ _ (same_world w) (defined_more w w (core_pattern p) (λ z. TermHas w z e) (λ z. TermHas w z e) (λ z. TermHas w z d) (λ z. TermHas w z d) s r (same_world w)
        (term_used e s r i)
        (λ x q. term_used d _ _ (inside_name p x _ _ (free_names d) s r q (term_used e s r i) j))
        (λ from bs q. term_used d _ _ (inside_pattern p from bs (free_names d) s r q j)))
    term_used (LetFunctions g d) s r k =
        well_more w w _ _ (same_world w) (grouped_more w w (function_names g) (λ z. GroupHas w z g) (λ z. GroupHas w z g) (λ z. TermHas w z d) (λ z. TermHas w z d) s r (same_world w)
        (λ ts q. functions_used g _ _ (on_left _ _ _ _ (on_inside (function_names g) (free_in_group g ++ free_names d) s r _ _ k (hides_work (function_names g) ts s r (paired w _ g ts q)))) ts q)
        (term_used d _ _ (on_right (free_in_group g) _ _ _ (on_inside (function_names g) (free_in_group g ++ free_names d) s r _ _ k (hides_given (function_names g) 0 _ _ s r
        (λ ts q. functions_used g _ _ (on_left _ _ _ _ (on_inside (function_names g) (free_in_group g ++ free_names d) s r _ _ k (hides_work (function_names g) ts s r (paired w _ g ts q)))) ts q))))))
    term_used (TupleTree es) s r k = well_more w w _ _ (same_world w) (of_parts_more _ _ (all_used es s r k))
    term_used (ListTree es) s r k = well_more w w _ _ (same_world w) (listed_more _ _ (each_used es s r k))
    term_used (Range a b) s r k =
        well_more w w _ _ (same_world w) (ranged_more _ _ _ _ (term_used a s r (on_left _ _ s r k)) (term_used b s r (on_right (free_names a) _ s r k)))
    term_used (RecordTree fs) s r k = well_more w w _ _ (same_world w) (of_fields_more _ _ (over_used fs s r k))
    term_used (Update e fs) s r k =
        well_more w w _ _ (same_world w) (updated_more _ _ _ _ (term_used e s r (on_left _ _ s r k)) (newest_used fs s r (on_right (free_names e) _ s r k)))
    term_used (Extend e fs) s r k =
        well_more w w _ _ (same_world w) (extended_more _ _ _ _ (term_used e s r (on_left _ _ s r k)) (over_used fs s r (on_right (free_names e) _ s r k)))
    term_used (Remove e l) s r k = well_more w w _ _ (same_world w) (removed_more _ _ l (term_used e s r k))
    term_used (Field e l) s r k = well_more w w _ _ (same_world w) (field_of_more _ _ l (term_used e s r k))
    term_used NoTree s r k = λ t h. h

    all_used : (es : Trees) (s r : Surroundings) → WithinOn (free_in_all es) s r → (ts : Grounds) → AllHave w s es ts → AllHave w r es ts
    all_used NoTrees s r k ts h = h
    all_used (AndTree e es) s r k ts h = and_part_more _ _ _ _ (term_used e s r (on_left _ _ s r k)) (all_used es s r (on_right (free_names e) _ s r k)) ts h

    each_used : (es : Trees) (s r : Surroundings) → WithinOn (free_in_all es) s r → Sub (EachHas w s es) (EachHas w r es)
    each_used NoTrees s r k t h = h
    each_used (AndTree e es) s r k t h = (term_used e s r (on_left _ _ s r k) t h.0, each_used es s r (on_right (free_names e) _ s r k) t h.1)

    guards_used : (gs : GuardedTrees) (s r : Surroundings) → WithinOn (free_in_guards gs) s r → Sub (GuardsHave w s gs) (GuardsHave w r gs)
    guards_used NoGuards s r k t h = h
    guards_used (AndGuard c e gs) s r k t h =
        let i = on_right (free_names c) _ s r k in
        chosen_more _ _ _ _ _ _ (term_used c s r (on_left _ _ s r k)) (term_used e s r (on_left _ _ s r i)) (guards_used gs s r (on_right (free_names e) _ s r i)) t h

    branches_used : (bs : Branches) (s r : Surroundings) → WithinOn (free_in_branches bs) s r → (from : Ground) → Sub (BranchesHave w s bs from) (BranchesHave w r bs from)
    branches_used NoBranches s r k from t h = h
    branches_used (AndBranch p e bs) s r k from t h = (
      branch_more w w (core_pattern p) (λ z. TermHas w z e) (λ z. TermHas w z e) s r from (same_world w) (λ d q. term_used e _ _ (inside_pattern p from d (free_names e) s r q (on_left _ _ s r k))) t h.0,
      branches_used bs s r (on_right (without (names_of p) (free_names e)) _ s r k) from t h.1,
    )

    over_used : (fs : FieldTrees) (s r : Surroundings) → WithinOn (free_in_fields fs) s r → SubOver (FieldsOver w s fs) (FieldsOver w r fs)
    over_used NoFieldTrees s r k before row h = h
    over_used (AndFieldTree l e fs) s r k before row h = field_over_more l _ _ _ _ (term_used e s r (on_left _ _ s r k)) (over_used fs s r (on_right (free_names e) _ s r k)) before row h

    newest_used : (fs : FieldTrees) (s r : Surroundings) → WithinOn (free_in_fields fs) s r → (row : Row) → NewestAre w s fs row → NewestAre w r fs row
    newest_used NoFieldTrees s r k row h = h
    newest_used (AndFieldTree l e fs) s r k row h = (newest_is_more l _ _ (term_used e s r (on_left _ _ s r k)) row h.0, newest_used fs s r (on_right (free_names e) _ s r k) row h.1)

    functions_used : (g : Group) (s r : Surroundings) → WithinOn (free_in_group g) s r → (ts : List Ground) → EachFunctionHas w s g ts → EachFunctionHas w r g ts
    functions_used NoFunctions s r k [] h = h
    functions_used NoFunctions s r k (t ∷ ts) h = h
    functions_used (AndFunction name p e g) s r k [] h = h
    functions_used (AndFunction name p e g) s r k (t ∷ ts) h = (
      well_more w w _ _ (same_world w) (abstracted_more w w (core_pattern p) (λ z. TermHas w z e) (λ z. TermHas w z e) s r (same_world w) (λ from bs q. term_used e _ _ (inside_pattern p from bs (free_names e) s r q (on_left _ _ s r k)))) t h.0,
      functions_used g s r (on_right (without (names_of p) (free_names e)) _ s r k) ts h.1,
    )
