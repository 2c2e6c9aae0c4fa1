-- Substitution of typed values keeps types.
use Rattle.std.proofs.Common.{◌≡◌, ℕ, suc, Bool, true, false, Option, Some, None, List, [], ◌∷◌, ◌++◌, ◌==◌, map, refl, sym, ap, ap₂, ◌∙◌, subst}
use Rattle.std.specs.Prelude.{if◌then◌else◌}
use Rattle.elm_typing.specs.Ground.{Ground, Grounds, Row, NoGrounds, AndGround}
use Rattle.elm_meaning.specs.Patterns.{Pattern, Patterns, NoPatterns, AndPattern}
use Rattle.elm_meaning.specs.Values.{Value, Tree, Done, Local, Top, Input, Lambda, Call, If, Guards, Case, LetValue, LetFunctions, TupleTree, ListTree, Range, RecordTree, Update, Extend, Remove, Field, NoTree, Trees, NoTrees, AndTree, FieldTrees, NoFieldTrees, AndFieldTree, GuardedTrees, NoGuards, AndGuard, Branches, NoBranches, AndBranch, Group, NoFunctions, AndFunction}
use Rattle.elm_meaning.specs.FreeNames.{function_names}
use Rattle.elm_meaning.specs.Matching.{names_of, all_names}
use Rattle.elm_meaning.specs.Substitution.{Names, hide, hide_all, hide_group, replaced, fill, fill_all, fill_fields, fill_guards, fill_branches, fill_group}
use Rattle.typing_rules.specs.Unions.{Union}
use Rattle.typing_rules.specs.CorePatterns.{CorePattern, core_pattern, core_patterns, Fits, AllFit, LabelsFit}
use Rattle.typing_rules.specs.Worlds.{Types, Surroundings, exactly, Either, with_name, Bound, with_bound, World, IsProper}
use Rattle.typing_rules.specs.Rules.{Typings, under_work, GivenBy, generalised, Grouped, Together}
use Rattle.typing_rules.specs.TermTypes.{TermHas, AllHave, EachHas, GuardsHave, BranchesHave, FieldsOver, NewestAre, EachFunctionHas, GroupHas}
use Rattle.typing_sound.specs.SafeEndings.{Fills, FillsAt}
use Rattle.typing_sound.proofs.Combine.{Sub, same, same_world, well_more, called_more, branch_more, abstracted_more, chosen_more, cased_more, defined_more, given_more, grouped_more, of_parts_more, and_part_more, listed_more, ranged_more, SubOver, field_over_more, of_fields_more, extended_more, newest_is_more, updated_more, removed_more, field_of_more}

-- names of patterns

abbrev pub firsts : Bound → List ℕ
firsts [] = []
firsts (b ∷ bs) = b.0 ∷ firsts bs

firsts_append : (bs cs : Bound) → firsts (bs ++ cs) ≡ firsts bs ++ firsts cs
firsts_append [] cs = refl
firsts_append (b ∷ bs) cs = ap (λ z. b.0 ∷ z) (firsts_append bs cs)

labels_names : (ls : List (List ℕ × ℕ)) (row : Row) (bs : Bound) → LabelsFit ls row bs → firsts bs ≡ map (λ l. l.1) ls
labels_names [] row bs h = ap firsts h
labels_names (l ∷ ls) row bs h = ap firsts h.4 ∙ ap (λ z. l.1 ∷ z) (labels_names ls row h.1 h.3)

mutual
  pub fits_names : (us : List Union) (p : Pattern) (t : Ground) (bs : Bound) → Fits us (core_pattern p) t bs → firsts bs ≡ names_of p
  fits_names us Pattern.Anything t bs h = ap firsts h
  fits_names us (Pattern.Local x) t bs h = ap firsts h
  fits_names us (Pattern.Literal l) t bs h = ap firsts h.1
  fits_names us (Pattern.Made c ps) t bs h = all_fit_names us ps h.2 bs h.5
  fits_names us Pattern.Nil t bs h = ap firsts h.2
  fits_names us (Pattern.Cons p q) t bs h =
      ap firsts h.6 ∙ firsts_append h.1 h.2 ∙ ap₂ (λ x y. x ++ y) (fits_names us p h.0 h.1 h.4) (fits_names us q _ h.2 h.5)
  fits_names us (Pattern.Tuple ps) t bs h = all_fit_names us ps h.0 bs h.2
  fits_names us (Pattern.Fields ls) t bs h = labels_names ls h.0 bs h.2
  fits_names us (Pattern.Named p n) t bs h = ap firsts h.2 ∙ firsts_append h.0 _ ∙ ap (λ x. x ++ n ∷ []) (fits_names us p t h.0 h.1)

  pub all_fit_names : (us : List Union) (ps : Patterns) (ts : Grounds) (bs : Bound) → AllFit us (core_patterns ps) ts bs → firsts bs ≡ all_names ps
  all_fit_names us NoPatterns NoGrounds bs h = ap firsts h
  all_fit_names us NoPatterns (AndGround t ts) bs h = absurd h
  all_fit_names us (AndPattern p ps) NoGrounds bs h = absurd h
  all_fit_names us (AndPattern p ps) (AndGround t ts) bs h =
      ap firsts h.4 ∙ firsts_append h.0 h.1 ∙ ap₂ (λ x y. x ++ y) (fits_names us p t h.0 h.2) (all_fit_names us ps ts h.1 h.3)

pub local_names : (p : Pattern) (x : ℕ) → core_pattern p ≡ CorePattern.Local x → names_of p ≡ x ∷ []
local_names (Pattern.Local y) x e = (let d : y ≡ x = cc in ap (λ z. z ∷ []) d)
local_names Pattern.Anything x e = absurd cc
local_names (Pattern.Literal l) x e = absurd cc
local_names (Pattern.Made c ps) x e = absurd cc
local_names Pattern.Nil x e = absurd cc
local_names (Pattern.Cons p q) x e = absurd cc
local_names (Pattern.Tuple ps) x e = absurd cc
local_names (Pattern.Fields ls) x e = absurd cc
local_names (Pattern.Named p n) x e = absurd cc

-- names of groups

pub hidden_names : (g : Group) (σ : Names) → hide_group g σ ≡ hide_all (function_names g) σ
hidden_names NoFunctions σ = refl
hidden_names (AndFunction name p b g) σ = hidden_names g (hide name σ)

pub filled_names : (g : Group) (σ : Names) → function_names (fill_group g σ) ≡ function_names g
filled_names NoFunctions σ = refl
filled_names (AndFunction name p b g) σ = ap (λ z. name ∷ z) (filled_names g σ)

-- as many
abbrev pub Paired : List ℕ → List Ground → Type 0
Paired [] [] = Unit {0}
Paired (x ∷ xs) (t ∷ ts) = Paired xs ts
Paired _ _ = ⊥

pub paired : (w : World) (s : Surroundings) (g : Group) (ts : List Ground) → EachFunctionHas w s g ts → Paired (function_names g) ts
paired w s NoFunctions [] h = tt
paired w s NoFunctions (t ∷ ts) h = absurd h
paired w s (AndFunction name p b g) [] h = absurd h
paired w s (AndFunction name p b g) (t ∷ ts) h = paired w s g ts h.1

module _ (w : World) where
  fills_one : (b : Bool) (P Q S R : Type 0) (o : Option Value) (t : Ground) → (P → Q) → (S → FillsAt w o R t) → Either b P S → FillsAt w (if b then None else o) (Either b Q R) t
  fills_one true P Q S R o t f g h = f h
  fills_one false P Q S R o t f g h = g h

  pub fills_name : (x : ℕ) (P Q : Types) (s r : Surroundings) (σ : Names) → Sub P Q → Fills w s σ r → Fills w (with_name x P s) (hide x σ) (with_name x Q r)
  fills_name x P Q s r σ f h = record { at = λ y t. fills_one (x == y) (P t) (Q t) (s y t) (r y t) (σ y) t (f t) (h.at y t) }

  fills_bound : (bs : Bound) (s r : Surroundings) (σ : Names) → Fills w s σ r → Fills w (with_bound bs s) (hide_all (firsts bs) σ) (with_bound bs r)
  fills_bound [] s r σ h = h
  fills_bound (b ∷ bs) s r σ h = fills_bound bs _ _ (hide b.0 σ) (fills_name b.0 (exactly b.1) (exactly b.1) s r σ (same (exactly b.1)) h)

  pub fills_pattern : (p : Pattern) (t : Ground) (bs : Bound) (s r : Surroundings) (σ : Names) → Fits w.unions (core_pattern p) t bs → Fills w s σ r → Fills w (with_bound bs s) (hide_all (names_of p) σ) (with_bound bs r)
  fills_pattern p t bs s r σ k h = subst (λ ns. Fills w (with_bound bs s) (hide_all ns σ) (with_bound bs r)) (fits_names w.unions p t bs k) (fills_bound bs s r σ h)

  fills_local : (p : Pattern) (x : ℕ) (P Q : Types) (s r : Surroundings) (σ : Names) → core_pattern p ≡ CorePattern.Local x → Sub P Q → Fills w s σ r → Fills w (with_name x P s) (hide_all (names_of p) σ) (with_name x Q r)
  fills_local p x P Q s r σ e f h = subst (λ ns. Fills w (with_name x P s) (hide_all ns σ) (with_name x Q r)) (sym (local_names p x e)) (fills_name x P Q s r σ f h)

  fills_names_work : (xs : List ℕ) (ts : List Ground) (s r : Surroundings) (σ : Names) → Paired xs ts → Fills w s σ r → Fills w (under_work xs ts s) (hide_all xs σ) (under_work xs ts r)
  fills_names_work [] [] s r σ k h = h
  fills_names_work [] (t ∷ ts) s r σ k h = absurd k
  fills_names_work (x ∷ xs) [] s r σ k h = absurd k
  fills_names_work (x ∷ xs) (t ∷ ts) s r σ k h = fills_names_work xs ts _ _ (hide x σ) k (fills_name x (exactly t) (exactly t) s r σ (same (exactly t)) h)

  fills_names_given : (xs : List ℕ) (i : ℕ) (G H : Typings) (s r : Surroundings) (σ : Names) → ((ts : List Ground) → G ts → H ts) → Fills w s σ r → Fills w (generalised xs i G s) (hide_all xs σ) (generalised xs i H r)
  fills_names_given [] i G H s r σ f h = h
  fills_names_given (x ∷ xs) i G H s r σ f h =
      fills_names_given xs (suc i) G H _ _ (hide x σ) f (fills_name x (GivenBy G i) (GivenBy H i) s r σ (given_more i G H f) h)

  pub fills_work : (g : Group) (ts : List Ground) (s r : Surroundings) (σ : Names) → Paired (function_names g) ts → Fills w s σ r → Fills w (under_work (function_names g) ts s) (hide_group g σ) (under_work (function_names g) ts r)
  fills_work g ts s r σ k h = subst (λ τ. Fills w (under_work (function_names g) ts s) τ (under_work (function_names g) ts r)) (sym (hidden_names g σ)) (fills_names_work (function_names g) ts s r σ k h)

  fills_given : (g : Group) (G H : Typings) (s r : Surroundings) (σ : Names) → ((ts : List Ground) → G ts → H ts) → Fills w s σ r → Fills w (generalised (function_names g) 0 G s) (hide_group g σ) (generalised (function_names g) 0 H r)
  fills_given g G H s r σ f h = subst (λ τ. Fills w (generalised (function_names g) 0 G s) τ (generalised (function_names g) 0 H r)) (sym (hidden_names g σ)) (fills_names_given (function_names g) 0 G H s r σ f h)

  local_filled : (y : ℕ) (o : Option Value) (s r : Surroundings) → ((t : Ground) → s y t → FillsAt w o (r y t) t) → Sub (TermHas w s (Local y)) (TermHas w r (replaced y o))
  local_filled y None s r f t h = (h.0, f t h.1)
  local_filled y (Some v) s r f t h = (h.0, f t h.1)

  -- a filled group has the same names
  group_named : (g : Group) (d : Tree) (r : Surroundings) (τ : Names) (t : Ground) → (IsProper w t × Grouped w (function_names g) (Together (function_names g) (λ y. EachFunctionHas w y (fill_group g τ))) (λ z. TermHas w z (fill d τ)) r t) → TermHas w r (LetFunctions (fill_group g τ) (fill d τ)) t
  group_named g d r τ t h = (h.0, subst (λ xs. Grouped w xs (Together xs (λ y. EachFunctionHas w y (fill_group g τ))) (λ z. TermHas w z (fill d τ)) r t) (sym (filled_names g τ)) h.1)

  mutual
    pub term_filled : (e : Tree) (s r : Surroundings) (σ : Names) → Fills w s σ r → Sub (TermHas w s e) (TermHas w r (fill e σ))
    term_filled (Done v) s r σ k = λ t h. h
    term_filled (Local y) s r σ k = local_filled y (σ y) s r (k.at y)
    term_filled (Top n) s r σ k = λ t h. h
    term_filled (Input n) s r σ k = λ t h. h
    term_filled (Lambda p b) s r σ k =
        well_more w w _ _ (same_world w) (abstracted_more w w (core_pattern p) (λ z. TermHas w z b) (λ z. TermHas w z (fill b (hide_all (names_of p) σ))) s r (same_world w)
        (λ from bs d. term_filled b _ _ _ (fills_pattern p from bs s r σ d k)))
    term_filled (Call f a) s r σ k = well_more w w _ _ (same_world w) (called_more _ _ _ _ (term_filled f s r σ k) (term_filled a s r σ k))
    term_filled (If c y n) s r σ k =
        well_more w w _ _ (same_world w) (chosen_more _ _ _ _ _ _ (term_filled c s r σ k) (term_filled y s r σ k) (term_filled n s r σ k))
    term_filled (Guards gs) s r σ k = well_more w w _ _ (same_world w) (guards_filled gs s r σ k)
    term_filled (Case e bs) s r σ k =
        well_more w w _ _ (same_world w) (cased_more w w _ _ _ _ (same_world w) (term_filled e s r σ k) (branches_filled bs s r σ k))
    term_filled (LetValue p e d) s r σ k =
        well_more w w _ _ (same_world w) (defined_more w w (core_pattern p) (λ z. TermHas w z e) (λ z. TermHas w z (fill e σ)) (λ z. TermHas w z d) (λ z. TermHas w z (fill d (hide_all (names_of p) σ))) s r (same_world w)
        (term_filled e s r σ k)
        (λ x q. term_filled d _ _ _ (fills_local p x _ _ s r σ q (term_filled e s r σ k) k))
        (λ from bs q. term_filled d _ _ _ (fills_pattern p from bs s r σ q k)))
    term_filled (LetFunctions g d) s r σ k = λ t h. group_named g d r (hide_group g σ) t
        (well_more w w _ _ (same_world w) (grouped_more w w (function_names g) (λ z. GroupHas w z g) (λ z. Together (function_names g) (λ y. EachFunctionHas w y (fill_group g (hide_group g σ))) z) (λ z. TermHas w z d) (λ z. TermHas w z (fill d (hide_group g σ))) s r (same_world w)
        (λ ts q. functions_filled g _ _ _ (fills_work g ts s r σ (paired w _ g ts q) k) ts q)
        (term_filled d _ _ _ (fills_given g _ _ s r σ (λ ts q. functions_filled g _ _ _ (fills_work g ts s r σ (paired w _ g ts q) k) ts q) k))) t h)
    term_filled (TupleTree es) s r σ k = well_more w w _ _ (same_world w) (of_parts_more _ _ (all_filled es s r σ k))
    term_filled (ListTree es) s r σ k = well_more w w _ _ (same_world w) (listed_more _ _ (each_element_filled es s r σ k))
    term_filled (Range l h) s r σ k = well_more w w _ _ (same_world w) (ranged_more _ _ _ _ (term_filled l s r σ k) (term_filled h s r σ k))
    term_filled (RecordTree fs) s r σ k = well_more w w _ _ (same_world w) (of_fields_more _ _ (over_filled fs s r σ k))
    term_filled (Update e fs) s r σ k = well_more w w _ _ (same_world w) (updated_more _ _ _ _ (term_filled e s r σ k) (newest_filled fs s r σ k))
    term_filled (Extend e fs) s r σ k = well_more w w _ _ (same_world w) (extended_more _ _ _ _ (term_filled e s r σ k) (over_filled fs s r σ k))
    term_filled (Remove e l) s r σ k = well_more w w _ _ (same_world w) (removed_more _ _ l (term_filled e s r σ k))
    term_filled (Field e l) s r σ k = well_more w w _ _ (same_world w) (field_of_more _ _ l (term_filled e s r σ k))
    term_filled NoTree s r σ k = λ t h. absurd h.1

    all_filled : (es : Trees) (s r : Surroundings) (σ : Names) → Fills w s σ r → (ts : Grounds) → AllHave w s es ts → AllHave w r (fill_all es σ) ts
    all_filled NoTrees s r σ k ts h = h
    all_filled (AndTree e es) s r σ k ts h = and_part_more _ _ _ _ (term_filled e s r σ k) (all_filled es s r σ k) ts h

    each_element_filled : (es : Trees) (s r : Surroundings) (σ : Names) → Fills w s σ r → Sub (EachHas w s es) (EachHas w r (fill_all es σ))
    each_element_filled NoTrees s r σ k t h = h
    each_element_filled (AndTree e es) s r σ k t h = (term_filled e s r σ k t h.0, each_element_filled es s r σ k t h.1)

    guards_filled : (gs : GuardedTrees) (s r : Surroundings) (σ : Names) → Fills w s σ r → Sub (GuardsHave w s gs) (GuardsHave w r (fill_guards gs σ))
    guards_filled NoGuards s r σ k t h = h
    guards_filled (AndGuard c e gs) s r σ k t h = chosen_more _ _ _ _ _ _ (term_filled c s r σ k) (term_filled e s r σ k) (guards_filled gs s r σ k) t h

    branches_filled : (bs : Branches) (s r : Surroundings) (σ : Names) → Fills w s σ r → (from : Ground) → Sub (BranchesHave w s bs from) (BranchesHave w r (fill_branches bs σ) from)
    branches_filled NoBranches s r σ k from t h = h
    branches_filled (AndBranch p e bs) s r σ k from t h = (
      branch_more w w (core_pattern p) (λ z. TermHas w z e) (λ z. TermHas w z (fill e (hide_all (names_of p) σ))) s r from (same_world w) (λ d q. term_filled e _ _ _ (fills_pattern p from d s r σ q k)) t h.0,
      branches_filled bs s r σ k from t h.1,
    )

    over_filled : (fs : FieldTrees) (s r : Surroundings) (σ : Names) → Fills w s σ r → SubOver (FieldsOver w s fs) (FieldsOver w r (fill_fields fs σ))
    over_filled NoFieldTrees s r σ k before row h = h
    over_filled (AndFieldTree l e fs) s r σ k before row h = field_over_more l _ _ _ _ (term_filled e s r σ k) (over_filled fs s r σ k) before row h

    newest_filled : (fs : FieldTrees) (s r : Surroundings) (σ : Names) → Fills w s σ r → (row : Row) → NewestAre w s fs row → NewestAre w r (fill_fields fs σ) row
    newest_filled NoFieldTrees s r σ k row h = h
    newest_filled (AndFieldTree l e fs) s r σ k row h = (newest_is_more l _ _ (term_filled e s r σ k) row h.0, newest_filled fs s r σ k row h.1)

    pub functions_filled : (g : Group) (s r : Surroundings) (σ : Names) → Fills w s σ r → (ts : List Ground) → EachFunctionHas w s g ts → EachFunctionHas w r (fill_group g σ) ts
    functions_filled NoFunctions s r σ k [] h = h
    functions_filled NoFunctions s r σ k (t ∷ ts) h = h
    functions_filled (AndFunction name p e g) s r σ k [] h = h
    functions_filled (AndFunction name p e g) s r σ k (t ∷ ts) h = (
      well_more w w _ _ (same_world w) (abstracted_more w w (core_pattern p) (λ z. TermHas w z e) (λ z. TermHas w z (fill e (hide_all (names_of p) σ))) s r (same_world w) (λ from bs q. term_filled e _ _ _ (fills_pattern p from bs s r σ q k))) t h.0,
      functions_filled g s r σ k ts h.1,
    )
