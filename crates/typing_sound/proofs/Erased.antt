-- What has a type in its plain form has it when what evaluation forgets is erased.
use Rattle.std.proofs.Common.{◌≡◌, ℕ, zero, suc, ◌<◌, ◌==◌, Bool, true, false, Option, Some, None, List, [], ◌∷◌, length, refl, sym, ap, ◌∙◌, subst, arith}
use Rattle.std.specs.Prelude.{codes, slice_get, if◌then◌else◌}
use Rattle.std.specs.Str.{bytes_eq}
use Rattle.std.proofs.lemmas.Bool.{eqb-true}
use Rattle.elm_base.specs.declared.term.Literal.{Literal as TermLiteral}
use Rattle.elm_base.specs.declared.term.Literal.TheVariants as literal
use Rattle.elm_typing.specs.Ground.{Ground, Grounds, Row, NoGrounds, AndGround}
use Rattle.elm_meaning.specs.declared.callee.Callee.TheVariants as callee
use Rattle.elm_meaning.specs.Values.{NoValues, Made, Applicable, Partial, Done}
use Rattle.elm_meaning.specs.FreeNames.{function_names}
use Rattle.elm_meaning.specs.NativeTable.{Native, IsValue, Replies, MakesNode, native_at, takes_of, natives}
use Rattle.elm_meaning.specs.Terms.{literal_value, native_tree, constructor_value}
use Rattle.typing_rules.specs.WrittenTypes.{Written}
use Rattle.typing_rules.specs.Unions.{Union, Makes, UnionGives, GivesWhere, ConstructorGives}
use Rattle.typing_rules.specs.Library.{signatures}
use Rattle.typing_rules.specs.CorePatterns.{CorePattern, CorePatterns, NoCorePatterns, AndCorePattern, erased_pattern, erased_patterns, core_pattern, core_patterns, literal_type, Fits, AllFit}
use Rattle.typing_rules.specs.Worlds.{Surroundings, with_name, with_bound, Bound, World, IsProper}
use Rattle.typing_rules.specs.Rules.{Inside, Well, Branch, Abstracted, Defined, TakenApart, Grouped, Together, NativeGives}
use Rattle.typing_rules.specs.TermTypes.{ValueHas, TermHas, AllHave, EachHas, GuardsHave, BranchesHave, FieldsOver, NewestAre, EachFunctionHas}
use Rattle.typing_rules.specs.Core.{Core, Cores, CoreFields, CoreGuards, CoreBranches, CoreGroup, Local, Top, Input, Literal, Native as NativeOf, Constructor, Held, Lambda, Call, If, Guards, Case, LetValue, LetFunctions, Tuple, ListOf, Range, Fields, Update, Extend, Remove, Field, NoCores, AndCore, NoCoreFields, AndCoreField, NoCoreGuards, AndCoreGuard, NoCoreBranches, AndCoreBranch, NoCoreFunctions, AndCoreFunction, erased, erased_all, erased_fields, erased_guards, erased_branches, erased_group}
use Rattle.typing_rules.specs.CoreTypes.{names_in, CoreHas, AllCoresHave, EachIs, CoreGuardsHave, CoreBranchesHave, CoreFieldsOver, CoreNewestAre, EachCoreHas}
use Rattle.typing_sound.specs.Safe.{HasLibrary}
use Rattle.typing_sound.proofs.Combine.{Sub, Within, name_more, bound_more, work_more, generalised_more, same_world, well_more, called_more, chosen_more, cased_more, of_parts_more, and_part_more, listed_more, ranged_more, SubOver, field_over_more, of_fields_more, extended_more, newest_is_more, updated_more, removed_more, field_of_more}
use Rattle.typing_sound.proofs.Natives.{safe_native}

-- patterns

makes_any : (us : List Union) (u : Option (List ℕ)) (c n : List ℕ) (ts ps : Grounds) → Makes us u c n ts ps → Makes us None c n ts ps
makes_any us u c n ts ps m = record { belongs = tt; allowed = m.allowed; respected = m.respected; given = m.given }

mutual
  pub fits_erased : (us : List Union) (p : CorePattern) (t : Ground) (b : Bound) → Fits us p t b → Fits us (core_pattern (erased_pattern p)) t b
  fits_erased us CorePattern.Anything t b h = h
  fits_erased us (CorePattern.Local x) t b h = h
  fits_erased us (CorePattern.Literal l) t b h = h
  fits_erased us (CorePattern.Made u c ps) t b h = (h.0, h.1, h.2, h.3, makes_any us u c h.0 h.1 h.2 h.4, all_fit_erased us ps h.2 b h.5)
  fits_erased us CorePattern.Nil t b h = h
  fits_erased us (CorePattern.Cons p q) t b h = (h.0, h.1, h.2, h.3, fits_erased us p h.0 h.1 h.4, fits_erased us q _ h.2 h.5, h.6)
  fits_erased us (CorePattern.Tuple ps) t b h = (h.0, h.1, all_fit_erased us ps h.0 b h.2)
  fits_erased us (CorePattern.Fields ls) t b h = h
  fits_erased us (CorePattern.Named p n) t b h = (h.0, fits_erased us p t h.0 h.1, h.2)

  pub all_fit_erased : (us : List Union) (ps : CorePatterns) (ts : Grounds) (b : Bound) → AllFit us ps ts b → AllFit us (core_patterns (erased_patterns ps)) ts b
  all_fit_erased us NoCorePatterns NoGrounds b h = h
  all_fit_erased us NoCorePatterns (AndGround t ts) b h = h
  all_fit_erased us (AndCorePattern p ps) NoGrounds b h = h
  all_fit_erased us (AndCorePattern p ps) (AndGround t ts) b h = (h.0, h.1, fits_erased us p t h.0 h.2, all_fit_erased us ps ts h.1 h.3, h.4)

pub erased_names : (g : CoreGroup) → function_names (erased_group g) ≡ names_in g
erased_names NoCoreFunctions = refl
erased_names (AndCoreFunction name a p b g) = ap (λ z. name ∷ z) (erased_names g)

-- natives

-- each native that isn't a value takes an argument
abbrev TakesSome : Native → Type 0
TakesSome (IsValue v) = Unit {0}
TakesSome (Replies p r) = 0 < p
TakesSome (MakesNode p e) = 0 < p

abbrev AllTakeSome : List Native → Type 0
AllTakeSome [] = Unit {0}
AllTakeSome (n ∷ ns) = TakesSome n × AllTakeSome ns

positive : (n : ℕ) → 0 < suc n
positive n = omega arith

all_take_some : AllTakeSome natives
all_take_some = (positive 1, (positive 1, (positive 1, (positive 1, (positive 1, (positive 1, (positive 0, (positive 1, (positive 1, (positive 1, (positive 1, (positive 1, (positive 1, (positive 1, (positive 1, (positive 0, (positive 0, (positive 0, (positive 0, (positive 0, (positive 0, (positive 0, (positive 0, (positive 1, (positive 1, (positive 0, (positive 0, (positive 1, (positive 2, (positive 3, (positive 4, (positive 5, (positive 2, (positive 1, (positive 2, (positive 2, (positive 0, (positive 1, (positive 0, (positive 0, (tt, (positive 1, (positive 1, (tt, (tt, (tt, (tt, (tt, (tt, (tt, (positive 3, (positive 0, (positive 0, tt)))))))))))))))))))))))))))))))))))))))))))))))))))))

takes_some : (ns : List Native) (i : ℕ) (n : Native) → AllTakeSome ns → slice_get ns i ≡ Some n → TakesSome n
takes_some [] i n h e = absurd cc
takes_some (m ∷ ns) zero n h e = (let d : m ≡ n = cc in subst TakesSome d h.0)
takes_some (m ∷ ns) (suc i) n h e = takes_some ns i n h.1 e

-- as many types as natives
nothing_there : (ns : List Native) (ws : List Written) (i : ℕ) (x : Written) → length ns ≡ length ws → slice_get ns i ≡ None → slice_get ws i ≡ Some x → ⊥
nothing_there [] [] i x l e f = absurd cc
nothing_there [] (w ∷ ws) i x l e f = absurd cc
nothing_there (n ∷ ns) [] i x l e f = absurd cc
nothing_there (n ∷ ns) (w ∷ ws) zero x l e f = absurd cc
nothing_there (n ∷ ns) (w ∷ ws) (suc i) x l e f = (let d : length ns ≡ length ws = cc in nothing_there ns ws i x d e f)

module _ (w : World) (l : HasLibrary w) where
  -- constants

  literal_has : (v : TermLiteral) (t : Ground) → t ≡ literal_type v → ValueHas w (literal_value v) t
  literal_has (literal.Int n) t e = e
  literal_has (literal.Char n) t e = e
  literal_has (literal.Text bs) t e = e
  literal_has literal.Unit t e = e

  native_has : (o : Option Native) (n : ℕ) (s : Surroundings) → native_at n ≡ o → Sub (Well w (NativeGives n)) (TermHas w s (native_tree n o))
  native_has None n s e t h = absurd (nothing_there natives signatures n h.1.0 refl e h.1.1)
  native_has (Some (IsValue v)) n s e t h =
      let g = h.1.2 in
      (h.0, subst (ValueHas w v) (sym g.2) (safe_native w l n (IsValue v) h.1.0 e h.1.1 g.0 g.1))
  native_has (Some (Replies p r)) n s e t h =
      (h.0, (t, (h.1, h.0), refl, subst (λ z. 0 < takes_of z) (sym e) (takes_some natives n (Replies p r) all_take_some e)))
  native_has (Some (MakesNode p q)) n s e t h =
      (h.0, (t, (h.1, h.0), refl, subst (λ z. 0 < takes_of z) (sym e) (takes_some natives n (MakesNode p q) all_take_some e)))

  -- constructors

  any_union : (b : Bool) (u : List ℕ) (name : List ℕ) (n : ℕ) (t : Ground) → GivesWhere b w.unions (Some u) name n t → GivesWhere b w.unions None name n t
  any_union true u name n t g = g
  any_union false u name n t g = (g.0, g.1, g.2, makes_any w.unions (Some u) name g.0 g.1 g.2 g.3, g.4, g.5)

  not_zero : (n : ℕ) → (n == 0) ≡ false → 0 < n
  not_zero zero e = absurd cc
  not_zero (suc n) e = positive n

  lacking_has : (name : List ℕ) (n : ℕ) (s : Surroundings) (t : Ground) → IsProper w t → ConstructorGives w.unions None name n t → 0 < n → TermHas w s (Done (Applicable (Partial (callee.Constructor name n) NoValues))) t
  lacking_has name n s t p g k = (p, (t, (g, p), refl, k))

  made_has : (b : Bool) (name : List ℕ) (n : ℕ) (t : Ground) → IsProper w t → GivesWhere b w.unions None name n t → n ≡ 0 → ValueHas w (Made name NoValues) t
  made_has true name n t p g e = absurd (let d : 2 ≡ 0 = sym g.0 ∙ e in cc)
  made_has false name n t p g e = (t, subst (λ z. UnionGives w.unions None name z t) e g, p, refl)

  constructor_has : (u name : List ℕ) (n : ℕ) (s : Surroundings) → Sub (Well w (ConstructorGives w.unions (Some u) name n)) (TermHas w s (Done (constructor_value name n)))
  constructor_has u name n s t h = by_number (n == 0) refl
    where
      g : ConstructorGives w.unions None name n t
      g = any_union (bytes_eq name (codes "::")) u name n t h.1

      by_number : (b : Bool) → (n == 0) ≡ b → TermHas w s (Done (if b then Made name NoValues else Applicable (Partial (callee.Constructor name n) NoValues))) t
      by_number true e = (h.0, made_has (bytes_eq name (codes "::")) name n t h.0 g (eqb-true n 0 e))
      by_number false e = lacking_has name n s t h.0 g (not_zero n e)

  -- rules, with an erased pattern

  branch_erased : (p : CorePattern) (B C : Inside) (s r : Surroundings) (from : Ground) → ((b : Bound) → Sub (B (with_bound b s)) (C (with_bound b r))) → Sub (Branch w p B s from) (Branch w (core_pattern (erased_pattern p)) C r from)
  branch_erased p B C s r from f t h = (h.0, fits_erased w.unions p from h.0 h.1, f h.0 t h.2)

  abstracted_erased : (p : CorePattern) (B C : Inside) (s r : Surroundings) → ((b : Bound) → Sub (B (with_bound b s)) (C (with_bound b r))) → Sub (Abstracted w p B s) (Abstracted w (core_pattern (erased_pattern p)) C r)
  abstracted_erased p B C s r f t h = (h.0, h.1, h.2, branch_erased p B C s r h.0 f h.1 h.3)

  apart_erased : (p : CorePattern) (E F B C : Inside) (s r : Surroundings) → Sub (E s) (F r) → ((b : Bound) → Sub (B (with_bound b s)) (C (with_bound b r))) → Sub (TakenApart w p E B s) (TakenApart w (core_pattern (erased_pattern p)) F C r)
  apart_erased p E F B C s r f g t h = (h.0, f _ h.1, h.2, branch_erased p B C s r h.0 g t h.3)

  defined_erased : (p : CorePattern) (E F B C : Inside) (s r : Surroundings) → Sub (E s) (F r) → ((x : ℕ) → Sub (B (with_name x (E s) s)) (C (with_name x (F r) r))) → ((b : Bound) → Sub (B (with_bound b s)) (C (with_bound b r))) → Sub (Defined w p E B s) (Defined w (core_pattern (erased_pattern p)) F C r)
  defined_erased (CorePattern.Local x) E F B C s r f g k t h = (h.0, f _ h.1, h.2, g x t h.3)
  defined_erased CorePattern.Anything E F B C s r f g k t h = apart_erased CorePattern.Anything E F B C s r f k t h
  defined_erased (CorePattern.Literal v) E F B C s r f g k t h = apart_erased (CorePattern.Literal v) E F B C s r f k t h
  defined_erased (CorePattern.Made u c ps) E F B C s r f g k t h = apart_erased (CorePattern.Made u c ps) E F B C s r f k t h
  defined_erased CorePattern.Nil E F B C s r f g k t h = apart_erased CorePattern.Nil E F B C s r f k t h
  defined_erased (CorePattern.Cons a b) E F B C s r f g k t h = apart_erased (CorePattern.Cons a b) E F B C s r f k t h
  defined_erased (CorePattern.Tuple ps) E F B C s r f g k t h = apart_erased (CorePattern.Tuple ps) E F B C s r f k t h
  defined_erased (CorePattern.Fields ls) E F B C s r f g k t h = apart_erased (CorePattern.Fields ls) E F B C s r f k t h
  defined_erased (CorePattern.Named a n) E F B C s r f g k t h = apart_erased (CorePattern.Named a n) E F B C s r f k t h

  -- an erased group has the same names
  group_erased : (g : CoreGroup) (d : Core) (r : Surroundings) (t : Ground) → (IsProper w t × Grouped w (names_in g) (Together (names_in g) (λ y. EachFunctionHas w y (erased_group g))) (λ z. TermHas w z (erased d)) r t) → TermHas w r (erased (LetFunctions g d)) t
  group_erased g d r t h = (h.0, subst (λ xs. Grouped w xs (Together xs (λ y. EachFunctionHas w y (erased_group g))) (λ z. TermHas w z (erased d)) r t) (sym (erased_names g)) h.1)

  mutual
    pub core_erased : (e : Core) (s r : Surroundings) → Within s r → Sub (CoreHas w s e) (TermHas w r (erased e))
    core_erased (Local y) s r k = λ t h. (h.0, k.at y t h.1)
    core_erased (Top n) s r k = λ t h. h
    core_erased (Input n) s r k = λ t h. h
    core_erased (Literal v) s r k = λ t h. (h.0, literal_has v t h.1)
    core_erased (NativeOf n) s r k = native_has (native_at n) n r refl
    core_erased (Constructor u name n) s r k = constructor_has u name n r
    core_erased (Held written e) s r k = λ t h. core_erased e s r k t h.1.0
    core_erased (Lambda p b) s r k =
        well_more w w _ _ (same_world w) (abstracted_erased p (λ z. CoreHas w z b) (λ z. TermHas w z (erased b)) s r (λ bs. core_erased b _ _ (bound_more bs s r k)))
    core_erased (Call f a) s r k = well_more w w _ _ (same_world w) (called_more _ _ _ _ (core_erased f s r k) (core_erased a s r k))
    core_erased (If c y n) s r k = well_more w w _ _ (same_world w) (chosen_more _ _ _ _ _ _ (core_erased c s r k) (core_erased y s r k) (core_erased n s r k))
    core_erased (Guards gs) s r k = well_more w w _ _ (same_world w) (guards_erased gs s r k)
    core_erased (Case e bs) s r k = well_more w w _ _ (same_world w) (cased_more w w _ _ _ _ (same_world w) (core_erased e s r k) (branches_erased bs s r k))
    core_erased (LetValue p e d) s r k =
        well_more w w _ _ (same_world w) (defined_erased p (λ z. CoreHas w z e) (λ z. TermHas w z (erased e)) (λ z. CoreHas w z d) (λ z. TermHas w z (erased d)) s r
        (core_erased e s r k) (λ x. core_erased d _ _ (name_more x _ _ s r (core_erased e s r k) k)) (λ bs. core_erased d _ _ (bound_more bs s r k)))
    core_erased (LetFunctions g d) s r k = λ t h. group_erased g d r t (
      h.0,
      (
        h.1.0,
        functions_erased g _ _ (work_more (names_in g) h.1.0 s r k) h.1.0 h.1.1,
        h.1.2,
        core_erased d _ _ (generalised_more (names_in g) 0 _ _ s r (λ ts. functions_erased g _ _ (work_more (names_in g) ts s r k) ts) k) t h.1.3,
      ),
    )
    core_erased (Tuple es) s r k = well_more w w _ _ (same_world w) (of_parts_more _ _ (all_erased es s r k))
    core_erased (ListOf es) s r k = well_more w w _ _ (same_world w) (listed_more _ _ (each_erased es s r k))
    core_erased (Range a b) s r k = well_more w w _ _ (same_world w) (ranged_more _ _ _ _ (core_erased a s r k) (core_erased b s r k))
    core_erased (Fields fs) s r k = well_more w w _ _ (same_world w) (of_fields_more _ _ (over_erased fs s r k))
    core_erased (Update e fs) s r k = well_more w w _ _ (same_world w) (updated_more _ _ _ _ (core_erased e s r k) (newest_erased fs s r k))
    core_erased (Extend e fs) s r k = well_more w w _ _ (same_world w) (extended_more _ _ _ _ (core_erased e s r k) (over_erased fs s r k))
    core_erased (Remove e label) s r k = well_more w w _ _ (same_world w) (removed_more _ _ label (core_erased e s r k))
    core_erased (Field e label) s r k = well_more w w _ _ (same_world w) (field_of_more _ _ label (core_erased e s r k))

    all_erased : (es : Cores) (s r : Surroundings) → Within s r → (ts : Grounds) → AllCoresHave w s es ts → AllHave w r (erased_all es) ts
    all_erased NoCores s r k ts h = h
    all_erased (AndCore e es) s r k ts h = and_part_more _ _ _ _ (core_erased e s r k) (all_erased es s r k) ts h

    each_erased : (es : Cores) (s r : Surroundings) → Within s r → Sub (EachIs w s es) (EachHas w r (erased_all es))
    each_erased NoCores s r k t h = h
    each_erased (AndCore e es) s r k t h = (core_erased e s r k t h.0, each_erased es s r k t h.1)

    guards_erased : (gs : CoreGuards) (s r : Surroundings) → Within s r → Sub (CoreGuardsHave w s gs) (GuardsHave w r (erased_guards gs))
    guards_erased NoCoreGuards s r k t h = h
    guards_erased (AndCoreGuard c e gs) s r k t h = chosen_more _ _ _ _ _ _ (core_erased c s r k) (core_erased e s r k) (guards_erased gs s r k) t h

    branches_erased : (bs : CoreBranches) (s r : Surroundings) → Within s r → (from : Ground) → Sub (CoreBranchesHave w s bs from) (BranchesHave w r (erased_branches bs) from)
    branches_erased NoCoreBranches s r k from t h = h
    branches_erased (AndCoreBranch p e bs) s r k from t h = (
      branch_erased p (λ z. CoreHas w z e) (λ z. TermHas w z (erased e)) s r from (λ d. core_erased e _ _ (bound_more d s r k)) t h.0,
      branches_erased bs s r k from t h.1,
    )

    over_erased : (fs : CoreFields) (s r : Surroundings) → Within s r → SubOver (CoreFieldsOver w s fs) (FieldsOver w r (erased_fields fs))
    over_erased NoCoreFields s r k before row h = h
    over_erased (AndCoreField label e fs) s r k before row h = field_over_more label _ _ _ _ (core_erased e s r k) (over_erased fs s r k) before row h

    newest_erased : (fs : CoreFields) (s r : Surroundings) → Within s r → (row : Row) → CoreNewestAre w s fs row → NewestAre w r (erased_fields fs) row
    newest_erased NoCoreFields s r k row h = h
    newest_erased (AndCoreField label e fs) s r k row h = (newest_is_more label _ _ (core_erased e s r k) row h.0, newest_erased fs s r k row h.1)

    functions_erased : (g : CoreGroup) (s r : Surroundings) → Within s r → (ts : List Ground) → EachCoreHas w s g ts → EachFunctionHas w r (erased_group g) ts
    functions_erased NoCoreFunctions s r k [] h = h
    functions_erased NoCoreFunctions s r k (t ∷ ts) h = h
    functions_erased (AndCoreFunction name a p e g) s r k [] h = h
    functions_erased (AndCoreFunction name a p e g) s r k (t ∷ ts) h = (
      well_more w w _ _ (same_world w) (abstracted_erased p (λ z. CoreHas w z e) (λ z. TermHas w z (erased e)) s r (λ bs. core_erased e _ _ (bound_more bs s r k))) t h.0,
      functions_erased g s r k ts h.2,
    )
