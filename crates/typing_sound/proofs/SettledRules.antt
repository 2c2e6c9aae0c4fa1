-- What has a type with some sorts for opaque types has the type in which those of sort signal are replaced, where all opaque
-- types are simple.
use Rattle.std.proofs.Common.{◌≡◌, ℕ, zero, suc, Bool, true, false, Option, Some, None, List, [], ◌∷◌, ◌==◌, ap, ◌∙◌, subst}
use Rattle.std.specs.Prelude.{map}
use Rattle.elm_typing.specs.Ground.{Ground, Grounds, Row, Function, Record, Ends}
use Rattle.elm_typing.specs.Names.{signal_of}
use Rattle.elm_typing.specs.Sorts.{Sort, IsWellSorted}
use Rattle.elm_typing.specs.Spelling.{int, bool, all_simple}
use Rattle.typing_rules.specs.WrittenTypes.{Written}
use Rattle.typing_rules.specs.Unions.{Union}
use Rattle.typing_rules.specs.CorePatterns.{CorePattern}
use Rattle.typing_rules.specs.Worlds.{Types, Surroundings, exactly, Either, with_name, Bound, with_bound, World, IsProper, AllMayStandIn}
use Rattle.typing_rules.specs.Rules.{Inside, Well, Incoming, NativeGives, Held as HeldTo, Called, Branch, Abstracted, Chosen, Cased, TakenApart, Defined, Typings, type_at, under_work, Group, GivenBy, generalised, Grouped, OfParts, AndPart, Listed, Ranged, Over, FieldOver, OfFields, Extended, NewestIs, Updated, Removed, FieldOf}
use Rattle.typing_rules.specs.Core.{Core, Cores, CoreFields, CoreGuards, CoreBranches, CoreGroup, Local, Top, Input, Literal, Native, Constructor, Held, Lambda, Call, If, Guards, Case, LetValue, LetFunctions, Tuple, ListOf, Range, Fields, Update, Extend, Remove, Field, NoCores, AndCore, NoCoreFields, AndCoreField, NoCoreGuards, AndCoreGuard, NoCoreBranches, AndCoreBranch, NoCoreFunctions, AndCoreFunction}
use Rattle.typing_rules.specs.CoreTypes.{names_in, IsAsAnnotated, CoreHas, AllCoresHave, EachIs, CoreGuardsHave, CoreBranchesHave, CoreFieldsOver, CoreNewestAre, CoreGroupHas, EachCoreHas}
use Rattle.typing_sound.proofs.Settled.{settled, all_settled, row_settled, bound_settled, stands_settled, sorted_settled, order_settled, simple_stays, extended_settled, newest_settled, removed_settled, is_instance_settled, constructor_settled, literal_settled, fits_settled}

-- the second set has each type of the first, settled
abbrev pub Into : (ℕ → Sort) → Types → Types → Type 0
Into c P Q = (t : Ground) → P t → Q (settled c t)

pub record Settles (c : ℕ → Sort) (s r : Surroundings) : Type 0 where
  pub at : (y : ℕ) → Into c (s y) (r y)

-- ---- names

either_both : (b : Bool) (A C B D : Type 0) → (A → C) → (B → D) → Either b A B → Either b C D
either_both true A C B D f g h = f h
either_both false A C B D f g h = g h

module _ (c : ℕ → Sort) where
  abbrev each : List Ground → List Ground
  each ts = map (settled c) ts

  name_settles : (x : ℕ) (P Q : Types) (s r : Surroundings) → Into c P Q → Settles c s r → Settles c (with_name x P s) (with_name x Q r)
  name_settles x P Q s r f h =
      record { at = λ y t. either_both (x == y) (P t) (Q (settled c t)) (s y t) (r y (settled c t)) (f t) (h.at y t) }

  one_settles : (u : Ground) → Into c (exactly u) (exactly (settled c u))
  one_settles u t h = ap (settled c) h

  bound_settles : (bs : Bound) (s r : Surroundings) → Settles c s r → Settles c (with_bound bs s) (with_bound (bound_settled c bs) r)
  bound_settles [] s r h = h
  bound_settles (b ∷ bs) s r h =
      bound_settles bs (with_name b.0 (exactly b.1) s) (with_name b.0 (exactly (settled c b.1)) r)
      (name_settles b.0 (exactly b.1) (exactly (settled c b.1)) s r (one_settles b.1) h)

  pub work_settles : (xs : List ℕ) (ts : List Ground) (s r : Surroundings) → Settles c s r → Settles c (under_work xs ts s) (under_work xs (each ts) r)
  work_settles [] ts s r h = h
  work_settles (x ∷ xs) [] s r h = h
  work_settles (x ∷ xs) (t ∷ ts) s r h =
      work_settles xs ts (with_name x (exactly t) s) (with_name x (exactly (settled c t)) r)
      (name_settles x (exactly t) (exactly (settled c t)) s r (one_settles t) h)

  place_settled : (ts : List Ground) (i : ℕ) (t : Ground) → type_at ts i ≡ Some t → type_at (each ts) i ≡ Some (settled c t)
  place_settled [] i t e = absurd cc
  place_settled (u ∷ ts) zero t e = (let d : u ≡ t = cc in ap (λ (z : Ground). Some (settled c z)) d)
  place_settled (u ∷ ts) (suc i) t e = place_settled ts i t e

  given_settled : (i : ℕ) (G H : Typings) → ((ts : List Ground) → G ts → H (each ts)) → Into c (GivenBy G i) (GivenBy H i)
  given_settled i G H f t h = (each h.0, f h.0 h.1, place_settled h.0 i t h.2)

  pub generalised_settles : (xs : List ℕ) (i : ℕ) (G H : Typings) (s r : Surroundings) → ((ts : List Ground) → G ts → H (each ts)) → Settles c s r → Settles c (generalised xs i G s) (generalised xs i H r)
  generalised_settles [] i G H s r f h = h
  generalised_settles (x ∷ xs) i G H s r f h =
      generalised_settles xs (suc i) G H (with_name x (GivenBy G i) s) (with_name x (GivenBy H i) r) f
      (name_settles x (GivenBy G i) (GivenBy H i) s r (given_settled i G H f) h)

  pub annotated_settled : (o : Option Written) → Into c (IsAsAnnotated o) (IsAsAnnotated o)
  annotated_settled None t h = tt
  annotated_settled (Some w) t h = is_instance_settled c w t h

  -- ---- rules, in two worlds that differ in sorts and in the types of top values

  abbrev IntoOver : Over → Over → Type 0
  IntoOver F G = (before row : Row) → F before row → G (row_settled c before) (row_settled c row)

  of_parts : (P Q : Grounds → Type 0) → ((ts : Grounds) → P ts → Q (all_settled c ts)) → Into c (OfParts P) (OfParts Q)
  of_parts P Q f t h = (all_settled c h.0, ap (settled c) h.1, f h.0 h.2)

  and_part : (E F : Types) (P Q : Grounds → Type 0) → Into c E F → ((ts : Grounds) → P ts → Q (all_settled c ts)) → (ts : Grounds) → AndPart E P ts → AndPart F Q (all_settled c ts)
  and_part E F P Q f g ts h = (settled c h.0, all_settled c h.1, ap (all_settled c) h.2, f h.0 h.3, g h.1 h.4)

  listed : (E F : Types) → Into c E F → Into c (Listed E) (Listed F)
  listed E F f t h = (settled c h.0, ap (settled c) h.1, f h.0 h.2)

  ranged : (L M H K : Types) → Into c L M → Into c H K → Into c (Ranged L H) (Ranged M K)
  ranged L M H K f g t h = (f int h.0, g int h.1, ap (settled c) h.2)

  held : (written : Written) (E F : Types) → Into c E F → Into c (HeldTo written E) (HeldTo written F)
  held written E F f t h = (f t h.0, is_instance_settled c written t h.1)

  called : (F G A B : Types) → Into c F G → Into c A B → Into c (Called F A) (Called G B)
  called F G A B f g t h = (settled c h.0, f (Function h.0 t) h.1, g h.0 h.2)

  chosen : (C D Y Z N M : Types) → Into c C D → Into c Y Z → Into c N M → Into c (Chosen C Y N) (Chosen D Z M)
  chosen C D Y Z N M f g k t h = (f bool h.0, g t h.1, k t h.2)

  field_over : (l : List ℕ) (E F : Types) (P Q : Over) → Into c E F → IntoOver P Q → IntoOver (FieldOver l E P) (FieldOver l F Q)
  field_over l E F P Q f g before row h =
      (settled c h.0, row_settled c h.1, f h.0 h.2, g before h.1 h.3, ap (row_settled c) h.4 ∙ extended_settled c l h.0 h.1)

  of_fields : (P Q : Over) → IntoOver P Q → Into c (OfFields P) (OfFields Q)
  of_fields P Q f t h = (row_settled c h.0, ap (settled c) h.1, f (Ends None) h.0 h.2)

  extends : (E F : Types) (P Q : Over) → Into c E F → IntoOver P Q → Into c (Extended E P) (Extended F Q)
  extends E F P Q f g t h = (row_settled c h.0, row_settled c h.1, ap (settled c) h.2, f (Record h.0) h.3, g h.0 h.1 h.4)

  newest_is : (l : List ℕ) (E F : Types) → Into c E F → (row : Row) → NewestIs l E row → NewestIs l F (row_settled c row)
  newest_is l E F f row h = (settled c h.0, newest_settled c l row h.0 h.1, f h.0 h.2)

  updated : (E F : Types) (P Q : Row → Type 0) → Into c E F → ((row : Row) → P row → Q (row_settled c row)) → Into c (Updated E P) (Updated F Q)
  updated E F P Q f g t h = (row_settled c h.0, ap (settled c) h.1, f t h.2, g h.0 h.3)

  takes_away : (E F : Types) (l : List ℕ) → Into c E F → Into c (Removed E l) (Removed F l)
  takes_away E F l f t h =
      (row_settled c h.0, row_settled c h.1, ap (settled c) h.2, f (Record h.0) h.3, removed_settled c l h.0 h.1 h.4)

  field_of : (E F : Types) (l : List ℕ) → Into c E F → Into c (FieldOf E l) (FieldOf F l)
  field_of E F l f t h = (row_settled c h.0, f (Record h.0) h.1, newest_settled c l h.0 t h.2)

  module _ (us : List Union) (is : List Ground) (V W : ℕ → Types) where
    abbrev pub v : World
    v = record { sorts = c; unions = us; inputs = is; tops = V; nodes = λ n type. ⊥ }

    abbrev pub w : World
    w = record { sorts = all_simple; unions = us; inputs = is; tops = W; nodes = λ n type. ⊥ }

    proper_settled : (t : Ground) → IsProper v t → IsProper w (settled c t)
    proper_settled t h = record { sorted = sorted_settled c t h.sorted; ordered = order_settled c t h.ordered }

    all_stand : (ts : List Ground) (u : Ground) → AllMayStandIn v ts u → AllMayStandIn w (each ts) (settled c u)
    all_stand [] u h = tt
    all_stand (t ∷ ts) u h = (stands_settled c t u h.0, all_stand ts u h.1)

    -- the values of an input are simple, so their type stays
    incoming : (n : ℕ) → Into c (Well v (Incoming v n)) (Well w (Incoming w n))
    incoming n t h =
        let g = h.1 in
        let sorted = subst (IsWellSorted c) g.2 h.0.sorted in
        (proper_settled t h.0, (g.0, g.1, ap (settled c) g.2 ∙ ap signal_of (simple_stays c g.0 sorted.0 sorted.1)))

    native : (n : ℕ) → Into c (NativeGives n) (NativeGives n)
    native n t h = (h.0, h.1, is_instance_settled c h.0 t h.2)

    branch : (p : CorePattern) (B C : Inside) (s r : Surroundings) (from : Ground) → ((b : Bound) → Into c (B (with_bound b s)) (C (with_bound (bound_settled c b) r))) → Into c (Branch v p B s from) (Branch w p C r (settled c from))
    branch p B C s r from f t h = (bound_settled c h.0, fits_settled c us p from h.0 h.1, f h.0 t h.2)

    abstracted : (p : CorePattern) (B C : Inside) (s r : Surroundings) → ((b : Bound) → Into c (B (with_bound b s)) (C (with_bound (bound_settled c b) r))) → Into c (Abstracted v p B s) (Abstracted w p C r)
    abstracted p B C s r f t h = (settled c h.0, settled c h.1, ap (settled c) h.2, branch p B C s r h.0 f h.1 h.3)

    cased : (E F : Types) (B C : Ground → Types) → Into c E F → ((from : Ground) → Into c (B from) (C (settled c from))) → Into c (Cased v E B) (Cased w F C)
    cased E F B C f g t h = (settled c h.0, f h.0 h.1, stands_settled c h.0 t h.2, g h.0 t h.3)

    apart : (p : CorePattern) (E F B C : Inside) (s r : Surroundings) → Into c (E s) (F r) → ((b : Bound) → Into c (B (with_bound b s)) (C (with_bound (bound_settled c b) r))) → Into c (TakenApart v p E B s) (TakenApart w p F C r)
    apart p E F B C s r f g t h = (settled c h.0, f h.0 h.1, stands_settled c h.0 t h.2, branch p B C s r h.0 g t h.3)

    defined : (p : CorePattern) (E F B C : Inside) (s r : Surroundings) → Into c (E s) (F r) → ((x : ℕ) → Into c (B (with_name x (E s) s)) (C (with_name x (F r) r))) → ((b : Bound) → Into c (B (with_bound b s)) (C (with_bound (bound_settled c b) r))) → Into c (Defined v p E B s) (Defined w p F C r)
    defined (CorePattern.Local x) E F B C s r f g k t h = (settled c h.0, f h.0 h.1, stands_settled c h.0 t h.2, g x t h.3)
    defined CorePattern.Anything E F B C s r f g k t h = apart CorePattern.Anything E F B C s r f k t h
    defined (CorePattern.Literal l) E F B C s r f g k t h = apart (CorePattern.Literal l) E F B C s r f k t h
    defined (CorePattern.Made u n ps) E F B C s r f g k t h = apart (CorePattern.Made u n ps) E F B C s r f k t h
    defined CorePattern.Nil E F B C s r f g k t h = apart CorePattern.Nil E F B C s r f k t h
    defined (CorePattern.Cons x y) E F B C s r f g k t h = apart (CorePattern.Cons x y) E F B C s r f k t h
    defined (CorePattern.Tuple ps) E F B C s r f g k t h = apart (CorePattern.Tuple ps) E F B C s r f k t h
    defined (CorePattern.Fields ls) E F B C s r f g k t h = apart (CorePattern.Fields ls) E F B C s r f k t h
    defined (CorePattern.Named x n) E F B C s r f g k t h = apart (CorePattern.Named x n) E F B C s r f k t h

    grouped : (xs : List ℕ) (G H : Group) (B C : Inside) (s r : Surroundings) → ((ts : List Ground) → G s ts → H r (each ts)) → Into c (B (generalised xs 0 (G s) s)) (C (generalised xs 0 (H r) r)) → Into c (Grouped v xs G B s) (Grouped w xs H C r)
    grouped xs G H B C s r f g t h = (each h.0, f h.0 h.1, all_stand h.0 t h.2, g t h.3)

    module _ (tops : Settles c V W) where
      mutual
        pub core_settles : (e : Core) (s r : Surroundings) → Settles c s r → Into c (CoreHas v s e) (CoreHas w r e)
        core_settles (Local y) s r k t h = (proper_settled t h.0, k.at y t h.1)
        core_settles (Top n) s r k t h = (proper_settled t h.0, tops.at n t h.1)
        core_settles (Input n) s r k t h = incoming n t h
        core_settles (Literal l) s r k t h = (proper_settled t h.0, ap (settled c) h.1 ∙ literal_settled c l)
        core_settles (Native n) s r k t h = (proper_settled t h.0, native n t h.1)
        core_settles (Constructor u name n) s r k t h = (proper_settled t h.0, constructor_settled c us (Some u) name n t h.1)
        core_settles (Held written e) s r k t h =
            (proper_settled t h.0, held written _ (CoreHas w r e) (core_settles e s r k) t h.1)
        core_settles (Lambda p b) s r k t h = (
          proper_settled t h.0,
          abstracted p (λ z. CoreHas v z b) (λ z. CoreHas w z b) s r (λ bs. core_settles b _ _ (bound_settles bs s r k)) t h.1,
        )
        core_settles (Call f a) s r k t h =
            (proper_settled t h.0, called _ (CoreHas w r f) _ (CoreHas w r a) (core_settles f s r k) (core_settles a s r k) t h.1)
        core_settles (If b y n) s r k t h = (
          proper_settled t h.0,
          chosen _ (CoreHas w r b) _ (CoreHas w r y) _ (CoreHas w r n) (core_settles b s r k) (core_settles y s r k) (core_settles n s r k) t h.1,
        )
        core_settles (Guards gs) s r k t h = (proper_settled t h.0, guards_settle gs s r k t h.1)
        core_settles (Case e bs) s r k t h = (
          proper_settled t h.0,
          cased _ (CoreHas w r e) _ (CoreBranchesHave w r bs) (core_settles e s r k) (branches_settle bs s r k) t h.1,
        )
        core_settles (LetValue p e d) s r k t h = (
          proper_settled t h.0,
          defined p (λ z. CoreHas v z e) (λ z. CoreHas w z e) (λ z. CoreHas v z d) (λ z. CoreHas w z d) s r (core_settles e s r k)
              (λ x. core_settles d _ _ (name_settles x (CoreHas v s e) (CoreHas w r e) s r (core_settles e s r k) k))
              (λ bs. core_settles d _ _ (bound_settles bs s r k)) t h.1,
        )
        core_settles (LetFunctions g d) s r k t h = (
          proper_settled t h.0,
          grouped (names_in g) (λ z. CoreGroupHas v z g) (λ z. CoreGroupHas w z g) (λ z. CoreHas v z d) (λ z. CoreHas w z d) s r
              (λ ts. functions_settle g _ _ (work_settles (names_in g) ts s r k) ts)
              (core_settles d _ _ (generalised_settles (names_in g) 0 (CoreGroupHas v s g) (CoreGroupHas w r g) s r
              (λ ts. functions_settle g _ _ (work_settles (names_in g) ts s r k) ts) k)) t h.1,
        )
        core_settles (Tuple es) s r k t h = (proper_settled t h.0, of_parts _ (AllCoresHave w r es) (all_settle es s r k) t h.1)
        core_settles (ListOf es) s r k t h = (proper_settled t h.0, listed _ (EachIs w r es) (each_settle es s r k) t h.1)
        core_settles (Range a b) s r k t h =
            (proper_settled t h.0, ranged _ (CoreHas w r a) _ (CoreHas w r b) (core_settles a s r k) (core_settles b s r k) t h.1)
        core_settles (Fields fs) s r k t h = (proper_settled t h.0, of_fields _ (CoreFieldsOver w r fs) (over_settle fs s r k) t h.1)
        core_settles (Update e fs) s r k t h = (
          proper_settled t h.0,
          updated _ (CoreHas w r e) _ (CoreNewestAre w r fs) (core_settles e s r k) (newest_settle fs s r k) t h.1,
        )
        core_settles (Extend e fs) s r k t h = (
          proper_settled t h.0,
          extends _ (CoreHas w r e) _ (CoreFieldsOver w r fs) (core_settles e s r k) (over_settle fs s r k) t h.1,
        )
        core_settles (Remove e label) s r k t h =
            (proper_settled t h.0, takes_away _ (CoreHas w r e) label (core_settles e s r k) t h.1)
        core_settles (Field e label) s r k t h = (proper_settled t h.0, field_of _ (CoreHas w r e) label (core_settles e s r k) t h.1)

        all_settle : (es : Cores) (s r : Surroundings) → Settles c s r → (ts : Grounds) → AllCoresHave v s es ts → AllCoresHave w r es (all_settled c ts)
        all_settle NoCores s r k ts h = ap (all_settled c) h
        all_settle (AndCore e es) s r k ts h =
            and_part _ (CoreHas w r e) _ (AllCoresHave w r es) (core_settles e s r k) (all_settle es s r k) ts h

        each_settle : (es : Cores) (s r : Surroundings) → Settles c s r → Into c (EachIs v s es) (EachIs w r es)
        each_settle NoCores s r k t h = h
        each_settle (AndCore e es) s r k t h = (core_settles e s r k t h.0, each_settle es s r k t h.1)

        guards_settle : (gs : CoreGuards) (s r : Surroundings) → Settles c s r → Into c (CoreGuardsHave v s gs) (CoreGuardsHave w r gs)
        guards_settle NoCoreGuards s r k t h = h
        guards_settle (AndCoreGuard b e gs) s r k t h =
            chosen _ (CoreHas w r b) _ (CoreHas w r e) _ (CoreGuardsHave w r gs) (core_settles b s r k) (core_settles e s r k) (guards_settle gs s r k) t h

        branches_settle : (bs : CoreBranches) (s r : Surroundings) → Settles c s r → (from : Ground) → Into c (CoreBranchesHave v s bs from) (CoreBranchesHave w r bs (settled c from))
        branches_settle NoCoreBranches s r k from t h = h
        branches_settle (AndCoreBranch p e bs) s r k from t h = (
          branch p (λ z. CoreHas v z e) (λ z. CoreHas w z e) s r from (λ d. core_settles e _ _ (bound_settles d s r k)) t h.0,
          branches_settle bs s r k from t h.1,
        )

        over_settle : (fs : CoreFields) (s r : Surroundings) → Settles c s r → IntoOver (CoreFieldsOver v s fs) (CoreFieldsOver w r fs)
        over_settle NoCoreFields s r k before row h = ap (row_settled c) h
        over_settle (AndCoreField label e fs) s r k before row h =
            field_over label _ (CoreHas w r e) _ (CoreFieldsOver w r fs) (core_settles e s r k) (over_settle fs s r k) before row h

        newest_settle : (fs : CoreFields) (s r : Surroundings) → Settles c s r → (row : Row) → CoreNewestAre v s fs row → CoreNewestAre w r fs (row_settled c row)
        newest_settle NoCoreFields s r k row h = h
        newest_settle (AndCoreField label e fs) s r k row h =
            (newest_is label _ (CoreHas w r e) (core_settles e s r k) row h.0, newest_settle fs s r k row h.1)

        functions_settle : (g : CoreGroup) (s r : Surroundings) → Settles c s r → (ts : List Ground) → EachCoreHas v s g ts → EachCoreHas w r g (each ts)
        functions_settle NoCoreFunctions s r k [] h = h
        functions_settle NoCoreFunctions s r k (t ∷ ts) h = h
        functions_settle (AndCoreFunction name i p e g) s r k [] h = h
        functions_settle (AndCoreFunction name i p e g) s r k (t ∷ ts) h = (
          (proper_settled t h.0.0, abstracted p (λ z. CoreHas v z e) (λ z. CoreHas w z e) s r (λ bs. core_settles e _ _ (bound_settles bs s r k)) t h.0.1),
          annotated_settled i t h.1,
          functions_settle g s r k ts h.2,
        )
