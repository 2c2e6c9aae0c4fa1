-- A well-typed term never has an ill-typed case: its evaluation is safe.
use Rattle.std.proofs.Common.{◌≡◌, ℕ, zero, suc, ◌<◌, ◌+◌, ◌==◌, ◌-◌, ℤ, pos, Bool, true, false, Option, Some, None, List, [], ◌∷◌, ◌++◌, length, refl, sym, ap, ◌∙◌, subst, arith}
use Rattle.std.specs.Prelude.{if◌then◌else◌, codes, slice_get, nat_lt, nat_le, ◌+ℤ◌, ◌-ℤ◌}
use Rattle.std.specs.Str.{bytes_eq}
use Rattle.std.proofs.lemmas.Bool.{eqb-true, eqb-false}
use Rattle.elm_base.specs.declared.term.RunFault.TheVariants as fault
use Rattle.elm_typing.specs.Ground.{Ground, Grounds, Row, Ends}
use Rattle.elm_typing.specs.Names.{list_of, signal_of}
use Rattle.elm_typing.specs.Sorts.{Simple, Signal, sort_of, AreSimple, HasSimpleFields}
use Rattle.elm_typing.specs.Spelling.{int, bool}
use Rattle.elm_typing.specs.Rows as rows
use Rattle.elm_meaning.specs.declared.callee.Callee.{Callee}
use Rattle.elm_meaning.specs.declared.callee.Callee.TheVariants as callee
use Rattle.elm_meaning.specs.Patterns.{Pattern}
use Rattle.elm_meaning.specs.Values.{Value, Values, Fields, Function, Int, Cons, Tuple, Made, Record, Applicable, Signal as SignalValue, NoValues, AndValue, NoFields, Closure, Member, Partial, Tree, Done, Local, Top, Input, Lambda, Call, If, Guards, Case, LetValue, LetFunctions, TupleTree, ListTree, Range, RecordTree, Update, Extend, Remove, Field, NoTree, Trees, NoTrees, AndTree, FieldTrees, NoFieldTrees, AndFieldTree, GuardedTrees, NoGuards, AndGuard, Branches, NoBranches, AndBranch, Group, NoFunctions, AndFunction}
use Rattle.elm_meaning.specs.FreeNames.{function_names}
use Rattle.elm_meaning.specs.Records as record_of
use Rattle.elm_meaning.specs.Records.{put_all}
use Rattle.elm_meaning.specs.Matching.{Bindings, matching, names_of}
use Rattle.elm_meaning.specs.Substitution.{Names, no_names, bind, bind_all, bind_group, hide_all, hide_group, fill, fill_group}
use Rattle.elm_meaning.specs.Answers.{Answer, Gives, Faults}
use Rattle.elm_meaning.specs.Equations.{Equation}
use Rattle.elm_meaning.specs.NativeTable.{Native, IsValue, Replies, MakesNode, native_at, takes_of}
use Rattle.elm_meaning.specs.Progress.{Stage, State, Ending, Returns, Stops, with_left, with_notes, with_equations, spend_where, answered, replied, add_behind, add_node, made_node}
use Rattle.elm_meaning.specs.Calls.{applied}
use Rattle.elm_meaning.specs.Evaluation.{Bodies, where_fits, with_argument, number_of, list_of as listed_values, constructed, where_all, native_given, given, member_entered, entered, apply, truth_of, if_true, if_fits, listed, range_length, numbers_from, ranged, record_or_none, value_or_none, set_all, updated, extended, removed, field_of, with_bodies, with_all, with_fields, with_guards, with_branches, to_depth, evaluate}
use Rattle.typing_rules.specs.Unions.{UnionGives, GivesWhere}
use Rattle.typing_rules.specs.CorePatterns.{CorePattern, core_pattern, Fits}
use Rattle.typing_rules.specs.Worlds.{Surroundings, no_surroundings, with_name, Bound, with_bound, World, IsProper, MayStandIn}
use Rattle.typing_rules.specs.Rules.{Abstracted, Defined, TakenApart, NamedValue, type_at, under_work, generalised, NativeGives}
use Rattle.typing_rules.specs.TermTypes.{CalleeGives, takes, ValueHas, ValuesHave, FieldsHave, AreTaken, FunctionHas, TermHas, AllHave, EachHas, GuardsHave, BranchesHave, FieldsOver, NewestAre, EachFunctionHas, GroupHas}
use Rattle.typing_rules.specs.Nodes.{values, NativeCall, CallGives, call_of, EquationHas, at_equations}
use Rattle.typing_sound.specs.Safe.{HasLibrary, GivesTyped, MakesTyped}
use Rattle.typing_sound.specs.SafeEndings.{at_stage, Grows, IsSafe, TopsTyped, Fills, FillsAt}
use Rattle.typing_sound.proofs.Combine.{same_within}
use Rattle.typing_sound.proofs.Monotone.{Below, callee_more, taken_more, term_more, all_more, each_more, guards_more, branches_more, over_more, newest_more}
use Rattle.typing_sound.proofs.Filled.{paired, fills_work, filled_names, functions_filled, term_filled}
use Rattle.typing_sound.proofs.Bound.{some_is, BindsHave, MatchHas, match_has, newest_has, Typed, typed_nothing, typed_name, typed_less, typed_bound, typed_group, work_given}
use Rattle.typing_sound.proofs.Canonical.{bool_value, int_value, record_value, function_value}
use Rattle.typing_sound.proofs.Natives.{safe_native}
use Rattle.typing_sound.proofs.RecordValues.{extended_simple, newest_simple, remove_field_has, PutHave, put_all_has, SetHave, set_all_has}
use Rattle.typing_sound.proofs.Stages.{stage_below, stages_below, value_later, typed_later, grows_same, grows_then, at_most_itself, simple_at_most, then_all, then_one, node_added, order_added}

-- the types of terms are proper
proper_of : (w : World) (s : Surroundings) (e : Tree) (t : Ground) → TermHas w s e t → IsProper w t
proper_of w s (Done v) t h = h.0
proper_of w s (Local y) t h = h.0
proper_of w s (Top n) t h = h.0
proper_of w s (Input n) t h = h.0
proper_of w s (Lambda p b) t h = h.0
proper_of w s (Call f a) t h = h.0
proper_of w s (If c y n) t h = h.0
proper_of w s (Guards gs) t h = h.0
proper_of w s (Case e bs) t h = h.0
proper_of w s (LetValue p e b) t h = h.0
proper_of w s (LetFunctions g b) t h = h.0
proper_of w s (TupleTree es) t h = h.0
proper_of w s (ListTree es) t h = h.0
proper_of w s (Range l u) t h = h.0
proper_of w s (RecordTree fs) t h = h.0
proper_of w s (Update e fs) t h = h.0
proper_of w s (Extend e fs) t h = h.0
proper_of w s (Remove e l) t h = h.0
proper_of w s (Field e l) t h = h.0
proper_of w s NoTree t h = h.0

-- arguments

pub one_more_taken : (w : World) (vs : Values) (x : Value) (whole u t : Ground) → AreTaken w vs whole (Ground.Function u t) → ValueHas w x u → AreTaken w (with_argument vs x) whole t
one_more_taken w NoValues x whole u t h k = subst (λ z. AreTaken w (AndValue x NoValues) z t) h (k, refl)
one_more_taken w (AndValue v vs) x (Ground.Function a r) u t h k = (h.0, one_more_taken w vs x r u t h.1 k)
one_more_taken w (AndValue v vs) x (Ground.Named n ts) u t h k = absurd h
one_more_taken w (AndValue v vs) x (Ground.Tuple ts) u t h k = absurd h
one_more_taken w (AndValue v vs) x (Ground.Record r) u t h k = absurd h
one_more_taken w (AndValue v vs) x (Ground.Opaque n f) u t h k = absurd h

pub one_more_number : (vs : Values) (x : Value) → number_of (with_argument vs x) ≡ suc (number_of vs)
one_more_number NoValues x = refl
one_more_number (AndValue v vs) x = ap suc (one_more_number vs x)

fits_less : (n m : ℕ) → n < m → ((suc n == m) ≡ false) → suc n < m
fits_less n m h e = (let d = eqb-false (suc n) m e in less n m h d)
  where
    less : (n m : ℕ) → n < m → (suc n ≡ m → ⊥) → suc n < m
    less n zero h d = omega (arith, h)
    less zero (suc zero) h d = absurd (d refl)
    less zero (suc (suc m)) h d = omega arith
    less (suc n) (suc m) h d = (let i = less n m (omega (arith, h)) (λ e. d (ap suc e)) in omega (arith, i))

-- fillings

filled_at : (w : World) (o : Option Value) (t : Ground) → ((v : Value) × (o ≡ Some v) × ValueHas w v t) → FillsAt w o ⊥ t
filled_at w None t h = absurd (let e = h.1 in cc)
filled_at w (Some v) t h = subst (λ z. ValueHas w z t) (sym (some_is v h.0 h.1)) h.2

fills_typed : (w : World) (s : Surroundings) (σ : Names) → Typed w s σ → Fills w s σ no_surroundings
fills_typed w s σ k = record { at = λ y t e. filled_at w (σ y) t (k.at y t e) }

arguments_same : (u t a r : Ground) → Ground.Function u t ≡ Ground.Function a r → u ≡ a
arguments_same u t a r e = cc

results_same : (u t a r : Ground) → Ground.Function u t ≡ Ground.Function a r → t ≡ r
results_same u t a r e = cc

module _ (w : World) (l : HasLibrary w) where
  -- the same library at each stage
  pub library_at : (q : Stage) → HasLibrary (at_stage q w)
  library_at None = l
  library_at (Some qs) = record { own = l.own; first = l.first }

  tops_later : (q r : Stage) (tops : List Value) → Grows w q r → TopsTyped w q tops → TopsTyped w r tops
  tops_later q r tops g k = record { at = λ n t e. (let p = k.at n t e in (p.0, p.1, value_later w q r p.0 t g p.2)) }

  term_later : (q r : Stage) (e : Tree) (s : Surroundings) (t : Ground) → Grows w q r → TermHas (at_stage q w) s e t → TermHas (at_stage r w) s e t
  term_later q r e s t g h = term_more (at_stage q w) (at_stage r w) (stages_below w q r g) e s s (same_within s) t h

  -- proper types, at each stage

  function_sorts : (q : Stage) (u t : Ground) → IsProper (at_stage q w) (Ground.Function u t) → MayStandIn w u t
  function_sorts None u t p = p.sorted.2
  function_sorts (Some qs) u t p = p.sorted.2

  tuple_sorts : (q : Stage) (ts : Grounds) → IsProper (at_stage q w) (Ground.Tuple ts) → AreSimple w.sorts ts
  tuple_sorts None ts p = p.sorted
  tuple_sorts (Some qs) ts p = p.sorted

  list_sorts : (q : Stage) (t : Ground) → IsProper (at_stage q w) (list_of t) → sort_of w.sorts t ≡ Simple
  list_sorts None t p = p.sorted.1
  list_sorts (Some qs) t p = p.sorted.1

  record_sorts : (q : Stage) (r : Row) → IsProper (at_stage q w) (Ground.Record r) → HasSimpleFields w.sorts r
  record_sorts None r p = p.sorted
  record_sorts (Some qs) r p = p.sorted

  stands_at : (q : Stage) (u t : Ground) → MayStandIn (at_stage q w) u t → MayStandIn w u t
  stands_at None u t h = h
  stands_at (Some qs) u t h = h

  fits_at : (q : Stage) (p : CorePattern) (t : Ground) (b : Bound) → Fits (at_stage q w).unions p t b → Fits w.unions p t b
  fits_at None p t b h = h
  fits_at (Some qs) p t b h = h

  -- values at a stage

  returns_safe : (t : Ground) (v : Value) (s : State) → ValueHas (at_stage s.stage w) v t → IsSafe w s.stage t (Returns v s)
  returns_safe t v s h = (grows_same w s.stage, h, λ d. refl)

  there_safe : (t : Ground) (o : Option Value) (s : State) → ((v : Value) × (o ≡ Some v) × ValueHas (at_stage s.stage w) v t) → IsSafe w s.stage t (value_or_none o s)
  there_safe t None s h = absurd (let d = h.1 in cc)
  there_safe t (Some v) s h = returns_safe t v s (subst (λ z. ValueHas (at_stage s.stage w) z t) (sym (some_is v h.0 h.1)) h.2)

  spend_safe : (b : Bool) (n : ℕ) (s : State) (t : Ground) (go : State → Ending) → IsSafe w s.stage t (go (with_left (s.left - n) s)) → IsSafe w s.stage t (spend_where b n s go)
  spend_safe true n s t go h = h
  spend_safe false n s t go h = grows_same w s.stage

  truth_safe : (v : Value) (s : State) (t : Ground) (go other : State → Ending) → ValueHas (at_stage s.stage w) v bool → IsSafe w s.stage t (go s) → IsSafe w s.stage t (other s) → IsSafe w s.stage t (if_true (truth_of v) s go other)
  truth_safe v s t go other h a b = bool_value (at_stage s.stage w) (library_at s.stage) v h (λ z. IsSafe w s.stage t (if_true (truth_of z) s go other)) a b

  fits_safe : (o : Option Bindings) (b : Bound) (s : State) (t : Ground) (go : Bindings → State → Ending) → MatchHas (at_stage s.stage w) o b → ((bs : Bindings) → BindsHave (at_stage s.stage w) bs b → IsSafe w s.stage t (go bs s)) → IsSafe w s.stage t (where_fits o s go)
  fits_safe None b s t go h f = grows_same w s.stage
  fits_safe (Some bs) b s t go h f = f bs h

  branch_safe : (o : Option Bindings) (b : Bound) (s : State) (t : Ground) (go : Bindings → State → Ending) (other : State → Ending) → MatchHas (at_stage s.stage w) o b → ((bs : Bindings) → BindsHave (at_stage s.stage w) bs b → IsSafe w s.stage t (go bs s)) → IsSafe w s.stage t (other s) → IsSafe w s.stage t (if_fits o s go other)
  branch_safe None b s t go other h f g = g
  branch_safe (Some bs) b s t go other h f g = f bs h

  -- nodes

  add_at : (q : Stage) (equation : Equation) (s : State) (t value : Ground) → s.stage ≡ q → t ≡ signal_of value → ((qs : List Equation) → q ≡ Some qs → EquationHas (at_equations qs w) equation value) → IsSafe w q t (add_behind q equation s)
  add_at None equation s t value i e f = (refl, ap (sort_of w.sorts) e)
  add_at (Some qs) equation s t value i e f = limited (nat_lt (length qs) 4096) (f qs refl)
    where
      not_simple : sort_of w.sorts t ≡ Simple → (Some (qs ++ equation ∷ [])) ≡ Some qs
      not_simple d = absurd (let j : Signal ≡ Simple = sym (ap (sort_of w.sorts) e) ∙ d in cc)

      limited : (b : Bool) → EquationHas (at_equations qs w) equation value → IsSafe w (Some qs) t (if b then Returns (SignalValue (length qs)) (with_equations (qs ++ equation ∷ []) s) else Stops fault.TooManyNodes s)
      limited true h = ((equation ∷ [], refl, order_added w qs equation value h), (value, e, node_added w qs equation value h), not_simple)
      limited false h = subst (Grows w (Some qs)) (sym i) (grows_same w (Some qs))

  add_safe : (equation : Equation) (s : State) (t value : Ground) → t ≡ signal_of value → ((qs : List Equation) → s.stage ≡ Some qs → EquationHas (at_equations qs w) equation value) → IsSafe w s.stage t (add_node equation s)
  add_safe equation s t value e f = add_at s.stage equation s t value refl e f

  input_has : (qs : List Equation) (n : ℕ) (value : Ground) → slice_get w.inputs n ≡ Some value → EquationHas (at_equations qs w) (Equation.Input n) value
  input_has qs n value e = subst (λ z. slice_get z n ≡ Some value) (stage_below w qs).alike.inputs e

  inputs_at : (q : Stage) (n : ℕ) (value : Ground) → slice_get (at_stage q w).inputs n ≡ Some value → slice_get w.inputs n ≡ Some value
  inputs_at None n value e = e
  inputs_at (Some qs) n value e = e

  -- natives and constructors

  answered_safe : (t : Ground) (a : Answer) (s : State) → GivesTyped (at_stage s.stage w) t a → IsSafe w s.stage t (answered a s)
  answered_safe t (Gives v) s h = returns_safe t v s h
  answered_safe t (Faults x) s h = grows_same w s.stage
  answered_safe t Answer.NoRule s h = absurd h

  call_has : (v : World) (q : Equation) (c : NativeCall) (value : Ground) → call_of q ≡ Some c → CallGives v (Some c) (signal_of value) → EquationHas v q value
  call_has v (Equation.Input n) c value e h = absurd cc
  call_has v (Equation.Constant x) c value e h = subst (λ z. CallGives v z (signal_of value)) (sym e) h
  call_has v (Equation.Map f ns) c value e h = subst (λ z. CallGives v z (signal_of value)) (sym e) h
  call_has v (Equation.Foldp f x n) c value e h = subst (λ z. CallGives v z (signal_of value)) (sym e) h
  call_has v (Equation.Merge m n) c value e h = subst (λ z. CallGives v z (signal_of value)) (sym e) h
  call_has v (Equation.Filter f x n) c value e h = subst (λ z. CallGives v z (signal_of value)) (sym e) h
  call_has v (Equation.FilterMap f x n) c value e h = subst (λ z. CallGives v z (signal_of value)) (sym e) h
  call_has v (Equation.DropRepeats n) c value e h = subst (λ z. CallGives v z (signal_of value)) (sym e) h
  call_has v (Equation.SampleOn m n) c value e h = subst (λ z. CallGives v z (signal_of value)) (sym e) h
  call_has v (Equation.Async n) c value e h = subst (λ z. CallGives v z (signal_of value)) (sym e) h

  made_safe : (n : ℕ) (vs : Values) (o : Option Equation) (s : State) (t whole : Ground) → MakesTyped n t vs o → CalleeGives (at_stage s.stage w) (callee.Native n) whole → AreTaken (at_stage s.stage w) vs whole t → IsSafe w s.stage t (made_node o s)
  made_safe n vs None s t whole m c h = absurd m
  made_safe n vs (Some q) s t whole m c h =
      add_safe q s t m.1 m.2
      (λ qs e. call_has (at_equations qs w) q (n, vs) m.1 m.0 (
        whole,
        callee_more (at_stage (Some qs) w) (at_equations qs w) (stage_below w qs) (callee.Native n) whole (subst (λ z. CalleeGives (at_stage z w) (callee.Native n) whole) e c),
        taken_more (at_stage (Some qs) w) (at_equations qs w) (stage_below w qs) vs no_surroundings whole (signal_of m.1)
            (subst (λ z. AreTaken (at_stage (Some qs) w) vs whole z) m.2 (subst (λ z. AreTaken (at_stage z w) vs whole t) e h)),
      ))

  -- some arguments are lacking
  lacking_safe : (c : Callee) (vs : Values) (s : State) (t whole : Ground) → CalleeGives (at_stage s.stage w) c whole → AreTaken (at_stage s.stage w) vs whole t → number_of vs < takes c → IsSafe w s.stage t (Returns (Applicable (Partial c vs)) s)
  lacking_safe c vs s t whole g h k = returns_safe t (Applicable (Partial c vs)) s (whole, g, h, k)

  native_safe : (o : Option Native) (n : ℕ) (vs : Values) (m : ℕ) (s : State) (t whole : Ground) → native_at n ≡ o → number_of vs ≡ suc m → m < takes_of o → CalleeGives (at_stage s.stage w) (callee.Native n) whole → AreTaken (at_stage s.stage w) vs whole t → IsSafe w s.stage t (native_given o (callee.Native n) vs s)
  native_safe None n vs m s t whole e d k c h = absurd (omega (arith, k))
  native_safe (Some (IsValue v)) n vs m s t whole e d k c h = absurd (omega (arith, k))
  native_safe (Some (Replies p reply)) n vs m s t whole e d k c h = all_given (number_of vs == p) refl
    where
      g : NativeGives n whole
      g = c.0

      safe : number_of vs ≡ p → GivesTyped (at_stage s.stage w) t (reply (listed_values vs)).answer
      safe i =
          safe_native (at_stage s.stage w) (library_at s.stage) n (Replies p reply) g.0 e g.1 g.2.0 t vs g.2.1
          (subst (λ z. AreTaken (at_stage s.stage w) vs z t) g.2.2 h) i

      all_given : (b : Bool) → (number_of vs == p) ≡ b → IsSafe w s.stage t (where_all b (callee.Native n) vs s (replied (reply (listed_values vs)) s))
      all_given true i = (let r = reply (listed_values vs) in spend_safe (nat_le r.work s.left) r.work s t (λ u. answered r.answer (with_notes r.notes u)) (answered_safe t r.answer (with_notes r.notes (with_left (s.left - r.work) s)) (safe (eqb-true (number_of vs) p i))))
      all_given false i =
          lacking_safe (callee.Native n) vs s t whole c h
          (subst (λ z. number_of vs < takes_of z) (sym e) (subst (λ z. z < p) (sym d) (fits_less m p k (subst (λ z. (z == p) ≡ false) d i))))
  native_safe (Some (MakesNode p equation)) n vs m s t whole e d k c h = all_given (number_of vs == p) refl
    where
      g : NativeGives n whole
      g = c.0

      all_given : (b : Bool) → (number_of vs == p) ≡ b → IsSafe w s.stage t (where_all b (callee.Native n) vs s (made_node (equation (listed_values vs)) s))
      all_given true i =
          made_safe n vs (equation (listed_values vs)) s t whole
          (safe_native (at_stage s.stage w) (library_at s.stage) n (MakesNode p equation) g.0 e g.1 g.2.0 t vs g.2.1
          (subst (λ z. AreTaken (at_stage s.stage w) vs z t) g.2.2 h) (eqb-true (number_of vs) p i)) c h
      all_given false i =
          lacking_safe (callee.Native n) vs s t whole c h
          (subst (λ z. number_of vs < takes_of z) (sym e) (subst (λ z. z < p) (sym d) (fits_less m p k (subst (λ z. (z == p) ≡ false) d i))))

  -- what a constructor makes

  consed : (v : World) (vs : Values) (e t : Ground) → number_of vs ≡ 2 → AreTaken v vs (Ground.Function e (Ground.Function (list_of e) (list_of e))) t → (name : List ℕ) → bytes_eq name (codes "::") ≡ true → ValueHas v (constructed name vs) t
  consed v NoValues e t n h name b = absurd cc
  consed v (AndValue x NoValues) e t n h name b = absurd cc
  consed v (AndValue x (AndValue y (AndValue z zs))) e t n h name b = absurd cc
  consed v (AndValue x (AndValue y NoValues)) e t n h name b =
      subst (λ c. ValueHas v (if c then Cons x y else Made name (AndValue x (AndValue y NoValues))) t) (sym b) (e, h.1.1, h.0, h.1.0)

  not_consed : (vs : Values) (name : List ℕ) → bytes_eq name (codes "::") ≡ false → constructed name vs ≡ Made name vs
  not_consed NoValues name b = refl
  not_consed (AndValue x NoValues) name b = refl
  not_consed (AndValue x (AndValue y NoValues)) name b = ap (λ c. if c then Cons x y else Made name (AndValue x (AndValue y NoValues))) b
  not_consed (AndValue x (AndValue y (AndValue z zs))) name b = refl

  constructed_has : (v : World) (b : Bool) (name : List ℕ) (n : ℕ) (vs : Values) (t whole : Ground) → bytes_eq name (codes "::") ≡ b → number_of vs ≡ n → GivesWhere b v.unions None name n whole → IsProper v whole → AreTaken v vs whole t → ValueHas v (constructed name vs) t
  constructed_has v true name n vs t whole b d g p h = consed v vs g.1 t (d ∙ g.0) (subst (λ z. AreTaken v vs z t) g.2 h) name b
  constructed_has v false name n vs t whole b d g p h =
      subst (λ z. ValueHas v z t) (sym (not_consed vs name b)) (whole, subst (λ z. UnionGives v.unions None name z whole) (sym d) g, p, h)

  given_safe : (c : Callee) (vs : Values) (m : ℕ) (s : State) (t whole : Ground) → number_of vs ≡ suc m → m < takes c → CalleeGives (at_stage s.stage w) c whole → AreTaken (at_stage s.stage w) vs whole t → IsSafe w s.stage t (given c vs s)
  given_safe (callee.Native n) vs m s t whole d k c h = native_safe (native_at n) n vs m s t whole refl d k c h
  given_safe (callee.Constructor name p) vs m s t whole d k c h = all_given (number_of vs == p) refl
    where
      all_given : (b : Bool) → (number_of vs == p) ≡ b → IsSafe w s.stage t (where_all b (callee.Constructor name p) vs s (Returns (constructed name vs) s))
      all_given true i =
          returns_safe t (constructed name vs) s
          (constructed_has (at_stage s.stage w) (bytes_eq name (codes "::")) name p vs t whole refl (eqb-true (number_of vs) p i) c.0 c.1 h)
      all_given false i =
          lacking_safe (callee.Constructor name p) vs s t whole c h
          (subst (λ z. z < p) (sym d) (fits_less m p k (subst (λ z. (z == p) ≡ false) d i)))

  -- lists and ranges

  abbrev EachIs : World → Values → Ground → Type 0
  EachIs v NoValues t = Unit {0}
  EachIs v (AndValue x xs) t = ValueHas v x t × EachIs v xs t

  listed_has : (v : World) (vs : Values) (t : Ground) → EachIs v vs t → ValueHas v (listed vs) (list_of t)
  listed_has v NoValues t h = (t, refl)
  listed_has v (AndValue x xs) t h = (t, refl, h.0, listed_has v xs t h.1)

  numbers_have : (v : World) (n : ℕ) (a : ℤ) → ValueHas v (numbers_from n a) (list_of int)
  numbers_have v zero a = (int, refl)
  numbers_have v (suc n) a = (int, refl, refl, numbers_have v n (a +ℤ pos 1))

  ranged_safe : (x y : Value) (s : State) → ValueHas (at_stage s.stage w) x int → ValueHas (at_stage s.stage w) y int → IsSafe w s.stage (list_of int) (ranged x y s)
  ranged_safe x y s h k =
      let p = int_value (at_stage s.stage w) (library_at s.stage) x h in
      let q = int_value (at_stage s.stage w) (library_at s.stage) y k in
      subst (λ z. IsSafe w s.stage (list_of int) (ranged z y s)) (sym p.1) (subst (λ z. IsSafe w s.stage (list_of int) (ranged (Int p.0) z s)) (sym q.1) (numbers p.0 q.0))
    where
      numbers : (a b : ℤ) → IsSafe w s.stage (list_of int) (ranged (Int a) (Int b) s)
      numbers a b =
          spend_safe (nat_le (range_length (b -ℤ a)) s.left) (range_length (b -ℤ a)) s (list_of int) _
          (returns_safe (list_of int) (numbers_from (range_length (b -ℤ a)) a) (with_left (s.left - range_length (b -ℤ a)) s) (numbers_have (at_stage s.stage w) (range_length (b -ℤ a)) a))

  -- records

  record_safe : (o : Option Fields) (s : State) (r : Row) → ((fs : Fields) × (o ≡ Some fs) × FieldsHave (at_stage s.stage w) fs r) → IsSafe w s.stage (Ground.Record r) (record_or_none o s)
  record_safe None s r h = absurd (let d = h.1 in cc)
  record_safe (Some fs) s r h =
      returns_safe (Ground.Record r) (Record fs) s (r, refl, subst (λ z. FieldsHave (at_stage s.stage w) z r) (sym (some_is fs h.0 h.1)) h.2)

  extended_safe : (x : Value) (new : List (List ℕ × Value)) (s : State) (before r : Row) → ValueHas (at_stage s.stage w) x (Ground.Record before) → PutHave (at_stage s.stage w) new before r → IsSafe w s.stage (Ground.Record r) (extended x new s)
  extended_safe x new s before r h k =
      let p = record_value (at_stage s.stage w) (library_at s.stage) x before h in
      subst (λ z. IsSafe w s.stage (Ground.Record r) (extended z new s)) (sym p.1)
      (returns_safe (Ground.Record r) (Record (put_all new p.0)) s (r, refl, put_all_has (at_stage s.stage w) new before r p.0 k p.2))

  updated_safe : (x : Value) (new : List (List ℕ × Value)) (s : State) (r : Row) → ValueHas (at_stage s.stage w) x (Ground.Record r) → SetHave (at_stage s.stage w) new r → IsSafe w s.stage (Ground.Record r) (updated x new s)
  updated_safe x new s r h k =
      let p = record_value (at_stage s.stage w) (library_at s.stage) x r h in
      subst (λ z. IsSafe w s.stage (Ground.Record r) (updated z new s)) (sym p.1)
      (record_safe (set_all new p.0) s r (set_all_has (at_stage s.stage w) new r p.0 k p.2))

  removed_safe : (x : Value) (label : List ℕ) (s : State) (before r : Row) → ValueHas (at_stage s.stage w) x (Ground.Record before) → rows.removed label before ≡ Some r → IsSafe w s.stage (Ground.Record r) (removed x label s)
  removed_safe x label s before r h e =
      let p = record_value (at_stage s.stage w) (library_at s.stage) x before h in
      subst (λ z. IsSafe w s.stage (Ground.Record r) (removed z label s)) (sym p.1)
      (record_safe (record_of.remove_field label p.0) s r (remove_field_has (at_stage s.stage w) label p.0 before r e p.2))

  field_safe : (x : Value) (label : List ℕ) (s : State) (r : Row) (t : Ground) → ValueHas (at_stage s.stage w) x (Ground.Record r) → rows.newest label r ≡ Some t → IsSafe w s.stage t (field_of x label s)
  field_safe x label s r t h e =
      let p = record_value (at_stage s.stage w) (library_at s.stage) x r h in
      subst (λ z. IsSafe w s.stage t (field_of z label s)) (sym p.1)
      (there_safe t (record_of.newest label p.0) s (newest_has (at_stage s.stage w) label p.0 r t p.2 e))

  -- a record form's own type
  as_record : (q : Stage) (t : Ground) (r : Row) (o : Ending) → t ≡ Ground.Record r → IsSafe w q (Ground.Record r) o → IsSafe w q t o
  as_record q t r o e h = subst (λ z. IsSafe w q z o) (sym e) h

module _ (w : World) (l : HasLibrary w) (tops : List Value) (body : Bodies) where
  abbrev pub SafeBodies : Type 1
  SafeBodies = (e : Tree) (s : Surroundings) (σ : Names) (st : State) (t : Ground) → TopsTyped w st.stage tops → TermHas (at_stage st.stage w) s e t → Typed (at_stage st.stage w) s σ → IsSafe w st.stage t (body e σ st)

  module _ (fine : SafeBodies) where
    -- calls

    lambda_safe : (p : Pattern) (b : Tree) (s : Surroundings) (σ : Names) (x : Value) (st : State) (u t : Ground) → TopsTyped w st.stage tops → Abstracted (at_stage st.stage w) (core_pattern p) (λ r. TermHas (at_stage st.stage w) r b) s (Ground.Function u t) → Typed (at_stage st.stage w) s σ → ValueHas (at_stage st.stage w) x u → IsSafe w st.stage t (where_fits (matching p x) st (λ bindings r. body b (bind_all bindings σ) r))
    lambda_safe p b s σ x st u t T h k v =
        let a : u ≡ h.0 = arguments_same u t h.0 h.1 h.2 in
        let d : h.1 ≡ t = sym (results_same u t h.0 h.1 h.2) in
        let f = h.3 in
        fits_safe w l (matching p x) f.0 st t (λ bindings r. body b (bind_all bindings σ) r)
        (match_has (at_stage st.stage w) p x h.0 f.0 f.1 (subst (ValueHas (at_stage st.stage w) x) a v))
        (λ bs i. subst (λ z. IsSafe w st.stage z (body b (bind_all bs σ) st)) d (fine b (with_bound f.0 s) (bind_all bs σ) st h.1 T f.2 (typed_bound (at_stage st.stage w) bs f.0 s σ i k)))

    member_safe : (i : ℕ) (all : Group) (s : Surroundings) (g : Group) (ts : List Ground) (x : Value) (st : State) (u t : Ground) → TopsTyped w st.stage tops → EachFunctionHas (at_stage st.stage w) s g ts → type_at ts i ≡ Some (Ground.Function u t) → Typed (at_stage st.stage w) s (bind_group all no_names) → ValueHas (at_stage st.stage w) x u → IsSafe w st.stage t (member_entered body i all g x st)
    member_safe i all s NoFunctions [] x st u t T h e k v = absurd cc
    member_safe i all s NoFunctions (y ∷ ts) x st u t T h e k v = absurd h
    member_safe i all s (AndFunction name p b g) [] x st u t T h e k v = absurd h
    member_safe zero all s (AndFunction name p b g) (y ∷ ts) x st u t T h e k v =
        let d : y ≡ Ground.Function u t = cc in
        lambda_safe p b s (bind_group all no_names) x st u t T (subst (Abstracted (at_stage st.stage w) (core_pattern p) (λ r. TermHas (at_stage st.stage w) r b) s) d h.0.1) k v
    member_safe (suc i) all s (AndFunction name p b g) (y ∷ ts) x st u t T h e k v = member_safe i all s g ts x st u t T h.1 e k v

    entered_safe : (f x : Value) (st : State) (u t : Ground) → TopsTyped w st.stage tops → ValueHas (at_stage st.stage w) f (Ground.Function u t) → ValueHas (at_stage st.stage w) x u → IsSafe w st.stage t (entered body f x st)
    entered_safe f x st u t T h v =
        let p = function_value (at_stage st.stage w) (library_at w l st.stage) f u t h in
        subst (λ z. IsSafe w st.stage t (entered body z x st)) (sym p.1) (applied_safe p.0 (subst (λ z. ValueHas (at_stage st.stage w) z (Ground.Function u t)) p.1 h))
      where
        applied_safe : (f : Function) → FunctionHas (at_stage st.stage w) f (Ground.Function u t) → IsSafe w st.stage t (entered body (Applicable f) x st)
        applied_safe (Closure p b) h = lambda_safe p b no_surroundings no_names x st u t T h (typed_nothing (at_stage st.stage w)) v
        applied_safe (Member i g) h =
            let v0 = at_stage st.stage w in
            let ts = h.0 in
            member_safe i g (under_work (function_names g) ts no_surroundings) g ts x st u t T h.1 h.2
            (typed_less v0 (under_work (function_names g) ts no_surroundings) (generalised (function_names g) 0 (GroupHas v0 no_surroundings g) no_surroundings) (bind_group g no_names)
            (work_given (function_names g) ts 0 (GroupHas v0 no_surroundings g) ts no_surroundings no_surroundings (paired v0 _ g ts h.1) h.1 (λ j y e. let z : 0 + j ≡ j = omega arith in ap (type_at ts) z ∙ e) (same_within no_surroundings))
            (typed_group v0 g 0 g (GroupHas v0 no_surroundings g) no_surroundings no_names (λ ts k. k) (typed_nothing v0))) v
        applied_safe (Partial c vs) h =
            given_safe w l c (with_argument vs x) (number_of vs) st t h.0 (one_more_number vs x) h.3 h.1 (one_more_taken (at_stage st.stage w) vs x h.0 u t h.2 v)

    apply_safe : (f x : Value) (st : State) (u t : Ground) → TopsTyped w st.stage tops → ValueHas (at_stage st.stage w) f (Ground.Function u t) → ValueHas (at_stage st.stage w) x u → IsSafe w st.stage t (apply body f x st)
    apply_safe f x st u t T h v = spend_safe w l (nat_le 1 st.left) 1 st t (λ r. entered body f x r) (entered_safe f x (with_left (st.left - 1) st) u t T h v)

    -- parts of terms

    tops_on : (st r : State) → Grows w st.stage r.stage → TopsTyped w st.stage tops → TopsTyped w r.stage tops
    tops_on st r g T = tops_later w l st.stage r.stage tops g T

    typed_on : (st r : State) (s : Surroundings) (σ : Names) → Grows w st.stage r.stage → Typed (at_stage st.stage w) s σ → Typed (at_stage r.stage w) s σ
    typed_on st r s σ g k = typed_later w st.stage r.stage s σ g k

    tops_at : (q : Stage) (n : ℕ) (t : Ground) → (at_stage q w).tops n t → w.tops n t
    tops_at None n t h = h
    tops_at (Some qs) n t h = h

    fits_on : (q r : Stage) (p : CorePattern) (t : Ground) (b : Bound) → Fits (at_stage q w).unions p t b → Fits (at_stage r w).unions p t b
    fits_on None None p t b h = h
    fits_on None (Some qs) p t b h = h
    fits_on (Some qs) None p t b h = h
    fits_on (Some qs) (Some rs) p t b h = h

    on : (st r : State) → Grows w st.stage r.stage → Below (at_stage st.stage w) (at_stage r.stage w)
    on st r g = stages_below w st.stage r.stage g

    named_safe : (x : ℕ) (e d : Tree) (s : Surroundings) (σ : Names) (st : State) (t : Ground) → TopsTyped w st.stage tops → NamedValue (at_stage st.stage w) x (λ r. TermHas (at_stage st.stage w) r e) (λ r. TermHas (at_stage st.stage w) r d) s t → Typed (at_stage st.stage w) s σ → ((u : Ground) → TermHas (at_stage st.stage w) s e u → IsSafe w st.stage u (with_bodies tops body e σ st)) → ((z : Surroundings) (ρ : Names) (r : State) (u : Ground) → TopsTyped w r.stage tops → TermHas (at_stage r.stage w) z d u → Typed (at_stage r.stage w) z ρ → IsSafe w r.stage u (with_bodies tops body d ρ r)) → IsSafe w st.stage t (with_bodies tops body (LetValue (Pattern.Local x) e d) σ st)
    named_safe x e d s σ st t T h k f g =
        then_all w st.stage (TermHas (at_stage st.stage w) s e) h.0 t (with_bodies tops body e σ st) _ h.1 (stands_at w l st.stage h.0 t h.2) f
        (λ v r i j. g (with_name x (TermHas (at_stage st.stage w) s e) s) (bind x v σ) r t (tops_on st r i T) (term_later w l st.stage r.stage d (with_name x (TermHas (at_stage st.stage w) s e) s) t i h.3)
        (typed_name (at_stage r.stage w) x (TermHas (at_stage st.stage w) s e) v s σ j (typed_on st r s σ i k)))

    taken_safe : (p : Pattern) (e d : Tree) (s : Surroundings) (σ : Names) (st : State) (t : Ground) → TopsTyped w st.stage tops → TakenApart (at_stage st.stage w) (core_pattern p) (λ r. TermHas (at_stage st.stage w) r e) (λ r. TermHas (at_stage st.stage w) r d) s t → Typed (at_stage st.stage w) s σ → ((u : Ground) → TermHas (at_stage st.stage w) s e u → IsSafe w st.stage u (with_bodies tops body e σ st)) → ((z : Surroundings) (ρ : Names) (r : State) (u : Ground) → TopsTyped w r.stage tops → TermHas (at_stage r.stage w) z d u → Typed (at_stage r.stage w) z ρ → IsSafe w r.stage u (with_bodies tops body d ρ r)) → IsSafe w st.stage t (with_bodies tops body (LetValue p e d) σ st)
    taken_safe p e d s σ st t T h k f g =
        then_one w st.stage h.0 t (with_bodies tops body e σ st) _ (stands_at w l st.stage h.0 t h.2) (f h.0 h.1)
        (λ v r i j. fits_safe w l (matching p v) h.3.0 r t (λ bindings u. with_bodies tops body d (bind_all bindings σ) u)
        (match_has (at_stage r.stage w) p v h.0 h.3.0 (fits_on st.stage r.stage (core_pattern p) h.0 h.3.0 h.3.1) j)
        (λ bs b. g (with_bound h.3.0 s) (bind_all bs σ) r t (tops_on st r i T) (term_later w l st.stage r.stage d (with_bound h.3.0 s) t i h.3.2) (typed_bound (at_stage r.stage w) bs h.3.0 s σ b (typed_on st r s σ i k))))

    defined_safe : (p : Pattern) (e d : Tree) (s : Surroundings) (σ : Names) (st : State) (t : Ground) → TopsTyped w st.stage tops → Defined (at_stage st.stage w) (core_pattern p) (λ r. TermHas (at_stage st.stage w) r e) (λ r. TermHas (at_stage st.stage w) r d) s t → Typed (at_stage st.stage w) s σ → ((u : Ground) → TermHas (at_stage st.stage w) s e u → IsSafe w st.stage u (with_bodies tops body e σ st)) → ((z : Surroundings) (ρ : Names) (r : State) (u : Ground) → TopsTyped w r.stage tops → TermHas (at_stage r.stage w) z d u → Typed (at_stage r.stage w) z ρ → IsSafe w r.stage u (with_bodies tops body d ρ r)) → IsSafe w st.stage t (with_bodies tops body (LetValue p e d) σ st)
    defined_safe (Pattern.Local x) e d s σ st t T h k f g = named_safe x e d s σ st t T h k f g
    defined_safe Pattern.Anything e d s σ st t T h k f g = taken_safe Pattern.Anything e d s σ st t T h k f g
    defined_safe (Pattern.Literal v) e d s σ st t T h k f g = taken_safe (Pattern.Literal v) e d s σ st t T h k f g
    defined_safe (Pattern.Made c ps) e d s σ st t T h k f g = taken_safe (Pattern.Made c ps) e d s σ st t T h k f g
    defined_safe Pattern.Nil e d s σ st t T h k f g = taken_safe Pattern.Nil e d s σ st t T h k f g
    defined_safe (Pattern.Cons a b) e d s σ st t T h k f g = taken_safe (Pattern.Cons a b) e d s σ st t T h k f g
    defined_safe (Pattern.Tuple ps) e d s σ st t T h k f g = taken_safe (Pattern.Tuple ps) e d s σ st t T h k f g
    defined_safe (Pattern.Fields ls) e d s σ st t T h k f g = taken_safe (Pattern.Fields ls) e d s σ st t T h k f g
    defined_safe (Pattern.Named a n) e d s σ st t T h k f g = taken_safe (Pattern.Named a n) e d s σ st t T h k f g

    -- the functions of a group stand for its names
    group_env : (g : Group) (s : Surroundings) (σ : Names) (v : World) → Typed v s σ → Typed v (generalised (function_names g) 0 (GroupHas v s g) s) (bind_group (fill_group g (hide_group g σ)) σ)
    group_env g s σ v k =
        let all = fill_group g (hide_group g σ) in
        subst (λ xs. Typed v (generalised xs 0 (GroupHas v s g) s) (bind_group all σ)) (filled_names g (hide_group g σ))
        (typed_group v all 0 all (GroupHas v s g) s σ
        (λ ts h. subst (λ xs. EachFunctionHas v (under_work xs ts no_surroundings) all ts) (sym (filled_names g (hide_group g σ)))
        (functions_filled v g _ _ _ (fills_work v g ts s no_surroundings σ (paired v _ g ts h) (fills_typed v s σ k)) ts h)) k)

    mutual
      pub term_safe : (e : Tree) (s : Surroundings) (σ : Names) (st : State) (t : Ground) → TopsTyped w st.stage tops → TermHas (at_stage st.stage w) s e t → Typed (at_stage st.stage w) s σ → IsSafe w st.stage t (with_bodies tops body e σ st)
      term_safe (Done v) s σ st t T h k = returns_safe w l t v st h.1
      term_safe (Local y) s σ st t T h k = there_safe w l t (σ y) st (k.at y t h.1)
      term_safe (Top n) s σ st t T h k = there_safe w l t (slice_get tops n) st (T.at n t (tops_at st.stage n t h.1))
      term_safe (Input n) s σ st t T h k =
          add_safe w l (Equation.Input n) st t h.1.0 h.1.2 (λ qs e. input_has w l qs n h.1.0 (inputs_at w l st.stage n h.1.0 h.1.1))
      term_safe (Lambda p b) s σ st t T h k =
          returns_safe w l t (Applicable (Closure p (fill b (hide_all (names_of p) σ)))) st
          (term_filled (at_stage st.stage w) (Lambda p b) s no_surroundings σ (fills_typed (at_stage st.stage w) s σ k) t h).1
      term_safe (Call f a) s σ st t T h k =
          then_one w st.stage (Ground.Function h.1.0 t) t (with_bodies tops body f σ st) _ (at_most_itself w (sort_of w.sorts t)) (term_safe f s σ st (Ground.Function h.1.0 t) T h.1.1 k)
          (λ v r g i. then_one w r.stage h.1.0 t (with_bodies tops body a σ r) _ (function_sorts w l st.stage h.1.0 t (proper_of (at_stage st.stage w) s f (Ground.Function h.1.0 t) h.1.1)) (term_safe a s σ r h.1.0 (tops_on st r g T) (term_later w l st.stage r.stage a s h.1.0 g h.1.2) (typed_on st r s σ g k))
          (λ x u g2 j. apply_safe v x u h.1.0 t (tops_on st u (grows_then w st.stage r.stage u.stage g g2) T) (value_later w r.stage u.stage v (Ground.Function h.1.0 t) g2 i) j))
      term_safe (If c y n) s σ st t T h k =
          then_one w st.stage bool t (with_bodies tops body c σ st) _ (simple_at_most w Simple (sort_of w.sorts t) refl) (term_safe c s σ st bool T h.1.0 k)
          (λ v r g i. truth_safe w l v r t _ _ i
          (term_safe y s σ r t (tops_on st r g T) (term_later w l st.stage r.stage y s t g h.1.1) (typed_on st r s σ g k))
          (term_safe n s σ r t (tops_on st r g T) (term_later w l st.stage r.stage n s t g h.1.2) (typed_on st r s σ g k)))
      term_safe (Guards gs) s σ st t T h k = guards_safe gs s σ st t T h.1 k
      term_safe (Case e bs) s σ st t T h k =
          then_one w st.stage h.1.0 t (with_bodies tops body e σ st) _ (stands_at w l st.stage h.1.0 t h.1.2) (term_safe e s σ st h.1.0 T h.1.1 k)
          (λ v r g i. branches_safe bs v h.1.0 s σ r t (tops_on st r g T) (branches_more (at_stage st.stage w) (at_stage r.stage w) (on st r g) bs s s (same_within s) h.1.0 t h.1.3) (typed_on st r s σ g k) i)
      term_safe (LetValue p e d) s σ st t T h k =
          defined_safe p e d s σ st t T h.1 k (λ u i. term_safe e s σ st u T i k) (λ z ρ r u T2 i k2. term_safe d z ρ r u T2 i k2)
      term_safe (LetFunctions g d) s σ st t T h k =
          term_safe d (generalised (function_names g) 0 (GroupHas (at_stage st.stage w) s g) s) (bind_group (fill_group g (hide_group g σ)) σ) st t T h.1.3 (group_env g s σ (at_stage st.stage w) k)
      term_safe (TupleTree es) s σ st t T h k =
          all_safe es s σ st h.1.0 t _ T h.1.2 (tuple_sorts w l st.stage h.1.0 (subst (IsProper (at_stage st.stage w)) h.1.1 h.0)) k
          (λ vs r g i. returns_safe w l t (Tuple vs) r (h.1.0, h.1.1, i))
      term_safe (ListTree es) s σ st t T h k =
          each_safe es s σ st h.1.0 t _ T h.1.2 (list_sorts w l st.stage h.1.0 (subst (IsProper (at_stage st.stage w)) h.1.1 h.0)) k
          (λ vs r g i. returns_safe w l t (listed vs) r (subst (ValueHas (at_stage r.stage w) (listed vs)) (sym h.1.1) (listed_has w l (at_stage r.stage w) vs h.1.0 i)))
      term_safe (Range a b) s σ st t T h k =
          subst (λ z. IsSafe w st.stage z (with_bodies tops body (Range a b) σ st)) (sym h.1.2)
          (then_one w st.stage int (list_of int) (with_bodies tops body a σ st) _ tt (term_safe a s σ st int T h.1.0 k)
          (λ v r g i. then_one w r.stage int (list_of int) (with_bodies tops body b σ r) _ tt (term_safe b s σ r int (tops_on st r g T) (term_later w l st.stage r.stage b s int g h.1.1) (typed_on st r s σ g k))
          (λ x u g2 j. ranged_safe w l v x u (value_later w r.stage u.stage v int g2 i) j)))
      term_safe (RecordTree fs) s σ st t T h k =
          fields_safe fs s σ st (Ends None) h.1.0 t _ T h.1.2 (record_sorts w l st.stage h.1.0 (subst (IsProper (at_stage st.stage w)) h.1.1 h.0)) k
          (λ new r g i. returns_safe w l t (Record (put_all new NoFields)) r (h.1.0, h.1.1, put_all_has (at_stage r.stage w) new (Ends None) h.1.0 NoFields i refl))
      term_safe (Update e fs) s σ st t T h k =
          then_one w st.stage t t (with_bodies tops body e σ st) _ (at_most_itself w (sort_of w.sorts t)) (term_safe e s σ st t T h.1.2 k)
          (λ v r g i. newest_safe fs s σ r h.1.0 t _ (tops_on st r g T) (newest_more (at_stage st.stage w) (at_stage r.stage w) (on st r g) fs s s (same_within s) h.1.0 h.1.3) (record_sorts w l st.stage h.1.0 (subst (IsProper (at_stage st.stage w)) h.1.1 h.0)) (typed_on st r s σ g k)
          (λ new u g2 j. as_record w l u.stage t h.1.0 (updated v new u) h.1.1 (updated_safe w l v new u h.1.0 (subst (ValueHas (at_stage u.stage w) v) h.1.1 (value_later w r.stage u.stage v t g2 i)) j)))
      term_safe (Extend e fs) s σ st t T h k =
          then_one w st.stage (Ground.Record h.1.0) t (with_bodies tops body e σ st) _ tt (term_safe e s σ st (Ground.Record h.1.0) T h.1.3 k)
          (λ v r g i. fields_safe fs s σ r h.1.0 h.1.1 t _ (tops_on st r g T) (over_more (at_stage st.stage w) (at_stage r.stage w) (on st r g) fs s s (same_within s) h.1.0 h.1.1 h.1.4) (record_sorts w l st.stage h.1.1 (subst (IsProper (at_stage st.stage w)) h.1.2 h.0)) (typed_on st r s σ g k)
          (λ new u g2 j. as_record w l u.stage t h.1.1 (extended v new u) h.1.2 (extended_safe w l v new u h.1.0 h.1.1 (value_later w r.stage u.stage v (Ground.Record h.1.0) g2 i) j)))
      term_safe (Remove e label) s σ st t T h k =
          then_one w st.stage (Ground.Record h.1.0) t (with_bodies tops body e σ st) _ tt (term_safe e s σ st (Ground.Record h.1.0) T h.1.3 k)
          (λ v r g i. as_record w l r.stage t h.1.1 (removed v label r) h.1.2 (removed_safe w l v label r h.1.0 h.1.1 i h.1.4))
      term_safe (Field e label) s σ st t T h k =
          then_one w st.stage (Ground.Record h.1.0) t (with_bodies tops body e σ st) _ tt (term_safe e s σ st (Ground.Record h.1.0) T h.1.1 k)
          (λ v r g i. field_safe w l v label r h.1.0 t i h.1.2)
      term_safe NoTree s σ st t T h k = absurd h.1

      all_safe : (es : Trees) (s : Surroundings) (σ : Names) (st : State) (ts : Grounds) (t : Ground) (go : Values → State → Ending) → TopsTyped w st.stage tops → AllHave (at_stage st.stage w) s es ts → AreSimple w.sorts ts → Typed (at_stage st.stage w) s σ → ((vs : Values) (r : State) → Grows w st.stage r.stage → ValuesHave (at_stage r.stage w) vs ts → IsSafe w r.stage t (go vs r)) → IsSafe w st.stage t (with_all tops body es σ st go)
      all_safe NoTrees s σ st ts t go T h d k f = f NoValues st (grows_same w st.stage) (subst (ValuesHave (at_stage st.stage w) NoValues) (sym h) tt)
      all_safe (AndTree e es) s σ st ts t go T h d k f =
          let c = subst (AreSimple w.sorts) h.2 d in
          then_one w st.stage h.0 t (with_bodies tops body e σ st) _ (simple_at_most w (sort_of w.sorts h.0) (sort_of w.sorts t) c.1) (term_safe e s σ st h.0 T h.3 k)
          (λ v r g i. all_safe es s σ r h.1 t _ (tops_on st r g T) (all_more (at_stage st.stage w) (at_stage r.stage w) (on st r g) es s s (same_within s) h.1 h.4) c.2 (typed_on st r s σ g k)
          (λ vs u g2 j. f (AndValue v vs) u (grows_then w st.stage r.stage u.stage g g2) (subst (ValuesHave (at_stage u.stage w) (AndValue v vs)) (sym h.2) (value_later w r.stage u.stage v h.0 g2 i, j))))

      each_safe : (es : Trees) (s : Surroundings) (σ : Names) (st : State) (a t : Ground) (go : Values → State → Ending) → TopsTyped w st.stage tops → EachHas (at_stage st.stage w) s es a → sort_of w.sorts a ≡ Simple → Typed (at_stage st.stage w) s σ → ((vs : Values) (r : State) → Grows w st.stage r.stage → EachIs w l (at_stage r.stage w) vs a → IsSafe w r.stage t (go vs r)) → IsSafe w st.stage t (with_all tops body es σ st go)
      each_safe NoTrees s σ st a t go T h d k f = f NoValues st (grows_same w st.stage) tt
      each_safe (AndTree e es) s σ st a t go T h d k f =
          then_one w st.stage a t (with_bodies tops body e σ st) _ (simple_at_most w (sort_of w.sorts a) (sort_of w.sorts t) d) (term_safe e s σ st a T h.0 k)
          (λ v r g i. each_safe es s σ r a t _ (tops_on st r g T) (each_more (at_stage st.stage w) (at_stage r.stage w) (on st r g) es s s (same_within s) a h.1) d (typed_on st r s σ g k)
          (λ vs u g2 j. f (AndValue v vs) u (grows_then w st.stage r.stage u.stage g g2) (value_later w r.stage u.stage v a g2 i, j)))

      guards_safe : (gs : GuardedTrees) (s : Surroundings) (σ : Names) (st : State) (t : Ground) → TopsTyped w st.stage tops → GuardsHave (at_stage st.stage w) s gs t → Typed (at_stage st.stage w) s σ → IsSafe w st.stage t (with_guards tops body gs σ st)
      guards_safe NoGuards s σ st t T h k = grows_same w st.stage
      guards_safe (AndGuard c b gs) s σ st t T h k =
          then_one w st.stage bool t (with_bodies tops body c σ st) _ (simple_at_most w Simple (sort_of w.sorts t) refl) (term_safe c s σ st bool T h.0 k)
          (λ v r g i. truth_safe w l v r t _ _ i
          (term_safe b s σ r t (tops_on st r g T) (term_later w l st.stage r.stage b s t g h.1) (typed_on st r s σ g k))
          (guards_safe gs s σ r t (tops_on st r g T) (guards_more (at_stage st.stage w) (at_stage r.stage w) (on st r g) gs s s (same_within s) t h.2) (typed_on st r s σ g k)))

      branches_safe : (bs : Branches) (v : Value) (from : Ground) (s : Surroundings) (σ : Names) (st : State) (t : Ground) → TopsTyped w st.stage tops → BranchesHave (at_stage st.stage w) s bs from t → Typed (at_stage st.stage w) s σ → ValueHas (at_stage st.stage w) v from → IsSafe w st.stage t (with_branches tops body bs v σ st)
      branches_safe NoBranches v from s σ st t T h k i = grows_same w st.stage
      branches_safe (AndBranch p b bs) v from s σ st t T h k i =
          branch_safe w l (matching p v) h.0.0 st t (λ bindings r. with_bodies tops body b (bind_all bindings σ) r) (λ r. with_branches tops body bs v σ r)
          (match_has (at_stage st.stage w) p v from h.0.0 h.0.1 i)
          (λ ds j. term_safe b (with_bound h.0.0 s) (bind_all ds σ) st t T h.0.2 (typed_bound (at_stage st.stage w) ds h.0.0 s σ j k))
          (branches_safe bs v from s σ st t T h.1 k i)

      fields_safe : (fs : FieldTrees) (s : Surroundings) (σ : Names) (st : State) (before row : Row) (t : Ground) (go : List (List ℕ × Value) → State → Ending) → TopsTyped w st.stage tops → FieldsOver (at_stage st.stage w) s fs before row → HasSimpleFields w.sorts row → Typed (at_stage st.stage w) s σ → ((new : List (List ℕ × Value)) (r : State) → Grows w st.stage r.stage → PutHave (at_stage r.stage w) new before row → IsSafe w r.stage t (go new r)) → IsSafe w st.stage t (with_fields tops body fs σ st go)
      fields_safe NoFieldTrees s σ st before row t go T h d k f = f [] st (grows_same w st.stage) h
      fields_safe (AndFieldTree label e fs) s σ st before row t go T h d k f =
          let c = extended_simple w.sorts label h.0 h.1 (subst (HasSimpleFields w.sorts) h.4 d) in
          then_one w st.stage h.0 t (with_bodies tops body e σ st) _ (simple_at_most w (sort_of w.sorts h.0) (sort_of w.sorts t) c.0) (term_safe e s σ st h.0 T h.2 k)
          (λ v r g i. fields_safe fs s σ r before h.1 t _ (tops_on st r g T) (over_more (at_stage st.stage w) (at_stage r.stage w) (on st r g) fs s s (same_within s) before h.1 h.3) c.1 (typed_on st r s σ g k)
          (λ new u g2 j. f ((label, v) ∷ new) u (grows_then w st.stage r.stage u.stage g g2) (h.0, h.1, value_later w r.stage u.stage v h.0 g2 i, j, h.4)))

      newest_safe : (fs : FieldTrees) (s : Surroundings) (σ : Names) (st : State) (row : Row) (t : Ground) (go : List (List ℕ × Value) → State → Ending) → TopsTyped w st.stage tops → NewestAre (at_stage st.stage w) s fs row → HasSimpleFields w.sorts row → Typed (at_stage st.stage w) s σ → ((new : List (List ℕ × Value)) (r : State) → Grows w st.stage r.stage → SetHave (at_stage r.stage w) new row → IsSafe w r.stage t (go new r)) → IsSafe w st.stage t (with_fields tops body fs σ st go)
      newest_safe NoFieldTrees s σ st row t go T h d k f = f [] st (grows_same w st.stage) tt
      newest_safe (AndFieldTree label e fs) s σ st row t go T h d k f =
          then_one w st.stage h.0.0 t (with_bodies tops body e σ st) _ (simple_at_most w (sort_of w.sorts h.0.0) (sort_of w.sorts t) (newest_simple w.sorts label h.0.0 row d h.0.1)) (term_safe e s σ st h.0.0 T h.0.2 k)
          (λ v r g i. newest_safe fs s σ r row t _ (tops_on st r g T) (newest_more (at_stage st.stage w) (at_stage r.stage w) (on st r g) fs s s (same_within s) row h.1) d (typed_on st r s σ g k)
          (λ new u g2 j. f ((label, v) ∷ new) u (grows_then w st.stage r.stage u.stage g g2) (h.0.0, h.0.1, value_later w r.stage u.stage v h.0.0 g2 i, j)))

-- calls lie at most k deep
depth_safe : (w : World) (l : HasLibrary w) (tops : List Value) (k : ℕ) → SafeBodies w l tops (to_depth tops k)
unfolding to_depth
depth_safe w l tops zero e s σ st t T h k = grows_same w st.stage
depth_safe w l tops (suc n) e s σ st t T h k = term_safe w l tops (to_depth tops n) (depth_safe w l tops n) e s σ st t T h k

-- a well-typed term is safe, with any names of these types
pub evaluate_safe : (w : World) (l : HasLibrary w) (tops : List Value) (e : Tree) (s : Surroundings) (σ : Names) (st : State) (t : Ground) → TopsTyped w st.stage tops → TermHas (at_stage st.stage w) s e t → Typed (at_stage st.stage w) s σ → IsSafe w st.stage t (evaluate tops e σ st)
unfolding evaluate
evaluate_safe w l tops e s σ st t T h k = depth_safe w l tops (suc st.left) e s σ st t T h k

-- a value that is given values one by one
pub given_all_safe : (w : World) (l : HasLibrary w) (tops : List Value) (vs : List Value) (f : Value) (st : State) (whole t : Ground) → TopsTyped w st.stage tops → ValueHas (at_stage st.stage w) f whole → AreTaken (at_stage st.stage w) (values vs) whole t → MayStandIn w whole t → IsSafe w st.stage t (applied tops f vs st)
given_all_safe w l tops [] f st whole t T h k m = returns_safe w l t f st (subst (ValueHas (at_stage st.stage w) f) (sym k) h)
given_all_safe w l tops (v ∷ vs) f st (Ground.Function a r) t T h k m =
    then_one w st.stage r t (apply (evaluate tops) f v st) _ m
    (apply_safe w l tops (evaluate tops) (λ e s σ. evaluate_safe w l tops e s σ) f v st a r T h k.0)
    (λ g u i j. given_all_safe w l tops vs g u r t (tops_later w l st.stage u.stage tops i T) j (taken_more (at_stage st.stage w) (at_stage u.stage w) (stages_below w st.stage u.stage i) (values vs) no_surroundings r t k.1) m)
given_all_safe w l tops (v ∷ vs) f st (Ground.Named n ts) t T h k m = absurd k
given_all_safe w l tops (v ∷ vs) f st (Ground.Tuple ts) t T h k m = absurd k
given_all_safe w l tops (v ∷ vs) f st (Ground.Record q) t T h k m = absurd k
given_all_safe w l tops (v ∷ vs) f st (Ground.Opaque n g) t T h k m = absurd k
