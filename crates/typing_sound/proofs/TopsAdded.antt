-- A group's values join the top values, each with the types of its name.
use Rattle.std.proofs.Common.{◌≡◌, ℕ, zero, suc, ◌<◌, ◌+◌, ◌==◌, ◌||◌, ◌⊎◌, inl, inr, Bool, true, false, Option, Some, None, List, [], ◌∷◌, ◌++◌, length, refl, sym, ap, ◌∙◌, subst, arith}
use Rattle.std.specs.Prelude.{slice_get}
use Rattle.std.proofs.lemmas.Bool.{eqb-true}
use Rattle.elm_meaning.specs.declared.callee.Callee.TheVariants as callee
use Rattle.elm_typing.specs.Ground.{Ground}
use Rattle.elm_typing.specs.Names.{signal_of}
use Rattle.elm_typing.specs.Sorts.{Sort}
use Rattle.elm_meaning.specs.FreeNames.{is_among}
use Rattle.elm_meaning.specs.Values.{Value, Applicable, Closure, Tree, Lambda}
use Rattle.elm_meaning.specs.Matching.{names_of}
use Rattle.elm_meaning.specs.Substitution.{no_names, hide_all, fill}
use Rattle.elm_meaning.specs.Equations.{Equation}
use Rattle.elm_meaning.specs.Progress.{Stage, State, Returns}
use Rattle.elm_meaning.specs.Evaluation.{to_depth, evaluate, begun, eval}
use Rattle.typing_rules.specs.Unions.{Union}
use Rattle.typing_rules.specs.Library.{library_unions}
use Rattle.typing_rules.specs.Worlds.{Types, Surroundings, no_surroundings, exactly, Either, with_name, World, with_tops}
use Rattle.typing_rules.specs.Rules.{Typings, type_at, under_work, GivenBy, generalised}
use Rattle.typing_rules.specs.CoreTypes.{CoreHas}
use Rattle.typing_rules.specs.Core.{erased}
use Rattle.typing_rules.specs.TermTypes.{TermHas, ValueHas}
use Rattle.typing_rules.specs.Nodes.{NativeCall, CallGives, call_of, EquationHas, with_node, with_equations, without_nodes, at_equations}
use Rattle.typing_rules.specs.TopGroups.{Definition, Tops, no_tops, world_with, tops_of, DefinitionsHave, TopsHave, with_group, after_groups}
use Rattle.typing_sound.specs.SafeEndings.{at_stage, IsSafe, TopsTyped}
use Rattle.typing_sound.specs.Settings.{Setting, before_nodes, world_of}
use Rattle.typing_sound.specs.TopValues.{tops_in, AreBelow, GroupsAreBelow, AreNumbered, GivesFunction, AreFunctions, with_one_more}
use Rattle.typing_sound.proofs.Combine.{Sub, Within, same_within, name_more, Alike}
use Rattle.typing_sound.proofs.Monotone.{Below, callee_more, taken_more, value_more}
use Rattle.typing_sound.proofs.Filled.{Paired, term_filled}
use Rattle.typing_sound.proofs.Bound.{work_given}
use Rattle.typing_sound.proofs.Stages.{stages_below}
use Rattle.typing_sound.proofs.Erased.{core_erased}
use Rattle.typing_sound.proofs.TopsUsed.{core_tops}
use Rattle.typing_sound.proofs.Sound.{library_at}
use Rattle.typing_sound.proofs.Laws.{library, term_safe_in}

-- equations have their types in a greater world

calls_more : (v w : World) → Below v w → (c : Option NativeCall) → Sub (CallGives v c) (CallGives w c)
calls_more v w b None t h = h
calls_more v w b (Some c) t h = (h.0, callee_more v w b (callee.Native c.0) h.0 h.1, taken_more v w b c.1 no_surroundings h.0 t h.2)

pub equation_more : (v w : World) → Below v w → (q : Equation) → Sub (EquationHas v q) (EquationHas w q)
equation_more v w b (Equation.Input n) t h = subst (λ z. slice_get z n ≡ Some t) b.alike.inputs h
equation_more v w b (Equation.Constant x) t h = calls_more v w b (call_of (Equation.Constant x)) (signal_of t) h
equation_more v w b (Equation.Map f ns) t h = calls_more v w b (call_of (Equation.Map f ns)) (signal_of t) h
equation_more v w b (Equation.Foldp f x n) t h = calls_more v w b (call_of (Equation.Foldp f x n)) (signal_of t) h
equation_more v w b (Equation.Merge m n) t h = calls_more v w b (call_of (Equation.Merge m n)) (signal_of t) h
equation_more v w b (Equation.Filter f x n) t h = calls_more v w b (call_of (Equation.Filter f x n)) (signal_of t) h
equation_more v w b (Equation.FilterMap f x n) t h = calls_more v w b (call_of (Equation.FilterMap f x n)) (signal_of t) h
equation_more v w b (Equation.DropRepeats n) t h = calls_more v w b (call_of (Equation.DropRepeats n)) (signal_of t) h
equation_more v w b (Equation.SampleOn m n) t h = calls_more v w b (call_of (Equation.SampleOn m n)) (signal_of t) h
equation_more v w b (Equation.Async n) t h = calls_more v w b (call_of (Equation.Async n)) (signal_of t) h

pub node_below : (k : ℕ) (q : Equation) (v w : World) → Below v w → Below (with_node k q v) (with_node k q w)
node_below k q v w b = record {
  alike = record { sorts = b.alike.sorts; unions = b.alike.unions; inputs = b.alike.inputs };
  tops = b.tops;
  nodes = (name_more k (EquationHas v q) (EquationHas w q) v.nodes w.nodes (equation_more v w b q) (record { at = b.nodes })).at;
}

equations_below : (k : ℕ) (qs : List Equation) (v w : World) → Below v w → Below (with_equations k qs v) (with_equations k qs w)
equations_below k [] v w b = b
equations_below k (q ∷ qs) v w b = equations_below (suc k) qs (with_node k q v) (with_node k q w) (node_below k q v w b)

at_equations_below : (qs : List Equation) (v w : World) → Below v w → Below (at_equations qs v) (at_equations qs w)
at_equations_below qs v w b =
    equations_below 0 qs (without_nodes v) (without_nodes w)
    (record { alike = record { sorts = b.alike.sorts; unions = b.alike.unions; inputs = b.alike.inputs }; tops = b.tops; nodes = λ n t h. h })

stage_world : (q : Stage) (v w : World) → Below v w → Below (at_stage q v) (at_stage q w)
stage_world None v w b = b
stage_world (Some qs) v w b = record {
  alike = record { sorts = b.alike.sorts; unions = b.alike.unions; inputs = b.alike.inputs };
  tops = b.tops;
  nodes = (at_equations_below qs v w b).nodes;
}

pub setting_below : (p r : Setting) → p.equations ≡ r.equations → Below (before_nodes p) (before_nodes r) → Below (world_of p) (world_of r)
setting_below p r e b = record {
  alike = record { sorts = b.alike.sorts; unions = b.alike.unions; inputs = b.alike.inputs };
  tops = b.tops;
  nodes = λ n t h. subst (λ z. (at_equations z (before_nodes r)).nodes n t) e ((at_equations_below p.equations (before_nodes p) (before_nodes r) b).nodes n t h);
}

-- the types of a group's names, and of all others

given_or : (xs : List ℕ) (i : ℕ) (G : Typings) (s : Surroundings) (n : ℕ) (t : Ground) → generalised xs i G s n t → (is_among n xs ≡ true) ⊎ s n t
given_or [] i G s n t h = inr h
given_or (x ∷ xs) i G s n t h = from_more (given_or xs (suc i) G (with_name x (GivenBy G i) s) n t h)
  where
    from_here : (b : Bool) → Either b (GivenBy G i t) (s n t) → ((b || is_among n xs) ≡ true) ⊎ s n t
    from_here true g = inl refl
    from_here false g = inr g

    or_true : (b c : Bool) → c ≡ true → (b || c) ≡ true
    or_true true c e = refl
    or_true false c e = e

    from_more : (is_among n xs ≡ true) ⊎ with_name x (GivenBy G i) s n t → (is_among n (x ∷ xs) ≡ true) ⊎ s n t
    from_more (inl e) = inl (or_true (x == n) (is_among n xs) e)
    from_more (inr g) = from_here (x == n) g

outside_given : (xs : List ℕ) (i : ℕ) (G : Typings) (s : Surroundings) (n : ℕ) (t : Ground) → is_among n xs ≡ false → s n t → generalised xs i G s n t
outside_given [] i G s n t e h = h
outside_given (x ∷ xs) i G s n t e h = outside_given xs (suc i) G (with_name x (GivenBy G i) s) n t (second (x == n) (is_among n xs) e) (here (x == n) e)
  where
    second : (b c : Bool) → (b || c) ≡ false → c ≡ false
    second true c f = absurd cc
    second false c f = f

    here : (b : Bool) → (b || is_among n xs) ≡ false → Either b (GivenBy G i t) (s n t)
    here true f = absurd cc
    here false f = h

among_below : (k : ℕ) (ds : List Definition) (n : ℕ) → AreBelow k ds → is_among n (tops_of ds) ≡ true → n < k
among_below k [] n b e = absurd cc
among_below k (d ∷ ds) n b e = first (d.top == n) refl e (among_below k ds n b.1)
  where
    first : (c : Bool) → (d.top == n) ≡ c → (c || is_among n (tops_of ds)) ≡ true → (is_among n (tops_of ds) ≡ true → n < k) → n < k
    first true p f g = (let i = eqb-true d.top n p in subst (λ z. z < k) i b.0)
    first false p f g = g f

numbered_above : (k : ℕ) (ds : List Definition) (n : ℕ) → AreNumbered k ds → n < k → is_among n (tops_of ds) ≡ false
numbered_above k [] n b h = refl
numbered_above k (d ∷ ds) n b h = first (d.top == n) refl (numbered_above (suc k) ds n b.1 (omega (arith, h)))
  where
    first : (c : Bool) → (d.top == n) ≡ c → is_among n (tops_of ds) ≡ false → (c || is_among n (tops_of ds)) ≡ false
    first true p f = (let i = eqb-true d.top n p in let j = b.0 in absurd (omega (arith, h, i, j)))
    first false p f = f

groups_below : (us : List Union) (is : List Ground) (sorts : ℕ → Sort) (gs : List (List Definition)) (k : ℕ) (tops : Tops) → ((n : ℕ) (t : Ground) → tops sorts n t → n < k) → GroupsAreBelow k gs → (n : ℕ) (t : Ground) → after_groups us is gs tops sorts n t → n < k
groups_below us is sorts [] k tops f b n t h = f n t h
groups_below us is sorts (g ∷ gs) k tops f b n t h =
    groups_below us is sorts gs k (with_group us is g tops) (λ m u e. either m u (given_or (tops_of g) 0 (TopsHave (world_with us is tops sorts) g) (tops sorts) m u e)) b.1 n t h
  where
    either : (m : ℕ) (u : Ground) → (is_among m (tops_of g) ≡ true) ⊎ tops sorts m u → m < k
    either m u (inl e) = among_below k g m b.0 e
    either m u (inr e) = f m u e

pub after_append : (us : List Union) (is : List Ground) (gs : List (List Definition)) (g : List Definition) (tops : Tops) → after_groups us is (gs ++ g ∷ []) tops ≡ with_group us is g (after_groups us is gs tops)
after_append us is [] g tops = refl
after_append us is (h ∷ gs) g tops = after_append us is gs g (with_group us is h tops)

-- values of lists

there_before : (xs ys : List Value) (n : ℕ) (v : Value) → slice_get xs n ≡ Some v → slice_get (xs ++ ys) n ≡ Some v
there_before [] ys n v e = absurd cc
there_before (x ∷ xs) ys zero v e = e
there_before (x ∷ xs) ys (suc n) v e = there_before xs ys n v e

there_behind : (xs ys : List Value) (n : ℕ) → slice_get (xs ++ ys) (length xs + n) ≡ slice_get ys n
there_behind [] ys n = (let e : 0 + n ≡ n = omega arith in ap (slice_get ys) e)
there_behind (x ∷ xs) ys n = (let e : suc (length xs) + n ≡ suc (length xs + n) = omega arith in ap (slice_get ((x ∷ xs) ++ ys)) e ∙ there_behind xs ys n)

some_value : (x v : Value) (r s : State) → Returns x r ≡ Returns v s → x ≡ v
some_value x v r s e = cc

module _ (p : Setting) where
  abbrev before : World
  before = before_nodes p

  -- the types of top values with one more group
  abbrev given : List Definition → ℕ → Types
  given g = with_group (library_unions ++ p.own) p.inputs g (after_groups (library_unions ++ p.own) p.inputs p.groups no_tops) p.sorts

  to_given : (g : List Definition) (n : ℕ) → Sub ((before_nodes (with_one_more g p)).tops n) (given g n)
  to_given g n t h = subst (λ z. z p.sorts n t) (after_append (library_unions ++ p.own) p.inputs p.groups g no_tops) h

  from_given : (g : List Definition) (n : ℕ) → Sub (given g n) ((before_nodes (with_one_more g p)).tops n)
  from_given g n t h = subst (λ z. z p.sorts n t) (sym (after_append (library_unions ++ p.own) p.inputs p.groups g no_tops)) h

  fresh : (k n : ℕ) (t : Ground) → GroupsAreBelow k p.groups → before.tops n t → n < k
  fresh k n t b h = groups_below (library_unions ++ p.own) p.inputs p.sorts p.groups k no_tops (λ m u e. absurd e) b n t h

  pub one_more_below : (k : ℕ) (g : List Definition) → GroupsAreBelow k p.groups → AreNumbered k g → Below before (before_nodes (with_one_more g p))
  one_more_below k g b d = record {
    alike = record { sorts = refl; unions = refl; inputs = refl };
    tops = λ n t h. from_given g n t (outside_given (tops_of g) 0 (TopsHave before g) before.tops n t (numbered_above k g n d (fresh k n t b h)) h);
    nodes = λ n t h. h;
  }

  more_below : (k : ℕ) (g : List Definition) (q : Stage) → GroupsAreBelow k p.groups → AreNumbered k g → Below (at_stage q (world_of p)) (at_stage q (world_of (with_one_more g p)))
  more_below k g q b d = stage_world q (world_of p) (world_of (with_one_more g p)) (setting_below p (with_one_more g p) refl (one_more_below k g b d))

  -- a value

  tops_here : (q : Stage) (n : ℕ) → Sub (before.tops n) ((at_stage q (world_of p)).tops n)
  tops_here None n t h = h
  tops_here (Some qs) n t h = h

  alike_here : (q : Stage) (tops : ℕ → Types) → Alike (with_tops tops before) (at_stage q (world_of p))
  alike_here None tops = record { sorts = refl; unions = refl; inputs = refl }
  alike_here (Some qs) tops = record { sorts = refl; unions = refl; inputs = refl }

  other_tops : (b : Bool) (x n : ℕ) (xs : List ℕ) (P Q : Type 0) → (x == n) ≡ b → is_among x xs ≡ false → is_among n xs ≡ true → Either b P Q → Q
  other_tops true x n xs P Q e f g h = absurd (let i = ap (λ z. is_among z xs) (eqb-true x n e) in let j : true ≡ false = sym g ∙ (sym i ∙ f) in cc)
  other_tops false x n xs P Q e f g h = h

  pub body_has : (d : Definition) (q : Stage) (types : List Ground) (t : Ground) → is_among d.top (tops_in d.body) ≡ false → TopsHave before (d ∷ []) types → type_at types 0 ≡ Some t → TermHas (at_stage q (world_of p)) no_surroundings (erased d.body) t
  body_has d q [] t f h e = absurd h
  body_has d q (u ∷ y ∷ ys) t f h e = absurd h.2
  body_has d q (u ∷ []) t f h e =
      let i : u ≡ t = cc in
      core_erased (at_stage q (world_of p)) (library_at (world_of p) (library p) q) d.body no_surroundings no_surroundings (same_within no_surroundings) t
      (core_tops (with_tops (with_name d.top (exactly u) before.tops) before) (at_stage q (world_of p)) (alike_here q (with_name d.top (exactly u) before.tops)) d.body no_surroundings no_surroundings
      (record { at = λ n g z k. tops_here q n z (other_tops (d.top == n) d.top n (tops_in d.body) (z ≡ u) (before.tops n z) refl f g k) })
      (same_within no_surroundings) t (subst (CoreHas (with_tops (with_name d.top (exactly u) before.tops) before) no_surroundings d.body) i h.0))

  pub first_type : (d : Definition) (types : List Ground) → TopsHave before (d ∷ []) types → (t : Ground) × (type_at types 0 ≡ Some t)
  first_type d [] h = absurd h
  first_type d (u ∷ us) h = (u, refl)

  -- the evaluation of a definition that doesn't refer to itself
  pub body_safe : (d : Definition) (tops : List Value) (stage : Stage) (fuel : ℕ) (ts : List Ground) (t : Ground) → is_among d.top (tops_in d.body) ≡ false → TopsTyped (world_of p) stage tops → TopsHave before (d ∷ []) ts → type_at ts 0 ≡ Some t → IsSafe (world_of p) stage t (eval tops stage (erased d.body) fuel)
  body_safe d tops stage fuel ts t f T i j = term_safe_in p tops stage (erased d.body) t fuel T (body_has d stage ts t f i j)

  -- whether or not it has a type with these sorts
  pub value_joins_behind : (d : Definition) (tops : List Value) (stage : Stage) (fuel : ℕ) (v : Value) (s : State) → GroupsAreBelow (length tops) p.groups → d.top ≡ length tops → is_among d.top (tops_in d.body) ≡ false → TopsTyped (world_of p) stage tops → Below (at_stage stage (world_of p)) (at_stage s.stage (world_of p)) → eval tops stage (erased d.body) fuel ≡ Returns v s → TopsTyped (world_of (with_one_more (d ∷ []) p)) s.stage (tops ++ v ∷ [])
  value_joins_behind d tops stage fuel v s b k f T later e = record { at = λ n t g. by_number (d.top == n) n t refl (to_given (d ∷ []) n t g) }
    where
      safe : (ts : List Ground) (t : Ground) → TopsHave before (d ∷ []) ts → type_at ts 0 ≡ Some t → IsSafe (world_of p) stage t (Returns v s)
      safe ts t i j = subst (IsSafe (world_of p) stage t) e (body_safe d tops stage fuel ts t f T i j)

      greater : Below (at_stage s.stage (world_of p)) (at_stage s.stage (world_of (with_one_more (d ∷ []) p)))
      greater = more_below (length tops) (d ∷ []) s.stage b (k, tt)

      here : slice_get (tops ++ v ∷ []) (length tops) ≡ Some v
      here = (let z : length tops ≡ length tops + 0 = omega arith in ap (slice_get (tops ++ v ∷ [])) z ∙ there_behind tops (v ∷ []) 0)

      by_number : (c : Bool) (n : ℕ) (t : Ground) → (d.top == n) ≡ c → Either c (GivenBy (TopsHave before (d ∷ [])) 0 t) (before.tops n t) → (x : Value) × (slice_get (tops ++ v ∷ []) n ≡ Some x) × ValueHas (at_stage s.stage (world_of (with_one_more (d ∷ []) p))) x t
      by_number true n t i g =
          let j : length tops ≡ n = sym k ∙ eqb-true d.top n i in
          (v, subst (λ z. slice_get (tops ++ v ∷ []) z ≡ Some v) j here, value_more (at_stage s.stage (world_of p)) (at_stage s.stage (world_of (with_one_more (d ∷ []) p))) greater v no_surroundings t (safe g.0 t g.1 g.2).1)
      by_number false n t i g =
          let o = T.at n t g in
          (o.0, there_before tops (v ∷ []) n o.0 o.1, value_more (at_stage s.stage (world_of p)) (at_stage s.stage (world_of (with_one_more (d ∷ []) p))) greater o.0 no_surroundings t (value_more (at_stage stage (world_of p)) (at_stage s.stage (world_of p)) later o.0 no_surroundings t o.2))

  pub value_joins : (d : Definition) (tops : List Value) (stage : Stage) (fuel : ℕ) (v : Value) (s : State) (types : List Ground) → GroupsAreBelow (length tops) p.groups → d.top ≡ length tops → is_among d.top (tops_in d.body) ≡ false → TopsTyped (world_of p) stage tops → TopsHave before (d ∷ []) types → eval tops stage (erased d.body) fuel ≡ Returns v s → TopsTyped (world_of (with_one_more (d ∷ []) p)) s.stage (tops ++ v ∷ [])
  value_joins d tops stage fuel v s types b k f T h e =
      let u = first_type d types h in
      let g = subst (IsSafe (world_of p) stage u.0) e (body_safe d tops stage fuel types u.0 f T h u.1) in
      value_joins_behind d tops stage fuel v s b k f T (stages_below (world_of p) stage s.stage g.0) e

  -- functions

  function_has : (w : World) (tops : List Value) (stage : Stage) (e : Tree) (v : Value) (t : Ground) → GivesFunction tops stage e v → TermHas w no_surroundings e t → ValueHas w v t
  unfolding eval evaluate to_depth
  function_has w tops stage (Lambda q b) v t g h =
      let i = g 0 in
      let j = some_value (Applicable (Closure q (fill b (hide_all (names_of q) no_names)))) v (begun stage 0) i.0 i.1 in
      subst (λ z. ValueHas w z t) j (term_filled w (Lambda q b) no_surroundings no_surroundings no_names (record { at = λ y u k. absurd k }) t h).1
  function_has w tops stage e v t g h = absurd g

  found : (ds : List Definition) (k j : ℕ) (G : Typings) (s : Surroundings) (n : ℕ) (t : Ground) → AreNumbered k ds → generalised (tops_of ds) j G s n t → ((i : ℕ) × (n ≡ k + i) × GivenBy G (j + i) t) ⊎ s n t
  found [] k j G s n t b h = inr h
  found (d ∷ ds) k j G s n t b h = next (found ds (suc k) (suc j) G (with_name d.top (GivenBy G j) s) n t b.1 h)
    where
      here : (c : Bool) → (d.top == n) ≡ c → Either c (GivenBy G j t) (s n t) → ((i : ℕ) × (n ≡ k + i) × GivenBy G (j + i) t) ⊎ s n t
      here true e g =
          let x = eqb-true d.top n e in
          let y = b.0 in
          let z : n ≡ k + 0 = omega (arith, x, y) in
          let u : j ≡ j + 0 = omega arith in
          inl (0, z, subst (λ m. GivenBy G m t) u g)
      here false e g = inr g

      next : ((i : ℕ) × (n ≡ suc k + i) × GivenBy G (suc j + i) t) ⊎ with_name d.top (GivenBy G j) s n t → ((i : ℕ) × (n ≡ k + i) × GivenBy G (j + i) t) ⊎ s n t
      next (inl g) =
          let e = g.1 in
          let z : n ≡ k + suc g.0 = omega (arith, e) in
          let u : suc j + g.0 ≡ j + suc g.0 = omega arith in
          inl (suc g.0, z, subst (λ m. GivenBy G m t) u g.2)
      next (inr g) = here (d.top == n) refl g

  -- the value at a place, and the definition whose function it is
  place_has : (w : World) (tops : List Value) (stage : Stage) (ds : List Definition) (vs : List Value) (types : List Ground) (i : ℕ) (t : Ground) → AreFunctions tops stage ds vs → DefinitionsHave w ds types → type_at types i ≡ Some t → (d : Definition) × (v : Value) × (slice_get vs i ≡ Some v) × GivesFunction tops stage (erased d.body) v × CoreHas w no_surroundings d.body t
  place_has w tops stage [] [] [] i t f h e = absurd cc
  place_has w tops stage [] [] (u ∷ us) i t f h e = absurd h
  place_has w tops stage [] (v ∷ vs) types i t f h e = absurd f
  place_has w tops stage (d ∷ ds) [] types i t f h e = absurd f
  place_has w tops stage (d ∷ ds) (v ∷ vs) [] i t f h e = absurd h
  place_has w tops stage (d ∷ ds) (v ∷ vs) (u ∷ us) zero t f h e = (let z : u ≡ t = cc in (d, v, refl, f.0, subst (CoreHas w no_surroundings d.body) z h.0))
  place_has w tops stage (d ∷ ds) (v ∷ vs) (u ∷ us) (suc i) t f h e = place_has w tops stage ds vs us i t f.1 h.2 e

  paired_tops : (w : World) (ds : List Definition) (types : List Ground) → DefinitionsHave w ds types → Paired (tops_of ds) types
  paired_tops w [] [] h = tt
  paired_tops w [] (u ∷ us) h = absurd h
  paired_tops w (d ∷ ds) [] h = absurd h
  paired_tops w (d ∷ ds) (u ∷ us) h = paired_tops w ds us h.2

  pub functions_join : (ds : List Definition) (tops vs : List Value) (stage : Stage) → GroupsAreBelow (length tops) p.groups → AreNumbered (length tops) ds → TopsTyped (world_of p) stage tops → AreFunctions tops stage ds vs → TopsTyped (world_of (with_one_more ds p)) stage (tops ++ vs)
  functions_join ds tops vs stage b k T f = record { at = λ n t g. joined n t (found ds (length tops) 0 (TopsHave before ds) before.tops n t k (to_given ds n t g)) }
    where
      greater : Below (at_stage stage (world_of p)) (at_stage stage (world_of (with_one_more ds p)))
      greater = more_below (length tops) ds stage b k

      tops_after : (q : Stage) (n : ℕ) → Sub (given ds n) ((at_stage q (world_of (with_one_more ds p))).tops n)
      tops_after None n t h = from_given ds n t h
      tops_after (Some qs) n t h = from_given ds n t h

      alike_after : (q : Stage) (u : ℕ → Types) → Alike (with_tops u before) (at_stage q (world_of (with_one_more ds p)))
      alike_after None u = record { sorts = refl; unions = refl; inputs = refl }
      alike_after (Some qs) u = record { sorts = refl; unions = refl; inputs = refl }

      work_within : (types : List Ground) → TopsHave before ds types → Within (under_work (tops_of ds) types before.tops) (given ds)
      work_within types h =
          work_given (tops_of ds) types 0 (TopsHave before ds) types before.tops before.tops (paired_tops _ ds types h) h (λ j u e. let z : 0 + j ≡ j = omega arith in ap (type_at types) z ∙ e) (same_within before.tops)

      body_after : (types : List Ground) (d : Definition) (t : Ground) → TopsHave before ds types → CoreHas (with_tops (under_work (tops_of ds) types before.tops) before) no_surroundings d.body t → TermHas (at_stage stage (world_of (with_one_more ds p))) no_surroundings (erased d.body) t
      body_after types d t h c =
          core_erased (at_stage stage (world_of (with_one_more ds p))) (library_at (world_of (with_one_more ds p)) (library (with_one_more ds p)) stage) d.body no_surroundings no_surroundings (same_within no_surroundings) t
          (core_tops (with_tops (under_work (tops_of ds) types before.tops) before) (at_stage stage (world_of (with_one_more ds p))) (alike_after stage (under_work (tops_of ds) types before.tops)) d.body no_surroundings no_surroundings
          (record { at = λ n e z g. tops_after stage n z ((work_within types h).at n z g) }) (same_within no_surroundings) t c)

      behind : (i : ℕ) (n : ℕ) (v : Value) → n ≡ length tops + i → slice_get vs i ≡ Some v → slice_get (tops ++ vs) n ≡ Some v
      behind i n v e g = ap (slice_get (tops ++ vs)) e ∙ (there_behind tops vs i ∙ g)

      joined : (n : ℕ) (t : Ground) → ((i : ℕ) × (n ≡ length tops + i) × GivenBy (TopsHave before ds) (0 + i) t) ⊎ before.tops n t → (x : Value) × (slice_get (tops ++ vs) n ≡ Some x) × ValueHas (at_stage stage (world_of (with_one_more ds p))) x t
      joined n t (inl g) =
          let z : 0 + g.0 ≡ g.0 = omega arith in
          let i = g.2 in
          let o = place_has (with_tops (under_work (tops_of ds) i.0 before.tops) before) tops stage ds vs i.0 g.0 t f i.1 (sym (ap (type_at i.0) z) ∙ i.2) in
          (o.1, behind g.0 n o.1 g.1 o.2, function_has (at_stage stage (world_of (with_one_more ds p))) tops stage (erased o.0.body) o.1 t o.3 (body_after i.0 o.0 t i.1 o.4))
      joined n t (inr g) =
          let o = T.at n t g in
          (o.0, there_before tops vs n o.0 o.1, value_more (at_stage stage (world_of p)) (at_stage stage (world_of (with_one_more ds p))) greater o.0 no_surroundings t o.2)

-- before the first group
pub no_values : (p : Setting) (stage : Stage) → p.groups ≡ [] → TopsTyped (world_of p) stage []
no_values p stage e = record { at = λ n t h. absurd (subst (λ z. after_groups (library_unions ++ p.own) p.inputs z no_tops p.sorts n t) e h) }
