-- Stage one of a whole program: its top values one after the other, group by group.
use Rattle.std.proofs.Common.{◌≡◌, ℕ, suc, ◌+◌, ◌≤◌, ◌⊎◌, inl, inr, false, Some, None, List, [], ◌∷◌, ◌++◌, length, refl, sym, ap, ◌∙◌, subst, arith, append_assoc}
use Rattle.std.proofs.lemmas.List.{append-nil, length-append}
use Rattle.elm_typing.specs.Ground.{Ground}
use Rattle.elm_typing.specs.Sorts.{Sort}
use Rattle.elm_meaning.specs.FreeNames.{is_among}
use Rattle.elm_meaning.specs.Values.{Value, Applicable, Closure, Tree, Lambda}
use Rattle.elm_meaning.specs.Matching.{names_of}
use Rattle.elm_meaning.specs.Substitution.{no_names, hide_all, fill}
use Rattle.elm_meaning.specs.Equations.{Equation}
use Rattle.elm_meaning.specs.Progress.{Stage, State, Ending, Returns, Stops, NoRule}
use Rattle.elm_meaning.specs.Evaluation.{to_depth, evaluate, begun, eval}
use Rattle.typing_rules.specs.Core.{erased}
use Rattle.typing_rules.specs.Library.{library_unions}
use Rattle.typing_rules.specs.Nodes.{AreInOrder, AreWellTyped, without_nodes, with_node}
use Rattle.typing_rules.specs.TopGroups.{Definition, Tops, no_tops, world_with, TopsHave, IsAccepted, with_group, after_groups, AreAccepted}
use Rattle.typing_rules.specs.Worlds.{World}
use Rattle.signal_meaning.specs.StageOne.{Cause, Begun, nothing_begun, equations_of, with_value, then_begin, begin_all}
use Rattle.typing_sound.specs.Programs.{IsOneValue, IsLambda, AreLambdas, GroupsStand, bodies, trees_of, HaveTypings}
use Rattle.typing_sound.specs.SafeEndings.{IsSafe, TopsTyped}
use Rattle.typing_sound.specs.Settings.{Setting, world_of}
use Rattle.typing_sound.specs.TopValues.{tops_in, AreBelow, GroupsAreBelow, AreNumbered, GivesFunction, AreFunctions}
use Rattle.typing_sound.proofs.Monotone.{Below}
use Rattle.typing_sound.proofs.Stages.{behind_below}
use Rattle.typing_sound.proofs.TopsAdded.{equation_more, node_below, setting_below, after_append, one_more_below, body_safe, first_type, value_joins_behind, functions_join, no_values}

-- ---- equations in a greater world

order_more : (k : ℕ) (qs : List Equation) (v w : World) → Below v w → AreInOrder k qs v → AreInOrder k qs w
order_more k [] v w b h = tt
order_more k (q ∷ qs) v w b h =
    ((h.0.0, equation_more v w b q h.0.0 h.0.1), order_more (suc k) qs (with_node k q v) (with_node k q w) (node_below k q v w b) h.1)

ordered_more : (qs : List Equation) (v w : World) → Below v w → AreWellTyped qs v → AreWellTyped qs w
ordered_more qs v w b h =
    order_more 0 qs (without_nodes v) (without_nodes w)
    (record { alike = record { sorts = b.alike.sorts; unions = b.alike.unions; inputs = b.alike.inputs }; tops = b.tops; nodes = λ n t k. k }) h

-- ---- numbers of definitions

below_more : (j k : ℕ) (ds : List Definition) → j ≤ k → AreBelow j ds → AreBelow k ds
below_more j k [] l h = tt
below_more j k (d ∷ ds) l h = (omega (arith, l, h.0), below_more j k ds l h.1)

groups_more : (j k : ℕ) (gs : List (List Definition)) → j ≤ k → GroupsAreBelow j gs → GroupsAreBelow k gs
groups_more j k [] l h = tt
groups_more j k (g ∷ gs) l h = (below_more j k g l h.0, groups_more j k gs l h.1)

group_added : (k : ℕ) (gs : List (List Definition)) (g : List Definition) → GroupsAreBelow k gs → AreBelow k g → GroupsAreBelow k (gs ++ g ∷ [])
group_added k [] g h b = (b, tt)
group_added k (f ∷ gs) g h b = (h.0, group_added k gs g h.1 b)

numbered_below : (k m : ℕ) (ds : List Definition) → k + length ds ≤ m → AreNumbered k ds → AreBelow m ds
numbered_below k m [] l h = tt
numbered_below k m (d ∷ ds) l h =
    let e = h.0 in (omega (arith, l, e), numbered_below (suc k) m ds (omega (arith, l)) h.1)

one_group_more : (k m : ℕ) (gs : List (List Definition)) (g : List Definition) → m ≡ k + length g → GroupsAreBelow k gs → AreNumbered k g → GroupsAreBelow m (gs ++ g ∷ [])
one_group_more k m gs g e h n =
    group_added m gs g (groups_more k m gs (omega (arith, e)) h) (numbered_below k m g (omega (arith, e)) n)

-- ---- functions

lambda_value : (e : Tree) → IsLambda e → (v : Value) × ((tops : List Value) (stage : Stage) (fuel : ℕ) → eval tops stage e fuel ≡ Returns v (begun stage fuel))
unfolding eval evaluate to_depth
lambda_value (Lambda q b) h = (Applicable (Closure q (fill b (hide_all (names_of q) no_names))), λ tops stage fuel. refl)
lambda_value e h = absurd h

gives_function : (e : Tree) (h : IsLambda e) (tops : List Value) (stage : Stage) → GivesFunction tops stage e (lambda_value e h).0
gives_function (Lambda q b) h tops stage = λ fuel. (begun stage fuel, (lambda_value (Lambda q b) h).1 tops stage fuel)
gives_function e h tops stage = absurd h

-- what has begun, after a group of functions
pub record Ran (fuel : ℕ) (ds : List Definition) (es : List Tree) (b : Begun) : Type 0 where
  pub values : List Value
  pub next : Begun
  pub goes : begin_all fuel (bodies ds ++ es) b ≡ begin_all fuel es next
  pub behind : next.values ≡ b.values ++ values
  pub same : next.equations ≡ b.equations
  pub running : next.stop ≡ None
  pub functions : (tops : List Value) → AreFunctions tops (Some b.equations) ds values
  pub many : length values ≡ length ds

functions_run : (fuel : ℕ) (ds : List Definition) (es : List Tree) (b : Begun) → b.stop ≡ None → AreLambdas ds → Ran fuel ds es b
functions_run fuel [] es b r h =
    record { values = []; next = b; goes = refl; behind = sym (append-nil b.values); same = refl; running = r; functions = λ tops. tt; many = refl }
functions_run fuel (d ∷ ds) es b r h =
    let v = (lambda_value (erased d.body) h.0).0 in
    let after = with_value v (begun (Some b.equations) fuel) b in
    let first : eval b.values (Some b.equations) (erased d.body) fuel ≡ Returns v (begun (Some b.equations) fuel) =
    (lambda_value (erased d.body) h.0).1 b.values (Some b.equations) fuel in
    let rest = functions_run fuel ds es after refl h.1 in
    record {
      values = v ∷ rest.values;
      next = rest.next;
      goes = ap (λ (o : Ending). then_begin o b (λ next. begin_all fuel (bodies ds ++ es) next)) first ∙ rest.goes;
      behind = rest.behind ∙ append_assoc b.values (v ∷ []) rest.values;
      same = rest.same;
      running = rest.running;
      functions = λ tops. (gives_function (erased d.body) h.0 tops (Some b.equations), rest.functions tops);
      many = ap suc rest.many;
    }

-- ---- one group after the other

stage_is : (s : Stage) (qs : List Equation) → s ≡ Some qs → Some (equations_of s) ≡ s
stage_is s qs e = ap (λ (z : Stage). Some (equations_of z)) e ∙ sym e

some_none : (qs : List Equation) → Some qs ≡ None → ⊥
some_none qs e = absurd (cc)

module _ (p : Setting) (fuel : ℕ) where
  -- after these groups, with these sorts for opaque types
  abbrev pub setting : (ℕ → Sort) → List (List Definition) → Setting
  setting sorts done = record { sorts = sorts; own = p.own; inputs = p.inputs; groups = done; equations = p.equations }

  abbrev there : (ℕ → Sort) → List (List Definition) → World
  there sorts done = world_of (setting sorts done)

  pub record Stands (done : List (List Definition)) (b : Begun) : Type 0 where
    pub typed : (sorts : ℕ → Sort) → TopsTyped (there sorts done) (Some b.equations) b.values
    pub below : GroupsAreBelow (length b.values) done
    pub running : b.stop ≡ None

  -- the equations are in order with sorts with which all groups have typings
  abbrev Ordered : List (List Definition) → List (List Definition) → List (List Definition) → Tops → Begun → Begun → Type 0
  Ordered rest done whole tops b e =
      (sorts : ℕ → Sort) → HaveTypings (library_unions ++ p.own) p.inputs sorts rest tops →
      AreWellTyped b.equations (there sorts done) → AreWellTyped e.equations (there sorts whole)

  pub record Ended (rest done whole : List (List Definition)) (tops : Tops) (b e : Begun) : Type 0 where
    pub has_rules : e.stop ≡ Some Cause.NoRule → ⊥
    pub typed : e.stop ≡ None → (sorts : ℕ → Sort) → TopsTyped (there sorts whole) (Some e.equations) e.values
    pub ordered : Ordered rest done whole tops b e

  next_world : (sorts : ℕ → Sort) (done : List (List Definition)) (g : List Definition) (k : ℕ) → GroupsAreBelow k done → AreNumbered k g → Below (there sorts done) (there sorts (done ++ g ∷ []))
  next_world sorts done g k b n = setting_below (setting sorts done) (setting sorts (done ++ g ∷ [])) refl (one_more_below (setting sorts done) k g b n)

  -- equations stay in order after all groups
  stay_ordered : (rest done whole : List (List Definition)) (k : ℕ) (qs : List Equation) (sorts : ℕ → Sort) → done ++ rest ≡ whole → GroupsAreBelow k done → GroupsStand k rest → AreWellTyped qs (there sorts done) → AreWellTyped qs (there sorts whole)
  stay_ordered [] done whole k qs sorts e b n h = subst (λ (z : List (List Definition)). AreWellTyped qs (there sorts z)) (sym (append-nil done) ∙ e) h
  stay_ordered (g ∷ rest) done whole k qs sorts e b n h =
      stay_ordered rest (done ++ g ∷ []) whole (k + length g) qs sorts (append_assoc done (g ∷ []) rest ∙ e)
      (one_group_more k (k + length g) done g refl b n.0) n.2
      (ordered_more qs (there sorts done) (there sorts (done ++ g ∷ [])) (next_world sorts done g k b n.0) h)

  -- a group that is a value
  module _ (d : Definition) (rest done whole : List (List Definition)) (tops : Tops) (b : Begun) (e : done ++ (d ∷ []) ∷ rest ≡ whole) (t : tops ≡ after_groups (library_unions ++ p.own) p.inputs done no_tops) (own : is_among d.top (tops_in d.body) ≡ false) (n : GroupsStand (length b.values) ((d ∷ []) ∷ rest)) (stands : Stands done b) where
    abbrev group : List Definition
    group = d ∷ []

    abbrev more : List (List Definition)
    more = done ++ group ∷ []

    abbrev HasTyping : (ℕ → Sort) → Type 0
    HasTyping sorts = (types : List Ground) × TopsHave (world_with (library_unions ++ p.own) p.inputs tops sorts) group types

    safe : (sorts : ℕ → Sort) → HasTyping sorts → (type : Ground) × IsSafe (there sorts done) (Some b.equations) type (eval b.values (Some b.equations) (erased d.body) fuel)
    safe sorts h =
        let has = subst (λ (z : Tops). TopsHave (world_with (library_unions ++ p.own) p.inputs z sorts) group h.0) t h.1 in
        let first = first_type (setting sorts done) d h.0 has in
        (first.0, body_safe (setting sorts done) d b.values (Some b.equations) fuel h.0 first.0 own (stands.typed sorts) has first.1)

    one_more : (v : Value) (s : State) → length (b.values ++ v ∷ []) ≡ length b.values + length group
    one_more v s = length-append b.values (v ∷ [])

    joined : (v : Value) (s : State) (qs : List Equation) → s.stage ≡ Some (b.equations ++ qs) → eval b.values (Some b.equations) (erased d.body) fuel ≡ Returns v s → Stands more (with_value v s b)
    joined v s qs g o = record {
      typed = λ sorts. subst (λ (z : Stage). TopsTyped (there sorts more) z (b.values ++ v ∷ [])) (sym (stage_is s.stage (b.equations ++ qs) g))
          (value_joins_behind (setting sorts done) d b.values (Some b.equations) fuel v s stands.below n.0.0 own (stands.typed sorts)
          (behind_below (there sorts done) b.equations qs s.stage g) o);
      below = one_group_more (length b.values) (length (b.values ++ v ∷ [])) done group (one_more v s) stands.below n.0;
      running = refl;
    }

    -- with a typing, what it adds is in order after it
    in_order : (sorts : ℕ → Sort) (type : Ground) (s : State) (qs : List Equation) → s.stage ≡ Some qs → AreWellTyped qs (there sorts done) → AreWellTyped (equations_of s.stage) (there sorts more)
    in_order sorts type s qs g h =
        subst (λ (z : List Equation). AreWellTyped z (there sorts more)) (sym (ap equations_of g))
        (ordered_more qs (there sorts done) (there sorts more) (next_world sorts done group (length b.values) stands.below n.0) h)

    value_step : (go : Begun → Begun) (o : Ending) (first : ℕ → Sort) → eval b.values (Some b.equations) (erased d.body) fuel ≡ o → HasTyping first
        → ((next : Begun) → Stands more next → GroupsStand (length next.values) rest → Ended rest more whole (with_group (library_unions ++ p.own) p.inputs group tops) next (go next))
        → Ended (group ∷ rest) done whole tops b (then_begin o b go)
    value_step go (Returns v s) first k h rec =
        let found = safe first h in
        let grows = (subst (IsSafe (there first done) (Some b.equations) found.0) k found.1).0 in
        let r = rec (with_value v s b) (joined v s grows.0 grows.1 k) (subst (λ (z : ℕ). GroupsStand z rest) (sym (one_more v s)) n.2) in
        record {
          has_rules = r.has_rules;
          typed = r.typed;
          ordered = λ sorts g w.
              let has = safe sorts g.0 in
              let adds = (subst (IsSafe (there sorts done) (Some b.equations) has.0) k has.1).0 in
              r.ordered sorts g.1 (in_order sorts has.0 s (b.equations ++ adds.0) adds.1 (adds.2 w));
        }
    value_step go (Stops x s) first k h rec = record {
      has_rules = λ f. absurd (cc);
      typed = λ f. absurd (cc);
      ordered = λ sorts g w.
          let has = safe sorts g.0 in
          let adds = subst (IsSafe (there sorts done) (Some b.equations) has.0) k has.1 in
          subst (λ (z : List Equation). AreWellTyped z (there sorts whole)) (sym (ap equations_of adds.1))
          (stay_ordered (group ∷ rest) done whole (length b.values) (b.equations ++ adds.0) sorts e stands.below n (adds.2 w));
    }
    value_step go (NoRule s) first k h rec =
        let found = safe first h in absurd (some_none b.equations (subst (IsSafe (there first done) (Some b.equations) found.0) k found.1).0)

  -- a group of functions
  functions_step : (g : List Definition) (rest done whole : List (List Definition)) (tops : Tops) (b : Begun) → AreLambdas g → GroupsStand (length b.values) (g ∷ rest) → Stands done b
      → ((next : Begun) → Stands (done ++ g ∷ []) next → GroupsStand (length next.values) rest
      → Ended rest (done ++ g ∷ []) whole (with_group (library_unions ++ p.own) p.inputs g tops) next (begin_all fuel (trees_of rest) next))
      → Ended (g ∷ rest) done whole tops b (begin_all fuel (trees_of (g ∷ rest)) b)
  functions_step g rest done whole tops b h n stands rec =
      let more = done ++ g ∷ [] in
      let run = functions_run fuel g (trees_of rest) b stands.running h in
      let many : length run.next.values ≡ length b.values + length g =
      ap length run.behind ∙ (length-append b.values run.values ∙ ap (λ (z : ℕ). length b.values + z) run.many) in
      let stand : Stands more run.next = record {
        typed = λ sorts. subst (λ (z : List Equation). TopsTyped (there sorts more) (Some z) run.next.values) (sym run.same)
            (subst (TopsTyped (there sorts more) (Some b.equations)) (sym run.behind)
            (functions_join (setting sorts done) g b.values run.values (Some b.equations) stands.below n.0 (stands.typed sorts) (run.functions b.values)));
        below = one_group_more (length b.values) (length run.next.values) done g many stands.below n.0;
        running = run.running;
      } in
      let r = rec run.next stand (subst (λ (z : ℕ). GroupsStand z rest) (sym many) n.2) in
      let whole_run : Ended (g ∷ rest) done whole tops b (begin_all fuel (trees_of rest) run.next) = record {
        has_rules = r.has_rules;
        typed = r.typed;
        ordered = λ sorts k w.
            r.ordered sorts k.1 (subst (λ (z : List Equation). AreWellTyped z (there sorts more)) (sym run.same)
            (ordered_more b.equations (there sorts done) (there sorts more) (next_world sorts done g (length b.values) stands.below n.0) w));
      } in
      subst (Ended (g ∷ rest) done whole tops b) (sym run.goes) whole_run

  step : (g : List Definition) (rest done whole : List (List Definition)) (tops : Tops) (b : Begun) → done ++ g ∷ rest ≡ whole → tops ≡ after_groups (library_unions ++ p.own) p.inputs done no_tops
      → IsAccepted (world_with (library_unions ++ p.own) p.inputs tops) g → GroupsStand (length b.values) (g ∷ rest) → Stands done b → (IsOneValue g ⊎ AreLambdas g)
      → ((next : Begun) → Stands (done ++ g ∷ []) next → GroupsStand (length next.values) rest
      → Ended rest (done ++ g ∷ []) whole (with_group (library_unions ++ p.own) p.inputs g tops) next (begin_all fuel (trees_of rest) next))
      → Ended (g ∷ rest) done whole tops b (begin_all fuel (trees_of (g ∷ rest)) b)
  step [] rest done whole tops b e t a n stands (inl h) rec = absurd h
  step (d ∷ []) rest done whole tops b e t a n stands (inl h) rec =
      value_step d rest done whole tops b e t h n stands (λ next. begin_all fuel (trees_of rest) next) (eval b.values (Some b.equations) (erased d.body) fuel) a.0.0 refl (a.0.1, a.0.2) rec
  step (d ∷ f ∷ ds) rest done whole tops b e t a n stands (inl h) rec = absurd h
  step g rest done whole tops b e t a n stands (inr h) rec = functions_step g rest done whole tops b h n stands rec

  begins : (rest done whole : List (List Definition)) (tops : Tops) (b : Begun) → done ++ rest ≡ whole → tops ≡ after_groups (library_unions ++ p.own) p.inputs done no_tops
      → AreAccepted (library_unions ++ p.own) p.inputs rest tops → GroupsStand (length b.values) rest → Stands done b → Ended rest done whole tops b (begin_all fuel (trees_of rest) b)
  begins [] done whole tops b e t a n stands = record {
    has_rules = λ k. let r = stands.running in absurd (cc);
    typed = λ k sorts. subst (λ (z : List (List Definition)). TopsTyped (there sorts z) (Some b.equations) b.values) (sym (append-nil done) ∙ e) (stands.typed sorts);
    ordered = λ sorts h w. subst (λ (z : List (List Definition)). AreWellTyped b.equations (there sorts z)) (sym (append-nil done) ∙ e) w;
  }
  begins (g ∷ rest) done whole tops b e t a n stands =
      step g rest done whole tops b e t a.0 n stands n.1
      (λ next stand m. begins rest (done ++ g ∷ []) whole (with_group (library_unions ++ p.own) p.inputs g tops) next (append_assoc done (g ∷ []) rest ∙ e)
      (ap (with_group (library_unions ++ p.own) p.inputs g) t ∙ sym (after_append (library_unions ++ p.own) p.inputs done g no_tops)) a.1 m stand)

  nothing_stands : Stands [] nothing_begun
  nothing_stands = record { typed = λ sorts. no_values (setting sorts []) (Some []) refl; below = tt; running = refl }

  pub stage_one : (groups : List (List Definition)) → AreAccepted (library_unions ++ p.own) p.inputs groups no_tops → GroupsStand 0 groups → Ended groups [] groups no_tops nothing_begun (begin_all fuel (trees_of groups) nothing_begun)
  stage_one groups a n = begins groups [] groups no_tops nothing_begun refl refl a n nothing_stands
