-- Equations are added behind, and what was typed before stays typed.
use Rattle.std.proofs.Common.{◌≡◌, ℕ, suc, ◌<◌, ◌+◌, ◌==◌, Bool, true, false, Some, None, List, [], ◌∷◌, ◌++◌, length, refl, sym, ap, ◌∙◌, subst, arith}
use Rattle.std.proofs.lemmas.List.{append_assoc}
use Rattle.std.proofs.lemmas.Bool.{eq-eqb, eqb-true}
use Rattle.elm_typing.specs.Ground.{Ground}
use Rattle.elm_typing.specs.Sorts.{Sort, Simple, Signal, sort_of, IsAtMost}
use Rattle.elm_meaning.specs.Values.{Value}
use Rattle.elm_meaning.specs.Substitution.{Names}
use Rattle.elm_meaning.specs.Equations.{Equation}
use Rattle.elm_meaning.specs.Progress.{Stage, State, Ending, Returns, Stops, NoRule, then_do}
use Rattle.typing_rules.specs.Worlds.{Types, Surroundings, no_surroundings, Either, World, MayStandIn}
use Rattle.typing_rules.specs.TermTypes.{ValueHas}
use Rattle.typing_rules.specs.Nodes.{EquationHas, with_node, with_equations, without_nodes, at_equations, AreInOrder, AreWellTyped}
use Rattle.typing_sound.specs.SafeEndings.{at_stage, Grows, IsSafe}
use Rattle.typing_sound.proofs.Combine.{Sub, same, same_world}
use Rattle.typing_sound.proofs.Monotone.{Below, value_more}
use Rattle.typing_sound.proofs.Bound.{Typed}

-- no node has a greater number
pub record IsBounded (k : ℕ) (w : World) : Type 0 where
  pub at : (n : ℕ) (t : Ground) → w.nodes n t → n < k

adds_same : (w : World) → Below w w
adds_same w = record { alike = same_world w; tops = λ n. same (w.tops n); nodes = λ n. same (w.nodes n) }

adds_then : (u v w : World) → Below u v → Below v w → Below u w
adds_then u v w a b = record {
  alike = record { sorts = a.alike.sorts ∙ b.alike.sorts; unions = a.alike.unions ∙ b.alike.unions; inputs = a.alike.inputs ∙ b.alike.inputs };
  tops = λ n t h. b.tops n t (a.tops n t h);
  nodes = λ n t h. b.nodes n t (a.nodes n t h);
}

kept : (b : Bool) (P Q : Type 0) → b ≡ false → Q → Either b P Q
kept true P Q e q = absurd cc
kept false P Q e q = q

differs : (b : Bool) (k n : ℕ) → (k == n) ≡ b → n < k → b ≡ false
differs true k n e h = (let d = eqb-true k n e in absurd (omega (arith, d, h)))
differs false k n e h = refl

node_adds : (k : ℕ) (q : Equation) (w : World) → IsBounded k w → Below w (with_node k q w)
node_adds k q w b = record {
  alike = record { sorts = refl; unions = refl; inputs = refl };
  tops = λ n. same (w.tops n);
  nodes = λ n t h. kept (k == n) (EquationHas w q t) (w.nodes n t) (differs (k == n) k n refl (b.at n t h)) h;
}

node_bounded : (k : ℕ) (q : Equation) (w : World) → IsBounded k w → IsBounded (suc k) (with_node k q w)
node_bounded k q w b = record { at = λ n t. below (k == n) n t refl }
  where
    below : (c : Bool) (n : ℕ) (t : Ground) → (k == n) ≡ c → Either c (EquationHas w q t) (w.nodes n t) → n < suc k
    below true n t e h = (let d = eqb-true k n e in omega (arith, d))
    below false n t e h = (let d = b.at n t h in omega (arith, d))

equations_add : (k : ℕ) (qs : List Equation) (w : World) → IsBounded k w → Below w (with_equations k qs w)
equations_add k [] w b = adds_same w
equations_add k (q ∷ qs) w b =
    adds_then w (with_node k q w) (with_equations (suc k) qs (with_node k q w)) (node_adds k q w b)
    (equations_add (suc k) qs (with_node k q w) (node_bounded k q w b))

equations_bounded : (k : ℕ) (qs : List Equation) (w : World) → IsBounded k w → IsBounded (k + length qs) (with_equations k qs w)
equations_bounded k [] w b = (let e : k ≡ k + 0 = omega arith in subst (λ z. IsBounded z w) e b)
equations_bounded k (q ∷ qs) w b =
    let e : suc k + length qs ≡ k + suc (length qs) = omega arith in
    subst (λ z. IsBounded z (with_equations (suc k) qs (with_node k q w))) e (equations_bounded (suc k) qs (with_node k q w) (node_bounded k q w b))

equations_append : (k : ℕ) (qs more : List Equation) (w : World) → with_equations k (qs ++ more) w ≡ with_equations (k + length qs) more (with_equations k qs w)
equations_append k [] more w = (let e : k ≡ k + 0 = omega arith in ap (λ z. with_equations z more w) e)
equations_append k (q ∷ qs) more w =
    let e : suc k + length qs ≡ k + suc (length qs) = omega arith in
    equations_append (suc k) qs more (with_node k q w) ∙ ap (λ z. with_equations z more (with_equations (suc k) qs (with_node k q w))) e

order_append : (k : ℕ) (qs : List Equation) (q : Equation) (w : World) → AreInOrder k qs w → ((value : Ground) × EquationHas (with_equations k qs w) q value) → AreInOrder k (qs ++ q ∷ []) w
order_append k [] q w h g = (g, tt)
order_append k (p ∷ qs) q w h g = (h.0, order_append (suc k) qs q (with_node k p w) h.1 g)

module _ (w : World) where
  none_bounded : IsBounded 0 (without_nodes w)
  none_bounded = record { at = λ n t h. absurd h }

  -- the world of equations, and the same nodes over the world itself
  pub equations_alike : (qs : List Equation) → Below (without_nodes w) (at_equations qs w)
  equations_alike qs = equations_add 0 qs (without_nodes w) none_bounded

  pub stage_below : (qs : List Equation) → Below (at_stage (Some qs) w) (at_equations qs w)
  stage_below qs =
      let a = equations_alike qs in
      record {
        alike = record { sorts = a.alike.sorts; unions = a.alike.unions; inputs = a.alike.inputs };
        tops = a.tops;
        nodes = λ n. same ((at_equations qs w).nodes n);
      }

  more_nodes : (qs more : List Equation) (n : ℕ) → Sub ((at_equations qs w).nodes n) ((at_equations (qs ++ more) w).nodes n)
  more_nodes qs more n =
      subst (λ z. Sub ((at_equations qs w).nodes n) (z.nodes n)) (sym (equations_append 0 qs more (without_nodes w)))
      ((equations_add (0 + length qs) more (at_equations qs w) (equations_bounded 0 qs (without_nodes w) none_bounded)).nodes n)

  -- equations that come behind leave the world a greater one
  pub behind_below : (qs more : List Equation) (r : Stage) → r ≡ Some (qs ++ more) → Below (at_stage (Some qs) w) (at_stage r w)
  behind_below qs more r e =
      subst (λ z. Below (at_stage (Some qs) w) (at_stage z w)) (sym e)
      (record { alike = record { sorts = refl; unions = refl; inputs = refl }; tops = λ n. same (w.tops n); nodes = more_nodes qs more })

  pub stages_below : (q r : Stage) → Grows w q r → Below (at_stage q w) (at_stage r w)
  stages_below None r g = subst (λ z. Below w (at_stage z w)) (sym g) (record { alike = same_world w; tops = λ n. same (w.tops n); nodes = λ n. same (w.nodes n) })
  stages_below (Some qs) r g = behind_below qs g.0 r g.1

  -- a value stays typed
  pub value_later : (q r : Stage) (v : Value) (t : Ground) → Grows w q r → ValueHas (at_stage q w) v t → ValueHas (at_stage r w) v t
  value_later q r v t g h = value_more (at_stage q w) (at_stage r w) (stages_below q r g) v no_surroundings t h

  pub typed_later : (q r : Stage) (s : Surroundings) (σ : Names) → Grows w q r → Typed (at_stage q w) s σ → Typed (at_stage r w) s σ
  typed_later q r s σ g k = record { at = λ y t e. (let p = k.at y t e in (p.0, p.1, value_later q r p.0 t g p.2)) }

  -- growing

  pub grows_same : (q : Stage) → Grows w q q
  grows_same None = refl
  grows_same (Some qs) = ([], ap Some (sym (append_nil qs)), λ d. subst (λ z. AreWellTyped z w) (sym (append_nil qs)) d)
    where
      append_nil : (qs : List Equation) → qs ++ [] ≡ qs
      append_nil [] = refl
      append_nil (q ∷ qs) = ap (λ z. q ∷ z) (append_nil qs)

  some_list : (xs ys : List Equation) → Some xs ≡ Some ys → xs ≡ ys
  some_list xs ys e = cc

  pub grows_then : (p q r : Stage) → Grows w p q → Grows w q r → Grows w p r
  grows_then None q r g h = subst (λ z. Grows w z r) g h
  grows_then (Some qs) q r g h =
      let i = subst (λ z. Grows w z r) g.1 h in (
        g.0 ++ i.0,
        i.1 ∙ ap Some (append_assoc qs g.0 i.0),
        λ d. subst (λ z. AreWellTyped z w) (append_assoc qs g.0 i.0) (i.2 (g.2 d)),
      )

  -- nothing is added in stage two
  pub grows_none : (p q : Stage) → Grows w p q → q ≡ None → p ≡ None
  grows_none None q g e = refl
  grows_none (Some qs) q g e = absurd (let d = g.1 in cc)

  -- sorts

  pub sort_case : (x : Sort) (P : Type 0) → (x ≡ Simple → P) → (x ≡ Signal → P) → P
  sort_case Simple P f g = f refl
  sort_case Signal P f g = g refl

  pub simple_below : (x y : Sort) → IsAtMost x y → y ≡ Simple → x ≡ Simple
  simple_below Simple y h e = refl
  simple_below Signal Simple h e = absurd h
  simple_below Signal Signal h e = e

  pub signal_above : (x y : Sort) → IsAtMost x y → x ≡ Signal → y ≡ Signal
  signal_above Simple y h e = absurd cc
  signal_above Signal Simple h e = absurd h
  signal_above Signal Signal h e = refl

  pub at_most_itself : (x : Sort) → IsAtMost x x
  at_most_itself Simple = tt
  at_most_itself Signal = tt

  pub simple_at_most : (x y : Sort) → x ≡ Simple → IsAtMost x y
  simple_at_most Simple y e = tt
  simple_at_most Signal y e = absurd cc

  -- going on from a later stage, which is the same where the type is simple
  pub safe_later : (q r : Stage) (t : Ground) (o : Ending) → Grows w q r → (sort_of w.sorts t ≡ Simple → r ≡ q) → IsSafe w r t o → IsSafe w q t o
  safe_later q r t (Returns v s) g e h = (grows_then q r s.stage g h.0, h.1, λ d. h.2 d ∙ e d)
  safe_later q r t (Stops x s) g e h = grows_then q r s.stage g h
  safe_later q r t (NoRule s) g e h = (grows_none q r g h.0, h.1)

  -- First a term with these types, of which one has a sort that is at most the whole's; then with its value, which has them
  -- all.
  pub then_all : (q : Stage) (E : Types) (u t : Ground) (o : Ending) (go : Value → State → Ending) → E u → MayStandIn w u t → ((x : Ground) → E x → IsSafe w q x o) → ((v : Value) (s : State) → Grows w q s.stage → ((x : Ground) → E x → ValueHas (at_stage s.stage w) v x) → IsSafe w s.stage t (go v s)) → IsSafe w q t (then_do o go)
  then_all q E u t (Returns v s) go e m f k =
      let h = f u e in
      safe_later q s.stage t (go v s) h.0 (λ d. h.2 (simple_below (sort_of w.sorts u) (sort_of w.sorts t) m d)) (k v s h.0 (λ x g. (f x g).1))
  then_all q E u t (Stops x s) go e m f k = f u e
  then_all q E u t (NoRule s) go e m f k =
      let h = f u e in (h.0, signal_above (sort_of w.sorts u) (sort_of w.sorts t) m h.1)

  -- with one type
  pub then_one : (q : Stage) (u t : Ground) (o : Ending) (go : Value → State → Ending) → MayStandIn w u t → IsSafe w q u o → ((v : Value) (s : State) → Grows w q s.stage → ValueHas (at_stage s.stage w) v u → IsSafe w s.stage t (go v s)) → IsSafe w q t (then_do o go)
  then_one q u t o go m h k =
      then_all q (λ x. x ≡ u) u t o go refl m (λ x e. subst (λ z. IsSafe w q z o) (sym e) h) (λ v s g f. k v s g (f u refl))

  -- the new node has the types of its equation
  pub node_added : (qs : List Equation) (q : Equation) (t : Ground) → EquationHas (at_equations qs w) q t → (at_equations (qs ++ q ∷ []) w).nodes (length qs) t
  node_added qs q t h =
      let z : 0 + length qs ≡ length qs = omega arith in
      subst (λ v. v.nodes (length qs) t) (sym (equations_append 0 qs (q ∷ []) (without_nodes w)))
      (subst (λ k. (with_node k q (at_equations qs w)).nodes (length qs) t) (sym z)
      (here ((at_equations qs w).nodes (length qs) t) (length qs == length qs) (eq-eqb (length qs) (length qs) refl) h))
    where
      here : (Q : Type 0) (b : Bool) → b ≡ true → EquationHas (at_equations qs w) q t → Either b (EquationHas (at_equations qs w) q t) Q
      here Q true e p = p
      here Q false e p = absurd cc

  pub order_added : (qs : List Equation) (q : Equation) (t : Ground) → EquationHas (at_equations qs w) q t → AreWellTyped qs w → AreWellTyped (qs ++ q ∷ []) w
  order_added qs q t h d = order_append 0 qs q (without_nodes w) d (t, h)
