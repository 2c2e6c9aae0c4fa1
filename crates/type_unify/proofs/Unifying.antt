-- Pairs that wait, over a store that grows.
use Rattle.std.proofs.Common.{◌≡◌, ℕ, ◌-◌, ◌≤◌, List, [], ◌∷◌, ◌++◌, length, drop, refl, sym, ◌∙◌, ap, subst, arith, length-append}
use Rattle.type_terms.specs.declared.node.Node.{Node}
use Rattle.type_terms.specs.Depth.{IsSound}
use Rattle.type_terms.specs.Solutions.{Assignment, Solves}
use Rattle.type_terms.specs.Terms.{State, nodes_of, Each}
use Rattle.type_terms.proofs.Existence.{solution-exists}
use Rattle.type_unify.specs.declared.pair.Pair.{Pair}
use Rattle.type_unify.specs.declared.step.Step.{Step}
use Rattle.type_unify.specs.declared.step.Step.TheVariants.{Done}
use Rattle.type_unify.specs.Grown.{IsGrown}
use Rattle.type_unify.specs.Matching.{AllEqual, terms_in}
use Rattle.type_unify.specs.Rests.{RestsApart, IsType}
use Rattle.type_unify.specs.Steps.{Holds, Descends}
use Rattle.type_unify.specs.Taken.{Agree, Takes}
use Rattle.type_unify.specs.Unifying.{Unifies}
use Rattle.type_unify.proofs.Narrowing.{grown_none, grown_through}

pub record Solving (old now : List State) (a b : ℕ) (waiting : List Pair) : Type 0 where
  pub grown : IsGrown old now
  pub sound : (s : Assignment) → Solves (nodes_of now) s → AllEqual s waiting → Solves (nodes_of old) s × (s a ≡ s b)
  pub complete : (s : Assignment) → Solves (nodes_of old) s → s a ≡ s b → (r : Assignment) × Agree (length (nodes_of old)) s r × Solves (nodes_of now) r × AllEqual r waiting
  pub apart : RestsApart (nodes_of now)
  pub types : (i : ℕ) → IsType (nodes_of old) i → IsType (nodes_of now) i
  pub longer : length (nodes_of old) ≤ length (nodes_of now)
  pub waiting_types : Each (IsType (nodes_of now)) (terms_in waiting)

pub solving_first : (store : List State) (a b : ℕ) (waiting : List Pair) → IsType (nodes_of store) a → IsType (nodes_of store) b → RestsApart (nodes_of store) →
    waiting ≡ [] ++ record { first = a; second = b } ∷ [] → Solving store store a b waiting
solving_first store a b waiting ta tb apart e = subst (Solving store store a b) (sym e) (record {
  grown = grown_none store;
  sound = λ s h w. (h, w.0);
  complete = λ s h w. (s, (λ i lt. refl), h, (w, tt));
  apart = apart;
  types = λ i t. t;
  longer = omega arith;
  waiting_types = (ta, (tb, tt));
})

agree_pairs : (n : ℕ) (s r : Assignment) (nodes : List Node) (ps : List Pair) → n ≡ length nodes → Agree n s r → Each (IsType nodes) (terms_in ps) → AllEqual s ps → AllEqual r ps
agree_pairs n s r nodes [] e a t h = tt
agree_pairs n s r nodes (p ∷ ps) e a t h =
    let l = t.0.0 in let m = t.1.0.0 in
    (sym (a p.first (omega (arith, e, l))) ∙ h.0 ∙ a p.second (omega (arith, e, m)), agree_pairs n s r nodes ps e a t.1.1 h.1)

each_kept : (P Q : ℕ → Type 0) → ((k : ℕ) → P k → Q k) → (ks : List ℕ) → Each P ks → Each Q ks
each_kept P Q f [] h = tt
each_kept P Q f (k ∷ ks) h = (f k h.0, each_kept P Q f ks h.1)

-- a step was found, and taken
pub solving_more : (old now new : List State) (a b : ℕ) (waiting after : List Pair) (step : Step) → Solving old now a b waiting → Descends (nodes_of now) waiting after step →
    IsGrown now new → Takes (nodes_of now) (nodes_of new) step → Solving old new a b after
solving_more old now new a b waiting after step v d grown t = record {
  grown = grown_through old now new v.grown grown;
  sound = λ s h w.
      let m = t.sound s h in
      v.sound s m.0 (d.back s m.0 m.1 w);
  complete = λ s h e.
      let r = v.complete s h e in
      let p = d.to r.0 r.2 r.3 in
      let q = t.complete r.0 r.2 p.0 in (
        q.0,
        (λ i lt. r.1 i lt ∙ q.1 i (let l = v.longer in omega (arith, l, lt))),
        q.2,
        agree_pairs (length (nodes_of now)) r.0 q.0 (nodes_of now) after refl q.1 d.types p.1,
      );
  apart = t.apart;
  types = λ i ty. t.types i (v.types i ty);
  longer = let l = v.longer in let m = t.longer in omega (arith, l, m);
  waiting_types = each_kept (IsType (nodes_of now)) (IsType (nodes_of new)) t.types (terms_in after) d.types;
}

pub solving_refused : (old now : List State) (a b : ℕ) (waiting after : List Pair) (step : Step) → Solving old now a b waiting → Descends (nodes_of now) waiting after step →
    ((s : Assignment) → Solves (nodes_of now) s → Holds s step → ⊥) → (s : Assignment) → Solves (nodes_of old) s → s a ≡ s b → ⊥
solving_refused old now a b waiting after step v d never s h e =
    let r = v.complete s h e in never r.0 r.2 (d.to r.0 r.2 r.3).0

pub solving_done : (old now : List State) (bound a b : ℕ) (waiting after : List Pair) (step : Step) → IsSound (nodes_of now) bound → Solving old now a b waiting → Descends (nodes_of now) waiting after step →
    step ≡ Done → Unifies (nodes_of old) (nodes_of now) a b
solving_done old now bound a b waiting after step sound v d e = record {
  sound = λ s h. (whole s h).0;
  equal = λ s h. (whole s h).1;
  complete = λ s h x. let r = v.complete s h x in (r.0, r.1, r.2);
  solvable = solution-exists (nodes_of now) bound sound v.apart.rests;
  apart = v.apart;
  types = v.types;
  longer = v.longer;
}
  where
    whole : (s : Assignment) → Solves (nodes_of now) s → Solves (nodes_of old) s × (s a ≡ s b)
    whole s h = v.sound s h (d.back s h (subst (Holds s) (sym e) tt) (subst (AllEqual s) (sym (d.finished e)) tt))

drop_front : (xs ys : List State) → drop (length xs) (xs ++ ys) ≡ ys
drop_front [] ys = refl
drop_front (x ∷ xs) ys = drop_front xs ys

pub taken_back : (old new after : List State) (mark : ℕ) → IsGrown old new → mark ≡ length old → after ≡ drop (length new - mark) new → after ≡ old
taken_back old new after mark g m e =
    e ∙ ap (λ l. drop (length l - mark) l) g.behind
    ∙ ap (λ n. drop n (g.changes ++ old)) (let l = length-append g.changes old in let x : length (g.changes ++ old) - mark ≡ length g.changes = omega (arith, l, m) in x)
    ∙ drop_front g.changes old

pub grown_mark : (old new : List State) (mark : ℕ) → IsGrown old new → mark ≡ length old → mark ≤ length new
grown_mark old new mark g m = let l = ap length g.behind ∙ length-append g.changes old in omega (arith, l, m)
