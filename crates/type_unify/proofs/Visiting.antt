-- What a comparison of two terms tells.
use Rattle.std.proofs.Common.{◌≡◌, ℕ, zero, suc, ◌+◌, ◌<◌, ◌≤◌, List, [], ◌∷◌, ◌++◌, length, refl, sym, ◌∙◌, ap, subst, arith}
use Rattle.elm_typing.specs.Ground.{Ground, Row, Record}
use Rattle.type_terms.specs.declared.node.Node.{Node}
use Rattle.type_terms.specs.declared.node.Node.TheVariants.{End}
use Rattle.type_terms.specs.declared.shape.Shape.{Shape}
use Rattle.type_terms.specs.declared.shape.Shape.TheVariants as shape
use Rattle.type_terms.specs.Depth.{IsBelow, sum_of, doubled, size, weight}
use Rattle.type_terms.specs.Solutions.{Assignment, Solves, Fits}
use Rattle.type_terms.specs.Terms.{State, nodes_of, node_at, parts, Each, LinksTo, itself, further, IsLink, IsVariable}
use Rattle.type_unify.specs.declared.pair.Pair.{Pair}
use Rattle.type_unify.specs.declared.rows.Flat.{Flat}
use Rattle.type_unify.specs.declared.step.Step.{Step}
use Rattle.type_unify.specs.declared.step.Step.TheVariants.{Done, Clash, Binds}
use Rattle.type_unify.specs.Heads.{SameHead, IsVariableShape, IsRowShape, zipped}
use Rattle.type_unify.specs.Matching.{Fields, AllEqual, terms_in, Matches}
use Rattle.type_unify.specs.Rests.{IsNoRest, RestsApart, IsType, type_parts}
use Rattle.type_unify.specs.Steps.{under, IsShapeAt, Flattens, Holds, CanTake, Decides, Visits, Descends}
use Rattle.type_unify.proofs.Heads.{fits_type, heads_to, heads_back, heads_apart, head_parts, same_head_turned, zipped_light, zipped_each}
use Rattle.type_unify.proofs.Reading.{each_both, links_same}

doubled_some : (n : ℕ) → (m : ℕ) × (doubled n ≡ suc m)
doubled_some zero = (0, refl)
doubled_some (suc n) = let r = doubled_some n in let e = r.1 in (r.0 + suc r.0, omega (arith, e))

size_some : (nodes : List Node) (steps i : ℕ) (m : ℕ) → steps ≡ suc m → 0 < size nodes steps i
size_some nodes zero i m e = absurd (omega (arith, e))
size_some nodes (suc steps) i m e = omega arith

pub weight_some : (store : List State) (i : ℕ) → 0 < weight store i
weight_some store i = let r = doubled_some (length store) in size_some (nodes_of store) (doubled (length store)) i r.0 r.1

-- nothing was put in wait
plain : (store : List State) (a b : ℕ) (waiting : List Pair) (step : Step) → waiting ≡ waiting ++ [] →
    ((s : Assignment) → Solves (nodes_of store) s → s a ≡ s b → Holds s step) →
    ((s : Assignment) → Solves (nodes_of store) s → Holds s step → s a ≡ s b) →
    CanTake (nodes_of store) step → Visits store a b waiting waiting step
plain store a b waiting step none to back takes = record {
  pairs = [];
  behind = none;
  to = λ s h e. (to s h e, tt);
  back = λ s h t p. back s h t;
  light = let i = weight_some store a in omega (arith, i);
  types = tt;
  takes = takes;
}

append_none : (ps : List Pair) → ps ≡ ps ++ []
append_none [] = refl
append_none (p ∷ ps) = ap (λ qs. p ∷ qs) (append_none ps)

pub visits_same : (store : List State) (a b : ℕ) (waiting : List Pair) → a ≡ b → Visits store a b waiting waiting Done
visits_same store a b waiting e = plain store a b waiting Done (append_none waiting) (λ s h x. tt) (λ s h t. ap s e) tt

variable_node : (nodes : List Node) (a : ℕ) (sh : Shape) → node_at nodes a ≡ End sh → IsVariableShape sh → IsVariable (node_at nodes a)
variable_node nodes a (shape.Variable flag) e v = subst IsVariable (sym e) tt
variable_node nodes a sh e v = absurd v

pub visits_first : (store : List State) (a b : ℕ) (waiting : List Pair) (sh : Shape) → IsShapeAt store a sh → IsVariableShape sh →
    IsType (nodes_of store) a → IsType (nodes_of store) b → (a ≡ b → ⊥) → (IsLink (node_at (nodes_of store) b) → ⊥) → Visits store a b waiting waiting (Binds a b)
visits_first store a b waiting sh is v ta tb ne end =
    plain store a b waiting (Binds a b) (append_none waiting) (λ s h e. e) (λ s h t. t)
    (record { variable = variable_node (nodes_of store) a sh is.here v; source = ta; target = tb; other = λ e. ne (sym e); end = end })

pub visits_second : (store : List State) (a b : ℕ) (waiting : List Pair) (sh : Shape) → IsShapeAt store b sh → IsVariableShape sh →
    IsType (nodes_of store) a → IsType (nodes_of store) b → (a ≡ b → ⊥) → (IsLink (node_at (nodes_of store) a) → ⊥) → Visits store a b waiting waiting (Binds b a)
visits_second store a b waiting sh is v ta tb ne end =
    plain store a b waiting (Binds b a) (append_none waiting) (λ s h e. sym e) (λ s h t. sym t)
    (record { variable = variable_node (nodes_of store) b sh is.here v; source = tb; target = ta; other = ne; end = end })

pub visits_clash : (store : List State) (a b : ℕ) (waiting : List Pair) (p q : Shape) → IsShapeAt store a p → IsShapeAt store b q → IsType (nodes_of store) a → IsType (nodes_of store) b →
    (IsVariableShape p → ⊥) → (IsVariableShape q → ⊥) → (IsRowShape p → IsRowShape q → ⊥) → (SameHead p q → ⊥) → Visits store a b waiting waiting Clash
visits_clash store a b waiting p q ip iq ta tb vp vq rows ne =
    plain store a b waiting Clash (append_none waiting)
    (λ s h e. heads_apart s (s a) p q ne vp vq rows (fits_type (nodes_of store) s a p ta.1 ip.here h)
    (subst (λ (t : Ground). Fits ⊥ s t q) (sym e) (fits_type (nodes_of store) s b q tb.1 iq.here h)))
    (λ s h t. absurd t) tt

inside_types : (store : List State) (a : ℕ) (p q : Shape) → RestsApart (nodes_of store) → IsShapeAt store a p → SameHead p q → Each (IsType (nodes_of store)) (parts p)
inside_types store a p q apart is same =
    each_both (IsBelow (length (nodes_of store))) (IsNoRest (nodes_of store)) (parts p) is.inside
    (head_parts (IsNoRest (nodes_of store)) p q same (subst (λ (n : Node). Each (IsNoRest (nodes_of store)) (type_parts n)) is.here (apart.types a)))

pub visits_parts : (store : List State) (a b : ℕ) (waiting now : List Pair) (p q : Shape) → IsShapeAt store a p → IsShapeAt store b q → IsType (nodes_of store) a → IsType (nodes_of store) b →
    RestsApart (nodes_of store) → SameHead p q → now ≡ waiting ++ zipped (parts p) (parts q) → Visits store a b waiting now Done
visits_parts store a b waiting now p q ip iq ta tb apart same behind = record {
  pairs = zipped (parts p) (parts q);
  behind = behind;
  to = λ s h e. (
    tt,
    heads_to s (s a) p q same (fits_type (nodes_of store) s a p ta.1 ip.here h)
        (subst (λ (t : Ground). Fits ⊥ s t q) (sym e) (fits_type (nodes_of store) s b q tb.1 iq.here h)),
  );
  back = λ s h t e. heads_back s (s a) (s b) p q same (fits_type (nodes_of store) s a p ta.1 ip.here h) (fits_type (nodes_of store) s b q tb.1 iq.here h) e;
  light = let i = zipped_light (weight store) (parts p) (parts q) in let x = ip.light in let y = iq.light in omega (arith, i, x, y);
  types = zipped_each (IsType (nodes_of store)) (parts p) (parts q) (inside_types store a p q apart ip same)
      (inside_types store b q p apart iq (same_head_turned p q same));
  takes = tt;
}

record_same : (p q : Row) → Record p ≡ Record q → p ≡ q
record_same p q e = cc e

pub visits_rows : (store : List State) (a b : ℕ) (waiting now : List Pair) (left right : Flat) (extra rest : Fields) (step : Step) → Flattens store a left → Flattens store b right →
    (pairs : List Pair) × (now ≡ waiting ++ pairs) × Matches left.fields right.fields pairs extra rest →
    Decides (nodes_of store) extra left.tail rest right.tail step → Visits store a b waiting now step
visits_rows store a b waiting now left right extra rest step fa fb m d = record {
  pairs = m.0;
  behind = m.1;
  to = λ s h e.
      let r = m.2.to s (under s left.tail) (under s right.tail) (record_same _ _ (sym (fa.same s h) ∙ e ∙ fb.same s h)) in
      (d.to s h r.1, r.0);
  back = λ s h t p.
      fa.same s h ∙ ap Record (m.2.back s (under s left.tail) (under s right.tail) p (d.back s h t)) ∙ sym (fb.same s h);
  light = let t = m.2.terms (weight store) in let x = fa.light in let y = fb.light in omega (arith, t, x, y);
  types = (m.2.types (nodes_of store) fa.types fb.types).0;
  takes = d.takes;
}

-- pairs that wait --

all_append : (s : Assignment) (ps qs : List Pair) → AllEqual s ps → AllEqual s qs → AllEqual s (ps ++ qs)
all_append s [] qs h k = k
all_append s (p ∷ ps) qs h k = (h.0, all_append s ps qs h.1 k)

all_parts : (s : Assignment) (ps qs : List Pair) → AllEqual s (ps ++ qs) → AllEqual s ps × AllEqual s qs
all_parts s [] qs h = (tt, h)
all_parts s (p ∷ ps) qs h = let r = all_parts s ps qs h.1 in ((h.0, r.0), r.1)

sum_append : (w : ℕ → ℕ) (ps qs : List Pair) → sum_of w (terms_in (ps ++ qs)) ≡ sum_of w (terms_in ps) + sum_of w (terms_in qs)
sum_append w [] qs = omega arith
sum_append w (p ∷ ps) qs = let i = sum_append w ps qs in omega (arith, i)

each_append : (P : ℕ → Type 0) (ps qs : List Pair) → Each P (terms_in ps) → Each P (terms_in qs) → Each P (terms_in (ps ++ qs))
each_append P [] qs h k = k
each_append P (p ∷ ps) qs h k = (h.0, (h.1.0, each_append P ps qs h.1.1 k))

each_front : (P : ℕ → Type 0) (ps : List Pair) (p : Pair) → Each P (terms_in (ps ++ p ∷ [])) → Each P (terms_in ps) × P p.first × P p.second
each_front P [] p h = (tt, h.0, h.1.0)
each_front P (q ∷ ps) p h = let r = each_front P ps p h.1.1 in ((h.0, (h.1.0, r.0)), r.1, r.2)

-- the pairs that wait are equal exactly where those that waited first are
pub record StillWaits (nodes : List Node) (first now : List Pair) : Type 0 where
  pub to : (s : Assignment) → Solves nodes s → AllEqual s first → AllEqual s now
  pub back : (s : Assignment) → Solves nodes s → AllEqual s now → AllEqual s first
  pub types : Each (IsType nodes) (terms_in now)

pub still_first : (nodes : List Node) (first : List Pair) → Each (IsType nodes) (terms_in first) → StillWaits nodes first first
still_first nodes first types = record { to = λ s h e. e; back = λ s h e. e; types = types }

-- the ends of links of the last pair
pub record Taken (store : List State) (pair : Pair) (a b : ℕ) : Type 0 where
  pub first : LinksTo (nodes_of store) a pair.first
  pub second : LinksTo (nodes_of store) b pair.second
  pub first_lighter : weight store a ≤ weight store pair.first
  pub second_lighter : weight store b ≤ weight store pair.second

pub taken_type : (nodes : List Node) (end i : ℕ) → IsType nodes i → LinksTo nodes end i → end < length nodes → IsType nodes end
taken_type nodes end i t l lt = (lt, λ e m rest. t.1 e (links_on nodes e end i l m) rest)
  where
    links_on : (nodes : List Node) (e end i : ℕ) → LinksTo nodes end i → LinksTo nodes e end → LinksTo nodes e i
    links_on nodes e end _ (itself) m = m
    links_on nodes e end _ (further i next x l) m = further i next x (links_on nodes e end next l m)

pub pops_types : (nodes : List Node) (first now rest : List Pair) (pair : Pair) → StillWaits nodes first now → now ≡ rest ++ pair ∷ [] →
    IsType nodes pair.first × IsType nodes pair.second
pops_types nodes first now rest pair w e =
    let r = each_front (IsType nodes) rest pair (subst (λ (ps : List Pair). Each (IsType nodes) (terms_in ps)) e w.types) in (r.1, r.2)

visited_to : (store : List State) (first now rest after : List Pair) (pair : Pair) (a b : ℕ) (step : Step) → StillWaits (nodes_of store) first now → now ≡ rest ++ pair ∷ [] →
    Taken store pair a b → Visits store a b rest after step →
    (s : Assignment) → Solves (nodes_of store) s → AllEqual s first → Holds s step × AllEqual s after
visited_to store first now rest after pair a b step w e taken v s h all =
    let parts = all_parts s rest (pair ∷ []) (subst (AllEqual s) e (w.to s h all)) in
    let same : s a ≡ s b = sym (links_same (nodes_of store) s a pair.first h taken.first) ∙ parts.1.0 ∙ links_same (nodes_of store) s b pair.second h taken.second in
    let r = v.to s h same in
    (r.0, subst (AllEqual s) (sym v.behind) (all_append s rest v.pairs parts.0 r.1))

visited_back : (store : List State) (first now rest after : List Pair) (pair : Pair) (a b : ℕ) (step : Step) → StillWaits (nodes_of store) first now → now ≡ rest ++ pair ∷ [] →
    Taken store pair a b → Visits store a b rest after step →
    (s : Assignment) → Solves (nodes_of store) s → Holds s step → AllEqual s after → AllEqual s first
visited_back store first now rest after pair a b step w e taken v s h t all =
    let parts = all_parts s rest v.pairs (subst (AllEqual s) v.behind all) in
    let same : s pair.first ≡ s pair.second = links_same (nodes_of store) s a pair.first h taken.first ∙ v.back s h t parts.1 ∙ sym (links_same (nodes_of store) s b pair.second h taken.second) in
    w.back s h (subst (AllEqual s) (sym e) (all_append s rest (pair ∷ []) parts.0 (same, tt)))

visited_types : (store : List State) (first now rest after : List Pair) (pair : Pair) (a b : ℕ) (step : Step) → StillWaits (nodes_of store) first now → now ≡ rest ++ pair ∷ [] →
    Visits store a b rest after step → Each (IsType (nodes_of store)) (terms_in after)
visited_types store first now rest after pair a b step w e v =
    subst (λ (ps : List Pair). Each (IsType (nodes_of store)) (terms_in ps)) (sym v.behind)
    (each_append (IsType (nodes_of store)) rest v.pairs (each_front (IsType (nodes_of store)) rest pair (subst (λ (ps : List Pair). Each (IsType (nodes_of store)) (terms_in ps)) e w.types)).0 v.types)

pub goes_on : (store : List State) (first now rest after : List Pair) (pair : Pair) (a b : ℕ) (step : Step) → StillWaits (nodes_of store) first now → now ≡ rest ++ pair ∷ [] →
    Taken store pair a b → Visits store a b rest after step → step ≡ Done → StillWaits (nodes_of store) first after
goes_on store first now rest after pair a b step w e taken v done = record {
  to = λ s h all. (visited_to store first now rest after pair a b step w e taken v s h all).1;
  back = λ s h all. visited_back store first now rest after pair a b step w e taken v s h (subst (Holds s) (sym done) tt) all;
  types = visited_types store first now rest after pair a b step w e v;
}

pub stops_at : (store : List State) (first now rest after : List Pair) (pair : Pair) (a b : ℕ) (step : Step) → StillWaits (nodes_of store) first now → now ≡ rest ++ pair ∷ [] →
    Taken store pair a b → Visits store a b rest after step → (step ≡ Done → ⊥) → Descends (nodes_of store) first after step
stops_at store first now rest after pair a b step w e taken v other = record {
  to = λ s h all. visited_to store first now rest after pair a b step w e taken v s h all;
  back = λ s h t all. visited_back store first now rest after pair a b step w e taken v s h t all;
  types = visited_types store first now rest after pair a b step w e v;
  takes = v.takes;
  finished = λ d. absurd (other d);
}

pub nothing_waits : (nodes : List Node) (first now : List Pair) → StillWaits nodes first now → now ≡ [] → Descends nodes first now Done
nothing_waits nodes first now w e = record {
  to = λ s h all. (tt, w.to s h all);
  back = λ s h t all. w.back s h all;
  types = w.types;
  takes = tt;
  finished = λ d. e;
}

pub waits_lighter : (store : List State) (now rest after : List Pair) (pair : Pair) (a b : ℕ) (step : Step) → now ≡ rest ++ pair ∷ [] →
    Taken store pair a b → Visits store a b rest after step → sum_of (weight store) (terms_in after) < sum_of (weight store) (terms_in now)
waits_lighter store now rest after pair a b step e taken v =
    let x = ap (λ ps. sum_of (weight store) (terms_in ps)) e in
    let y = ap (λ ps. sum_of (weight store) (terms_in ps)) v.behind in
    let p = sum_append (weight store) rest (pair ∷ []) in
    let q = sum_append (weight store) rest v.pairs in
    let l = v.light in let f = taken.first_lighter in let g = taken.second_lighter in
    omega (arith, x, y, p, q, l, f, g)
