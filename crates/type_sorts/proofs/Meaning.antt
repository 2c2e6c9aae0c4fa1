-- What vertices mean in solutions.
use Rattle.std.proofs.Common.{◌≡◌, ◌≢◌, ℕ, zero, suc, ◌<◌, List, [], ◌∷◌, ◌++◌, ◌⊎◌, Bool, true, false, length, refl, sym, ◌∙◌, ap, subst, arith, inl, inr, Some, None, slice_index_or, if◌then◌else◌, get_or}
use native.Mathlib.Decide.{ℕ_discrete}
use Rattle.std.specs.Str.{bytes_eq}
use Rattle.elm_typing.specs.declared.flag.Flag.TheVariants.{Plain, Comparable, Appendable, Both}
use Rattle.elm_typing.specs.Ground.{Ground, Row, Named, Tuple, Record, NoGrounds, AndGround}
use Rattle.elm_typing.specs.Names.{signal_name}
use Rattle.elm_typing.specs.Ordered.{InOrder}
use Rattle.elm_typing.specs.Sorts.{Sort, Simple as SimpleSort, Signal as SignalSort, IsAtMost, sort_of}
use Rattle.type_terms.specs.declared.node.Node.{Node}
use Rattle.type_terms.specs.declared.node.Node.TheVariants.{End}
use Rattle.type_terms.specs.declared.shape.Shape.{Shape}
use Rattle.type_terms.specs.declared.shape.Shape.TheVariants as shape
use Rattle.type_terms.specs.Terms.{node_at, IsLink, IsRest}
use Rattle.type_terms.specs.Solutions.{Assignment, Solves, FitsNode}
use Rattle.type_terms.specs.Depth.{IsSound, AreNotesBelow}
use Rattle.elm_typing.proofs.FlagSorts.{flagged-simple}
use Rattle.type_terms.proofs.Existence.{solved-record, variables-free}
use Rattle.type_sorts.specs.declared.edge.Edge.{Edge}
use Rattle.type_sorts.specs.declared.edge.Vertex.{Vertex}
use Rattle.type_sorts.specs.declared.edge.Vertex.TheVariants.{Simple, Signal, Variable, Opaque}
use Rattle.type_sorts.specs.Sorts.{Meets}
use Rattle.type_sorts.specs.Vertices.{sort_at, vertex_of, IsFree, Stands, IsArrow, AreEdges, Member, Reached, start, along, Separates, AreRests}

record-simple : (chosen : ℕ → Sort) (t : Ground) (row : Row) → t ≡ Record row → sort_of chosen t ≡ SimpleSort
record-simple chosen t row e = ap (sort_of chosen) e

sort_at-name : (variables opaques : ℕ → Sort) (b : Bool) → sort_at variables opaques (if b then Signal else Simple) ≡ (if b then SignalSort else SimpleSort)
sort_at-name variables opaques true = refl
sort_at-name variables opaques false = refl

-- the vertex of an end has its sort
end-sort : (nodes : List Node) (end : ℕ) (form : Shape) (rest : Bool) → node_at nodes end ≡ End form → (IsArrow (End form) → ⊥) → (rest ≡ true → IsRest nodes end) → (rest ≡ false → IsRest nodes end → ⊥) →
    (s : Assignment) (chosen : ℕ → Sort) → Solves nodes s → FitsNode (IsRest nodes end) s (s end) (End form) → sort_of chosen (s end) ≡ sort_at (λ v. sort_of chosen (s v)) chosen (vertex_of form end rest)
end-sort nodes end (shape.Variable Plain) false e not is isnt s chosen h fit = refl
end-sort nodes end (shape.Variable Plain) true e not is isnt s chosen h fit =
    let r = solved-record nodes s end h (is refl) in record-simple chosen (s end) r.0 r.1
end-sort nodes end (shape.Variable Comparable) rest e not is isnt s chosen h fit = flagged-simple chosen Comparable (s end) (λ f. cc f) fit
end-sort nodes end (shape.Variable Appendable) rest e not is isnt s chosen h fit = flagged-simple chosen Appendable (s end) (λ f. cc f) fit
end-sort nodes end (shape.Variable Both) rest e not is isnt s chosen h fit = flagged-simple chosen Both (s end) (λ f. cc f) fit
end-sort nodes end (shape.Opaque number Plain) false e not is isnt s chosen h fit = ap (sort_of chosen) (fit.1 (isnt refl))
end-sort nodes end (shape.Opaque number Plain) true e not is isnt s chosen h fit = ap (sort_of chosen) (fit.0 (is refl))
end-sort nodes end (shape.Opaque number Comparable) false e not is isnt s chosen h fit = ap (sort_of chosen) (fit.1 (isnt refl))
end-sort nodes end (shape.Opaque number Comparable) true e not is isnt s chosen h fit = ap (sort_of chosen) (fit.0 (is refl))
end-sort nodes end (shape.Opaque number Appendable) false e not is isnt s chosen h fit = ap (sort_of chosen) (fit.1 (isnt refl))
end-sort nodes end (shape.Opaque number Appendable) true e not is isnt s chosen h fit = ap (sort_of chosen) (fit.0 (is refl))
end-sort nodes end (shape.Opaque number Both) false e not is isnt s chosen h fit = ap (sort_of chosen) (fit.1 (isnt refl))
end-sort nodes end (shape.Opaque number Both) true e not is isnt s chosen h fit = ap (sort_of chosen) (fit.0 (is refl))
end-sort nodes end (shape.Named name arguments) rest e not is isnt s chosen h fit =
    ap (sort_of chosen) fit ∙ sym (sort_at-name (λ v. sort_of chosen (s v)) chosen (bytes_eq name signal_name))
end-sort nodes end (shape.Arrow from to) rest e not is isnt s chosen h fit = absurd (not tt)
end-sort nodes end (shape.Tuple ps) rest e not is isnt s chosen h fit = ap (sort_of chosen) fit
end-sort nodes end (shape.Row fields None) rest e not is isnt s chosen h fit = ap (sort_of chosen) fit
end-sort nodes end (shape.Row fields (Some r)) rest e not is isnt s chosen h fit = ap (sort_of chosen) fit.2

free-name : (nodes : List Node) (b : Bool) → IsFree nodes (if b then Signal else Simple)
free-name nodes true = tt
free-name nodes false = tt

end-free : (nodes : List Node) (end : ℕ) (form : Shape) (rest : Bool) → node_at nodes end ≡ End form → (rest ≡ false → IsRest nodes end → ⊥) → IsFree nodes (vertex_of form end rest)
end-free nodes end (shape.Variable Plain) false e isnt = (e, isnt refl)
end-free nodes end (shape.Variable Plain) true e isnt = tt
end-free nodes end (shape.Variable Comparable) rest e isnt = tt
end-free nodes end (shape.Variable Appendable) rest e isnt = tt
end-free nodes end (shape.Variable Both) rest e isnt = tt
end-free nodes end (shape.Opaque number Plain) false e isnt = tt
end-free nodes end (shape.Opaque number Plain) true e isnt = tt
end-free nodes end (shape.Opaque number Comparable) rest e isnt = tt
end-free nodes end (shape.Opaque number Appendable) rest e isnt = tt
end-free nodes end (shape.Opaque number Both) rest e isnt = tt
end-free nodes end (shape.Named name arguments) rest e isnt = free-name nodes (bytes_eq name signal_name)
end-free nodes end (shape.Arrow from to) rest e isnt = tt
end-free nodes end (shape.Tuple ps) rest e isnt = tt
end-free nodes end (shape.Row fields rest2) rest e isnt = tt

pub vertex-stands : (nodes : List Node) (marks : List Bool) (at end : ℕ) (form : Shape) (rest : Bool) (vertex : Vertex) → AreRests nodes marks → (IsLink (node_at nodes end) → ⊥) → (IsArrow (node_at nodes end) → ⊥) →
    node_at nodes end ≡ End form → slice_index_or marks end false ≡ rest → ((s : Assignment) (chosen : ℕ → Sort) → Solves nodes s → sort_of chosen (s at) ≡ sort_of chosen (s end)) →
    vertex ≡ vertex_of form end rest → Stands nodes at vertex
vertex-stands nodes marks at end form rest vertex marked no_link no_arrow e m sorts is = record {
  sort = λ s chosen h.
      sorts s chosen h
      ∙ end-sort nodes end form rest e (λ a. no_arrow (subst IsArrow (sym e) a)) yes_rest no_rest s chosen h (subst (FitsNode (IsRest nodes end) s (s end)) e (h.fits end))
      ∙ ap (sort_at (λ v. sort_of chosen (s v)) chosen) (sym is);
  free = subst (IsFree nodes) (sym is) (end-free nodes end form rest e no_rest);
}
  where
    yes_rest : rest ≡ true → IsRest nodes end
    yes_rest t = marked.yes end (m ∙ t)

    no_rest : rest ≡ false → IsRest nodes end → ⊥
    no_rest t = marked.no end no_link (m ∙ t)

-- edges of notes --

pub edges-more : (nodes : List Node) (notes : List (ℕ × ℕ)) (edges : List Edge) (note : ℕ × ℕ) (edge : Edge) → AreEdges nodes notes edges → Stands nodes note.0 edge.below → Stands nodes note.1 edge.above →
    AreEdges nodes (notes ++ note ∷ []) (edges ++ edge ∷ [])
edges-more nodes [] [] note edge h low high = (low, high, tt)
edges-more nodes (m ∷ notes) (e ∷ edges) note edge h low high = (h.0, h.1, edges-more nodes notes edges note edge h.2 low high)
edges-more nodes [] (e ∷ edges) note edge h low high = absurd h
edges-more nodes (m ∷ notes) [] note edge h low high = absurd h

pub note-inside : (n : ℕ) (notes : List (ℕ × ℕ)) (k : ℕ) → AreNotesBelow n notes → k < length notes → ((get_or notes k (0, 0)).0 < n) × ((get_or notes k (0, 0)).1 < n)
note-inside n [] k h lt = absurd (omega arith)
note-inside n (m ∷ notes) zero h lt = (h.0, h.1)
note-inside n (m ∷ notes) (suc k) h lt = note-inside n notes k h.2 (omega arith)

-- no sorts where the vertex of simple types is reached --

edge-holds : (nodes : List Node) (notes : List (ℕ × ℕ)) (edges : List Edge) (s : Assignment) (chosen : ℕ → Sort) → AreEdges nodes notes edges → Solves nodes s → Meets s chosen notes → (edge : Edge) → Member edge edges →
    IsAtMost (sort_at (λ v. sort_of chosen (s v)) chosen edge.below) (sort_at (λ v. sort_of chosen (s v)) chosen edge.above)
edge-holds nodes [] [] s chosen are h meets edge m = absurd m
edge-holds nodes [] (e ∷ edges) s chosen are h meets edge m = absurd are
edge-holds nodes (note ∷ notes) [] s chosen are h meets edge m = absurd m
edge-holds nodes (note ∷ notes) (e ∷ edges) s chosen are h meets edge m =
    elim m as (λ _. IsAtMost (sort_at (λ v. sort_of chosen (s v)) chosen edge.below) (sort_at (λ v. sort_of chosen (s v)) chosen edge.above)) [
      | inl same ↦ subst (λ (x : Edge). IsAtMost (sort_at (λ v. sort_of chosen (s v)) chosen x.below) (sort_at (λ v. sort_of chosen (s v)) chosen x.above)) (sym same)
          (subst (λ (a : Sort). IsAtMost a (sort_at (λ v. sort_of chosen (s v)) chosen e.above)) (are.0.sort s chosen h)
          (subst (IsAtMost (sort_of chosen (s note.0))) (are.1.sort s chosen h) meets.0))
      | inr n ↦ edge-holds nodes notes edges s chosen are.2 h meets.1 edge n
    ]

above-signal : (a b : Sort) → a ≡ SignalSort → IsAtMost a b → b ≡ SignalSort
above-signal SignalSort SignalSort e h = refl
above-signal SignalSort SimpleSort e h = absurd h
above-signal SimpleSort b e h = cc e

reached-signal : (edges : List Edge) (variables opaques : ℕ → Sort) → ((edge : Edge) → Member edge edges → IsAtMost (sort_at variables opaques edge.below) (sort_at variables opaques edge.above)) →
    (v : Vertex) → Reached edges v → sort_at variables opaques v ≡ SignalSort
reached-signal edges variables opaques holds _ (start) = refl
reached-signal edges variables opaques holds _ (along edge m r) =
    above-signal (sort_at variables opaques edge.below) (sort_at variables opaques edge.above) (reached-signal edges variables opaques holds edge.below r) (holds edge m)

pub reached-refuses : (nodes : List Node) (notes : List (ℕ × ℕ)) (edges : List Edge) → AreEdges nodes notes edges → Reached edges Simple → (s : Assignment) (chosen : ℕ → Sort) → Solves nodes s → Meets s chosen notes → ⊥
reached-refuses nodes notes edges are reached s chosen h meets =
    let e = reached-signal edges (λ v. sort_of chosen (s v)) chosen (edge-holds nodes notes edges s chosen are h meets) Simple reached in cc e

-- sorts where it isn't --

vertex_tells : (v w : Vertex) → (v ≡ w) ⊎ (v ≢ w)
vertex_tells Simple Simple = inl refl
vertex_tells Simple Signal = inr (λ e. cc e)
vertex_tells Simple (Variable j) = inr (λ e. cc e)
vertex_tells Simple (Opaque j) = inr (λ e. cc e)
vertex_tells Signal Simple = inr (λ e. cc e)
vertex_tells Signal Signal = inl refl
vertex_tells Signal (Variable j) = inr (λ e. cc e)
vertex_tells Signal (Opaque j) = inr (λ e. cc e)
vertex_tells (Variable i) Simple = inr (λ e. cc e)
vertex_tells (Variable i) Signal = inr (λ e. cc e)
vertex_tells (Variable i) (Variable j) = elim (ℕ_discrete i j) as (λ _. (Variable i ≡ Variable j) ⊎ (Variable i ≢ Variable j)) [ yes e ↦ inl (ap Variable e) | no ne ↦ inr (λ e. ne (cc e)) ]
vertex_tells (Variable i) (Opaque j) = inr (λ e. cc e)
vertex_tells (Opaque i) Simple = inr (λ e. cc e)
vertex_tells (Opaque i) Signal = inr (λ e. cc e)
vertex_tells (Opaque i) (Variable j) = inr (λ e. cc e)
vertex_tells (Opaque i) (Opaque j) = elim (ℕ_discrete i j) as (λ _. (Opaque i ≡ Opaque j) ⊎ (Opaque i ≢ Opaque j)) [ yes e ↦ inl (ap Opaque e) | no ne ↦ inr (λ e. ne (cc e)) ]

member_tells : (v : Vertex) (vs : List Vertex) → Member v vs ⊎ (Member v vs → ⊥)
member_tells v [] = inr (λ m. m)
member_tells v (w ∷ vs) = elim (vertex_tells v w) as (λ _. Member v (w ∷ vs) ⊎ (Member v (w ∷ vs) → ⊥)) [
  | inl e ↦ inl (inl e)
  | inr ne ↦ elim (member_tells v vs) as (λ _. Member v (w ∷ vs) ⊎ (Member v (w ∷ vs) → ⊥)) [
    | inl m ↦ inl (inr m)
    | inr not ↦ inr (λ m. elim m as (λ _. ⊥) [ inl e ↦ ne e | inr n ↦ not n ])
  ]
]

-- the sort that a set of signals picks, and a type of it
record Picks (signals : List Vertex) (v : Vertex) : Type 0 where
  type : Ground
  order : InOrder type
  sort : Sort
  has : (chosen : ℕ → Sort) → sort_of chosen type ≡ sort
  signal : Member v signals → sort ≡ SignalSort
  simple : (Member v signals → ⊥) → sort ≡ SimpleSort

picks : (signals : List Vertex) (v : Vertex) → Picks signals v
picks signals v = elim (member_tells v signals) as (λ _. Picks signals v) [
  | inl m ↦ record { type = Named signal_name (AndGround (Tuple NoGrounds) NoGrounds); order = (tt, tt); sort = SignalSort; has = λ chosen. refl; signal = λ _. refl; simple = λ not. absurd (not m) }
  | inr not ↦ record { type = Tuple NoGrounds; order = tt; sort = SimpleSort; has = λ chosen. refl; signal = λ m. absurd (not m); simple = λ _. refl }
]

at-most : (edges : List Edge) (signals : List Vertex) → Separates edges signals → (edge : Edge) → Member edge edges → IsAtMost (picks signals edge.below).sort (picks signals edge.above).sort
at-most edges signals h edge m = elim (member_tells edge.below signals) as (λ _. IsAtMost (picks signals edge.below).sort (picks signals edge.above).sort) [
  | inl low ↦ subst (IsAtMost (picks signals edge.below).sort) (sym ((picks signals edge.above).signal (h.closed edge m low))) (below-signal (picks signals edge.below).sort)
  | inr not ↦ subst (λ (a : Sort). IsAtMost a (picks signals edge.above).sort) (sym ((picks signals edge.below).simple not)) (above-simple (picks signals edge.above).sort)
]
  where
    below-signal : (a : Sort) → IsAtMost a SignalSort
    below-signal SignalSort = tt
    below-signal SimpleSort = tt

    above-simple : (a : Sort) → IsAtMost SimpleSort a
    above-simple SignalSort = tt
    above-simple SimpleSort = tt

pub separate-meets : (nodes : List Node) (bound : ℕ) (notes : List (ℕ × ℕ)) (edges : List Edge) (signals : List Vertex) → IsSound nodes bound → AreEdges nodes notes edges → Separates edges signals → ((s : Assignment) × Solves nodes s) →
    (s : Assignment) × (chosen : ℕ → Sort) × Solves nodes s × Meets s chosen notes
separate-meets nodes bound notes edges signals sound are separates one =
    let free = variables-free nodes bound one.0 (λ i. (picks signals (Variable i)).type) sound one.1 (λ i. (picks signals (Variable i)).order) in
    (free.0, λ n. (picks signals (Opaque n)).sort, free.1, meets free.0 free.1 free.2 notes edges are (λ edge m. m))
  where
    picked : (s : Assignment) → ((i : ℕ) → node_at nodes i ≡ End (shape.Variable Plain) → (IsRest nodes i → ⊥) → s i ≡ (picks signals (Variable i)).type) →
        (v : Vertex) → IsFree nodes v → sort_at (λ i. sort_of (λ n. (picks signals (Opaque n)).sort) (s i)) (λ n. (picks signals (Opaque n)).sort) v ≡ (picks signals v).sort
    picked s free Simple f = sym ((picks signals Simple).simple separates.simple)
    picked s free Signal f = sym ((picks signals Signal).signal separates.signal)
    picked s free (Variable i) f = ap (sort_of (λ n. (picks signals (Opaque n)).sort)) (free i f.0 f.1) ∙ (picks signals (Variable i)).has (λ n. (picks signals (Opaque n)).sort)
    picked s free (Opaque n) f = refl

    meets : (s : Assignment) → Solves nodes s → ((i : ℕ) → node_at nodes i ≡ End (shape.Variable Plain) → (IsRest nodes i → ⊥) → s i ≡ (picks signals (Variable i)).type) →
        (ns : List (ℕ × ℕ)) (es : List Edge) → AreEdges nodes ns es → ((edge : Edge) → Member edge es → Member edge edges) → Meets s (λ n. (picks signals (Opaque n)).sort) ns
    meets s h free [] [] a sub = tt
    meets s h free [] (e ∷ es) a sub = tt
    meets s h free (n ∷ ns) [] a sub = absurd a
    meets s h free (n ∷ ns) (e ∷ es) a sub =
        let low = a.0.sort s (λ n. (picks signals (Opaque n)).sort) h ∙ picked s free e.below a.0.free in
        let high = a.1.sort s (λ n. (picks signals (Opaque n)).sort) h ∙ picked s free e.above a.1.free in (
          subst (λ (x : Sort). IsAtMost x (sort_of (λ n. (picks signals (Opaque n)).sort) (s n.1))) (sym low)
              (subst (IsAtMost (picks signals e.below).sort) (sym high) (at-most edges signals separates e (sub e (inl refl)))),
          meets s h free ns es a.2 (λ edge m. sub edge (inr m)),
        )
