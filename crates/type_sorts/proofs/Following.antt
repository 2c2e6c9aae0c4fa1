-- The search for what is reached from the vertex of signals.
use Rattle.std.proofs.Common.{◌≡◌, ◌≢◌, ℕ, ◌+◌, ◌<◌, List, [], ◌∷◌, ◌++◌, ◌⊎◌, length, refl, sym, ◌∙◌, ap, subst, arith, inl, inr, length-append, take, get_or, add-one}
use Rattle.std.proofs.Math.Seq.{take-suc}
use Rattle.type_sorts.specs.declared.edge.Edge.{Edge}
use Rattle.type_sorts.specs.declared.edge.Vertex.{Vertex}
use Rattle.type_sorts.specs.declared.edge.Vertex.TheVariants.{Simple, Signal}
use Rattle.type_sorts.specs.Vertices.{Member, Follows, Reached, start, along, Separates}

pub Member-front : {A : Type 0} (x z : A) (ys : List A) → Member x ys → Member x (ys ++ z ∷ [])
Member-front x z [] m = elim m [ ]
Member-front x z (y ∷ ys) m = elim m as (λ _. Member x (y ∷ (ys ++ z ∷ []))) [ inl e ↦ inl e | inr n ↦ inr (Member-front x z ys n) ]

pub Member-last : {A : Type 0} (x z : A) (ys : List A) → x ≡ z → Member x (ys ++ z ∷ [])
Member-last x z [] e = inl e
Member-last x z (y ∷ ys) e = inr (Member-last x z ys e)

pub Member-either : {A : Type 0} (x z : A) (ys : List A) → Member x (ys ++ z ∷ []) → Member x ys ⊎ (x ≡ z)
Member-either x z [] m = elim m as (λ _. ⊥ ⊎ (x ≡ z)) [ inl e ↦ inr e | inr n ↦ absurd n ]
Member-either x z (y ∷ ys) m = elim m as (λ _. ((x ≡ y) ⊎ Member x ys) ⊎ (x ≡ z)) [
  | inl e ↦ inl (inl e)
  | inr n ↦ elim (Member-either x z ys n) as (λ _. ((x ≡ y) ⊎ Member x ys) ⊎ (x ≡ z)) [ inl k ↦ inl (inr k) | inr e ↦ inr e ]
]

pub follows-none : (vertex : Vertex) (before : List Vertex) → Follows vertex [] [] before before
follows-none vertex before = record {
  taken = λ edge m. absurd m;
  left = λ edge m. absurd m;
  added = λ v m. inl m;
  waiting = λ v m. m;
  count = refl;
}

pub follows-taken : (vertex : Vertex) (edges kept : List Edge) (before after : List Vertex) (edge : Edge) → edge.below ≡ vertex →
    Follows vertex edges kept before after → Follows vertex (edges ++ edge ∷ []) kept before (after ++ edge.above ∷ [])
follows-taken vertex edges kept before after edge e h = record {
  taken = λ x m. elim (Member-either x edge edges m) as (λ _. Member x kept ⊎ ((x.below ≡ vertex) × Member x.above (after ++ edge.above ∷ []))) [
    | inl old ↦ elim (h.taken x old) as (λ _. Member x kept ⊎ ((x.below ≡ vertex) × Member x.above (after ++ edge.above ∷ []))) [
      | inl k ↦ inl k
      | inr t ↦ inr (t.0, Member-front x.above edge.above after t.1)
    ]
    | inr same ↦ inr (ap (λ (d : Edge). d.below) same ∙ e, Member-last x.above edge.above after (ap (λ (d : Edge). d.above) same))
  ];
  left = λ x m. (Member-front x edge edges (h.left x m).0, (h.left x m).1);
  added = λ v m. elim (Member-either v edge.above after m) as (λ _. Member v before ⊎ ((x : Edge) × Member x (edges ++ edge ∷ []) × (x.below ≡ vertex) × (x.above ≡ v))) [
    | inl old ↦ elim (h.added v old) as (λ _. Member v before ⊎ ((x : Edge) × Member x (edges ++ edge ∷ []) × (x.below ≡ vertex) × (x.above ≡ v))) [
      | inl k ↦ inl k
      | inr t ↦ inr (t.0, Member-front t.0 edge edges t.1, t.2, t.3)
    ]
    | inr same ↦ inr (edge, Member-last edge edge edges refl, e, sym same)
  ];
  waiting = λ v m. Member-front v edge.above after (h.waiting v m);
  count = (let c = h.count in omega (arith, c, length-append edges (edge ∷ []), length-append after (edge.above ∷ [])));
}

pub follows-kept : (vertex : Vertex) (edges kept : List Edge) (before after : List Vertex) (edge : Edge) → edge.below ≢ vertex →
    Follows vertex edges kept before after → Follows vertex (edges ++ edge ∷ []) (kept ++ edge ∷ []) before after
follows-kept vertex edges kept before after edge ne h = record {
  taken = λ x m. elim (Member-either x edge edges m) as (λ _. Member x (kept ++ edge ∷ []) ⊎ ((x.below ≡ vertex) × Member x.above after)) [
    | inl old ↦ elim (h.taken x old) as (λ _. Member x (kept ++ edge ∷ []) ⊎ ((x.below ≡ vertex) × Member x.above after)) [
      | inl k ↦ inl (Member-front x edge kept k)
      | inr t ↦ inr t
    ]
    | inr same ↦ inl (Member-last x edge kept same)
  ];
  left = λ x m. elim (Member-either x edge kept m) as (λ _. Member x (edges ++ edge ∷ []) × (x.below ≢ vertex)) [
    | inl old ↦ (Member-front x edge edges (h.left x old).0, (h.left x old).1)
    | inr same ↦ (Member-last x edge edges same, λ e. ne (sym (ap (λ (d : Edge). d.below) same) ∙ e))
  ];
  added = λ v m. elim (h.added v m) as (λ _. Member v before ⊎ ((x : Edge) × Member x (edges ++ edge ∷ []) × (x.below ≡ vertex) × (x.above ≡ v))) [
    | inl k ↦ inl k
    | inr t ↦ inr (t.0, Member-front t.0 edge edges t.1, t.2, t.3)
  ];
  waiting = h.waiting;
  count = (let c = h.count in omega (arith, c, length-append edges (edge ∷ []), length-append kept (edge ∷ [])));
}

pub followed-taken : (vertex : Vertex) (edges kept : List Edge) (before after newer : List Vertex) (k : ℕ) (d : Edge) → k < length edges → (get_or edges k d).below ≡ vertex →
    newer ≡ after ++ (get_or edges k d).above ∷ [] → Follows vertex (take k edges) kept before after → Follows vertex (take (k + 1) edges) kept before newer
followed-taken vertex edges kept before after newer k d lt e n h =
    subst (λ (l : List Edge). Follows vertex l kept before newer) (sym (ap (λ (j : ℕ). take j edges) (add-one k) ∙ take-suc edges k d lt))
    (subst (Follows vertex (take k edges ++ get_or edges k d ∷ []) kept before) (sym n) (follows-taken vertex (take k edges) kept before after (get_or edges k d) e h))

pub followed-kept : (vertex : Vertex) (edges kept newer : List Edge) (before after : List Vertex) (k : ℕ) (d : Edge) → k < length edges → (get_or edges k d).below ≢ vertex →
    newer ≡ kept ++ get_or edges k d ∷ [] → Follows vertex (take k edges) kept before after → Follows vertex (take (k + 1) edges) newer before after
followed-kept vertex edges kept newer before after k d lt ne n h =
    subst (λ (l : List Edge). Follows vertex l newer before after) (sym (ap (λ (j : ℕ). take j edges) (add-one k) ∙ take-suc edges k d lt))
    (subst (λ (l : List Edge). Follows vertex (take k edges ++ get_or edges k d ∷ []) l before after) (sym n) (follows-kept vertex (take k edges) kept before after (get_or edges k d) ne h))

-- what the search has found so far --

pub record Searching (edges left : List Edge) (waiting signals : List Vertex) : Type 0 where
  pub reached : (v : Vertex) → Member v waiting → Reached edges v
  pub left_of : (e : Edge) → Member e left → Member e edges
  pub taken : (e : Edge) → Member e edges → Member e left ⊎ (Member e.above signals ⊎ Member e.above waiting)
  pub begun : Member Signal signals ⊎ Member Signal waiting
  pub apart : (e : Edge) → Member e left → Member e.below signals → ⊥
  pub simple : Member Simple signals → ⊥

pub searching-begins : (edges : List Edge) (waiting : List Vertex) → waiting ≡ Signal ∷ [] → Searching edges edges waiting []
searching-begins edges waiting e = record {
  reached = λ v m. elim (subst (Member v) e m) as (λ _. Reached edges v) [ inl s ↦ subst (Reached edges) (sym s) start | inr n ↦ absurd n ];
  left_of = λ x m. m;
  taken = λ x m. inl m;
  begun = inr (subst (Member Signal) (sym e) (inl refl));
  apart = λ x m n. n;
  simple = λ m. m;
}

pub searching-goes : (edges left kept : List Edge) (waiting rest after signals : List Vertex) (v : Vertex) → waiting ≡ rest ++ v ∷ [] → v ≢ Simple → Follows v left kept rest after →
    Searching edges left waiting signals → Searching edges kept after (v ∷ signals)
searching-goes edges left kept waiting rest after signals v e ne f h = record {
  reached = λ w m. elim (f.added w m) as (λ _. Reached edges w) [
    | inl old ↦ h.reached w (subst (Member w) (sym e) (Member-front w v rest old))
    | inr t ↦ subst (Reached edges) t.3 (along t.0 (h.left_of t.0 t.1) (subst (Reached edges) (sym t.2) reached-v))
  ];
  left_of = λ x m. h.left_of x (f.left x m).0;
  taken = λ x m. elim (h.taken x m) as (λ _. Goal x) [
    | inl l ↦ elim (f.taken x l) as (λ _. Goal x) [ inl k ↦ inl k | inr t ↦ inr (inr t.1) ]
    | inr d ↦ elim d as (λ _. Goal x) [ inl s ↦ inr (inl (inr s)) | inr w ↦ inr (moved x.above w) ]
  ];
  begun = elim h.begun as (λ _. Member Signal (v ∷ signals) ⊎ Member Signal after) [ inl s ↦ inl (inr s) | inr w ↦ moved Signal w ];
  apart = λ x m n. elim n as (λ _. ⊥) [ inl same ↦ (f.left x m).1 same | inr s ↦ h.apart x (f.left x m).0 s ];
  simple = λ m. elim m as (λ _. ⊥) [ inl same ↦ ne (sym same) | inr s ↦ h.simple s ];
}
  where
    Goal : Edge → Type 0
    Goal x = Member x kept ⊎ (Member x.above (v ∷ signals) ⊎ Member x.above after)

    reached-v : Reached edges v
    reached-v = h.reached v (subst (Member v) (sym e) (Member-last v v rest refl))

    moved : (w : Vertex) → Member w waiting → Member w (v ∷ signals) ⊎ Member w after
    moved w m = elim (Member-either w v rest (subst (Member w) e m)) as (λ _. Member w (v ∷ signals) ⊎ Member w after) [ inl old ↦ inr (f.waiting w old) | inr same ↦ inl (inl same) ]

pub searching-ends : (edges left : List Edge) (waiting signals : List Vertex) → waiting ≡ [] → Searching edges left waiting signals → Separates edges signals
searching-ends edges left waiting signals e h = record {
  signal = elim h.begun as (λ _. Member Signal signals) [ inl s ↦ s | inr w ↦ absurd (subst (Member Signal) e w) ];
  closed = λ x m low. elim (h.taken x m) as (λ _. Member x.above signals) [
    | inl l ↦ absurd (h.apart x l low)
    | inr d ↦ elim d as (λ _. Member x.above signals) [ inl s ↦ s | inr w ↦ absurd (subst (Member x.above) e w) ]
  ];
  simple = h.simple;
}
