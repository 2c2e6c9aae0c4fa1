-- What makes types comparable and appendable.
use Rattle.std.proofs.Common.{◌≡◌, ◌↔◌, ℕ, ◌<◌, List, [], ◌∷◌, ◌++◌, length, Some, None, sym, subst}
use Rattle.elm_typing.specs.declared.flag.Flag.{Flag}
use Rattle.elm_typing.specs.declared.flag.Flag.TheVariants.{Plain, Comparable, Appendable, Both}
use Rattle.elm_typing.specs.Flags.{IsComparable, AllComparable, IsAppendable, HasFlag}
use Rattle.elm_typing.specs.Ground.{Ground}
use Rattle.type_terms.specs.declared.node.Node.{Node}
use Rattle.type_terms.specs.declared.node.Node.TheVariants.{End}
use Rattle.type_terms.specs.declared.shape.Shape.{Shape}
use Rattle.type_terms.specs.declared.shape.Shape.TheVariants as shape
use Rattle.type_terms.specs.Depth.{IsBelow}
use Rattle.type_terms.specs.Solutions.{Assignment, Solves, Fits, types_of}
use Rattle.type_terms.specs.Terms.{State, nodes_of, node_at, parts, below, Each, Among, LinksTo, StandsIn, here, within, IsVariable}
use Rattle.type_unify.specs.declared.flags.Demand.{Demand}
use Rattle.type_unify.specs.Flagged.{AllowsOrder, AllowsJoining, AllHave, StandWithin, Demands}
use Rattle.type_unify.specs.Heads.{IsVariableShape}
use Rattle.type_unify.specs.Rests.{IsNoRest, RestsApart, IsType, type_parts}
use Rattle.type_unify.specs.Steps.{IsShapeAt}
use Rattle.type_unify.proofs.Heads.{fits_type}
use Rattle.type_unify.proofs.Reading.{each_both, links_same}
use Rattle.type_unify.proofs.Standing.{each_append, each_front, each_of, along_links}
use Rattle.type_unify.proofs.Visiting.{taken_type}

abbrev pub AreComparable : Assignment → List ℕ → Type 0
AreComparable s ks = Each (λ k. IsComparable (s k)) ks

all_to : (s : Assignment) (ks : List ℕ) → AllComparable (types_of s ks) → AreComparable s ks
all_to s [] h = tt
all_to s (k ∷ ks) h = (h.0, all_to s ks h.1)

all_back : (s : Assignment) (ks : List ℕ) → AreComparable s ks → AllComparable (types_of s ks)
all_back s [] h = tt
all_back s (k ∷ ks) h = (h.0, all_back s ks h.1)

order_to : (s : Assignment) (t : Ground) (sh : Shape) → (IsVariableShape sh → ⊥) → Fits ⊥ s t sh → IsComparable t → AllowsOrder sh × AreComparable s (parts sh)
order_to s t (shape.Variable flag) v f h = absurd (v tt)
order_to s t (shape.Opaque number flag) v f h = (subst IsComparable (f.1 (λ z. z)) h, tt)
order_to s t (shape.Named name []) v f h = (subst IsComparable f h, tt)
order_to s t (shape.Named name (x ∷ [])) v f h = let c = subst IsComparable f h in (c.0, (c.1, tt))
order_to s t (shape.Named name (x ∷ y ∷ zs)) v f h = absurd (subst IsComparable f h)
order_to s t (shape.Arrow from to) v f h = absurd (subst IsComparable f h)
order_to s t (shape.Tuple []) v f h = absurd (subst IsComparable f h)
order_to s t (shape.Tuple (x ∷ xs)) v f h = let c = subst IsComparable f h in (tt, (c.0, all_to s xs c.1))
order_to s t (shape.Row fields None) v f h = absurd (subst IsComparable f h)
order_to s t (shape.Row fields (Some rest)) v f h = absurd (subst IsComparable f.2 h)

order_back : (s : Assignment) (t : Ground) (sh : Shape) → (IsVariableShape sh → ⊥) → Fits ⊥ s t sh → AllowsOrder sh → AreComparable s (parts sh) → IsComparable t
order_back s t (shape.Variable flag) v f a h = absurd (v tt)
order_back s t (shape.Opaque number flag) v f a h = subst IsComparable (sym (f.1 (λ z. z))) a
order_back s t (shape.Named name []) v f a h = subst IsComparable (sym f) a
order_back s t (shape.Named name (x ∷ [])) v f a h = subst IsComparable (sym f) (a, h.0)
order_back s t (shape.Named name (x ∷ y ∷ zs)) v f a h = absurd a
order_back s t (shape.Arrow from to) v f a h = absurd a
order_back s t (shape.Tuple []) v f a h = absurd a
order_back s t (shape.Tuple (x ∷ xs)) v f a h = subst IsComparable (sym f) (h.0, all_back s xs h.1)
order_back s t (shape.Row fields rest) v f a h = absurd a

joining_to : (s : Assignment) (t : Ground) (sh : Shape) → (IsVariableShape sh → ⊥) → Fits ⊥ s t sh → IsAppendable t → AllowsJoining sh
joining_to s t (shape.Variable flag) v f h = absurd (v tt)
joining_to s t (shape.Opaque number flag) v f h = subst IsAppendable (f.1 (λ z. z)) h
joining_to s t (shape.Named name []) v f h = subst IsAppendable f h
joining_to s t (shape.Named name (x ∷ [])) v f h = subst IsAppendable f h
joining_to s t (shape.Named name (x ∷ y ∷ zs)) v f h = absurd (subst IsAppendable f h)
joining_to s t (shape.Arrow from to) v f h = absurd (subst IsAppendable f h)
joining_to s t (shape.Tuple ps) v f h = absurd (subst IsAppendable f h)
joining_to s t (shape.Row fields None) v f h = absurd (subst IsAppendable f h)
joining_to s t (shape.Row fields (Some rest)) v f h = absurd (subst IsAppendable f.2 h)

joining_back : (s : Assignment) (t : Ground) (sh : Shape) → (IsVariableShape sh → ⊥) → Fits ⊥ s t sh → AllowsJoining sh → IsAppendable t
joining_back s t (shape.Variable flag) v f a = absurd (v tt)
joining_back s t (shape.Opaque number flag) v f a = subst IsAppendable (sym (f.1 (λ z. z))) a
joining_back s t (shape.Named name []) v f a = subst IsAppendable (sym f) a
joining_back s t (shape.Named name (x ∷ [])) v f a = subst IsAppendable (sym f) a
joining_back s t (shape.Named name (x ∷ y ∷ zs)) v f a = absurd a
joining_back s t (shape.Arrow from to) v f a = absurd a
joining_back s t (shape.Tuple ps) v f a = absurd a
joining_back s t (shape.Row fields rest) v f a = absurd a

-- parts of a shape that allows order are types
order_parts : (P : ℕ → Type 0) (sh : Shape) → AllowsOrder sh → Each P (type_parts (End sh)) → Each P (parts sh)
order_parts P (shape.Named name xs) a h = h
order_parts P (shape.Tuple xs) a h = h
order_parts P (shape.Opaque number flag) a h = tt
order_parts P (shape.Variable flag) a h = absurd a
order_parts P (shape.Arrow from to) a h = absurd a
order_parts P (shape.Row fields rest) a h = absurd a

-- variables that were found, one after another --

have_append : (s : Assignment) (ds es : List Demand) → AllHave s ds → AllHave s es → AllHave s (ds ++ es)
have_append s [] es h k = k
have_append s (d ∷ ds) es h k = (h.0, have_append s ds es h.1 k)

have_parts : (s : Assignment) (ds es : List Demand) → AllHave s (ds ++ es) → AllHave s ds × AllHave s es
have_parts s [] es h = (tt, h)
have_parts s (d ∷ ds) es h = let r = have_parts s ds es h.1 in ((h.0, r.0), r.1)

within_append : (nodes : List Node) (at : ℕ) (ds es : List Demand) → StandWithin nodes at ds → StandWithin nodes at es → StandWithin nodes at (ds ++ es)
within_append nodes at [] es h k = k
within_append nodes at (d ∷ ds) es h k = (h.0, within_append nodes at ds es h.1 k)

pub within_front : (nodes : List Node) (at : ℕ) (ds : List Demand) (d : Demand) → StandWithin nodes at (ds ++ d ∷ []) →
    StandWithin nodes at ds × (IsVariable (node_at nodes d.at) × IsType nodes d.at × StandsIn nodes d.at at)
within_front nodes at [] d h = (tt, h.0)
within_front nodes at (e ∷ ds) d h = let r = within_front nodes at ds d h.1 in ((h.0, r.0), r.1)

pub have_front : (s : Assignment) (ds : List Demand) (d : Demand) → AllHave s (ds ++ d ∷ []) ↔ (AllHave s ds × HasFlag d.flag (s d.at))
have_front s ds d = ((λ h. let r = have_parts s ds (d ∷ []) h in (r.0, r.1.0)), λ h. have_append s ds (d ∷ []) h.0 (h.1, tt))

pub record Asks (nodes : List Node) (at : ℕ) (waiting : List ℕ) (found : List Demand) : Type 0 where
  pub types : Each (IsType nodes) waiting
  pub stands : Each (λ k. (v : ℕ) → StandsIn nodes v k → StandsIn nodes v at) waiting
  pub to : (s : Assignment) → Solves nodes s → IsComparable (s at) → AreComparable s waiting × AllHave s found
  pub back : (s : Assignment) → Solves nodes s → AreComparable s waiting → AllHave s found → IsComparable (s at)
  pub variables : StandWithin nodes at found

pub asks_first : (nodes : List Node) (at : ℕ) (waiting : List ℕ) (found : List Demand) → IsType nodes at → waiting ≡ [] ++ at ∷ [] → found ≡ [] → Asks nodes at waiting found
asks_first nodes at waiting found t e f =
    subst (Asks nodes at waiting) (sym f) (subst (λ (ks : List ℕ). Asks nodes at ks []) (sym e) (record {
      types = (t, tt);
      stands = ((λ v s. s), tt);
      to = λ s h c. ((c, tt), tt);
      back = λ s h c d. c.0;
      variables = tt;
    }))

pub asks_type : (nodes : List Node) (at : ℕ) (waiting rest : List ℕ) (term : ℕ) (found : List Demand) → Asks nodes at waiting found → waiting ≡ rest ++ term ∷ [] → IsType nodes term
asks_type nodes at waiting rest term found a e = (each_front (IsType nodes) rest term (subst (Each (IsType nodes)) e a.types)).1

variable_at : (nodes : List Node) (i : ℕ) (sh : Shape) → node_at nodes i ≡ End sh → IsVariableShape sh → IsVariable (node_at nodes i)
variable_at nodes i (shape.Variable flag) e v = subst IsVariable (sym e) tt
variable_at nodes i (shape.Opaque number flag) e v = absurd v
variable_at nodes i (shape.Named name arguments) e v = absurd v
variable_at nodes i (shape.Arrow from to) e v = absurd v
variable_at nodes i (shape.Tuple ps) e v = absurd v
variable_at nodes i (shape.Row fields rest) e v = absurd v

-- a variable is found
pub asks_variable : (store : List State) (at : ℕ) (waiting rest : List ℕ) (term end : ℕ) (found more : List Demand) (sh : Shape) → Asks (nodes_of store) at waiting found →
    waiting ≡ rest ++ term ∷ [] → LinksTo (nodes_of store) end term → end < length (nodes_of store) → IsShapeAt store end sh → IsVariableShape sh →
    more ≡ found ++ record { at = end; flag = Comparable } ∷ [] → Asks (nodes_of store) at rest more
asks_variable store at waiting rest term end found more sh a e leads lt is v m = subst (Asks (nodes_of store) at rest) (sym m) (record {
  types = (each_front (IsType (nodes_of store)) rest term (subst (Each (IsType (nodes_of store))) e a.types)).0;
  stands = (each_front P rest term (subst (Each P) e a.stands)).0;
  to = λ s h c.
      let r = a.to s h c in
      let w = each_front (λ k. IsComparable (s k)) rest term (subst (AreComparable s) e r.0) in
      (w.0, have_append s found (record { at = end; flag = Comparable } ∷ []) r.1 (subst IsComparable (links_same (nodes_of store) s end term h leads) w.1, tt));
  back = λ s h c d.
      let r = have_parts s found (record { at = end; flag = Comparable } ∷ []) d in
      a.back s h (subst (AreComparable s) (sym e) (each_append (λ k. IsComparable (s k)) rest (term ∷ []) c
      (subst IsComparable (sym (links_same (nodes_of store) s end term h leads)) r.1.0, tt))) r.0;
  variables = within_append (nodes_of store) at found (record { at = end; flag = Comparable } ∷ []) a.variables (
    (
      variable_at (nodes_of store) end sh is.here v,
      taken_type (nodes_of store) end term (asks_type (nodes_of store) at waiting rest term found a e) leads lt,
      (each_front P rest term (subst (Each P) e a.stands)).1 end (along_links (nodes_of store) end end term leads here),
    ),
    tt,
  );
})
  where
    P : ℕ → Type 0
    P k = (v : ℕ) → StandsIn (nodes_of store) v k → StandsIn (nodes_of store) v at

-- a shape's parts wait
pub asks_parts : (store : List State) (at : ℕ) (waiting rest after : List ℕ) (term end : ℕ) (found : List Demand) (sh : Shape) → RestsApart (nodes_of store) → Asks (nodes_of store) at waiting found →
    waiting ≡ rest ++ term ∷ [] → LinksTo (nodes_of store) end term → end < length (nodes_of store) → IsShapeAt store end sh → (IsVariableShape sh → ⊥) → AllowsOrder sh →
    after ≡ rest ++ parts sh → Asks (nodes_of store) at after found
asks_parts store at waiting rest after term end found sh apart a e leads lt is v allows behind = subst (λ (ks : List ℕ). Asks (nodes_of store) at ks found) (sym behind) (record {
  types = each_append (IsType (nodes_of store)) rest (parts sh) (each_front (IsType (nodes_of store)) rest term (subst (Each (IsType (nodes_of store))) e a.types)).0
      (each_both (IsBelow (length (nodes_of store))) (IsNoRest (nodes_of store)) (parts sh) is.inside
      (order_parts (IsNoRest (nodes_of store)) sh allows (subst (λ (n : Node). Each (IsNoRest (nodes_of store)) (type_parts n)) is.here (apart.types end))));
  stands =
      let old = each_front (Reaches store at) rest term (subst (Each (Reaches store at)) e a.stands) in
      each_append (Reaches store at) rest (parts sh) old.0
      (each_of (Reaches store at) (parts sh) (λ k m v s. old.1 v (along_links (nodes_of store) v end term leads (within end k (subst (λ (n : Node). Among k (below n)) (sym is.here) m) s))));
  to = λ s h c.
      let r = a.to s h c in
      let w = each_front (λ k. IsComparable (s k)) rest term (subst (AreComparable s) e r.0) in
      let ends = subst IsComparable (links_same (nodes_of store) s end term h leads) w.1 in
      (each_append (λ k. IsComparable (s k)) rest (parts sh) w.0 (order_to s (s end) sh v (fits s h) ends).1, r.1);
  back = λ s h c d.
      let w = each_parts (λ k. IsComparable (s k)) rest (parts sh) c in
      a.back s h (subst (AreComparable s) (sym e) (each_append (λ k. IsComparable (s k)) rest (term ∷ []) w.0
      (subst IsComparable (sym (links_same (nodes_of store) s end term h leads)) (order_back s (s end) sh v (fits s h) allows w.1), tt))) d;
  variables = a.variables;
})
  where
    each_parts : (P : ℕ → Type 0) (xs ys : List ℕ) → Each P (xs ++ ys) → Each P xs × Each P ys
    each_parts P [] ys h = (tt, h)
    each_parts P (x ∷ xs) ys h = let r = each_parts P xs ys h.1 in ((h.0, r.0), r.1)

    Reaches : List State → ℕ → ℕ → Type 0
    Reaches store at k = (v : ℕ) → StandsIn (nodes_of store) v k → StandsIn (nodes_of store) v at

    fits : (s : Assignment) → Solves (nodes_of store) s → Fits ⊥ s (s end) sh
    fits s h = fits_type (nodes_of store) s end sh (taken_type (nodes_of store) end term (asks_type (nodes_of store) at waiting rest term found a e) leads lt).1 is.here h

pub asks_refused : (store : List State) (at : ℕ) (waiting rest : List ℕ) (term end : ℕ) (found : List Demand) (sh : Shape) → Asks (nodes_of store) at waiting found →
    waiting ≡ rest ++ term ∷ [] → LinksTo (nodes_of store) end term → end < length (nodes_of store) → IsShapeAt store end sh → (IsVariableShape sh → ⊥) → (AllowsOrder sh → ⊥) →
    (s : Assignment) → Solves (nodes_of store) s → IsComparable (s at) → ⊥
asks_refused store at waiting rest term end found sh a e leads lt is v never s h c =
    let r = a.to s h c in
    let w = each_front (λ k. IsComparable (s k)) rest term (subst (AreComparable s) e r.0) in
    never (order_to s (s end) sh v
    (fits_type (nodes_of store) s end sh (taken_type (nodes_of store) end term (asks_type (nodes_of store) at waiting rest term found a e) leads lt).1 is.here h)
    (subst IsComparable (links_same (nodes_of store) s end term h leads) w.1)).0

pub asks_done : (nodes : List Node) (at : ℕ) (waiting : List ℕ) (found : List Demand) → Asks nodes at waiting found → waiting ≡ [] → Demands nodes at Comparable found
asks_done nodes at waiting found a e = record {
  to = λ s h c. (a.to s h c).1;
  back = λ s h d. a.back s h (subst (AreComparable s) (sym e) tt) d;
  variables = a.variables;
}

-- appendable --

pub joins_variable : (store : List State) (at end : ℕ) (found : List Demand) (sh : Shape) → IsType (nodes_of store) at → LinksTo (nodes_of store) end at → end < length (nodes_of store) →
    IsShapeAt store end sh → IsVariableShape sh → found ≡ record { at = end; flag = Appendable } ∷ [] → Demands (nodes_of store) at Appendable found
joins_variable store at end found sh t leads lt is v e = subst (Demands (nodes_of store) at Appendable) (sym e) (record {
  to = λ s h c. (subst IsAppendable (links_same (nodes_of store) s end at h leads) c, tt);
  back = λ s h d. subst IsAppendable (sym (links_same (nodes_of store) s end at h leads)) d.0;
  variables = (
    (variable_at (nodes_of store) end sh is.here v, taken_type (nodes_of store) end at t leads lt, along_links (nodes_of store) end end at leads here),
    tt,
  );
})

joins_fits : (store : List State) (at end : ℕ) (sh : Shape) (s : Assignment) → IsType (nodes_of store) at → LinksTo (nodes_of store) end at → end < length (nodes_of store) →
    IsShapeAt store end sh → Solves (nodes_of store) s → Fits ⊥ s (s at) sh
joins_fits store at end sh s t leads lt is h =
    subst (λ (g : Ground). Fits ⊥ s g sh) (sym (links_same (nodes_of store) s end at h leads))
    (fits_type (nodes_of store) s end sh (taken_type (nodes_of store) end at t leads lt).1 is.here h)

pub joins_allowed : (store : List State) (at end : ℕ) (found : List Demand) (sh : Shape) → IsType (nodes_of store) at → LinksTo (nodes_of store) end at → end < length (nodes_of store) →
    IsShapeAt store end sh → (IsVariableShape sh → ⊥) → AllowsJoining sh → found ≡ [] → Demands (nodes_of store) at Appendable found
joins_allowed store at end found sh t leads lt is v allows e = subst (Demands (nodes_of store) at Appendable) (sym e) (record {
  to = λ s h c. tt;
  back = λ s h d. joining_back s (s at) sh v (joins_fits store at end sh s t leads lt is h) allows;
  variables = tt;
})

pub joins_refused : (store : List State) (at end : ℕ) (sh : Shape) → IsType (nodes_of store) at → LinksTo (nodes_of store) end at → end < length (nodes_of store) →
    IsShapeAt store end sh → (IsVariableShape sh → ⊥) → (AllowsJoining sh → ⊥) → (s : Assignment) → Solves (nodes_of store) s → IsAppendable (s at) → ⊥
joins_refused store at end sh t leads lt is v never s h c = never (joining_to s (s at) sh v (joins_fits store at end sh s t leads lt is h) c)

-- every flag --

pub demands_plain : (nodes : List Node) (at : ℕ) (flag : Flag) (found : List Demand) → flag ≡ Plain → found ≡ [] → Demands nodes at flag found
demands_plain nodes at flag found p e = subst (λ (f : Flag). Demands nodes at f found) (sym p) (subst (Demands nodes at Plain) (sym e) (record {
  to = λ s h c. tt;
  back = λ s h d. tt;
  variables = tt;
}))

pub demands_both : (nodes : List Node) (at : ℕ) (flag : Flag) (first second found : List Demand) → flag ≡ Both → Demands nodes at Comparable first → Demands nodes at Appendable second →
    found ≡ first ++ second → Demands nodes at flag found
demands_both nodes at flag first second found b d e f = subst (λ (g : Flag). Demands nodes at g found) (sym b) (subst (Demands nodes at Both) (sym f) (record {
  to = λ s h c. have_append s first second (d.to s h c.0) (e.to s h c.1);
  back = λ s h c. let r = have_parts s first second c in (d.back s h r.0, e.back s h r.1);
  variables = within_append nodes at first second d.variables e.variables;
}))
