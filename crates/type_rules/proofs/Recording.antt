-- What is asked of records.
use Rattle.std.proofs.Common.{◌≡◌, ℕ, ◌<◌, Some, List, length, [], ◌∷◌, refl, sym, ◌∙◌, ap, subst}
use Rattle.elm_typing.specs.declared.flag.Flag.TheVariants.{Plain}
use Rattle.elm_typing.specs.Flags.{HasFlag}
use Rattle.elm_typing.specs.Ground.{Ground, Row, Record}
use Rattle.elm_typing.specs.Ordered.{RowInOrder}
use Rattle.elm_typing.specs.Rows.{extended, extended_all, newest, removed}
use Rattle.elm_typing.specs.Sorts.{Sort}
use Rattle.elm_typing.proofs.RowMaps.{extended-in_order, newest-extended, removed-extended}
use Rattle.typing_rules.specs.Rules.{NewestIs}
use Rattle.type_terms.specs.declared.node.Node.{Node}
use Rattle.type_terms.specs.Solutions.{Assignment, fields_of}
use Rattle.type_terms.specs.Terms.{Each, terms_of}
use Rattle.type_unify.specs.declared.rows.Tail.{Tail}
use Rattle.type_unify.specs.declared.rows.Tail.TheVariants.{Closed, Rigid, Open}
use Rattle.type_unify.specs.Rests.{IsType}
use Rattle.type_unify.specs.Steps.{IsTail, row_of, under}
use Rattle.type_unify.specs.Taken.{Agree}
use Rattle.well_sorted.proofs.Sorting.{field-apart}
use Rattle.type_conditions.specs.Conditions.{Asked, terms_in, Satisfies, Excludes}
use Rattle.type_conditions.specs.Judging.{Adds, AreEqual, Grows, HasFields, HasOne, IsWell, Judgement, Opens, Restricts}
use Rattle.type_conditions.proofs.Composing.{adds-same}
use Rattle.type_conditions.proofs.Chains.{SeesTypes, Sees, size, adds-then, adds-restricts, opens-adds, opens-restricts, restricts-same, excludes-after, excludes-under, excludes-less}
use Rattle.type_rules.specs.Ruled.{One, Of, HasNewest, IsExtension, IsField, IsRemoval}
use Rattle.type_rules.proofs.Rows.{newest-is, removed-is}
use Rattle.type_rules.proofs.Ruling.{made-equal, made-unequal}

under-sees : (nodes : List Node) (tail : Tail) (s r : Assignment) → IsTail nodes tail → Agree (length nodes) s r → under s tail ≡ under r tail
under-sees nodes Closed s r t agree = refl
under-sees nodes (Rigid at number) s r t agree = refl
under-sees nodes (Open at) s r t agree = ap row_of (agree at t.0)

pub no-fields : (a b : Asked) (fields : List (List ℕ × ℕ)) (tail : Tail) (at : ℕ) → fields ≡ [] → Adds a b (HasFields fields tail) at → Adds a b (HasFields [] tail) at
no-fields a b fields tail at none f = subst (λ (fs : List (List ℕ × ℕ)). Adds a b (HasFields fs tail) at) none f

-- a field of a well sorted record
field-well : (chosen : ℕ → Sort) (l : List ℕ) (t : Ground) (row : Row) → IsWell chosen (Record (extended l t row)) → IsWell chosen t
field-well chosen l t row w = record { sorted = (field-apart chosen l t row w.sorted).0; ordered = (extended-in_order l t row w.ordered).0 }

rest-well : (chosen : ℕ → Sort) (l : List ℕ) (t : Ground) (row : Row) → IsWell chosen (Record (extended l t row)) → IsWell chosen (Record row)
rest-well chosen l t row w = record { sorted = (field-apart chosen l t row w.sorted).2; ordered = (extended-in_order l t row w.ordered).1 }

-- the record's newest field of the label --

-- the term is a record of this field over a row
abbrev pub IsOver : ℕ → List ℕ → ℕ → (ℕ → Sort) → Assignment → Row → Type 0
IsOver x l v chosen s row = IsWell chosen (Record (extended l (s v) row)) × (s x ≡ Record (extended l (s v) row))

over-sees : (n x v : ℕ) (l : List ℕ) → x < n → v < n → (row : Row) → Sees n (λ chosen s. IsOver x l v chosen s row)
over-sees n x v l lx lv row = λ chosen s r agree h. (
  subst (λ t. IsWell chosen (Record (extended l t row))) (agree v lv) h.0,
  sym (agree x lx) ∙ h.1 ∙ ap (λ t. Record (extended l t row)) (agree v lv),
)

over-newest : (x v : ℕ) (l : List ℕ) (chosen : ℕ → Sort) (s : Assignment) → (row : Row) × RowInOrder row × IsOver x l v chosen s row → HasNewest x l v chosen s
over-newest x v l chosen s p = (
  extended l (s v) p.0,
  (p.2.0, sym p.2.1),
  (s v, newest-extended l (s v) p.0, (field-well chosen l (s v) p.0 p.2.0, refl)),
)

newest-over : (x v : ℕ) (l : List ℕ) (chosen : ℕ → Sort) (s : Assignment) → HasNewest x l v chosen s → (row : Row) × RowInOrder row × IsOver x l v chosen s row
newest-over x v l chosen s q =
    let k = newest-is l q.2.0 q.0 q.1.0.ordered q.2.1 in
    let e : q.0 ≡ extended l (s v) k.rest = k.is ∙ ap (λ t. extended l t k.rest) q.2.2.1 in
    (k.rest, k.ordered, (subst (λ r. IsWell chosen (Record r)) e q.1.0, sym q.1.1 ∙ ap Record e))

pub newest-asked : (a b c d : Asked) (x v at : ℕ) (l : List ℕ) (tail : Tail) → IsType (terms_in a) x → IsType (terms_in a) v → Opens a b tail →
    Adds b c (HasFields ((l, v) ∷ []) tail) at → Restricts c d (AreEqual x at) → Restricts a d (HasNewest x l v)
newest-asked a b c d x v at l tail tx tv o f g =
    restricts-same a d (λ chosen s. (row : Row) × RowInOrder row × IsOver x l v chosen s row) (HasNewest x l v)
    (over-newest x v l) (λ chosen s _ q. newest-over x v l chosen s q)
    (opens-restricts a b d tail (IsOver x l v) (over-sees (size a) x v l tx.0 tv.0) o
    (made-equal b c d (λ s. Record (extended l (s v) (under s tail))) x at (o.grows.types x tx) f g))

pub newest-refused : (a b c : Asked) (x v at : ℕ) (l : List ℕ) (tail : Tail) → IsType (terms_in a) x → IsType (terms_in a) v → Opens a b tail →
    Adds b c (HasFields ((l, v) ∷ []) tail) at → Excludes c (AreEqual x at) → Excludes a (HasNewest x l v)
newest-refused a b c x v at l tail tx tv o f g =
    excludes-less a (λ chosen s. (row : Row) × RowInOrder row × IsOver x l v chosen s row) (HasNewest x l v)
    (λ chosen s _ q. newest-over x v l chosen s q)
    (excludes-under a b tail (IsOver x l v) (over-sees (size a) x v l tx.0 tv.0) o
    (made-unequal b c (λ s. Record (extended l (s v) (under s tail))) x at (o.grows.types x tx) f g))

-- a field --

abbrev pub HasField : ℕ → List ℕ → Judgement
HasField x l chosen s type = (row : Row) × Of chosen s x (Record row) × NewestIs l (One chosen type) row

has_field-sees : (n x : ℕ) (l : List ℕ) → x < n → SeesTypes n (HasField x l)
has_field-sees n x l lt = λ type chosen s r agree h. (h.0, (h.1.0, h.1.1 ∙ agree x lt), h.2)

pub field-added : (a b c : Asked) (x v : ℕ) (l : List ℕ) → IsType (terms_in a) x → Adds a b (λ chosen s type. IsWell chosen type × HasFlag Plain type) v →
    Restricts b c (HasNewest x l v) → Adds a c (IsField x l) v
field-added a b c x v l t f g =
    adds-same a c (λ chosen s type. (IsWell chosen type × HasFlag Plain type) × HasField x l chosen s type) (IsField x l) v
    (λ chosen s type. (
      λ p. (p.0.0, (p.1.0, p.1.1, p.1.2.1 ∙ ap Some p.1.2.2.1)),
      λ q. ((q.0, tt), (q.1.0, q.1.1, (type, q.1.2, (q.0, refl)))),
    ))
    (adds-restricts a b c (λ chosen s type. IsWell chosen type × HasFlag Plain type) (HasField x l) v (has_field-sees (size a) x l t.0) f g)

pub field-refused : (a b : Asked) (x v : ℕ) (l : List ℕ) → IsType (terms_in a) x → Adds a b (λ chosen s type. IsWell chosen type × HasFlag Plain type) v →
    Excludes b (HasNewest x l v) → Excludes a (HasOne (IsField x l))
field-refused a b x v l t f g =
    excludes-less a (λ chosen s. (type : Ground) × (IsWell chosen type × HasFlag Plain type) × HasField x l chosen s type) (HasOne (IsField x l))
    (λ chosen s _ q. (q.0, (q.1.0, tt), (q.1.1.0, q.1.1.1, (q.0, q.1.1.2, (q.1.0, refl)))))
    (excludes-after a b (λ chosen s type. IsWell chosen type × HasFlag Plain type) (HasField x l) v (has_field-sees (size a) x l t.0) f g)

-- a record without a field --

-- with a field of this type over this row
abbrev pub Leaves : ℕ → List ℕ → (ℕ → Sort) → Assignment → Ground → Row → Ground → Type 0
Leaves x l chosen s t row type =
    (IsWell chosen (Record (extended l t row)) × (s x ≡ Record (extended l t row))) × One chosen (Record row) type

leaves-sees : (n x : ℕ) (l : List ℕ) → x < n → (t : Ground) (row : Row) (type : Ground) → Sees n (λ chosen s. Leaves x l chosen s t row type)
leaves-sees n x l lt t row type = λ chosen s r agree h. ((h.0.0, sym (agree x lt) ∙ h.0.1), h.1)

abbrev pub LeavesSome : ℕ → List ℕ → (ℕ → Sort) → Assignment → Ground → Ground → Type 0
LeavesSome x l chosen s t type = (row : Row) × RowInOrder row × Leaves x l chosen s t row type

leaves_some-sees : (n x : ℕ) (l : List ℕ) → x < n → (t type : Ground) → Sees n (λ chosen s. LeavesSome x l chosen s t type)
leaves_some-sees n x l lt t type = λ chosen s r agree h. (h.0, h.1, ((h.2.0.0, sym (agree x lt) ∙ h.2.0.1), h.2.1))

left-removal : (x : ℕ) (l : List ℕ) (chosen : ℕ → Sort) (s : Assignment) (type : Ground) →
    (t : Ground) × (IsWell chosen t × HasFlag Plain t) × LeavesSome x l chosen s t type → IsRemoval x l chosen s type
left-removal x l chosen s type p = (
  p.2.2.1.0,
  (extended l p.0 p.2.0, p.2.0, p.2.2.1.1, (p.2.2.0.0, sym p.2.2.0.1), removed-extended l p.0 p.2.0),
)

removal-left : (x : ℕ) (l : List ℕ) (chosen : ℕ → Sort) (s : Assignment) (type : Ground) →
    IsRemoval x l chosen s type → (t : Ground) × (IsWell chosen t × HasFlag Plain t) × LeavesSome x l chosen s t type
removal-left x l chosen s type q =
    let k = removed-is l q.1.0 q.1.1 q.1.3.0.ordered q.1.4 in
    let w : IsWell chosen (Record (extended l k.type q.1.1)) = subst (λ r. IsWell chosen (Record r)) k.is q.1.3.0 in
    (k.type, (field-well chosen l k.type q.1.1 w, tt), (q.1.1, k.ordered, ((w, sym q.1.3.1 ∙ ap Record k.is), (q.0, q.1.2))))

-- the field's record is made before what is left of it
pub removal-added : (a b c d e f : Asked) (x v at to : ℕ) (l : List ℕ) (tail : Tail) → IsType (terms_in a) x →
    Adds a b (λ chosen s type. IsWell chosen type × HasFlag Plain type) v → Opens b c tail →
    Adds c d (HasFields ((l, v) ∷ []) tail) at → Adds d e (HasFields [] tail) to → Restricts e f (AreEqual x at) → Adds a f (IsRemoval x l) to
removal-added a b c d e f x v at to l tail tx fv o fa ft g =
    adds-same a f (λ chosen s type. (t : Ground) × (IsWell chosen t × HasFlag Plain t) × LeavesSome x l chosen s t type) (IsRemoval x l) to
    (λ chosen s type. (left-removal x l chosen s type, removal-left x l chosen s type))
    (adds-then a b f (λ chosen s type. IsWell chosen type × HasFlag Plain type) (LeavesSome x l) v to (leaves_some-sees (size a) x l tx.0) fv
    (opens-adds b c f tail (λ chosen s row type. Leaves x l chosen s (s v) row type) to sees o
    (adds-same c f (λ chosen s type. (first : Ground) × HasFields ((l, v) ∷ []) tail chosen s first × (HasFields [] tail chosen s type × (s x ≡ first)))
    (λ chosen s type. Leaves x l chosen s (s v) (under s tail) type) to
    (λ chosen s type. (
      λ p. ((subst (IsWell chosen) p.1.1 p.1.0, p.2.1 ∙ p.1.1), p.2.0),
      λ q. (Record (extended l (s v) (under s tail)), (q.0.0, refl), (q.1, q.0.1)),
    ))
    (adds-then c d f (HasFields ((l, v) ∷ []) tail) (λ chosen s first type. HasFields [] tail chosen s type × (s x ≡ first)) at to last fa
    (adds-restricts d e f (HasFields [] tail) (λ chosen s type. s x ≡ s at) to
    (λ type chosen s r agree h. sym (agree x (type_in x).0) ∙ h ∙ agree at fa.is_type.0) ft g)))))
  where
    bx : IsType (terms_in b) x
    bx = fv.grows.types x tx

    cx : IsType (terms_in c) x
    cx = o.grows.types x bx

    type_in : (y : ℕ) → IsType (terms_in d) x
    type_in y = fa.grows.types x cx

    sees : (row : Row) (type : Ground) → Sees (size b) (λ chosen s. Leaves x l chosen s (s v) row type)
    sees row type = λ chosen s r agree h. (
      (
        subst (λ t. IsWell chosen (Record (extended l t row))) (agree v fv.is_type.0) h.0.0,
        sym (agree x bx.0) ∙ h.0.1 ∙ ap (λ t. Record (extended l t row)) (agree v fv.is_type.0),
      ),
      h.1,
    )

    last : (first type : Ground) → Sees (size c) (λ chosen s. HasFields [] tail chosen s type × (s x ≡ first))
    last first type = λ chosen s r agree h. (
      (h.0.0, h.0.1 ∙ ap Record (under-sees (terms_in c) tail s r o.is_tail agree)),
      sym (agree x cx.0) ∙ h.1,
    )

pub removal-refused : (a b c d e : Asked) (x v at to : ℕ) (l : List ℕ) (tail : Tail) → IsType (terms_in a) x →
    Adds a b (λ chosen s type. IsWell chosen type × HasFlag Plain type) v → Opens b c tail →
    Adds c d (HasFields ((l, v) ∷ []) tail) at → Adds d e (HasFields [] tail) to → Excludes e (AreEqual x at) → Excludes a (HasOne (IsRemoval x l))
removal-refused a b c d e x v at to l tail tx fv o fa ft g = λ chosen s h q.
    let p = removal-left x l chosen s q.0 q.1 in
    let r = fv.complete chosen s p.0 h p.1 in
    let k = o.complete chosen r.0 p.2.0 r.2 p.2.1 in
    let ex : s x ≡ k.0 x = r.1 x tx.0 ∙ k.1 x bx.0 in
    let ev : p.0 ≡ k.0 v = sym r.3 ∙ k.1 v fv.is_type.0 in
    let whole : Record (extended l p.0 p.2.0) ≡ Record (extended l (k.0 v) (under k.0 tail)) =
    ap (λ t. Record (extended l t p.2.0)) ev ∙ ap (λ w. Record (extended l (k.0 v) w)) (sym k.3) in
    let m = fa.complete chosen k.0 (Record (extended l p.0 p.2.0)) k.2 (p.2.2.0.0, whole) in
    let rest : Record p.2.0 ≡ Record (under m.0 tail) = ap Record (sym k.3 ∙ under-sees (terms_in c) tail k.0 m.0 o.is_tail m.1) in
    let n = ft.complete chosen m.0 (Record p.2.0) m.2 (rest-well chosen l p.0 p.2.0 p.2.2.0.0, rest) in
    g chosen n.0 n.2 (
    sym (n.1 x (fa.grows.types x cx).0) ∙ sym (m.1 x cx.0) ∙ sym ex ∙ p.2.2.0.1 ∙ sym m.3 ∙ n.1 at fa.is_type.0
    )
  where
    bx : IsType (terms_in b) x
    bx = fv.grows.types x tx

    cx : IsType (terms_in c) x
    cx = o.grows.types x bx

-- fields over a record --

fields-see : (n : ℕ) (s r : Assignment) (fields : List (List ℕ × ℕ)) (nodes : List Node) → Agree n s r → ((i : ℕ) → IsType nodes i → i < n) → Each (IsType nodes) (terms_of fields) → fields_of s fields ≡ fields_of r fields
fields-see n s r [] nodes agree lt h = refl
fields-see n s r (f ∷ fs) nodes agree lt h =
    let e = agree f.1 (lt f.1 h.0) in let k = fields-see n s r fs nodes agree lt h.1 in
    ap (λ t. (f.0, t) ∷ fields_of s fs) e ∙ ap (λ l. (f.0, r f.1) ∷ l) k

pub each-type : (a b : Asked) (ks : List ℕ) → Grows a b → Each (IsType (terms_in a)) ks → Each (IsType (terms_in b)) ks
each-type a b [] g h = tt
each-type a b (k ∷ ks) g h = (g.types k h.0, each-type a b ks g h.1)

abbrev pub Extends : ℕ → List (List ℕ × ℕ) → (ℕ → Sort) → Assignment → Row → Ground → Type 0
Extends x fields chosen s row type =
    One chosen (Record (extended_all (fields_of s fields) row)) type × (IsWell chosen (Record row) × (s x ≡ Record row))

extends-sees : (a : Asked) (x : ℕ) (fields : List (List ℕ × ℕ)) → IsType (terms_in a) x → Each (IsType (terms_in a)) (terms_of fields) →
    (row : Row) (type : Ground) → Sees (size a) (λ chosen s. Extends x fields chosen s row type)
extends-sees a x fields t ts row type = λ chosen s r agree h. (
  (h.0.0, h.0.1 ∙ ap (λ fs. Record (extended_all fs row)) (fields-see (size a) s r fields (terms_in a) agree (λ i k. k.0) ts)),
  (h.1.0, sym (agree x t.0) ∙ h.1.1),
)

extends-is : (x : ℕ) (fields : List (List ℕ × ℕ)) (chosen : ℕ → Sort) (s : Assignment) (type : Ground) →
    (row : Row) × RowInOrder row × Extends x fields chosen s row type → IsExtension x fields chosen s type
extends-is x fields chosen s type p = (
  p.2.0.0,
  (p.0, extended_all (fields_of s fields) p.0, p.2.0.1, (p.2.1.0, sym p.2.1.1), refl),
)

is-extends : (x : ℕ) (fields : List (List ℕ × ℕ)) (chosen : ℕ → Sort) (s : Assignment) (type : Ground) →
    IsExtension x fields chosen s type → (row : Row) × RowInOrder row × Extends x fields chosen s row type
is-extends x fields chosen s type q = (
  q.1.0,
  q.1.3.0.ordered,
  ((q.0, q.1.2 ∙ ap Record q.1.4), (q.1.3.0, sym q.1.3.1)),
)

pub extension-added : (a b c d e : Asked) (x at to : ℕ) (fields : List (List ℕ × ℕ)) (tail : Tail) → IsType (terms_in a) x → Each (IsType (terms_in a)) (terms_of fields) →
    Opens a b tail → Adds b c (HasFields fields tail) at → Adds c d (HasFields [] tail) to → Restricts d e (AreEqual x to) → Adds a e (IsExtension x fields) at
extension-added a b c d e x at to fields tail t ts o fa ft g =
    adds-same a e (λ chosen s type. (row : Row) × RowInOrder row × Extends x fields chosen s row type) (IsExtension x fields) at
    (λ chosen s type. (extends-is x fields chosen s type, is-extends x fields chosen s type))
    (opens-adds a b e tail (Extends x fields) at (extends-sees a x fields t ts) o
    (adds-restricts b c e (HasFields fields tail) (λ chosen s type. IsWell chosen (Record (under s tail)) × (s x ≡ Record (under s tail))) at sees fa
    (made-equal c d e (λ s. Record (under s tail)) x to (fa.grows.types x bx) ft g)))
  where
    bx : IsType (terms_in b) x
    bx = o.grows.types x t

    sees : SeesTypes (size b) (λ chosen s type. IsWell chosen (Record (under s tail)) × (s x ≡ Record (under s tail)))
    sees = λ type chosen s r agree h.
        let k = under-sees (terms_in b) tail s r o.is_tail agree in
        (subst (λ w. IsWell chosen (Record w)) k h.0, sym (agree x bx.0) ∙ h.1 ∙ ap Record k)

pub extension-refused : (a b c d : Asked) (x at to : ℕ) (fields : List (List ℕ × ℕ)) (tail : Tail) → IsType (terms_in a) x → Each (IsType (terms_in a)) (terms_of fields) →
    Opens a b tail → Adds b c (HasFields fields tail) at → Adds c d (HasFields [] tail) to → Excludes d (AreEqual x to) → Excludes a (HasOne (IsExtension x fields))
extension-refused a b c d x at to fields tail t ts o fa ft g = λ chosen s h q.
    let p = is-extends x fields chosen s q.0 q.1 in
    let k = o.complete chosen s p.0 h p.1 in
    let whole : Record (extended_all (fields_of s fields) p.0) ≡ Record (extended_all (fields_of k.0 fields) (under k.0 tail)) =
    ap (λ fs. Record (extended_all fs p.0)) (fields-see (size a) s k.0 fields (terms_in a) k.1 (λ i w. w.0) ts) ∙ ap (λ w. Record (extended_all (fields_of k.0 fields) w)) (sym k.3) in
    let m = fa.complete chosen k.0 q.0 k.2 (p.2.0.0, p.2.0.1 ∙ whole) in
    made-unequal c d (λ s. Record (under s tail)) x to (fa.grows.types x bx) ft g chosen m.0 m.2
    (let r = sym k.3 ∙ under-sees (terms_in b) tail k.0 m.0 o.is_tail m.1 in
    (subst (λ w. IsWell chosen (Record w)) r p.2.1.0, sym (k.1 x t.0 ∙ m.1 x bx.0) ∙ p.2.1.1 ∙ ap Record r))
  where
    bx : IsType (terms_in b) x
    bx = o.grows.types x t
