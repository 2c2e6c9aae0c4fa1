-- What each call asks, by the links of its chain.
use Rattle.std.proofs.Common.{◌≡◌, ℕ, ◌<◌, List, [], ◌∷◌, Result, Ok, Err, IfOk, OnOk, refl, sym, ◌∙◌, ap, subst}
use Rattle.elm_base.specs.declared.memory.Halt.{Halt}
use Rattle.elm_base.specs.declared.memory.Halt.TheVariants.{Because}
use Rattle.elm_typing.specs.declared.flag.Flag.TheVariants.{Plain}
use Rattle.elm_typing.specs.Flags.{HasFlag}
use Rattle.elm_typing.specs.Ground.{Ground, Named, Function, Tuple, NoGrounds, AndGround}
use Rattle.elm_typing.specs.Names.{int_name, list_name, list_of, signal_name}
use Rattle.elm_typing.specs.Sorts.{Sort}
use Rattle.elm_typing.specs.Spelling.{int}
use Rattle.typing_rules.specs.WrittenTypes.{Written, IsInstance}
use Rattle.type_terms.specs.declared.no_solution.NoSolution.{NoSolution}
use Rattle.type_terms.specs.declared.shape.Shape.TheVariants as shape
use Rattle.type_terms.specs.Solutions.{Assignment, Fits, types_of}
use Rattle.type_unify.specs.Refused.{OnRefusal}
use Rattle.type_unify.specs.Rests.{IsType}
use Rattle.type_unify.specs.Taken.{Agree}
use Rattle.type_conditions.specs.Conditions.{Asked, terms_in, Satisfies, Excludes}
use Rattle.type_conditions.specs.Judging.{Adds, AreEqual, HasOne, IsWell, Judgement, Restricts}
use Rattle.type_conditions.proofs.Composing.{adds-same}
use Rattle.type_conditions.proofs.Chains.{SeesTypes, Sees, size, adds-restricts, restricts-adds, restricts-hidden, restricts-same, restricts-then, excludes-after, excludes-behind, excludes-less}
use Rattle.type_rules.specs.Ruled.{One, Of, IsBase, HasBase, IsCall, IsHeld, IsListOf, IsRange, IsSignalOf}

pub on_refusal : {A : Type 0} (r : Result A (Halt NoSolution)) (P Q : Type 0) → (P → Q) → OnRefusal r P → OnRefusal r Q
on_refusal r P Q f h = λ why e. f (h why e)

pub given-adds : (done : Result (Unit {0}) (Halt NoSolution)) (r : Result ℕ (Halt NoSolution)) (at : ℕ) (R : Type 0) (X : ℕ → Type 0) → IfOk r (λ to. (to ≡ at) × (done ≡ Ok tt)) → OnOk done R → (R → X at) → IfOk r X
given-adds done (Ok to) at R X h d f = subst X (sym h.0) (f (subst (λ (q : Result (Unit {0}) (Halt NoSolution)). OnOk q R) h.1 d))
given-adds done (Err e) at R X h d f = tt

pub given-refused : (done : Result (Unit {0}) (Halt NoSolution)) (r : Result ℕ (Halt NoSolution)) (R X : Type 0) →
    ((why : NoSolution) → r ≡ Err (Because why) → done ≡ Err (Because why)) → OnRefusal done R → (R → X) → OnRefusal r X
given-refused done r R X same d f = λ why e. f (d why (same why e))

sees-equal : (n x : ℕ) → x < n → SeesTypes n (λ chosen s type. s x ≡ type)
sees-equal n x lt = λ type chosen s r agree e. sym (agree x lt) ∙ e

-- a term is equal to one that is made
pub made-equal : (a b c : Asked) (F : Assignment → Ground) (x at : ℕ) → IsType (terms_in a) x →
    Adds a b (λ chosen s type. One chosen (F s) type) at → Restricts b c (AreEqual x at) →
    Restricts a c (λ chosen s. IsWell chosen (F s) × (s x ≡ F s))
made-equal a b c F x at t f g =
    restricts-same a c (λ chosen s. (type : Ground) × One chosen (F s) type × (s x ≡ type)) (λ chosen s. IsWell chosen (F s) × (s x ≡ F s))
    (λ chosen s h. (subst (IsWell chosen) h.1.1 h.1.0, h.2 ∙ h.1.1))
    (λ chosen s _ q. (F s, (q.0, refl), q.1))
    (restricts-hidden a b c (λ chosen s type. One chosen (F s) type) (λ chosen s type. s x ≡ type) at (sees-equal (size a) x t.0) f g)

pub made-unequal : (a b : Asked) (F : Assignment → Ground) (x at : ℕ) → IsType (terms_in a) x →
    Adds a b (λ chosen s type. One chosen (F s) type) at → Excludes b (AreEqual x at) →
    Excludes a (λ chosen s. IsWell chosen (F s) × (s x ≡ F s))
made-unequal a b F x at t f g =
    excludes-less a (λ chosen s. (type : Ground) × One chosen (F s) type × (s x ≡ type)) (λ chosen s. IsWell chosen (F s) × (s x ≡ F s))
    (λ chosen s _ q. (F s, (q.0, refl), q.1))
    (excludes-after a b (λ chosen s type. One chosen (F s) type) (λ chosen s type. s x ≡ type) at (sees-equal (size a) x t.0) f g)

-- a type without arguments --

pub base-added : (old new : Asked) (name copied arguments : List ℕ) (at : ℕ) → copied ≡ name → arguments ≡ [] →
    Adds old new (λ chosen s type. IsWell chosen type × Fits ⊥ s type (shape.Named copied arguments)) at → Adds old new (IsBase name) at
base-added old new name copied arguments at same none a =
    adds-same old new (λ chosen s type. IsWell chosen type × Fits ⊥ s type (shape.Named copied arguments)) (IsBase name) at
    (λ chosen s type.
    let e : Named copied (types_of s arguments) ≡ Named name NoGrounds = ap (λ ks. Named copied (types_of s ks)) none ∙ ap (λ n. Named n NoGrounds) same in
    (λ p. (p.0, p.1 ∙ e), λ q. (q.0, q.1 ∙ sym e))) a

pub unit-added : (old new : Asked) (parts : List ℕ) (at : ℕ) → parts ≡ [] →
    Adds old new (λ chosen s type. IsWell chosen type × Fits ⊥ s type (shape.Tuple parts)) at → Adds old new (λ chosen s type. One chosen (Tuple NoGrounds) type) at
unit-added old new parts at none a =
    adds-same old new (λ chosen s type. IsWell chosen type × Fits ⊥ s type (shape.Tuple parts)) (λ chosen s type. One chosen (Tuple NoGrounds) type) at
    (λ chosen s type.
    let e : Tuple (types_of s parts) ≡ Tuple NoGrounds = ap (λ ks. Tuple (types_of s ks)) none in
    (λ p. (p.0, p.1 ∙ e), λ q. (q.0, q.1 ∙ sym e))) a

-- the one argument of the type of this name
one-argument : (old new : Asked) (name copied arguments : List ℕ) (element at : ℕ) → copied ≡ name → arguments ≡ element ∷ [] →
    Adds old new (λ chosen s type. IsWell chosen type × Fits ⊥ s type (shape.Named copied arguments)) at →
    Adds old new (λ chosen s type. One chosen (Named name (AndGround (s element) NoGrounds)) type) at
one-argument old new name copied arguments element at same one a =
    adds-same old new (λ chosen s type. IsWell chosen type × Fits ⊥ s type (shape.Named copied arguments)) (λ chosen s type. One chosen (Named name (AndGround (s element) NoGrounds)) type) at
    (λ chosen s type.
    let e : Named copied (types_of s arguments) ≡ Named name (AndGround (s element) NoGrounds) =
    ap (λ ks. Named copied (types_of s ks)) one ∙ ap (λ n. Named n (AndGround (s element) NoGrounds)) same in
    (λ p. (p.0, p.1 ∙ e), λ q. (q.0, q.1 ∙ sym e))) a

pub list-added : (old new : Asked) (copied arguments : List ℕ) (element at : ℕ) → copied ≡ list_name → arguments ≡ element ∷ [] →
    Adds old new (λ chosen s type. IsWell chosen type × Fits ⊥ s type (shape.Named copied arguments)) at → Adds old new (IsListOf element) at
list-added old new copied arguments element at same one a =
    adds-same old new (λ chosen s type. One chosen (list_of (s element)) type) (IsListOf element) at
    (λ chosen s type. (
      λ p.
          let w : IsWell chosen (list_of (s element)) = subst (IsWell chosen) p.1 p.0 in
          (p.0, (s element, p.1, (record { sorted = w.sorted.0; ordered = w.ordered.0 }, refl))),
      λ q. (q.0, q.1.1 ∙ ap list_of q.1.2.1),
    ))
    (one-argument old new list_name copied arguments element at same one a)

pub signal-added : (old new : Asked) (copied arguments : List ℕ) (value at : ℕ) → copied ≡ signal_name → arguments ≡ value ∷ [] →
    Adds old new (λ chosen s type. IsWell chosen type × Fits ⊥ s type (shape.Named copied arguments)) at → Adds old new (IsSignalOf value) at
signal-added old new copied arguments value at same one a = one-argument old new signal_name copied arguments value at same one a

base-well : (chosen : ℕ → Sort) (name : List ℕ) → IsWell chosen (Named name NoGrounds)
base-well chosen name = record { sorted = tt; ordered = tt }

pub base-held : (a b c : Asked) (name : List ℕ) (x at : ℕ) → IsType (terms_in a) x → Adds a b (IsBase name) at → Restricts b c (AreEqual x at) → Restricts a c (HasBase name x)
base-held a b c name x at t f g =
    restricts-same a c (λ chosen s. IsWell chosen (Named name NoGrounds) × (s x ≡ Named name NoGrounds)) (HasBase name x)
    (λ chosen s h. h.1) (λ chosen s _ e. (base-well chosen name, e)) (made-equal a b c (λ s. Named name NoGrounds) x at t f g)

pub base-refused : (a b : Asked) (name : List ℕ) (x at : ℕ) → IsType (terms_in a) x → Adds a b (IsBase name) at → Excludes b (AreEqual x at) → Excludes a (HasBase name x)
base-refused a b name x at t f g =
    excludes-less a (λ chosen s. IsWell chosen (Named name NoGrounds) × (s x ≡ Named name NoGrounds)) (HasBase name x)
    (λ chosen s _ e. (base-well chosen name, e)) (made-unequal a b (λ s. Named name NoGrounds) x at t f g)

-- a call --

abbrev pub Gives : ℕ → ℕ → Judgement
Gives f x chosen s type = IsWell chosen (Function (s x) type) × (s f ≡ Function (s x) type)

gives-sees : (n f x : ℕ) → f < n → x < n → SeesTypes n (Gives f x)
gives-sees n f x lf lx = λ type chosen s r agree h. (
  subst (λ u. IsWell chosen (Function u type)) (agree x lx) h.0,
  sym (agree f lf) ∙ h.1 ∙ ap (λ u. Function u type) (agree x lx),
)

call-gives : (f x : ℕ) (chosen : ℕ → Sort) (s : Assignment) (type : Ground) → IsCall f x chosen s type → Gives f x chosen s type
call-gives f x chosen s type q = (
  subst (λ t. IsWell chosen (Function t type)) q.1.2.1 q.1.1.0,
  sym q.1.1.1 ∙ ap (λ t. Function t type) q.1.2.1,
)

pub called : (a b c d : Asked) (f x v at : ℕ) → IsType (terms_in a) f → IsType (terms_in a) x →
    Adds a b (λ chosen s type. IsWell chosen type × HasFlag Plain type) v →
    Adds b c (λ chosen s type. IsWell chosen type × Fits ⊥ s type (shape.Arrow x v)) at →
    Restricts c d (AreEqual f at) → Adds a d (IsCall f x) v
called a b c d f x v at tf tx g h k =
    adds-same a d (λ chosen s type. (IsWell chosen type × HasFlag Plain type) × Gives f x chosen s type) (IsCall f x) v
    (λ chosen s type. (
      λ p. (p.0.0, (s x, (p.1.0, sym p.1.1), (record { sorted = p.1.0.sorted.0; ordered = p.1.0.ordered.0 }, refl))),
      λ q. ((q.0, tt), call-gives f x chosen s type q),
    ))
    (adds-restricts a b d (λ chosen s type. IsWell chosen type × HasFlag Plain type) (Gives f x) v (gives-sees (size a) f x tf.0 tx.0) g
    (made-equal b c d (λ s. Function (s x) (s v)) f at (g.grows.types f tf) h k))

pub call-refused : (a b c : Asked) (f x v at : ℕ) → IsType (terms_in a) f → IsType (terms_in a) x →
    Adds a b (λ chosen s type. IsWell chosen type × HasFlag Plain type) v →
    Adds b c (λ chosen s type. IsWell chosen type × Fits ⊥ s type (shape.Arrow x v)) at →
    Excludes c (AreEqual f at) → Excludes a (HasOne (IsCall f x))
call-refused a b c f x v at tf tx g h k =
    excludes-less a (λ chosen s. (type : Ground) × (IsWell chosen type × HasFlag Plain type) × Gives f x chosen s type) (HasOne (IsCall f x))
    (λ chosen s _ q. (q.0, (q.1.0, tt), call-gives f x chosen s q.0 q.1))
    (excludes-after a b (λ chosen s type. IsWell chosen type × HasFlag Plain type) (Gives f x) v (gives-sees (size a) f x tf.0 tx.0) g
    (made-unequal b c (λ s. Function (s x) (s v)) f at (g.grows.types f tf) h k))

-- a range --

list-sees : (n x : ℕ) → x < n → SeesTypes n (IsListOf x)
list-sees n x lt = λ type chosen s r agree h. (h.0, (h.1.0, h.1.1, (h.1.2.0, h.1.2.1 ∙ agree x lt)))

base-sees : (n x : ℕ) (name : List ℕ) → x < n → Sees n (HasBase name x)
base-sees n x name lt = λ chosen s r agree h. sym (agree x lt) ∙ h

range-of : (low high : ℕ) (chosen : ℕ → Sort) (s : Assignment) (type : Ground) → HasBase int_name low chosen s → HasBase int_name high chosen s → IsListOf low chosen s type → IsRange low high chosen s type
range-of low high chosen s type l h i = (
  i.0,
  ((base-well chosen int_name, sym l), (base-well chosen int_name, sym h), i.1.1 ∙ ap list_of (i.1.2.1 ∙ l)),
)

of-range : (low high : ℕ) (chosen : ℕ → Sort) (s : Assignment) (type : Ground) → IsRange low high chosen s type → (HasBase int_name low chosen s × HasBase int_name high chosen s) × IsListOf low chosen s type
of-range low high chosen s type i = (
  (sym i.1.0.1, sym i.1.1.1),
  (i.0, (int, i.1.2, i.1.0)),
)

pub ranged : (a b c d : Asked) (low high at : ℕ) → IsType (terms_in a) low → IsType (terms_in a) high →
    Restricts a b (HasBase int_name low) → Restricts b c (HasBase int_name high) → Adds c d (IsListOf low) at → Adds a d (IsRange low high) at
ranged a b c d low high at tl th f g h =
    adds-same a d (λ chosen s type. HasBase int_name low chosen s × (HasBase int_name high chosen s × IsListOf low chosen s type)) (IsRange low high) at
    (λ chosen s type. (
      λ p. range-of low high chosen s type p.0 p.1.0 p.1.1,
      λ q. let k = of-range low high chosen s type q in (k.0.0, (k.0.1, k.1)),
    ))
    (restricts-adds a b d (HasBase int_name low) (λ chosen s type. HasBase int_name high chosen s × IsListOf low chosen s type) at
    (λ type chosen s r agree p. (base-sees (size a) high int_name th.0 chosen s r agree p.0, list-sees (size a) low tl.0 type chosen s r agree p.1)) f
    (restricts-adds b c d (HasBase int_name high) (IsListOf low) at (list-sees (size b) low (f.grows.types low tl).0) g h))

pub low-refused : (a : Asked) (low high : ℕ) → Excludes a (HasBase int_name low) → Excludes a (HasOne (IsRange low high))
low-refused a low high f = excludes-less a (HasBase int_name low) (HasOne (IsRange low high)) (λ chosen s _ q. (of-range low high chosen s q.0 q.1).0.0) f

pub high-refused : (a b : Asked) (low high : ℕ) → IsType (terms_in a) high → Restricts a b (HasBase int_name low) → Excludes b (HasBase int_name high) → Excludes a (HasOne (IsRange low high))
high-refused a b low high th f g =
    excludes-less a (λ chosen s. HasBase int_name low chosen s × HasBase int_name high chosen s) (HasOne (IsRange low high))
    (λ chosen s _ q. (of-range low high chosen s q.0 q.1).0)
    (excludes-behind a b (HasBase int_name low) (HasBase int_name high) (base-sees (size a) high int_name th.0) f g)

-- what is held to a written type --

pub held-adds : (a b c : Asked) (written : Written) (x at : ℕ) → IsType (terms_in a) x →
    Adds a b (λ chosen s type. IsWell chosen type × IsInstance written type) at → Restricts b c (AreEqual x at) → Adds a c (IsHeld written x) at
held-adds a b c written x at t f g =
    adds-same a c (λ chosen s type. (IsWell chosen type × IsInstance written type) × (s x ≡ type)) (IsHeld written x) at
    (λ chosen s type. (
      λ p. (p.0.0, ((p.0.0, sym p.1), p.0.1)),
      λ q. ((q.0, q.1.1), sym q.1.0.1),
    ))
    (adds-restricts a b c (λ chosen s type. IsWell chosen type × IsInstance written type) (λ chosen s type. s x ≡ type) at (sees-equal (size a) x t.0) f g)

pub held-refused : (a b : Asked) (written : Written) (x at : ℕ) → IsType (terms_in a) x →
    Adds a b (λ chosen s type. IsWell chosen type × IsInstance written type) at → Excludes b (AreEqual x at) → Excludes a (HasOne (IsHeld written x))
held-refused a b written x at t f g =
    excludes-less a (λ chosen s. (type : Ground) × (IsWell chosen type × IsInstance written type) × (s x ≡ type)) (HasOne (IsHeld written x))
    (λ chosen s _ q. (q.0, (q.1.0, q.1.1.1), sym q.1.1.0.1))
    (excludes-after a b (λ chosen s type. IsWell chosen type × IsInstance written type) (λ chosen s type. s x ≡ type) at (sees-equal (size a) x t.0) f g)
