-- The variables of a solution can be given well sorted types of the sorts that they have.
use Rattle.std.proofs.Common.{◌≡◌, ℕ, zero, suc, List, [], ◌∷◌, refl, sym, ◌∙◌, ap, subst, inr, Some, None, if◌then◌else◌}
use Rattle.elm_typing.specs.declared.flag.Flag.{Flag}
use Rattle.elm_typing.specs.declared.flag.Flag.TheVariants.{Plain, Comparable, Appendable, Both}
use Rattle.elm_typing.specs.Flags.{HasFlag}
use Rattle.elm_typing.specs.Ground.{Ground, Row, Named, Function, Tuple, Record, Opaque, NoGrounds, Ends}
use Rattle.elm_typing.specs.Names.{string_name, signal_name, signal_of}
use Rattle.elm_typing.specs.Ordered.{InOrder}
use Rattle.elm_typing.specs.Sorts.{Sort, Simple, Signal, IsWellSorted, sort_of}
use Rattle.elm_typing.proofs.FlagSorts.{flagged-simple}
use Rattle.elm_typing.proofs.LabelOrder.{bytes_eq_itself}
use Rattle.type_terms.specs.declared.node.Node.{Node}
use Rattle.type_terms.specs.declared.node.Node.TheVariants.{End, Link}
use Rattle.type_terms.specs.declared.shape.Shape.TheVariants as shape
use Rattle.type_terms.specs.Depth.{EndsWithin, IsSound}
use Rattle.type_terms.specs.Solutions.{Assignment, Solves, FitsNode, AllowsChoice, IsAsChosen}
use Rattle.type_terms.specs.Terms.{node_at, below, Each, IsRest, IsVariable}
use Rattle.type_terms.proofs.Existence.{solved-record, variables-chosen}
use Rattle.well_sorted.specs.Asking.{SortsVariables}

unit : Ground
unit = Tuple NoGrounds

string : Ground
string = Named string_name NoGrounds

of_sort : Sort → Ground
of_sort Simple = unit
of_sort Signal = signal_of unit

plain_like : (ℕ → Sort) → Ground → Ground
plain_like chosen (Record row) = Record (Ends None)
plain_like chosen (Named name arguments) = of_sort (sort_of chosen (Named name arguments))
plain_like chosen (Function argument result) = of_sort (sort_of chosen (Function argument result))
plain_like chosen (Tuple parts) = unit
plain_like chosen (Opaque number flag) = of_sort (sort_of chosen (Opaque number flag))

-- a type of the same sort, with the flag
like : (ℕ → Sort) → Flag → Ground → Ground
like chosen Plain t = plain_like chosen t
like chosen Comparable t = string
like chosen Appendable t = string
like chosen Both t = string

choice_at : (ℕ → Sort) → Node → Ground → Ground
choice_at chosen (End (shape.Variable flag)) t = like chosen flag t
choice_at chosen _ t = t

of_sort-order : (a : Sort) → InOrder (of_sort a)
unfolding of_sort unit
of_sort-order Simple = tt
of_sort-order Signal = (tt, tt)

of_sort-sorted : (chosen : ℕ → Sort) (a : Sort) → IsWellSorted chosen (of_sort a)
unfolding of_sort unit
of_sort-sorted chosen Simple = tt
of_sort-sorted chosen Signal = (tt, refl, tt)

of_sort-sort : (chosen : ℕ → Sort) (a : Sort) → sort_of chosen (of_sort a) ≡ a
unfolding of_sort unit
of_sort-sort chosen Simple = refl
of_sort-sort chosen Signal = ap (λ b. if b then Signal else Simple) (bytes_eq_itself signal_name)

plain-order : (chosen : ℕ → Sort) (t : Ground) → InOrder (plain_like chosen t)
unfolding plain_like unit
plain-order chosen (Record row) = tt
plain-order chosen (Named name arguments) = of_sort-order (sort_of chosen (Named name arguments))
plain-order chosen (Function argument result) = of_sort-order (sort_of chosen (Function argument result))
plain-order chosen (Tuple parts) = tt
plain-order chosen (Opaque number flag) = of_sort-order (sort_of chosen (Opaque number flag))

plain-sorted : (chosen : ℕ → Sort) (t : Ground) → IsWellSorted chosen (plain_like chosen t)
unfolding plain_like unit
plain-sorted chosen (Record row) = tt
plain-sorted chosen (Named name arguments) = of_sort-sorted chosen (sort_of chosen (Named name arguments))
plain-sorted chosen (Function argument result) = of_sort-sorted chosen (sort_of chosen (Function argument result))
plain-sorted chosen (Tuple parts) = tt
plain-sorted chosen (Opaque number flag) = of_sort-sorted chosen (sort_of chosen (Opaque number flag))

plain-sort : (chosen : ℕ → Sort) (t : Ground) → sort_of chosen (plain_like chosen t) ≡ sort_of chosen t
unfolding plain_like unit
plain-sort chosen (Record row) = refl
plain-sort chosen (Named name arguments) = of_sort-sort chosen (sort_of chosen (Named name arguments))
plain-sort chosen (Function argument result) = of_sort-sort chosen (sort_of chosen (Function argument result))
plain-sort chosen (Tuple parts) = refl
plain-sort chosen (Opaque number flag) = of_sort-sort chosen (sort_of chosen (Opaque number flag))

plain-record : (chosen : ℕ → Sort) (t : Ground) (row : Row) → t ≡ Record row → plain_like chosen t ≡ Record (Ends None)
unfolding plain_like
plain-record chosen t row e = ap (plain_like chosen) e

like-order : (chosen : ℕ → Sort) (flag : Flag) (t : Ground) → InOrder (like chosen flag t)
unfolding like string
like-order chosen Plain t = plain-order chosen t
like-order chosen Comparable t = tt
like-order chosen Appendable t = tt
like-order chosen Both t = tt

like-sorted : (chosen : ℕ → Sort) (flag : Flag) (t : Ground) → IsWellSorted chosen (like chosen flag t)
unfolding like string
like-sorted chosen Plain t = plain-sorted chosen t
like-sorted chosen Comparable t = tt
like-sorted chosen Appendable t = tt
like-sorted chosen Both t = tt

string-simple : (chosen : ℕ → Sort) → sort_of chosen string ≡ Simple
unfolding string
string-simple chosen = refl

like-sort : (chosen : ℕ → Sort) (flag : Flag) (t : Ground) → HasFlag flag t → sort_of chosen (like chosen flag t) ≡ sort_of chosen t
unfolding like
like-sort chosen Plain t h = plain-sort chosen t
like-sort chosen Comparable t h = string-simple chosen ∙ sym (flagged-simple chosen Comparable t (λ e. cc e) h)
like-sort chosen Appendable t h = string-simple chosen ∙ sym (flagged-simple chosen Appendable t (λ e. cc e) h)
like-sort chosen Both t h = string-simple chosen ∙ sym (flagged-simple chosen Both t (λ e. cc e) h)

like-flag : (chosen : ℕ → Sort) (flag : Flag) (t : Ground) → HasFlag flag (like chosen flag t)
unfolding like string
like-flag chosen Plain t = tt
like-flag chosen Comparable t = inr (inr refl)
like-flag chosen Appendable t = refl
like-flag chosen Both t = (inr (inr refl), refl)

-- no record has a flag
like-record : (chosen : ℕ → Sort) (flag : Flag) (t : Ground) (row : Row) → HasFlag flag t → t ≡ Record row → (r : Row) × (like chosen flag t ≡ Record r)
unfolding like
like-record chosen Plain t row h e = (Ends None, plain-record chosen t row e)
like-record chosen Comparable t row h e = absurd (subst (HasFlag Comparable) e h)
like-record chosen Appendable t row h e = absurd (subst (HasFlag Appendable) e h)
like-record chosen Both t row h e = absurd (subst (HasFlag Both) e h).0

choice-order : (chosen : ℕ → Sort) (node : Node) (t : Ground) → InOrder t → InOrder (choice_at chosen node t)
unfolding choice_at
choice-order chosen (End (shape.Variable flag)) t h = like-order chosen flag t
choice-order chosen (End (shape.Opaque number flag)) t h = h
choice-order chosen (End (shape.Named name arguments)) t h = h
choice-order chosen (End (shape.Arrow from to)) t h = h
choice-order chosen (End (shape.Tuple ps)) t h = h
choice-order chosen (End (shape.Row fields rest)) t h = h
choice-order chosen (Link to) t h = h

choice-allowed : (nodes : List Node) (chosen : ℕ → Sort) (s : Assignment) (i : ℕ) (node : Node) → Solves nodes s → FitsNode (IsRest nodes i) s (s i) node →
    AllowsChoice nodes i (choice_at chosen node (s i)) node
unfolding choice_at
choice-allowed nodes chosen s i (End (shape.Variable flag)) h fit =
    (like-flag chosen flag (s i), λ rest. let r = solved-record nodes s i h rest in like-record chosen flag (s i) r.0 fit r.1)
choice-allowed nodes chosen s i (End (shape.Opaque number flag)) h fit = tt
choice-allowed nodes chosen s i (End (shape.Named name arguments)) h fit = tt
choice-allowed nodes chosen s i (End (shape.Arrow from to)) h fit = tt
choice-allowed nodes chosen s i (End (shape.Tuple ps)) h fit = tt
choice-allowed nodes chosen s i (End (shape.Row fields rest)) h fit = tt
choice-allowed nodes chosen s i (Link to) h fit = tt

variable-sorted : (chosen : ℕ → Sort) (had type : Ground) (node : Node) → IsVariable node → IsAsChosen had (choice_at chosen node had) type node → IsWellSorted chosen type
unfolding choice_at
variable-sorted chosen had type (End (shape.Variable flag)) v e = subst (IsWellSorted chosen) (sym e) (like-sorted chosen flag had)
variable-sorted chosen had type (End (shape.Opaque number flag)) v e = absurd v
variable-sorted chosen had type (End (shape.Named name arguments)) v e = absurd v
variable-sorted chosen had type (End (shape.Arrow from to)) v e = absurd v
variable-sorted chosen had type (End (shape.Tuple ps)) v e = absurd v
variable-sorted chosen had type (End (shape.Row fields rest)) v e = absurd v
variable-sorted chosen had type (Link to) v e = absurd v

-- the sorts of terms of one node
record Alike (chosen : ℕ → Sort) (s r : Assignment) (i : ℕ) : Type 0 where
  sort : sort_of chosen (r i) ≡ sort_of chosen (s i)

node-sort : (RestR RestS : Type 0) (chosen : ℕ → Sort) (s r : Assignment) (i : ℕ) (node : Node) → FitsNode RestS s (s i) node → FitsNode RestR r (r i) node →
    IsAsChosen (s i) (choice_at chosen node (s i)) (r i) node → Each (Alike chosen s r) (below node) → sort_of chosen (r i) ≡ sort_of chosen (s i)
unfolding choice_at
node-sort R S chosen s r i (Link to) f g e h = ap (sort_of chosen) g ∙ h.0.sort ∙ sym (ap (sort_of chosen) f)
node-sort R S chosen s r i (End (shape.Variable flag)) f g e h = ap (sort_of chosen) e ∙ like-sort chosen flag (s i) f
node-sort R S chosen s r i (End (shape.Opaque number flag)) f g e h = ap (sort_of chosen) e
node-sort R S chosen s r i (End (shape.Named name arguments)) f g e h = ap (sort_of chosen) g ∙ sym (ap (sort_of chosen) f)
node-sort R S chosen s r i (End (shape.Arrow from to)) f g e h = ap (sort_of chosen) g ∙ h.1.0.sort ∙ sym (ap (sort_of chosen) f)
node-sort R S chosen s r i (End (shape.Tuple ps)) f g e h = ap (sort_of chosen) g ∙ sym (ap (sort_of chosen) f)
node-sort R S chosen s r i (End (shape.Row fields None)) f g e h = ap (sort_of chosen) g ∙ sym (ap (sort_of chosen) f)
node-sort R S chosen s r i (End (shape.Row fields (Some rest))) f g e h = ap (sort_of chosen) g.2 ∙ sym (ap (sort_of chosen) f.2)

each-map : (P Q : ℕ → Type 0) → ((k : ℕ) → P k → Q k) → (ks : List ℕ) → Each P ks → Each Q ks
each-map P Q f [] h = tt
each-map P Q f (k ∷ ks) h = (f k h.0, each-map P Q f ks h.1)

sorts-alike : (nodes : List Node) (chosen : ℕ → Sort) (s r : Assignment) → Solves nodes s → Solves nodes r →
    ((i : ℕ) → IsAsChosen (s i) (choice_at chosen (node_at nodes i) (s i)) (r i) (node_at nodes i)) →
    (steps i : ℕ) → EndsWithin nodes steps i → Alike chosen s r i
sorts-alike nodes chosen s r hs hr chose zero i ends = absurd ends
sorts-alike nodes chosen s r hs hr chose (suc steps) i ends = record {
  sort = node-sort (IsRest nodes i) (IsRest nodes i) chosen s r i (node_at nodes i) (hs.fits i) (hr.fits i) (chose i)
      (each-map (EndsWithin nodes steps) (Alike chosen s r) (λ k e. sorts-alike nodes chosen s r hs hr chose steps k e) (below (node_at nodes i)) ends);
}

pub variables-sorted : (nodes : List Node) (bound : ℕ) (chosen : ℕ → Sort) (s : Assignment) → IsSound nodes bound → Solves nodes s → (r : Assignment) × SortsVariables nodes chosen s r
variables-sorted nodes bound chosen s sound h =
    let choice = λ (i : ℕ). choice_at chosen (node_at nodes i) (s i) in
    let found = variables-chosen nodes bound s choice sound h (λ i. choice-order chosen (node_at nodes i) (s i) (h.in_order i))
    (λ i. choice-allowed nodes chosen s i (node_at nodes i) h (h.fits i)) in (
      found.0,
      record {
        solves = found.1;
        same = λ i. (sorts-alike nodes chosen s found.0 h found.1 found.2 bound i (sound.deep i)).sort;
        sorted = λ i v. variable-sorted chosen (s i) (found.0 i) (node_at nodes i) v (found.2 i);
      },
    )
