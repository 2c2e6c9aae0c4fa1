-- A term is heavier than the types that stand in it.
use Rattle.std.proofs.Common.{◌≡◌, ◌≢◌, ◌⊎◌, ℕ, suc, ◌+◌, ◌<◌, ◌≤◌, List, [], ◌∷◌, Option, Some, None, refl, sym, ◌∙◌, ap, subst, arith, inl, inr}
use Rattle.elm_typing.specs.Ground.{Ground, Grounds, Row, Named, Function, Tuple, Record, Opaque, NoGrounds, AndGround, Ends, Field}
use Rattle.elm_typing.specs.Labels.{is_after}
use Rattle.elm_typing.specs.Rows.{extended, extended_all}
use Rattle.elm_typing.proofs.LabelOrder.{decided}
use Rattle.elm_typing.proofs.RowAlgebra.{front, past}
use Rattle.type_terms.specs.declared.node.Node.{Node}
use Rattle.type_terms.specs.declared.node.Node.TheVariants.{End, Link}
use Rattle.type_terms.specs.declared.shape.Shape.TheVariants as shape
use Rattle.type_terms.specs.Solutions.{Assignment, Solves, FitsNode, types_of, fields_of}
use Rattle.type_terms.specs.Terms.{node_at, below, terms_of, Among, LinksTo, itself, further, StandsIn, here, within, IsLink, IsVariable, IsRest}
use Rattle.type_unify.specs.Matching.{Fields}
use Rattle.type_unify.specs.Rests.{IsNoRest, type_parts}
use Rattle.type_unify.proofs.Narrowing.{variable_bare}
use Rattle.type_unify.proofs.Reading.{no_links}

abbrev mutual
  pub heft : Ground → ℕ
  heft (Named name arguments) = suc (hefts arguments)
  heft (Function argument result) = suc (heft argument + heft result)
  heft (Tuple ps) = suc (hefts ps)
  heft (Record row) = suc (row_heft row)
  heft (Opaque number flag) = 1

  pub hefts : Grounds → ℕ
  hefts NoGrounds = 0
  hefts (AndGround first others) = heft first + hefts others

  pub row_heft : Row → ℕ
  row_heft (Ends rest) = 0
  row_heft (Field label first others) = heft first + row_heft others

heft-extended : (l : List ℕ) (t : Ground) (r : Row) → row_heft (extended l t r) ≡ heft t + row_heft r
heft-extended l t (Ends o) = refl
heft-extended l t (Field m u r) =
    elim (decided (is_after l m)) as (λ _. row_heft (extended l t (Field m u r)) ≡ heft t + (heft u + row_heft r)) [
      | inr h ↦ ap row_heft (front l t m u r h)
      | inl h ↦ ap row_heft (past l t m u r h) ∙ (let e = heft-extended l t r in omega (arith, e))
    ]

all_heft : (s : Assignment) (fs : Fields) (r : Row) → row_heft r ≤ row_heft (extended_all (fields_of s fs) r)
all_heft s [] r = omega arith
all_heft s (f ∷ fs) r = let i = all_heft s fs r in let e = heft-extended f.0 (s f.1) (extended_all (fields_of s fs) r) in omega (arith, i, e)

field_heft : (s : Assignment) (fs : Fields) (r : Row) (k : ℕ) → Among k (terms_of fs) → heft (s k) ≤ row_heft (extended_all (fields_of s fs) r)
field_heft s [] r k m = absurd m
field_heft s (f ∷ fs) r k m =
    let e = heft-extended f.0 (s f.1) (extended_all (fields_of s fs) r) in
    elim m as (λ _. heft (s k) ≤ row_heft (extended_all (fields_of s (f ∷ fs)) r)) [
      | inl x ↦ omega (arith, e, ap (λ j. heft (s j)) x)
      | inr n ↦ omega (arith, e, field_heft s fs r k n)
    ]

part_heft : (s : Assignment) (ks : List ℕ) (k : ℕ) → Among k ks → heft (s k) ≤ hefts (types_of s ks)
part_heft s [] k m = absurd m
part_heft s (x ∷ ks) k m =
    elim m as (λ _. heft (s k) ≤ heft (s x) + hefts (types_of s ks)) [ inl e ↦ omega (arith, ap (λ j. heft (s j)) e) | inr n ↦ omega (arith, part_heft s ks k n) ]

-- a part is no heavier, and lighter where it isn't the rest of a row
type_heft : (P : Type 0) (s : Assignment) (t : Ground) (n : Node) (k : ℕ) → FitsNode P s t n → Among k (type_parts n) → heft (s k) < heft t
type_heft P s t (Link to) k f m = absurd m
type_heft P s t (End (shape.Variable flag)) k f m = absurd m
type_heft P s t (End (shape.Opaque number flag)) k f m = absurd m
type_heft P s t (End (shape.Named name ks)) k f m = let a = ap heft f in let b = part_heft s ks k m in omega (arith, a, b)
type_heft P s t (End (shape.Arrow from to)) k f m =
    let a = ap heft f in elim m as (λ _. heft (s k) < heft t) [
      | inl e ↦ omega (arith, a, ap (λ j. heft (s j)) e)
      | inr n ↦ elim n as (λ _. heft (s k) < heft t) [ inl e ↦ omega (arith, a, ap (λ j. heft (s j)) e) | inr x ↦ absurd x ]
    ]
type_heft P s t (End (shape.Tuple ks)) k f m = let a = ap heft f in let b = part_heft s ks k m in omega (arith, a, b)
type_heft P s t (End (shape.Row fields None)) k f m = let a = ap heft f in let b = field_heft s fields (Ends None) k m in omega (arith, a, b)
type_heft P s t (End (shape.Row fields (Some rest))) k f m = let a = ap heft f.2 in let b = field_heft s fields f.0 k m in omega (arith, a, b)

part_or_rest : (n : Node) (k : ℕ) → Among k (below n) → Among k (type_parts n) ⊎ ((n ≡ Link k) ⊎ ((fields : Fields) × (n ≡ End (shape.Row fields (Some k)))))
part_or_rest (Link to) k m = elim m as (λ _. Among k [] ⊎ ((Link to ≡ Link k) ⊎ ((fields : Fields) × (Link to ≡ End (shape.Row fields (Some k)))))) [ inl e ↦ inr (inl (ap Link (sym e))) | inr x ↦ absurd x ]
part_or_rest (End (shape.Variable flag)) k m = absurd m
part_or_rest (End (shape.Opaque number flag)) k m = absurd m
part_or_rest (End (shape.Named name ks)) k m = inl m
part_or_rest (End (shape.Arrow from to)) k m = inl m
part_or_rest (End (shape.Tuple ks)) k m = inl m
part_or_rest (End (shape.Row fields None)) k m = inl m
part_or_rest (End (shape.Row fields (Some rest))) k m =
    elim m as (λ _. Among k (terms_of fields) ⊎ ((End (shape.Row fields (Some rest)) ≡ Link k) ⊎ ((fs : Fields) × (End (shape.Row fields (Some rest)) ≡ End (shape.Row fs (Some k)))))) [
      | inl e ↦ inr (inr (fields, ap (λ j. End (shape.Row fields (Some j))) (sym e)))
      | inr n ↦ inl n
    ]

rest_heft : (P : Type 0) (s : Assignment) (t : Ground) (fields : Fields) (k : ℕ) → FitsNode P s t (End (shape.Row fields (Some k))) → heft (s k) ≤ heft t
rest_heft P s t fields k f = let a = ap heft f.1 in let b = ap heft f.2 in let c = all_heft s fields f.0 in omega (arith, a, b, c)

pub stands_heft : (nodes : List Node) (s : Assignment) (v i : ℕ) → Solves nodes s → StandsIn nodes v i → heft (s v) ≤ heft (s i)
stands_heft nodes s v _ h (here) = omega arith
stands_heft nodes s v _ h (within i k m r) =
    let low = stands_heft nodes s v k h r in
    elim (part_or_rest (node_at nodes i) k m) as (λ _. heft (s v) ≤ heft (s i)) [
      | inl t ↦ (let lt = type_heft (IsRest nodes i) s (s i) (node_at nodes i) k (h.fits i) t in omega (arith, low, lt))
      | inr o ↦ elim o as (λ _. heft (s v) ≤ heft (s i)) [
        | inl e ↦ (let same = ap heft (subst (FitsNode (IsRest nodes i) s (s i)) e (h.fits i)) in omega (arith, low, same))
        | inr f ↦ (let le = rest_heft (IsRest nodes i) s (s i) f.0 k (subst (FitsNode (IsRest nodes i) s (s i)) f.1 (h.fits i)) in omega (arith, low, le))
      ]
    ]

-- a variable that is no rest stands only at the end of links, or where it is lighter
lighter_or_linked : (nodes : List Node) (s : Assignment) (v i : ℕ) → Solves nodes s → IsVariable (node_at nodes v) → IsNoRest nodes v → StandsIn nodes v i → LinksTo nodes v i ⊎ (heft (s v) < heft (s i))
lighter_or_linked nodes s v _ h var none (here) = inl itself
lighter_or_linked nodes s v _ h var none (within i k m r) =
    elim (part_or_rest (node_at nodes i) k m) as (λ _. LinksTo nodes v i ⊎ (heft (s v) < heft (s i))) [
      | inl t ↦ (let low = stands_heft nodes s v k h r in let lt = type_heft (IsRest nodes i) s (s i) (node_at nodes i) k (h.fits i) t in inr (omega (arith, low, lt)))
      | inr o ↦ elim o as (λ _. LinksTo nodes v i ⊎ (heft (s v) < heft (s i))) [
        | inl e ↦ elim (lighter_or_linked nodes s v k h var none r) as (λ _. LinksTo nodes v i ⊎ (heft (s v) < heft (s i))) [
          | inl l ↦ inl (further i k e l)
          | inr lt ↦ (let same = ap heft (subst (FitsNode (IsRest nodes i) s (s i)) e (h.fits i)) in inr (omega (arith, lt, same)))
        ]
        | inr f ↦ elim (lighter_or_linked nodes s v k h var none r) as (λ _. LinksTo nodes v i ⊎ (heft (s v) < heft (s i))) [
          | inl l ↦ absurd (none v itself (record { row = i; fields = f.0; rest = k; stands = f.1; leads = l }) (variable_bare (node_at nodes v) var))
          | inr lt ↦ (let le = rest_heft (IsRest nodes i) s (s i) f.0 k (subst (FitsNode (IsRest nodes i) s (s i)) f.1 (h.fits i)) in inr (omega (arith, lt, le)))
        ]
      ]
    ]

-- a variable that is no rest never equals a term that it stands in
pub variable_lighter : (nodes : List Node) (s : Assignment) (v i : ℕ) → Solves nodes s → IsVariable (node_at nodes v) → IsNoRest nodes v → (IsLink (node_at nodes i) → ⊥) → i ≢ v →
    StandsIn nodes v i → s v ≢ s i
variable_lighter nodes s v i h var none end other stands e =
    elim (lighter_or_linked nodes s v i h var none stands) as (λ _. ⊥) [
      | inl l ↦ other (sym (no_links nodes v i end l))
      | inr lt ↦ (let same = ap heft e in omega (arith, lt, same))
    ]

-- a variable never equals a row in whose fields it stands
pub row_heavier : (nodes : List Node) (s : Assignment) (v i : ℕ) (fields : Fields) (rest : Option ℕ) → Solves nodes s → node_at nodes i ≡ End (shape.Row fields rest) → i ≢ v →
    ((y : ℕ) → rest ≡ Some y → StandsIn nodes v y → ⊥) → StandsIn nodes v i → s v ≢ s i
row_heavier nodes s v _ fields rest h e other none (here) same = other refl
row_heavier nodes s v _ fields rest h e other none (within i k m r) same =
    elim (part_or_rest (node_at nodes i) k m) as (λ _. ⊥) [
      | inl t ↦ (let low = stands_heft nodes s v k h r in let lt = type_heft (IsRest nodes i) s (s i) (node_at nodes i) k (h.fits i) t in let q = ap heft same in omega (arith, low, lt, q))
      | inr o ↦ elim o as (λ _. ⊥) [
        | inl l ↦ (let f = sym e ∙ l in cc f)
        | inr f ↦ (let g = sym e ∙ f.1 in let x : rest ≡ Some k = cc g in none k x r)
      ]
    ]
