-- What a table of variables says of the types of its terms.
use Rattle.std.proofs.Common.{◌≡◌, ℕ, Bool, true, false, List, [], ◌∷◌, ◌++◌, length, refl, sym, ◌∙◌, ap, subst, inl, inr, if◌then◌else◌}
use Rattle.std.specs.Str.{bytes_eq}
use Rattle.std.proofs.lemmas.Bool.{false≢true}
use Rattle.elm_typing.proofs.LabelOrder.{decided, bytes_eq_itself, bytes_eq_same}
use Rattle.typing_rules.specs.WrittenTypes.{Choice}
use Rattle.type_terms.specs.declared.node.Node.{Node}
use Rattle.type_terms.specs.Solutions.{Assignment}
use Rattle.type_unify.specs.declared.rows.Tail.{Tail}
use Rattle.type_unify.specs.Rests.{IsType}
use Rattle.type_unify.specs.Steps.{IsTail}
use Rattle.type_unify.specs.Taken.{Agree}
use Rattle.type_conditions.specs.Conditions.{Asked, terms_in}
use Rattle.type_conditions.specs.Judging.{Grows, KeepsTails}
use Rattle.type_instances.specs.declared.table.Variable.{Variable}
use Rattle.type_instances.specs.Tables.{choice_of, term_of, tail_of, Knows, EachVariable, IsTable}

pub variables-map : (P Q : Variable → Type 0) → ((v : Variable) → P v → Q v) → (vs : List Variable) → EachVariable P vs → EachVariable Q vs
variables-map P Q f [] h = tt
variables-map P Q f (v ∷ vs) h = (f v h.0, variables-map P Q f vs h.1)

pub variables-both : (P Q R : Variable → Type 0) → ((v : Variable) → P v → Q v → R v) → (vs : List Variable) → EachVariable P vs → EachVariable Q vs → EachVariable R vs
variables-both P Q R f [] h k = tt
variables-both P Q R f (v ∷ vs) h k = (f v h.0 k.0, variables-both P Q R f vs h.1 k.1)

pub variables-behind : (P : Variable → Type 0) (vs : List Variable) (v : Variable) → EachVariable P vs → P v → EachVariable P (vs ++ v ∷ [])
variables-behind P [] v h k = (k, tt)
variables-behind P (u ∷ vs) v h k = (h.0, variables-behind P vs v h.1 k)

pub variables-front : (P : Variable → Type 0) (vs : List Variable) (v : Variable) → EachVariable P (vs ++ v ∷ []) → EachVariable P vs × P v
variables-front P [] v h = (tt, h.0)
variables-front P (u ∷ vs) v h = let r = variables-front P vs v h.1 in ((h.0, r.0), r.1)

-- by whether the first variable has the name
pub by_name : (P : Bool → Type 0) (name other : List ℕ) → (name ≡ other → P true) → (bytes_eq name other ≡ false → P false) → P (bytes_eq name other)
by_name P name other same different =
    elim (decided (bytes_eq name other)) as (λ _. P (bytes_eq name other)) [
      | inl e ↦ subst P (sym e) (same (bytes_eq_same name other e))
      | inr e ↦ subst P (sym e) (different e)
    ]

both_by_name : (P : Bool → Bool → Type 0) (name other : List ℕ) → (name ≡ other → P true true) → (bytes_eq name other ≡ false → P false false) → P (bytes_eq name other) (bytes_eq name other)
both_by_name P name other same different = by_name (λ b. P b b) name other same different

-- who knows a name and whose first variable has another one knows it further on
pub knows-on : (v : Variable) (vs : List Variable) (name : List ℕ) → Knows (v ∷ vs) name → bytes_eq v.name name ≡ false → Knows vs name
knows-on v vs name (inl e) f = absurd (false≢true (sym f ∙ ap (λ n. bytes_eq v.name n) (sym e) ∙ bytes_eq_itself v.name))
knows-on v vs name (inr k) f = k

pub term-known : (P : Variable → Type 0) (Q : ℕ → Tail → Type 0) (name : List ℕ) → ((v : Variable) → v.name ≡ name → P v → Q v.at v.tail) → (vs : List Variable) → EachVariable P vs → Knows vs name →
    Q (term_of vs name) (tail_of vs name)
term-known P Q name f [] h k = absurd k
term-known P Q name f (v ∷ vs) h k =
    both_by_name (λ a b. Q (if a then v.at else term_of vs name) (if b then v.tail else tail_of vs name)) v.name name
    (λ e. f v e h.0) (λ d. term-known P Q name f vs h.1 (knows-on v vs name k d))

pub choice-known : (vs : List Variable) (s : Assignment) (name : List ℕ) → Knows vs name → choice_of vs s name ≡ s (term_of vs name)
choice-known [] s name k = absurd k
choice-known (v ∷ vs) s name k =
    by_name (λ b. (if b then s v.at else choice_of vs s name) ≡ s (if b then v.at else term_of vs name)) v.name name
    (λ e. refl) (λ d. choice-known vs s name (knows-on v vs name k d))

-- a tail of the table
pub tail-known : (nodes : List Node) (vs : List Variable) (name : List ℕ) → EachVariable (λ v. IsTail nodes v.tail) vs → IsTail nodes (tail_of vs name)
tail-known nodes [] name h = tt
tail-known nodes (v ∷ vs) name h =
    by_name (λ b. IsTail nodes (if b then v.tail else tail_of vs name)) v.name name (λ e. h.0) (λ d. tail-known nodes vs name h.1)

-- the choice is that of the terms
pub choice-agrees : (nodes : List Node) (vs : List Variable) (s r : Assignment) → Agree (length nodes) s r → EachVariable (λ v. IsType nodes v.at) vs → (name : List ℕ) → choice_of vs s name ≡ choice_of vs r name
choice-agrees nodes [] s r agree h name = refl
choice-agrees nodes (v ∷ vs) s r agree h name =
    by_name (λ b. (if b then s v.at else choice_of vs s name) ≡ (if b then r v.at else choice_of vs r name)) v.name name
    (λ e. agree v.at h.0.0) (λ d. choice-agrees nodes vs s r agree h.1 name)

-- a choice that each term has
pub choice-is : (vs : List Variable) (r : Assignment) (choice : Choice) → EachVariable (λ v. r v.at ≡ choice v.name) vs → (name : List ℕ) → Knows vs name → choice_of vs r name ≡ choice name
choice-is [] r choice h name k = absurd k
choice-is (v ∷ vs) r choice h name k =
    by_name (λ b. (if b then r v.at else choice_of vs r name) ≡ choice name) v.name name
    (λ e. h.0 ∙ ap choice e) (λ d. choice-is vs r choice h.1 name (knows-on v vs name k d))

-- the table still stands where conditions grew
pub table-kept : (old new : Asked) (vs : List Variable) → Grows old new → KeepsTails old new → IsTable old vs → IsTable new vs
table-kept old new vs grows tails t = record {
  types = variables-map (λ v. IsType (terms_in old) v.at) (λ v. IsType (terms_in new) v.at) (λ v. grows.types v.at) vs t.types;
  tails = variables-map (λ v. IsTail (terms_in old) v.tail) (λ v. IsTail (terms_in new) v.tail) (λ v. tails v.tail) vs t.tails;
  stand = λ chosen s h. t.stand chosen s (grows.sound chosen s h);
}
