-- From sorts that meet all notes to types that satisfy the conditions, and back.
use Rattle.std.proofs.Common.{◌≡◌, ℕ, ◌<◌, List, [], ◌∷◌, ◌++◌, length, refl, sym, ◌∙◌, ap, subst, arith}
use Rattle.elm_typing.specs.Ground.{Tuple, NoGrounds}
use Rattle.elm_typing.specs.Sorts.{Sort, Simple, sort_of}
use Rattle.type_terms.specs.declared.node.Node.{Node}
use Rattle.type_terms.specs.declared.node.Node.TheVariants.{End}
use Rattle.type_terms.specs.declared.shape.Shape.TheVariants as shape
use Rattle.type_terms.specs.Depth.{AreNotesBelow, IsSound, IsStored, doubled}
use Rattle.type_terms.specs.Solutions.{Assignment, Solves, FitsNode, with_type}
use Rattle.type_terms.specs.Terms.{State, nodes_of, notes_of, with_term, with_note, Each, IsRest}
use Rattle.type_terms.proofs.Pushed.{solves-pushed, solves-extended}
use Rattle.type_terms.proofs.Sound.{node_at-new}
use Rattle.type_unify.specs.Rests.{IsType}
use Rattle.type_sorts.specs.Sorts.{Meets}
use Rattle.well_sorted.specs.Asking.{Tells}
use Rattle.well_sorted.proofs.Variables.{variables-sorted}
use Rattle.type_conditions.specs.Conditions.{IsSatisfiable}
use Rattle.type_conditions.specs.Deciding.{Noted}
use Rattle.type_conditions.proofs.Agreeing.{agree-meets, agree-sorted, with_type-agrees, meets-append, meets-apart, same-meets}

-- the store with a simple type
abbrev pub with_unit : List State → List State
with_unit states = with_term (shape.Tuple []) states

unit-simple : (states : List State) (chosen : ℕ → Sort) (s : Assignment) → Solves (nodes_of (with_unit states)) s → sort_of chosen (s (length (nodes_of states))) ≡ Simple
unit-simple states chosen s h =
    let n = length (nodes_of states) in
    let nodes = nodes_of states ++ End (shape.Tuple []) ∷ [] in
    ap (sort_of chosen) (subst (FitsNode (IsRest nodes n) s (s n)) (node_at-new (nodes_of states) (End (shape.Tuple []))) (h.fits n))

pub decided-yes : (states : List State) (proper : List ℕ) (notes all : List (ℕ × ℕ)) (s : Assignment) (chosen : ℕ → Sort) → IsStored states → IsSound (nodes_of (with_unit states)) (doubled (length (with_unit states))) →
    Tells (nodes_of (with_unit states)) (length (nodes_of states)) proper notes → all ≡ notes_of states ++ notes →
    Solves (nodes_of (with_unit states)) s → Meets s chosen all → IsSatisfiable (record { states = states; proper = proper })
decided-yes states proper notes all s chosen sound grown tells e h meets =
    let m = meets-apart s chosen (notes_of states) notes (subst (Meets s chosen) e meets) in
    let r = variables-sorted (nodes_of (with_unit states)) (doubled (length (with_unit states))) chosen s grown h in (
      chosen,
      r.0,
      record {
        solves = ((solves-pushed (nodes_of states) (doubled (length states)) (shape.Tuple []) r.0 sound tt tt).0 r.1.solves).0;
        meets = same-meets s r.0 chosen (notes_of states) r.1.same m.0;
        sorted = tells.only chosen r.0 r.1.solves (unit-simple states chosen r.0 r.1.solves) r.1.sorted (same-meets s r.0 chosen notes r.1.same m.1);
      },
    )

pub decided-no : (states : List State) (proper : List ℕ) (notes all : List (ℕ × ℕ)) → IsStored states → AreNotesBelow (length (nodes_of states)) (notes_of states) → Each (IsType (nodes_of states)) proper →
    Tells (nodes_of (with_unit states)) (length (nodes_of states)) proper notes → all ≡ notes_of states ++ notes →
    ((s : Assignment) (chosen : ℕ → Sort) → Solves (nodes_of (with_unit states)) s → Meets s chosen all → ⊥) → IsSatisfiable (record { states = states; proper = proper }) → ⊥
decided-no states proper notes all sound below types tells e never (chosen, s, h) =
    let n = length (nodes_of states) in
    let r = with_type s n (Tuple NoGrounds) in
    let agree = with_type-agrees n s (Tuple NoGrounds) in
    let solves = solves-extended (nodes_of states) (doubled (length states)) (shape.Tuple []) s (Tuple NoGrounds) sound tt tt h.solves refl tt in
    never r chosen solves
    (subst (Meets r chosen) (sym e)
    (meets-append r chosen (notes_of states) notes
    (agree-meets n s r chosen (notes_of states) agree below h.meets)
    (tells.met chosen r solves (unit-simple states chosen r solves) (agree-sorted (nodes_of states) s r chosen proper agree types h.sorted))))

-- notes that are still to be written
pub record Left (old now : List State) (notes left : List (ℕ × ℕ)) : Type 0 where
  pub nodes : nodes_of now ≡ nodes_of old
  pub written : notes_of now ++ left ≡ notes_of old ++ notes
  pub grown : (changes : List State) × (now ≡ changes ++ old)
  pub below : AreNotesBelow (length (nodes_of old)) left

pub left-first : (old : List State) (notes : List (ℕ × ℕ)) → AreNotesBelow (length (nodes_of old)) notes → Left old old notes notes
left-first old notes below = record { nodes = refl; written = refl; grown = ([], refl); below = below }

pub left-inside : (old now : List State) (notes left more : List (ℕ × ℕ)) (note : ℕ × ℕ) → Left old now notes left → left ≡ note ∷ more →
    (note.0 < length (nodes_of now)) × (note.1 < length (nodes_of now))
left-inside old now notes left more note h e =
    let b = subst (AreNotesBelow (length (nodes_of old))) e h.below in
    let n = ap length h.nodes in
    (omega (arith, n, b.0), omega (arith, n, b.1))

pub left-on : (old now after : List State) (notes left more : List (ℕ × ℕ)) (note : ℕ × ℕ) → Left old now notes left → left ≡ note ∷ more → after ≡ with_note note.0 note.1 now →
    Left old after notes more
left-on old now after notes left more note h e ea = record {
  nodes = ap nodes_of ea ∙ h.nodes;
  written =
      ap (λ (l : List State). notes_of l ++ more) ea
      ∙ append-again (notes_of now) note more
      ∙ ap (λ (l : List (ℕ × ℕ)). notes_of now ++ l) (sym e)
      ∙ h.written;
  grown = (record { nodes = nodes_of now; notes = notes_of now ++ note ∷ [] } ∷ h.grown.0, ea ∙ ap (λ (l : List State). record { nodes = nodes_of now; notes = notes_of now ++ note ∷ [] } ∷ l) h.grown.1);
  below = (subst (AreNotesBelow (length (nodes_of old))) e h.below).2;
}
  where
    append-again : (xs : List (ℕ × ℕ)) (x : ℕ × ℕ) (ys : List (ℕ × ℕ)) → (xs ++ x ∷ []) ++ ys ≡ xs ++ x ∷ ys
    append-again [] x ys = refl
    append-again (z ∷ xs) x ys = ap (λ (l : List (ℕ × ℕ)). z ∷ l) (append-again xs x ys)

pub left-none : (old now : List State) (notes left : List (ℕ × ℕ)) → Left old now notes left → left ≡ [] → Noted old now notes
left-none old now notes left h e = record {
  nodes = h.nodes;
  notes_are = sym (append_nothing (notes_of now)) ∙ ap (λ (l : List (ℕ × ℕ)). notes_of now ++ l) (sym e) ∙ h.written;
}
  where
    append_nothing : (l : List (ℕ × ℕ)) → l ++ [] ≡ l
    append_nothing [] = refl
    append_nothing (x ∷ xs) = ap (λ (t : List (ℕ × ℕ)). x ∷ t) (append_nothing xs)

-- from the store with the simple type and the notes behind the others
pub answered-yes : (states made after : List State) (proper : List ℕ) (notes : List (ℕ × ℕ)) (simple : ℕ) → IsStored states → IsStored made → made ≡ with_unit states → simple ≡ length (nodes_of states) →
    Tells (nodes_of made) simple proper notes → Noted made after notes → (s : Assignment) (chosen : ℕ → Sort) → Solves (nodes_of after) s → Meets s chosen (notes_of after) →
    IsSatisfiable (record { states = states; proper = proper })
answered-yes states made after proper notes simple sound grown em es tells n s chosen h meets =
    decided-yes states proper notes (notes_of after) s chosen sound (subst (λ (l : List State). IsSound (nodes_of l) (doubled (length l))) em grown)
    (subst (λ (k : ℕ). Tells (nodes_of (with_unit states)) k proper notes) es (subst (λ (l : List State). Tells (nodes_of l) simple proper notes) em tells))
    (n.notes_are ∙ ap (λ (l : List State). notes_of l ++ notes) em)
    (subst (λ (l : List State). Solves (nodes_of l) s) em (subst (λ (l : List Node). Solves l s) n.nodes h)) meets

pub answered-no : (states made after : List State) (proper : List ℕ) (notes : List (ℕ × ℕ)) (simple : ℕ) → IsStored states → AreNotesBelow (length (nodes_of states)) (notes_of states) → Each (IsType (nodes_of states)) proper →
    made ≡ with_unit states → simple ≡ length (nodes_of states) → Tells (nodes_of made) simple proper notes → Noted made after notes →
    ((s : Assignment) (chosen : ℕ → Sort) → Solves (nodes_of after) s → Meets s chosen (notes_of after) → ⊥) →
    IsSatisfiable (record { states = states; proper = proper }) → ⊥
answered-no states made after proper notes simple sound below types em es tells n never =
    decided-no states proper notes (notes_of after) sound below types
    (subst (λ (k : ℕ). Tells (nodes_of (with_unit states)) k proper notes) es (subst (λ (l : List State). Tells (nodes_of l) simple proper notes) em tells))
    (n.notes_are ∙ ap (λ (l : List State). notes_of l ++ notes) em)
    (λ s chosen h. never s chosen (subst (λ (l : List Node). Solves l s) (sym n.nodes) (subst (λ (l : List State). Solves (nodes_of l) s) (sym em) h)))

pub grown-on : (states made after : List State) → made ≡ with_unit states → (changes : List State) × (after ≡ changes ++ made) → (changes : List State) × (after ≡ changes ++ states)
grown-on states made after em (changes, e) =
    let unit : State = record { nodes = nodes_of states ++ End (shape.Tuple []) ∷ []; notes = notes_of states } in
    (changes ++ unit ∷ [], e ∙ ap (λ (l : List State). changes ++ l) em ∙ sym (append-again changes unit states))
  where
    append-again : (xs : List State) (x : State) (ys : List State) → (xs ++ x ∷ []) ++ ys ≡ xs ++ x ∷ ys
    append-again [] x ys = refl
    append-again (z ∷ xs) x ys = ap (λ (l : List State). z ∷ l) (append-again xs x ys)

pub as_unit : (states made : List State) (ps : List ℕ) → made ≡ with_term (shape.Tuple ps) states → ps ≡ [] → made ≡ with_unit states
as_unit states made ps e none = e ∙ ap (λ (l : List ℕ). with_term (shape.Tuple l) states) none
