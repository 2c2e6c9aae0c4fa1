-- The table, filled note by note, and closed.
use Rattle.std.proofs.Common.{◌≡◌, ℕ, zero, suc, ◌+◌, ◌<◌, ◌≤◌, Bool, true, false, List, [], ◌∷◌, ◌++◌, ◌⊎◌, inl, inr, length, length-set, get_or, take, set, replicate, refl, sym, ◌∙◌, ap, subst, arith, add-one}
use Rattle.std.proofs.Math.Seq.{take-suc}
use Rattle.std.proofs.lemmas.Bool.{false≢true}
use native.Mathlib.Decide.{ℕ_discrete}
use Rattle.elm_typing.specs.Ground.{Ground}
use Rattle.elm_typing.specs.Sorts.{Sort, IsAtMost, sort_of}
use Rattle.bit_rows.specs.Table.{Table, row_of, bit_of, IsLeastTransitive}
use Rattle.type_terms.specs.declared.node.Node.{Node}
use Rattle.type_terms.specs.Depth.{AreNotesBelow}
use Rattle.type_terms.specs.Solutions.{Assignment, Solves}
use Rattle.type_terms.specs.Terms.{node_at, IsLink, LinksTo}
use Rattle.type_terms.proofs.Existence.{links-meet}
use Rattle.type_terms.proofs.Solved.{links-same}
use Rattle.type_sorts.specs.Sorts.{Meets}
use Rattle.type_sorts.specs.Vertices.{Member}
use Rattle.sort_closure.specs.Closure.{IsEnd, HasNotes, IsTrueOf, IsClosure}
use Rattle.sort_closure.proofs.Bits.{Sets, row-same, row-other, bit-same, bit-came, bit-kept, no-bit, copies-at, at_most-to, sorts_table, sorts-bit, sorts-true, sorts-transitive}

-- the table of these notes
pub record IsFilled (nodes : List Node) (notes : List (ℕ × ℕ)) (table : Table) : Type 0 where
  pub width : table.bits ≡ length nodes
  pub height : length table.rows ≡ length nodes
  pub long : (a : ℕ) → a < length nodes → length (row_of table a) ≡ length nodes
  pub inside : (a b : ℕ) → bit_of table a b ≡ true → (a < length nodes) × (b < length nodes)
  pub has : HasNotes nodes notes table
  pub sound : IsTrueOf nodes notes table

replicate-long : (n : ℕ) → length (replicate n false) ≡ n
replicate-long zero = refl
replicate-long (suc n) = ap suc (replicate-long n)

pub filled-none : (nodes : List Node) (table : Table) (n : ℕ) → n ≡ length nodes → table.bits ≡ n → length table.rows ≡ n → table.rows ≡ replicate n (replicate n false) → IsFilled nodes [] table
filled-none nodes table n en width height none = record {
  width = width ∙ en;
  height = height ∙ en;
  long = λ a lt.
      ap (λ (rows : List (List Bool)). length (get_or rows a [])) none
      ∙ ap length (copies-at n (replicate n false) [] a (omega (arith, lt, en))) ∙ replicate-long n ∙ en;
  inside = λ a b h. absurd (false≢true (sym (no-bit table n n a b none) ∙ h));
  has = λ note m. absurd m;
  sound = λ chosen s h m a b t. absurd (false≢true (sym (no-bit table n n a b none) ∙ t));
}

member-append : (note : ℕ × ℕ) (notes : List (ℕ × ℕ)) (last : ℕ × ℕ) → Member note (notes ++ last ∷ []) → Member note notes ⊎ (note ≡ last)
member-append note [] last (inl e) = inr e
member-append note [] last (inr m) = absurd m
member-append note (x ∷ notes) last (inl e) = inl (inl e)
member-append note (x ∷ notes) last (inr m) = elim (member-append note notes last m) as (λ _. Member note (x ∷ notes) ⊎ (note ≡ last)) [ inl k ↦ inl (inr k) | inr e ↦ inr e ]

meets-apart : (s : Assignment) (chosen : ℕ → Sort) (xs ys : List (ℕ × ℕ)) → Meets s chosen (xs ++ ys) → Meets s chosen xs × Meets s chosen ys
meets-apart s chosen [] ys h = (tt, h)
meets-apart s chosen (x ∷ xs) ys h = let r = meets-apart s chosen xs ys h.1 in ((h.0, r.0), r.1)

pub filled-more : (nodes : List Node) (notes : List (ℕ × ℕ)) (note : ℕ × ℕ) (old new : Table) (a b : ℕ) → IsEnd nodes a note.0 → IsEnd nodes b note.1 → a < length nodes → b < length nodes →
    IsFilled nodes notes old → Sets old new a b → IsFilled nodes (notes ++ note ∷ []) new
filled-more nodes notes note old new a b ea eb la lb f s = record {
  width = s.width ∙ f.width;
  height = ap length s.rows ∙ length-set old.rows a (set (row_of old a) b true) ∙ f.height;
  long = λ i lt. elim (ℕ_discrete i a) as (λ _. length (row_of new i) ≡ length nodes) [
    | yes same ↦ ap (λ (k : ℕ). length (row_of new k)) same ∙ ap length (row-same old new a b s row_in) ∙ length-set (row_of old a) b true ∙ f.long a la
    | no ne ↦ ap length (row-other old new a b i s ne) ∙ f.long i lt
  ];
  inside = λ i j h. elim (bit-came old new a b i j s row_in h) as (λ _. (i < length nodes) × (j < length nodes)) [
    | inl e ↦ (subst (λ (k : ℕ). k < length nodes) (sym e.0) la, subst (λ (k : ℕ). k < length nodes) (sym e.1) lb)
    | inr was ↦ f.inside i j was
  ];
  has = λ other m i j ei ej. elim (member-append other notes note m) as (λ _. bit_of new i j ≡ true) [
    | inl k ↦ bit-kept old new a b i j s row_in bit_in (f.has other k i j ei ej)
    | inr same ↦ (let x : i ≡ a = links-meet nodes i a note.0 (subst (λ (p : ℕ × ℕ). LinksTo nodes i p.0) same ei.leads) ea.leads ei.last ea.last in
        let y : j ≡ b = links-meet nodes j b note.1 (subst (λ (p : ℕ × ℕ). LinksTo nodes j p.1) same ej.leads) eb.leads ej.last eb.last in
        ap (λ (k : ℕ). bit_of new k j) x ∙ ap (bit_of new a) y ∙ bit-same old new a b s row_in bit_in)
  ];
  sound = λ chosen t h m i j is.
      let apart = meets-apart t chosen notes (note ∷ []) m in
      elim (bit-came old new a b i j s row_in is) as (λ _. IsAtMost (sort_of chosen (t i)) (sort_of chosen (t j))) [
        | inl e ↦ subst (λ (k : ℕ). IsAtMost (sort_of chosen (t k)) (sort_of chosen (t j))) (sym e.0)
            (subst (λ (k : ℕ). IsAtMost (sort_of chosen (t a)) (sort_of chosen (t k))) (sym e.1)
            (subst (λ (x : Ground). IsAtMost (sort_of chosen x) (sort_of chosen (t b))) (links-same nodes t a note.0 h ea.leads)
            (subst (λ (x : Ground). IsAtMost (sort_of chosen (t note.0)) (sort_of chosen x)) (links-same nodes t b note.1 h eb.leads) apart.1.0)))
        | inr was ↦ f.sound chosen t h apart.0 i j was
      ];
}
  where
    row_in : a < length old.rows
    row_in = omega (arith, la, f.height)

    bit_in : b < length (row_of old a)
    bit_in = omega (arith, lb, f.long a la)

-- by an item of the loop
pub note-filled : (nodes : List Node) (notes : List (ℕ × ℕ)) (i : ℕ) (d : ℕ × ℕ) (old new : Table) (a b : ℕ) → i < length notes →
    LinksTo nodes a (get_or notes i d).0 → (IsLink (node_at nodes a) → ⊥) → LinksTo nodes b (get_or notes i d).1 → (IsLink (node_at nodes b) → ⊥) → a < length nodes → b < length nodes →
    IsFilled nodes (take i notes) old → new.bits ≡ old.bits → new.rows ≡ set old.rows a (set (row_of old a) b true) → IsFilled nodes (take (i + 1) notes) new
note-filled nodes notes i d old new a b lt leads last leads' last' la lb f width rows =
    subst (λ (l : List (ℕ × ℕ)). IsFilled nodes l new) (sym (ap (λ (k : ℕ). take k notes) (add-one i) ∙ take-suc notes i d lt))
    (filled-more nodes (take i notes) (get_or notes i d) old new a b (record { leads = leads; last = last }) (record { leads = leads'; last = last' }) la lb f (record { width = width; rows = rows }))

pub note-inside : (n : ℕ) (notes : List (ℕ × ℕ)) (k : ℕ) (d : ℕ × ℕ) → AreNotesBelow n notes → k < length notes → ((get_or notes k d).0 < n) × ((get_or notes k d).1 < n)
note-inside n [] k d h lt = absurd (omega (arith, lt))
note-inside n (x ∷ notes) zero d h lt = (h.0, h.1)
note-inside n (x ∷ notes) (suc k) d h lt = note-inside n notes k d h.2 (omega (arith, lt))

pub closed-says : (nodes : List Node) (notes taken : List (ℕ × ℕ)) (filled closed : Table) → taken ≡ notes → IsFilled nodes taken filled → closed.bits ≡ filled.bits → length closed.rows ≡ length filled.rows →
    IsLeastTransitive filled closed → IsClosure nodes notes closed
closed-says nodes notes taken filled closed e f width height least =
    subst (λ (l : List (ℕ × ℕ)). IsClosure nodes l closed) e (record {
      width = width ∙ f.width;
      height = height ∙ f.height;
      has = λ note m a b ea eb. least.includes a b (f.has note m a b ea eb);
      transitive = least.transitive;
      sound = λ chosen s h m a b t.
          let sorts = λ (i : ℕ). sort_of chosen (s i) in
          sorts-true (length nodes) sorts a b
          (least.least (sorts_table (length nodes) sorts)
          (λ i j is. let l = f.inside i j is in sorts-bit (length nodes) sorts i j l.0 l.1 ∙ at_most-to (sorts i) (sorts j) (f.sound chosen s h m i j is))
          (sorts-transitive (length nodes) sorts) a b t);
    })

pub taken-all : (xs : List (ℕ × ℕ)) (i : ℕ) → length xs ≤ i → take i xs ≡ xs
taken-all [] zero le = refl
taken-all [] (suc i) le = refl
taken-all (x ∷ xs) zero le = absurd (omega (arith, le))
taken-all (x ∷ xs) (suc i) le = ap (λ (l : List (ℕ × ℕ)). x ∷ l) (taken-all xs i (omega (arith, le)))
