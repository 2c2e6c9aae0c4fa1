-- The copy of a whole scheme.
use Rattle.std.proofs.Common.{◌≡◌, ℕ, zero, suc, ◌+◌, ◌<◌, List, [], ◌∷◌, ◌++◌, length, get_or, take, refl, sym, ◌∙◌, ap, subst, arith, add-one}
use Rattle.std.proofs.Math.Seq.{take-suc}
use Rattle.elm_typing.specs.Ground.{Ground}
use Rattle.elm_typing.specs.Sorts.{Sort}
use Rattle.type_terms.specs.Depth.{AreNotesBelow}
use Rattle.type_terms.specs.Solutions.{Assignment}
use Rattle.type_sorts.specs.Sorts.{Meets}
use Rattle.type_unify.specs.Rests.{IsType}
use Rattle.type_unify.specs.Taken.{Agree}
use Rattle.type_conditions.specs.Conditions.{Asked, terms_in, Satisfies}
use Rattle.type_conditions.specs.Judging.{Adds, IsBelow, KeepsTails, Restricts}
use Rattle.type_conditions.proofs.Agreeing.{meets-append, meets-apart}
use Rattle.type_conditions.proofs.Composing.{grows-itself, grows-on, agree-less, agree-on}
use Rattle.type_schemes.specs.declared.copying.Entry.{Entry}
use Rattle.type_schemes.specs.declared.part.Part.{Part}
use Rattle.type_schemes.specs.Schemes.{Outline, IsClosed, Chooses, HasScheme}
use Rattle.type_schemes.specs.Copies.{AreCopied, IsTable, RestrictsSorts, along, term_at}
use Rattle.type_schemes.proofs.Fitting.{meets-same}
use Rattle.type_schemes.proofs.Tables.{along-agrees, table-at, table-kept}

pub noted-none : (asked : Asked) (table : List Entry) → RestrictsSorts table asked asked []
noted-none asked table = record {
  restricts = record { grows = grows-itself asked; has = λ chosen s h. tt; complete = λ chosen s h m. (s, λ i lt. refl, h) };
  tails = λ tail h. h;
}

pub noted-more : (old now new : Asked) (table : List Entry) (notes : List (ℕ × ℕ)) (note : ℕ × ℕ) → IsTable old table → AreNotesBelow (length table) (notes ++ note ∷ []) → RestrictsSorts table old now notes →
    Restricts now new (IsBelow (term_at table note.0) (term_at table note.1)) → KeepsTails now new → RestrictsSorts table old new (notes ++ note ∷ [])
noted-more old now new table notes note t below c r tails = record {
  restricts = record {
    grows = grows-on old now new c.restricts.grows r.grows;
    has = λ chosen s h.
        meets-append (along table s) chosen notes (note ∷ []) (c.restricts.has chosen s (r.grows.sound chosen s h)) (r.has chosen s h, tt);
    complete = λ chosen s h m.
        let apart = meets-apart (along table s) chosen notes (note ∷ []) m in
        let q = c.restricts.complete chosen s h apart.0 in
        let last = meets-same (length table) (along table s) (along table q.0) chosen (note ∷ []) (λ k lt. along-agrees old table s q.0 k t lt q.1) (below-behind notes below) apart.1 in
        let v = r.complete chosen q.0 q.2 last.0 in
        (v.0, agree-on (length (terms_in old)) s q.0 v.0 q.1 (agree-less old now q.0 v.0 c.restricts.grows v.1), v.2);
  };
  tails = λ t k. tails t (c.tails t k);
}
  where
    below-behind : (l : List (ℕ × ℕ)) → AreNotesBelow (length table) (l ++ note ∷ []) → AreNotesBelow (length table) (note ∷ [])
    below-behind [] h = h
    below-behind (x ∷ l) h = below-behind l h.2

note-taken : (notes : List (ℕ × ℕ)) (i : ℕ) (d : ℕ × ℕ) → i < length notes → take (i + 1) notes ≡ take i notes ++ get_or notes i d ∷ []
note-taken notes i d lt = ap (λ (k : ℕ). take k notes) (add-one i) ∙ take-suc notes i d lt

below-taken : (n i : ℕ) (notes : List (ℕ × ℕ)) → AreNotesBelow n notes → AreNotesBelow n (take i notes)
below-taken n zero [] h = tt
below-taken n zero (x ∷ notes) h = tt
below-taken n (suc i) [] h = tt
below-taken n (suc i) (x ∷ notes) h = (h.0, h.1, below-taken n i notes h.2)

pub note-noted : (old now new : Asked) (table : List Entry) (notes : List (ℕ × ℕ)) (i : ℕ) (d : ℕ × ℕ) (a b : ℕ) → i < length notes → IsTable old table → AreNotesBelow (length table) notes →
    RestrictsSorts table old now (take i notes) → a ≡ term_at table (get_or notes i d).0 → b ≡ term_at table (get_or notes i d).1 →
    Restricts now new (IsBelow a b) → KeepsTails now new → RestrictsSorts table old new (take (i + 1) notes)
note-noted old now new table notes i d a b lt t below c ea eb r tails =
    subst (RestrictsSorts table old new) (sym (note-taken notes i d lt))
    (noted-more old now new table (take i notes) (get_or notes i d) t
    (subst (AreNotesBelow (length table)) (note-taken notes i d lt) (below-taken (length table) (i + 1) notes below)) c
    (subst (λ (k : ℕ). Restricts now new (IsBelow (term_at table (get_or notes i d).0) k)) eb
    (subst (λ (k : ℕ). Restricts now new (IsBelow k b)) ea r)) tails)

pub note-typed : (old now : Asked) (table : List Entry) (notes done : List (ℕ × ℕ)) (k : ℕ) → IsTable old table → RestrictsSorts table old now done → k < length table → IsType (terms_in now) (term_at table k)
note-typed old now table notes done k t c lt = c.restricts.grows.types (term_at table k) (table-at old table k t lt).is_type

pub scheme-added : (old middle new : Asked) (outline : Outline) (table : List Entry) (at : ℕ) → IsClosed outline → AreCopied old middle outline.parts table → RestrictsSorts table middle new outline.notes →
    at ≡ term_at table outline.root → Adds old new (λ chosen s type. HasScheme chosen outline type) at
scheme-added old middle new outline table at closed c r e =
    subst (Adds old new (λ chosen s type. HasScheme chosen outline type)) (sym e) (record {
      grows = grows-on old middle new c.grows r.restricts.grows;
      has = λ chosen s h. (
        along table s,
        record { fit = c.has chosen s (r.restricts.grows.sound chosen s h); meets = r.restricts.has chosen s h },
        refl,
      );
      complete = λ chosen s type h k.
          let q = c.complete chosen s k.0 h k.1.fit in
          let met = meets-same (length outline.parts) k.0 (along table q.0) chosen outline.notes (λ i lt. sym (q.3 i lt)) closed.notes k.1.meets in
          let v = r.restricts.complete chosen q.0 q.2 met in (
            v.0,
            agree-on (length (terms_in old)) s q.0 v.0 q.1 (agree-less old middle q.0 v.0 c.grows v.1),
            v.2,
            sym (along-agrees middle table q.0 v.0 outline.root c.is_table inside v.1) ∙ q.3 outline.root closed.root ∙ k.2,
          );
      is_type = r.restricts.grows.types (term_at table outline.root) (table-at middle table outline.root c.is_table inside).is_type;
    })
  where
    inside : outline.root < length table
    inside = let l = c.long in let k = closed.root in omega (arith, l, k)
