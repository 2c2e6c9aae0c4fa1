-- The types of field functions.
use Rattle.std.proofs.Common.{◌≡◌, ℕ, Some, List, [], ◌∷◌, refl, sym, ap, ◌∙◌, subst}
use Rattle.elm_typing.specs.Ground.{Ground, Row}
use Rattle.elm_typing.specs.Rows.{newest}
use Rattle.typing_rules.specs.Worlds.{Surroundings, with_bound, World, IsProper}
use Rattle.typing_rules.specs.CoreTypes.{CoreHas}
use Rattle.typing_sound.specs.Rewritings.{field_function}

pub argument_proper : (w : World) (a r : Ground) → IsProper w (Ground.Function a r) → IsProper w a
argument_proper w a r p = record { sorted = p.sorted.0; ordered = p.ordered.0 }

pub result_proper : (w : World) (a r : Ground) → IsProper w (Ground.Function a r) → IsProper w r
result_proper w a r p = record { sorted = p.sorted.1; ordered = p.ordered.1 }

module _ (w : World) (s : Surroundings) where
  pub field_has : (label : List ℕ) (row : Row) (t : Ground) → IsProper w (Ground.Function (Ground.Record row) t) → newest label row ≡ Some t → CoreHas w s (field_function label) (Ground.Function (Ground.Record row) t)
  field_has label row t p e =
      (p, (Ground.Record row, t, refl, ((0, Ground.Record row) ∷ [], refl, (result_proper w (Ground.Record row) t p, (row, (argument_proper w (Ground.Record row) t p, refl), e)))))

  pub field_only : (label : List ℕ) (t : Ground) → CoreHas w s (field_function label) t → (row : Row) × (result : Ground) × (t ≡ Ground.Function (Ground.Record row) result) × (newest label row ≡ Some result)
  field_only label t h =
      let f = h.1 in
      let b = f.3 in
      row_of f.0 f.1 b.0 b.1 (f.2) b.2.1.0 b.2.1.1.1 b.2.1.2
    where
      row_of : (a r : Ground) (bs : List (ℕ × Ground)) → bs ≡ (0, a) ∷ [] → t ≡ Ground.Function a r → (row : Row) → with_bound bs s 0 (Ground.Record row) → newest label row ≡ Some r → (row : Row) × (result : Ground) × (t ≡ Ground.Function (Ground.Record row) result) × (newest label row ≡ Some result)
      row_of a r bs e d row k n =
          let i : Ground.Record row ≡ a = subst (λ z. with_bound z s 0 (Ground.Record row)) e k in
          (row, r, d ∙ ap (λ z. Ground.Function z r) (sym i), n)
