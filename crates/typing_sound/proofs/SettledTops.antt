-- A program whose groups are accepted, each with sorts of its own for opaque types, has typings where all opaque types are
-- simple.
use Rattle.std.proofs.Common.{ℕ, List, [], ◌∷◌}
use Rattle.std.specs.Prelude.{map}
use Rattle.elm_typing.specs.Ground.{Ground}
use Rattle.elm_typing.specs.Sorts.{Sort}
use Rattle.elm_typing.specs.Spelling.{all_simple}
use Rattle.typing_rules.specs.Unions.{Union}
use Rattle.typing_rules.specs.Worlds.{Types, no_surroundings}
use Rattle.typing_rules.specs.Rules.{under_work}
use Rattle.typing_rules.specs.TopGroups.{Definition, Tops, no_tops, world_with, tops_of, DefinitionsHave, TopsHave, with_group, AreAccepted}
use Rattle.typing_sound.specs.Programs.{HaveTypings}
use Rattle.typing_sound.proofs.Settled.{settled}
use Rattle.typing_sound.proofs.SettledRules.{Settles, v, w, annotated_settled, work_settles, generalised_settles, core_settles}

-- what top values have with some sorts they have, settled, where opaque types are simple
pub record AreClosed (tops : Tops) : Type 0 where
  pub at : (c : ℕ → Sort) → Settles c (tops c) (tops all_simple)

module _ (us : List Union) (is : List Ground) where
  definitions_settled : (c : ℕ → Sort) (V W : ℕ → Types) → Settles c V W → (ds : List Definition) (ts : List Ground) → DefinitionsHave (v c us is V W) ds ts → DefinitionsHave (w c us is V W) ds (map (settled c) ts)
  definitions_settled c V W k [] [] h = tt
  definitions_settled c V W k [] (t ∷ ts) h = absurd h
  definitions_settled c V W k (d ∷ ds) [] h = absurd h
  definitions_settled c V W k (d ∷ ds) (t ∷ ts) h = (
    core_settles c us is V W k d.body no_surroundings no_surroundings (record { at = λ y t h. absurd h }) t h.0,
    annotated_settled c d.annotation t h.1,
    definitions_settled c V W k ds ts h.2,
  )

  group_settled : (tops : Tops) → AreClosed tops → (c : ℕ → Sort) (g : List Definition) (ts : List Ground) → TopsHave (world_with us is tops c) g ts → TopsHave (world_with us is tops all_simple) g (map (settled c) ts)
  group_settled tops k c g ts h =
      definitions_settled c (under_work (tops_of g) ts (tops c)) (under_work (tops_of g) (map (settled c) ts) (tops all_simple))
      (work_settles c (tops_of g) ts (tops c) (tops all_simple) (k.at c)) g ts h

  group_closed : (tops : Tops) → AreClosed tops → (g : List Definition) → AreClosed (with_group us is g tops)
  group_closed tops k g = record {
    at = λ c. generalised_settles c (tops_of g) 0 (TopsHave (world_with us is tops c) g) (TopsHave (world_with us is tops all_simple) g)
        (tops c) (tops all_simple) (group_settled tops k c g) (k.at c);
  }

  have_typings : (gs : List (List Definition)) (tops : Tops) → AreClosed tops → AreAccepted us is gs tops → HaveTypings us is all_simple gs tops
  have_typings [] tops k a = tt
  have_typings (g ∷ gs) tops k a =
      let first = a.0.0 in (
        (map (settled first.0) first.1, group_settled tops k first.0 g first.1 first.2),
        have_typings gs (with_group us is g tops) (group_closed tops k g) a.1,
      )

  pub accepted_have_typings : (gs : List (List Definition)) → AreAccepted us is gs no_tops → HaveTypings us is all_simple gs no_tops
  accepted_have_typings gs a = have_typings gs no_tops (record { at = λ c. record { at = λ y t h. absurd h } }) a
