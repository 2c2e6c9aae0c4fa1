-- A name that is cut at its slashes.
use Rattle.std.proofs.Common.{◌≡◌, ◌≢◌, ◌<◌, ◌++◌, ◌∙◌, arith, ℕ, Bool, true, false, cond, List, [], ◌∷◌, length, ap, refl, length-append}
use Rattle.std.specs.Prelude.{◌&&◌}
use Rattle.std.specs.List.{list_all, onto_first}
use Rattle.std.proofs.lemmas.Bool.{ne_eqb}
use Rattle.script_lines.specs.Lines.{HasNone}
use Rattle.script_lines.specs.Names.{segments, is_segment}

past_slash : (byte : ℕ) (rest : List ℕ) → byte ≢ 47 → segments (byte ∷ rest) ≡ onto_first byte (segments rest)
past_slash byte rest differs = ap (λ test. cond test ([] ∷ segments rest) (onto_first byte (segments rest))) (ne_eqb byte 47 differs)

segments-cut : (first rest : List ℕ) → HasNone 47 first → segments (first ++ 47 ∷ rest) ≡ first ∷ segments rest
segments-cut [] rest none = refl
segments-cut (byte ∷ first) rest none = past_slash byte (first ++ 47 ∷ rest) none.0 ∙ ap (onto_first byte) (segments-cut first rest none.1)

segments-one : (name : List ℕ) → HasNone 47 name → segments name ≡ name ∷ []
segments-one [] none = refl
segments-one (byte ∷ rest) none = past_slash byte rest none.0 ∙ ap (onto_first byte) (segments-one rest none.1)

-- the first part and the others
pub all_segments : (name first rest : List ℕ) → name ≡ first ++ 47 ∷ rest → HasNone 47 first → list_all is_segment (segments name) ≡ (is_segment first && list_all is_segment (segments rest))
all_segments name first rest is none = ap (λ n. list_all is_segment (segments n)) is ∙ ap (list_all is_segment) (segments-cut first rest none)

pub one_segment : (name : List ℕ) → HasNone 47 name → list_all is_segment (segments name) ≡ (is_segment name && list_all is_segment [])
one_segment name none = ap (list_all is_segment) (segments-one name none)

pub rest_shorter : (name first rest : List ℕ) → name ≡ first ++ 47 ∷ rest → length rest < length name
rest_shorter name first rest is = omega (arith, ap length is, length-append first (47 ∷ rest))

pub and_true : (a : Bool) → (a && true) ≡ a
and_true true = refl
and_true false = refl
