-- Paths that name files.
use Rattle.std.proofs.Common.{◌≡◌, ℕ, Bool, true, false, ◌&&◌, if◌then◌else◌, List, Option, Some, None, refl, ap, ◌∙◌}
use Rattle.std.specs.Str.{IsUtf8, is_utf8}
use Rattle.std.proofs.lemmas.Str.{IsUtf8-from_is_utf8, is_utf8-from_IsUtf8}
use Rattle.script_lines.specs.Names.{is_file_name}
use Rattle.module_visits.specs.Files.{names_file}

if_both : (t u : Bool) (path : List ℕ) (o : Option (List ℕ)) → t ≡ true → o ≡ (if u then Some path else None) → o ≡ (if t && u then Some path else None)
if_both true u path o e same = same
if_both false u path o e same = absurd (cc e)

pub named_text : (path name : List ℕ) (u : Bool) (o : Option (List ℕ)) → IsUtf8 path → u ≡ is_file_name path → name ≡ path
    → o ≡ (if u then Some name else None) → o ≡ (if names_file path then Some path else None)
named_text path name u o text test same given =
    if_both (is_utf8 path) (is_file_name path) path o (is_utf8-from_IsUtf8 path text)
    (given ∙ ap (λ (t : Bool). if t then Some name else None) test ∙ ap (λ (n : List ℕ). if is_file_name path then Some n else None) same)

if_neither : (t u : Bool) (path : List ℕ) → (t ≡ true → ⊥) → None ≡ (if t && u then Some path else None)
if_neither true u path no' = absurd (no' refl)
if_neither false u path no' = refl

pub no_text : (path : List ℕ) → (IsUtf8 path → ⊥) → None ≡ (if names_file path then Some path else None)
no_text path bad = if_neither (is_utf8 path) (is_file_name path) path (λ e. bad (IsUtf8-from_is_utf8 path e))
