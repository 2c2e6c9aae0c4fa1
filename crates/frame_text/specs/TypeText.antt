-- The text of a port's type.
use Rattle.std.specs.Prelude.{ℕ, Bool, true, false, if◌then◌else◌, List, [], ◌∷◌, ◌++◌, codes}
use Rattle.std.specs.List.{flat_map}
use Rattle.elm_base.specs.declared.event.PortType.{PortType}
use Rattle.elm_base.specs.declared.event.PortType.TheOpen as type
use Rattle.elm_base.specs.declared.event.PortType.TheFolds.{fold-PortType}

-- a type's text, and whether it takes brackets behind `Maybe` or `List`: one that begins with such a word does
pub record Described : Type 0 where
  pub text : List ℕ
  pub takes_brackets : Bool

abbrev pub plain : List ℕ → Described
plain text = record { text = text; takes_brackets = false }

-- a type behind one of these words
abbrev pub argument : Described → List ℕ
argument described = if described.takes_brackets then codes "(" ++ described.text ++ codes ")" else described.text

abbrev pub applied : List ℕ → Described → Described
applied word described = record { text = word ++ argument described; takes_brackets = true }

-- parts behind another, each behind a comma
abbrev pub other_parts : List Described → List ℕ
other_parts others = flat_map (λ part. codes "," ++ part.text) others

abbrev pub parts : List Described → List ℕ
parts [] = []
parts (first ∷ others) = first.text ++ other_parts others

abbrev pub field : List ℕ × Described → List ℕ
field (label, described) = label ++ codes " : " ++ described.text

abbrev pub other_fields : List (List ℕ × Described) → List ℕ
other_fields others = flat_map (λ other. codes ", " ++ field other) others

abbrev pub fields : List (List ℕ × Described) → List ℕ
fields [] = codes "{}"
fields (first ∷ others) = codes "{ " ++ field first ++ other_fields others ++ codes " }"

abbrev pub type_step : type.PortType-F Described → Described
type_step type.Unit = plain (codes "()")
type_step type.Int = plain (codes "Int")
type_step type.Bool = plain (codes "Bool")
type_step type.Text = plain (codes "String")
type_step (type.Maybe inner) = applied (codes "Maybe ") inner
type_step (type.List inner) = applied (codes "List ") inner
type_step (type.Tuple inner) = plain (codes "(" ++ parts inner ++ codes ")")
type_step (type.Fields inner) = plain (fields inner)

abbrev pub described : PortType → Described
described = fold-PortType Described type_step

-- a field with its type described
abbrev pub described_field : List ℕ × PortType → List ℕ × Described
described_field (label, port) = (label, described port)

-- As a program writes it: `Maybe (List Int)`, `(Int,Bool)`, `{ x : Int, y : Int }`.
abbrev pub type_text : PortType → List ℕ
type_text port = (described port).text
