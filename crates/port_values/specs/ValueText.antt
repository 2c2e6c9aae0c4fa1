-- The text of a value, as it is printed.
use Rattle.std.specs.Prelude.{ℕ, Bool, true, false, if◌then◌else◌, List, [], ◌∷◌, ◌++◌, codes}
use Rattle.std.specs.List.{flat_map}
use Rattle.std.specs.Fmt.{signed_decimal}
use Rattle.elm_base.specs.Quoted.{quoted}
use Rattle.elm_base.specs.declared.event.PortValue.{PortValue}
use Rattle.elm_base.specs.declared.event.PortValue.TheOpen as value
use Rattle.elm_base.specs.declared.event.PortValue.TheFolds.{fold-PortValue}

-- a value's text, and whether it takes brackets behind `Just`: another `Just` does
pub record Printed : Type 0 where
  pub text : List ℕ
  pub takes_brackets : Bool

abbrev pub plain : List ℕ → Printed
plain text = record { text = text; takes_brackets = false }

-- a value behind `Just`
abbrev pub argument : Printed → List ℕ
argument printed = if printed.takes_brackets then codes "(" ++ printed.text ++ codes ")" else printed.text

abbrev pub just : Printed → Printed
just inner = record { text = codes "Just " ++ argument inner; takes_brackets = true }

abbrev pub truth_text : Bool → List ℕ
truth_text true = codes "True"
truth_text false = codes "False"

-- values behind another one, each behind a comma
abbrev pub other_values : List Printed → List ℕ
other_values others = flat_map (λ part. codes "," ++ part.text) others

abbrev pub values : List Printed → List ℕ
values [] = []
values (first ∷ others) = first.text ++ other_values others

abbrev pub field : List ℕ × Printed → List ℕ
field (label, printed) = label ++ codes " = " ++ printed.text

abbrev pub other_fields : List (List ℕ × Printed) → List ℕ
other_fields others = flat_map (λ other. codes ", " ++ field other) others

abbrev pub fields : List (List ℕ × Printed) → List ℕ
fields [] = codes "{}"
fields (first ∷ others) = codes "{ " ++ field first ++ other_fields others ++ codes " }"

abbrev pub print_step : value.PortValue-F Printed → Printed
print_step value.Unit = plain (codes "()")
print_step (value.Int number) = plain (signed_decimal number)
print_step (value.Bool truth) = plain (truth_text truth)
print_step (value.Text bytes) = plain (quoted 34 bytes)
print_step value.Nothing = plain (codes "Nothing")
print_step (value.Just inner) = just inner
print_step (value.List inner) = plain (codes "[" ++ values inner ++ codes "]")
print_step (value.Tuple inner) = plain (codes "(" ++ values inner ++ codes ")")
print_step (value.Fields inner) = plain (fields inner)

abbrev pub printed : PortValue → Printed
printed = fold-PortValue Printed print_step

-- a field with its value printed
abbrev pub printed_field : List ℕ × PortValue → List ℕ × Printed
printed_field (label, given) = (label, printed given)

-- As a program would write it: `Just (Just 5)`, `[1,2]`, `(0,"a\n")`, `{ x = 0, y = -3 }`.
abbrev pub value_text : PortValue → List ℕ
value_text given = (printed given).text
