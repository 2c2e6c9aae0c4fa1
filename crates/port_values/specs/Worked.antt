-- Worked cases of values and their texts, form by form: what is inside is given by its test or its text.
use Rattle.std.specs.Prelude.{◌≡◌, ℕ, pos, negsuc, Bool, true, false, List, [], ◌∷◌, codes}
use Rattle.elm_base.specs.declared.event.PortType.TheOpen as type
use Rattle.elm_base.specs.declared.event.PortValue.{PortValue}
use Rattle.elm_base.specs.declared.event.PortValue.TheOpen as value
use Rattle.elm_base.specs.declared.event.PortValue.TheVariants as whole
use Rattle.port_values.specs.Values.{passes}
use Rattle.port_values.specs.Defaults.{default_step}
use Rattle.port_values.specs.ValueText.{Printed, plain, just as behind_just, print_step}

abbrev pub Takes : type.PortType-F (PortValue → Bool) → value.PortValue-F PortValue → Type 0
Takes port given = passes port given ≡ true

abbrev pub Refuses : type.PortType-F (PortValue → Bool) → value.PortValue-F PortValue → Type 0
Refuses port given = passes port given ≡ false

-- tests that take all values, and none
abbrev pub all : PortValue → Bool
all given = true

abbrev pub none : PortValue → Bool
none given = false

-- a value of no form in particular
abbrev pub some : PortValue
some = whole.Unit

-- two labels, the first before the second
abbrev pub x_and_y : {A : Type 0} → A → A → List (List ℕ × A)
x_and_y x y = (codes "x", x) ∷ (codes "y", y) ∷ []

-- what is a value of a type, and what isn't
pub record ValuesOfTypes : Type 0 where
  pub unit : Takes type.Unit value.Unit
  pub unit_no_int : Refuses type.Unit (value.Int (pos 0))
  pub most : Takes type.Int (value.Int (pos 9223372036854775807))
  pub too_much : Refuses type.Int (value.Int (pos 9223372036854775808))
  pub least : Takes type.Int (value.Int (negsuc 9223372036854775807))
  pub too_little : Refuses type.Int (value.Int (negsuc 9223372036854775808))
  pub truth : Takes type.Bool (value.Bool false)
  pub truth_no_int : Refuses type.Int (value.Bool true)
  pub text : Takes type.Text (value.Text (195 ∷ 169 ∷ []))
  pub text_not_utf8 : Refuses type.Text (value.Text (195 ∷ []))
  pub nothing : Takes (type.Maybe none) value.Nothing
  pub just : Takes (type.Maybe all) (value.Just some)
  pub just_other : Refuses (type.Maybe none) (value.Just some)
  pub empty : Takes (type.List none) (value.List [])
  pub list : Takes (type.List all) (value.List (some ∷ some ∷ []))
  pub list_other : Refuses (type.List none) (value.List (some ∷ []))
  pub list_no_tuple : Refuses (type.List all) (value.Tuple (some ∷ some ∷ []))
  pub pair : Takes (type.Tuple (all ∷ all ∷ [])) (value.Tuple (some ∷ some ∷ []))
  pub pair_other : Refuses (type.Tuple (all ∷ none ∷ [])) (value.Tuple (some ∷ some ∷ []))
  pub pair_short : Refuses (type.Tuple (all ∷ all ∷ [])) (value.Tuple (some ∷ []))
  pub pair_long : Refuses (type.Tuple (all ∷ all ∷ [])) (value.Tuple (some ∷ some ∷ some ∷ []))
  pub fields : Takes (type.Fields (x_and_y all all)) (value.Fields (x_and_y some some))
  pub fields_other : Refuses (type.Fields (x_and_y all none)) (value.Fields (x_and_y some some))
  pub fields_label : Refuses (type.Fields (x_and_y all all)) (value.Fields ((codes "x", some) ∷ (codes "z", some) ∷ []))
  pub fields_turned : Refuses (type.Fields (x_and_y all all)) (value.Fields ((codes "y", some) ∷ (codes "x", some) ∷ []))
  pub fields_missing : Refuses (type.Fields (x_and_y all all)) (value.Fields ((codes "x", some) ∷ []))
  pub no_fields : Takes (type.Fields []) (value.Fields [])

-- what a port begins with
pub record Defaults : Type 0 where
  pub unit : default_step type.Unit ≡ whole.Unit
  pub int : default_step type.Int ≡ whole.Int (pos 0)
  pub truth : default_step type.Bool ≡ whole.Bool false
  pub text : default_step type.Text ≡ whole.Text []
  pub maybe : default_step (type.Maybe some) ≡ whole.Nothing
  pub list : default_step (type.List some) ≡ whole.List []
  pub pair : default_step (type.Tuple (some ∷ some ∷ [])) ≡ whole.Tuple (some ∷ some ∷ [])
  pub fields : default_step (type.Fields (x_and_y some some)) ≡ whole.Fields (x_and_y some some)

-- a value with the text, which takes no brackets behind `Just`
abbrev pub Prints : value.PortValue-F Printed → List ℕ → Type 0
Prints given text = print_step given ≡ plain text

-- one that does
abbrev pub PrintsBracketed : value.PortValue-F Printed → List ℕ → Type 0
PrintsBracketed given text = print_step given ≡ record { text = text; takes_brackets = true }

abbrev pub five : Printed
five = plain (codes "5")

pub record Texts : Type 0 where
  pub unit : Prints value.Unit (codes "()")
  pub nought : Prints (value.Int (pos 0)) (codes "0")
  pub negative : Prints (value.Int (negsuc 11)) (codes "-12")
  pub true_ : Prints (value.Bool true) (codes "True")
  pub false_ : Prints (value.Bool false) (codes "False")
  pub text : Prints (value.Text (codes "a\"b\\'\n\t\r")) (codes "\"a\\\"b\\\\'\\n\\t\\r\"")
  pub nothing : Prints value.Nothing (codes "Nothing")
  pub just : PrintsBracketed (value.Just five) (codes "Just 5")
  pub just_just : PrintsBracketed (value.Just (behind_just five)) (codes "Just (Just 5)")
  pub just_negative : PrintsBracketed (value.Just (print_step (value.Int (negsuc 4)))) (codes "Just -5")
  pub empty : Prints (value.List []) (codes "[]")
  pub one : Prints (value.List (five ∷ [])) (codes "[5]")
  pub three : Prints (value.List (five ∷ behind_just five ∷ five ∷ [])) (codes "[5,Just 5,5]")
  pub pair : Prints (value.Tuple (five ∷ behind_just five ∷ [])) (codes "(5,Just 5)")
  pub no_fields : Prints (value.Fields []) (codes "{}")
  pub fields : Prints (value.Fields (x_and_y five (behind_just five))) (codes "{ x = 5, y = Just 5 }")
