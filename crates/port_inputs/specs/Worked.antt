-- Worked cases: values form by form, what is inside being given; types form by form; inputs by their names.
use Rattle.std.specs.Prelude.{◌≡◌, ℕ, pos, negsuc, true, false, List, [], ◌∷◌, codes, Some, None}
use Rattle.elm_base.specs.declared.event.PortType.{PortType}
use Rattle.elm_base.specs.declared.event.PortType.TheOpen as type
use Rattle.elm_base.specs.declared.event.PortType.TheVariants as port
use Rattle.elm_base.specs.declared.event.PortValue.TheOpen as given
use Rattle.elm_meaning.specs.Values as v
use Rattle.port_inputs.specs.Fit.{Inputs, type_of}
use Rattle.port_inputs.specs.Placed.{placed_step}
use Rattle.port_inputs.specs.SameType.{Test, same_layer}

abbrev pub Gives : given.PortValue-F v.Value → v.Value → Type 0
Gives given value = placed_step given ≡ value

abbrev pub one : v.Value
one = v.Int (pos 1)

abbrev pub two : v.Value
two = v.Int (pos 2)

abbrev pub alone : List ℕ → v.Value
alone name = v.Made name v.NoValues

pub record Values : Type 0 where
  pub unit : Gives given.Unit v.Unit
  pub negative : Gives (given.Int (negsuc 4)) (v.Int (negsuc 4))
  pub true_ : Gives (given.Bool true) (alone (codes "True"))
  pub false_ : Gives (given.Bool false) (alone (codes "False"))
  pub text : Gives (given.Text (codes "a")) (v.Text (codes "a"))
  pub nothing : Gives given.Nothing (alone (codes "Nothing"))
  pub just : Gives (given.Just one) (v.Made (codes "Just") (v.AndValue one v.NoValues))
  pub empty : Gives (given.List []) v.Nil
  pub list : Gives (given.List (one ∷ two ∷ [])) (v.Cons one (v.Cons two v.Nil))
  pub pair : Gives (given.Tuple (one ∷ two ∷ [])) (v.Tuple (v.AndValue one (v.AndValue two v.NoValues)))
  pub no_field : Gives (given.Fields []) (v.Record v.NoFields)
  pub fields : Gives (given.Fields ((codes "x", one) ∷ (codes "y", two) ∷ []))
      (v.Record (v.AndField (codes "x") one (v.AndField (codes "y") two v.NoFields)))
  pub by_label : Gives (given.Fields ((codes "y", two) ∷ (codes "x", one) ∷ []))
      (v.Record (v.AndField (codes "x") one (v.AndField (codes "y") two v.NoFields)))

-- a test that takes all types, and one that takes none
abbrev pub all : Test
all port = true

abbrev pub none : Test
none port = false

abbrev pub Same : type.PortType-F Test → type.PortType-F PortType → Type 0
Same layer other = same_layer layer other ≡ true

abbrev pub Other : type.PortType-F Test → type.PortType-F PortType → Type 0
Other layer other = same_layer layer other ≡ false

pub record Types : Type 0 where
  pub int : Same type.Int type.Int
  pub int_bool : Other type.Int type.Bool
  pub unit_no_fields : Other type.Unit (type.Fields [])
  pub maybe : Same (type.Maybe all) (type.Maybe port.Int)
  pub maybe_inside : Other (type.Maybe none) (type.Maybe port.Int)
  pub maybe_list : Other (type.Maybe all) (type.List port.Int)
  pub pair : Same (type.Tuple (all ∷ all ∷ [])) (type.Tuple (port.Int ∷ port.Text ∷ []))
  pub pair_inside : Other (type.Tuple (all ∷ none ∷ [])) (type.Tuple (port.Int ∷ port.Text ∷ []))
  pub pair_longer : Other (type.Tuple (all ∷ all ∷ [])) (type.Tuple (port.Int ∷ port.Text ∷ port.Int ∷ []))
  pub fields : Same (type.Fields ((codes "x", all) ∷ [])) (type.Fields ((codes "x", port.Int) ∷ []))
  pub fields_label : Other (type.Fields ((codes "x", all) ∷ [])) (type.Fields ((codes "y", port.Int) ∷ []))
  pub fields_inside : Other (type.Fields ((codes "x", none) ∷ [])) (type.Fields ((codes "x", port.Int) ∷ []))

abbrev pub mouse : Inputs
mouse = (codes "Mouse.x", port.Int) ∷ (codes "p", port.Text) ∷ []

pub record Standings : Type 0 where
  pub first : type_of mouse (codes "Mouse.x") ≡ Some port.Int
  pub second : type_of mouse (codes "p") ≡ Some port.Text
  pub longer : type_of mouse (codes "pp") ≡ None
  pub none_there : type_of [] (codes "p") ≡ None
