-- Worked cases of literals with parts, on both sides of each form. What is inside is spelled as is given.
use Rattle.std.specs.Prelude.{ℕ, zero, suc, pos, Bool, true, List, [], ◌∷◌, codes}
use Rattle.elm_base.specs.declared.event.PortType.{PortType}
use Rattle.elm_base.specs.declared.event.PortType.TheOpen as type
use Rattle.elm_base.specs.declared.event.PortValue.{PortValue}
use Rattle.elm_base.specs.declared.event.PortValue.TheOpen as value
use Rattle.port_values.specs.Literals.{Text, Spells, Forms}

-- so many brackets may be opened, a type, and values of it that are written as 1 and 2
pub record Given : Type 0 where
  pub room : ℕ
  pub port : PortType
  pub one : PortValue
  pub two : PortValue
  pub spells_one : Spells room port one (codes "1")
  pub spells_two : Spells room port two (codes "2")

abbrev pub x_and_y : {A : Type 0} → A → A → List (Text × A)
x_and_y x y = (codes "x", x) ∷ (codes "y", y) ∷ []

pub record Maybes (g : Given) : Type 0 where
  pub nothing : Forms g.room (type.Maybe g.port) value.Nothing (codes "Nothing")
  pub lower : Forms g.room (type.Maybe g.port) value.Nothing (codes "nothing") → ⊥
  pub just : Forms g.room (type.Maybe g.port) (value.Just g.one) (codes "Just 1")
  pub spaces : Forms g.room (type.Maybe g.port) (value.Just g.one) (codes "Just   1")
  pub in_brackets : Spells (suc g.room) g.port g.one (codes "( 1  )")
  pub just_tight : (given : PortValue) → Forms g.room (type.Maybe g.port) (value.Just given) (codes "Just1") → ⊥
  pub just_nothing : (given : PortValue) → Forms g.room (type.Maybe g.port) (value.Just given) (codes "Nothing") → ⊥

pub record Lists (g : Given) : Type 0 where
  pub empty : Forms (suc g.room) (type.List g.port) (value.List []) (codes "[ ]")
  pub one : Forms (suc g.room) (type.List g.port) (value.List (g.one ∷ [])) (codes "[1]")
  pub two : Forms (suc g.room) (type.List g.port) (value.List (g.one ∷ g.two ∷ [])) (codes "[ 1 ,  2]")
  pub no_room : (given : value.PortValue-F PortValue) (text : Text) → Forms zero (type.List g.port) given text → ⊥

pub record Tuples (g : Given) : Type 0 where
  pub two : Forms (suc g.room) (type.Tuple (g.port ∷ g.port ∷ [])) (value.Tuple (g.one ∷ g.two ∷ [])) (codes "(1, 2 )")
  pub missing : (text : Text) → Forms (suc g.room) (type.Tuple (g.port ∷ g.port ∷ [])) (value.Tuple (g.one ∷ [])) text → ⊥
  pub no_room : (ports : List PortType) (given : value.PortValue-F PortValue) (text : Text) → Forms zero (type.Tuple ports) given text → ⊥

pub record Fields (g : Given) : Type 0 where
  pub none : Forms (suc g.room) (type.Fields []) (value.Fields []) (codes "{}")
  pub in_order : Forms (suc g.room) (type.Fields (x_and_y g.port g.port)) (value.Fields (x_and_y g.one g.two)) (codes "{x=1,y = 2 }")
  pub turned : Forms (suc g.room) (type.Fields (x_and_y g.port g.port)) (value.Fields (x_and_y g.one g.two)) (codes "{ y=2, x=1}")
  pub missing : (text : Text) → Forms (suc g.room) (type.Fields (x_and_y g.port g.port)) (value.Fields ((codes "x", g.one) ∷ [])) text → ⊥
  pub no_room : (ports : List (Text × PortType)) (given : value.PortValue-F PortValue) (text : Text) → Forms zero (type.Fields ports) given text → ⊥

-- the forms that are read whole, and one value of another form
pub record Leaves : Type 0 where
  pub int : (room : ℕ) → Forms room type.Int (value.Int (pos 5)) (codes "05")
  pub truth : (room : ℕ) → Forms room type.Bool (value.Bool true) (codes "True")
  pub text : (room : ℕ) → Forms room type.Text (value.Text (codes "a")) (codes "\"a\"")
  pub truth_no_int : (room : ℕ) (is : Bool) (text : Text) → Forms room type.Int (value.Bool is) text → ⊥

pub record Units : Type 0 where
  pub unit : (room : ℕ) → Forms (suc room) type.Unit value.Unit (codes "( )")
  pub no_room : (given : value.PortValue-F PortValue) (text : Text) → Forms zero type.Unit given text → ⊥

-- both sides of each form
pub record Literals : Type 0 where
  pub leaves : Leaves
  pub units : Units
  pub maybes : (g : Given) → Maybes g
  pub lists : (g : Given) → Lists g
  pub tuples : (g : Given) → Tuples g
  pub fields : (g : Given) → Fields g
