-- The literals of a port's type.
use Rattle.std.specs.Prelude.{◌≡◌, ℕ, suc, ℤ, Bool, true, not, ◌==◌, List, [], ◌∷◌, ◌++◌, length, replicate, codes, Some}
use Rattle.std.specs.List.{list_all}
use Rattle.elm_base.specs.Letters.{is_name_byte}
use Rattle.elm_base.specs.declared.event.PortType.{PortType, out-PortType}
use Rattle.elm_base.specs.declared.event.PortType.TheOpen as type
use Rattle.elm_base.specs.declared.event.PortValue.{PortValue, out-PortValue}
use Rattle.elm_base.specs.declared.event.PortValue.TheOpen as value
use Rattle.port_values.specs.Leaves.{int_of, is_unit, truth_of, text_of}

abbrev pub Text : Type 0
Text = List ℕ

abbrev pub AreSpaces : Text → Type 0
AreSpaces text = list_all (λ byte. byte == 32) text ≡ true

-- a word ends before this: no letter, digit, underscore or apostrophe goes on with it
abbrev pub ends_word : Text → Bool
ends_word [] = true
ends_word (byte ∷ rest) = not (is_name_byte byte)

-- an opening byte, a text between spaces, and a closing byte
abbrev pub Encloses : ℕ → ℕ → Text → Text → Type 0
Encloses open_ close inside text =
    (before : Text) × (behind : Text) × AreSpaces before × AreSpaces behind
    × (text ≡ open_ ∷ (before ++ (inside ++ (behind ++ close ∷ []))))

-- texts with a comma between each two, and spaces about it
pub data Joined : List Text → Text → Type 0 where
  last : (text : Text) → Joined (text ∷ []) text
  then_more : (first : Text) (others : List Text) (before behind rest text : Text)
      → AreSpaces before → AreSpaces behind → Joined others rest
      → text ≡ first ++ (before ++ 44 ∷ (behind ++ rest)) → Joined (first ∷ others) text

-- nothing is written where there is no text, and else they are joined
abbrev pub Lists : List Text → Text → Type 0
Lists [] inside = inside ≡ []
Lists (first ∷ others) inside = Joined (first ∷ others) inside

-- the same texts in another order, or the same
pub data Reordered : List Text → List Text → Type 0 where
  none : Reordered [] []
  put : (text : Text) (front back others : List Text)
      → Reordered others (front ++ back) → Reordered (text ∷ others) (front ++ text ∷ back)

mutual
  -- A text is a literal of the type with this value, where so many brackets may be opened in one another.
  pub data Spells : ℕ → PortType → PortValue → Text → Type 0 where
    form : (room : ℕ) (port : PortType) (given : PortValue) (text : Text)
        → Forms room (out-PortType port) (out-PortValue given) text → Spells room port given text
    brackets : (room : ℕ) (port : PortType) (given : PortValue) (inside text : Text)
        → Spells room port given inside → Encloses 40 41 inside text → Spells (suc room) port given text

  -- by the form of the type, in no brackets of its own
  pub data Forms : ℕ → type.PortType-F PortType → value.PortValue-F PortValue → Text → Type 0 where
    unit : (room : ℕ) (text : Text) → is_unit text ≡ true → Forms (suc room) type.Unit value.Unit text
    int : (room : ℕ) (number : ℤ) (text : Text) → int_of text ≡ Some number → Forms room type.Int (value.Int number) text
    truth : (room : ℕ) (is : Bool) (text : Text) → truth_of text ≡ Some is → Forms room type.Bool (value.Bool is) text
    quotes : (room : ℕ) (bytes text : Text) → text_of text ≡ Some bytes → Forms room type.Text (value.Text bytes) text
    nothing : (room : ℕ) (port : PortType) (text : Text)
        → text ≡ codes "Nothing" → Forms room (type.Maybe port) value.Nothing text
    just : (room : ℕ) (port : PortType) (given : PortValue) (spaces inside text : Text)
        → AreSpaces spaces → ends_word (spaces ++ inside) ≡ true → Spells room port given inside
        → text ≡ codes "Just" ++ (spaces ++ inside) → Forms room (type.Maybe port) (value.Just given) text
    list : (room : ℕ) (port : PortType) (givens : List PortValue) (texts : List Text) (inside text : Text)
        → SpellEach room (replicate (length givens) port) givens texts → Lists texts inside → Encloses 91 93 inside text
        → Forms (suc room) (type.List port) (value.List givens) text
    tuple : (room : ℕ) (ports : List PortType) (givens : List PortValue) (texts : List Text) (inside text : Text)
        → SpellEach room ports givens texts → Lists texts inside → Encloses 40 41 inside text
        → Forms (suc room) (type.Tuple ports) (value.Tuple givens) text
    fields : (room : ℕ) (ports : List (Text × PortType)) (givens : List (Text × PortValue)) (texts written : List Text) (inside text : Text)
        → SpellFields room ports givens texts → Reordered texts written → Lists written inside → Encloses 123 125 inside text
        → Forms (suc room) (type.Fields ports) (value.Fields givens) text

  -- each text spells the value of its type
  pub data SpellEach : ℕ → List PortType → List PortValue → List Text → Type 0 where
    done : (room : ℕ) → SpellEach room [] [] []
    part : (room : ℕ) (port : PortType) (given : PortValue) (text : Text) (ports : List PortType) (givens : List PortValue) (texts : List Text)
        → Spells room port given text → SpellEach room ports givens texts
        → SpellEach room (port ∷ ports) (given ∷ givens) (text ∷ texts)

  -- each text is a label, an equals sign with spaces about it, and the value of the field
  pub data SpellFields : ℕ → List (Text × PortType) → List (Text × PortValue) → List Text → Type 0 where
    no_field : (room : ℕ) → SpellFields room [] [] []
    field : (room : ℕ) (label : Text) (port : PortType) (given : PortValue) (before behind inside text : Text)
        (ports : List (Text × PortType)) (givens : List (Text × PortValue)) (texts : List Text)
        → AreSpaces before → AreSpaces behind → Spells room port given inside
        → text ≡ label ++ (before ++ 61 ∷ (behind ++ inside))
        → SpellFields room ports givens texts
        → SpellFields room ((label, port) ∷ ports) ((label, given) ∷ givens) (text ∷ texts)

-- A literal of the type, with its value: at most 64 brackets are open at once.
abbrev pub IsLiteral : PortType → PortValue → Text → Type 0
IsLiteral port given text = Spells 64 port given text
