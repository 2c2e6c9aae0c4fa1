-- The rules of typing, one for each form. Each says which types a form has by the sets of types that its parts have, so
-- that the same rule serves the trees of a program's text, plain terms, and values.
use Rattle.std.specs.Prelude.{◌≡◌, ℕ, zero, suc, Option, Some, None, List, [], ◌∷◌, slice_get}
use Rattle.elm_typing.specs.Ground.{Ground, Grounds, Row, NoGrounds, AndGround, Ends}
use Rattle.elm_typing.specs.Names.{list_of, signal_of}
use Rattle.elm_typing.specs.Rows.{extended, newest, removed}
use Rattle.elm_typing.specs.Spelling.{int, bool}
use Rattle.typing_rules.specs.WrittenTypes.{Written, IsInstance}
use Rattle.typing_rules.specs.Library.{signature_of}
use Rattle.typing_rules.specs.CorePatterns.{CorePattern, Fits}
use Rattle.typing_rules.specs.Worlds.{Types, Surroundings, exactly, with_name, Bound, with_bound, World, IsProper, MayStandIn, AllMayStandIn}

-- the types of a part by what the names in it have
abbrev pub Inside : Type 1
Inside = Surroundings → Types

-- a type of an expression is proper
abbrev pub Well : World → Types → Types
Well w E type = IsProper w type × E type

-- names

-- an inbound port or a device has the type as it is written
abbrev pub Incoming : World → ℕ → Types
Incoming w n type = (value : Ground) × (slice_get w.inputs n ≡ Some value) × (type ≡ signal_of value)

-- a native has each instance of its written type
abbrev pub NativeGives : ℕ → Types
NativeGives number type = (written : Written) × (signature_of number ≡ Some written) × IsInstance written type

-- what is held to a written type has no type but its instances
abbrev pub Held : Written → Types → Types
Held written E type = E type × IsInstance written type

-- calls and functions

abbrev pub Called : Types → Types → Types
Called F A type = (argument : Ground) × F (Ground.Function argument type) × A argument

-- what the pattern's names have stands in the body
abbrev pub Branch : World → CorePattern → Inside → Surroundings → Ground → Types
Branch w p B s from type = (bound : Bound) × Fits w.unions p from bound × B (with_bound bound s) type

abbrev pub Abstracted : World → CorePattern → Inside → Surroundings → Types
Abstracted w p B s type =
    (argument result : Ground) × (type ≡ Ground.Function argument result) × Branch w p B s argument result

-- choices

abbrev pub Chosen : Types → Types → Types → Types
Chosen C Y N type = C bool × Y type × N type

-- The scrutinee has some type whose sort is at most the whole's. B says which types the branches have by that type.
abbrev pub Cased : World → Types → (Ground → Types) → Types
Cased w E B type = (scrutinee : Ground) × E scrutinee × MayStandIn w scrutinee type × B scrutinee type

-- `let`

-- A definition of a name is generalised: the name has all types that the definition has in its own surroundings. It has
-- one whose sort is at most the body's.
abbrev pub NamedValue : World → ℕ → Inside → Inside → Surroundings → Types
NamedValue w x E B s type = (some : Ground) × E s some × MayStandIn w some type × B (with_name x (E s) s) type

-- the names of another pattern have one type each
abbrev pub TakenApart : World → CorePattern → Inside → Inside → Surroundings → Types
TakenApart w p E B s type = (some : Ground) × E s some × MayStandIn w some type × Branch w p B s some type

abbrev pub Defined : World → CorePattern → Inside → Inside → Surroundings → Types
Defined w (CorePattern.Local x) E B s = NamedValue w x E B s
Defined w p E B s = TakenApart w p E B s

-- a typing of a group is a list of types, one for each of its names
abbrev pub Typings : Type 1
Typings = List Ground → Type 0

-- the type at a place, where there is one
abbrev pub type_at : List Ground → ℕ → Option Ground
type_at [] i = None
type_at (t ∷ ts) zero = Some t
type_at (t ∷ ts) (suc i) = type_at ts i

-- the group under work: each of its names has its one type
abbrev pub under_work : List ℕ → List Ground → Surroundings → Surroundings
under_work (x ∷ xs) (t ∷ ts) s = under_work xs ts (with_name x (exactly t) s)
under_work _ _ s = s

-- a typing of a group, by what the names in it have
abbrev pub Group : Type 1
Group = Surroundings → Typings

-- each definition has its type where the group's names have theirs
abbrev pub Together : List ℕ → Group → Group
Together names G s types = G (under_work names types s) types

-- the types of one of a group's names: those that some typing of the group gives it
abbrev pub GivenBy : Typings → ℕ → Types
GivenBy G i type = (types : List Ground) × G types × (type_at types i ≡ Some type)

-- The names of a generalised group, counted from i. Each has the types that the group's typings in its own surroundings
-- give it.
abbrev pub generalised : List ℕ → ℕ → Typings → Surroundings → Surroundings
generalised [] i G s = s
generalised (x ∷ xs) i G s = generalised xs (suc i) G (with_name x (GivenBy G i) s)

-- the group has a typing whose sorts are at most the body's
abbrev pub Grouped : World → List ℕ → Group → Inside → Surroundings → Types
Grouped w names G B s type =
    (types : List Ground) × G s types × AllMayStandIn w types type × B (generalised names 0 (G s) s) type

-- parts

abbrev pub OfParts : (Grounds → Type 0) → Types
OfParts E type = (parts : Grounds) × (type ≡ Ground.Tuple parts) × E parts

abbrev pub NoParts : Grounds → Type 0
NoParts parts = parts ≡ NoGrounds

abbrev pub AndPart : Types → (Grounds → Type 0) → Grounds → Type 0
AndPart E Es parts = (first : Ground) × (others : Grounds) × (parts ≡ AndGround first others) × E first × Es others

abbrev pub Listed : Types → Types
Listed E type = (element : Ground) × (type ≡ list_of element) × E element

abbrev pub Ranged : Types → Types → Types
Ranged L H type = L int × H int × (type ≡ list_of int)

-- records

-- fields over a row give a row
abbrev pub Over : Type 1
Over = Row → Row → Type 0

abbrev pub NothingOver : Over
NothingOver before row = row ≡ before

abbrev pub FieldOver : List ℕ → Types → Over → Over
FieldOver label E Fs before row = (type : Ground) × (others : Row) × E type × Fs before others × (row ≡ extended label type others)

abbrev pub OfFields : Over → Types
OfFields Fs type = (row : Row) × (type ≡ Ground.Record row) × Fs (Ends None) row

abbrev pub Extended : Types → Over → Types
Extended E Fs type = (before row : Row) × (type ≡ Ground.Record row) × E (Ground.Record before) × Fs before row

-- the new value has the first of the label's types
abbrev pub NewestIs : List ℕ → Types → Row → Type 0
NewestIs label E row = (type : Ground) × (newest label row ≡ Some type) × E type

abbrev pub Updated : Types → (Row → Type 0) → Types
Updated E Fs type = (row : Row) × (type ≡ Ground.Record row) × E type × Fs row

abbrev pub Removed : Types → List ℕ → Types
Removed E label type =
    (before row : Row) × (type ≡ Ground.Record row) × E (Ground.Record before) × (removed label before ≡ Some row)

abbrev pub FieldOf : Types → List ℕ → Types
FieldOf E label type = (row : Row) × E (Ground.Record row) × (newest label row ≡ Some type)
