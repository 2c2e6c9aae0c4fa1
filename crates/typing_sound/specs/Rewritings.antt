-- What is rewritten: which types it has, and functions that stand for other forms.
use Rattle.std.specs.Prelude.{◌≡◌, ℕ, None, List, [], ◌∷◌, ◌++◌}
use Rattle.elm_base.specs.declared.token.At.{At}
use Rattle.typing_rules.specs.WrittenTypes.{Written, WrittenFields, Arrow, Fields, NoWrittenFields, AndWrittenField}
use Rattle.elm_typing.specs.Ground.{Ground, Function}
use Rattle.elm_typing.specs.Spelling.{int, bool}
use Rattle.typing_rules.specs.Unions.{Union}
use Rattle.typing_rules.specs.Worlds.{Types, Bound}
use Rattle.typing_rules.specs.Rules.{Inside}
use Rattle.typing_rules.specs.CoreTypes.{CoreHas}
use Rattle.typing_rules.specs.CorePatterns.{CorePattern, Fits}
use Rattle.typing_rules.specs.Core.{Core, Local, Lambda, Field, Tuple}
use Rattle.plain_form.specs.Naming.{Naming, Maker}
use Rattle.plain_form.specs.PlainForm.{lambdas, binders, parameters, Defined, groups_before}
use Rattle.typing_sound.specs.Settings.{Setting, Scope, world_of, types_in}

-- two sets of types are the same
abbrev pub SameTypes : Types → Types → Type 0
SameTypes P Q = (type : Ground) → (P type → Q type) × (Q type → P type)

-- the types of a tree with these names in scope
abbrev pub types_of : Setting → Scope → Core → Types
types_of p scope e = CoreHas (world_of p) (types_in (world_of p) scope) e

-- Bool, where both have Bool
abbrev pub OfTwoBools : Types → Types → Types
OfTwoBools P Q type = (type ≡ bool) × P bool × Q bool

-- Int, where it has Int
abbrev pub OfOneInt : Types → Types
OfOneInt P type = (type ≡ int) × P int

-- what a function gives for two arguments, one after the other
abbrev pub CalledWithTwo : Types → Types → Types → Types
CalledWithTwo F P Q type = (a b : Ground) × F (Function a (Function b type)) × P a × Q b

-- each pattern fits the type, and their names have these
abbrev pub EachFits : List Union → List CorePattern → Ground → Bound → Type 0
EachFits unions [] type bound = bound ≡ []
EachFits unions (p ∷ ps) type bound =
    (first more : Bound) × Fits unions p type first × EachFits unions ps type more × (bound ≡ first ++ more)

-- the groups of a `let` after these, and then the body
abbrev pub Rest : Setting → Naming → List (List At) → List Defined → Core → Inside
Rest p n groups all body s = CoreHas (world_of p) s (groups_before n groups all body)

-- \r -> r.label
abbrev pub field_function : List ℕ → Core
field_function label = Lambda (CorePattern.Local 0) (Field (Local 0) label)

-- \a b -> (a, b), of so many parts, as the plain form of a tuple maker at this place is
abbrev pub tuple_maker : Naming → At → ℕ → Core
tuple_maker n at count = lambdas (binders n at 0 count) (Tuple (parameters n at 0 count))

-- the binders that a form at this place has of its own have different numbers
abbrev pub OwnNumbersDiffer : Naming → At → Type 0
OwnNumbersDiffer n at = (i j : ℕ) → n.own at i ≡ n.own at j → i ≡ j

-- a function of the types of these fields, one after the other
abbrev pub takes_fields : WrittenFields → Written → Written
takes_fields NoWrittenFields result = result
takes_fields (AndWrittenField label type others) result = Arrow type (takes_fields others result)

abbrev pub labels_in : WrittenFields → List (List ℕ)
labels_in NoWrittenFields = []
labels_in (AndWrittenField label type others) = label ∷ labels_in others

-- the maker of an alias of a record with these fields: it takes their values in written order and gives the record
pub record MakesRecord (m : Maker) (fields : WrittenFields) : Type 0 where
  pub labels : m.labels ≡ labels_in fields
  pub written : m.written ≡ Fields None fields
