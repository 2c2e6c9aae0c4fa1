-- Types as a program writes them: with variables, and with each alias expanded. Which ground types are instances of one.
use Rattle.std.specs.Prelude.{◌≡◌, ℕ, Bool, true, false, ◌&&◌, ◌==◌, if◌then◌else◌, Option, Some, None, List, [], ◌∷◌, codes}
use Rattle.elm_typing.specs.declared.flag.Flag.{Flag}
use Rattle.elm_typing.specs.declared.flag.Flag.TheVariants.{Plain, Comparable, Appendable, Both}
use Rattle.elm_typing.specs.Flags.{HasFlag}
use Rattle.elm_typing.specs.Ground.{Ground, Grounds, Row, NoGrounds, AndGround, Ends}
use Rattle.elm_typing.specs.Rows.{extended}
use Rattle.elm_typing.specs.Spelling.{int}

mutual
  pub data Written : Type 0 where
    Variable : (name : List ℕ) → Written
    -- a base type, a union, or Signal, by its name with its module
    Named : (name : List ℕ) (arguments : Writtens) → Written
    Arrow : (argument result : Written) → Written
    Tuple : (parts : Writtens) → Written
    -- before a bar may stand a variable
    Fields : (before : Option (List ℕ)) (fields : WrittenFields) → Written

  pub data Writtens : Type 0 where
    NoWrittens : Writtens
    AndWritten : (first : Written) (others : Writtens) → Writtens

  pub data WrittenFields : Type 0 where
    NoWrittenFields : WrittenFields
    AndWrittenField : (label : List ℕ) (type : Written) (others : WrittenFields) → WrittenFields

-- the name begins with these letters
abbrev pub begins : List ℕ → List ℕ → Bool
begins [] name = true
begins (c ∷ cs) [] = false
begins (c ∷ cs) (d ∷ ds) = (c == d) && begins cs ds

-- what the first letters of a variable's name restrict it to
abbrev pub flag_of : List ℕ → Flag
flag_of name =
    if begins (codes "compappend") name then Both
    else (if begins (codes "comparable") name then Comparable
    else (if begins (codes "appendable") name then Appendable else Plain))

abbrev pub IsIntWhere : Bool → Ground → Type 0
IsIntWhere true type = type ≡ int
IsIntWhere false type = Unit {0}

-- The type may stand for a variable of this name. A name that begins with `number` stands for Int.
abbrev pub Allows : List ℕ → Ground → Type 0
Allows name type = IsIntWhere (begins (codes "number") name) type × HasFlag (flag_of name) type

-- which type each variable stands for
abbrev pub Choice : Type 0
Choice = List ℕ → Ground

abbrev pub IsRecord : Ground → Type 0
IsRecord (Ground.Record row) = Unit {0}
IsRecord _ = ⊥

abbrev pub row_of : Ground → Row
row_of (Ground.Record row) = row
row_of _ = Ends None

abbrev pub rest_at : Choice → Option (List ℕ) → Row
rest_at choice None = Ends None
rest_at choice (Some name) = row_of (choice name)

abbrev mutual
  pub instance_at : Choice → Written → Ground
  instance_at choice (Variable name) = choice name
  instance_at choice (Named name arguments) = Ground.Named name (instances_at choice arguments)
  instance_at choice (Arrow argument result) = Ground.Function (instance_at choice argument) (instance_at choice result)
  instance_at choice (Tuple parts) = Ground.Tuple (instances_at choice parts)
  instance_at choice (Fields before fields) = Ground.Record (fields_at choice fields (rest_at choice before))

  pub instances_at : Choice → Writtens → Grounds
  instances_at choice NoWrittens = NoGrounds
  instances_at choice (AndWritten first others) = AndGround (instance_at choice first) (instances_at choice others)

  -- fields over a row, of which the first of a label is the newest
  pub fields_at : Choice → WrittenFields → Row → Row
  fields_at choice NoWrittenFields row = row
  fields_at choice (AndWrittenField label type others) row =
      extended label (instance_at choice type) (fields_at choice others row)

abbrev pub IsRecordWhere : Choice → Option (List ℕ) → Type 0
IsRecordWhere choice None = Unit {0}
IsRecordWhere choice (Some name) = IsRecord (choice name)

-- each variable stands for a type that its name allows, and one before a bar for a record
abbrev mutual
  pub Respects : Choice → Written → Type 0
  Respects choice (Variable name) = Allows name (choice name)
  Respects choice (Named name arguments) = AllRespect choice arguments
  Respects choice (Arrow argument result) = Respects choice argument × Respects choice result
  Respects choice (Tuple parts) = AllRespect choice parts
  Respects choice (Fields before fields) = IsRecordWhere choice before × FieldsRespect choice fields

  pub AllRespect : Choice → Writtens → Type 0
  AllRespect choice NoWrittens = Unit {0}
  AllRespect choice (AndWritten first others) = Respects choice first × AllRespect choice others

  pub FieldsRespect : Choice → WrittenFields → Type 0
  FieldsRespect choice NoWrittenFields = Unit {0}
  FieldsRespect choice (AndWrittenField label type others) = Respects choice type × FieldsRespect choice others

abbrev pub IsInstance : Written → Ground → Type 0
IsInstance written type = (choice : Choice) × Respects choice written × (type ≡ instance_at choice written)
