-- Ground types: types without variables.
use Rattle.std.specs.Prelude.{ℕ, List, Option}
use Rattle.elm_typing.specs.declared.flag.Flag.{Flag}

mutual
  pub data Ground : Type 0 where
    -- a base type, a union, or Signal, by its name with its module, as "Basics.Int"
    Named : (name : List ℕ) (arguments : Grounds) → Ground
    Function : (argument result : Ground) → Ground
    -- () has no parts
    Tuple : (parts : Grounds) → Ground
    Record : (row : Row) → Ground
    -- an opaque type, which has no structure
    Opaque : (number : ℕ) (flag : Flag) → Ground

  pub data Grounds : Type 0 where
    NoGrounds : Grounds
    AndGround : (first : Ground) (others : Grounds) → Grounds

  -- the fields in the order of their labels, of one label the newest first, and then no more or an opaque rest
  pub data Row : Type 0 where
    Ends : (rest : Option ℕ) → Row
    Field : (label : List ℕ) (first : Ground) (others : Row) → Row
