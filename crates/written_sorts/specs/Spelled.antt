-- How worked cases spell written types.
use Rattle.std.specs.Prelude.{ℕ, Bool, true, false, Option, Some, None, List, codes, bytes_eq}
use Prim.Native.String.{String}
use Rattle.typing_rules.specs.WrittenTypes.{Written, Fields, NoWrittenFields, AndWrittenField}
use Rattle.written_sorts.specs.Marks.{Marks}

-- no variable is of sort signal, or this one alone
abbrev pub none : Marks
none name = false

abbrev pub only : String → Marks
only one name = bytes_eq name (codes one)

-- `{ before | x : type }`
abbrev pub over : String → Written → Written
over before type = Fields (Some (codes before)) (AndWrittenField (codes "x") type NoWrittenFields)

-- `{ x : type }`
abbrev pub record_of : Written → Written
record_of type = Fields None (AndWrittenField (codes "x") type NoWrittenFields)
