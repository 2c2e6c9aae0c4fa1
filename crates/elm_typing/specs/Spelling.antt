-- How worked cases spell types.
use Rattle.std.specs.Prelude.{ℕ, Option, None, List, [], ◌∷◌, codes}
use Prim.Native.String.{String}
use Rattle.elm_typing.specs.Ground.{Ground, Grounds, Row, Named, Tuple, Record, NoGrounds, AndGround, Ends, Field}
use Rattle.elm_typing.specs.Names.{int_name, char_name, string_name}
use Rattle.elm_typing.specs.Sorts.{Sort, Simple, Signal}

abbrev pub int : Ground
int = Named int_name NoGrounds

abbrev pub char : Ground
char = Named char_name NoGrounds

abbrev pub string : Ground
string = Named string_name NoGrounds

abbrev pub bool : Ground
bool = Named (codes "Basics.Bool") NoGrounds

abbrev pub grounds : List Ground → Grounds
grounds [] = NoGrounds
grounds (t ∷ ts) = AndGround t (grounds ts)

abbrev pub maybe : Ground → Ground
maybe t = Named (codes "Maybe.Maybe") (grounds (t ∷ []))

abbrev pub result_of : Ground → Ground → Ground
result_of e t = Named (codes "Result.Result") (grounds (e ∷ t ∷ []))

abbrev pub tuple : List Ground → Ground
tuple ts = Tuple (grounds ts)

-- the fields as they stand, then no more or an opaque rest
abbrev pub row : List (String × Ground) → Option ℕ → Row
row [] rest = Ends rest
row (f ∷ fs) rest = Field (codes f.0) f.1 (row fs rest)

abbrev pub record_of : List (String × Ground) → Ground
record_of fs = Record (row fs None)

-- every opaque type without flag is simple, or signal
abbrev pub all_simple : ℕ → Sort
all_simple number = Simple

abbrev pub all_signal : ℕ → Sort
all_signal number = Signal
