-- The types of the library that the rules of types speak of, by their names with their modules.
use Rattle.std.specs.Prelude.{ℕ, List, codes}
use Rattle.elm_typing.specs.Ground.{Ground, Named, NoGrounds, AndGround}

abbrev pub int_name : List ℕ
int_name = codes "Basics.Int"

abbrev pub char_name : List ℕ
char_name = codes "Basics.Char"

abbrev pub string_name : List ℕ
string_name = codes "Basics.String"

abbrev pub list_name : List ℕ
list_name = codes "Basics.List"

abbrev pub signal_name : List ℕ
signal_name = codes "Signal.Signal"

abbrev pub list_of : Ground → Ground
list_of element = Named list_name (AndGround element NoGrounds)

abbrev pub signal_of : Ground → Ground
signal_of value = Named signal_name (AndGround value NoGrounds)
