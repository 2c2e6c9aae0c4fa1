-- The form of a session, as JSON.
use Rattle.std.specs.Prelude.{ℕ, List, codes}
use Rattle.serde_json.specs.Data.{Data, number, unsigned, string, array, object, item, no_items, member, no_members}
use Rattle.serde_json.specs.View.{items_of}

-- `[K]`: a delivery
abbrev pub delivery : ℕ → Data
delivery k = array (item (number (unsigned k)) no_items)

-- `[I, TEXT]`: an input event
abbrev pub input : ℕ → List ℕ → Data
input i text = array (item (number (unsigned i)) (item (string text) no_items))

-- `[NAME, TYPE]`: an input
abbrev pub named : List ℕ → List ℕ → Data
named name type = array (item (string name) (item (string type) no_items))

-- The object with exactly these keys, which stand in the order of their bytes.
abbrev pub sheet : ℕ → List Data → List Data → Data
sheet cursor events inputs =
    object (member (codes "cursor") (number (unsigned cursor))
    (member (codes "events") (array (items_of events))
    (member (codes "format") (string (codes "reactor-session"))
    (member (codes "inputs") (array (items_of inputs))
    (member (codes "version") (number (unsigned 1)) no_members)))))
