-- The type of a text, as a function that takes more texts than those of types.
use Rattle.std.specs.Prelude.{◌≡◌, ◌≢◌, ℕ, zero, suc, Bool, true, false, ◌&&◌, nat_le, ◌==◌, if◌then◌else◌, List, [], ◌∷◌, ◌++◌, length, take, drop, codes, Option, Some, None, option_and_then, Result, Ok, Err}
use Rattle.std.specs.Str.{bytes_eq}
use Rattle.elm_base.specs.declared.memory.Halt.{Halt}
use Rattle.elm_base.specs.declared.memory.Halt.TheVariants as halt
use Rattle.elm_base.specs.declared.event.PortType.{PortType}
use Rattle.elm_base.specs.declared.event.PortType.TheVariants as port
use Rattle.frame_text.specs.TypeText.{type_text}
use Rattle.port_texts.specs.Given.{is_given, max_levels, max_text}
use Rattle.port_texts.specs.declared.head.Head.{Head}
use Rattle.port_texts.specs.declared.head.Head.TheVariants as head_
use Rattle.port_texts.specs.declared.read.BadPortText.{BadPortText}

abbrev pub Text : Type 0
Text = List ℕ

-- what was found, and the text that is left
abbrev pub Outcome : Type 0 → Type 0
Outcome A = Option (A × Text)

abbrev pub Reader : Type 0 → Type 0
Reader A = Text → Outcome A

abbrev pub and_then : {A B : Type 0} → Outcome A → (A → Reader B) → Outcome B
and_then (Some found) next = next found.0 found.1
and_then None next = None

abbrev pub under : {A B : Type 0} → (A → B) → Outcome A → Outcome B
under f outcome = and_then outcome (λ found left. Some (f found, left))

-- ---- bytes

-- what follows these bytes, where the text begins with them
abbrev pub behind : Text → Text → Option Text
behind start text = if bytes_eq (take (length start) text) start then Some (drop (length start) text) else None

abbrev pub marked : Option Text → Outcome (Unit {0})
marked (Some rest) = Some (tt, rest)
marked None = None

abbrev pub mark : Text → Reader (Unit {0})
mark start text = marked (behind start text)

-- how many bytes stand before the first space
abbrev pub word_len : Text → ℕ
word_len [] = 0
word_len (byte ∷ rest) = if byte == 32 then 0 else suc (word_len rest)

abbrev pub word : Reader Text
word text = Some (take (word_len text) text, drop (word_len text) text)

-- ---- heads

abbrev pub heads : List (Text × Head)
heads =
    (codes "()", head_.Unit) ∷ (codes "Int", head_.Int) ∷ (codes "Bool", head_.Bool) ∷ (codes "String", head_.Text)
    ∷ (codes "Maybe ", head_.Maybe) ∷ (codes "List ", head_.List) ∷ (codes "(", head_.Parts)
    ∷ (codes "{}", head_.NoFields) ∷ (codes "{ ", head_.Fields) ∷ []

abbrev pub begun : Option Text → Head → Outcome Head → Outcome Head
begun (Some rest) found other = Some (found, rest)
begun None found other = other

abbrev pub head_among : List (Text × Head) → Reader Head
head_among [] text = None
head_among (known ∷ others) text = begun (behind known.0 text) known.1 (head_among others text)

abbrev pub head : Reader Head
head text = head_among heads text

-- ---- several

-- an item more, where the text went on with these bytes
abbrev pub one_more : {A : Type 0} → Reader A → Reader (List A) → Option Text → Reader (List A)
one_more item others (Some rest) text = and_then (item rest) (λ first left. under (λ found. first ∷ found) (others left))
one_more item others None text = Some ([], text)

-- further items, each behind these bytes. The number bounds the turns.
abbrev pub more : {A : Type 0} → Text → Reader A → ℕ → Reader (List A)
more start item zero text = Some ([], text)
more start item (suc turns) text = one_more item (more start item turns) (behind start text) text

-- items with these bytes between them, one or more
abbrev pub some_of : {A : Type 0} → Text → Reader A → Reader (List A)
some_of start item text =
    and_then (item text) (λ first left. under (λ found. first ∷ found) (more start item (length left) left))

-- and then these bytes
abbrev pub closed : {A : Type 0} → Text → Outcome A → Outcome A
closed end outcome = and_then outcome (λ found left. and_then (mark end left) (λ _ rest. Some (found, rest)))

-- ---- types

abbrev pub parts : Reader PortType → Reader (List PortType)
parts item text = closed (codes ")") (some_of (codes ",") item text)

abbrev pub field : Reader PortType → Reader (Text × PortType)
field item text =
    and_then (word text) (λ label rest. and_then (mark (codes " : ") rest) (λ _ more. under (λ type. (label, type)) (item more)))

abbrev pub fields : Reader PortType → Reader (List (Text × PortType))
fields item text = closed (codes " }") (some_of (codes ", ") (field item) text)

-- the one type in brackets, or a tuple
abbrev pub enclosed : List PortType → PortType
enclosed (part ∷ []) = part
enclosed parts = port.Tuple parts

abbrev pub behind_head : Reader PortType → Head → Reader PortType
behind_head item head_.Unit rest = Some (port.Unit, rest)
behind_head item head_.Int rest = Some (port.Int, rest)
behind_head item head_.Bool rest = Some (port.Bool, rest)
behind_head item head_.Text rest = Some (port.Text, rest)
behind_head item head_.Maybe rest = under port.Maybe (item rest)
behind_head item head_.List rest = under port.List (item rest)
behind_head item head_.Parts rest = under enclosed (parts item rest)
behind_head item head_.NoFields rest = Some (port.Fields [], rest)
behind_head item head_.Fields rest = under port.Fields (fields item rest)

abbrev pub headed : Reader PortType → Reader PortType
headed item text = and_then (head text) (behind_head item)

-- at most so many readings in one another
abbrev pub type_at : ℕ → Reader PortType
type_at zero text = None
type_at (suc depth) text = headed (type_at depth) text

-- ---- the whole text

abbrev pub has_text : PortType → Text → Bool
has_text type text = bytes_eq (type_text type) text

abbrev pub is_short : Text → Bool
is_short text = nat_le (length text) max_text

abbrev pub is_spelled : PortType → Text → Bool
is_spelled type text = has_text type text && is_given type max_levels && is_short text

abbrev pub where_so : Bool → PortType → Option PortType
where_so true type = Some type
where_so false type = None

abbrev pub spelled : Text → PortType → Option PortType
spelled text type = where_so (is_spelled type text) type

-- what a type and the brackets round it open
abbrev pub max_depth : ℕ
max_depth = 66

abbrev pub read : Text → Option PortType
read text = option_and_then (λ found. spelled text found.0) (type_at max_depth text)

-- ---- for private contracts

abbrev pub ReadsWhole : Option PortType → Result PortType (Halt BadPortText) → Type 0
ReadsWhole outcome (Ok type) = outcome ≡ Some type
ReadsWhole outcome (Err cause) = cause ≢ halt.NoMemory → outcome ≡ None

abbrev pub ReadsAs : {A B : Type 0} → (B → A) → Outcome A → Result B (Halt BadPortText) → Text → Type 0
ReadsAs view outcome (Ok found) left = outcome ≡ Some (view found, left)
ReadsAs view outcome (Err cause) left = cause ≢ halt.NoMemory → outcome ≡ None

abbrev pub Reads : {A : Type 0} → Outcome A → Result A (Halt BadPortText) → Text → Type 0
Reads outcome result left = ReadsAs (λ found. found) outcome result left

-- those found so far before those that are found yet
abbrev pub behind_found : {A : Type 0} → List A → Outcome (List A) → Outcome (List A)
behind_found found outcome = under (λ others. found ++ others) outcome
