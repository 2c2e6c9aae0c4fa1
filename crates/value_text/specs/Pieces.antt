-- A text in pieces: what is written at once of a piece, and which pieces follow.
use Rattle.std.specs.Prelude.{ℕ, suc, ◌<◌, Bool, true, false, if◌then◌else◌, Option, Some, None, List, [], ◌∷◌, ◌++◌, drop, slice_get, codes, encode_utf8}
use Rattle.std.specs.Str.{bytes_eq}
use Rattle.std.specs.Fmt.{signed_decimal}
use Rattle.elm_base.specs.Quoted.{quoted}
use Rattle.elm_meaning.specs.ValueText.{text_of, more_elements, more_parts, arguments_text, more_fields}
use Rattle.value_arena.specs.declared.node.Node.{Node}
use Rattle.value_arena.specs.declared.node.Node.TheVariants.{Int as IntNode, Char as CharNode, Text as TextNode, Unit as UnitNode, Nil as NilNode, Cons as ConsNode, Tuple as TupleNode, Made as MadeNode, Fields as FieldsNode, Closure as ClosureNode, Partial as PartialNode, Cells as CellsNode, Signal as SignalNode}
use Rattle.value_arena.specs.Unfolding.{Lambdas, values_of, unfolded, values_at, fields_at}
use Rattle.value_text.specs.declared.piece.Piece.{Piece}
use Rattle.value_text.specs.declared.piece.Piece.TheVariants.{Whole, Rest, Parts, Arguments, Fields, Closing}

-- the parts of a tuple, or the arguments of a constructor
abbrev pub refs_of : Option Node → List ℕ
refs_of (Some (TupleNode parts)) = parts
refs_of (Some (MadeNode constructor arguments)) = arguments
refs_of _ = []

abbrev pub fields_of : Option Node → List (List ℕ × ℕ)
fields_of (Some (FieldsNode fields)) = fields
fields_of _ = []

abbrev pub label_of : Option (List ℕ × ℕ) → List ℕ
label_of None = []
label_of (Some f) = f.0

-- ---- the text of a piece

abbrev pub piece_text : Lambdas → List Node → Piece → List ℕ
piece_text lambdas nodes (Whole at) = text_of (unfolded lambdas nodes at)
piece_text lambdas nodes (Rest at) = more_elements (unfolded lambdas nodes at)
piece_text lambdas nodes (Parts at from) =
    more_parts (values_at (values_of lambdas nodes) (drop from (refs_of (slice_get nodes at)))) ++ codes ")"
piece_text lambdas nodes (Arguments at from) =
    arguments_text (values_at (values_of lambdas nodes) (drop from (refs_of (slice_get nodes at))))
piece_text lambdas nodes (Fields at last) =
    more_fields (label_of (slice_get (fields_of (slice_get nodes at)) last))
    (fields_at (values_of lambdas nodes) (drop (suc last) (fields_of (slice_get nodes at))))
piece_text lambdas nodes Closing = codes ")"

-- the pieces that wait, of which the last is written first
abbrev pub waiting : Lambdas → List Node → List Piece → List ℕ
waiting lambdas nodes [] = []
waiting lambdas nodes (p ∷ ps) = waiting lambdas nodes ps ++ piece_text lambdas nodes p

-- ---- what is written at once

abbrev pub opening_fields : List (List ℕ × ℕ) → List ℕ
opening_fields [] = codes "{}"
opening_fields (f ∷ fs) = codes "{ " ++ f.0 ++ codes " = "

abbrev pub opening : Node → List ℕ
opening (IntNode n) = signed_decimal n
opening (CharNode code) = quoted 39 (encode_utf8 code)
opening (TextNode bytes) = quoted 34 bytes
opening UnitNode = codes "()"
opening NilNode = codes "[]"
opening (ConsNode head tail) = codes "["
opening (TupleNode parts) = codes "("
opening (MadeNode constructor arguments) = constructor
opening (FieldsNode fields) = opening_fields fields
opening (ClosureNode lambda captured) = codes "<function>"
opening (PartialNode callee arguments) = codes "<function>"
opening (CellsNode width height rows) = codes "<element>"
opening (SignalNode number) = codes "<signal>"

-- a part behind a comma, or the bracket behind the last one
abbrev pub comma_or : List ℕ → Option ℕ → List ℕ
comma_or bracket (Some r) = codes ","
comma_or bracket None = bracket

abbrev pub opening_of : Option Node → List ℕ
opening_of None = []
opening_of (Some node) = opening node

abbrev pub element_opening : Option Node → List ℕ
element_opening (Some (ConsNode head tail)) = codes ","
element_opening _ = codes "]"

-- a constructor with arguments stands in brackets
abbrev pub has_arguments : Option Node → Bool
has_arguments (Some (MadeNode constructor (r ∷ rs))) = true
has_arguments _ = false

abbrev pub argument_opening : List Node → Option ℕ → List ℕ
argument_opening nodes None = []
argument_opening nodes (Some r) = if has_arguments (slice_get nodes r) then codes " (" else codes " "

abbrev pub shown_field : Bool → List ℕ → List ℕ
shown_field true label = []
shown_field false label = codes ", " ++ label ++ codes " = "

-- the field behind another one, which is hidden where both have one label
abbrev pub field_opening : Option (List ℕ × ℕ) → Option (List ℕ × ℕ) → List ℕ
field_opening (Some f) (Some g) = shown_field (bytes_eq f.0 g.0) g.0
field_opening _ _ = codes " }"

-- where one of two fields is missing nothing but the end follows
abbrev pub AreNone : Option (List ℕ × ℕ) → Option (List ℕ × ℕ) → Type 0
AreNone (Some f) (Some g) = ⊥
AreNone _ _ = Unit {0}

abbrev pub written : List Node → Piece → List ℕ
written nodes (Whole at) = opening_of (slice_get nodes at)
written nodes (Rest at) = element_opening (slice_get nodes at)
written nodes (Parts at from) = comma_or (codes ")") (slice_get (refs_of (slice_get nodes at)) from)
written nodes (Arguments at from) = argument_opening nodes (slice_get (refs_of (slice_get nodes at)) from)
written nodes (Fields at last) =
    field_opening (slice_get (fields_of (slice_get nodes at)) last) (slice_get (fields_of (slice_get nodes at)) (suc last))
written nodes Closing = codes ")"

-- ---- the pieces that follow, the last first

abbrev pub first_part : ℕ → List ℕ → List Piece
first_part at [] = Parts at 0 ∷ []
first_part at (r ∷ rs) = Parts at 1 ∷ Whole r ∷ []

abbrev pub first_field : ℕ → List (List ℕ × ℕ) → List Piece
first_field at [] = []
first_field at (f ∷ fs) = Fields at 0 ∷ Whole f.1 ∷ []

abbrev pub inner : ℕ → Option Node → List Piece
inner at (Some (ConsNode head tail)) = Rest tail ∷ Whole head ∷ []
inner at (Some (TupleNode parts)) = first_part at parts
inner at (Some (MadeNode constructor arguments)) = Arguments at 0 ∷ []
inner at (Some (FieldsNode fields)) = first_field at fields
inner at _ = []

abbrev pub more_of_list : Option Node → List Piece
more_of_list (Some (ConsNode head tail)) = Rest tail ∷ Whole head ∷ []
more_of_list _ = []

abbrev pub then_part : ℕ → ℕ → Option ℕ → List Piece
then_part at from None = []
then_part at from (Some r) = Parts at (suc from) ∷ Whole r ∷ []

abbrev pub bracketed : Bool → ℕ → List Piece
bracketed true r = Closing ∷ Whole r ∷ []
bracketed false r = Whole r ∷ []

abbrev pub then_argument : List Node → ℕ → ℕ → Option ℕ → List Piece
then_argument nodes at from None = []
then_argument nodes at from (Some r) = Arguments at (suc from) ∷ bracketed (has_arguments (slice_get nodes r)) r

abbrev pub shown_value : Bool → ℕ → List Piece
shown_value true r = []
shown_value false r = Whole r ∷ []

abbrev pub then_field : ℕ → ℕ → Option (List ℕ × ℕ) → Option (List ℕ × ℕ) → List Piece
then_field at last (Some f) (Some g) = Fields at (suc last) ∷ shown_value (bytes_eq f.0 g.0) g.1
then_field at last _ _ = []

abbrev pub next : List Node → Piece → List Piece
next nodes (Whole at) = inner at (slice_get nodes at)
next nodes (Rest at) = more_of_list (slice_get nodes at)
next nodes (Parts at from) = then_part at from (slice_get (refs_of (slice_get nodes at)) from)
next nodes (Arguments at from) = then_argument nodes at from (slice_get (refs_of (slice_get nodes at)) from)
next nodes (Fields at last) =
    then_field at last (slice_get (fields_of (slice_get nodes at)) last) (slice_get (fields_of (slice_get nodes at)) (suc last))
next nodes Closing = []

-- ---- where pieces stand

abbrev pub PieceBelow : ℕ → Piece → Type 0
PieceBelow n (Whole at) = at < n
PieceBelow n (Rest at) = at < n
PieceBelow n (Parts at from) = at < n
PieceBelow n (Arguments at from) = at < n
PieceBelow n (Fields at last) = at < n
PieceBelow n Closing = Unit {0}

abbrev pub PiecesBelow : ℕ → List Piece → Type 0
PiecesBelow n [] = Unit {0}
PiecesBelow n (p ∷ ps) = PieceBelow n p × PiecesBelow n ps
