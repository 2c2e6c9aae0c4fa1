-- Which reader reads the front of a text, by the class of its first byte.
use Rattle.std.proofs.Common.{◌≡◌, ℕ, ◌<◌, Bool, true, false, [], ◌∷◌, take, Ok, Err, refl, sym, ap, ◌∙◌, arith, eqb, ne_eqb}
use Rattle.std.specs.Prelude.{slice_index}
use Rattle.std.proofs.lemmas.Bool.{and_parts, eqb-true}
use Rattle.layout_lexer.specs.declared.byte_class.Class.{Class}
use Rattle.layout_lexer.specs.declared.byte_class.Class.TheVariants.{Operator, Symbol}
use Rattle.layout_lexer.specs.declared.piece.Piece.{Piece}
use Rattle.layout_lexer.specs.Chars.{Text, class_of}
use Rattle.layout_lexer.specs.Marks.{opens}
use Rattle.layout_lexer.specs.Cuts.{Part}
use Rattle.layout_lexer.specs.Tokens.{Stands, Faulty}
use Rattle.layout_lexer.specs.Pieces.{Read, piece, spelling, by_class}

other_byte : (b d : ℕ) → (class_of b ≡ class_of d → ⊥) → eqb b d ≡ false
other_byte b d f = ne_eqb b d (λ e. f (ap class_of e))

minus_class : class_of 45 ≡ Operator
unfolding class_of
minus_class = refl

brace_class : class_of 123 ≡ Symbol
unfolding class_of
brace_class = refl

pub no_line_comment : (text : Text) (c : Class) → class_of (slice_index text 0) ≡ c → (c ≡ Operator → ⊥) → opens 45 45 text ≡ false
no_line_comment text c e f = rw (other_byte (slice_index text 0) 45 (λ g. f (sym e ∙ g ∙ minus_class))) refl

pub no_comment : (text : Text) (c : Class) → class_of (slice_index text 0) ≡ c → (c ≡ Symbol → ⊥) → opens 123 45 text ≡ false
no_comment text c e f = rw (other_byte (slice_index text 0) 123 (λ g. f (sym e ∙ g ∙ brace_class))) refl

pub by_its_class : (joined : Bool) (text : Text) (c : Class) → class_of (slice_index text 0) ≡ c → opens 45 45 text ≡ false → opens 123 45 text ≡ false → piece joined text ≡ by_class c joined text
unfolding piece spelling
by_its_class joined text c e f g = rw (f, g, e) refl

-- of a class that begins no comment
pub by_plain_class : (joined : Bool) (text : Text) (c : Class) → class_of (slice_index text 0) ≡ c → (c ≡ Operator → ⊥) → (c ≡ Symbol → ⊥) → piece joined text ≡ by_class c joined text
by_plain_class joined text c e f g = by_its_class joined text c e (no_line_comment text c e f) (no_comment text c e g)

-- the part that a piece is
abbrev pub part_of : Piece → Text → Part
part_of q text = record { kind = q.kind; text = take q.len text }

-- what the plain function gives is right
abbrev pub Meets : Bool → Text → Read → Type 0
Meets joined text (Ok q) = Stands joined text (part_of q text)
Meets joined text (Err k) = Faulty text k

-- a text that begins with two bytes
pub opens_shape : (a b : ℕ) (text : Text) → 0 < a → 0 < b → opens a b text ≡ true → (rest : Text) × (text ≡ a ∷ b ∷ rest)
opens_shape a b [] h k e =
    let parts = and_parts (eqb 0 a) (eqb 0 b) e in
    let same = eqb-true 0 a parts.0 in
    absurd (omega arith)
opens_shape a b (c ∷ []) h k e =
    let parts = and_parts (eqb c a) (eqb 0 b) e in
    let same = eqb-true 0 b parts.1 in
    absurd (omega arith)
opens_shape a b (c ∷ d ∷ ds) h k e =
    let parts = and_parts (eqb c a) (eqb d b) e in
    (ds, (λ i. eqb-true c a parts.0 i ∷ eqb-true d b parts.1 i ∷ ds))
