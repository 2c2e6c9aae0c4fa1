-- The plain function gives what stands at the front of a text, or what is wrong with it, and nothing else does.
use Rattle.std.proofs.Common.{◌≡◌, ℕ, ◌<◌, Bool, true, false, cond, List, [], ◌∷◌, length, Ok, Err, refl, sym, ap, ◌∙◌, subst, inl, inr, arith, eqb, length-append}
use Rattle.std.specs.Prelude.{slice_index}
use Rattle.std.specs.Char.{is_ascii_lowercase, is_ascii_uppercase, is_ascii_digit}
use Rattle.std.proofs.lemmas.Bool.{eqb-true}
use Rattle.elm_base.specs.declared.fault.FaultKind.{FaultKind}
use Rattle.layout_lexer.specs.declared.byte_class.Class.{Class}
use Rattle.layout_lexer.specs.declared.byte_class.Class.TheVariants.{White, Lower, Upper, Digit, Quote, Apostrophe, Symbol, Operator, Other}
use Rattle.layout_lexer.specs.Chars.{whites, symbols, operators, Text, class_of, is_in, is_among}
use Rattle.layout_lexer.specs.Marks.{opens}
use Rattle.layout_lexer.specs.Spellings.{IsQualified, IsName, dotted}
use Rattle.layout_lexer.specs.Cuts.{Part}
use Rattle.layout_lexer.specs.Tokens.{Stands, white, line_comment, comment, word, lower, upper, int, text as text_rule, char, field, operator as operator_rule, symbol, Faulty, open_comment, long_name, long_field, long_operator, other_number, wide_number, three_quotes, open_text, bad_escape, bad_char, no_token}
use Rattle.layout_lexer.specs.Pieces.{piece, by_class, quoted_text, character}
use Rattle.layout_lexer.specs.Scan.{piece_of}
use Rattle.layout_lexer.proofs.Classes.{is_in_its, lower_is_letter, upper_is_letter}
use Rattle.layout_lexer.proofs.Longest.{front_within, run_first}
use Rattle.layout_lexer.proofs.Dispatch.{Meets, by_its_class, by_plain_class, no_line_comment, opens_shape}
use Rattle.layout_lexer.proofs.Names.{reads_name}
use Rattle.layout_lexer.proofs.NameReads.{name_meets, name_read, word_read, long_name_read}
use Rattle.layout_lexer.proofs.NumberReads.{number_meets, int_read, other_number_read, wide_number_read}
use Rattle.layout_lexer.proofs.OperatorReads.{operator_meets, field_read, long_field_read, run_read, long_run_read}
use Rattle.layout_lexer.proofs.TextReads.{text_meets, text_read, three_quotes_read, open_text_read, bad_escape_read}
use Rattle.layout_lexer.proofs.CharReads.{char_meets, char_read, bad_char_read}
use Rattle.layout_lexer.proofs.CommentReads.{comment_meets, comment_read, open_comment_read, line_meets, line_read}

-- ---- quotes

quote_byte : (b : ℕ) → class_of b ≡ Quote → b ≡ 34
unfolding class_of
quote_byte b e = go (is_ascii_lowercase b) (is_ascii_uppercase b) (is_ascii_digit b) (eqb b 34) refl (eqb b 39) (is_among whites b) (is_among symbols b) (is_among operators b) e
  where
    go : (l u d q : Bool) → eqb b 34 ≡ q → (a w s o : Bool)
        → cond l Lower (cond u Upper (cond d Digit (cond q Quote (cond a Apostrophe (cond w White (cond s Symbol (cond o Operator Other))))))) ≡ Quote → b ≡ 34
    go true u d q h a w s o f = cc
    go false true d q h a w s o f = cc
    go false false true q h a w s o f = cc
    go false false false true h a w s o f = eqb-true b 34 h
    go false false false false h true w s o f = cc
    go false false false false h false true s o f = cc
    go false false false false h false false true o f = cc
    go false false false false h false false false true f = cc
    go false false false false h false false false false f = cc

apostrophe_byte : (b : ℕ) → class_of b ≡ Apostrophe → b ≡ 39
unfolding class_of
apostrophe_byte b e = go (is_ascii_lowercase b) (is_ascii_uppercase b) (is_ascii_digit b) (eqb b 34) (eqb b 39) refl (is_among whites b) (is_among symbols b) (is_among operators b) e
  where
    go : (l u d q a : Bool) → eqb b 39 ≡ a → (w s o : Bool)
        → cond l Lower (cond u Upper (cond d Digit (cond q Quote (cond a Apostrophe (cond w White (cond s Symbol (cond o Operator Other))))))) ≡ Apostrophe → b ≡ 39
    go true u d q a h w s o f = cc
    go false true d q a h w s o f = cc
    go false false true q a h w s o f = cc
    go false false false true a h w s o f = cc
    go false false false false true h w s o f = eqb-true b 39 h
    go false false false false false h true s o f = cc
    go false false false false false h false true o f = cc
    go false false false false false h false false true f = cc
    go false false false false false h false false false f = cc

-- ---- what is read is right

class_meets : (joined : Bool) (b : ℕ) (bs : Text) → opens 45 45 (b ∷ bs) ≡ false → opens 123 45 (b ∷ bs) ≡ false → (c : Class) → class_of b ≡ c → Meets joined (b ∷ bs) (by_class c joined (b ∷ bs))
class_meets joined b bs plain closed White e = white b bs refl e refl
class_meets joined b bs plain closed Lower e = name_meets (b ∷ bs) (reads_name (b ∷ bs) (lower_is_letter b e)) joined
class_meets joined b bs plain closed Upper e = name_meets (b ∷ bs) (reads_name (b ∷ bs) (upper_is_letter b e)) joined
class_meets joined b bs plain closed Digit e = number_meets joined (b ∷ bs) (run_first (is_in Digit) (b ∷ bs) (omega arith) (is_in_its Digit b e))
class_meets joined b bs plain closed Quote e = subst (λ (x : ℕ). Meets joined (x ∷ bs) (quoted_text (x ∷ bs))) (sym (quote_byte b e)) (text_meets joined bs)
class_meets joined b bs plain closed Apostrophe e = subst (λ (x : ℕ). Meets joined (x ∷ bs) (character (x ∷ bs))) (sym (apostrophe_byte b e)) (char_meets joined bs)
class_meets joined b bs plain closed Symbol e = symbol b bs closed refl e refl
class_meets joined b bs plain closed Operator e = operator_meets joined (b ∷ bs) plain (run_first (is_in Operator) (b ∷ bs) (omega arith) (is_in_its Operator b e))
class_meets joined b bs plain closed Other e = no_token b bs refl e refl

pub meets : (joined : Bool) (text : Text) → 0 < length text → Meets joined text (piece joined text)
meets joined [] l = absurd (omega arith)
meets joined (b ∷ bs) l = go (opens 45 45 (b ∷ bs)) refl (opens 123 45 (b ∷ bs)) refl
  where
    go : (x : Bool) → opens 45 45 (b ∷ bs) ≡ x → (y : Bool) → opens 123 45 (b ∷ bs) ≡ y → Meets joined (b ∷ bs) (piece joined (b ∷ bs))
    go true e y f = line_meets joined (b ∷ bs) e
    go false e true f = comment_meets joined (b ∷ bs) f
    go false e false f = subst (Meets joined (b ∷ bs)) (sym (by_its_class joined (b ∷ bs) (class_of b) refl e f)) (class_meets joined b bs e f (class_of b) refl)

-- ---- what is right is read

pub stands_read : (joined : Bool) (text : Text) (p : Part) → Stands joined text p → piece joined text ≡ Ok (piece_of p)
stands_read joined text p (white b rest e c f) =
    ap (piece joined) e ∙ by_plain_class joined (b ∷ rest) White c (λ g. cc) (λ g. cc) ∙ ap (λ x. Ok (piece_of x)) (sym f)
stands_read joined text p (line_comment line rest e all ends f) = line_read joined text line rest e all ends ∙ ap (λ x. Ok (piece_of x)) (sym f)
stands_read joined text p (comment inside after e c f) = comment_read joined text inside after e c ∙ ap (λ x. Ok (piece_of x)) (sym f)
stands_read joined text p (word s l h e f) = word_read text s l joined h e ∙ ap (λ x. Ok (piece_of x)) (sym f)
stands_read joined text p (lower s l h e q f) = name_read text s l joined false h e q ∙ ap (λ x. Ok (piece_of x)) (sym f)
stands_read joined text p (upper s l h e q f) = name_read text s l joined true h e q ∙ ap (λ x. Ok (piece_of x)) (sym f)
stands_read joined text p (int s rest l e g h f) = int_read joined text s rest l e g h ∙ ap (λ x. Ok (piece_of x)) (sym f)
stands_read joined text p (text_rule s plain l f) = text_read joined text s plain l ∙ ap (λ x. Ok (piece_of x)) (sym f)
stands_read joined text p (char s l f) = char_read joined text s l ∙ ap (λ x. Ok (piece_of x)) (sym f)
stands_read joined text p (field s l is h f) = field_read joined text s l is h ∙ ap (λ x. Ok (piece_of x)) (sym f)
stands_read joined text p (operator_rule s plain l r h f) = run_read joined text s l r plain h ∙ ap (λ x. Ok (piece_of x)) (sym f)
stands_read joined text p (symbol b rest closed e c f) =
    let class : class_of (slice_index text 0) ≡ Symbol = ap (λ t. class_of (slice_index t 0)) e ∙ c in
    by_its_class joined text Symbol class (no_line_comment text Symbol class (λ g. cc)) closed ∙ ap (λ x. Ok (piece_of x)) (sym f)

pub faulty_read : (joined : Bool) (text : Text) (k : FaultKind) → Faulty text k → piece joined text ≡ Err k
faulty_read joined text k (open_comment e never f) = open_comment_read joined text e never ∙ ap (λ x. Err x) (sym f)
faulty_read joined text k (long_name s l h f) = long_name_read text s l joined h ∙ ap (λ x. Err x) (sym f)
faulty_read joined text k (long_field s l is h f) = long_field_read joined text s l is h ∙ ap (λ x. Err x) (sym f)
faulty_read joined text k (long_operator s plain l r h f) = long_run_read joined text s l r plain h ∙ ap (λ x. Err x) (sym f)
faulty_read joined text k (other_number s rest l e g f) = other_number_read joined text s rest l e g ∙ ap (λ x. Err x) (sym f)
faulty_read joined text k (wide_number s rest l e g h f) = wide_number_read joined text s rest l e g h ∙ ap (λ x. Err x) (sym f)
faulty_read joined text k (three_quotes rest e f) = three_quotes_read joined text rest e ∙ ap (λ x. Err x) (sym f)
faulty_read joined text k (open_text inside rest e q ends f) = open_text_read joined text inside rest e q ends ∙ ap (λ x. Err x) (sym f)
faulty_read joined text k (bad_escape inside rest b e q g n f) = bad_escape_read joined text inside rest b e q g n ∙ ap (λ x. Err x) (sym f)
faulty_read joined text k (bad_char rest e never f) = bad_char_read joined text rest e never ∙ ap (λ x. Err x) (sym f)
faulty_read joined text k (no_token b rest e c f) = ap (piece joined) e ∙ by_plain_class joined (b ∷ rest) Other c (λ g. cc) (λ g. cc) ∙ ap (λ x. Err x) (sym f)

-- ---- neither is empty

qualified_some : (c : Class) (s : Text) → IsQualified c s → 0 < length s
qualified_some c s q = go q.modules q.split
  where
    go : (us : List Text) → s ≡ dotted us q.last → 0 < length s
    go [] e = omega (arith, ap length e, ap length q.simple.split)
    go (u ∷ us) e = omega (arith, ap length e, length-append u (46 ∷ dotted us q.last))

name_some : (s : Text) → IsName s → 0 < length s
name_some s (inl q) = qualified_some Lower s q
name_some s (inr q) = qualified_some Upper s q

pub stands_some : (joined : Bool) (text : Text) (p : Part) → Stands joined text p → 0 < length p.text
stands_some joined text p (white b rest e c f) = omega (arith, ap (λ x. length x.text) f)
stands_some joined text p (line_comment line rest e all ends f) = omega (arith, ap (λ x. length x.text) f)
stands_some joined text p (comment inside after e c f) = omega (arith, ap (λ x. length x.text) f)
stands_some joined text p (word s l h e f) = omega (arith, ap (λ x. length x.text) f, name_some s l.spells)
stands_some joined text p (lower s l h e q f) = omega (arith, ap (λ x. length x.text) f, name_some s l.spells)
stands_some joined text p (upper s l h e q f) = omega (arith, ap (λ x. length x.text) f, name_some s l.spells)
stands_some joined text p (int s rest l e g h f) = omega (arith, ap (λ x. length x.text) f, l.spells.0)
stands_some joined text p (text_rule s plain l f) = omega (arith, ap (λ x. length x.text) f, ap length l.spells.split)
stands_some joined text p (char s l f) = omega (arith, ap (λ x. length x.text) f, ap length l.spells.split)
stands_some joined text p (field s l is h f) = omega (arith, ap (λ x. length x.text) f, ap length is.split)
stands_some joined text p (operator_rule s plain l r h f) = omega (arith, ap (λ x. length x.text) f, r.0)
stands_some joined text p (symbol b rest closed e c f) = omega (arith, ap (λ x. length x.text) f)

pub faulty_some : (text : Text) (k : FaultKind) → Faulty text k → 0 < length text
faulty_some text k (open_comment e never f) = let s = opens_shape 123 45 text (omega arith) (omega arith) e in omega (arith, ap length s.1)
faulty_some text k (long_name s l h f) = omega (arith, front_within s text l.front, name_some s l.spells)
faulty_some text k (long_field s l is h f) = omega (arith, front_within s text l.front, ap length is.split)
faulty_some text k (long_operator s plain l r h f) = omega (arith, front_within s text l.front, r.0)
faulty_some text k (other_number s rest l e g f) = omega (arith, front_within s text l.front, l.spells.0)
faulty_some text k (wide_number s rest l e g h f) = omega (arith, front_within s text l.front, l.spells.0)
faulty_some text k (three_quotes rest e f) = omega (arith, ap length e)
faulty_some text k (open_text inside rest e q ends f) = omega (arith, ap length e)
faulty_some text k (bad_escape inside rest b e q g n f) = omega (arith, ap length e)
faulty_some text k (bad_char rest e never f) = omega (arith, ap length e)
faulty_some text k (no_token b rest e c f) = omega (arith, ap length e)
