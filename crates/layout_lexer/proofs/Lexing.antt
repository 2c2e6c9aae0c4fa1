-- What has been read of a text so far.
use Rattle.std.proofs.Common.{◌≡◌, ◌<◌, Bool, false, List, [], ◌∷◌, ◌++◌, length, map, Option, Some, None, Ok, Err, refl, sym, ap, ◌∙◌, subst, append_assoc, append-nil}
use Rattle.std.specs.Str.{IsUtf8}
use Rattle.elm_base.specs.declared.token.At.{At}
use Rattle.elm_base.specs.declared.token.Token.{Token}
use Rattle.elm_base.specs.declared.token.TokenKind.{TokenKind}
use Rattle.std.proofs.lemmas.List.{map-append}
use Rattle.elm_base.specs.declared.fault.FaultKind.{FaultKind}
use Rattle.elm_base.specs.Lexemes.{Lexeme, lexeme}
use Rattle.layout_lexer.specs.declared.piece.Piece.{Piece}
use Rattle.layout_lexer.specs.Chars.{Text}
use Rattle.layout_lexer.specs.Places.{place_after, steps}
use Rattle.layout_lexer.specs.Cuts.{Part, Cut, texts, joins, joined_after, lexemes, listed, HasNoTab, HasBadToken}
use Rattle.layout_lexer.specs.Pieces.{piece}
use Rattle.layout_lexer.specs.Scan.{Reads, Refuses, Scans}
use Rattle.layout_lexer.proofs.Places.{steps_more}

-- ---- a part more

module _ (S : Bool → Text → Part → Type 0) where
  pub cut_more : (joined : Bool) (text : Text) (parts : List Part) (left rest : Text) (p : Part)
      → Cut S joined text parts left → left ≡ p.text ++ rest → S (joined_after joined parts) left p → Cut S joined text (parts ++ p ∷ []) rest
  cut_more joined text [] left rest p cut e s = (rest, cut ∙ e, subst (λ (t : Text). S joined t p) (sym cut) s, refl)
  cut_more joined text (q ∷ qs) left rest p cut e s = (cut.0, cut.1, cut.2, cut_more (joins q.kind q.text) cut.0 qs left rest p cut.3 e s)

  -- the parts, and then what is left, are the text
  pub cut_whole : (joined : Bool) (text : Text) (parts : List Part) (left : Text) → Cut S joined text parts left → text ≡ texts parts ++ left
  cut_whole joined text [] left cut = cut
  cut_whole joined text (q ∷ qs) left cut =
      cut.1 ∙ ap (λ t. q.text ++ t) (cut_whole (joins q.kind q.text) cut.0 qs left cut.3) ∙ sym (append_assoc q.text (texts qs) left)

pub texts_more : (parts : List Part) (p : Part) → texts (parts ++ p ∷ []) ≡ texts parts ++ p.text
texts_more [] p = append-nil p.text
texts_more (q ∷ qs) p = ap (λ t. q.text ++ t) (texts_more qs p) ∙ sym (append_assoc q.text (texts qs) p.text)

pub joined_more : (joined : Bool) (parts : List Part) (p : Part) → joined_after joined (parts ++ p ∷ []) ≡ joins p.kind p.text
joined_more joined [] p = refl
joined_more joined (q ∷ qs) p = joined_more (joins q.kind q.text) qs p

listed_front : (k : Option TokenKind) (s : Text) (at : At) (xs ys : List Lexeme) → listed k s at (xs ++ ys) ≡ listed k s at xs ++ ys
listed_front None s at xs ys = refl
listed_front (Some k) s at xs ys = refl

pub lexemes_more : (before : Text) (parts : List Part) (p : Part) → lexemes before (parts ++ p ∷ []) ≡ lexemes before parts ++ listed p.kind p.text (place_after (before ++ texts parts)) []
lexemes_more before [] p = ap (λ b. listed p.kind p.text (place_after b) []) (sym (append-nil before))
lexemes_more before (q ∷ qs) p =
    ap (listed q.kind q.text (place_after before))
    (lexemes_more (before ++ q.text) qs p ∙ ap (λ b. lexemes (before ++ q.text) qs ++ listed p.kind p.text (place_after b) []) (append_assoc before q.text (texts qs)))
    ∙ listed_front q.kind q.text (place_after before) (lexemes (before ++ q.text) qs) (listed p.kind p.text (place_after (before ++ (q.text ++ texts qs))) [])

-- ---- the loop

pub record Read (text : Text) (found : List Lexeme) (at : At) (joined : Bool) (left : Text) : Type 0 where
  pub parts : List Part
  pub cut : Cut Reads false text parts left
  pub same : found ≡ lexemes [] parts
  pub place : at ≡ place_after (texts parts)
  pub join : joined ≡ joined_after false parts

pub read_none : (text : Text) → Read text [] (place_after []) false text
read_none text = record { parts = []; cut = refl; same = refl; place = refl; join = refl }

-- the next piece is a part more
pub read_more : (text : Text) (found : List Lexeme) (at : At) (joined : Bool) (left s rest : Text) (q : Piece)
    → Read text found at joined left → piece joined left ≡ Ok q → left ≡ s ++ rest → length s ≡ q.len
    → Read text (found ++ listed q.kind s at []) (steps at s) (joins q.kind s) rest
read_more text found at joined left s rest q r e split len =
    let p : Part = record { kind = q.kind; text = s } in
    let reads : Reads (joined_after false r.parts) left p = ap (λ j. piece j left) (sym r.join) ∙ e ∙ ap (λ n. Ok (record { kind = q.kind; len = n })) (sym len) in
    record {
      parts = r.parts ++ p ∷ [];
      cut = cut_more Reads false text r.parts left rest p r.cut split reads;
      same = ap (λ xs. xs ++ listed q.kind s at []) r.same ∙ ap (λ (a : At). lexemes [] r.parts ++ listed q.kind s a []) r.place ∙ sym (lexemes_more [] r.parts p);
      place = ap (λ a. steps a s) r.place ∙ steps_more (texts r.parts) s ∙ ap place_after (sym (texts_more r.parts p));
      join = sym (joined_more false r.parts p);
    }

pub read_all : (text : Text) (found : List Lexeme) (at : At) (joined : Bool) (left : Text) → IsUtf8 text → HasNoTab text → Read text found at joined left → left ≡ [] → Scans text found
read_all text found at joined left utf8 no_tab r e = record { utf8 = utf8; no_tab = no_tab; parts = r.parts; cut = subst (Cut Reads false text r.parts) e r.cut; same = r.same }

pub read_fault : (text : Text) (found : List Lexeme) (at : At) (joined : Bool) (left : Text) (k : FaultKind) → IsUtf8 text → HasNoTab text
    → Read text found at joined left → 0 < length left → piece joined left ≡ Err k → HasBadToken Reads Refuses text (record { line = at.line; kind = k })
read_fault text found at joined left k utf8 no_tab r l e = record {
  utf8 = utf8;
  no_tab = no_tab;
  parts = r.parts;
  rest = left;
  cut = r.cut;
  kind = k;
  faulty = (joined, l, e);
  same = ap (λ (a : At). record { line = a.line; kind = k }) r.place;
}

pub read_next : (text : Text) (found next : List Lexeme) (at there : At) (joined joins_there : Bool) (left s rest : Text) (q : Piece)
    → Read text found at joined left → piece joined left ≡ Ok q → left ≡ s ++ rest → length s ≡ q.len
    → next ≡ found ++ listed q.kind s at [] → there ≡ steps at s → joins_there ≡ joins q.kind s
    → Read text next there joins_there rest
read_next text found next at there joined joins_there left s rest q r e split len same place join =
    let more = read_more text found at joined left s rest q r e split len in
    record { parts = more.parts; cut = more.cut; same = same ∙ more.same; place = place ∙ more.place; join = join ∙ more.join }

pub pushed : (items next : List Token) (t : Token) → next ≡ items ++ t ∷ [] → map lexeme next ≡ map lexeme items ++ lexeme t ∷ []
pushed items next t e = ap (map lexeme) e ∙ map-append lexeme items (t ∷ [])
