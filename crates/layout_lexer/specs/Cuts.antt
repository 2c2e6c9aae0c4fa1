-- A text cut into tokens, white space and comments; the first fault of a text.
use Rattle.std.specs.Prelude.{◌≡◌, ℕ, Bool, true, false, ◌⊎◌, ◌||◌, List, [], ◌∷◌, ◌++◌, take, Option, Some, None}
use Rattle.std.specs.List.{flat_map}
use Rattle.std.specs.Str.{IsUtf8, IsValidUpTo}
use Rattle.elm_base.specs.declared.token.At.{At}
use Rattle.elm_base.specs.declared.token.TokenKind.{TokenKind}
use Rattle.elm_base.specs.declared.token.TokenKind.TheVariants as kind
use Rattle.elm_base.specs.declared.fault.FaultKind.{FaultKind}
use Rattle.elm_base.specs.declared.fault.FaultKind.TheVariants as fault
use Rattle.elm_base.specs.Lexemes.{Lexeme}
use Rattle.layout_lexer.specs.declared.place.TextFault.{TextFault}
use Rattle.layout_lexer.specs.Chars.{Text, is_among}
use Rattle.layout_lexer.specs.Places.{place_after, fault_after}

-- a part of a text: a token of this kind, or white space or a comment
pub record Part : Type 0 where
  pub kind : Option TokenKind
  pub text : Text

-- whether a `.` directly after this token reads a field of it
abbrev pub is_value : TokenKind → Text → Bool
is_value kind.Lower s = true
is_value kind.Access s = true
is_value kind.Symbol s = is_among s 41 || is_among s 125
is_value k s = false

-- the same of a part
abbrev pub joins : Option TokenKind → Text → Bool
joins None s = false
joins (Some k) s = is_value k s

-- all that the parts spell
abbrev pub texts : List Part → Text
texts parts = flat_map (λ p. p.text) parts

-- whether a value ends directly after these parts
abbrev pub joined_after : Bool → List Part → Bool
joined_after joined [] = joined
joined_after joined (p ∷ ps) = joined_after (joins p.kind p.text) ps

-- The parts are the front of the text, in order, and each stands at its place by the rule. The rule knows whether a value ends directly before the place.
abbrev pub Cut : (Bool → Text → Part → Type 0) → Bool → Text → List Part → Text → Type 0
Cut Stands joined text [] after = text ≡ after
Cut Stands joined text (p ∷ ps) after = (rest : Text) × (text ≡ p.text ++ rest) × Stands joined text p × Cut Stands (joins p.kind p.text) rest ps after

-- a token at this place, where the part is one, before more
abbrev pub listed : Option TokenKind → Text → At → List Lexeme → List Lexeme
listed None s at more = more
listed (Some k) s at more = record { kind = k; text = s; at = at } ∷ more

-- the tokens among the parts, each at the place after all that stands before it
abbrev pub lexemes : Text → List Part → List Lexeme
lexemes before [] = []
lexemes before (p ∷ ps) = listed p.kind p.text (place_after before) (lexemes (before ++ p.text) ps)

-- the text isn't UTF-8: the fault is at its first bad byte
pub record HasBadByte (text : Text) (f : TextFault) : Type 0 where
  pub place : ℕ
  pub bad : IsValidUpTo text place
  pub same : f ≡ fault_after (take place text) fault.NotUtf8

abbrev pub HasNoTab : Text → Type 0
HasNoTab text = is_among text 9 ≡ false

-- the text is UTF-8 and has a tab: the fault is at the first
pub record HasTab (text : Text) (f : TextFault) : Type 0 where
  pub utf8 : IsUtf8 text
  pub before : Text
  pub after : Text
  pub split : text ≡ before ++ 9 ∷ after
  pub first : HasNoTab before
  pub same : f ≡ fault_after before fault.Tab

module _ (Stands : Bool → Text → Part → Type 0) (Faulty : Text → FaultKind → Type 0) where
  -- the list is the tokens of the text
  pub record TokensBy (text : Text) (list : List Lexeme) : Type 0 where
    pub utf8 : IsUtf8 text
    pub no_tab : HasNoTab text
    pub parts : List Part
    pub cut : Cut Stands false text parts []
    pub same : list ≡ lexemes [] parts

  -- no fault stands before the first token or comment that is faulty
  pub record HasBadToken (text : Text) (f : TextFault) : Type 0 where
    pub utf8 : IsUtf8 text
    pub no_tab : HasNoTab text
    pub parts : List Part
    pub rest : Text
    pub cut : Cut Stands false text parts rest
    pub kind : FaultKind
    pub faulty : Faulty rest kind
    pub same : f ≡ fault_after (texts parts) kind

  abbrev pub FirstFaultBy : Text → TextFault → Type 0
  FirstFaultBy text f = HasBadByte text f ⊎ (HasTab text f ⊎ HasBadToken text f)
