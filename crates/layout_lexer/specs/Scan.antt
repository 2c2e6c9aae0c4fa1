-- A text cut by the plain function.
use Rattle.std.specs.Prelude.{◌≡◌, ◌<◌, Bool, List, length, Ok, Err}
use Rattle.elm_base.specs.declared.fault.FaultKind.{FaultKind}
use Rattle.elm_base.specs.Lexemes.{Lexeme}
use Rattle.layout_lexer.specs.declared.piece.Piece.{Piece}
use Rattle.layout_lexer.specs.declared.place.TextFault.{TextFault}
use Rattle.layout_lexer.specs.Chars.{Text}
use Rattle.layout_lexer.specs.Pieces.{piece}
use Rattle.layout_lexer.specs.Cuts.{Part, TokensBy, FirstFaultBy}

abbrev pub piece_of : Part → Piece
piece_of p = record { kind = p.kind; len = length p.text }

abbrev pub Reads : Bool → Text → Part → Type 0
Reads joined text p = piece joined text ≡ Ok (piece_of p)

abbrev pub Refuses : Text → FaultKind → Type 0
Refuses text k = (joined : Bool) × (0 < length text) × (piece joined text ≡ Err k)

abbrev pub Scans : Text → List Lexeme → Type 0
Scans = TokensBy Reads Refuses

abbrev pub Stops : Text → TextFault → Type 0
Stops = FirstFaultBy Reads Refuses
