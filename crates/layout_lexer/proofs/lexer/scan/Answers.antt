use Rattle.std.proofs.Common.{◌≡◌, map, List, [], ◌++◌, sym, ap, ◌∙◌, append-nil, take-append-drop}
use Rattle.std.specs.Prelude.{Option}
use Rattle.elm_base.specs.declared.token.TokenKind.{TokenKind}
use Rattle.elm_base.specs.Lexemes.{lexeme, Lexeme}
use Rattle.layout_lexer.specs.Cuts.{listed}
use Rattle.layout_lexer.proofs.Lexing.{read_next, pushed}
use Rattle.layout_lexer.proofs.lexer.scan.Goals as goal
use Rattle.layout_lexer.proofs.lexer.scan.Goals.{in-Some-kind+in_ok-push, in_default-kind}

pub loop-left-preserved : goal.loop-left-preserved
loop-left-preserved c =
    let more : Option TokenKind → List Lexeme = λ k. map lexeme c.loop-left.found.items ++ listed k c.split_at.result.0.now c.loop-left.at [] in
    let same : map lexeme c.match-piece.found.items ≡ map lexeme c.loop-left.found.items ++ listed c.in-Ok.piece.kind c.split_at.result.0.now c.loop-left.at [] =
    elim c.match-piece.branch [
      | in-Some-kind+in_ok-push w ↦ pushed _ _ _ (ap (λ v. v.items) w.found-is ∙ w.in_ok-push.ensures.items) ∙ ap more (sym w.in-Some-kind.is)
      | in_default-kind w ↦ ap (λ v. map lexeme v.items) w.found-is ∙ sym (append-nil (map lexeme c.loop-left.found.items)) ∙ ap more (sym w.in_default-kind.is)
    ]
    in
    let parts = c.split_at.ensures in
    read_next _ _ _ _ _ _ _ _ c.split_at.result.0.now _ c.in-Ok.piece c.loop-left.invariant
    (sym c.next_piece.ensures.value ∙ c.in-Ok.is)
    (sym ((λ i. parts.front i ++ parts.back i) ∙ take-append-drop c.in-Ok.piece.len c.loop-left.left.now))
    parts.front_len same c.place_from-at.ensures c.joins-is_joined.ensures
