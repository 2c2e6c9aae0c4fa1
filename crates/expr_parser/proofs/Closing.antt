-- What stands in brackets, made at the place of the opening one.
use Rattle.std.proofs.Common.{◌≡◌, ◌≢◌, List, refl, sym, ◌∙◌, ap, Some, None}
use Rattle.std.specs.Prelude.{Result, Ok, Err, IfOk, MatchResult}
use Rattle.elm_base.specs.declared.memory.Halt.{Halt}
use Rattle.elm_base.specs.declared.memory.Halt.TheVariants as halt
use Rattle.elm_base.specs.declared.token.At.{At}
use Rattle.elm_base.specs.Lexemes.{Lexeme}
use Rattle.grammar.specs.declared.cursor.NoTree.{NoTree}
use Rattle.grammar.specs.declared.terminal.Terminal.{Terminal}
use Rattle.grammar.specs.Reader.{Outcome, Parser, Reads, and_then, here, mark, ◌▷◌, ◌◁◌, ◌<$>◌}
use Rattle.grammar.specs.Reader as reader
use Rattle.grammar.proofs.Laws.{ok_same, then_ok}
use Rattle.expr_parser.specs.Places.{placed}

module _ {A : Type 0} (at : At) (p : Parser (At → A)) (end : Terminal) where
  stays_open : (us vs : List Lexeme) (tree : A) → placed at p us ≡ Some (tree, vs) → mark end vs ≡ None → ◌◁◌ p (mark end) us ≡ None
  stays_open us vs tree e n = go (p us) e
    where
      go : (r : Outcome (At → A)) → and_then r (λ make us. Some (make at, us)) ≡ Some (tree, vs)
          → and_then {A = (At → A) × Unit {0}} (and_then r (λ a us. and_then (mark end us) (λ b vs. Some ((a, b), vs)))) (λ x us. Some (x.0, us)) ≡ None
      go None e = refl
      go (Some x) e = let same : x.1 ≡ vs = ap (λ z. z.1) (ok_same e) in rw (same, n) refl

  unclosed : (start : Terminal) (ts us vs : List Lexeme) (tree : A) → here ts ≡ Some (at, ts) → mark start ts ≡ Some (tt, us) → placed at p us ≡ Some (tree, vs)
      → mark end vs ≡ None → ◌<$>◌ (λ x. x.1 x.0) (reader.at (◌▷◌ (mark start) (◌◁◌ p (mark end)))) ts ≡ None
  unclosed start ts us vs tree h s e n = rw (h, s, stays_open us vs tree e n) refl

  pub enclosed : (start : Terminal) (ts us vs new : List Lexeme) (tree : A) (r : Result A (Halt NoTree)) → here ts ≡ Some (at, ts)
      → mark start ts ≡ Some (tt, us) → placed at p us ≡ Some (tree, vs) → IfOk r (λ given. given ≡ tree)
      → MatchResult r (λ _. mark end vs ≡ Some (tt, new)) (λ cause. cause ≢ halt.NoMemory → mark end vs ≡ None)
      → Reads (◌<$>◌ (λ x. x.1 x.0) (reader.at (◌▷◌ (mark start) (◌◁◌ p (mark end)))) ts) r new
  enclosed start ts us vs new tree (Ok given) h s e is m =
      let o = then_ok (p us) (λ make us. Some (make at, us)) (tree, vs) e in
      let same = ok_same o.2 in
      let value : o.0.0 at ≡ given = ap (λ z. z.0) same ∙ sym is in
      let left : o.0.1 ≡ vs = ap (λ z. z.1) same in
      rw (h, s, o.1, left, m) (ap (λ z. Some (z, new)) value)
  enclosed start ts us vs new tree (Err cause) h s e is m = λ other. unclosed start ts us vs tree h s e (m other)
