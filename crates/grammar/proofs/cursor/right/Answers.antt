use Rattle.std.proofs.Common.{◌≡◌, ℕ, ◌+◌, ◌<◌, ◌≤◌, List, map, drop, length, get_or, le-ltb, lt-ltb, drop-cons, drop_of_length-le, add-one, refl, arith}
use Rattle.elm_base.specs.declared.token.Token.{Token}
use Rattle.elm_base.specs.Lexemes.{lexeme}
use Rattle.grammar.specs.Reader.{right}
use Rattle.grammar.proofs.cursor.right.Goals as goal

stops : (column : ℕ) (ts : List Token) (i : ℕ) (d : Token) → i < length ts → (get_or ts i d).column ≤ column → right column (map lexeme (drop i ts)) ≡ 0
stops column ts i d h l = rw (drop-cons ts i d, le-ltb column (get_or ts i d).column l)

goes_on : (column : ℕ) (ts : List Token) (i : ℕ) (d : Token) → i < length ts → column < (get_or ts i d).column
    → right column (map lexeme (drop i ts)) ≡ 1 + right column (map lexeme (drop (i + 1) ts))
goes_on column ts i d h l = rw (drop-cons ts i d, lt-ltb column (get_or ts i d).column l, add-one) (omega arith)

ends : (column : ℕ) (ts : List Token) (i : ℕ) → length ts ≤ i → right column (map lexeme (drop i ts)) ≡ 0
ends column ts i h = rw drop_of_length-le

pub loop-token-init : goal.loop-token-init
loop-token-init c = record { count = refl; value = omega arith }

pub returns-then-token-column-clause-value : goal.returns-then-token-column-clause-value
returns-then-token-column-clause-value c =
    let s = stops c.args.column c.args.tokens.now c.loop-token.token-index _ c.loop-token-test.true c.if-token-column.true in omega arith

pub returns-then-token-column-clause-within : goal.returns-then-token-column-clause-within
returns-then-token-column-clause-within c = omega arith

pub loop-token-preserved : goal.loop-token-preserved
loop-token-preserved c =
    let s = goes_on c.args.column c.args.tokens.now c.loop-token.token-index _ c.loop-token-test.true c.if-token-column.false in
    record { count = omega arith; value = omega arith }

pub returns-clause-value : goal.returns-clause-value
returns-clause-value c =
    let s = ends c.args.column c.args.tokens.now c.loop-token.token-index c.loop-token-test.false in omega arith

pub returns-clause-within : goal.returns-clause-within
returns-clause-within c = omega arith
