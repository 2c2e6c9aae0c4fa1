-- The operators and the operands of links.
use Rattle.std.proofs.Common.{◌≡◌, ◌≢◌, List, [], ◌∷◌, ◌++◌, refl, sym, ◌∙◌, ap, subst, Some, None}
use Rattle.std.specs.Prelude.{Result, Ok, Err, MatchResult}
use Rattle.std.proofs.lemmas.List.{map-append}
use Rattle.elm_base.specs.declared.memory.Halt.{Halt}
use Rattle.elm_base.specs.declared.memory.Halt.TheVariants as halt
use Rattle.elm_base.specs.declared.token.At.{At}
use Rattle.elm_base.specs.declared.tree.Operator.{Operator}
use Rattle.elm_base.specs.declared.tree.Expr.{Expr}
use Rattle.elm_base.specs.declared.tree.Expr.TheVariants as e
use Rattle.elm_base.specs.Lexemes.{Lexeme}
use Rattle.grammar.specs.declared.cursor.NoTree.{NoTree}
use Rattle.grammar.specs.Reader.{Parser, Outcome, Reads, and_then, here, at, ◌⊗◌, ◌<$>◌}
use Rattle.grammar.proofs.Laws.{then_ok, ok_same}
use Rattle.expr_parser.specs.Chains.{apart, separately}
use Rattle.expr_grammar.specs.Expressions.{chained}

-- one more
pub apart_more : (found : List (Operator × Expr)) (operators : List Operator) (operands : List Expr) (a : Operator) (b : Expr) → apart found ≡ (operators, operands)
    → apart (found ++ (a, b) ∷ []) ≡ (operators ++ a ∷ [], operands ++ b ∷ [])
apart_more found operators operands a b e =
    let first = ap (λ z. z.0) e in
    let second = ap (λ z. z.1) e in
    rw (map-append, map-append, first, second) refl

-- how the loop answers, from what is said of the links
pub apart_ok : (p : Parser (List (Operator × Expr))) (ts rest : List Lexeme) (found : List (Operator × Expr)) (operators : List Operator) (operands : List Expr)
    → apart found ≡ (operators, operands) → p ts ≡ Some (found, rest) → separately p ts ≡ Some ((operators, operands), rest)
apart_ok p ts rest found operators operands a h = rw h (ap (λ z. Some (z, rest)) a)

pub apart_err : (p : Parser (List (Operator × Expr))) (ts : List Lexeme) → p ts ≡ None → separately p ts ≡ None
apart_err p ts h = rw h

-- a chain of what was read
pub chain_ok : (p : Parser Expr) (q : Parser (List (Operator × Expr))) (ts us rest : List Lexeme) (place : At) (first tree : Expr) (operators : List Operator) (operands : List Expr)
    → here ts ≡ Some (place, ts) → p ts ≡ Some (first, us) → separately q us ≡ Some ((operators, operands), rest)
    → ((links : List (Operator × Expr)) → apart links ≡ (operators, operands) → tree ≡ chained (place, (first, links)))
    → ◌<$>◌ chained (at (◌⊗◌ p q)) ts ≡ Some (tree, rest)
chain_ok p q ts us rest place first tree operators operands h e l made =
    let links = then_ok (q us) (λ x vs. Some (apart x, vs)) ((operators, operands), rest) l in
    let is = ok_same links.2 in
    let parts : apart links.0.0 ≡ (operators, operands) = ap (λ z. z.0) is in
    let end : links.0.1 ≡ rest = ap (λ z. z.1) is in
    rw (h, e, links.1, end) (ap (λ z. Some (z, rest)) (sym (made links.0.0 parts)))

pub chain_err_at : (p : Parser Expr) (q : Parser (List (Operator × Expr))) (ts : List Lexeme) → here ts ≡ None → ◌<$>◌ chained (at (◌⊗◌ p q)) ts ≡ None
chain_err_at p q ts h = rw h

pub chain_err_first : (p : Parser Expr) (q : Parser (List (Operator × Expr))) (ts : List Lexeme) (place : At) → here ts ≡ Some (place, ts) → p ts ≡ None
    → ◌<$>◌ chained (at (◌⊗◌ p q)) ts ≡ None
chain_err_first p q ts place h e = rw (h, e)

none_together : (r : Outcome (List (Operator × Expr))) → and_then r (λ x us. Some (apart x, us)) ≡ None → r ≡ None
none_together None h = refl
none_together (Some x) h = cc

pub chain_err_links : (p : Parser Expr) (q : Parser (List (Operator × Expr))) (ts us : List Lexeme) (place : At) (first : Expr) → here ts ≡ Some (place, ts)
    → p ts ≡ Some (first, us) → separately q us ≡ None → ◌<$>◌ chained (at (◌⊗◌ p q)) ts ≡ None
chain_err_links p q ts us place first h e l = rw (h, e, none_together (q us) l)

pub no_links : (links : List (Operator × Expr)) (operands : List Expr) (place : At) (first : Expr) → apart links ≡ ([], operands) → chained (place, (first, links)) ≡ first
no_links [] operands place first h = refl
no_links (x ∷ xs) operands place first h = let none = ap (λ z. z.0) h in cc

pub some_links : (links : List (Operator × Expr)) (operators : List Operator) (operands : List Expr) (place : At) (first : Expr) → apart links ≡ (operators, operands) → operators ≢ []
    → chained (place, (first, links)) ≡ e.Chain place (first ∷ operands) operators
some_links [] operators operands place first h some = absurd (some (sym (ap (λ z. z.0) h)))
some_links (x ∷ xs) operators operands place first h some =
    let one = ap (λ z. z.0) h in
    let other = ap (λ z. z.1) h in
    rw (sym one, sym other) refl

-- ---- what a pair says of its parts

pub second_err : {A B E : Type 0} (first : A) (second : Result B E) (r : Result (A × B) E) (error : E)
    → MatchResult second (λ x. r ≡ Ok (first, x)) (λ error. r ≡ Err error) → r ≡ Err error → second ≡ Err error
second_err first (Ok x) r error m h = cc
second_err first (Err other) r error m h = cc

ok_inner : {X E : Type 0} {x y : X} → (let r : Result X E = Ok x in r) ≡ Ok y → x ≡ y
ok_inner e = cc

pub second_ok : {A B E : Type 0} (first : A) (second : Result B E) (r : Result (A × B) E) (a : A) (b : B)
    → MatchResult second (λ x. r ≡ Ok (first, x)) (λ error. r ≡ Err error) → r ≡ Ok (a, b) → (first ≡ a) × (second ≡ Ok b)
second_ok first (Ok x) r a b m h = let pair = ok_inner (sym m ∙ h) in (ap (λ z. z.0) pair, ap (λ z. Ok z.1) pair)
second_ok first (Err other) r a b m h = cc

-- ---- what was read, by its result

pub read_ok : {A : Type 0} (o : Outcome A) (r : Result A (Halt NoTree)) (new : List Lexeme) (x : A) → Reads o r new → r ≡ Ok x → o ≡ Some (x, new)
read_ok o r new x h e = subst (λ z. Reads o z new) e h

pub read_err : {A : Type 0} (o : Outcome A) (r : Result A (Halt NoTree)) (new : List Lexeme) (cause : Halt NoTree) → Reads o r new
    → (cause ≢ halt.NoMemory → r ≡ Err cause) → cause ≢ halt.NoMemory → o ≡ None
read_err o r new cause h e other = subst (λ z. Reads o z new) (e other) h other
