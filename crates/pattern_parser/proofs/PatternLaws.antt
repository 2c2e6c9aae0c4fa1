-- A pattern derives at any depth that its nesting needs, and so only one derives from a list of tokens.
use Rattle.std.proofs.Common.{◌≡◌, ℕ, zero, suc, ◌<◌, ◌≤◌, max, true, List, [], ◌∷◌, Option, Some, None, refl, sym, ◌∙◌, ap, subst, append-nil, arith}
use Rattle.elm_base.specs.declared.token.At.{At}
use Rattle.elm_base.specs.declared.tree.Spot.{Spot}
use Rattle.elm_base.specs.declared.tree.Pattern.{Pattern}
use Rattle.elm_base.specs.Lexemes.{Lexeme}
use Rattle.grammar.specs.declared.terminal.Terminal.TheVariants as k
use Rattle.grammar.specs.Rules as rule
use Rattle.grammar.specs.Rules.{Rule, at_most_nine}
use Rattle.grammar.specs.Reader as reader
use Rattle.tree_nesting.specs.Nesting.{pattern_nesting}
use Rattle.pattern_parser.specs.Patterns as g
use Rattle.pattern_parser.specs.Patterns.{DerivesPattern}
use Rattle.pattern_parser.specs.PatternReader as m
use Rattle.grammar.proofs.Laws.{ok_same}
use Rattle.grammar.proofs.Wholes.{Decides}
use Rattle.tree_nesting.proofs.NestingLaws.{of_made, of_cons, of_list, of_pattern_tuple, of_pattern_brackets, of_pattern_named, around_each}
use Rattle.grammar.proofs.Shallow.{Shallow, same, when, seq, by, either, only, at, many, after, before, separated}
use Rattle.tree_nesting.proofs.Each.{Each}
use Rattle.pattern_parser.proofs.PatternReadings.{whole_reads, cons_reads}

-- a whole pattern, from one without `as`
pub whole_of : (C C' : Rule Pattern) (limit : ℕ) → Shallow C C' (λ x. pattern_nesting x ≤ limit) → Shallow (g.whole C) (g.whole C') (λ x. pattern_nesting x ≤ limit)
whole_of C C' limit s =
    by g.named (when {B = λ x. (pattern_nesting x.1.0 ≤ limit) × Unit {0}} (λ x h. (inner x.0 x.1.0 x.1.1 h, tt))
    (at (seq s (same (rule.optional (rule.◌▷◌ (rule.mark k.As) rule.spot))))))
  where
    inner : (at : At) (x : Pattern) (name : Option Spot) → pattern_nesting (g.named (at, (x, name))) ≤ limit → pattern_nesting x ≤ limit
    inner at x None h = h
    inner at x (Some name) h = let e = of_pattern_named at x name in omega arith

module _ (C C' : Rule Pattern) (limit : ℕ) (s : Shallow C C' (λ x. pattern_nesting x < limit)) (w : Shallow (g.whole C) (g.whole C') (λ x. pattern_nesting x < limit)) where
  abbrev Within : Pattern → Type 0
  Within x = pattern_nesting x ≤ limit

  abbrev Below : Pattern → Type 0
  Below x = pattern_nesting x < limit

  inside : (at : At) (xs : List Pattern) → Within (g.enclosed (at, xs)) → Each Below xs
  inside at [] h = tt
  inside at (x ∷ []) h = let e = of_pattern_brackets at x in (omega arith, tt)
  inside at (x ∷ y ∷ ys) h = around_each pattern_nesting (x ∷ y ∷ ys) limit (let e = of_pattern_tuple at (x ∷ y ∷ ys) in omega arith)

  patterns : Shallow (rule.◌∣◌ (rule.separated (g.whole C)) (rule.nothing [])) (rule.◌∣◌ (rule.separated (g.whole C')) (rule.nothing [])) (Each Below)
  patterns = either (separated w) (same (rule.nothing []))

  pub brackets : Shallow (g.brackets C) (g.brackets C') Within
  brackets =
      by g.enclosed (when {B = λ x. Each Below x.1} (λ x h. inside x.0 x.1 h)
      (at (after (rule.mark k.LeftParen) (before (rule.mark k.RightParen) (only at_most_nine patterns)))))

  list : Shallow (g.list C) (g.list C') Within
  list =
      by _ (when {B = λ x. Each Below x.1} (λ x h. around_each pattern_nesting x.1 limit (let e = of_list x.0 x.1 in omega (arith, e)))
      (at (after (rule.mark k.LeftBracket) (before (rule.mark k.RightBracket) patterns))))

  other : Shallow (g.other C) (g.other C') Within
  other = either (same g.anything) (either (same g.variable) (either (same g.literal) (either list (either brackets (same g.labels)))))

  pub part : Shallow (g.part C) (g.part C') Within
  part = either (same g.bare) other

  made : Shallow (g.made C) (g.made C') Within
  made =
      by _ (when {B = λ x. Unit {0} × Each Below x.1.1}
      (λ x h. (tt, around_each pattern_nesting x.1.1 limit (let e = of_made x.0 x.1.0 x.1.1 in omega (arith, e))))
      (at (seq (same (rule.name k.Upper)) (many (when {B = Within} (λ x h. omega arith) part)))))

  operand : Shallow (g.operand C) (g.operand C') Within
  operand = either made other

  abbrev TailBelow : Option Pattern → Type 0
  TailBelow None = Unit {0}
  TailBelow (Some x) = Below x

  tail : Shallow (rule.optional (rule.◌▷◌ (rule.mark k.Cons) C)) (rule.optional (rule.◌▷◌ (rule.mark k.Cons) C')) TailBelow
  tail = either (by (λ x. Some x) (after (rule.mark k.Cons) s)) (same (rule.nothing None))

  sides : (at : At) (head : Pattern) (rest : Option Pattern) → Within (g.consed (at, (head, rest))) → Within head × TailBelow rest
  sides at head None h = (h, tt)
  sides at head (Some rest) h = let e = of_cons at head rest in (omega arith, omega arith)

  level : Shallow (g.level C) (g.level C') Within
  level = by g.consed (when {B = λ x. Within x.1.0 × TailBelow x.1.1} (λ x h. sides x.0 x.1.0 x.1.1 h) (at (seq operand tail)))

-- A pattern without `as` derives at a depth above its nesting.
pub deep_enough : (depth n : ℕ) → Shallow (g.cons_at depth) (g.cons_at (suc n)) (λ x. pattern_nesting x ≤ n)
unfolding g.cons_at
deep_enough zero n = record { takes = λ ts x w b. absurd w }
deep_enough (suc depth) zero =
    let s = level (g.cons_at depth) (g.cons_at zero) zero (record { takes = λ ts x w b. absurd (omega arith) }) (record { takes = λ ts x w b. absurd (omega arith) }) in
    record { takes = s.takes }
deep_enough (suc depth) (suc n) =
    let inner = deep_enough depth n in
    let s = level (g.cons_at depth) (g.cons_at (suc n)) (suc n) (when (λ x h. omega arith) inner) (when (λ x h. omega arith) (whole_of (g.cons_at depth) (g.cons_at (suc n)) n inner)) in
    record { takes = s.takes }

-- ---- all of the tokens

derived_is_read : (n : ℕ) (ts : List Lexeme) (x : Pattern) → DerivesPattern ts x → pattern_nesting x ≤ n → m.whole (m.cons_at (suc n)) ts ≡ Some (x, [])
derived_is_read n ts x w h =
    let s = whole_of (g.cons_at w.0) (g.cons_at (suc n)) n (deep_enough w.0 n) in
    let r = whole_reads (cons_reads (suc n)) in
    sym (ap (m.whole (m.cons_at (suc n))) (append-nil ts)) ∙ r.complete ts [] x (s.takes ts x w.1 h) refl

read_derives : (n : ℕ) (ts rest : List Lexeme) (x : Pattern) → m.whole (m.cons_at n) ts ≡ Some (x, rest) → reader.is_done rest ≡ true → DerivesPattern ts x
read_derives n ts [] x e d =
    let r = whole_reads (cons_reads n) in
    let s = r.sound.reads ts [] x e in
    (n, subst (λ (z : List Lexeme). g.whole (g.cons_at n) z x) (sym (s.1 ∙ append-nil s.0)) s.2)
read_derives n ts (t ∷ rest) x e d = cc

pub one_pattern : (ts : List Lexeme) (x y : Pattern) → DerivesPattern ts x → DerivesPattern ts y → x ≡ y
one_pattern ts x y v w =
    let n = max (pattern_nesting x) (pattern_nesting y) in
    let a = derived_is_read n ts x v (omega arith) in
    let b = derived_is_read n ts y w (omega arith) in
    ap (λ z. z.0) (ok_same (sym a ∙ b))

pub decides : (n : ℕ) → Decides DerivesPattern pattern_nesting n (m.whole (m.cons_at (suc n)))
decides n = record { sound = read_derives (suc n); complete = derived_is_read n }
