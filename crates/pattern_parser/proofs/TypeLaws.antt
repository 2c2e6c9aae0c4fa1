-- A type derives at any depth that its nesting needs, and so only one derives from a list of tokens.
use Rattle.std.proofs.Common.{◌≡◌, ℕ, zero, suc, ◌<◌, ◌≤◌, max, true, List, [], ◌∷◌, Option, Some, None, refl, sym, ◌∙◌, ap, subst, append-nil, arith}
use Rattle.elm_base.specs.declared.token.At.{At}
use Rattle.elm_base.specs.declared.tree.Spot.{Spot}
use Rattle.elm_base.specs.declared.tree.TypeTree.{TypeTree}
use Rattle.elm_base.specs.Lexemes.{Lexeme}
use Rattle.grammar.specs.declared.terminal.Terminal.TheVariants as k
use Rattle.grammar.specs.Rules as rule
use Rattle.grammar.specs.Rules.{Rule, at_most_nine}
use Rattle.grammar.specs.Reader as reader
use Rattle.tree_nesting.specs.Nesting.{type_nesting}
use Rattle.pattern_parser.specs.Types as g
use Rattle.pattern_parser.specs.Types.{DerivesType}
use Rattle.pattern_parser.specs.TypeReader as m
use Rattle.grammar.proofs.Laws.{ok_same}
use Rattle.grammar.proofs.Wholes.{Decides}
use Rattle.tree_nesting.proofs.NestingLaws.{of_named, of_arrow, of_brackets, of_tuple, of_fields, around_each}
use Rattle.grammar.proofs.Shallow.{Shallow, same, when, seq, by, either, only, at, many, after, before, separated}
use Rattle.tree_nesting.proofs.Each.{Each}
use Rattle.pattern_parser.proofs.TypeReadings.{type_reads}

module _ (E E' : Rule TypeTree) (limit : ℕ) (s : Shallow E E' (λ x. type_nesting x < limit)) where
  abbrev Within : TypeTree → Type 0
  Within x = type_nesting x ≤ limit

  abbrev Below : TypeTree → Type 0
  Below x = type_nesting x < limit

  abbrev FieldBelow : Spot × TypeTree → Type 0
  FieldBelow field = type_nesting field.1 < limit

  inside : (at : At) (xs : List TypeTree) → Within (g.enclosed (at, xs)) → Each Below xs
  inside at [] h = tt
  inside at (x ∷ []) h = let e = of_brackets at x in (omega arith, tt)
  inside at (x ∷ y ∷ ys) h = around_each type_nesting (x ∷ y ∷ ys) limit (let e = of_tuple at (x ∷ y ∷ ys) in omega arith)

  brackets : Shallow (g.brackets E) (g.brackets E') Within
  brackets =
      by g.enclosed (when {B = λ x. Each Below x.1} (λ x h. inside x.0 x.1 h)
      (at (after (rule.mark k.LeftParen) (before (rule.mark k.RightParen) (only at_most_nine (either (separated s) (same (rule.nothing []))))))))

  field : Shallow (g.field E) (g.field E') FieldBelow
  field = when {B = λ x. Unit {0} × Below x.1} (λ x h. (tt, h)) (seq (same rule.spot) (after (rule.mark k.Colon) s))

  -- for some name before it
  abbrev BehindBelow : (Spot → Option Spot × List (Spot × TypeTree)) → Type 0
  BehindBelow h = (first : Spot) × Each FieldBelow (h first).1

  behind_variable : Shallow (g.behind_variable E) (g.behind_variable E') BehindBelow
  behind_variable = by (λ fields first. (Some first, fields)) (when {B = Each FieldBelow} (λ x h. h.1) (after (rule.mark k.Bar) (separated field)))

  behind_label : Shallow (g.behind_label E) (g.behind_label E') BehindBelow
  behind_label =
      by (λ x first. (None, (first, x.0) ∷ x.1)) (when {B = λ x. Below x.0 × Each FieldBelow x.1} (λ x h. h.1)
      (seq (after (rule.mark k.Colon) s) (many (after (rule.mark k.Comma) field))))

  inside_braces : Shallow (g.inside_braces E) (g.inside_braces E') (λ x. Each FieldBelow x.1)
  inside_braces =
      either (by (λ x. x.1 x.0) (when {B = λ x. Unit {0} × BehindBelow x.1} (λ x h. (tt, (x.0, h))) (seq (same rule.spot) (either behind_variable behind_label))))
      (same (rule.nothing (None, [])))

  braces : Shallow (g.braces E) (g.braces E') Within
  braces =
      by _ (when {B = λ x. Each FieldBelow x.1.1}
      (λ x h. around_each (λ (field : Spot × TypeTree). type_nesting field.1) x.1.1 limit (let e = of_fields x.0 x.1.0 x.1.1 in omega (arith, e)))
      (at (after (rule.mark k.LeftBrace) (before (rule.mark k.RightBrace) inside_braces))))

  other : Shallow (g.other E) (g.other E') Within
  other = either (same g.variable) (either brackets braces)

  pub argument : Shallow (g.argument E) (g.argument E') Within
  argument = either (same g.bare) other

  applied : Shallow (g.applied E) (g.applied E') Within
  applied =
      by _ (when {B = λ x. Unit {0} × Each Below x.1.1}
      (λ x h. (tt, around_each type_nesting x.1.1 limit (let e = of_named x.0 x.1.0 x.1.1 in omega (arith, e))))
      (at (seq (same (rule.name k.Upper)) (many (when {B = Within} (λ x h. omega arith) argument)))))

  operand : Shallow (g.operand E) (g.operand E') Within
  operand = either applied other

  abbrev TargetBelow : Option TypeTree → Type 0
  TargetBelow None = Unit {0}
  TargetBelow (Some x) = Below x

  target : Shallow (rule.optional (rule.◌▷◌ (rule.mark k.Arrow) E)) (rule.optional (rule.◌▷◌ (rule.mark k.Arrow) E')) TargetBelow
  target = either (by (λ x. Some x) (after (rule.mark k.Arrow) s)) (same (rule.nothing None))

  sides : (at : At) (from : TypeTree) (to : Option TypeTree) → Within (g.arrow (at, (from, to))) → Within from × TargetBelow to
  sides at from None h = (h, tt)
  sides at from (Some to) h = let e = of_arrow at from to in (omega arith, omega arith)

  level : Shallow (g.level E) (g.level E') Within
  level = by g.arrow (when {B = λ x. Within x.1.0 × TargetBelow x.1.1} (λ x h. sides x.0 x.1.0 x.1.1 h) (at (seq operand target)))

-- A type derives at a depth above its nesting.
pub deep_enough : (depth n : ℕ) → Shallow (g.type_at depth) (g.type_at (suc n)) (λ x. type_nesting x ≤ n)
unfolding g.type_at
deep_enough zero n = record { takes = λ ts x w b. absurd w }
deep_enough (suc depth) zero = let s = level (g.type_at depth) (g.type_at zero) zero (record { takes = λ ts x w b. absurd (omega arith) }) in record { takes = s.takes }
deep_enough (suc depth) (suc n) =
    let s = level (g.type_at depth) (g.type_at (suc n)) (suc n) (when (λ x h. omega arith) (deep_enough depth n)) in record { takes = s.takes }

-- ---- all of the tokens

derived_is_read : (n : ℕ) (ts : List Lexeme) (x : TypeTree) → DerivesType ts x → type_nesting x ≤ n → m.type_at (suc n) ts ≡ Some (x, [])
derived_is_read n ts x w h =
    let s = deep_enough w.0 n in
    let r = type_reads (suc n) in
    sym (ap (m.type_at (suc n)) (append-nil ts)) ∙ r.complete ts [] x (s.takes ts x w.1 h) refl

read_derives : (n : ℕ) (ts rest : List Lexeme) (x : TypeTree) → m.type_at n ts ≡ Some (x, rest) → reader.is_done rest ≡ true → DerivesType ts x
read_derives n ts [] x e d =
    let r = type_reads n in
    let s = r.sound.reads ts [] x e in
    (n, subst (λ (z : List Lexeme). g.type_at n z x) (sym (s.1 ∙ append-nil s.0)) s.2)
read_derives n ts (t ∷ rest) x e d = cc

pub one_type : (ts : List Lexeme) (x y : TypeTree) → DerivesType ts x → DerivesType ts y → x ≡ y
one_type ts x y v w =
    let n = max (type_nesting x) (type_nesting y) in
    let a = derived_is_read n ts x v (omega arith) in
    let b = derived_is_read n ts y w (omega arith) in
    ap (λ z. z.0) (ok_same (sym a ∙ b))

pub decides : (n : ℕ) → Decides DerivesType type_nesting n (m.type_at (suc n))
decides n = record { sound = read_derives (suc n); complete = derived_is_read n }
