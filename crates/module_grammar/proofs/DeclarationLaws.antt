-- A declaration derives at any depth that its nesting needs, and so only one derives from a list of tokens.
use Rattle.std.proofs.Common.{◌≡◌, ℕ, suc, ◌≤◌, max, true, false, List, [], ◌∷◌, map, Some, refl, sym, ◌∙◌, ap, subst, append-nil, arith}
use Rattle.elm_base.specs.declared.token.At.{At}
use Rattle.elm_base.specs.declared.tree.Spot.{Spot}
use Rattle.elm_base.specs.declared.tree.Pattern.{Pattern}
use Rattle.elm_base.specs.declared.tree.TypeTree.{TypeTree}
use Rattle.elm_base.specs.declared.tree.Constructor.{Constructor}
use Rattle.elm_base.specs.declared.tree.Expr.{Expr}
use Rattle.elm_base.specs.declared.tree.Declaration.{Declaration}
use Rattle.elm_base.specs.declared.tree.Declaration.TheVariants as d
use Rattle.elm_base.specs.declared.tree.Declaration.TheOpen as tree
use Rattle.elm_base.specs.declared.tree.Declaration.TheFolds.{fold-roll-Declaration}
use Rattle.elm_base.specs.Lexemes.{Lexeme}
use Rattle.grammar.specs.declared.terminal.Terminal.TheVariants as k
use Rattle.grammar.specs.Rules as rule
use Rattle.grammar.specs.Reader as reader
use Rattle.grammar.proofs.Laws.{ok_same}
use Rattle.grammar.proofs.Wholes.{Decides}
use Rattle.grammar.proofs.Shallow.{Shallow, same, when, seq, by, either, at, many, after}
use Rattle.tree_nesting.specs.Nesting.{most, type_nesting, pattern_nesting}
use Rattle.tree_nesting.specs.ExpressionNesting.{expr_step, declaration_step, expr_nesting, declaration_nesting}
use Rattle.tree_nesting.proofs.Each.{Each}
use Rattle.tree_nesting.proofs.ExprNestingLaws.{of_annotation, of_definition}
use Rattle.pattern_parser.specs.Types as types
use Rattle.pattern_parser.specs.Types.{type_at}
use Rattle.pattern_parser.specs.Patterns as patterns
use Rattle.pattern_parser.specs.Patterns.{cons_at}
use Rattle.pattern_parser.proofs.TypeLaws as type_laws
use Rattle.pattern_parser.proofs.PatternLaws as pattern_laws
use Rattle.expr_grammar.specs.Expressions as exprs
use Rattle.expr_grammar.specs.Expressions.{tree_at}
use Rattle.expr_grammar.specs.ExprReader.{below}
use Rattle.expr_grammar.proofs.ExprReadings.{tree_reads}
use Rattle.expr_grammar.proofs.ExprLaws as expr_laws
use Rattle.module_grammar.specs.Declarations as g
use Rattle.module_grammar.specs.Declarations.{DerivesDeclaration, rules_at}
use Rattle.module_grammar.specs.DeclarationReader as m
use Rattle.module_grammar.proofs.DeclarationReadings.{declaration_reads}

-- ---- nesting

of_union : (at : At) (name : Spot) (ps : List Spot) (made : List Constructor)
    → declaration_nesting (d.Union at name ps made) ≡ most (map (λ (x : Constructor). most (map type_nesting x.arguments)) made)
of_union at name ps made =
    ap declaration_nesting (sym (d.rolls-Union at name ps made)) ∙ fold-roll-Declaration ℕ ℕ ℕ declaration_step expr_step (λ set. set.value) (tree.Union at name ps made)

of_alias : (at : At) (name : Spot) (ps : List Spot) (x : TypeTree) → declaration_nesting (d.Alias at name ps x) ≡ type_nesting x
of_alias at name ps x =
    ap declaration_nesting (sym (d.rolls-Alias at name ps x)) ∙ fold-roll-Declaration ℕ ℕ ℕ declaration_step expr_step (λ set. set.value) (tree.Alias at name ps x)

of_port_annotation : (at : At) (name : Spot) (x : TypeTree) → declaration_nesting (d.PortAnnotation at name x) ≡ type_nesting x
of_port_annotation at name x =
    ap declaration_nesting (sym (d.rolls-PortAnnotation at name x)) ∙ fold-roll-Declaration ℕ ℕ ℕ declaration_step expr_step (λ set. set.value) (tree.PortAnnotation at name x)

of_port_definition : (at : At) (name : Spot) (x : Expr) → declaration_nesting (d.PortDefinition at name x) ≡ expr_nesting x
of_port_definition at name x =
    ap declaration_nesting (sym (d.rolls-PortDefinition at name x)) ∙ fold-roll-Declaration ℕ ℕ ℕ declaration_step expr_step (λ set. set.value) (tree.PortDefinition at name x)

each_within : {A : Type 0} (f : A → ℕ) (xs : List A) (limit : ℕ) → most (map f xs) ≤ limit → Each (λ x. f x ≤ limit) xs
each_within f [] limit h = tt
each_within f (x ∷ xs) limit h = (omega arith, each_within f xs limit (omega arith))

-- ---- from any depth to one above the nesting

module _ (depth n : ℕ) where
  abbrev TypeWithin : TypeTree → Type 0
  TypeWithin x = type_nesting x ≤ n

  abbrev PatternWithin : Pattern → Type 0
  PatternWithin x = pattern_nesting x ≤ n

  abbrev ExprWithin : Expr → Type 0
  ExprWithin x = expr_nesting x ≤ n

  abbrev Within : Declaration → Type 0
  Within x = declaration_nesting x ≤ n

  type_ : Shallow (type_at depth) (type_at (suc n)) TypeWithin
  type_ = type_laws.deep_enough depth n

  argument : Shallow (types.argument (type_at depth)) (types.argument (type_at (suc n))) TypeWithin
  argument = type_laws.argument (type_at depth) (type_at (suc n)) n (when (λ x h. omega arith) type_)

  parameter : Shallow (patterns.part (cons_at depth)) (patterns.part (cons_at (suc n))) PatternWithin
  parameter =
      let cons = pattern_laws.deep_enough depth n in
      let whole = pattern_laws.whole_of (cons_at depth) (cons_at (suc n)) n cons in
      pattern_laws.part (cons_at depth) (cons_at (suc n)) n (when (λ x h. omega arith) cons) (when (λ x h. omega arith) whole)

  expr : Shallow (tree_at false depth) (tree_at false (suc n)) ExprWithin
  expr = record {
    takes = λ ts x w h.
        let d = expr_laws.decides n in
        let t = tree_reads (suc n) in
        let r = t.whole in
        let s = r.sound.reads ts [] x (d.complete ts x (depth, w) h) in
        subst (λ (z : List Lexeme). tree_at false (suc n) z x) (sym (s.1 ∙ append-nil s.0)) s.2;
  }

  -- ---- declarations

  abbrev G : exprs.Below
  G = rules_at depth

  abbrev L : exprs.Below
  L = rules_at (suc n)

  abbrev MadeWithin : Constructor → Type 0
  MadeWithin x = Each TypeWithin x.arguments

  made_within : (xs : List Constructor) → Each (λ (x : Constructor). most (map type_nesting x.arguments) ≤ n) xs → Each MadeWithin xs
  made_within [] h = tt
  made_within (x ∷ xs) h = (each_within type_nesting x.arguments n h.0, made_within xs h.1)

  constructor : Shallow (g.constructor G) (g.constructor L) MadeWithin
  constructor =
      by {C = MadeWithin} _ (when {B = λ x. Unit {0} × Each TypeWithin x.1.1} (λ x h. (tt, h)) (at (seq (same g.upper) (many argument))))

  constructors : Shallow (g.constructors G) (g.constructors L) (Each MadeWithin)
  constructors = by {C = Each MadeWithin} _ (when (λ x h. h) (seq constructor (many (after (rule.mark k.Bar) constructor))))

  abbrev Somewhere : (At → Declaration) → Type 0
  Somewhere f = (at : At) × Within (f at)

  abbrev OfSomeSpot : (At → Spot → Declaration) → Type 0
  OfSomeSpot f = (at : At) × (name : Spot) × Within (f at name)

  abbrev OfSomeName : (At → List ℕ → Declaration) → Type 0
  OfSomeName f = (at : At) × (name : List ℕ) × Within (f at name)

  union : Shallow (g.union G) (g.union L) Somewhere
  union =
      by {C = Somewhere} _ (when {B = λ x. Unit {0} × (Unit {0} × Each MadeWithin x.1.1)}
      (λ x h. let e = of_union h.0 x.0 x.1.0 x.1.1 in let b = h.1 in
      (tt, (tt, made_within x.1.1 (each_within (λ (made : Constructor). most (map type_nesting made.arguments)) x.1.1 n (omega (arith, e, b))))))
      (seq (same g.upper_spot) (seq (same (rule.many rule.spot)) (after (rule.mark k.Equals) constructors))))

  alias : Shallow (g.alias G) (g.alias L) Somewhere
  alias =
      by {C = Somewhere} _ (when {B = λ x. Unit {0} × (Unit {0} × TypeWithin x.1.1)}
      (λ x h. let e = of_alias h.0 x.0 x.1.0 x.1.1 in let b = h.1 in (tt, (tt, omega (arith, e, b))))
      (after (rule.mark k.Alias) (seq (same g.upper_spot) (seq (same (rule.many rule.spot)) (after (rule.mark k.Equals) type_)))))

  type_declaration : Shallow (g.type_declaration G) (g.type_declaration L) Within
  type_declaration = by {C = Within} _ (when {B = λ x. Somewhere x.1} (λ x h. (x.0, h)) (at (after (rule.mark k.Type) (either alias union))))

  port_annotated : Shallow (g.port_annotated G) (g.port_annotated L) OfSomeSpot
  port_annotated =
      by {C = OfSomeSpot} _ (when {B = TypeWithin} (λ x h. let e = of_port_annotation h.0 h.1 x in let b = h.2 in omega (arith, e, b))
      (after (rule.mark k.Colon) type_))

  port_defined : Shallow (g.port_defined G) (g.port_defined L) OfSomeSpot
  port_defined =
      by {C = OfSomeSpot} _ (when {B = ExprWithin} (λ x h. let e = of_port_definition h.0 h.1 x in let b = h.2 in omega (arith, e, b))
      (after (rule.mark k.Equals) expr))

  port : Shallow (g.port G) (g.port L) Within
  port =
      by {C = Within} _ (when {B = λ x. Unit {0} × OfSomeSpot x.1.1} (λ x h. (tt, (x.0, x.1.0, h)))
      (at (after (rule.mark k.Port) (seq (same rule.spot) (either port_annotated port_defined)))))

  annotated : Shallow (exprs.annotated G) (exprs.annotated L) OfSomeName
  annotated =
      by {C = OfSomeName} _ (when {B = TypeWithin} (λ x h. let e = of_annotation h.0 h.1 x in let b = h.2 in omega (arith, e, b))
      (after (rule.mark k.Colon) type_))

  defined : Shallow (exprs.defined G) (exprs.defined L) OfSomeName
  defined =
      by {C = OfSomeName} _ (when {B = λ x. Each PatternWithin x.0 × ExprWithin x.1}
      (λ x h. let e = of_definition h.0 h.1 x.0 x.1 in let b = h.2 in (each_within pattern_nesting x.0 n (omega (arith, e, b)), omega (arith, e, b)))
      (seq (many parameter) (after (rule.mark k.Equals) expr)))

  named_declaration : Shallow (g.named_declaration G) (g.named_declaration L) Within
  named_declaration =
      by {C = Within} _ (when {B = λ x. Unit {0} × OfSomeName x.1.1} (λ x h. (tt, (x.0, x.1.0, h)))
      (at (seq (same g.own_name) (either annotated defined))))

  pub declaration : Shallow (g.declaration G) (g.declaration L) Within
  declaration = either type_declaration (either port (either (same g.levels) named_declaration))

-- ---- all of the tokens

derived_is_read : (n : ℕ) (ts : List Lexeme) (x : Declaration) → DerivesDeclaration ts x → declaration_nesting x ≤ n
    → m.declaration (below (suc n)) ts ≡ Some (x, [])
derived_is_read n ts x w h =
    let s = declaration w.0 n in
    let r = declaration_reads (suc n) in
    sym (ap (m.declaration (below (suc n))) (append-nil ts)) ∙ r.complete ts [] x (s.takes ts x w.1 h) refl

read_derives : (n : ℕ) (ts rest : List Lexeme) (x : Declaration) → m.declaration (below n) ts ≡ Some (x, rest) → reader.is_done rest ≡ true
    → DerivesDeclaration ts x
read_derives n ts [] x e d =
    let r = declaration_reads n in
    let s = r.sound.reads ts [] x e in
    (n, subst (λ (z : List Lexeme). g.declaration (rules_at n) z x) (sym (s.1 ∙ append-nil s.0)) s.2)
read_derives n ts (t ∷ rest) x e d = cc

pub one_declaration : (ts : List Lexeme) (x y : Declaration) → DerivesDeclaration ts x → DerivesDeclaration ts y → x ≡ y
one_declaration ts x y v w =
    let n = max (declaration_nesting x) (declaration_nesting y) in
    let a = derived_is_read n ts x v (omega arith) in
    let b = derived_is_read n ts y w (omega arith) in
    ap (λ z. z.0) (ok_same (sym a ∙ b))

pub decides : (n : ℕ) → Decides DerivesDeclaration declaration_nesting n (m.declaration (below (suc n)))
decides n = record { sound = read_derives (suc n); complete = derived_is_read n }
