-- An expression derives at any depth that its nesting needs.
use Rattle.std.proofs.Common.{◌≡◌, ℕ, zero, suc, ◌+◌, ◌<◌, ◌≤◌, max, nat_le, true, false, not, List, [], ◌∷◌, length, map, refl, sym, ◌∙◌, ap, subst, arith, le-leb, ⊎_elim, append-nil, Some}
use Rattle.elm_base.specs.declared.token.At.{At}
use Rattle.elm_base.specs.declared.tree.Operator.{Operator}
use Rattle.elm_base.specs.declared.tree.Pattern.{Pattern}
use Rattle.elm_base.specs.declared.tree.Set.{Set}
use Rattle.elm_base.specs.declared.tree.Expr.{Expr}
use Rattle.elm_base.specs.declared.tree.Expr.TheVariants as e
use Rattle.elm_base.specs.declared.tree.Declaration.{Declaration}
use Rattle.grammar.specs.declared.terminal.Terminal.{Terminal}
use Rattle.grammar.specs.declared.terminal.Terminal.TheVariants as k
use Rattle.elm_base.specs.Lexemes.{Lexeme}
use Rattle.grammar.specs.Rules as rule
use Rattle.grammar.specs.Rules.{Rule, at_most_nine}
use Rattle.tree_nesting.specs.Nesting.{most, type_nesting, pattern_nesting}
use Rattle.tree_nesting.specs.ExpressionNesting.{expr_nesting, declaration_nesting, set_nesting}
use Rattle.pattern_parser.specs.Types.{type_at}
use Rattle.pattern_parser.specs.Patterns as patterns
use Rattle.pattern_parser.specs.Patterns.{cons_at}
use Rattle.expr_grammar.specs.Expressions as g
use Rattle.expr_grammar.specs.Expressions.{DerivesExpr}
use Rattle.expr_grammar.specs.ExprReader as m
use Rattle.grammar.specs.Reader as reader
use Rattle.grammar.proofs.Laws.{ok_same}
use Rattle.grammar.proofs.Wholes.{Decides}
use Rattle.expr_grammar.proofs.ExprReadings.{tree_reads}
use Rattle.tree_nesting.proofs.NestingLaws.{around_each, most_each, map_twice}
use Rattle.tree_nesting.proofs.ExprNestingLaws.{of_brackets, of_tuple, of_list, of_range, of_fields, of_extend, of_update, of_remove, of_set, of_chain, of_negate, of_call, of_access, of_lambda, of_if, of_guards, of_let, of_case, of_annotation, of_definition, of_pattern_definition}
use Rattle.grammar.proofs.Shallow.{Shallow, same, when, knowing, Values, seq, by, either, only, at, many, some, after, before, separated, block, linked}
use Rattle.tree_nesting.proofs.Each.{Each}
use Rattle.pattern_parser.proofs.TypeLaws as type_laws
use Rattle.pattern_parser.proofs.PatternLaws as pattern_laws

-- ---- types and patterns inside

deeper_type : (depth limit : ℕ) → Shallow (type_at depth) (type_at limit) (λ x. type_nesting x < limit)
deeper_type depth zero = record { takes = λ ts x w b. absurd (omega arith) }
deeper_type depth (suc n) = when (λ x h. omega arith) (type_laws.deep_enough depth n)

deeper_cons : (depth limit : ℕ) → Shallow (cons_at depth) (cons_at limit) (λ x. pattern_nesting x < limit)
deeper_cons depth zero = record { takes = λ ts x w b. absurd (omega arith) }
deeper_cons depth (suc n) = when (λ x h. omega arith) (pattern_laws.deep_enough depth n)

deeper_pattern : (depth limit : ℕ) → Shallow (patterns.whole (cons_at depth)) (patterns.whole (cons_at limit)) (λ x. pattern_nesting x < limit)
deeper_pattern depth zero = record { takes = λ ts x w b. absurd (omega arith) }
deeper_pattern depth (suc n) =
    when (λ x h. omega arith) (pattern_laws.whole_of (cons_at depth) (cons_at (suc n)) n (pattern_laws.deep_enough depth n))

-- ---- what all values of a rule are like

values_by : {A B : Type 0} {P : Rule A} (V : B → Type 0) (f : A → B) → ((x : A) → V (f x)) → Values (rule.◌<$>◌ f P) V
values_by V f h = record { are = λ ts y w. subst V (sym w.2) (h w.0) }

values_either : {A : Type 0} {P Q : Rule A} {V : A → Type 0} → Values P V → Values Q V → Values (rule.◌∣◌ P Q) V
values_either v w = record { are = λ ts x h. ⊎_elim (λ a. v.are ts x a) (λ b. w.are ts x b) h }

values_after : {A B : Type 0} (M : Rule A) {Q : Rule B} (V : B → Type 0) → Values Q V → Values (rule.◌▷◌ M Q) V
values_after M V v = record { are = λ ts y w. subst V (sym w.2) (v.are w.1.1 w.0.1 w.1.4) }

values_second : {A B : Type 0} (P : Rule A) {Q : Rule B} {V : B → Type 0} → Values Q V → Values (rule.◌⊗◌ P Q) (λ x. V x.1)
values_second P v = record { are = λ ts x w. v.are w.1 x.1 w.4 }

values_first : {A B : Type 0} {P : Rule A} (Q : Rule B) {V : A → Type 0} → Values P V → Values (rule.◌⊗◌ P Q) (λ x. V x.0)
values_first Q v = record { are = λ ts x w. v.are w.0 x.0 w.3 }

-- ---- parts of a nesting

most_within : {A : Type 0} (f : A → ℕ) (xs : List A) (limit : ℕ) → most (map f xs) ≤ limit → Each (λ x. f x ≤ limit) xs
most_within f [] limit h = tt
most_within f (x ∷ xs) limit h = (omega arith, most_within f xs limit (omega arith))

nests_accessed : (at : At) (x : Expr) (labels : List (List ℕ)) → expr_nesting (g.accessed_at at x labels) ≡ length labels + expr_nesting x
nests_accessed at x [] = omega arith
nests_accessed at x (label ∷ labels) = let f = nests_accessed at (e.Access at x label) labels in let g = of_access at x label in omega (arith, f, g)

le_true : (m n : ℕ) → m ≤ n → nat_le m n ≡ true
le_true m n h = le-leb m n h

-- what stands for a tree round the expression before it
abbrev Around : (At → Expr → Expr) → Type 0
Around f = (at : At) (x : Expr) → expr_nesting x < expr_nesting (f at x)

module _ (depth limit : ℕ) (W W' I I' : Rule Expr) (s : Shallow W W' (λ x. expr_nesting x < limit)) (inner : Shallow I I' (λ x. expr_nesting x < limit)) where
  abbrev pub G : g.Below
  G = record { depth = depth; whole = W; atom = I }

  abbrev pub L : g.Below
  L = record { depth = limit; whole = W'; atom = I' }

  abbrev Within : Expr → Type 0
  Within x = expr_nesting x ≤ limit

  abbrev Below : Expr → Type 0
  Below x = expr_nesting x < limit

  abbrev SetBelow : Set → Type 0
  SetBelow x = set_nesting x < limit

  -- what stands for a tree at some place, or round some expression
  abbrev Somewhere : (At → Expr) → Type 0
  Somewhere f = (at : At) × Within (f at)

  abbrev RoundSome : (At → Expr → Expr) → Type 0
  RoundSome f = (at : At) × (x : Expr) × Within (f at x)

  inside : (at : At) (xs : List Expr) → Within (g.enclosed (at, xs)) → Each Below xs
  inside at [] h = tt
  inside at (x ∷ []) h = let e = of_brackets at x in (omega arith, tt)
  inside at (x ∷ y ∷ ys) h = around_each expr_nesting (x ∷ y ∷ ys) limit (let e = of_tuple at (x ∷ y ∷ ys) in omega arith)

  parts : Shallow (g.parts G) (g.parts L) Somewhere
  parts =
      by {C = Somewhere} _ (when {B = Each Below} (λ xs h. inside h.0 xs h.1)
      (before (rule.mark k.RightParen) (only at_most_nine (either (separated s) (same (rule.nothing []))))))

  brackets : Shallow (g.brackets G) (g.brackets L) Within
  brackets =
      by _ (when {B = λ x. Somewhere x.1} (λ x h. (x.0, h))
      (at (after (rule.mark k.LeftParen) (either (same g.operator_name) (either (same g.tuple_maker) parts)))))

  behind_low : Shallow (g.behind_low G) (g.behind_low L) RoundSome
  behind_low = by {C = RoundSome} _ (when {B = Below} (λ high h. let e = of_range h.0 h.1 high in let b = h.2 in omega (arith, e, b)) (after (rule.mark k.DotDot) s))

  behind_part : Shallow (g.behind_part G) (g.behind_part L) RoundSome
  behind_part =
      by {C = RoundSome} _ (when {B = Each Below} (λ xs h. most_each expr_nesting xs limit (let e = of_list h.0 (h.1 ∷ xs) in let b = h.2 in omega (arith, e, b)))
      (many (after (rule.mark k.Comma) s)))

  low_around : Values (g.behind_low G) Around
  low_around = values_by Around _ (λ high at x. let e = of_range at x high in omega (arith, e))

  part_around : Values (g.behind_part G) Around
  part_around = values_by Around _ (λ xs at x. let e = of_list at (x ∷ xs) in omega (arith, e))

  inside_list : Shallow (g.inside_list G) (g.inside_list L) Somewhere
  inside_list =
      either (by {C = Somewhere} _ (knowing {B = λ x. Below x.0 × RoundSome x.1} {V = λ x. Around x.1} (values_second _ (values_either low_around part_around))
      (λ x v h. let a = v h.0 x.0 in let b = h.1 in (omega (arith, a, b), (h.0, x.0, h.1))) (seq s (either behind_low behind_part)))) (same (rule.nothing _))

  list : Shallow (g.list G) (g.list L) Within
  list =
      by _ (when {B = λ x. Somewhere x.1} (λ x h. (x.0, h))
      (at (after (rule.mark k.LeftBracket) (before (rule.mark k.RightBracket) inside_list))))

  -- ---- records

  set : (symbol : Terminal) → Shallow (g.set G symbol) (g.set L symbol) SetBelow
  set symbol =
      by {C = SetBelow} g.set_of (when {B = λ x. Unit {0} × Below x.1.1} (λ x h. (tt, let e = of_set x.0 x.1.0 x.1.1 in omega (arith, e, h)))
      (at (seq (same (rule.name k.Lower)) (after (rule.mark symbol) s))))

  fields : Shallow (g.fields G) (g.fields L) Somewhere
  fields =
      by {C = Somewhere} _ (when {B = Each SetBelow} (λ sets h. around_each set_nesting sets limit (let e = of_fields h.0 sets in let b = h.1 in omega (arith, e, b)))
      (separated (set k.Equals)))

  extended : Shallow (g.extended G) (g.extended L) RoundSome
  extended =
      by {C = RoundSome} _ (when {B = Each SetBelow} (λ sets h. most_each set_nesting sets limit (let e = of_extend h.0 h.1 sets in let b = h.2 in omega (arith, e, b)))
      (separated (set k.Equals)))

  updated : Shallow (g.updated G) (g.updated L) RoundSome
  updated =
      by {C = RoundSome} _ (when {B = Each SetBelow} (λ sets h. most_each set_nesting sets limit (let e = of_update h.0 h.1 sets in let b = h.2 in omega (arith, e, b)))
      (separated (set k.LeftArrow)))

  new_fields : Shallow (g.new_fields G) (g.new_fields L) (Each SetBelow)
  new_fields = either (after (rule.mark k.Bar) (separated (set k.Equals))) (same (rule.nothing []))

  removed : Shallow (g.removed G) (g.removed L) RoundSome
  removed =
      by {C = RoundSome} _ (when {B = λ x. Unit {0} × Each SetBelow x.1}
      (λ x h. (tt, most_each set_nesting x.1 limit (let e = of_remove h.0 h.1 x.0 x.1 in let b = h.2 in omega (arith, e, b))))
      (after (rule.mark k.Minus) (seq (same (rule.name k.Lower)) new_fields)))

  bar_around : Values (rule.◌▷◌ (rule.mark k.Bar) (rule.◌∣◌ (g.extended G) (g.updated G))) Around
  bar_around =
      values_after _ Around (values_either (values_by Around _ (λ sets at x. let e = of_extend at x sets in omega (arith, e)))
      (values_by Around _ (λ sets at x. let e = of_update at x sets in omega (arith, e))))

  removed_around : Values (g.removed G) Around
  removed_around = values_by Around _ (λ y at x. let e = of_remove at x y.0 y.1 in omega (arith, e))

  over_record : Shallow (g.over_record G) (g.over_record L) Somewhere
  over_record =
      by {C = Somewhere} _ (knowing {B = λ x. Below x.0 × RoundSome x.1} {V = λ x. Around x.1} (values_second _ (values_either bar_around removed_around))
      (λ x v h. let a = v h.0 x.0 in let b = h.1 in (omega (arith, a, b), (h.0, x.0, h.1)))
      (seq inner (either (after (rule.mark k.Bar) (either extended updated)) removed)))

  braces : Shallow (g.braces G) (g.braces L) Within
  braces =
      by _ (when {B = λ x. Somewhere x.1} (λ x h. (x.0, h))
      (at (after (rule.mark k.LeftBrace) (before (rule.mark k.RightBrace) (either (either fields over_record) (same (rule.nothing _)))))))

  primary : Shallow (g.primary G) (g.primary L) Within
  primary =
      either (same g.int) (either (same g.char_) (either (same g.text) (either (same g.variable) (either (same g.constructor) (either (same g.field_function)
      (either brackets (either list braces)))))))

  abbrev FewLabels : List (List ℕ) → Type 0
  FewLabels labels = length labels ≤ limit

  accesses : Shallow (rule.only (λ labels. nat_le (length labels) depth) (rule.many (g.access G))) (rule.only (λ labels. nat_le (length labels) limit) (rule.many (g.access L))) FewLabels
  accesses = record { takes = λ ts xs w b. (w.0, le_true (length xs) limit b) }

  atom : Shallow (g.atom G) (g.atom L) Within
  atom =
      by g.accessed (when {B = λ x. Within x.1.0 × FewLabels x.1.1} (λ x h. let e = nests_accessed x.0 x.1.0 x.1.1 in (omega (arith, e, h), omega (arith, e, h)))
      (at (seq primary accesses)))

  of_application : (at : At) (f : Expr) (xs : List Expr) → Within (g.applied (at, (f, xs))) → Within f × Each Within xs
  of_application at f [] h = (h, tt)
  of_application at f (x ∷ xs) h = let e = of_call at f (x ∷ xs) in (omega (arith, e), most_within expr_nesting (x ∷ xs) limit (omega (arith, e)))

  application : Shallow (g.application G) (g.application L) Within
  application = by g.applied (when {B = λ x. Within x.1.0 × Each Within x.1.1} (λ x h. of_application x.0 x.1.0 x.1.1 h) (at (seq atom (many atom))))

  negation : Shallow (g.negation G) (g.negation L) Within
  negation = by {C = Within} _ (when {B = λ x. Within x.1} (λ x h. let e = of_negate x.0 x.1 in omega (arith, e, h)) (at (after (rule.mark k.Minus) application)))

  operand : Shallow (g.operand G) (g.operand L) Within
  operand = either negation application

  -- ---- the forms that take all behind them

  abbrev PatternBelow : Pattern → Type 0
  PatternBelow x = pattern_nesting x < limit

  parameter : Shallow (g.parameter G) (g.parameter L) PatternBelow
  parameter =
      when {B = λ x. pattern_nesting x ≤ limit} (λ x h. omega arith)
      (pattern_laws.part (cons_at depth) (cons_at limit) limit (deeper_cons depth limit) (deeper_pattern depth limit))

  some_parameter : Values (rule.some (g.parameter G)) (λ xs. 1 ≤ length xs)
  some_parameter = values_by (λ xs. 1 ≤ length xs) _ (λ x. omega arith)

  lambda : Shallow (g.lambda G) (g.lambda L) Within
  lambda =
      by {C = Within} _ (when {B = λ x. Each PatternBelow x.1.0 × (1 ≤ length x.1.0 → Below x.1.1)}
      (λ x h. let e = of_lambda x.0 x.1.0 x.1.1 in (around_each pattern_nesting x.1.0 limit (omega (arith, e, h)), λ n. omega (arith, e, h, n)))
      (at {B = λ x. Each PatternBelow x.0 × (1 ≤ length x.0 → Below x.1)} (after (rule.mark k.Backslash) (knowing {B = λ x. Each PatternBelow x.0 × Below x.1} (values_first _ some_parameter) (λ x v h. (h.0, h.1 v))
      (seq (some parameter) (after (rule.mark k.Arrow) s))))))

  two_way : Shallow (g.two_way G) (g.two_way L) Somewhere
  two_way =
      by {C = Somewhere} _ (when {B = λ x. Below x.0 × (Below x.1.0 × Below x.1.1)}
      (λ x h. let e = of_if h.0 x.0 x.1.0 x.1.1 in let b = h.1 in (omega (arith, e, b), (omega (arith, e, b), omega (arith, e, b))))
      (seq s (seq (after (rule.mark k.Then) s) (after (rule.mark k.Else) s))))

  abbrev GuardBelow : Expr × Expr → Type 0
  GuardBelow x = max (expr_nesting x.0) (expr_nesting x.1) < limit

  guard : Shallow (g.guard G) (g.guard L) GuardBelow
  guard =
      when {B = λ x. Below x.0 × Below x.1} (λ x h. (omega arith, omega arith))
      (seq (after (rule.mark k.Bar) s) (after (rule.mark k.Arrow) (only (λ x. not (g.ends_in_guards x)) s)))

  multi_way : Shallow (g.multi_way G) (g.multi_way L) Somewhere
  multi_way =
      by {C = Somewhere} _ (when {B = Each GuardBelow}
      (λ xs h. around_each (λ (x : Expr × Expr). max (expr_nesting x.0) (expr_nesting x.1)) xs limit (let e = of_guards h.0 xs in let b = h.1 in omega (arith, e, b)))
      (some guard))

  conditional : Shallow (g.conditional G) (g.conditional L) Within
  conditional = by {C = Within} _ (when {B = λ x. Somewhere x.1} (λ x h. (x.0, h)) (at (after (rule.mark k.If) (either two_way multi_way))))

  -- ---- definitions

  abbrev DeclarationBelow : Declaration → Type 0
  DeclarationBelow x = declaration_nesting x < limit

  abbrev OfSomeName : (At → List ℕ → Declaration) → Type 0
  OfSomeName f = (at : At) × (name : List ℕ) × DeclarationBelow (f at name)

  annotated : Shallow (g.annotated G) (g.annotated L) OfSomeName
  annotated =
      by {C = OfSomeName} _ (when {B = λ x. type_nesting x < limit} (λ x h. let e = of_annotation h.0 h.1 x in let b = h.2 in omega (arith, e, b))
      (after (rule.mark k.Colon) (deeper_type depth limit)))

  defined : Shallow (g.defined G) (g.defined L) OfSomeName
  defined =
      by {C = OfSomeName} _ (when {B = λ x. Each PatternBelow x.0 × Below x.1}
      (λ x h. let e = of_definition h.0 h.1 x.0 x.1 in let b = h.2 in (most_each pattern_nesting x.0 limit (omega (arith, e, b)), omega (arith, e, b)))
      (seq (many parameter) (after (rule.mark k.Equals) s)))

  named_definition : Shallow (g.named_definition G) (g.named_definition L) DeclarationBelow
  named_definition =
      by {C = DeclarationBelow} _ (when {B = λ x. Unit {0} × OfSomeName x.1.1} (λ x h. (tt, (x.0, x.1.0, h)))
      (at (seq (same (rule.name k.Lower)) (either annotated defined))))

  compound : Shallow (g.compound G) (g.compound L) PatternBelow
  compound =
      when {B = λ x. pattern_nesting x ≤ limit} (λ x h. omega arith)
      (either (only (λ x. not (g.is_brackets x)) (pattern_laws.brackets (cons_at depth) (cons_at limit) limit (deeper_cons depth limit) (deeper_pattern depth limit)))
      (same patterns.labels))

  pattern_definition : Shallow (g.pattern_definition G) (g.pattern_definition L) DeclarationBelow
  pattern_definition =
      by {C = DeclarationBelow} _ (when {B = λ x. PatternBelow x.1.0 × Below x.1.1}
      (λ x h. let e = of_pattern_definition x.0 x.1.0 x.1.1 in (omega (arith, e, h), omega (arith, e, h)))
      (at (seq compound (after (rule.mark k.Equals) s))))

  definition : Shallow (g.definition G) (g.definition L) DeclarationBelow
  definition = either named_definition pattern_definition

  let_in : Shallow (g.let_in G) (g.let_in L) Within
  let_in =
      by {C = Within} _ (when {B = λ x. Each DeclarationBelow x.1.0 × Below x.1.1}
      (λ x h. let e = of_let x.0 x.1.0 x.1.1 in (most_each declaration_nesting x.1.0 limit (omega (arith, e, h)), omega (arith, e, h)))
      (at (after (rule.mark k.Let) (seq (only g.annotations_stand (block definition)) (after (rule.mark k.In) s)))))

  abbrev BranchBelow : Pattern × Expr → Type 0
  BranchBelow x = max (pattern_nesting x.0) (expr_nesting x.1) < limit

  branch : Shallow (g.branch G) (g.branch L) BranchBelow
  branch =
      when {B = λ x. PatternBelow x.0 × Below x.1} (λ x h. (omega arith, omega arith)) (seq (deeper_pattern depth limit) (after (rule.mark k.Arrow) s))

  case_of : Shallow (g.case_of G) (g.case_of L) Within
  case_of =
      by {C = Within} _ (when {B = λ x. Below x.1.0 × Each BranchBelow x.1.1}
      (λ x h. let e = of_case x.0 x.1.0 x.1.1 in (
        omega (arith, e, h),
        most_each (λ (x : Pattern × Expr). max (pattern_nesting x.0) (expr_nesting x.1)) x.1.1 limit (omega (arith, e, h)),
      ))
      (at (after (rule.mark k.Case) (seq s (after (rule.mark k.Of) (block branch))))))

  last_form : Shallow (g.last_form G) (g.last_form L) Within
  last_form = either lambda (either conditional (either let_in case_of))

  -- ---- the whole

  abbrev LinkWithin : Operator × Expr → Type 0
  LinkWithin x = Within x.1

  of_links : (at : At) (first : Expr) (links : List (Operator × Expr)) → Within (g.chained (at, (first, links))) → Within first × Each LinkWithin links
  of_links at first [] h = (h, tt)
  of_links at first (x ∷ xs) h =
      let e = of_chain at (first ∷ map (λ link. link.1) (x ∷ xs)) (map (λ link. link.0) (x ∷ xs)) in
      let twice = map_twice expr_nesting (λ (link : Operator × Expr). link.1) (x ∷ xs) in
      let less : most (map expr_nesting (map (λ (link : Operator × Expr). link.1) (x ∷ xs))) ≤ limit = omega (arith, e) in
      (omega (arith, e), most_within (λ link. expr_nesting link.1) (x ∷ xs) limit (subst (λ (z : List ℕ). most z ≤ limit) twice less))

  chain : Shallow (g.chain G) (g.chain L) Within
  chain =
      by g.chained (when {B = λ x. Within x.1.0 × Each LinkWithin x.1.1} (λ x h. of_links x.0 x.1.0 x.1.1 h) (at (seq operand (linked g.operator operand last_form))))

  level : Shallow (g.level G) (g.level L) Within
  level = either last_form chain

-- An expression and an atom alone derive at a depth above their nesting.
record DeepEnough (depth n : ℕ) : Type 0 where
  pub whole : Shallow (g.tree_at false depth) (g.tree_at false (suc n)) (λ x. expr_nesting x ≤ n)
  pub alone : Shallow (g.tree_at true depth) (g.tree_at true (suc n)) (λ x. expr_nesting x ≤ n)

none_below : (P P' : Rule Expr) → Shallow P P' (λ x. expr_nesting x < 0)
none_below P P' = record { takes = λ ts x w b. absurd (omega arith) }

deep_enough : (depth n : ℕ) → DeepEnough depth n
unfolding g.tree_at
deep_enough zero n = record { whole = record { takes = λ ts x w b. absurd w }; alone = record { takes = λ ts x w b. absurd w } }
deep_enough (suc depth) zero =
    let s = none_below (g.tree_at false depth) (g.tree_at false zero) in
    let t = none_below (g.tree_at true depth) (g.tree_at true zero) in
    let l = level depth zero (g.tree_at false depth) (g.tree_at false zero) (g.tree_at true depth) (g.tree_at true zero) s t in
    let a = atom depth zero (g.tree_at false depth) (g.tree_at false zero) (g.tree_at true depth) (g.tree_at true zero) s t in
    record { whole = record { takes = l.takes }; alone = record { takes = a.takes } }
deep_enough (suc depth) (suc n) =
    let d = deep_enough depth n in
    let s : Shallow (g.tree_at false depth) (g.tree_at false (suc n)) (λ x. expr_nesting x < suc n) = when (λ x h. omega arith) d.whole in
    let t : Shallow (g.tree_at true depth) (g.tree_at true (suc n)) (λ x. expr_nesting x < suc n) = when (λ x h. omega arith) d.alone in
    let l = level depth (suc n) (g.tree_at false depth) (g.tree_at false (suc n)) (g.tree_at true depth) (g.tree_at true (suc n)) s t in
    let a = atom depth (suc n) (g.tree_at false depth) (g.tree_at false (suc n)) (g.tree_at true depth) (g.tree_at true (suc n)) s t in
    record { whole = record { takes = l.takes }; alone = record { takes = a.takes } }

-- ---- all of the tokens

derived_is_read : (n : ℕ) (ts : List Lexeme) (x : Expr) → DerivesExpr ts x → expr_nesting x ≤ n → m.tree_at false (suc n) ts ≡ Some (x, [])
derived_is_read n ts x w h =
    let s = deep_enough w.0 n in
    let r = tree_reads (suc n) in
    let v = r.whole in
    let u = s.whole in
    sym (ap (m.tree_at false (suc n)) (append-nil ts)) ∙ v.complete ts [] x (u.takes ts x w.1 h) refl

read_derives : (n : ℕ) (ts rest : List Lexeme) (x : Expr) → m.tree_at false n ts ≡ Some (x, rest) → reader.is_done rest ≡ true → DerivesExpr ts x
read_derives n ts [] x e d =
    let r = tree_reads n in
    let v = r.whole in
    let s = v.sound.reads ts [] x e in
    (n, subst (λ (z : List Lexeme). g.tree_at false n z x) (sym (s.1 ∙ append-nil s.0)) s.2)
read_derives n ts (t ∷ rest) x e d = cc

pub one_expr : (ts : List Lexeme) (x y : Expr) → DerivesExpr ts x → DerivesExpr ts y → x ≡ y
one_expr ts x y v w =
    let n = max (expr_nesting x) (expr_nesting y) in
    let a = derived_is_read n ts x v (omega arith) in
    let b = derived_is_read n ts y w (omega arith) in
    ap (λ z. z.0) (ok_same (sym a ∙ b))

pub decides : (n : ℕ) → Decides DerivesExpr expr_nesting n (m.tree_at false (suc n))
decides n = record { sound = read_derives (suc n); complete = derived_is_read n }
