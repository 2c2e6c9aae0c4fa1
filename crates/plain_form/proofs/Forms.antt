-- The plain form of each form of tree.
use Rattle.std.proofs.Common.{◌≡◌, ℕ, ℤ, List, [], ◌∷◌, map, refl, sym, ap, ◌∙◌, Bool, true, false, ◌≢◌, codes}
use Rattle.std.specs.Prelude.{if◌then◌else◌}
use Rattle.std.specs.Str.{bytes_eq}
use Rattle.std.specs.declared.cmp.Ordering.{Ordering}
use Rattle.std.specs.declared.cmp.Ordering.TheVariants as ordering
use Rattle.std.specs.Cmp.Lexicographic.{slice_cmp}
use Rattle.std.specs.Ordering.{nat_cmp, is_eq}
use Rattle.std.proofs.lemmas.Map.Lookups.{exact_bytes}
use Rattle.std.proofs.lemmas.Map.Text.{is_eq-slice_cmp}
use Rattle.elm_base.specs.declared.token.At.{At}
use Rattle.elm_base.specs.declared.native.TheConstants.{NEGATE}
use Rattle.elm_base.specs.declared.term.Literal.TheVariants as literal
use Rattle.elm_base.specs.declared.tree.Operator.{Operator}
use Rattle.elm_base.specs.declared.tree.Spot.{Spot}
use Rattle.elm_base.specs.declared.tree.TypeTree.{TypeTree}
use Rattle.elm_base.specs.declared.tree.Pattern.{Pattern}
use Rattle.elm_base.specs.declared.tree.Pattern.TheOpen as pattern
use Rattle.elm_base.specs.declared.tree.Pattern.TheFolds.{fold-roll-Pattern}
use Rattle.elm_base.specs.declared.tree.Pattern.TheVariants as p
use Rattle.elm_base.specs.declared.tree.Set.{Set}
use Rattle.elm_base.specs.declared.tree.Expr.{Expr}
use Rattle.elm_base.specs.declared.tree.Expr.TheVariants as e
use Rattle.elm_base.specs.declared.tree.Declaration.{Declaration}
use Rattle.elm_base.specs.declared.tree.Declaration.TheVariants as d
use Rattle.elm_base.specs.declared.tree.Declaration.TheOpen as tree
use Rattle.elm_base.specs.declared.tree.Declaration.TheFolds.{fold-roll-Expr, fold-roll-Declaration}
use Rattle.typing_rules.specs.CorePatterns.{CorePattern}
use Rattle.typing_rules.specs.Core.{Core, Local, Literal, Native, Lambda, Call, If, Guards, Case, Tuple, ListOf, Range, Fields, Update, Extend, Remove, Field}
use Rattle.plain_form.specs.Naming.{Naming}
use Rattle.plain_form.specs.PlainForm.{cores, patterns, fields, guards, branches, call, lambdas, no_core, listed, made_of, label_of, pattern_step, plain_pattern, parameters, binders, use_of, operation, with_fields, truth, falsehood, Defined, Annotated, Named, Apart, groups_before, expr_step, declaration_step, plain, plain_definition, plain_set}

pub map_twice : {A B C : Type 0} (f : B → C) (g : A → B) (xs : List A) → map f (map g xs) ≡ map (λ x. f (g x)) xs
map_twice f g [] = refl
map_twice f g (x ∷ xs) = ap (λ ys. f (g x) ∷ ys) (map_twice f g xs)

-- expressions

pub of_chain : (n : Naming) (at : At) (xs : List Expr) (os : List Operator) → plain n (e.Chain at xs os) ≡ no_core
of_chain n at xs os = ap (plain n) (sym (e.rolls-Chain at xs os)) ∙ fold-roll-Expr Defined Core (List ℕ × Core) (declaration_step n) (expr_step n) (λ set. (set.label, set.value)) (tree.Chain at xs os)

pub of_binary : (n : Naming) (at : At) (operator : Operator) (x y : Expr) → plain n (e.Binary at operator x y) ≡ operation operator.name (use_of n operator.at (n.thing operator.at)) (plain n x) (plain n y)
of_binary n at operator x y = ap (plain n) (sym (e.rolls-Binary at operator x y)) ∙ fold-roll-Expr Defined Core (List ℕ × Core) (declaration_step n) (expr_step n) (λ set. (set.label, set.value)) (tree.Binary at operator x y)

pub of_negate : (n : Naming) (at : At) (x : Expr) → plain n (e.Negate at x) ≡ Call (Native NEGATE) (plain n x)
of_negate n at x = ap (plain n) (sym (e.rolls-Negate at x)) ∙ fold-roll-Expr Defined Core (List ℕ × Core) (declaration_step n) (expr_step n) (λ set. (set.label, set.value)) (tree.Negate at x)

pub of_call : (n : Naming) (at : At) (f : Expr) (xs : List Expr) → plain n (e.Call at f xs) ≡ call (plain n f) (map (plain n) xs)
of_call n at f xs = ap (plain n) (sym (e.rolls-Call at f xs)) ∙ fold-roll-Expr Defined Core (List ℕ × Core) (declaration_step n) (expr_step n) (λ set. (set.label, set.value)) (tree.Call at f xs)

pub of_int : (n : Naming) (at : At) (value : ℤ) → plain n (e.Int at value) ≡ Literal (literal.Int value)
of_int n at value = ap (plain n) (sym (e.rolls-Int at value)) ∙ fold-roll-Expr Defined Core (List ℕ × Core) (declaration_step n) (expr_step n) (λ set. (set.label, set.value)) (tree.Int at value)

pub of_char : (n : Naming) (at : At) (value : ℕ) → plain n (e.Char at value) ≡ Literal (literal.Char value)
of_char n at value = ap (plain n) (sym (e.rolls-Char at value)) ∙ fold-roll-Expr Defined Core (List ℕ × Core) (declaration_step n) (expr_step n) (λ set. (set.label, set.value)) (tree.Char at value)

pub of_text : (n : Naming) (at : At) (value : List ℕ) → plain n (e.Text at value) ≡ Literal (literal.Text value)
of_text n at value = ap (plain n) (sym (e.rolls-Text at value)) ∙ fold-roll-Expr Defined Core (List ℕ × Core) (declaration_step n) (expr_step n) (λ set. (set.label, set.value)) (tree.Text at value)

pub of_unit : (n : Naming) (at : At) → plain n (e.Unit at) ≡ Literal literal.Unit
of_unit n at = ap (plain n) (sym (e.rolls-Unit at)) ∙ fold-roll-Expr Defined Core (List ℕ × Core) (declaration_step n) (expr_step n) (λ set. (set.label, set.value)) (tree.Unit at)

pub of_variable : (n : Naming) (at : At) (name : List ℕ) → plain n (e.Variable at name) ≡ use_of n at (n.thing at)
of_variable n at name = ap (plain n) (sym (e.rolls-Variable at name)) ∙ fold-roll-Expr Defined Core (List ℕ × Core) (declaration_step n) (expr_step n) (λ set. (set.label, set.value)) (tree.Variable at name)

pub of_constructor : (n : Naming) (at : At) (name : List ℕ) → plain n (e.Constructor at name) ≡ use_of n at (n.thing at)
of_constructor n at name = ap (plain n) (sym (e.rolls-Constructor at name)) ∙ fold-roll-Expr Defined Core (List ℕ × Core) (declaration_step n) (expr_step n) (λ set. (set.label, set.value)) (tree.Constructor at name)

pub of_operator_name : (n : Naming) (at : At) (name : List ℕ) → plain n (e.OperatorName at name) ≡ use_of n at (n.thing at)
of_operator_name n at name = ap (plain n) (sym (e.rolls-OperatorName at name)) ∙ fold-roll-Expr Defined Core (List ℕ × Core) (declaration_step n) (expr_step n) (λ set. (set.label, set.value)) (tree.OperatorName at name)

pub of_field_function : (n : Naming) (at : At) (label : List ℕ) → plain n (e.FieldFunction at label) ≡ Lambda (CorePattern.Local (n.own at 0)) (Field (Local (n.own at 0)) label)
of_field_function n at label = ap (plain n) (sym (e.rolls-FieldFunction at label)) ∙ fold-roll-Expr Defined Core (List ℕ × Core) (declaration_step n) (expr_step n) (λ set. (set.label, set.value)) (tree.FieldFunction at label)

pub of_access : (n : Naming) (at : At) (x : Expr) (label : List ℕ) → plain n (e.Access at x label) ≡ Field (plain n x) label
of_access n at x label = ap (plain n) (sym (e.rolls-Access at x label)) ∙ fold-roll-Expr Defined Core (List ℕ × Core) (declaration_step n) (expr_step n) (λ set. (set.label, set.value)) (tree.Access at x label)

pub of_tuple_maker : (n : Naming) (at : At) (parts : ℕ) → plain n (e.TupleMaker at parts) ≡ lambdas (binders n at 0 parts) (Tuple (parameters n at 0 parts))
of_tuple_maker n at parts = ap (plain n) (sym (e.rolls-TupleMaker at parts)) ∙ fold-roll-Expr Defined Core (List ℕ × Core) (declaration_step n) (expr_step n) (λ set. (set.label, set.value)) (tree.TupleMaker at parts)

pub of_brackets : (n : Naming) (at : At) (x : Expr) → plain n (e.Brackets at x) ≡ plain n x
of_brackets n at x = ap (plain n) (sym (e.rolls-Brackets at x)) ∙ fold-roll-Expr Defined Core (List ℕ × Core) (declaration_step n) (expr_step n) (λ set. (set.label, set.value)) (tree.Brackets at x)

pub of_tuple : (n : Naming) (at : At) (xs : List Expr) → plain n (e.Tuple at xs) ≡ Tuple (cores (map (plain n) xs))
of_tuple n at xs = ap (plain n) (sym (e.rolls-Tuple at xs)) ∙ fold-roll-Expr Defined Core (List ℕ × Core) (declaration_step n) (expr_step n) (λ set. (set.label, set.value)) (tree.Tuple at xs)

pub of_list : (n : Naming) (at : At) (xs : List Expr) → plain n (e.List at xs) ≡ ListOf (cores (map (plain n) xs))
of_list n at xs = ap (plain n) (sym (e.rolls-List at xs)) ∙ fold-roll-Expr Defined Core (List ℕ × Core) (declaration_step n) (expr_step n) (λ set. (set.label, set.value)) (tree.List at xs)

pub of_range : (n : Naming) (at : At) (x y : Expr) → plain n (e.Range at x y) ≡ Range (plain n x) (plain n y)
of_range n at x y = ap (plain n) (sym (e.rolls-Range at x y)) ∙ fold-roll-Expr Defined Core (List ℕ × Core) (declaration_step n) (expr_step n) (λ set. (set.label, set.value)) (tree.Range at x y)

pub of_fields : (n : Naming) (at : At) (sets : List Set) → plain n (e.Fields at sets) ≡ Fields (fields (map (plain_set n) sets))
of_fields n at sets = ap (plain n) (sym (e.rolls-Fields at sets)) ∙ fold-roll-Expr Defined Core (List ℕ × Core) (declaration_step n) (expr_step n) (λ set. (set.label, set.value)) (tree.Fields at sets)

pub of_extend : (n : Naming) (at : At) (x : Expr) (sets : List Set) → plain n (e.Extend at x sets) ≡ Extend (plain n x) (fields (map (plain_set n) sets))
of_extend n at x sets = ap (plain n) (sym (e.rolls-Extend at x sets)) ∙ fold-roll-Expr Defined Core (List ℕ × Core) (declaration_step n) (expr_step n) (λ set. (set.label, set.value)) (tree.Extend at x sets)

pub of_update : (n : Naming) (at : At) (x : Expr) (sets : List Set) → plain n (e.Update at x sets) ≡ Update (plain n x) (fields (map (plain_set n) sets))
of_update n at x sets = ap (plain n) (sym (e.rolls-Update at x sets)) ∙ fold-roll-Expr Defined Core (List ℕ × Core) (declaration_step n) (expr_step n) (λ set. (set.label, set.value)) (tree.Update at x sets)

pub of_remove : (n : Naming) (at : At) (x : Expr) (label : List ℕ) (sets : List Set) → plain n (e.Remove at x label sets) ≡ with_fields (Remove (plain n x) label) (map (plain_set n) sets)
of_remove n at x label sets = ap (plain n) (sym (e.rolls-Remove at x label sets)) ∙ fold-roll-Expr Defined Core (List ℕ × Core) (declaration_step n) (expr_step n) (λ set. (set.label, set.value)) (tree.Remove at x label sets)

pub of_lambda : (n : Naming) (at : At) (ps : List Pattern) (x : Expr) → plain n (e.Lambda at ps x) ≡ lambdas (map (plain_pattern n) ps) (plain n x)
of_lambda n at ps x = ap (plain n) (sym (e.rolls-Lambda at ps x)) ∙ fold-roll-Expr Defined Core (List ℕ × Core) (declaration_step n) (expr_step n) (λ set. (set.label, set.value)) (tree.Lambda at ps x)

pub of_choice : (n : Naming) (at : At) (x y z : Expr) → plain n (e.If at x y z) ≡ If (plain n x) (plain n y) (plain n z)
of_choice n at x y z = ap (plain n) (sym (e.rolls-If at x y z)) ∙ fold-roll-Expr Defined Core (List ℕ × Core) (declaration_step n) (expr_step n) (λ set. (set.label, set.value)) (tree.If at x y z)

pub of_guards : (n : Naming) (at : At) (bs : List (Expr × Expr)) → plain n (e.Guards at bs) ≡ Guards (guards (map (λ b. (plain n b.0, plain n b.1)) bs))
of_guards n at bs = ap (plain n) (sym (e.rolls-Guards at bs)) ∙ fold-roll-Expr Defined Core (List ℕ × Core) (declaration_step n) (expr_step n) (λ set. (set.label, set.value)) (tree.Guards at bs)

pub of_block : (n : Naming) (at : At) (ds : List Declaration) (x : Expr) → plain n (e.Let at ds x) ≡ groups_before n (n.groups at) (map (plain_definition n) ds) (plain n x)
of_block n at ds x = ap (plain n) (sym (e.rolls-Let at ds x)) ∙ fold-roll-Expr Defined Core (List ℕ × Core) (declaration_step n) (expr_step n) (λ set. (set.label, set.value)) (tree.Let at ds x)

pub of_branches : (n : Naming) (at : At) (x : Expr) (bs : List (Pattern × Expr)) → plain n (e.Case at x bs) ≡ Case (plain n x) (branches (map (λ b. (plain_pattern n b.0, plain n b.1)) bs))
of_branches n at x bs = ap (plain n) (sym (e.rolls-Case at x bs)) ∙ fold-roll-Expr Defined Core (List ℕ × Core) (declaration_step n) (expr_step n) (λ set. (set.label, set.value)) (tree.Case at x bs)
    ∙ ap (λ cs. Case (plain n x) (branches cs)) (map_twice (λ choice. (plain_pattern n choice.0, choice.1)) (λ (b : Pattern × Expr). (b.0, plain n b.1)) bs)

-- patterns

pub pattern_anything : (n : Naming) (at : At) → plain_pattern n (p.Anything at) ≡ CorePattern.Anything
pattern_anything n at = ap (plain_pattern n) (sym (p.rolls-Anything at)) ∙ fold-roll-Pattern CorePattern (pattern_step n) (pattern.Anything at)

pub pattern_name : (n : Naming) (at : At) (name : List ℕ) → plain_pattern n (p.Variable at name) ≡ CorePattern.Local (n.number at)
pattern_name n at name = ap (plain_pattern n) (sym (p.rolls-Variable at name)) ∙ fold-roll-Pattern CorePattern (pattern_step n) (pattern.Variable at name)

pub pattern_int : (n : Naming) (at : At) (value : ℤ) → plain_pattern n (p.Int at value) ≡ CorePattern.Literal (literal.Int value)
pattern_int n at value = ap (plain_pattern n) (sym (p.rolls-Int at value)) ∙ fold-roll-Pattern CorePattern (pattern_step n) (pattern.Int at value)

pub pattern_char : (n : Naming) (at : At) (value : ℕ) → plain_pattern n (p.Char at value) ≡ CorePattern.Literal (literal.Char value)
pattern_char n at value = ap (plain_pattern n) (sym (p.rolls-Char at value)) ∙ fold-roll-Pattern CorePattern (pattern_step n) (pattern.Char at value)

pub pattern_text : (n : Naming) (at : At) (value : List ℕ) → plain_pattern n (p.Text at value) ≡ CorePattern.Literal (literal.Text value)
pattern_text n at value = ap (plain_pattern n) (sym (p.rolls-Text at value)) ∙ fold-roll-Pattern CorePattern (pattern_step n) (pattern.Text at value)

pub pattern_unit : (n : Naming) (at : At) → plain_pattern n (p.Unit at) ≡ CorePattern.Literal literal.Unit
pattern_unit n at = ap (plain_pattern n) (sym (p.rolls-Unit at)) ∙ fold-roll-Pattern CorePattern (pattern_step n) (pattern.Unit at)

pub pattern_made : (n : Naming) (at : At) (constructor : List ℕ) (ps : List Pattern) → plain_pattern n (p.Made at constructor ps) ≡ made_of n (n.thing at) (map (plain_pattern n) ps)
pattern_made n at constructor ps = ap (plain_pattern n) (sym (p.rolls-Made at constructor ps)) ∙ fold-roll-Pattern CorePattern (pattern_step n) (pattern.Made at constructor ps)

pub pattern_cons : (n : Naming) (at : At) (head tail : Pattern) → plain_pattern n (p.Cons at head tail) ≡ CorePattern.Cons (plain_pattern n head) (plain_pattern n tail)
pattern_cons n at head tail = ap (plain_pattern n) (sym (p.rolls-Cons at head tail)) ∙ fold-roll-Pattern CorePattern (pattern_step n) (pattern.Cons at head tail)

pub pattern_list : (n : Naming) (at : At) (ps : List Pattern) → plain_pattern n (p.List at ps) ≡ listed (map (plain_pattern n) ps)
pattern_list n at ps = ap (plain_pattern n) (sym (p.rolls-List at ps)) ∙ fold-roll-Pattern CorePattern (pattern_step n) (pattern.List at ps)

pub pattern_tuple : (n : Naming) (at : At) (ps : List Pattern) → plain_pattern n (p.Tuple at ps) ≡ CorePattern.Tuple (patterns (map (plain_pattern n) ps))
pattern_tuple n at ps = ap (plain_pattern n) (sym (p.rolls-Tuple at ps)) ∙ fold-roll-Pattern CorePattern (pattern_step n) (pattern.Tuple at ps)

pub pattern_labels : (n : Naming) (at : At) (labels : List Spot) → plain_pattern n (p.Fields at labels) ≡ CorePattern.Fields (map (label_of n) labels)
pattern_labels n at labels = ap (plain_pattern n) (sym (p.rolls-Fields at labels)) ∙ fold-roll-Pattern CorePattern (pattern_step n) (pattern.Fields at labels)

pub pattern_brackets : (n : Naming) (at : At) (inner : Pattern) → plain_pattern n (p.Brackets at inner) ≡ plain_pattern n inner
pattern_brackets n at inner = ap (plain_pattern n) (sym (p.rolls-Brackets at inner)) ∙ fold-roll-Pattern CorePattern (pattern_step n) (pattern.Brackets at inner)

pub pattern_named : (n : Naming) (at : At) (inner : Pattern) (name : Spot) → plain_pattern n (p.Named at inner name) ≡ CorePattern.Named (plain_pattern n inner) (n.number name.at)
pattern_named n at inner name = ap (plain_pattern n) (sym (p.rolls-Named at inner name)) ∙ fold-roll-Pattern CorePattern (pattern_step n) (pattern.Named at inner name)

-- definitions

pub defined_annotation : (n : Naming) (at : At) (name : List ℕ) (written : TypeTree) → plain_definition n (d.Annotation at name written) ≡ Annotated name (n.written written)
defined_annotation n at name written = ap (plain_definition n) (sym (d.rolls-Annotation at name written)) ∙ fold-roll-Declaration Defined Core (List ℕ × Core) (declaration_step n) (expr_step n) (λ set. (set.label, set.value)) (tree.Annotation at name written)

pub defined_definition : (n : Naming) (at : At) (name : List ℕ) (ps : List Pattern) (x : Expr) → plain_definition n (d.Definition at name ps x) ≡ Named at name (lambdas (map (plain_pattern n) ps) (plain n x))
defined_definition n at name ps x = ap (plain_definition n) (sym (d.rolls-Definition at name ps x)) ∙ fold-roll-Declaration Defined Core (List ℕ × Core) (declaration_step n) (expr_step n) (λ set. (set.label, set.value)) (tree.Definition at name ps x)

pub defined_pattern_definition : (n : Naming) (at : At) (p : Pattern) (x : Expr) → plain_definition n (d.PatternDefinition at p x) ≡ Apart at (plain_pattern n p) (plain n x)
defined_pattern_definition n at p x = ap (plain_definition n) (sym (d.rolls-PatternDefinition at p x)) ∙ fold-roll-Declaration Defined Core (List ℕ × Core) (declaration_step n) (expr_step n) (λ set. (set.label, set.value)) (tree.PatternDefinition at p x)

-- operators, by their spelling

same_bytes : (xs ys : List ℕ) → bytes_eq xs ys ≡ true → xs ≡ ys
same_bytes xs ys e = exact_bytes xs ys (equal (slice_cmp nat_cmp xs ys) (is_eq-slice_cmp xs ys ∙ e))
  where
    equal : (o : Ordering) → is_eq o ≡ true → o ≡ ordering.Equal
    equal ordering.Less h = cc h
    equal ordering.Equal h = refl
    equal ordering.Greater h = cc h

other_bytes : (b : Bool) (xs ys : List ℕ) → bytes_eq xs ys ≡ b → xs ≢ ys → bytes_eq xs ys ≡ false
other_bytes true xs ys e h = absurd (h (same_bytes xs ys e))
other_bytes false xs ys e h = e

pub of_and : (n : Naming) (at : At) (operator : Operator) (x y : Expr) → operator.name ≡ codes "&&" → plain n (e.Binary at operator x y) ≡ If (plain n x) (plain n y) falsehood
of_and n at operator x y h = of_binary n at operator x y ∙ ap (λ s. operation s (use_of n operator.at (n.thing operator.at)) (plain n x) (plain n y)) h

pub of_or : (n : Naming) (at : At) (operator : Operator) (x y : Expr) → operator.name ≡ codes "||" → plain n (e.Binary at operator x y) ≡ If (plain n x) truth (plain n y)
of_or n at operator x y h = of_binary n at operator x y ∙ ap (λ s. operation s (use_of n operator.at (n.thing operator.at)) (plain n x) (plain n y)) h

called : (b c : Bool) (f x y : Core) → b ≡ false → c ≡ false → (if b then If x y falsehood else (if c then If x truth y else Call (Call f x) y)) ≡ Call (Call f x) y
called true c f x y h k = absurd cc
called false true f x y h k = absurd cc
called false false f x y h k = refl

pub of_operator : (n : Naming) (at : At) (operator : Operator) (x y : Expr) → operator.name ≢ codes "&&" → operator.name ≢ codes "||" → plain n (e.Binary at operator x y) ≡ Call (Call (use_of n operator.at (n.thing operator.at)) (plain n x)) (plain n y)
of_operator n at operator x y h k =
    of_binary n at operator x y
    ∙ called (bytes_eq operator.name (codes "&&")) (bytes_eq operator.name (codes "||")) (use_of n operator.at (n.thing operator.at)) (plain n x) (plain n y)
    (other_bytes _ operator.name (codes "&&") refl h) (other_bytes _ operator.name (codes "||") refl k)
