-- Each scope that a tree opens closes in it.
use Rattle.std.proofs.Common.{◌≡◌, ℕ, List, [], ◌∷◌, ◌++◌, map, sym, subst}
use Rattle.std.proofs.lemmas.List.{append_assoc, append-nil}
use Rattle.std.specs.List.{flat_map}
use Rattle.elm_base.specs.declared.token.At.{At}
use Rattle.elm_base.specs.declared.tree.Pattern.{Pattern}
use Rattle.elm_base.specs.declared.tree.Set.{Set, roll-Set, map-Set}
use Rattle.elm_base.specs.declared.tree.Expr.{Expr, roll-Expr, map-Expr}
use Rattle.elm_base.specs.declared.tree.Declaration.{Declaration, roll-Declaration, map-Declaration}
use Rattle.elm_base.specs.declared.tree.Declaration.TheOpen as tree
use Rattle.elm_base.specs.declared.tree.Declaration.TheFolds.{fold-roll-Expr, fold-roll-Declaration, fold-roll-Set, ind-Expr, ind-Declaration}
use Rattle.name_steps.specs.declared.step.Step.{Step}
use Rattle.name_steps.specs.declared.step.Step.TheVariants as step
use Rattle.name_steps.specs.PatternNames.{spot_of, binds_of, constructors_of}
use Rattle.name_steps.specs.Steps.{Read, Part, Field, each, used, in_scope, pattern_steps, patterns_steps, fields_steps, definitions_of, bound_by, let_steps, expr_step, declaration_step, set_step, read_of, part_of, field_of}
use Rattle.module_scope.specs.Visible.{IsWhole, none, plain, scope}

both : {a b : List Step} → IsWhole a → IsWhole b → IsWhole (a ++ b)
both none k = k
both (plain p h) k = plain p (both h k)
both {b} (scope {inner} {more} i h) k = subst IsWhole (sym (append_assoc (in_scope inner) more b)) (scope i (both h k))

scoped : {a : List Step} → IsWhole a → IsWhole (in_scope a)
scoped {a} h = subst IsWhole (append-nil (in_scope a)) (scope h none)

used_whole : (at : At) (name : List ℕ) → IsWhole (used at name)
used_whole at name = plain {step = step.Uses (spot_of at name ∷ [])} tt none

pattern_whole : (p : Pattern) → IsWhole (pattern_steps p)
pattern_whole p = plain tt (plain tt none)

patterns_whole : (ps : List Pattern) → IsWhole (patterns_steps ps)
patterns_whole [] = none
patterns_whole (p ∷ ps) = both (pattern_whole p) (patterns_whole ps)

-- ---- trees, by their parts

abbrev WholeExpr : Expr → Type 0
WholeExpr x = IsWhole (read_of x).steps

abbrev WholePart : Declaration → Type 0
WholePart x = IsWhole (part_of x).steps

abbrev WholeField : Set → Type 0
WholeField x = IsWhole (field_of x).steps

abbrev A : Type 0
A = (x : Declaration) × WholePart x

abbrev B : Type 0
B = (x : Expr) × WholeExpr x

abbrev C : Type 0
C = (x : Set) × WholeField x

each_whole : (xs : List B) → IsWhole (each (map read_of (map (λ x. x.0) xs)))
each_whole [] = none
each_whole (x ∷ xs) = both x.1 (each_whole xs)

values_whole : (xs : List C) → IsWhole (flat_map (λ field. field.steps) (map field_of (map (λ x. x.0) xs)))
values_whole [] = none
values_whole (x ∷ xs) = both x.1 (values_whole xs)

fields_whole : (xs : List C) → IsWhole (fields_steps (map field_of (map (λ x. x.0) xs)))
fields_whole xs = plain tt (values_whole xs)

parts_whole : (xs : List A) → IsWhole (flat_map (λ part. part.steps) (map part_of (map (λ x. x.0) xs)))
parts_whole [] = none
parts_whole (x ∷ xs) = both x.1 (parts_whole xs)

guards_whole : (xs : List (B × B)) → IsWhole (flat_map (λ (branch : Read × Read). branch.0.steps ++ branch.1.steps)
    (map (λ (b : Expr × Expr). (read_of b.0, read_of b.1)) (map (λ (x : B × B). (x.0.0, x.1.0)) xs)))
guards_whole [] = none
guards_whole (x ∷ xs) = both (both x.0.1 x.1.1) (guards_whole xs)

branches_whole : (xs : List (Pattern × B)) → IsWhole (flat_map (λ (branch : Pattern × Read). in_scope (pattern_steps branch.0 ++ branch.1.steps))
    (map (λ (b : Pattern × Expr). (b.0, read_of b.1)) (map (λ (x : Pattern × B). (x.0, x.1.0)) xs)))
branches_whole [] = none
branches_whole (x ∷ xs) = both (scoped (both (pattern_whole x.0) x.1.1)) (branches_whole xs)

let_whole : (at : At) (ds : List A) (x : B) → IsWhole (let_steps at (map part_of (map (λ x. x.0) ds)) (read_of x.0))
let_whole at ds x = scoped (plain tt (plain tt (both (parts_whole ds) x.1)))

layer_whole : (y : tree.Expr-F A B C)
    → IsWhole (expr_step (map-Expr Declaration Expr Set Part Read Field part_of read_of field_of
    (map-Expr A B C Declaration Expr Set (λ x. x.0) (λ x. x.0) (λ x. x.0) y))).steps
layer_whole (tree.Chain at xs os) = both (each_whole xs) (plain tt none)
layer_whole (tree.Binary at o x y) = both (both x.1 (used_whole o.at o.name)) y.1
layer_whole (tree.Negate at x) = x.1
layer_whole (tree.Call at f xs) = both f.1 (each_whole xs)
layer_whole (tree.Int at n) = none
layer_whole (tree.Char at c) = none
layer_whole (tree.Text at t) = none
layer_whole (tree.Variable at n) = used_whole at n
layer_whole (tree.Constructor at n) = used_whole at n
layer_whole (tree.FieldFunction at l) = none
layer_whole (tree.Access at x l) = x.1
layer_whole (tree.OperatorName at n) = used_whole at n
layer_whole (tree.TupleMaker at n) = none
layer_whole (tree.Unit at) = none
layer_whole (tree.Brackets at x) = x.1
layer_whole (tree.Tuple at xs) = each_whole xs
layer_whole (tree.List at xs) = each_whole xs
layer_whole (tree.Range at x y) = both x.1 y.1
layer_whole (tree.Fields at xs) = fields_whole xs
layer_whole (tree.Extend at x xs) = both x.1 (fields_whole xs)
layer_whole (tree.Update at x xs) = both x.1 (fields_whole xs)
layer_whole (tree.Remove at x l xs) = both x.1 (fields_whole xs)
layer_whole (tree.Lambda at ps x) = scoped (both (patterns_whole ps) x.1)
layer_whole (tree.If at x y z) = both (both x.1 y.1) z.1
layer_whole (tree.Guards at xs) = guards_whole xs
layer_whole (tree.Let at ds x) = let_whole at ds x
layer_whole (tree.Case at x bs) = both x.1 (branches_whole bs)

top_whole : (y : tree.Declaration-F A B C)
    → IsWhole (declaration_step (map-Declaration Declaration Expr Set Part Read Field part_of read_of field_of
    (map-Declaration A B C Declaration Expr Set (λ x. x.0) (λ x. x.0) (λ x. x.0) y))).steps
top_whole (tree.Definition at name ps x) = scoped (both (patterns_whole ps) x.1)
top_whole (tree.PatternDefinition at p x) = plain tt x.1
top_whole (tree.PortDefinition at name x) = x.1
top_whole (tree.Union a b c d) = none
top_whole (tree.Alias a b c d) = none
top_whole (tree.Annotation a b c) = none
top_whole (tree.PortAnnotation a b c) = none
top_whole (tree.Levels a b c d) = none
top_whole (tree.Native a b c d) = none
top_whole (tree.Device a b c) = none
top_whole (tree.Opaque a b c) = none

expr_rolled : (x : tree.Expr-F Declaration Expr Set) → IsWhole (expr_step (map-Expr Declaration Expr Set Part Read Field part_of read_of field_of x)).steps
    → WholeExpr (roll-Expr x)
expr_rolled x h = subst (λ z. IsWhole z.steps) (sym (fold-roll-Expr Part Read Field declaration_step expr_step set_step x)) h

part_rolled : (x : tree.Declaration-F Declaration Expr Set)
    → IsWhole (declaration_step (map-Declaration Declaration Expr Set Part Read Field part_of read_of field_of x)).steps → WholePart (roll-Declaration x)
part_rolled x h = subst (λ z. IsWhole z.steps) (sym (fold-roll-Declaration Part Read Field declaration_step expr_step set_step x)) h

field_rolled : (y : tree.Set-F A B C) → WholeField (roll-Set (map-Set A B C Declaration Expr Set (λ x. x.0) (λ x. x.0) (λ x. x.0) y))
field_rolled y = subst (λ z. IsWhole z.steps)
    (sym (fold-roll-Set Part Read Field declaration_step expr_step set_step (record { at = y.at; label = y.label; value = y.value.0 }))) y.value.1

pub expr_whole : (x : Expr) → WholeExpr x
expr_whole = ind-Expr WholePart WholeExpr WholeField (λ x y is. subst (λ z. WholePart (roll-Declaration z)) is (part_rolled _ (top_whole y)))
    (λ x y is. subst (λ z. WholeExpr (roll-Expr z)) is (expr_rolled _ (layer_whole y)))
    (λ x y is. subst (λ z. WholeField (roll-Set z)) is (field_rolled y))

pub declaration_whole : (x : Declaration) → WholePart x
declaration_whole = ind-Declaration WholePart WholeExpr WholeField (λ x y is. subst (λ z. WholePart (roll-Declaration z)) is (part_rolled _ (top_whole y)))
    (λ x y is. subst (λ z. WholeExpr (roll-Expr z)) is (expr_rolled _ (layer_whole y)))
    (λ x y is. subst (λ z. WholeField (roll-Set z)) is (field_rolled y))
