-- The binders of each form of tree.
use Rattle.std.proofs.Common.{◌≡◌, ℕ, ℤ, List, [], ◌∷◌, map, refl, sym, ap, ◌∙◌}
use Rattle.elm_base.specs.declared.token.At.{At}
use Rattle.elm_base.specs.declared.tree.Operator.{Operator}
use Rattle.elm_base.specs.declared.tree.Spot.{Spot}
use Rattle.elm_base.specs.declared.tree.Pattern.{Pattern}
use Rattle.elm_base.specs.declared.tree.Pattern.TheOpen as pattern
use Rattle.elm_base.specs.declared.tree.Pattern.TheFolds.{fold-roll-Pattern}
use Rattle.elm_base.specs.declared.tree.Pattern.TheVariants as p
use Rattle.elm_base.specs.declared.tree.Expr.{Expr}
use Rattle.elm_base.specs.declared.tree.Expr.TheVariants as e
use Rattle.elm_base.specs.declared.tree.Declaration.{Declaration}
use Rattle.elm_base.specs.declared.tree.Declaration.TheVariants as d
use Rattle.elm_base.specs.declared.tree.Declaration.TheOpen as tree
use Rattle.elm_base.specs.declared.tree.Declaration.TheFolds.{fold-roll-Expr, fold-roll-Declaration}
use Rattle.plain_form.specs.Naming.{Naming}
use Rattle.plain_form.specs.Numbering.{Binders, no_binders, one, further, both, all, pattern_binders_step, pattern_binders, use_binders, binders_step, declaration_binders_step, binders_of, definition_binders}
use Rattle.plain_form.proofs.Forms.{map_twice}

pub of_binary : (n : Naming) (at : At) (operator : Operator) (x y : Expr) → binders_of n (e.Binary at operator x y) ≡ both (binders_of n x) (binders_of n y)
of_binary n at operator x y = ap (binders_of n) (sym (e.rolls-Binary at operator x y)) ∙ fold-roll-Expr Binders Binders Binders declaration_binders_step (binders_step n) (λ set. set.value) (tree.Binary at operator x y)

pub of_negate : (n : Naming) (at : At) (x : Expr) → binders_of n (e.Negate at x) ≡ binders_of n x
of_negate n at x = ap (binders_of n) (sym (e.rolls-Negate at x)) ∙ fold-roll-Expr Binders Binders Binders declaration_binders_step (binders_step n) (λ set. set.value) (tree.Negate at x)

pub of_call : (n : Naming) (at : At) (f : Expr) (xs : List Expr) → binders_of n (e.Call at f xs) ≡ both (binders_of n f) (all (map (binders_of n) xs))
of_call n at f xs = ap (binders_of n) (sym (e.rolls-Call at f xs)) ∙ fold-roll-Expr Binders Binders Binders declaration_binders_step (binders_step n) (λ set. set.value) (tree.Call at f xs)

pub of_variable : (n : Naming) (at : At) (name : List ℕ) → binders_of n (e.Variable at name) ≡ no_binders
of_variable n at name = ap (binders_of n) (sym (e.rolls-Variable at name)) ∙ fold-roll-Expr Binders Binders Binders declaration_binders_step (binders_step n) (λ set. set.value) (tree.Variable at name)

pub of_constructor : (n : Naming) (at : At) (name : List ℕ) → binders_of n (e.Constructor at name) ≡ use_binders n at (n.thing at)
of_constructor n at name = ap (binders_of n) (sym (e.rolls-Constructor at name)) ∙ fold-roll-Expr Binders Binders Binders declaration_binders_step (binders_step n) (λ set. set.value) (tree.Constructor at name)

pub of_field_function : (n : Naming) (at : At) (label : List ℕ) → binders_of n (e.FieldFunction at label) ≡ further at 1
of_field_function n at label = ap (binders_of n) (sym (e.rolls-FieldFunction at label)) ∙ fold-roll-Expr Binders Binders Binders declaration_binders_step (binders_step n) (λ set. set.value) (tree.FieldFunction at label)

pub of_access : (n : Naming) (at : At) (x : Expr) (label : List ℕ) → binders_of n (e.Access at x label) ≡ binders_of n x
of_access n at x label = ap (binders_of n) (sym (e.rolls-Access at x label)) ∙ fold-roll-Expr Binders Binders Binders declaration_binders_step (binders_step n) (λ set. set.value) (tree.Access at x label)

pub of_tuple_maker : (n : Naming) (at : At) (parts : ℕ) → binders_of n (e.TupleMaker at parts) ≡ further at parts
of_tuple_maker n at parts = ap (binders_of n) (sym (e.rolls-TupleMaker at parts)) ∙ fold-roll-Expr Binders Binders Binders declaration_binders_step (binders_step n) (λ set. set.value) (tree.TupleMaker at parts)

pub of_brackets : (n : Naming) (at : At) (x : Expr) → binders_of n (e.Brackets at x) ≡ binders_of n x
of_brackets n at x = ap (binders_of n) (sym (e.rolls-Brackets at x)) ∙ fold-roll-Expr Binders Binders Binders declaration_binders_step (binders_step n) (λ set. set.value) (tree.Brackets at x)

pub of_tuple : (n : Naming) (at : At) (xs : List Expr) → binders_of n (e.Tuple at xs) ≡ all (map (binders_of n) xs)
of_tuple n at xs = ap (binders_of n) (sym (e.rolls-Tuple at xs)) ∙ fold-roll-Expr Binders Binders Binders declaration_binders_step (binders_step n) (λ set. set.value) (tree.Tuple at xs)

pub of_list : (n : Naming) (at : At) (xs : List Expr) → binders_of n (e.List at xs) ≡ all (map (binders_of n) xs)
of_list n at xs = ap (binders_of n) (sym (e.rolls-List at xs)) ∙ fold-roll-Expr Binders Binders Binders declaration_binders_step (binders_step n) (λ set. set.value) (tree.List at xs)

pub of_range : (n : Naming) (at : At) (x y : Expr) → binders_of n (e.Range at x y) ≡ both (binders_of n x) (binders_of n y)
of_range n at x y = ap (binders_of n) (sym (e.rolls-Range at x y)) ∙ fold-roll-Expr Binders Binders Binders declaration_binders_step (binders_step n) (λ set. set.value) (tree.Range at x y)

pub of_lambda : (n : Naming) (at : At) (ps : List Pattern) (x : Expr) → binders_of n (e.Lambda at ps x) ≡ both (all (map pattern_binders ps)) (binders_of n x)
of_lambda n at ps x = ap (binders_of n) (sym (e.rolls-Lambda at ps x)) ∙ fold-roll-Expr Binders Binders Binders declaration_binders_step (binders_step n) (λ set. set.value) (tree.Lambda at ps x)

pub of_choice : (n : Naming) (at : At) (x y z : Expr) → binders_of n (e.If at x y z) ≡ both (binders_of n x) (both (binders_of n y) (binders_of n z))
of_choice n at x y z = ap (binders_of n) (sym (e.rolls-If at x y z)) ∙ fold-roll-Expr Binders Binders Binders declaration_binders_step (binders_step n) (λ set. set.value) (tree.If at x y z)

pub of_guards : (n : Naming) (at : At) (bs : List (Expr × Expr)) → binders_of n (e.Guards at bs) ≡ all (map (λ b. both (binders_of n b.0) (binders_of n b.1)) bs)
of_guards n at bs = ap (binders_of n) (sym (e.rolls-Guards at bs)) ∙ fold-roll-Expr Binders Binders Binders declaration_binders_step (binders_step n) (λ set. set.value) (tree.Guards at bs)
    ∙ ap all (map_twice (λ choice. both choice.0 choice.1) (λ (b : Expr × Expr). (binders_of n b.0, binders_of n b.1)) bs)

pub of_block : (n : Naming) (at : At) (ds : List Declaration) (x : Expr) → binders_of n (e.Let at ds x) ≡ both (all (map (definition_binders n) ds)) (binders_of n x)
of_block n at ds x = ap (binders_of n) (sym (e.rolls-Let at ds x)) ∙ fold-roll-Expr Binders Binders Binders declaration_binders_step (binders_step n) (λ set. set.value) (tree.Let at ds x)

pub of_branches : (n : Naming) (at : At) (x : Expr) (bs : List (Pattern × Expr)) → binders_of n (e.Case at x bs) ≡ both (binders_of n x) (all (map (λ b. both (pattern_binders b.0) (binders_of n b.1)) bs))
of_branches n at x bs = ap (binders_of n) (sym (e.rolls-Case at x bs)) ∙ fold-roll-Expr Binders Binders Binders declaration_binders_step (binders_step n) (λ set. set.value) (tree.Case at x bs)
    ∙ ap (λ cs. both (binders_of n x) (all cs)) (map_twice (λ choice. both (pattern_binders choice.0) choice.1) (λ (b : Pattern × Expr). (b.0, binders_of n b.1)) bs)

pub pattern_anything : (at : At) → pattern_binders (p.Anything at) ≡ no_binders
pattern_anything at = ap pattern_binders (sym (p.rolls-Anything at)) ∙ fold-roll-Pattern Binders pattern_binders_step (pattern.Anything at)

pub pattern_name : (at : At) (name : List ℕ) → pattern_binders (p.Variable at name) ≡ one at
pattern_name at name = ap pattern_binders (sym (p.rolls-Variable at name)) ∙ fold-roll-Pattern Binders pattern_binders_step (pattern.Variable at name)

pub pattern_made : (at : At) (constructor : List ℕ) (ps : List Pattern) → pattern_binders (p.Made at constructor ps) ≡ all (map pattern_binders ps)
pattern_made at constructor ps = ap pattern_binders (sym (p.rolls-Made at constructor ps)) ∙ fold-roll-Pattern Binders pattern_binders_step (pattern.Made at constructor ps)

pub pattern_cons : (at : At) (head tail : Pattern) → pattern_binders (p.Cons at head tail) ≡ both (pattern_binders head) (pattern_binders tail)
pattern_cons at head tail = ap pattern_binders (sym (p.rolls-Cons at head tail)) ∙ fold-roll-Pattern Binders pattern_binders_step (pattern.Cons at head tail)

pub pattern_list : (at : At) (ps : List Pattern) → pattern_binders (p.List at ps) ≡ all (map pattern_binders ps)
pattern_list at ps = ap pattern_binders (sym (p.rolls-List at ps)) ∙ fold-roll-Pattern Binders pattern_binders_step (pattern.List at ps)

pub pattern_tuple : (at : At) (ps : List Pattern) → pattern_binders (p.Tuple at ps) ≡ all (map pattern_binders ps)
pattern_tuple at ps = ap pattern_binders (sym (p.rolls-Tuple at ps)) ∙ fold-roll-Pattern Binders pattern_binders_step (pattern.Tuple at ps)

pub pattern_labels : (at : At) (labels : List Spot) → pattern_binders (p.Fields at labels) ≡ all (map (λ label. one label.at) labels)
pattern_labels at labels = ap pattern_binders (sym (p.rolls-Fields at labels)) ∙ fold-roll-Pattern Binders pattern_binders_step (pattern.Fields at labels)

pub pattern_brackets : (at : At) (inner : Pattern) → pattern_binders (p.Brackets at inner) ≡ pattern_binders inner
pattern_brackets at inner = ap pattern_binders (sym (p.rolls-Brackets at inner)) ∙ fold-roll-Pattern Binders pattern_binders_step (pattern.Brackets at inner)

pub pattern_named : (at : At) (inner : Pattern) (name : Spot) → pattern_binders (p.Named at inner name) ≡ both (pattern_binders inner) (one name.at)
pattern_named at inner name = ap pattern_binders (sym (p.rolls-Named at inner name)) ∙ fold-roll-Pattern Binders pattern_binders_step (pattern.Named at inner name)

pub defined_definition : (n : Naming) (at : At) (name : List ℕ) (ps : List Pattern) (x : Expr) → definition_binders n (d.Definition at name ps x) ≡ both (one at) (both (all (map pattern_binders ps)) (binders_of n x))
defined_definition n at name ps x = ap (definition_binders n) (sym (d.rolls-Definition at name ps x)) ∙ fold-roll-Declaration Binders Binders Binders declaration_binders_step (binders_step n) (λ set. set.value) (tree.Definition at name ps x)

pub defined_pattern_definition : (n : Naming) (at : At) (p : Pattern) (x : Expr) → definition_binders n (d.PatternDefinition at p x) ≡ both (pattern_binders p) (binders_of n x)
defined_pattern_definition n at p x = ap (definition_binders n) (sym (d.rolls-PatternDefinition at p x)) ∙ fold-roll-Declaration Binders Binders Binders declaration_binders_step (binders_step n) (λ set. set.value) (tree.PatternDefinition at p x)
