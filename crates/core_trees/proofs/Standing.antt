-- What the forms with parts in turn stand for, and which of them are lambdas.
use Rattle.std.proofs.Common.{◌≡◌, ◌↔◌, IsTrue, Bool, false, List, [], ◌∷◌, map, refl, sym, ap, ◌∙◌}
use Rattle.typing_rules.specs.CorePatterns.{CorePattern}
use Rattle.typing_rules.specs.Core.{Core, Call}
use Rattle.plain_form.specs.PlainForm.{call, lambdas, listed}
use Rattle.core_trees.specs.declared.pattern.PatternTree.{PatternTree}
use Rattle.core_trees.specs.declared.pattern.PatternTree.TheVariants as p
use Rattle.core_trees.specs.declared.pattern.PatternTree.TheOpen as pattern
use Rattle.core_trees.specs.declared.pattern.PatternTree.TheFolds.{fold-roll-PatternTree}
use Rattle.core_trees.specs.declared.tree.CoreTree.{CoreTree}
use Rattle.core_trees.specs.declared.tree.CoreTree.TheVariants as t
use Rattle.core_trees.specs.declared.tree.CoreTree.TheOpen as tree
use Rattle.core_trees.specs.declared.tree.CoreTree.TheFolds.{fold-roll-CoreTree}
use Rattle.core_trees.specs.declared.tree.LetGroup.{LetGroup}
use Rattle.core_trees.specs.PatternReading.{pattern_step, pattern_of}
use Rattle.core_trees.specs.Reading.{Function, Group, Value, Functions, group_before, groups_before, core_step, function_step, group_step, core_of, group_of}
use Rattle.core_trees.specs.Functions.{is_lambda}

pub of_call : (f : CoreTree) (xs : List CoreTree) → core_of (t.Call f xs) ≡ call (core_of f) (map core_of xs)
of_call f xs = ap core_of (sym (t.rolls-Call f xs)) ∙ fold-roll-CoreTree Core Group Function core_step group_step function_step (tree.Call f xs)

pub of_lambda : (p : PatternTree) (ps : List PatternTree) (b : CoreTree) → core_of (t.Lambda p ps b) ≡ lambdas (map pattern_of (p ∷ ps)) (core_of b)
of_lambda p ps b = ap core_of (sym (t.rolls-Lambda p ps b)) ∙ fold-roll-CoreTree Core Group Function core_step group_step function_step (tree.Lambda p ps b)

pub of_let : (gs : List LetGroup) (b : CoreTree) → core_of (t.Let gs b) ≡ groups_before (map group_of gs) (core_of b)
of_let gs b = ap core_of (sym (t.rolls-Let gs b)) ∙ fold-roll-CoreTree Core Group Function core_step group_step function_step (tree.Let gs b)

pub of_list : (ps : List PatternTree) → pattern_of (p.List ps) ≡ listed (map pattern_of ps)
of_list ps = ap pattern_of (sym (p.rolls-List ps)) ∙ fold-roll-PatternTree CorePattern pattern_step (pattern.List ps)

-- a call of one argument or more is no lambda, nor is a group with what stands behind it

calls_no_lambda : (f x : Core) (xs : List Core) → is_lambda (call (Call f x) xs) ≡ false
calls_no_lambda f x [] = refl
calls_no_lambda f x (y ∷ ys) = calls_no_lambda (Call f x) y ys

group_no_lambda : (g : Group) (body : Core) → is_lambda (group_before g body) ≡ false
group_no_lambda (Value pattern value) body = refl
group_no_lambda (Functions group) body = refl

pub told_of_call : (whole f : CoreTree) (xs : List CoreTree) (b : Bool) → whole ≡ t.Call f xs → (IsTrue b ↔ (xs ≡ [])) → b ≡ false → b ≡ is_lambda (core_of whole)
told_of_call whole f [] b is h e = let y = h.1 refl in cc
told_of_call whole f (x ∷ xs) b is h e =
    e ∙ sym (ap (λ c. is_lambda (core_of c)) is ∙ ap is_lambda (of_call f (x ∷ xs)) ∙ calls_no_lambda (core_of f) (core_of x) (map core_of xs))

pub told_of_let : (whole body : CoreTree) (gs : List LetGroup) (b : Bool) → whole ≡ t.Let gs body → (IsTrue b ↔ (gs ≡ [])) → b ≡ false → b ≡ is_lambda (core_of whole)
told_of_let whole body [] b is h e = let y = h.1 refl in cc
told_of_let whole body (g ∷ gs) b is h e =
    e ∙ sym (ap (λ c. is_lambda (core_of c)) is ∙ ap is_lambda (of_let (g ∷ gs) body) ∙ group_no_lambda (group_of g) (groups_before (map group_of gs) (core_of body)))
