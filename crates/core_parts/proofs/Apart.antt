-- Trees that are no functions.
use Rattle.std.proofs.Common.{◌≡◌, ◌↔◌, IsTrue, Bool, false, None, List, [], ◌∷◌, map, refl, sym, ap, ◌∙◌}
use Rattle.typing_rules.specs.Core.{Core, Call}
use Rattle.plain_form.specs.PlainForm.{call}
use Rattle.core_trees.specs.declared.tree.CoreTree.{CoreTree}
use Rattle.core_trees.specs.declared.tree.CoreTree.TheVariants as t
use Rattle.core_trees.specs.declared.tree.CoreTree.TheOpen as tree
use Rattle.core_trees.specs.declared.tree.CoreTree.TheFolds.{fold-roll-CoreTree}
use Rattle.core_trees.specs.declared.tree.LetGroup.{LetGroup}
use Rattle.core_trees.specs.Reading.{Function, Group, Value, Functions, group_before, groups_before, core_step, function_step, group_step, core_of, group_of}
use Rattle.core_parts.specs.Members.{as_lambda}

of_call : (f : CoreTree) (xs : List CoreTree) → core_of (t.Call f xs) ≡ call (core_of f) (map core_of xs)
of_call f xs = ap core_of (sym (t.rolls-Call f xs)) ∙ fold-roll-CoreTree Core Group Function core_step group_step function_step (tree.Call f xs)

of_let : (gs : List LetGroup) (b : CoreTree) → core_of (t.Let gs b) ≡ groups_before (map group_of gs) (core_of b)
of_let gs b = ap core_of (sym (t.rolls-Let gs b)) ∙ fold-roll-CoreTree Core Group Function core_step group_step function_step (tree.Let gs b)

none_of_call : (f x : Core) (xs : List Core) → as_lambda (call (Call f x) xs) ≡ None
none_of_call f x [] = refl
none_of_call f x (y ∷ ys) = none_of_call (Call f x) y ys

none_of_group : (g : Group) (body : Core) → as_lambda (group_before g body) ≡ None
none_of_group (Value pattern value) body = refl
none_of_group (Functions group) body = refl

pub no_call : (whole f : CoreTree) (xs : List CoreTree) (b : Bool) → whole ≡ t.Call f xs → (IsTrue b ↔ (xs ≡ [])) → b ≡ false → None ≡ as_lambda (core_of whole)
no_call whole f [] b is h e = let y = h.1 refl in cc
no_call whole f (x ∷ xs) b is h e =
    sym (ap (λ c. as_lambda (core_of c)) is ∙ ap as_lambda (of_call f (x ∷ xs)) ∙ none_of_call (core_of f) (core_of x) (map core_of xs))

pub no_let : (whole body : CoreTree) (gs : List LetGroup) (b : Bool) → whole ≡ t.Let gs body → (IsTrue b ↔ (gs ≡ [])) → b ≡ false → None ≡ as_lambda (core_of whole)
no_let whole body [] b is h e = let y = h.1 refl in cc
no_let whole body (g ∷ gs) b is h e =
    sym (ap (λ c. as_lambda (core_of c)) is ∙ ap as_lambda (of_let (g ∷ gs) body) ∙ none_of_group (group_of g) (groups_before (map group_of gs) (core_of body)))
