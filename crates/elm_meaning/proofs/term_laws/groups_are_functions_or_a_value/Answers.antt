use Rattle.std.proofs.Common.{ap, ap₂, ◌∙◌, ◌∷◌, [], Some, pos}
use Rattle.elm_base.specs.declared.term.TermPattern.TheVariants as p
use Rattle.elm_meaning.specs.Values.{Tree, Lambda, Local, Done, Int, LetValue, NoFunctions}
use Rattle.elm_meaning.specs.Patterns.{Pattern, pattern_of}
use Rattle.elm_meaning.specs.Terms.{function_before, group_tree}
use Rattle.elm_meaning.proofs.Forms.{of_anything, of_name}
use Rattle.elm_meaning.proofs.term_laws.groups_are_functions_or_a_value.Goals as goal

pub returns : goal.returns
returns c = record {
  function = λ parameter a b.
      let lambda = Lambda (pattern_of parameter) a in
      ap (λ q. group_tree (function_before q lambda (Some NoFunctions)) (lambda ∷ b ∷ []) ((p.Local 7, 0) ∷ []) b) (of_name 7);
  two = λ first second a b e.
      let one = Lambda (pattern_of first) a in
      let other = Lambda (pattern_of second) b in
      let trees = one ∷ other ∷ e ∷ [] in
      ap₂ (λ q r. group_tree (function_before q one (function_before r other (Some NoFunctions))) trees ((p.Local 7, 0) ∷ (p.Local 8, 1) ∷ []) e) (of_name 7) (of_name 8);
  value = λ b.
      let one = Done (Int (pos 1)) in
      ap (λ q. group_tree (function_before q one (Some NoFunctions)) (one ∷ b ∷ []) ((p.Local 7, 0) ∷ []) b) (of_name 7)
      ∙ ap (λ q. LetValue q one b) (of_name 7);
  pattern = λ parameter a b.
      let lambda = Lambda (pattern_of parameter) a in
      ap (λ q. group_tree (function_before q lambda (Some NoFunctions)) (lambda ∷ b ∷ []) ((p.Anything, 0) ∷ []) b) of_anything
      ∙ ap (λ q. LetValue q lambda b) of_anything;
  order = λ a b.
      let one = Done (Int (pos 1)) in
      let trees = one ∷ Local 7 ∷ b ∷ [] in
      let inner : Tree → Tree = λ rest. group_tree (function_before (pattern_of (p.Local 7)) one (Some NoFunctions)) trees ((p.Local 7, 0) ∷ []) rest in
      ap inner
      (ap (λ q. group_tree (function_before q (Local 7) (Some NoFunctions)) trees ((p.Local 8, 1) ∷ []) b) (of_name 8) ∙ ap (λ q. LetValue q (Local 7) b) (of_name 8))
      ∙ (ap (λ q. group_tree (function_before q one (Some NoFunctions)) trees ((p.Local 7, 0) ∷ []) (LetValue (Pattern.Local 8) (Local 7) b)) (of_name 7)
      ∙ ap (λ q. LetValue q one (LetValue (Pattern.Local 8) (Local 7) b)) (of_name 7));
}
