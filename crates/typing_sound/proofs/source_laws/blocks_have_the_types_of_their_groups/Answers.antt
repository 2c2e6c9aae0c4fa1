use Rattle.std.proofs.Common.{Option, [], ◌∷◌, map, ap, ◌∙◌}
use Rattle.elm_base.specs.declared.tree.Expr.TheVariants as e
use Rattle.typing_rules.specs.CorePatterns.{CorePattern}
use Rattle.typing_rules.specs.Core.{CoreGroup, LetValue, LetFunctions}
use Rattle.plain_form.specs.PlainForm.{plain, plain_definition, Defined, annotation_of, held_to, value_before, group_before, groups_before}
use Rattle.typing_sound.specs.Settings.{world_of, types_in}
use Rattle.typing_sound.proofs.Sources.{same_trees, of_block}
use Rattle.typing_sound.proofs.source_laws.blocks_have_the_types_of_their_groups.Goals as goal

pub returns-clause-block : goal.returns-clause-block
returns-clause-block c = λ p scope n at ds x.
    same_trees p (types_in (world_of p) scope) (plain n (e.Let at ds x)) (groups_before n (n.groups at) (map (plain_definition n) ds) (plain n x)) (of_block n at ds x)

pub returns-clause-functions : goal.returns-clause-functions
returns-clause-functions c = λ p scope n group more all body g h.
    let left = groups_before n more all body in
    same_trees p (types_in (world_of p) scope) (groups_before n (group ∷ more) all body) (LetFunctions g left)
    (ap (λ (z : Option CoreGroup). group_before n z group all left) h)

pub returns-clause-value : goal.returns-clause-value
returns-clause-value c = λ p scope n at place more all body value name h k.
    let left = groups_before n more all body in
    same_trees p (types_in (world_of p) scope) (groups_before n ((at ∷ []) ∷ more) all body)
    (LetValue (CorePattern.Local (n.number place)) (held_to (annotation_of name all) value) left)
    (ap (λ (z : Option CoreGroup). group_before n z (at ∷ []) all left) h ∙ ap (λ (z : Defined). value_before n z all left) k)

pub returns-clause-pattern : goal.returns-clause-pattern
returns-clause-pattern c = λ p scope n at place more all body value pattern h k.
    let left = groups_before n more all body in
    same_trees p (types_in (world_of p) scope) (groups_before n ((at ∷ []) ∷ more) all body) (LetValue pattern value left)
    (ap (λ (z : Option CoreGroup). group_before n z (at ∷ []) all left) h ∙ ap (λ (z : Defined). value_before n z all left) k)
