-- A tree of one form is what its plain term is lowered to.
use Rattle.std.proofs.Common.{◌≡◌, ℕ, List, [], ◌∷◌, map, refl, sym, ap, ap₂, ◌∙◌}
use Rattle.elm_base.specs.declared.term.TermPattern.TheVariants as tp
use Rattle.elm_base.specs.declared.term.TermPattern.TheOpen as term
use Rattle.elm_base.specs.declared.term.TermPattern.TheFolds.{fold-roll-TermPattern}
use Rattle.elm_meaning.specs.Patterns.{Pattern, pattern_step, pattern_of as term_pattern_of}
use Rattle.elm_meaning.specs.Values.{Tree, AndTree, AndFieldTree, AndGuard, AndBranch, TupleTree, ListTree, RecordTree}
use Rattle.typing_rules.specs.Core.{Core, Lambda, Call, Guards, Case, Tuple, ListOf, Fields, Update, Extend}
use Rattle.typing_rules.specs.CorePatterns.{CorePattern, erased_pattern}
use Rattle.plain_form.specs.PlainForm.{call, lambdas, cores, fields, guards, branches}
use Rattle.core_trees.specs.declared.pattern.PatternTree.{PatternTree}
use Rattle.core_trees.specs.declared.tree.CoreTree.{CoreTree}
use Rattle.core_trees.specs.declared.tree.CoreTree.TheVariants as t
use Rattle.core_trees.specs.declared.tree.CoreTree.TheOpen as tree
use Rattle.core_trees.specs.declared.tree.CoreTree.TheFolds.{fold-roll-CoreTree, fold-roll-LetGroup, fold_out-LetFunction}
use Rattle.core_trees.specs.declared.tree.LetFunction.{LetFunction}
use Rattle.core_trees.specs.declared.tree.LetGroup.{LetGroup}
use Rattle.core_trees.specs.declared.tree.LetGroup.TheVariants as g
use Rattle.core_trees.specs.PatternReading.{pattern_of}
use Rattle.core_trees.specs.Reading.{Function, Group, Value, Functions, functions, function_of, group_of, core_step, function_step, group_step, core_of, groups_before as groups_as}
use Rattle.code_lower.specs.Lowered.{lowered, lowered_all, lowered_fields, lowered_guards, lowered_branches}
use Rattle.code_lower.specs.Laying.{tree_for, pattern_for, applied_layer, applied_for, built_layer, built_for, choice_layer, choice_for, group_before, lambdas_for, calls_for, trees_for, field_trees_for, guards_for, branches_for, groups_before, group_members, function_tree, function_name, members_in, members_for, trees_in, patterns_in}
use Rattle.code_lower.proofs.Outs.{out_lambda, out_call, out_guards, out_case, out_let, out_tuple, out_list, out_fields, out_update, out_extend}

lambdas_are : (ps : List PatternTree) (e : Core) → lowered (lambdas (map pattern_of ps) e) ≡ lambdas_for ps (lowered e)
lambdas_are [] e = refl
lambdas_are (p ∷ ps) e = ap (Tree.Lambda (pattern_for p)) (lambdas_are ps e)

calls_are : (f : Core) (xs : List CoreTree) → lowered (call f (map core_of xs)) ≡ calls_for (lowered f) xs
calls_are f [] = refl
calls_are f (x ∷ xs) = calls_are (Call f (core_of x)) xs

parts_are : (xs : List CoreTree) → lowered_all (cores (map core_of xs)) ≡ trees_for xs
parts_are [] = refl
parts_are (x ∷ xs) = ap (AndTree (tree_for x)) (parts_are xs)

abbrev field_of : List ℕ × CoreTree → List ℕ × Core
field_of f = (f.0, core_of f.1)

fields_are : (xs : List (List ℕ × CoreTree)) → lowered_fields (fields (map field_of xs)) ≡ field_trees_for xs
fields_are [] = refl
fields_are (x ∷ xs) = ap (AndFieldTree x.0 (tree_for x.1)) (fields_are xs)

abbrev guard_of : CoreTree × CoreTree → Core × Core
guard_of b = (core_of b.0, core_of b.1)

guards_are : (xs : List (CoreTree × CoreTree)) → lowered_guards (guards (map guard_of xs)) ≡ guards_for xs
guards_are [] = refl
guards_are (x ∷ xs) = ap (AndGuard (tree_for x.0) (tree_for x.1)) (guards_are xs)

abbrev branch_of : PatternTree × CoreTree → CorePattern × Core
branch_of b = (pattern_of b.0, core_of b.1)

branches_are : (xs : List (PatternTree × CoreTree)) → lowered_branches (branches (map branch_of xs)) ≡ branches_for xs
branches_are [] = refl
branches_are (x ∷ xs) = ap (AndBranch (pattern_for x.0) (tree_for x.1)) (branches_are xs)

map_twice : {A B C : Type 0} (g : B → C) (f : A → B) (xs : List A) → map g (map f xs) ≡ map (λ x. g (f x)) xs
map_twice g f [] = refl
map_twice g f (x ∷ xs) = ap (λ l. g (f x) ∷ l) (map_twice g f xs)

group_is : (k : Group) (e : Core) → lowered (groups_as (k ∷ []) e) ≡ group_before k (lowered e)
group_is (Value p v) e = refl
group_is (Functions fs) e = refl

groups_are : (gs : List LetGroup) (e : Core) → lowered (groups_as (map group_of gs) e) ≡ groups_before gs (lowered e)
groups_are [] e = refl
groups_are (k ∷ gs) e = group_is (group_of k) (groups_as (map group_of gs) e) ∙ ap (group_before (group_of k)) (groups_are gs e)

core_lambda : (p : PatternTree) (ps : List PatternTree) (b : CoreTree) → core_of (t.Lambda p ps b) ≡ Lambda (pattern_of p) (lambdas (map pattern_of ps) (core_of b))
core_lambda p ps b = ap core_of (sym (t.rolls-Lambda p ps b)) ∙ fold-roll-CoreTree Core Group Function core_step group_step function_step (tree.Lambda p ps b)

core_call : (f : CoreTree) (xs : List CoreTree) → core_of (t.Call f xs) ≡ call (core_of f) (map core_of xs)
core_call f xs = ap core_of (sym (t.rolls-Call f xs)) ∙ fold-roll-CoreTree Core Group Function core_step group_step function_step (tree.Call f xs)

core_guards : (bs : List (CoreTree × CoreTree)) → core_of (t.Guards bs) ≡ Guards (guards (map guard_of bs))
core_guards bs = ap core_of (sym (t.rolls-Guards bs)) ∙ fold-roll-CoreTree Core Group Function core_step group_step function_step (tree.Guards bs)

core_case : (e : CoreTree) (bs : List (PatternTree × CoreTree)) → core_of (t.Case e bs) ≡ Case (core_of e) (branches (map branch_of bs))
core_case e bs = ap core_of (sym (t.rolls-Case e bs)) ∙ fold-roll-CoreTree Core Group Function core_step group_step function_step (tree.Case e bs) ∙ ap (λ l. Case (core_of e) (branches l)) (map_twice (λ choice. (pattern_of choice.0, choice.1)) (λ b. (b.0, core_of b.1)) bs)

core_let : (gs : List LetGroup) (b : CoreTree) → core_of (t.Let gs b) ≡ groups_as (map group_of gs) (core_of b)
core_let gs b = ap core_of (sym (t.rolls-Let gs b)) ∙ fold-roll-CoreTree Core Group Function core_step group_step function_step (tree.Let gs b)

core_tuple : (es : List CoreTree) → core_of (t.Tuple es) ≡ Tuple (cores (map core_of es))
core_tuple es = ap core_of (sym (t.rolls-Tuple es)) ∙ fold-roll-CoreTree Core Group Function core_step group_step function_step (tree.Tuple es)

core_list : (es : List CoreTree) → core_of (t.List es) ≡ ListOf (cores (map core_of es))
core_list es = ap core_of (sym (t.rolls-List es)) ∙ fold-roll-CoreTree Core Group Function core_step group_step function_step (tree.List es)

core_fields : (fs : List (List ℕ × CoreTree)) → core_of (t.Fields fs) ≡ Fields (fields (map field_of fs))
core_fields fs = ap core_of (sym (t.rolls-Fields fs)) ∙ fold-roll-CoreTree Core Group Function core_step group_step function_step (tree.Fields fs)

core_update : (e : CoreTree) (fs : List (List ℕ × CoreTree)) → core_of (t.Update e fs) ≡ Update (core_of e) (fields (map field_of fs))
core_update e fs = ap core_of (sym (t.rolls-Update e fs)) ∙ fold-roll-CoreTree Core Group Function core_step group_step function_step (tree.Update e fs)

core_extend : (e : CoreTree) (fs : List (List ℕ × CoreTree)) → core_of (t.Extend e fs) ≡ Extend (core_of e) (fields (map field_of fs))
core_extend e fs = ap core_of (sym (t.rolls-Extend e fs)) ∙ fold-roll-CoreTree Core Group Function core_step group_step function_step (tree.Extend e fs)

pub whole_lambda : (w : CoreTree) (p : PatternTree) (ps : List PatternTree) (b : CoreTree) → w ≡ t.Lambda p ps b → applied_for w ≡ tree_for w
whole_lambda w p ps b is = ap applied_layer (out_lambda w p ps b is) ∙ sym (ap tree_for is ∙ ap lowered (core_lambda p ps b) ∙ ap (Tree.Lambda (pattern_for p)) (lambdas_are ps (core_of b)))

pub whole_call : (w : CoreTree) (f : CoreTree) (xs : List CoreTree) → w ≡ t.Call f xs → applied_for w ≡ tree_for w
whole_call w f xs is = ap applied_layer (out_call w f xs is) ∙ sym (ap tree_for is ∙ ap lowered (core_call f xs) ∙ calls_are (core_of f) xs)

pub whole_guards : (w : CoreTree) (bs : List (CoreTree × CoreTree)) → w ≡ t.Guards bs → choice_for w ≡ tree_for w
whole_guards w bs is = ap choice_layer (out_guards w bs is) ∙ sym (ap tree_for is ∙ ap lowered (core_guards bs) ∙ ap Tree.Guards (guards_are bs))

pub whole_case : (w : CoreTree) (e : CoreTree) (bs : List (PatternTree × CoreTree)) → w ≡ t.Case e bs → choice_for w ≡ tree_for w
whole_case w e bs is = ap choice_layer (out_case w e bs is) ∙ sym (ap tree_for is ∙ ap lowered (core_case e bs) ∙ ap (Tree.Case (tree_for e)) (branches_are bs))

pub whole_let : (w : CoreTree) (gs : List LetGroup) (b : CoreTree) → w ≡ t.Let gs b → choice_for w ≡ tree_for w
whole_let w gs b is = ap choice_layer (out_let w gs b is) ∙ sym (ap tree_for is ∙ ap lowered (core_let gs b) ∙ groups_are gs (core_of b))

pub whole_tuple : (w : CoreTree) (es : List CoreTree) → w ≡ t.Tuple es → built_for w ≡ tree_for w
whole_tuple w es is = ap built_layer (out_tuple w es is) ∙ sym (ap tree_for is ∙ ap lowered (core_tuple es) ∙ ap TupleTree (parts_are es))

pub whole_list : (w : CoreTree) (es : List CoreTree) → w ≡ t.List es → built_for w ≡ tree_for w
whole_list w es is = ap built_layer (out_list w es is) ∙ sym (ap tree_for is ∙ ap lowered (core_list es) ∙ ap ListTree (parts_are es))

pub whole_fields : (w : CoreTree) (fs : List (List ℕ × CoreTree)) → w ≡ t.Fields fs → built_for w ≡ tree_for w
whole_fields w fs is = ap built_layer (out_fields w fs is) ∙ sym (ap tree_for is ∙ ap lowered (core_fields fs) ∙ ap RecordTree (fields_are fs))

pub whole_update : (w : CoreTree) (e : CoreTree) (fs : List (List ℕ × CoreTree)) → w ≡ t.Update e fs → built_for w ≡ tree_for w
whole_update w e fs is = ap built_layer (out_update w e fs is) ∙ sym (ap tree_for is ∙ ap lowered (core_update e fs) ∙ ap (Tree.Update (tree_for e)) (fields_are fs))

pub whole_extend : (w : CoreTree) (e : CoreTree) (fs : List (List ℕ × CoreTree)) → w ≡ t.Extend e fs → built_for w ≡ tree_for w
whole_extend w e fs is = ap built_layer (out_extend w e fs is) ∙ sym (ap tree_for is ∙ ap lowered (core_extend e fs) ∙ ap (Tree.Extend (tree_for e)) (fields_are fs))

-- ---- functions of a group

pub local_is : (number : ℕ) → term_pattern_of (tp.Local number) ≡ Pattern.Local number
local_is number = ap term_pattern_of (sym (tp.rolls-Local number)) ∙ fold-roll-TermPattern Pattern pattern_step (term.Local number)

function_is : (f : LetFunction) → function_of f ≡ function_step (record { number = f.number; annotation = f.annotation; pattern = f.pattern; more = f.more; body = core_of f.body })
function_is f = fold_out-LetFunction Core Group Function core_step group_step function_step f

functions_are : (fs : List LetFunction) → (trees_in (members_in (functions (map function_of fs))) ≡ map function_tree fs) × (patterns_in (members_in (functions (map function_of fs))) ≡ map function_name fs)
functions_are [] = (refl, refl)
functions_are (f ∷ fs) =
    let rest = functions_are fs in (
      ap₂ (λ x l. x ∷ l) (ap (λ k. Tree.Lambda (erased_pattern k.pattern) (lowered k.body)) (function_is f) ∙ ap (Tree.Lambda (pattern_for f.pattern)) (lambdas_are f.more (core_of f.body))) rest.0,
      ap₂ (λ x l. x ∷ l) (ap (λ k. Pattern.Local k.number) (function_is f)) rest.1,
    )

group_functions : (fs : List LetFunction) → group_of (g.Functions fs) ≡ Functions (functions (map function_of fs))
group_functions fs = ap group_of (sym (g.rolls-Functions fs)) ∙ fold-roll-LetGroup Core Group Function core_step group_step function_step (tree.Functions fs)

pub functions_trees : (k : LetGroup) (given fs : List LetFunction) → k ≡ g.Functions fs → given ≡ fs → map function_tree given ≡ trees_in (group_members k)
functions_trees k given fs is same = ap (map function_tree) same ∙ sym (ap (λ x. trees_in (group_members x)) is ∙ ap (λ x. trees_in (members_for x)) (group_functions fs) ∙ (functions_are fs).0)

pub functions_names : (k : LetGroup) (given fs : List LetFunction) → k ≡ g.Functions fs → given ≡ fs → map function_name given ≡ patterns_in (group_members k)
functions_names k given fs is same = ap (map function_name) same ∙ sym (ap (λ x. patterns_in (group_members x)) is ∙ ap (λ x. patterns_in (members_for x)) (group_functions fs) ∙ (functions_are fs).1)
