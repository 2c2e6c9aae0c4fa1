-- Each form of a tree, from its parts.
use Rattle.std.proofs.Common.{◌≡◌, ℕ, suc, Option, Some, None, List, [], ◌∷◌, ◌++◌, length, map, refl, sym, ap, ap₂, ◌∙◌, arith}
use Rattle.elm_base.specs.declared.term.Term.{Term}
use Rattle.elm_base.specs.declared.term.Term.TheVariants as term
use Rattle.elm_base.specs.declared.term.TermPattern.{TermPattern}
use Rattle.elm_meaning.specs.Patterns.{Pattern, pattern_of}
use Rattle.elm_meaning.specs.Values.{Tree, Trees, FieldTrees, GuardedTrees, Branches, Group as TreeGroup, NoTree, Done, TupleTree, ListTree, RecordTree, NoTrees, AndTree, NoFieldTrees, AndFieldTree, NoGuards, AndGuard, NoBranches, AndBranch, NoFunctions}
use Rattle.elm_meaning.specs.Terms.{tree_at, trees_at, fields_at, guards_at, branches_at, function_before, functions_at, group_tree, let_tree, trees_of}
use Rattle.elm_meaning.specs.Lowered.{places_of_pairs, places_of_branches, places_of_fields, places_of_groups}
use Rattle.core_trees.specs.declared.pattern.PatternTree.{PatternTree}
use Rattle.core_trees.specs.declared.tree.CoreTree.{CoreTree}
use Rattle.core_trees.specs.declared.tree.CoreTree.TheVariants as t
use Rattle.core_trees.specs.declared.tree.LetGroup.{LetGroup}
use Rattle.core_trees.specs.Reading.{Group, Value, Functions, group_of}
use Rattle.typing_rules.specs.CorePatterns.{erased_pattern}
use Rattle.typing_rules.specs.Core.{CoreGroup, NoCoreFunctions, AndCoreFunction}
use Rattle.code_lower.specs.Lowered.{let_value, lowered, lowered_group}
use Rattle.code_lower.specs.Laying.{Lowers, tree_for, pattern_for, applied_layer, applied_for, built_layer, built_for, choice_layer, choice_for, trees_for, fields_for, labels_for, labels_of, field_trees_for, pairs_for, guards_for, branches_for, branch_patterns, branch_trees, patterns_of, patterns_in, trees_in, all_trees_in, members_in, members_for, group_members, group_before, groups_before}
use Rattle.code_lower.proofs.Laying.{joins, closes}
use Rattle.code_lower.proofs.Closing.{Pushed, form}
use Rattle.code_lower.proofs.Outs.{out_if, out_range, out_remove, out_field, out_tuple, out_list, out_fields, out_update, out_extend, out_guards, out_case, out_let}

-- ---- one, two and three parts

abbrev if_from : List Tree → Tree
if_from (c ∷ y ∷ n ∷ []) = Tree.If c y n
if_from _ = NoTree

pub if_form : (a b0 b1 b2 new : List Term) (pc py pn at : ℕ) (w c y n : CoreTree) → w ≡ t.If c y n → Lowers a b0 (pc ∷ []) (tree_for c ∷ []) → Lowers b0 b1 (py ∷ []) (tree_for y ∷ []) →
    Lowers b1 b2 (pn ∷ []) (tree_for n ∷ []) → Pushed b2 new (term.If pc py pn) at → Lowers a new (at ∷ []) (applied_for w ∷ [])
if_form a b0 b1 b2 new pc py pn at w c y n is f g h pushed =
    form a b2 new (pc ∷ py ∷ pn ∷ []) (tree_for c ∷ tree_for y ∷ tree_for n ∷ []) (term.If pc py pn) at (applied_for w) if_from pushed refl refl
    (sym (ap applied_layer (out_if w c y n is)))
    (joins a b0 b2 (pc ∷ []) (py ∷ pn ∷ []) (tree_for c ∷ []) (tree_for y ∷ tree_for n ∷ []) f (joins b0 b1 b2 (py ∷ []) (pn ∷ []) (tree_for y ∷ []) (tree_for n ∷ []) g h))

abbrev range_from : List Tree → Tree
range_from (l ∷ h ∷ []) = Tree.Range l h
range_from _ = NoTree

pub range_form : (a b0 b1 new : List Term) (pl ph at : ℕ) (w l h : CoreTree) → w ≡ t.Range l h → Lowers a b0 (pl ∷ []) (tree_for l ∷ []) → Lowers b0 b1 (ph ∷ []) (tree_for h ∷ []) →
    Pushed b1 new (term.Range pl ph) at → Lowers a new (at ∷ []) (applied_for w ∷ [])
range_form a b0 b1 new pl ph at w l h is f g pushed =
    form a b1 new (pl ∷ ph ∷ []) (tree_for l ∷ tree_for h ∷ []) (term.Range pl ph) at (applied_for w) range_from pushed refl refl
    (sym (ap applied_layer (out_range w l h is))) (joins a b0 b1 (pl ∷ []) (ph ∷ []) (tree_for l ∷ []) (tree_for h ∷ []) f g)

abbrev remove_from : List ℕ → List Tree → Tree
remove_from label (e ∷ []) = Tree.Remove e label
remove_from label _ = NoTree

pub remove_form : (a b new : List Term) (p at : ℕ) (name label : List ℕ) (w e : CoreTree) → w ≡ t.Remove e label → name ≡ label → Lowers a b (p ∷ []) (tree_for e ∷ []) →
    Pushed b new (term.Remove p name) at → Lowers a new (at ∷ []) (applied_for w ∷ [])
remove_form a b new p at name label w e is same f pushed =
    form a b new (p ∷ []) (tree_for e ∷ []) (term.Remove p name) at (applied_for w) (remove_from name) pushed refl refl
    (ap (Tree.Remove (tree_for e)) same ∙ sym (ap applied_layer (out_remove w e label is))) f

abbrev field_from : List ℕ → List Tree → Tree
field_from label (e ∷ []) = Tree.Field e label
field_from label _ = NoTree

pub field_form : (a b new : List Term) (p at : ℕ) (name label : List ℕ) (w e : CoreTree) → w ≡ t.Field e label → name ≡ label → Lowers a b (p ∷ []) (tree_for e ∷ []) →
    Pushed b new (term.Field p name) at → Lowers a new (at ∷ []) (applied_for w ∷ [])
field_form a b new p at name label w e is same f pushed =
    form a b new (p ∷ []) (tree_for e ∷ []) (term.Field p name) at (applied_for w) (field_from name) pushed refl refl
    (ap (Tree.Field (tree_for e)) same ∙ sym (ap applied_layer (out_field w e label is))) f

-- ---- lists of parts

abbrev parts_from : List Tree → Trees
parts_from [] = NoTrees
parts_from (e ∷ es) = AndTree e (parts_from es)

parts_read : (ts : List Tree) (ps : List ℕ) → trees_at ts ps ≡ parts_from (map (tree_at ts) ps)
parts_read ts [] = refl
parts_read ts (p ∷ ps) = ap (AndTree (tree_at ts p)) (parts_read ts ps)

parts_are : (xs : List CoreTree) → parts_from (map tree_for xs) ≡ trees_for xs
parts_are [] = refl
parts_are (x ∷ xs) = ap (AndTree (tree_for x)) (parts_are xs)

pub tuple_form : (a b new : List Term) (ps : List ℕ) (at : ℕ) (w : CoreTree) (given xs : List CoreTree) → w ≡ t.Tuple xs → given ≡ xs → Lowers a b ps (map tree_for given) → Pushed b new (term.Tuple ps) at → Lowers a new (at ∷ []) (built_for w ∷ [])
tuple_form a b new ps at w given xs is same f pushed =
    form a b new ps (map tree_for given) (term.Tuple ps) at (built_for w) (λ l. TupleTree (parts_from l)) pushed refl (ap TupleTree (parts_read (trees_of b) ps))
    (ap TupleTree (parts_are given ∙ ap trees_for same) ∙ sym (ap built_layer (out_tuple w xs is))) f

pub list_form : (a b new : List Term) (ps : List ℕ) (at : ℕ) (w : CoreTree) (given xs : List CoreTree) → w ≡ t.List xs → given ≡ xs → Lowers a b ps (map tree_for given) → Pushed b new (term.List ps) at → Lowers a new (at ∷ []) (built_for w ∷ [])
list_form a b new ps at w given xs is same f pushed =
    form a b new ps (map tree_for given) (term.List ps) at (built_for w) (λ l. ListTree (parts_from l)) pushed refl (ap ListTree (parts_read (trees_of b) ps))
    (ap ListTree (parts_are given ∙ ap trees_for same) ∙ sym (ap built_layer (out_list w xs is))) f

-- ---- fields

abbrev fields_from : List (List ℕ) → List Tree → FieldTrees
fields_from (l ∷ ls) (e ∷ es) = AndFieldTree l e (fields_from ls es)
fields_from _ _ = NoFieldTrees

fields_read : (ts : List Tree) (fs : List (List ℕ × ℕ)) → fields_at ts fs ≡ fields_from (labels_of fs) (map (tree_at ts) (places_of_fields fs))
fields_read ts [] = refl
fields_read ts (f ∷ fs) = ap (AndFieldTree f.0 (tree_at ts f.1)) (fields_read ts fs)

fields_are : (xs : List (List ℕ × CoreTree)) → fields_from (labels_for xs) (fields_for xs) ≡ field_trees_for xs
fields_are [] = refl
fields_are (x ∷ xs) = ap (AndFieldTree x.0 (tree_for x.1)) (fields_are xs)

made_fields : (made : List (List ℕ × ℕ)) (given xs : List (List ℕ × CoreTree)) → labels_of made ≡ labels_for given → given ≡ xs → fields_from (labels_of made) (fields_for given) ≡ field_trees_for xs
made_fields made given xs labels same = ap (λ ls. fields_from ls (fields_for given)) labels ∙ fields_are given ∙ ap field_trees_for same

pub fields_form : (a b new : List Term) (made : List (List ℕ × ℕ)) (at : ℕ) (w : CoreTree) (given xs : List (List ℕ × CoreTree)) → w ≡ t.Fields xs → given ≡ xs →
    Lowers a b (places_of_fields made) (fields_for given) → labels_of made ≡ labels_for given → Pushed b new (term.Fields made) at → Lowers a new (at ∷ []) (built_for w ∷ [])
fields_form a b new made at w given xs is same f labels pushed =
    form a b new (places_of_fields made) (fields_for given) (term.Fields made) at (built_for w) (λ l. RecordTree (fields_from (labels_of made) l)) pushed refl
    (ap RecordTree (fields_read (trees_of b) made)) (ap RecordTree (made_fields made given xs labels same) ∙ sym (ap built_layer (out_fields w xs is))) f

abbrev update_from : List (List ℕ) → List Tree → Tree
update_from ls (e ∷ es) = Tree.Update e (fields_from ls es)
update_from ls [] = NoTree

pub update_form : (a b c new : List Term) (p : ℕ) (made : List (List ℕ × ℕ)) (at : ℕ) (w e : CoreTree) (given xs : List (List ℕ × CoreTree)) → w ≡ t.Update e xs → given ≡ xs → Lowers a b (p ∷ []) (tree_for e ∷ []) →
    Lowers b c (places_of_fields made) (fields_for given) → labels_of made ≡ labels_for given → Pushed c new (term.Update p made) at → Lowers a new (at ∷ []) (built_for w ∷ [])
update_form a b c new p made at w e given xs is same f g labels pushed =
    form a c new (p ∷ places_of_fields made) (tree_for e ∷ fields_for given) (term.Update p made) at (built_for w) (update_from (labels_of made)) pushed refl
    (ap (Tree.Update (tree_at (trees_of c) p)) (fields_read (trees_of c) made)) (ap (Tree.Update (tree_for e)) (made_fields made given xs labels same) ∙ sym (ap built_layer (out_update w e xs is)))
    (joins a b c (p ∷ []) (places_of_fields made) (tree_for e ∷ []) (fields_for given) f g)

abbrev extend_from : List (List ℕ) → List Tree → Tree
extend_from ls (e ∷ es) = Tree.Extend e (fields_from ls es)
extend_from ls [] = NoTree

pub extend_form : (a b c new : List Term) (p : ℕ) (made : List (List ℕ × ℕ)) (at : ℕ) (w e : CoreTree) (given xs : List (List ℕ × CoreTree)) → w ≡ t.Extend e xs → given ≡ xs → Lowers a b (p ∷ []) (tree_for e ∷ []) →
    Lowers b c (places_of_fields made) (fields_for given) → labels_of made ≡ labels_for given → Pushed c new (term.Extend p made) at → Lowers a new (at ∷ []) (built_for w ∷ [])
extend_form a b c new p made at w e given xs is same f g labels pushed =
    form a c new (p ∷ places_of_fields made) (tree_for e ∷ fields_for given) (term.Extend p made) at (built_for w) (extend_from (labels_of made)) pushed refl
    (ap (Tree.Extend (tree_at (trees_of c) p)) (fields_read (trees_of c) made)) (ap (Tree.Extend (tree_for e)) (made_fields made given xs labels same) ∙ sym (ap built_layer (out_extend w e xs is)))
    (joins a b c (p ∷ []) (places_of_fields made) (tree_for e ∷ []) (fields_for given) f g)

-- ---- branches

abbrev guards_from : List Tree → GuardedTrees
guards_from (c ∷ y ∷ more) = AndGuard c y (guards_from more)
guards_from _ = NoGuards

guards_read : (ts : List Tree) (gs : List (ℕ × ℕ)) → guards_at ts gs ≡ guards_from (map (tree_at ts) (places_of_pairs gs))
guards_read ts [] = refl
guards_read ts (g ∷ gs) = ap (AndGuard (tree_at ts g.0) (tree_at ts g.1)) (guards_read ts gs)

guards_are : (xs : List (CoreTree × CoreTree)) → guards_from (pairs_for xs) ≡ guards_for xs
guards_are [] = refl
guards_are (x ∷ xs) = ap (AndGuard (tree_for x.0) (tree_for x.1)) (guards_are xs)

pub guards_form : (a b new : List Term) (made : List (ℕ × ℕ)) (at : ℕ) (w : CoreTree) (given xs : List (CoreTree × CoreTree)) → w ≡ t.Guards xs → given ≡ xs → Lowers a b (places_of_pairs made) (pairs_for given) →
    Pushed b new (term.Guards made) at → Lowers a new (at ∷ []) (choice_for w ∷ [])
guards_form a b new made at w given xs is same f pushed =
    form a b new (places_of_pairs made) (pairs_for given) (term.Guards made) at (choice_for w) (λ l. Tree.Guards (guards_from l)) pushed refl (ap Tree.Guards (guards_read (trees_of b) made))
    (ap Tree.Guards (guards_are given ∙ ap guards_for same) ∙ sym (ap choice_layer (out_guards w xs is))) f

abbrev branches_from : List Pattern → List Tree → Branches
branches_from (p ∷ ps) (e ∷ es) = AndBranch p e (branches_from ps es)
branches_from _ _ = NoBranches

branches_read : (ts : List Tree) (bs : List (TermPattern × ℕ)) → branches_at ts bs ≡ branches_from (patterns_of bs) (map (tree_at ts) (places_of_branches bs))
branches_read ts [] = refl
branches_read ts (b ∷ bs) = ap (AndBranch (pattern_of b.0) (tree_at ts b.1)) (branches_read ts bs)

branches_are : (xs : List (PatternTree × CoreTree)) → branches_from (branch_patterns xs) (branch_trees xs) ≡ branches_for xs
branches_are [] = refl
branches_are (x ∷ xs) = ap (AndBranch (pattern_for x.0) (tree_for x.1)) (branches_are xs)

abbrev case_from : List Pattern → List Tree → Tree
case_from ps (e ∷ es) = Tree.Case e (branches_from ps es)
case_from ps [] = NoTree

pub case_form : (a b c new : List Term) (p : ℕ) (made : List (TermPattern × ℕ)) (at : ℕ) (w e : CoreTree) (given xs : List (PatternTree × CoreTree)) → w ≡ t.Case e xs → given ≡ xs → Lowers a b (p ∷ []) (tree_for e ∷ []) →
    Lowers b c (places_of_branches made) (branch_trees given) → patterns_of made ≡ branch_patterns given → Pushed c new (term.Case p made) at → Lowers a new (at ∷ []) (choice_for w ∷ [])
case_form a b c new p made at w e given xs is same f g patterns pushed =
    form a c new (p ∷ places_of_branches made) (tree_for e ∷ branch_trees given) (term.Case p made) at (choice_for w) (case_from (patterns_of made)) pushed refl
    (ap (Tree.Case (tree_at (trees_of c) p)) (branches_read (trees_of c) made))
    (ap (Tree.Case (tree_for e)) (ap (λ ps. branches_from ps (branch_trees given)) patterns ∙ branches_are given ∙ ap branches_for same) ∙ sym (ap choice_layer (out_case w e xs is)))
    (joins a b c (p ∷ []) (places_of_branches made) (tree_for e ∷ []) (branch_trees given) f g)

-- ---- groups of a `let`

abbrev functions_from : List (Pattern × Tree) → Option TreeGroup
functions_from [] = Some NoFunctions
functions_from (m ∷ ms) = function_before m.0 m.1 (functions_from ms)

abbrev group_from : Option TreeGroup → List (Pattern × Tree) → Tree → Tree
group_from (Some g) ms body = Tree.LetFunctions g body
group_from None (m ∷ []) body = Tree.LetValue m.0 m.1 body
group_from None _ body = NoTree

abbrev members_at : List Tree → List (TermPattern × ℕ) → List (Pattern × Tree)
members_at ts ms = map (λ m. (pattern_of m.0, tree_at ts m.1)) ms

functions_read : (ts : List Tree) (ms : List (TermPattern × ℕ)) → functions_at ts ms ≡ functions_from (members_at ts ms)
functions_read ts [] = refl
functions_read ts (m ∷ ms) = ap (function_before (pattern_of m.0) (tree_at ts m.1)) (functions_read ts ms)

group_read : (ts : List Tree) (o : Option TreeGroup) (ms : List (TermPattern × ℕ)) (body : Tree) → group_tree o ts ms body ≡ group_from o (members_at ts ms) body
group_read ts (Some g) ms body = refl
group_read ts None [] body = refl
group_read ts None (m ∷ []) body = refl
group_read ts None (m ∷ k ∷ ms) body = refl

members_are : (ts : List Tree) (ms : List (TermPattern × ℕ)) (wanted : List (Pattern × Tree)) → patterns_of ms ≡ patterns_in wanted → map (tree_at ts) (places_of_branches ms) ≡ trees_in wanted → members_at ts ms ≡ wanted
members_are ts [] [] p q = refl
members_are ts [] (w ∷ ws) p q = absurd cc
members_are ts (m ∷ ms) [] p q = absurd cc
members_are ts (m ∷ ms) (w ∷ ws) p q =
    let first : pattern_of m.0 ≡ w.0 = cc in
    let here : tree_at ts m.1 ≡ w.1 = cc in
    let more : patterns_of ms ≡ patterns_in ws = cc in
    let rest : map (tree_at ts) (places_of_branches ms) ≡ trees_in ws = cc in
    ap₂ (λ x xs. x ∷ xs) (ap₂ (λ a b. (a, b)) first here) (members_are ts ms ws more rest)

functions_of_group : (g : CoreGroup) → functions_from (members_in g) ≡ Some (lowered_group g)
functions_of_group NoCoreFunctions = refl
functions_of_group (AndCoreFunction number annotation p b g) =
    ap (function_before (Pattern.Local number) (Tree.Lambda (erased_pattern p) (lowered b))) (functions_of_group g)

value_is : (p : Pattern) (e body : Tree) → group_from (function_before p e (Some NoFunctions)) ((p, e) ∷ []) body ≡ let_value p e body
value_is (Pattern.Local number) (Tree.Lambda q b) body = refl
value_is (Pattern.Local number) NoTree body = refl
value_is (Pattern.Local number) (Done v) body = refl
value_is (Pattern.Local number) (Tree.Local n) body = refl
value_is (Pattern.Local number) (Tree.Top n) body = refl
value_is (Pattern.Local number) (Tree.Input n) body = refl
value_is (Pattern.Local number) (Tree.Call f a) body = refl
value_is (Pattern.Local number) (Tree.If c y z) body = refl
value_is (Pattern.Local number) (Tree.Guards gs) body = refl
value_is (Pattern.Local number) (Tree.Case e bs) body = refl
value_is (Pattern.Local number) (Tree.LetValue q e b) body = refl
value_is (Pattern.Local number) (Tree.LetFunctions g b) body = refl
value_is (Pattern.Local number) (TupleTree es) body = refl
value_is (Pattern.Local number) (ListTree es) body = refl
value_is (Pattern.Local number) (Tree.Range l h) body = refl
value_is (Pattern.Local number) (RecordTree fs) body = refl
value_is (Pattern.Local number) (Tree.Update e fs) body = refl
value_is (Pattern.Local number) (Tree.Extend e fs) body = refl
value_is (Pattern.Local number) (Tree.Remove e l) body = refl
value_is (Pattern.Local number) (Tree.Field e l) body = refl
value_is Pattern.Anything e body = refl
value_is (Pattern.Literal v) e body = refl
value_is (Pattern.Made c ps) e body = refl
value_is Pattern.Nil e body = refl
value_is (Pattern.Cons h r) e body = refl
value_is (Pattern.Tuple ps) e body = refl
value_is (Pattern.Fields ls) e body = refl
value_is (Pattern.Named i n) e body = refl

members_make : (g : Group) (body : Tree) → group_from (functions_from (members_for g)) (members_for g) body ≡ group_before g body
members_make (Value p e) body = value_is (erased_pattern p) (lowered e) body
members_make (Functions g) body = ap (λ o. group_from o (members_in g) body) (functions_of_group g)

group_is : (ts : List Tree) (ms : List (TermPattern × ℕ)) (g : LetGroup) (body : Tree) → patterns_of ms ≡ patterns_in (group_members g) → map (tree_at ts) (places_of_branches ms) ≡ trees_in (group_members g) →
    group_tree (functions_at ts ms) ts ms body ≡ group_before (group_of g) body
group_is ts ms g body p q =
    let same = members_are ts ms (group_members g) p q in
    group_read ts (functions_at ts ms) ms body ∙ ap (λ o. group_from o (members_at ts ms) body) (functions_read ts ms)
    ∙ ap (λ l. group_from (functions_from l) l body) same ∙ members_make (group_of g) body

-- two lists one behind the other, of which the first are as long
split : (xs ys zs ws : List Tree) → length xs ≡ length ys → xs ++ zs ≡ ys ++ ws → (xs ≡ ys) × (zs ≡ ws)
split [] [] zs ws n e = (refl, e)
split [] (y ∷ ys) zs ws n e = absurd (omega (arith, n))
split (x ∷ xs) [] zs ws n e = absurd (omega (arith, n))
split (x ∷ xs) (y ∷ ys) zs ws n e =
    let here : x ≡ y = cc in
    let more : xs ++ zs ≡ ys ++ ws = cc in
    let rest = split xs ys zs ws (omega (arith, n)) more in
    (ap₂ (λ a b. a ∷ b) here rest.0, rest.1)

map_append : {A B : Type 0} (f : A → B) (xs ys : List A) → map f (xs ++ ys) ≡ map f xs ++ map f ys
map_append f [] ys = refl
map_append f (x ∷ xs) ys = ap (λ l. f x ∷ l) (map_append f xs ys)

as_many : {A B : Type 0} (f : A → B) (xs : List A) → length (map f xs) ≡ length xs
as_many f [] = refl
as_many f (x ∷ xs) = ap suc (as_many f xs)

groups_are : (ts : List Tree) (made : List (List (TermPattern × ℕ))) (gs : List LetGroup) (body : Tree) → map patterns_of made ≡ map (λ g. patterns_in (group_members g)) gs →
    map (tree_at ts) (places_of_groups made) ≡ all_trees_in (map group_members gs) → let_tree ts made body ≡ groups_before gs body
groups_are ts [] [] body p q = refl
groups_are ts [] (g ∷ gs) body p q = absurd cc
groups_are ts (m ∷ made) [] body p q = absurd cc
groups_are ts (m ∷ made) (g ∷ gs) body p q =
    let here : patterns_of m ≡ patterns_in (group_members g) = cc in
    let more : map patterns_of made ≡ map (λ g. patterns_in (group_members g)) gs = cc in
    let long : length (map (tree_at ts) (places_of_branches m)) ≡ length (trees_in (group_members g)) =
    as_many (tree_at ts) (places_of_branches m) ∙ as_many (λ b. b.1) m ∙ sym (as_many (λ b. pattern_of b.0) m) ∙ ap length here
    ∙ as_many (λ b. b.0) (group_members g) ∙ sym (as_many (λ b. b.1) (group_members g)) in
    let parts = split (map (tree_at ts) (places_of_branches m)) (trees_in (group_members g)) (map (tree_at ts) (places_of_groups made)) (all_trees_in (map group_members gs)) long
    (sym (map_append (tree_at ts) (places_of_branches m) (places_of_groups made)) ∙ q) in
    ap (group_tree (functions_at ts m) ts m) (groups_are ts made gs body more parts.1) ∙ group_is ts m g (groups_before gs body) here parts.0

pub let_form : (a b c new : List Term) (made : List (List (TermPattern × ℕ))) (p at : ℕ) (w e : CoreTree) (given gs : List LetGroup) → w ≡ t.Let gs e → given ≡ gs →
    Lowers a b (places_of_groups made) (all_trees_in (map group_members given)) → map patterns_of made ≡ map (λ g. patterns_in (group_members g)) given → Lowers b c (p ∷ []) (tree_for e ∷ []) →
    Pushed c new (term.Let made p) at → Lowers a new (at ∷ []) (choice_for w ∷ [])
let_form a b c new made p at w e given gs is same f patterns g pushed =
    let whole = joins a b c (places_of_groups made) (p ∷ []) (all_trees_in (map group_members given)) (tree_for e ∷ []) f g in
    let both = split (map (tree_at (trees_of c)) (places_of_groups made)) (all_trees_in (map group_members given)) (tree_at (trees_of c) p ∷ []) (tree_for e ∷ []) (counted f.are)
    (sym (map_append (tree_at (trees_of c)) (places_of_groups made) (p ∷ [])) ∙ whole.are) in
    let body : tree_at (trees_of c) p ≡ tree_for e = cc in
    closes a c new (places_of_groups made ++ p ∷ []) (all_trees_in (map group_members given) ++ tree_for e ∷ []) (term.Let made p) at (choice_for w) pushed.0 pushed.1 refl
    (ap (let_tree (trees_of c) made) body ∙ groups_are (trees_of c) made given (tree_for e) patterns both.0 ∙ ap (λ l. groups_before l (tree_for e)) same ∙ sym (ap choice_layer (out_let w gs e is)))
    whole
  where
    counted : map (tree_at (trees_of b)) (places_of_groups made) ≡ all_trees_in (map group_members given) → length (map (tree_at (trees_of c)) (places_of_groups made)) ≡ length (all_trees_in (map group_members given))
    counted are = as_many (tree_at (trees_of c)) (places_of_groups made) ∙ sym (as_many (tree_at (trees_of b)) (places_of_groups made)) ∙ ap length are
