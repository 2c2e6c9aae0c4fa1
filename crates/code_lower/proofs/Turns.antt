-- Loops over parts: one part more.
use Rattle.std.proofs.Common.{◌≡◌, ℕ, zero, suc, ◌+◌, ◌<◌, ◌≤◌, List, [], ◌∷◌, ◌++◌, length, map, take, get_or, refl, sym, ap, ◌∙◌, arith, add-one}
use Rattle.std.proofs.Math.Seq.{take-suc}
use Rattle.elm_base.specs.declared.term.Term.{Term}
use Rattle.elm_base.specs.declared.term.Term.TheVariants as term
use Rattle.elm_base.specs.declared.term.TermPattern.{TermPattern}
use Rattle.elm_meaning.specs.Values.{Tree, NoTree}
use Rattle.elm_meaning.specs.Lowered.{places_of_pairs, places_of_branches, places_of_groups}
use Rattle.core_trees.specs.declared.tree.CoreTree.{CoreTree}
use Rattle.core_trees.specs.declared.tree.LetGroup.{LetGroup}
use Rattle.code_lower.specs.Laying.{Lowers, Wraps, tree_for, pairs_for, calls_for, trees_in, all_trees_in, group_members}
use Rattle.code_lower.proofs.Laying.{joins, relabelled}
use Rattle.code_lower.proofs.Closing.{Pushed, form}

append_all : {A : Type 0} (xs ys zs : List A) → (xs ++ ys) ++ zs ≡ xs ++ (ys ++ zs)
append_all [] ys zs = refl
append_all (x ∷ xs) ys zs = ap (λ l. x ∷ l) (append_all xs ys zs)

append_none : {A : Type 0} (xs : List A) → xs ++ [] ≡ xs
append_none [] = refl
append_none (x ∷ xs) = ap (λ l. x ∷ l) (append_none xs)

map_behind : {A B : Type 0} (f : A → B) (xs : List A) (x : A) → map f (xs ++ x ∷ []) ≡ map f xs ++ f x ∷ []
map_behind f [] x = refl
map_behind f (y ∷ xs) x = ap (λ l. f y ∷ l) (map_behind f xs x)

take_more : {A : Type 0} (xs : List A) (i : ℕ) (x : A) → i < length xs → x ≡ get_or xs i x → take (i + 1) xs ≡ take i xs ++ x ∷ []
take_more xs i x lt is = ap (λ (k : ℕ). take k xs) (add-one i) ∙ take-suc xs i x lt ∙ ap (λ y. take i xs ++ y ∷ []) (sym is)

pub take_all : {A : Type 0} (i : ℕ) (xs : List A) → length xs ≤ i → take i xs ≡ xs
take_all zero [] h = refl
take_all (suc i) [] h = refl
take_all zero (x ∷ xs) h = absurd (omega (arith, h))
take_all (suc i) (x ∷ xs) h = ap (λ ys. x ∷ ys) (take_all i xs (omega (arith, h)))

pub places_turn : (a b c : List Term) (made new : List ℕ) (i : ℕ) (xs : List CoreTree) (x : CoreTree) (at : ℕ) → i < length xs → x ≡ get_or xs i x →
    Lowers a b made (map tree_for (take i xs)) → Lowers b c (at ∷ []) (tree_for x ∷ []) → new ≡ made ++ at ∷ [] → Lowers a c new (map tree_for (take (i + 1) xs))
places_turn a b c made new i xs x at lt is f g grown =
    relabelled a c (made ++ at ∷ []) new (map tree_for (take i xs) ++ tree_for x ∷ []) (map tree_for (take (i + 1) xs)) (sym grown)
    (sym (ap (map tree_for) (take_more xs i x lt is) ∙ map_behind tree_for (take i xs) x))
    (joins a b c made (at ∷ []) (map tree_for (take i xs)) (tree_for x ∷ []) f g)

-- parts that stand at places of what is made
pub turn : {A B : Type 0} (f : A → Tree) (g : B → ℕ) (a b c : List Term) (made new : List B) (i : ℕ) (xs : List A) (x : A) (m : B) → i < length xs → x ≡ get_or xs i x →
    Lowers a b (map g made) (map f (take i xs)) → Lowers b c (g m ∷ []) (f x ∷ []) → new ≡ made ++ m ∷ [] → Lowers a c (map g new) (map f (take (i + 1) xs))
turn f g a b c made new i xs x m lt is p q grown =
    relabelled a c (map g made ++ g m ∷ []) (map g new) (map f (take i xs) ++ f x ∷ []) (map f (take (i + 1) xs))
    (sym (ap (map g) grown ∙ map_behind g made m)) (sym (ap (map f) (take_more xs i x lt is) ∙ map_behind f (take i xs) x))
    (joins a b c (map g made) (g m ∷ []) (map f (take i xs)) (f x ∷ []) p q)

pub words_turn : {A B C : Type 0} (f : A → C) (g : B → C) (made new : List B) (i : ℕ) (xs : List A) (x : A) (m : B) → i < length xs → x ≡ get_or xs i x →
    map g made ≡ map f (take i xs) → g m ≡ f x → new ≡ made ++ m ∷ [] → map g new ≡ map f (take (i + 1) xs)
words_turn f g made new i xs x m lt is here same grown =
    ap (map g) grown ∙ map_behind g made m ∙ ap (λ l. l ++ g m ∷ []) here ∙ ap (λ w. map f (take i xs) ++ w ∷ []) same
    ∙ sym (ap (map f) (take_more xs i x lt is) ∙ map_behind f (take i xs) x)

-- pairs

places_behind : (ps : List (ℕ × ℕ)) (c y : ℕ) → places_of_pairs (ps ++ (c, y) ∷ []) ≡ places_of_pairs ps ++ c ∷ y ∷ []
places_behind [] c y = refl
places_behind (p ∷ ps) c y = ap (λ l. p.0 ∷ p.1 ∷ l) (places_behind ps c y)

pairs_behind : (ps : List (CoreTree × CoreTree)) (p : CoreTree × CoreTree) → pairs_for (ps ++ p ∷ []) ≡ pairs_for ps ++ tree_for p.0 ∷ tree_for p.1 ∷ []
pairs_behind [] p = refl
pairs_behind (q ∷ ps) p = ap (λ l. tree_for q.0 ∷ tree_for q.1 ∷ l) (pairs_behind ps p)

pub pairs_turn : (a b c d : List Term) (made new : List (ℕ × ℕ)) (i : ℕ) (xs : List (CoreTree × CoreTree)) (x : CoreTree × CoreTree) (p q : ℕ) → i < length xs → x ≡ get_or xs i x →
    Lowers a b (places_of_pairs made) (pairs_for (take i xs)) → Lowers b c (p ∷ []) (tree_for x.0 ∷ []) → Lowers c d (q ∷ []) (tree_for x.1 ∷ []) → new ≡ made ++ (p, q) ∷ [] →
    Lowers a d (places_of_pairs new) (pairs_for (take (i + 1) xs))
pairs_turn a b c d made new i xs x p q lt is f g h grown =
    relabelled a d (places_of_pairs made ++ p ∷ q ∷ []) (places_of_pairs new) (pairs_for (take i xs) ++ tree_for x.0 ∷ tree_for x.1 ∷ []) (pairs_for (take (i + 1) xs))
    (sym (ap places_of_pairs grown ∙ places_behind made p q)) (sym (ap pairs_for (take_more xs i x lt is) ∙ pairs_behind (take i xs) x))
    (joins a b d (places_of_pairs made) (p ∷ q ∷ []) (pairs_for (take i xs)) (tree_for x.0 ∷ tree_for x.1 ∷ []) f
    (joins b c d (p ∷ []) (q ∷ []) (tree_for x.0 ∷ []) (tree_for x.1 ∷ []) g h))

-- groups

groups_behind : (gs : List (List (TermPattern × ℕ))) (g : List (TermPattern × ℕ)) → places_of_groups (gs ++ g ∷ []) ≡ places_of_groups gs ++ places_of_branches g
groups_behind [] g = append_none (places_of_branches g)
groups_behind (h ∷ gs) g = ap (λ l. places_of_branches h ++ l) (groups_behind gs g) ∙ sym (append_all (places_of_branches h) (places_of_groups gs) (places_of_branches g))

trees_behind : (gs : List LetGroup) (g : LetGroup) → all_trees_in (map group_members (gs ++ g ∷ [])) ≡ all_trees_in (map group_members gs) ++ trees_in (group_members g)
trees_behind [] g = append_none (trees_in (group_members g))
trees_behind (h ∷ gs) g =
    ap (λ l. trees_in (group_members h) ++ l) (trees_behind gs g) ∙ sym (append_all (trees_in (group_members h)) (all_trees_in (map group_members gs)) (trees_in (group_members g)))

pub groups_turn : (a b c : List Term) (made new : List (List (TermPattern × ℕ))) (i : ℕ) (xs : List LetGroup) (x : LetGroup) (m : List (TermPattern × ℕ)) → i < length xs → x ≡ get_or xs i x →
    Lowers a b (places_of_groups made) (all_trees_in (map group_members (take i xs))) → Lowers b c (places_of_branches m) (trees_in (group_members x)) → new ≡ made ++ m ∷ [] →
    Lowers a c (places_of_groups new) (all_trees_in (map group_members (take (i + 1) xs)))
groups_turn a b c made new i xs x m lt is f g grown =
    relabelled a c (places_of_groups made ++ places_of_branches m) (places_of_groups new) (all_trees_in (map group_members (take i xs)) ++ trees_in (group_members x)) (all_trees_in (map group_members (take (i + 1) xs)))
    (sym (ap places_of_groups grown ∙ groups_behind made m))
    (sym (ap (λ l. all_trees_in (map group_members l)) (take_more xs i x lt is) ∙ trees_behind (take i xs) x))
    (joins a b c (places_of_groups made) (places_of_branches m) (all_trees_in (map group_members (take i xs))) (trees_in (group_members x)) f g)

-- calls

abbrev call_from : List Tree → Tree
call_from (f ∷ a ∷ []) = Tree.Call f a
call_from _ = NoTree

calls_behind : (t : Tree) (xs : List CoreTree) (x : CoreTree) → calls_for t (xs ++ x ∷ []) ≡ Tree.Call (calls_for t xs) (tree_for x)
calls_behind t [] x = refl
calls_behind t (y ∷ xs) x = calls_behind (Tree.Call t (tree_for y)) xs x

pub calls_turn : (a b c d : List Term) (function f argument at i : ℕ) (xs : List CoreTree) (x : CoreTree) → i < length xs → x ≡ get_or xs i x →
    Wraps a b function f (λ tree. calls_for tree (take i xs)) → Lowers b c (argument ∷ []) (tree_for x ∷ []) → Pushed c d (term.Call f argument) at →
    Wraps a d function at (λ tree. calls_for tree (take (i + 1) xs))
calls_turn a b c d function f argument at i xs x lt is wraps g pushed before tree h =
    form before c d (f ∷ argument ∷ []) (calls_for tree (take i xs) ∷ tree_for x ∷ []) (term.Call f argument) at (calls_for tree (take (i + 1) xs)) call_from pushed refl refl
    (sym (ap (calls_for tree) (take_more xs i x lt is) ∙ calls_behind tree (take i xs) x))
    (joins before b c (f ∷ []) (argument ∷ []) (calls_for tree (take i xs) ∷ []) (tree_for x ∷ []) (wraps before tree h) g)
