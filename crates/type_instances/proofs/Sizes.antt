-- The parts of a written tree, and how many nodes it has.
use Rattle.std.proofs.Common.{◌≡◌, ℕ, zero, suc, ◌+◌, ◌<◌, true, Option, Some, None, List, [], ◌∷◌, ◌++◌, length, get_or, map, refl, sym, ◌∙◌, ap, subst, arith}
use Rattle.elm_base.specs.declared.token.At.{At}
use Rattle.elm_base.specs.declared.tree.Spot.{Spot}
use Rattle.elm_base.specs.declared.tree.TypeTree.{TypeTree}
use Rattle.elm_base.specs.declared.tree.TypeTree.TheOpen as type
use Rattle.elm_base.specs.declared.tree.TypeTree.TheFolds.{fold-TypeTree, fold-roll-TypeTree}
use Rattle.elm_base.specs.declared.tree.TypeTree.TheVariants as t
use Rattle.typing_rules.specs.WrittenTypes.{Written}
use Rattle.typing_rules.specs.WrittenTypes as w
use Rattle.typing_rules.specs.Library.{writtens}
use Rattle.type_sense.specs.WrittenOf.{name_before, written_fields, written_step, written_of}
use Rattle.type_instances.specs.declared.uses.Use.{Use}
use Rattle.type_instances.specs.declared.table.Variable.{Variable}
use Rattle.type_instances.specs.Uses.{uses, uses_in, uses_in_fields, use_of}
use Rattle.type_instances.specs.Listing.{uses_in_trees, uses_of_fields, before_uses}
use Rattle.type_instances.specs.Tables.{Serves, ServesAt, Knows, is_open, tail_of}
use Rattle.type_instances.proofs.Choices.{uses-apart}

abbrev pub total : List ℕ → ℕ
total [] = 0
total (n ∷ ns) = n + total ns

abbrev pub total_of : List (Spot × ℕ) → ℕ
total_of [] = 0
total_of (f ∷ fs) = f.1 + total_of fs

abbrev pub size_step : type.TypeTree-F ℕ → ℕ
size_step (type.Variable at name) = 1
size_step (type.Named at name arguments) = 2 + total arguments
size_step (type.Arrow at from to) = 1 + (from + to)
size_step (type.Unit at) = 1
size_step (type.Tuple at parts) = 2 + total parts
size_step (type.Brackets at inner) = 1 + inner
size_step (type.Fields at before fields) = 2 + total_of fields

abbrev pub tree_size : TypeTree → ℕ
tree_size = fold-TypeTree ℕ size_step

abbrev pub trees_size : List TypeTree → ℕ
trees_size trees = 1 + total (map tree_size trees)

abbrev pub fields_size : List (Spot × TypeTree) → ℕ
fields_size fields = 1 + total_of (map (λ (f : Spot × TypeTree). (f.0, tree_size f.1)) fields)

-- forms --

size-named : (at : At) (name : List ℕ) (xs : List TypeTree) → tree_size (t.Named at name xs) ≡ 2 + total (map tree_size xs)
size-named at name xs = ap tree_size (sym (t.rolls-Named at name xs)) ∙ fold-roll-TypeTree ℕ size_step (type.Named at name xs)

size-arrow : (at : At) (a b : TypeTree) → tree_size (t.Arrow at a b) ≡ 1 + (tree_size a + tree_size b)
size-arrow at a b = ap tree_size (sym (t.rolls-Arrow at a b)) ∙ fold-roll-TypeTree ℕ size_step (type.Arrow at a b)

size-tuple : (at : At) (xs : List TypeTree) → tree_size (t.Tuple at xs) ≡ 2 + total (map tree_size xs)
size-tuple at xs = ap tree_size (sym (t.rolls-Tuple at xs)) ∙ fold-roll-TypeTree ℕ size_step (type.Tuple at xs)

size-brackets : (at : At) (a : TypeTree) → tree_size (t.Brackets at a) ≡ 1 + tree_size a
size-brackets at a = ap tree_size (sym (t.rolls-Brackets at a)) ∙ fold-roll-TypeTree ℕ size_step (type.Brackets at a)

size-fields : (at : At) (before : Option Spot) (fs : List (Spot × TypeTree)) → tree_size (t.Fields at before fs) ≡ 2 + total_of (map (λ (f : Spot × TypeTree). (f.0, tree_size f.1)) fs)
size-fields at before fs = ap tree_size (sym (t.rolls-Fields at before fs)) ∙ fold-roll-TypeTree ℕ size_step (type.Fields at before fs)

pub written-variable : (at : At) (name : List ℕ) → written_of (t.Variable at name) ≡ w.Variable name
written-variable at name = ap written_of (sym (t.rolls-Variable at name)) ∙ fold-roll-TypeTree Written written_step (type.Variable at name)

pub written-named : (at : At) (name : List ℕ) (xs : List TypeTree) → written_of (t.Named at name xs) ≡ w.Named name (writtens (map written_of xs))
written-named at name xs = ap written_of (sym (t.rolls-Named at name xs)) ∙ fold-roll-TypeTree Written written_step (type.Named at name xs)

pub written-arrow : (at : At) (a b : TypeTree) → written_of (t.Arrow at a b) ≡ w.Arrow (written_of a) (written_of b)
written-arrow at a b = ap written_of (sym (t.rolls-Arrow at a b)) ∙ fold-roll-TypeTree Written written_step (type.Arrow at a b)

pub written-unit : (at : At) → written_of (t.Unit at) ≡ w.Tuple w.NoWrittens
written-unit at = ap written_of (sym (t.rolls-Unit at)) ∙ fold-roll-TypeTree Written written_step (type.Unit at)

pub written-tuple : (at : At) (xs : List TypeTree) → written_of (t.Tuple at xs) ≡ w.Tuple (writtens (map written_of xs))
written-tuple at xs = ap written_of (sym (t.rolls-Tuple at xs)) ∙ fold-roll-TypeTree Written written_step (type.Tuple at xs)

pub written-brackets : (at : At) (a : TypeTree) → written_of (t.Brackets at a) ≡ written_of a
written-brackets at a = ap written_of (sym (t.rolls-Brackets at a)) ∙ fold-roll-TypeTree Written written_step (type.Brackets at a)

abbrev pub typed : List (Spot × TypeTree) → List (Spot × Written)
typed fs = map (λ (f : Spot × TypeTree). (f.0, written_of f.1)) fs

pub written-record : (at : At) (before : Option Spot) (fs : List (Spot × TypeTree)) → written_of (t.Fields at before fs) ≡ w.Fields (name_before before) (written_fields (typed fs))
written-record at before fs = ap written_of (sym (t.rolls-Fields at before fs)) ∙ fold-roll-TypeTree Written written_step (type.Fields at before fs)

-- uses --

pub uses-listed : (xs : List TypeTree) → uses_in (writtens (map written_of xs)) ≡ uses_in_trees xs
uses-listed [] = refl
uses-listed (x ∷ xs) = ap (λ l. uses (written_of x) ++ l) (uses-listed xs)

pub uses-fields : (fs : List (Spot × TypeTree)) → uses_in_fields (written_fields (typed fs)) ≡ uses_of_fields fs
uses-fields [] = refl
uses-fields (f ∷ fs) = ap (λ l. uses (written_of f.1) ++ l) (uses-fields fs)

pub uses-of-named : (tree : TypeTree) (at : At) (name : List ℕ) (xs : List TypeTree) → tree ≡ t.Named at name xs → uses (written_of tree) ≡ uses_in_trees xs
uses-of-named tree at name xs e = ap (λ x. uses (written_of x)) e ∙ ap uses (written-named at name xs) ∙ uses-listed xs

pub uses-of-arrow : (tree : TypeTree) (at : At) (a b : TypeTree) → tree ≡ t.Arrow at a b → uses (written_of tree) ≡ uses (written_of a) ++ uses (written_of b)
uses-of-arrow tree at a b e = ap (λ x. uses (written_of x)) e ∙ ap uses (written-arrow at a b)

pub uses-of-tuple : (tree : TypeTree) (at : At) (xs : List TypeTree) → tree ≡ t.Tuple at xs → uses (written_of tree) ≡ uses_in_trees xs
uses-of-tuple tree at xs e = ap (λ x. uses (written_of x)) e ∙ ap uses (written-tuple at xs) ∙ uses-listed xs

pub uses-of-brackets : (tree : TypeTree) (at : At) (a : TypeTree) → tree ≡ t.Brackets at a → uses (written_of tree) ≡ uses (written_of a)
uses-of-brackets tree at a e = ap (λ x. uses (written_of x)) e ∙ ap uses (written-brackets at a)

pub uses-of-record : (tree : TypeTree) (at : At) (before : Option Spot) (fs : List (Spot × TypeTree)) → tree ≡ t.Fields at before fs → uses (written_of tree) ≡ before_uses before ++ uses_of_fields fs
uses-of-record tree at None fs e = ap (λ x. uses (written_of x)) e ∙ ap uses (written-record at None fs) ∙ uses-fields fs
uses-of-record tree at (Some spot) fs e = ap (λ x. uses (written_of x)) e ∙ ap uses (written-record at (Some spot) fs) ∙ ap (λ l. use_of true spot.name ∷ l) (uses-fields fs)

-- what is served of the whole is served of its parts --

pub serves-apart : (table : List Variable) (us vs all : List Use) → all ≡ us ++ vs → Serves table all → Serves table us × Serves table vs
serves-apart table us vs all e h = uses-apart (λ u. ServesAt table u.before u.name) us vs (subst (Serves table) e h)

pub serves-at : (table : List Variable) (xs : List TypeTree) (i : ℕ) (d : TypeTree) → i < length xs → Serves table (uses_in_trees xs) → Serves table (uses (written_of (get_or xs i d)))
serves-at table [] i d lt h = absurd (omega (arith, lt))
serves-at table (x ∷ xs) zero d lt h = (serves-apart table (uses (written_of x)) (uses_in_trees xs) _ refl h).0
serves-at table (x ∷ xs) (suc i) d lt h = serves-at table xs i d (omega (arith, lt)) (serves-apart table (uses (written_of x)) (uses_in_trees xs) _ refl h).1

pub serves-field : (table : List Variable) (fs : List (Spot × TypeTree)) (i : ℕ) (d : Spot × TypeTree) → i < length fs → Serves table (uses_of_fields fs) → Serves table (uses (written_of (get_or fs i d).1))
serves-field table [] i d lt h = absurd (omega (arith, lt))
serves-field table (f ∷ fs) zero d lt h = (serves-apart table (uses (written_of f.1)) (uses_of_fields fs) _ refl h).0
serves-field table (f ∷ fs) (suc i) d lt h = serves-field table fs i d (omega (arith, lt)) (serves-apart table (uses (written_of f.1)) (uses_of_fields fs) _ refl h).1

-- parts are smaller --

pub smaller-named : (tree : TypeTree) (at : At) (name : List ℕ) (xs slice : List TypeTree) → tree ≡ t.Named at name xs → slice ≡ xs → trees_size slice < tree_size tree
smaller-named tree at name xs slice e es = let x = ap tree_size e ∙ size-named at name xs in let y = ap (λ l. total (map tree_size l)) es in omega (arith, x, y)

pub smaller-tuple : (tree : TypeTree) (at : At) (xs slice : List TypeTree) → tree ≡ t.Tuple at xs → slice ≡ xs → trees_size slice < tree_size tree
smaller-tuple tree at xs slice e es = let x = ap tree_size e ∙ size-tuple at xs in let y = ap (λ l. total (map tree_size l)) es in omega (arith, x, y)

pub smaller-record : (tree : TypeTree) (at : At) (before : Option Spot) (fs slice : List (Spot × TypeTree)) → tree ≡ t.Fields at before fs → slice ≡ fs → fields_size slice < tree_size tree
smaller-record tree at before fs slice e es =
    let x = ap tree_size e ∙ size-fields at before fs in let y = ap (λ l. total_of (map (λ (f : Spot × TypeTree). (f.0, tree_size f.1)) l)) es in omega (arith, x, y)

pub smaller-from : (tree : TypeTree) (at : At) (a b from : TypeTree) → tree ≡ t.Arrow at a b → from ≡ a → tree_size from < tree_size tree
smaller-from tree at a b from e ea = let x = ap tree_size e ∙ size-arrow at a b in let y = ap tree_size ea in omega (arith, x, y)

pub smaller-to : (tree : TypeTree) (at : At) (a b to : TypeTree) → tree ≡ t.Arrow at a b → to ≡ b → tree_size to < tree_size tree
smaller-to tree at a b to e eb = let x = ap tree_size e ∙ size-arrow at a b in let y = ap tree_size eb in omega (arith, x, y)

pub smaller-inner : (tree : TypeTree) (at : At) (a inner : TypeTree) → tree ≡ t.Brackets at a → inner ≡ a → tree_size inner < tree_size tree
smaller-inner tree at a inner e ea = let x = ap tree_size e ∙ size-brackets at a in let y = ap tree_size ea in omega (arith, x, y)

pub smaller-item : (xs : List TypeTree) (i : ℕ) (d : TypeTree) → i < length xs → tree_size (get_or xs i d) < trees_size xs
smaller-item [] i d lt = absurd (omega (arith, lt))
smaller-item (x ∷ xs) zero d lt = omega arith
smaller-item (x ∷ xs) (suc i) d lt = let h = smaller-item xs i d (omega (arith, lt)) in omega (arith, h)

pub smaller-field : (fs : List (Spot × TypeTree)) (i : ℕ) (d : Spot × TypeTree) → i < length fs → tree_size (get_or fs i d).1 < fields_size fs
smaller-field [] i d lt = absurd (omega (arith, lt))
smaller-field (f ∷ fs) zero d lt = omega arith
smaller-field (f ∷ fs) (suc i) d lt = let h = smaller-field fs i d (omega (arith, lt)) in omega (arith, h)

-- by an item of a loop --

pub serves-item : (table : List Variable) (xs : List TypeTree) (i : ℕ) (item : TypeTree) → i < length xs → item ≡ get_or xs i item → Serves table (uses_in_trees xs) → Serves table (uses (written_of item))
serves-item table xs i item lt is h = subst (λ (x : TypeTree). Serves table (uses (written_of x))) (sym is) (serves-at table xs i item lt h)

pub serves-field-item : (table : List Variable) (fs : List (Spot × TypeTree)) (i : ℕ) (item : Spot × TypeTree) → i < length fs → item ≡ get_or fs i item → Serves table (uses_of_fields fs) → Serves table (uses (written_of item.1))
serves-field-item table fs i item lt is h = subst (λ (x : Spot × TypeTree). Serves table (uses (written_of x.1))) (sym is) (serves-field table fs i item lt h)

pub smaller-tree : (xs : List TypeTree) (i : ℕ) (item : TypeTree) → i < length xs → item ≡ get_or xs i item → tree_size item < trees_size xs
smaller-tree xs i item lt is = subst (λ (x : TypeTree). tree_size x < trees_size xs) (sym is) (smaller-item xs i item lt)

pub smaller-field-item : (fs : List (Spot × TypeTree)) (i : ℕ) (item : Spot × TypeTree) → i < length fs → item ≡ get_or fs i item → tree_size item.1 < fields_size fs
smaller-field-item fs i item lt is = subst (λ (x : Spot × TypeTree). tree_size x.1 < fields_size fs) (sym is) (smaller-field fs i item lt)

-- what is served of a form --

pub serves-variable : (table : List Variable) (tree : TypeTree) (at : At) (name : List ℕ) → tree ≡ t.Variable at name → Serves table (uses (written_of tree)) → Knows table name
serves-variable table tree at name e h = (subst (λ (w' : Written). Serves table (uses w')) (ap written_of e ∙ written-variable at name) h).0

pub serves-named : (table : List Variable) (tree : TypeTree) (at : At) (name : List ℕ) (xs slice : List TypeTree) → tree ≡ t.Named at name xs → slice ≡ xs → Serves table (uses (written_of tree)) → Serves table (uses_in_trees slice)
serves-named table tree at name xs slice e es h = subst (λ l. Serves table (uses_in_trees l)) (sym es) (subst (Serves table) (uses-of-named tree at name xs e) h)

pub serves-tuple : (table : List Variable) (tree : TypeTree) (at : At) (xs slice : List TypeTree) → tree ≡ t.Tuple at xs → slice ≡ xs → Serves table (uses (written_of tree)) → Serves table (uses_in_trees slice)
serves-tuple table tree at xs slice e es h = subst (λ l. Serves table (uses_in_trees l)) (sym es) (subst (Serves table) (uses-of-tuple tree at xs e) h)

pub serves-from : (table : List Variable) (tree : TypeTree) (at : At) (a b from : TypeTree) → tree ≡ t.Arrow at a b → from ≡ a → Serves table (uses (written_of tree)) → Serves table (uses (written_of from))
serves-from table tree at a b from e ea h = subst (λ x. Serves table (uses (written_of x))) (sym ea) (serves-apart table (uses (written_of a)) (uses (written_of b)) _ (uses-of-arrow tree at a b e) h).0

pub serves-to : (table : List Variable) (tree : TypeTree) (at : At) (a b to : TypeTree) → tree ≡ t.Arrow at a b → to ≡ b → Serves table (uses (written_of tree)) → Serves table (uses (written_of to))
serves-to table tree at a b to e eb h = subst (λ x. Serves table (uses (written_of x))) (sym eb) (serves-apart table (uses (written_of a)) (uses (written_of b)) _ (uses-of-arrow tree at a b e) h).1

pub serves-inner : (table : List Variable) (tree : TypeTree) (at : At) (a inner : TypeTree) → tree ≡ t.Brackets at a → inner ≡ a → Serves table (uses (written_of tree)) → Serves table (uses (written_of inner))
serves-inner table tree at a inner e ea h = subst (λ x. Serves table (uses (written_of x))) (sym ea) (subst (Serves table) (uses-of-brackets tree at a e) h)

-- the name before a bar is known, with a tail
abbrev pub ServesBefore : List Variable → Option (List ℕ) → Type 0
ServesBefore table None = Unit {0}
ServesBefore table (Some name) = Knows table name × (is_open (tail_of table name) ≡ true)

pub serves-before : (table : List Variable) (tree : TypeTree) (at : At) (before : Option Spot) (fs : List (Spot × TypeTree)) → tree ≡ t.Fields at before fs → Serves table (uses (written_of tree)) → ServesBefore table (name_before before)
serves-before table tree at None fs e h = tt
serves-before table tree at (Some spot) fs e h = (serves-apart table (before_uses (Some spot)) (uses_of_fields fs) _ (uses-of-record tree at (Some spot) fs e) h).0.0

pub serves-fields : (table : List Variable) (tree : TypeTree) (at : At) (before : Option Spot) (fs slice : List (Spot × TypeTree)) → tree ≡ t.Fields at before fs → slice ≡ fs → Serves table (uses (written_of tree)) → Serves table (uses_of_fields slice)
serves-fields table tree at before fs slice e es h = subst (λ l. Serves table (uses_of_fields l)) (sym es) (serves-apart table (before_uses before) (uses_of_fields fs) _ (uses-of-record tree at before fs e) h).1

-- what is pushed in two steps
pub pushed-twice : (old middle new us vs all : List Use) → all ≡ us ++ vs → middle ≡ old ++ us → new ≡ middle ++ vs → new ≡ old ++ all
pushed-twice old middle new us vs all e em en = en ∙ ap (λ (l : List Use). l ++ vs) em ∙ again old us vs ∙ ap (λ (l : List Use). old ++ l) (sym e)
  where
    again : (xs ys zs : List Use) → (xs ++ ys) ++ zs ≡ xs ++ (ys ++ zs)
    again [] ys zs = refl
    again (x ∷ xs) ys zs = ap (λ (l : List Use). x ∷ l) (again xs ys zs)
