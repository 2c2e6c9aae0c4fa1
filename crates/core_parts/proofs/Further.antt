-- Further binders, one behind the other.
use Rattle.std.proofs.Common.{◌≡◌, ◌+◌, ◌<◌, ◌≤◌, ℕ, zero, suc, List, [], ◌∷◌, ◌++◌, map, take, length, get_or, refl, sym, ap, ◌∙◌, add-one, arith}
use Rattle.std.proofs.Math.Seq.{take-suc}
use Rattle.elm_base.specs.declared.token.At.{At}
use Rattle.typing_rules.specs.Core.{Core, Local, AndCore, AndCoreField}
use Rattle.typing_rules.specs.CorePatterns.{CorePattern}
use Rattle.core_trees.specs.declared.pattern.PatternTree.{PatternTree}
use Rattle.core_trees.specs.declared.pattern.PatternTree.TheVariants as p
use Rattle.core_trees.specs.declared.pattern.PatternTree.TheOpen as pattern
use Rattle.core_trees.specs.declared.pattern.PatternTree.TheFolds.{fold-roll-PatternTree}
use Rattle.core_trees.specs.declared.tree.CoreTree.{CoreTree}
use Rattle.core_trees.specs.declared.tree.CoreTree.TheVariants as t
use Rattle.core_trees.specs.declared.tree.CoreTree.TheOpen as tree
use Rattle.core_trees.specs.declared.tree.CoreTree.TheFolds.{fold-roll-CoreTree}
use Rattle.core_trees.specs.PatternReading.{pattern_step, pattern_of}
use Rattle.core_trees.specs.Reading.{Function, Group, core_step, function_step, group_step, core_of}
use Rattle.core_parts.specs.Making.{field_of}
use Rattle.plain_form.specs.Naming.{Naming}
use Rattle.plain_form.specs.PlainForm.{binders, parameters, labelled, cores, fields, count}

-- the values of so many of them, counted from i
abbrev pub locals : Naming → At → ℕ → ℕ → List Core
locals n at i zero = []
locals n at i (suc k) = Local (n.own at i) ∷ locals n at (suc i) k

abbrev pub labelled_locals : Naming → At → ℕ → List (List ℕ) → List (List ℕ × Core)
labelled_locals n at i [] = []
labelled_locals n at i (l ∷ ls) = (l, Local (n.own at i)) ∷ labelled_locals n at (suc i) ls

pub locals_are : (n : Naming) (at : At) (i k : ℕ) → cores (locals n at i k) ≡ parameters n at i k
locals_are n at i zero = refl
locals_are n at i (suc k) = ap (AndCore (Local (n.own at i))) (locals_are n at (suc i) k)

pub labelled_are : (n : Naming) (at : At) (i : ℕ) (ls : List (List ℕ)) → fields (labelled_locals n at i ls) ≡ labelled n at i ls
labelled_are n at i [] = refl
labelled_are n at i (l ∷ ls) = ap (AndCoreField l (Local (n.own at i))) (labelled_are n at (suc i) ls)

pub count_is : (ls : List (List ℕ)) → count ls ≡ length ls
count_is [] = refl
count_is (l ∷ ls) = ap suc (count_is ls)

binders_end : (n : Naming) (at : At) (i k : ℕ) → binders n at i (suc k) ≡ binders n at i k ++ CorePattern.Local (n.own at (i + k)) ∷ []
binders_end n at i zero = ap (λ j. CorePattern.Local (n.own at j) ∷ []) (omega (arith))
binders_end n at i (suc k) =
    ap (λ l. CorePattern.Local (n.own at i) ∷ l) (binders_end n at (suc i) k ∙ ap (λ j. binders n at (suc i) k ++ CorePattern.Local (n.own at j) ∷ []) (omega (arith)))

locals_end : (n : Naming) (at : At) (i k : ℕ) → locals n at i (suc k) ≡ locals n at i k ++ Local (n.own at (i + k)) ∷ []
locals_end n at i zero = ap (λ j. Local (n.own at j) ∷ []) (omega (arith))
locals_end n at i (suc k) =
    ap (λ l. Local (n.own at i) ∷ l) (locals_end n at (suc i) k ∙ ap (λ j. locals n at (suc i) k ++ Local (n.own at j) ∷ []) (omega (arith)))

labelled_end : (n : Naming) (at : At) (i : ℕ) (ls : List (List ℕ)) (l : List ℕ) → labelled_locals n at i (ls ++ l ∷ []) ≡ labelled_locals n at i ls ++ (l, Local (n.own at (i + length ls))) ∷ []
labelled_end n at i [] l = ap (λ j. (l, Local (n.own at j)) ∷ []) (omega (arith))
labelled_end n at i (m ∷ ls) l =
    ap (λ r. (m, Local (n.own at i)) ∷ r) (labelled_end n at (suc i) ls l ∙ ap (λ j. labelled_locals n at (suc i) ls ++ (l, Local (n.own at j)) ∷ []) (omega (arith)))

from_zero : (k : ℕ) → zero + k ≡ k
from_zero k = omega (arith)

-- one more

pub binders_next : (n : Naming) (at : At) (k : ℕ) → binders n at zero (k + 1) ≡ binders n at zero k ++ CorePattern.Local (n.own at k) ∷ []
binders_next n at k = ap (binders n at zero) (add-one k) ∙ binders_end n at zero k ∙ ap (λ j. binders n at zero k ++ CorePattern.Local (n.own at j) ∷ []) (from_zero k)

pub locals_next : (n : Naming) (at : At) (k : ℕ) → locals n at zero (k + 1) ≡ locals n at zero k ++ Local (n.own at k) ∷ []
locals_next n at k = ap (locals n at zero) (add-one k) ∙ locals_end n at zero k ∙ ap (λ j. locals n at zero k ++ Local (n.own at j) ∷ []) (from_zero k)

length_take : {A : Type 0} (i : ℕ) (xs : List A) → i < length xs → length (take i xs) ≡ i
length_take zero xs h = refl
length_take (suc i) [] h = absurd (omega (arith, h))
length_take (suc i) (x ∷ xs) h = ap suc (length_take i xs (omega (arith, h)))

pub labelled_next : (n : Naming) (at : At) (i : ℕ) (ls : List (List ℕ)) (l : List ℕ) → i < length ls → l ≡ get_or ls i l →
    labelled_locals n at zero (take (i + 1) ls) ≡ labelled_locals n at zero (take i ls) ++ (l, Local (n.own at i)) ∷ []
labelled_next n at i ls l lt is =
    ap (λ (k : ℕ). labelled_locals n at zero (take k ls)) (add-one i)
    ∙ ap (labelled_locals n at zero) (take-suc ls i l lt ∙ ap (λ m. take i ls ++ m ∷ []) (sym is))
    ∙ labelled_end n at zero (take i ls) l
    ∙ ap (λ j. labelled_locals n at zero (take i ls) ++ (l, Local (n.own at j)) ∷ []) (from_zero (length (take i ls)) ∙ length_take i ls lt)

-- a tree more

pattern_local : (number : ℕ) → pattern_of (p.Local number) ≡ CorePattern.Local number
pattern_local number = ap pattern_of (sym (p.rolls-Local number)) ∙ fold-roll-PatternTree CorePattern pattern_step (pattern.Local number)

core_local : (number : ℕ) → core_of (t.Local number) ≡ Local number
core_local number = ap core_of (sym (t.rolls-Local number)) ∙ fold-roll-CoreTree Core Group Function core_step group_step function_step (tree.Local number)

pub map_behind : {A B : Type 0} (f : A → B) (xs : List A) (x : A) → map f (xs ++ x ∷ []) ≡ map f xs ++ f x ∷ []
map_behind f [] x = refl
map_behind f (y ∷ xs) x = ap (λ l. f y ∷ l) (map_behind f xs x)

pub binders_turn : (n : Naming) (at : At) (k number : ℕ) (old new : List PatternTree) → number ≡ n.own at k → new ≡ old ++ p.Local number ∷ [] →
    map pattern_of old ≡ binders n at zero k → map pattern_of new ≡ binders n at zero (k + 1)
binders_turn n at k number old new is grown here =
    ap (map pattern_of) grown ∙ map_behind pattern_of old (p.Local number)
    ∙ ap (λ l. l ++ pattern_of (p.Local number) ∷ []) here
    ∙ ap (λ q. binders n at zero k ++ q ∷ []) (pattern_local number ∙ ap (λ m. CorePattern.Local m) is)
    ∙ sym (binders_next n at k)

pub locals_turn : (n : Naming) (at : At) (k number : ℕ) (old new : List CoreTree) → number ≡ n.own at k → new ≡ old ++ t.Local number ∷ [] →
    map core_of old ≡ locals n at zero k → map core_of new ≡ locals n at zero (k + 1)
locals_turn n at k number old new is grown here =
    ap (map core_of) grown ∙ map_behind core_of old (t.Local number)
    ∙ ap (λ l. l ++ core_of (t.Local number) ∷ []) here
    ∙ ap (λ q. locals n at zero k ++ q ∷ []) (core_local number ∙ ap (λ m. Local m) is)
    ∙ sym (locals_next n at k)

pub labelled_turn : (n : Naming) (at : At) (i further number : ℕ) (ls : List (List ℕ)) (label item : List ℕ) (old new : List (List ℕ × CoreTree)) → i < length ls → item ≡ get_or ls i item → label ≡ item →
    further ≡ i → number ≡ n.own at further → new ≡ old ++ (label, t.Local number) ∷ [] →
    map field_of old ≡ labelled_locals n at zero (take i ls) → map field_of new ≡ labelled_locals n at zero (take (i + 1) ls)
labelled_turn n at i further number ls label item old new lt is same f own grown here =
    ap (map field_of) grown ∙ map_behind field_of old (label, t.Local number)
    ∙ ap (λ l. l ++ (label, core_of (t.Local number)) ∷ []) here
    ∙ ap (λ q. labelled_locals n at zero (take i ls) ++ (label, q) ∷ []) (core_local number ∙ ap (λ m. Local m) (own ∙ ap (n.own at) f))
    ∙ ap (λ l. labelled_locals n at zero (take i ls) ++ (l, Local (n.own at i)) ∷ []) same
    ∙ sym (labelled_next n at i ls item lt is)

pub locals_whole : (n : Naming) (at : At) (further count : ℕ) (made : List CoreTree) → further ≡ count → map core_of made ≡ locals n at zero further → cores (map core_of made) ≡ parameters n at zero count
locals_whole n at further count made is here = ap cores here ∙ locals_are n at zero further ∙ ap (parameters n at zero) is

pub labelled_whole : (n : Naming) (at : At) (i : ℕ) (ls : List (List ℕ)) (made : List (List ℕ × CoreTree)) → take i ls ≡ ls → map field_of made ≡ labelled_locals n at zero (take i ls) → fields (map field_of made) ≡ labelled n at zero ls
labelled_whole n at i ls made all here = ap fields (here ∙ ap (labelled_locals n at zero) all) ∙ labelled_are n at zero ls

pub take_all : {A : Type 0} (i : ℕ) (xs : List A) → length xs ≤ i → take i xs ≡ xs
take_all zero [] h = refl
take_all (suc i) [] h = refl
take_all zero (x ∷ xs) h = absurd (omega (arith, h))
take_all (suc i) (x ∷ xs) h = ap (λ ys. x ∷ ys) (take_all i xs (omega (arith, h)))
