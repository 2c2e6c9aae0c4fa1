-- The outermost form of a tree.
use Rattle.std.proofs.Common.{◌≡◌, ◌∙◌, ℕ, List, sym, ap}
use Rattle.elm_base.specs.declared.term.Literal.{Literal}
use Rattle.core_trees.specs.declared.pattern.PatternTree.{PatternTree}
use Rattle.core_trees.specs.declared.tree.CoreTree.{CoreTree, out-CoreTree, out-roll-CoreTree}
use Rattle.core_trees.specs.declared.tree.CoreTree.TheVariants as t
use Rattle.core_trees.specs.declared.tree.CoreTree.TheOpen as tree
use Rattle.core_trees.specs.declared.tree.LetGroup.{LetGroup}

pub out_local : (whole : CoreTree) (n : ℕ) → whole ≡ t.Local n → out-CoreTree whole ≡ tree.Local n
out_local whole n is = ap out-CoreTree (is ∙ sym (t.rolls-Local n)) ∙ out-roll-CoreTree (tree.Local n)

pub out_top : (whole : CoreTree) (n : ℕ) → whole ≡ t.Top n → out-CoreTree whole ≡ tree.Top n
out_top whole n is = ap out-CoreTree (is ∙ sym (t.rolls-Top n)) ∙ out-roll-CoreTree (tree.Top n)

pub out_input : (whole : CoreTree) (n : ℕ) → whole ≡ t.Input n → out-CoreTree whole ≡ tree.Input n
out_input whole n is = ap out-CoreTree (is ∙ sym (t.rolls-Input n)) ∙ out-roll-CoreTree (tree.Input n)

pub out_literal : (whole : CoreTree) (v : Literal) → whole ≡ t.Literal v → out-CoreTree whole ≡ tree.Literal v
out_literal whole v is = ap out-CoreTree (is ∙ sym (t.rolls-Literal v)) ∙ out-roll-CoreTree (tree.Literal v)

pub out_native : (whole : CoreTree) (n : ℕ) → whole ≡ t.Native n → out-CoreTree whole ≡ tree.Native n
out_native whole n is = ap out-CoreTree (is ∙ sym (t.rolls-Native n)) ∙ out-roll-CoreTree (tree.Native n)

pub out_constructor : (whole : CoreTree) (u : List ℕ) (c : List ℕ) (k : ℕ) → whole ≡ t.Constructor u c k → out-CoreTree whole ≡ tree.Constructor u c k
out_constructor whole u c k is = ap out-CoreTree (is ∙ sym (t.rolls-Constructor u c k)) ∙ out-roll-CoreTree (tree.Constructor u c k)

pub out_lambda : (whole : CoreTree) (p : PatternTree) (ps : List PatternTree) (b : CoreTree) → whole ≡ t.Lambda p ps b → out-CoreTree whole ≡ tree.Lambda p ps b
out_lambda whole p ps b is = ap out-CoreTree (is ∙ sym (t.rolls-Lambda p ps b)) ∙ out-roll-CoreTree (tree.Lambda p ps b)

pub out_call : (whole : CoreTree) (f : CoreTree) (xs : List CoreTree) → whole ≡ t.Call f xs → out-CoreTree whole ≡ tree.Call f xs
out_call whole f xs is = ap out-CoreTree (is ∙ sym (t.rolls-Call f xs)) ∙ out-roll-CoreTree (tree.Call f xs)

pub out_if : (whole : CoreTree) (c : CoreTree) (y : CoreTree) (z : CoreTree) → whole ≡ t.If c y z → out-CoreTree whole ≡ tree.If c y z
out_if whole c y z is = ap out-CoreTree (is ∙ sym (t.rolls-If c y z)) ∙ out-roll-CoreTree (tree.If c y z)

pub out_guards : (whole : CoreTree) (bs : List (CoreTree × CoreTree)) → whole ≡ t.Guards bs → out-CoreTree whole ≡ tree.Guards bs
out_guards whole bs is = ap out-CoreTree (is ∙ sym (t.rolls-Guards bs)) ∙ out-roll-CoreTree (tree.Guards bs)

pub out_case : (whole : CoreTree) (s : CoreTree) (bs : List (PatternTree × CoreTree)) → whole ≡ t.Case s bs → out-CoreTree whole ≡ tree.Case s bs
out_case whole s bs is = ap out-CoreTree (is ∙ sym (t.rolls-Case s bs)) ∙ out-roll-CoreTree (tree.Case s bs)

pub out_let : (whole : CoreTree) (gs : List LetGroup) (b : CoreTree) → whole ≡ t.Let gs b → out-CoreTree whole ≡ tree.Let gs b
out_let whole gs b is = ap out-CoreTree (is ∙ sym (t.rolls-Let gs b)) ∙ out-roll-CoreTree (tree.Let gs b)

pub out_tuple : (whole : CoreTree) (es : List CoreTree) → whole ≡ t.Tuple es → out-CoreTree whole ≡ tree.Tuple es
out_tuple whole es is = ap out-CoreTree (is ∙ sym (t.rolls-Tuple es)) ∙ out-roll-CoreTree (tree.Tuple es)

pub out_list : (whole : CoreTree) (es : List CoreTree) → whole ≡ t.List es → out-CoreTree whole ≡ tree.List es
out_list whole es is = ap out-CoreTree (is ∙ sym (t.rolls-List es)) ∙ out-roll-CoreTree (tree.List es)

pub out_range : (whole : CoreTree) (l : CoreTree) (h : CoreTree) → whole ≡ t.Range l h → out-CoreTree whole ≡ tree.Range l h
out_range whole l h is = ap out-CoreTree (is ∙ sym (t.rolls-Range l h)) ∙ out-roll-CoreTree (tree.Range l h)

pub out_fields : (whole : CoreTree) (fs : List (List ℕ × CoreTree)) → whole ≡ t.Fields fs → out-CoreTree whole ≡ tree.Fields fs
out_fields whole fs is = ap out-CoreTree (is ∙ sym (t.rolls-Fields fs)) ∙ out-roll-CoreTree (tree.Fields fs)

pub out_update : (whole : CoreTree) (e : CoreTree) (fs : List (List ℕ × CoreTree)) → whole ≡ t.Update e fs → out-CoreTree whole ≡ tree.Update e fs
out_update whole e fs is = ap out-CoreTree (is ∙ sym (t.rolls-Update e fs)) ∙ out-roll-CoreTree (tree.Update e fs)

pub out_extend : (whole : CoreTree) (e : CoreTree) (fs : List (List ℕ × CoreTree)) → whole ≡ t.Extend e fs → out-CoreTree whole ≡ tree.Extend e fs
out_extend whole e fs is = ap out-CoreTree (is ∙ sym (t.rolls-Extend e fs)) ∙ out-roll-CoreTree (tree.Extend e fs)

pub out_remove : (whole : CoreTree) (e : CoreTree) (l : List ℕ) → whole ≡ t.Remove e l → out-CoreTree whole ≡ tree.Remove e l
out_remove whole e l is = ap out-CoreTree (is ∙ sym (t.rolls-Remove e l)) ∙ out-roll-CoreTree (tree.Remove e l)

pub out_field : (whole : CoreTree) (e : CoreTree) (l : List ℕ) → whole ≡ t.Field e l → out-CoreTree whole ≡ tree.Field e l
out_field whole e l is = ap out-CoreTree (is ∙ sym (t.rolls-Field e l)) ∙ out-roll-CoreTree (tree.Field e l)
