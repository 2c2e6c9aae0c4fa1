use Rattle.std.proofs.Common.{◌∙◌, ◌∷◌, [], sym, ap, refl, rules}
use Rattle.elm_meaning.specs.Values.{Done, TupleTree, NoTrees}
use Rattle.elm_meaning.specs.Terms.{literal_value, constructor_value}
use Rattle.elm_base.specs.declared.term.Term.TheVariants as term
use Rattle.code_lower.specs.Laying.{Lowers, leaf_layer, leaf_for}
use Rattle.code_lower.proofs.Closing.{on_ok, alone, renamed}
use Rattle.code_lower.proofs.Outs.{out_local, out_top, out_input, out_native, out_literal, out_constructor}
use Rattle.code_lower.proofs.terms.push_leaf.Goals as goal

pub returns-in-Local : goal.returns-in-Local
returns-in-Local c =
    on_ok c.push_term.result _ (λ at. Lowers c.args.out.now c.push_term.new.out (at ∷ []) (leaf_for c.args.tree.now ∷ []))
    (λ at pushed. alone _ _ (term.Local c.in-Local.number) at (leaf_for c.args.tree.now) pushed refl (sym (ap leaf_layer (out_local c.args.tree.now _ c.in-Local.is)))) c.push_term.ensures

pub returns-in-Top : goal.returns-in-Top
returns-in-Top c =
    on_ok c.push_term-in-Top.result _ (λ at. Lowers c.args.out.now c.push_term-in-Top.new.out (at ∷ []) (leaf_for c.args.tree.now ∷ []))
    (λ at pushed. alone _ _ (term.Top c.in-Top.number) at (leaf_for c.args.tree.now) pushed refl (sym (ap leaf_layer (out_top c.args.tree.now _ c.in-Top.is)))) c.push_term-in-Top.ensures

pub returns-in-Input : goal.returns-in-Input
returns-in-Input c =
    on_ok c.push_term-in-Input.result _ (λ at. Lowers c.args.out.now c.push_term-in-Input.new.out (at ∷ []) (leaf_for c.args.tree.now ∷ []))
    (λ at pushed. alone _ _ (term.Input c.in-Input.number) at (leaf_for c.args.tree.now) pushed refl (sym (ap leaf_layer (out_input c.args.tree.now _ c.in-Input.is)))) c.push_term-in-Input.ensures

pub returns-in-Native : goal.returns-in-Native
returns-in-Native c =
    on_ok c.push_term-in-Native.result _ (λ at. Lowers c.args.out.now c.push_term-in-Native.new.out (at ∷ []) (leaf_for c.args.tree.now ∷ []))
    (λ at pushed. alone _ _ (term.Native c.in-Native.number) at (leaf_for c.args.tree.now) pushed refl (sym (ap leaf_layer (out_native c.args.tree.now _ c.in-Native.is)))) c.push_term-in-Native.ensures

pub returns-in_ok-value-in-Literal : goal.returns-in_ok-value-in-Literal
returns-in_ok-value-in-Literal c =
    on_ok c.push_term-in-Literal.result _ (λ at. Lowers c.args.out.now c.push_term-in-Literal.new.out (at ∷ []) (leaf_for c.args.tree.now ∷ []))
    (λ at pushed. alone _ _ (term.Literal c.in_ok-value-in-Literal.value) at (leaf_for c.args.tree.now) pushed refl (ap (λ v. Done (literal_value v)) c.in_ok-value-in-Literal.ensures ∙ sym (ap leaf_layer (out_literal c.args.tree.now _ c.in-Literal.is)))) c.push_term-in-Literal.ensures

pub returns-in_ok-name-in-Constructor : goal.returns-in_ok-name-in-Constructor
returns-in_ok-name-in-Constructor c =
    on_ok c.push_term-in-Constructor.result _ (λ at. Lowers c.args.out.now c.push_term-in-Constructor.new.out (at ∷ []) (leaf_for c.args.tree.now ∷ []))
    (λ at pushed. alone _ _ (term.Constructor c.in_ok-name-in-Constructor.name c.in-Constructor.takes) at (leaf_for c.args.tree.now) pushed refl (ap (λ n. Done (constructor_value n c.in-Constructor.takes)) c.in_ok-name-in-Constructor.ensures ∙ sym (ap leaf_layer (out_constructor c.args.tree.now _ _ _ c.in-Constructor.is)))) c.push_term-in-Constructor.ensures

pub returns-in_default : goal.returns-in_default
returns-in_default c = renamed c.push_nothing.result _ _ (TupleTree NoTrees) (leaf_for c.args.tree.now) (search rules) c.push_nothing.ensures
