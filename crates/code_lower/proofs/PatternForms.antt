-- Patterns with several parts.
use Rattle.std.proofs.Common.{◌≡◌, ◌∙◌, ℕ, Some, List, [], ◌∷◌, map, refl, sym, ap}
use Rattle.elm_base.specs.declared.term.TermPattern.{TermPattern}
use Rattle.elm_base.specs.declared.term.TermPattern.TheVariants as t
use Rattle.elm_base.specs.declared.term.TermPattern.TheOpen as term
use Rattle.elm_base.specs.declared.term.TermPattern.TheFolds.{fold-roll-TermPattern}
use Rattle.elm_meaning.specs.Patterns.{Pattern, AndPattern, patterns_of, pattern_step, pattern_of}
use Rattle.typing_rules.specs.CorePatterns.{CorePattern, erased_pattern, erased_patterns}
use Rattle.plain_form.specs.PlainForm.{patterns, listed}
use Rattle.core_trees.specs.declared.pattern.PatternTree.{PatternTree}
use Rattle.core_trees.specs.declared.pattern.PatternTree.TheVariants as p
use Rattle.core_trees.specs.declared.pattern.PatternTree.TheOpen as core
use Rattle.core_trees.specs.declared.pattern.PatternTree.TheFolds.{fold-roll-PatternTree}
use Rattle.core_trees.specs.PatternReading.{pattern_step as core_step, pattern_of as core_pattern_of}
use Rattle.code_lower.specs.Laying.{pattern_for, listed_for}

of_made : (c : List ℕ) (ps : List TermPattern) → pattern_of (t.Made c ps) ≡ Pattern.Made c (patterns_of (map pattern_of ps))
of_made c ps = ap pattern_of (sym (t.rolls-Made c ps)) ∙ fold-roll-TermPattern Pattern pattern_step (term.Made c ps)

of_tuple : (ps : List TermPattern) → pattern_of (t.Tuple ps) ≡ Pattern.Tuple (patterns_of (map pattern_of ps))
of_tuple ps = ap pattern_of (sym (t.rolls-Tuple ps)) ∙ fold-roll-TermPattern Pattern pattern_step (term.Tuple ps)

core_made : (u c : List ℕ) (ps : List PatternTree) → core_pattern_of (p.Made u c ps) ≡ CorePattern.Made (Some u) c (patterns (map core_pattern_of ps))
core_made u c ps = ap core_pattern_of (sym (p.rolls-Made u c ps)) ∙ fold-roll-PatternTree CorePattern core_step (core.Made u c ps)

core_tuple : (ps : List PatternTree) → core_pattern_of (p.Tuple ps) ≡ CorePattern.Tuple (patterns (map core_pattern_of ps))
core_tuple ps = ap core_pattern_of (sym (p.rolls-Tuple ps)) ∙ fold-roll-PatternTree CorePattern core_step (core.Tuple ps)

core_list : (ps : List PatternTree) → core_pattern_of (p.List ps) ≡ listed (map core_pattern_of ps)
core_list ps = ap core_pattern_of (sym (p.rolls-List ps)) ∙ fold-roll-PatternTree CorePattern core_step (core.List ps)

parts_are : (ps : List PatternTree) → erased_patterns (patterns (map core_pattern_of ps)) ≡ patterns_of (map pattern_for ps)
parts_are [] = refl
parts_are (q ∷ ps) = ap (AndPattern (pattern_for q)) (parts_are ps)

elements_are : (ps : List PatternTree) → erased_pattern (listed (map core_pattern_of ps)) ≡ listed_for ps
elements_are [] = refl
elements_are (q ∷ ps) = ap (Pattern.Cons (pattern_for q)) (elements_are ps)

pub made_is : (whole : PatternTree) (u c name : List ℕ) (ps : List PatternTree) (made : List TermPattern) → whole ≡ p.Made u c ps → name ≡ c → map pattern_of made ≡ map pattern_for ps →
    pattern_of (t.Made name made) ≡ pattern_for whole
made_is whole u c name ps made is same parts =
    of_made name made ∙ ap (λ k. Pattern.Made k (patterns_of (map pattern_of made))) same ∙ ap (λ l. Pattern.Made c (patterns_of l)) parts
    ∙ sym (ap pattern_for is ∙ ap erased_pattern (core_made u c ps) ∙ ap (Pattern.Made c) (parts_are ps))

pub tuple_is : (whole : PatternTree) (ps : List PatternTree) (made : List TermPattern) → whole ≡ p.Tuple ps → map pattern_of made ≡ map pattern_for ps → pattern_of (t.Tuple made) ≡ pattern_for whole
tuple_is whole ps made is parts =
    of_tuple made ∙ ap (λ l. Pattern.Tuple (patterns_of l)) parts ∙ sym (ap pattern_for is ∙ ap erased_pattern (core_tuple ps) ∙ ap Pattern.Tuple (parts_are ps))

pub list_is : (whole : PatternTree) (ps : List PatternTree) → whole ≡ p.List ps → listed_for ps ≡ pattern_for whole
list_is whole ps is = sym (ap pattern_for is ∙ ap erased_pattern (core_list ps) ∙ elements_are ps)
