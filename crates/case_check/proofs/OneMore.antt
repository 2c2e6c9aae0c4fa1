-- Warnings of one module more stand behind those of the modules before.
use Rattle.std.proofs.Common.{◌≡◌, ℕ, ◌+◌, ◌<◌, refl, sym, ◌∙◌, ap, subst, List, [], ◌∷◌, ◌++◌, take, length, get_or, add-one}
use Rattle.std.proofs.Math.Seq.{take-suc}
use Rattle.std.proofs.lemmas.List.{append_assoc, append-nil}
use Rattle.elm_base.specs.declared.tree.Module.{Module}
use Rattle.elm_base.specs.declared.project.Typed.{Typed}
use Rattle.elm_base.specs.declared.project.Warning.{Warning}
use Rattle.case_check.specs.Warnings.{AreWarningsIn, AreWarningsOf}

pub behind : (typed : Typed) (ms : List Module) (m : Module) (found more : List Warning) → AreWarningsOf typed ms found → AreWarningsIn typed m more → AreWarningsOf typed (ms ++ m ∷ []) (found ++ more)
behind typed [] m found more none those = (more, [], ap (λ f. f ++ more) none ∙ sym (append-nil more), those, refl)
behind typed (n ∷ ms) m found more (first, rest, whole, own, others) those =
    (first, rest ++ more, ap (λ f. f ++ more) whole ∙ append_assoc first rest more, own, behind typed ms m rest more others those)

-- a turn of the loop over modules
pub behind_next : (typed : Typed) (ms : List Module) (i : ℕ) (m : Module) (found more after : List Warning) → i < length ms → m ≡ get_or ms i m
    → AreWarningsOf typed (take i ms) found → AreWarningsIn typed m more → after ≡ found ++ more → AreWarningsOf typed (take (i + 1) ms) after
behind_next typed ms i m found more after inside at before those e =
    subst (λ t. AreWarningsOf typed t after) (sym (ap (λ (k : ℕ). take k ms) (add-one i) ∙ take-suc ms i m inside ∙ ap (λ x. take i ms ++ x ∷ []) (sym at)))
    (subst (AreWarningsOf typed (take i ms ++ m ∷ [])) (sym e) (behind typed (take i ms) m found more before those))
