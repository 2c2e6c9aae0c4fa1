-- A store with a variable and Int, on which a test calls.
use Rattle.std.proofs.Common.{◌≡◌, ℕ, zero, suc, List, [], ◌∷◌, refl, sym, subst, codes}
use Rattle.elm_typing.specs.declared.flag.Flag.TheVariants.{Plain}
use Rattle.elm_typing.specs.Ground.{Named, NoGrounds}
use Rattle.type_terms.specs.declared.node.Node.{Node}
use Rattle.type_terms.specs.declared.node.Node.TheVariants.{End}
use Rattle.type_terms.specs.declared.shape.Shape.TheVariants as shape
use Rattle.type_terms.specs.Terms.{node_at, IsRest}
use Rattle.type_terms.specs.Solutions.{Assignment, Solves, FitsNode}

abbrev pub example : List Node
example = End (shape.Variable Plain) ∷ End (shape.Named (codes "Basics.Int") []) ∷ []

example-fits : (i : ℕ) → FitsNode (IsRest example i) (λ _. Named (codes "Basics.Int") NoGrounds) (Named (codes "Basics.Int") NoGrounds) (node_at example i)
example-fits zero = tt
example-fits (suc zero) = refl
example-fits (suc (suc i)) = tt

pub example-solved : (nodes : List Node) → nodes ≡ example → (s : Assignment) × Solves nodes s
example-solved nodes e =
    let one : Solves example (λ _. Named (codes "Basics.Int") NoGrounds) = record { in_order = λ _. tt; fits = example-fits } in
    ((λ _. Named (codes "Basics.Int") NoGrounds), subst (λ (ns : List Node). Solves ns (λ _. Named (codes "Basics.Int") NoGrounds)) (sym e) one)
