-- What a refusal says.
use Rattle.std.specs.Prelude.{◌≡◌, Result, Err}
use Rattle.elm_base.specs.declared.memory.Halt.{Halt}
use Rattle.elm_base.specs.declared.memory.Halt.TheVariants.{Because}
use Rattle.type_terms.specs.declared.no_solution.NoSolution.{NoSolution}

-- where the answer is that there is no solution, this holds
abbrev pub OnRefusal : {T : Type 0} → Result T (Halt NoSolution) → Type 0 → Type 0
OnRefusal result P = (why : NoSolution) → result ≡ Err (Because why) → P
