-- What calls ensure that apply levels in place.
use Rattle.std.specs.Prelude.{◌≡◌, ◌≢◌, ◌||◌, Bool, true, false, List, length, map, Option, None, Some, option_map, Result, Ok, Err}
use Rattle.elm_base.specs.declared.memory.Halt.{Halt}
use Rattle.elm_base.specs.declared.memory.Halt.TheVariants as halt
use Rattle.elm_base.specs.declared.fault.ProjectFault.{ProjectFault}
use Rattle.elm_base.specs.declared.token.At.{At}
use Rattle.elm_base.specs.declared.tree.Operator.{Operator}
use Rattle.elm_base.specs.declared.tree.Expr.{Expr}
use Rattle.elm_base.specs.declared.tree.Expr.TheVariants as e
use Rattle.operator_trees.specs.declared.chains.Clash.{Clash}
use Rattle.operator_trees.specs.Levels.{Declared}
use Rattle.level_fixer.specs.Clashes.{any, expr_clashes, has_no_tree}
use Rattle.level_fixer.specs.FixedTrees.{fixed_expr, of_chain}

-- all of it is fixed; or a chain without a tree stands in it, unless memory ran out
abbrev pub Fixes : {X : Type 0} → (X → Bool) → (X → X) → X → X → Result (Unit {0}) (Halt Clash) → Type 0
Fixes clashes fixed old new (Ok _) = (clashes old ≡ false) × (new ≡ fixed old)
Fixes clashes fixed old new (Err cause) = cause ≢ halt.NoMemory → clashes old ≡ true

-- the tree of the chain at a place, its operands fixed; or there or in them is none, unless memory ran out
abbrev pub Builds : Declared → List Expr → List Operator → Result Expr (Halt Clash) → Type 0
Builds d es os (Ok x) = ((any (map (expr_clashes d) es) || has_no_tree d (length (map (expr_clashes d) es)) os) ≡ false)
    × ((at : At) → x ≡ of_chain d at (map (fixed_expr d) es) os)
Builds d es os (Err cause) = cause ≢ halt.NoMemory
    → (any (map (expr_clashes d) es) || has_no_tree d (length (map (expr_clashes d) es)) os) ≡ true

-- the chain at a place is fixed to this; or a chain without a tree stands in it, unless memory ran out
abbrev pub BuildsAt : Declared → At → List Expr → List Operator → Result Expr (Halt Clash) → Type 0
BuildsAt d at es os (Ok x) = (expr_clashes d (e.Chain at es os) ≡ false) × (x ≡ fixed_expr d (e.Chain at es os))
BuildsAt d at es os (Err cause) = cause ≢ halt.NoMemory → expr_clashes d (e.Chain at es os) ≡ true

-- there is no fault; or the fault is the cause, unless memory ran out
abbrev pub Judges : Option ProjectFault → Result (Unit {0}) (Halt ProjectFault) → Type 0
Judges fault (Ok _) = fault ≡ None
Judges fault (Err cause) = cause ≢ halt.NoMemory → option_map halt.Because fault ≡ Some cause

-- all of it is fixed, which has no fault; or its fault is the cause, unless memory ran out
abbrev pub Settles : {X : Type 0} → (X → Option ProjectFault) → (X → X) → X → X → Result (Unit {0}) (Halt ProjectFault) → Type 0
Settles fault fixed old new (Ok _) = (fault old ≡ None) × (new ≡ fixed old)
Settles fault fixed old new (Err cause) = cause ≢ halt.NoMemory → option_map halt.Because (fault old) ≡ Some cause
