-- The types of nodes, by the equations of stage one. The values of a node have the types t for which its equation, as a
-- call of its native, has the type Signal t.
use Rattle.std.specs.Prelude.{◌≡◌, ℕ, suc, Option, Some, None, List, [], ◌∷◌, slice_get}
use Rattle.elm_base.specs.declared.native.TheConstants.{CONSTANT, MAP, MAP2, MAP3, MAP4, MAP5, FOLDP, MERGE, FILTER, FILTER_MAP, DROP_REPEATS, SAMPLE_ON, ASYNC}
use Rattle.elm_meaning.specs.declared.callee.Callee.TheVariants as callee
use Rattle.elm_typing.specs.Ground.{Ground}
use Rattle.elm_typing.specs.Names.{signal_of}
use Rattle.elm_meaning.specs.Values.{Value, Values, Signal, NoValues, AndValue}
use Rattle.elm_meaning.specs.Equations.{Equation}
use Rattle.typing_rules.specs.Worlds.{Types, World, with_name, with_nodes}
use Rattle.typing_rules.specs.TermTypes.{CalleeGives, AreTaken}

abbrev pub values : List Value → Values
values [] = NoValues
values (v ∷ vs) = AndValue v (values vs)

-- a native with its arguments
abbrev pub NativeCall : Type 0
NativeCall = ℕ × Values

-- `map` is of one to five signals
abbrev pub map_call : Value → List ℕ → Option NativeCall
map_call f (i ∷ []) = Some (MAP, values (f ∷ Signal i ∷ []))
map_call f (i ∷ j ∷ []) = Some (MAP2, values (f ∷ Signal i ∷ Signal j ∷ []))
map_call f (i ∷ j ∷ k ∷ []) = Some (MAP3, values (f ∷ Signal i ∷ Signal j ∷ Signal k ∷ []))
map_call f (i ∷ j ∷ k ∷ l ∷ []) = Some (MAP4, values (f ∷ Signal i ∷ Signal j ∷ Signal k ∷ Signal l ∷ []))
map_call f (i ∷ j ∷ k ∷ l ∷ m ∷ []) = Some (MAP5, values (f ∷ Signal i ∷ Signal j ∷ Signal k ∷ Signal l ∷ Signal m ∷ []))
map_call f _ = None

-- the call that an equation stands for; an input stands for none
abbrev pub call_of : Equation → Option NativeCall
call_of (Equation.Input n) = None
call_of (Equation.Constant v) = Some (CONSTANT, values (v ∷ []))
call_of (Equation.Map f inputs) = map_call f inputs
call_of (Equation.Foldp f v i) = Some (FOLDP, values (f ∷ v ∷ Signal i ∷ []))
call_of (Equation.Merge i j) = Some (MERGE, values (Signal i ∷ Signal j ∷ []))
call_of (Equation.Filter p v i) = Some (FILTER, values (p ∷ v ∷ Signal i ∷ []))
call_of (Equation.FilterMap f v i) = Some (FILTER_MAP, values (f ∷ v ∷ Signal i ∷ []))
call_of (Equation.DropRepeats i) = Some (DROP_REPEATS, values (Signal i ∷ []))
call_of (Equation.SampleOn i j) = Some (SAMPLE_ON, values (Signal i ∷ Signal j ∷ []))
call_of (Equation.Async i) = Some (ASYNC, values (Signal i ∷ []))

abbrev pub CallGives : World → Option NativeCall → Types
CallGives w None type = ⊥
CallGives w (Some c) type = (whole : Ground) × CalleeGives w (callee.Native c.0) whole × AreTaken w c.1 whole type

-- an input's values have the type of its port or device
abbrev pub EquationHas : World → Equation → Types
EquationHas w (Equation.Input n) value = slice_get w.inputs n ≡ Some value
EquationHas w equation value = CallGives w (call_of equation) (signal_of value)

-- a node with the next number, by the nodes before it
abbrev pub with_node : ℕ → Equation → World → World
with_node k equation w = with_nodes (with_name k (EquationHas w equation) w.nodes) w

-- these nodes, numbered from k, in order
abbrev pub with_equations : ℕ → List Equation → World → World
with_equations k [] w = w
with_equations k (q ∷ qs) w = with_equations (suc k) qs (with_node k q w)

abbrev pub without_nodes : World → World
without_nodes w = with_nodes (λ n type. ⊥) w

-- the world in which exactly these equations were added
abbrev pub at_equations : List Equation → World → World
at_equations qs w = with_equations 0 qs (without_nodes w)

-- each equation has a type by the nodes before it
abbrev pub AreInOrder : ℕ → List Equation → World → Type 0
AreInOrder k [] w = Unit {0}
AreInOrder k (q ∷ qs) w = ((value : Ground) × EquationHas w q value) × AreInOrder (suc k) qs (with_node k q w)

-- the equations are well typed in order
abbrev pub AreWellTyped : List Equation → World → Type 0
AreWellTyped qs w = AreInOrder 0 qs (without_nodes w)
