-- Derivations of worked cases of forms, values and nodes.
use Rattle.std.proofs.Common.{[], ◌∷◌, refl, codes, arith}
use Rattle.elm_base.specs.declared.native.TheConstants.{ADD, NEGATE}
use Rattle.elm_typing.specs.Ground.{Ground, NoGrounds}
use Rattle.elm_typing.specs.Names.{signal_of}
use Rattle.elm_typing.specs.Spelling.{int, bool}
use Rattle.elm_meaning.specs.Values.{Signal}
use Rattle.elm_meaning.specs.Equations.{Equation}
use Rattle.elm_meaning.specs.Spelling as value
use Rattle.typing_rules.specs.Library.{from, int_}
use Rattle.typing_rules.specs.Worlds.{World, IsProper}
use Rattle.typing_rules.specs.Rules.{NativeGives}
use Rattle.typing_rules.specs.TermTypes.{ValueHas}
use Rattle.typing_rules.specs.Nodes.{EquationHas, at_equations, without_nodes, AreWellTyped}
use Rattle.typing_rules.specs.Core.{Local, Native, Held, Call, If, Guards}
use Rattle.typing_rules.specs.TypingExamples.{here, Has, number, truth, lambda, guarded, partial}
use Rattle.typing_rules.proofs.Derivations.{always_is, add, map_at, proper_int}

-- conditions

truth_has : Has truth bool
truth_has = (record { sorted = tt; ordered = tt }, (codes "Basics.Bool", NoGrounds, NoGrounds, record { belongs = refl; allowed = tt; respected = tt; given = refl }, refl, refl))

pub chosen : Has (If truth (number 1) (number 2)) int
chosen = (proper_int _, (truth_has, (proper_int _, refl), (proper_int _, refl)))

pub guards : Has (Guards (guarded ((truth, number 1) ∷ (truth, number 2) ∷ []))) int
guards = (proper_int _, (truth_has, (proper_int _, refl), (truth_has, (proper_int _, refl), tt)))

-- functions

abbrev ints : Ground
ints = Ground.Function int int

proper_ints : (w : World) → IsProper w ints
proper_ints w = record { sorted = (tt, tt, tt); ordered = (tt, tt) }

proper_two : (w : World) → IsProper w (Ground.Function int ints)
proper_two w = record { sorted = (tt, (tt, tt, tt), tt); ordered = (tt, (tt, tt)) }

negate : NativeGives NEGATE ints
negate = (_, refl, (always_is int, (tt, tt), refl))

pub held : Has (Held (from (int_ ∷ []) int_) (lambda 0 (Local 0))) ints
held = (proper_ints _, ((proper_ints _, (int, int, refl, (_, refl, (proper_int _, refl)))), (always_is int, (tt, tt), refl)))

pub called : Has (Call (Native NEGATE) (number 1)) int
called = (proper_int _, (int, (proper_ints _, negate), (proper_int _, refl)))

pub lacking : ValueHas here (partial ADD (value.int 1 ∷ [])) ints
lacking = (Ground.Function int ints, (add, proper_two _), (refl, refl), omega arith)

-- nodes

proper_constant : (w : World) → IsProper w (Ground.Function int (signal_of int))
proper_constant w = record { sorted = (tt, (tt, refl, tt), tt); ordered = (tt, (tt, tt)) }

proper_map : (w : World) → IsProper w (Ground.Function ints (Ground.Function (signal_of int) (signal_of int)))
proper_map w = record { sorted = ((tt, tt, tt), ((tt, refl, tt), (tt, refl, tt), tt), tt); ordered = ((tt, tt), ((tt, tt), (tt, tt))) }

constant_has : (w : World) → EquationHas w (Equation.Constant (value.int 3)) int
constant_has w = (Ground.Function int (signal_of int), ((_, refl, (always_is int, ((tt, tt), ((tt, tt), tt)), refl)), proper_constant w), (refl, refl))

pub constant : ValueHas (at_equations (Equation.Constant (value.int 3) ∷ []) here) (Signal 0) (signal_of int)
constant = (int, refl, constant_has (without_nodes here))

pub ordered : AreWellTyped (Equation.Constant (value.int 3) ∷ Equation.Map (partial NEGATE []) (0 ∷ []) ∷ []) here
ordered = (
  (int, constant_has (without_nodes here)),
  (
    (
      int,
      (
        Ground.Function ints (Ground.Function (signal_of int) (signal_of int)),
        (map_at int int, proper_map _),
        ((ints, (negate, proper_ints _), refl, omega arith), ((int, refl, constant_has (without_nodes here)), refl)),
      ),
    ),
    tt,
  ),
)
