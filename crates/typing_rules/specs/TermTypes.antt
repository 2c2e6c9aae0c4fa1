-- «Typed» of plain terms, and of the values that stand in them.
use Rattle.std.specs.Prelude.{◌≡◌, ◌<◌, ℕ, None, [], ◌∷◌}
use Rattle.elm_typing.specs.Ground.{Ground, Grounds, Row, NoGrounds, AndGround, Ends}
use Rattle.elm_typing.specs.Names.{list_of, signal_of}
use Rattle.elm_typing.specs.Spelling.{int, char, string}
use Rattle.elm_meaning.specs.declared.callee.Callee.{Callee}
use Rattle.elm_meaning.specs.declared.callee.Callee.TheVariants as callee
use Rattle.elm_meaning.specs.Values.{Value, Values, Fields, Function, Int, Char, Text, Unit as UnitValue, Nil, Cons, Tuple, Made, Record, Applicable, Cells, Signal, NoValues, AndValue, NoFields, AndField, Closure, Member, Partial, Tree, Done, Local, Top, Input, Lambda, Call, If, Guards, Case, LetValue, LetFunctions, TupleTree, ListTree, Range, RecordTree, Update, Extend, Remove, Field, NoTree, Trees, NoTrees, AndTree, FieldTrees, NoFieldTrees, AndFieldTree, GuardedTrees, NoGuards, AndGuard, Branches, NoBranches, AndBranch, Group, NoFunctions, AndFunction}
use Rattle.elm_meaning.specs.FreeNames.{function_names}
use Rattle.elm_meaning.specs.Evaluation.{number_of}
use Rattle.elm_meaning.specs.NativeTable.{native_at, takes_of}
use Rattle.typing_rules.specs.Unions.{UnionGives, ConstructorGives}
use Rattle.typing_rules.specs.Library.{element}
use Rattle.typing_rules.specs.CorePatterns.{core_pattern}
use Rattle.typing_rules.specs.Worlds.{Types, Surroundings, no_surroundings, World, IsProper}
use Rattle.typing_rules.specs.Rules.{Well, Incoming, NativeGives, Called, Branch, Abstracted, Chosen, Cased, Defined, GivenBy, Typings, Together, Grouped, OfParts, NoParts, AndPart, Listed, Ranged, Over, NothingOver, FieldOver, OfFields, Extended, NewestIs, Updated, Removed, FieldOf}

-- what takes arguments
abbrev pub CalleeGives : World → Callee → Types
CalleeGives w (callee.Native number) type = NativeGives number type × IsProper w type
CalleeGives w (callee.Constructor name takes) type = ConstructorGives w.unions None name takes type × IsProper w type

abbrev pub takes : Callee → ℕ
takes (callee.Native number) = takes_of (native_at number)
takes (callee.Constructor name n) = n

abbrev mutual
  pub ValueHas : World → Value → Types
  ValueHas w (Int z) type = type ≡ int
  ValueHas w (Char code) type = type ≡ char
  ValueHas w (Text bytes) type = type ≡ string
  ValueHas w UnitValue type = type ≡ Ground.Tuple NoGrounds
  ValueHas w Nil type = (some : Ground) × (type ≡ list_of some)
  ValueHas w (Cons v vs) type = (some : Ground) × (type ≡ list_of some) × ValueHas w v some × ValueHas w vs (list_of some)
  ValueHas w (Tuple vs) type = (parts : Grounds) × (type ≡ Ground.Tuple parts) × ValuesHave w vs parts
  -- what its constructor gives for all its arguments
  ValueHas w (Made k vs) type =
      (whole : Ground) × UnionGives w.unions None k (number_of vs) whole × IsProper w whole × AreTaken w vs whole type
  ValueHas w (Record fs) type = (row : Row) × (type ≡ Ground.Record row) × FieldsHave w fs row
  ValueHas w (Applicable f) type = FunctionHas w f type
  ValueHas w (Cells width height rows) type = type ≡ element
  -- by the equation of its node
  ValueHas w (Signal n) type = (value : Ground) × (type ≡ signal_of value) × w.nodes n value

  -- as many values as there are types, each of its own
  pub ValuesHave : World → Values → Grounds → Type 0
  ValuesHave w NoValues NoGrounds = Unit {0}
  ValuesHave w (AndValue v vs) (AndGround t ts) = ValueHas w v t × ValuesHave w vs ts
  ValuesHave w _ _ = ⊥

  -- the same labels, each field of its own type
  pub FieldsHave : World → Fields → Row → Type 0
  FieldsHave w NoFields (Ends rest) = rest ≡ None
  FieldsHave w (AndField label v fs) (Row.Field other t row) = (label ≡ other) × ValueHas w v t × FieldsHave w fs row
  FieldsHave w _ _ = ⊥

  -- a function of the first type that is given these values one by one gives the second
  pub AreTaken : World → Values → Ground → Types
  AreTaken w NoValues whole type = type ≡ whole
  AreTaken w (AndValue v vs) (Ground.Function argument result) type = ValueHas w v argument × AreTaken w vs result type
  AreTaken w _ _ type = ⊥

  pub FunctionHas : World → Function → Types
  FunctionHas w (Closure p b) type = Abstracted w (core_pattern p) (λ s. TermHas w s b) no_surroundings type
  FunctionHas w (Member i g) type = GivenBy (Together (function_names g) (λ r. EachFunctionHas w r g) no_surroundings) i type
  -- a native or constructor that lacks arguments
  FunctionHas w (Partial c vs) type =
      (whole : Ground) × CalleeGives w c whole × AreTaken w vs whole type × (number_of vs < takes c)

  -- one line a form
  pub TermHas : World → Surroundings → Tree → Types
  TermHas w s (Done v) = Well w (ValueHas w v)
  TermHas w s (Local y) = Well w (s y)
  TermHas w s (Top n) = Well w (w.tops n)
  TermHas w s (Input n) = Well w (Incoming w n)
  TermHas w s (Lambda p b) = Well w (Abstracted w (core_pattern p) (λ r. TermHas w r b) s)
  TermHas w s (Call f a) = Well w (Called (TermHas w s f) (TermHas w s a))
  TermHas w s (If c y n) = Well w (Chosen (TermHas w s c) (TermHas w s y) (TermHas w s n))
  TermHas w s (Guards gs) = Well w (GuardsHave w s gs)
  TermHas w s (Case e bs) = Well w (Cased w (TermHas w s e) (BranchesHave w s bs))
  TermHas w s (LetValue p e b) = Well w (Defined w (core_pattern p) (λ r. TermHas w r e) (λ r. TermHas w r b) s)
  TermHas w s (LetFunctions g b) = Well w (Grouped w (function_names g) (Together (function_names g) (λ r. EachFunctionHas w r g)) (λ r. TermHas w r b) s)
  TermHas w s (TupleTree es) = Well w (OfParts (AllHave w s es))
  TermHas w s (ListTree es) = Well w (Listed (EachHas w s es))
  TermHas w s (Range l h) = Well w (Ranged (TermHas w s l) (TermHas w s h))
  TermHas w s (RecordTree fs) = Well w (OfFields (FieldsOver w s fs))
  TermHas w s (Update e fs) = Well w (Updated (TermHas w s e) (NewestAre w s fs))
  TermHas w s (Extend e fs) = Well w (Extended (TermHas w s e) (FieldsOver w s fs))
  TermHas w s (Remove e label) = Well w (Removed (TermHas w s e) label)
  TermHas w s (Field e label) = Well w (FieldOf (TermHas w s e) label)
  TermHas w s NoTree = Well w (λ type. ⊥)

  pub AllHave : World → Surroundings → Trees → Grounds → Type 0
  AllHave w s NoTrees = NoParts
  AllHave w s (AndTree e es) = AndPart (TermHas w s e) (AllHave w s es)

  pub EachHas : World → Surroundings → Trees → Types
  EachHas w s NoTrees type = Unit {0}
  EachHas w s (AndTree e es) type = TermHas w s e type × EachHas w s es type

  pub GuardsHave : World → Surroundings → GuardedTrees → Types
  GuardsHave w s NoGuards type = Unit {0}
  GuardsHave w s (AndGuard c b gs) type = Chosen (TermHas w s c) (TermHas w s b) (GuardsHave w s gs) type

  -- by the type of the scrutinee
  pub BranchesHave : World → Surroundings → Branches → Ground → Types
  BranchesHave w s NoBranches from type = Unit {0}
  BranchesHave w s (AndBranch p b bs) from type =
      Branch w (core_pattern p) (λ r. TermHas w r b) s from type × BranchesHave w s bs from type

  pub FieldsOver : World → Surroundings → FieldTrees → Over
  FieldsOver w s NoFieldTrees = NothingOver
  FieldsOver w s (AndFieldTree label e fs) = FieldOver label (TermHas w s e) (FieldsOver w s fs)

  pub NewestAre : World → Surroundings → FieldTrees → Row → Type 0
  NewestAre w s NoFieldTrees row = Unit {0}
  NewestAre w s (AndFieldTree label e fs) row = NewestIs label (TermHas w s e) row × NewestAre w s fs row

  -- one type for each function of a group
  pub EachFunctionHas : World → Surroundings → Group → Typings
  EachFunctionHas w s NoFunctions [] = Unit {0}
  EachFunctionHas w s (AndFunction name p b g) (t ∷ ts) =
      Well w (Abstracted w (core_pattern p) (λ r. TermHas w r b) s) t × EachFunctionHas w s g ts
  EachFunctionHas w s _ _ = ⊥

-- a typing of a group: each function has its type, where the group's names have theirs
abbrev pub GroupHas : World → Surroundings → Group → Typings
GroupHas w s g = Together (function_names g) (λ r. EachFunctionHas w r g) s
