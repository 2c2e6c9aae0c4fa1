-- «Typed» of the trees of a program's text, in their plain form.
use Rattle.std.specs.Prelude.{ℕ, Option, Some, None, List, [], ◌∷◌}
use Rattle.elm_typing.specs.Ground.{Ground, Grounds, Row}
use Rattle.typing_rules.specs.WrittenTypes.{Written, IsInstance}
use Rattle.typing_rules.specs.Unions.{ConstructorGives}
use Rattle.typing_rules.specs.CorePatterns.{literal_type}
use Rattle.typing_rules.specs.Worlds.{Types, Surroundings, exactly, World}
use Rattle.typing_rules.specs.Rules.{Well, Incoming, NativeGives, Held, Called, Branch, Abstracted, Chosen, Cased, Defined, Typings, Together, Grouped, OfParts, NoParts, AndPart, Listed, Ranged, Over, NothingOver, FieldOver, OfFields, Extended, NewestIs, Updated, Removed, FieldOf}
use Rattle.typing_rules.specs.Core.{Core, Cores, CoreFields, CoreGuards, CoreBranches, CoreGroup, Local, Top, Input, Literal, Native, Constructor, Held as HeldTo, Lambda, Call, If, Guards, Case, LetValue, LetFunctions, Tuple, ListOf, Range, Fields, Update, Extend, Remove, Field, NoCores, AndCore, NoCoreFields, AndCoreField, NoCoreGuards, AndCoreGuard, NoCoreBranches, AndCoreBranch, NoCoreFunctions, AndCoreFunction}

-- the names of a group's functions
abbrev pub names_in : CoreGroup → List ℕ
names_in NoCoreFunctions = []
names_in (AndCoreFunction name annotation p b g) = name ∷ names_in g

-- what is annotated has an instance of its annotation
abbrev pub IsAsAnnotated : Option Written → Types
IsAsAnnotated None type = Unit {0}
IsAsAnnotated (Some written) type = IsInstance written type

-- one line a form
abbrev mutual
  pub CoreHas : World → Surroundings → Core → Types
  CoreHas w s (Local y) = Well w (s y)
  CoreHas w s (Top n) = Well w (w.tops n)
  CoreHas w s (Input n) = Well w (Incoming w n)
  CoreHas w s (Literal value) = Well w (exactly (literal_type value))
  CoreHas w s (Native n) = Well w (NativeGives n)
  CoreHas w s (Constructor union name takes) = Well w (ConstructorGives w.unions (Some union) name takes)
  CoreHas w s (HeldTo written e) = Well w (Held written (CoreHas w s e))
  CoreHas w s (Lambda p b) = Well w (Abstracted w p (λ r. CoreHas w r b) s)
  CoreHas w s (Call f a) = Well w (Called (CoreHas w s f) (CoreHas w s a))
  CoreHas w s (If c y n) = Well w (Chosen (CoreHas w s c) (CoreHas w s y) (CoreHas w s n))
  CoreHas w s (Guards gs) = Well w (CoreGuardsHave w s gs)
  CoreHas w s (Case e bs) = Well w (Cased w (CoreHas w s e) (CoreBranchesHave w s bs))
  CoreHas w s (LetValue p e b) = Well w (Defined w p (λ r. CoreHas w r e) (λ r. CoreHas w r b) s)
  CoreHas w s (LetFunctions g b) =
      Well w (Grouped w (names_in g) (Together (names_in g) (λ r. EachCoreHas w r g)) (λ r. CoreHas w r b) s)
  CoreHas w s (Tuple es) = Well w (OfParts (AllCoresHave w s es))
  CoreHas w s (ListOf es) = Well w (Listed (EachIs w s es))
  CoreHas w s (Range l h) = Well w (Ranged (CoreHas w s l) (CoreHas w s h))
  CoreHas w s (Fields fs) = Well w (OfFields (CoreFieldsOver w s fs))
  CoreHas w s (Update e fs) = Well w (Updated (CoreHas w s e) (CoreNewestAre w s fs))
  CoreHas w s (Extend e fs) = Well w (Extended (CoreHas w s e) (CoreFieldsOver w s fs))
  CoreHas w s (Remove e label) = Well w (Removed (CoreHas w s e) label)
  CoreHas w s (Field e label) = Well w (FieldOf (CoreHas w s e) label)

  pub AllCoresHave : World → Surroundings → Cores → Grounds → Type 0
  AllCoresHave w s NoCores = NoParts
  AllCoresHave w s (AndCore e es) = AndPart (CoreHas w s e) (AllCoresHave w s es)

  pub EachIs : World → Surroundings → Cores → Types
  EachIs w s NoCores type = Unit {0}
  EachIs w s (AndCore e es) type = CoreHas w s e type × EachIs w s es type

  pub CoreGuardsHave : World → Surroundings → CoreGuards → Types
  CoreGuardsHave w s NoCoreGuards type = Unit {0}
  CoreGuardsHave w s (AndCoreGuard c b gs) type = Chosen (CoreHas w s c) (CoreHas w s b) (CoreGuardsHave w s gs) type

  -- by the type of the scrutinee
  pub CoreBranchesHave : World → Surroundings → CoreBranches → Ground → Types
  CoreBranchesHave w s NoCoreBranches from type = Unit {0}
  CoreBranchesHave w s (AndCoreBranch p b bs) from type =
      Branch w p (λ r. CoreHas w r b) s from type × CoreBranchesHave w s bs from type

  pub CoreFieldsOver : World → Surroundings → CoreFields → Over
  CoreFieldsOver w s NoCoreFields = NothingOver
  CoreFieldsOver w s (AndCoreField label e fs) = FieldOver label (CoreHas w s e) (CoreFieldsOver w s fs)

  pub CoreNewestAre : World → Surroundings → CoreFields → Row → Type 0
  CoreNewestAre w s NoCoreFields row = Unit {0}
  CoreNewestAre w s (AndCoreField label e fs) row = NewestIs label (CoreHas w s e) row × CoreNewestAre w s fs row

  -- one type for each function of a group, as it is annotated
  pub EachCoreHas : World → Surroundings → CoreGroup → Typings
  EachCoreHas w s NoCoreFunctions [] = Unit {0}
  EachCoreHas w s (AndCoreFunction name annotation p b g) (t ∷ ts) =
      Well w (Abstracted w p (λ r. CoreHas w r b) s) t × IsAsAnnotated annotation t × EachCoreHas w s g ts
  EachCoreHas w s _ _ = ⊥

-- a typing of a group of a `let`
abbrev pub CoreGroupHas : World → Surroundings → CoreGroup → Typings
CoreGroupHas w s g = Together (names_in g) (λ r. EachCoreHas w r g) s
