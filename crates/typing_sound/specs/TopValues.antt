-- How the values of a program's top level come one after the other.
use Rattle.std.specs.Prelude.{◌≡◌, ◌<◌, ℕ, suc, List, [], ◌∷◌, ◌++◌}
use Rattle.elm_meaning.specs.Values.{Value, Tree, Lambda}
use Rattle.elm_meaning.specs.Progress.{Stage, State, Returns}
use Rattle.elm_meaning.specs.Evaluation.{eval}
use Rattle.typing_rules.specs.Core.{Core, Cores, CoreFields, CoreGuards, CoreBranches, CoreGroup, Local, Top, Input, Literal, Native, Constructor, Held, Lambda as LambdaOf, Call, If, Guards, Case, LetValue, LetFunctions, Tuple, ListOf, Range, Fields, Update, Extend, Remove, Field, NoCores, AndCore, NoCoreFields, AndCoreField, NoCoreGuards, AndCoreGuard, NoCoreBranches, AndCoreBranch, NoCoreFunctions, AndCoreFunction, erased}
use Rattle.typing_rules.specs.TopGroups.{Definition}
use Rattle.typing_sound.specs.Settings.{Setting}

-- the top values that a tree refers to, each as often as it does
abbrev mutual
  pub tops_in : Core → List ℕ
  tops_in (Local y) = []
  tops_in (Top n) = n ∷ []
  tops_in (Input n) = []
  tops_in (Literal value) = []
  tops_in (Native n) = []
  tops_in (Constructor union name takes) = []
  tops_in (Held written e) = tops_in e
  tops_in (LambdaOf p b) = tops_in b
  tops_in (Call f a) = tops_in f ++ tops_in a
  tops_in (If c y n) = tops_in c ++ (tops_in y ++ tops_in n)
  tops_in (Guards gs) = tops_in_guards gs
  tops_in (Case e bs) = tops_in e ++ tops_in_branches bs
  tops_in (LetValue p e b) = tops_in e ++ tops_in b
  tops_in (LetFunctions g b) = tops_in_group g ++ tops_in b
  tops_in (Tuple es) = tops_in_all es
  tops_in (ListOf es) = tops_in_all es
  tops_in (Range l h) = tops_in l ++ tops_in h
  tops_in (Fields fs) = tops_in_fields fs
  tops_in (Update e fs) = tops_in e ++ tops_in_fields fs
  tops_in (Extend e fs) = tops_in e ++ tops_in_fields fs
  tops_in (Remove e label) = tops_in e
  tops_in (Field e label) = tops_in e

  pub tops_in_all : Cores → List ℕ
  tops_in_all NoCores = []
  tops_in_all (AndCore e es) = tops_in e ++ tops_in_all es

  pub tops_in_fields : CoreFields → List ℕ
  tops_in_fields NoCoreFields = []
  tops_in_fields (AndCoreField label e fs) = tops_in e ++ tops_in_fields fs

  pub tops_in_guards : CoreGuards → List ℕ
  tops_in_guards NoCoreGuards = []
  tops_in_guards (AndCoreGuard c b gs) = tops_in c ++ (tops_in b ++ tops_in_guards gs)

  pub tops_in_branches : CoreBranches → List ℕ
  tops_in_branches NoCoreBranches = []
  tops_in_branches (AndCoreBranch p b bs) = tops_in b ++ tops_in_branches bs

  pub tops_in_group : CoreGroup → List ℕ
  tops_in_group NoCoreFunctions = []
  tops_in_group (AndCoreFunction name annotation p b g) = tops_in b ++ tops_in_group g

-- the definitions have numbers below this one
abbrev pub AreBelow : ℕ → List Definition → Type 0
AreBelow k [] = Unit {0}
AreBelow k (d ∷ ds) = (d.top < k) × AreBelow k ds

abbrev pub GroupsAreBelow : ℕ → List (List Definition) → Type 0
GroupsAreBelow k [] = Unit {0}
GroupsAreBelow k (g ∷ gs) = AreBelow k g × GroupsAreBelow k gs

-- the definitions are numbered one after the other
abbrev pub AreNumbered : ℕ → List Definition → Type 0
AreNumbered k [] = Unit {0}
AreNumbered k (d ∷ ds) = (d.top ≡ k) × AreNumbered (suc k) ds

-- the same with one more group
abbrev pub with_one_more : List Definition → Setting → Setting
with_one_more g p =
    record { sorts = p.sorts; own = p.own; inputs = p.inputs; groups = p.groups ++ g ∷ []; equations = p.equations }

-- a lambda gives this function, with any fuel
abbrev pub GivesFunction : List Value → Stage → Tree → Value → Type 0
GivesFunction tops stage (Lambda p b) v = (fuel : ℕ) → (s : State) × (eval tops stage (Lambda p b) fuel ≡ Returns v s)
GivesFunction tops stage _ v = ⊥

-- each definition is a function, and these are their values
abbrev pub AreFunctions : List Value → Stage → List Definition → List Value → Type 0
AreFunctions tops stage [] [] = Unit {0}
AreFunctions tops stage (d ∷ ds) (v ∷ vs) = GivesFunction tops stage (erased d.body) v × AreFunctions tops stage ds vs
AreFunctions tops stage _ _ = ⊥
