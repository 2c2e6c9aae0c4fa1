-- The groups of a block. Its definitions are numbered from 0 in order of place; `refers a b` says that a names b.
use Rattle.std.specs.Prelude.{◌≡◌, ◌≢◌, ℕ, ◌<◌, ◌≤◌, Bool, false, IsTrue, ◌↔◌, ◌⊎◌, List, [], ◌∷◌, ◌++◌, slice_index_or}
use Rattle.std.specs.List.{Contains}

-- which definition refers to which
abbrev pub References : Type 0
References = ℕ → ℕ → Bool

-- A chain of references leads from one definition to another: the least transitive relation that holds the references.
pub data Reaches (refers : References) : ℕ → ℕ → Type 0 where
  at_once : {a b : ℕ} → IsTrue (refers a b) → Reaches refers a b
  over : {a b c : ℕ} → Reaches refers a b → Reaches refers b c → Reaches refers a c

-- they are the same, or each reaches the other
abbrev pub AreTogether : References → ℕ → ℕ → Type 0
AreTogether refers a b = (a ≡ b) ⊎ (Reaches refers a b × Reaches refers b a)

-- each number is below those that stand behind it
abbrev pub Ascends : List ℕ → Type 0
Ascends [] = Unit {0}
Ascends (a ∷ more) = ((b : ℕ) → Contains more b → a < b) × Ascends more

-- A group of a block of `count` definitions: with each of its members exactly those that are together with it, in order of place.
pub record IsGroup (count : ℕ) (refers : References) (group : List ℕ) : Type 0 where
  pub inhabited : group ≢ []
  pub ascends : Ascends group
  pub exact : (a : ℕ) → Contains group a → (b : ℕ) → Contains group b ↔ ((b < count) × AreTogether refers a b)

-- none of them is among those that are taken already
abbrev pub AreApart : List ℕ → List ℕ → Type 0
AreApart taken group = (a : ℕ) → Contains group a → Contains taken a → ⊥

-- what a member refers to is a member, or is taken already
abbrev pub IsReady : References → List ℕ → List ℕ → Type 0
IsReady refers taken group = (a b : ℕ) → Contains group a → IsTrue (refers a b) → Contains group b ⊎ Contains taken b

-- a group that isn't taken yet, and whose outside references all are
pub record MayFollow (count : ℕ) (refers : References) (taken group : List ℕ) : Type 0 where
  pub whole : IsGroup count refers group
  pub apart : AreApart taken group
  pub ready : IsReady refers taken group

-- of two lists the first one's first number is at most the other one's
abbrev pub StandsFirst : List ℕ → List ℕ → Type 0
StandsFirst [] other = Unit {0}
StandsFirst (a ∷ more) [] = Unit {0}
StandsFirst (a ∷ more) (b ∷ others) = a ≤ b

-- the next group: of those that may follow, the one whose first definition stands first
pub record IsNext (count : ℕ) (refers : References) (taken group : List ℕ) : Type 0 where
  pub follows : MayFollow count refers taken group
  pub first : (other : List ℕ) → MayFollow count refers taken other → StandsFirst group other

-- each group is the next one behind those before it, until all definitions are taken
abbrev pub Follow : ℕ → References → List ℕ → List (List ℕ) → Type 0
Follow count refers taken [] = (a : ℕ) → a < count → Contains taken a
Follow count refers taken (group ∷ groups) = IsNext count refers taken group × Follow count refers (taken ++ group) groups

-- the groups of a block, in their order
abbrev pub AreGroups : ℕ → References → List (List ℕ) → Type 0
AreGroups count refers groups = Follow count refers [] groups

-- a member reaches a member
abbrev pub ReachesItself : References → List ℕ → Type 0
ReachesItself refers group = (a b : ℕ) × Contains group a × Contains group b × Reaches refers a b

-- a member isn't a function
abbrev pub HoldsValue : (ℕ → Bool) → List ℕ → Type 0
HoldsValue functions group = (a : ℕ) × Contains group a × (functions a ≡ false)

-- a value in a cycle: the group reaches itself, and a member of it isn't a function
abbrev pub IsCyclicValue : References → (ℕ → Bool) → List ℕ → Type 0
IsCyclicValue refers functions group = ReachesItself refers group × HoldsValue functions group

-- what a list says of each definition: whether it is a function
abbrev pub is_function : List Bool → ℕ → Bool
is_function functions a = slice_index_or functions a false

-- some group has both
abbrev pub AreInOne : List (List ℕ) → ℕ → ℕ → Type 0
AreInOne groups a b = (group : List ℕ) × Contains groups group × Contains group a × Contains group b
