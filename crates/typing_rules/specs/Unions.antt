-- Unions and their constructors. A base type, and a type whose values no program takes apart, is a union without
-- constructors.
use Rattle.std.specs.Prelude.{◌≡◌, ℕ, suc, Bool, true, false, if◌then◌else◌, Option, Some, None, List, [], ◌∷◌, codes}
use Rattle.std.specs.Str.{bytes_eq}
use Rattle.elm_typing.specs.Ground.{Ground, Grounds, NoGrounds, AndGround}
use Rattle.elm_typing.specs.Names.{list_of}
use Rattle.typing_rules.specs.WrittenTypes.{Written, Choice, Allows, Respects, instance_at}

-- the name with its module, the parameters, and each constructor's name with the types of its arguments
pub record Union : Type 0 where
  pub name : List ℕ
  pub parameters : List (List ℕ)
  pub constructors : List (List ℕ × List Written)

-- the first union of the name counts
abbrev pub union_named : List ℕ → List Union → Option Union
union_named name [] = None
union_named name (u ∷ us) = if bytes_eq u.name name then Some u else union_named name us

abbrev pub parameters_in : Option Union → List (List ℕ)
parameters_in None = []
parameters_in (Some u) = u.parameters

abbrev pub constructors_in : Option Union → List (List ℕ × List Written)
constructors_in None = []
constructors_in (Some u) = u.constructors

-- which type each parameter stands for
abbrev pub arguments_for : List (List ℕ) → Grounds → Choice
arguments_for (p ∷ ps) (AndGround t ts) name = if bytes_eq p name then t else arguments_for ps ts name
arguments_for _ _ name = Ground.Tuple NoGrounds

-- as many types as there are parameters, each of which may stand for its own
abbrev pub AllAllowed : List (List ℕ) → Grounds → Type 0
AllAllowed [] NoGrounds = Unit {0}
AllAllowed (p ∷ ps) (AndGround t ts) = Allows p t × AllAllowed ps ts
AllAllowed _ _ = ⊥

abbrev pub types_at : Choice → List Written → Grounds
types_at choice [] = NoGrounds
types_at choice (w ∷ ws) = AndGround (instance_at choice w) (types_at choice ws)

-- what respects the variables of each of the types
abbrev pub EachRespects : Choice → List Written → Type 0
EachRespects choice [] = Unit {0}
EachRespects choice (w ∷ ws) = Respects choice w × EachRespects choice ws

abbrev pub EitherOf : Bool → Type 0 → Type 0 → Type 0
EitherOf true A B = A
EitherOf false A B = B

-- the arguments of the constructor are respected: a variable before a bar stands for a record, as in functions
abbrev pub RespectsAmong : List ℕ → Choice → List (List ℕ × List Written) → Type 0
RespectsAmong constructor choice [] = Unit {0}
RespectsAmong constructor choice (c ∷ cs) =
    EitherOf (bytes_eq c.0 constructor) (EachRespects choice c.1) (RespectsAmong constructor choice cs)

abbrev pub parts_among : List ℕ → Choice → List (List ℕ × List Written) → Option Grounds
parts_among constructor choice [] = None
parts_among constructor choice (c ∷ cs) =
    if bytes_eq c.0 constructor then Some (types_at choice c.1) else parts_among constructor choice cs

-- the types of a constructor's arguments, where the union of this name has it and has these types as arguments
abbrev pub parts_of : List Union → List ℕ → Grounds → List ℕ → Option Grounds
parts_of unions name types constructor =
    parts_among constructor (arguments_for (parameters_in (union_named name unions)) types)
    (constructors_in (union_named name unions))

abbrev pub count_of : Grounds → ℕ
count_of NoGrounds = 0
count_of (AndGround t ts) = suc (count_of ts)

-- a function of these arguments, one after the other
abbrev pub arrows : Grounds → Ground → Ground
arrows NoGrounds result = result
arrows (AndGround t ts) result = Ground.Function t (arrows ts result)

-- a constructor belongs to the named union, or to any that has it
abbrev pub IsOf : Option (List ℕ) → List ℕ → Type 0
IsOf None name = Unit {0}
IsOf (Some union) name = union ≡ name

-- the constructor makes a value of the union at these types from parts of these types
pub record Makes (unions : List Union) (union : Option (List ℕ)) (constructor : List ℕ) (name : List ℕ) (types parts : Grounds) : Type 0 where
  pub belongs : IsOf union name
  pub allowed : AllAllowed (parameters_in (union_named name unions)) types
  pub respected : RespectsAmong constructor (arguments_for (parameters_in (union_named name unions)) types) (constructors_in (union_named name unions))
  pub given : parts_of unions name types constructor ≡ Some parts

-- the constructor of so many arguments as a function
abbrev pub UnionGives : List Union → Option (List ℕ) → List ℕ → ℕ → Ground → Type 0
UnionGives unions union constructor takes type =
    (name : List ℕ) × (types : Grounds) × (parts : Grounds)
    × Makes unions union constructor name types parts
    × (count_of parts ≡ takes)
    × (type ≡ arrows parts (Ground.Named name types))

-- a -> List a -> List a
abbrev pub ListGives : ℕ → Ground → Type 0
ListGives takes type =
    (takes ≡ 2) × (element : Ground) × (type ≡ Ground.Function element (Ground.Function (list_of element) (list_of element)))

abbrev pub GivesWhere : Bool → List Union → Option (List ℕ) → List ℕ → ℕ → Ground → Type 0
GivesWhere true unions union constructor takes type = ListGives takes type
GivesWhere false unions union constructor takes type = UnionGives unions union constructor takes type

-- `::` is the constructor of lists, and no other union has it
abbrev pub ConstructorGives : List Union → Option (List ℕ) → List ℕ → ℕ → Ground → Type 0
ConstructorGives unions union constructor takes type =
    GivesWhere (bytes_eq constructor (codes "::")) unions union constructor takes type
