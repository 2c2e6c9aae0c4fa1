-- The groups of a program's top level: which have a typing that is accepted, and which types their names have then.
use Rattle.std.specs.Prelude.{◌≡◌, ℕ, suc, Bool, false, ◌||◌, if◌then◌else◌, Option, Some, None, List, [], ◌∷◌, ◌++◌, map, codes}
use Rattle.std.specs.Str.{bytes_eq}
use Rattle.elm_typing.specs.Ground.{Ground, Ends}
use Rattle.elm_typing.specs.Sorts.{Sort}
use Rattle.elm_typing.specs.Spelling.{int}
use Rattle.typing_rules.specs.WrittenTypes.{Written, Writtens, WrittenFields, Variable, Named, Arrow, Tuple, Fields, NoWrittens, AndWritten, NoWrittenFields, AndWrittenField, begins, flag_of, Choice, instance_at}
use Rattle.typing_rules.specs.Unions.{Union}
use Rattle.typing_rules.specs.Worlds.{Types, World, no_surroundings, with_tops}
use Rattle.typing_rules.specs.Rules.{Typings, type_at, under_work, generalised}
use Rattle.typing_rules.specs.Core.{Core}
use Rattle.typing_rules.specs.CoreTypes.{IsAsAnnotated, CoreHas}

-- the number of its top value, its annotation, and its right side
pub record Definition : Type 0 where
  pub top : ℕ
  pub annotation : Option Written
  pub body : Core

-- the variables of a written type, in order, each as often as it stands
abbrev mutual
  pub variables : Written → List (List ℕ)
  variables (Variable name) = name ∷ []
  variables (Named name arguments) = all_variables arguments
  variables (Arrow argument result) = variables argument ++ variables result
  variables (Tuple parts) = all_variables parts
  variables (Fields None fields) = field_variables fields
  variables (Fields (Some name) fields) = name ∷ field_variables fields

  pub all_variables : Writtens → List (List ℕ)
  all_variables NoWrittens = []
  all_variables (AndWritten first others) = variables first ++ all_variables others

  pub field_variables : WrittenFields → List (List ℕ)
  field_variables NoWrittenFields = []
  field_variables (AndWrittenField label type others) = variables type ++ field_variables others

-- the variable stands before a bar
abbrev mutual
  pub stands_before : List ℕ → Written → Bool
  stands_before x (Variable name) = false
  stands_before x (Named name arguments) = stands_before_any x arguments
  stands_before x (Arrow argument result) = stands_before x argument || stands_before x result
  stands_before x (Tuple parts) = stands_before_any x parts
  stands_before x (Fields None fields) = stands_before_in x fields
  stands_before x (Fields (Some name) fields) = bytes_eq name x || stands_before_in x fields

  pub stands_before_any : List ℕ → Writtens → Bool
  stands_before_any x NoWrittens = false
  stands_before_any x (AndWritten first others) = stands_before x first || stands_before_any x others

  pub stands_before_in : List ℕ → WrittenFields → Bool
  stands_before_in x NoWrittenFields = false
  stands_before_in x (AndWrittenField label type others) = stands_before x type || stands_before_in x others

-- a number for each name, different ones for different names
abbrev pub place_in : List (List ℕ) → List ℕ → ℕ
place_in [] x = 0
place_in (y ∷ ys) x = if bytes_eq y x then 0 else suc (place_in ys x)

-- The opaque type that a variable of an annotation stands for: different ones for different variables, each with exactly
-- the flags of its variable. One before a bar stands for a record of which nothing is known.
abbrev pub opaque_for : Written → Choice
opaque_for written x =
    if begins (codes "number") x then int
    else (if stands_before x written then Ground.Record (Ends (Some (place_in (variables written) x)))
    else Ground.Opaque (place_in (variables written) x) (flag_of x))

-- the types of top values, by the sorts that are chosen for opaque types
abbrev pub Tops : Type 1
Tops = (ℕ → Sort) → ℕ → Types

abbrev pub no_tops : Tops
no_tops sorts n type = ⊥

-- the world of a definition, by the types of the top values before it
abbrev pub world_with : List Union → List Ground → Tops → (ℕ → Sort) → World
world_with unions inputs tops sorts =
    record { sorts = sorts; unions = unions; inputs = inputs; tops = tops sorts; nodes = λ n type. ⊥ }

abbrev pub tops_of : List Definition → List ℕ
tops_of ds = map (λ d. d.top) ds

-- each definition has its type, as it is annotated
abbrev pub DefinitionsHave : World → List Definition → Typings
DefinitionsHave w [] [] = Unit {0}
DefinitionsHave w (d ∷ ds) (t ∷ ts) =
    CoreHas w no_surroundings d.body t × IsAsAnnotated d.annotation t × DefinitionsHave w ds ts
DefinitionsHave w _ _ = ⊥

-- a typing of a group: each definition has its type, where the group's names have theirs
abbrev pub TopsHave : World → List Definition → Typings
TopsHave w ds types = DefinitionsHave (with_tops (under_work (tops_of ds) types w.tops) w) ds types

-- with some sorts the group has a typing in which the annotated name has the annotation itself, with opaque types
abbrev pub IsKept : ((ℕ → Sort) → World) → List Definition → ℕ → Option Written → Type 0
IsKept world ds i None = Unit {0}
IsKept world ds i (Some written) =
    (sorts : ℕ → Sort) × (types : List Ground) × TopsHave (world sorts) ds types
    × (type_at types i ≡ Some (instance_at (opaque_for written) written))

-- each annotation of these definitions, which stand in the group from place i on, is kept
abbrev pub AreKept : ((ℕ → Sort) → World) → List Definition → ℕ → List Definition → Type 0
AreKept world ds i [] = Unit {0}
AreKept world ds i (d ∷ more) = IsKept world ds i d.annotation × AreKept world ds (suc i) more

-- the group has a typing that is accepted
abbrev pub IsAccepted : ((ℕ → Sort) → World) → List Definition → Type 0
IsAccepted world ds =
    ((sorts : ℕ → Sort) × (types : List Ground) × TopsHave (world sorts) ds types) × AreKept world ds 0 ds

-- after a group each of its names has all types that some typing of the group gives it
abbrev pub with_group : List Union → List Ground → List Definition → Tops → Tops
with_group unions inputs ds tops sorts =
    generalised (tops_of ds) 0 (TopsHave (world_with unions inputs tops sorts) ds) (tops sorts)

-- all groups in order
abbrev pub after_groups : List Union → List Ground → List (List Definition) → Tops → Tops
after_groups unions inputs [] tops = tops
after_groups unions inputs (g ∷ gs) tops = after_groups unions inputs gs (with_group unions inputs g tops)

-- each group in order has a typing that is accepted
abbrev pub AreAccepted : List Union → List Ground → List (List Definition) → Tops → Type 0
AreAccepted unions inputs [] tops = Unit {0}
AreAccepted unions inputs (g ∷ gs) tops =
    IsAccepted (world_with unions inputs tops) g × AreAccepted unions inputs gs (with_group unions inputs g tops)
