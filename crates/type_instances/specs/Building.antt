-- A term for an instance of a written type.
use Rattle.std.specs.Prelude.{◌≡◌, ℕ, List, [], ◌∷◌, length, map}
use Rattle.elm_base.specs.declared.tree.Spot.{Spot}
use Rattle.elm_base.specs.declared.tree.TypeTree.{TypeTree}
use Rattle.elm_typing.specs.Ground.{Ground}
use Rattle.elm_typing.specs.Sorts.{Sort}
use Rattle.typing_rules.specs.WrittenTypes.{Written, Choice, instance_at}
use Rattle.type_sense.specs.WrittenOf.{written_of}
use Rattle.type_terms.specs.Solutions.{Assignment}
use Rattle.type_terms.specs.Terms.{Each, terms_of}
use Rattle.type_unify.specs.Rests.{IsType}
use Rattle.type_unify.specs.Taken.{Agree}
use Rattle.type_conditions.specs.Conditions.{Asked, terms_in, Satisfies}
use Rattle.type_conditions.specs.Judging.{Grows, IsWell, KeepsTails}
use Rattle.type_instances.specs.declared.table.Variable.{Variable}
use Rattle.type_instances.specs.Tables.{choice_of, EachVariable, AllowsTail, IsTable}

-- the instance at the types of the variables' terms
abbrev pub instance_in : List Variable → Assignment → Written → Ground
instance_in table s written = instance_at (choice_of table s) written

-- the term has exactly the instance's type
pub record Builds (table : List Variable) (old new : Asked) (written : Written) (at : ℕ) : Type 0 where
  pub grows : Grows old new
  pub tails : KeepsTails old new
  pub is : (chosen : ℕ → Sort) (s : Assignment) → Satisfies new chosen s → IsWell chosen (s at) × (s at ≡ instance_in table s written)
  pub complete : (chosen : ℕ → Sort) (s : Assignment) → Satisfies old chosen s → IsWell chosen (instance_in table s written)
      → (r : Assignment) × Agree (length (terms_in old)) s r × Satisfies new chosen r
  pub is_type : IsType (terms_in new) at

abbrev pub instances_in : List Variable → Assignment → List TypeTree → List Ground
instances_in table s trees = map (λ tree. instance_in table s (written_of tree)) trees

abbrev pub EachWell : (ℕ → Sort) → List Ground → Type 0
EachWell chosen [] = Unit {0}
EachWell chosen (t ∷ ts) = IsWell chosen t × EachWell chosen ts

-- the same of several
pub record BuildsAll (table : List Variable) (old new : Asked) (trees : List TypeTree) (terms : List ℕ) : Type 0 where
  pub grows : Grows old new
  pub tails : KeepsTails old new
  pub is : (chosen : ℕ → Sort) (s : Assignment) → Satisfies new chosen s → map s terms ≡ instances_in table s trees
  pub complete : (chosen : ℕ → Sort) (s : Assignment) → Satisfies old chosen s → EachWell chosen (instances_in table s trees)
      → (r : Assignment) × Agree (length (terms_in old)) s r × Satisfies new chosen r
  pub are_types : Each (IsType (terms_in new)) terms

abbrev pub trees_in : List (Spot × TypeTree) → List TypeTree
trees_in fields = map (λ field. field.1) fields

abbrev pub labels_in : List (Spot × TypeTree) → List (List ℕ)
labels_in fields = map (λ field. field.0.name) fields

abbrev pub labels_of : List (List ℕ × ℕ) → List (List ℕ)
labels_of fields = map (λ field. field.0) fields

-- and of the fields of a record, in order
pub record BuildsFields (table : List Variable) (old new : Asked) (written : List (Spot × TypeTree)) (fields : List (List ℕ × ℕ)) : Type 0 where
  pub terms : BuildsAll table old new (trees_in written) (terms_of fields)
  pub labels : labels_of fields ≡ labels_in written

-- New terms for variables, which may stand for any types that they allow.
pub record Chooses (old new : Asked) (table : List Variable) : Type 0 where
  pub grows : Grows old new
  pub is_table : IsTable new table
  pub complete : (chosen : ℕ → Sort) (s : Assignment) (choice : Choice) → Satisfies old chosen s
      → EachVariable (λ v. IsWell chosen (choice v.name) × AllowsTail v.tail v.name (choice v.name)) table
      → (r : Assignment) × Agree (length (terms_in old)) s r × Satisfies new chosen r × EachVariable (λ v. r v.at ≡ choice v.name) table
