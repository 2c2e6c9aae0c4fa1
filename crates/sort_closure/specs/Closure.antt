-- What notes on sorts say, followed through.
use Rattle.std.specs.Prelude.{◌≡◌, ℕ, IsTrue, List, length}
use Rattle.elm_typing.specs.Sorts.{Sort, IsAtMost, sort_of}
use Rattle.bit_rows.specs.Table.{Table, bit_of, IsTransitive}
use Rattle.type_terms.specs.declared.node.Node.{Node}
use Rattle.type_terms.specs.Solutions.{Assignment, Solves}
use Rattle.type_terms.specs.Terms.{node_at, IsLink, LinksTo}
use Rattle.type_sorts.specs.Sorts.{Meets}
use Rattle.type_sorts.specs.Vertices.{Member}

-- where the links of a term end
pub record IsEnd (nodes : List Node) (end at : ℕ) : Type 0 where
  pub leads : LinksTo nodes end at
  pub last : IsLink (node_at nodes end) → ⊥

-- each note has the bit of the ends of its terms' links
abbrev pub HasNotes : List Node → List (ℕ × ℕ) → Table → Type 0
HasNotes nodes notes table =
    (note : ℕ × ℕ) → Member note notes → (a b : ℕ) → IsEnd nodes a note.0 → IsEnd nodes b note.1 → IsTrue (bit_of table a b)

-- each bit is true of the sorts in all solutions that meet the notes
abbrev pub IsTrueOf : List Node → List (ℕ × ℕ) → Table → Type 0
IsTrueOf nodes notes table =
    (chosen : ℕ → Sort) (s : Assignment) → Solves nodes s → Meets s chosen notes → (a b : ℕ) → IsTrue (bit_of table a b)
    → IsAtMost (sort_of chosen (s a)) (sort_of chosen (s b))

-- the table says what follows from the notes
pub record IsClosure (nodes : List Node) (notes : List (ℕ × ℕ)) (table : Table) : Type 0 where
  pub width : table.bits ≡ length nodes
  pub height : length table.rows ≡ length nodes
  pub has : HasNotes nodes notes table
  pub transitive : IsTransitive table
  pub sound : IsTrueOf nodes notes table
