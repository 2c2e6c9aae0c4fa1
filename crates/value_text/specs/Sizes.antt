-- How many pieces are written for a text, which says that its writing ends.
use Rattle.std.specs.Prelude.{ℕ, suc, ◌+◌, List, [], ◌∷◌, drop, slice_get}
use Rattle.elm_meaning.specs.Values.{Value, Values, Fields as FieldsOf, Cons, Tuple, Made, Record, NoValues, AndValue, NoFields, AndField}
use Rattle.value_arena.specs.declared.node.Node.{Node}
use Rattle.value_arena.specs.Unfolding.{Lambdas, values_of, unfolded, values_at, fields_at}
use Rattle.value_text.specs.declared.piece.Piece.{Piece}
use Rattle.value_text.specs.declared.piece.Piece.TheVariants.{Whole, Rest, Parts, Arguments, Fields, Closing}
use Rattle.value_text.specs.Pieces.{refs_of, fields_of}

abbrev mutual
  pub size : Value → ℕ
  size (Cons v vs) = suc (size v + rest_size vs)
  size (Tuple vs) = suc (parts_size vs)
  size (Made k vs) = suc (parts_size vs)
  size (Record fs) = suc (fields_size fs)
  size _ = 1

  pub rest_size : Value → ℕ
  rest_size (Cons v vs) = suc (size v + rest_size vs)
  rest_size _ = 1

  pub parts_size : Values → ℕ
  parts_size NoValues = 1
  parts_size (AndValue v vs) = suc (suc (size v + parts_size vs))

  pub fields_size : FieldsOf → ℕ
  fields_size NoFields = 1
  fields_size (AndField label v fs) = suc (size v + fields_size fs)

abbrev pub piece_size : Lambdas → List Node → Piece → ℕ
piece_size lambdas nodes (Whole at) = size (unfolded lambdas nodes at)
piece_size lambdas nodes (Rest at) = rest_size (unfolded lambdas nodes at)
piece_size lambdas nodes (Parts at from) =
    parts_size (values_at (values_of lambdas nodes) (drop from (refs_of (slice_get nodes at))))
piece_size lambdas nodes (Arguments at from) =
    parts_size (values_at (values_of lambdas nodes) (drop from (refs_of (slice_get nodes at))))
piece_size lambdas nodes (Fields at last) =
    fields_size (fields_at (values_of lambdas nodes) (drop (suc last) (fields_of (slice_get nodes at))))
piece_size lambdas nodes Closing = 1

abbrev pub sizes : Lambdas → List Node → List Piece → ℕ
sizes lambdas nodes [] = 0
sizes lambdas nodes (p ∷ ps) = piece_size lambdas nodes p + sizes lambdas nodes ps
