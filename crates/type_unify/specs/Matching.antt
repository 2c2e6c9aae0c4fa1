-- The fields that two rows share, and those that one of them has alone.
use Rattle.std.specs.Prelude.{◌≡◌, ◌≢◌, ℕ, ◌+◌, List, [], ◌∷◌, ◌++◌, length, Option, Some, None}
use Rattle.elm_typing.specs.Ground.{Row}
use Rattle.elm_typing.specs.Rows.{extended_all}
use Rattle.type_unify.specs.declared.pair.Pair.{Pair}
use Rattle.type_terms.specs.Depth.{sum_of}
use Rattle.type_terms.specs.Solutions.{Assignment, fields_of}
use Rattle.type_terms.specs.declared.node.Node.{Node}
use Rattle.type_terms.specs.Terms.{terms_of, Each}
use Rattle.type_unify.specs.Rests.{IsType}

-- labels with terms, of one label the newest first
abbrev pub Fields : Type 0
Fields = List (List ℕ × ℕ)

-- no field has the label
abbrev pub Misses : List ℕ → Fields → Type 0
Misses label [] = Unit {0}
Misses label (f ∷ fs) = (label ≢ f.0) × Misses label fs

-- no label stands in both
abbrev pub Disjoint : Fields → Fields → Type 0
Disjoint [] gs = Unit {0}
Disjoint (f ∷ fs) gs = Misses f.0 gs × Disjoint fs gs

-- at this place stands the first field of the label
pub record StandsFirst (fields : Fields) (label : List ℕ) (place : ℕ) : Type 0 where
  pub before : Fields
  pub field : List ℕ × ℕ
  pub after : Fields
  pub is : fields ≡ before ++ field ∷ after
  pub place_is : length before ≡ place
  pub same : field.0 ≡ label
  pub first : Misses label before

abbrev pub IsFirstPlace : Fields → List ℕ → Option ℕ → Type 0
IsFirstPlace fields label None = Misses label fields
IsFirstPlace fields label (Some place) = StandsFirst fields label place

-- the terms of each pair have one type
abbrev pub AllEqual : Assignment → List Pair → Type 0
AllEqual s [] = Unit {0}
AllEqual s (p ∷ ps) = (s p.first ≡ s p.second) × AllEqual s ps

abbrev pub terms_in : List Pair → List ℕ
terms_in [] = []
terms_in (p ∷ ps) = p.first ∷ p.second ∷ terms_in ps

-- the rows are equal exactly where the types of the pairs are and the rows without the shared fields
pub record Matches (left right : Fields) (pairs : List Pair) (extra rest : Fields) : Type 0 where
  pub apart : Disjoint extra rest
  pub to : (s : Assignment) (r q : Row) → extended_all (fields_of s left) r ≡ extended_all (fields_of s right) q
      → AllEqual s pairs × (extended_all (fields_of s extra) r ≡ extended_all (fields_of s rest) q)
  pub back : (s : Assignment) (r q : Row) → AllEqual s pairs → extended_all (fields_of s extra) r ≡ extended_all (fields_of s rest) q
      → extended_all (fields_of s left) r ≡ extended_all (fields_of s right) q
  -- each term of the rows stands in a pair or is left over, and no other does
  pub terms : (w : ℕ → ℕ) → sum_of w (terms_in pairs) + sum_of w (terms_of extra) + sum_of w (terms_of rest) ≡ sum_of w (terms_of left) + sum_of w (terms_of right)
  pub types : (nodes : List Node) → Each (IsType nodes) (terms_of left) → Each (IsType nodes) (terms_of right)
      → Each (IsType nodes) (terms_in pairs) × Each (IsType nodes) (terms_of extra) × Each (IsType nodes) (terms_of rest)
