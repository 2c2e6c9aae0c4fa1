-- Types of terms with the same head, and with others.
use Rattle.std.proofs.Common.{◌≡◌, ℕ, suc, ◌+◌, ◌≤◌, List, [], ◌∷◌, length, Some, None, refl, sym, ◌∙◌, ap, subst, arith}
use Rattle.elm_typing.specs.Ground.{Ground, Named, Function, Tuple, Record, Opaque}
use Rattle.type_terms.specs.declared.node.Node.{Node}
use Rattle.type_terms.specs.declared.node.Node.TheVariants.{End}
use Rattle.type_terms.specs.declared.shape.Shape.{Shape}
use Rattle.type_terms.specs.declared.shape.Shape.TheVariants as shape
use Rattle.type_terms.specs.Depth.{sum_of}
use Rattle.type_terms.specs.Solutions.{Assignment, Solves, Fits, types_of}
use Rattle.type_terms.specs.Terms.{node_at, parts, Each, itself}
use Rattle.type_unify.specs.Heads.{SameHead, IsVariableShape, IsRowShape, zipped}
use Rattle.type_unify.specs.Matching.{AllEqual, terms_in}
use Rattle.type_unify.specs.Rests.{IsBare, IsNoRest, type_parts}
use Rattle.type_unify.proofs.Reading.{fits_at}

-- a term that is no bare rest has its shape's type
pub fits_type : (nodes : List Node) (s : Assignment) (i : ℕ) (sh : Shape) → IsNoRest nodes i → node_at nodes i ≡ End sh → Solves nodes s → Fits ⊥ s (s i) sh
fits_type nodes s i (shape.Variable flag) apart e h = fits_at nodes s i (shape.Variable flag) e h
fits_type nodes s i (shape.Opaque number flag) apart e h =
    ((λ x. absurd x), λ x. (fits_at nodes s i (shape.Opaque number flag) e h).1 (λ rest. apart i itself rest (subst IsBare (sym e) tt)))
fits_type nodes s i (shape.Named name arguments) apart e h = fits_at nodes s i (shape.Named name arguments) e h
fits_type nodes s i (shape.Arrow from to) apart e h = fits_at nodes s i (shape.Arrow from to) e h
fits_type nodes s i (shape.Tuple ps) apart e h = fits_at nodes s i (shape.Tuple ps) e h
fits_type nodes s i (shape.Row fields rest) apart e h = fits_at nodes s i (shape.Row fields rest) e h

types_equal : (s : Assignment) (xs ys : List ℕ) → types_of s xs ≡ types_of s ys → AllEqual s (zipped xs ys)
types_equal s [] ys e = tt
types_equal s (x ∷ xs) [] e = tt
types_equal s (x ∷ xs) (y ∷ ys) e = (cc e, types_equal s xs ys (cc e))

equal_types : (s : Assignment) (xs ys : List ℕ) → length xs ≡ length ys → AllEqual s (zipped xs ys) → types_of s xs ≡ types_of s ys
equal_types s [] [] l h = refl
equal_types s [] (y ∷ ys) l h = absurd (omega arith)
equal_types s (x ∷ xs) [] l h = absurd (omega arith)
equal_types s (x ∷ xs) (y ∷ ys) l h = let a = h.0 in let b = equal_types s xs ys (omega arith) h.1 in cc (a, b)

types_length : (s : Assignment) (xs ys : List ℕ) → types_of s xs ≡ types_of s ys → length xs ≡ length ys
types_length s [] [] e = refl
types_length s [] (y ∷ ys) e = cc e
types_length s (x ∷ xs) [] e = cc e
types_length s (x ∷ xs) (y ∷ ys) e = ap suc (types_length s xs ys (cc e))

pub heads_to : (s : Assignment) (t : Ground) (p q : Shape) → SameHead p q → Fits ⊥ s t p → Fits ⊥ s t q → AllEqual s (zipped (parts p) (parts q))
heads_to s t (shape.Opaque m f) (shape.Opaque n g) same a b = tt
heads_to s t (shape.Named m xs) (shape.Named n ys) same a b = types_equal s xs ys (cc (a, b))
heads_to s t (shape.Arrow x y) (shape.Arrow u v) same a b = (cc (a, b), (cc (a, b), tt))
heads_to s t (shape.Tuple xs) (shape.Tuple ys) same a b = types_equal s xs ys (cc (a, b))
heads_to s t p q same a b = absurd same

pub heads_back : (s : Assignment) (t u : Ground) (p q : Shape) → SameHead p q → Fits ⊥ s t p → Fits ⊥ s u q → AllEqual s (zipped (parts p) (parts q)) → t ≡ u
heads_back s t u (shape.Opaque m f) (shape.Opaque n g) same a b h = let x = a.1 (λ z. z) in let y = b.1 (λ z. z) in let e = same.0 in let i = same.1 in cc (x, y, e, i)
heads_back s t u (shape.Named m xs) (shape.Named n ys) same a b h = let e = same.0 in let i = equal_types s xs ys same.1 h in cc (a, b, e, i)
heads_back s t u (shape.Arrow x y) (shape.Arrow v w) same a b h = let e = h.0 in let i = h.1.0 in cc (a, b, e, i)
heads_back s t u (shape.Tuple xs) (shape.Tuple ys) same a b h = let i = equal_types s xs ys same h in cc (a, b, i)
heads_back s t u p q same a b h = absurd same

-- which kind a type and a shape are of
abbrev ground_kind : Ground → ℕ
ground_kind (Named name arguments) = 0
ground_kind (Function argument result) = 1
ground_kind (Tuple ps) = 2
ground_kind (Record row) = 3
ground_kind (Opaque number flag) = 4

abbrev shape_kind : Shape → ℕ
shape_kind (shape.Named name arguments) = 0
shape_kind (shape.Arrow from to) = 1
shape_kind (shape.Tuple ps) = 2
shape_kind (shape.Row fields rest) = 3
shape_kind (shape.Opaque number flag) = 4
shape_kind (shape.Variable flag) = 5

kind_is : (s : Assignment) (t : Ground) (sh : Shape) → (IsVariableShape sh → ⊥) → Fits ⊥ s t sh → ground_kind t ≡ shape_kind sh
kind_is s t (shape.Variable flag) v f = absurd (v tt)
kind_is s t (shape.Opaque number flag) v f = ap ground_kind (f.1 (λ z. z))
kind_is s t (shape.Named name arguments) v f = ap ground_kind f
kind_is s t (shape.Arrow from to) v f = ap ground_kind f
kind_is s t (shape.Tuple ps) v f = ap ground_kind f
kind_is s t (shape.Row fields None) v f = ap ground_kind f
kind_is s t (shape.Row fields (Some rest)) v f = ap ground_kind f.2

same_kind_apart : (s : Assignment) (t : Ground) (p q : Shape) → shape_kind p ≡ shape_kind q → (SameHead p q → ⊥) → (IsVariableShape p → ⊥) → (IsRowShape p → IsRowShape q → ⊥) → Fits ⊥ s t p → Fits ⊥ s t q → ⊥
same_kind_apart s t (shape.Opaque m f) (shape.Opaque n g) k ne v r a b = let x = a.1 (λ z. z) in let y = b.1 (λ z. z) in ne (cc (x, y), cc (x, y))
same_kind_apart s t (shape.Named m xs) (shape.Named n ys) k ne v r a b = ne (cc (a, b), types_length s xs ys (cc (a, b)))
same_kind_apart s t (shape.Tuple xs) (shape.Tuple ys) k ne v r a b = ne (types_length s xs ys (cc (a, b)))
same_kind_apart s t (shape.Arrow x y) (shape.Arrow z w) k ne v r a b = ne tt
same_kind_apart s t (shape.Row fs o) (shape.Row gs o') k ne v r a b = r tt tt
same_kind_apart s t (shape.Variable f) q k ne v r a b = v tt
same_kind_apart s t p q k ne v r a b = omega (arith, k)

pub heads_apart : (s : Assignment) (t : Ground) (p q : Shape) → (SameHead p q → ⊥) → (IsVariableShape p → ⊥) → (IsVariableShape q → ⊥) → (IsRowShape p → IsRowShape q → ⊥) → Fits ⊥ s t p → Fits ⊥ s t q → ⊥
heads_apart s t p q ne u v r a b = same_kind_apart s t p q (sym (kind_is s t p u a) ∙ kind_is s t q v b) ne u r a b

pub head_parts : (P : ℕ → Type 0) (p q : Shape) → SameHead p q → Each P (type_parts (End p)) → Each P (parts p)
head_parts P (shape.Opaque m f) q same h = tt
head_parts P (shape.Named m xs) q same h = h
head_parts P (shape.Arrow x y) q same h = h
head_parts P (shape.Tuple xs) q same h = h
head_parts P p q same h = absurd same

pub same_head_turned : (p q : Shape) → SameHead p q → SameHead q p
same_head_turned (shape.Opaque m f) (shape.Opaque n g) same = (sym same.0, sym same.1)
same_head_turned (shape.Named m xs) (shape.Named n ys) same = (sym same.0, sym same.1)
same_head_turned (shape.Arrow x y) (shape.Arrow z w) same = tt
same_head_turned (shape.Tuple xs) (shape.Tuple ys) same = sym same
same_head_turned p q same = absurd same

pub same_head_length : (p q : Shape) → SameHead p q → length (parts p) ≡ length (parts q)
same_head_length (shape.Opaque m f) (shape.Opaque n g) same = refl
same_head_length (shape.Named m xs) (shape.Named n ys) same = same.1
same_head_length (shape.Arrow x y) (shape.Arrow z w) same = refl
same_head_length (shape.Tuple xs) (shape.Tuple ys) same = same
same_head_length p q same = absurd same

pub zipped_light : (w : ℕ → ℕ) (xs ys : List ℕ) → sum_of w (terms_in (zipped xs ys)) ≤ sum_of w xs + sum_of w ys
zipped_light w [] ys = omega arith
zipped_light w (x ∷ xs) [] = omega arith
zipped_light w (x ∷ xs) (y ∷ ys) = let i = zipped_light w xs ys in omega (arith, i)

pub zipped_each : (P : ℕ → Type 0) (xs ys : List ℕ) → Each P xs → Each P ys → Each P (terms_in (zipped xs ys))
zipped_each P [] ys h k = tt
zipped_each P (x ∷ xs) [] h k = tt
zipped_each P (x ∷ xs) (y ∷ ys) h k = (h.0, (k.0, zipped_each P xs ys h.1 k.1))
