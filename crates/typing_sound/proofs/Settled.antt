-- Opaque types of sort signal are replaced by Signal Int. All that are left may then be simple: sorts, order, flags, rows,
-- instances and the types of constructors and patterns stay what they were.
use Rattle.std.proofs.Common.{◌≡◌, ℕ, Bool, true, false, Option, Some, None, List, [], ◌∷◌, ◌++◌, refl, sym, ap, ◌∙◌, subst}
use Rattle.std.specs.Prelude.{codes, if◌then◌else◌}
use Rattle.std.specs.Str.{bytes_eq}
use mathlib.Core.Path.{fun_ext}
use Rattle.elm_base.specs.declared.term.Literal.{Literal as TermLiteral}
use Rattle.elm_base.specs.declared.term.Literal.TheVariants as literal
use Rattle.elm_typing.specs.declared.flag.Flag.{Flag}
use Rattle.elm_typing.specs.declared.flag.Flag.TheVariants.{Plain, Comparable, Appendable, Both}
use Rattle.elm_typing.specs.Flags.{IsComparable, AllComparable, IsAppendable, HasFlag}
use Rattle.elm_typing.specs.Ground.{Ground, Grounds, Row, Named, Function, Tuple, Record, Opaque, NoGrounds, AndGround, Ends, Field}
use Rattle.elm_typing.specs.Labels.{is_after}
use Rattle.elm_typing.specs.Names.{list_of, signal_of}
use Rattle.elm_typing.specs.Ordered.{LeadsTo, InOrder, AllInOrder, RowInOrder}
use Rattle.elm_typing.specs.Rows.{extended, newest, removed, behind}
use Rattle.elm_typing.specs.Sorts.{Sort, Simple, Signal, IsAtMost, sort_of, IsWellSorted, AreSimple, HasSimpleFields}
use Rattle.elm_typing.specs.Spelling.{int, all_simple}
use Rattle.typing_rules.specs.WrittenTypes.{Written, Writtens, WrittenFields, Variable, Named as NamedType, Arrow, Tuple as TupleType, Fields as FieldsType, NoWrittens, AndWritten, NoWrittenFields, AndWrittenField, begins, flag_of, IsIntWhere, Allows, Choice, IsRecord, row_of, rest_at, instance_at, instances_at, fields_at, IsRecordWhere, Respects, AllRespect, FieldsRespect, IsInstance}
use Rattle.typing_rules.specs.Unions.{Union, union_named, parameters_in, constructors_in, arguments_for, AllAllowed, types_at, parts_among, count_of, arrows, Makes, GivesWhere, ConstructorGives, EachRespects, RespectsAmong, EitherOf}
use Rattle.typing_rules.specs.CorePatterns.{CorePattern, CorePatterns, NoCorePatterns, AndCorePattern, literal_type, LabelsFit, Fits, AllFit}
use Rattle.typing_rules.specs.Worlds.{Bound}

abbrev pub by_sort : Sort → Ground → Ground
by_sort Simple t = t
by_sort Signal t = signal_of int

abbrev mutual
  pub settled : (ℕ → Sort) → Ground → Ground
  settled c (Named name ts) = Named name (all_settled c ts)
  settled c (Function a r) = Function (settled c a) (settled c r)
  settled c (Tuple ts) = Tuple (all_settled c ts)
  settled c (Record row) = Record (row_settled c row)
  settled c (Opaque n Plain) = by_sort (c n) (Opaque n Plain)
  settled c (Opaque n flag) = Opaque n flag

  pub all_settled : (ℕ → Sort) → Grounds → Grounds
  all_settled c NoGrounds = NoGrounds
  all_settled c (AndGround t ts) = AndGround (settled c t) (all_settled c ts)

  pub row_settled : (ℕ → Sort) → Row → Row
  row_settled c (Ends rest) = Ends rest
  row_settled c (Field label t row) = Field label (settled c t) (row_settled c row)

abbrev pub bound_settled : (ℕ → Sort) → Bound → Bound
bound_settled c [] = []
bound_settled c (b ∷ bs) = (b.0, settled c b.1) ∷ bound_settled c bs

module _ (c : ℕ → Sort) where
  -- ---- sorts

  sort_here : (n : ℕ) (s : Sort) → sort_of all_simple (by_sort s (Opaque n Plain)) ≡ s
  sort_here n Simple = refl
  sort_here n Signal = refl

  pub sort_settled : (t : Ground) → sort_of all_simple (settled c t) ≡ sort_of c t
  sort_settled (Named name ts) = refl
  sort_settled (Function a r) = sort_settled r
  sort_settled (Tuple ts) = refl
  sort_settled (Record row) = refl
  sort_settled (Opaque n Plain) = sort_here n (c n)
  sort_settled (Opaque n Comparable) = refl
  sort_settled (Opaque n Appendable) = refl
  sort_settled (Opaque n Both) = refl

  pub stands_settled : (t u : Ground) → IsAtMost (sort_of c t) (sort_of c u) → IsAtMost (sort_of all_simple (settled c t)) (sort_of all_simple (settled c u))
  stands_settled t u h =
      subst (λ (z : Sort). IsAtMost z (sort_of all_simple (settled c u))) (sym (sort_settled t))
      (subst (λ (z : Sort). IsAtMost (sort_of c t) z) (sym (sort_settled u)) h)

  sorted_here : (n : ℕ) (s : Sort) → IsWellSorted all_simple (by_sort s (Opaque n Plain))
  sorted_here n Simple = tt
  sorted_here n Signal = (tt, refl, tt)

  mutual
    pub sorted_settled : (t : Ground) → IsWellSorted c t → IsWellSorted all_simple (settled c t)
    sorted_settled (Named name ts) h = all_sorted ts h
    sorted_settled (Function a r) h = (sorted_settled a h.0, sorted_settled r h.1, stands_settled a r h.2)
    sorted_settled (Tuple ts) h = all_sorted ts h
    sorted_settled (Record row) h = row_sorted row h
    sorted_settled (Opaque n Plain) h = sorted_here n (c n)
    sorted_settled (Opaque n Comparable) h = tt
    sorted_settled (Opaque n Appendable) h = tt
    sorted_settled (Opaque n Both) h = tt

    all_sorted : (ts : Grounds) → AreSimple c ts → AreSimple all_simple (all_settled c ts)
    all_sorted NoGrounds h = tt
    all_sorted (AndGround t ts) h = (sorted_settled t h.0, sort_settled t ∙ h.1, all_sorted ts h.2)

    row_sorted : (row : Row) → HasSimpleFields c row → HasSimpleFields all_simple (row_settled c row)
    row_sorted (Ends rest) h = tt
    row_sorted (Field label t row) h = (sorted_settled t h.0, sort_settled t ∙ h.1, row_sorted row h.2)

  below_simple : (x y : Sort) → IsAtMost x y → y ≡ Simple → x ≡ Simple
  below_simple Simple y h e = refl
  below_simple Signal Simple h e = absurd h
  below_simple Signal Signal h e = e

  -- what is simple has no part of sort signal
  mutual
    pub simple_stays : (t : Ground) → IsWellSorted c t → sort_of c t ≡ Simple → settled c t ≡ t
    simple_stays (Named name ts) h e = ap (Named name) (all_stay ts h)
    simple_stays (Function a r) h e =
        ap (λ (z : Ground). Function z (settled c r)) (simple_stays a h.0 (below_simple (sort_of c a) (sort_of c r) h.2 e))
        ∙ ap (Function a) (simple_stays r h.1 e)
    simple_stays (Tuple ts) h e = ap Tuple (all_stay ts h)
    simple_stays (Record row) h e = ap Record (row_stays row h)
    simple_stays (Opaque n Plain) h e = ap (λ (z : Sort). by_sort z (Opaque n Plain)) e
    simple_stays (Opaque n Comparable) h e = refl
    simple_stays (Opaque n Appendable) h e = refl
    simple_stays (Opaque n Both) h e = refl

    all_stay : (ts : Grounds) → AreSimple c ts → all_settled c ts ≡ ts
    all_stay NoGrounds h = refl
    all_stay (AndGround t ts) h =
        ap (λ (z : Ground). AndGround z (all_settled c ts)) (simple_stays t h.0 h.1) ∙ ap (AndGround t) (all_stay ts h.2)

    row_stays : (row : Row) → HasSimpleFields c row → row_settled c row ≡ row
    row_stays (Ends rest) h = refl
    row_stays (Field label t row) h =
        ap (λ (z : Ground). Field label z (row_settled c row)) (simple_stays t h.0 h.1) ∙ ap (Field label t) (row_stays row h.2)

  -- ---- the order of labels

  leads_settled : (label : List ℕ) (row : Row) → LeadsTo label row → LeadsTo label (row_settled c row)
  leads_settled label (Ends rest) h = tt
  leads_settled label (Field other t row) h = h

  order_here : (n : ℕ) (s : Sort) → InOrder (by_sort s (Opaque n Plain))
  order_here n Simple = tt
  order_here n Signal = (tt, tt)

  mutual
    pub order_settled : (t : Ground) → InOrder t → InOrder (settled c t)
    order_settled (Named name ts) h = all_ordered ts h
    order_settled (Function a r) h = (order_settled a h.0, order_settled r h.1)
    order_settled (Tuple ts) h = all_ordered ts h
    order_settled (Record row) h = row_ordered row h
    order_settled (Opaque n Plain) h = order_here n (c n)
    order_settled (Opaque n Comparable) h = tt
    order_settled (Opaque n Appendable) h = tt
    order_settled (Opaque n Both) h = tt

    all_ordered : (ts : Grounds) → AllInOrder ts → AllInOrder (all_settled c ts)
    all_ordered NoGrounds h = tt
    all_ordered (AndGround t ts) h = (order_settled t h.0, all_ordered ts h.1)

    row_ordered : (row : Row) → RowInOrder row → RowInOrder (row_settled c row)
    row_ordered (Ends rest) h = tt
    row_ordered (Field label t row) h = (order_settled t h.0, leads_settled label row h.1, row_ordered row h.2)

  -- ---- flags

  mutual
    comparable_settled : (t : Ground) → IsComparable t → IsComparable (settled c t)
    comparable_settled (Named name NoGrounds) h = h
    comparable_settled (Named name (AndGround t NoGrounds)) h = (h.0, comparable_settled t h.1)
    comparable_settled (Named name (AndGround t (AndGround u ts))) h = absurd h
    comparable_settled (Function a r) h = absurd h
    comparable_settled (Tuple NoGrounds) h = absurd h
    comparable_settled (Tuple (AndGround t ts)) h = (comparable_settled t h.0, all_comparable ts h.1)
    comparable_settled (Record row) h = absurd h
    comparable_settled (Opaque n Plain) h = absurd h
    comparable_settled (Opaque n Comparable) h = h
    comparable_settled (Opaque n Appendable) h = h
    comparable_settled (Opaque n Both) h = h

    all_comparable : (ts : Grounds) → AllComparable ts → AllComparable (all_settled c ts)
    all_comparable NoGrounds h = tt
    all_comparable (AndGround t ts) h = (comparable_settled t h.0, all_comparable ts h.1)

  appendable_settled : (t : Ground) → IsAppendable t → IsAppendable (settled c t)
  appendable_settled (Named name NoGrounds) h = h
  appendable_settled (Named name (AndGround t NoGrounds)) h = h
  appendable_settled (Named name (AndGround t (AndGround u ts))) h = absurd h
  appendable_settled (Function a r) h = absurd h
  appendable_settled (Tuple ts) h = absurd h
  appendable_settled (Record row) h = absurd h
  appendable_settled (Opaque n Plain) h = absurd h
  appendable_settled (Opaque n Comparable) h = h
  appendable_settled (Opaque n Appendable) h = h
  appendable_settled (Opaque n Both) h = h

  flag_settled : (f : Flag) (t : Ground) → HasFlag f t → HasFlag f (settled c t)
  flag_settled Plain t h = tt
  flag_settled Comparable t h = comparable_settled t h
  flag_settled Appendable t h = appendable_settled t h
  flag_settled Both t h = (comparable_settled t h.0, appendable_settled t h.1)

  int_settled : (b : Bool) (t : Ground) → IsIntWhere b t → IsIntWhere b (settled c t)
  int_settled true t h = ap (settled c) h
  int_settled false t h = tt

  allowed_settled : (x : List ℕ) (t : Ground) → Allows x t → Allows x (settled c t)
  allowed_settled x t h = (int_settled (begins (codes "number") x) t h.0, flag_settled (flag_of x) t h.1)

  -- ---- rows

  pub extended_settled : (label : List ℕ) (t : Ground) (row : Row) → row_settled c (extended label t row) ≡ extended label (settled c t) (row_settled c row)
  extended_settled label t (Ends rest) = refl
  extended_settled label t (Field other u row) = here (is_after label other) (extended_settled label t row)
    where
      here : (b : Bool) → row_settled c (extended label t row) ≡ extended label (settled c t) (row_settled c row)
          → row_settled c (if b then Field other u (extended label t row) else Field label t (Field other u row))
          ≡ (if b then Field other (settled c u) (extended label (settled c t) (row_settled c row)) else Field label (settled c t) (Field other (settled c u) (row_settled c row)))
      here true e = ap (Field other (settled c u)) e
      here false e = refl

  pub newest_settled : (label : List ℕ) (row : Row) (t : Ground) → newest label row ≡ Some t → newest label (row_settled c row) ≡ Some (settled c t)
  newest_settled label (Ends rest) t h = absurd cc
  newest_settled label (Field other u row) t h = here (bytes_eq label other) h (newest_settled label row t)
    where
      here : (b : Bool) → (if b then Some u else newest label row) ≡ Some t → (newest label row ≡ Some t → newest label (row_settled c row) ≡ Some (settled c t))
          → (if b then Some (settled c u) else newest label (row_settled c row)) ≡ Some (settled c t)
      here true e f = (let d : u ≡ t = cc in ap (λ (z : Ground). Some (settled c z)) d)
      here false e f = f e

  pub removed_settled : (label : List ℕ) (row left : Row) → removed label row ≡ Some left → removed label (row_settled c row) ≡ Some (row_settled c left)
  removed_settled label (Ends rest) left h = absurd cc
  removed_settled label (Field other u row) left h = here (bytes_eq label other) h (removed label row) refl (removed_settled label row)
    where
      back : (o : Option Row) → behind other u o ≡ Some left → ((q : Row) → o ≡ Some q → removed label (row_settled c row) ≡ Some (row_settled c q))
          → behind other (settled c u) (removed label (row_settled c row)) ≡ Some (row_settled c left)
      back None e f = absurd cc
      back (Some q) e f =
          let d : Field other u q ≡ left = cc in
          ap (behind other (settled c u)) (f q refl) ∙ ap (λ (z : Row). Some (row_settled c z)) d

      here : (b : Bool) → (if b then Some row else behind other u (removed label row)) ≡ Some left → (o : Option Row) → removed label row ≡ o
          → ((q : Row) → removed label row ≡ Some q → removed label (row_settled c row) ≡ Some (row_settled c q))
          → (if b then Some (row_settled c row) else behind other (settled c u) (removed label (row_settled c row))) ≡ Some (row_settled c left)
      here true e o i f = (let d : row ≡ left = cc in ap (λ (z : Row). Some (row_settled c z)) d)
      here false e o i f = back (removed label row) e f

  -- ---- instances

  pub record Agree (a b : Choice) : Type 0 where
    pub at : (x : List ℕ) → settled c (a x) ≡ b x

  row_here : (n : ℕ) (s : Sort) → Ends None ≡ row_of (by_sort s (Opaque n Plain))
  row_here n Simple = refl
  row_here n Signal = refl

  row_of_settled : (t : Ground) → row_settled c (row_of t) ≡ row_of (settled c t)
  row_of_settled (Named name ts) = refl
  row_of_settled (Function a r) = refl
  row_of_settled (Tuple ts) = refl
  row_of_settled (Record row) = refl
  row_of_settled (Opaque n Plain) = row_here n (c n)
  row_of_settled (Opaque n Comparable) = refl
  row_of_settled (Opaque n Appendable) = refl
  row_of_settled (Opaque n Both) = refl

  rest_settled : (a b : Choice) (o : Option (List ℕ)) → Agree a b → row_settled c (rest_at a o) ≡ rest_at b o
  rest_settled a b None k = refl
  rest_settled a b (Some x) k = row_of_settled (a x) ∙ ap row_of (k.at x)

  mutual
    instance_settled : (w : Written) (a b : Choice) → Agree a b → settled c (instance_at a w) ≡ instance_at b w
    instance_settled (Variable x) a b k = k.at x
    instance_settled (NamedType name ws) a b k = ap (Named name) (instances_settled ws a b k)
    instance_settled (Arrow v w) a b k =
        ap (λ (z : Ground). Function z (settled c (instance_at a w))) (instance_settled v a b k)
        ∙ ap (Function (instance_at b v)) (instance_settled w a b k)
    instance_settled (TupleType ws) a b k = ap Tuple (instances_settled ws a b k)
    instance_settled (FieldsType o fs) a b k =
        ap Record (fields_settled fs a b k (rest_at a o) ∙ ap (fields_at b fs) (rest_settled a b o k))

    instances_settled : (ws : Writtens) (a b : Choice) → Agree a b → all_settled c (instances_at a ws) ≡ instances_at b ws
    instances_settled NoWrittens a b k = refl
    instances_settled (AndWritten w ws) a b k =
        ap (λ (z : Ground). AndGround z (all_settled c (instances_at a ws))) (instance_settled w a b k)
        ∙ ap (AndGround (instance_at b w)) (instances_settled ws a b k)

    fields_settled : (fs : WrittenFields) (a b : Choice) → Agree a b → (row : Row) → row_settled c (fields_at a fs row) ≡ fields_at b fs (row_settled c row)
    fields_settled NoWrittenFields a b k row = refl
    fields_settled (AndWrittenField label w fs) a b k row =
        extended_settled label (instance_at a w) (fields_at a fs row)
        ∙ (ap (λ (z : Ground). extended label z (row_settled c (fields_at a fs row))) (instance_settled w a b k)
        ∙ ap (extended label (instance_at b w)) (fields_settled fs a b k row))

  record_settled : (t : Ground) → IsRecord t → IsRecord (settled c t)
  record_settled (Record row) h = tt
  record_settled (Named name ts) h = absurd h
  record_settled (Function a r) h = absurd h
  record_settled (Tuple ts) h = absurd h
  record_settled (Opaque n f) h = absurd h

  record_where : (a : Choice) (o : Option (List ℕ)) → IsRecordWhere a o → IsRecordWhere (λ x. settled c (a x)) o
  record_where a None h = tt
  record_where a (Some x) h = record_settled (a x) h

  mutual
    respects_settled : (w : Written) (a : Choice) → Respects a w → Respects (λ x. settled c (a x)) w
    respects_settled (Variable x) a h = allowed_settled x (a x) h
    respects_settled (NamedType name ws) a h = all_respect ws a h
    respects_settled (Arrow v w) a h = (respects_settled v a h.0, respects_settled w a h.1)
    respects_settled (TupleType ws) a h = all_respect ws a h
    respects_settled (FieldsType o fs) a h = (record_where a o h.0, fields_respect fs a h.1)

    all_respect : (ws : Writtens) (a : Choice) → AllRespect a ws → AllRespect (λ x. settled c (a x)) ws
    all_respect NoWrittens a h = tt
    all_respect (AndWritten w ws) a h = (respects_settled w a h.0, all_respect ws a h.1)

    fields_respect : (fs : WrittenFields) (a : Choice) → FieldsRespect a fs → FieldsRespect (λ x. settled c (a x)) fs
    fields_respect NoWrittenFields a h = tt
    fields_respect (AndWrittenField label w fs) a h = (respects_settled w a h.0, fields_respect fs a h.1)

  pub is_instance_settled : (w : Written) (t : Ground) → IsInstance w t → IsInstance w (settled c t)
  is_instance_settled w t h = (
    λ x. settled c (h.0 x),
    respects_settled w h.0 h.1,
    ap (settled c) h.2 ∙ instance_settled w h.0 (λ x. settled c (h.0 x)) (record { at = λ x. refl }),
  )

  -- ---- constructors

  all_allowed : (ps : List (List ℕ)) (ts : Grounds) → AllAllowed ps ts → AllAllowed ps (all_settled c ts)
  all_allowed [] NoGrounds h = tt
  all_allowed [] (AndGround t ts) h = absurd h
  all_allowed (p ∷ ps) NoGrounds h = absurd h
  all_allowed (p ∷ ps) (AndGround t ts) h = (allowed_settled p t h.0, all_allowed ps ts h.1)

  arguments_settled : (ps : List (List ℕ)) (ts : Grounds) (x : List ℕ) → settled c (arguments_for ps ts x) ≡ arguments_for ps (all_settled c ts) x
  arguments_settled [] NoGrounds x = refl
  arguments_settled [] (AndGround t ts) x = refl
  arguments_settled (p ∷ ps) NoGrounds x = refl
  arguments_settled (p ∷ ps) (AndGround t ts) x = here (bytes_eq p x) (arguments_settled ps ts x)
    where
      here : (b : Bool) → settled c (arguments_for ps ts x) ≡ arguments_for ps (all_settled c ts) x
          → settled c (if b then t else arguments_for ps ts x) ≡ (if b then settled c t else arguments_for ps (all_settled c ts) x)
      here true e = refl
      here false e = e

  types_settled : (ws : List Written) (a b : Choice) → Agree a b → all_settled c (types_at a ws) ≡ types_at b ws
  types_settled [] a b k = refl
  types_settled (w ∷ ws) a b k =
      ap (λ (z : Ground). AndGround z (all_settled c (types_at a ws))) (instance_settled w a b k)
      ∙ ap (AndGround (instance_at b w)) (types_settled ws a b k)

  parts_settled : (name : List ℕ) (ks : List (List ℕ × List Written)) (a b : Choice) (ps : Grounds) → Agree a b → parts_among name a ks ≡ Some ps → parts_among name b ks ≡ Some (all_settled c ps)
  parts_settled name [] a b ps k h = absurd cc
  parts_settled name (d ∷ ks) a b ps k h = here (bytes_eq d.0 name) h (parts_settled name ks a b ps k)
    where
      here : (z : Bool) → (if z then Some (types_at a d.1) else parts_among name a ks) ≡ Some ps
          → (parts_among name a ks ≡ Some ps → parts_among name b ks ≡ Some (all_settled c ps))
          → (if z then Some (types_at b d.1) else parts_among name b ks) ≡ Some (all_settled c ps)
      here true e f =
          let i : types_at a d.1 ≡ ps = cc in
          ap Some (sym (types_settled d.1 a b k) ∙ ap (all_settled c) i)
      here false e f = f e

  each_settled : (ws : List Written) (a b : Choice) → Agree a b → EachRespects a ws → EachRespects b ws
  each_settled [] a b k h = tt
  each_settled (w ∷ ws) a b k h = (subst (λ (f : Choice). Respects f w) (fun_ext k.at) (respects_settled w a h.0), each_settled ws a b k h.1)

  among_settled : (name : List ℕ) (ks : List (List ℕ × List Written)) (a b : Choice) → Agree a b → RespectsAmong name a ks → RespectsAmong name b ks
  among_settled name [] a b k h = tt
  among_settled name (d ∷ ks) a b k h = here (bytes_eq d.0 name) h (among_settled name ks a b k)
    where
      here : (z : Bool) → EitherOf z (EachRespects a d.1) (RespectsAmong name a ks) → (RespectsAmong name a ks → RespectsAmong name b ks) → EitherOf z (EachRespects b d.1) (RespectsAmong name b ks)
      here true r f = each_settled d.1 a b k r
      here false r f = f r

  pub makes_settled : (us : List Union) (u : Option (List ℕ)) (k name : List ℕ) (ts ps : Grounds) → Makes us u k name ts ps → Makes us u k name (all_settled c ts) (all_settled c ps)
  makes_settled us u k name ts ps m =
      let xs = parameters_in (union_named name us) in
      record {
        belongs = m.belongs;
        allowed = all_allowed xs ts m.allowed;
        respected = among_settled k (constructors_in (union_named name us)) (arguments_for xs ts) (arguments_for xs (all_settled c ts))
            (record { at = arguments_settled xs ts }) m.respected;
        given = parts_settled k (constructors_in (union_named name us)) (arguments_for xs ts) (arguments_for xs (all_settled c ts)) ps
            (record { at = arguments_settled xs ts }) m.given;
      }

  count_settled : (ts : Grounds) → count_of (all_settled c ts) ≡ count_of ts
  count_settled NoGrounds = refl
  count_settled (AndGround t ts) = (let e = count_settled ts in cc)

  arrows_settled : (ts : Grounds) (r : Ground) → settled c (arrows ts r) ≡ arrows (all_settled c ts) (settled c r)
  arrows_settled NoGrounds r = refl
  arrows_settled (AndGround t ts) r = ap (Function (settled c t)) (arrows_settled ts r)

  where_settled : (b : Bool) (us : List Union) (u : Option (List ℕ)) (k : List ℕ) (n : ℕ) (t : Ground) → GivesWhere b us u k n t → GivesWhere b us u k n (settled c t)
  where_settled true us u k n t h = (h.0, settled c h.1, ap (settled c) h.2)
  where_settled false us u k n t h = (
    h.0,
    all_settled c h.1,
    all_settled c h.2,
    makes_settled us u k h.0 h.1 h.2 h.3,
    count_settled h.2 ∙ h.4,
    ap (settled c) h.5 ∙ arrows_settled h.2 (Named h.0 h.1),
  )

  pub constructor_settled : (us : List Union) (u : Option (List ℕ)) (k : List ℕ) (n : ℕ) (t : Ground) → ConstructorGives us u k n t → ConstructorGives us u k n (settled c t)
  constructor_settled us u k n t h = where_settled (bytes_eq k (codes "::")) us u k n t h

  -- ---- patterns

  pub literal_settled : (v : TermLiteral) → settled c (literal_type v) ≡ literal_type v
  literal_settled (literal.Int n) = refl
  literal_settled (literal.Char n) = refl
  literal_settled (literal.Text bs) = refl
  literal_settled literal.Unit = refl

  bound_append : (bs cs : Bound) → bound_settled c (bs ++ cs) ≡ bound_settled c bs ++ bound_settled c cs
  bound_append [] cs = refl
  bound_append (b ∷ bs) cs = ap (λ (z : Bound). (b.0, settled c b.1) ∷ z) (bound_append bs cs)

  labels_settled : (ls : List (List ℕ × ℕ)) (row : Row) (b : Bound) → LabelsFit ls row b → LabelsFit ls (row_settled c row) (bound_settled c b)
  labels_settled [] row b h = ap (bound_settled c) h
  labels_settled (l ∷ ls) row b h =
      (settled c h.0, bound_settled c h.1, newest_settled l.0 row h.0 h.2, labels_settled ls row h.1 h.3, ap (bound_settled c) h.4)

  mutual
    pub fits_settled : (us : List Union) (p : CorePattern) (t : Ground) (b : Bound) → Fits us p t b → Fits us p (settled c t) (bound_settled c b)
    fits_settled us CorePattern.Anything t b h = ap (bound_settled c) h
    fits_settled us (CorePattern.Local n) t b h = ap (bound_settled c) h
    fits_settled us (CorePattern.Literal v) t b h = (ap (settled c) h.0 ∙ literal_settled v, ap (bound_settled c) h.1)
    fits_settled us (CorePattern.Made u k ps) t b h = (
      h.0,
      all_settled c h.1,
      all_settled c h.2,
      ap (settled c) h.3,
      makes_settled us u k h.0 h.1 h.2 h.4,
      all_fit_settled us ps h.2 b h.5,
    )
    fits_settled us CorePattern.Nil t b h = (settled c h.0, ap (settled c) h.1, ap (bound_settled c) h.2)
    fits_settled us (CorePattern.Cons p q) t b h = (
      settled c h.0,
      bound_settled c h.1,
      bound_settled c h.2,
      ap (settled c) h.3,
      fits_settled us p h.0 h.1 h.4,
      fits_settled us q (list_of h.0) h.2 h.5,
      ap (bound_settled c) h.6 ∙ bound_append h.1 h.2,
    )
    fits_settled us (CorePattern.Tuple ps) t b h = (all_settled c h.0, ap (settled c) h.1, all_fit_settled us ps h.0 b h.2)
    fits_settled us (CorePattern.Fields ls) t b h = (row_settled c h.0, ap (settled c) h.1, labels_settled ls h.0 b h.2)
    fits_settled us (CorePattern.Named p n) t b h =
        (bound_settled c h.0, fits_settled us p t h.0 h.1, ap (bound_settled c) h.2 ∙ bound_append h.0 ((n, t) ∷ []))

    all_fit_settled : (us : List Union) (ps : CorePatterns) (ts : Grounds) (b : Bound) → AllFit us ps ts b → AllFit us ps (all_settled c ts) (bound_settled c b)
    all_fit_settled us NoCorePatterns NoGrounds b h = ap (bound_settled c) h
    all_fit_settled us NoCorePatterns (AndGround t ts) b h = h
    all_fit_settled us (AndCorePattern p ps) NoGrounds b h = h
    all_fit_settled us (AndCorePattern p ps) (AndGround t ts) b h = (
      bound_settled c h.0,
      bound_settled c h.1,
      fits_settled us p t h.0 h.2,
      all_fit_settled us ps ts h.1 h.3,
      ap (bound_settled c) h.4 ∙ bound_append h.0 h.1,
    )
