-- What natives reply to values of their argument types, family by family.
use Rattle.std.proofs.Common.{◌≡◌, ℕ, ℤ, pos, negsuc, Bool, true, false, ◌&&◌, ◌++◌, Option, Some, None, List, [], ◌∷◌, refl, sym, ap, ◌∙◌, subst, ◌⊎◌, inl, inr}
use Rattle.std.specs.Prelude.{codes, if◌then◌else◌, nat_le, encode_utf8}
use Rattle.std.specs.Str.{all_scalars}
use Rattle.elm_base.specs.declared.term.RunFault.{RunFault}
use Rattle.elm_base.specs.declared.term.RunFault.TheVariants as fault
use Rattle.elm_typing.specs.Ground.{Ground, NoGrounds, AndGround}
use Rattle.elm_typing.specs.Flags.{IsAppendable, IsComparable}
use Rattle.elm_typing.specs.Names.{list_of}
use Rattle.elm_typing.specs.Spelling.{int, char, string, bool, result_of}
use Rattle.elm_meaning.specs.declared.compared.Outcome.{Outcome}
use Rattle.elm_meaning.specs.declared.compared.Outcome.TheVariants.{Less, Equal, Greater, Different, FunctionMet, OutOfFuel}
use Rattle.elm_meaning.specs.declared.compared.Comparison.TheVariants.{Equality, Order}
use Rattle.elm_meaning.specs.Values.{Value, Int, Char, Text, Nil, Cons, Made, NoValues, AndValue}
use Rattle.elm_meaning.specs.Answers.{Answer, Gives, Faults, named, truth}
use Rattle.elm_meaning.specs.Arithmetic.{fits, number, divided}
use Rattle.elm_meaning.specs.Comparisons.{equality, order}
use Rattle.elm_meaning.specs.PairsVisited.{visited}
use Rattle.elm_meaning.specs.Texts.{join, join_lists, is_list, begins_list, in_front, char_of, char_list, list_bytes, with_char, text_or_none, from_list, read_number, no_number}
use Rattle.elm_meaning.specs.Layout.{Grid, laid_out, element_of, grids_of, with_grid, grid_of}
use Rattle.typing_rules.specs.Unions.{parameters_in, union_named, AllAllowed, parts_of, RespectsAmong, arguments_for, constructors_in}
use Rattle.typing_rules.specs.Library.{element, library_unions}
use Rattle.typing_rules.specs.Worlds.{World, IsProper}
use Rattle.typing_rules.specs.TermTypes.{ValueHas}
use Rattle.typing_sound.specs.Safe.{HasLibrary, GivesTyped}
use Rattle.typing_sound.proofs.Canonical.{char_value, text_value, list_value, cells_value, opaque_value}
use Rattle.typing_sound.proofs.Comparing.{IsFound, IsOrdered, equality_found, order_found}

module _ (w : World) (l : HasLibrary w) where
  where_fine : (b : Bool) (t : Ground) (a : Answer) (x : RunFault) → GivesTyped w t a → GivesTyped w t (if b then a else Faults x)
  where_fine true t a x h = h
  where_fine false t a x h = tt

  fault_or : (b : Bool) (t : Ground) (a : Answer) (x : RunFault) → GivesTyped w t a → GivesTyped w t (if b then Faults x else a)
  fault_or true t a x h = tt
  fault_or false t a x h = h

  -- arithmetic

  pub number_fine : (z : ℤ) → GivesTyped w int (number z)
  number_fine z = where_fine (fits z) int (Gives (Int z)) fault.IntRange refl

  pub divided_fine : (b : ℤ) (a : Answer) → GivesTyped w int a → GivesTyped w int (divided b a)
  divided_fine b a h = fault_or _ int a fault.DivideByZero h

  -- constructors without arguments, and those of Result

  pub enumerated : (n k : List ℕ) → parts_of (library_unions ++ l.own) n NoGrounds k ≡ Some NoGrounds → AllAllowed (parameters_in (union_named n (library_unions ++ l.own))) NoGrounds → RespectsAmong k (arguments_for (parameters_in (union_named n (library_unions ++ l.own))) NoGrounds) (constructors_in (union_named n (library_unions ++ l.own))) → ValueHas w (named k) (Ground.Named n NoGrounds)
  enumerated n k g a r = (
    Ground.Named n NoGrounds,
    (
      n,
      NoGrounds,
      NoGrounds,
      record { belongs = tt; allowed = subst (λ z. AllAllowed (parameters_in (union_named n z)) NoGrounds) (sym l.first) a; respected = subst (λ z. RespectsAmong k (arguments_for (parameters_in (union_named n z)) NoGrounds) (constructors_in (union_named n z))) (sym l.first) r; given = subst (λ z. parts_of z n NoGrounds k ≡ Some NoGrounds) (sym l.first) g },
      refl,
      refl,
    ),
    record { sorted = tt; ordered = tt },
    refl,
  )

  pub truth_has : (b : Bool) → ValueHas w (truth b) bool
  truth_has true = enumerated (codes "Basics.Bool") (codes "True") refl tt tt
  truth_has false = enumerated (codes "Basics.Bool") (codes "False") refl tt tt

  abbrev order_type : Ground
  order_type = Ground.Named (codes "Basics.Order") NoGrounds

  pub less_has : ValueHas w (named (codes "LT")) order_type
  less_has = enumerated (codes "Basics.Order") (codes "LT") refl tt tt

  pub same_has : ValueHas w (named (codes "EQ")) order_type
  same_has = enumerated (codes "Basics.Order") (codes "EQ") refl tt tt

  pub greater_has : ValueHas w (named (codes "GT")) order_type
  greater_has = enumerated (codes "Basics.Order") (codes "GT") refl tt tt

  result_has : (k : List ℕ) (v : Value) (t : Ground) → parts_of (library_unions ++ l.own) (codes "Result.Result") (AndGround string (AndGround int NoGrounds)) k ≡ Some (AndGround t NoGrounds) → RespectsAmong k (arguments_for (parameters_in (union_named (codes "Result.Result") (library_unions ++ l.own))) (AndGround string (AndGround int NoGrounds))) (constructors_in (union_named (codes "Result.Result") (library_unions ++ l.own))) → ValueHas w v t → (t ≡ string) ⊎ (t ≡ int) → ValueHas w (Made k (AndValue v NoValues)) (result_of string int)
  result_has k v t g r h d = (
    Ground.Function t (result_of string int),
    (
      codes "Result.Result",
      AndGround string (AndGround int NoGrounds),
      AndGround t NoGrounds,
      record { belongs = tt; allowed = subst (λ z. AllAllowed (parameters_in (union_named (codes "Result.Result") z)) (AndGround string (AndGround int NoGrounds))) (sym l.first) ((tt, tt), ((tt, tt), tt)); respected = subst (λ z. RespectsAmong k (arguments_for (parameters_in (union_named (codes "Result.Result") z)) (AndGround string (AndGround int NoGrounds))) (constructors_in (union_named (codes "Result.Result") z))) (sym l.first) r; given = subst (λ z. parts_of z (codes "Result.Result") (AndGround string (AndGround int NoGrounds)) k ≡ Some (AndGround t NoGrounds)) (sym l.first) g },
      refl,
      refl,
    ),
    proper t d,
    (h, refl),
  )
    where
      proper : (t : Ground) → (t ≡ string) ⊎ (t ≡ int) → IsProper w (Ground.Function t (result_of string int))
      proper t (inl e) = subst (λ z. IsProper w (Ground.Function z (result_of string int))) (sym e) (record { sorted = (tt, (tt, refl, (tt, refl, tt)), tt); ordered = (tt, (tt, (tt, tt))) })
      proper t (inr e) = subst (λ z. IsProper w (Ground.Function z (result_of string int))) (sym e) (record { sorted = (tt, (tt, refl, (tt, refl, tt)), tt); ordered = (tt, (tt, (tt, tt))) })

  -- comparisons

  equality_fine : (same different : Bool) (o : Outcome) → IsFound o → GivesTyped w bool (equality same different o)
  equality_fine same different Less h = absurd h
  equality_fine same different Equal h = truth_has same
  equality_fine same different Greater h = absurd h
  equality_fine same different Different h = truth_has different
  equality_fine same different FunctionMet h = tt
  equality_fine same different OutOfFuel h = absurd h

  pub equal_fine : (same different : Bool) (v x : Value) → GivesTyped w bool (equality same different (visited Equality v x).outcome)
  equal_fine same different v x = equality_fine same different (visited Equality v x).outcome (equality_found v x)

  ordered_fine : (t : Ground) (a b c : Value) (o : Outcome) → ValueHas w a t → ValueHas w b t → ValueHas w c t → IsOrdered o → GivesTyped w t (order a b c o)
  ordered_fine t a b c Less p q r h = p
  ordered_fine t a b c Equal p q r h = q
  ordered_fine t a b c Greater p q r h = r
  ordered_fine t a b c Different p q r h = absurd h
  ordered_fine t a b c FunctionMet p q r h = tt
  ordered_fine t a b c OutOfFuel p q r h = absurd h

  pub order_fine : (t u : Ground) (a b c v x : Value) → ValueHas w a t → ValueHas w b t → ValueHas w c t → IsComparable u → ValueHas w v u → ValueHas w x u → GivesTyped w t (order a b c (visited Order v x).outcome)
  order_fine t u a b c v x p q r k h i = ordered_fine t a b c (visited Order v x).outcome p q r (order_found w l v x u k h i)

  -- lists and texts

  list_ends : (v : Value) (t : Ground) → ValueHas w v (list_of t) → is_list v ≡ true
  list_ends Nil t h = refl
  list_ends (Cons v vs) t h = list_ends vs t (list_value w l (Cons v vs) t h).1
  list_ends v t h = absurd (list_value w l v t h)

  list_begins : (v : Value) (t : Ground) → ValueHas w v (list_of t) → begins_list v ≡ true
  list_begins Nil t h = refl
  list_begins (Cons v vs) t h = refl
  list_begins v t h = absurd (list_value w l v t h)

  front_has : (v x : Value) (t : Ground) → ValueHas w v (list_of t) → ValueHas w x (list_of t) → ValueHas w (in_front v x) (list_of t)
  front_has Nil x t h k = k
  front_has (Cons v vs) x t h k = (let i = list_value w l (Cons v vs) t h in (t, refl, i.0, front_has vs x t i.1 k))
  front_has v x t h k = absurd (list_value w l v t h)

  lists_joined : (b : Bool) (v x : Value) (t : Ground) → b ≡ true → ValueHas w v (list_of t) → ValueHas w x (list_of t) → GivesTyped w (list_of t) (join_lists b v x).answer
  lists_joined true v x t e h k = front_has v x t h k
  lists_joined false v x t e h k = absurd cc

  both_true : (a b : Bool) → a ≡ true → b ≡ true → (a && b) ≡ true
  both_true a b p q = ap (λ z. z && b) p ∙ q

  join_begun : (v x : Value) (t : Ground) → ValueHas w v (list_of t) → ValueHas w x (list_of t) → GivesTyped w (list_of t) (join (v ∷ x ∷ [])).answer
  join_begun Nil x t h k = lists_joined (is_list Nil && begins_list x) Nil x t (both_true _ _ (list_ends Nil t h) (list_begins x t k)) h k
  join_begun (Cons v vs) x t h k = lists_joined (is_list (Cons v vs) && begins_list x) (Cons v vs) x t (both_true _ _ (list_ends (Cons v vs) t h) (list_begins x t k)) h k
  join_begun v x t h k = absurd (list_value w l v t h)

  texts_joined : (v x : Value) → ValueHas w v string → ValueHas w x string → GivesTyped w string (join (v ∷ x ∷ [])).answer
  texts_joined v x h k =
      let p = text_value w l v h in
      let q = text_value w l x k in
      subst (λ z. GivesTyped w string (join (z ∷ x ∷ [])).answer) (sym p.1) (subst (λ z. GivesTyped w string (join (Text p.0 ∷ z ∷ [])).answer) (sym q.1) refl)

  pub join_fine : (v x : Value) (t : Ground) → IsAppendable t → ValueHas w v t → ValueHas w x t → GivesTyped w t (join (v ∷ x ∷ [])).answer
  join_fine v x (Ground.Named n NoGrounds) a h k =
      subst (λ z. GivesTyped w (Ground.Named z NoGrounds) (join (v ∷ x ∷ [])).answer) (sym a)
      (texts_joined v x (subst (λ z. ValueHas w v (Ground.Named z NoGrounds)) a h) (subst (λ z. ValueHas w x (Ground.Named z NoGrounds)) a k))
  join_fine v x (Ground.Named n (AndGround t NoGrounds)) a h k =
      subst (λ z. GivesTyped w (Ground.Named z (AndGround t NoGrounds)) (join (v ∷ x ∷ [])).answer) (sym a)
      (join_begun v x t (subst (λ z. ValueHas w v (Ground.Named z (AndGround t NoGrounds))) a h) (subst (λ z. ValueHas w x (Ground.Named z (AndGround t NoGrounds))) a k))
  join_fine v x (Ground.Named n (AndGround t (AndGround u us))) a h k = absurd a
  join_fine v x (Ground.Opaque n f) a h k = absurd (opaque_value w l v n f h)
  join_fine v x (Ground.Function t u) a h k = absurd a
  join_fine v x (Ground.Tuple ts) a h k = absurd a
  join_fine v x (Ground.Record r) a h k = absurd a

  pub char_fine : (z : ℤ) → GivesTyped w char (char_of z)
  char_fine (pos n) = where_fine (all_scalars (n ∷ [])) char (Gives (Char n)) fault.CharRange refl
  char_fine (negsuc n) = tt

  pub chars_have : (cs : List ℕ) → ValueHas w (char_list cs) (list_of char)
  chars_have [] = (char, refl)
  chars_have (c ∷ cs) = (char, refl, refl, chars_have cs)

  bytes_there : (v : Value) → ValueHas w v (list_of char) → (bs : List ℕ) × (list_bytes v ≡ Some bs)
  bytes_there Nil h = ([], refl)
  bytes_there (Cons v vs) h =
      let i = list_value w l (Cons v vs) char h in
      let p = char_value w l v i.0 in
      let r = bytes_there vs i.1 in
      subst (λ z. (bs : List ℕ) × (list_bytes (Cons z vs) ≡ Some bs)) (sym p.1) (encode_utf8 p.0 ++ r.0, ap (with_char p.0) r.1)
  bytes_there v h = absurd (list_value w l v char h)

  pub from_list_fine : (v : Value) → ValueHas w v (list_of char) → GivesTyped w string (from_list (v ∷ [])).answer
  from_list_fine v h = (let r = bytes_there v h in subst (λ z. GivesTyped w string (text_or_none z)) (sym r.1) refl)

  no_number_has : (bs : List ℕ) → ValueHas w (no_number bs) (result_of string int)
  no_number_has bs = result_has (codes "Err") (Text (codes "could not convert string '" ++ bs ++ codes "' to an Int")) string refl ((tt, tt), tt) refl (inl refl)

  some_number_has : (z : ℤ) → ValueHas w (Made (codes "Ok") (AndValue (Int z) NoValues)) (result_of string int)
  some_number_has z = result_has (codes "Ok") (Int z) int refl ((tt, tt), tt) refl (inr refl)

  pub read_fine : (bs : List ℕ) (o : Option ℤ) → ValueHas w (read_number bs o) (result_of string int)
  read_fine bs None = no_number_has bs
  read_fine bs (Some z) = chosen (fits z)
    where
      chosen : (b : Bool) → ValueHas w (if b then Made (codes "Ok") (AndValue (Int z) NoValues) else no_number bs) (result_of string int)
      chosen true = some_number_has z
      chosen false = no_number_has bs

  -- Elements

  pub laid_fine : (g : Grid) → GivesTyped w element (laid_out g)
  laid_fine g = where_fine (nat_le g.width 1000 && nat_le g.height 1000) element (Gives (element_of g)) fault.ElementTooLarge refl

  pub grids_there : (v : Value) → ValueHas w v (list_of element) → (gs : List Grid) × (grids_of v ≡ Some gs)
  grids_there Nil h = ([], refl)
  grids_there (Cons v vs) h =
      let i = list_value w l (Cons v vs) element h in
      let p = cells_value w l v i.0 in
      let r = grids_there vs i.1 in
      subst (λ z. (gs : List Grid) × (grids_of (Cons z vs) ≡ Some gs)) (sym p.3) (grid_of p.0 p.1 p.2 ∷ r.0, ap (with_grid (grid_of p.0 p.1 p.2)) r.1)
  grids_there v h = absurd (list_value w l v element h)
