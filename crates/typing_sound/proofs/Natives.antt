-- Each native of the table is safe.
use Rattle.std.proofs.Common.{◌≡◌, ℕ, zero, suc, ◌+◌, ℤ, Bool, true, false, Option, Some, List, [], ◌∷◌, length, reverse, refl, sym, subst, arith}
use Rattle.std.specs.Prelude.{codes, slice_get, neg_ℤ, pos, ◌+ℤ◌, ◌-ℤ◌, ◌*ℤ◌}
use Rattle.std.specs.Int.RustNames.{int_div, int_rem}
use Rattle.elm_base.specs.declared.native.TheConstants.{CONSTANT, MAP, MAP2, MAP3, MAP4, MAP5, FOLDP, MERGE, FILTER, FILTER_MAP, DROP_REPEATS, SAMPLE_ON, ASYNC}
use Rattle.elm_base.specs.declared.term.NoteKind.{NoteKind}
use Rattle.elm_base.specs.declared.term.NoteKind.TheVariants as kind
use Rattle.elm_typing.specs.Ground.{Ground}
use Rattle.elm_typing.specs.Names.{list_of as list_type, signal_of}
use Rattle.elm_typing.specs.Spelling.{int, char, string, bool}
use Rattle.elm_meaning.specs.Values.{Value, Values, Int, Char, Text, Cells, Signal, NoValues, AndValue}
use Rattle.elm_meaning.specs.Answers.{Answer, Reply, named, truth}
use Rattle.elm_meaning.specs.Arithmetic.{of_numbers, add, subtract, multiply, divide, modulo, remainder, negate, with_sign_of}
use Rattle.elm_meaning.specs.Comparisons.{equalities, orders}
use Rattle.elm_meaning.specs.Equations as signal
use Rattle.elm_meaning.specs.Equations.{Equation}
use Rattle.elm_meaning.specs.Evaluation.{number_of, list_of}
use Rattle.elm_meaning.specs.Layout.{Grid, text, text_grid, spacer, blank, size, flow, flow_of, flowed, laid_out_after, all_above, all_beside, container, framed, half, grid_of, width_of, height_of, grids_of}
use Rattle.elm_meaning.specs.NativeTable.{Native, Replies, MakesNode, natives, native_at}
use Rattle.elm_meaning.specs.Texts.{text_chars, join, to_string, to_code, from_code, string_length, string_reverse, to_list, from_list, to_int, record_note, crash, numeral}
use Rattle.typing_rules.specs.WrittenTypes.{Written, Choice, instance_at}
use Rattle.typing_rules.specs.Library.{signatures, element, from, int_, bool_, char_, string_, order_, list_, maybe_, result_, signal_, element_, direction_, position_, variable, a_, b_, c_, d_, e_}
use Rattle.typing_rules.specs.Worlds.{World}
use Rattle.typing_rules.specs.TermTypes.{ValueHas, AreTaken}
use Rattle.typing_sound.specs.Safe.{HasLibrary, GivesTyped, MakesTyped, IsSafeNative}
use Rattle.typing_sound.proofs.Canonical.{direction, position, int_value, char_value, text_value, cells_value, signal_value, direction_value, position_value}
use Rattle.typing_sound.proofs.Replies.{number_fine, divided_fine, enumerated, truth_has, less_has, same_has, greater_has, equal_fine, order_fine, join_fine, char_fine, chars_have, from_list_fine, read_fine, laid_fine, grids_there}

module _ (w : World) (l : HasLibrary w) where
  -- arguments one by one

  one_more : (vs : Values) (a r t : Ground) (n : ℕ) (Q : Values → Type 0) → number_of vs ≡ suc n → AreTaken w vs (Ground.Function a r) t → ((v : Value) (more : Values) → number_of more ≡ n → ValueHas w v a → AreTaken w more r t → Q (AndValue v more)) → Q vs
  one_more NoValues a r t n Q e h f = absurd cc
  one_more (AndValue v more) a r t n Q e h f = (let d : number_of more ≡ n = cc in f v more d h.0 h.1)

  nothing_more : (vs : Values) (r t : Ground) (Q : Ground → Values → Type 0) → number_of vs ≡ 0 → AreTaken w vs r t → Q r NoValues → Q t vs
  nothing_more NoValues r t Q e h q = subst (λ z. Q z NoValues) (sym h) q
  nothing_more (AndValue v more) r t Q e h q = absurd cc

  with_1 : (a r t : Ground) (vs : Values) (Q : Ground → Values → Type 0) → number_of vs ≡ 1 → AreTaken w vs (Ground.Function a r) t → ((x0 : Value) → ValueHas w x0 a → Q r (AndValue x0 NoValues)) → Q t vs
  with_1 a r t vs Q k h f =
      one_more vs a r t 0 (λ z. Q t z) k h (λ x0 m0 k0 h0 n0. nothing_more m0 r t (λ z y. Q z (AndValue x0 y)) k0 n0 (f x0 h0))

  with_2 : (a b r t : Ground) (vs : Values) (Q : Ground → Values → Type 0) → number_of vs ≡ 2 → AreTaken w vs (Ground.Function a (Ground.Function b r)) t → ((x0 x1 : Value) → ValueHas w x0 a → ValueHas w x1 b → Q r (AndValue x0 (AndValue x1 NoValues))) → Q t vs
  with_2 a b r t vs Q k h f =
      one_more vs a (Ground.Function b r) t 1 (λ z. Q t z) k h (λ x0 m0 k0 h0 n0. one_more m0 b r t 0 (λ z. Q t (AndValue x0 z)) k0 n0 (λ x1 m1 k1 h1 n1. nothing_more m1 r t (λ z y. Q z (AndValue x0 (AndValue x1 y))) k1 n1 (f x0 x1 h0 h1)))

  with_3 : (a b c r t : Ground) (vs : Values) (Q : Ground → Values → Type 0) → number_of vs ≡ 3 → AreTaken w vs (Ground.Function a (Ground.Function b (Ground.Function c r))) t → ((x0 x1 x2 : Value) → ValueHas w x0 a → ValueHas w x1 b → ValueHas w x2 c → Q r (AndValue x0 (AndValue x1 (AndValue x2 NoValues)))) → Q t vs
  with_3 a b c r t vs Q k h f =
      one_more vs a (Ground.Function b (Ground.Function c r)) t 2 (λ z. Q t z) k h (λ x0 m0 k0 h0 n0. one_more m0 b (Ground.Function c r) t 1 (λ z. Q t (AndValue x0 z)) k0 n0 (λ x1 m1 k1 h1 n1. one_more m1 c r t 0 (λ z. Q t (AndValue x0 (AndValue x1 z))) k1 n1 (λ x2 m2 k2 h2 n2. nothing_more m2 r t (λ z y. Q z (AndValue x0 (AndValue x1 (AndValue x2 y)))) k2 n2 (f x0 x1 x2 h0 h1 h2))))

  with_4 : (a b c d r t : Ground) (vs : Values) (Q : Ground → Values → Type 0) → number_of vs ≡ 4 → AreTaken w vs (Ground.Function a (Ground.Function b (Ground.Function c (Ground.Function d r)))) t → ((x0 x1 x2 x3 : Value) → ValueHas w x0 a → ValueHas w x1 b → ValueHas w x2 c → ValueHas w x3 d → Q r (AndValue x0 (AndValue x1 (AndValue x2 (AndValue x3 NoValues))))) → Q t vs
  with_4 a b c d r t vs Q k h f =
      one_more vs a (Ground.Function b (Ground.Function c (Ground.Function d r))) t 3 (λ z. Q t z) k h (λ x0 m0 k0 h0 n0. one_more m0 b (Ground.Function c (Ground.Function d r)) t 2 (λ z. Q t (AndValue x0 z)) k0 n0 (λ x1 m1 k1 h1 n1. one_more m1 c (Ground.Function d r) t 1 (λ z. Q t (AndValue x0 (AndValue x1 z))) k1 n1 (λ x2 m2 k2 h2 n2. one_more m2 d r t 0 (λ z. Q t (AndValue x0 (AndValue x1 (AndValue x2 z)))) k2 n2 (λ x3 m3 k3 h3 n3. nothing_more m3 r t (λ z y. Q z (AndValue x0 (AndValue x1 (AndValue x2 (AndValue x3 y))))) k3 n3 (f x0 x1 x2 x3 h0 h1 h2 h3)))))

  with_5 : (a b c d e r t : Ground) (vs : Values) (Q : Ground → Values → Type 0) → number_of vs ≡ 5 → AreTaken w vs (Ground.Function a (Ground.Function b (Ground.Function c (Ground.Function d (Ground.Function e r))))) t → ((x0 x1 x2 x3 x4 : Value) → ValueHas w x0 a → ValueHas w x1 b → ValueHas w x2 c → ValueHas w x3 d → ValueHas w x4 e → Q r (AndValue x0 (AndValue x1 (AndValue x2 (AndValue x3 (AndValue x4 NoValues)))))) → Q t vs
  with_5 a b c d e r t vs Q k h f =
      one_more vs a (Ground.Function b (Ground.Function c (Ground.Function d (Ground.Function e r)))) t 4 (λ z. Q t z) k h (λ x0 m0 k0 h0 n0. one_more m0 b (Ground.Function c (Ground.Function d (Ground.Function e r))) t 3 (λ z. Q t (AndValue x0 z)) k0 n0 (λ x1 m1 k1 h1 n1. one_more m1 c (Ground.Function d (Ground.Function e r)) t 2 (λ z. Q t (AndValue x0 (AndValue x1 z))) k1 n1 (λ x2 m2 k2 h2 n2. one_more m2 d (Ground.Function e r) t 1 (λ z. Q t (AndValue x0 (AndValue x1 (AndValue x2 z)))) k2 n2 (λ x3 m3 k3 h3 n3. one_more m3 e r t 0 (λ z. Q t (AndValue x0 (AndValue x1 (AndValue x2 (AndValue x3 z))))) k3 n3 (λ x4 m4 k4 h4 n4. nothing_more m4 r t (λ z y. Q z (AndValue x0 (AndValue x1 (AndValue x2 (AndValue x3 (AndValue x4 y)))))) k4 n4 (f x0 x1 x2 x3 x4 h0 h1 h2 h3 h4))))))

  with_6 : (a b c d e g r t : Ground) (vs : Values) (Q : Ground → Values → Type 0) → number_of vs ≡ 6 → AreTaken w vs (Ground.Function a (Ground.Function b (Ground.Function c (Ground.Function d (Ground.Function e (Ground.Function g r)))))) t → ((x0 x1 x2 x3 x4 x5 : Value) → ValueHas w x0 a → ValueHas w x1 b → ValueHas w x2 c → ValueHas w x3 d → ValueHas w x4 e → ValueHas w x5 g → Q r (AndValue x0 (AndValue x1 (AndValue x2 (AndValue x3 (AndValue x4 (AndValue x5 NoValues))))))) → Q t vs
  with_6 a b c d e g r t vs Q k h f =
      one_more vs a (Ground.Function b (Ground.Function c (Ground.Function d (Ground.Function e (Ground.Function g r))))) t 5 (λ z. Q t z) k h (λ x0 m0 k0 h0 n0. one_more m0 b (Ground.Function c (Ground.Function d (Ground.Function e (Ground.Function g r)))) t 4 (λ z. Q t (AndValue x0 z)) k0 n0 (λ x1 m1 k1 h1 n1. one_more m1 c (Ground.Function d (Ground.Function e (Ground.Function g r))) t 3 (λ z. Q t (AndValue x0 (AndValue x1 z))) k1 n1 (λ x2 m2 k2 h2 n2. one_more m2 d (Ground.Function e (Ground.Function g r)) t 2 (λ z. Q t (AndValue x0 (AndValue x1 (AndValue x2 z)))) k2 n2 (λ x3 m3 k3 h3 n3. one_more m3 e (Ground.Function g r) t 1 (λ z. Q t (AndValue x0 (AndValue x1 (AndValue x2 (AndValue x3 z))))) k3 n3 (λ x4 m4 k4 h4 n4. one_more m4 g r t 0 (λ z. Q t (AndValue x0 (AndValue x1 (AndValue x2 (AndValue x3 (AndValue x4 z)))))) k4 n4 (λ x5 m5 k5 h5 n5. nothing_more m5 r t (λ z y. Q z (AndValue x0 (AndValue x1 (AndValue x2 (AndValue x3 (AndValue x4 (AndValue x5 y))))))) k5 n5 (f x0 x1 x2 x3 x4 x5 h0 h1 h2 h3 h4 h5)))))))

  -- what is replied, and what node is made

  abbrev Reply_of : (List Value → Reply) → Ground → Values → Type 0
  Reply_of reply t vs = GivesTyped w t (reply (list_of vs)).answer

  abbrev Node_of : ℕ → (List Value → Option Equation) → Ground → Values → Type 0
  Node_of n make t vs = MakesTyped n t vs (make (list_of vs))

  -- a reply to a value of a known form
  at_int : (Q : Value → Type 0) (v : Value) → ValueHas w v int → ((z : ℤ) → Q (Int z)) → Q v
  at_int Q v h f = (let p = int_value w l v h in subst Q (sym p.1) (f p.0))

  at_char : (Q : Value → Type 0) (v : Value) → ValueHas w v char → ((z : ℕ) → Q (Char z)) → Q v
  at_char Q v h f = (let p = char_value w l v h in subst Q (sym p.1) (f p.0))

  at_text : (Q : Value → Type 0) (v : Value) → ValueHas w v string → ((z : List ℕ) → Q (Text z)) → Q v
  at_text Q v h f = (let p = text_value w l v h in subst Q (sym p.1) (f p.0))

  at_cells : (Q : Value → Type 0) (v : Value) → ValueHas w v element → ((x y : ℕ) (rows : List (List ℕ)) → Q (Cells x y rows)) → Q v
  at_cells Q v h f = (let p = cells_value w l v h in subst Q (sym p.3) (f p.0 p.1 p.2))

  at_signal : (Q : Value → Type 0) (v : Value) (t : Ground) → ValueHas w v (signal_of t) → ((n : ℕ) → Q (Signal n)) → Q v
  at_signal Q v t h f = (let p = signal_value w l v t h in subst Q (sym p.1) (f p.0))

  -- arithmetic

  numbers : (n : ℕ) (f : ℤ → ℤ → Answer) → ((a b : ℤ) → GivesTyped w int (f a b)) → IsSafeNative w n (Replies 2 (of_numbers f)) (from (int_ ∷ int_ ∷ []) int_)
  numbers n f g c t vs p h k =
      with_2 int int int t vs (Reply_of (of_numbers f)) k h (λ x y i j. at_int (λ z. Reply_of (of_numbers f) int (AndValue z (AndValue y NoValues))) x i
      (λ a. at_int (λ z. Reply_of (of_numbers f) int (AndValue (Int a) (AndValue z NoValues))) y j (λ b. g a b)))

  safe_negate : (n : ℕ) → IsSafeNative w n (Replies 1 negate) (from (int_ ∷ []) int_)
  safe_negate n c t vs p h k =
      with_1 int int t vs (Reply_of negate) k h (λ x i. at_int (λ z. Reply_of negate int (AndValue z NoValues)) x i (λ a. number_fine w l (neg_ℤ a)))

  -- comparisons

  safe_equal : (n : ℕ) (same different : Bool) → IsSafeNative w n (Replies 2 (equalities same different)) (from (a_ ∷ a_ ∷ []) bool_)
  safe_equal n same different c t vs p h k =
      with_2 _ _ bool t vs (Reply_of (equalities same different)) k h (λ x y i j. equal_fine w l same different x y)

  safe_order : (n : ℕ) (r : Written) (a b d : Value) → ((c : Choice) → ValueHas w a (instance_at c r)) → ((c : Choice) → ValueHas w b (instance_at c r)) → ((c : Choice) → ValueHas w d (instance_at c r)) → IsSafeNative w n (Replies 2 (orders a b d)) (from (variable "comparable" ∷ variable "comparable" ∷ []) r)
  safe_order n r a b d f g k c t vs p h e =
      with_2 _ _ (instance_at c r) t vs (Reply_of (orders a b d)) e h (λ x y i j. order_fine w l (instance_at c r) (c (codes "comparable")) a b d x y (f c) (g c) (k c) p.0.1 i j)

  -- texts and lists

  safe_join : (n : ℕ) → IsSafeNative w n (Replies 2 join) (from (variable "appendable" ∷ variable "appendable" ∷ []) (variable "appendable"))
  safe_join n c t vs p h k = with_2 _ _ _ t vs (Reply_of join) k h (λ x y i j. join_fine w l x y (c (codes "appendable")) p.0.1 i j)

  safe_to_string : (n : ℕ) → IsSafeNative w n (Replies 1 to_string) (from (a_ ∷ []) string_)
  safe_to_string n c t vs p h k = with_1 _ string t vs (Reply_of to_string) k h (λ x i. refl)

  safe_to_code : (n : ℕ) → IsSafeNative w n (Replies 1 to_code) (from (char_ ∷ []) int_)
  safe_to_code n c t vs p h k = with_1 char int t vs (Reply_of to_code) k h (λ x i. at_char (λ z. Reply_of to_code int (AndValue z NoValues)) x i (λ a. refl))

  safe_from_code : (n : ℕ) → IsSafeNative w n (Replies 1 from_code) (from (int_ ∷ []) char_)
  safe_from_code n c t vs p h k = with_1 int char t vs (Reply_of from_code) k h (λ x i. at_int (λ z. Reply_of from_code char (AndValue z NoValues)) x i (λ a. char_fine w l a))

  of_text : (n : ℕ) (r : Written) (reply : List Value → Reply) → ((c : Choice) (bs : List ℕ) → GivesTyped w (instance_at c r) (reply (Text bs ∷ [])).answer) → IsSafeNative w n (Replies 1 reply) (from (string_ ∷ []) r)
  of_text n r reply f c t vs p h k = with_1 string (instance_at c r) t vs (Reply_of reply) k h (λ x i. at_text (λ z. Reply_of reply (instance_at c r) (AndValue z NoValues)) x i (λ bs. f c bs))

  safe_from_list : (n : ℕ) → IsSafeNative w n (Replies 1 from_list) (from (list_ char_ ∷ []) string_)
  safe_from_list n c t vs p h k = with_1 (list_type char) string t vs (Reply_of from_list) k h (λ x i. from_list_fine w l x i)

  -- notes

  safe_note : (n : ℕ) (kind : NoteKind) → IsSafeNative w n (Replies 2 (record_note kind)) (from (string_ ∷ a_ ∷ []) a_)
  safe_note n kind c t vs p h k =
      with_2 string _ _ t vs (Reply_of (record_note kind)) k h (λ x y i j. at_text (λ z. Reply_of (record_note kind) (c (codes "a")) (AndValue z (AndValue y NoValues))) x i (λ bs. j))

  -- Elements

  safe_spacer : (n : ℕ) → IsSafeNative w n (Replies 2 spacer) (from (int_ ∷ int_ ∷ []) element_)
  safe_spacer n c t vs p h k =
      with_2 int int element t vs (Reply_of spacer) k h (λ x y i j. at_int (λ z. Reply_of spacer element (AndValue z (AndValue y NoValues))) x i
      (λ a. at_int (λ z. Reply_of spacer element (AndValue (Int a) (AndValue z NoValues))) y j (λ b. laid_fine w l (blank (size a) (size b)))))

  flowing : (d : List ℕ) (f : List Grid → Grid) → ((gs : List Grid) → flowed d gs ≡ Some (f gs)) → (items : Value) → ValueHas w items (list_type element) → GivesTyped w element (flow_of d (grids_of items)).answer
  flowing d f e items h =
      let g = grids_there w l items h in
      subst (λ z. GivesTyped w element (flow_of d z).answer) (sym g.1) (flowed_fine (flowed d g.0) (f g.0) (e g.0))
    where
      flowed_fine : (o : Option Grid) (g : Grid) → o ≡ Some g → GivesTyped w element (laid_out_after (length (grids_there w l items h).0) o).answer
      flowed_fine o g q = subst (λ z. GivesTyped w element (laid_out_after (length (grids_there w l items h).0) z).answer) (sym q) (laid_fine w l g)

  safe_flow : (n : ℕ) → IsSafeNative w n (Replies 2 flow) (from (direction_ ∷ list_ element_ ∷ []) element_)
  safe_flow n c t vs p h k =
      with_2 direction (list_type element) element t vs (Reply_of flow) k h
      (λ x y i j. direction_value w l x i (λ z. Reply_of flow element (AndValue z (AndValue y NoValues)))
      (flowing (codes "up") (λ gs. all_above (reverse gs)) (λ gs. refl) y j)
      (flowing (codes "down") all_above (λ gs. refl) y j)
      (flowing (codes "left") (λ gs. all_beside (reverse gs)) (λ gs. refl) y j)
      (flowing (codes "right") all_beside (λ gs. refl) y j))

  framing : (a b : ℤ) (x y : ℕ) (rows : List (List ℕ)) (v : Value) → ValueHas w v position → GivesTyped w element (container (Int a ∷ Int b ∷ v ∷ Cells x y rows ∷ [])).answer
  framing a b x y rows v h =
      position_value w l v h (λ z. GivesTyped w element (container (Int a ∷ Int b ∷ z ∷ Cells x y rows ∷ [])).answer)
      (laid_fine w l (framed (size a) (size b) (pos 0) (pos 0) (grid_of x y rows)))
      (laid_fine w l (framed (size a) (size b) (half (pos (size a) -ℤ pos x)) (half (pos (size b) -ℤ pos y)) (grid_of x y rows)))
      (laid_fine w l (framed (size a) (size b) (pos (size a) -ℤ pos x) (pos (size b) -ℤ pos y) (grid_of x y rows)))

  safe_container : (n : ℕ) → IsSafeNative w n (Replies 4 container) (from (int_ ∷ int_ ∷ position_ ∷ element_ ∷ []) element_)
  safe_container n c t vs p h k =
      with_4 int int position element element t vs (Reply_of container) k h
      (λ x y z u i j m o. at_int (λ v. Reply_of container element (AndValue v (AndValue y (AndValue z (AndValue u NoValues))))) x i
      (λ a. at_int (λ v. Reply_of container element (AndValue (Int a) (AndValue v (AndValue z (AndValue u NoValues))))) y j
      (λ b. at_cells (λ v. Reply_of container element (AndValue (Int a) (AndValue (Int b) (AndValue z (AndValue v NoValues))))) u o
      (λ e f rows. framing a b e f rows z m))))

  safe_width : (n : ℕ) → IsSafeNative w n (Replies 1 width_of) (from (element_ ∷ []) int_)
  safe_width n c t vs p h k = with_1 element int t vs (Reply_of width_of) k h (λ x i. at_cells (λ z. Reply_of width_of int (AndValue z NoValues)) x i (λ a b rows. refl))

  safe_height : (n : ℕ) → IsSafeNative w n (Replies 1 height_of) (from (element_ ∷ []) int_)
  safe_height n c t vs p h k = with_1 element int t vs (Reply_of height_of) k h (λ x i. at_cells (λ z. Reply_of height_of int (AndValue z NoValues)) x i (λ a b rows. refl))

  -- signals

  safe_constant : IsSafeNative w CONSTANT (MakesNode 1 signal.constant) (from (a_ ∷ []) (signal_ a_))
  safe_constant c t vs p h k = with_1 _ _ t vs (Node_of CONSTANT signal.constant) k h (λ x i. (refl, _, refl))

  safe_map : IsSafeNative w MAP (MakesNode 2 signal.map) (from (from (a_ ∷ []) b_ ∷ signal_ a_ ∷ []) (signal_ b_))
  safe_map c t vs p h k =
      with_2 _ _ _ t vs (Node_of MAP signal.map) k h
      (λ x0 x1 i0 i1. at_signal (λ z. Node_of MAP signal.map (signal_of (c (codes "b"))) (AndValue x0 (AndValue z NoValues))) x1 (c (codes "a")) i1 (λ n1. (refl, _, refl)))

  safe_map2 : IsSafeNative w MAP2 (MakesNode 3 signal.map) (from (from (a_ ∷ b_ ∷ []) c_ ∷ signal_ a_ ∷ signal_ b_ ∷ []) (signal_ c_))
  safe_map2 c t vs p h k =
      with_3 _ _ _ _ t vs (Node_of MAP2 signal.map) k h
      (λ x0 x1 x2 i0 i1 i2. at_signal (λ z. Node_of MAP2 signal.map (signal_of (c (codes "c"))) (AndValue x0 (AndValue z (AndValue x2 NoValues)))) x1 (c (codes "a")) i1 (λ n1. at_signal (λ z. Node_of MAP2 signal.map (signal_of (c (codes "c"))) (AndValue x0 (AndValue (Signal n1) (AndValue z NoValues)))) x2 (c (codes "b")) i2 (λ n2. (refl, _, refl))))

  safe_map3 : IsSafeNative w MAP3 (MakesNode 4 signal.map) (from (from (a_ ∷ b_ ∷ c_ ∷ []) d_ ∷ signal_ a_ ∷ signal_ b_ ∷ signal_ c_ ∷ []) (signal_ d_))
  safe_map3 c t vs p h k =
      with_4 _ _ _ _ _ t vs (Node_of MAP3 signal.map) k h
      (λ x0 x1 x2 x3 i0 i1 i2 i3. at_signal (λ z. Node_of MAP3 signal.map (signal_of (c (codes "d"))) (AndValue x0 (AndValue z (AndValue x2 (AndValue x3 NoValues))))) x1 (c (codes "a")) i1 (λ n1. at_signal (λ z. Node_of MAP3 signal.map (signal_of (c (codes "d"))) (AndValue x0 (AndValue (Signal n1) (AndValue z (AndValue x3 NoValues))))) x2 (c (codes "b")) i2 (λ n2. at_signal (λ z. Node_of MAP3 signal.map (signal_of (c (codes "d"))) (AndValue x0 (AndValue (Signal n1) (AndValue (Signal n2) (AndValue z NoValues))))) x3 (c (codes "c")) i3 (λ n3. (refl, _, refl)))))

  safe_map4 : IsSafeNative w MAP4 (MakesNode 5 signal.map) (from (from (a_ ∷ b_ ∷ c_ ∷ d_ ∷ []) e_ ∷ signal_ a_ ∷ signal_ b_ ∷ signal_ c_ ∷ signal_ d_ ∷ []) (signal_ e_))
  safe_map4 c t vs p h k =
      with_5 _ _ _ _ _ _ t vs (Node_of MAP4 signal.map) k h
      (λ x0 x1 x2 x3 x4 i0 i1 i2 i3 i4. at_signal (λ z. Node_of MAP4 signal.map (signal_of (c (codes "e"))) (AndValue x0 (AndValue z (AndValue x2 (AndValue x3 (AndValue x4 NoValues)))))) x1 (c (codes "a")) i1 (λ n1. at_signal (λ z. Node_of MAP4 signal.map (signal_of (c (codes "e"))) (AndValue x0 (AndValue (Signal n1) (AndValue z (AndValue x3 (AndValue x4 NoValues)))))) x2 (c (codes "b")) i2 (λ n2. at_signal (λ z. Node_of MAP4 signal.map (signal_of (c (codes "e"))) (AndValue x0 (AndValue (Signal n1) (AndValue (Signal n2) (AndValue z (AndValue x4 NoValues)))))) x3 (c (codes "c")) i3 (λ n3. at_signal (λ z. Node_of MAP4 signal.map (signal_of (c (codes "e"))) (AndValue x0 (AndValue (Signal n1) (AndValue (Signal n2) (AndValue (Signal n3) (AndValue z NoValues)))))) x4 (c (codes "d")) i4 (λ n4. (refl, _, refl))))))

  safe_map5 : IsSafeNative w MAP5 (MakesNode 6 signal.map) (from (from (a_ ∷ b_ ∷ c_ ∷ d_ ∷ e_ ∷ []) (variable "f") ∷ signal_ a_ ∷ signal_ b_ ∷ signal_ c_ ∷ signal_ d_ ∷ signal_ e_ ∷ []) (signal_ (variable "f")))
  safe_map5 c t vs p h k =
      with_6 _ _ _ _ _ _ _ t vs (Node_of MAP5 signal.map) k h
      (λ x0 x1 x2 x3 x4 x5 i0 i1 i2 i3 i4 i5. at_signal (λ z. Node_of MAP5 signal.map (signal_of (c (codes "f"))) (AndValue x0 (AndValue z (AndValue x2 (AndValue x3 (AndValue x4 (AndValue x5 NoValues))))))) x1 (c (codes "a")) i1 (λ n1. at_signal (λ z. Node_of MAP5 signal.map (signal_of (c (codes "f"))) (AndValue x0 (AndValue (Signal n1) (AndValue z (AndValue x3 (AndValue x4 (AndValue x5 NoValues))))))) x2 (c (codes "b")) i2 (λ n2. at_signal (λ z. Node_of MAP5 signal.map (signal_of (c (codes "f"))) (AndValue x0 (AndValue (Signal n1) (AndValue (Signal n2) (AndValue z (AndValue x4 (AndValue x5 NoValues))))))) x3 (c (codes "c")) i3 (λ n3. at_signal (λ z. Node_of MAP5 signal.map (signal_of (c (codes "f"))) (AndValue x0 (AndValue (Signal n1) (AndValue (Signal n2) (AndValue (Signal n3) (AndValue z (AndValue x5 NoValues))))))) x4 (c (codes "d")) i4 (λ n4. at_signal (λ z. Node_of MAP5 signal.map (signal_of (c (codes "f"))) (AndValue x0 (AndValue (Signal n1) (AndValue (Signal n2) (AndValue (Signal n3) (AndValue (Signal n4) (AndValue z NoValues))))))) x5 (c (codes "e")) i5 (λ n5. (refl, _, refl)))))))

  safe_foldp : IsSafeNative w FOLDP (MakesNode 3 signal.foldp) (from (from (a_ ∷ variable "state" ∷ []) (variable "state") ∷ variable "state" ∷ signal_ a_ ∷ []) (signal_ (variable "state")))
  safe_foldp c t vs p h k =
      with_3 _ _ _ _ t vs (Node_of FOLDP signal.foldp) k h
      (λ x0 x1 x2 i0 i1 i2. at_signal (λ z. Node_of FOLDP signal.foldp (signal_of (c (codes "state"))) (AndValue x0 (AndValue x1 (AndValue z NoValues)))) x2 (c (codes "a")) i2 (λ n2. (refl, _, refl)))

  safe_merge : IsSafeNative w MERGE (MakesNode 2 signal.merge) (from (signal_ a_ ∷ signal_ a_ ∷ []) (signal_ a_))
  safe_merge c t vs p h k =
      with_2 _ _ _ t vs (Node_of MERGE signal.merge) k h
      (λ x0 x1 i0 i1. at_signal (λ z. Node_of MERGE signal.merge (signal_of (c (codes "a"))) (AndValue z (AndValue x1 NoValues))) x0 (c (codes "a")) i0 (λ n0. at_signal (λ z. Node_of MERGE signal.merge (signal_of (c (codes "a"))) (AndValue (Signal n0) (AndValue z NoValues))) x1 (c (codes "a")) i1 (λ n1. (refl, _, refl))))

  safe_filter : IsSafeNative w FILTER (MakesNode 3 signal.filter) (from (from (a_ ∷ []) bool_ ∷ a_ ∷ signal_ a_ ∷ []) (signal_ a_))
  safe_filter c t vs p h k =
      with_3 _ _ _ _ t vs (Node_of FILTER signal.filter) k h
      (λ x0 x1 x2 i0 i1 i2. at_signal (λ z. Node_of FILTER signal.filter (signal_of (c (codes "a"))) (AndValue x0 (AndValue x1 (AndValue z NoValues)))) x2 (c (codes "a")) i2 (λ n2. (refl, _, refl)))

  safe_filter_map : IsSafeNative w FILTER_MAP (MakesNode 3 signal.filter_map) (from (from (a_ ∷ []) (maybe_ b_) ∷ b_ ∷ signal_ a_ ∷ []) (signal_ b_))
  safe_filter_map c t vs p h k =
      with_3 _ _ _ _ t vs (Node_of FILTER_MAP signal.filter_map) k h
      (λ x0 x1 x2 i0 i1 i2. at_signal (λ z. Node_of FILTER_MAP signal.filter_map (signal_of (c (codes "b"))) (AndValue x0 (AndValue x1 (AndValue z NoValues)))) x2 (c (codes "a")) i2 (λ n2. (refl, _, refl)))

  safe_drop_repeats : IsSafeNative w DROP_REPEATS (MakesNode 1 signal.drop_repeats) (from (signal_ a_ ∷ []) (signal_ a_))
  safe_drop_repeats c t vs p h k =
      with_1 _ _ t vs (Node_of DROP_REPEATS signal.drop_repeats) k h
      (λ x0 i0. at_signal (λ z. Node_of DROP_REPEATS signal.drop_repeats (signal_of (c (codes "a"))) (AndValue z NoValues)) x0 (c (codes "a")) i0 (λ n0. (refl, _, refl)))

  safe_sample_on : IsSafeNative w SAMPLE_ON (MakesNode 2 signal.sample_on) (from (signal_ a_ ∷ signal_ b_ ∷ []) (signal_ b_))
  safe_sample_on c t vs p h k =
      with_2 _ _ _ t vs (Node_of SAMPLE_ON signal.sample_on) k h
      (λ x0 x1 i0 i1. at_signal (λ z. Node_of SAMPLE_ON signal.sample_on (signal_of (c (codes "b"))) (AndValue z (AndValue x1 NoValues))) x0 (c (codes "a")) i0 (λ n0. at_signal (λ z. Node_of SAMPLE_ON signal.sample_on (signal_of (c (codes "b"))) (AndValue (Signal n0) (AndValue z NoValues))) x1 (c (codes "b")) i1 (λ n1. (refl, _, refl))))

  safe_async : IsSafeNative w ASYNC (MakesNode 1 signal.async) (from (signal_ a_ ∷ []) (signal_ a_))
  safe_async c t vs p h k =
      with_1 _ _ t vs (Node_of ASYNC signal.async) k h
      (λ x0 i0. at_signal (λ z. Node_of ASYNC signal.async (signal_of (c (codes "a"))) (AndValue z NoValues)) x0 (c (codes "a")) i0 (λ n0. (refl, _, refl)))

  -- the table

  abbrev AllSafe : ℕ → List Native → List Written → Type 0
  AllSafe k [] ws = Unit {0}
  AllSafe k (n ∷ ns) [] = ⊥
  AllSafe k (n ∷ ns) (x ∷ ws) = IsSafeNative w k n x × AllSafe (suc k) ns ws

  all_safe : AllSafe 0 natives signatures
  all_safe = (
    numbers 0 add (λ a b. number_fine w l (a +ℤ b)),
    (
      numbers 1 subtract (λ a b. number_fine w l (a -ℤ b)),
      (
        numbers 2 multiply (λ a b. number_fine w l (a *ℤ b)),
        (
          numbers 3 divide (λ a b. divided_fine w l b _ (number_fine w l (int_div a b))),
          (
            numbers 4 modulo (λ a b. divided_fine w l b _ (number_fine w l (with_sign_of b (int_rem a b)))),
            (
              numbers 5 remainder (λ a b. divided_fine w l b _ (number_fine w l (int_rem a b))),
              (
                safe_negate 6,
                (
                  safe_equal 7 true false,
                  (
                    safe_equal 8 false true,
                    (
                      safe_order 9 bool_ (truth true) (truth false) (truth false) (λ c. truth_has w l true) (λ c. truth_has w l false) (λ c. truth_has w l false),
                      (
                        safe_order 10 bool_ (truth false) (truth false) (truth true) (λ c. truth_has w l false) (λ c. truth_has w l false) (λ c. truth_has w l true),
                        (
                          safe_order 11 bool_ (truth true) (truth true) (truth false) (λ c. truth_has w l true) (λ c. truth_has w l true) (λ c. truth_has w l false),
                          (
                            safe_order 12 bool_ (truth false) (truth true) (truth true) (λ c. truth_has w l false) (λ c. truth_has w l true) (λ c. truth_has w l true),
                            (
                              safe_order 13 order_ (named (codes "LT")) (named (codes "EQ")) (named (codes "GT")) (λ c. less_has w l) (λ c. same_has w l) (λ c. greater_has w l),
                              (
                                safe_join 14,
                                (
                                  safe_to_string 15,
                                  (
                                    safe_to_code 16,
                                    (
                                      safe_from_code 17,
                                      (
                                        of_text 18 int_ string_length (λ c bs. refl),
                                        (
                                          of_text 19 string_ string_reverse (λ c bs. refl),
                                          (
                                            of_text 20 (list_ char_) to_list (λ c bs. chars_have w l (text_chars bs)),
                                            (
                                              safe_from_list 21,
                                              (
                                                of_text 22 (result_ string_ int_) to_int (λ c bs. read_fine w l bs (numeral bs)),
                                                (
                                                  safe_note 23 kind.Watch,
                                                  (
                                                    safe_note 24 kind.Log,
                                                    (
                                                      of_text 25 a_ crash (λ c bs. tt),
                                                      (
                                                        safe_constant,
                                                        (
                                                          safe_map,
                                                          (
                                                            safe_map2,
                                                            (
                                                              safe_map3,
                                                              (
                                                                safe_map4,
                                                                (
                                                                  safe_map5,
                                                                  (
                                                                    safe_foldp,
                                                                    (
                                                                      safe_merge,
                                                                      (
                                                                        safe_filter,
                                                                        (
                                                                          safe_filter_map,
                                                                          (
                                                                            safe_drop_repeats,
                                                                            (
                                                                              safe_sample_on,
                                                                              (
                                                                                safe_async,
                                                                                (
                                                                                  of_text 39 element_ text (λ c bs. laid_fine w l (text_grid (text_chars bs))),
                                                                                  (
                                                                                    (λ c p. refl),
                                                                                    (
                                                                                      safe_spacer 41,
                                                                                      (
                                                                                        safe_flow 42,
                                                                                        (
                                                                                          (λ c p. enumerated w l (codes "Graphics.Element.Direction") (codes "up") refl tt tt),
                                                                                          (
                                                                                            (λ c p. enumerated w l (codes "Graphics.Element.Direction") (codes "down") refl tt tt),
                                                                                            (
                                                                                              (λ c p. enumerated w l (codes "Graphics.Element.Direction") (codes "left") refl tt tt),
                                                                                              (
                                                                                                (λ c p. enumerated w l (codes "Graphics.Element.Direction") (codes "right") refl tt tt),
                                                                                                (
                                                                                                  (λ c p. enumerated w l (codes "Graphics.Element.Position") (codes "topLeft") refl tt tt),
                                                                                                  (
                                                                                                    (λ c p. enumerated w l (codes "Graphics.Element.Position") (codes "middle") refl tt tt),
                                                                                                    (
                                                                                                      (λ c p. enumerated w l (codes "Graphics.Element.Position") (codes "bottomRight") refl tt tt),
                                                                                                      (
                                                                                                        safe_container 50,
                                                                                                        (
                                                                                                          safe_width 51,
                                                                                                          (
                                                                                                            safe_height 52,
                                                                                                            tt,
                                                                                                          ),
                                                                                                        ),
                                                                                                      ),
                                                                                                    ),
                                                                                                  ),
                                                                                                ),
                                                                                              ),
                                                                                            ),
                                                                                          ),
                                                                                        ),
                                                                                      ),
                                                                                    ),
                                                                                  ),
                                                                                ),
                                                                              ),
                                                                            ),
                                                                          ),
                                                                        ),
                                                                      ),
                                                                    ),
                                                                  ),
                                                                ),
                                                              ),
                                                            ),
                                                          ),
                                                        ),
                                                      ),
                                                    ),
                                                  ),
                                                ),
                                              ),
                                            ),
                                          ),
                                        ),
                                      ),
                                    ),
                                  ),
                                ),
                              ),
                            ),
                          ),
                        ),
                      ),
                    ),
                  ),
                ),
              ),
            ),
          ),
        ),
      ),
    ),
  )

  safe_among : (k : ℕ) (ns : List Native) (ws : List Written) (i : ℕ) (n : Native) (x : Written) → AllSafe k ns ws → slice_get ns i ≡ Some n → slice_get ws i ≡ Some x → IsSafeNative w (k + i) n x
  safe_among k [] ws i n x a e f = absurd cc
  safe_among k (m ∷ ns) [] i n x a e f = absurd a
  safe_among k (m ∷ ns) (y ∷ ws) zero n x a e f =
      let d : m ≡ n = cc in
      let b : y ≡ x = cc in
      let z : k ≡ k + 0 = omega arith in
      subst (λ j. IsSafeNative w j n x) z (subst (λ u. IsSafeNative w k u x) d (subst (λ u. IsSafeNative w k m u) b a.0))
  safe_among k (m ∷ ns) (y ∷ ws) (suc i) n x a e f =
      let z : suc k + i ≡ k + suc i = omega arith in
      subst (λ j. IsSafeNative w j n x) z (safe_among (suc k) ns ws i n x a.1 e f)

  pub safe_native : (i : ℕ) (n : Native) (x : Written) → native_at i ≡ Some n → slice_get signatures i ≡ Some x → IsSafeNative w i n x
  safe_native i n x e f = (let z : 0 + i ≡ i = omega arith in subst (λ j. IsSafeNative w j n x) z (safe_among 0 natives signatures i n x all_safe e f))
