-- The values of each type.
use Rattle.std.proofs.Common.{◌≡◌, ℕ, ℤ, Bool, true, false, Option, Some, None, List, ◌++◌, refl, sym, ap, ◌∙◌, subst}
use Rattle.std.specs.Prelude.{codes, if◌then◌else◌}
use Rattle.std.specs.Str.{bytes_eq}
use Rattle.elm_typing.specs.declared.flag.Flag.{Flag}
use Rattle.elm_typing.specs.Ground.{Ground, Grounds, Row, NoGrounds}
use Rattle.elm_typing.specs.Names.{int_name, char_name, string_name, list_name, signal_name, list_of, signal_of}
use Rattle.elm_typing.specs.Spelling.{int, char, string, bool}
use Rattle.elm_meaning.specs.Values.{Value, Values, Fields, Function, Int, Char, Text, Unit as UnitValue, Nil, Cons, Tuple, Made, Record, Applicable, Cells, Signal, NoValues, AndValue}
use Rattle.elm_meaning.specs.Answers.{named}
use Rattle.typing_rules.specs.Unions.{parts_of}
use Rattle.typing_rules.specs.Library.{element, library_unions}
use Rattle.typing_rules.specs.Worlds.{World}
use Rattle.typing_rules.specs.TermTypes.{ValueHas, ValuesHave, FieldsHave, AreTaken}
use Rattle.typing_sound.specs.Safe.{HasLibrary}
use Rattle.typing_sound.proofs.Bound.{same_bytes, taken_all}
use Rattle.typing_sound.proofs.Functions.{function_type}

abbrev pub direction : Ground
direction = Ground.Named (codes "Graphics.Element.Direction") NoGrounds

abbrev pub position : Ground
position = Ground.Named (codes "Graphics.Element.Position") NoGrounds

-- types of different shapes are different

pub apart_by : (f : Ground → Bool) (t u : Ground) → f t ≡ true → f u ≡ false → t ≡ u → ⊥
apart_by f t u a b e = (let d : true ≡ false = sym a ∙ (ap f e ∙ b) in cc)

abbrev pub is_named : List ℕ → Ground → Bool
is_named n (Ground.Named m ts) = bytes_eq n m
is_named n _ = false

abbrev pub is_function : Ground → Bool
is_function (Ground.Function a r) = true
is_function _ = false

abbrev pub is_record : Ground → Bool
is_record (Ground.Record r) = true
is_record _ = false

abbrev pub is_tuple : Ground → Bool
is_tuple (Ground.Tuple ts) = true
is_tuple _ = false

abbrev pub is_opaque : Ground → Bool
is_opaque (Ground.Opaque n f) = true
is_opaque _ = false

pub same_name : (n m : List ℕ) (ts us : Grounds) → Ground.Named n ts ≡ Ground.Named m us → n ≡ m
same_name n m ts us e = cc

pub same_types : (n m : List ℕ) (ts us : Grounds) → Ground.Named n ts ≡ Ground.Named m us → ts ≡ us
same_types n m ts us e = cc

pub same_element : (t u : Ground) → list_of t ≡ list_of u → t ≡ u
same_element t u e = cc

pub same_row : (r q : Row) → Ground.Record r ≡ Ground.Record q → r ≡ q
same_row r q e = cc

pub same_parts : (ts us : Grounds) → Ground.Tuple ts ≡ Ground.Tuple us → ts ≡ us
same_parts ts us e = cc

pub none_left : (ps : Grounds) (P : Type 0) → None ≡ Some ps → P
none_left ps P e = absurd cc

pub no_parts : (ps : Grounds) → Some NoGrounds ≡ Some ps → NoGrounds ≡ ps
no_parts ps e = cc

module _ (w : World) (l : HasLibrary w) where
  -- a constructor's value is of a union that has it
  pub made_in : (k : List ℕ) (vs : Values) (t : Ground) → ValueHas w (Made k vs) t → (n : List ℕ) × (ts ps : Grounds) × (t ≡ Ground.Named n ts) × (parts_of w.unions n ts k ≡ Some ps) × ValuesHave w vs ps
  made_in k vs t h =
      let g = h.1 in
      let all = taken_all w vs g.2 (Ground.Named g.0 g.1) t g.4 (subst (λ z. AreTaken w vs z t) g.5 h.3) in
      (g.0, g.1, g.2, all.1, g.3.given, all.0)

  pub made_of : (k : List ℕ) (vs : Values) (n : List ℕ) (ts : Grounds) → ValueHas w (Made k vs) (Ground.Named n ts) → (ps : Grounds) × (parts_of (library_unions ++ l.own) n ts k ≡ Some ps) × ValuesHave w vs ps
  made_of k vs n ts h =
      let g = made_in k vs (Ground.Named n ts) h in
      let a = same_name g.0 n g.1 ts (sym g.3) in
      let b = same_types g.0 n g.1 ts (sym g.3) in
      (g.2, subst (λ z. parts_of z n ts k ≡ Some g.2) l.first (subst (λ z. parts_of w.unions n z k ≡ Some g.2) b (subst (λ z. parts_of w.unions z g.1 k ≡ Some g.2) a g.4)), g.5)

  -- the types without constructors

  pub not_made_int : (k : List ℕ) (vs : Values) (ts : Grounds) → ValueHas w (Made k vs) (Ground.Named int_name ts) → ⊥
  not_made_int k vs ts h = (let g = made_of k vs int_name ts h in none_left g.0 ⊥ g.1)

  pub not_made_char : (k : List ℕ) (vs : Values) (ts : Grounds) → ValueHas w (Made k vs) (Ground.Named char_name ts) → ⊥
  not_made_char k vs ts h = (let g = made_of k vs char_name ts h in none_left g.0 ⊥ g.1)

  pub not_made_string : (k : List ℕ) (vs : Values) (ts : Grounds) → ValueHas w (Made k vs) (Ground.Named string_name ts) → ⊥
  not_made_string k vs ts h = (let g = made_of k vs string_name ts h in none_left g.0 ⊥ g.1)

  pub not_made_list : (k : List ℕ) (vs : Values) (ts : Grounds) → ValueHas w (Made k vs) (Ground.Named list_name ts) → ⊥
  not_made_list k vs ts h = (let g = made_of k vs list_name ts h in none_left g.0 ⊥ g.1)

  pub not_made_signal : (k : List ℕ) (vs : Values) (ts : Grounds) → ValueHas w (Made k vs) (Ground.Named signal_name ts) → ⊥
  not_made_signal k vs ts h = (let g = made_of k vs signal_name ts h in none_left g.0 ⊥ g.1)

  pub not_made_element : (k : List ℕ) (vs : Values) (ts : Grounds) → ValueHas w (Made k vs) (Ground.Named (codes "Graphics.Element.Element") ts) → ⊥
  not_made_element k vs ts h = (let g = made_of k vs (codes "Graphics.Element.Element") ts h in none_left g.0 ⊥ g.1)

  pub int_value : (v : Value) → ValueHas w v int → (z : ℤ) × (v ≡ Int z)
  int_value (Int z) h = (z, refl)
  int_value (Char n) h = absurd (apart_by (is_named int_name) _ _ refl refl h)
  int_value (Text b) h = absurd (apart_by (is_named int_name) _ _ refl refl h)
  int_value UnitValue h = absurd (apart_by (is_named int_name) _ _ refl refl h)
  int_value Nil h = absurd (apart_by (is_named int_name) _ _ refl refl h.1)
  int_value (Cons x xs) h = absurd (apart_by (is_named int_name) _ _ refl refl h.1)
  int_value (Tuple xs) h = absurd (apart_by (is_named int_name) _ _ refl refl h.1)
  int_value (Made k xs) h = absurd (not_made_int k xs _ h)
  int_value (Record fs) h = absurd (apart_by (is_named int_name) _ _ refl refl h.1)
  int_value (Applicable f) h = absurd (apart_by (is_named int_name) _ _ refl refl (function_type w f int h).2)
  int_value (Cells x y rows) h = absurd (apart_by (is_named int_name) _ _ refl refl h)
  int_value (Signal n) h = absurd (apart_by (is_named int_name) _ _ refl refl h.1)

  pub char_value : (v : Value) → ValueHas w v char → (n : ℕ) × (v ≡ Char n)
  char_value (Int z) h = absurd (apart_by (is_named char_name) _ _ refl refl h)
  char_value (Char n) h = (n, refl)
  char_value (Text b) h = absurd (apart_by (is_named char_name) _ _ refl refl h)
  char_value UnitValue h = absurd (apart_by (is_named char_name) _ _ refl refl h)
  char_value Nil h = absurd (apart_by (is_named char_name) _ _ refl refl h.1)
  char_value (Cons x xs) h = absurd (apart_by (is_named char_name) _ _ refl refl h.1)
  char_value (Tuple xs) h = absurd (apart_by (is_named char_name) _ _ refl refl h.1)
  char_value (Made k xs) h = absurd (not_made_char k xs _ h)
  char_value (Record fs) h = absurd (apart_by (is_named char_name) _ _ refl refl h.1)
  char_value (Applicable f) h = absurd (apart_by (is_named char_name) _ _ refl refl (function_type w f char h).2)
  char_value (Cells x y rows) h = absurd (apart_by (is_named char_name) _ _ refl refl h)
  char_value (Signal n) h = absurd (apart_by (is_named char_name) _ _ refl refl h.1)

  pub text_value : (v : Value) → ValueHas w v string → (b : List ℕ) × (v ≡ Text b)
  text_value (Int z) h = absurd (apart_by (is_named string_name) _ _ refl refl h)
  text_value (Char n) h = absurd (apart_by (is_named string_name) _ _ refl refl h)
  text_value (Text b) h = (b, refl)
  text_value UnitValue h = absurd (apart_by (is_named string_name) _ _ refl refl h)
  text_value Nil h = absurd (apart_by (is_named string_name) _ _ refl refl h.1)
  text_value (Cons x xs) h = absurd (apart_by (is_named string_name) _ _ refl refl h.1)
  text_value (Tuple xs) h = absurd (apart_by (is_named string_name) _ _ refl refl h.1)
  text_value (Made k xs) h = absurd (not_made_string k xs _ h)
  text_value (Record fs) h = absurd (apart_by (is_named string_name) _ _ refl refl h.1)
  text_value (Applicable f) h = absurd (apart_by (is_named string_name) _ _ refl refl (function_type w f string h).2)
  text_value (Cells x y rows) h = absurd (apart_by (is_named string_name) _ _ refl refl h)
  text_value (Signal n) h = absurd (apart_by (is_named string_name) _ _ refl refl h.1)

  pub cells_value : (v : Value) → ValueHas w v element → (x y : ℕ) × (rows : List (List ℕ)) × (v ≡ Cells x y rows)
  cells_value (Int z) h = absurd (apart_by (is_named (codes "Graphics.Element.Element")) _ _ refl refl h)
  cells_value (Char n) h = absurd (apart_by (is_named (codes "Graphics.Element.Element")) _ _ refl refl h)
  cells_value (Text b) h = absurd (apart_by (is_named (codes "Graphics.Element.Element")) _ _ refl refl h)
  cells_value UnitValue h = absurd (apart_by (is_named (codes "Graphics.Element.Element")) _ _ refl refl h)
  cells_value Nil h = absurd (apart_by (is_named (codes "Graphics.Element.Element")) _ _ refl refl h.1)
  cells_value (Cons x xs) h = absurd (apart_by (is_named (codes "Graphics.Element.Element")) _ _ refl refl h.1)
  cells_value (Tuple xs) h = absurd (apart_by (is_named (codes "Graphics.Element.Element")) _ _ refl refl h.1)
  cells_value (Made k xs) h = absurd (not_made_element k xs _ h)
  cells_value (Record fs) h = absurd (apart_by (is_named (codes "Graphics.Element.Element")) _ _ refl refl h.1)
  cells_value (Applicable f) h = absurd (apart_by (is_named (codes "Graphics.Element.Element")) _ _ refl refl (function_type w f element h).2)
  cells_value (Cells x y rows) h = (x, y, rows, refl)
  cells_value (Signal n) h = absurd (apart_by (is_named (codes "Graphics.Element.Element")) _ _ refl refl h.1)

  pub signal_value : (v : Value) (t : Ground) → ValueHas w v (signal_of t) → (n : ℕ) × (v ≡ Signal n)
  signal_value (Int z) t h = absurd (apart_by (is_named signal_name) _ _ refl refl h)
  signal_value (Char n) t h = absurd (apart_by (is_named signal_name) _ _ refl refl h)
  signal_value (Text b) t h = absurd (apart_by (is_named signal_name) _ _ refl refl h)
  signal_value UnitValue t h = absurd (apart_by (is_named signal_name) _ _ refl refl h)
  signal_value Nil t h = absurd (apart_by (is_named signal_name) _ _ refl refl h.1)
  signal_value (Cons x xs) t h = absurd (apart_by (is_named signal_name) _ _ refl refl h.1)
  signal_value (Tuple xs) t h = absurd (apart_by (is_named signal_name) _ _ refl refl h.1)
  signal_value (Made k xs) t h = absurd (not_made_signal k xs _ h)
  signal_value (Record fs) t h = absurd (apart_by (is_named signal_name) _ _ refl refl h.1)
  signal_value (Applicable f) t h = absurd (apart_by (is_named signal_name) _ _ refl refl (function_type w f (signal_of t) h).2)
  signal_value (Cells x y rows) t h = absurd (apart_by (is_named signal_name) _ _ refl refl h)
  signal_value (Signal n) t h = (n, refl)

  pub function_value : (v : Value) (a r : Ground) → ValueHas w v (Ground.Function a r) → (f : Function) × (v ≡ Applicable f)
  function_value (Int z) a r h = absurd (apart_by is_function _ _ refl refl h)
  function_value (Char n) a r h = absurd (apart_by is_function _ _ refl refl h)
  function_value (Text b) a r h = absurd (apart_by is_function _ _ refl refl h)
  function_value UnitValue a r h = absurd (apart_by is_function _ _ refl refl h)
  function_value Nil a r h = absurd (apart_by is_function _ _ refl refl h.1)
  function_value (Cons x xs) a r h = absurd (apart_by is_function _ _ refl refl h.1)
  function_value (Tuple xs) a r h = absurd (apart_by is_function _ _ refl refl h.1)
  function_value (Made k xs) a r h = absurd (apart_by is_function _ _ refl refl (made_in k xs (Ground.Function a r) h).3)
  function_value (Record fs) a r h = absurd (apart_by is_function _ _ refl refl h.1)
  function_value (Applicable f) a r h = (f, refl)
  function_value (Cells x y rows) a r h = absurd (apart_by is_function _ _ refl refl h)
  function_value (Signal n) a r h = absurd (apart_by is_function _ _ refl refl h.1)

  pub record_value : (v : Value) (r : Row) → ValueHas w v (Ground.Record r) → (fs : Fields) × (v ≡ Record fs) × FieldsHave w fs r
  record_value (Int z) r h = absurd (apart_by is_record _ _ refl refl h)
  record_value (Char n) r h = absurd (apart_by is_record _ _ refl refl h)
  record_value (Text b) r h = absurd (apart_by is_record _ _ refl refl h)
  record_value UnitValue r h = absurd (apart_by is_record _ _ refl refl h)
  record_value Nil r h = absurd (apart_by is_record _ _ refl refl h.1)
  record_value (Cons x xs) r h = absurd (apart_by is_record _ _ refl refl h.1)
  record_value (Tuple xs) r h = absurd (apart_by is_record _ _ refl refl h.1)
  record_value (Made k xs) r h = absurd (apart_by is_record _ _ refl refl (made_in k xs (Ground.Record r) h).3)
  record_value (Record fs) r h = (fs, refl, (let e = same_row h.0 r (sym h.1) in subst (FieldsHave w fs) e h.2))
  record_value (Applicable f) r h = absurd (apart_by is_record _ _ refl refl (function_type w f (Ground.Record r) h).2)
  record_value (Cells x y rows) r h = absurd (apart_by is_record _ _ refl refl h)
  record_value (Signal n) r h = absurd (apart_by is_record _ _ refl refl h.1)

  -- a value of a list type is a list
  abbrev pub IsListOf : Ground → Value → Type 0
  IsListOf t Nil = Unit {0}
  IsListOf t (Cons v vs) = ValueHas w v t × ValueHas w vs (list_of t)
  IsListOf t _ = ⊥

  pub list_value : (v : Value) (t : Ground) → ValueHas w v (list_of t) → IsListOf t v
  list_value (Int z) t h = absurd (apart_by (is_named list_name) _ _ refl refl h)
  list_value (Char n) t h = absurd (apart_by (is_named list_name) _ _ refl refl h)
  list_value (Text b) t h = absurd (apart_by (is_named list_name) _ _ refl refl h)
  list_value UnitValue t h = absurd (apart_by (is_named list_name) _ _ refl refl h)
  list_value Nil t h = tt
  list_value (Cons x xs) t h = (let e = same_element h.0 t (sym h.1) in (subst (ValueHas w x) e h.2, subst (λ z. ValueHas w xs (list_of z)) e h.3))
  list_value (Tuple xs) t h = absurd (apart_by (is_named list_name) _ _ refl refl h.1)
  list_value (Made k xs) t h = absurd (not_made_list k xs _ h)
  list_value (Record fs) t h = absurd (apart_by (is_named list_name) _ _ refl refl h.1)
  list_value (Applicable f) t h = absurd (apart_by (is_named list_name) _ _ refl refl (function_type w f (list_of t) h).2)
  list_value (Cells x y rows) t h = absurd (apart_by (is_named list_name) _ _ refl refl h)
  list_value (Signal n) t h = absurd (apart_by (is_named list_name) _ _ refl refl h.1)

  -- a value of an enumeration is one of its constructors

  parts_none : (vs : Values) → ValuesHave w vs NoGrounds → vs ≡ NoValues
  parts_none NoValues h = refl
  parts_none (AndValue v vs) h = absurd h

  -- the constructor is the first, or it is among the others
  pick : (b : Bool) (c k : List ℕ) (vs : Values) (ps : Grounds) (P : Value → Type 0) (other : Option Grounds) → (b ≡ true → c ≡ k) → (if b then Some NoGrounds else other) ≡ Some ps → ValuesHave w vs ps → P (named c) → (other ≡ Some ps → P (Made k vs)) → P (Made k vs)
  pick true c k vs ps P other f e h p q =
      let d = no_parts ps e in
      subst (λ z. P (Made k z)) (sym (parts_none vs (subst (ValuesHave w vs) (sym d) h))) (subst (λ z. P (named z)) (f refl) p)
  pick false c k vs ps P other f e h p q = q e

  bool_made : (k : List ℕ) (vs : Values) → ValueHas w (Made k vs) bool → (P : Value → Type 0) → P (named (codes "True")) → P (named (codes "False")) → P (Made k vs)
  bool_made k vs h P p0 p1 =
      let g = made_of k vs (codes "Basics.Bool") NoGrounds h in
      pick (bytes_eq (codes "True") k) (codes "True") k vs g.0 P (if bytes_eq (codes "False") k then Some NoGrounds else None) (same_bytes (codes "True") k) g.1 g.2 p0 (λ e0. pick (bytes_eq (codes "False") k) (codes "False") k vs g.0 P None (same_bytes (codes "False") k) e0 g.2 p1 (λ e1. none_left g.0 (P (Made k vs)) e1))

  pub bool_value : (v : Value) → ValueHas w v bool → (P : Value → Type 0) → P (named (codes "True")) → P (named (codes "False")) → P v
  bool_value (Int z) h = absurd (apart_by (is_named (codes "Basics.Bool")) _ _ refl refl h)
  bool_value (Char n) h = absurd (apart_by (is_named (codes "Basics.Bool")) _ _ refl refl h)
  bool_value (Text b) h = absurd (apart_by (is_named (codes "Basics.Bool")) _ _ refl refl h)
  bool_value UnitValue h = absurd (apart_by (is_named (codes "Basics.Bool")) _ _ refl refl h)
  bool_value Nil h = absurd (apart_by (is_named (codes "Basics.Bool")) _ _ refl refl h.1)
  bool_value (Cons x xs) h = absurd (apart_by (is_named (codes "Basics.Bool")) _ _ refl refl h.1)
  bool_value (Tuple xs) h = absurd (apart_by (is_named (codes "Basics.Bool")) _ _ refl refl h.1)
  bool_value (Made k xs) h = bool_made k xs h
  bool_value (Record fs) h = absurd (apart_by (is_named (codes "Basics.Bool")) _ _ refl refl h.1)
  bool_value (Applicable f) h = absurd (apart_by (is_named (codes "Basics.Bool")) _ _ refl refl (function_type w f bool h).2)
  bool_value (Cells x y rows) h = absurd (apart_by (is_named (codes "Basics.Bool")) _ _ refl refl h)
  bool_value (Signal n) h = absurd (apart_by (is_named (codes "Basics.Bool")) _ _ refl refl h.1)

  direction_made : (k : List ℕ) (vs : Values) → ValueHas w (Made k vs) direction → (P : Value → Type 0) → P (named (codes "up")) → P (named (codes "down")) → P (named (codes "left")) → P (named (codes "right")) → P (Made k vs)
  direction_made k vs h P p0 p1 p2 p3 =
      let g = made_of k vs (codes "Graphics.Element.Direction") NoGrounds h in
      pick (bytes_eq (codes "up") k) (codes "up") k vs g.0 P (if bytes_eq (codes "down") k then Some NoGrounds else (if bytes_eq (codes "left") k then Some NoGrounds else (if bytes_eq (codes "right") k then Some NoGrounds else None))) (same_bytes (codes "up") k) g.1 g.2 p0 (λ e0. pick (bytes_eq (codes "down") k) (codes "down") k vs g.0 P (if bytes_eq (codes "left") k then Some NoGrounds else (if bytes_eq (codes "right") k then Some NoGrounds else None)) (same_bytes (codes "down") k) e0 g.2 p1 (λ e1. pick (bytes_eq (codes "left") k) (codes "left") k vs g.0 P (if bytes_eq (codes "right") k then Some NoGrounds else None) (same_bytes (codes "left") k) e1 g.2 p2 (λ e2. pick (bytes_eq (codes "right") k) (codes "right") k vs g.0 P None (same_bytes (codes "right") k) e2 g.2 p3 (λ e3. none_left g.0 (P (Made k vs)) e3))))

  pub direction_value : (v : Value) → ValueHas w v direction → (P : Value → Type 0) → P (named (codes "up")) → P (named (codes "down")) → P (named (codes "left")) → P (named (codes "right")) → P v
  direction_value (Int z) h = absurd (apart_by (is_named (codes "Graphics.Element.Direction")) _ _ refl refl h)
  direction_value (Char n) h = absurd (apart_by (is_named (codes "Graphics.Element.Direction")) _ _ refl refl h)
  direction_value (Text b) h = absurd (apart_by (is_named (codes "Graphics.Element.Direction")) _ _ refl refl h)
  direction_value UnitValue h = absurd (apart_by (is_named (codes "Graphics.Element.Direction")) _ _ refl refl h)
  direction_value Nil h = absurd (apart_by (is_named (codes "Graphics.Element.Direction")) _ _ refl refl h.1)
  direction_value (Cons x xs) h = absurd (apart_by (is_named (codes "Graphics.Element.Direction")) _ _ refl refl h.1)
  direction_value (Tuple xs) h = absurd (apart_by (is_named (codes "Graphics.Element.Direction")) _ _ refl refl h.1)
  direction_value (Made k xs) h = direction_made k xs h
  direction_value (Record fs) h = absurd (apart_by (is_named (codes "Graphics.Element.Direction")) _ _ refl refl h.1)
  direction_value (Applicable f) h = absurd (apart_by (is_named (codes "Graphics.Element.Direction")) _ _ refl refl (function_type w f direction h).2)
  direction_value (Cells x y rows) h = absurd (apart_by (is_named (codes "Graphics.Element.Direction")) _ _ refl refl h)
  direction_value (Signal n) h = absurd (apart_by (is_named (codes "Graphics.Element.Direction")) _ _ refl refl h.1)

  position_made : (k : List ℕ) (vs : Values) → ValueHas w (Made k vs) position → (P : Value → Type 0) → P (named (codes "topLeft")) → P (named (codes "middle")) → P (named (codes "bottomRight")) → P (Made k vs)
  position_made k vs h P p0 p1 p2 =
      let g = made_of k vs (codes "Graphics.Element.Position") NoGrounds h in
      pick (bytes_eq (codes "topLeft") k) (codes "topLeft") k vs g.0 P (if bytes_eq (codes "middle") k then Some NoGrounds else (if bytes_eq (codes "bottomRight") k then Some NoGrounds else None)) (same_bytes (codes "topLeft") k) g.1 g.2 p0 (λ e0. pick (bytes_eq (codes "middle") k) (codes "middle") k vs g.0 P (if bytes_eq (codes "bottomRight") k then Some NoGrounds else None) (same_bytes (codes "middle") k) e0 g.2 p1 (λ e1. pick (bytes_eq (codes "bottomRight") k) (codes "bottomRight") k vs g.0 P None (same_bytes (codes "bottomRight") k) e1 g.2 p2 (λ e2. none_left g.0 (P (Made k vs)) e2)))

  pub position_value : (v : Value) → ValueHas w v position → (P : Value → Type 0) → P (named (codes "topLeft")) → P (named (codes "middle")) → P (named (codes "bottomRight")) → P v
  position_value (Int z) h = absurd (apart_by (is_named (codes "Graphics.Element.Position")) _ _ refl refl h)
  position_value (Char n) h = absurd (apart_by (is_named (codes "Graphics.Element.Position")) _ _ refl refl h)
  position_value (Text b) h = absurd (apart_by (is_named (codes "Graphics.Element.Position")) _ _ refl refl h)
  position_value UnitValue h = absurd (apart_by (is_named (codes "Graphics.Element.Position")) _ _ refl refl h)
  position_value Nil h = absurd (apart_by (is_named (codes "Graphics.Element.Position")) _ _ refl refl h.1)
  position_value (Cons x xs) h = absurd (apart_by (is_named (codes "Graphics.Element.Position")) _ _ refl refl h.1)
  position_value (Tuple xs) h = absurd (apart_by (is_named (codes "Graphics.Element.Position")) _ _ refl refl h.1)
  position_value (Made k xs) h = position_made k xs h
  position_value (Record fs) h = absurd (apart_by (is_named (codes "Graphics.Element.Position")) _ _ refl refl h.1)
  position_value (Applicable f) h = absurd (apart_by (is_named (codes "Graphics.Element.Position")) _ _ refl refl (function_type w f position h).2)
  position_value (Cells x y rows) h = absurd (apart_by (is_named (codes "Graphics.Element.Position")) _ _ refl refl h)
  position_value (Signal n) h = absurd (apart_by (is_named (codes "Graphics.Element.Position")) _ _ refl refl h.1)

  -- a value of a type with parts has values of theirs, and that without parts is ()
  abbrev pub IsTupleOf : Grounds → Value → Type 0
  IsTupleOf ts (Tuple vs) = ValuesHave w vs ts
  IsTupleOf ts UnitValue = ts ≡ NoGrounds
  IsTupleOf ts _ = ⊥

  pub tuple_value : (v : Value) (ts : Grounds) → ValueHas w v (Ground.Tuple ts) → IsTupleOf ts v
  tuple_value (Int z) ts h = absurd (apart_by is_tuple _ _ refl refl h)
  tuple_value (Char n) ts h = absurd (apart_by is_tuple _ _ refl refl h)
  tuple_value (Text b) ts h = absurd (apart_by is_tuple _ _ refl refl h)
  tuple_value UnitValue ts h = same_parts ts NoGrounds h
  tuple_value Nil ts h = absurd (apart_by is_tuple _ _ refl refl h.1)
  tuple_value (Cons x xs) ts h = absurd (apart_by is_tuple _ _ refl refl h.1)
  tuple_value (Tuple xs) ts h = subst (ValuesHave w xs) (same_parts h.0 ts (sym h.1)) h.2
  tuple_value (Made k xs) ts h = absurd (apart_by is_tuple _ _ refl refl (made_in k xs (Ground.Tuple ts) h).3)
  tuple_value (Record fs) ts h = absurd (apart_by is_tuple _ _ refl refl h.1)
  tuple_value (Applicable f) ts h = absurd (apart_by is_tuple _ _ refl refl (function_type w f (Ground.Tuple ts) h).2)
  tuple_value (Cells x y rows) ts h = absurd (apart_by is_tuple _ _ refl refl h)
  tuple_value (Signal n) ts h = absurd (apart_by is_tuple _ _ refl refl h.1)

  pub opaque_value : (v : Value) (m : ℕ) (g : Flag) → ValueHas w v (Ground.Opaque m g) → ⊥
  opaque_value (Int z) m g h = absurd (apart_by is_opaque _ _ refl refl h)
  opaque_value (Char n) m g h = absurd (apart_by is_opaque _ _ refl refl h)
  opaque_value (Text b) m g h = absurd (apart_by is_opaque _ _ refl refl h)
  opaque_value UnitValue m g h = absurd (apart_by is_opaque _ _ refl refl h)
  opaque_value Nil m g h = absurd (apart_by is_opaque _ _ refl refl h.1)
  opaque_value (Cons x xs) m g h = absurd (apart_by is_opaque _ _ refl refl h.1)
  opaque_value (Tuple xs) m g h = absurd (apart_by is_opaque _ _ refl refl h.1)
  opaque_value (Made k xs) m g h = absurd (apart_by is_opaque _ _ refl refl (made_in k xs (Ground.Opaque m g) h).3)
  opaque_value (Record fs) m g h = absurd (apart_by is_opaque _ _ refl refl h.1)
  opaque_value (Applicable f) m g h = absurd (apart_by is_opaque _ _ refl refl (function_type w f (Ground.Opaque m g) h).2)
  opaque_value (Cells x y rows) m g h = absurd (apart_by is_opaque _ _ refl refl h)
  opaque_value (Signal n) m g h = absurd (apart_by is_opaque _ _ refl refl h.1)
