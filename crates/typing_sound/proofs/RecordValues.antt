-- Records of typed fields: fields put over others, updated and taken away.
use Rattle.std.proofs.Common.{◌≡◌, ℕ, Bool, true, false, Option, Some, None, List, [], ◌∷◌, refl, sym, ap, ◌∙◌, subst}
use Rattle.std.specs.Prelude.{if◌then◌else◌}
use Rattle.std.specs.Str.{bytes_eq}
use Rattle.elm_typing.specs.Ground.{Ground, Row, Ends}
use Rattle.elm_typing.specs.Sorts.{Sort, Simple, sort_of, HasSimpleFields}
use Rattle.elm_typing.specs.Labels.{is_after}
use Rattle.elm_typing.specs.Rows as row
use Rattle.elm_meaning.specs.Values.{Value, Fields, NoFields, AndField}
use Rattle.elm_meaning.specs.Records.{put_field, put_all, set_field, remove_field, behind}
use Rattle.elm_meaning.specs.Evaluation.{set_in, set_all}
use Rattle.typing_rules.specs.Worlds.{World, no_surroundings}
use Rattle.typing_rules.specs.TermTypes.{ValueHas, FieldsHave}
use Rattle.typing_sound.proofs.Bound.{some_is}
use Rattle.typing_sound.proofs.Monotone.{Below, value_more}

-- sorts of fields

pub extended_simple : (c : ℕ → Sort) (l : List ℕ) (t : Ground) (r : Row) → HasSimpleFields c (row.extended l t r) → (sort_of c t ≡ Simple) × HasSimpleFields c r
extended_simple c l t (Ends rest) h = (h.1, h.2)
extended_simple c l t (Row.Field k u r) h = by_order (is_after l k) h (extended_simple c l t r)
  where
    by_order : (b : Bool) → HasSimpleFields c (if b then Row.Field k u (row.extended l t r) else Row.Field l t (Row.Field k u r)) → (HasSimpleFields c (row.extended l t r) → (sort_of c t ≡ Simple) × HasSimpleFields c r) → (sort_of c t ≡ Simple) × HasSimpleFields c (Row.Field k u r)
    by_order true d f = (let e = f d.2 in (e.0, (d.0, d.1, e.1)))
    by_order false d f = (d.1, d.2)

pub newest_simple : (c : ℕ → Sort) (l : List ℕ) (t : Ground) (r : Row) → HasSimpleFields c r → row.newest l r ≡ Some t → sort_of c t ≡ Simple
newest_simple c l t (Ends rest) h e = absurd cc
newest_simple c l t (Row.Field k u r) h e = by_label (bytes_eq l k) e (newest_simple c l t r h.2)
  where
    by_label : (b : Bool) → (if b then Some u else row.newest l r) ≡ Some t → (row.newest l r ≡ Some t → sort_of c t ≡ Simple) → sort_of c t ≡ Simple
    by_label true d f = ap (sort_of c) (sym (some_is u t d)) ∙ h.1
    by_label false d f = f d

module _ (w : World) where
  pub put_field_has : (l : List ℕ) (v : Value) (t : Ground) (fs : Fields) (r : Row) → ValueHas w v t → FieldsHave w fs r → FieldsHave w (put_field l v fs) (row.extended l t r)
  put_field_has l v t NoFields (Ends rest) h k = (refl, h, k)
  put_field_has l v t NoFields (Row.Field m u r) h k = absurd k
  put_field_has l v t (AndField n x fs) (Ends rest) h k = absurd k
  put_field_has l v t (AndField n x fs) (Row.Field m u r) h k =
      subst (λ z. FieldsHave w (put_field l v (AndField n x fs)) (row.extended l t (Row.Field z u r))) k.0
      (by_order (is_after l n) (put_field_has l v t fs r h k.2))
    where
      by_order : (b : Bool) → FieldsHave w (put_field l v fs) (row.extended l t r) → FieldsHave w (if b then AndField n x (put_field l v fs) else AndField l v (AndField n x fs)) (if b then Row.Field n u (row.extended l t r) else Row.Field l t (Row.Field n u r))
      by_order true d = (refl, k.1, d)
      by_order false d = (refl, h, (refl, k.1, k.2))

  pub set_field_has : (l : List ℕ) (v : Value) (t : Ground) (fs : Fields) (r : Row) → ValueHas w v t → row.newest l r ≡ Some t → FieldsHave w fs r → (gs : Fields) × (set_field l v fs ≡ Some gs) × FieldsHave w gs r
  set_field_has l v t NoFields (Ends rest) h e k = absurd cc
  set_field_has l v t NoFields (Row.Field m u r) h e k = absurd k
  set_field_has l v t (AndField n x fs) (Ends rest) h e k = absurd k
  set_field_has l v t (AndField n x fs) (Row.Field m u r) h e k =
      by_label (bytes_eq l n) (subst (λ z. (if bytes_eq l z then Some u else row.newest l r) ≡ Some t) (sym k.0) e) (λ d. set_field_has l v t fs r h d k.2)
    where
      behind_has : (o : Option Fields) (gs : Fields) → o ≡ Some gs → FieldsHave w gs r → (hs : Fields) × (behind n x o ≡ Some hs) × FieldsHave w hs (Row.Field m u r)
      behind_has o gs d f = (AndField n x gs, ap (behind n x) d, (k.0, k.1, f))

      by_label : (b : Bool) → (if b then Some u else row.newest l r) ≡ Some t → (row.newest l r ≡ Some t → (gs : Fields) × (set_field l v fs ≡ Some gs) × FieldsHave w gs r) → (gs : Fields) × ((if b then Some (AndField n v fs) else behind n x (set_field l v fs)) ≡ Some gs) × FieldsHave w gs (Row.Field m u r)
      by_label true d f = (AndField n v fs, refl, (k.0, subst (ValueHas w v) (sym (some_is u t d)) h, k.2))
      by_label false d f = (let g = f d in behind_has (set_field l v fs) g.0 g.1 g.2)

  pub remove_field_has : (l : List ℕ) (fs : Fields) (r q : Row) → row.removed l r ≡ Some q → FieldsHave w fs r → (gs : Fields) × (remove_field l fs ≡ Some gs) × FieldsHave w gs q
  remove_field_has l NoFields (Ends rest) q e k = absurd cc
  remove_field_has l NoFields (Row.Field m u r) q e k = absurd k
  remove_field_has l (AndField n x fs) (Ends rest) q e k = absurd k
  remove_field_has l (AndField n x fs) (Row.Field m u r) q e k =
      by_label (bytes_eq l n) (subst (λ z. (if bytes_eq l z then Some r else row.behind m u (row.removed l r)) ≡ Some q) (sym k.0) e) (λ p d. remove_field_has l fs r p d k.2)
    where
      behind_has : (o : Option Row) → row.removed l r ≡ o → row.behind m u o ≡ Some q → ((p : Row) → row.removed l r ≡ Some p → (gs : Fields) × (remove_field l fs ≡ Some gs) × FieldsHave w gs p) → (gs : Fields) × (behind n x (remove_field l fs) ≡ Some gs) × FieldsHave w gs q
      behind_has None d c f = absurd cc
      behind_has (Some p) d c f =
          let g = f p d in
          let i : Row.Field m u p ≡ q = cc in
          (AndField n x g.0, ap (behind n x) g.1, subst (FieldsHave w (AndField n x g.0)) i (k.0, k.1, g.2))

      by_label : (b : Bool) → (if b then Some r else row.behind m u (row.removed l r)) ≡ Some q → ((p : Row) → row.removed l r ≡ Some p → (gs : Fields) × (remove_field l fs ≡ Some gs) × FieldsHave w gs p) → (gs : Fields) × ((if b then Some fs else behind n x (remove_field l fs)) ≡ Some gs) × FieldsHave w gs q
      by_label true d f = (fs, refl, (let i : r ≡ q = cc in subst (FieldsHave w fs) i k.2))
      by_label false d f = behind_has (row.removed l r) refl d f

  -- several fields

  -- new fields over one row give another
  abbrev pub PutHave : List (List ℕ × Value) → Row → Row → Type 0
  PutHave [] before r = r ≡ before
  PutHave (n ∷ new) before r = (t : Ground) × (others : Row) × ValueHas w n.1 t × PutHave new before others × (r ≡ row.extended n.0 t others)

  pub put_all_has : (new : List (List ℕ × Value)) (before r : Row) (fs : Fields) → PutHave new before r → FieldsHave w fs before → FieldsHave w (put_all new fs) r
  put_all_has [] before r fs h k = subst (FieldsHave w fs) (sym h) k
  put_all_has (n ∷ new) before r fs h k =
      subst (FieldsHave w (put_all (n ∷ new) fs)) (sym h.4)
      (put_field_has n.0 n.1 h.0 (put_all new fs) h.1 h.2 (put_all_has new before h.1 fs h.3 k))

  -- each new value has the newest type of its label
  abbrev pub SetHave : List (List ℕ × Value) → Row → Type 0
  SetHave [] r = Unit {0}
  SetHave (n ∷ new) r = (t : Ground) × (row.newest n.0 r ≡ Some t) × ValueHas w n.1 t × SetHave new r

  pub set_all_has : (new : List (List ℕ × Value)) (r : Row) (fs : Fields) → SetHave new r → FieldsHave w fs r → (gs : Fields) × (set_all new fs ≡ Some gs) × FieldsHave w gs r
  set_all_has [] r fs h k = (fs, refl, k)
  set_all_has (n ∷ new) r fs h k =
      let g = set_all_has new r fs h.3 k in
      let i = set_field_has n.0 n.1 h.0 g.0 r h.2 h.1 g.2 in
      (i.0, ap (set_in n.0 n.1) g.1 ∙ i.1, i.2)

pub put_later : (v w : World) (new : List (List ℕ × Value)) (before r : Row) → Below v w → PutHave v new before r → PutHave w new before r
put_later v w [] before r b h = h
put_later v w (n ∷ new) before r b h = (h.0, h.1, value_more v w b n.1 no_surroundings h.0 h.2, put_later v w new before h.1 b h.3, h.4)

pub set_later : (v w : World) (new : List (List ℕ × Value)) (r : Row) → Below v w → SetHave v new r → SetHave w new r
set_later v w [] r b h = h
set_later v w (n ∷ new) r b h = (h.0, h.1, value_more v w b n.1 no_surroundings h.0 h.2, set_later v w new r b h.3)
