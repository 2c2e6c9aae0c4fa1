-- Texts without the spaces at their ends, and between brackets.
use Rattle.std.proofs.Common.{◌≡◌, ◌==◌, ℕ, Bool, true, false, true≢false, not, ◌&&◌, if◌then◌else◌, arith, [], ◌∷◌, ◌++◌, reverse, Option, Some, None, refl, sym, ◌∙◌, ap, ap₂, subst}
use Rattle.std.specs.List.{list_all}
use Rattle.std.specs.Option.{option_map}
use Rattle.std.proofs.lemmas.List.{append_assoc, append-nil, reverse-append, reverse-reverse}
use Rattle.elm_base.specs.Spaces.{trim_start, trim_end}
use Rattle.port_values.specs.Literals.{Text, AreSpaces, Encloses}
use Rattle.port_literals.specs.Parts.{trim}
use Rattle.port_literals.specs.Reader.{before_last, between}

-- ---- truths

pub and_left : (a b : Bool) → (a && b) ≡ true → a ≡ true
and_left true b h = refl
and_left false b h = h

pub and_right : (a b : Bool) → (a && b) ≡ true → b ≡ true
and_right true b h = h
and_right false b h = absurd (true≢false (sym h))

pub and_both : (a b : Bool) → a ≡ true → b ≡ true → (a && b) ≡ true
and_both true b h k = k
and_both false b h k = h

pub not_true : (a : Bool) → not a ≡ true → a ≡ false
not_true true h = sym h
not_true false h = refl

pub same : (n byte : ℕ) → (byte == n) ≡ true → byte ≡ n
same n byte h = grind (arith, h)

-- a byte that passes a test isn't one that fails it
pub apart : (test : ℕ → Bool) (n byte : ℕ) → test n ≡ false → test byte ≡ true → (byte == n) ≡ false
apart test n byte fails holds = go (byte == n) refl where
  go : (b : Bool) → (byte == n) ≡ b → b ≡ false
  go false is = refl
  go true is = absurd (true≢false (sym holds ∙ ap test (same n byte is) ∙ fails))

-- ---- spaces

pub both_spaces : (a b : Text) → AreSpaces a → AreSpaces b → AreSpaces (a ++ b)
both_spaces [] b h k = k
both_spaces (byte ∷ a) b h k =
    and_both (byte == 32) _ (and_left (byte == 32) (list_all (λ byte. byte == 32) a) h) (both_spaces a b (and_right (byte == 32) (list_all (λ byte. byte == 32) a) h) k)

pub turned_spaces : (a : Text) → AreSpaces a → AreSpaces (reverse a)
turned_spaces [] h = refl
turned_spaces (byte ∷ a) h =
    subst AreSpaces (sym (reverse-append (byte ∷ []) a))
    (both_spaces (reverse a) (byte ∷ []) (turned_spaces a (and_right (byte == 32) (list_all (λ byte. byte == 32) a) h))
    (and_both (byte == 32) true (and_left (byte == 32) (list_all (λ byte. byte == 32) a) h) refl))

-- no space stands first
abbrev pub starts : Text → Bool
starts [] = false
starts (byte ∷ rest) = not (byte == 32)

abbrev pub ends : Text → Bool
ends text = starts (reverse text)

pub skipped : (a t : Text) → AreSpaces a → trim_start (a ++ t) ≡ trim_start t
skipped [] t h = refl
skipped (byte ∷ a) t h =
    ap (λ b. if b then trim_start (a ++ t) else byte ∷ (a ++ t)) (and_left (byte == 32) (list_all (λ byte. byte == 32) a) h)
    ∙ skipped a t (and_right (byte == 32) (list_all (λ byte. byte == 32) a) h)

pub all_skipped : (a : Text) → AreSpaces a → trim_start a ≡ []
all_skipped a h = ap trim_start (sym (append-nil a)) ∙ skipped a [] h

pub stays : (t u : Text) → starts t ≡ true → trim_start (t ++ u) ≡ t ++ u
stays [] u h = absurd (true≢false (sym h))
stays (byte ∷ t) u h = ap (λ b. if b then trim_start (t ++ u) else byte ∷ (t ++ u)) (not_true (byte == 32) h)

pub end_trimmed : (t z : Text) → ends t ≡ true → AreSpaces z → trim_end (t ++ z) ≡ t
end_trimmed t z h k =
    ap (λ back. reverse (trim_start back)) (reverse-append t z)
    ∙ ap reverse (skipped (reverse z) (reverse t) (turned_spaces z k)
    ∙ ap trim_start (sym (append-nil (reverse t))) ∙ stays (reverse t) [] h ∙ append-nil (reverse t))
    ∙ reverse-reverse t

pub trimmed : (a t z : Text) → AreSpaces a → starts t ≡ true → ends t ≡ true → AreSpaces z → trim (a ++ (t ++ z)) ≡ t
trimmed a t z h s e k = ap trim_end (skipped a (t ++ z) h ∙ stays t z s) ∙ end_trimmed t z e k

-- what is cut off at the front are spaces
pub start_cut : (u : Text) → (a : Text) × AreSpaces a × (u ≡ a ++ trim_start u)
start_cut [] = ([], refl, refl)
start_cut (byte ∷ u) = go (byte == 32) refl (start_cut u) where
  go : (b : Bool) → (byte == 32) ≡ b → (a : Text) × AreSpaces a × (u ≡ a ++ trim_start u)
      → (a : Text) × AreSpaces a × (byte ∷ u ≡ a ++ (if b then trim_start u else byte ∷ u))
  go false is inner = ([], refl, refl)
  go true is inner =
      (byte ∷ inner.0, and_both (byte == 32) (list_all (λ byte. byte == 32) inner.0) is inner.1, ap (λ x. byte ∷ x) inner.2)

pub end_cut : (u : Text) → (z : Text) × AreSpaces z × (u ≡ trim_end u ++ z)
end_cut u =
    let back = start_cut (reverse u) in (
      reverse back.0,
      turned_spaces back.0 back.1,
      sym (reverse-reverse u) ∙ ap reverse back.2 ∙ reverse-append back.0 (trim_start (reverse u)),
    )

pub trim_cut : (u : Text) → (a z : Text) × AreSpaces a × AreSpaces z × (u ≡ a ++ (trim u ++ z))
trim_cut u =
    let first = start_cut u in
    let last = end_cut (trim_start u) in
    (first.0, last.0, first.1, last.1, first.2 ∙ ap (λ x. first.0 ++ x) last.2)

-- ---- brackets

is_itself : (n : ℕ) → (n == n) ≡ true
is_itself n = grind arith

some_is : (x y : Text) → Some x ≡ Some y → x ≡ y
some_is x y h = cc

pub last_gone : (front : Text) (last : ℕ) → before_last last (front ++ last ∷ []) ≡ Some front
last_gone [] last = ap (λ b. if b then Some [] else None) (is_itself last)
last_gone (byte ∷ []) last = ap (option_map (λ front. byte ∷ front)) (last_gone [] last)
last_gone (byte ∷ next ∷ front) last = ap (option_map (λ front. byte ∷ front)) (last_gone (next ∷ front) last)

pub last_was : (text front : Text) (last : ℕ) → before_last last text ≡ Some front → text ≡ front ++ last ∷ []
last_was [] front last h = cc
last_was (byte ∷ []) front last h = go (byte == last) refl h where
  go : (b : Bool) → (byte == last) ≡ b → (if b then Some [] else None) ≡ Some front → byte ∷ [] ≡ front ++ last ∷ []
  go false is h = cc
  go true is h = ap (λ x. x ∷ []) (same last byte is) ∙ ap (λ f. f ++ last ∷ []) (some_is [] front h)
last_was (byte ∷ next ∷ rest) front last h = go (before_last last (next ∷ rest)) (λ inner is. last_was (next ∷ rest) inner last is) refl h where
  go : (found : Option Text) → ((inner : Text) → before_last last (next ∷ rest) ≡ Some inner → next ∷ rest ≡ inner ++ last ∷ [])
      → before_last last (next ∷ rest) ≡ found → option_map (λ front. byte ∷ front) found ≡ Some front → byte ∷ next ∷ rest ≡ front ++ last ∷ []
  go None again is h = cc
  go (Some inner) again is h = ap (λ x. byte ∷ x) (again inner is) ∙ ap (λ f. f ++ last ∷ []) (some_is (byte ∷ inner) front h)

-- what is enclosed is found, with the spaces about it
pub enclosed_found : (open_ close : ℕ) (inside text : Text) (e : Encloses open_ close inside text) → between open_ close text ≡ Some (e.0 ++ (inside ++ e.1))
enclosed_found open_ close inside text (before, behind, h, k, is) =
    ap (between open_ close) (is ∙ ap (λ x. open_ ∷ x) (ap (λ x. before ++ x) (sym (append_assoc inside behind (close ∷ []))) ∙ sym (append_assoc before (inside ++ behind) (close ∷ []))))
    ∙ ap (λ b. if b then before_last close ((before ++ (inside ++ behind)) ++ close ∷ []) else None) (is_itself open_)
    ∙ last_gone (before ++ (inside ++ behind)) close

pub found_between : (open_ close : ℕ) (text middle : Text) → between open_ close text ≡ Some middle → text ≡ open_ ∷ (middle ++ close ∷ [])
found_between open_ close [] middle h = cc
found_between open_ close (byte ∷ rest) middle h = go (byte == open_) refl h where
  go : (b : Bool) → (byte == open_) ≡ b → (if b then before_last close rest else None) ≡ Some middle → byte ∷ rest ≡ open_ ∷ (middle ++ close ∷ [])
  go false is h = cc
  go true is h = ap₂ (λ x y. x ∷ y) (same open_ byte is) (last_was rest middle close h)

-- what was found between brackets, with the spaces about a part of it, is enclosed
pub found_enclosed : (open_ close : ℕ) (text a inside z : Text) → between open_ close text ≡ Some (a ++ (inside ++ z))
    → AreSpaces a → AreSpaces z → Encloses open_ close inside text
found_enclosed open_ close text a inside z found h k = (
  a,
  z,
  h,
  k,
  found_between open_ close text (a ++ (inside ++ z)) found
      ∙ ap (λ x. open_ ∷ x) (append_assoc a (inside ++ z) (close ∷ []) ∙ ap (λ x. a ++ x) (append_assoc inside z (close ∷ []))),
)
