-- Several items with bytes between them are read as they are written.
use Rattle.std.proofs.Common.{◌≡◌, ◌≤◌, ◌<◌, ◌==◌, ◌&&◌, ℕ, zero, suc, Bool, true, false, true≢false, if◌then◌else◌, arith, List, [], ◌∷◌, ◌++◌, map, length, take, drop, Some, None, refl, sym, ◌∙◌, ap, ap₂, length-append}
use Rattle.std.specs.List.{flat_map, list_all}
use Rattle.std.specs.Str.{bytes_eq}
use Rattle.std.proofs.lemmas.List.{append_assoc}
use Rattle.std.proofs.lemmas.Slice.Eq.{bytes_eq-Decides}
use Rattle.std.proofs.Math.Seq.{take-append_seam, drop-append_seam}
use Rattle.port_texts.specs.Reader.{Text, Reader, and_then, under, behind, marked, mark, word_len, word, one_more, more, some_of, closed}
use Rattle.port_texts.proofs.Turns.{none_more}

pub same_bytes : (text : Text) → bytes_eq text text ≡ true
same_bytes text = go (bytes_eq text text) (bytes_eq-Decides text text).1 where
  go : (b : Bool) → (text ≡ text → b ≡ true) → b ≡ true
  go b h = h refl

-- ---- bytes

pub begins : (start rest : Text) → behind start (start ++ rest) ≡ Some rest
begins start rest =
    ap₂ (λ front back. if bytes_eq front start then Some back else None) (take-append_seam start rest) (drop-append_seam start rest)
    ∙ ap (λ b. if b then Some rest else None) (same_bytes start)

pub marks : (start rest : Text) → mark start (start ++ rest) ≡ Some (tt, rest)
marks start rest = ap marked (begins start rest)

-- ---- words

-- no space stands in the bytes
abbrev pub IsWord : Text → Type 0
IsWord text = list_all (λ byte. if byte == 32 then false else true) text ≡ true

pub and_left : (a b : Bool) → (a && b) ≡ true → a ≡ true
and_left true b h = refl
and_left false b h = h

pub and_right : (a b : Bool) → (a && b) ≡ true → b ≡ true
and_right true b h = h
and_right false b h = absurd (true≢false (sym h))

word_ends : (text rest : Text) → IsWord text → word_len (text ++ 32 ∷ rest) ≡ length text
word_ends [] rest h = refl
word_ends (byte ∷ text) rest h =
    go (byte == 32) (and_left (if byte == 32 then false else true) _ h) (word_ends text rest (and_right (if byte == 32 then false else true) _ h)) where
      go : (b : Bool) → (if b then false else true) ≡ true → word_len (text ++ 32 ∷ rest) ≡ length text
          → (if b then 0 else suc (word_len (text ++ 32 ∷ rest))) ≡ suc (length text)
      go true h more = absurd (true≢false (sym h))
      go false h more = ap (λ n. suc n) more

pub word_read : (text rest : Text) → IsWord text → word (text ++ 32 ∷ rest) ≡ Some (text, 32 ∷ rest)
word_read text rest h =
    ap (λ n. Some (take n (text ++ 32 ∷ rest), drop n (text ++ 32 ∷ rest))) (word_ends text rest h)
    ∙ ap₂ (λ front back. Some (front, back)) (take-append_seam text (32 ∷ rest)) (drop-append_seam text (32 ∷ rest))

-- ---- several

-- the item with this text is read, whatever follows
abbrev pub IsRead : {A : Type 0} → Reader A → A → Text → Type 0
IsRead item x text = (rest : Text) → item (text ++ rest) ≡ Some (x, rest)

module _ {A Y : Type 0} (item : Reader A) (value : Y → A) (text : Y → Text) where
  abbrev pub AllRead : List Y → Type 0
  AllRead [] = Unit {0}
  AllRead (y ∷ ys) = IsRead item (value y) (text y) × AllRead ys

  module _ (start : Text) where
    abbrev pub written : List Y → Text
    written ys = flat_map (λ y. start ++ text y) ys

    pub more_read : (ys : List Y) → AllRead ys → (n : ℕ) → length ys ≤ n → (end : Text) → behind start end ≡ None
        → more start item n (written ys ++ end) ≡ Some (map value ys, end)
    more_read [] r n enough end over = none_more start item n end over
    more_read (y ∷ ys) r zero enough end over = absurd (omega (arith, enough))
    more_read (y ∷ ys) r (suc n) enough end over =
        ap (λ t. one_more item (more start item n) (behind start t) t) (together (text y) (written ys))
        ∙ ap (λ found. one_more item (more start item n) found (start ++ (text y ++ (written ys ++ end)))) (begins start (text y ++ (written ys ++ end)))
        ∙ ap (λ outcome. and_then outcome (λ first left. under (λ found. first ∷ found) (more start item n left))) (r.0 (written ys ++ end))
        ∙ ap (under (λ found. value y ∷ found)) (more_read ys r.1 n (omega (arith, enough)) end over) where
          together : (t w : Text) → ((start ++ t) ++ w) ++ end ≡ start ++ (t ++ (w ++ end))
          together t w = append_assoc (start ++ t) w end ∙ append_assoc start t (w ++ end)

    pub enough_turns : 0 < length start → (ys : List Y) (end : Text) → length ys ≤ length (written ys ++ end)
    enough_turns some [] end = omega arith
    enough_turns some (y ∷ ys) end =
        let others = enough_turns some ys end in
        let whole = length-append ((start ++ text y) ++ written ys) end in
        let first = length-append (start ++ text y) (written ys) in
        let second = length-append start (text y) in
        let rest = length-append (written ys) end in
        omega (arith, some, others, whole, first, second, rest)

    pub some_read : 0 < length start → (y : Y) (ys : List Y) → AllRead (y ∷ ys) → (end : Text) → behind start end ≡ None
        → some_of start item ((text y ++ written ys) ++ end) ≡ Some (map value (y ∷ ys), end)
    some_read some y ys r end over =
        ap (some_of start item) (append_assoc (text y) (written ys) end)
        ∙ ap (λ outcome. and_then outcome (λ first left. under (λ found. first ∷ found) (more start item (length left) left))) (r.0 (written ys ++ end))
        ∙ ap (under (λ found. value y ∷ found)) (more_read ys r.1 (length (written ys ++ end)) (enough_turns some ys end) end over)

pub closed_by : {A : Type 0} (close : Text) (x : A) (rest : Text) → closed close (Some (x, close ++ rest)) ≡ Some (x, rest)
closed_by close x rest = ap (λ m. and_then m (λ _ left. Some (x, left))) (marks close rest)
