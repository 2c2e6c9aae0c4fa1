-- The reader of names meets the definition, and nothing else does.
use Rattle.std.proofs.Common.{◌≡◌, ℕ, ◌<◌, ◌≤◌, Bool, true, false, ◌++◌, length, take, Ok, Err, refl, sym, ap, ◌∙◌, subst, inl, inr, ltb, lt-ltb, le-ltb, ltb-true, ltb-false, length-take-le}
use Rattle.std.specs.Prelude.{slice_index, if◌then◌else◌}
use Rattle.elm_base.specs.declared.token.TokenKind.TheVariants as kind
use Rattle.elm_base.specs.declared.fault.FaultKind.TheVariants as fault
use Rattle.layout_lexer.specs.declared.byte_class.Class.TheVariants.{Lower, Upper}
use Rattle.layout_lexer.specs.Chars.{Text, is_letter}
use Rattle.layout_lexer.specs.Marks.{max_name, is_listed, words}
use Rattle.layout_lexer.specs.Spellings.{Begins, IsLongest, IsName, IsQualified}
use Rattle.layout_lexer.specs.Tokens.{Stands, word, lower, upper, long_name, token_part}
use Rattle.layout_lexer.specs.Pieces.{name, name_end, name_kind, token, piece}
use Rattle.layout_lexer.proofs.Classes.{letter_class}
use Rattle.layout_lexer.proofs.Longest.{front_taken, begins_take, longest_len}
use Rattle.layout_lexer.proofs.Names.{ReadsName, reads_name, kind_class, qualified_letter}
use Rattle.layout_lexer.proofs.Dispatch.{Meets, by_plain_class}

name_of : (u : Bool) (s : Text) → IsQualified (kind_class u) s → IsName s
name_of true s q = inr q
name_of false s q = inl q

module _ (text : Text) (r : ReadsName text) where
  longest_name : IsLongest IsName text (take (name_end text).1 text)
  longest_name = record {
    spells = name_of r.upper (take (name_end text).1 text) r.name;
    front = begins_take (name_end text).1 text;
    longest = λ t b n. subst (λ (k : ℕ). length t ≤ k) (sym (length-take-le (name_end text).1 text r.within)) (most t b n);
  }
    where
      most : (t : Text) → Begins t text → IsName t → length t ≤ (name_end text).1
      most t b (inl q) = (r.most false t b q).0
      most t b (inr q) = (r.most true t b q).0

  name_stands : (joined t : Bool) → is_listed words (take (name_end text).1 text) ≡ t → (name_end text).1 ≤ max_name
      → Stands joined text (token_part (if t then kind.Word else (name_end text).0) (take (name_end text).1 text))
  name_stands joined true e h = word (take (name_end text).1 text) longest_name (subst (λ (n : ℕ). n ≤ max_name) (sym (length-take-le (name_end text).1 text r.within)) h) e refl
  name_stands joined false e h = go r.upper r.kind r.name
    where
      s : Text
      s = take (name_end text).1 text

      go : (u : Bool) → (name_end text).0 ≡ name_kind u → IsQualified (kind_class u) s → Stands joined text (token_part (name_end text).0 s)
      go true k q = upper s longest_name (subst (λ (n : ℕ). n ≤ max_name) (sym (length-take-le (name_end text).1 text r.within)) h) e q (ap (λ x. token_part x s) k)
      go false k q = lower s longest_name (subst (λ (n : ℕ). n ≤ max_name) (sym (length-take-le (name_end text).1 text r.within)) h) e q (ap (λ x. token_part x s) k)

  pub name_meets : (joined : Bool) → Meets joined text (name text)
  unfolding name
  name_meets joined = go (ltb max_name (name_end text).1) refl
    where
      go : (t : Bool) → ltb max_name (name_end text).1 ≡ t
          → Meets joined text (if t then Err fault.TooLarge else Ok (token (if is_listed words (take (name_end text).1 text) then kind.Word else (name_end text).0) (name_end text).1))
      go true e = long_name (take (name_end text).1 text) longest_name (subst (λ (n : ℕ). max_name < n) (sym (length-take-le (name_end text).1 text r.within)) (ltb-true max_name (name_end text).1 e)) refl
      go false e = name_stands joined (is_listed words (take (name_end text).1 text)) refl (ltb-false max_name (name_end text).1 e)

pub name_letter : (text s : Text) → Begins s text → IsName s → is_letter (slice_index text 0) ≡ true
name_letter text s b n = ap (λ t. is_letter (slice_index t 0)) b.1 ∙ go n
  where
    go : IsName s → is_letter (slice_index (s ++ b.0) 0) ≡ true
    go (inl q) = ap (λ t. is_letter (slice_index (t ++ b.0) 0)) q.split ∙ qualified_letter false q.modules q.last b.0 q.upper q.simple
    go (inr q) = ap (λ t. is_letter (slice_index (t ++ b.0) 0)) q.split ∙ qualified_letter true q.modules q.last b.0 q.upper q.simple

module _ (text s : Text) (l : IsLongest IsName text s) where
  read : ReadsName text
  read = reads_name text (name_letter text s l.front l.spells)

  same_len : length s ≡ (name_end text).1
  same_len =
      let e = longest_len IsName text s (name_end text).1 l read.within (longest_name text read).spells (λ t b n. subst (λ (k : ℕ). length t ≤ k) (length-take-le (name_end text).1 text read.within) ((longest_name text read).longest t b n)) in
      ap length e ∙ length-take-le (name_end text).1 text read.within

  read_by_name : (joined : Bool) → piece joined text ≡ name text
  read_by_name joined = letter_class (λ c. piece joined text ≡ name text) (slice_index text 0) (name_letter text s l.front l.spells)
      (λ e. by_plain_class joined text Lower e (λ f. cc) (λ f. cc)) (λ e. by_plain_class joined text Upper e (λ f. cc) (λ f. cc))

  name_value : name text ≡ (if ltb max_name (length s) then Err fault.TooLarge else Ok (token (if is_listed words s then kind.Word else (name_end text).0) (length s)))
  unfolding name
  name_value =
      ap (λ (n : ℕ). if ltb max_name n then Err fault.TooLarge else Ok (token (if is_listed words (take n text) then kind.Word else (name_end text).0) n)) (sym same_len)
      ∙ ap (λ (t : Text). if ltb max_name (length s) then Err fault.TooLarge else Ok (token (if is_listed words t then kind.Word else (name_end text).0) (length s))) (front_taken s text l.front)

  pub long_name_read : (joined : Bool) → max_name < length s → piece joined text ≡ Err fault.TooLarge
  long_name_read joined h = read_by_name joined ∙ name_value ∙ rw (lt-ltb max_name (length s) h) refl

  pub word_read : (joined : Bool) → length s ≤ max_name → is_listed words s ≡ true → piece joined text ≡ Ok (token kind.Word (length s))
  word_read joined h e = read_by_name joined ∙ name_value ∙ rw (le-ltb max_name (length s) h, e) refl

  pub name_read : (joined u : Bool) → length s ≤ max_name → is_listed words s ≡ false → IsQualified (kind_class u) s → piece joined text ≡ Ok (token (name_kind u) (length s))
  name_read joined u h e q =
      read_by_name joined ∙ name_value ∙ rw (le-ltb max_name (length s) h, e) (ap (λ k. Ok (token k (length s))) (read.kind ∙ sym ((read.most u s l.front q).1 same_len)))
