-- The longest of some spellings, and runs of bytes of one kind.
use Rattle.std.proofs.Common.{◌≡◌, ℕ, suc, ◌+◌, ◌<◌, ◌≤◌, Bool, true, false, cond, [], ◌∷◌, ◌++◌, length, take, drop, refl, sym, ap, ◌∙◌, subst, arith, take-append-drop, length-append, length-take-le}
use Rattle.std.specs.List.{list_all, prefix_len}
use Rattle.std.proofs.lemmas.Bool.{and_parts}
use Rattle.std.proofs.lemmas.List.{take_at, drop_at}
use Rattle.std.proofs.lemmas.List.Folds.{length-prefix_len}
use Rattle.std.specs.Prelude.{slice_index}
use Rattle.layout_lexer.specs.declared.byte_class.Class.{Class}
use Rattle.layout_lexer.specs.Chars.{Text, is_in}
use Rattle.layout_lexer.specs.Spellings.{Begins, IsLongest, IsRun}

pub front_taken : (s text : Text) → Begins s text → take (length s) text ≡ s
front_taken s text b = ap (take (length s)) b.1 ∙ take_at s b.0 (length s) refl

pub front_dropped : (s text : Text) (b : Begins s text) → drop (length s) text ≡ b.0
front_dropped s text b = ap (drop (length s)) b.1 ∙ drop_at s b.0 (length s) refl

pub begins_take : (n : ℕ) (text : Text) → Begins (take n text) text
begins_take n text = (drop n text, sym (take-append-drop n text))

pub front_within : (s text : Text) → Begins s text → length s ≤ length text
front_within s text b = omega (arith, ap length b.1, length-append s b.0)

pub same_front : (s t text : Text) → Begins s text → Begins t text → length s ≡ length t → s ≡ t
same_front s t text b d e = sym (front_taken s text b) ∙ ap (λ n. take n text) e ∙ front_taken t text d

pub longest_same : (P : Text → Type 0) (text s t : Text) → IsLongest P text s → IsLongest P text t → s ≡ t
longest_same P text s t l m =
    let below = m.longest s l.front l.spells in
    let above = l.longest t m.front m.spells in
    same_front s t text l.front m.front (omega arith)

-- the longest is as long as anything that is a spelling and that no spelling passes
pub longest_len : (P : Text → Type 0) (text s : Text) (n : ℕ) → IsLongest P text s → n ≤ length text → P (take n text) → ((t : Text) → Begins t text → P t → length t ≤ n) → s ≡ take n text
longest_len P text s n l h p most =
    longest_same P text s (take n text) l (record {
      spells = p;
      front = begins_take n text;
      longest = λ t b q. omega (arith, most t b q, length-take-le n text h);
    })

-- ---- runs

module _ (p : ℕ → Bool) where
  pub run_passes : (text : Text) → list_all p (take (prefix_len p text) text) ≡ true
  run_passes [] = refl
  run_passes (b ∷ bs) = go (p b) refl (run_passes bs)
    where
      go : (t : Bool) → p b ≡ t → list_all p (take (prefix_len p bs) bs) ≡ true → list_all p (take (cond t (1 + prefix_len p bs) 0) (b ∷ bs)) ≡ true
      go false e more = refl
      go true e more =
          let one : 1 + prefix_len p bs ≡ suc (prefix_len p bs) = omega arith in
          rw one (rw e more)

  pub run_most : (t rest : Text) → list_all p t ≡ true → length t ≤ prefix_len p (t ++ rest)
  run_most [] rest h = omega arith
  run_most (b ∷ bs) rest h =
      let parts = and_parts (p b) (list_all p bs) h in
      rw parts.0 (omega (arith, run_most bs rest parts.1))

  pub run_within : (text t : Text) → Begins t text → list_all p t ≡ true → length t ≤ prefix_len p text
  run_within text t b h = subst (λ (u : Text). length t ≤ prefix_len p u) (sym b.1) (run_most t b.0 h)

-- the front that has no further byte of the kind
pub run_ends : (p : ℕ → Bool) (t rest : Text) → list_all p t ≡ true → (0 < length rest → p (slice_index rest 0) ≡ false) → prefix_len p (t ++ rest) ≡ length t
run_ends p [] [] h f = refl
run_ends p [] (b ∷ bs) h f = rw (f (omega arith)) refl
run_ends p (b ∷ bs) rest h f = let parts = and_parts (p b) (list_all p bs) h in rw (parts.0, run_ends p bs rest parts.1 f) (omega arith)

pub run_first : (p : ℕ → Bool) (text : Text) → 0 < length text → p (slice_index text 0) ≡ true → 0 < prefix_len p text
run_first p [] l e = absurd (omega arith)
run_first p (b ∷ bs) l e = rw e (omega arith)

module _ (c : Class) (text : Text) where
  pub longest_run : 0 < prefix_len (is_in c) text → IsLongest (IsRun c) text (take (prefix_len (is_in c) text) text)
  longest_run h =
      let len = length-prefix_len (is_in c) text in
      record {
        spells = (omega arith, run_passes (is_in c) text);
        front = begins_take (prefix_len (is_in c) text) text;
        longest = λ t b r. omega (arith, run_within (is_in c) text t b r.1);
      }

  pub longest_run_len : (s : Text) → IsLongest (IsRun c) text s → length s ≡ prefix_len (is_in c) text
  longest_run_len s l =
      let below = run_within (is_in c) text s l.front l.spells.1 in
      let some = l.spells.0 in
      let above = l.longest (take (prefix_len (is_in c) text) text) (begins_take (prefix_len (is_in c) text) text) (longest_run (omega arith)).spells in
      let len = length-prefix_len (is_in c) text in
      omega arith
