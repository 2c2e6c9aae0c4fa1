-- What the loops of the reader leave to show.
use Rattle.std.proofs.Common.{◌≡◌, ◌≢◌, ◌<◌, ◌≤◌, ◌+◌, ◌-◌, ◌==◌, Bool, true, false, true≢false, MatchBool, ℕ, zero, suc, arith, List, [], ◌∷◌, ◌++◌, Some, None, refl, sym, ◌∙◌, ap}
use Rattle.std.proofs.lemmas.List.{append-nil, append_assoc}
use Rattle.elm_base.specs.declared.memory.Halt.{Halt}
use Rattle.elm_base.specs.declared.memory.Halt.TheVariants as halt
use Rattle.port_texts.specs.declared.read.BadPortText.{BadPortText}
use Rattle.port_texts.specs.Reader.{Text, Outcome, Reader, and_then, under, behind, mark, one_more, more, closed, behind_found}

module _ {A : Type 0} (start : Text) (item : Reader A) where
  -- there is one turn or more
  unrolled : (n : ℕ) (left : Text) → 0 < n → more start item n left ≡ one_more item (more start item (n - 1)) (behind start left) left
  unrolled zero left h = absurd (omega (arith, h))
  unrolled (suc n) left h = ap (λ k. one_more item (more start item k) (behind start left) left) (fewer n) where
    fewer : (k : ℕ) → k ≡ suc k - 1
    fewer k = omega arith

  -- nothing more stands there
  pub none_more : (n : ℕ) (left : Text) → behind start left ≡ None → more start item n left ≡ Some ([], left)
  none_more zero left h = refl
  none_more (suc n) left h = ap (λ found. one_more item (more start item n) found left) h

  fewer_by_one : (end turn : ℕ) → end - turn - 1 ≡ end - (turn + 1)
  fewer_by_one end turn = omega arith

  some_turns : (end turn : ℕ) → turn < end → 0 < end - turn
  some_turns end turn h = omega (arith, h)

  pub turned : (end turn : ℕ) (left rest after : Text) (x : A) → turn < end → behind start left ≡ Some rest → item rest ≡ Some (x, after)
      → more start item (end - turn) left ≡ under (λ found. x ∷ found) (more start item (end - (turn + 1)) after)
  turned end turn left rest after x h b i =
      unrolled (end - turn) left (some_turns end turn h)
      ∙ ap (λ k. one_more item (more start item k) (behind start left) left) (fewer_by_one end turn)
      ∙ ap (λ found. one_more item (more start item (end - (turn + 1))) found left) b
      ∙ ap (λ outcome. and_then outcome (λ first left. under (λ found. first ∷ found) (more start item (end - (turn + 1)) left))) i

  pub failed : (end turn : ℕ) (left rest : Text) → turn < end → behind start left ≡ Some rest → item rest ≡ None → more start item (end - turn) left ≡ None
  failed end turn left rest h b i =
      unrolled (end - turn) left (some_turns end turn h)
      ∙ ap (λ found. one_more item (more start item (end - turn - 1)) found left) b
      ∙ ap (λ outcome. and_then outcome (λ first left. under (λ found. first ∷ found) (more start item (end - turn - 1) left))) i

  pub out_of_turns : (end turn : ℕ) (left : Text) → end - turn ≡ 0 → more start item (end - turn) left ≡ Some ([], left)
  out_of_turns end turn left h = ap (λ n. more start item n left) h

pub put_behind : {A : Type 0} (found : List A) (x : A) (outcome : Outcome (List A))
    → behind_found found (under (λ others. x ∷ others) outcome) ≡ behind_found (found ++ x ∷ []) outcome
put_behind found x None = refl
put_behind found x (Some others) = ap (λ items. Some (items, others.1)) (sym (append_assoc found (x ∷ []) others.0))

pub all_found : {A : Type 0} (found : List A) (left : Text) → behind_found found (Some ([], left)) ≡ Some (found, left)
all_found found left = ap (λ items. Some (items, left)) (append-nil found)

-- ---- what the loops leave open, with the bytes that end them

pub passed : (A B : Type 0) (r : Bool) → r ≡ true → MatchBool r A B → A
passed A B true h m = m
passed A B false h m = absurd (true≢false (sym h))

pub stopped : (A B : Type 0) (r : Bool) → r ≡ false → MatchBool r A B → B
stopped A B false h m = m
stopped A B true h m = absurd (true≢false h)

pub not_zero : (n : ℕ) → n ≢ 0 → (n == 0) ≡ false
not_zero zero h = absurd (h refl)
not_zero (suc n) h = grind arith

pub deeper : {X : Type 0} (f : ℕ → X) (n : ℕ) → n ≢ 0 → f n ≡ f (suc (n - 1))
deeper f zero h = absurd (h refl)
deeper f (suc n) h = ap f (same n) where
  same : (k : ℕ) → suc k ≡ suc (suc k - 1)
  same k = omega arith

module _ {A : Type 0} (start close : Text) (item : Reader A) (whole : Outcome (List A)) (found : List A) where
  pub loop_err : (d : Halt BadPortText) (end turn : ℕ) (left rest : Text) → turn < end → behind start left ≡ Some rest → (d ≢ halt.NoMemory → item rest ≡ None)
      → whole ≡ behind_found found (more start item (end - turn) left) → d ≢ halt.NoMemory → closed close whole ≡ None
  loop_err d end turn left rest some b i w h =
      ap (closed close) (w ∙ ap (behind_found found) (failed start item end turn left rest some b (i h)))

  pub loop_turn : (end turn : ℕ) (left rest after : Text) (x : A) → turn < end → behind start left ≡ Some rest → item rest ≡ Some (x, after)
      → whole ≡ behind_found found (more start item (end - turn) left) → whole ≡ behind_found (found ++ x ∷ []) (more start item (end - (turn + 1)) after)
  loop_turn end turn left rest after x some b i w =
      w ∙ ap (behind_found found) (turned start item end turn left rest after x some b i) ∙ put_behind found x (more start item (end - (turn + 1)) after)

  pub no_turn : (end turn : ℕ) (left last : Text) → end ≤ turn → last ≡ left → whole ≡ behind_found found (more start item (end - turn) left) → whole ≡ Some (found, last)
  no_turn end turn left last none is w =
      w ∙ ap (behind_found found) (out_of_turns start item end turn left (ended end turn none)) ∙ all_found found left ∙ ap (λ t. Some (found, t)) (sym is) where
        ended : (e t : ℕ) → e ≤ t → e - t ≡ 0
        ended e t n = omega (arith, n)

  pub nothing_there : (n : ℕ) (left last : Text) → behind start left ≡ None → last ≡ left → whole ≡ behind_found found (more start item n left) → whole ≡ Some (found, last)
  nothing_there n left last b is w =
      w ∙ ap (behind_found found) (none_more start item n left b) ∙ all_found found left ∙ ap (λ t. Some (found, t)) (sym is)

  pub at_stop : (r : Bool) (n : ℕ) (left last new : Text) → r ≡ false → MatchBool r (behind start left ≡ Some new) ((behind start left ≡ None) × (new ≡ left)) → last ≡ new
      → whole ≡ behind_found found (more start item n left) → whole ≡ Some (found, last)
  at_stop r n left last new h m is w =
      let facts = stopped _ _ r h m in
      nothing_there n left last facts.0 (is ∙ facts.1) w

  pub closes : (last rest : Text) → whole ≡ Some (found, last) → mark close last ≡ Some (tt, rest) → closed close whole ≡ Some (found, rest)
  closes last rest w m = ap (closed close) w ∙ ap (λ marked. and_then marked (λ _ left. Some (found, left))) m

  pub stays_open : (d : Halt BadPortText) (last : Text) → whole ≡ Some (found, last) → (d ≢ halt.NoMemory → mark close last ≡ None) → d ≢ halt.NoMemory → closed close whole ≡ None
  stays_open d last w m h = ap (closed close) w ∙ ap (λ marked. and_then marked (λ _ left. Some (found, left))) (m h)
