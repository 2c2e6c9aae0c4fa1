-- How an item's tokens are joined with those behind it.
use Rattle.std.proofs.Common.{◌≡◌, ◌≢◌, ℕ, zero, suc, ◌+◌, ◌≤◌, true, false, if◌then◌else◌, List, [], ◌∷◌, ◌++◌, length, take, drop, take-append-drop, length-take, ◌-◌, ltb, sym, ◌∙◌, ap, subst, append_assoc, arith, length-append, Some, None}
use Rattle.std.proofs.Math.Seq.{drop-append_seam}
use Rattle.elm_base.specs.declared.memory.Halt.{Halt}
use Rattle.elm_base.specs.declared.memory.Halt.TheVariants as halt
use Rattle.elm_base.specs.Lexemes.{Lexeme}
use Rattle.grammar.specs.declared.cursor.NoTree.{NoTree}
use Rattle.grammar.specs.Rules.{Rule}
use Rattle.grammar.specs.Reader.{Parser, item, extent, right}
use Rattle.grammar.proofs.Laws.{Sound, then_ok, ok_same}
use Rattle.grammar.proofs.Turns.{Takes}

pub item_takes : {A : Type 0} (column : ℕ) (p : Parser A) → Takes p → Takes (item column p)
unfolding item
item_takes {A} column p t ts rest x e =
    let n = extent column ts in
    let a = then_ok (p (take n ts)) (λ x us. Some (x, us ++ drop n ts)) (x, rest) e in
    let is = ap (λ z. length z.1) (ok_same a.2) in
    let less = t (take n ts) a.0.1 a.0.0 a.1 in
    let whole = ap length (take-append-drop n ts) in
    omega (arith, length-append a.0.1 (drop n ts), length-append (take n ts) (drop n ts))

-- ---- how an item's tokens are joined with those behind them

extent_within : (column : ℕ) (ts : List Lexeme) → extent column ts ≤ length ts
extent_within column [] = omega arith
extent_within column (t ∷ ts) = omega (arith, counts ts)
  where
    counts : (ts : List Lexeme) → right column ts ≤ length ts
    counts [] = omega arith
    counts (t ∷ ts) = elim (ltb column t.at.column) as (λ b. (if b then suc (right column ts) else zero) ≤ suc (length ts)) [ true ↦ omega (arith, counts ts) | false ↦ omega arith ]

module _ {A : Type 0} {P : Rule A} {p : Parser A} (r : Sound P p) (column : ℕ) (ts left : List Lexeme) (x : A)
    (e : p (take (extent column ts) ts) ≡ Some (x, left)) where
  pub left_within : length left ≤ extent column ts
  left_within =
      let s = r.reads (take (extent column ts) ts) left x e in
      let whole = ap length s.1 in
      omega (arith, length-append s.0 left, length-take (extent column ts) ts)

  pub item_joins : item column p ts ≡ Some (x, drop (extent column ts - length left) ts)
  unfolding item
  item_joins =
      let n = extent column ts in
      let s = r.reads (take n ts) left x e in
      let whole : length (take n ts) ≡ length s.0 + length left = ap length s.1 ∙ length-append s.0 left in
      let used : n - length left ≡ length s.0 = omega (arith, length-take n ts, extent_within column ts) in
      let all : ts ≡ s.0 ++ (left ++ drop n ts) = sym (take-append-drop n ts) ∙ ap (λ z. z ++ drop n ts) s.1 ∙ append_assoc s.0 left (drop n ts) in
      let rest : drop (n - length left) ts ≡ left ++ drop n ts =
      ap (λ i. drop i ts) used ∙ ap (drop (length s.0)) all ∙ drop-append_seam s.0 (left ++ drop n ts) in
      rw (e, rest)

-- as the code has it: the length, the front and what was left of it by name
pub item_end : {A : Type 0} {P : Rule A} {p : Parser A} (r : Sound P p) (column len : ℕ) (ts front left : List Lexeme) (x : A)
    → len ≡ extent column ts → front ≡ take len ts → p front ≡ Some (x, left) → (length left ≤ len) × (item column p ts ≡ Some (x, drop (len - length left) ts))
item_end {p = p} r column len ts front left x l h e =
    let read : p (take (extent column ts) ts) ≡ Some (x, left) = ap p (sym (h ∙ ap (λ n. take n ts) l)) ∙ e in (
      subst (λ (n : ℕ). length left ≤ n) (sym l) (left_within r column ts left x read),
      item_joins r column ts left x read ∙ ap (λ n. Some (x, drop (n - length left) ts)) (sym l),
    )

pub item_err : {A : Type 0} (p : Parser A) (column len : ℕ) (ts front : List Lexeme) (d : Halt NoTree)
    → len ≡ extent column ts → front ≡ take len ts → (d ≢ halt.NoMemory → p front ≡ None) → d ≢ halt.NoMemory → item column p ts ≡ None
unfolding item
item_err p column len ts front d l h e o =
    let read : p (take (extent column ts) ts) ≡ None = ap p (sym (h ∙ ap (λ n. take n ts) l)) ∙ e o in
    rw read
