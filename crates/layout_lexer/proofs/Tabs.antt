-- Tabs, as they are searched and as they are defined.
use Rattle.std.proofs.Common.{◌≡◌, ℕ, suc, ◌+◌, ◌<◌, Bool, true, false, ◌||◌, [], ◌∷◌, ◌++◌, length, get_or, take, drop, refl, sym, ap, ◌∙◌, arith, take-append-drop, length-take, get_or-take, eqb}
use Rattle.std.specs.Str.{IsUtf8}
use Rattle.std.proofs.lemmas.Bool.{eqb-true}
use Rattle.std.proofs.lemmas.List.{drop_more}
use Rattle.memchr.specs.Find.{Nowhere, NoneBefore, Passes, is_byte}
use Rattle.elm_base.specs.declared.fault.FaultKind.TheVariants as fault
use Rattle.layout_lexer.specs.Chars.{Text, is_among}
use Rattle.layout_lexer.specs.Places.{fault_after}
use Rattle.layout_lexer.specs.Cuts.{HasNoTab, HasTab}

none_from_all : (text : Text) → ((k : ℕ) → k < length text → eqb (get_or text k 0) 9 ≡ true → ⊥) → HasNoTab text
none_from_all [] f = refl
none_from_all (b ∷ bs) f = go (eqb b 9) refl (none_from_all bs (λ k l h. f (suc k) (omega arith) h))
  where
    go : (t : Bool) → eqb b 9 ≡ t → HasNoTab bs → (eqb b 9 || is_among bs 9) ≡ false
    go true e more = absurd (f 0 (omega arith) e)
    go false e more = rw e more

pub no_tab : (text : Text) → Nowhere (Passes (is_byte 9) text) 0 (length text) → HasNoTab text
no_tab text f = none_from_all text (λ k l h. f k (omega arith) l h)

pub first_tab : (text : Text) (k : ℕ) → IsUtf8 text → NoneBefore (Passes (is_byte 9) text) 0 (length text) k → Passes (is_byte 9) text k → HasTab text (fault_after (take k text) fault.Tab)
first_tab text k utf8 none here = record {
  utf8 = utf8;
  before = take k text;
  after = drop (k + 1) text;
  split = sym (take-append-drop k text) ∙ ap (λ t. take k text ++ t) (drop_more text k 0 none.high ∙ ap (λ b. b ∷ drop (k + 1) text) (eqb-true (get_or text k 0) 9 here));
  first = none_from_all (take k text) (λ i l h.
      let less : i < k = omega (arith, length-take k text) in
      none.before i (omega arith) less (sym (ap (λ b. eqb b 9) (get_or-take k text i 0 less)) ∙ h));
  same = refl;
}
