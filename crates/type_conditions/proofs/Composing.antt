-- One growth after the other.
use Rattle.std.proofs.Common.{◌≡◌, ℕ, List, [], ◌∷◌, ◌++◌, ◌↔◌, length, refl, sym, ◌∙◌, ap, arith, Result, Ok, Err, IfOk}
use Rattle.elm_typing.specs.Ground.{Ground}
use Rattle.elm_typing.specs.Sorts.{Sort}
use Rattle.type_terms.specs.Solutions.{Assignment}
use Rattle.type_unify.specs.Taken.{Agree}
use Rattle.type_conditions.specs.Conditions.{Asked, terms_in}
use Rattle.type_conditions.specs.Judging.{Grows, Adds, Judgement}

append_nothing : {A : Type 0} (l : List A) → l ++ [] ≡ l
append_nothing [] = refl
append_nothing (x ∷ xs) = ap (λ t. x ∷ t) (append_nothing xs)

append_again : {A : Type 0} (xs ys zs : List A) → (xs ++ ys) ++ zs ≡ xs ++ (ys ++ zs)
append_again [] ys zs = refl
append_again (x ∷ xs) ys zs = ap (λ t. x ∷ t) (append_again xs ys zs)

pub grows-itself : (asked : Asked) → Grows asked asked
grows-itself asked = record {
  sound = λ chosen s h. h;
  types = λ i t. t;
  longer = omega arith;
  behind = ([], refl);
  after = ([], sym (append_nothing asked.proper));
}

pub grows-on : (a b c : Asked) → Grows a b → Grows b c → Grows a c
grows-on a b c f g = record {
  sound = λ chosen s h. f.sound chosen s (g.sound chosen s h);
  types = λ i t. g.types i (f.types i t);
  longer = (let x = f.longer in let y = g.longer in omega (arith, x, y));
  behind = (g.behind.0 ++ f.behind.0, g.behind.1 ∙ ap (λ l. g.behind.0 ++ l) f.behind.1 ∙ sym (append_again g.behind.0 f.behind.0 a.states));
  after = (f.after.0 ++ g.after.0, g.after.1 ∙ ap (λ l. l ++ g.after.0) f.after.1 ∙ append_again a.proper f.after.0 g.after.0);
}

-- what agrees up to a later point agrees up to an earlier one
pub agree-less : (a b : Asked) (s r : Assignment) → Grows a b → Agree (length (terms_in b)) s r → Agree (length (terms_in a)) s r
agree-less a b s r g h = λ i lt. h i (let x = g.longer in omega (arith, x, lt))

pub agree-on : (n : ℕ) (s r q : Assignment) → Agree n s r → Agree n r q → Agree n s q
agree-on n s r q h k = λ i lt. h i lt ∙ k i lt

-- a judgement that says the same
pub adds-same : (old new : Asked) (P Q : Judgement) (at : ℕ) → ((chosen : ℕ → Sort) (s : Assignment) (type : Ground) → P chosen s type ↔ Q chosen s type) → Adds old new P at → Adds old new Q at
adds-same old new P Q at same a = record {
  grows = a.grows;
  has = λ chosen s h. (same chosen s (s at)).0 (a.has chosen s h);
  complete = λ chosen s type h q. a.complete chosen s type h ((same chosen s type).1 q);
  is_type = a.is_type;
}

pub if_ok-map : {A E : Type 0} (r : Result A E) (P Q : A → Type 0) → ((a : A) → P a → Q a) → IfOk r P → IfOk r Q
if_ok-map (Ok a) P Q f h = f a h
if_ok-map (Err e) P Q f h = tt
