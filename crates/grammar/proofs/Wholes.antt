-- What is answered of a whole list of tokens, by a parser that gives each tree within a limit.
use Rattle.std.proofs.Common.{◌≡◌, ◌≢◌, ℕ, ◌≤◌, Bool, true, List, [], Some, None, Ok, Err, refl, sym, ◌∙◌, ap, subst}
use Rattle.std.specs.Prelude.{◌↔◌, IsTrue, Result, IfOk, IfErr, MatchResult}
use Rattle.elm_base.specs.Lexemes.{Lexeme}
use Rattle.elm_base.specs.declared.memory.Halt.{Halt}
use Rattle.elm_base.specs.declared.memory.Halt.TheVariants as halt
use Rattle.grammar.specs.declared.cursor.NoTree.{NoTree}
use Rattle.grammar.specs.Reader.{Parser, is_done}
use Rattle.grammar.specs.Wholes.{Entire}
use Rattle.grammar.proofs.Laws.{ok_same}

-- the parser gives what derives, and gives all that derives within the limit
pub record Decides {X : Type 0} (Derives : List Lexeme → X → Type 0) (nesting : X → ℕ) (limit : ℕ) (p : Parser X) : Type 0 where
  pub sound : (ts rest : List Lexeme) (x : X) → p ts ≡ Some (x, rest) → is_done rest ≡ true → Derives ts x
  pub complete : (ts : List Lexeme) (x : X) → Derives ts x → nesting x ≤ limit → p ts ≡ Some (x, [])

pub record Answered {X : Type 0} (Derives : List Lexeme → X → Type 0) (nesting : X → ℕ) (limit : ℕ) (ts : List Lexeme) (r : Result X (Halt NoTree)) : Type 0 where
  pub derives : IfOk r (λ x. Derives ts x)
  pub nests : IfOk r (λ x. nesting x ≤ limit)
  pub found : (x : X) → Derives ts x → nesting x ≤ limit → MatchResult r (λ y. y ≡ x) (λ cause. cause ≡ halt.NoMemory)
  pub refused : IfErr r (λ cause. cause ≢ halt.NoMemory → (x : X) → Derives ts x → nesting x ≤ limit → ⊥)

module _ {X : Type 0} {Derives : List Lexeme → X → Type 0} {nesting : X → ℕ} {limit : ℕ} {p : Parser X} (d : Decides Derives nesting limit p) where
  only_memory : (ts : List Lexeme) (cause : Halt NoTree) → (cause ≢ halt.NoMemory → p ts ≡ None) → (x : X) → Derives ts x → nesting x ≤ limit → cause ≡ halt.NoMemory
  only_memory ts halt.NoMemory e x w h = refl
  only_memory ts (halt.Because reason) e x w h =
      let a = e (λ z. cc) in
      let b = d.complete ts x w h in cc

  pub none_answered : (ts : List Lexeme) (cause : Halt NoTree) → (cause ≢ halt.NoMemory → p ts ≡ None) → Answered Derives nesting limit ts (Err cause)
  none_answered ts cause e = record {
    derives = tt;
    nests = tt;
    found = λ x w h. only_memory ts cause e x w h;
    refused = λ other x w h. other (only_memory ts cause e x w h);
  }

  read_as : (ts rest : List Lexeme) (x y : X) → p ts ≡ Some (y, rest) → Derives ts x → nesting x ≤ limit → (y ≡ x) × (rest ≡ [])
  read_as ts rest x y e w h = let is = ok_same (sym e ∙ d.complete ts x w h) in (ap (λ z. z.0) is, ap (λ z. z.1) is)

  -- what is read is answered where no token is left and it nests within the limit
  pub one_answered : (ts rest : List Lexeme) (y : X) (nests : Bool) (r : Result X (Halt NoTree)) → p ts ≡ Some (y, rest) → IsTrue nests ↔ (nesting y ≤ limit)
      → Entire (is_done rest) nests y r → Answered Derives nesting limit ts r
  one_answered ts rest y nests (Ok given) e both is = record {
    derives = subst (Derives ts) (sym is.2) (d.sound ts rest y e is.0);
    nests = subst (λ (z : X). nesting z ≤ limit) (sym is.2) (both.0 is.1);
    found = λ x w h. is.2 ∙ (read_as ts rest x y e w h).0;
    refused = tt;
  }
  one_answered ts rest y nests (Err cause) e both is =
      let none : (x : X) → Derives ts x → nesting x ≤ limit → ⊥ =
      λ x w h.
      let same = read_as ts rest x y e w h in
      let so = both.1 (subst (λ (z : X). nesting z ≤ limit) (sym same.0) h) in
      let done = ap is_done same.1 in cc
      in
      record {
        derives = tt;
        nests = tt;
        found = λ x w h. absurd (none x w h);
        refused = λ other x w h. none x w h;
      }
