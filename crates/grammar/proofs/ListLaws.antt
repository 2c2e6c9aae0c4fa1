-- What lists of items read.
use Rattle.std.proofs.Common.{◌≡◌, true, false, List, [], ◌∷◌, ◌++◌, refl}
use Rattle.grammar.specs.declared.terminal.Terminal.{Terminal}
use Rattle.grammar.specs.declared.terminal.Terminal.TheVariants as k
use Rattle.grammar.specs.Terminals.{same_terminal}
use Rattle.grammar.specs.Rules as rule
use Rattle.grammar.specs.Rules.{Rule}
use Rattle.grammar.specs.Reader.{Parser}
use Rattle.grammar.specs.Lists as lists
use Rattle.grammar.proofs.Laws.{Reading, apart, firsts, mores, by, seq, mark, many}

apart_none : (f : List Terminal) → apart f [] ≡ true
apart_none [] = refl
apart_none (x ∷ xs) = apart_none xs

pub some : {A : Type 0} {P : Rule A} {p : Parser A} {f m : List Terminal} → Reading P p false f m → apart f m ≡ true
    → Reading (rule.some P) (lists.some f p) false (firsts false f f) (mores true m (f ++ m))
unfolding lists.some
some r a = by _ (seq r (many r a) a)

pub separated : {A : Type 0} {P : Rule A} {p : Parser A} {f m : List Terminal} → Reading P p false f m
    → apart (k.Comma ∷ []) (mores false [] m) ≡ true → apart (k.Comma ∷ []) m ≡ true
    → Reading (rule.separated P) (lists.separated p) false (firsts false f (k.Comma ∷ [])) (mores true m (k.Comma ∷ mores false [] m))
unfolding lists.separated same_terminal
separated {f = f} r b a = by _ (seq r (many (by _ (seq (mark k.Comma) r (apart_none f))) b) a)
