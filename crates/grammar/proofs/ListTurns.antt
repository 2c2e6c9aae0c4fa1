-- What a function value reads of a list takes a token at least.
use Rattle.std.proofs.Common.{◌≡◌, false, List, [], ◌∷◌, ◌++◌, length, ap, arith, length-append, Some}
use Rattle.elm_base.specs.Lexemes.{Lexeme}
use Rattle.grammar.specs.declared.terminal.Terminal.{Terminal}
use Rattle.grammar.specs.Rules.{Rule}
use Rattle.grammar.specs.Reader.{Parser, and_then, mark, ◌⊗◌, ◌▷◌}
use Rattle.grammar.specs.Lists.{TakesSome}
use Rattle.grammar.proofs.Laws as laws
use Rattle.grammar.proofs.Laws.{Reading, Sound, Begins, then_ok, ok_same}
use Rattle.grammar.proofs.Turns.{Takes, takes}

pub shorter : {A : Type 0} {p : Parser A} → TakesSome p → Takes p
shorter t ts rest x e =
    let front = t ts rest x e in
    omega (arith, ap length front.2, length-append front.1 rest)

pub takes_some : {A : Type 0} {P : Rule A} {p : Parser A} {f m : List Terminal} → Reading P p false f m → TakesSome p
takes_some {f = f} r ts rest x e = let s = r.sound.reads ts rest x e in go s.0 s.1 (r.begins s.0 x s.2)
  where
    go : (us : List Lexeme) → ts ≡ us ++ rest → Begins false f us → (t : Lexeme) × (us : List Lexeme) × (ts ≡ t ∷ (us ++ rest))
    go [] is b = cc
    go (t ∷ us) is b = (t, us, is)

-- of what stands behind a mark
pub behind_takes : {A : Type 0} {p : Parser A} (symbol : Terminal) → Takes p → Takes (mark symbol ▷ p)
behind_takes {p = p} symbol t ts rest x e =
    let o = then_ok (◌⊗◌ (mark symbol) p ts) (λ y us. Some (y.1, us)) (x, rest) e in
    let a = then_ok (mark symbol ts) (λ a us. and_then (p us) (λ b vs. Some ((a, b), vs))) o.0 o.1 in
    let c = then_ok (p a.0.1) (λ b vs. Some ((a.0.0, b), vs)) o.0 a.2 in
    let first = takes (laws.mark symbol) ts a.0.1 a.0.0 a.1 in
    let second = t a.0.1 c.0.1 c.0.0 c.1 in
    let inner = ap (λ z. length z.1) (ok_same c.2) in
    let outer = ap (λ z. length z.1) (ok_same o.2) in
    omega (arith, inner, outer)

pub taken : {A : Type 0} {p : Parser A} → TakesSome p → Sound (λ us x. Unit {0}) p
taken t = record { reads = λ ts rest x e. let front = t ts rest x e in (front.0 ∷ front.1, front.2, tt) }
