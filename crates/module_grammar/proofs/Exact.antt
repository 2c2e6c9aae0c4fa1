-- A parser of whole chunks, beside what they stand for.
use Rattle.std.proofs.Common.{◌≡◌, ◌≤◌, suc, nat_le, Bool, true, false, if◌then◌else◌, List, [], ◌∷◌, Some, None, refl, sym, ◌∙◌, ap, subst, append-nil}
use Rattle.std.proofs.lemmas.Bool.{leb-true, le-leb}
use Rattle.elm_base.specs.Lexemes.{Lexeme}
use Rattle.elm_base.specs.declared.tree.Declaration.{Declaration}
use Rattle.grammar.specs.declared.terminal.Terminal.{Terminal}
use Rattle.grammar.specs.Terminals.{terminal, starts}
use Rattle.grammar.specs.Rules.{Rule}
use Rattle.grammar.specs.Reader.{Parser, is_done, stands_in}
use Rattle.grammar.proofs.Laws.{Reading, Begins, apart, apart_has, ok_same, then_ok}
use Rattle.tree_nesting.specs.Nesting.{max_nesting}
use Rattle.tree_nesting.specs.ExpressionNesting.{declaration_nesting}
use Rattle.expr_grammar.specs.ExprReader.{below}
use Rattle.module_grammar.specs.Declarations as g
use Rattle.module_grammar.specs.Declarations.{DerivesDeclaration}
use Rattle.module_grammar.specs.DeclarationReader as m
use Rattle.module_grammar.specs.DeclarationReader.{line, whole}
use Rattle.module_grammar.specs.Modules.{Line}
use Rattle.module_grammar.specs.ModuleReader.{declaration_line}
use Rattle.module_grammar.proofs.DeclarationReadings.{header_reads, import_reads}
use Rattle.module_grammar.proofs.DeclarationLaws.{decides}

-- it gives what derives, and all of it
pub record Exact {A : Type 0} (D : List Lexeme → A → Type 0) (p : Parser A) : Type 0 where
  pub sound : (ts rest : List Lexeme) (x : A) → p ts ≡ Some (x, rest) → D ts x
  pub complete : (ts : List Lexeme) (x : A) → D ts x → p ts ≡ Some (x, [])

module _ {A : Type 0} (p : Parser A) where
  ended : (us : List Lexeme) (y : A) (z : A × List Lexeme) → (if is_done us then Some (y, us) else None) ≡ Some z → (us ≡ []) × (y ≡ z.0)
  ended [] y z e = (refl, ap (λ q. q.0) (ok_same e))
  ended (t ∷ us) y z e = cc

  whole_sound : (ts rest : List Lexeme) (x : A) → whole p ts ≡ Some (x, rest) → p ts ≡ Some (x, [])
  whole_sound ts rest x e =
      let a = then_ok (p ts) (λ y us. if is_done us then Some (y, us) else None) (x, rest) e in
      let z = ended a.0.1 a.0.0 (x, rest) a.2 in
      a.1 ∙ ap (λ q. Some (q, a.0.1)) z.1 ∙ ap (λ q. Some (x, q)) z.0

  line_sound : (ts rest : List Lexeme) (x : A) → line p ts ≡ Some (x, rest) → (stands_in 1 ts ≡ true) × (p ts ≡ Some (x, []))
  line_sound ts rest x e = go (stands_in 1 ts) refl e
    where
      go : (b : Bool) → stands_in 1 ts ≡ b → (if b then whole p ts else None) ≡ Some (x, rest) → (stands_in 1 ts ≡ true) × (p ts ≡ Some (x, []))
      go true h e = (h, whole_sound ts rest x e)
      go false h e = cc

  line_complete : (ts : List Lexeme) (x : A) → stands_in 1 ts ≡ true → p ts ≡ Some (x, []) → line p ts ≡ Some (x, [])
  line_complete ts x h e = rw (h, e)

line_exact : {A : Type 0} {P : Rule A} {p : Parser A} {e : Bool} {f more : List Terminal} → Reading P p e f more → Exact (Line P) (line p)
line_exact {P = P} {p = p} r = record {
  sound = λ ts rest x e.
      let l = line_sound p ts rest x e in
      let s = r.sound.reads ts [] x l.1 in (l.0, subst (λ (z : List Lexeme). P z x) (sym (s.1 ∙ append-nil s.0)) s.2);
  complete = λ ts x w. line_complete p ts x w.0 (sym (ap p (append-nil ts)) ∙ r.complete ts [] x w.1 refl);
}

pub header_exact : Exact (Line g.header) (line m.header)
header_exact = line_exact header_reads

pub import_exact : Exact (Line g.import_) (line m.import_)
import_exact = line_exact import_reads

-- a declaration that nests within the limit
abbrev pub Nested : List Lexeme → Declaration → Type 0
Nested ts x = Line DerivesDeclaration ts x × (declaration_nesting x ≤ max_nesting)

pub declaration_exact : Exact Nested (declaration_line (suc max_nesting))
unfolding declaration_line
declaration_exact = record {
  sound = λ ts rest x e.
      let d = decides max_nesting in
      let a = then_ok (line (m.declaration (below (suc max_nesting))) ts) (λ y us. if nat_le (declaration_nesting y) max_nesting then Some (y, us) else None) (x, rest) e in
      let z = passed (nat_le (declaration_nesting a.0.0) max_nesting) a.0 (x, rest) a.2 in
      let l = line_sound (m.declaration (below (suc max_nesting))) ts a.0.1 a.0.0 a.1 in
      let n : declaration_nesting a.0.0 ≤ max_nesting = leb-true (declaration_nesting a.0.0) max_nesting z.0 in
      let s : DerivesDeclaration ts a.0.0 = d.sound ts [] a.0.0 l.1 refl in
      subst (λ (y : Declaration × List Lexeme). Nested ts y.0) z.1 ((l.0, s), n);
  complete = λ ts x w.
      let d = decides max_nesting in
      let l = line_complete (m.declaration (below (suc max_nesting))) ts x w.0.0 (d.complete ts x w.0.1 w.1) in rw (l, le-leb (declaration_nesting x) max_nesting w.1);
}
  where
    passed : (b : Bool) (x y : Declaration × List Lexeme) → (if b then Some (x.0, x.1) else None) ≡ Some y → (b ≡ true) × (x ≡ y)
    passed true x y h = (refl, ok_same h)
    passed false x y h = cc

-- ---- what chunks begin with

pub begun : (f set : List Terminal) (ts : List Lexeme) → apart f set ≡ true → Begins false f ts → starts set ts ≡ false
begun f set [] a b = cc
begun f set (t ∷ ts) a b = apart_has f set (terminal t) a b
