-- In a module that derives, each annotation stands directly before the definition of its name.
use Rattle.std.proofs.Common.{◌≡◌, ℕ, nat_eq, Bool, true, false, ◌&&◌, ◌⊎◌, inl, inr, List, [], ◌∷◌, ◌++◌, Some, None, refl, sym, ◌∙◌, ap}
use lib.Pointwise.{pointwise}
use Rattle.elm_base.specs.Lexemes.{Lexeme}
use Rattle.elm_base.specs.declared.tree.Import.{Import}
use Rattle.elm_base.specs.declared.tree.Module.{Module}
use Rattle.elm_base.specs.declared.tree.Set.{Set}
use Rattle.elm_base.specs.declared.tree.Expr.{Expr}
use Rattle.elm_base.specs.declared.tree.Declaration.{Declaration, out-Declaration}
use Rattle.elm_base.specs.declared.tree.Declaration.TheVariants as d
use Rattle.elm_base.specs.declared.tree.Declaration.TheOpen as open_
use Rattle.grammar.specs.declared.terminal.Terminal.TheVariants as k
use Rattle.grammar.specs.Terminals.{same_terminal, starts}
use Rattle.grammar.specs.Reader as reader
use Rattle.grammar.proofs.Laws.{and_true, not_true}
use Rattle.expr_grammar.specs.Expressions as exprs
use Rattle.expr_grammar.specs.Expressions.{annotated_name, defined_name, is_some_of, defines, annotations_stand}
use Rattle.expr_grammar.proofs.ExprReadings as expressions
use Rattle.expr_grammar.proofs.ExprReadings.{tree_reads}
use Rattle.module_grammar.specs.Declarations as g
use Rattle.module_grammar.specs.Declarations.{DerivesDeclaration, rules_at}
use Rattle.module_grammar.specs.DeclarationReader as m
use Rattle.module_grammar.specs.DeclarationReader.{own_name, levels_begin}
use Rattle.module_grammar.specs.Modules.{Chunk, Line, is_named, begins_definition, stands_layer, Declares, Continues, Stands}
use Rattle.module_grammar.proofs.DeclarationReadings.{own_name_reads, type_declaration_reads, port_reads, levels_read}
use Rattle.module_grammar.proofs.Exact.{begun}
use Rattle.module_grammar.proofs.ModuleLaws.{begun_so}

no_name : (c : Chunk) → starts (k.Lower ∷ []) c ≡ false → starts (k.LeftParen ∷ []) c ≡ false → own_name c ≡ None
unfolding m.own_name m.bracketed reader.spelled
no_name c a b = rw (a, b) refl

none_starts : (vs : List Lexeme) → starts [] vs ≡ false
none_starts [] = refl
none_starts (t ∷ vs) = refl

unnamed : (name : List ℕ) (c : Chunk) (P : Type 0) → own_name c ≡ None → is_named name (own_name c) ≡ true → P
unnamed name c P e h = let same = ap (is_named name) e in cc

-- a chunk that begins with the name, and without a colon behind it, defines the name
abbrev Defines : List ℕ → Declaration → Type 0
Defines name x = is_some_of name (defined_name (out-Declaration x)) ≡ true

named : (name : List ℕ) (depth : ℕ) (c : Chunk) (x : Declaration) → g.named_declaration (rules_at depth) c x → is_named name (own_name c) ≡ true → Defines name x
unfolding same_terminal
named name depth c x w h =
    let s = w.1.1 in
    let us = s.0 in
    let vs = s.1 in
    let read : own_name c ≡ Some (w.0.1.0, vs) = ap own_name s.2 ∙ own_name_reads.complete us vs w.0.1.0 s.3 (none_starts vs) in
    let so = and_true _ _ (sym (ap (is_named name) read) ∙ h) in
    go s.4 so.0 (not_true _ so.1)
  where
    go : exprs.annotated (rules_at depth) w.1.1.1 w.0.1.1 ⊎ exprs.defined (rules_at depth) w.1.1.1 w.0.1.1 → pointwise nat_eq name w.0.1.0 ≡ true → starts (k.Colon ∷ []) w.1.1.1 ≡ false → Defines name x
    go (inl a) same none =
        let t = tree_reads depth in
        let r = expressions.annotated_reads depth t.whole t.closed t.signed t.inner t.named in
        let colon = begun_so (k.Colon ∷ []) w.1.1.1 (r.begins w.1.1.1 w.0.1.1 a) in cc
    go (inr a) same none =
        let shape : x ≡ d.Definition w.0.0 w.0.1.0 a.0.0 a.0.1 = w.2 ∙ ap (λ f. f w.0.0 w.0.1.0) a.2 in
        let out = ap (λ z. is_some_of name (defined_name (out-Declaration z))) shape ∙ ap (λ l. is_some_of name (defined_name l)) (d.outs-Definition w.0.0 w.0.1.0 a.0.0 a.0.1) in
        out ∙ same

defines_it : (name : List ℕ) (c : Chunk) (x : Declaration) → Line DerivesDeclaration c x → is_named name (own_name c) ≡ true → Defines name x
unfolding same_terminal
defines_it name c x (at, (depth, inl w)) h =
    let r = type_declaration_reads depth in
    let b = r.begins c x w in
    unnamed name c (Defines name x) (no_name c (begun (k.Type ∷ []) (k.Lower ∷ []) c refl b) (begun (k.Type ∷ []) (k.LeftParen ∷ []) c refl b)) h
defines_it name c x (at, (depth, inr (inl w))) h =
    let r = port_reads depth in
    let b = r.begins c x w in
    unnamed name c (Defines name x) (no_name c (begun (k.Port ∷ []) (k.Lower ∷ []) c refl b) (begun (k.Port ∷ []) (k.LeftParen ∷ []) c refl b)) h
defines_it name c x (at, (depth, inr (inr (inl w)))) h =
    let b = levels_read.begins c x w in
    unnamed name c (Defines name x) (no_name c (begun levels_begin (k.Lower ∷ []) c refl b) (begun levels_begin (k.LeftParen ∷ []) c refl b)) h
defines_it name c x (at, (depth, inr (inr (inr w)))) h = named name depth c x w h

before_it : (before : List Declaration) (cs : List Chunk) (xs : List Declaration) (name : List ℕ) → Declares before cs xs → begins_definition name cs ≡ true → defines name xs ≡ true
before_it before [] xs name w h = cc
before_it before (c ∷ cs) [] name w h = absurd w
before_it before (c ∷ cs) (x ∷ xs) name w h = defines_it name c x w.0 h

leads : (before : List Declaration) (cs : List Chunk) (xs : List Declaration) → Declares before cs xs → annotations_stand xs ≡ true
leads before [] [] w = refl
leads before [] (x ∷ xs) w = absurd w
leads before (c ∷ cs) [] w = absurd w
leads before (c ∷ cs) (x ∷ xs) w = both (one (out-Declaration x) w.1) (leads (before ++ x ∷ []) cs xs w.2)
  where
    both : {a b : Bool} → a ≡ true → b ≡ true → (a && b) ≡ true
    both e f = rw (e, f) refl

    one : (l : open_.Declaration-F Declaration Expr Set) → stands_layer before cs l ≡ true → exprs.stands (annotated_name l) xs ≡ true
    one (open_.Annotation at name written) h = before_it (before ++ x ∷ []) cs xs name w.2 h
    one (open_.Union at name parameters constructors) h = refl
    one (open_.Alias at name parameters written) h = refl
    one (open_.Definition at name patterns body) h = refl
    one (open_.PatternDefinition at pattern body) h = refl
    one (open_.PortAnnotation at name written) h = refl
    one (open_.PortDefinition at name body) h = refl
    one (open_.Levels at side level operator) h = refl
    one (open_.Native at name written number) h = refl
    one (open_.Device at name written) h = refl
    one (open_.Opaque at name parameters) h = refl

continues_leads : (cs : List Chunk) (is : List Import) (xs : List Declaration) → Continues cs is xs → annotations_stand xs ≡ true
continues_leads cs [] xs w = leads [] cs xs w
continues_leads [] (i ∷ is) xs w = absurd w
continues_leads (c ∷ cs) (i ∷ is) xs w = continues_leads cs is xs w.1

pub annotations_lead : (cs : List Chunk) (x : Module) → Stands cs x → annotations_stand x.declarations ≡ true
annotations_lead cs x (h, is, xs, e, inl w) = ap (λ (z : Module). annotations_stand z.declarations) e ∙ continues_leads cs is xs w.1
annotations_lead cs x (h, is, xs, e, inr (c, rest, shape, w, v)) = ap (λ (z : Module). annotations_stand z.declarations) e ∙ continues_leads rest is xs v
