-- What is said of a module's chunks is what they stand for, or their first fault; and a list of tokens stands for at most one module.
use Rattle.std.proofs.Common.{◌≡◌, ◌≤◌, ℕ, suc, ◌+◌, nat_le, Bool, true, false, ◌&&◌, if◌then◌else◌, ◌⊎◌, inl, inr, List, [], ◌∷◌, ◌++◌, length, map, Option, Some, None, Ok, Err, refl, sym, ◌∙◌, ap, subst, append-nil, append_assoc, arith, length-append}
use Rattle.std.proofs.lemmas.Bool.{leb-false, lt-leb}
use Rattle.std.proofs.lemmas.List.{map-append}
use Rattle.elm_base.specs.Lexemes.{Lexeme}
use Rattle.elm_base.specs.declared.fault.FaultKind.TheVariants as kind
use Rattle.elm_base.specs.declared.tree.Import.{Import}
use Rattle.elm_base.specs.declared.tree.Module.{Module}
use Rattle.elm_base.specs.declared.tree.Declaration.{Declaration}
use Rattle.layout_lexer.specs.declared.place.TextFault.{TextFault}
use Rattle.grammar.specs.declared.terminal.Terminal.{Terminal}
use Rattle.grammar.specs.declared.terminal.Terminal.TheVariants as k
use Rattle.grammar.specs.Terminals.{same_terminal, starts}
use Rattle.grammar.specs.Rules.{Rule}
use Rattle.grammar.specs.Reader.{Parser, Outcome}
use Rattle.grammar.proofs.Laws.{Begins, ok_same}
use Rattle.tree_nesting.specs.Nesting.{max_nesting}
use Rattle.tree_nesting.specs.ExpressionNesting.{declaration_nesting}
use Rattle.block_sizes.specs.BlockSizes.{most_definitions, defined_at, large_declaration, present}
use Rattle.module_grammar.specs.declared.header.Header.{Header}
use Rattle.module_grammar.specs.Chunks.{chunks}
use Rattle.module_grammar.specs.Declarations as g
use Rattle.module_grammar.specs.Declarations.{DerivesDeclaration, rules_at}
use Rattle.module_grammar.specs.DeclarationReader as m
use Rattle.module_grammar.specs.DeclarationReader.{line}
use Rattle.module_grammar.specs.Modules.{Chunk, line_of, Line, fault, heads, stands, definitions, is_there, too_large, Declares, Continues, Stands, DerivesModule, Nest, NoLarge, Fit, Wrong, Right, DeclaresFault, ContinuesFault, StandsFault, FirstFault, no_header, made}
use Rattle.module_grammar.specs.ModuleReader.{Said, and_said, or_fault, declaration_line, sized, judged, declared, declarations, imports, headed, read}
use Rattle.module_grammar.proofs.DeclarationReadings.{declarations_begin, header_reads, import_reads, declaration_reads}
use Rattle.module_grammar.proofs.DeclarationLaws.{one_declaration}
use Rattle.module_grammar.proofs.Exact.{Exact, header_exact, import_exact, declaration_exact, begun}

abbrev depth : ℕ
depth = suc max_nesting

said_ok : {A B : Type 0} (r : Said A) (f : A → Said B) (y : B) → and_said r f ≡ Ok y → (x : A) × (r ≡ Ok x) × (f x ≡ Ok y)
said_ok (Ok x) f y e = (x, refl, e)
said_ok (Err e) f y h = cc

said_err : {A B : Type 0} (r : Said A) (f : A → Said B) (e : TextFault) → and_said r f ≡ Err e → (r ≡ Err e) ⊎ ((x : A) × (r ≡ Ok x) × (f x ≡ Err e))
said_err (Ok x) f e h = inr (x, refl, h)
said_err (Err d) f e h = inl (let same : d ≡ e = cc in ap (λ z. Err z) same)

pub ok_is : {A : Type 0} {x y : A} → (let r : Said A = Ok x in r) ≡ Ok y → x ≡ y
ok_is e = cc

pub err_is : {A : Type 0} {e f : TextFault} → (let r : Said A = Err e in r) ≡ Err f → e ≡ f
err_is h = cc

-- ---- what chunks begin with

no_head : (c : Chunk) (x : Declaration) → Line DerivesDeclaration c x → starts heads c ≡ false
unfolding same_terminal
no_head c x w = let r = declaration_reads w.1.0 in begun declarations_begin heads c refl (r.begins c x w.1.1)

no_import : (c : Chunk) (x : Declaration) → Line DerivesDeclaration c x → starts (k.Import ∷ []) c ≡ false
unfolding same_terminal
no_import c x w = let r = declaration_reads w.1.0 in begun declarations_begin (k.Import ∷ []) c refl (r.begins c x w.1.1)

no_module : (c : Chunk) (x : Declaration) → Line DerivesDeclaration c x → starts (k.Module ∷ []) c ≡ false
unfolding same_terminal
no_module c x w = let r = declaration_reads w.1.0 in begun declarations_begin (k.Module ∷ []) c refl (r.begins c x w.1.1)

import_no_module : (c : Chunk) (x : Import) → Line g.import_ c x → starts (k.Module ∷ []) c ≡ false
unfolding same_terminal
import_no_module c x w = begun (k.Import ∷ []) (k.Module ∷ []) c refl (import_reads.begins c x w.1)

pub begun_so : (set : List Terminal) (c : Chunk) → Begins false set c → starts set c ≡ true
begun_so set [] b = cc
begun_so set (t ∷ ts) b = b

is_import : (c : Chunk) (x : Import) → Line g.import_ c x → starts (k.Import ∷ []) c ≡ true
is_import c x w = begun_so (k.Import ∷ []) c (import_reads.begins c x w.1)

is_header : (c : Chunk) (x : Header) → Line g.header c x → starts (k.Module ∷ []) c ≡ true
is_header c x w = begun_so (k.Module ∷ []) c (header_reads.begins c x w.1)

-- ---- one chunk

abbrev Judged : List Declaration → Chunk → List Chunk → Said Declaration → Type 0
Judged before c cs (Ok x) = Right before c cs x
Judged before c cs (Err f) = Wrong before c cs f

declared_is : (before : List Declaration) (c : Chunk) (cs : List Chunk) → Judged before c cs (declared depth before c cs)
declared_is before c cs = go (starts heads c) refl (declaration_line depth c) refl
  where
    sizes : (x : Declaration) → Line DerivesDeclaration c x → declaration_nesting x ≤ max_nesting → stands before cs x ≡ true
        → (l : Option ℕ) → too_large before x ≡ l → Judged before c cs (sized x l)
    sizes x w n s None e = (w, n, s, e)
    sizes x w n s (Some line) e = inr (inr (x, w, n, inr (s, line, e, refl)))

    judge : (x : Declaration) → Line DerivesDeclaration c x → declaration_nesting x ≤ max_nesting → (s : Bool) → stands before cs x ≡ s
        → Judged before c cs (if s then sized x (too_large before x) else Err (fault c kind.BadDeclaration))
    judge x w n true s = sizes x w n s (too_large before x) refl
    judge x w n false s = inr (inr (x, w, n, inl (s, refl)))

    go : (b : Bool) → starts heads c ≡ b → (o : Outcome Declaration) → declaration_line depth c ≡ o
        → Judged before c cs (if b then Err (fault c kind.BadHeader) else and_said (or_fault c kind.BadDeclaration o) (λ x. judged before (line_of c) cs x))
    go true b o e = inl (b, refl)
    go false b None e = inr (inl (b, (λ x w n. let h = declaration_exact.complete c x (w, n) in cc), refl))
    go false b (Some x) e = let h = declaration_exact.sound c x.1 x.0 e in judge x.0 h.0 h.1 (stands before cs x.0) refl

right_declared : (before : List Declaration) (c : Chunk) (cs : List Chunk) (x : Declaration) → Right before c cs x → declared depth before c cs ≡ Ok x
right_declared before c cs x w =
    let e = declaration_exact.complete c x (w.0, w.1) in
    let b = no_head c x w.0 in rw (b, e, w.2, w.3)

wrong_declared : (before : List Declaration) (c : Chunk) (cs : List Chunk) (f : TextFault) → Wrong before c cs f → declared depth before c cs ≡ Err f
wrong_declared before c cs f (inl w) = rw (w.0, w.1)
wrong_declared before c cs f (inr (inl w)) = go (declaration_line depth c) refl
  where
    go : (o : Outcome Declaration) → declaration_line depth c ≡ o → declared depth before c cs ≡ Err f
    go None e = rw (w.0, e, w.2)
    go (Some x) e = let h = declaration_exact.sound c x.1 x.0 e in absurd (w.1 x.0 h.0 h.1)
wrong_declared before c cs f (inr (inr (x, w, n, inl s))) =
    let e = declaration_exact.complete c x (w, n) in
    let b = no_head c x w in rw (b, e, s.0, s.1)
wrong_declared before c cs f (inr (inr (x, w, n, inr s))) =
    let e = declaration_exact.complete c x (w, n) in
    let b = no_head c x w in rw (b, e, s.0, s.2, s.3)

-- ---- counts

present-append : (xs ys : List (Option ℕ)) → present (xs ++ ys) ≡ present xs ++ present ys
present-append [] ys = refl
present-append (Some x ∷ xs) ys = ap (λ z. x ∷ z) (present-append xs ys)
present-append (None ∷ xs) ys = present-append xs ys

pub definitions-append : (xs ys : List Declaration) → definitions (xs ++ ys) ≡ definitions xs + definitions ys
definitions-append xs ys =
    ap (λ z. length (present z)) (map-append defined_at xs ys) ∙ ap length (present-append (map defined_at xs) (map defined_at ys))
    ∙ length-append (present (map defined_at xs)) (present (map defined_at ys))

-- a definition counts one
counted : (o : Option ℕ) → is_there o ≡ true → length (present (o ∷ [])) ≡ 1
counted (Some x) e = refl
counted None e = cc

uncounted : (o : Option ℕ) → is_there o ≡ false → length (present (o ∷ [])) ≡ 0
uncounted (Some x) e = cc
uncounted None e = refl

fits : (o l : Option ℕ) (n : ℕ) → (if is_there o && nat_le most_definitions n then o else l) ≡ None → n ≤ most_definitions
    → (n + length (present (o ∷ [])) ≤ most_definitions) × (l ≡ None)
fits None l n e h = (omega arith, e)
fits (Some x) l n e h = go (nat_le most_definitions n) refl e
  where
    go : (b : Bool) → nat_le most_definitions n ≡ b → (if b then Some x else l) ≡ None → (n + 1 ≤ most_definitions) × (l ≡ None)
    go true q e = cc
    go false q e = (let less = leb-false most_definitions n q in omega arith, e)

none_large : (o l : Option ℕ) (n : ℕ) → (if is_there o && nat_le most_definitions n then o else l) ≡ None → l ≡ None
none_large None l n e = e
none_large (Some x) l n e = go (nat_le most_definitions n) e
  where
    go : (b : Bool) → (if b then Some x else l) ≡ None → l ≡ None
    go true e = cc
    go false e = e

fits_back : (o l : Option ℕ) (n : ℕ) → n + length (present (o ∷ [])) ≤ most_definitions → l ≡ None
    → (if is_there o && nat_le most_definitions n then o else l) ≡ None
fits_back None l n h e = e
fits_back (Some x) l n h e = rw (lt-leb most_definitions n (omega arith), e)

one_more : (before : List Declaration) (x : Declaration) (xs : List Declaration) → (before ++ x ∷ []) ++ xs ≡ before ++ x ∷ xs
one_more before x xs = append_assoc before (x ∷ []) xs

-- ---- declarations

abbrev Declared : List Declaration → List Chunk → Said (List Declaration) → Type 0
Declared before cs (Ok xs) =
    Declares before cs xs × Nest xs × (definitions before ≤ most_definitions → definitions (before ++ xs) ≤ most_definitions) × NoLarge xs
Declared before cs (Err f) = DeclaresFault before cs f

declarations_are : (before : List Declaration) (cs : List Chunk) → Declared before cs (declarations depth before cs)
declarations_are before [] = (tt, tt, (λ h. subst (λ (z : List Declaration). definitions z ≤ most_definitions) (sym (append-nil before)) h), tt)
declarations_are before (c ∷ cs) = go (λ x. declarations_are (before ++ x ∷ []) cs) (declared depth before c cs) (declared_is before c cs)
  where
    inner : (x : Declaration) → Right before c cs x → (r : Said (List Declaration)) → Declared (before ++ x ∷ []) cs r
        → Declared before (c ∷ cs) (and_said r (λ xs. Ok (x ∷ xs)))
    inner x w (Err f) d = inr (x, w, d)
    inner x w (Ok xs) d = (
      (w.0, w.2, d.0),
      (w.1, d.1),
      (λ h.
          let f = fits (defined_at x) (large_declaration x) (definitions before) w.3 h in
          let more = definitions-append before (x ∷ []) in
          subst (λ (z : List Declaration). definitions z ≤ most_definitions) (one_more before x xs) (d.2 (omega (arith, more, f.0)))),
      (none_large (defined_at x) (large_declaration x) (definitions before) w.3, d.3),
    )

    go : ((x : Declaration) → Declared (before ++ x ∷ []) cs (declarations depth (before ++ x ∷ []) cs)) → (r : Said Declaration) → Judged before c cs r
        → Declared before (c ∷ cs) (and_said r (λ x. and_said (declarations depth (before ++ x ∷ []) cs) (λ xs. Ok (x ∷ xs))))
    go ih (Err f) w = inl w
    go ih (Ok x) w = inner x w (declarations depth (before ++ x ∷ []) cs) (ih x)

declares_declared : (before : List Declaration) (cs : List Chunk) (xs : List Declaration) → Declares before cs xs → Nest xs
    → definitions (before ++ xs) ≤ most_definitions → NoLarge xs → declarations depth before cs ≡ Ok xs
declares_declared before [] [] w n d l = refl
declares_declared before [] (x ∷ xs) w n d l = absurd w
declares_declared before (c ∷ cs) [] w n d l = absurd w
declares_declared before (c ∷ cs) (x ∷ xs) w n d l =
    let all = definitions-append before (x ∷ xs) in
    let one = definitions-append (x ∷ []) xs in
    let small = fits_back (defined_at x) (large_declaration x) (definitions before) (omega (arith, all, one)) l.0 in
    let e = right_declared before c cs x (w.0, n.0, w.1, small) in
    let r = declares_declared (before ++ x ∷ []) cs xs w.2 n.1
    (subst (λ (z : List Declaration). definitions z ≤ most_definitions) (sym (one_more before x xs)) d) l.1 in
    rw (e, r)

fault_declared : (before : List Declaration) (cs : List Chunk) (f : TextFault) → DeclaresFault before cs f → declarations depth before cs ≡ Err f
fault_declared before [] f w = absurd w
fault_declared before (c ∷ cs) f (inl w) = let e = wrong_declared before c cs f w in rw e
fault_declared before (c ∷ cs) f (inr (x, w, d)) =
    let e = right_declared before c cs x w in
    let r = fault_declared (before ++ x ∷ []) cs f d in rw (e, r)

-- ---- imports, and declarations behind them

abbrev rest_of : Said (List Import × List Chunk) → Said (List Import × List Declaration)
rest_of r = and_said r (λ i. and_said (declarations depth [] i.1) (λ xs. Ok (i.0, xs)))

abbrev continued : List Chunk → Said (List Import × List Declaration)
continued cs = rest_of (imports depth cs)

abbrev with_import : Import → Said (List Import × List Chunk) → Said (List Import × List Chunk)
with_import i r = and_said r (λ found. Ok (i ∷ found.0, found.1))

abbrev behind : Import → Said (List Import × List Declaration) → Said (List Import × List Declaration)
behind i r = and_said r (λ b. Ok (i ∷ b.0, b.1))

next_import : (i : Import) (r : Said (List Import × List Chunk)) → rest_of (with_import i r) ≡ behind i (rest_of r)
next_import i (Err e) = refl
next_import i (Ok found) = go (declarations depth [] found.1)
  where
    go : (d : Said (List Declaration)) → and_said {B = List Import × List Declaration} d (λ xs. Ok (i ∷ found.0, xs)) ≡ behind i (and_said d (λ xs. Ok (found.0, xs)))
    go (Ok xs) = refl
    go (Err e) = refl

one_import : (c : Chunk) (cs : List Chunk) (i : Import) (rest : List Lexeme) → starts (k.Import ∷ []) c ≡ true → line m.import_ c ≡ Some (i, rest)
    → continued (c ∷ cs) ≡ behind i (continued cs)
one_import c cs i rest b e = rw (b, e) (next_import i (imports depth cs))

no_more : (c : Chunk) (cs : List Chunk) → starts (k.Import ∷ []) c ≡ false
    → continued (c ∷ cs) ≡ and_said (declarations depth [] (c ∷ cs)) (λ xs. Ok ([], xs))
no_more c cs b = rw b refl

bad_import : (c : Chunk) (cs : List Chunk) → starts (k.Import ∷ []) c ≡ true → line m.import_ c ≡ None → continued (c ∷ cs) ≡ Err (fault c kind.BadHeader)
bad_import c cs b e = rw (b, e) refl

abbrev Continued : List Chunk → Said (List Import × List Declaration) → Type 0
Continued cs (Ok found) = Continues cs found.0 found.1 × Nest found.1 × Fit found.1
Continued cs (Err f) = ContinuesFault cs f

continued_is : (cs : List Chunk) → Continued cs (continued cs)
continued_is [] = (tt, tt, (omega arith, tt))
continued_is (c ∷ cs) = go (continued_is cs) (starts (k.Import ∷ []) c) refl (line m.import_ c) refl
  where
    last : starts (k.Import ∷ []) c ≡ false → (r : Said (List Declaration)) → Declared [] (c ∷ cs) r → Continued (c ∷ cs) (and_said r (λ xs. Ok ([], xs)))
    last b (Ok xs) d = (d.0, d.1, (d.2 (omega arith), d.3))
    last b (Err f) d = inr (b, d)

    more : starts (k.Import ∷ []) c ≡ true → (i : Import) → Line g.import_ c i → (r : Said (List Import × List Declaration)) → Continued cs r → Continued (c ∷ cs) (behind i r)
    more b i w (Ok found) d = ((w, d.0), d.1, d.2)
    more b i w (Err f) d = inl (b, inr (i, w, d))

    go : Continued cs (continued cs) → (b : Bool) → starts (k.Import ∷ []) c ≡ b → (o : Outcome Import) → line m.import_ c ≡ o → Continued (c ∷ cs) (continued (c ∷ cs))
    go ih false b o e = subst (Continued (c ∷ cs)) (sym (no_more c cs b)) (last b (declarations depth [] (c ∷ cs)) (declarations_are [] (c ∷ cs)))
    go ih true b None e =
        subst (Continued (c ∷ cs)) (sym (bad_import c cs b e)) (inl (b, inl ((λ i w. let h = import_exact.complete c i w in cc), refl)))
    go ih true b (Some i) e =
        subst (Continued (c ∷ cs)) (sym (one_import c cs i.0 i.1 b e)) (more b i.0 (import_exact.sound c i.1 i.0 e) (continued cs) ih)

none_next : (cs : List Chunk) (xs : List Declaration) → Declares [] cs xs → continued cs ≡ and_said (declarations depth [] cs) (λ xs. Ok ([], xs))
none_next [] xs w = refl
none_next (c ∷ cs) [] w = absurd w
none_next (c ∷ cs) (x ∷ xs) w = no_more c cs (no_import c x w.0)

continues_continued : (cs : List Chunk) (is : List Import) (xs : List Declaration) → Continues cs is xs → Nest xs → Fit xs → continued cs ≡ Ok (is, xs)
continues_continued cs [] xs w n f =
    none_next cs xs w ∙ ap (λ r. and_said r (λ xs. Ok ([], xs))) (declares_declared [] cs xs w n f.0 f.1)
continues_continued [] (i ∷ is) xs w n f = absurd w
continues_continued (c ∷ cs) (i ∷ is) xs w n f =
    one_import c cs i [] (is_import c i w.0) (import_exact.complete c i w.0) ∙ ap (behind i) (continues_continued cs is xs w.1 n f)

fault_continued : (cs : List Chunk) (f : TextFault) → ContinuesFault cs f → continued cs ≡ Err f
fault_continued [] f w = absurd w
fault_continued (c ∷ cs) f (inl (b, inl w)) = go (line m.import_ c) refl
  where
    go : (o : Outcome Import) → line m.import_ c ≡ o → continued (c ∷ cs) ≡ Err f
    go None e = bad_import c cs b e ∙ ap (λ z. Err z) (sym w.1)
    go (Some i) e = absurd (w.0 i.0 (import_exact.sound c i.1 i.0 e))
fault_continued (c ∷ cs) f (inl (b, inr (i, w, d))) =
    one_import c cs i [] b (import_exact.complete c i w) ∙ ap (behind i) (fault_continued cs f d)
fault_continued (c ∷ cs) f (inr (b, d)) = no_more c cs b ∙ ap (λ r. and_said r (λ xs. Ok ([], xs))) (fault_declared [] (c ∷ cs) f d)

-- ---- the whole

abbrev under : Header → Said (List Import × List Declaration) → Said Module
under h r = and_said r (λ b. Ok (made h b.0 b.1))

read_under : (cs : List Chunk) → read depth cs ≡ and_said (headed depth cs) (λ h. under h.0 (continued h.1))
read_under cs = go (headed depth cs)
  where
    inner : (h : Header) (is : List Import) (d : Said (List Declaration)) → and_said d (λ xs. Ok (made h is xs)) ≡ under h (and_said d (λ xs. Ok (is, xs)))
    inner h is (Ok xs) = refl
    inner h is (Err e) = refl

    first : (h : Header) (r : Said (List Import × List Chunk)) → and_said r (λ i. and_said (declarations depth [] i.1) (λ xs. Ok (made h i.0 xs)))
        ≡ under h (and_said r (λ i. and_said (declarations depth [] i.1) (λ xs. Ok (i.0, xs))))
    first h (Err e) = refl
    first h (Ok i) = inner h i.0 (declarations depth [] i.1)

    go : (r : Said (Header × List Chunk)) → and_said r (λ h. and_said (imports depth h.1) (λ i. and_said (declarations depth [] i.1) (λ xs. Ok (made h.0 i.0 xs))))
        ≡ and_said r (λ h. under h.0 (continued h.1))
    go (Err e) = refl
    go (Ok h) = first h.0 (imports depth h.1)

with_header : (c : Chunk) (cs : List Chunk) (h : Header) (rest : List Lexeme) → starts (k.Module ∷ []) c ≡ true → line m.header c ≡ Some (h, rest)
    → read depth (c ∷ cs) ≡ under h (continued cs)
with_header c cs h rest b e = read_under (c ∷ cs) ∙ rw (b, e) refl

without_header : (c : Chunk) (cs : List Chunk) → starts (k.Module ∷ []) c ≡ false → read depth (c ∷ cs) ≡ under no_header (continued (c ∷ cs))
without_header c cs b = read_under (c ∷ cs) ∙ rw b refl

bad_header : (c : Chunk) (cs : List Chunk) → starts (k.Module ∷ []) c ≡ true → line m.header c ≡ None → read depth (c ∷ cs) ≡ Err (fault c kind.BadHeader)
bad_header c cs b e = read_under (c ∷ cs) ∙ rw (b, e) refl

abbrev pub ReadAs : List Chunk → Said Module → Type 0
ReadAs cs (Ok m) = Stands cs m × Nest m.declarations × Fit m.declarations
ReadAs cs (Err f) = StandsFault cs f

pub read_is : (cs : List Chunk) → ReadAs cs (read depth cs)
read_is [] = ((no_header, [], [], refl, inl (refl, tt)), tt, (omega arith, tt))
read_is (c ∷ cs) = go (starts (k.Module ∷ []) c) refl (line m.header c) refl
  where
    headless : starts (k.Module ∷ []) c ≡ false → (r : Said (List Import × List Declaration)) → Continued (c ∷ cs) r → ReadAs (c ∷ cs) (under no_header r)
    headless b (Ok found) d = ((no_header, found.0, found.1, refl, inl (refl, d.0)), d.1, d.2)
    headless b (Err f) d = inr (b, d)

    headed_by : starts (k.Module ∷ []) c ≡ true → (h : Header) → Line g.header c h → (r : Said (List Import × List Declaration)) → Continued cs r → ReadAs (c ∷ cs) (under h r)
    headed_by b h w (Ok found) d = ((h, found.0, found.1, refl, inr (c, cs, refl, w, d.0)), d.1, d.2)
    headed_by b h w (Err f) d = inl (b, inr (h, w, d))

    go : (b : Bool) → starts (k.Module ∷ []) c ≡ b → (o : Outcome Header) → line m.header c ≡ o → ReadAs (c ∷ cs) (read depth (c ∷ cs))
    go false b o e = subst (ReadAs (c ∷ cs)) (sym (without_header c cs b)) (headless b (continued (c ∷ cs)) (continued_is (c ∷ cs)))
    go true b None e = subst (ReadAs (c ∷ cs)) (sym (bad_header c cs b e)) (inl (b, inl ((λ h w. let x = header_exact.complete c h w in cc), refl)))
    go true b (Some h) e = subst (ReadAs (c ∷ cs)) (sym (with_header c cs h.0 h.1 b e)) (headed_by b h.0 (header_exact.sound c h.1 h.0 e) (continued cs) (continued_is cs))

continues_begins : (c : Chunk) (cs : List Chunk) (is : List Import) (xs : List Declaration) → Continues (c ∷ cs) is xs → starts (k.Module ∷ []) c ≡ false
continues_begins c cs [] [] w = absurd w
continues_begins c cs [] (x ∷ xs) w = no_module c x w.0
continues_begins c cs (i ∷ is) xs w = import_no_module c i w.0

none_headed : (cs : List Chunk) (is : List Import) (xs : List Declaration) → Continues cs is xs → read depth cs ≡ under no_header (continued cs)
none_headed [] is xs w = read_under []
none_headed (c ∷ cs) is xs w = without_header c cs (continues_begins c cs is xs w)

pub stands_read : (cs : List Chunk) (x : Module) → Stands cs x → Nest x.declarations → Fit x.declarations → read depth cs ≡ Ok x
stands_read cs x (h, is, xs, e, inl w) n f =
    none_headed cs is xs w.1
    ∙ ap (under no_header) (continues_continued cs is xs w.1 (subst (λ (z : Module). Nest z.declarations) e n) (subst (λ (z : Module). Fit z.declarations) e f))
    ∙ ap (λ z. Ok z) (ap (λ z. made z is xs) (sym w.0) ∙ sym e)
stands_read cs x (h, is, xs, e, inr (c, rest, shape, w, d)) n f =
    ap (read depth) shape ∙ with_header c rest h [] (is_header c h w) (header_exact.complete c h w)
    ∙ ap (under h) (continues_continued rest is xs d (subst (λ (z : Module). Nest z.declarations) e n) (subst (λ (z : Module). Fit z.declarations) e f))
    ∙ ap (λ z. Ok z) (sym e)

pub fault_read : (cs : List Chunk) (f : TextFault) → StandsFault cs f → read depth cs ≡ Err f
fault_read [] f w = absurd w
fault_read (c ∷ cs) f (inl (b, inl w)) = go (line m.header c) refl
  where
    go : (o : Outcome Header) → line m.header c ≡ o → read depth (c ∷ cs) ≡ Err f
    go None e = bad_header c cs b e ∙ ap (λ z. Err z) (sym w.1)
    go (Some h) e = absurd (w.0 h.0 (header_exact.sound c h.1 h.0 e))
fault_read (c ∷ cs) f (inl (b, inr (h, w, d))) =
    with_header c cs h [] b (header_exact.complete c h w) ∙ ap (under h) (fault_continued cs f d)
fault_read (c ∷ cs) f (inr (b, d)) = without_header c cs b ∙ ap (under no_header) (fault_continued (c ∷ cs) f d)

-- ---- uniqueness, however deep declarations nest and however many there are

same_line : {A : Type 0} {P : Rule A} {p : Parser A} → Exact (Line P) p → (c : Chunk) (x y : A) → Line P c x → Line P c y → x ≡ y
same_line e c x y v w = ap (λ z. z.0) (ok_same (sym (e.complete c x v) ∙ e.complete c y w))

declares_one : (before : List Declaration) (cs : List Chunk) (xs ys : List Declaration) → Declares before cs xs → Declares before cs ys → xs ≡ ys
declares_one before [] [] [] v w = refl
declares_one before [] [] (y ∷ ys) v w = absurd w
declares_one before [] (x ∷ xs) ys v w = absurd v
declares_one before (c ∷ cs) [] ys v w = absurd v
declares_one before (c ∷ cs) (x ∷ xs) [] v w = absurd w
declares_one before (c ∷ cs) (x ∷ xs) (y ∷ ys) v w =
    let same = one_declaration c x y v.0.1 w.0.1 in
    let rest = declares_one (before ++ x ∷ []) cs xs ys v.2 (subst (λ (z : Declaration). Declares (before ++ z ∷ []) cs ys) (sym same) w.2) in
    ap (λ z. z ∷ xs) same ∙ ap (λ z. y ∷ z) rest

abbrev Same : List Import → List Declaration → List Import → List Declaration → Type 0
Same is xs js ys = (is ≡ js) × (xs ≡ ys)

not_both : (c : Chunk) (cs : List Chunk) (i : Import) (xs : List Declaration) → Line g.import_ c i → Declares [] (c ∷ cs) xs → ⊥
not_both c cs i [] w d = d
not_both c cs i (x ∷ xs) w d = let a = is_import c i w in let b = no_import c x d.0 in cc

continues_one : (cs : List Chunk) (is : List Import) (xs : List Declaration) (js : List Import) (ys : List Declaration)
    → Continues cs is xs → Continues cs js ys → Same is xs js ys
continues_one cs [] xs [] ys v w = (refl, declares_one [] cs xs ys v w)
continues_one [] [] xs (j ∷ js) ys v w = absurd w
continues_one (c ∷ cs) [] xs (j ∷ js) ys v w = absurd (not_both c cs j xs w.0 v)
continues_one [] (i ∷ is) xs js ys v w = absurd v
continues_one (c ∷ cs) (i ∷ is) xs [] ys v w = absurd (not_both c cs i ys v.0 w)
continues_one (c ∷ cs) (i ∷ is) xs (j ∷ js) ys v w =
    let same = same_line import_exact c i j v.0 w.0 in
    let rest = continues_one cs is xs js ys v.1 w.1 in
    (ap (λ z. z ∷ is) same ∙ ap (λ z. j ∷ z) rest.0, rest.1)

headed_once : (cs : List Chunk) (c : Chunk) (rest : List Chunk) (h : Header) (is : List Import) (xs : List Declaration) → cs ≡ c ∷ rest → Line g.header c h → Continues cs is xs → ⊥
headed_once cs c rest h is xs e w v =
    let a = is_header c h w in
    let b = continues_begins c rest is xs (subst (λ (z : List Chunk). Continues z is xs) e v) in cc

pub one_module : (cs : List Chunk) (x y : Module) → Stands cs x → Stands cs y → x ≡ y
one_module cs x y (h, is, xs, e, inl v) (i, js, ys, f, inl w) =
    let s = continues_one cs is xs js ys v.1 w.1 in
    e ∙ ap (λ z. made z is xs) (v.0 ∙ sym w.0) ∙ ap (λ z. made i z xs) s.0 ∙ ap (λ z. made i js z) s.1 ∙ sym f
one_module cs x y (h, is, xs, e, inl v) (i, js, ys, f, inr (c, rest, shape, w, d)) = absurd (headed_once cs c rest i is xs shape w v.1)
one_module cs x y (h, is, xs, e, inr (c, rest, shape, v, d)) (i, js, ys, f, inl w) = absurd (headed_once cs c rest h js ys shape v w.1)
one_module cs x y (h, is, xs, e, inr (c, rest, shape, v, d)) (i, js, ys, f, inr (c', rest', shape', w, d')) =
    let both : c ∷ rest ≡ c' ∷ rest' = sym shape ∙ shape' in
    let first : c ≡ c' = cc in
    let last : rest ≡ rest' = cc in
    let header = same_line header_exact c h i v (subst (λ (z : Chunk). Line g.header z i) (sym first) w) in
    let s = continues_one rest is xs js ys d (subst (λ (z : List Chunk). Continues z js ys) (sym last) d') in
    e ∙ ap (λ z. made z is xs) header ∙ ap (λ z. made i z xs) s.0 ∙ ap (λ z. made i js z) s.1 ∙ sym f

-- ---- all of the tokens

pub one_fault : (ts : List Lexeme) (f h : TextFault) → FirstFault ts f → FirstFault ts h → f ≡ h
one_fault ts f h v w = err_is {A = Module} (sym (fault_read (chunks ts) f v) ∙ fault_read (chunks ts) h w)

pub no_fault : (ts : List Lexeme) (f : TextFault) (x : Module) → FirstFault ts f → DerivesModule ts x → Nest x.declarations → Fit x.declarations → ⊥
no_fault ts f x v w n s = let a = fault_read (chunks ts) f v in let b = stands_read (chunks ts) x w n s in cc
