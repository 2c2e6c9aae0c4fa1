-- What is said chunk by chunk, beside the loops over tokens.
use Rattle.std.proofs.Common.{◌≡◌, ◌≢◌, ◌<◌, ◌≤◌, ℕ, suc, ◌+◌, ◌-◌, true, false, List, [], ◌∷◌, ◌++◌, length, take, drop, get_or, Result, Ok, Err, refl, sym, ◌∙◌, ap, subst, append-nil, append_assoc, arith}
use Rattle.std.specs.Prelude.{IfOk, IfErr, MatchResult}
use Rattle.elm_base.specs.Lexemes.{Lexeme}
use Rattle.elm_base.specs.declared.memory.Halt.{Halt}
use Rattle.elm_base.specs.declared.memory.Halt.TheVariants as halt
use Rattle.elm_base.specs.declared.fault.FaultKind.{FaultKind}
use Rattle.elm_base.specs.declared.fault.FaultKind.TheVariants as kind
use Rattle.elm_base.specs.declared.tree.Import.{Import}
use Rattle.elm_base.specs.declared.tree.Module.{Module}
use Rattle.elm_base.specs.declared.tree.Declaration.{Declaration}
use Rattle.layout_lexer.specs.declared.place.TextFault.{TextFault}
use Rattle.grammar.specs.declared.cursor.NoTree.{NoTree}
use Rattle.grammar.specs.declared.terminal.Terminal.{Terminal}
use Rattle.grammar.specs.declared.terminal.Terminal.TheVariants as k
use Rattle.grammar.specs.Terminals.{starts}
use Rattle.grammar.specs.Reader.{Outcome, Reads, right, extent, is_done}
use Rattle.tree_nesting.specs.Nesting.{max_nesting}
use Rattle.block_sizes.specs.BlockSizes.{most_definitions}
use Rattle.module_grammar.specs.declared.header.Header.{Header}
use Rattle.module_grammar.specs.Chunks.{chunks}
use Rattle.module_grammar.specs.DeclarationReader.{line, header, own_name}
use Rattle.module_grammar.specs.Modules.{Chunk, line_of, is_named, begins_definition, DerivesModule, FirstFault, Fit, Nest, no_header, is_port, ends_in_port, definitions}
use Rattle.module_grammar.specs.ModuleReader.{Said, and_said, or_fault, declared, declarations, imports, headed, read, Says, SaysOf}
use Rattle.module_grammar.proofs.ChunkLaws as chunk_laws
use Rattle.module_grammar.proofs.ModuleLaws.{ok_is, err_is, definitions-append, ReadAs, read_is, stands_read, fault_read}
use Rattle.module_parser.specs.Saying.{Faulted, GivesNext, ImportsNext, with_imports, with_declarations}

pub cut_off : (ts : List Lexeme) → is_done ts ≡ false → chunks ts ≡ take (extent 1 ts) ts ∷ chunks (drop (extent 1 ts) ts)
cut_off = chunk_laws.cut_off

-- the first chunk begins as the tokens do
begins_as : (set : List Terminal) (ts : List Lexeme) (c : Chunk) (cs : List Chunk) → chunks ts ≡ c ∷ cs → starts set c ≡ starts set ts
begins_as set [] c cs e = cc
begins_as set (t ∷ ts) c cs e =
    let whole = chunk_laws.cut_off (t ∷ ts) refl in
    let same : t ∷ take (right 1 ts) ts ≡ c = cc in ap (starts set) (sym same)

some_left : (set : List Terminal) (ts : List Lexeme) → starts set ts ≡ true → is_done ts ≡ false
some_left set [] e = cc
some_left set (t ∷ ts) e = refl

-- a reading, or the fault at the chunk
pub said : {A : Type 0} (c : Chunk) (kind : FaultKind) (read : Result A (Halt NoTree)) (o : Outcome A) (rest : List Lexeme) (r : Result A (Halt TextFault))
    → Reads o read rest → Faulted read (line_of c) kind r → Says (or_fault c kind o) r
said c kind (Ok x) o rest r e f = rw (f, e) refl
said c kind (Err (halt.Because none)) o rest r e f = let n = e (λ z. cc) in rw (f, n) refl
said c kind (Err halt.NoMemory) o rest r e f = rw f tt

-- ---- the header

pub unheaded : (depth : ℕ) (ts : List Lexeme) → starts (k.Module ∷ []) ts ≡ false → headed depth (chunks ts) ≡ Ok (no_header, chunks ts)
unheaded depth [] e = refl
unheaded depth (t ∷ ts) e =
    let whole = chunk_laws.cut_off (t ∷ ts) refl in
    let same = begins_as (k.Module ∷ []) (t ∷ ts) _ _ whole in rw (whole, e) refl

pub headed_by : (depth : ℕ) (ts new : List Lexeme) (c : Chunk) (r : Result Header (Halt TextFault)) → starts (k.Module ∷ []) ts ≡ true → chunks ts ≡ c ∷ chunks new
    → Says (or_fault c kind.BadHeader (line header c)) r → SaysOf (headed depth (chunks ts)) r new
headed_by depth ts new c r e whole s =
    let same = begins_as (k.Module ∷ []) ts c (chunks new) whole ∙ e in rw (whole, same) (go (or_fault c kind.BadHeader (line header c)) r s)
  where
    go : (said : Said Header) (r : Result Header (Halt TextFault)) → Says said r → SaysOf (and_said said (λ h. Ok (h, chunks new))) r new
    go said (Ok h) s = rw s refl
    go said (Err (halt.Because f)) s = rw s refl
    go said (Err halt.NoMemory) s = tt

-- ---- imports

module _ (depth : ℕ) (all : Said (List Import × List Chunk)) (found : List Import) (ts : List Lexeme) where
  pub import_turn : (new : List Lexeme) (i : Import) → starts (k.Import ∷ []) ts ≡ true → ImportsNext (chunks ts) (Ok i) (chunks new)
      → all ≡ with_imports found (imports depth (chunks ts)) → all ≡ with_imports (found ++ i ∷ []) (imports depth (chunks new))
  import_turn new i e (c, whole, s) so =
      let same = begins_as (k.Import ∷ []) ts c (chunks new) whole ∙ e in
      so ∙ rw (whole, same, s) (go (imports depth (chunks new)))
    where
      go : (r : Said (List Import × List Chunk)) → with_imports found (and_said r (λ x. Ok (i ∷ x.0, x.1))) ≡ with_imports (found ++ i ∷ []) r
      go (Ok x) = ap (λ z. Ok (z, x.1)) (sym (append_assoc found (i ∷ []) x.0))
      go (Err f) = refl

  pub import_fault : (new : List Lexeme) (f : TextFault) → starts (k.Import ∷ []) ts ≡ true → ImportsNext (chunks ts) (Err (halt.Because f)) (chunks new)
      → all ≡ with_imports found (imports depth (chunks ts)) → all ≡ Err f
  import_fault new f e (c, whole, s) so =
      let same = begins_as (k.Import ∷ []) ts c (chunks new) whole ∙ e in so ∙ rw (whole, same, s) refl

  pub imports_end : starts (k.Import ∷ []) ts ≡ false → all ≡ with_imports found (imports depth (chunks ts)) → all ≡ Ok (found, chunks ts)
  imports_end e so = so ∙ go ts e
    where
      go : (ts : List Lexeme) → starts (k.Import ∷ []) ts ≡ false → with_imports found (imports depth (chunks ts)) ≡ Ok (found, chunks ts)
      go [] e = ap (λ z. Ok (z, [])) (append-nil found)
      go (t ∷ ts) e =
          let whole = chunk_laws.cut_off (t ∷ ts) refl in
          rw (whole, e) (ap (λ z. Ok (z, (t ∷ take (right 1 ts) ts) ∷ chunks (drop (right 1 ts) ts))) (append-nil found))

-- ---- declarations

pub last_place : (name : List ℕ) (xs : List Declaration) (d : Declaration) → 1 ≤ length xs → ends_in_port name xs ≡ is_port name (get_or xs (length xs - 1) d)
last_place name [] d h = absurd (omega arith)
last_place name (x ∷ []) d h = refl
last_place name (x ∷ y ∷ ys) d h =
    let place : length (x ∷ y ∷ ys) - 1 ≡ suc (length (y ∷ ys) - 1) = omega arith in
    last_place name (y ∷ ys) d (omega arith) ∙ ap (λ n. is_port name (get_or (x ∷ y ∷ ys) n d)) (sym place)

module _ (depth : ℕ) (all : Said (List Declaration)) (found : List Declaration) (ts : List Lexeme) where
  pub declaration_turn : (new : List Lexeme) (x : Declaration) (left room : ℕ) → GivesNext (declared depth found) left (chunks ts) (Ok (x, room)) (chunks new)
      → (all ≡ with_declarations found (declarations depth found (chunks ts))) × (left + definitions found ≡ most_definitions)
      → (all ≡ with_declarations (found ++ x ∷ []) (declarations depth (found ++ x ∷ []) (chunks new))) × (room + definitions (found ++ x ∷ []) ≡ most_definitions)
  declaration_turn new x left room (c, whole, s) so =
      let more = definitions-append found (x ∷ []) in
      let counts = s.1 in
      let now = so.1 in
      (so.0 ∙ rw (whole, s.0) (go (declarations depth (found ++ x ∷ []) (chunks new))), omega (arith, more, counts, now))
    where
      go : (r : Said (List Declaration)) → with_declarations found (and_said r (λ xs. Ok (x ∷ xs))) ≡ with_declarations (found ++ x ∷ []) r
      go (Ok xs) = ap (λ z. Ok z) (sym (append_assoc found (x ∷ []) xs))
      go (Err f) = refl

  pub declaration_fault : (new : List Lexeme) (f : TextFault) (left : ℕ) → GivesNext (declared depth found) left (chunks ts) (Err (halt.Because f)) (chunks new)
      → all ≡ with_declarations found (declarations depth found (chunks ts)) → all ≡ Err f
  declaration_fault new f left (c, whole, s) so = so ∙ rw (whole, s) refl

  pub declarations_end : is_done ts ≡ true → all ≡ with_declarations found (declarations depth found (chunks ts)) → all ≡ Ok found
  declarations_end e so = so ∙ go ts e
    where
      go : (ts : List Lexeme) → is_done ts ≡ true → with_declarations found (declarations depth found (chunks ts)) ≡ Ok found
      go [] e = ap (λ z. Ok z) (append-nil found)
      go (t ∷ ts) e = cc

-- each turn takes a chunk
pub fewer : (old : List Chunk) (c : Chunk) (new : List Chunk) → old ≡ c ∷ new → length new < length old
fewer old c new e = rw e (omega arith)

-- ---- the whole

pub record Answered (ts : List Lexeme) (r : Result Module (Halt TextFault)) : Type 0 where
  pub derives : IfOk r (λ x. DerivesModule ts x)
  pub nests : IfOk r (λ x. Nest x.declarations)
  pub fits : IfOk r (λ x. Fit x.declarations)
  pub found : (x : Module) → DerivesModule ts x → Nest x.declarations → Fit x.declarations → MatchResult r (λ y. y ≡ x) (λ cause. cause ≡ halt.NoMemory)
  pub refused : IfErr r (λ cause. (f : TextFault) → cause ≡ halt.Because f → FirstFault ts f)
  pub faulty : (f : TextFault) → FirstFault ts f → MatchResult r (λ x. ⊥) (λ cause. cause ≢ halt.NoMemory → cause ≡ halt.Because f)

pub answered : (ts : List Lexeme) (r : Result Module (Halt TextFault)) → Says (read (suc max_nesting) (chunks ts)) r → Answered ts r
answered ts (Ok x) e =
    let all = subst (ReadAs (chunks ts)) e (read_is (chunks ts)) in record {
      derives = all.0;
      nests = all.1;
      fits = all.2;
      found = λ y w n f. ok_is (sym e ∙ stands_read (chunks ts) y w n f);
      refused = tt;
      faulty = λ f w. let same = sym e ∙ fault_read (chunks ts) f w in cc;
    }
answered ts (Err (halt.Because g)) e = record {
  derives = tt;
  nests = tt;
  fits = tt;
  found = λ y w n f. let same = sym e ∙ stands_read (chunks ts) y w n f in cc;
  refused = λ f is. let same : g ≡ f = cc in subst (FirstFault ts) same (subst (ReadAs (chunks ts)) e (read_is (chunks ts)));
  faulty = λ f w other. ap (λ z. halt.Because z) (err_is {A = Module} (sym e ∙ fault_read (chunks ts) f w));
}
answered ts (Err halt.NoMemory) e = record {
  derives = tt;
  nests = tt;
  fits = tt;
  found = λ y w n f. refl;
  refused = λ f is. cc;
  faulty = λ f w other. absurd (other refl);
}

-- ---- what stands next

pub begins_by : (name : List ℕ) (ts : List Lexeme) (o : Outcome (List ℕ)) → is_done ts ≡ false → own_name (take (extent 1 ts) ts) ≡ o
    → is_named name o ≡ begins_definition name (chunks ts)
begins_by name ts o d e = let whole = cut_off ts d in rw (whole, e) refl
