-- A file gives one module, or one fault.
use Rattle.std.proofs.Common.{◌≡◌, inl, inr, ℕ, List, [], Option, Some, sym, ◌∙◌, ap, subst, arith}
use Rattle.elm_base.specs.Lexemes.{Lexeme}
use Rattle.elm_base.specs.declared.tree.Module.{Module}
use Rattle.elm_base.specs.declared.fault.FaultKind.TheVariants as kind
use Rattle.elm_base.specs.declared.fault.ProjectFault.{ProjectFault}
use Rattle.layout_lexer.specs.declared.place.TextFault.{TextFault}
use Rattle.layout_lexer.proofs.Laws.{one_list, one_fault, not_both}
use Rattle.module_grammar.specs.Modules.{DerivesModule, FirstFault}
use Rattle.module_visits.specs.Files.{fault_in, HasModule, HasFault, IsRead, IsWrong}
use Rattle.module_visits.specs.Opening.{Asker, OpensFrom, IsFaulty}
use Rattle.module_grammar.specs.Chunks.{chunks}
use Rattle.module_grammar.proofs.ModuleLaws as laws

same_module : (text : List ℕ) (m n : Module) → HasModule text m → HasModule text n → m ≡ n
same_module text m n a b =
    laws.one_module (chunks a.tokens) m n a.derives
    (subst (λ (ts : List Lexeme). DerivesModule ts n) (sym (one_list text a.tokens b.tokens a.cut b.cut)) b.derives)

same_fault : (text : List ℕ) (f g : TextFault) → HasFault text f → HasFault text g → f ≡ g
same_fault text f g (inl a) (inl b) = one_fault text f g a b
same_fault text f g (inl a) (inr b) = absurd (not_both text b.0 f b.1 a)
same_fault text f g (inr a) (inl b) = absurd (not_both text a.0 g a.1 b)
same_fault text f g (inr a) (inr b) =
    laws.one_fault a.0 f g a.2 (subst (λ (ts : List Lexeme). FirstFault ts g) (sym (one_list text a.0 b.0 a.1 b.1)) b.2)

not_both_there : (text : List ℕ) (m : Module) (f : TextFault) → HasModule text m → HasFault text f → ⊥
not_both_there text m f a (inl b) = not_both text a.tokens f a.cut b
not_both_there text m f a (inr b) =
    laws.no_fault b.0 f m b.2 (subst (λ (ts : List Lexeme). DerivesModule ts m) (one_list text a.tokens b.0 a.cut b.1) a.derives) a.nests a.fits

not_wrong : (name text : List ℕ) (m : Module) (f : ProjectFault) → IsRead name text m → IsWrong name text f → ⊥
not_wrong name text m f a (inl b) = omega (arith, a.size, b.0)
not_wrong name text m f a (inr (inl b)) = not_both_there text m b.1 a.parsed b.2
not_wrong name text m f a (inr (inr b)) =
    b.3 (ap (λ (n : Module). n.name) (same_module text b.1 m b.2 a.parsed) ∙ a.named)

wrong_once : (name text : List ℕ) (f g : ProjectFault) → IsWrong name text f → IsWrong name text g → f ≡ g
wrong_once name text f g (inl a) (inl b) = a.1 ∙ sym b.1
wrong_once name text f g (inl a) (inr (inl b)) = absurd (omega (arith, a.0, b.0))
wrong_once name text f g (inl a) (inr (inr b)) = absurd (omega (arith, a.0, b.0))
wrong_once name text f g (inr (inl a)) (inl b) = absurd (omega (arith, a.0, b.0))
wrong_once name text f g (inr (inl a)) (inr (inl b)) =
    a.3 ∙ ap (λ (t : TextFault). fault_in name t.line t.kind []) (same_fault text a.1 b.1 a.2 b.2) ∙ sym b.3
wrong_once name text f g (inr (inl a)) (inr (inr b)) = absurd (not_both_there text b.1 a.1 b.2 a.2)
wrong_once name text f g (inr (inr a)) (inl b) = absurd (omega (arith, a.0, b.0))
wrong_once name text f g (inr (inr a)) (inr (inl b)) = absurd (not_both_there text a.1 b.1 a.2 b.2)
wrong_once name text f g (inr (inr a)) (inr (inr b)) =
    a.4 ∙ ap (λ (m : Module). fault_in name m.at.line kind.NameMismatch m.name) (same_module text a.1 b.1 a.2 b.2) ∙ sym b.4

some_once : {A : Type 0} {x y : A} → Some x ≡ Some y → x ≡ y
some_once e = cc e

-- a module is opened as one
pub opens_once : (file : Option (List ℕ)) (count : ℕ) (name : List ℕ) (m n : Module)
    → OpensFrom file count name m → OpensFrom file count name n → m ≡ n
opens_once file count name m n a b =
    let same : b.0 ≡ a.0 = some_once (sym b.1 ∙ a.1) in
    same_module a.0 m n a.3.parsed (subst (λ (text : List ℕ). HasModule text n) same b.3.parsed)

-- what is opened has no fault
pub not_faulty : (file : Option (List ℕ)) (count : ℕ) (by : Asker) (name : List ℕ) (m : Module) (f : ProjectFault)
    → OpensFrom file count name m → IsFaulty file count by name f → ⊥
not_faulty file count by name m f a (inl b) = cc (sym a.1 ∙ b.0)
not_faulty file count by name m f a (inr (inl b)) = omega (arith, a.2, b.2)
not_faulty file count by name m f a (inr (inr b)) =
    not_wrong name a.0 m f a.3 (subst (λ (text : List ℕ). IsWrong name text f) (some_once (sym b.1 ∙ a.1)) b.3)

-- there is one fault
pub faulty_once : (file : Option (List ℕ)) (count : ℕ) (by : Asker) (name : List ℕ) (f g : ProjectFault)
    → IsFaulty file count by name f → IsFaulty file count by name g → f ≡ g
faulty_once file count by name f g (inl a) (inl b) = a.1 ∙ sym b.1
faulty_once file count by name f g (inl a) (inr (inl b)) = absurd (cc (sym a.0 ∙ b.1))
faulty_once file count by name f g (inl a) (inr (inr b)) = absurd (cc (sym a.0 ∙ b.1))
faulty_once file count by name f g (inr (inl a)) (inl b) = absurd (cc (sym b.0 ∙ a.1))
faulty_once file count by name f g (inr (inl a)) (inr (inl b)) = a.3 ∙ sym b.3
faulty_once file count by name f g (inr (inl a)) (inr (inr b)) = absurd (omega (arith, a.2, b.2))
faulty_once file count by name f g (inr (inr a)) (inl b) = absurd (cc (sym b.0 ∙ a.1))
faulty_once file count by name f g (inr (inr a)) (inr (inl b)) = absurd (omega (arith, a.2, b.2))
faulty_once file count by name f g (inr (inr a)) (inr (inr b)) =
    wrong_once name a.0 f g a.3 (subst (λ (text : List ℕ). IsWrong name text g) (some_once (sym b.1 ∙ a.1)) b.3)
