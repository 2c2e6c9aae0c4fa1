-- A project gives one thing.
use Rattle.std.proofs.Common.{◌≡◌, ◌∙◌, inl, inr, ℕ, Bool, true, false, List, [], Option, Some, None, Result, Ok, Err, length, sym, ap, ltb}
use Rattle.std.specs.Bool.{MatchBool}
use Rattle.elm_base.specs.declared.fault.FaultKind.TheVariants as kind
use Rattle.elm_base.specs.declared.fault.ProjectFault.{ProjectFault}
use Rattle.layout_lexer.proofs.Laws.{one_list, one_fault, not_both}
use Rattle.reactor_outside.specs.Shelf.{Files}
use Rattle.reactor_meaning.specs.Program.{Program}
use Rattle.reactor_engine.specs.Project.{main_fault, main_file, port_of, served, TextGives, FileGives, Compiles}

one_of_text : (text : List ℕ) (one other : Result Program ProjectFault) → TextGives text one → TextGives text other → one ≡ other
one_of_text text one other (inl a) (inl b) = a.2 ∙ ap (λ list. served (port_of list)) (one_list text a.0 b.0 a.1 b.1) ∙ sym b.2
one_of_text text one other (inl a) (inr b) = absurd (not_both text a.0 b.0 a.1 b.1)
one_of_text text one other (inr a) (inl b) = absurd (not_both text b.0 a.0 b.1 a.1)
one_of_text text one other (inr a) (inr b) = a.2 ∙ ap (λ fault. Err (main_fault fault.line fault.kind [])) (one_fault text a.0 b.0 a.1 b.1) ∙ sym b.2

one_by_size : (text : List ℕ) (one other : Result Program ProjectFault) (large : Bool) → MatchBool large (one ≡ Err (main_fault 0 kind.TooLarge [])) (TextGives text one) → MatchBool large (other ≡ Err (main_fault 0 kind.TooLarge [])) (TextGives text other) → one ≡ other
one_by_size text one other true a b = a ∙ sym b
one_by_size text one other false a b = one_of_text text one other a b

one_of_file : (file : Option (List ℕ)) (one other : Result Program ProjectFault) → FileGives file one → FileGives file other → one ≡ other
one_of_file None one other a b = a ∙ sym b
one_of_file (Some text) one other a b = one_by_size text one other (ltb 262144 (length text)) a b

-- a project of these files gives one thing, a program or a fault
pub one_given : (files : Files) (project : List ℕ) (one other : Result Program ProjectFault) → Compiles files project one → Compiles files project other → one ≡ other
one_given files project one other a b = one_of_file (files (main_file project)) one other a b

pub not_program_and_fault : (files : Files) (project : List ℕ) (program : Program) (fault : ProjectFault) → Compiles files project (Ok program) → Compiles files project (Err fault) → ⊥
not_program_and_fault files project program fault a b = let same = one_given files project (Ok program) (Err fault) a b in cc
