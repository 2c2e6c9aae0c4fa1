-- What calls on the way to a module ensure.
use Rattle.std.specs.Prelude.{◌≡◌, ◌+◌, ℕ, List, [], ◌∷◌, ◌++◌, length, Result, Ok, Err}
use Rattle.elm_base.specs.declared.memory.Halt.{Halt}
use Rattle.elm_base.specs.declared.memory.Halt.TheVariants as halt
use Rattle.elm_base.specs.declared.fault.FaultKind.{FaultKind}
use Rattle.elm_base.specs.declared.fault.FaultKind.TheVariants as kind
use Rattle.elm_base.specs.declared.tree.Import.{Import}
use Rattle.elm_base.specs.declared.tree.Declaration.{Declaration}
use Rattle.layout_lexer.specs.declared.place.TextFault.{TextFault}
use Rattle.grammar.specs.declared.cursor.NoTree.{NoTree}
use Rattle.block_sizes.specs.BlockSizes.{defined_at, present}
use Rattle.module_grammar.specs.Modules.{Chunk}
use Rattle.module_grammar.specs.DeclarationReader.{line, import_}
use Rattle.module_grammar.specs.ModuleReader.{Said, and_said, or_fault, Says}

-- a refusal becomes the fault of this kind at the line
abbrev pub Faulted : {A : Type 0} → Result A (Halt NoTree) → ℕ → FaultKind → Result A (Halt TextFault) → Type 0
Faulted (Ok x) line kind r = r ≡ Ok x
Faulted (Err (halt.Because none)) line kind r = r ≡ Err (halt.Because (record { line = line; kind = kind }))
Faulted (Err halt.NoMemory) line kind r = r ≡ Err halt.NoMemory

-- a declaration passes, and so many more definitions may come behind it; or its fault is said
abbrev pub Passes : Said Declaration → ℕ → Declaration → Result ℕ (Halt TextFault) → Type 0
Passes said left x (Ok next) = (said ≡ Ok x) × (next + length (present (defined_at x ∷ [])) ≡ left)
Passes said left x (Err (halt.Because f)) = said ≡ Err f
Passes said left x (Err halt.NoMemory) = Unit {0}

-- a chunk stands for a declaration, and so many more definitions may come behind it; or its fault is said
abbrev pub Gives : Said Declaration → ℕ → Result (Declaration × ℕ) (Halt TextFault) → Type 0
Gives said left (Ok found) = (said ≡ Ok found.0) × (found.1 + length (present (defined_at found.0 ∷ [])) ≡ left)
Gives said left (Err (halt.Because f)) = said ≡ Err f
Gives said left (Err halt.NoMemory) = Unit {0}

-- the same of the first of the chunks, before those that are left
abbrev pub GivesNext : (Chunk → List Chunk → Said Declaration) → ℕ → List Chunk → Result (Declaration × ℕ) (Halt TextFault) → List Chunk → Type 0
GivesNext said left old r new = (c : Chunk) × (old ≡ c ∷ new) × Gives (said c new) left r

-- the imports found before those that are said
abbrev pub with_imports : List Import → Said (List Import × List Chunk) → Said (List Import × List Chunk)
with_imports front said = and_said said (λ found. Ok (front ++ found.0, found.1))

abbrev pub with_declarations : List Declaration → Said (List Declaration) → Said (List Declaration)
with_declarations front said = and_said said (λ found. Ok (front ++ found))

-- the first of the chunks is an import, before those that are left; or its fault is said
abbrev pub ImportsNext : List Chunk → Result Import (Halt TextFault) → List Chunk → Type 0
ImportsNext old r new = (c : Chunk) × (old ≡ c ∷ new) × Says (or_fault c kind.BadHeader (line import_ c)) r
