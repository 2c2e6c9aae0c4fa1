-- What is declared of operators in a project, and its first fault.
use Rattle.std.specs.Prelude.{ℕ, List, [], ◌∷◌, map, flat_map, Bool, true, false, ◌&&◌, nat_eq, Option, Some, None, if◌then◌else◌}
use Rattle.elm_base.specs.declared.token.At.{At}
use Rattle.elm_base.specs.declared.fault.ProjectFault.{ProjectFault}
use Rattle.elm_base.specs.declared.fault.FaultKind.TheVariants as kind
use Rattle.elm_base.specs.declared.tree.Side.{Side}
use Rattle.elm_base.specs.declared.tree.Side.TheVariants.{Left, Right, Neither}
use Rattle.elm_base.specs.declared.tree.Declaration.{Declaration, out-Declaration}
use Rattle.elm_base.specs.declared.tree.Declaration.TheOpen as tree
use Rattle.elm_base.specs.declared.tree.Module.{Module}
use Rattle.elm_base.specs.declared.project.Project.{Project}
use Rattle.operator_trees.specs.declared.binding.Binding.{Binding}
use Rattle.operator_trees.specs.Levels.{Declared, at_level, binding_of}
use Rattle.level_fixer.specs.Clashes.{declaration_clashes}

-- the operator of which a declaration tells, with its level and side
abbrev declares_layer : {A B C : Type 0} → tree.Declaration-F A B C → Declared
declares_layer (tree.Levels at side level operator) = (operator.name, at_level level side) ∷ []
declares_layer _ = []

abbrev pub declares : Declaration → Declared
declares d = declares_layer (out-Declaration d)

-- in module order, then by line
abbrev pub declared_in : Project → Declared
declared_in p = flat_map (λ m. flat_map declares m.declarations) p.modules

-- ---- faults

abbrev pub same_side : Side → Side → Bool
same_side Left Left = true
same_side Right Right = true
same_side Neither Neither = true
same_side _ _ = false

abbrev pub same_binding : Binding → Binding → Bool
same_binding a b = nat_eq a.level b.level && same_side a.side b.side

-- The fault of a declaration at a place in a module, about a name.
abbrev pub bad_fixity : List ℕ → At → List ℕ → ProjectFault
bad_fixity «module» at name = record { «module» = «module»; line = at.line; kind = kind.BadFixity; name = name }

-- the fault of a declaration with a body, where a chain without a tree stands in it
abbrev pub clash_at : List ℕ → At → List ℕ → Bool → Option ProjectFault
clash_at m at name clashes = if clashes then Some (bad_fixity m at name) else None

-- the fault of a level that isn't the one that counts for the operator
abbrev pub level_at : List ℕ → At → List ℕ → Binding → Binding → Option ProjectFault
level_at m at name counts own = if same_binding counts own then None else Some (bad_fixity m at name)

abbrev pub fault_layer : {A B C : Type 0} → Declared → List ℕ → Bool → tree.Declaration-F A B C → Option ProjectFault
fault_layer all m clashes (tree.Definition at name patterns body) = clash_at m at name clashes
fault_layer all m clashes (tree.PatternDefinition at pattern body) = clash_at m at [] clashes
fault_layer all m clashes (tree.PortDefinition at name body) = clash_at m at name.name clashes
fault_layer all m clashes (tree.Levels at side level operator) =
    level_at m at operator.name (binding_of all operator.name) (at_level level side)
fault_layer all m clashes _ = None

-- what is wrong with a declaration of this module, in a project that declares these
abbrev pub declaration_fault : Declared → List ℕ → Declaration → Option ProjectFault
declaration_fault all m d = fault_layer all m (declaration_clashes all d) (out-Declaration d)

abbrev pub first_of : {A : Type 0} → List (Option A) → Option A
first_of [] = None
first_of (Some x ∷ xs) = Some x
first_of (None ∷ xs) = first_of xs

abbrev pub module_fault : Declared → Module → Option ProjectFault
module_fault all m = first_of (map (declaration_fault all m.name) m.declarations)

-- the first fault in module order, then by line
abbrev pub project_fault : Project → Option ProjectFault
project_fault p = first_of (map (module_fault (declared_in p)) p.modules)
