-- What is wrong in the texts of a module's types: one fault a declaration, at the declaration's place.
use Rattle.std.specs.Prelude.{ℕ, Bool, false, ◌&&◌, Option, Some, None, List, [], ◌∷◌, ◌++◌, length, slice_get, bytes_eq, if◌then◌else◌}
use Rattle.std.specs.List.{flat_map, list_any, range_with_len}
use Rattle.elm_base.specs.declared.fault.FaultKind.TheVariants as kind
use Rattle.elm_base.specs.declared.token.At.{At}
use Rattle.elm_base.specs.declared.tree.Spot.{Spot}
use Rattle.elm_base.specs.declared.tree.Set.{Set}
use Rattle.elm_base.specs.declared.tree.Expr.{Expr}
use Rattle.elm_base.specs.declared.tree.Module.{Module}
use Rattle.elm_base.specs.declared.tree.Declaration.{Declaration, out-Declaration}
use Rattle.elm_base.specs.declared.tree.Declaration.TheOpen as tree
use Rattle.module_names.specs.declared.flaws.Flaw.{Flaw}
use Rattle.module_names.specs.Flaws.{flaw_of}
use Rattle.type_names.specs.declared.known.KnownType.{KnownType}
use Rattle.type_names.specs.Answers.{Places, places_in}
use Rattle.type_names.specs.Texts.{flaws_of, flaws_in_let}
use Rattle.let_annotations.specs.declared.annotation.LetAnnotation.{LetAnnotation}
use Rattle.let_annotations.specs.Annotations.{inside}
use Rattle.alias_cycles.specs.declared.texts.AliasText.{AliasText}

-- which of the project's aliases, by their numbers, leads to which
abbrev pub Leads : Type 0
Leads = ℕ → ℕ → Bool

abbrev pub is_called : List ℕ → List ℕ → Option AliasText → Bool
is_called «module» name None = false
is_called «module» name (Some alias) = bytes_eq alias.«module» «module» && bytes_eq alias.name name

-- the alias with this number is that of this module and name, and leads back to itself
abbrev pub leads_back : List AliasText → Leads → List ℕ → List ℕ → ℕ → Bool
leads_back aliases leads «module» name a = is_called «module» name (slice_get aliases a) && leads a a

abbrev pub is_endless : List AliasText → Leads → List ℕ → List ℕ → Bool
is_endless aliases leads «module» name = list_any (leads_back aliases leads «module» name) (range_with_len 0 (length aliases))

-- the name of an alias that reaches itself
abbrev pub endless_by : List AliasText → Leads → List ℕ → Spot → List Spot
endless_by aliases leads «module» spot = if is_endless aliases leads «module» spot.name then spot ∷ [] else []

abbrev pub endless_layer : List AliasText → Leads → List ℕ → tree.Declaration-F Declaration Expr Set → List Spot
endless_layer aliases leads «module» (tree.Alias at name parameters written) = endless_by aliases leads «module» name
endless_layer aliases leads «module» _ = []

abbrev pub endless_of : List AliasText → Leads → List ℕ → Declaration → List Spot
endless_of aliases leads «module» declaration = endless_layer aliases leads «module» (out-Declaration declaration)

-- where a declaration begins
abbrev pub place_layer : tree.Declaration-F Declaration Expr Set → At
place_layer (tree.Union at name parameters constructors) = at
place_layer (tree.Alias at name parameters written) = at
place_layer (tree.Annotation at name written) = at
place_layer (tree.Definition at name patterns body) = at
place_layer (tree.PatternDefinition at pattern body) = at
place_layer (tree.PortAnnotation at name written) = at
place_layer (tree.PortDefinition at name body) = at
place_layer (tree.Levels at side level operator) = at
place_layer (tree.Native at name written number) = at
place_layer (tree.Device at name written) = at
place_layer (tree.Opaque at name parameters) = at

abbrev pub place_of : Declaration → At
place_of declaration = place_layer (out-Declaration declaration)

-- the fault at a place that has the first of these names
abbrev pub fault_at : At → List Spot → List Flaw
fault_at at [] = []
fault_at at (first ∷ more) = flaw_of kind.BadType at first.name ∷ []

-- what is wrong at places in its text comes before that an alias reaches itself
abbrev pub wrong_in : Places → List AliasText → Leads → Declaration → List Spot
wrong_in places aliases leads declaration = flaws_of places declaration ++ endless_of aliases leads places.name declaration

abbrev pub own_fault : Places → List AliasText → Leads → Declaration → List Flaw
own_fault places aliases leads declaration = fault_at (place_of declaration) (wrong_in places aliases leads declaration)

-- of an annotation in a `let`, at its own place
abbrev pub let_fault : Places → LetAnnotation → List Flaw
let_fault places annotation = fault_at annotation.at (flaws_in_let places annotation.written)

abbrev pub let_faults : Places → List LetAnnotation → List Flaw
let_faults places annotations = flat_map (let_fault places) annotations

abbrev pub faults_of : Places → List AliasText → Leads → Declaration → List Flaw
faults_of places aliases leads declaration = own_fault places aliases leads declaration ++ let_faults places (inside declaration)

abbrev pub faults_of_all : Places → List AliasText → Leads → List Declaration → List Flaw
faults_of_all places aliases leads declarations = flat_map (faults_of places aliases leads) declarations

-- of a module of a project that declares these types and has these aliases
abbrev pub faults_in : List KnownType → List AliasText → Leads → Module → List Flaw
faults_in types aliases leads «module» = faults_of_all (places_in types «module») aliases leads «module».declarations
