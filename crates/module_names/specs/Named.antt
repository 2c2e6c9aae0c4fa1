-- All that is known of a module's names.
use Rattle.std.specs.Prelude.{ℕ, Bool, if◌then◌else◌, Option, Some, None, List, [], ◌∷◌, ◌++◌, map, bytes_eq}
use Rattle.std.specs.List.{flat_map}
use Rattle.elm_base.specs.declared.fault.FaultKind.TheVariants as kind
use Rattle.elm_base.specs.declared.tree.Spot.{Spot}
use Rattle.elm_base.specs.declared.tree.Declaration.{Declaration}
use Rattle.elm_base.specs.declared.tree.Import.{Import}
use Rattle.elm_base.specs.declared.tree.Exposing.{Exposing}
use Rattle.elm_base.specs.declared.tree.Module.{Module}
use Rattle.name_steps.specs.declared.step.Step.{Step}
use Rattle.name_steps.specs.Steps.{part_of}
use Rattle.module_tops.specs.declared.top.Top.{Top}
use Rattle.module_tops.specs.Tops.{tops_of_module, types_of}
use Rattle.module_names.specs.declared.face.Face.{Face}
use Rattle.module_names.specs.declared.flaws.Flaw.{Flaw}
use Rattle.module_names.specs.declared.walk.Use.{Use}
use Rattle.module_names.specs.declared.whole.Named.{Named}
use Rattle.module_names.specs.Defaults.{defaults_for}
use Rattle.module_names.specs.Flaws.{repeated, of_declarations, of_list, of_steps, of_uses}
use Rattle.module_names.specs.Lookup.{Places}
use Rattle.module_names.specs.Walks.{uses_in}

-- what happens to names in the declarations of a module, from the first one on
abbrev pub steps_of : List Declaration → List Step
steps_of declarations = flat_map (λ declaration. (part_of declaration).steps) declarations

-- where the names of a module are looked up
abbrev pub places_over : List Face → List Top → Module → Places
places_over faces own «module» =
    record { faces = faces; name = «module».name; own = own; defaults = defaults_for «module».name; imports = «module».imports }

-- the entries of an import that its module doesn't show
abbrev pub of_face : Option Exposing → Face → List Flaw
of_face None face = []
of_face (Some exposes) face = of_list kind.NotExposed face.tops face.types exposes

abbrev pub of_import : List Face → Import → List Flaw
of_import faces import = flat_map (λ face. if bytes_eq face.name import.«module» then of_face import.exposes face else []) faces

abbrev pub of_imports : List Face → List Import → List Flaw
of_imports faces imports = flat_map (of_import faces) imports

-- names that a module defines twice, values and types apart; parameters of types that stand twice; entries of the module's own
-- list that it doesn't define
abbrev pub of_own : List Top → List Spot → Module → List Flaw
of_own own types «module» =
    repeated [] (map (λ top. top.spot) own) ++ repeated [] types ++ of_declarations «module».declarations
    ++ of_list kind.UnknownName own types «module».exposes

abbrev pub flaws_over : List Face → List Top → Module → List Step → List Use → List Flaw
flaws_over faces own «module» steps uses =
    of_own own (types_of «module».declarations) «module» ++ of_imports faces «module».imports ++ of_steps steps ++ of_uses uses

-- what each use stands for
abbrev pub uses_of : List Face → Module → List Use
uses_of faces «module» = uses_in (places_over faces (tops_of_module «module») «module») (steps_of «module».declarations)

-- all that is wrong with a module's names
abbrev pub flaws_of : List Face → Module → List Flaw
flaws_of faces «module» =
    flaws_over faces (tops_of_module «module») «module» (steps_of «module».declarations) (uses_of faces «module»)

abbrev pub named_of : List Face → Module → Named
named_of faces «module» =
    record { steps = steps_of «module».declarations; uses = uses_of faces «module»; flaws = flaws_of faces «module» }
