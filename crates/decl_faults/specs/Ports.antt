-- Which ports of a module can't be: outside Main, of another type than a port's under one `Signal`, or one too many.
use Rattle.std.specs.Prelude.{ℕ, Option, Some, None, is_some, List, [], ◌∷◌, ◌++◌, codes, bytes_eq, drop, if◌then◌else◌}
use Rattle.std.specs.List.{flat_map}
use Rattle.elm_base.specs.declared.event.PortType.{PortType}
use Rattle.elm_base.specs.declared.fault.FaultKind.TheVariants as kind
use Rattle.elm_base.specs.declared.tree.Set.{Set}
use Rattle.elm_base.specs.declared.tree.Expr.{Expr}
use Rattle.elm_base.specs.declared.tree.TypeTree.{TypeTree}
use Rattle.elm_base.specs.declared.tree.Declaration.{Declaration, out-Declaration}
use Rattle.elm_base.specs.declared.tree.Declaration.TheOpen as tree
use Rattle.module_tops.specs.Tops.{is_of_outbound}
use Rattle.module_names.specs.declared.flaws.Flaw.{Flaw}
use Rattle.module_names.specs.Flaws.{flaw_of}
use Rattle.type_names.specs.Answers.{Places}
use Rattle.port_types.specs.PortTypes.{carried}
use Rattle.decl_faults.specs.Sense.{Expands, flaw_unless}

abbrev pub main_name : List ℕ
main_name = codes "Main"

-- so many ports may come in
abbrev pub max_inbound : ℕ
max_inbound = 256

abbrev pub carried_of : Option TypeTree → Option PortType
carried_of None = None
carried_of (Some type) = carried type

-- what a port of this written type carries, where each alias that the type names is written out
abbrev pub carried_as : Expands → Places → TypeTree → Option PortType
carried_as by places written =
    if by.known places written then carried_of (by.type places written) else None

-- ports stand in Main alone
abbrev pub carried_by : Expands → Places → TypeTree → Option PortType
carried_by by places written =
    if bytes_eq places.name main_name then carried_as by places written else None

abbrev pub portless_layer : Expands → Places → tree.Declaration-F Declaration Expr Set → List Flaw
portless_layer by places (tree.PortAnnotation at name written) =
    flaw_unless (is_some (carried_by by places written)) kind.BadPort at name.name
portless_layer by places _ = []

-- a port that carries nothing
abbrev pub portless : Expands → Places → Declaration → List Flaw
portless by places declaration = portless_layer by places (out-Declaration declaration)

abbrev pub portless_in : Expands → Places → List Declaration → List Flaw
portless_in by places declarations = flat_map (portless by places) declarations

-- ---- their number

abbrev pub surplus_layer : tree.Declaration-F Declaration Expr Set → List Flaw
surplus_layer (tree.PortAnnotation at name written) = flaw_of kind.BadPort at name.name ∷ []
surplus_layer _ = []

-- the ports that come in, each with the fault that it has where it is one too many
abbrev pub inbound : List Declaration → List Flaw
inbound [] = []
inbound (declaration ∷ more) =
    (if is_of_outbound declaration more then [] else surplus_layer (out-Declaration declaration)) ++ inbound more

-- those behind as many as may come in
abbrev pub surplus : List Declaration → List Flaw
surplus declarations = drop max_inbound (inbound declarations)
