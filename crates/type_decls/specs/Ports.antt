-- The ports that a project declares.
use Rattle.std.specs.Prelude.{ℕ, Bool, not, Option, Some, None, List, [], ◌∷◌, ◌++◌}
use Rattle.elm_base.specs.declared.event.PortType.{PortType}
use Rattle.elm_base.specs.declared.project.PortOf.{PortOf}
use Rattle.elm_base.specs.declared.tree.Set.{Set}
use Rattle.elm_base.specs.declared.tree.Expr.{Expr}
use Rattle.elm_base.specs.declared.tree.Module.{Module}
use Rattle.elm_base.specs.declared.tree.Declaration.{Declaration, out-Declaration}
use Rattle.elm_base.specs.declared.tree.Declaration.TheOpen as tree
use Rattle.module_tops.specs.Tops.{is_of_outbound}
use Rattle.type_names.specs.declared.known.KnownType.{KnownType}
use Rattle.type_names.specs.Answers.{Places, places_in}
use Rattle.decl_faults.specs.Sense.{Expands}
use Rattle.decl_faults.specs.Ports.{carried_by}

-- a port of this name and line that carries this, if it carries something
abbrev pub port_of : List ℕ → ℕ → Bool → Option PortType → List PortOf
port_of name line inbound None = []
port_of name line inbound (Some type) = record { name = name; line = line; inbound = inbound; port = type } ∷ []

abbrev pub port_layer : Expands → Places → Bool → tree.Declaration-F Declaration Expr Set → List PortOf
port_layer by places inbound (tree.PortAnnotation at name written) = port_of name.name at.line inbound (carried_by by places written)
port_layer by places inbound _ = []

-- in the order of the module's declarations; the definition of an outbound port follows its annotation
abbrev pub ports_in : Expands → Places → List Declaration → List PortOf
ports_in by places [] = []
ports_in by places (declaration ∷ more) =
    port_layer by places (not (is_of_outbound declaration more)) (out-Declaration declaration) ++ ports_in by places more

abbrev pub ports_of : Expands → List KnownType → Module → List PortOf
ports_of by types «module» = ports_in by (places_in types «module») «module».declarations
