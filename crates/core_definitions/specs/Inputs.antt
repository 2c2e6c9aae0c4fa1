-- The inputs of a project: devices and inbound ports, in the order of its modules and then of lines.
use Rattle.std.specs.Prelude.{ℕ, suc, ◌&&◌, if◌then◌else◌, List, [], ◌∷◌, ◌++◌, bytes_eq}
use Rattle.std.specs.List.{flat_map}
use Rattle.elm_base.specs.declared.token.At.{At}
use Rattle.elm_base.specs.declared.tree.Set.{Set}
use Rattle.elm_base.specs.declared.tree.Expr.{Expr}
use Rattle.elm_base.specs.declared.tree.Module.{Module}
use Rattle.elm_base.specs.declared.tree.Declaration.{Declaration, out-Declaration}
use Rattle.elm_base.specs.declared.tree.Declaration.TheOpen as tree
use Rattle.module_tops.specs.Tops.{is_of_outbound}
use Rattle.plain_form.specs.Naming.{same_place}

-- a module's name, and a place in it
abbrev pub Place : Type 0
Place = List ℕ × At

abbrev pub input_layer : List ℕ → tree.Declaration-F Declaration Expr Set → List Place
input_layer home (tree.Device at name written) = (home, at) ∷ []
input_layer home (tree.PortAnnotation at name written) = (home, at) ∷ []
input_layer home _ = []

abbrev pub input_of : List ℕ → Declaration → List Place
input_of home declaration = input_layer home (out-Declaration declaration)

-- the annotation of a port is an input, unless the port's definition follows
abbrev pub inputs_from : List ℕ → List Declaration → List Place
inputs_from home [] = []
inputs_from home (declaration ∷ more) =
    (if is_of_outbound declaration more then [] else input_of home declaration) ++ inputs_from home more

abbrev pub inputs_of : Module → List Place
inputs_of m = inputs_from m.name m.declarations

abbrev pub inputs_in : List Module → List Place
inputs_in modules = flat_map inputs_of modules

-- how many inputs stand before the one at this place
abbrev pub input_at : List ℕ → At → List Place → ℕ
input_at home at [] = 0
input_at home at (input ∷ more) = if bytes_eq input.0 home && same_place input.1 at then 0 else suc (input_at home at more)
