-- What is wrong with the types and ports that a module declares.
use Rattle.std.specs.Prelude.{List, ◌++◌}
use Rattle.elm_base.specs.declared.tree.Module.{Module}
use Rattle.module_names.specs.declared.flaws.Flaw.{Flaw}
use Rattle.type_names.specs.declared.known.KnownType.{KnownType}
use Rattle.type_names.specs.Answers.{places_in}
use Rattle.alias_cycles.specs.declared.texts.AliasText.{AliasText}
use Rattle.type_faults.specs.Flaws as texts
use Rattle.type_faults.specs.Flaws.{Leads}
use Rattle.decl_faults.specs.Sense.{Sense, Expands, senseless_in}
use Rattle.decl_faults.specs.Ports.{portless_in, surplus}

abbrev pub beside_texts : Sense → List KnownType → Expands → Module → List Flaw
beside_texts sense types by «module» =
    senseless_in sense by (places_in types «module») «module».declarations
    ++ (portless_in by (places_in types «module») «module».declarations ++ surplus «module».declarations)

-- Of the faults at one place the first that is listed counts: what is wrong in a text, then a type that makes no sense, then a
-- port that can't be.
abbrev pub faults_in : Sense → List KnownType → List AliasText → Leads → Expands → Module → List Flaw
faults_in sense types aliases leads by «module» =
    texts.faults_in types aliases leads «module» ++ beside_texts sense types by «module»
