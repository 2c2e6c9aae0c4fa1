-- That no alias is declared twice.
use Rattle.std.specs.Prelude.{◌≡◌, ℕ, Option, Some, None, List}
use Rattle.std.specs.List.{Contains}
use Rattle.elm_base.specs.declared.tree.Set.{Set}
use Rattle.elm_base.specs.declared.tree.Expr.{Expr}
use Rattle.elm_base.specs.declared.tree.Module.{Module}
use Rattle.elm_base.specs.declared.tree.Declaration.{Declaration, out-Declaration}
use Rattle.elm_base.specs.declared.tree.Declaration.TheOpen as tree

abbrev pub alias_name_layer : tree.Declaration-F Declaration Expr Set → Option (List ℕ)
alias_name_layer (tree.Alias at name parameters written) = Some name.name
alias_name_layer _ = None

-- the name of the alias that a declaration is, if it is one
abbrev pub alias_name : Declaration → Option (List ℕ)
alias_name declaration = alias_name_layer (out-Declaration declaration)

-- an alias of this name, in a module of this name
pub record IsAliasOf (modules : List Module) (home name : List ℕ) («module» : Module) (declaration : Declaration) : Type 0 where
  pub module_in : Contains modules «module»
  pub in_module : Contains «module».declarations declaration
  pub home_is : «module».name ≡ home
  pub name_is : alias_name declaration ≡ Some name

-- there is one such alias at most
abbrev pub AliasesOnce : List Module → Type 0
AliasesOnce modules = (home name : List ℕ) (first second : Module) (declaration other : Declaration) →
    IsAliasOf modules home name first declaration → IsAliasOf modules home name second other → (first ≡ second) × (declaration ≡ other)
