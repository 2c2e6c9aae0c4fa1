-- How the binders of one top-level definition are numbered: from 0 by their places. The binders that a field function, a
-- tuple maker or a maker has of its own come after all others, by the place of the use and then in order.
use Rattle.std.specs.Prelude.{ℕ, zero, suc, ◌+◌, Bool, true, false, ◌==◌, ◌&&◌, ◌||◌, nat_lt, if◌then◌else◌, Option, Some, None, List, [], ◌∷◌, ◌++◌, map, length}
use Rattle.elm_base.specs.declared.token.At.{At}
use Rattle.elm_base.specs.declared.project.Thing.{Thing}
use Rattle.elm_base.specs.declared.project.Thing.TheVariants as thing
use Rattle.elm_base.specs.declared.tree.Spot.{Spot}
use Rattle.elm_base.specs.declared.tree.Pattern.{Pattern}
use Rattle.elm_base.specs.declared.tree.Pattern.TheOpen as pattern
use Rattle.elm_base.specs.declared.tree.Pattern.TheFolds.{fold-Pattern}
use Rattle.elm_base.specs.declared.tree.Expr.{Expr}
use Rattle.elm_base.specs.declared.tree.Declaration.{Declaration}
use Rattle.elm_base.specs.declared.tree.Declaration.TheOpen as tree
use Rattle.elm_base.specs.declared.tree.Declaration.TheFolds.{fold-Expr, fold-Declaration}
use Rattle.plain_form.specs.Naming.{Naming}
use Rattle.plain_form.specs.PlainForm.{count}

-- one place comes before the other
abbrev pub comes_before : At → At → Bool
comes_before a b = nat_lt a.line b.line || ((a.line == b.line) && nat_lt a.column b.column)

-- the places of binders, and the places at which further binders are wanted, with how many
pub record Binders : Type 0 where
  pub places : List At
  pub own : List (At × ℕ)

abbrev pub no_binders : Binders
no_binders = record { places = []; own = [] }

abbrev pub one : At → Binders
one at = record { places = at ∷ []; own = [] }

abbrev pub further : At → ℕ → Binders
further at n = record { places = []; own = (at, n) ∷ [] }

abbrev pub both : Binders → Binders → Binders
both a b = record { places = a.places ++ b.places; own = a.own ++ b.own }

abbrev pub all : List Binders → Binders
all [] = no_binders
all (b ∷ bs) = both b (all bs)

-- of a pattern, from those of its parts
abbrev pub pattern_binders_step : pattern.Pattern-F Binders → Binders
pattern_binders_step (pattern.Variable at name) = one at
pattern_binders_step (pattern.Made at constructor parts) = all parts
pattern_binders_step (pattern.Cons at head tail) = both head tail
pattern_binders_step (pattern.List at parts) = all parts
pattern_binders_step (pattern.Tuple at parts) = all parts
pattern_binders_step (pattern.Fields at labels) = all (map (λ label. one label.at) labels)
pattern_binders_step (pattern.Brackets at inner) = inner
pattern_binders_step (pattern.Named at inner name) = both inner (one name.at)
pattern_binders_step _ = no_binders

abbrev pub pattern_binders : Pattern → Binders
pattern_binders = fold-Pattern Binders pattern_binders_step

-- a maker wants a binder for each label
abbrev pub use_binders : Naming → At → Option Thing → Binders
use_binders n at (Some (thing.Maker m name)) = further at (count (n.maker m name).labels)
use_binders n at _ = no_binders

-- of an expression, from those of its parts
abbrev pub binders_step : Naming → tree.Expr-F Binders Binders Binders → Binders
binders_step n (tree.Chain at operands operators) = all operands
binders_step n (tree.Binary at operator left right) = both left right
binders_step n (tree.Negate at inner) = inner
binders_step n (tree.Call at function arguments) = both function (all arguments)
binders_step n (tree.Constructor at name) = use_binders n at (n.thing at)
binders_step n (tree.FieldFunction at label) = further at 1
binders_step n (tree.TupleMaker at parts) = further at parts
binders_step n (tree.Access at from label) = from
binders_step n (tree.Brackets at inner) = inner
binders_step n (tree.Tuple at parts) = all parts
binders_step n (tree.List at parts) = all parts
binders_step n (tree.Range at low high) = both low high
binders_step n (tree.Fields at sets) = all sets
binders_step n (tree.Extend at from sets) = both from (all sets)
binders_step n (tree.Update at from sets) = both from (all sets)
binders_step n (tree.Remove at from label sets) = both from (all sets)
binders_step n (tree.Lambda at ps body) = both (all (map pattern_binders ps)) body
binders_step n (tree.If at condition first second) = both condition (both first second)
binders_step n (tree.Guards at choices) = all (map (λ choice. both choice.0 choice.1) choices)
binders_step n (tree.Let at definitions body) = both (all definitions) body
binders_step n (tree.Case at scrutinee choices) =
    both scrutinee (all (map (λ choice. both (pattern_binders choice.0) choice.1) choices))
binders_step n _ = no_binders

-- a definition of a `let` binds its name
abbrev pub declaration_binders_step : tree.Declaration-F Binders Binders Binders → Binders
declaration_binders_step (tree.Definition at name ps body) = both (one at) (both (all (map pattern_binders ps)) body)
declaration_binders_step (tree.PatternDefinition at p body) = both (pattern_binders p) body
declaration_binders_step _ = no_binders

abbrev pub binders_of : Naming → Expr → Binders
binders_of n = fold-Expr Binders Binders Binders declaration_binders_step (binders_step n) (λ set. set.value)

abbrev pub definition_binders : Naming → Declaration → Binders
definition_binders n = fold-Declaration Binders Binders Binders declaration_binders_step (binders_step n) (λ set. set.value)

-- of a top-level definition, whose own name is no binder: its parameters and its body
abbrev pub binders_in : Naming → List Pattern → Expr → Binders
binders_in n ps body = both (all (map pattern_binders ps)) (binders_of n body)

-- how many stand before a place
abbrev pub number_before : At → List At → ℕ
number_before at [] = 0
number_before at (p ∷ ps) = if comes_before p at then suc (number_before at ps) else number_before at ps

abbrev pub own_before : At → List (At × ℕ) → ℕ
own_before at [] = 0
own_before at (p ∷ ps) = if comes_before p.0 at then p.1 + own_before at ps else own_before at ps

-- the names of the definition, with its binders numbered
abbrev pub numbered : Naming → Binders → Naming
numbered n b =
    record {
      thing = n.thing;
      number = λ at. number_before at b.places;
      own = λ at i. length b.places + own_before at b.own + i;
      groups = n.groups;
      top = n.top;
      constructor = n.constructor;
      maker = n.maker;
      written = n.written;
    }
