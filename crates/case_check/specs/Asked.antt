-- What a pattern of a typed project asks for.
use Rattle.std.specs.Prelude.{ℕ, Bool, false, ◌==◌, ◌&&◌, ◌||◌, if◌then◌else◌, Option, Some, None, List, [], ◌∷◌, map, length, codes}
use Rattle.std.specs.Str.{bytes_eq}
use Rattle.elm_base.specs.declared.token.At.{At}
use Rattle.elm_base.specs.declared.tree.TypeTree.{TypeTree}
use Rattle.elm_base.specs.declared.tree.Pattern.{Pattern}
use Rattle.elm_base.specs.declared.tree.Pattern.TheOpen as pattern
use Rattle.elm_base.specs.declared.tree.Pattern.TheFolds.{fold-Pattern}
use Rattle.elm_base.specs.declared.project.Meaning.{Meaning}
use Rattle.elm_base.specs.declared.project.Thing.{Thing}
use Rattle.elm_base.specs.declared.project.Thing.TheVariants as thing
use Rattle.elm_base.specs.declared.project.Typed.{Typed}
use Rattle.elm_base.specs.declared.project.UnionOf.{UnionOf}
use Rattle.case_check.specs.Shapes.{Choice, Wanted, Anything, Literal, NoWanteds, wanteds}

abbrev pub is_at : List ℕ → At → Meaning → Bool
is_at module_name at m = bytes_eq m.«module» module_name && ((m.at.line == at.line) && (m.at.column == at.column))

-- what the name at a place of this module stands for
abbrev pub thing_at : List ℕ → At → List Meaning → Option Thing
thing_at module_name at [] = None
thing_at module_name at (m ∷ ms) = if is_at module_name at m then Some m.thing else thing_at module_name at ms

-- ---- unions

abbrev pub is_among : List ℕ → List (List ℕ × List TypeTree) → Bool
is_among name [] = false
is_among name (c ∷ cs) = bytes_eq c.0 name || is_among name cs

abbrev pub choices_of : List (List ℕ × List TypeTree) → List Choice
choices_of cs = map (λ c. (c.0, length c.1)) cs

-- the constructors of the module's union that has this one
abbrev pub union_with : List ℕ → List ℕ → List UnionOf → List Choice
union_with module_name name [] = []
union_with module_name name (u ∷ us) =
    if bytes_eq u.«module» module_name && is_among name u.constructors then choices_of u.constructors
    else union_with module_name name us

-- the one constructor of tuples and of `()`
abbrev pub tuple_of : List Wanted → Wanted
tuple_of ws = Wanted.Made ((codes "()", length ws) ∷ []) (codes "()") (wanteds ws)

abbrev pub lists : List Choice
lists = (codes "[]", 0) ∷ (codes "::", 2) ∷ []

abbrev pub cons_of : Wanted → Wanted → Wanted
cons_of head tail = Wanted.Made lists (codes "::") (wanteds (head ∷ tail ∷ []))

abbrev pub in_front : List Wanted → Wanted → Wanted
in_front [] tail = tail
in_front (w ∷ ws) tail = cons_of w (in_front ws tail)

-- a list pattern is its parts in front of the empty list
abbrev pub list_of : List Wanted → Wanted
list_of ws = in_front ws (Wanted.Made lists (codes "[]") NoWanteds)

-- The union and the name of a constructor. A name that is no constructor has neither. No typed project has one in a pattern.
abbrev pub constructor_of : List UnionOf → Option Thing → List Choice × List ℕ
constructor_of us (Some (thing.Constructor module_name name)) = (union_with module_name name us, name)
constructor_of us _ = ([], [])

abbrev pub constructor_at : Typed → List ℕ → At → List Choice × List ℕ
constructor_at typed module_name at = constructor_of typed.decls.unions (thing_at module_name at typed.resolved.meanings)

abbrev pub made_of : List Choice × List ℕ → List Wanted → Wanted
made_of c ws = Wanted.Made c.0 c.1 (wanteds ws)

-- ---- patterns

-- from what its parts ask for: variables and record patterns ask for nothing
abbrev pub asked_step : Typed → List ℕ → pattern.Pattern-F Wanted → Wanted
asked_step typed module_name (pattern.Anything at) = Anything
asked_step typed module_name (pattern.Variable at name) = Anything
asked_step typed module_name (pattern.Int at value) = Literal
asked_step typed module_name (pattern.Char at value) = Literal
asked_step typed module_name (pattern.Text at value) = Literal
asked_step typed module_name (pattern.Unit at) = tuple_of []
asked_step typed module_name (pattern.Made at constructor parts) =
    made_of (constructor_at typed module_name at) parts
asked_step typed module_name (pattern.Cons at head tail) = cons_of head tail
asked_step typed module_name (pattern.List at parts) = list_of parts
asked_step typed module_name (pattern.Tuple at parts) = tuple_of parts
asked_step typed module_name (pattern.Fields at labels) = Anything
asked_step typed module_name (pattern.Brackets at inner) = inner
asked_step typed module_name (pattern.Named at inner name) = inner

abbrev pub asked : Typed → List ℕ → Pattern → Wanted
asked typed module_name = fold-Pattern Wanted (asked_step typed module_name)
