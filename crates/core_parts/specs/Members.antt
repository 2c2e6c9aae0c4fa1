-- What becomes of a definition of a `let` in its group.
use Rattle.std.specs.Prelude.{ℕ, Bool, true, false, Option, Some, None, List, [], ◌∷◌, ◌++◌, map}
use Rattle.elm_base.specs.declared.token.At.{At}
use Rattle.elm_base.specs.declared.tree.Set.{Set}
use Rattle.elm_base.specs.declared.tree.Expr.{Expr}
use Rattle.elm_base.specs.declared.tree.Declaration.{Declaration, out-Declaration}
use Rattle.elm_base.specs.declared.tree.Declaration.TheOpen as tree
use Rattle.typing_rules.specs.WrittenTypes.{Written}
use Rattle.typing_rules.specs.CorePatterns.{CorePattern}
use Rattle.typing_rules.specs.Core.{Core, Lambda}
use Rattle.plain_form.specs.Naming.{Naming}
use Rattle.plain_form.specs.PlainForm.{Defined, Named, Apart, Other, annotation_of, defined_at, held_to, lambdas, no_core, plain_pattern}
use Rattle.core_trees.specs.Reading.{Function, Group, Value, Functions, functions, function_of, group_before}
use Rattle.core_trees.specs.PatternReading.{pattern_of}
use Rattle.core_trees.specs.Reading.{core_of}
use Rattle.core_parts.specs.declared.members.Abstraction.{Abstraction}
use Rattle.core_parts.specs.declared.members.Member.{Member as MemberTree}
use Rattle.core_parts.specs.declared.members.Member.TheVariants as m

-- a function, a value, or what no group has
pub data Member : Type 0 where
  AFunction : (function : Function) → Member
  AValue : (pattern : CorePattern) (value : Core) → Member
  NoMember : Member

abbrev pub as_lambda : Core → Option (CorePattern × Core)
as_lambda (Lambda p b) = Some (p, b)
as_lambda _ = None

-- a named definition is a function where it is a lambda, and else a value, held to its annotation
abbrev pub function_from : CorePattern × Core → ℕ → Option Written → Member
function_from f number written = AFunction (record { number = number; annotation = written; pattern = f.0; body = f.1 })

abbrev pub named_where : Option (CorePattern × Core) → ℕ → Option Written → Core → Member
named_where (Some f) number written e = function_from f number written
named_where None number written e = AValue (CorePattern.Local number) (held_to written e)

abbrev pub named : ℕ → Option Written → Core → Member
named number written e = named_where (as_lambda e) number written e

abbrev pub member_from : Naming → List Defined → Defined → Member
member_from n all (Named at name value) = named (n.number at) (annotation_of name all) value
member_from n all (Apart at p value) = AValue p value
member_from n all _ = NoMember

-- the definition with this as the plain form of its body
abbrev pub with_body_layer : Naming → tree.Declaration-F Declaration Expr Set → Core → Defined
with_body_layer n (tree.Definition at name ps body) v = Named at name (lambdas (map (plain_pattern n) ps) v)
with_body_layer n (tree.PatternDefinition at p body) v = Apart at (plain_pattern n p) v
with_body_layer n _ v = Other

abbrev pub with_body : Naming → Declaration → Core → Defined
with_body n d v = with_body_layer n (out-Declaration d) v

-- the definition at a place
abbrev pub member_at : Naming → List Defined → At → Member
member_at n all at = member_from n all (defined_at at all)

abbrev pub member_of : MemberTree → Member
member_of (m.Function function) = AFunction (function_of function)
member_of (m.Value pattern value) = AValue (pattern_of pattern) (core_of value)
member_of m.Nothing = NoMember

abbrev pub abstraction_of : Abstraction → CorePattern × Core
abstraction_of a = (pattern_of a.pattern, lambdas (map pattern_of a.more) (core_of a.body))

-- the first of two annotations, where there is one
abbrev pub first_of : Option Written → Option Written → Option Written
first_of (Some written) other = Some written
first_of None other = other

-- ---- groups

abbrev pub in_front : Member → Option (List Function) → Option (List Function)
in_front (AFunction f) (Some fs) = Some (f ∷ fs)
in_front _ _ = None

-- all of them, where each is a function
abbrev pub functions_in : List Member → Option (List Function)
functions_in [] = Some []
functions_in (m ∷ ms) = in_front m (functions_in ms)

abbrev pub group_from : Option (List Function) → Option Group
group_from (Some fs) = Some (Functions (functions fs))
group_from None = None

-- one that stands alone is a function or a value
abbrev pub alone : Member → Option Group
alone (AFunction f) = Some (Functions (functions (f ∷ [])))
alone (AValue p e) = Some (Value p e)
alone NoMember = None

-- several that reach each other are functions
abbrev pub group_in : List Member → Option Group
group_in (m ∷ []) = alone m
group_in ms = group_from (functions_in ms)

-- what stands behind a group that isn't there plays no part
abbrev pub placed : Option Group → Core → Core
placed (Some g) rest = group_before g rest
placed None rest = no_core

abbrev pub where_whole : Bool → Core → Core
where_whole true rest = rest
where_whole false rest = no_core

abbrev pub added : List Function → Option (List Function) → Option (List Function)
added fs None = None
added fs (Some more) = Some (fs ++ more)
