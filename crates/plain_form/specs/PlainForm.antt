-- The plain form of a resolved tree.
use Rattle.std.specs.Prelude.{ℕ, zero, suc, pos, Bool, true, false, if◌then◌else◌, Option, Some, None, List, [], ◌∷◌, map, codes}
use Rattle.std.specs.Str.{bytes_eq}
use Rattle.elm_base.specs.declared.token.At.{At}
use Rattle.elm_base.specs.declared.native.TheConstants.{NEGATE}
use Rattle.elm_base.specs.declared.project.Thing.{Thing}
use Rattle.elm_base.specs.declared.project.Thing.TheVariants as thing
use Rattle.elm_base.specs.declared.term.Literal.TheVariants as literal
use Rattle.elm_base.specs.declared.tree.Spot.{Spot}
use Rattle.elm_base.specs.declared.tree.TypeTree.{TypeTree}
use Rattle.elm_base.specs.declared.tree.Pattern.{Pattern}
use Rattle.elm_base.specs.declared.tree.Pattern.TheOpen as pattern
use Rattle.elm_base.specs.declared.tree.Pattern.TheFolds.{fold-Pattern}
use Rattle.elm_base.specs.declared.tree.Set.{Set}
use Rattle.elm_base.specs.declared.tree.Expr.{Expr}
use Rattle.elm_base.specs.declared.tree.Declaration.{Declaration}
use Rattle.elm_base.specs.declared.tree.Declaration.TheOpen as tree
use Rattle.elm_base.specs.declared.tree.Declaration.TheFolds.{fold-Expr, fold-Declaration, fold-Set}
use Rattle.typing_rules.specs.WrittenTypes.{Written}
use Rattle.typing_rules.specs.CorePatterns.{CorePattern, CorePatterns, NoCorePatterns, AndCorePattern}
use Rattle.typing_rules.specs.Core.{Core, Cores, CoreFields, CoreGuards, CoreBranches, CoreGroup, Local, Literal, Native, Constructor, Held, Lambda, Call, If, Guards, Case, LetValue, LetFunctions, Tuple, ListOf, Range, Fields, Update, Extend, Remove, Field, NoCores, AndCore, NoCoreFields, AndCoreField, NoCoreGuards, AndCoreGuard, NoCoreBranches, AndCoreBranch, NoCoreFunctions, AndCoreFunction}
use Rattle.plain_form.specs.Naming.{Naming, Maker, same_place}

-- lists of parts

abbrev pub cores : List Core → Cores
cores [] = NoCores
cores (e ∷ es) = AndCore e (cores es)

abbrev pub patterns : List CorePattern → CorePatterns
patterns [] = NoCorePatterns
patterns (p ∷ ps) = AndCorePattern p (patterns ps)

abbrev pub fields : List (List ℕ × Core) → CoreFields
fields [] = NoCoreFields
fields (f ∷ fs) = AndCoreField f.0 f.1 (fields fs)

abbrev pub guards : List (Core × Core) → CoreGuards
guards [] = NoCoreGuards
guards (g ∷ gs) = AndCoreGuard g.0 g.1 (guards gs)

abbrev pub branches : List (CorePattern × Core) → CoreBranches
branches [] = NoCoreBranches
branches (b ∷ bs) = AndCoreBranch b.0 b.1 (branches bs)

-- one argument after the other, and one parameter round the other
abbrev pub call : Core → List Core → Core
call f [] = f
call f (a ∷ more) = call (Call f a) more

abbrev pub lambdas : List CorePattern → Core → Core
lambdas [] body = body
lambdas (p ∷ ps) body = Lambda p (lambdas ps body)

-- A tree without a type. It stands for what no resolved tree has.
abbrev pub no_core : Core
no_core = Field (Fields NoCoreFields) []

-- patterns

-- a list pattern is elements in front of the empty list
abbrev pub listed : List CorePattern → CorePattern
listed [] = CorePattern.Nil
listed (p ∷ ps) = CorePattern.Cons p (listed ps)

-- A constructor of its union. A maker is no constructor of any.
abbrev pub made_of : Naming → Option Thing → List CorePattern → CorePattern
made_of n (Some (thing.Constructor m name)) ps = CorePattern.Made (Some (n.constructor m name).0) name (patterns ps)
made_of n _ ps = CorePattern.Made (Some []) [] (patterns ps)

abbrev pub label_of : Naming → Spot → List ℕ × ℕ
label_of n spot = (spot.name, n.number spot.at)

-- brackets are nothing, and names are the numbers of their binders
abbrev pub pattern_step : Naming → pattern.Pattern-F CorePattern → CorePattern
pattern_step n (pattern.Anything at) = CorePattern.Anything
pattern_step n (pattern.Variable at name) = CorePattern.Local (n.number at)
pattern_step n (pattern.Int at value) = CorePattern.Literal (literal.Int value)
pattern_step n (pattern.Char at value) = CorePattern.Literal (literal.Char value)
pattern_step n (pattern.Text at value) = CorePattern.Literal (literal.Text value)
pattern_step n (pattern.Unit at) = CorePattern.Literal literal.Unit
pattern_step n (pattern.Made at constructor parts) = made_of n (n.thing at) parts
pattern_step n (pattern.Cons at head tail) = CorePattern.Cons head tail
pattern_step n (pattern.List at parts) = listed parts
pattern_step n (pattern.Tuple at parts) = CorePattern.Tuple (patterns parts)
pattern_step n (pattern.Fields at labels) = CorePattern.Fields (map (label_of n) labels)
pattern_step n (pattern.Brackets at inner) = inner
pattern_step n (pattern.Named at inner name) = CorePattern.Named inner (n.number name.at)

abbrev pub plain_pattern : Naming → Pattern → CorePattern
plain_pattern n = fold-Pattern CorePattern (pattern_step n)

-- names

-- a tuple of the parameters, counted from i
abbrev pub parameters : Naming → At → ℕ → ℕ → Cores
parameters n at i zero = NoCores
parameters n at i (suc k) = AndCore (Local (n.own at i)) (parameters n at (suc i) k)

abbrev pub binders : Naming → At → ℕ → ℕ → List CorePattern
binders n at i zero = []
binders n at i (suc k) = CorePattern.Local (n.own at i) ∷ binders n at (suc i) k

-- each label with its parameter
abbrev pub labelled : Naming → At → ℕ → List (List ℕ) → CoreFields
labelled n at i [] = NoCoreFields
labelled n at i (l ∷ ls) = AndCoreField l (Local (n.own at i)) (labelled n at (suc i) ls)

abbrev pub count : List (List ℕ) → ℕ
count [] = zero
count (l ∷ ls) = suc (count ls)

-- \a b -> { x = a, y = b }, with the record held to what is written
abbrev pub made_by : Naming → At → Maker → Core
made_by n at m = lambdas (binders n at zero (count m.labels)) (Held m.written (Fields (labelled n at zero m.labels)))

abbrev pub constructor_of : List ℕ → List ℕ × ℕ → Core
constructor_of name c = Constructor c.0 name c.1

abbrev pub use_of : Naming → At → Option Thing → Core
use_of n at (Some (thing.Local binder)) = Local (n.number binder)
use_of n at (Some (thing.Top m name)) = n.top m name
use_of n at (Some (thing.Constructor m name)) = constructor_of name (n.constructor m name)
use_of n at (Some (thing.Maker m name)) = made_by n at (n.maker m name)
use_of n at None = no_core

-- True and False of Basics, whatever is in scope
abbrev pub truth : Core
truth = Constructor (codes "Basics.Bool") (codes "True") zero

abbrev pub falsehood : Core
falsehood = Constructor (codes "Basics.Bool") (codes "False") zero

-- by its spelling: `a && b` and `a || b` are `if`, and any other operator is a call
abbrev pub operation : List ℕ → Core → Core → Core → Core
operation spelling op a b =
    if bytes_eq spelling (codes "&&") then If a b falsehood
    else (if bytes_eq spelling (codes "||") then If a truth b
    else Call (Call op a) b)

-- taken away, and then perhaps fields put in front
abbrev pub with_fields : Core → List (List ℕ × Core) → Core
with_fields e [] = e
with_fields e (f ∷ fs) = Extend e (fields (f ∷ fs))

-- the definitions of a `let`

pub data Defined : Type 0 where
  Annotated : (name : List ℕ) (written : Written) → Defined
  Named : (at : At) (name : List ℕ) (value : Core) → Defined
  Apart : (at : At) (pattern : CorePattern) (value : Core) → Defined
  Other : Defined

abbrev pub annotation_of : List ℕ → List Defined → Option Written
annotation_of name [] = None
annotation_of name (Annotated other written ∷ ds) = if bytes_eq other name then Some written else annotation_of name ds
annotation_of name (_ ∷ ds) = annotation_of name ds

abbrev pub stands_at : At → Defined → Bool
stands_at at (Named other name value) = same_place other at
stands_at at (Apart other pattern value) = same_place other at
stands_at at _ = false

-- the definition at a place
abbrev pub defined_at : At → List Defined → Defined
defined_at at [] = Other
defined_at at (d ∷ ds) = if stands_at at d then d else defined_at at ds

abbrev pub held_to : Option Written → Core → Core
held_to None e = e
held_to (Some written) e = Held written e

-- functions that may call each other; None where one of them is no function
abbrev pub function_before : Naming → Defined → List Defined → Option CoreGroup → Option CoreGroup
function_before n (Named at name (Lambda p b)) all (Some g) = Some (AndCoreFunction (n.number at) (annotation_of name all) p b g)
function_before n _ all _ = None

abbrev pub functions_of : Naming → List At → List Defined → Option CoreGroup
functions_of n [] all = Some NoCoreFunctions
functions_of n (at ∷ ats) all = function_before n (defined_at at all) all (functions_of n ats all)

abbrev pub value_before : Naming → Defined → List Defined → Core → Core
value_before n (Named at name value) all body = LetValue (CorePattern.Local (n.number at)) (held_to (annotation_of name all) value) body
value_before n (Apart at p value) all body = LetValue p value body
value_before n _ all body = no_core

-- functions, or else one value
abbrev pub group_before : Naming → Option CoreGroup → List At → List Defined → Core → Core
group_before n (Some g) ats all body = LetFunctions g body
group_before n None (at ∷ []) all body = value_before n (defined_at at all) all body
group_before n None _ all body = no_core

-- the groups in order
abbrev pub groups_before : Naming → List (List At) → List Defined → Core → Core
groups_before n [] all body = body
groups_before n (g ∷ gs) all body = group_before n (functions_of n g all) g all (groups_before n gs all body)

-- expressions

abbrev pub expr_step : Naming → tree.Expr-F Defined Core (List ℕ × Core) → Core
expr_step n (tree.Chain at operands operators) = no_core
expr_step n (tree.Binary at operator left right) = operation operator.name (use_of n operator.at (n.thing operator.at)) left right
expr_step n (tree.Negate at inner) = Call (Native NEGATE) inner
expr_step n (tree.Call at function arguments) = call function arguments
expr_step n (tree.Int at value) = Literal (literal.Int value)
expr_step n (tree.Char at value) = Literal (literal.Char value)
expr_step n (tree.Text at value) = Literal (literal.Text value)
expr_step n (tree.Variable at name) = use_of n at (n.thing at)
expr_step n (tree.Constructor at name) = use_of n at (n.thing at)
expr_step n (tree.OperatorName at name) = use_of n at (n.thing at)
expr_step n (tree.FieldFunction at label) = Lambda (CorePattern.Local (n.own at zero)) (Field (Local (n.own at zero)) label)
expr_step n (tree.Access at from label) = Field from label
expr_step n (tree.TupleMaker at parts) = lambdas (binders n at zero parts) (Tuple (parameters n at zero parts))
expr_step n (tree.Unit at) = Literal literal.Unit
expr_step n (tree.Brackets at inner) = inner
expr_step n (tree.Tuple at parts) = Tuple (cores parts)
expr_step n (tree.List at parts) = ListOf (cores parts)
expr_step n (tree.Range at low high) = Range low high
expr_step n (tree.Fields at sets) = Fields (fields sets)
expr_step n (tree.Extend at from sets) = Extend from (fields sets)
expr_step n (tree.Update at from sets) = Update from (fields sets)
expr_step n (tree.Remove at from label sets) = with_fields (Remove from label) sets
expr_step n (tree.Lambda at ps body) = lambdas (map (plain_pattern n) ps) body
expr_step n (tree.If at condition first second) = If condition first second
expr_step n (tree.Guards at choices) = Guards (guards choices)
expr_step n (tree.Let at definitions body) = groups_before n (n.groups at) definitions body
expr_step n (tree.Case at scrutinee choices) = Case scrutinee (branches (map (λ choice. (plain_pattern n choice.0, choice.1)) choices))

-- a definition with parameters is one of nested lambdas
abbrev pub declaration_step : Naming → tree.Declaration-F Defined Core (List ℕ × Core) → Defined
declaration_step n (tree.Annotation at name written) = Annotated name (n.written written)
declaration_step n (tree.Definition at name ps body) = Named at name (lambdas (map (plain_pattern n) ps) body)
declaration_step n (tree.PatternDefinition at p body) = Apart at (plain_pattern n p) body
declaration_step n _ = Other

abbrev pub plain : Naming → Expr → Core
plain n = fold-Expr Defined Core (List ℕ × Core) (declaration_step n) (expr_step n) (λ set. (set.label, set.value))

abbrev pub plain_definition : Naming → Declaration → Defined
plain_definition n = fold-Declaration Defined Core (List ℕ × Core) (declaration_step n) (expr_step n) (λ set. (set.label, set.value))

abbrev pub plain_set : Naming → Set → List ℕ × Core
plain_set n = fold-Set Defined Core (List ℕ × Core) (declaration_step n) (expr_step n) (λ set. (set.label, set.value))
