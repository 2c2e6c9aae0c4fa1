-- Trees of worked cases, in their plain form, and the world in which they stand.
use Rattle.std.specs.Prelude.{ℕ, pos, Option, Some, None, List, [], ◌∷◌, codes}
use Prim.Native.String.{String}
use Rattle.elm_base.specs.declared.native.TheConstants.{ADD, LESS, TO_STRING, TEXT, MAP}
use Rattle.elm_base.specs.declared.term.Literal.TheVariants as literal
use Rattle.elm_meaning.specs.declared.callee.Callee.TheVariants as callee
use Rattle.elm_meaning.specs.Patterns.{Pattern}
use Rattle.elm_meaning.specs.Values.{Value, Applicable, Closure, Partial, Tree}
use Rattle.elm_meaning.specs.Spelling.{values}
use Rattle.elm_typing.specs.Ground.{Ground, NoGrounds, AndGround}
use Rattle.elm_typing.specs.Spelling.{all_simple}
use Rattle.typing_rules.specs.WrittenTypes.{Written, Variable, NoWrittenFields, AndWrittenField}
use Rattle.typing_rules.specs.Library.{library_unions, devices, int_}
use Rattle.typing_rules.specs.Unions.{Union}
use Rattle.typing_rules.specs.CorePatterns.{CorePattern, CorePatterns, NoCorePatterns, AndCorePattern}
use Rattle.typing_rules.specs.Worlds.{Types, World, no_surroundings}
use Rattle.typing_rules.specs.Core.{Core, Cores, CoreFields, CoreGuards, CoreBranches, Local, Top, Input, Literal, Native, Constructor, Lambda, Call, LetValue, LetFunctions, Tuple, Fields, Extend, Field, NoCores, AndCore, NoCoreFields, AndCoreField, NoCoreGuards, AndCoreGuard, NoCoreBranches, AndCoreBranch, NoCoreFunctions, AndCoreFunction}
use Rattle.typing_rules.specs.CoreTypes.{CoreHas}
use Rattle.typing_rules.specs.TopGroups.{Definition, no_tops, world_with, after_groups, IsAccepted}

abbrev pub number : ℕ → Core
number n = Literal (literal.Int (pos n))

abbrev pub text : String → Core
text s = Literal (literal.Text (codes s))

abbrev pub call : Core → List Core → Core
call f [] = f
call f (a ∷ more) = call (Call f a) more

abbrev pub cores : List Core → Cores
cores [] = NoCores
cores (e ∷ es) = AndCore e (cores es)

abbrev pub tuple_of : List Core → Core
tuple_of es = Tuple (cores es)

abbrev pub sets : List (String × Core) → CoreFields
sets [] = NoCoreFields
sets (f ∷ fs) = AndCoreField (codes f.0) f.1 (sets fs)

abbrev pub branches : List (CorePattern × Core) → CoreBranches
branches [] = NoCoreBranches
branches (b ∷ bs) = AndCoreBranch b.0 b.1 (branches bs)

-- a name, and \x -> e
abbrev pub name : ℕ → CorePattern
name x = CorePattern.Local x

abbrev pub lambda : ℕ → Core → Core
lambda x e = Lambda (name x) e

-- let x = e in b
abbrev pub let_name : ℕ → Core → Core → Core
let_name x e b = LetValue (name x) e b

-- let f x = e in b
abbrev pub let_function : ℕ → ℕ → Core → Core → Core
let_function f x e b = LetFunctions (AndCoreFunction f None (name x) e NoCoreFunctions) b

abbrev pub definition : ℕ → Core → Definition
definition top e = record { top = top; annotation = None; body = e }

-- always a _ = a, fst (a, _) = a, Mouse.position, Mouse.x = Signal.map fst position, show v = text (toString v)
abbrev pub tops_before : List (List Definition)
tops_before =
    (definition 0 (lambda 0 (Lambda CorePattern.Anything (Local 0))) ∷ [])
    ∷ (definition 1 (Lambda (CorePattern.Tuple (AndCorePattern (name 0) (AndCorePattern CorePattern.Anything NoCorePatterns))) (Local 0)) ∷ [])
    ∷ (definition 2 (Input 0) ∷ [])
    ∷ (definition 3 (call (Native MAP) (Top 1 ∷ Top 2 ∷ [])) ∷ [])
    ∷ (definition 4 (lambda 0 (Call (Native TEXT) (Call (Native TO_STRING) (Local 0)))) ∷ [])
    ∷ []

abbrev pub always : Core
always = Top 0

abbrev pub mouse_x : Core
mouse_x = Top 3

abbrev pub show : Core
show = Top 4

abbrev pub here : World
here = world_with library_unions devices (after_groups library_unions devices tops_before no_tops) all_simple

-- the types of a closed tree
abbrev pub Has : Core → Types
Has e = CoreHas here no_surroundings e

abbrev pub HasNone : Core → Type 0
HasNone e = (type : Ground) → Has e type → ⊥

-- { { x = 1 } | x = "a" }
abbrev pub two_fields : Core
two_fields = Extend (Fields (sets (("x", number 1) ∷ []))) (sets (("x", text "a") ∷ []))

-- \f -> (f 1, f "a")
abbrev pub given_twice : Core
given_twice = lambda 0 (tuple_of (Call (Local 0) (number 1) ∷ Call (Local 0) (text "a") ∷ []))

-- let id x = x in (id 1, id "a")
abbrev pub named_twice : Core
named_twice = let_function 0 1 (Local 1) (tuple_of (Call (Local 0) (number 1) ∷ Call (Local 0) (text "a") ∷ []))

-- let (f, n) = (\x -> x, 1) in (f 1, f "a")
abbrev pub taken_twice : Core
taken_twice =
    LetValue (CorePattern.Tuple (AndCorePattern (name 0) (AndCorePattern (name 1) NoCorePatterns)))
    (tuple_of (lambda 2 (Local 2) ∷ number 1 ∷ []))
    (tuple_of (Call (Local 0) (number 1) ∷ Call (Local 0) (text "a") ∷ []))

-- the group's types in the world of the library
abbrev pub lone : Option Written → Core → List Definition
lone written e = record { top = 9; annotation = written; body = e } ∷ []

-- a type of functions of these arguments
abbrev pub functions : List Ground → Ground → Ground
functions [] result = result
functions (t ∷ ts) result = Ground.Function t (functions ts result)

-- written types of annotations

abbrev pub var : String → Written
var x = Variable (codes x)

-- { r | x : Int }
abbrev pub with_x : Written
with_x = Written.Fields (Some (codes "r")) (AndWrittenField (codes "x") int_ NoWrittenFields)

-- the group of one definition with this annotation has a typing that is accepted
abbrev pub Accepted : Written → Core → Type 0
Accepted written e = IsAccepted (world_with library_unions devices (after_groups library_unions devices tops_before no_tops)) (lone (Some written) e)

-- x < y, and x + 1
abbrev pub smaller : Core
smaller = lambda 0 (lambda 1 (call (Native LESS) (Local 0 ∷ Local 1 ∷ [])))

abbrev pub one_more : Core
one_more = lambda 0 (call (Native ADD) (Local 0 ∷ number 1 ∷ []))

-- \r -> r.x
abbrev pub get_x : Core
get_x = lambda 0 (Field (Local 0) (codes "x"))

-- patterns

abbrev pub patterns : List CorePattern → CorePatterns
patterns [] = NoCorePatterns
patterns (p ∷ ps) = AndCorePattern p (patterns ps)

-- a constructor of whichever union has it
abbrev pub made : String → List CorePattern → CorePattern
made constructor ps = CorePattern.Made None (codes constructor) (patterns ps)

abbrev pub truth : Core
truth = Constructor (codes "Basics.Bool") (codes "True") 0

abbrev pub exactly_one : CorePattern
exactly_one = CorePattern.Literal (literal.Int (pos 1))

abbrev pub guarded : List (Core × Core) → CoreGuards
guarded [] = NoCoreGuards
guarded (g ∷ gs) = AndCoreGuard g.0 g.1 (guarded gs)

-- values

abbrev pub partial : ℕ → List Value → Value
partial number vs = Applicable (Partial (callee.Native number) (values vs))

-- \x -> x
abbrev pub identity : Value
identity = Applicable (Closure (Pattern.Local 0) (Tree.Local 0))

-- type T a = T { a | x : Int }
abbrev pub boxes : List Union
boxes = record {
  name = codes "Main.T";
  parameters = codes "a" ∷ [];
  constructors = (codes "T", Written.Fields (Some (codes "a")) (AndWrittenField (codes "x") int_ NoWrittenFields) ∷ []) ∷ [];
} ∷ []

abbrev pub boxed : Ground → Ground
boxed type = Ground.Named (codes "Main.T") (AndGround type NoGrounds)
