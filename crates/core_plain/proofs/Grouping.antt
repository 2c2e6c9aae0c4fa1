-- Groups of members are groups of the plain form.
use Rattle.std.proofs.Common.{◌≡◌, ◌<◌, ◌≤◌, ◌+◌, ℕ, zero, suc, Bool, true, false, if◌then◌else◌, Option, Some, None, List, [], ◌∷◌, ◌++◌, map, drop, length, get_or, option_map, refl, sym, ap, ◌∙◌, arith, add-one}
use Rattle.elm_base.specs.declared.token.At.{At}
use Rattle.typing_rules.specs.WrittenTypes.{Written}
use Rattle.typing_rules.specs.CorePatterns.{CorePattern}
use Rattle.typing_rules.specs.Core.{Core, CoreGroup, Local, Top, Input, Literal, Native, Constructor, Held, Lambda, Call, If, Guards, Case, LetValue, LetFunctions, Tuple, ListOf, Range, Fields, Update, Extend, Remove, Field, NoCoreFunctions, AndCoreFunction}
use Rattle.plain_form.specs.Naming.{Naming}
use Rattle.plain_form.specs.PlainForm.{Defined, Annotated, Named, Apart, Other, annotation_of, stands_at, defined_at, function_before, functions_of, value_before, group_before, groups_before, no_core}
use Rattle.core_trees.specs.Reading.{Function, Group, functions, groups_before as groups_as}
use Rattle.core_parts.specs.Members.{Member, AFunction, AValue, NoMember, member_from, member_at, in_front, functions_in, group_from, alone, group_in, added, placed}
use Rattle.core_parts.proofs.Looking.{drop_item}

-- a function of the plain form in front of others
abbrev front : Member → Option CoreGroup → Option CoreGroup
front (AFunction f) (Some g) = Some (AndCoreFunction f.number f.annotation f.pattern f.body g)
front _ _ = None

before_none : (n : Naming) (d : Defined) (all : List Defined) → function_before n d all None ≡ front (member_from n all d) None
before_none n (Named at name (Local number)) all = refl
before_none n (Named at name (Top number)) all = refl
before_none n (Named at name (Input number)) all = refl
before_none n (Named at name (Literal value)) all = refl
before_none n (Named at name (Native number)) all = refl
before_none n (Named at name (Constructor u k takes)) all = refl
before_none n (Named at name (Held written inner)) all = refl
before_none n (Named at name (Lambda p b)) all = refl
before_none n (Named at name (Call f a)) all = refl
before_none n (Named at name (If c y z)) all = refl
before_none n (Named at name (Guards gs)) all = refl
before_none n (Named at name (Case e bs)) all = refl
before_none n (Named at name (LetValue p e b)) all = refl
before_none n (Named at name (LetFunctions g b)) all = refl
before_none n (Named at name (Tuple es)) all = refl
before_none n (Named at name (ListOf es)) all = refl
before_none n (Named at name (Range lo hi)) all = refl
before_none n (Named at name (Fields fs)) all = refl
before_none n (Named at name (Update e fs)) all = refl
before_none n (Named at name (Extend e fs)) all = refl
before_none n (Named at name (Remove e label)) all = refl
before_none n (Named at name (Field e label)) all = refl
before_none n (Annotated name written) all = refl
before_none n (Apart at p e) all = refl
before_none n Other all = refl

before_some : (n : Naming) (d : Defined) (all : List Defined) (g : CoreGroup) → function_before n d all (Some g) ≡ front (member_from n all d) (Some g)
before_some n (Named at name (Local number)) all others = refl
before_some n (Named at name (Top number)) all others = refl
before_some n (Named at name (Input number)) all others = refl
before_some n (Named at name (Literal value)) all others = refl
before_some n (Named at name (Native number)) all others = refl
before_some n (Named at name (Constructor u k takes)) all others = refl
before_some n (Named at name (Held written inner)) all others = refl
before_some n (Named at name (Lambda p b)) all others = refl
before_some n (Named at name (Call f a)) all others = refl
before_some n (Named at name (If c y z)) all others = refl
before_some n (Named at name (Guards gs)) all others = refl
before_some n (Named at name (Case e bs)) all others = refl
before_some n (Named at name (LetValue p e b)) all others = refl
before_some n (Named at name (LetFunctions g b)) all others = refl
before_some n (Named at name (Tuple es)) all others = refl
before_some n (Named at name (ListOf es)) all others = refl
before_some n (Named at name (Range lo hi)) all others = refl
before_some n (Named at name (Fields fs)) all others = refl
before_some n (Named at name (Update e fs)) all others = refl
before_some n (Named at name (Extend e fs)) all others = refl
before_some n (Named at name (Remove e label)) all others = refl
before_some n (Named at name (Field e label)) all others = refl
before_some n (Annotated name written) all others = refl
before_some n (Apart at p e) all others = refl
before_some n Other all others = refl

before_is : (n : Naming) (d : Defined) (all : List Defined) (o : Option CoreGroup) → function_before n d all o ≡ front (member_from n all d) o
before_is n d all None = before_none n d all
before_is n d all (Some others) = before_some n d all others

front_is : (m : Member) (o : Option (List Function)) → front m (option_map functions o) ≡ option_map functions (in_front m o)
front_is (AFunction f) None = refl
front_is (AFunction f) (Some fs) = refl
front_is (AValue p e) o = refl
front_is NoMember o = refl

functions_are : (n : Naming) (ats : List At) (all : List Defined) → functions_of n ats all ≡ option_map functions (functions_in (map (member_at n all) ats))
functions_are n [] all = refl
functions_are n (at ∷ ats) all =
    before_is n (defined_at at all) all (functions_of n ats all)
    ∙ ap (front (member_at n all at)) (functions_are n ats all)
    ∙ front_is (member_at n all at) (functions_in (map (member_at n all) ats))

-- one alone
one_named : (n : Naming) (d : Defined) (all : List Defined) (at : At) (rest : Core) → defined_at at all ≡ d →
    group_before n (function_before n d all (Some NoCoreFunctions)) (at ∷ []) all rest ≡ placed (alone (member_from n all d)) rest
one_named n (Named place name (Local number)) all at rest is = ap (λ x. value_before n x all rest) is
one_named n (Named place name (Top number)) all at rest is = ap (λ x. value_before n x all rest) is
one_named n (Named place name (Input number)) all at rest is = ap (λ x. value_before n x all rest) is
one_named n (Named place name (Literal value)) all at rest is = ap (λ x. value_before n x all rest) is
one_named n (Named place name (Native number)) all at rest is = ap (λ x. value_before n x all rest) is
one_named n (Named place name (Constructor u k takes)) all at rest is = ap (λ x. value_before n x all rest) is
one_named n (Named place name (Held written inner)) all at rest is = ap (λ x. value_before n x all rest) is
one_named n (Named place name (Lambda p b)) all at rest is = refl
one_named n (Named place name (Call f a)) all at rest is = ap (λ x. value_before n x all rest) is
one_named n (Named place name (If c y z)) all at rest is = ap (λ x. value_before n x all rest) is
one_named n (Named place name (Guards gs)) all at rest is = ap (λ x. value_before n x all rest) is
one_named n (Named place name (Case e bs)) all at rest is = ap (λ x. value_before n x all rest) is
one_named n (Named place name (LetValue p e b)) all at rest is = ap (λ x. value_before n x all rest) is
one_named n (Named place name (LetFunctions g b)) all at rest is = ap (λ x. value_before n x all rest) is
one_named n (Named place name (Tuple es)) all at rest is = ap (λ x. value_before n x all rest) is
one_named n (Named place name (ListOf es)) all at rest is = ap (λ x. value_before n x all rest) is
one_named n (Named place name (Range lo hi)) all at rest is = ap (λ x. value_before n x all rest) is
one_named n (Named place name (Fields fs)) all at rest is = ap (λ x. value_before n x all rest) is
one_named n (Named place name (Update e fs)) all at rest is = ap (λ x. value_before n x all rest) is
one_named n (Named place name (Extend e fs)) all at rest is = ap (λ x. value_before n x all rest) is
one_named n (Named place name (Remove e label)) all at rest is = ap (λ x. value_before n x all rest) is
one_named n (Named place name (Field e label)) all at rest is = ap (λ x. value_before n x all rest) is
one_named n (Annotated name written) all at rest is = ap (λ x. value_before n x all rest) is
one_named n (Apart place p e) all at rest is = ap (λ x. value_before n x all rest) is
one_named n Other all at rest is = ap (λ x. value_before n x all rest) is

several : (n : Naming) (o : Option (List Function)) (a b : At) (ats : List At) (all : List Defined) (rest : Core) →
    group_before n (option_map functions o) (a ∷ b ∷ ats) all rest ≡ placed (group_from o) rest
several n None a b ats all rest = refl
several n (Some fs) a b ats all rest = refl

pub group_is : (n : Naming) (ats : List At) (all : List Defined) (rest : Core) →
    group_before n (functions_of n ats all) ats all rest ≡ placed (group_in (map (member_at n all) ats)) rest
group_is n [] all rest = refl
group_is n (at ∷ []) all rest = one_named n (defined_at at all) all at rest refl
group_is n (a ∷ b ∷ ats) all rest =
    ap (λ o. group_before n o (a ∷ b ∷ ats) all rest) (functions_are n (a ∷ b ∷ ats) all)
    ∙ several n (functions_in (map (member_at n all) (a ∷ b ∷ ats))) a b ats all rest

-- groups one behind the other
groups_behind : (gs : List Group) (g : Group) (rest : Core) → groups_as (gs ++ g ∷ []) rest ≡ groups_as gs (groups_as (g ∷ []) rest)
groups_behind [] g rest = refl
groups_behind (h ∷ gs) g rest = ap (λ e. groups_as (h ∷ []) e) (groups_behind gs g rest)

-- ---- loops

append_all : {A : Type 0} (xs ys zs : List A) → (xs ++ ys) ++ zs ≡ xs ++ (ys ++ zs)
append_all [] ys zs = refl
append_all (x ∷ xs) ys zs = ap (λ l. x ∷ l) (append_all xs ys zs)

append_none : {A : Type 0} (xs : List A) → xs ++ [] ≡ xs
append_none [] = refl
append_none (x ∷ xs) = ap (λ l. x ∷ l) (append_none xs)

drop_all : {A : Type 0} (i : ℕ) (xs : List A) → length xs ≤ i → drop i xs ≡ []
drop_all zero [] h = refl
drop_all (suc i) [] h = refl
drop_all zero (x ∷ xs) h = absurd (omega (arith, h))
drop_all (suc i) (x ∷ xs) h = drop_all i xs (omega (arith, h))

defined_front : (b : Bool) (d e : Defined) (at : At) → stands_at at d ≡ b → (if stands_at at d then d else e) ≡ (if b then d else e)
defined_front b d e at is = ap (λ c. if c then d else e) is

-- the definition at hand doesn't stand there
pub passed : {A : Type 0} (f : A → Defined) (xs : List A) (i : ℕ) (x : A) (at : At) (all : Defined) → i < length xs → x ≡ get_or xs i x → stands_at at (f x) ≡ false →
    defined_at at (map f (drop i xs)) ≡ all → defined_at at (map f (drop (i + 1) xs)) ≡ all
passed f xs i x at all lt is out here =
    sym (ap (λ l. defined_at at (map f l)) (drop_item i xs x lt is) ∙ defined_front false (f x) (defined_at at (map f (drop (i + 1) xs))) at out) ∙ here

-- it does
pub met : {A : Type 0} (f : A → Defined) (xs : List A) (i : ℕ) (x : A) (at : At) (all : Defined) → i < length xs → x ≡ get_or xs i x → stands_at at (f x) ≡ true →
    defined_at at (map f (drop i xs)) ≡ all → f x ≡ all
met f xs i x at all lt is out here =
    sym (ap (λ l. defined_at at (map f l)) (drop_item i xs x lt is) ∙ defined_front true (f x) (defined_at at (map f (drop (i + 1) xs))) at out) ∙ here

-- none does
pub missed : {A : Type 0} (f : A → Defined) (xs : List A) (i : ℕ) (at : At) (all : Defined) → length xs ≤ i → defined_at at (map f (drop i xs)) ≡ all → Other ≡ all
missed f xs i at all end here = sym (ap (λ l. defined_at at (map f l)) (drop_all i xs end)) ∙ here

added_front : (fs : List Function) (f : Function) (o : Option (List Function)) → added fs (in_front (AFunction f) o) ≡ added (fs ++ f ∷ []) o
added_front fs f None = refl
added_front fs f (Some gs) = ap Some (sym (append_all fs (f ∷ []) gs))

pub functions_turn : (g : At → Member) (all : List At) (i : ℕ) (at : At) (fs new : List Function) (f : Function) → i < length all → at ≡ get_or all i at → AFunction f ≡ g at → new ≡ fs ++ f ∷ [] →
    functions_in (map g all) ≡ added fs (functions_in (map g (drop i all))) → functions_in (map g all) ≡ added new (functions_in (map g (drop (i + 1) all)))
functions_turn g all i at fs new f lt is member grown here =
    here ∙ ap (λ l. added fs (functions_in (map g l))) (drop_item i all at lt is) ∙ ap (λ m. added fs (in_front m (functions_in (map g (drop (i + 1) all))))) (sym member)
    ∙ added_front fs f (functions_in (map g (drop (i + 1) all))) ∙ ap (λ l. added l (functions_in (map g (drop (i + 1) all)))) (sym grown)

pub value_stops : (g : At → Member) (all : List At) (i : ℕ) (at : At) (fs : List Function) (p : CorePattern) (e : Core) → i < length all → at ≡ get_or all i at → AValue p e ≡ g at →
    functions_in (map g all) ≡ added fs (functions_in (map g (drop i all))) → None ≡ functions_in (map g all)
value_stops g all i at fs p e lt is member here =
    sym (here ∙ ap (λ l. added fs (functions_in (map g l))) (drop_item i all at lt is) ∙ ap (λ m. added fs (in_front m (functions_in (map g (drop (i + 1) all))))) (sym member))

pub nothing_stops : (g : At → Member) (all : List At) (i : ℕ) (at : At) (fs : List Function) → i < length all → at ≡ get_or all i at → NoMember ≡ g at →
    functions_in (map g all) ≡ added fs (functions_in (map g (drop i all))) → None ≡ functions_in (map g all)
nothing_stops g all i at fs lt is member here =
    sym (here ∙ ap (λ l. added fs (functions_in (map g l))) (drop_item i all at lt is) ∙ ap (λ m. added fs (in_front m (functions_in (map g (drop (i + 1) all))))) (sym member))

pub functions_end : (g : At → Member) (all : List At) (i : ℕ) (fs : List Function) → length all ≤ i → functions_in (map g all) ≡ added fs (functions_in (map g (drop i all))) → Some fs ≡ functions_in (map g all)
functions_end g all i fs end here =
    sym (here ∙ ap (λ l. added fs (functions_in (map g l))) (drop_all i all end) ∙ ap Some (append_none fs))

-- groups of a block; their places stand behind references

groups_front : {A : Type 0} (h : A → List At) (n : Naming) (i : ℕ) (gs : List A) (ats : A) (all : List Defined) (rest : Core) → i < length gs → ats ≡ get_or gs i ats →
    groups_before n (map h (drop i gs)) all rest ≡ placed (group_in (map (member_at n all) (h ats))) (groups_before n (map h (drop (i + 1) gs)) all rest)
groups_front h n i gs ats all rest lt is =
    ap (λ l. groups_before n (map h l) all rest) (drop_item i gs ats lt is) ∙ group_is n (h ats) all (groups_before n (map h (drop (i + 1) gs)) all rest)

pub groups_turn : {A : Type 0} (h : A → List At) (n : Naming) (i : ℕ) (gs : List A) (ats : A) (all : List Defined) (made new : List Group) (g : Group) → i < length gs → ats ≡ get_or gs i ats →
    Some g ≡ group_in (map (member_at n all) (h ats)) → new ≡ made ++ g ∷ [] →
    ((rest : Core) → groups_before n (map h gs) all rest ≡ groups_as made (groups_before n (map h (drop i gs)) all rest)) → (rest : Core) → groups_before n (map h gs) all rest ≡ groups_as new (groups_before n (map h (drop (i + 1) gs)) all rest)
groups_turn h n i gs ats all made new g lt is found grown here rest =
    here rest ∙ ap (groups_as made) (groups_front h n i gs ats all rest lt is)
    ∙ ap (λ o. groups_as made (placed o (groups_before n (map h (drop (i + 1) gs)) all rest))) (sym found)
    ∙ sym (groups_behind made g (groups_before n (map h (drop (i + 1) gs)) all rest)) ∙ ap (λ l. groups_as l (groups_before n (map h (drop (i + 1) gs)) all rest)) (sym grown)

pub groups_stop : {A : Type 0} (h : A → List At) (n : Naming) (i : ℕ) (gs : List A) (ats : A) (all : List Defined) (made : List Group) → i < length gs → ats ≡ get_or gs i ats →
    None ≡ group_in (map (member_at n all) (h ats)) →
    ((rest : Core) → groups_before n (map h gs) all rest ≡ groups_as made (groups_before n (map h (drop i gs)) all rest)) → (rest : Core) → groups_as made no_core ≡ groups_before n (map h gs) all rest
groups_stop h n i gs ats all made lt is found here rest =
    sym (here rest ∙ ap (groups_as made) (groups_front h n i gs ats all rest lt is)
    ∙ ap (λ o. groups_as made (placed o (groups_before n (map h (drop (i + 1) gs)) all rest))) (sym found))

pub groups_end : {A : Type 0} (h : A → List At) (n : Naming) (i : ℕ) (gs : List A) (all : List Defined) (made : List Group) → length gs ≤ i →
    ((rest : Core) → groups_before n (map h gs) all rest ≡ groups_as made (groups_before n (map h (drop i gs)) all rest)) → (rest : Core) → groups_as made rest ≡ groups_before n (map h gs) all rest
groups_end h n i gs all made end here rest = sym (here rest ∙ ap (λ l. groups_as made (groups_before n (map h l) all rest)) (drop_all i gs end))
