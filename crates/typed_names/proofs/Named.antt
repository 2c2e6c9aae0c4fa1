-- The free names of what is well typed have types.
use Rattle.std.proofs.Common.{◌≡◌, ℕ, zero, suc, ◌+◌, Bool, true, false, ◌||◌, ◌==◌, Option, Some, None, List, [], ◌∷◌, ◌++◌, map, refl, sym, ap, ap₂, ◌∙◌, subst}
use Rattle.std.specs.Prelude.{if◌then◌else◌}
use Rattle.elm_typing.specs.Ground.{Ground, Grounds, Row, NoGrounds, AndGround}
use Rattle.elm_meaning.specs.FreeNames.{is_among, without, function_names, free_names, free_in_all, free_in_fields, free_in_guards, free_in_branches, free_in_group}
use Rattle.elm_meaning.specs.Matching.{names_of, all_names}
use Rattle.elm_meaning.specs.NativeTable.{Native as NativeOf, IsValue, Replies, MakesNode, native_at}
use Rattle.elm_meaning.specs.Patterns.{Pattern}
use Rattle.elm_meaning.specs.Terms.{native_tree}
use Rattle.elm_meaning.specs.Values.{Tree, Done, NoTree, TupleTree, ListTree, RecordTree}
use Rattle.typing_rules.specs.CorePatterns.{CorePattern, CorePatterns, NoCorePatterns, AndCorePattern, erased_pattern, erased_patterns, LabelsFit, Fits, AllFit}
use Rattle.typing_rules.specs.Unions.{Union}
use Rattle.typing_rules.specs.Worlds.{Types, Surroundings, no_surroundings, exactly, Either, with_name, Bound, with_bound, World}
use Rattle.typing_rules.specs.Rules.{Typings, under_work, generalised, GivenBy}
use Rattle.typing_rules.specs.Core.{Core, Cores, CoreFields, CoreGuards, CoreBranches, CoreGroup, Local, Top, Input, Literal, Native, Constructor, Held, Lambda, Call, If, Guards, Case, LetValue, LetFunctions, Tuple, ListOf, Range, Fields, Update, Extend, Remove, Field, NoCores, AndCore, NoCoreFields, AndCoreField, NoCoreGuards, AndCoreGuard, NoCoreBranches, AndCoreBranch, NoCoreFunctions, AndCoreFunction}
use Rattle.typing_rules.specs.CoreTypes.{CoreHas, AllCoresHave, EachIs, CoreGuardsHave, CoreBranchesHave, CoreFieldsOver, CoreNewestAre, EachCoreHas, names_in}
use Rattle.code_lower.specs.Lowered.{let_value, lowered, lowered_all, lowered_fields, lowered_guards, lowered_branches, lowered_group}

abbrev Named : Surroundings → ℕ → Type 0
Named s y = (type : Ground) × s y type

abbrev AllNamed : Surroundings → List ℕ → Type 0
AllNamed s [] = Unit {0}
AllNamed s (y ∷ ys) = Named s y × AllNamed s ys

both : (s : Surroundings) (xs ys : List ℕ) → AllNamed s xs → AllNamed s ys → AllNamed s (xs ++ ys)
both s [] ys f g = g
both s (x ∷ xs) ys f g = (f.0, both s xs ys f.1 g)

-- ---- names that are hidden

-- any other name has outside what it has inside
abbrev Outside : List ℕ → Surroundings → Surroundings → Type 0
Outside ns s z = (y : ℕ) → is_among y ns ≡ false → Named z y → Named s y

kept : (b : Bool) (s : Surroundings) (x : ℕ) (ns xs : List ℕ) → is_among x ns ≡ b → (is_among x ns ≡ false → Named s x) → AllNamed s (without ns xs) →
    AllNamed s (if b then without ns xs else x ∷ without ns xs)
kept true s x ns xs e f g = g
kept false s x ns xs e f g = (f e, g)

without_named : (ns xs : List ℕ) (s z : Surroundings) → Outside ns s z → AllNamed z xs → AllNamed s (without ns xs)
without_named ns [] s z out h = tt
without_named ns (x ∷ xs) s z out h = kept (is_among x ns) s x ns xs refl (λ e. out x e h.0) (without_named ns xs s z out h.1)

not_first : (b c : Bool) → (b || c) ≡ false → b ≡ false
not_first true c e = e
not_first false c e = refl

not_later : (b c : Bool) → (b || c) ≡ false → c ≡ false
not_later true c e = absurd cc
not_later false c e = e

passed : (b : Bool) (P Q : Type 0) → b ≡ false → Either b P Q → Q
passed true P Q e h = absurd cc
passed false P Q e h = h

outside_none : (s : Surroundings) → Outside [] s s
outside_none s = λ y e n. n

outside_more : (x : ℕ) (ns : List ℕ) (P : Types) (s z : Surroundings) → Outside ns (with_name x P s) z → Outside (x ∷ ns) s z
outside_more x ns P s z f = λ y e n.
    let inner = f y (not_later (x == y) (is_among y ns) e) n in
    (inner.0, passed (x == y) (P inner.0) (s y inner.0) (not_first (x == y) (is_among y ns) e) inner.1)

outside_name : (x : ℕ) (P : Types) (s : Surroundings) → Outside (x ∷ []) s (with_name x P s)
outside_name x P s = outside_more x [] P s (with_name x P s) (outside_none (with_name x P s))

abbrev firsts : Bound → List ℕ
firsts bs = map (λ b. b.0) bs

outside_bound : (bs : Bound) (s : Surroundings) → Outside (firsts bs) s (with_bound bs s)
outside_bound [] s = outside_none s
outside_bound (b ∷ bs) s = outside_more b.0 (firsts bs) (exactly b.1) s (with_bound bs (with_name b.0 (exactly b.1) s)) (outside_bound bs (with_name b.0 (exactly b.1) s))

outside_self : (ns : List ℕ) (s : Surroundings) → Outside ns s s
outside_self ns s = λ y e n. n

outside_work : (xs : List ℕ) (ts : List Ground) (s : Surroundings) → Outside xs s (under_work xs ts s)
outside_work [] ts s = outside_none s
outside_work (x ∷ xs) [] s = outside_self (x ∷ xs) s
outside_work (x ∷ xs) (t ∷ ts) s = outside_more x xs (exactly t) s (under_work xs ts (with_name x (exactly t) s)) (outside_work xs ts (with_name x (exactly t) s))

outside_given : (xs : List ℕ) (i : ℕ) (G : Typings) (s : Surroundings) → Outside xs s (generalised xs i G s)
outside_given [] i G s = outside_none s
outside_given (x ∷ xs) i G s =
    outside_more x xs (GivenBy G i) s (generalised xs (suc i) G (with_name x (GivenBy G i) s)) (outside_given xs (suc i) G (with_name x (GivenBy G i) s))

without_case : (b : Bool) (x : ℕ) (whole front back : List ℕ) → whole ≡ front ++ back → (if b then whole else x ∷ whole) ≡ (if b then front else x ∷ front) ++ back
without_case true x whole front back e = e
without_case false x whole front back e = ap (λ zs. x ∷ zs) e

without_both : (ns xs ys : List ℕ) → without ns (xs ++ ys) ≡ without ns xs ++ without ns ys
without_both ns [] ys = refl
without_both ns (x ∷ xs) ys = without_case (is_among x ns) x (without ns (xs ++ ys)) (without ns xs) (without ns ys) (without_both ns xs ys)

two_hidden : (ns xs ys : List ℕ) (s y z : Surroundings) → Outside ns s y → Outside ns s z → AllNamed y xs → AllNamed z ys → AllNamed s (without ns (xs ++ ys))
two_hidden ns xs ys s y z f g h k = subst (AllNamed s) (sym (without_both ns xs ys)) (both s (without ns xs) (without ns ys) (without_named ns xs s y f h) (without_named ns ys s z g k))

-- ---- the names of patterns

firsts_append : (bs cs : Bound) → firsts (bs ++ cs) ≡ firsts bs ++ firsts cs
firsts_append [] cs = refl
firsts_append (b ∷ bs) cs = ap (λ z. b.0 ∷ z) (firsts_append bs cs)

labels_names : (ls : List (List ℕ × ℕ)) (row : Row) (bs : Bound) → LabelsFit ls row bs → firsts bs ≡ map (λ l. l.1) ls
labels_names [] row bs h = ap firsts h
labels_names (l ∷ ls) row bs h = ap firsts h.4 ∙ ap (λ z. l.1 ∷ z) (labels_names ls row h.1 h.3)

mutual
  fits_names : (us : List Union) (p : CorePattern) (t : Ground) (bs : Bound) → Fits us p t bs → firsts bs ≡ names_of (erased_pattern p)
  fits_names us CorePattern.Anything t bs h = ap firsts h
  fits_names us (CorePattern.Local x) t bs h = ap firsts h
  fits_names us (CorePattern.Literal l) t bs h = ap firsts h.1
  fits_names us (CorePattern.Made u c ps) t bs h = all_fit_names us ps h.2 bs h.5
  fits_names us CorePattern.Nil t bs h = ap firsts h.2
  fits_names us (CorePattern.Cons p q) t bs h =
      ap firsts h.6 ∙ firsts_append h.1 h.2 ∙ ap₂ (λ x y. x ++ y) (fits_names us p h.0 h.1 h.4) (fits_names us q _ h.2 h.5)
  fits_names us (CorePattern.Tuple ps) t bs h = all_fit_names us ps h.0 bs h.2
  fits_names us (CorePattern.Fields ls) t bs h = labels_names ls h.0 bs h.2
  fits_names us (CorePattern.Named p n) t bs h = ap firsts h.2 ∙ firsts_append h.0 _ ∙ ap (λ x. x ++ n ∷ []) (fits_names us p t h.0 h.1)

  all_fit_names : (us : List Union) (ps : CorePatterns) (ts : Grounds) (bs : Bound) → AllFit us ps ts bs → firsts bs ≡ all_names (erased_patterns ps)
  all_fit_names us NoCorePatterns NoGrounds bs h = ap firsts h
  all_fit_names us NoCorePatterns (AndGround t ts) bs h = absurd h
  all_fit_names us (AndCorePattern p ps) NoGrounds bs h = absurd h
  all_fit_names us (AndCorePattern p ps) (AndGround t ts) bs h =
      ap firsts h.4 ∙ firsts_append h.0 h.1 ∙ ap₂ (λ x y. x ++ y) (fits_names us p t h.0 h.2) (all_fit_names us ps ts h.1 h.3)

function_names_are : (g : CoreGroup) → function_names (lowered_group g) ≡ names_in g
function_names_are NoCoreFunctions = refl
function_names_are (AndCoreFunction name annotation p b g) = ap (λ ns. name ∷ ns) (function_names_are g)

-- ---- a value of a `let`

value_named : (s : Surroundings) (p : Pattern) (e b : Tree) → AllNamed s (free_names e) → AllNamed s (without (names_of p) (free_names b)) → AllNamed s (free_names (let_value p e b))
value_named s (Pattern.Local x) (Tree.Lambda q c) b f g =
    let own = without (names_of q) (free_names c) in
    subst (AllNamed s) (sym (without_both (x ∷ []) (own ++ []) (free_names b)))
    (both s (without (x ∷ []) (own ++ [])) (without (x ∷ []) (free_names b)) (without_named (x ∷ []) (own ++ []) s s (outside_self (x ∷ []) s) (both s own [] f tt)) g)
value_named s (Pattern.Local x) NoTree b f g = both s (free_names NoTree) (without (x ∷ []) (free_names b)) f g
value_named s (Pattern.Local x) (Done v) b f g = both s (free_names (Done v)) (without (x ∷ []) (free_names b)) f g
value_named s (Pattern.Local x) (Tree.Local n) b f g = both s (free_names (Tree.Local n)) (without (x ∷ []) (free_names b)) f g
value_named s (Pattern.Local x) (Tree.Top n) b f g = both s (free_names (Tree.Top n)) (without (x ∷ []) (free_names b)) f g
value_named s (Pattern.Local x) (Tree.Input n) b f g = both s (free_names (Tree.Input n)) (without (x ∷ []) (free_names b)) f g
value_named s (Pattern.Local x) (Tree.Call k a) b f g = both s (free_names (Tree.Call k a)) (without (x ∷ []) (free_names b)) f g
value_named s (Pattern.Local x) (Tree.If c y z) b f g = both s (free_names (Tree.If c y z)) (without (x ∷ []) (free_names b)) f g
value_named s (Pattern.Local x) (Tree.Guards gs) b f g = both s (free_names (Tree.Guards gs)) (without (x ∷ []) (free_names b)) f g
value_named s (Pattern.Local x) (Tree.Case e bs) b f g = both s (free_names (Tree.Case e bs)) (without (x ∷ []) (free_names b)) f g
value_named s (Pattern.Local x) (Tree.LetValue q e d) b f g = both s (free_names (Tree.LetValue q e d)) (without (x ∷ []) (free_names b)) f g
value_named s (Pattern.Local x) (Tree.LetFunctions k d) b f g = both s (free_names (Tree.LetFunctions k d)) (without (x ∷ []) (free_names b)) f g
value_named s (Pattern.Local x) (TupleTree es) b f g = both s (free_names (TupleTree es)) (without (x ∷ []) (free_names b)) f g
value_named s (Pattern.Local x) (ListTree es) b f g = both s (free_names (ListTree es)) (without (x ∷ []) (free_names b)) f g
value_named s (Pattern.Local x) (Tree.Range l k) b f g = both s (free_names (Tree.Range l k)) (without (x ∷ []) (free_names b)) f g
value_named s (Pattern.Local x) (RecordTree fs) b f g = both s (free_names (RecordTree fs)) (without (x ∷ []) (free_names b)) f g
value_named s (Pattern.Local x) (Tree.Update e fs) b f g = both s (free_names (Tree.Update e fs)) (without (x ∷ []) (free_names b)) f g
value_named s (Pattern.Local x) (Tree.Extend e fs) b f g = both s (free_names (Tree.Extend e fs)) (without (x ∷ []) (free_names b)) f g
value_named s (Pattern.Local x) (Tree.Remove e l) b f g = both s (free_names (Tree.Remove e l)) (without (x ∷ []) (free_names b)) f g
value_named s (Pattern.Local x) (Tree.Field e l) b f g = both s (free_names (Tree.Field e l)) (without (x ∷ []) (free_names b)) f g
value_named s Pattern.Anything e b f g = both s (free_names e) (without (names_of Pattern.Anything) (free_names b)) f g
value_named s (Pattern.Literal v) e b f g = both s (free_names e) (without (names_of (Pattern.Literal v)) (free_names b)) f g
value_named s (Pattern.Made c ps) e b f g = both s (free_names e) (without (names_of (Pattern.Made c ps)) (free_names b)) f g
value_named s Pattern.Nil e b f g = both s (free_names e) (without (names_of Pattern.Nil) (free_names b)) f g
value_named s (Pattern.Cons k r) e b f g = both s (free_names e) (without (names_of (Pattern.Cons k r)) (free_names b)) f g
value_named s (Pattern.Tuple ps) e b f g = both s (free_names e) (without (names_of (Pattern.Tuple ps)) (free_names b)) f g
value_named s (Pattern.Fields ls) e b f g = both s (free_names e) (without (names_of (Pattern.Fields ls)) (free_names b)) f g
value_named s (Pattern.Named i n) e b f g = both s (free_names e) (without (names_of (Pattern.Named i n)) (free_names b)) f g

native_named : (s : Surroundings) (n : ℕ) (o : Option NativeOf) → AllNamed s (free_names (native_tree n o))
native_named s n None = tt
native_named s n (Some (IsValue v)) = tt
native_named s n (Some (Replies takes reply)) = tt
native_named s n (Some (MakesNode takes equation)) = tt

-- ---- terms, form by form

module _ (w : World) where
  -- what stands under the names of a pattern
  under : (p : CorePattern) (t : Ground) (bs : Bound) (xs : List ℕ) (s : Surroundings) → Fits w.unions p t bs → AllNamed (with_bound bs s) xs → AllNamed s (without (names_of (erased_pattern p)) xs)
  under p t bs xs s fits h =
      subst (λ ns. AllNamed s (without ns xs)) (fits_names w.unions p t bs fits) (without_named (firsts bs) xs s (with_bound bs s) (outside_bound bs s) h)

  mutual
    pub named : (e : Core) (s : Surroundings) (t : Ground) → CoreHas w s e t → AllNamed s (free_names (lowered e))
    named (Local y) s t h = ((t, h.1), tt)
    named (Top n) s t h = tt
    named (Input n) s t h = tt
    named (Literal value) s t h = tt
    named (Native n) s t h = native_named s n (native_at n)
    named (Constructor union name takes) s t h = tt
    named (Held written e) s t h = named e s t h.1.0
    named (Lambda p b) s t h = under p h.1.0 h.1.3.0 (free_names (lowered b)) s h.1.3.1 (named b (with_bound h.1.3.0 s) h.1.1 h.1.3.2)
    named (Call f a) s t h = both s (free_names (lowered f)) (free_names (lowered a)) (named f s _ h.1.1) (named a s h.1.0 h.1.2)
    named (If c y n) s t h =
        both s (free_names (lowered c)) (free_names (lowered y) ++ free_names (lowered n)) (named c s _ h.1.0)
        (both s (free_names (lowered y)) (free_names (lowered n)) (named y s t h.1.1) (named n s t h.1.2))
    named (Guards gs) s t h = guards_named gs s t h.1
    named (Case e bs) s t h = both s (free_names (lowered e)) (free_in_branches (lowered_branches bs)) (named e s h.1.0 h.1.1) (branches_named bs s h.1.0 t h.1.3)
    named (LetValue (CorePattern.Local x) e b) s t h =
        value_named s (Pattern.Local x) (lowered e) (lowered b) (named e s h.1.0 h.1.1)
        (without_named (x ∷ []) (free_names (lowered b)) s (with_name x (CoreHas w s e) s) (outside_name x (CoreHas w s e) s) (named b (with_name x (CoreHas w s e) s) t h.1.3))
    named (LetValue CorePattern.Anything e b) s t h =
        value_named s (erased_pattern CorePattern.Anything) (lowered e) (lowered b) (named e s h.1.0 h.1.1)
        (under CorePattern.Anything h.1.0 h.1.3.0 (free_names (lowered b)) s h.1.3.1 (named b (with_bound h.1.3.0 s) t h.1.3.2))
    named (LetValue (CorePattern.Literal v) e b) s t h =
        value_named s (erased_pattern (CorePattern.Literal v)) (lowered e) (lowered b) (named e s h.1.0 h.1.1)
        (under (CorePattern.Literal v) h.1.0 h.1.3.0 (free_names (lowered b)) s h.1.3.1 (named b (with_bound h.1.3.0 s) t h.1.3.2))
    named (LetValue (CorePattern.Made u c ps) e b) s t h =
        value_named s (erased_pattern (CorePattern.Made u c ps)) (lowered e) (lowered b) (named e s h.1.0 h.1.1)
        (under (CorePattern.Made u c ps) h.1.0 h.1.3.0 (free_names (lowered b)) s h.1.3.1 (named b (with_bound h.1.3.0 s) t h.1.3.2))
    named (LetValue CorePattern.Nil e b) s t h =
        value_named s (erased_pattern CorePattern.Nil) (lowered e) (lowered b) (named e s h.1.0 h.1.1)
        (under CorePattern.Nil h.1.0 h.1.3.0 (free_names (lowered b)) s h.1.3.1 (named b (with_bound h.1.3.0 s) t h.1.3.2))
    named (LetValue (CorePattern.Cons k r) e b) s t h =
        value_named s (erased_pattern (CorePattern.Cons k r)) (lowered e) (lowered b) (named e s h.1.0 h.1.1)
        (under (CorePattern.Cons k r) h.1.0 h.1.3.0 (free_names (lowered b)) s h.1.3.1 (named b (with_bound h.1.3.0 s) t h.1.3.2))
    named (LetValue (CorePattern.Tuple ps) e b) s t h =
        value_named s (erased_pattern (CorePattern.Tuple ps)) (lowered e) (lowered b) (named e s h.1.0 h.1.1)
        (under (CorePattern.Tuple ps) h.1.0 h.1.3.0 (free_names (lowered b)) s h.1.3.1 (named b (with_bound h.1.3.0 s) t h.1.3.2))
    named (LetValue (CorePattern.Fields ls) e b) s t h =
        value_named s (erased_pattern (CorePattern.Fields ls)) (lowered e) (lowered b) (named e s h.1.0 h.1.1)
        (under (CorePattern.Fields ls) h.1.0 h.1.3.0 (free_names (lowered b)) s h.1.3.1 (named b (with_bound h.1.3.0 s) t h.1.3.2))
    named (LetValue (CorePattern.Named i n) e b) s t h =
        value_named s (erased_pattern (CorePattern.Named i n)) (lowered e) (lowered b) (named e s h.1.0 h.1.1)
        (under (CorePattern.Named i n) h.1.0 h.1.3.0 (free_names (lowered b)) s h.1.3.1 (named b (with_bound h.1.3.0 s) t h.1.3.2))
    named (LetFunctions g b) s t h =
        let own = under_work (names_in g) h.1.0 s in
        let given = generalised (names_in g) 0 (λ types. EachCoreHas w (under_work (names_in g) types s) g types) s in
        subst (λ ns. AllNamed s (without ns (free_in_group (lowered_group g) ++ free_names (lowered b)))) (sym (function_names_are g))
        (two_hidden (names_in g) (free_in_group (lowered_group g)) (free_names (lowered b)) s own given (outside_work (names_in g) h.1.0 s)
        (outside_given (names_in g) 0 (λ types. EachCoreHas w (under_work (names_in g) types s) g types) s)
        (group_named g own h.1.0 h.1.1) (named b given t h.1.3))
    named (Tuple es) s t h = all_named es s h.1.0 h.1.2
    named (ListOf es) s t h = each_named es s h.1.0 h.1.2
    named (Range l k) s t h = both s (free_names (lowered l)) (free_names (lowered k)) (named l s _ h.1.0) (named k s _ h.1.1)
    named (Fields fs) s t h = over_named fs s _ h.1.0 h.1.2
    named (Update e fs) s t h = both s (free_names (lowered e)) (free_in_fields (lowered_fields fs)) (named e s t h.1.2) (newest_named fs s h.1.0 h.1.3)
    named (Extend e fs) s t h = both s (free_names (lowered e)) (free_in_fields (lowered_fields fs)) (named e s _ h.1.3) (over_named fs s h.1.0 h.1.1 h.1.4)
    named (Remove e label) s t h = named e s _ h.1.3
    named (Field e label) s t h = named e s _ h.1.1

    all_named : (es : Cores) (s : Surroundings) (ts : Grounds) → AllCoresHave w s es ts → AllNamed s (free_in_all (lowered_all es))
    all_named NoCores s ts h = tt
    all_named (AndCore e es) s ts h = both s (free_names (lowered e)) (free_in_all (lowered_all es)) (named e s h.0 h.3) (all_named es s h.1 h.4)

    each_named : (es : Cores) (s : Surroundings) (t : Ground) → EachIs w s es t → AllNamed s (free_in_all (lowered_all es))
    each_named NoCores s t h = tt
    each_named (AndCore e es) s t h = both s (free_names (lowered e)) (free_in_all (lowered_all es)) (named e s t h.0) (each_named es s t h.1)

    guards_named : (gs : CoreGuards) (s : Surroundings) (t : Ground) → CoreGuardsHave w s gs t → AllNamed s (free_in_guards (lowered_guards gs))
    guards_named NoCoreGuards s t h = tt
    guards_named (AndCoreGuard c b gs) s t h =
        both s (free_names (lowered c)) (free_names (lowered b) ++ free_in_guards (lowered_guards gs)) (named c s _ h.0)
        (both s (free_names (lowered b)) (free_in_guards (lowered_guards gs)) (named b s t h.1) (guards_named gs s t h.2))

    branches_named : (bs : CoreBranches) (s : Surroundings) (from t : Ground) → CoreBranchesHave w s bs from t → AllNamed s (free_in_branches (lowered_branches bs))
    branches_named NoCoreBranches s from t h = tt
    branches_named (AndCoreBranch p b bs) s from t h =
        both s (without (names_of (erased_pattern p)) (free_names (lowered b))) (free_in_branches (lowered_branches bs))
        (under p from h.0.0 (free_names (lowered b)) s h.0.1 (named b (with_bound h.0.0 s) t h.0.2)) (branches_named bs s from t h.1)

    over_named : (fs : CoreFields) (s : Surroundings) (before row : Row) → CoreFieldsOver w s fs before row → AllNamed s (free_in_fields (lowered_fields fs))
    over_named NoCoreFields s before row h = tt
    over_named (AndCoreField label e fs) s before row h = both s (free_names (lowered e)) (free_in_fields (lowered_fields fs)) (named e s h.0 h.2) (over_named fs s before h.1 h.3)

    newest_named : (fs : CoreFields) (s : Surroundings) (row : Row) → CoreNewestAre w s fs row → AllNamed s (free_in_fields (lowered_fields fs))
    newest_named NoCoreFields s row h = tt
    newest_named (AndCoreField label e fs) s row h = both s (free_names (lowered e)) (free_in_fields (lowered_fields fs)) (named e s h.0.0 h.0.2) (newest_named fs s row h.1)

    group_named : (g : CoreGroup) (s : Surroundings) (ts : List Ground) → EachCoreHas w s g ts → AllNamed s (free_in_group (lowered_group g))
    group_named NoCoreFunctions s ts h = tt
    group_named (AndCoreFunction name annotation p b g) s [] h = absurd h
    group_named (AndCoreFunction name annotation p b g) s (t ∷ ts) h =
        both s (without (names_of (erased_pattern p)) (free_names (lowered b))) (free_in_group (lowered_group g))
        (under p h.0.1.0 h.0.1.3.0 (free_names (lowered b)) s h.0.1.3.1 (named b (with_bound h.0.1.3.0 s) h.0.1.1 h.0.1.3.2)) (group_named g s ts h.2)

-- where no name has a type there is none

none : (xs : List ℕ) → AllNamed no_surroundings xs → xs ≡ []
none [] h = refl
none (x ∷ xs) h = absurd h.0.1

pub closed : (w : World) (e : Core) (t : Ground) → CoreHas w no_surroundings e t → free_names (lowered e) ≡ []
closed w e t h = none (free_names (lowered e)) (named w e no_surroundings t h)
