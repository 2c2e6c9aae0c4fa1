-- The types of the forms of a program's text that are rewritten.
use Rattle.std.proofs.Common.{◌≡◌, ◌≢◌, ℕ, Bool, true, false, Some, List, [], ◌∷◌, map, codes, refl, sym, ap, ◌∙◌, subst}
use Rattle.std.specs.Prelude.{if◌then◌else◌}
use Rattle.std.specs.Str.{bytes_eq}
use Rattle.std.specs.declared.cmp.Ordering.{Ordering}
use Rattle.std.specs.declared.cmp.Ordering.TheVariants as ordering
use Rattle.std.specs.Cmp.Lexicographic.{slice_cmp}
use Rattle.std.specs.Ordering.{nat_cmp, is_eq}
use Rattle.std.proofs.lemmas.Map.Lookups.{exact_bytes}
use Rattle.std.proofs.lemmas.Map.Text.{is_eq-slice_cmp}
use Rattle.elm_base.specs.declared.token.At.{At}
use Rattle.elm_base.specs.declared.native.TheConstants.{NEGATE}
use Rattle.elm_base.specs.declared.tree.Operator.{Operator}
use Rattle.elm_base.specs.declared.tree.Pattern.{Pattern}
use Rattle.elm_base.specs.declared.tree.Pattern.TheOpen as pattern
use Rattle.elm_base.specs.declared.tree.Pattern.TheFolds.{fold-roll-Pattern}
use Rattle.elm_base.specs.declared.tree.Pattern.TheVariants as q
use Rattle.elm_base.specs.declared.tree.Expr.{Expr}
use Rattle.elm_base.specs.declared.tree.Expr.TheVariants as e
use Rattle.elm_base.specs.declared.tree.Declaration.{Declaration}
use Rattle.elm_base.specs.declared.tree.Declaration.TheVariants as d
use Rattle.elm_base.specs.declared.tree.Declaration.TheOpen as tree
use Rattle.elm_base.specs.declared.tree.Declaration.TheFolds.{fold-roll-Expr, fold-roll-Declaration}
use Rattle.elm_typing.specs.Ground.{Ground, Grounds, Named as NamedType, Function, NoGrounds, AndGround}
use Rattle.elm_typing.specs.Names.{list_of}
use Rattle.elm_typing.specs.Spelling.{int, bool}
use Rattle.typing_rules.specs.WrittenTypes.{Written, Arrow, instance_at}
use Rattle.typing_rules.specs.Library.{int_}
use Rattle.typing_rules.specs.Unions.{Union, union_named, parameters_in, AllAllowed, arrows, parts_of}
use Rattle.typing_rules.specs.CorePatterns.{CorePattern, Fits}
use Rattle.typing_rules.specs.Worlds.{Surroundings, World, Bound, IsProper}
use Rattle.typing_rules.specs.Rules.{NativeGives}
use Rattle.typing_rules.specs.Core.{Core, Local, Top, Input, Literal, Native, Constructor, Held, Lambda, Call, If, Guards, Case, LetValue, LetFunctions, Tuple, ListOf, Range, Fields, Update, Extend, Remove, Field}
use Rattle.typing_rules.specs.CoreTypes.{CoreHas}
use Rattle.plain_form.specs.Naming.{Naming}
use Rattle.plain_form.specs.PlainForm.{call, lambdas, listed, pattern_step, plain_pattern, use_of, truth, falsehood, operation, Defined, Named, groups_before, expr_step, declaration_step, plain, plain_definition}
use Rattle.typing_sound.specs.Settings.{Setting, world_of}
use Rattle.typing_sound.specs.Rewritings.{SameTypes, OfTwoBools, OfOneInt, CalledWithTwo, EachFits}
use Rattle.typing_sound.proofs.Rewritten.{result_proper}

-- ---- the plain form of each form

of_binary : (n : Naming) (at : At) (operator : Operator) (x y : Expr) → plain n (e.Binary at operator x y) ≡ operation operator.name (use_of n operator.at (n.thing operator.at)) (plain n x) (plain n y)
of_binary n at operator x y = ap (plain n) (sym (e.rolls-Binary at operator x y)) ∙ fold-roll-Expr Defined Core (List ℕ × Core) (declaration_step n) (expr_step n) (λ set. (set.label, set.value)) (tree.Binary at operator x y)

of_negate : (n : Naming) (at : At) (x : Expr) → plain n (e.Negate at x) ≡ Call (Native NEGATE) (plain n x)
of_negate n at x = ap (plain n) (sym (e.rolls-Negate at x)) ∙ fold-roll-Expr Defined Core (List ℕ × Core) (declaration_step n) (expr_step n) (λ set. (set.label, set.value)) (tree.Negate at x)

of_call : (n : Naming) (at : At) (f : Expr) (xs : List Expr) → plain n (e.Call at f xs) ≡ call (plain n f) (map (plain n) xs)
of_call n at f xs = ap (plain n) (sym (e.rolls-Call at f xs)) ∙ fold-roll-Expr Defined Core (List ℕ × Core) (declaration_step n) (expr_step n) (λ set. (set.label, set.value)) (tree.Call at f xs)

pub of_variable : (n : Naming) (at : At) (name : List ℕ) → plain n (e.Variable at name) ≡ use_of n at (n.thing at)
of_variable n at name = ap (plain n) (sym (e.rolls-Variable at name)) ∙ fold-roll-Expr Defined Core (List ℕ × Core) (declaration_step n) (expr_step n) (λ set. (set.label, set.value)) (tree.Variable at name)

pub of_brackets : (n : Naming) (at : At) (x : Expr) → plain n (e.Brackets at x) ≡ plain n x
of_brackets n at x = ap (plain n) (sym (e.rolls-Brackets at x)) ∙ fold-roll-Expr Defined Core (List ℕ × Core) (declaration_step n) (expr_step n) (λ set. (set.label, set.value)) (tree.Brackets at x)

of_lambda : (n : Naming) (at : At) (ps : List Pattern) (x : Expr) → plain n (e.Lambda at ps x) ≡ lambdas (map (plain_pattern n) ps) (plain n x)
of_lambda n at ps x = ap (plain n) (sym (e.rolls-Lambda at ps x)) ∙ fold-roll-Expr Defined Core (List ℕ × Core) (declaration_step n) (expr_step n) (λ set. (set.label, set.value)) (tree.Lambda at ps x)

pub of_block : (n : Naming) (at : At) (ds : List Declaration) (x : Expr) → plain n (e.Let at ds x) ≡ groups_before n (n.groups at) (map (plain_definition n) ds) (plain n x)
of_block n at ds x = ap (plain n) (sym (e.rolls-Let at ds x)) ∙ fold-roll-Expr Defined Core (List ℕ × Core) (declaration_step n) (expr_step n) (λ set. (set.label, set.value)) (tree.Let at ds x)

of_definition : (n : Naming) (at : At) (name : List ℕ) (ps : List Pattern) (x : Expr) → plain_definition n (d.Definition at name ps x) ≡ Named at name (lambdas (map (plain_pattern n) ps) (plain n x))
of_definition n at name ps x = ap (plain_definition n) (sym (d.rolls-Definition at name ps x)) ∙ fold-roll-Declaration Defined Core (List ℕ × Core) (declaration_step n) (expr_step n) (λ set. (set.label, set.value)) (tree.Definition at name ps x)

pub pattern_list : (n : Naming) (at : At) (ps : List Pattern) → plain_pattern n (q.List at ps) ≡ listed (map (plain_pattern n) ps)
pattern_list n at ps = ap (plain_pattern n) (sym (q.rolls-List at ps)) ∙ fold-roll-Pattern CorePattern (pattern_step n) (pattern.List at ps)

pub pattern_brackets : (n : Naming) (at : At) (inner : Pattern) → plain_pattern n (q.Brackets at inner) ≡ plain_pattern n inner
pattern_brackets n at inner = ap (plain_pattern n) (sym (q.rolls-Brackets at inner)) ∙ fold-roll-Pattern CorePattern (pattern_step n) (pattern.Brackets at inner)

-- ---- nested lambdas and calls

pub lambda_first : (n : Naming) (at : At) (first : Pattern) (more : List Pattern) (x : Expr) → plain n (e.Lambda at (first ∷ more) x) ≡ plain n (e.Lambda at (first ∷ []) (e.Lambda at more x))
lambda_first n at first more x =
    of_lambda n at (first ∷ more) x
    ∙ sym (of_lambda n at (first ∷ []) (e.Lambda at more x) ∙ ap (Lambda (plain_pattern n first)) (of_lambda n at more x))

pub call_first : (n : Naming) (at : At) (f first : Expr) (more : List Expr) → plain n (e.Call at f (first ∷ more)) ≡ plain n (e.Call at (e.Call at f (first ∷ [])) more)
call_first n at f first more =
    of_call n at f (first ∷ more)
    ∙ sym (of_call n at (e.Call at f (first ∷ [])) more ∙ ap (λ (z : Core). call z (map (plain n) more)) (of_call n at f (first ∷ [])))

pub definition_of_lambda : (n : Naming) (at : At) (name : List ℕ) (ps : List Pattern) (x : Expr) → plain_definition n (d.Definition at name ps x) ≡ plain_definition n (d.Definition at name [] (e.Lambda at ps x))
definition_of_lambda n at name ps x =
    of_definition n at name ps x ∙ sym (of_definition n at name [] (e.Lambda at ps x) ∙ ap (Named at name) (of_lambda n at ps x))

-- ---- list patterns

pub listed_only : (us : List Union) (ps : List CorePattern) (t : Ground) (b : Bound) → Fits us (listed ps) t b → (element : Ground) × (t ≡ list_of element) × EachFits us ps element b
listed_only us [] t b h = (h.0, h.1, h.2)
listed_only us (p ∷ ps) t b h =
    let more = listed_only us ps (list_of h.0) h.2 h.5 in
    let same : more.0 ≡ h.0 = (let d = more.1 in cc) in
    (h.0, h.3, (h.1, h.2, h.4, subst (λ (z : Ground). EachFits us ps z h.2) same more.2, h.6))

pub listed_has : (us : List Union) (ps : List CorePattern) (element : Ground) (b : Bound) → EachFits us ps element b → Fits us (listed ps) (list_of element) b
listed_has us [] element b h = (element, refl, h)
listed_has us (p ∷ ps) element b h = (element, h.0, h.1, refl, h.2, listed_has us ps element h.1 h.3, h.4)

-- ---- a type of an expression is proper

core_proper : (w : World) (s : Surroundings) (e : Core) (t : Ground) → CoreHas w s e t → IsProper w t
core_proper w s (Local y) t h = h.0
core_proper w s (Top n) t h = h.0
core_proper w s (Input n) t h = h.0
core_proper w s (Literal v) t h = h.0
core_proper w s (Native n) t h = h.0
core_proper w s (Constructor u k n) t h = h.0
core_proper w s (Held x e) t h = h.0
core_proper w s (Lambda p b) t h = h.0
core_proper w s (Call f a) t h = h.0
core_proper w s (If c y n) t h = h.0
core_proper w s (Guards gs) t h = h.0
core_proper w s (Case e bs) t h = h.0
core_proper w s (LetValue p e b) t h = h.0
core_proper w s (LetFunctions g b) t h = h.0
core_proper w s (Tuple es) t h = h.0
core_proper w s (ListOf es) t h = h.0
core_proper w s (Range a b) t h = h.0
core_proper w s (Fields fs) t h = h.0
core_proper w s (Update e fs) t h = h.0
core_proper w s (Extend e fs) t h = h.0
core_proper w s (Remove e l) t h = h.0
core_proper w s (Field e l) t h = h.0

-- ---- the constructors of Bool

bool_type : (name : List ℕ) (types parts : Grounds) (t : Ground) → codes "Basics.Bool" ≡ name → AllAllowed [] types → Some NoGrounds ≡ Some parts → t ≡ arrows parts (NamedType name types) → t ≡ bool
bool_type name NoGrounds parts t n a g e =
    let d : parts ≡ NoGrounds = cc in
    e ∙ (ap (λ (z : Grounds). arrows z (NamedType name NoGrounds)) d ∙ ap (λ (z : List ℕ). NamedType z NoGrounds) (sym n))
bool_type name (AndGround u us) parts t n a g e = absurd a

-- ---- spellings

same_bytes : (xs ys : List ℕ) → bytes_eq xs ys ≡ true → xs ≡ ys
same_bytes xs ys e = exact_bytes xs ys (equal (slice_cmp nat_cmp xs ys) (is_eq-slice_cmp xs ys ∙ e))
  where
    equal : (o : Ordering) → is_eq o ≡ true → o ≡ ordering.Equal
    equal ordering.Less h = cc h
    equal ordering.Equal h = refl
    equal ordering.Greater h = cc h

other_bytes : (b : Bool) (xs ys : List ℕ) → bytes_eq xs ys ≡ b → xs ≢ ys → bytes_eq xs ys ≡ false
other_bytes true xs ys e h = absurd (h (same_bytes xs ys e))
other_bytes false xs ys e h = e

called : (b c : Bool) (f x y : Core) → b ≡ false → c ≡ false → (if b then If x y falsehood else (if c then If x truth y else Call (Call f x) y)) ≡ Call (Call f x) y
called true c f x y h k = absurd cc
called false true f x y h k = absurd cc
called false false f x y h k = refl

module _ (p : Setting) (s : Surroundings) where
  abbrev w : World
  w = world_of p

  pub same_trees : (a b : Core) → a ≡ b → SameTypes (CoreHas w s a) (CoreHas w s b)
  same_trees a b e = λ t. (subst (λ (z : Core). CoreHas w s z t) e, subst (λ (z : Core). CoreHas w s z t) (sym e))

  proper_named : (name : List ℕ) → IsProper w (NamedType name NoGrounds)
  proper_named name = record { sorted = tt; ordered = tt }

  -- ---- Bool of two Bools

  falsehood_only : (t : Ground) → CoreHas w s falsehood t → t ≡ bool
  falsehood_only t h =
      let g = h.1 in
      let m = g.3 in
      bool_type g.0 g.1 g.2 t m.belongs
      (subst (λ (z : List ℕ). AllAllowed (parameters_in (union_named z w.unions)) g.1) (sym m.belongs) m.allowed)
      (subst (λ (z : List ℕ). parts_of w.unions z g.1 (codes "False") ≡ Some g.2) (sym m.belongs) m.given) g.5

  truth_only : (t : Ground) → CoreHas w s truth t → t ≡ bool
  truth_only t h =
      let g = h.1 in
      let m = g.3 in
      bool_type g.0 g.1 g.2 t m.belongs
      (subst (λ (z : List ℕ). AllAllowed (parameters_in (union_named z w.unions)) g.1) (sym m.belongs) m.allowed)
      (subst (λ (z : List ℕ). parts_of w.unions z g.1 (codes "True") ≡ Some g.2) (sym m.belongs) m.given) g.5

  falsehood_has : CoreHas w s falsehood bool
  falsehood_has = (proper_named (codes "Basics.Bool"), (codes "Basics.Bool", NoGrounds, NoGrounds, record { belongs = refl; allowed = tt; respected = tt; given = refl }, refl, refl))

  truth_has : CoreHas w s truth bool
  truth_has = (proper_named (codes "Basics.Bool"), (codes "Basics.Bool", NoGrounds, NoGrounds, record { belongs = refl; allowed = tt; respected = tt; given = refl }, refl, refl))

  both_bools : (a b : Core) → SameTypes (CoreHas w s (If a b falsehood)) (OfTwoBools (CoreHas w s a) (CoreHas w s b))
  both_bools a b t = (
    λ h. (let e = falsehood_only t h.1.2 in (e, h.1.0, subst (CoreHas w s b) e h.1.1)),
    λ h. subst (CoreHas w s (If a b falsehood)) (sym h.0) (proper_named (codes "Basics.Bool"), (h.1, h.2, falsehood_has)),
  )

  either_bool : (a b : Core) → SameTypes (CoreHas w s (If a truth b)) (OfTwoBools (CoreHas w s a) (CoreHas w s b))
  either_bool a b t = (
    λ h. (let e = truth_only t h.1.1 in (e, h.1.0, subst (CoreHas w s b) e h.1.2)),
    λ h. subst (CoreHas w s (If a truth b)) (sym h.0) (proper_named (codes "Basics.Bool"), (h.1, truth_has, h.2)),
  )

  -- ---- calls

  with_two : (f a b : Core) → SameTypes (CoreHas w s (Call (Call f a) b)) (CalledWithTwo (CoreHas w s f) (CoreHas w s a) (CoreHas w s b))
  with_two f a b t = (
    λ h. (let g = h.1 in let k = g.1.1 in (k.0, g.0, k.1, k.2, g.2)),
    λ h. (
        let i = result_proper w h.0 (Function h.1 t) (core_proper w s f (Function h.0 (Function h.1 t)) h.2) in
        (result_proper w h.1 t i, (h.1, (i, (h.0, h.2, h.3)), h.4))
        ),
  )

  of_int_only : (u t : Ground) → NativeGives NEGATE (Function u t) → (u ≡ int) × (t ≡ int)
  of_int_only u t g =
      let e : g.0 ≡ Arrow int_ int_ = (let d = g.1 in cc) in
      let i : Function u t ≡ Function int int = subst (λ (z : Written). Function u t ≡ instance_at g.2.0 z) e g.2.2 in
      (cc, cc)

  one_int : (a : Core) → SameTypes (CoreHas w s (Call (Native NEGATE) a)) (OfOneInt (CoreHas w s a))
  one_int a t = (
    λ h. (let g = h.1 in let k = of_int_only g.0 t g.1.1 in (k.1, subst (CoreHas w s a) k.0 g.2)),
    λ h. subst (CoreHas w s (Call (Native NEGATE) a)) (sym h.0)
        (proper_named (codes "Basics.Int"), (int, (record { sorted = (tt, tt, tt); ordered = (tt, tt) }, (Arrow int_ int_, refl, (λ x. int, (tt, tt), refl))), h.1)),
  )

  -- ---- operators, by their spelling

  pub and_types : (n : Naming) (at : At) (o : Operator) (x y : Expr) → o.name ≡ codes "&&" → SameTypes (CoreHas w s (plain n (e.Binary at o x y))) (OfTwoBools (CoreHas w s (plain n x)) (CoreHas w s (plain n y)))
  and_types n at o x y h =
      subst (λ (z : Core). SameTypes (CoreHas w s z) (OfTwoBools (CoreHas w s (plain n x)) (CoreHas w s (plain n y))))
      (sym (of_binary n at o x y ∙ ap (λ (z : List ℕ). operation z (use_of n o.at (n.thing o.at)) (plain n x) (plain n y)) h)) (both_bools (plain n x) (plain n y))

  pub or_types : (n : Naming) (at : At) (o : Operator) (x y : Expr) → o.name ≡ codes "||" → SameTypes (CoreHas w s (plain n (e.Binary at o x y))) (OfTwoBools (CoreHas w s (plain n x)) (CoreHas w s (plain n y)))
  or_types n at o x y h =
      subst (λ (z : Core). SameTypes (CoreHas w s z) (OfTwoBools (CoreHas w s (plain n x)) (CoreHas w s (plain n y))))
      (sym (of_binary n at o x y ∙ ap (λ (z : List ℕ). operation z (use_of n o.at (n.thing o.at)) (plain n x) (plain n y)) h)) (either_bool (plain n x) (plain n y))

  pub operator_types : (n : Naming) (at : At) (o : Operator) (x y : Expr) → o.name ≢ codes "&&" → o.name ≢ codes "||" → SameTypes (CoreHas w s (plain n (e.Binary at o x y))) (CalledWithTwo (CoreHas w s (use_of n o.at (n.thing o.at))) (CoreHas w s (plain n x)) (CoreHas w s (plain n y)))
  operator_types n at o x y h k =
      let f = use_of n o.at (n.thing o.at) in
      subst (λ (z : Core). SameTypes (CoreHas w s z) (CalledWithTwo (CoreHas w s f) (CoreHas w s (plain n x)) (CoreHas w s (plain n y))))
      (sym (of_binary n at o x y
      ∙ called (bytes_eq o.name (codes "&&")) (bytes_eq o.name (codes "||")) f (plain n x) (plain n y)
      (other_bytes (bytes_eq o.name (codes "&&")) o.name (codes "&&") refl h) (other_bytes (bytes_eq o.name (codes "||")) o.name (codes "||") refl k)))
      (with_two f (plain n x) (plain n y))

  pub negate_types : (n : Naming) (at : At) (x : Expr) → SameTypes (CoreHas w s (plain n (e.Negate at x))) (OfOneInt (CoreHas w s (plain n x)))
  negate_types n at x =
      subst (λ (z : Core). SameTypes (CoreHas w s z) (OfOneInt (CoreHas w s (plain n x)))) (sym (of_negate n at x)) (one_int (plain n x))
