-- Derivations of worked cases of annotations, patterns and constructors.
use Rattle.std.proofs.Common.{◌≡◌, ℕ, List, [], ◌∷◌, Some, None, refl, sym, subst, ap₂, ◌∙◌, codes, inl}
use Rattle.elm_typing.specs.declared.flag.Flag.TheVariants.{Plain, Comparable}
use Rattle.elm_typing.specs.Ground.{Ground, Grounds, Row, NoGrounds, AndGround, Ends}
use Rattle.elm_typing.specs.Names.{signal_of}
use Rattle.elm_typing.specs.Spelling.{int, string, bool, maybe, result_of, record_of, all_simple}
use Rattle.elm_base.specs.declared.native.TheConstants.{CONSTANT}
use Rattle.typing_rules.specs.Library.{library_unions, from, int_, bool_, signal_}
use Rattle.typing_rules.specs.Unions.{Makes, ConstructorGives, RespectsAmong, arguments_for, constructors_in, count_of, arrows, parameters_in, parts_of, union_named}
use Rattle.typing_rules.specs.CorePatterns.{CorePattern, Fits}
use Rattle.typing_rules.specs.Core.{Local, Native}
use Rattle.typing_rules.specs.TypingExamples.{lambda, var, with_x, Accepted, smaller, one_more, get_x, boxed, boxes, functions, name, made}
use Rattle.typing_rules.proofs.Derivations.{always_is, add}

-- annotations

pub same : Accepted (from (var "a" ∷ []) (var "a")) (lambda 0 (Local 0))
same = (
  (all_simple, Ground.Function int int ∷ [], ((record { sorted = (tt, tt, tt); ordered = (tt, tt) }, (int, int, refl, (_, refl, (record { sorted = tt; ordered = tt }, refl)))), (always_is int, ((tt, tt), (tt, tt)), refl), tt)),
  (
    (all_simple, Ground.Function (Ground.Opaque 0 Plain) (Ground.Opaque 0 Plain) ∷ [], ((record { sorted = (tt, tt, tt); ordered = (tt, tt) }, (_, _, refl, (_, refl, (record { sorted = tt; ordered = tt }, refl)))), (always_is (Ground.Opaque 0 Plain), ((tt, tt), (tt, tt)), refl), tt), refl),
    tt,
  ),
)

pub narrow : Accepted (from (int_ ∷ []) int_) (lambda 0 (Local 0))
narrow = (
  (all_simple, Ground.Function int int ∷ [], ((record { sorted = (tt, tt, tt); ordered = (tt, tt) }, (int, int, refl, (_, refl, (record { sorted = tt; ordered = tt }, refl)))), (always_is int, (tt, tt), refl), tt)),
  (
    (all_simple, Ground.Function int int ∷ [], ((record { sorted = (tt, tt, tt); ordered = (tt, tt) }, (int, int, refl, (_, refl, (record { sorted = tt; ordered = tt }, refl)))), (always_is int, (tt, tt), refl), tt), refl),
    tt,
  ),
)

pub number : Accepted (from (var "number" ∷ []) (var "number")) one_more
number = (
  (all_simple, Ground.Function int int ∷ [], ((record { sorted = (tt, tt, tt); ordered = (tt, tt) }, (int, int, refl, (_, refl, (record { sorted = tt; ordered = tt }, (int, (record { sorted = (tt, tt, tt); ordered = (tt, tt) }, (int, (record { sorted = (tt, (tt, tt, tt), tt); ordered = (tt, (tt, tt)) }, add), (record { sorted = tt; ordered = tt }, refl))), (record { sorted = tt; ordered = tt }, refl)))))), (always_is int, ((refl, tt), (refl, tt)), refl), tt)),
  (
    (all_simple, Ground.Function int int ∷ [], ((record { sorted = (tt, tt, tt); ordered = (tt, tt) }, (int, int, refl, (_, refl, (record { sorted = tt; ordered = tt }, (int, (record { sorted = (tt, tt, tt); ordered = (tt, tt) }, (int, (record { sorted = (tt, (tt, tt, tt), tt); ordered = (tt, (tt, tt)) }, add), (record { sorted = tt; ordered = tt }, refl))), (record { sorted = tt; ordered = tt }, refl)))))), (always_is int, ((refl, tt), (refl, tt)), refl), tt), refl),
    tt,
  ),
)

abbrev some : Ground
some = Ground.Opaque 0 Comparable

pub comparable : Accepted (from (var "comparable" ∷ var "comparable" ∷ []) bool_) smaller
comparable = (
  (
    all_simple,
    functions (int ∷ int ∷ []) bool ∷ [],
    (
      (record { sorted = (tt, (tt, tt, tt), tt); ordered = (tt, (tt, tt)) }, (int, Ground.Function int bool, refl, (_, refl, (record { sorted = (tt, tt, tt); ordered = (tt, tt) }, (int, bool, refl, (_, refl, (record { sorted = tt; ordered = tt }, (int, (record { sorted = (tt, tt, tt); ordered = (tt, tt) }, (int, (record { sorted = (tt, (tt, tt, tt), tt); ordered = (tt, (tt, tt)) }, (_, refl, (always_is int, ((tt, inl refl), ((tt, inl refl), tt)), refl))), (record { sorted = tt; ordered = tt }, refl))), (record { sorted = tt; ordered = tt }, refl))))))))),
      (always_is int, ((tt, inl refl), ((tt, inl refl), tt)), refl),
      tt,
    ),
  ),
  (
    (
      all_simple,
      functions (some ∷ some ∷ []) bool ∷ [],
      (
        (record { sorted = (tt, (tt, tt, tt), tt); ordered = (tt, (tt, tt)) }, (some, Ground.Function some bool, refl, (_, refl, (record { sorted = (tt, tt, tt); ordered = (tt, tt) }, (some, bool, refl, (_, refl, (record { sorted = tt; ordered = tt }, (some, (record { sorted = (tt, tt, tt); ordered = (tt, tt) }, (some, (record { sorted = (tt, (tt, tt, tt), tt); ordered = (tt, (tt, tt)) }, (_, refl, (always_is some, ((tt, tt), ((tt, tt), tt)), refl))), (record { sorted = tt; ordered = tt }, refl))), (record { sorted = tt; ordered = tt }, refl))))))))),
        (always_is some, ((tt, tt), ((tt, tt), tt)), refl),
        tt,
      ),
      refl,
    ),
    tt,
  ),
)

abbrev rest : Ground
rest = Ground.Record (Ends (Some 0))

abbrev whole : Ground
whole = Ground.Record (Row.Field (codes "x") int (Ends (Some 0)))

pub record_kept : Accepted (from (with_x ∷ []) int_) get_x
record_kept = (
  (all_simple, Ground.Function (record_of (("x", int) ∷ [])) int ∷ [], ((record { sorted = ((tt, refl, tt), tt, tt); ordered = ((tt, tt, tt), tt) }, (_, _, refl, (_, refl, (record { sorted = tt; ordered = tt }, (_, (record { sorted = (tt, refl, tt); ordered = (tt, tt, tt) }, refl), refl))))), (always_is (Ground.Record (Ends None)), ((tt, (tt, tt)), tt), refl), tt)),
  (
    (all_simple, Ground.Function whole int ∷ [], ((record { sorted = ((tt, refl, tt), tt, tt); ordered = ((tt, tt, tt), tt) }, (_, _, refl, (_, refl, (record { sorted = tt; ordered = tt }, (_, (record { sorted = (tt, refl, tt); ordered = (tt, tt, tt) }, refl), refl))))), (always_is rest, ((tt, (tt, tt)), tt), refl), tt), refl),
    tt,
  ),
)

pub constant : Accepted (from (var "a" ∷ []) (signal_ (var "a"))) (Native CONSTANT)
constant = (
  (all_simple, Ground.Function int (signal_of int) ∷ [], ((record { sorted = (tt, (tt, refl, tt), tt); ordered = (tt, (tt, tt)) }, (_, refl, (always_is int, ((tt, tt), ((tt, tt), tt)), refl))), (always_is int, ((tt, tt), ((tt, tt), tt)), refl), tt)),
  (
    (all_simple, Ground.Function (Ground.Opaque 0 Plain) (signal_of (Ground.Opaque 0 Plain)) ∷ [], ((record { sorted = (tt, (tt, refl, tt), tt); ordered = (tt, (tt, tt)) }, (_, refl, (always_is (Ground.Opaque 0 Plain), ((tt, tt), ((tt, tt), tt)), refl))), (always_is (Ground.Opaque 0 Plain), ((tt, tt), ((tt, tt), tt)), refl), tt), refl),
    tt,
  ),
)

-- constructors

pub just : ConstructorGives library_unions None (codes "Just") 1 (functions (int ∷ []) (maybe int))
just = (codes "Maybe.Maybe", AndGround int NoGrounds, AndGround int NoGrounds, record { belongs = tt; allowed = ((tt, tt), tt); respected = ((tt, tt), tt); given = refl }, refl, refl)

pub just_known : ConstructorGives library_unions (Some (codes "Maybe.Maybe")) (codes "Just") 1 (functions (int ∷ []) (maybe int))
just_known = (codes "Maybe.Maybe", AndGround int NoGrounds, AndGround int NoGrounds, record { belongs = refl; allowed = ((tt, tt), tt); respected = ((tt, tt), tt); given = refl }, refl, refl)

pub truth : ConstructorGives library_unions None (codes "True") 0 bool
truth = (codes "Basics.Bool", NoGrounds, NoGrounds, record { belongs = tt; allowed = tt; respected = tt; given = refl }, refl, refl)

two_parts : (parts : Grounds) (r : Ground) (n : List ℕ) (ts : Grounds) → count_of parts ≡ 2 → Ground.Function int (Ground.Named n ts) ≡ arrows parts r → ⊥
two_parts NoGrounds r n ts c e = absurd cc
two_parts (AndGround t NoGrounds) r n ts c e = absurd cc
two_parts (AndGround t (AndGround u us)) r n ts c e = absurd cc

pub taken : ConstructorGives library_unions None (codes "Just") 2 (functions (int ∷ []) (maybe int)) → ⊥
taken h = two_parts h.2 _ _ _ h.4 h.5

-- a constructor's parts are those at the union's arguments
parts_at : (parts : Grounds) (n : List ℕ) (ts : Grounds) → codes "Maybe.Maybe" ≡ n → AndGround bool NoGrounds ≡ ts → Makes library_unions None (codes "Just") n ts parts → Some (AndGround bool NoGrounds) ≡ Some parts
parts_at parts n ts b d m = ap₂ (λ k us. parts_of library_unions k us (codes "Just")) b d ∙ m.given

not_int : (t : Ground) → int ≡ t → Some (AndGround bool NoGrounds) ≡ Some (AndGround t NoGrounds) → ⊥
not_int t a g = absurd cc

one_part : (parts : Grounds) (n : List ℕ) (ts : Grounds) → count_of parts ≡ 1 → Ground.Function int (maybe bool) ≡ arrows parts (Ground.Named n ts) → (codes "Maybe.Maybe" ≡ n → AndGround bool NoGrounds ≡ ts → Some (AndGround bool NoGrounds) ≡ Some parts) → ⊥
one_part NoGrounds n ts c e m = absurd cc
one_part (AndGround t NoGrounds) n ts c e m =
    let a : int ≡ t = cc in
    let b : codes "Maybe.Maybe" ≡ n = cc in
    let d : AndGround bool NoGrounds ≡ ts = cc in
    not_int t a (m b d)
one_part (AndGround t (AndGround u us)) n ts c e m = absurd cc

pub other : ConstructorGives library_unions None (codes "Just") 1 (functions (int ∷ []) (maybe bool)) → ⊥
other h = one_part h.2 h.0 h.1 h.4 h.5 (λ b d. parts_at h.2 h.0 h.1 b d h.3)

-- a variable before a bar

pub in_box : ConstructorGives boxes None (codes "T") 1 (functions (record_of (("x", int) ∷ []) ∷ []) (boxed (record_of [])))
in_box = (
  codes "Main.T",
  AndGround (record_of []) NoGrounds,
  AndGround (record_of (("x", int) ∷ [])) NoGrounds,
  record { belongs = tt; allowed = ((tt, tt), tt); respected = ((tt, ((tt, tt))), tt); given = refl },
  refl,
  refl,
)

not_record : (n : List ℕ) (ts : Grounds) → codes "Main.T" ≡ n → AndGround int NoGrounds ≡ ts → RespectsAmong (codes "T") (arguments_for (parameters_in (union_named n boxes)) ts) (constructors_in (union_named n boxes)) → ⊥
not_record n ts b d r =
    let k : RespectsAmong (codes "T") (arguments_for (codes "a" ∷ []) (AndGround int NoGrounds)) (constructors_in (union_named (codes "Main.T") boxes)) =
    subst (λ m. RespectsAmong (codes "T") (arguments_for (parameters_in (union_named m boxes)) (AndGround int NoGrounds)) (constructors_in (union_named m boxes))) (sym b)
    (subst (λ us. RespectsAmong (codes "T") (arguments_for (parameters_in (union_named n boxes)) us) (constructors_in (union_named n boxes))) (sym d) r) in
    k.0.0

one_box : (parts : Grounds) (n : List ℕ) (ts : Grounds) → count_of parts ≡ 1 → Ground.Function (record_of (("x", int) ∷ [])) (boxed int) ≡ arrows parts (Ground.Named n ts) → (codes "Main.T" ≡ n → AndGround int NoGrounds ≡ ts → ⊥) → ⊥
one_box NoGrounds n ts c e m = absurd cc
one_box (AndGround t NoGrounds) n ts c e m =
    let b : codes "Main.T" ≡ n = cc in
    let d : AndGround int NoGrounds ≡ ts = cc in
    m b d
one_box (AndGround t (AndGround u us)) n ts c e m = absurd cc

pub out_of_box : ConstructorGives boxes None (codes "T") 1 (functions (record_of (("x", int) ∷ []) ∷ []) (boxed int)) → ⊥
out_of_box h = one_box h.2 h.0 h.1 h.4 h.5 (λ b d. not_record h.0 h.1 b d h.3.respected)

-- patterns

pub fits_just : Fits library_unions (made "Just" (name 3 ∷ [])) (maybe int) ((3, int) ∷ [])
fits_just = (_, _, _, refl, record { belongs = tt; allowed = ((tt, tt), tt); respected = ((tt, tt), tt); given = refl }, (_, _, refl, refl, refl))

pub fits_nothing : Fits library_unions (made "Nothing" []) (maybe int) []
fits_nothing = (_, _, _, refl, record { belongs = tt; allowed = ((tt, tt), tt); respected = tt; given = refl }, refl)

pub fits_err : Fits library_unions (made "Err" (name 3 ∷ [])) (result_of string int) ((3, string) ∷ [])
fits_err = (_, _, _, refl, record { belongs = tt; allowed = ((tt, tt), ((tt, tt), tt)); respected = ((tt, tt), tt); given = refl }, (_, _, refl, refl, refl))

pub fits_whole : Fits library_unions (CorePattern.Named (made "Just" (name 3 ∷ [])) 4) (maybe int) ((3, int) ∷ (4, maybe int) ∷ [])
fits_whole = (_, fits_just, refl)
