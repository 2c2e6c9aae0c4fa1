-- What takes arguments has the type of a function.
use Rattle.std.proofs.Common.{◌≡◌, ℕ, zero, suc, ◌<◌, ◌≤◌, Bool, true, false, Some, None, List, [], ◌∷◌, refl, sym, ap, ◌∙◌, subst, arith}
use Rattle.std.specs.Prelude.{slice_get, codes}
use Rattle.std.specs.Str.{bytes_eq}
use Rattle.elm_meaning.specs.declared.callee.Callee.TheVariants as callee
use Rattle.elm_typing.specs.Ground.{Ground, Grounds, NoGrounds, AndGround}
use Rattle.elm_typing.specs.Names.{list_of}
use Rattle.elm_meaning.specs.Values.{Values, Function, NoValues, AndValue, Closure, Member, Partial, Group, NoFunctions, AndFunction}
use Rattle.elm_meaning.specs.Evaluation.{number_of}
use Rattle.elm_meaning.specs.NativeTable.{Native, natives, native_at, takes_of}
use Rattle.typing_rules.specs.WrittenTypes.{Written, Variable, Named, Arrow, Tuple, Fields, Choice, instance_at}
use Rattle.typing_rules.specs.Unions.{Union, count_of, arrows, GivesWhere}
use Rattle.typing_rules.specs.Library.{signatures}
use Rattle.typing_rules.specs.Worlds.{Surroundings, World}
use Rattle.typing_rules.specs.Rules.{type_at}
use Rattle.typing_rules.specs.TermTypes.{AreTaken, FunctionHas, EachFunctionHas}

abbrev pub IsFunction : Ground → Type 0
IsFunction t = (a r : Ground) × (t ≡ Ground.Function a r)

-- how many arrows stand one behind the other
abbrev pub arity : Written → ℕ
arity (Arrow a r) = suc (arity r)
arity _ = 0

-- each native takes as many arguments as its type has arrows
abbrev pub Arities : List Native → List Written → Type 0
Arities [] ws = Unit {0}
Arities (n ∷ ns) [] = ⊥
Arities (n ∷ ns) (w ∷ ws) = (takes_of (Some n) ≡ arity w) × Arities ns ws

arities : Arities natives signatures
arities = (
  refl,
  (
    refl,
    (
      refl,
      (
        refl,
        (
          refl,
          (
            refl,
            (
              refl,
              (
                refl,
                (
                  refl,
                  (
                    refl,
                    (
                      refl,
                      (
                        refl,
                        (
                          refl,
                          (
                            refl,
                            (
                              refl,
                              (
                                refl,
                                (
                                  refl,
                                  (
                                    refl,
                                    (
                                      refl,
                                      (
                                        refl,
                                        (
                                          refl,
                                          (
                                            refl,
                                            (
                                              refl,
                                              (
                                                refl,
                                                (
                                                  refl,
                                                  (
                                                    refl,
                                                    (
                                                      refl,
                                                      (
                                                        refl,
                                                        (
                                                          refl,
                                                          (
                                                            refl,
                                                            (
                                                              refl,
                                                              (
                                                                refl,
                                                                (
                                                                  refl,
                                                                  (
                                                                    refl,
                                                                    (
                                                                      refl,
                                                                      (
                                                                        refl,
                                                                        (
                                                                          refl,
                                                                          (
                                                                            refl,
                                                                            (
                                                                              refl,
                                                                              (
                                                                                refl,
                                                                                (
                                                                                  refl,
                                                                                  (
                                                                                    refl,
                                                                                    (
                                                                                      refl,
                                                                                      (
                                                                                        refl,
                                                                                        (
                                                                                          refl,
                                                                                          (
                                                                                            refl,
                                                                                            (
                                                                                              refl,
                                                                                              (
                                                                                                refl,
                                                                                                (
                                                                                                  refl,
                                                                                                  (
                                                                                                    refl,
                                                                                                    (
                                                                                                      refl,
                                                                                                      (
                                                                                                        refl,
                                                                                                        (
                                                                                                          refl,
                                                                                                          tt,
                                                                                                        ),
                                                                                                      ),
                                                                                                    ),
                                                                                                  ),
                                                                                                ),
                                                                                              ),
                                                                                            ),
                                                                                          ),
                                                                                        ),
                                                                                      ),
                                                                                    ),
                                                                                  ),
                                                                                ),
                                                                              ),
                                                                            ),
                                                                          ),
                                                                        ),
                                                                      ),
                                                                    ),
                                                                  ),
                                                                ),
                                                              ),
                                                            ),
                                                          ),
                                                        ),
                                                      ),
                                                    ),
                                                  ),
                                                ),
                                              ),
                                            ),
                                          ),
                                        ),
                                      ),
                                    ),
                                  ),
                                ),
                              ),
                            ),
                          ),
                        ),
                      ),
                    ),
                  ),
                ),
              ),
            ),
          ),
        ),
      ),
    ),
  ),
)

arity_at : (ns : List Native) (ws : List Written) (i : ℕ) (w : Written) → Arities ns ws → slice_get ws i ≡ Some w → takes_of (slice_get ns i) ≤ arity w
arity_at [] ws i w h e = omega arith
arity_at (n ∷ ns) [] i w h e = absurd h
arity_at (n ∷ ns) (x ∷ ws) zero w h e = (let d : x ≡ w = cc in let p : takes_of (Some n) ≡ arity w = h.0 ∙ ap arity d in omega (arith, p))
arity_at (n ∷ ns) (x ∷ ws) (suc i) w h e = arity_at ns ws i w h.1 e

pub arity_of : (n : ℕ) (w : Written) → slice_get signatures n ≡ Some w → takes_of (native_at n) ≤ arity w
arity_of n w e = arity_at natives signatures n w arities e

module _ (w : World) where
  -- with an arrow to come
  arrow_left : (c : Choice) (x : Written) (vs : Values) (t : Ground) → number_of vs < arity x → AreTaken w vs (instance_at c x) t → IsFunction t
  arrow_left c (Arrow a r) NoValues t k h = (instance_at c a, instance_at c r, h)
  arrow_left c (Arrow a r) (AndValue v vs) t k h = arrow_left c r vs t (omega (arith, k)) h.1
  arrow_left c (Variable n) vs t k h = absurd (omega (arith, k))
  arrow_left c (Named n ws) vs t k h = absurd (omega (arith, k))
  arrow_left c (Tuple ws) vs t k h = absurd (omega (arith, k))
  arrow_left c (Fields b fs) vs t k h = absurd (omega (arith, k))

  part_left : (ts : Grounds) (r : Ground) (vs : Values) (t : Ground) → number_of vs < count_of ts → AreTaken w vs (arrows ts r) t → IsFunction t
  part_left NoGrounds r vs t k h = absurd (omega (arith, k))
  part_left (AndGround a ts) r NoValues t k h = (a, arrows ts r, h)
  part_left (AndGround a ts) r (AndValue v vs) t k h = part_left ts r vs t (omega (arith, k)) h.1

  -- the constructor of lists
  list_left : (e : Ground) (vs : Values) (t : Ground) → number_of vs < 2 → AreTaken w vs (Ground.Function e (Ground.Function (list_of e) (list_of e))) t → IsFunction t
  list_left e vs t k h = part_left (AndGround e (AndGround (list_of e) NoGrounds)) (list_of e) vs t k h

  gives_left : (b : Bool) (us : List Union) (name : List ℕ) (n : ℕ) (whole : Ground) (vs : Values) (t : Ground) → GivesWhere b us None name n whole → number_of vs < n → AreTaken w vs whole t → IsFunction t
  gives_left true us name n whole vs t g k h =
      list_left g.1 vs t (subst (λ z. number_of vs < z) g.0 k) (subst (λ z. AreTaken w vs z t) g.2 h)
  gives_left false us name n whole vs t g k h =
      part_left g.2 (Ground.Named g.0 g.1) vs t (subst (λ z. number_of vs < z) (sym g.4) k) (subst (λ z. AreTaken w vs z t) g.5 h)

  member_function : (s : Surroundings) (g : Group) (ts : List Ground) (i : ℕ) (t : Ground) → EachFunctionHas w s g ts → type_at ts i ≡ Some t → IsFunction t
  member_function s NoFunctions [] i t h e = absurd cc
  member_function s NoFunctions (u ∷ ts) i t h e = absurd h
  member_function s (AndFunction name p b g) [] i t h e = absurd h
  member_function s (AndFunction name p b g) (u ∷ ts) zero t h e =
      let d : t ≡ u = cc in (h.0.1.0, h.0.1.1, d ∙ h.0.1.2)
  member_function s (AndFunction name p b g) (u ∷ ts) (suc i) t h e = member_function s g ts i t h.1 e

  pub function_type : (f : Function) (t : Ground) → FunctionHas w f t → IsFunction t
  function_type (Closure p b) t h = (h.0, h.1, h.2)
  function_type (Member i g) t h = member_function _ g h.0 i t h.1 h.2
  function_type (Partial (callee.Native n) vs) t h =
      let g = h.1.0 in
      let i = g.2 in
      arrow_left i.0 g.0 vs t (let a = arity_of n g.0 g.1 in let k = h.3 in omega (arith, a, k)) (subst (λ z. AreTaken w vs z t) i.2 h.2)
  function_type (Partial (callee.Constructor name n) vs) t h = gives_left (bytes_eq name (codes "::")) w.unions name n h.0 vs t h.1.0 h.3 h.2
