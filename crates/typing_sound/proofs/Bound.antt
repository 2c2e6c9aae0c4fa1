-- A pattern that fits a type and a value of that type binds values of the types that its names have.
use Rattle.std.proofs.Common.{◌≡◌, ℕ, suc, ◌+◌, Bool, true, false, Option, Some, None, List, [], ◌∷◌, ◌++◌, ◌==◌, refl, sym, ap, ap₂, ◌∙◌, subst, arith}
use Rattle.std.specs.Prelude.{if◌then◌else◌}
use Rattle.std.specs.Str.{bytes_eq}
use Rattle.std.specs.declared.cmp.Ordering.{Ordering}
use Rattle.std.specs.declared.cmp.Ordering.TheVariants as ordering
use Rattle.std.specs.Cmp.Lexicographic.{slice_cmp}
use Rattle.std.specs.Ordering.{nat_cmp, is_eq}
use Rattle.std.proofs.lemmas.Map.Lookups.{exact_bytes}
use Rattle.std.proofs.lemmas.Map.Text.{is_eq-slice_cmp}
use Rattle.elm_typing.specs.Ground.{Ground, Grounds, Row, NoGrounds, AndGround, Ends}
use Rattle.elm_typing.specs.Names.{list_of}
use Rattle.elm_typing.specs.Rows as row
use Rattle.elm_meaning.specs.Patterns.{Pattern, Patterns, NoPatterns, AndPattern}
use Rattle.elm_meaning.specs.Values.{Value, Values, Fields, Nil, Cons, Tuple, Made, Record, Applicable, NoValues, AndValue, NoFields, AndField, Member, Group, NoFunctions, AndFunction}
use Rattle.elm_meaning.specs.FreeNames.{function_names}
use Rattle.elm_meaning.specs.Records as record_of
use Rattle.elm_meaning.specs.Matching.{Bindings, nothing_where, both, literal_fits, where_same, named_value, labels_fit, matching, all_matching}
use Rattle.elm_meaning.specs.Substitution.{Names, no_names, bind, bind_all, bind_from}
use Rattle.elm_meaning.specs.Evaluation.{number_of}
use Rattle.typing_rules.specs.Unions.{Union, Makes, count_of, arrows, parts_of}
use Rattle.typing_rules.specs.CorePatterns.{core_pattern, core_patterns, Fits, AllFit, LabelsFit}
use Rattle.typing_rules.specs.Worlds.{Types, Surroundings, no_surroundings, exactly, Either, with_name, Bound, with_bound, World}
use Rattle.typing_rules.specs.Rules.{Typings, type_at, under_work, GivenBy, generalised}
use Rattle.typing_rules.specs.TermTypes.{ValueHas, ValuesHave, FieldsHave, AreTaken, GroupHas}
use Rattle.typing_sound.specs.SafeEndings.{BindsTyped}
use Rattle.typing_sound.proofs.Combine.{Sub, Within, name_more, given_more}
use Rattle.typing_sound.proofs.Filled.{Paired}

-- equal bytes
pub same_bytes : (xs ys : List ℕ) → bytes_eq xs ys ≡ true → xs ≡ ys
same_bytes xs ys e = exact_bytes xs ys (equal (slice_cmp nat_cmp xs ys) (is_eq-slice_cmp xs ys ∙ e))
  where
    equal : (o : Ordering) → is_eq o ≡ true → o ≡ ordering.Equal
    equal ordering.Less h = cc h
    equal ordering.Equal h = refl
    equal ordering.Greater h = cc h

pub some_is : {A : Type 0} (a b : A) → Some a ≡ Some b → a ≡ b
some_is a b e = cc

module _ (w : World) where
  abbrev pub BindsHave : Bindings → Bound → Type 0
  BindsHave bs ts = BindsTyped w bs ts

  abbrev pub MatchHas : Option Bindings → Bound → Type 0
  MatchHas None ts = Unit {0}
  MatchHas (Some bs) ts = BindsHave bs ts

  binds_both : (bs cs : Bindings) (ts us : Bound) → BindsHave bs ts → BindsHave cs us → BindsHave (bs ++ cs) (ts ++ us)
  binds_both [] cs [] us h k = k
  binds_both [] cs (t ∷ ts) us h k = absurd h
  binds_both (b ∷ bs) cs [] us h k = absurd h
  binds_both (b ∷ bs) cs (t ∷ ts) us h k = (h.0, h.1, binds_both bs cs ts us h.2 k)

  match_both : (o p : Option Bindings) (ts us : Bound) → MatchHas o ts → MatchHas p us → MatchHas (both o p) (ts ++ us)
  match_both None None ts us h k = tt
  match_both None (Some cs) ts us h k = tt
  match_both (Some bs) None ts us h k = tt
  match_both (Some bs) (Some cs) ts us h k = binds_both bs cs ts us h k

  match_nothing : (b : Bool) → MatchHas (nothing_where b) []
  match_nothing true = tt
  match_nothing false = tt

  match_same : (b : Bool) (o : Option Bindings) (ts : Bound) → (b ≡ true → MatchHas o ts) → MatchHas (where_same b o) ts
  match_same true o ts f = f refl
  match_same false o ts f = tt

  -- a record's value has the labels of its type
  pub newest_has : (l : List ℕ) (fs : Fields) (r : Row) (t : Ground) → FieldsHave w fs r → row.newest l r ≡ Some t → (v : Value) × (record_of.newest l fs ≡ Some v) × ValueHas w v t
  newest_has l NoFields (Ends rest) t h e = absurd cc
  newest_has l NoFields (Row.Field k u r) t h e = absurd h
  newest_has l (AndField k v fs) (Ends rest) t h e = absurd h
  newest_has l (AndField k v fs) (Row.Field m u r) t h e =
      found (bytes_eq l k) (subst (λ z. (if bytes_eq l z then Some u else row.newest l r) ≡ Some t) (sym h.0) e) h.1 (newest_has l fs r t h.2)
    where
      found : (b : Bool) → (if b then Some u else row.newest l r) ≡ Some t → ValueHas w v u → (row.newest l r ≡ Some t → (x : Value) × (record_of.newest l fs ≡ Some x) × ValueHas w x t) → (x : Value) × ((if b then Some v else record_of.newest l fs) ≡ Some x) × ValueHas w x t
      found true d g f = (v, refl, subst (ValueHas w v) (some_is u t d) g)
      found false d g f = f d

  match_named : (n : ℕ) (o : Option Value) (t : Ground) (ls : List (List ℕ × ℕ)) (fs : Fields) (ts : Bound) → ((v : Value) × (o ≡ Some v) × ValueHas w v t) → MatchHas (labels_fit ls fs) ts → MatchHas (both (named_value n o) (labels_fit ls fs)) ((n, t) ∷ ts)
  match_named n None t ls fs ts h k = absurd (let e = h.1 in cc)
  match_named n (Some v) t ls fs ts h k =
      match_both (Some ((n, v) ∷ [])) (labels_fit ls fs) ((n, t) ∷ []) ts (refl, subst (λ z. ValueHas w z t) (sym (some_is v h.0 h.1)) h.2, tt) k

  match_labels : (ls : List (List ℕ × ℕ)) (fs : Fields) (r : Row) (ts : Bound) → LabelsFit ls r ts → FieldsHave w fs r → MatchHas (labels_fit ls fs) ts
  match_labels [] fs r ts h k = subst (BindsHave []) (sym h) tt
  match_labels (l ∷ ls) fs r ts h k =
      subst (MatchHas (labels_fit (l ∷ ls) fs)) (sym h.4)
      (match_named l.1 (record_of.newest l.0 fs) h.0 ls fs h.1 (newest_has l.0 fs r h.0 k h.2) (match_labels ls fs r h.1 h.3 k))

  -- all arguments of a constructor
  pub taken_all : (vs : Values) (ts : Grounds) (r t : Ground) → count_of ts ≡ number_of vs → AreTaken w vs (arrows ts r) t → ValuesHave w vs ts × (t ≡ r)
  taken_all NoValues NoGrounds r t e h = (tt, h)
  taken_all NoValues (AndGround u us) r t e h = absurd cc
  taken_all (AndValue v vs) NoGrounds r t e h = absurd cc
  taken_all (AndValue v vs) (AndGround u us) r t e h =
      let d : count_of us ≡ number_of vs = cc in
      let k = taken_all vs us r t d h.1 in ((h.0, k.0), k.1)

  made_parts : (us : List Union) (c k n m : List ℕ) (ts xs ps qs : Grounds) → c ≡ k → Ground.Named n ts ≡ Ground.Named m xs → parts_of us n ts c ≡ Some ps → parts_of us m xs k ≡ Some qs → qs ≡ ps
  made_parts us c k n m ts xs ps qs a e g h =
      let i : m ≡ n = cc in
      let j : xs ≡ ts = cc in
      some_is qs ps (sym h ∙ (ap₂ (λ y z. parts_of us y z k) i j ∙ (ap (parts_of us n ts) (sym a) ∙ g)))

  -- a value of a union has parts of the types that its constructor has there
  pub made_values : (u : Option (List ℕ)) (c k : List ℕ) (vs : Values) (t : Ground) (n : List ℕ) (ts ps : Grounds) → c ≡ k → t ≡ Ground.Named n ts → Makes w.unions u c n ts ps → ValueHas w (Made k vs) t → ValuesHave w vs ps
  made_values u c k vs t n ts ps a e m h =
      let g = h.1 in
      let all = taken_all vs g.2 (Ground.Named g.0 g.1) t g.4 (subst (λ z. AreTaken w vs z t) g.5 h.3) in
      subst (ValuesHave w vs) (made_parts w.unions c k n g.0 ts g.1 ps g.2 a (sym e ∙ all.1) m.given g.3.given) all.0

  mutual
    pub match_has : (p : Pattern) (v : Value) (t : Ground) (ts : Bound) → Fits w.unions (core_pattern p) t ts → ValueHas w v t → MatchHas (matching p v) ts
    match_has Pattern.Anything v t ts f h = subst (BindsHave []) (sym f) tt
    match_has (Pattern.Local x) v t ts f h = subst (BindsHave ((x, v) ∷ [])) (sym f) (refl, h, tt)
    match_has (Pattern.Literal l) v t ts f h = subst (MatchHas (nothing_where (literal_fits l v))) (sym f.1) (match_nothing (literal_fits l v))
    match_has (Pattern.Made c ps) (Made k vs) t ts f h =
        match_same (bytes_eq c k) (all_matching ps vs) ts (λ e. match_all ps vs f.2 ts f.5 (made_values None c k vs t f.0 f.1 f.2 (same_bytes c k e) f.3 f.4 h))
    match_has (Pattern.Made c ps) v t ts f h = tt
    match_has Pattern.Nil Nil t ts f h = subst (BindsHave []) (sym f.2) tt
    match_has Pattern.Nil v t ts f h = tt
    match_has (Pattern.Cons p q) (Cons v vs) t ts f h =
        let e : f.0 ≡ h.0 = (let a = f.3 in let b = h.1 in cc) in
        subst (MatchHas (both (matching p v) (matching q vs))) (sym f.6)
        (match_both (matching p v) (matching q vs) f.1 f.2
        (match_has p v f.0 f.1 f.4 (subst (ValueHas w v) (sym e) h.2)) (match_has q vs (list_of f.0) f.2 f.5 (subst (λ z. ValueHas w vs (list_of z)) (sym e) h.3)))
    match_has (Pattern.Cons p q) v t ts f h = tt
    match_has (Pattern.Tuple ps) (Tuple vs) t ts f h =
        let e : h.0 ≡ f.0 = (let a = f.1 in let b = h.1 in cc) in
        match_all ps vs f.0 ts f.2 (subst (ValuesHave w vs) e h.2)
    match_has (Pattern.Tuple ps) v t ts f h = tt
    match_has (Pattern.Fields ls) (Record fs) t ts f h =
        let e : h.0 ≡ f.0 = (let a = f.1 in let b = h.1 in cc) in
        match_labels ls fs f.0 ts f.2 (subst (FieldsHave w fs) e h.2)
    match_has (Pattern.Fields ls) v t ts f h = tt
    match_has (Pattern.Named p n) v t ts f h =
        subst (MatchHas (both (matching p v) (Some ((n, v) ∷ [])))) (sym f.2)
        (match_both (matching p v) (Some ((n, v) ∷ [])) f.0 ((n, t) ∷ []) (match_has p v t f.0 f.1 h) (refl, h, tt))

    pub match_all : (ps : Patterns) (vs : Values) (us : Grounds) (ts : Bound) → AllFit w.unions (core_patterns ps) us ts → ValuesHave w vs us → MatchHas (all_matching ps vs) ts
    match_all NoPatterns NoValues NoGrounds ts f h = subst (BindsHave []) (sym f) tt
    match_all NoPatterns NoValues (AndGround u us) ts f h = absurd h
    match_all NoPatterns (AndValue v vs) us ts f h = tt
    match_all (AndPattern p ps) NoValues us ts f h = tt
    match_all (AndPattern p ps) (AndValue v vs) NoGrounds ts f h = absurd h
    match_all (AndPattern p ps) (AndValue v vs) (AndGround u us) ts f h =
        subst (MatchHas (both (matching p v) (all_matching ps vs))) (sym f.4)
        (match_both (matching p v) (all_matching ps vs) f.0 f.1 (match_has p v u f.0 f.2 h.0) (match_all ps vs us f.1 f.3 h.1))

  -- surroundings whose names have values of their types

  pub record Typed (s : Surroundings) (σ : Names) : Type 0 where
    pub at : (y : ℕ) (t : Ground) → s y t → (v : Value) × (σ y ≡ Some v) × ValueHas w v t

  pub typed_nothing : Typed no_surroundings no_names
  typed_nothing = record { at = λ y t h. absurd h }

  typed_one : (b : Bool) (P S : Type 0) (v : Value) (o : Option Value) (t : Ground) → (P → ValueHas w v t) → (S → (x : Value) × (o ≡ Some x) × ValueHas w x t) → Either b P S → (x : Value) × ((if b then Some v else o) ≡ Some x) × ValueHas w x t
  typed_one true P S v o t f g h = (v, refl, f h)
  typed_one false P S v o t f g h = g h

  pub typed_name : (x : ℕ) (P : Types) (v : Value) (s : Surroundings) (σ : Names) → Sub P (ValueHas w v) → Typed s σ → Typed (with_name x P s) (bind x v σ)
  typed_name x P v s σ f h = record { at = λ y t. typed_one (x == y) (P t) (s y t) v (σ y) t (f t) (h.at y t) }

  pub typed_less : (s r : Surroundings) (σ : Names) → Within s r → Typed r σ → Typed s σ
  typed_less s r σ k h = record { at = λ y t e. h.at y t (k.at y t e) }

  pub typed_bound : (bs : Bindings) (ts : Bound) (s : Surroundings) (σ : Names) → BindsHave bs ts → Typed s σ → Typed (with_bound ts s) (bind_all bs σ)
  typed_bound [] [] s σ k h = h
  typed_bound [] (t ∷ ts) s σ k h = absurd k
  typed_bound (b ∷ bs) [] s σ k h = absurd k
  typed_bound (b ∷ bs) (t ∷ ts) s σ k h =
      typed_bound bs ts (with_name t.0 (exactly t.1) s) (bind b.0 b.1 σ) k.2
      (subst (λ z. Typed (with_name t.0 (exactly t.1) s) (bind z b.1 σ)) (sym k.0)
      (typed_name t.0 (exactly t.1) b.1 s σ (λ u e. subst (ValueHas w b.1) (sym e) k.1) h))

  -- each name of a group stands for its function under the same group
  pub typed_group : (all : Group) (i : ℕ) (g : Group) (G : Typings) (s : Surroundings) (σ : Names) → ((ts : List Ground) → G ts → GroupHas w no_surroundings all ts) → Typed s σ → Typed (generalised (function_names g) i G s) (bind_from all i g σ)
  typed_group all i NoFunctions G s σ f h = h
  typed_group all i (AndFunction name p b g) G s σ f h =
      typed_group all (suc i) g G (with_name name (GivenBy G i) s) (bind name (Applicable (Member i all)) σ) f
      (typed_name name (GivenBy G i) (Applicable (Member i all)) s σ (given_more i G (GroupHas w no_surroundings all) f) h)

-- a typing gives each name of the group its type
pub work_given : (xs : List ℕ) (ts : List Ground) (k : ℕ) (G : Typings) (whole : List Ground) (s r : Surroundings) → Paired xs ts → G whole → ((i : ℕ) (t : Ground) → type_at ts i ≡ Some t → type_at whole (k + i) ≡ Some t) → Within s r → Within (under_work xs ts s) (generalised xs k G r)
work_given [] [] k G whole s r p g f h = h
work_given [] (t ∷ ts) k G whole s r p g f h = absurd p
work_given (x ∷ xs) [] k G whole s r p g f h = absurd p
work_given (x ∷ xs) (t ∷ ts) k G whole s r p g f h =
    let z : k + 0 ≡ k = omega arith in
    let here : type_at whole k ≡ Some t = ap (type_at whole) (sym z) ∙ f 0 t refl in
    work_given xs ts (suc k) G whole _ _ p g
    (λ i u e. let j : suc k + i ≡ k + suc i = omega arith in ap (type_at whole) j ∙ f (suc i) u e)
    (name_more x (exactly t) (GivenBy G k) s r (λ u e. (whole, g, subst (λ y. type_at whole k ≡ Some y) (sym e) here)) h)
