-- Variables that are added one by one.
use Rattle.std.proofs.Common.{◌≡◌, ℕ, ◌<◌, ◌≤◌, Bool, true, false, ◌&&◌, ◌||◌, List, [], ◌∷◌, ◌++◌, length, get_or, take, refl, sym, ◌∙◌, ap, subst, inl, inr, arith, zero, suc, ◌+◌, codes, add-one}
use Rattle.std.specs.Str.{bytes_eq}
use Rattle.std.proofs.Math.Seq.{take-suc}
use Rattle.std.proofs.lemmas.Bool.{false≢true}
use Rattle.elm_typing.specs.declared.flag.Flag.{Flag}
use Rattle.elm_typing.specs.Flags.{HasFlag}
use Rattle.elm_typing.specs.Ground.{Ground, Row, Record, Named, NoGrounds}
use Rattle.elm_typing.specs.Names.{int_name}
use Rattle.elm_typing.specs.Ordered.{InOrder}
use Rattle.elm_typing.proofs.LabelOrder.{decided, bytes_eq_itself, bytes_eq_same}
use Rattle.typing_rules.specs.WrittenTypes.{Allows, IsIntWhere, IsRecord, row_of, begins, flag_of}
use Rattle.type_sorts.specs.Vertices.{Member}
use Rattle.type_terms.specs.Solutions.{Assignment, Fits}
use Rattle.type_terms.specs.declared.shape.Shape.TheVariants as shape
use Rattle.type_unify.specs.declared.rows.Tail.{Tail}
use Rattle.type_unify.specs.declared.rows.Tail.TheVariants.{Closed}
use Rattle.type_unify.specs.Rests.{IsType}
use Rattle.type_unify.specs.Steps.{IsTail, under}
use Rattle.type_conditions.specs.Conditions.{Asked, terms_in}
use Rattle.type_conditions.specs.Judging.{Adds, Opens, HasFields, IsWell, KeepsTails}
use Rattle.type_conditions.proofs.Composing.{grows-itself, grows-on, agree-less, agree-on, adds-same}
use Rattle.type_instances.specs.declared.uses.Use.{Use}
use Rattle.type_instances.specs.declared.table.Variable.{Variable}
use Rattle.type_instances.specs.Uses.{use_of, EachUse, AllowsAt}
use Rattle.type_instances.specs.Tables.{is_open, IsRowWhere, Knows, EachVariable, Serves, ServesAt, Stands, IsTable, IsUsed, AllowsTail}
use Rattle.type_instances.specs.Building.{Chooses}
use Rattle.type_instances.specs.Choosing.{is_before, is_known, AddsVariable}
use Rattle.type_instances.proofs.Choices.{uses-append, number-plain, record-is}
use Rattle.type_instances.proofs.Standing.{variables-both, variables-behind, variables-front, term-known, table-kept}

-- one variable --

record-has : (t : Ground) (row : Row) → t ≡ Record row → IsRecord t
record-has t row e = subst IsRecord (sym e) tt

pub new_number : (name int_is : List ℕ) (old new : Asked) (at : ℕ) → begins (codes "number") name ≡ true → int_is ≡ int_name →
    Adds old new (λ chosen s type. IsWell chosen type × Fits ⊥ s type (shape.Named int_is [])) at →
    Adds old new (λ chosen s type. IsWell chosen type × Allows name type) at
new_number name int_is old new at begun is a =
    adds-same old new (λ chosen s type. IsWell chosen type × Fits ⊥ s type (shape.Named int_is [])) (λ chosen s type. IsWell chosen type × Allows name type) at
    (λ chosen s type. (
      λ p. (p.0, (subst (λ b. IsIntWhere b type) (sym begun) (p.1 ∙ ap (λ n. Named n NoGrounds) is), subst (λ f. HasFlag f type) (sym (number-plain name begun)) tt)),
      λ q. (q.0, subst (λ b. IsIntWhere b type) begun q.1.0 ∙ ap (λ n. Named n NoGrounds) (sym is)),
    )) a

pub new_flagged : (name : List ℕ) (flag : Flag) (old new : Asked) (at : ℕ) → begins (codes "number") name ≡ false → flag ≡ flag_of name →
    Adds old new (λ chosen s type. IsWell chosen type × HasFlag flag type) at → Adds old new (λ chosen s type. IsWell chosen type × Allows name type) at
new_flagged name flag old new at no_number is a =
    adds-same old new (λ chosen s type. IsWell chosen type × HasFlag flag type) (λ chosen s type. IsWell chosen type × Allows name type) at
    (λ chosen s type. (
      λ p. (p.0, (subst (λ b. IsIntWhere b type) (sym no_number) tt, subst (λ f. HasFlag f type) is p.1)),
      λ q. (q.0, subst (λ f. HasFlag f type) (sym is) q.1.1),
    )) a

pub closed-added : (old new : Asked) (name copied : List ℕ) (at : ℕ) (table after : List Variable) → copied ≡ name → Adds old new (λ chosen s type. IsWell chosen type × Allows copied type) at → KeepsTails old new →
    after ≡ table ++ record { name = copied; at = at; tail = Closed } ∷ [] → AddsVariable old new name false table after
closed-added old new name copied at table after same a tails e = record {
  added = record { name = copied; at = at; tail = Closed };
  grows = a.grows;
  tails = tails;
  behind = e;
  name_is = same;
  tail_is = refl;
  is_type = a.is_type;
  is_tail = tt;
  stand = λ chosen s h. let k = a.has chosen s h in record { well = k.0; row = tt; allowed = k.1 };
  complete = λ chosen s type h well allows. a.complete chosen s type h (well, allows);
}

pub open-added : (old middle new : Asked) (name copied : List ℕ) (tail : Tail) (at : ℕ) (fields : List (List ℕ × ℕ)) (table after : List Variable) → copied ≡ name → fields ≡ [] →
    Opens old middle tail → Adds middle new (HasFields fields tail) at → KeepsTails middle new →
    after ≡ table ++ record { name = copied; at = at; tail = tail } ∷ [] → AddsVariable old new name true table after
open-added old middle new name copied tail at fields table after same none o a tails e = record {
  added = record { name = copied; at = at; tail = tail };
  grows = grows-on old middle new o.grows a.grows;
  tails = λ t k. tails t (o.tails t k);
  behind = e;
  name_is = same;
  tail_is = opens;
  is_type = a.is_type;
  is_tail = tails tail o.is_tail;
  stand = λ chosen s h.
      let k = a'.has chosen s h in
      record {
        well = k.0;
        row = subst (λ b. IsRowAt b s) (sym opens) k.1;
        allowed = subst (λ b. AllowsAt b copied (s at)) (sym opens) (record-has (s at) (under s tail) k.1);
      };
  complete = λ chosen s type h well allows.
      let is : IsRecord type = subst (λ b. AllowsAt b copied type) opens allows in
      let e : type ≡ Record (row_of type) = record-is type is in
      let r = o.complete chosen s (row_of type) h (subst InOrder e well.ordered) in
      let q = a'.complete chosen r.0 type r.2 (well, e ∙ ap Record (sym r.3)) in
      (q.0, agree-on (length (terms_in old)) s r.0 q.0 r.1 (agree-less old middle r.0 q.0 o.grows q.1), q.2, q.3);
}
  where
    opens : is_open tail ≡ true
    opens = ap is_open o.is_open

    IsRowAt : Bool → Assignment → Type 0
    IsRowAt b s = IsRowWhere b s tail at

    a' : Adds middle new (HasFields [] tail) at
    a' = subst (λ (fs : List (List ℕ × ℕ)). Adds middle new (HasFields fs tail) at) none a

-- a table that grows --

pub chooses-none : (asked : Asked) → Chooses asked asked []
chooses-none asked = record {
  grows = grows-itself asked;
  is_table = record { types = tt; tails = tt; stand = λ chosen s h. tt };
  complete = λ chosen s choice h each. (s, λ i lt. refl, h, tt);
}

pub chooses-on : (old middle new : Asked) (name : List ℕ) (before : Bool) (table after : List Variable) → Chooses old middle table → AddsVariable middle new name before table after → Chooses old new after
chooses-on old middle new name before table after c a = subst (Chooses old new) (sym a.behind) (record {
  grows = grows-on old middle new c.grows a.grows;
  is_table = record {
    types = variables-behind (λ v. IsType (terms_in new) v.at) table a.added kept.types a.is_type;
    tails = variables-behind (λ v. IsTail (terms_in new) v.tail) table a.added kept.tails a.is_tail;
    stand = λ chosen s h. variables-behind (Stands chosen s) table a.added (kept.stand chosen s h) (a.stand chosen s h);
  };
  complete = λ chosen s choice h each.
      let k = variables-front (λ v. IsWell chosen (choice v.name) × AllowsTail v.tail v.name (choice v.name)) table a.added each in
      let r = c.complete chosen s choice h k.0 in
      let q = a.complete chosen r.0 (choice a.added.name) r.2 k.1.0 k.1.1 in (
        q.0,
        agree-on (length (terms_in old)) s r.0 q.0 r.1 (agree-less old middle r.0 q.0 c.grows q.1),
        q.2,
        variables-behind (λ v. q.0 v.at ≡ choice v.name) table a.added
            (variables-both (λ v. IsType (terms_in middle) v.at) (λ v. r.0 v.at ≡ choice v.name) (λ v. q.0 v.at ≡ choice v.name) (λ v t e. sym (q.1 v.at t.0) ∙ e) table c.is_table.types r.3)
            q.3,
      );
})
  where
    kept : IsTable new table
    kept = table-kept middle new table a.grows a.tails c.is_table

-- which uses stand before a bar --

same_use : (u : Use) (name : List ℕ) → u.before ≡ true → u.name ≡ name → use_of true name ≡ u
same_use u name eb en = sym (ap (λ n. record { name = n; before = u.before }) en ∙ ap (λ b. record { name = name; before = b }) eb)

-- by whether a first test holds
either : (a b : Bool) (P : Type 0) → (a ≡ true → P) → (b ≡ true → P) → (a || b) ≡ true → P
either true b P f g h = f refl
either false b P f g h = g h

both_true : (a b : Bool) → (a && b) ≡ true → (a ≡ true) × (b ≡ true)
both_true true b h = (refl, h)
both_true false b h = absurd (cc h)

before-member : (us : List Use) (name : List ℕ) → is_before us name ≡ true → Member (use_of true name) us
before-member [] name e = absurd (cc e)
before-member (u ∷ us) name e =
    either (u.before && bytes_eq u.name name) (is_before us name) (Member (use_of true name) (u ∷ us))
    (λ h. let k = both_true u.before (bytes_eq u.name name) h in inl (same_use u name k.0 (bytes_eq_same u.name name k.1)))
    (λ h. inr (before-member us name h)) e

member-before : (us : List Use) (u : Use) → Member u us → u.before ≡ true → is_before us u.name ≡ true
member-before [] u m e = absurd m
member-before (v ∷ us) u (inl same) e =
    let b : v.before ≡ true = ap (λ (w : Use). w.before) (sym same) ∙ e in
    let n : bytes_eq v.name u.name ≡ true = ap (λ (w : Use). bytes_eq v.name w.name) same ∙ bytes_eq_itself v.name in
    ap (λ x. (x && bytes_eq v.name u.name) || is_before us u.name) b ∙ ap (λ x. x || is_before us u.name) n
member-before (v ∷ us) u (inr m) e = or-right (v.before && bytes_eq v.name u.name) (is_before us u.name) (member-before us u m e)
  where
    or-right : (a b : Bool) → b ≡ true → (a || b) ≡ true
    or-right true b h = refl
    or-right false b h = h

pub member-at : (us : List Use) (i : ℕ) (d : Use) → i < length us → Member (get_or us i d) us
member-at [] i d lt = absurd (omega (arith, lt))
member-at (u ∷ us) zero d lt = inl refl
member-at (u ∷ us) (suc i) d lt = inr (member-at us i d (omega (arith, lt)))

pub used-by : (us : List Use) (u : Use) (v : Variable) → Member u us → v.name ≡ u.name → is_open v.tail ≡ is_before us u.name → IsUsed us v
used-by us u v m en et = look (is_before us u.name) refl
  where
    look : (b : Bool) → is_before us u.name ≡ b → Member (use_of (is_open v.tail) v.name) us
    look true e = subst (λ (w : Use). Member w us) (sym (ap (λ b. record { name = v.name; before = b }) (et ∙ e) ∙ ap (λ n. record { name = n; before = true }) en)) (before-member us u.name e)
    look false e =
        let not_before : u.before ≡ false = elim (decided u.before) as (λ _. u.before ≡ false) [ inl y ↦ absurd (false≢true (sym e ∙ member-before us u m y)) | inr n ↦ n ] in
        subst (λ (w : Use). Member w us) (sym (ap (λ b. record { name = v.name; before = b }) (et ∙ e ∙ sym not_before) ∙ ap (λ n. record { name = n; before = u.before }) en)) m

-- what is known --

known-knows : (vs : List Variable) (name : List ℕ) → is_known vs name ≡ true → Knows vs name
known-knows [] name e = absurd (cc e)
known-knows (v ∷ vs) name e =
    either (bytes_eq v.name name) (is_known vs name) (Knows (v ∷ vs) name) (λ h. inl (bytes_eq_same v.name name h)) (λ h. inr (known-knows vs name h)) e

pub knows-more : (vs : List Variable) (v : Variable) (name : List ℕ) → Knows vs name → Knows (vs ++ v ∷ []) name
knows-more [] v name k = absurd k
knows-more (u ∷ vs) v name (inl e) = inl e
knows-more (u ∷ vs) v name (inr k) = inr (knows-more vs v name k)

pub knows-last : (vs : List Variable) (v : Variable) (name : List ℕ) → v.name ≡ name → Knows (vs ++ v ∷ []) name
knows-last [] v name e = inl e
knows-last (u ∷ vs) v name e = inr (knows-last vs v name e)

-- the loop --

pub record Choosing (us seen : List Use) (old now : Asked) (table : List Variable) : Type 0 where
  pub chooses : Chooses old now table
  pub used : EachVariable (IsUsed us) table
  pub opens : EachVariable (λ v. is_open v.tail ≡ is_before us v.name) table
  pub known : EachUse (λ u. Knows table u.name) seen

pub choosing-first : (us : List Use) (asked : Asked) (table : List Variable) → table ≡ [] → Choosing us [] asked asked table
choosing-first us asked table e = subst (Choosing us [] asked asked) (sym e) (record { chooses = chooses-none asked; used = tt; opens = tt; known = tt })

seen-more : (us : List Use) (i : ℕ) (d : Use) → i < length us → take (i + 1) us ≡ take i us ++ get_or us i d ∷ []
seen-more us i d lt = ap (λ (k : ℕ). take k us) (add-one i) ∙ take-suc us i d lt

pub choosing-known : (us : List Use) (i : ℕ) (d : Use) (old now : Asked) (table : List Variable) → i < length us → is_known table (get_or us i d).name ≡ true → Choosing us (take i us) old now table →
    Choosing us (take (i + 1) us) old now table
choosing-known us i d old now table lt e c = record {
  chooses = c.chooses;
  used = c.used;
  opens = c.opens;
  known = subst (EachUse (λ u. Knows table u.name)) (sym (seen-more us i d lt))
      (uses-append (λ u. Knows table u.name) (take i us) (get_or us i d ∷ []) c.known (known-knows table (get_or us i d).name e, tt));
}

pub choosing-added : (us : List Use) (i : ℕ) (d : Use) (old now new : Asked) (table after : List Variable) (before : Bool) → i < length us → before ≡ is_before us (get_or us i d).name →
    Choosing us (take i us) old now table → AddsVariable now new (get_or us i d).name before table after → Choosing us (take (i + 1) us) old new after
choosing-added us i d old now new table after before lt eb c a = record {
  chooses = chooses-on old now new (get_or us i d).name before table after c.chooses a;
  used = subst (EachVariable (IsUsed us)) (sym a.behind)
      (variables-behind (IsUsed us) table a.added c.used (used-by us (get_or us i d) a.added (member-at us i d lt) a.name_is (a.tail_is ∙ eb)));
  opens = subst (EachVariable (λ v. is_open v.tail ≡ is_before us v.name)) (sym a.behind)
      (variables-behind (λ v. is_open v.tail ≡ is_before us v.name) table a.added c.opens (a.tail_is ∙ eb ∙ ap (is_before us) (sym a.name_is)));
  known = subst (EachUse (λ u. Knows after u.name)) (sym (seen-more us i d lt))
      (uses-append (λ u. Knows after u.name) (take i us) (get_or us i d ∷ [])
      (uses-map' (take i us) c.known)
      (subst (λ l. Knows l (get_or us i d).name) (sym a.behind) (knows-last table a.added (get_or us i d).name a.name_is), tt));
}
  where
    uses-map' : (ws : List Use) → EachUse (λ u. Knows table u.name) ws → EachUse (λ u. Knows after u.name) ws
    uses-map' [] h = tt
    uses-map' (w ∷ ws) h = (subst (λ l. Knows l w.name) (sym a.behind) (knows-more table a.added w.name h.0), uses-map' ws h.1)

pub choosing-serves : (us seen : List Use) (old now : Asked) (table : List Variable) → seen ≡ us → Choosing us seen old now table → Serves table us
choosing-serves us seen old now table e c = each us (λ u m. m) (subst (EachUse (λ u. Knows table u.name)) e c.known)
  where
    at : (u : Use) (b : Bool) → u.before ≡ b → Member u us → Knows table u.name → ServesAt table b u.name
    at u false eb m k = k
    at u true eb m k = (
      k,
      term-known (λ v. is_open v.tail ≡ is_before us v.name) (λ _ tail. is_open tail ≡ true) u.name
          (λ v en is. is ∙ ap (is_before us) en ∙ member-before us u m eb) table c.opens k,
    )

    each : (ws : List Use) → ((u : Use) → Member u ws → Member u us) → EachUse (λ u. Knows table u.name) ws → Serves table ws
    each [] f h = tt
    each (w ∷ ws) f h = (at w w.before refl (f w (inl refl)) h.0, each ws (λ u m. f u (inr m)) h.1)

-- a list of arguments that is empty
pub no_arguments : (old new : Asked) (name : List ℕ) (arguments : List ℕ) (at : ℕ) → arguments ≡ [] →
    Adds old new (λ chosen s type. IsWell chosen type × Fits ⊥ s type (shape.Named name arguments)) at → Adds old new (λ chosen s type. IsWell chosen type × Fits ⊥ s type (shape.Named name [])) at
no_arguments old new name arguments at e a = subst (λ (l : List ℕ). Adds old new (λ chosen s type. IsWell chosen type × Fits ⊥ s type (shape.Named name l)) at) e a

pub take_past : {A : Type 0} (xs : List A) (i : ℕ) → length xs ≤ i → take i xs ≡ xs
take_past [] zero le = refl
take_past [] (suc i) le = refl
take_past (x ∷ xs) zero le = absurd (omega (arith, le))
take_past (x ∷ xs) (suc i) le = ap (λ l. x ∷ l) (take_past xs i (omega (arith, le)))

pub item-known : (us : List Use) (i : ℕ) (u : Use) (old now now' : Asked) (table table' : List Variable) → i < length us → u ≡ get_or us i u → is_known table u.name ≡ true → now' ≡ now → table' ≡ table →
    Choosing us (take i us) old now table → Choosing us (take (i + 1) us) old now' table'
item-known us i u old now now' table table' lt is e en et c =
    subst (λ (n : Asked). Choosing us (take (i + 1) us) old n table') (sym en)
    (subst (Choosing us (take (i + 1) us) old now) (sym et)
    (choosing-known us i u old now table lt (subst (λ (v : Use). is_known table v.name ≡ true) is e) c))

pub item-added : (us : List Use) (i : ℕ) (u : Use) (old now new new' : Asked) (table after after' : List Variable) (before : Bool) → i < length us → u ≡ get_or us i u → before ≡ is_before us u.name → new' ≡ new → after' ≡ after →
    Choosing us (take i us) old now table → AddsVariable now new u.name before table after → Choosing us (take (i + 1) us) old new' after'
item-added us i u old now new new' table after after' before lt is eb en ea c a =
    subst (λ (n : Asked). Choosing us (take (i + 1) us) old n after') (sym en)
    (subst (Choosing us (take (i + 1) us) old new) (sym ea)
    (choosing-added us i u old now new table after before lt (subst (λ (v : Use). before ≡ is_before us v.name) is eb) c (subst (λ (v : Use). AddsVariable now new v.name before table after) is a)))
