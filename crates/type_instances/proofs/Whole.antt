-- From a table of variables and a term to the instances of a written type.
use Rattle.std.proofs.Common.{◌≡◌, ℕ, Bool, true, false, List, [], ◌∷◌, length, refl, sym, ◌∙◌, subst, inl, inr}
use Rattle.elm_typing.specs.Ground.{Ground, Record}
use Rattle.elm_typing.specs.Sorts.{Sort}
use Rattle.typing_rules.specs.WrittenTypes.{Written, Choice, Allows, IsRecord, IsInstance, instance_at}
use Rattle.written_sorts.specs.Sorting.{bars_hold}
use Rattle.type_sorts.specs.Vertices.{Member}
use Rattle.type_terms.specs.Solutions.{Assignment}
use Rattle.type_unify.specs.Steps.{under}
use Rattle.type_conditions.specs.Conditions.{Asked, terms_in}
use Rattle.type_conditions.specs.Judging.{Adds, IsWell}
use Rattle.type_conditions.proofs.Composing.{grows-on, agree-less, agree-on}
use Rattle.type_instances.specs.declared.uses.Use.{Use}
use Rattle.type_instances.specs.declared.table.Variable.{Variable}
use Rattle.type_instances.specs.Uses.{uses, use_of, EachUse, AllowsAt, AllowsUse}
use Rattle.type_instances.specs.Tables.{choice_of, term_of, tail_of, is_open, Knows, Serves, ServesAt, EachVariable, Stands, IsUsed, IsRowWhere, AllowsTail}
use Rattle.type_instances.specs.Building.{instance_in, Builds, Chooses}
use Rattle.type_instances.proofs.Choices.{same-instance, SameAt, respects-uses, uses-respect, well-uses, WellAt, free-uses, IsFreeBefore, free-allows, uses-map}
use Rattle.type_instances.proofs.Standing.{variables-map, variables-both, term-known, choice-known, choice-is}
use Rattle.type_instances.proofs.Terms.{instance-agrees}

each-member : (P : Use → Type 0) (us : List Use) (u : Use) → EachUse P us → Member u us → P u
each-member P [] u h m = absurd m
each-member P (v ∷ us) u h (inl e) = subst P (sym e) h.0
each-member P (v ∷ us) u h (inr m) = each-member P us u h.1 m

serves-knows : (table : List Variable) (b : Bool) (name : List ℕ) → ServesAt table b name → Knows table name
serves-knows table false name h = h
serves-knows table true name h = h.0

record-has : (t u : Ground) → t ≡ u → IsRecord u → IsRecord t
record-has t u e h = subst IsRecord (sym e) h

-- a variable that stands alone
alone : (w : Written) (chosen : ℕ → Sort) (s : Assignment) (v : Variable) (name : List ℕ) → bars_hold w ≡ true → v.name ≡ name → Stands chosen s v → IsUsed (uses w) v → Allows name (s v.at)
alone w chosen s v name bars en st used = look (is_open v.tail) refl
  where
    look : (b : Bool) → is_open v.tail ≡ b → Allows name (s v.at)
    look false e = subst (λ n. Allows n (s v.at)) en (subst (λ b. AllowsAt b v.name (s v.at)) e st.allowed)
    look true e =
        let m = subst (λ b. Member (use_of b v.name) (uses w)) e used in
        let free = each-member IsFreeBefore (uses w) (use_of true v.name) (free-uses w bars) m refl in
        subst (λ n. Allows n (s v.at)) en (free-allows v.name (s v.at) free)

-- a variable before a bar
row-known : (chosen : ℕ → Sort) (s : Assignment) (table : List Variable) (name : List ℕ) → EachVariable (Stands chosen s) table → Knows table name → is_open (tail_of table name) ≡ true →
    s (term_of table name) ≡ Record (under s (tail_of table name))
row-known chosen s table name stand k opens =
    term-known (Stands chosen s) (λ at tail. is_open tail ≡ true → s at ≡ Record (under s tail)) name (λ v e st o. subst (λ b. IsRowWhere b s v.tail v.at) o st.row) table stand k opens

use-allowed : (w : Written) (chosen : ℕ → Sort) (s : Assignment) (table : List Variable) (b : Bool) (name : List ℕ) → bars_hold w ≡ true → EachVariable (Stands chosen s) table → EachVariable (IsUsed (uses w)) table →
    ServesAt table b name → AllowsAt b name (choice_of table s name)
use-allowed w chosen s table false name bars stand used k =
    subst (Allows name) (sym (choice-known table s name k))
    (term-known (λ v. Stands chosen s v × IsUsed (uses w) v) (λ at tail. Allows name (s at)) name (λ v e p. alone w chosen s v name bars e p.0 p.1) table
    (variables-both (Stands chosen s) (IsUsed (uses w)) (λ v. Stands chosen s v × IsUsed (uses w) v) (λ v p q. (p, q)) table stand used) k)
use-allowed w chosen s table true name bars stand used k =
    record-has (choice_of table s name) (Record (under s (tail_of table name))) (choice-known table s name k.0 ∙ row-known chosen s table name stand k.0 k.1) tt

pub instance-added : (a b c : Asked) (table : List Variable) (w : Written) (at : ℕ) → bars_hold w ≡ true → Chooses a b table → Serves table (uses w) → EachVariable (IsUsed (uses w)) table → Builds table b c w at →
    Adds a c (λ chosen s type. IsWell chosen type × IsInstance w type) at
instance-added a b c table w at bars ch serves used bd = record {
  grows = grows-on a b c ch.grows bd.grows;
  has = λ chosen s h.
      let k = bd.is chosen s h in
      let stand = ch.is_table.stand chosen s (bd.grows.sound chosen s h) in (
        k.0,
        (
          choice_of table s,
          uses-respect (choice_of table s) w
              (uses-map (λ u. ServesAt table u.before u.name) (AllowsUse (choice_of table s)) (λ u sv. use-allowed w chosen s table u.before u.name bars stand used sv) (uses w) serves),
          k.1,
        ),
      );
  complete = λ chosen s type h p.
      let choice : Choice = p.1.0 in
      let e : type ≡ instance_at choice w = p.1.2 in
      let well = subst (IsWell chosen) e p.0 in
      let allowed = respects-uses choice w p.1.1 in
      let wells = well-uses chosen choice w p.1.1 well.sorted well.ordered in
      let r = ch.complete chosen s choice h
      (variables-map (IsUsed (uses w)) (λ v. IsWell chosen (choice v.name) × AllowsTail v.tail v.name (choice v.name))
      (λ v m. (each-member (WellAt chosen choice) (uses w) (use_of (is_open v.tail) v.name) wells m, each-member (AllowsUse choice) (uses w) (use_of (is_open v.tail) v.name) allowed m)) table used) in
      let same : instance_in table r.0 w ≡ instance_at choice w =
      same-instance (choice_of table r.0) choice w
      (uses-map (λ u. ServesAt table u.before u.name) (SameAt (choice_of table r.0) choice) (λ u sv. choice-is table r.0 choice r.3 u.name (serves-knows table u.before u.name sv)) (uses w) serves) in
      let q = bd.complete chosen r.0 r.2 (subst (IsWell chosen) (sym same) well) in (
        q.0,
        agree-on (length (terms_in a)) s r.0 q.0 r.1 (agree-less a b r.0 q.0 ch.grows q.1),
        q.2,
        (bd.is chosen q.0 q.2).1 ∙ sym (instance-agrees b table r.0 q.0 w ch.is_table q.1) ∙ same ∙ sym e,
      );
  is_type = bd.is_type;
}
