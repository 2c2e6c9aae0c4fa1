-- Terms of instances, form by form.
use Rattle.std.proofs.Common.{◌≡◌, ℕ, ◌<◌, ◌+◌, true, Option, Some, None, List, [], ◌∷◌, ◌++◌, length, get_or, take, map, refl, sym, ◌∙◌, ap, subst, add-one}
use Rattle.std.proofs.Math.Seq.{take-suc}
use Rattle.elm_base.specs.declared.tree.Spot.{Spot}
use Rattle.elm_base.specs.declared.tree.TypeTree.{TypeTree}
use Rattle.elm_typing.specs.Ground.{Ground, Grounds, Row, Record, Function, Named as NamedGround, Tuple as TupleGround, NoGrounds, AndGround}
use Rattle.elm_typing.specs.Ordered.{AllInOrder, RowInOrder}
use Rattle.elm_typing.specs.Rows.{extended, extended_all}
use Rattle.elm_typing.specs.Sorts.{Sort, AreSimple, HasSimpleFields}
use Rattle.elm_typing.proofs.RowMaps.{extended-in_order}
use Rattle.typing_rules.specs.WrittenTypes.{Written, Writtens, Variable, Named, Arrow, Tuple, Fields, NoWrittens, Choice, instance_at, instances_at, fields_at, rest_at, row_of}
use Rattle.typing_rules.specs.Library.{writtens}
use Rattle.type_sense.specs.WrittenOf.{name_before, written_fields, written_of}
use Rattle.type_terms.specs.Solutions.{Assignment, Fits, types_of, fields_of}
use Rattle.type_terms.specs.declared.shape.Shape.TheVariants as shape
use Rattle.type_terms.specs.Terms.{Each, terms_of}
use Rattle.type_unify.specs.declared.rows.Tail.{Tail}
use Rattle.type_unify.specs.Rests.{IsType}
use Rattle.type_unify.specs.Steps.{IsTail, under}
use Rattle.type_unify.specs.Taken.{Agree}
use Rattle.well_sorted.proofs.Sorting.{field-apart}
use Rattle.type_conditions.specs.Conditions.{Asked, terms_in, Satisfies}
use Rattle.type_conditions.specs.Judging.{Adds, HasFields, IsWell, KeepsTails}
use Rattle.type_conditions.proofs.Composing.{grows-itself, grows-on, agree-less, agree-on}
use Rattle.type_instances.specs.declared.table.Variable.{Variable as TableVariable}
use Rattle.type_instances.specs.Uses.{uses}
use Rattle.type_instances.specs.Tables.{choice_of, term_of, tail_of, tail_before, is_open, Knows, Stands, IsTable, IsRowWhere}
use Rattle.type_instances.specs.Building.{instance_in, instances_in, Builds, BuildsAll, BuildsFields, EachWell, trees_in, labels_in, labels_of}
use Rattle.type_instances.proofs.Choices.{same-instance, uses-all, SameAt}
use Rattle.type_instances.proofs.Sizes.{ServesBefore, typed}
use Rattle.type_instances.proofs.Standing.{term-known, choice-known, tail-known, choice-agrees}

-- an instance sees the types of old terms alone
pub instance-agrees : (asked : Asked) (table : List TableVariable) (s r : Assignment) (w : Written) → IsTable asked table → Agree (length (terms_in asked)) s r → instance_in table s w ≡ instance_in table r w
instance-agrees asked table s r w t agree =
    same-instance (choice_of table s) (choice_of table r) w
    (uses-all (SameAt (choice_of table s) (choice_of table r)) (λ u. choice-agrees (terms_in asked) table s r agree t.types u.name) (uses w))

instances-agree : (asked : Asked) (table : List TableVariable) (s r : Assignment) (trees : List TypeTree) → IsTable asked table → Agree (length (terms_in asked)) s r → instances_in table s trees ≡ instances_in table r trees
instances-agree asked table s r [] t agree = refl
instances-agree asked table s r (x ∷ xs) t agree =
    let a = instance-agrees asked table s r (written_of x) t agree in let b = instances-agree asked table s r xs t agree in cc (a, b)

-- a variable --

pub builds-variable : (asked : Asked) (table : List TableVariable) (name : List ℕ) → IsTable asked table → Knows table name → Builds table asked asked (Variable name) (term_of table name)
builds-variable asked table name t k = record {
  grows = grows-itself asked;
  tails = λ tail h. h;
  is = λ chosen s h. (
    term-known (Stands chosen s) (λ at tail. IsWell chosen (s at)) name (λ v e st. st.well) table (t.stand chosen s h) k,
    sym (choice-known table s name k),
  );
  complete = λ chosen s h well. (s, λ i lt. refl, h);
  is_type = term-known (λ v. IsType (terms_in asked) v.at) (λ at tail. IsType (terms_in asked) at) name (λ v e is. is) table t.types k;
}

-- a function --

pub builds-arrow : (a b c d : Asked) (table : List TableVariable) (from to : Written) (f g at : ℕ) → IsTable a table → Builds table a b from f → Builds table b c to g →
    Adds c d (λ chosen s type. IsWell chosen type × Fits ⊥ s type (shape.Arrow f g)) at → KeepsTails c d → Builds table a d (Arrow from to) at
builds-arrow a b c d table from to f g at t x y z tails = record {
  grows = grows-on a c d (grows-on a b c x.grows y.grows) z.grows;
  tails = λ tail h. tails tail (y.tails tail (x.tails tail h));
  is = λ chosen s h.
      let k = z.has chosen s h in
      let p = x.is chosen s (y.grows.sound chosen s (z.grows.sound chosen s h)) in
      let q = y.is chosen s (z.grows.sound chosen s h) in
      (k.0, k.1 ∙ ap (λ u. Function u (s g)) p.1 ∙ ap (Function (instance_in table s from)) q.1);
  complete = λ chosen s h well.
      let r = x.complete chosen s h (record { sorted = well.sorted.0; ordered = well.ordered.0 }) in
      let e = instance-agrees a table s r.0 to t r.1 in
      let q = y.complete chosen r.0 r.2 (subst (IsWell chosen) e (record { sorted = well.sorted.1; ordered = well.ordered.1 })) in
      let w = agree-on (length (terms_in a)) s r.0 q.0 r.1 (agree-less a b r.0 q.0 x.grows q.1) in
      let is = whole chosen s q.0 w q.2 in
      let v = z.complete chosen q.0 (Function (q.0 f) (q.0 g)) q.2 (subst (IsWell chosen) is well, refl) in
      (v.0, agree-on (length (terms_in a)) s q.0 v.0 w (agree-less a c q.0 v.0 (grows-on a b c x.grows y.grows) v.1), v.2);
  is_type = z.is_type;
}
  where
    whole : (chosen : ℕ → Sort) (s q : Assignment) → Agree (length (terms_in a)) s q → Satisfies c chosen q → Function (instance_in table s from) (instance_in table s to) ≡ Function (q f) (q g)
    whole chosen s q agree h =
        let p = x.is chosen q (y.grows.sound chosen q h) in
        let k = y.is chosen q h in
        let e = instance-agrees a table s q from t agree in
        let i = instance-agrees a table s q to t agree in
        ap (λ u. Function u (instance_in table s to)) (e ∙ sym p.1) ∙ ap (Function (q f)) (i ∙ sym k.1)

-- several types --

grounds : List Ground → Grounds
grounds [] = NoGrounds
grounds (t ∷ ts) = AndGround t (grounds ts)

types-listed : (s : Assignment) (ks : List ℕ) → types_of s ks ≡ grounds (map s ks)
unfolding grounds
types-listed s [] = refl
types-listed s (k ∷ ks) = ap (AndGround (s k)) (types-listed s ks)

instances-listed : (c : Choice) (xs : List TypeTree) → instances_at c (writtens (map written_of xs)) ≡ grounds (map (λ x. instance_at c (written_of x)) xs)
unfolding grounds
instances-listed c [] = refl
instances-listed c (x ∷ xs) = ap (AndGround (instance_at c (written_of x))) (instances-listed c xs)

each-well : (chosen : ℕ → Sort) (ts : List Ground) → AreSimple chosen (grounds ts) → AllInOrder (grounds ts) → EachWell chosen ts
unfolding grounds
each-well chosen [] h o = tt
each-well chosen (t ∷ ts) h o = (record { sorted = h.0; ordered = o.0 }, each-well chosen ts h.2 o.1)

same-types : (table : List TableVariable) (s : Assignment) (trees : List TypeTree) (terms : List ℕ) → map s terms ≡ instances_in table s trees →
    types_of s terms ≡ instances_at (choice_of table s) (writtens (map written_of trees))
same-types table s trees terms e = types-listed s terms ∙ ap grounds e ∙ sym (instances-listed (choice_of table s) trees)

-- what is made of several, by a constructor of types
record Makes (make : Grounds → Ground) : Type 0 where
  parts : (chosen : ℕ → Sort) (ts : Grounds) → IsWell chosen (make ts) → AreSimple chosen ts × AllInOrder ts

builds-whole : (a b c : Asked) (table : List TableVariable) (trees : List TypeTree) (terms : List ℕ) (at : ℕ) (make : Grounds → Ground) (written : Writtens → Written) →
    Makes make → ((choice : Choice) (ws : Writtens) → instance_at choice (written ws) ≡ make (instances_at choice ws)) →
    IsTable a table → BuildsAll table a b trees terms → Adds b c (λ chosen s type. IsWell chosen type × (type ≡ make (types_of s terms))) at → KeepsTails b c →
    Builds table a c (written (writtens (map written_of trees))) at
builds-whole a b c table trees terms at make written makes instance t x z tails = record {
  grows = grows-on a b c x.grows z.grows;
  tails = λ tail h. tails tail (x.tails tail h);
  is = λ chosen s h.
      let k = z.has chosen s h in
      (k.0, k.1 ∙ ap make (same-types table s trees terms (x.is chosen s (z.grows.sound chosen s h))) ∙ sym (instance (choice_of table s) (writtens (map written_of trees))));
  complete = λ chosen s h well.
      let w : IsWell chosen (make (instances_at (choice_of table s) (writtens (map written_of trees)))) = subst (IsWell chosen) (instance (choice_of table s) (writtens (map written_of trees))) well in
      let p = makes.parts chosen (instances_at (choice_of table s) (writtens (map written_of trees))) w in
      let r = x.complete chosen s h (each-well chosen (instances_in table s trees)
      (subst (AreSimple chosen) (instances-listed (choice_of table s) trees) p.0) (subst AllInOrder (instances-listed (choice_of table s) trees) p.1)) in
      let is : make (instances_at (choice_of table s) (writtens (map written_of trees))) ≡ make (types_of r.0 terms) =
      ap make (instances-listed (choice_of table s) trees ∙ ap grounds (instances-agree a table s r.0 trees t r.1) ∙ sym (ap grounds (x.is chosen r.0 r.2)) ∙ sym (types-listed r.0 terms)) in
      let v = z.complete chosen r.0 (make (types_of r.0 terms)) r.2 (subst (IsWell chosen) is w, refl) in
      (v.0, agree-on (length (terms_in a)) s r.0 v.0 r.1 (agree-less a b r.0 v.0 x.grows v.1), v.2);
  is_type = z.is_type;
}

pub builds-named : (a b c : Asked) (table : List TableVariable) (name copied : List ℕ) (trees : List TypeTree) (terms : List ℕ) (at : ℕ) → copied ≡ name →
    IsTable a table → BuildsAll table a b trees terms → Adds b c (λ chosen s type. IsWell chosen type × Fits ⊥ s type (shape.Named copied terms)) at → KeepsTails b c →
    Builds table a c (Named name (writtens (map written_of trees))) at
builds-named a b c table name copied trees terms at e t x z tails =
    builds-whole a b c table trees terms at (NamedGround name) (Named name) (record { parts = λ chosen ts w. (w.sorted, w.ordered) }) (λ choice ws. refl) t x
    (subst (λ (n : List ℕ). Adds b c (λ chosen s type. IsWell chosen type × (type ≡ NamedGround n (types_of s terms))) at) e z) tails

pub builds-tuple : (a b c : Asked) (table : List TableVariable) (trees : List TypeTree) (terms : List ℕ) (at : ℕ) →
    IsTable a table → BuildsAll table a b trees terms → Adds b c (λ chosen s type. IsWell chosen type × Fits ⊥ s type (shape.Tuple terms)) at → KeepsTails b c →
    Builds table a c (Tuple (writtens (map written_of trees))) at
builds-tuple a b c table trees terms at t x z tails =
    builds-whole a b c table trees terms at TupleGround Tuple (record { parts = λ chosen ts w. (w.sorted, w.ordered) }) (λ choice ws. refl) t x z tails

pub builds-unit : (a b : Asked) (table : List TableVariable) (terms : List ℕ) (at : ℕ) → IsTable a table → terms ≡ [] → Adds a b (λ chosen s type. IsWell chosen type × Fits ⊥ s type (shape.Tuple terms)) at → KeepsTails a b →
    Builds table a b (Tuple NoWrittens) at
builds-unit a b table terms at t none z tails =
    builds-tuple a a b table [] terms at t (subst (BuildsAll table a a []) (sym none) (record { grows = grows-itself a; tails = λ tail h. h; is = λ chosen s h. refl; complete = λ chosen s h w. (s, λ i lt. refl, h); are_types = tt })) z tails

-- lists --

pub all-first : (a : Asked) (table : List TableVariable) (terms : List ℕ) → terms ≡ [] → BuildsAll table a a [] terms
all-first a table terms e = subst (BuildsAll table a a []) (sym e) (record { grows = grows-itself a; tails = λ tail h. h; is = λ chosen s h. refl; complete = λ chosen s h w. (s, λ i lt. refl, h); are_types = tt })

map-behind : {A B : Type 0} (f : A → B) (xs : List A) (x : A) → map f (xs ++ x ∷ []) ≡ map f xs ++ f x ∷ []
map-behind f [] x = refl
map-behind f (y ∷ xs) x = ap (λ l. f y ∷ l) (map-behind f xs x)

well-front : (chosen : ℕ → Sort) (ts : List Ground) (t : Ground) → EachWell chosen (ts ++ t ∷ []) → EachWell chosen ts × IsWell chosen t
well-front chosen [] t h = (tt, h.0)
well-front chosen (u ∷ ts) t h = let r = well-front chosen ts t h.1 in ((h.0, r.0), r.1)

each-behind : (P : ℕ → Type 0) (ks : List ℕ) (k : ℕ) → Each P ks → P k → Each P (ks ++ k ∷ [])
each-behind P [] k h p = (p, tt)
each-behind P (j ∷ ks) k h p = (h.0, each-behind P ks k h.1 p)

each-kept : (P Q : ℕ → Type 0) → ((k : ℕ) → P k → Q k) → (ks : List ℕ) → Each P ks → Each Q ks
each-kept P Q f [] h = tt
each-kept P Q f (k ∷ ks) h = (f k h.0, each-kept P Q f ks h.1)

pub all-behind : (a b c : Asked) (table : List TableVariable) (trees : List TypeTree) (tree : TypeTree) (terms : List ℕ) (at : ℕ) → IsTable a table → BuildsAll table a b trees terms → Builds table b c (written_of tree) at →
    BuildsAll table a c (trees ++ tree ∷ []) (terms ++ at ∷ [])
all-behind a b c table trees tree terms at t x y = record {
  grows = grows-on a b c x.grows y.grows;
  tails = λ tail h. y.tails tail (x.tails tail h);
  is = λ chosen s h.
      let p = x.is chosen s (y.grows.sound chosen s h) in
      let q = (y.is chosen s h).1 in
      map-behind s terms at ∙ ap (λ l. l ++ s at ∷ []) p ∙ ap (λ (u : Ground). instances_in table s trees ++ u ∷ []) q ∙ sym (map-behind (λ x. instance_in table s (written_of x)) trees tree);
  complete = λ chosen s h well.
      let w = well-front chosen (instances_in table s trees) (instance_in table s (written_of tree)) (subst (EachWell chosen) (map-behind (λ x. instance_in table s (written_of x)) trees tree) well) in
      let r = x.complete chosen s h w.0 in
      let q = y.complete chosen r.0 r.2 (subst (IsWell chosen) (instance-agrees a table s r.0 (written_of tree) t r.1) w.1) in
      (q.0, agree-on (length (terms_in a)) s r.0 q.0 r.1 (agree-less a b r.0 q.0 x.grows q.1), q.2);
  are_types = each-behind (IsType (terms_in c)) terms at (each-kept (IsType (terms_in b)) (IsType (terms_in c)) y.grows.types terms x.are_types) y.is_type;
}

take-more : {A : Type 0} (xs : List A) (i : ℕ) (d : A) → i < length xs → take (i + 1) xs ≡ take i xs ++ get_or xs i d ∷ []
take-more xs i d lt = ap (λ (k : ℕ). take k xs) (add-one i) ∙ take-suc xs i d lt

pub all-on : (a b c : Asked) (table : List TableVariable) (trees : List TypeTree) (i : ℕ) (d : TypeTree) (terms after : List ℕ) (at : ℕ) → i < length trees → IsTable a table → BuildsAll table a b (take i trees) terms →
    Builds table b c (written_of (get_or trees i d)) at → after ≡ terms ++ at ∷ [] → BuildsAll table a c (take (i + 1) trees) after
all-on a b c table trees i d terms after at lt t x y e =
    subst (BuildsAll table a c (take (i + 1) trees)) (sym e)
    (subst (λ l. BuildsAll table a c l (terms ++ at ∷ [])) (sym (take-more trees i d lt)) (all-behind a b c table (take i trees) (get_or trees i d) terms at t x y))

-- records --

terms-behind : (fs : List (List ℕ × ℕ)) (f : List ℕ × ℕ) → terms_of (fs ++ f ∷ []) ≡ terms_of fs ++ f.1 ∷ []
terms-behind [] f = refl
terms-behind (g ∷ fs) f = ap (λ l. g.1 ∷ l) (terms-behind fs f)

pub fields-first : (a : Asked) (table : List TableVariable) (fields : List (List ℕ × ℕ)) → fields ≡ [] → BuildsFields table a a [] fields
fields-first a table fields e = subst (BuildsFields table a a []) (sym e) (record { terms = all-first a table [] refl; labels = refl })

pub fields-on : (a b c : Asked) (table : List TableVariable) (written : List (Spot × TypeTree)) (i : ℕ) (d : Spot × TypeTree) (fields after : List (List ℕ × ℕ)) (label : List ℕ) (at : ℕ) → i < length written → IsTable a table →
    BuildsFields table a b (take i written) fields → label ≡ (get_or written i d).0.name → Builds table b c (written_of (get_or written i d).1) at → after ≡ fields ++ (label, at) ∷ [] → BuildsFields table a c (take (i + 1) written) after
fields-on a b c table written i d fields after label at lt t x el y e =
    subst (BuildsFields table a c (take (i + 1) written)) (sym e)
    (subst (λ l. BuildsFields table a c l (fields ++ (label, at) ∷ [])) (sym (take-more written i d lt)) (record {
      terms = subst (λ l. BuildsAll table a c l (terms_of (fields ++ (label, at) ∷ []))) (sym (map-behind (λ (f : Spot × TypeTree). f.1) (take i written) (get_or written i d)))
          (subst (BuildsAll table a c (trees_in (take i written) ++ (get_or written i d).1 ∷ [])) (sym (terms-behind fields (label, at)))
          (all-behind a b c table (trees_in (take i written)) (get_or written i d).1 (terms_of fields) at t x.terms y));
      labels = map-behind (λ (f : List ℕ × ℕ). f.0) fields (label, at) ∙ ap (λ l. l ++ label ∷ []) x.labels ∙ ap (λ (n : List ℕ). labels_in (take i written) ++ n ∷ []) el
          ∙ sym (map-behind (λ (f : Spot × TypeTree). f.0.name) (take i written) (get_or written i d));
    }))

-- each label with its instance
paired : Choice → List (Spot × TypeTree) → List (List ℕ × Ground)
paired c fs = map (λ (f : Spot × TypeTree). (f.0.name, instance_at c (written_of f.1))) fs

fields-paired : (c : Choice) (fs : List (Spot × TypeTree)) (row : Row) → fields_at c (written_fields (typed fs)) row ≡ extended_all (paired c fs) row
unfolding paired
fields-paired c [] row = refl
fields-paired c (f ∷ fs) row = ap (extended f.0.name (instance_at c (written_of f.1))) (fields-paired c fs row)

pairs-same : (table : List TableVariable) (s : Assignment) (fs : List (Spot × TypeTree)) (gs : List (List ℕ × ℕ)) → labels_of gs ≡ labels_in fs → map s (terms_of gs) ≡ instances_in table s (trees_in fs) →
    fields_of s gs ≡ paired (choice_of table s) fs
unfolding paired
pairs-same table s [] [] el et = refl
pairs-same table s [] (g ∷ gs) el et = cc el
pairs-same table s (f ∷ fs) [] el et = cc el
pairs-same table s (f ∷ fs) (g ∷ gs) el et =
    let a : g.0 ≡ f.0.name = cc el in
    let b : s g.1 ≡ instance_in table s (written_of f.1) = cc et in
    let m : labels_of gs ≡ labels_in fs = cc el in
    let n : map s (terms_of gs) ≡ instances_in table s (trees_in fs) = cc et in
    let rest = pairs-same table s fs gs m n in
    ap (λ (l : List ℕ). (l, s g.1) ∷ fields_of s gs) a ∙ ap (λ (u : Ground). (f.0.name, u) ∷ fields_of s gs) b ∙ ap (λ l. (f.0.name, instance_in table s (written_of f.1)) ∷ l) rest

pairs-well : (chosen : ℕ → Sort) (c : Choice) (fs : List (Spot × TypeTree)) (row : Row) → HasSimpleFields chosen (extended_all (paired c fs) row) → RowInOrder (extended_all (paired c fs) row) →
    EachWell chosen (map (λ x. instance_at c (written_of x)) (trees_in fs))
unfolding paired
pairs-well chosen c [] row h o = tt
pairs-well chosen c (f ∷ fs) row h o =
    let a = field-apart chosen f.0.name (instance_at c (written_of f.1)) (extended_all (paired c fs) row) h in
    let b = extended-in_order f.0.name (instance_at c (written_of f.1)) (extended_all (paired c fs) row) o in
    (record { sorted = a.0; ordered = b.0 }, pairs-well chosen c fs row a.2 b.1)

-- the row before a bar
row-is : (t : Ground) (row : Row) → t ≡ Record row → row_of t ≡ row
row-is t row e = ap row_of e

rest-is : (asked : Asked) (table : List TableVariable) (before : Option (List ℕ)) (chosen : ℕ → Sort) (s : Assignment) → IsTable asked table → ServesBefore table before → Satisfies asked chosen s →
    rest_at (choice_of table s) before ≡ under s (tail_before table before)
rest-is asked table None chosen s t serves h = refl
rest-is asked table (Some name) chosen s t serves h =
    ap row_of (choice-known table s name serves.0)
    ∙ row-is (s (term_of table name)) (under s (tail_of table name))
    (term-known (Stands chosen s) (λ at tail. is_open tail ≡ true → s at ≡ Record (under s tail)) name (λ v e st o. subst (λ b. IsRowWhere b s v.tail v.at) o st.row) table (t.stand chosen s h) serves.0 serves.1)

pub builds-record : (a b c : Asked) (table : List TableVariable) (before : Option Spot) (written : List (Spot × TypeTree)) (fields : List (List ℕ × ℕ)) (tail : Tail) (at : ℕ) → tail ≡ tail_before table (name_before before) →
    ServesBefore table (name_before before) → IsTable a table → BuildsFields table a b written fields → Adds b c (HasFields fields tail) at → KeepsTails b c →
    Builds table a c (Fields (name_before before) (written_fields (typed written))) at
builds-record a b c table before written fields tail at et serves t x z tails = record {
  grows = grows-on a b c x.terms.grows z.grows;
  tails = λ tail h. tails tail (x.terms.tails tail h);
  is = λ chosen s h.
      let k = z.has chosen s h in
      let g = z.grows.sound chosen s h in
      (k.0, k.1 ∙ sym (whole chosen s g));
  complete = λ chosen s h well.
      let e = ap Record (fields-paired (choice_of table s) written (rest_at (choice_of table s) (name_before before))) in
      let w = subst (IsWell chosen) e well in
      let r = x.terms.complete chosen s h (pairs-well chosen (choice_of table s) written (rest_at (choice_of table s) (name_before before)) w.sorted w.ordered) in
      let i = instance-agrees a table s r.0 (Fields (name_before before) (written_fields (typed written))) t r.1 in
      let v = z.complete chosen r.0 (Record (extended_all (fields_of r.0 fields) (under r.0 tail))) r.2 (subst (IsWell chosen) (i ∙ whole chosen r.0 r.2) well, refl) in
      (v.0, agree-on (length (terms_in a)) s r.0 v.0 r.1 (agree-less a b r.0 v.0 x.terms.grows v.1), v.2);
  is_type = z.is_type;
}
  where
    whole : (chosen : ℕ → Sort) (s : Assignment) → Satisfies b chosen s → instance_in table s (Fields (name_before before) (written_fields (typed written))) ≡ Record (extended_all (fields_of s fields) (under s tail))
    whole chosen s h =
        ap Record (
        fields-paired (choice_of table s) written (rest_at (choice_of table s) (name_before before))
        ∙ ap (extended_all (paired (choice_of table s) written)) (rest-is a table (name_before before) chosen s t serves (x.terms.grows.sound chosen s h) ∙ ap (under s) (sym et))
        ∙ ap (λ l. extended_all l (under s tail)) (sym (pairs-same table s written fields x.labels (x.terms.is chosen s h)))
        )

-- the tail of a variable is one still
pub tail-still : (a b : Asked) (table : List TableVariable) (before : Option (List ℕ)) (tail : Tail) → tail ≡ tail_before table before → IsTable a table → KeepsTails a b → IsTail (terms_in b) tail
tail-still a b table None tail e t keeps = subst (IsTail (terms_in b)) (sym e) tt
tail-still a b table (Some name) tail e t keeps = subst (IsTail (terms_in b)) (sym e) (keeps (tail_of table name) (tail-known (terms_in a) table name t.tails))

-- by an item of a loop --

pub all-item : (a b c : Asked) (table : List TableVariable) (trees : List TypeTree) (i : ℕ) (item : TypeTree) (terms after : List ℕ) (at : ℕ) → i < length trees → item ≡ get_or trees i item → IsTable a table →
    BuildsAll table a b (take i trees) terms → Builds table b c (written_of item) at → after ≡ terms ++ at ∷ [] → BuildsAll table a c (take (i + 1) trees) after
all-item a b c table trees i item terms after at lt is t x y e =
    all-on a b c table trees i item terms after at lt t x (subst (λ (v : TypeTree). Builds table b c (written_of v) at) is y) e

pub field-item : (a b c : Asked) (table : List TableVariable) (written : List (Spot × TypeTree)) (i : ℕ) (item : Spot × TypeTree) (fields after : List (List ℕ × ℕ)) (label : List ℕ) (at : ℕ) → i < length written → item ≡ get_or written i item → IsTable a table →
    BuildsFields table a b (take i written) fields → label ≡ item.0.name → Builds table b c (written_of item.1) at → after ≡ fields ++ (label, at) ∷ [] → BuildsFields table a c (take (i + 1) written) after
field-item a b c table written i item fields after label at lt is t x el y e =
    fields-on a b c table written i item fields after label at lt t x (el ∙ ap (λ (v : Spot × TypeTree). v.0.name) is) (subst (λ (v : Spot × TypeTree). Builds table b c (written_of v.1) at) is y) e
