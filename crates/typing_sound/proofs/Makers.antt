-- The types of the makers of tuples and of aliases.
use Rattle.std.proofs.Common.{◌≡◌, ℕ, zero, suc, ◌<◌, ◌==◌, Bool, true, false, None, List, [], ◌∷◌, refl, sym, ap, ap₂, ◌∙◌, subst, arith}
use Rattle.std.proofs.lemmas.Bool.{eqb-true, eq-eqb}
use Rattle.elm_base.specs.declared.token.At.{At}
use Rattle.elm_typing.specs.Ground.{Ground, Grounds, Row, Record, NoGrounds, AndGround, Ends}
use Rattle.elm_typing.proofs.RowAlgebra.{extended-injective}
use Rattle.typing_rules.specs.Unions.{arrows, count_of}
use Rattle.typing_rules.specs.WrittenTypes.{Written, WrittenFields, Fields, NoWrittenFields, AndWrittenField, Choice, instance_at, fields_at, Respects, FieldsRespect, IsInstance}
use Rattle.typing_rules.specs.Worlds.{Surroundings, exactly, Either, with_name, Bound, with_bound, World, IsProper}
use Rattle.typing_rules.specs.Core.{Core, Held, Fields as RecordOf}
use Rattle.typing_rules.specs.CoreTypes.{CoreHas, AllCoresHave, CoreFieldsOver}
use Rattle.plain_form.specs.Naming.{Naming, Maker}
use Rattle.plain_form.specs.PlainForm.{lambdas, binders, parameters, labelled, count, made_by}
use Rattle.typing_sound.specs.Rewritings.{tuple_maker, OwnNumbersDiffer, takes_fields, labels_in, MakesRecord}
use Rattle.typing_sound.proofs.Rewritten.{argument_proper, result_proper}

-- ---- a name among others

into_same : (a b : ℕ) (P Q : Type 0) → a ≡ b → P → Either (a == b) P Q
into_same a b P Q e h = subst (λ (t : Bool). Either t P Q) (sym (eq-eqb a b e)) h

out_of_same : (a b : ℕ) (P Q : Type 0) → a ≡ b → Either (a == b) P Q → P
out_of_same a b P Q e h = subst (λ (t : Bool). Either t P Q) (eq-eqb a b e) h

into_other : (t : Bool) (a b : ℕ) (P Q : Type 0) → (a == b) ≡ t → (a ≡ b → ⊥) → Q → Either t P Q
into_other true a b P Q e f h = absurd (f (eqb-true a b e))
into_other false a b P Q e f h = h

out_of_other : (t : Bool) (a b : ℕ) (P Q : Type 0) → (a == b) ≡ t → (a ≡ b → ⊥) → Either t P Q → Q
out_of_other true a b P Q e f h = absurd (f (eqb-true a b e))
out_of_other false a b P Q e f h = h

-- ---- functions of several parameters

module _ (w : World) (n : Naming) (at : At) (differ : OwnNumbersDiffer n at) where
  -- the binders from i on have these types
  abbrev with_own : ℕ → Grounds → Surroundings → Surroundings
  with_own i NoGrounds s = s
  with_own i (AndGround t ts) s = with_own (suc i) ts (with_name (n.own at i) (exactly t) s)

  function_has : (i : ℕ) (ts : Grounds) (r : Ground) (body : Core) (s : Surroundings) → IsProper w (arrows ts r) → CoreHas w (with_own i ts s) body r → CoreHas w s (lambdas (binders n at i (count_of ts)) body) (arrows ts r)
  function_has i NoGrounds r body s p h = h
  function_has i (AndGround t ts) r body s p h =
      (p, (t, arrows ts r, refl, ((n.own at i, t) ∷ [], refl, function_has (suc i) ts r body (with_name (n.own at i) (exactly t) s) (result_proper w t (arrows ts r) p) h)))

  function_only : (i k : ℕ) (t : Ground) (body : Core) (s : Surroundings) → CoreHas w s (lambdas (binders n at i k) body) t → (ts : Grounds) × (r : Ground) × (count_of ts ≡ k) × (t ≡ arrows ts r) × CoreHas w (with_own i ts s) body r
  function_only i zero t body s h = (NoGrounds, t, refl, refl, h)
  function_only i (suc k) t body s h =
      let f = h.1 in
      let b = f.3 in
      let inner = subst (λ (z : Bound). CoreHas w (with_bound z s) (lambdas (binders n at (suc i) k) body) f.1) b.1 b.2 in
      let g = function_only (suc i) k f.1 body (with_name (n.own at i) (exactly f.0) s) inner in
      (AndGround f.0 g.0, g.1, ap suc g.2, f.2 ∙ ap (Ground.Function f.0) g.3, g.4)

  -- the later binders leave an earlier name as it is
  kept : (j i : ℕ) (ts : Grounds) (s : Surroundings) (t : Ground) → j < i → s (n.own at j) t → with_own i ts s (n.own at j) t
  kept j i NoGrounds s t l h = h
  kept j i (AndGround u us) s t l h =
      kept j (suc i) us (with_name (n.own at i) (exactly u) s) t (omega (arith, l))
      (into_other (n.own at i == n.own at j) (n.own at i) (n.own at j) (t ≡ u) (s (n.own at j) t) refl (λ e. omega (arith, l, differ i j e)) h)

  was : (j i : ℕ) (ts : Grounds) (s : Surroundings) (t : Ground) → j < i → with_own i ts s (n.own at j) t → s (n.own at j) t
  was j i NoGrounds s t l h = h
  was j i (AndGround u us) s t l h =
      out_of_other (n.own at i == n.own at j) (n.own at i) (n.own at j) (t ≡ u) (s (n.own at j) t) refl (λ e. omega (arith, l, differ i j e))
      (was j (suc i) us (with_name (n.own at i) (exactly u) s) t (omega (arith, l)) h)

  has_its_type : (i : ℕ) (t : Ground) (ts : Grounds) (s : Surroundings) → with_own i (AndGround t ts) s (n.own at i) t
  has_its_type i t ts s =
      kept i (suc i) ts (with_name (n.own at i) (exactly t) s) t (omega arith) (into_same (n.own at i) (n.own at i) (t ≡ t) (s (n.own at i) t) refl refl)

  has_no_other : (i : ℕ) (t u : Ground) (ts : Grounds) (s : Surroundings) → with_own i (AndGround t ts) s (n.own at i) u → u ≡ t
  has_no_other i t u ts s h =
      out_of_same (n.own at i) (n.own at i) (u ≡ t) (s (n.own at i) u) refl
      (was i (suc i) ts (with_name (n.own at i) (exactly t) s) u (omega arith) h)

  -- ---- tuples

  parts_have : (i : ℕ) (ts : Grounds) (r : Ground) (s : Surroundings) → IsProper w (arrows ts r) → AllCoresHave w (with_own i ts s) (parameters n at i (count_of ts)) ts
  parts_have i NoGrounds r s p = refl
  parts_have i (AndGround t ts) r s p =
      (t, ts, refl, (argument_proper w t (arrows ts r) p, has_its_type i t ts s), parts_have (suc i) ts r (with_name (n.own at i) (exactly t) s) (result_proper w t (arrows ts r) p))

  parts_only : (i : ℕ) (ts parts : Grounds) (s : Surroundings) → AllCoresHave w (with_own i ts s) (parameters n at i (count_of ts)) parts → parts ≡ ts
  parts_only i NoGrounds parts s h = h
  parts_only i (AndGround t ts) parts s h =
      h.2 ∙ ap₂ AndGround (has_no_other i t h.0 ts s h.3.1) (parts_only (suc i) ts h.1 (with_name (n.own at i) (exactly t) s) h.4)

  body_proper : (ts : Grounds) (r : Ground) → IsProper w (arrows ts r) → IsProper w r
  body_proper NoGrounds r p = p
  body_proper (AndGround t ts) r p = body_proper ts r (result_proper w t (arrows ts r) p)

  pub tuple_has : (ts : Grounds) (s : Surroundings) → IsProper w (arrows ts (Ground.Tuple ts)) → CoreHas w s (tuple_maker n at (count_of ts)) (arrows ts (Ground.Tuple ts))
  tuple_has ts s p =
      function_has 0 ts (Ground.Tuple ts) _ s p (body_proper ts (Ground.Tuple ts) p, (ts, refl, parts_have 0 ts (Ground.Tuple ts) s p))

  pub tuple_only : (k : ℕ) (t : Ground) (s : Surroundings) → CoreHas w s (tuple_maker n at k) t → (ts : Grounds) × (count_of ts ≡ k) × (t ≡ arrows ts (Ground.Tuple ts))
  tuple_only k t s h =
      let f = function_only 0 k t _ s h in
      let b = f.4.1 in
      let same : b.0 ≡ f.0 = parts_only 0 f.0 b.0 s (subst (λ (z : ℕ). AllCoresHave w (with_own 0 f.0 s) (parameters n at 0 z) b.0) (sym f.2) b.2) in
      (f.0, f.2, f.3 ∙ ap (arrows f.0) (b.1 ∙ ap Ground.Tuple same))

  -- ---- records

  abbrev types_at : Choice → WrittenFields → Grounds
  types_at choice NoWrittenFields = NoGrounds
  types_at choice (AndWrittenField label type others) = AndGround (instance_at choice type) (types_at choice others)

  as_many : (choice : Choice) (fs : WrittenFields) → count_of (types_at choice fs) ≡ count (labels_in fs)
  as_many choice NoWrittenFields = refl
  as_many choice (AndWrittenField label type others) = ap suc (as_many choice others)

  instance_of : (choice : Choice) (fs : WrittenFields) (r : Written) → instance_at choice (takes_fields fs r) ≡ arrows (types_at choice fs) (instance_at choice r)
  instance_of choice NoWrittenFields r = refl
  instance_of choice (AndWrittenField label type others) r = ap (Ground.Function (instance_at choice type)) (instance_of choice others r)

  fields_have : (choice : Choice) (i : ℕ) (fs : WrittenFields) (r : Ground) (s : Surroundings) → IsProper w (arrows (types_at choice fs) r) → CoreFieldsOver w (with_own i (types_at choice fs) s) (labelled n at i (labels_in fs)) (Ends None) (fields_at choice fs (Ends None))
  fields_have choice i NoWrittenFields r s p = refl
  fields_have choice i (AndWrittenField label type others) r s p =
      let t = instance_at choice type in
      let ts = types_at choice others in
      (t, fields_at choice others (Ends None), (argument_proper w t (arrows ts r) p, has_its_type i t ts s), fields_have choice (suc i) others r (with_name (n.own at i) (exactly t) s) (result_proper w t (arrows ts r) p), refl)

  -- what a maker of these fields has, whose record is held to their type
  abbrev record_body : WrittenFields → Core
  record_body fs = Held (Fields None fs) (RecordOf (labelled n at 0 (labels_in fs)))

  respects_result : (choice : Choice) (fs : WrittenFields) (r : Written) → Respects choice (takes_fields fs r) → Respects choice r
  respects_result choice NoWrittenFields r h = h
  respects_result choice (AndWrittenField label type others) r h = respects_result choice others r h.1

  respects_function : (choice : Choice) (fs : WrittenFields) (r : Written) → FieldsRespect choice fs → Respects choice r → Respects choice (takes_fields fs r)
  respects_function choice NoWrittenFields r f h = h
  respects_function choice (AndWrittenField label type others) r f h = (f.0, respects_function choice others r f.1 h)

  record_has : (choice : Choice) (fs : WrittenFields) (s : Surroundings) → Respects choice (takes_fields fs (Fields None fs)) → IsProper w (instance_at choice (takes_fields fs (Fields None fs))) → CoreHas w s (lambdas (binders n at 0 (count (labels_in fs))) (record_body fs)) (instance_at choice (takes_fields fs (Fields None fs)))
  record_has choice fs s m p =
      let ts = types_at choice fs in
      let r = instance_at choice (Fields None fs) in
      let q = subst (IsProper w) (instance_of choice fs (Fields None fs)) p in
      let proper = body_proper ts r q in
      let inner : CoreHas w (with_own 0 ts s) (RecordOf (labelled n at 0 (labels_in fs))) r = (proper, (fields_at choice fs (Ends None), refl, fields_have choice 0 fs r s q)) in
      let instance : IsInstance (Fields None fs) r = (choice, respects_result choice fs (Fields None fs) m, refl) in
      let h = function_has 0 ts r (record_body fs) s q (proper, (inner, instance)) in
      subst (λ (k : ℕ). CoreHas w s (lambdas (binders n at 0 k) (record_body fs)) (instance_at choice (takes_fields fs (Fields None fs)))) (as_many choice fs)
      (subst (CoreHas w s (lambdas (binders n at 0 (count_of ts)) (record_body fs))) (sym (instance_of choice fs (Fields None fs))) h)

  -- the parameters have the types of the record's fields
  fields_only : (choice : Choice) (i : ℕ) (ts : Grounds) (fs : WrittenFields) (row : Row) (s : Surroundings) → count_of ts ≡ count (labels_in fs) →
      CoreFieldsOver w (with_own i ts s) (labelled n at i (labels_in fs)) (Ends None) row → row ≡ fields_at choice fs (Ends None) → ts ≡ types_at choice fs
  fields_only choice i NoGrounds NoWrittenFields row s k over is = refl
  fields_only choice i NoGrounds (AndWrittenField label type others) row s k over is = absurd (omega (arith, k))
  fields_only choice i (AndGround t ts) NoWrittenFields row s k over is = absurd (omega (arith, k))
  fields_only choice i (AndGround t ts) (AndWrittenField label type others) row s k over is =
      let both = extended-injective label over.0 (instance_at choice type) over.1 (fields_at choice others (Ends None)) (sym over.4 ∙ is) in
      ap₂ AndGround (sym (has_no_other i t over.0 ts s over.2.1) ∙ both.0)
      (fields_only choice (suc i) ts others over.1 (with_name (n.own at i) (exactly t) s) (omega (arith, k)) over.3 both.1)

  row_is : (row row' : Row) → Record row ≡ Record row' → row ≡ row'
  row_is row row' e = cc e

  record_only : (fs : WrittenFields) (t : Ground) (s : Surroundings) → CoreHas w s (lambdas (binders n at 0 (count (labels_in fs))) (record_body fs)) t → IsInstance (takes_fields fs (Fields None fs)) t
  record_only fs t s h =
      let f = function_only 0 (count (labels_in fs)) t (record_body fs) s h in
      let inner = f.4.1.0.1 in
      let held = f.4.1.1 in
      let choice = held.0 in
      let same : f.0 ≡ types_at choice fs = fields_only choice 0 f.0 fs inner.0 s f.2 inner.2 (row_is inner.0 (fields_at choice fs (Ends None)) (sym inner.1 ∙ held.2)) in
      (choice, respects_function choice fs (Fields None fs) held.1.1 held.1, f.3 ∙ ap₂ arrows same held.2 ∙ sym (instance_of choice fs (Fields None fs)))

  abbrev maker_with : Written → List (List ℕ) → Core
  maker_with written labels = lambdas (binders n at 0 (count labels)) (Held written (RecordOf (labelled n at 0 labels)))

  maker_is : (m : Maker) (fs : WrittenFields) → MakesRecord m fs → made_by n at m ≡ maker_with (Fields None fs) (labels_in fs)
  maker_is m fs g = ap₂ maker_with g.written g.labels

  pub alias_has : (m : Maker) (fs : WrittenFields) (t : Ground) (s : Surroundings) → MakesRecord m fs → IsProper w t → IsInstance (takes_fields fs (Fields None fs)) t → CoreHas w s (made_by n at m) t
  alias_has m fs t s g p h =
      subst (λ e. CoreHas w s e t) (sym (maker_is m fs g))
      (subst (CoreHas w s (maker_with (Fields None fs) (labels_in fs))) (sym h.2) (record_has h.0 fs s h.1 (subst (IsProper w) h.2 p)))

  pub alias_only : (m : Maker) (fs : WrittenFields) (t : Ground) (s : Surroundings) → MakesRecord m fs → CoreHas w s (made_by n at m) t → IsInstance (takes_fields fs (Fields None fs)) t
  alias_only m fs t s g h = record_only fs t s (subst (λ e. CoreHas w s e t) (maker_is m fs g) h)
