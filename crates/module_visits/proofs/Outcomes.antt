-- A project's visits have one outcome, failed reads aside.
use Rattle.std.proofs.Common.{◌≡◌, inl, inr, ℕ, List, [], ◌∷◌, Result, Ok, Err, codes, refl, sym, ◌∙◌, ap, subst}
use Rattle.elm_base.specs.declared.tree.Module.{Module}
use Rattle.elm_base.specs.declared.tree.Import.{Import}
use Rattle.reactor_outside.specs.Shelf.{Files}
use Rattle.module_visits.specs.Files.{held}
use Rattle.module_visits.specs.Opening.{Stop, Fault, Failed, Asker, Opens, Stops}
use Rattle.module_visits.specs.Visits.{Outcome, Visits, all, pass, cycle, refuse, below, next, with_module, asked_by, closed, Agree, Loads, Ends, by_itself, visited}
use Rattle.elm_base.specs.declared.project.Project.{Project}
use Rattle.module_visits.specs.declared.stop.LoadStop.{LoadStop}
use Rattle.module_visits.specs.declared.stop.LoadStop.TheVariants as stop
use Rattle.module_visits.specs.Answers.{AgreesAs, LoadsAs}
use Rattle.module_visits.proofs.Openings.{opens_once, not_faulty, faulty_once}

same_stop : (s : Stop) → Agree (Err s) (Err s)
same_stop (Fault f) = refl
same_stop (Failed file) = tt

-- a visit stops before its imports in one way
stops_once : (files : Files) (folder : List ℕ) (count : ℕ) (by : Asker) (name : List ℕ) (s t : Stop)
    → Stops files folder count by name s → Stops files folder count by name t → Agree (Err s) (Err t)
stops_once files folder count by name (Fault f) (Fault g) a b = faulty_once (held files folder name) count by name f g a b
stops_once files folder count by name (Fault f) (Failed file) a b = tt
stops_once files folder count by name (Failed file) t a b = tt

-- where a visit stops before its imports, no module is opened, unless its read failed
stops_or_opens : (files : Files) (folder : List ℕ) (count : ℕ) (by : Asker) (name : List ℕ) (s : Stop) (m : Module) (o : Outcome)
    → Stops files folder count by name s → Opens files folder count name m → Agree (Err s) o
stops_or_opens files folder count by name (Fault f) m o a b = absurd (not_faulty (held files folder name) count by name m f b a)
stops_or_opens files folder count by name (Failed file) m o a b = tt

opens_or_stops : (files : Files) (folder : List ℕ) (count : ℕ) (by : Asker) (name : List ℕ) (s : Stop) (m : Module) (o : Outcome)
    → Opens files folder count name m → Stops files folder count by name s → Agree o (Err s)
opens_or_stops files folder count by name (Fault f) m o a b = absurd (not_faulty (held files folder name) count by name m f a b)
opens_or_stops files folder count by name (Failed file) m (Ok ms) a b = tt
opens_or_stops files folder count by name (Failed file) m (Err (Fault f)) a b = tt
opens_or_stops files folder count by name (Failed file) m (Err (Failed other)) a b = tt

-- visits that were stopped stop what stands above them
stopped_below : (s : Stop) (ms : List Module) (o : Outcome) → Agree (Err s) (Ok ms) → Agree (Err s) o
stopped_below (Fault f) ms o a = absurd a
stopped_below (Failed file) ms o a = tt

below_stopped : (s : Stop) (ms : List Module) (o : Outcome) → Agree (Ok ms) (Err s) → Agree o (Err s)
below_stopped (Fault f) ms o a = absurd a
below_stopped (Failed file) ms (Ok ns) a = tt
below_stopped (Failed file) ms (Err (Fault f)) a = tt
below_stopped (Failed file) ms (Err (Failed other)) a = tt

-- what comes of Main's imports says what comes of the project
ended : (m n : Module) → m ≡ n → (found others o p : Outcome) → Ends m found o → Ends n others p → Agree found others → Agree o p
ended m n same (Ok ms) (Ok ns) o p a b e =
    subst (λ (x : Outcome). Agree x p) (sym a) (subst (λ (y : Outcome). Agree (Ok (with_module m ms)) y) (sym b)
    (ap (λ (l : List Module). with_module m l) e ∙ ap (λ (k : Module). with_module k ns) same))
ended m n same (Ok ms) (Err (Fault g)) o p a b e = absurd e
ended m n same (Ok ms) (Err (Failed file)) o p a b e =
    subst (λ (x : Outcome). Agree x p) (sym a) (subst (λ (y : Outcome). Agree (Ok (with_module m ms)) y) (sym b) tt)
ended m n same (Err s) (Ok ns) o p a b e =
    subst (λ (x : Outcome). Agree x p) (sym a) (stopped_below s ns p e)
ended m n same (Err s) (Err t) o p a b e =
    subst (λ (x : Outcome). Agree x p) (sym a) (subst (λ (y : Outcome). Agree (Err s) y) (sym b) e)

module _ (files : Files) (folder : List ℕ) where
  -- what is visited below a module is visited below an equal one
  moved : (m : Module) (under ended : List Module) (i : Import) (n k : Module) (o : Outcome)
      → Opens files folder (visited (m ∷ under) ended) i.module n → Opens files folder (visited (m ∷ under) ended) i.module k
      → Visits files folder (k ∷ m ∷ under) ended k.imports o → Visits files folder (n ∷ m ∷ under) ended n.imports o
  moved m under ended i n k o a b v =
      subst (λ (j : Module). Visits files folder (j ∷ m ∷ under) ended j.imports o)
      (sym (opens_once (held files folder i.module) (visited (m ∷ under) ended) i.module n k a b)) v

  -- imports that are visited have one outcome
  pub one_outcome : (under ended : List Module) (is : List Import) (o p : Outcome)
      → Visits files folder under ended is o → Visits files folder under ended is p → Agree o p
  one_outcome _ _ _ _ _ all all = refl
  one_outcome under ended _ o p (pass i is e v) (pass _ _ f w) = one_outcome under ended is o p v w
  one_outcome _ ended _ o p (pass i is e v) (cycle m under _ _ f b) = absurd (cc (e, f))
  one_outcome _ ended _ o p (pass i is e v) (refuse m under _ _ s f b c) = absurd (cc (e, f))
  one_outcome _ ended _ o p (pass i is e v) (below m under _ _ n s f b c w) = absurd (cc (e, f))
  one_outcome _ ended _ o p (pass i is e v) (next m under _ _ n found f b c w x) = absurd (cc (e, f))
  one_outcome _ ended _ o p (cycle m under i is e a) (pass _ _ f w) = absurd (cc (e, f))
  one_outcome _ ended _ o p (cycle m under i is e a) (cycle _ _ _ _ f b) = same_stop (closed m i)
  one_outcome _ ended _ o p (cycle m under i is e a) (refuse _ _ _ _ s f b c) = absurd (cc (a, b))
  one_outcome _ ended _ o p (cycle m under i is e a) (below _ _ _ _ n s f b c w) = absurd (cc (a, b))
  one_outcome _ ended _ o p (cycle m under i is e a) (next _ _ _ _ n found f b c w x) = absurd (cc (a, b))
  one_outcome _ ended _ o p (refuse m under i is s e a h) (pass _ _ f w) = absurd (cc (e, f))
  one_outcome _ ended _ o p (refuse m under i is s e a h) (cycle _ _ _ _ f b) = absurd (cc (a, b))
  one_outcome _ ended _ o p (refuse m under i is s e a h) (refuse _ _ _ _ t f b c) =
      stops_once files folder (visited (m ∷ under) ended) (asked_by m i) i.module s t h c
  one_outcome _ ended _ o p (refuse m under i is s e a h) (below _ _ _ _ n t f b c w) =
      stops_or_opens files folder (visited (m ∷ under) ended) (asked_by m i) i.module s n (Err t) h c
  one_outcome _ ended _ o p (refuse m under i is s e a h) (next _ _ _ _ n found f b c w x) =
      stops_or_opens files folder (visited (m ∷ under) ended) (asked_by m i) i.module s n p h c
  one_outcome _ ended _ o p (below m under i is n s e a h v) (pass _ _ f w) = absurd (cc (e, f))
  one_outcome _ ended _ o p (below m under i is n s e a h v) (cycle _ _ _ _ f b) = absurd (cc (a, b))
  one_outcome _ ended _ o p (below m under i is n s e a h v) (refuse _ _ _ _ t f b c) =
      opens_or_stops files folder (visited (m ∷ under) ended) (asked_by m i) i.module t n (Err s) h c
  one_outcome _ ended _ o p (below m under i is n s e a h v) (below _ _ _ _ k t f b c w) =
      one_outcome (n ∷ m ∷ under) ended n.imports (Err s) (Err t) v (moved m under ended i n k (Err t) h c w)
  one_outcome _ ended _ o p (below m under i is n s e a h v) (next _ _ _ _ k found f b c w x) =
      stopped_below s found p (one_outcome (n ∷ m ∷ under) ended n.imports (Err s) (Ok found) v (moved m under ended i n k (Ok found) h c w))
  one_outcome _ ended _ o p (next m under i is n ms e a h v x) (pass _ _ f w) = absurd (cc (e, f))
  one_outcome _ ended _ o p (next m under i is n ms e a h v x) (cycle _ _ _ _ f b) = absurd (cc (a, b))
  one_outcome _ ended _ o p (next m under i is n ms e a h v x) (refuse _ _ _ _ t f b c) =
      opens_or_stops files folder (visited (m ∷ under) ended) (asked_by m i) i.module t n o h c
  one_outcome _ ended _ o p (next m under i is n ms e a h v x) (below _ _ _ _ k t f b c w) =
      below_stopped t ms o (one_outcome (n ∷ m ∷ under) ended n.imports (Ok ms) (Err t) v (moved m under ended i n k (Err t) h c w))
  one_outcome _ ended _ o p (next m under i is n ms e a h v x) (next _ _ _ _ k ns f b c w y) =
      let same : n ≡ k = opens_once (held files folder i.module) (visited (m ∷ under) ended) i.module n k h c in
      let found : ms ≡ ns = one_outcome (n ∷ m ∷ under) ended n.imports (Ok ms) (Ok ns) v (moved m under ended i n k (Ok ns) h c w) in
      one_outcome (m ∷ under) (with_module n ms) is o p x
      (subst (λ (later : List Module). Visits files folder (m ∷ under) later is p)
      (sym (ap (λ (l : List Module). with_module n l) found ∙ ap (λ (j : Module). with_module j ns) same)) y)

  -- a project's visits have one outcome
  pub one_load : (o p : Outcome) → Loads files folder o → Loads files folder p → Agree o p
  one_load o p (inl a) (inl b) =
      subst (λ (x : Outcome). Agree x p) (sym a.2) (subst (λ (y : Outcome). Agree (Err a.0) y) (sym b.2)
      (stops_once files folder 0 by_itself (codes "Main") a.0 b.0 a.1 b.1))
  one_load o p (inl a) (inr b) =
      subst (λ (x : Outcome). Agree x p) (sym a.2) (stops_or_opens files folder 0 by_itself (codes "Main") a.0 b.0 p a.1 b.1)
  one_load o p (inr a) (inl b) =
      subst (λ (y : Outcome). Agree o y) (sym b.2) (opens_or_stops files folder 0 by_itself (codes "Main") b.0 a.0 o a.1 b.1)
  one_load o p (inr a) (inr b) =
      let same : a.0 ≡ b.0 = opens_once (held files folder (codes "Main")) 0 (codes "Main") a.0 b.0 a.1 b.1 in
      ended a.0 b.0 same a.2 b.2 o p a.4 b.4
      (one_outcome (a.0 ∷ []) [] a.0.imports a.2 b.2 a.3
      (subst (λ (k : Module). Visits files folder (k ∷ []) [] k.imports b.2) (sym same) b.3))

  pub agrees_as : (o : Outcome) (r : Result Project LoadStop) → LoadsAs files folder r → Loads files folder o → AgreesAs o r
  agrees_as o (Ok project) h k = one_load o (Ok project.modules) k h
  agrees_as o (Err (stop.Fault f)) h k = one_load o (Err (Fault f)) k h
  agrees_as o (Err (stop.Shelf file)) h k = tt
  agrees_as o (Err stop.NoMemory) h k = tt
