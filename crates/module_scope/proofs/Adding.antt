-- One module more.
use Rattle.std.proofs.Common.{◌≡◌, ℕ, ◌+◌, ◌<◌, ◌↔◌, List, [], ◌∷◌, ◌++◌, length, take, drop, get_or, Option, Some, None, Err, refl, sym, ◌∙◌, ap, subst, ⊎_elim}
use Rattle.std.proofs.lemmas.List.{append_assoc, append-nil, take_more, drop_more, take-append-drop}
use Rattle.std.proofs.lemmas.Grind.{flat_map-append}
use Rattle.std.specs.List.{Contains, flat_map}
use Rattle.std.proofs.lemmas.List.Elements.{Contains-append_cases}
use Rattle.module_groups.proofs.Members.{contains_cases, contains_none}
use Rattle.elm_base.specs.declared.fault.ProjectFault.{ProjectFault}
use Rattle.elm_base.specs.declared.memory.Halt.{Halt}
use Rattle.elm_base.specs.declared.memory.Halt.TheVariants as halt
use Rattle.elm_base.specs.declared.project.Group.{Group}
use Rattle.elm_base.specs.declared.project.Meaning.{Meaning}
use Rattle.elm_base.specs.declared.tree.Module.{Module}
use Rattle.module_names.specs.declared.face.Face.{Face}
use Rattle.module_names.specs.declared.flaws.Flaw.{Flaw}
use Rattle.name_steps.specs.declared.step.Step.{Step}
use Rattle.module_names.specs.declared.walk.Use.{Use}
use Rattle.module_names.specs.Named.{steps_of, uses_of}
use Rattle.block_groups.specs.Blocks.{blocks_of}
use Rattle.block_groups.specs.Cycles.{IsCycleIn}
use Rattle.block_groups.specs.Turns.{InTurn}
use Rattle.elm_base.specs.declared.project.Project.{Project}
use Rattle.module_scope.specs.Firsts.{least}
use Rattle.module_scope.specs.Resolving.{IsResolved}
use Rattle.module_scope.proofs.Least.{first_of_all, least_is_first, least_is_there}
use Rattle.block_groups.proofs.Turning.{in_turn_one, in_turn_append}
use Rattle.module_scope.specs.declared.found.Found.{Found}
use Rattle.module_scope.specs.Faults.{Each, IsNameFault}
use Rattle.module_scope.specs.Finding.{Added, CycleNoted, CycleOf, FindsAll, IsAdded, IsFound, IsNameFaultIn, noted}
use Rattle.module_scope.specs.Modules.{faces_of, meanings_of, AreGroupsIn, IsCycle, IsNamed, HasNoCycle}

each_none : (holds : Module → Type 0) → Each holds []
each_none holds = λ «module» in'. absurd (contains_none «module» in')

pub each_more : (holds : Module → Type 0) (before : List Module) (next : Module) → Each holds before → holds next → Each holds (before ++ next ∷ [])
each_more holds before next all one «module» in' =
    ⊎_elim (λ (was : Contains before «module»). all «module» was)
    (λ (new : Contains (next ∷ []) «module»).
    ⊎_elim (λ (e : next ≡ «module»). subst holds e one) (λ (none : Contains [] «module»). absurd (contains_none «module» none)) (contains_cases next «module» [] new))
    (Contains-append_cases before (next ∷ []) «module» in')

module _ (faces : List Face) where
  cycle_more : (before : List Module) (next : Module) (old new : Option ProjectFault) → CycleOf faces before old → CycleNoted faces next old new →
      CycleOf faces (before ++ next ∷ []) new
  cycle_more before next None None all one = each_more (HasNoCycle faces) before next all one
  cycle_more before next None (Some fault) all (flaw, first, is) = record {
    before = before;
    «module» = next;
    after = [];
    ordered = refl;
    none = all;
    flaw = flaw;
    one = first;
    is = is;
  }
  cycle_more before next (Some fault) new all same =
      subst (λ (found : Option ProjectFault). CycleOf faces (before ++ next ∷ []) found) (sym same) (record {
        before = all.before;
        «module» = all.«module»;
        after = all.after ++ next ∷ [];
        ordered = ap (λ (ms : List Module). ms ++ next ∷ []) all.ordered ∙ append_assoc all.before (all.«module» ∷ all.after) (next ∷ []);
        none = all.none;
        flaw = all.flaw;
        one = all.one;
        is = all.is;
      })

  pub found_none : IsFound faces [] (record { meanings = []; groups = []; cycle = None })
  found_none = record {
    named = each_none (IsNamed faces);
    meanings = refl;
    groups = refl;
    cycle = each_none (HasNoCycle faces);
  }

  pub found_more : (before : List Module) (next : Module) (old new : Found) → IsFound faces before old → IsAdded faces next old new →
      IsFound faces (before ++ next ∷ []) new
  found_more before next old new found added = record {
    named = each_more (IsNamed faces) before next found.named added.named;
    meanings =
        added.meanings ∙ ap (λ (ms : List Meaning). ms ++ meanings_of faces next) found.meanings
        ∙ sym (flat_map-append (meanings_of faces) before (next ∷ [])
        ∙ ap (λ (ms : List Meaning). flat_map (meanings_of faces) before ++ ms) (append-nil (meanings_of faces next)));
    groups =
        let (more, one, e) = added.groups in
        subst (λ (groups : List Group). InTurn (AreGroupsIn faces) (before ++ next ∷ []) groups) (sym e)
        (in_turn_append (AreGroupsIn faces) before (next ∷ []) old.groups more found.groups (in_turn_one (AreGroupsIn faces) next more one));
    cycle = cycle_more before next old.cycle new.cycle found.cycle added.cycle;
  }

  -- the first fault of a module behind those without any
  pub refused_at : (before : List Module) (next : Module) (after modules : List Module) (fault : ProjectFault) → modules ≡ before ++ next ∷ after →
      Each (IsNamed faces) before → IsNameFaultIn faces next fault → IsNameFault faces modules fault
  refused_at before next after modules fault ordered all (flaw, first, is) = record {
    before = before;
    «module» = next;
    after = after;
    ordered = ordered;
    none = all;
    flaw = flaw;
    one = first;
    is = is;
  }

-- the first value in a cycle of a module, where none was found before it
pub cycle_noted : (faces : List Face) («module» : Module) (cycles : List Flaw) (old : Option ProjectFault) →
    ((flaw : Flaw) → Contains cycles flaw ↔ IsCycle faces «module» flaw) → CycleNoted faces «module» old (noted «module».name cycles old)
cycle_noted faces «module» cycles (Some fault) exact = refl
cycle_noted faces «module» [] None exact = λ flaw cycle. contains_none flaw ((exact flaw).1 cycle)
cycle_noted faces «module» (first ∷ more) None exact = (
  least first more,
  record {
    one = (exact (least first more)).0 (least_is_there first more);
    first = λ other cycle. first_of_all (first ∷ more) (least first more) (least_is_first first more) other ((exact other).1 cycle);
  },
  refl,
)

-- the same by what the module's names are
pub cycle_noted_by : (faces : List Face) («module» : Module) (steps : List Step) (uses : List Use) (cycles : List Flaw) (old : Option ProjectFault) →
    steps ≡ steps_of «module».declarations → uses ≡ uses_of faces «module» →
    ((flaw : Flaw) → Contains cycles flaw ↔ IsCycleIn «module».name uses (blocks_of «module».declarations steps) flaw) →
    CycleNoted faces «module» old (noted «module».name cycles old)
cycle_noted_by faces «module» steps uses cycles old e f exact =
    cycle_noted faces «module» cycles old
    (subst (λ (us : List Use). (flaw : Flaw) → Contains cycles flaw ↔ IsCycleIn «module».name us (blocks_of «module».declarations (steps_of «module».declarations)) flaw) f
    (subst (λ (ss : List Step). (flaw : Flaw) → Contains cycles flaw ↔ IsCycleIn «module».name uses (blocks_of «module».declarations ss) flaw) e exact))

-- the next module of a list, whose first ones were looked at
module _ (modules : List Module) (i : ℕ) (next : Module) (h : i < length modules) (at : next ≡ get_or modules i next) where
  pub found_next : (faces : List Face) (old new : Found) → IsFound faces (take i modules) old → IsAdded faces next old new → IsFound faces (take (i + 1) modules) new
  found_next faces old new found added =
      let more : take (i + 1) modules ≡ take i modules ++ next ∷ [] =
      take_more modules i next h ∙ ap (λ (m : Module). take i modules ++ m ∷ []) (sym at) in
      subst (λ (ms : List Module). IsFound faces ms new) (sym more) (found_more faces (take i modules) next old new found added)

  pub finds_err : (old new : Found) (why : Halt ProjectFault) → Each (IsNamed (faces_of modules)) (take i modules) →
      Added (faces_of modules) next old new (Err why) → FindsAll modules (Err why)
  finds_err old new halt.NoMemory all added = tt
  finds_err old new (halt.Because fault) all added =
      let cut : modules ≡ take i modules ++ next ∷ drop (i + 1) modules =
      sym (take-append-drop i modules) ∙ ap (λ (ms : List Module). take i modules ++ ms)
      (drop_more modules i next h ∙ ap (λ (m : Module). m ∷ drop (i + 1) modules) (sym at)) in
      refused_at (faces_of modules) (take i modules) next (drop (i + 1) modules) modules fault cut all added

-- what is found of all modules, where no value is in a cycle
pub resolved_by : (project : Project) (modules : List Module) (found : Found) → modules ≡ project.modules → IsFound (faces_of modules) modules found →
    found.cycle ≡ None → IsResolved project (record { project = project; groups = found.groups; meanings = found.meanings })
resolved_by project modules found same so none =
    let here : IsFound (faces_of project.modules) project.modules found = subst (λ (ms : List Module). IsFound (faces_of ms) ms found) same so in
    record {
      same = refl;
      named = here.named;
      meanings = here.meanings;
      groups = here.groups;
      acyclic = subst (λ (cycle : Option ProjectFault). CycleOf (faces_of project.modules) project.modules cycle) none here.cycle;
    }
