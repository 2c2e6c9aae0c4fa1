-- A project has one resolution alone, or a fault, and never both.
use Rattle.std.proofs.Common.{◌≡◌, List, [], ◌∷◌, sym, ◌∙◌, subst, ⊎_elim}
use Rattle.std.specs.List.{Contains}
use Rattle.std.proofs.lemmas.List.Elements.{Contains-append_right}
use Rattle.module_groups.proofs.Members.{contains_here, contains_none}
use Rattle.elm_base.specs.declared.fault.ProjectFault.{ProjectFault}
use Rattle.elm_base.specs.declared.project.Group.{Group}
use Rattle.elm_base.specs.declared.project.Project.{Project}
use Rattle.elm_base.specs.declared.project.Resolved.{Resolved}
use Rattle.elm_base.specs.declared.tree.Module.{Module}
use Rattle.module_names.specs.declared.face.Face.{Face}
use Rattle.module_names.specs.declared.flaws.Flaw.{Flaw}
use Rattle.module_names.specs.Named.{uses_of, flaws_of}
use Rattle.block_groups.proofs.Unique.{in_turn_unique, all_groups_unique}
use Rattle.module_scope.specs.Faults.{Each, IsFault, IsNameFault, IsCycleFault, IsFirstOfAll}
use Rattle.module_scope.specs.Firsts.{IsFirst}
use Rattle.module_scope.specs.Modules.{faces_of, blocks_in, AreGroupsIn, IsNamed, HasNoCycle, IsFirstCycle}
use Rattle.module_scope.specs.Resolving.{IsResolved}

groups_in : (faces : List Face) («module» : Module) (own other : List Group) → AreGroupsIn faces «module» own → AreGroupsIn faces «module» other → own ≡ other
groups_in faces «module» own other one two = all_groups_unique «module».name (uses_of faces «module») (blocks_in «module») own other one two

pub one_resolution : (project : Project) (one two : Resolved) → IsResolved project one → IsResolved project two → one ≡ two
one_resolution project one two a b =
    let same : one.project ≡ two.project = a.same ∙ sym b.same in
    let meanings : one.meanings ≡ two.meanings = a.meanings ∙ sym b.meanings in
    let groups : one.groups ≡ two.groups =
    in_turn_unique (AreGroupsIn (faces_of project.modules)) (groups_in (faces_of project.modules)) project.modules one.groups two.groups a.groups b.groups in
    λ k. record { project = same k; groups = groups k; meanings = meanings k }

-- the module whose first fault it is is one of the modules
stands_among : (clear : Module → Type 0) (first : Module → Flaw → Type 0) (modules : List Module) (fault : ProjectFault) →
    (found : IsFirstOfAll clear first modules fault) → Contains modules found.«module»
stands_among clear first modules fault found =
    subst (λ (ms : List Module). Contains ms found.«module») (sym found.ordered)
    (Contains-append_right found.before (found.«module» ∷ found.after) found.«module» (contains_here found.«module» found.after))

some_flaw : (flaws : List Flaw) (flaw : Flaw) → IsFirst flaws flaw → flaws ≡ [] → ⊥
some_flaw flaws flaw first none =
    contains_none flaw
    (subst (λ (xs : List Flaw). Contains xs flaw) (sym first.listed ∙ none)
    (Contains-append_right first.before (flaw ∷ first.after) flaw (contains_here flaw first.after)))

pub never_both : (project : Project) (resolved : Resolved) (fault : ProjectFault) → IsResolved project resolved → IsFault project.modules fault → ⊥
never_both project resolved fault so fails =
    let faces = faces_of project.modules in
    ⊎_elim (λ (name : IsNameFault faces project.modules fault).
    some_flaw (flaws_of faces name.«module») name.flaw name.one
    (so.named name.«module» (stands_among (IsNamed faces) (λ «module» flaw. IsFirst (flaws_of faces «module») flaw) project.modules fault name)))
    (λ (cycle : Each (IsNamed faces) project.modules × IsCycleFault faces project.modules fault).
    so.acyclic cycle.1.«module» (stands_among (HasNoCycle faces) (IsFirstCycle faces) project.modules fault cycle.1) cycle.1.flaw cycle.1.one.one) fails
