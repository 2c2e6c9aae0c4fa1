-- The values in cycles that are found among a block's groups are those of the block.
use Rattle.std.proofs.Common.{◌≡◌, ℕ, ◌<◌, ◌↔◌, Bool, true, false, IsTrue, List, [], ◌∷◌, ◌++◌, length, map, sym, ◌∙◌, subst, ⊎_elim}
use Rattle.std.specs.List.{All, Contains}
use Rattle.std.proofs.lemmas.Bool.{false≢true}
use Rattle.std.proofs.lemmas.List.Elements.{All-contains, All-contains_itself}
use Rattle.name_steps.specs.declared.step.Defined.{Defined}
use Rattle.module_names.specs.declared.flaws.Flaw.{Flaw}
use Rattle.module_names.specs.declared.walk.Use.{Use}
use Rattle.module_groups.specs.declared.group.Component.{Component}
use Rattle.module_groups.specs.Components.{AreComponents}
use Rattle.module_groups.specs.Groups.{References, IsGroup, Follow, ReachesItself, IsCyclicValue, is_function}
use Rattle.module_groups.proofs.Members.{contains_here, contains_more, contains_cases, contains_none}
use Rattle.module_groups.proofs.Following.{same_following}
use Rattle.block_groups.specs.Blocks.{Block}
use Rattle.block_groups.specs.Cycles.{AreCycles, IsCycleIn, IsOwnCycle, cycle_at, first_of, functions_of}
use Rattle.block_groups.specs.Growing.{IsFaultOf}
use Rattle.block_groups.specs.Placed.{refers_of}
use Rattle.block_groups.specs.Turns.{InTurn}
use Rattle.block_groups.proofs.Turning.{in_turn_from, in_turn_has}

-- ---- members are definitions of the block

each_whole : (count : ℕ) (refers : References) (taken : List ℕ) (groups : List (List ℕ)) → Follow count refers taken groups →
    (group : List ℕ) → Contains groups group → IsGroup count refers group
each_whole count refers taken [] so group in' = absurd (contains_none group in')
each_whole count refers taken (first ∷ groups) so group in' =
    ⊎_elim (λ (e : first ≡ group). subst (λ (g : List ℕ). IsGroup count refers g) e so.0.follows.whole)
    (λ (more : Contains groups group). each_whole count refers (taken ++ first) groups so.1 group more) (contains_cases first group groups in')

within_one : (count : ℕ) (refers : References) (group : List ℕ) → IsGroup count refers group → All (λ member. member < count) group
within_one count refers group whole = λ k d h. let in' = All-contains_itself group k d h in ((whole.exact _ in' _).0 in').0

-- of a mapped list, both ways
module _ {X Y : Type 0} (f : X → Y) where
  pub mapped : (xs : List X) (x : X) → Contains xs x → Contains (map f xs) (f x)
  mapped [] x in' = absurd (contains_none x in')
  mapped (first ∷ xs) x in' =
      ⊎_elim (λ (e : first ≡ x). subst (λ (z : X). Contains (f first ∷ map f xs) (f z)) e (contains_here (f first) (map f xs)))
      (λ (more : Contains xs x). contains_more (f first) (f x) (map f xs) (mapped xs x more)) (contains_cases first x xs in')

  pub was_mapped : (xs : List X) (y : Y) → Contains (map f xs) y → (x : X) × Contains xs x × (f x ≡ y)
  was_mapped [] y in' = absurd (contains_none y in')
  was_mapped (first ∷ xs) y in' =
      ⊎_elim (λ (e : f first ≡ y). (first, contains_here first xs, e))
      (λ (more : Contains (map f xs) y). let (x, has, e) = was_mapped xs y more in (x, contains_more first x xs has, e))
      (contains_cases (f first) y (map f xs) in')

pub members_within : (count : ℕ) (refers : References) (found : List Component) → AreComponents count refers found →
    All (λ group. All (λ member. member < count) group.members) found
members_within count refers found so =
    λ k d h.
    let in' = All-contains_itself found k d h in
    within_one count refers _ (each_whole count refers [] (map (λ component. component.members) found) so.groups _
    (mapped (λ (component : Component). component.members) found _ in'))

-- ---- the faults of a block

module _ («module» : List ℕ) (uses : List Use) (block : Block) where
  pub are_cycles : (found : List Component) (flaws : List Flaw) → AreComponents (length block.definitions) (refers_of «module» uses block) found →
      InTurn (IsFaultOf block.definitions) found flaws → AreCycles «module» uses block flaws
  are_cycles found flaws so turns = λ flaw. (
    λ in'.
        let (x, own, has, gives, at) = in_turn_from (IsFaultOf block.definitions) found flaws turns flaw in' in
        record {
          groups = map (λ component. component.members) found;
          are = so.groups;
          members = x.members;
          one = mapped (λ (component : Component). component.members) found x has;
          cyclic = (gives (refers_of «module» uses block) (All-contains (λ component. IsTrue component.recursive ↔ ReachesItself (refers_of «module» uses block) component.members) found x so.recursive has) flaw).0 at;
        },
    λ cycle.
        let same : cycle.groups ≡ map (λ component. component.members) found =
        same_following (length block.definitions) (refers_of «module» uses block) [] cycle.groups (map (λ component. component.members) found) cycle.are so.groups in
        let (x, has, e) =
        was_mapped (λ (component : Component). component.members) found cycle.members
        (subst (λ (groups : List (List ℕ)). Contains groups cycle.members) same cycle.one) in
        let (own, gives, all) = in_turn_has (IsFaultOf block.definitions) found flaws turns x has in
        all flaw ((gives (refers_of «module» uses block) (All-contains (λ component. IsTrue component.recursive ↔ ReachesItself (refers_of «module» uses block) component.members) found x so.recursive has) flaw).1
        (subst (λ (members : List ℕ). IsOwnCycle (refers_of «module» uses block) block.definitions members flaw) (sym e) cycle.cyclic)),
  )

-- the faults of blocks in turn are those in the blocks
pub are_cycles_in : («module» : List ℕ) (uses : List Use) (blocks : List Block) (flaws : List Flaw) → InTurn (AreCycles «module» uses) blocks flaws →
    (flaw : Flaw) → Contains flaws flaw ↔ IsCycleIn «module» uses blocks flaw
are_cycles_in «module» uses blocks flaws turns flaw = (
  λ in'. let (block, own, has, gives, at) = in_turn_from (AreCycles «module» uses) blocks flaws turns flaw in' in (block, has, (gives flaw).0 at),
  λ (block, has, cycle). let (own, gives, all) = in_turn_has (AreCycles «module» uses) blocks flaws turns block has in all flaw ((gives flaw).1 cycle),
)

-- ---- the fault of a group

-- what `cyclic` says of a group, whichever references there are
abbrev pub IsTold : List Bool → Component → Bool → Type 0
IsTold functions component cyclic =
    (refers : References) → (IsTrue component.recursive ↔ ReachesItself refers component.members) →
    IsTrue cyclic ↔ IsCyclicValue refers (is_function functions) component.members

module _ (definitions : List Defined) (functions : List Bool) (component : Component) (cyclic : Bool) (same : functions ≡ functions_of definitions) (holds : IsTold functions component cyclic) where
  says : (refers : References) → (IsTrue component.recursive ↔ ReachesItself refers component.members) →
      IsTrue cyclic ↔ IsCyclicValue refers (is_function (functions_of definitions)) component.members
  says refers recursive =
      subst (λ (fs : List Bool). IsTrue cyclic ↔ IsCyclicValue refers (is_function fs) component.members) same (holds refers recursive)

  pub fault_none : cyclic ≡ false → IsFaultOf definitions component []
  fault_none off = λ refers recursive flaw. (
    λ in'. absurd (contains_none flaw in'),
    λ own. absurd (false≢true (sym off ∙ (says refers recursive).1 own.0)),
  )

  pub fault_one : cyclic ≡ true → IsFaultOf definitions component (cycle_at definitions (first_of component.members) ∷ [])
  fault_one on = λ refers recursive flaw. (
    λ in'.
        ⊎_elim (λ (e : cycle_at definitions (first_of component.members) ≡ flaw). ((says refers recursive).0 on, sym e))
        (λ (none : Contains [] flaw). absurd (contains_none flaw none)) (contains_cases (cycle_at definitions (first_of component.members)) flaw [] in'),
    λ own.
        subst (λ (x : Flaw). Contains (cycle_at definitions (first_of component.members) ∷ []) x) (sym own.1)
        (contains_here (cycle_at definitions (first_of component.members)) []),
  )
