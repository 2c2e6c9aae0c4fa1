-- What is found grows block by block.
use Rattle.std.proofs.Common.{◌≡◌, ℕ, ◌+◌, ◌<◌, ◌↔◌, List, [], ◌∷◌, ◌++◌, length, map, take, get_or, refl, sym, ◌∙◌, ap, subst}
use Rattle.std.specs.List.{Contains}
use Rattle.std.proofs.lemmas.List.{append-nil, take_more}
use Rattle.std.proofs.lemmas.Grind.{flat_map-append}
use Rattle.elm_base.specs.declared.token.At.{At}
use Rattle.elm_base.specs.declared.project.Group.{Group}
use Rattle.name_steps.specs.declared.step.Defined.{Defined}
use Rattle.name_steps.specs.declared.step.Step.{Step}
use Rattle.module_names.specs.declared.flaws.Flaw.{Flaw}
use Rattle.module_names.specs.declared.walk.Use.{Use}
use Rattle.module_blocks.specs.Refers.{refers_in}
use Rattle.module_groups.specs.declared.group.Component.{Component}
use Rattle.module_groups.specs.Components.{AreComponents}
use Rattle.module_groups.specs.Groups.{References}
use Rattle.block_groups.specs.declared.whole.Grouped.{Grouped}
use Rattle.block_groups.specs.Blocks.{Block, block_of, inner, inner_blocks}
use Rattle.block_groups.specs.Cycles.{AreCycles, IsCycleIn}
use Rattle.block_groups.specs.Growing.{Grows, IsFaultOf}
use Rattle.block_groups.specs.Placed.{AreGroupsOf, AreGroupsOfAll, group_of, refers_of}
use Rattle.block_groups.specs.Turns.{InTurn, Appends}
use Rattle.block_groups.proofs.Faults.{are_cycles, are_cycles_in}
use Rattle.block_groups.proofs.Turning.{in_turn_one, appends_none, appends_more}

-- a mapped list, mapped again
map_again : {X Y Z : Type 0} (f : Y → Z) (g : X → Y) (xs : List X) → map (λ x. f (g x)) xs ≡ map f (map g xs)
map_again f g [] = refl
map_again f g (x ∷ xs) = ap (λ zs. f (g x) ∷ zs) (map_again f g xs)

module _ («module» : List ℕ) (uses : List Use) where
  pub grows_none : (found : Grouped) → Grows «module» uses [] found found
  grows_none found = record {
    groups = appends_none (AreGroupsOf «module» uses) found.groups;
    cycles = appends_none (AreCycles «module» uses) found.cycles;
  }

  pub grows_more : (blocks more : List Block) (old now new : Grouped) → Grows «module» uses blocks old now → Grows «module» uses more now new →
      Grows «module» uses (blocks ++ more) old new
  grows_more blocks more old now new one two = record {
    groups = appends_more (AreGroupsOf «module» uses) blocks more old.groups now.groups new.groups one.groups two.groups;
    cycles = appends_more (AreCycles «module» uses) blocks more old.cycles now.cycles new.cycles one.cycles two.cycles;
  }

  -- one block, by its groups as they are found
  pub grows_by : (at : At) (definitions : List Defined) (end : At) (count : ℕ) (refers : References) (found : List Component) (old new : Grouped) →
      count ≡ length definitions → refers ≡ refers_in «module» definitions end uses → AreComponents count refers found →
      new.groups ≡ old.groups ++ map (λ group. group_of «module» at definitions group.members) found →
      Appends (InTurn (IsFaultOf definitions) found) old.cycles new.cycles → Grows «module» uses (block_of at definitions end ∷ []) old new
  grows_by at definitions end count refers found old new e k so placed (more, turns, f) =
      let block = block_of at definitions end in
      let own : AreComponents (length definitions) (refers_of «module» uses block) found =
      subst (λ (r : References). AreComponents (length definitions) r found) k (subst (λ (n : ℕ). AreComponents n refers found) e so) in
      record {
        groups = (
          map (λ group. group_of «module» at definitions group.members) found,
          in_turn_one (AreGroupsOf «module» uses) block (map (λ group. group_of «module» at definitions group.members) found) (record {
            numbers = map (λ group. group.members) found;
            exact = own.groups;
            placed = map_again (group_of «module» at definitions) (λ (group : Component). group.members) found;
          }),
          placed,
        );
        cycles = (more, in_turn_one (AreCycles «module» uses) block more (are_cycles «module» uses block found more own turns), f);
      }

  -- the blocks of one step more
  pub grows_next : (steps : List Step) (i : ℕ) (step : Step) (old now new : Grouped) → i < length steps → step ≡ get_or steps i step →
      Grows «module» uses (inner_blocks (take i steps)) old now → Grows «module» uses (inner step) now new →
      Grows «module» uses (inner_blocks (take (i + 1) steps)) old new
  grows_next steps i step old now new h at one two =
      let next : take (i + 1) steps ≡ take i steps ++ step ∷ [] = take_more steps i step h ∙ ap (λ (s : Step). take i steps ++ s ∷ []) (sym at) in
      let blocks : inner_blocks (take (i + 1) steps) ≡ inner_blocks (take i steps) ++ inner step =
      ap inner_blocks next ∙ flat_map-append inner (take i steps) (step ∷ [])
      ∙ ap (λ (bs : List Block). inner_blocks (take i steps) ++ bs) (append-nil (inner step)) in
      subst (λ (bs : List Block). Grows «module» uses bs old new) (sym blocks)
      (grows_more (inner_blocks (take i steps)) (inner step) old now new one two)

  grown : (blocks : List Block) (found : Grouped) → Grows «module» uses blocks (record { groups = []; cycles = [] }) found →
      InTurn (AreGroupsOf «module» uses) blocks found.groups × InTurn (AreCycles «module» uses) blocks found.cycles
  grown blocks found grows =
      let (groups, one, e) = grows.groups in
      let (cycles, two, f) = grows.cycles in (
        subst (λ (all : List Group). InTurn (AreGroupsOf «module» uses) blocks all) (sym e) one,
        subst (λ (all : List Flaw). InTurn (AreCycles «module» uses) blocks all) (sym f) two,
      )

  pub groups_grown : (blocks : List Block) (found : Grouped) → Grows «module» uses blocks (record { groups = []; cycles = [] }) found →
      AreGroupsOfAll «module» uses blocks found.groups
  groups_grown blocks found grows = (grown blocks found grows).0

  pub cycles_grown : (blocks : List Block) (found : Grouped) → Grows «module» uses blocks (record { groups = []; cycles = [] }) found →
      (flaw : Flaw) → Contains found.cycles flaw ↔ IsCycleIn «module» uses blocks flaw
  cycles_grown blocks found grows = are_cycles_in «module» uses blocks found.cycles (grown blocks found grows).1

  -- all blocks, where nothing was found before
  pub grows_all : (blocks more : List Block) (groups : List Group) (cycles : List Flaw) (now new : Grouped) → groups ≡ [] → cycles ≡ [] →
      Grows «module» uses blocks (record { groups = groups; cycles = cycles }) now → Grows «module» uses more now new →
      Grows «module» uses (blocks ++ more) (record { groups = []; cycles = [] }) new
  grows_all blocks more groups cycles now new e f one two =
      grows_more blocks more (record { groups = []; cycles = [] }) now new
      (subst (λ (g : List Group). Grows «module» uses blocks (record { groups = g; cycles = [] }) now) e
      (subst (λ (f : List Flaw). Grows «module» uses blocks (record { groups = groups; cycles = f }) now) f one)) two
