-- The groups of blocks are determined.
use Rattle.std.proofs.Common.{◌≡◌, ℕ, List, [], ◌∷◌, ◌++◌, length, map, sym, ◌∙◌, ap}
use Rattle.elm_base.specs.declared.project.Group.{Group}
use Rattle.module_names.specs.declared.walk.Use.{Use}
use Rattle.module_groups.proofs.Following.{same_following}
use Rattle.block_groups.specs.Blocks.{Block}
use Rattle.block_groups.specs.Placed.{AreGroupsOf, AreGroupsOfAll, group_of, refers_of}
use Rattle.block_groups.specs.Turns.{InTurn}

-- lists that are made in turn are one, where each part is
pub in_turn_unique : {A B : Type 0} (gives : A → List B → Type 0) → ((x : A) (own other : List B) → gives x own → gives x other → own ≡ other) →
    (xs : List A) (all others : List B) → InTurn gives xs all → InTurn gives xs others → all ≡ others
in_turn_unique gives one [] all others e f = e ∙ sym f
in_turn_unique {A} {B} gives one (x ∷ xs) all others (own, more, h, rest, e) (own2, more2, h2, rest2, e2) =
    e ∙ ap (λ (front : List B). front ++ more) (one x own own2 h h2) ∙ ap (λ (behind : List B). own2 ++ behind) (in_turn_unique gives one xs more more2 rest rest2)
    ∙ sym e2

pub groups_unique : («module» : List ℕ) (uses : List Use) (block : Block) (own other : List Group) → AreGroupsOf «module» uses block own →
    AreGroupsOf «module» uses block other → own ≡ other
groups_unique «module» uses block own other one two =
    one.placed
    ∙ ap (map (group_of «module» block.at block.definitions))
    (same_following (length block.definitions) (refers_of «module» uses block) [] one.numbers two.numbers one.exact two.exact) ∙ sym two.placed

pub all_groups_unique : («module» : List ℕ) (uses : List Use) (blocks : List Block) (own other : List Group) → AreGroupsOfAll «module» uses blocks own →
    AreGroupsOfAll «module» uses blocks other → own ≡ other
all_groups_unique «module» uses blocks = in_turn_unique (AreGroupsOf «module» uses) (groups_unique «module» uses) blocks
