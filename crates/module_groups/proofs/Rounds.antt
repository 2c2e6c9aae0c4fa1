-- The loop over the groups: what was found so far, and what a further group adds.
use Rattle.std.proofs.Common.{◌≡◌, ℕ, ◌<◌, ◌≤◌, Bool, false, ◌&&◌, nat_eq, IsTrue, ◌↔◌, List, [], ◌∷◌, ◌++◌, length, get_or, map, replicate, Some, None, Result, Ok, Err, refl, sym, ◌∙◌, ap, subst, arith, append_assoc, ⊎_elim}
use Rattle.std.specs.List.{Contains, All, range_with_len}
use Rattle.std.specs.Result.{IfOk}
use Rattle.elm_base.specs.declared.memory.NoMemory.{NoMemory}
use Rattle.std.proofs.lemmas.Bool.{false≢true, cases_lt, or_left, eq-eqb}
use Rattle.std.proofs.lemmas.List.{map_push, append-nil, get_or-replicate, get_or_past, length-replicate}
use Rattle.std.proofs.lemmas.List.Elements.{All-push, All-nil, All-filter, Contains-get_or}
use Rattle.bit_rows.specs.Table.{Table, bit_of}
use Rattle.module_groups.specs.declared.group.Component.{Component}
use Rattle.module_groups.specs.Groups.{References, Follow, IsNext, ReachesItself}
use Rattle.module_groups.specs.Components.{AreComponents}
use Rattle.module_groups.specs.Search.{SaysWhatReaches, IsFirstFree, is_taken, members_below, together}
use Rattle.module_groups.proofs.Reaching.{IsClosure}
use Rattle.module_groups.proofs.Grouping.{AreMarked, IsClosedUnder, closed_more, IsNext-first, all_taken, itself_yes, itself_only}
use Rattle.module_groups.proofs.Marks.{MarksAlso, AreMarked-more}
use Rattle.module_groups.proofs.Members.{contains_none, range_within, range_has, kept}

abbrev pub members_of : List Component → List (List ℕ)
members_of found = map (λ (component : Component). component.members) found

-- The definitions in what was found are marked and closed, and whatever groups follow behind them, all are the groups in order.
pub record IsFound (count : ℕ) (refers : References) (marks : List Bool) (found : List Component) (taken : List ℕ) : Type 0 where
  pub marked : AreMarked marks taken
  pub closed : IsClosedUnder refers taken
  pub whatever : (rest : List (List ℕ)) → Follow count refers taken rest → Follow count refers [] (members_of found ++ rest)
  pub recursive : All (λ (component : Component). IsTrue component.recursive ↔ ReachesItself refers component.members) found

abbrev pub IsInOrder : ℕ → References → List Bool → List Component → Type 0
IsInOrder count refers marks found = (taken : List ℕ) × IsFound count refers marks found taken

none_marked : (n a : ℕ) → is_taken (replicate n false) a ≡ false
none_marked n a =
    ⊎_elim (λ (in' : a < n). get_or-replicate n a false false in')
    (λ (out : n ≤ a). get_or_past (replicate n false) a false (omega (arith, length-replicate n false, out))) (cases_lt a n)

pub IsInOrder-none : (count : ℕ) (refers : References) (n : ℕ) → IsInOrder count refers (replicate n false) []
IsInOrder-none count refers n = (
  [],
  record {
    marked = λ a. (λ h. absurd (false≢true (sym (none_marked n a) ∙ h)), λ h. absurd (contains_none a h));
    closed = λ a b h. absurd (contains_none a h);
    whatever = λ rest so. so;
    recursive = All-nil (λ (component : Component). IsTrue component.recursive ↔ ReachesItself refers component.members);
  },
)

pub IsInOrder-more : (count : ℕ) (refers : References) (reached : Table) (marks new : List Bool) (found : List Component) (a : ℕ) (group : Component) →
    IsClosure count refers reached → IsInOrder count refers marks found → IsFirstFree count reached marks (Some a) →
    group.members ≡ members_below reached a count → group.recursive ≡ bit_of reached a a → MarksAlso marks group.members new →
    IsInOrder count refers new (found ++ group ∷ [])
IsInOrder-more count refers reached marks new found a group so (taken, was) free e f marks' =
    let next : IsNext count refers taken group.members =
    subst (λ (g : List ℕ). IsNext count refers taken g) (sym e) (IsNext-first count refers reached so marks taken was.marked a was.closed free) in (
      taken ++ group.members,
      record {
        marked = AreMarked-more marks new taken group.members was.marked marks';
        closed = closed_more refers taken group.members was.closed next.follows.ready;
        whatever = λ rest follow.
            subst (λ (gs : List (List ℕ)). Follow count refers [] gs)
            (sym (ap (λ (gs : List (List ℕ)). gs ++ rest) (map_push (λ (component : Component). component.members) found group)
            ∙ append_assoc (members_of found) (group.members ∷ []) rest))
            (was.whatever (group.members ∷ rest) (next, follow));
        recursive = All-push (λ (component : Component). IsTrue component.recursive ↔ ReachesItself refers component.members) found group was.recursive (
          λ h. subst (λ (g : List ℕ). ReachesItself refers g) (sym e) (itself_yes count refers reached so a (sym f ∙ h) free.0),
          λ h. f ∙ itself_only count refers reached so a (subst (λ (g : List ℕ). ReachesItself refers g) e h),
        );
      },
    )

pub AreComponents-all : (count : ℕ) (refers : References) (reached : Table) (marks : List Bool) (found : List Component) →
    IsClosure count refers reached → IsInOrder count refers marks found → IsFirstFree count reached marks None → AreComponents count refers found
AreComponents-all count refers reached marks found so (taken, was) none = record {
  groups = subst (λ (gs : List (List ℕ)). Follow count refers [] gs) (append-nil (members_of found))
      (was.whatever [] (all_taken count refers reached so marks taken was.marked none));
  recursive = was.recursive;
}

-- the members of a group are definitions
pub members_within : (reached : Table) (a : ℕ) → All (λ (member : ℕ). member < reached.bits) (members_below reached a reached.bits)
members_within reached a =
    All-filter (together reached a) (λ (member : ℕ). member < reached.bits) (range_with_len 0 reached.bits)
    (λ k d h. let in' = range_within 0 reached.bits (get_or (range_with_len 0 reached.bits) k d)
    (Contains-get_or (range_with_len 0 reached.bits) k d h) in omega (arith, in'.1))

pub contains_itself : (reached : Table) (a : ℕ) → a < reached.bits → Contains (members_below reached a reached.bits) a
contains_itself reached a h =
    kept (together reached a) (range_with_len 0 reached.bits) a (range_has 0 reached.bits a (omega arith) (omega (arith, h)))
    (or_left (nat_eq a a) (bit_of reached a a && bit_of reached a a) (eq-eqb a a refl))

pub none_passed : (passed : List ℕ) (n a : ℕ) → passed ≡ replicate n 0 → get_or passed a 0 ≡ 0
none_passed passed n a e =
    ap (λ (xs : List ℕ). get_or xs a 0) e
    ∙ ⊎_elim (λ (in' : a < n). get_or-replicate n a 0 0 in')
    (λ (out : n ≤ a). let long : length (replicate {A = ℕ} n 0) ≡ n = length-replicate n 0 in get_or_past (replicate n 0) a 0 (omega (arith, long, out))) (cases_lt a n)

-- what the search in the closed table gives, said of the references
pub components_of : (result : Result (List Component) NoMemory) (given closed : Table) → closed.bits ≡ given.bits → SaysWhatReaches (bit_of given) closed →
    IfOk result (λ (found : List Component). (refers : References) → SaysWhatReaches refers closed → AreComponents closed.bits refers found) →
    IfOk result (λ (found : List Component). AreComponents given.bits (bit_of given) found)
components_of (Ok found) given closed wide says all = subst (λ (n : ℕ). AreComponents n (bit_of given) found) wide (all (bit_of given) says)
components_of (Err e) given closed wide says all = tt
