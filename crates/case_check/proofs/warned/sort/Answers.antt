use Rattle.std.proofs.Common.{rules}
use Rattle.std.proofs.lemmas.List.Sorted.{IsNonDecreasingBy-from_sort_by_key}
use Rattle.case_check.specs.Warnings.{place_number}
use Rattle.case_check.proofs.warned.sort.Goals as goal

pub returns-clause-sorted : goal.returns-clause-sorted
returns-clause-sorted c = IsNonDecreasingBy-from_sort_by_key place_number _ c.in_ok-sort_by_key.ensures.sorted (λ a r q k. search rules)
