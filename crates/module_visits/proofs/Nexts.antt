-- A visit's next module, by the place at which passing stops.
use Rattle.std.proofs.Common.{◌≡◌, ◌≤◌, ◌∙◌, sym, subst, refl, ℕ, ◌+◌, List, [], length, drop, slice_get, Some, None, Ok, Err}
use Rattle.std.proofs.Math.ListN.{drop_of_length-le}
use Rattle.elm_base.specs.declared.tree.Module.{Module}
use Rattle.elm_base.specs.declared.tree.Import.{Import}
use Rattle.reactor_outside.specs.Shelf.{Files}
use Rattle.module_visits.specs.declared.stack.Visit.{Visit}
use Rattle.module_visits.specs.declared.stop.LoadStop.{LoadStop}
use Rattle.module_visits.specs.Stack.{left, modules, behind_passed, Asks, NextOf, GivesNext}
use Rattle.module_visits.proofs.Passing.{from_place, from_no_place}

module _ (files : Files) (folder : List ℕ) (v : Visit) (vs : List Visit) (ended : List Module) (at : ℕ)
    (stops : drop at v.module.imports ≡ behind_passed ended (left v)) where
  -- the imports are all passed
  nothing : drop at v.module.imports ≡ [] → GivesNext files folder v vs ended (Ok None)
  nothing none = subst (λ (is : List Import). NextOf files folder v vs ended is (Ok None)) (sym none ∙ stops) tt

  pub gives_none : slice_get v.module.imports at ≡ None → GivesNext files folder v vs ended (Ok None)
  gives_none e = nothing (from_no_place v.module.imports at e)

  pub gives_none_behind : length v.module.imports ≤ at → GivesNext files folder v vs ended (Ok None)
  gives_none_behind long = nothing (drop_of_length-le v.module.imports long)

  -- the import at the place asks for a module
  pub gives_found : (i : Import) (count : ℕ) (n : Module) → slice_get v.module.imports at ≡ Some i → count ≡ length vs + 1 + length ended
      → Asks files folder v.module (modules vs) count i (Ok n) → GivesNext files folder v vs ended (Ok (Some (at + 1, n)))
  gives_found i count n there same asks =
      subst (λ (is : List Import). NextOf files folder v vs ended is (Ok (Some (at + 1, n)))) (sym (from_place v.module.imports at i there) ∙ stops)
      (subst (λ (k : ℕ). Asks files folder v.module (modules vs) k i (Ok n)) same asks, refl)

  pub gives_stop : (i : Import) (count : ℕ) (s : LoadStop) → slice_get v.module.imports at ≡ Some i → count ≡ length vs + 1 + length ended
      → Asks files folder v.module (modules vs) count i (Err s) → GivesNext files folder v vs ended (Err s)
  gives_stop i count s there same asks =
      subst (λ (is : List Import). NextOf files folder v vs ended is (Err s)) (sym (from_place v.module.imports at i there) ∙ stops)
      (subst (λ (k : ℕ). Asks files folder v.module (modules vs) k i (Err s)) same asks)
