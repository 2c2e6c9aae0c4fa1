-- The arguments of a constructor may be judged one by one.
use Rattle.std.proofs.Common.{◌≡◌, ℕ, Bool, true, false, not, ◌&&◌, ◌↔◌, List, [], ◌∷◌, map, refl, sym, ◌∙◌, ap, ⊎_elim, subst}
use Rattle.std.specs.Str.{bytes_eq}
use Rattle.std.specs.List.{Contains}
use Rattle.std.proofs.lemmas.Bool.{and_parts, and_from, false≢true}
use Rattle.module_groups.proofs.Members.{contains_here, contains_more, contains_cases, contains_none}
use Rattle.elm_typing.specs.Names.{signal_name}
use Rattle.typing_rules.specs.WrittenTypes.{Written, Variable, Arrow}
use Rattle.typing_rules.specs.Library.{writtens}
use Rattle.written_sorts.specs.Sorting.{bars_hold, bars_hold_all, MakesSense}
use Rattle.written_sorts.specs.Marks.{Marks, is_signal, at_most, holds, all_simple}
use Rattle.written_sorts.proofs.FromMarks.{well_sorted}
use Rattle.written_sorts.proofs.ToMarks.{can_be_sorted as some_marks}
use Rattle.decl_faults.specs.Deciding.{variables}
use Rattle.decl_faults.specs.Constructors.{union_at, function_to, EachMakesSense, HaveParameters}
use Rattle.decl_faults.proofs.Deciding.{Same, same_signal, same_holds}

abbrev none : Marks
none name = false

off_from : (b : Bool) → not b ≡ true → b ≡ false
off_from true h = absurd (false≢true h)
off_from false h = refl

module _ (name : List ℕ) (parameters : List (List ℕ)) where
  abbrev union : Written
  union = union_at name parameters

  abbrev ends : Bool
  ends = bytes_eq name signal_name

  variables_free : (ps : List (List ℕ)) → bars_hold_all (writtens (map (λ p. Variable p) ps)) ≡ true
  variables_free [] = refl
  variables_free (p ∷ ps) = variables_free ps

  none_simple : (ps : List (List ℕ)) → all_simple none (writtens (map (λ p. Variable p) ps)) ≡ true
  none_simple [] = refl
  none_simple (p ∷ ps) = none_simple ps

  -- the parameters of the union are simple in it
  parameters_off : (marks : Marks) (ps : List (List ℕ)) → all_simple marks (writtens (map (λ p. Variable p) ps)) ≡ true →
      (p : List ℕ) → Contains ps p → marks p ≡ false
  parameters_off marks [] h p in' = absurd (contains_none p in')
  parameters_off marks (q ∷ qs) h p in' =
      let others = all_simple marks (writtens (map (λ x. Variable x) qs)) in
      let behind = and_parts (not (marks q)) others (and_parts (holds marks (Variable q)) (not (marks q) && others) h).1 in
      ⊎_elim (λ (e : q ≡ p). subst (λ (x : List ℕ). marks x ≡ false) e (off_from (marks q) behind.0))
      (λ (later : Contains qs p). parameters_off marks qs behind.1 p later) (contains_cases q p qs in')

  same_none : (marks : Marks) (names : List (List ℕ)) → ((x : List ℕ) → Contains names x → marks x ≡ false) → Same marks none names
  same_none marks [] off = tt
  same_none marks (x ∷ xs) off = (off x (contains_here x xs), same_none marks xs (λ y in'. off y (contains_more x y xs in')))

  -- ---- the whole function, by the same marks

  whole_signal : (marks : Marks) (arguments : List Written) → is_signal marks (function_to union arguments) ≡ ends
  whole_signal marks [] = refl
  whole_signal marks (a ∷ as') = whole_signal marks as'

  union_holds : (marks : Marks) (arguments : List Written) → holds marks (function_to union arguments) ≡ true → holds marks union ≡ true
  union_holds marks [] h = h
  union_holds marks (a ∷ as') h =
      let rest = function_to union as' in
      union_holds marks as'
      (and_parts (holds marks rest) (at_most (is_signal marks a) (is_signal marks rest))
      (and_parts (holds marks a) (holds marks rest && at_most (is_signal marks a) (is_signal marks rest)) h).1).0

  one_holds : (marks : Marks) (a : Written) (as' : List Written) → holds marks (function_to union (a ∷ as')) ≡ true → holds marks (Arrow a union) ≡ true
  one_holds marks a as' h =
      let rest = function_to union as' in
      let both = and_parts (holds marks a) (holds marks rest && at_most (is_signal marks a) (is_signal marks rest)) h in
      let behind = and_parts (holds marks rest) (at_most (is_signal marks a) (is_signal marks rest)) both.1 in
      and_from (holds marks a) (holds marks union && at_most (is_signal marks a) ends) both.0
      (and_from (holds marks union) (at_most (is_signal marks a) ends) (union_holds marks as' behind.0)
      (ap (at_most (is_signal marks a)) (sym (whole_signal marks as')) ∙ behind.1))

  whole_holds : (marks : Marks) (a : Written) (as' : List Written) → holds marks (Arrow a union) ≡ true →
      holds marks (function_to union as') ≡ true → holds marks (function_to union (a ∷ as')) ≡ true
  whole_holds marks a as' one rest =
      let both = and_parts (holds marks a) (holds marks union && at_most (is_signal marks a) ends) one in
      let behind = and_parts (holds marks union) (at_most (is_signal marks a) ends) both.1 in
      let function = function_to union as' in
      and_from (holds marks a) (holds marks function && at_most (is_signal marks a) (is_signal marks function)) both.0
      (and_from (holds marks function) (at_most (is_signal marks a) (is_signal marks function)) rest
      (ap (at_most (is_signal marks a)) (whole_signal marks as') ∙ behind.1))

  -- ---- one choice serves all

  simple_serves : (a : Written) → ((x : List ℕ) → Contains (variables a) x → Contains parameters x) → (marks : Marks) →
      holds marks (Arrow a union) ≡ true → holds none (Arrow a union) ≡ true
  simple_serves a within marks h =
      let both = and_parts (holds marks a) (holds marks union && at_most (is_signal marks a) ends) h in
      let behind = and_parts (holds marks union) (at_most (is_signal marks a) ends) both.1 in
      let same : Same marks none (variables a) =
      same_none marks (variables a) (λ x in'. parameters_off marks parameters behind.0 x (within x in')) in
      and_from (holds none a) (holds none union && at_most (is_signal none a) ends) (sym (same_holds marks none a same) ∙ both.0)
      (and_from (holds none union) (at_most (is_signal none a) ends) (none_simple parameters)
      (ap (λ (b : Bool). at_most b ends) (sym (same_signal marks none a same)) ∙ behind.1))

  whole_bars : (arguments : List Written) → EachMakesSense union arguments → bars_hold (function_to union arguments) ≡ true
  whole_bars [] each = variables_free parameters
  whole_bars (a ∷ as') each =
      and_from (bars_hold a) (bars_hold (function_to union as')) (and_parts (bars_hold a) (bars_hold union) each.0.bars).0 (whole_bars as' each.1)

  whole_none : (arguments : List Written) → HaveParameters parameters arguments → EachMakesSense union arguments →
      holds none (function_to union arguments) ≡ true
  whole_none [] have each = none_simple parameters
  whole_none (a ∷ as') have each =
      let marks = some_marks (Arrow a union) each.0.sorted in
      whole_holds none a as' (simple_serves a have.0 marks.0 marks.1) (whole_none as' have.1 each.1)

  to_whole : (arguments : List Written) → HaveParameters parameters arguments → EachMakesSense union arguments → MakesSense (function_to union arguments)
  to_whole arguments have each =
      let bars = whole_bars arguments each in record {
        bars = bars;
        sorted = well_sorted none (function_to union arguments) bars (whole_none arguments have each);
      }

  to_each : (arguments : List Written) (marks : Marks) → bars_hold (function_to union arguments) ≡ true →
      holds marks (function_to union arguments) ≡ true → EachMakesSense union arguments
  to_each [] marks bars h = tt
  to_each (a ∷ as') marks bars h =
      let rest = function_to union as' in
      let both = and_parts (bars_hold a) (bars_hold rest) bars in
      let own : bars_hold (Arrow a union) ≡ true = and_from (bars_hold a) (bars_hold union) both.0 (variables_free parameters) in
      let behind = and_parts (holds marks a) (holds marks rest && at_most (is_signal marks a) (is_signal marks rest)) h in (
        record {
          bars = own;
          sorted = well_sorted marks (Arrow a union) own (one_holds marks a as' h);
        },
        to_each as' marks both.1 (and_parts (holds marks rest) (at_most (is_signal marks a) (is_signal marks rest)) behind.1).0,
      )

  pub by_each_argument : (arguments : List Written) → HaveParameters parameters arguments →
      MakesSense (function_to union arguments) ↔ EachMakesSense union arguments
  by_each_argument arguments have = (
    λ it.
        let marks = some_marks (function_to union arguments) it.sorted in
        to_each arguments marks.0 it.bars marks.1,
    λ each. to_whole arguments have each,
  )
