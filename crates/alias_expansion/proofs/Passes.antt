-- What a pass over the declarations gives: aliases that are built one behind the other; and where it adds none, none can be added.
use Rattle.std.proofs.Common.{◌≡◌, ℕ, zero, suc, ◌+◌, ◌≤◌, List, [], ◌∷◌, ◌++◌, length, refl, sym, ◌∙◌, ap, subst, arith, ⊎_elim, length-append, append-nil}
use Rattle.std.specs.List.{Contains}
use Rattle.module_groups.proofs.Members.{contains_here, contains_more, contains_cases, contains_none}
use Rattle.elm_base.specs.declared.tree.Module.{Module}
use Rattle.elm_base.specs.declared.tree.Declaration.{Declaration}
use Rattle.type_names.specs.declared.known.KnownType.{KnownType}
use Rattle.type_names.specs.Answers.{Places, places_in}
use Rattle.alias_expansion.specs.declared.plain_alias.PlainAlias.{PlainAlias}
use Rattle.alias_expansion.specs.Table.{added, IsBuilt, begun, further, IsDone, AreWrittenOut, walked, passed}

module _ (types : List KnownType) (modules : List Module) where
  walked_built : («module» : Module) → Contains modules «module» → (declarations : List Declaration) →
      ((d : Declaration) → Contains declarations d → Contains «module».declarations d) → (aliases : List PlainAlias) →
      IsBuilt types modules aliases → IsBuilt types modules (walked (places_in types «module») aliases declarations)
  walked_built «module» in' [] all aliases built = built
  walked_built «module» in' (d ∷ ds) all aliases built =
      walked_built «module» in' ds (λ other h. all other (contains_more d other ds h)) (aliases ++ added aliases (places_in types «module») d)
      (further aliases «module» d built in' (all d (contains_here d ds)))

  passed_on : (rest : List Module) → ((m : Module) → Contains rest m → Contains modules m) → (aliases : List PlainAlias) →
      IsBuilt types modules aliases → IsBuilt types modules (passed types aliases rest)
  passed_on [] all aliases built = built
  passed_on (m ∷ ms) all aliases built =
      passed_on ms (λ other h. all other (contains_more m other ms h)) (walked (places_in types m) aliases m.declarations)
      (walked_built m (all m (contains_here m ms)) m.declarations (λ d h. h) aliases built)

  -- a pass goes on from aliases that are built
  pub passed_built : (aliases : List PlainAlias) → IsBuilt types modules aliases → IsBuilt types modules (passed types aliases modules)
  passed_built aliases built = passed_on modules (λ m h. h) aliases built

walked_longer : (places : Places) (declarations : List Declaration) (aliases : List PlainAlias) → length aliases ≤ length (walked places aliases declarations)
walked_longer places [] aliases = omega arith
walked_longer places (d ∷ ds) aliases =
    let more = walked_longer places ds (aliases ++ added aliases places d) in
    let e = length-append aliases (added aliases places d) in
    omega (arith, more, e)

passed_longer : (types : List KnownType) (modules : List Module) (aliases : List PlainAlias) → length aliases ≤ length (passed types aliases modules)
passed_longer types [] aliases = omega arith
passed_longer types (m ∷ ms) aliases =
    let more = passed_longer types ms (walked (places_in types m) aliases m.declarations) in
    let one = walked_longer (places_in types m) m.declarations aliases in
    omega (arith, more, one)

no_item : (xs : List PlainAlias) → length xs ≤ 0 → xs ≡ []
no_item [] h = refl
no_item (x ∷ xs) h = absurd (omega (arith, h))

none_added : (aliases more : List PlainAlias) → length (aliases ++ more) ≤ length aliases → more ≡ []
none_added aliases more h =
    let e = length-append aliases more in
    no_item more (omega (arith, h, e))

same_with : (aliases more : List PlainAlias) → more ≡ [] → aliases ++ more ≡ aliases
same_with aliases more e = ap (λ (xs : List PlainAlias). aliases ++ xs) e ∙ append-nil aliases

module _ (places : Places) where
  first_none : (d : Declaration) (ds : List Declaration) (aliases : List PlainAlias) → length (walked places aliases (d ∷ ds)) ≤ length aliases →
      added aliases places d ≡ []
  first_none d ds aliases h =
      let more = walked_longer places ds (aliases ++ added aliases places d) in
      none_added aliases (added aliases places d) (omega (arith, h, more))

  rest_same : (d : Declaration) (ds : List Declaration) (aliases : List PlainAlias) → length (walked places aliases (d ∷ ds)) ≤ length aliases →
      length (walked places aliases ds) ≤ length aliases
  rest_same d ds aliases h =
      subst (λ (xs : List PlainAlias). length (walked places xs ds) ≤ length aliases)
      (same_with aliases (added aliases places d) (first_none d ds aliases h)) h

  walked_none : (ds : List Declaration) (aliases : List PlainAlias) → length (walked places aliases ds) ≤ length aliases → (d : Declaration) →
      Contains ds d → added aliases places d ≡ []
  walked_none [] aliases h d in' = absurd (contains_none d in')
  walked_none (x ∷ xs) aliases h d in' =
      ⊎_elim (λ (e : x ≡ d). subst (λ (y : Declaration). added aliases places y ≡ []) e (first_none x xs aliases h))
      (λ (later : Contains xs d). walked_none xs aliases (rest_same x xs aliases h) d later) (contains_cases x d xs in')

  walked_stays : (ds : List Declaration) (aliases : List PlainAlias) → length (walked places aliases ds) ≤ length aliases → walked places aliases ds ≡ aliases
  walked_stays [] aliases h = refl
  walked_stays (x ∷ xs) aliases h =
      ap (λ (ys : List PlainAlias). walked places ys xs) (same_with aliases (added aliases places x) (first_none x xs aliases h))
      ∙ walked_stays xs aliases (rest_same x xs aliases h)

-- where a pass adds none, no declaration can be added
pub passed_none : (types : List KnownType) (modules : List Module) (aliases : List PlainAlias) → length (passed types aliases modules) ≤ length aliases →
    (m : Module) → Contains modules m → IsDone types aliases m
passed_none types [] aliases h m in' = absurd (contains_none m in')
passed_none types (x ∷ xs) aliases h m in' =
    let own : length (walked (places_in types x) aliases x.declarations) ≤ length aliases =
    let more = passed_longer types xs (walked (places_in types x) aliases x.declarations) in omega (arith, h, more) in
    let same : walked (places_in types x) aliases x.declarations ≡ aliases = walked_stays (places_in types x) x.declarations aliases own in
    ⊎_elim (λ (e : x ≡ m). subst (λ (y : Module). IsDone types aliases y) e (walked_none (places_in types x) x.declarations aliases own))
    (λ (later : Contains xs m).
    passed_none types xs aliases (subst (λ (ys : List PlainAlias). length (passed types ys xs) ≤ length aliases) same h) m later)
    (contains_cases x m xs in')

pub passed_stays : (types : List KnownType) (modules : List Module) (aliases : List PlainAlias) → length (passed types aliases modules) ≤ length aliases →
    passed types aliases modules ≡ aliases
passed_stays types [] aliases h = refl
passed_stays types (x ∷ xs) aliases h =
    let own : length (walked (places_in types x) aliases x.declarations) ≤ length aliases =
    let more = passed_longer types xs (walked (places_in types x) aliases x.declarations) in omega (arith, h, more) in
    let same : walked (places_in types x) aliases x.declarations ≡ aliases = walked_stays (places_in types x) x.declarations aliases own in
    ap (λ (ys : List PlainAlias). passed types ys xs) same
    ∙ passed_stays types xs aliases (subst (λ (ys : List PlainAlias). length (passed types ys xs) ≤ length aliases) same h)

-- aliases that a pass leaves as they are, are all that can be written out
pub passed_all : (types : List KnownType) (modules : List Module) (aliases : List PlainAlias) → IsBuilt types modules aliases →
    length (passed types aliases modules) ≡ length aliases → AreWrittenOut types modules (passed types aliases modules)
passed_all types modules aliases built e =
    subst (λ (ys : List PlainAlias). AreWrittenOut types modules ys) (sym (passed_stays types modules aliases (omega (arith, e))))
    (record {
      built = built;
      done = passed_none types modules aliases (omega (arith, e));
    })
