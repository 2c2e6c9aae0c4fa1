-- What a tree's types are depends only on the top values that it refers to.
use Rattle.std.proofs.Common.{◌≡◌, ℕ, true, Some, List, [], ◌∷◌, ◌++◌, subst}
use Rattle.elm_typing.specs.Ground.{Ground, Grounds, Row}
use Rattle.elm_meaning.specs.FreeNames.{is_among}
use Rattle.typing_rules.specs.Unions.{ConstructorGives}
use Rattle.typing_rules.specs.Worlds.{Surroundings, World}
use Rattle.typing_rules.specs.Core.{Core, Cores, CoreFields, CoreGuards, CoreBranches, CoreGroup, Local, Top, Input, Literal, Native, Constructor, Held, Lambda, Call, If, Guards, Case, LetValue, LetFunctions, Tuple, ListOf, Range, Fields, Update, Extend, Remove, Field, NoCores, AndCore, NoCoreFields, AndCoreField, NoCoreGuards, AndCoreGuard, NoCoreBranches, AndCoreBranch, NoCoreFunctions, AndCoreFunction}
use Rattle.typing_rules.specs.CoreTypes.{names_in, CoreHas, AllCoresHave, EachIs, CoreGuardsHave, CoreBranchesHave, CoreFieldsOver, CoreNewestAre, CoreGroupHas, EachCoreHas}
use Rattle.typing_sound.specs.TopValues.{tops_in, tops_in_all, tops_in_fields, tops_in_guards, tops_in_branches, tops_in_group}
use Rattle.typing_sound.proofs.Combine.{Sub, Within, name_more, bound_more, work_more, generalised_more, Alike, well_more, incoming_more, called_more, branch_more, abstracted_more, chosen_more, cased_more, defined_more, grouped_more, of_parts_more, and_part_more, listed_more, ranged_more, SubOver, field_over_more, of_fields_more, extended_more, newest_is_more, updated_more, removed_more, field_of_more}
use Rattle.typing_sound.proofs.Used.{among_left, among_right, itself}

-- the second world gives these top values at least the types that the first gives them
pub record TopsOn (xs : List ℕ) (v w : World) : Type 0 where
  pub at : (n : ℕ) → is_among n xs ≡ true → Sub (v.tops n) (w.tops n)

left : (xs ys : List ℕ) (v w : World) → TopsOn (xs ++ ys) v w → TopsOn xs v w
left xs ys v w k = record { at = λ y e. k.at y (among_left y xs ys e) }

right : (xs ys : List ℕ) (v w : World) → TopsOn (xs ++ ys) v w → TopsOn ys v w
right xs ys v w k = record { at = λ y e. k.at y (among_right y xs ys e) }

module _ (v w : World) (a : Alike v w) where
  mutual
    pub core_tops : (e : Core) (s r : Surroundings) → TopsOn (tops_in e) v w → Within s r → Sub (CoreHas v s e) (CoreHas w r e)
    core_tops (Local y) s r c k = well_more v w _ _ a (k.at y)
    core_tops (Top n) s r c k = well_more v w _ _ a (c.at n (itself n))
    core_tops (Input n) s r c k = well_more v w _ _ a (incoming_more v w n a)
    core_tops (Literal value) s r c k = well_more v w _ _ a (λ t h. h)
    core_tops (Native n) s r c k = well_more v w _ _ a (λ t h. h)
    core_tops (Constructor u name n) s r c k = well_more v w _ _ a (λ t h. subst (λ z. ConstructorGives z (Some u) name n t) a.unions h)
    core_tops (Held written e) s r c k = well_more v w _ _ a (λ t h. (core_tops e s r c k t h.0, h.1))
    core_tops (Lambda p b) s r c k =
        well_more v w _ _ a (abstracted_more v w p (λ z. CoreHas v z b) (λ z. CoreHas w z b) s r a (λ from bs _. core_tops b _ _ c (bound_more bs s r k)))
    core_tops (Call f x) s r c k = well_more v w _ _ a (called_more _ _ _ _ (core_tops f s r (left _ _ v w c) k) (core_tops x s r (right (tops_in f) _ v w c) k))
    core_tops (If b y n) s r c k =
        let i = right (tops_in b) _ v w c in
        well_more v w _ _ a (chosen_more _ _ _ _ _ _ (core_tops b s r (left _ _ v w c) k) (core_tops y s r (left _ _ v w i) k) (core_tops n s r (right (tops_in y) _ v w i) k))
    core_tops (Guards gs) s r c k = well_more v w _ _ a (guards_tops gs s r c k)
    core_tops (Case e bs) s r c k = well_more v w _ _ a (cased_more v w _ _ _ _ a (core_tops e s r (left _ _ v w c) k) (branches_tops bs s r (right (tops_in e) _ v w c) k))
    core_tops (LetValue p e d) s r c k =
        let i = left _ _ v w c in
        let j = right (tops_in e) _ v w c in
        well_more v w _ _ a (defined_more v w p (λ z. CoreHas v z e) (λ z. CoreHas w z e) (λ z. CoreHas v z d) (λ z. CoreHas w z d) s r a
        (core_tops e s r i k) (λ x _. core_tops d _ _ j (name_more x _ _ s r (core_tops e s r i k) k)) (λ from bs _. core_tops d _ _ j (bound_more bs s r k)))
    core_tops (LetFunctions g d) s r c k =
        let i = left _ _ v w c in
        let j = right (tops_in_group g) _ v w c in
        well_more v w _ _ a (grouped_more v w (names_in g) (λ z. CoreGroupHas v z g) (λ z. CoreGroupHas w z g) (λ z. CoreHas v z d) (λ z. CoreHas w z d) s r a
        (λ ts. functions_tops g _ _ i (work_more (names_in g) ts s r k) ts)
        (core_tops d _ _ j (generalised_more (names_in g) 0 _ _ s r (λ ts. functions_tops g _ _ i (work_more (names_in g) ts s r k) ts) k)))
    core_tops (Tuple es) s r c k = well_more v w _ _ a (of_parts_more _ _ (all_tops es s r c k))
    core_tops (ListOf es) s r c k = well_more v w _ _ a (listed_more _ _ (each_tops es s r c k))
    core_tops (Range x y) s r c k = well_more v w _ _ a (ranged_more _ _ _ _ (core_tops x s r (left _ _ v w c) k) (core_tops y s r (right (tops_in x) _ v w c) k))
    core_tops (Fields fs) s r c k = well_more v w _ _ a (of_fields_more _ _ (over_tops fs s r c k))
    core_tops (Update e fs) s r c k = well_more v w _ _ a (updated_more _ _ _ _ (core_tops e s r (left _ _ v w c) k) (newest_tops fs s r (right (tops_in e) _ v w c) k))
    core_tops (Extend e fs) s r c k = well_more v w _ _ a (extended_more _ _ _ _ (core_tops e s r (left _ _ v w c) k) (over_tops fs s r (right (tops_in e) _ v w c) k))
    core_tops (Remove e label) s r c k = well_more v w _ _ a (removed_more _ _ label (core_tops e s r c k))
    core_tops (Field e label) s r c k = well_more v w _ _ a (field_of_more _ _ label (core_tops e s r c k))

    all_tops : (es : Cores) (s r : Surroundings) → TopsOn (tops_in_all es) v w → Within s r → (ts : Grounds) → AllCoresHave v s es ts → AllCoresHave w r es ts
    all_tops NoCores s r c k ts h = h
    all_tops (AndCore e es) s r c k ts h = and_part_more _ _ _ _ (core_tops e s r (left _ _ v w c) k) (all_tops es s r (right (tops_in e) _ v w c) k) ts h

    each_tops : (es : Cores) (s r : Surroundings) → TopsOn (tops_in_all es) v w → Within s r → Sub (EachIs v s es) (EachIs w r es)
    each_tops NoCores s r c k t h = h
    each_tops (AndCore e es) s r c k t h = (core_tops e s r (left _ _ v w c) k t h.0, each_tops es s r (right (tops_in e) _ v w c) k t h.1)

    guards_tops : (gs : CoreGuards) (s r : Surroundings) → TopsOn (tops_in_guards gs) v w → Within s r → Sub (CoreGuardsHave v s gs) (CoreGuardsHave w r gs)
    guards_tops NoCoreGuards s r c k t h = h
    guards_tops (AndCoreGuard b e gs) s r c k t h =
        let i = right (tops_in b) _ v w c in
        chosen_more _ _ _ _ _ _ (core_tops b s r (left _ _ v w c) k) (core_tops e s r (left _ _ v w i) k) (guards_tops gs s r (right (tops_in e) _ v w i) k) t h

    branches_tops : (bs : CoreBranches) (s r : Surroundings) → TopsOn (tops_in_branches bs) v w → Within s r → (from : Ground) → Sub (CoreBranchesHave v s bs from) (CoreBranchesHave w r bs from)
    branches_tops NoCoreBranches s r c k from t h = h
    branches_tops (AndCoreBranch p e bs) s r c k from t h = (
      branch_more v w p (λ z. CoreHas v z e) (λ z. CoreHas w z e) s r from a (λ d _. core_tops e _ _ (left _ _ v w c) (bound_more d s r k)) t h.0,
      branches_tops bs s r (right (tops_in e) _ v w c) k from t h.1,
    )

    over_tops : (fs : CoreFields) (s r : Surroundings) → TopsOn (tops_in_fields fs) v w → Within s r → SubOver (CoreFieldsOver v s fs) (CoreFieldsOver w r fs)
    over_tops NoCoreFields s r c k before row h = h
    over_tops (AndCoreField label e fs) s r c k before row h = field_over_more label _ _ _ _ (core_tops e s r (left _ _ v w c) k) (over_tops fs s r (right (tops_in e) _ v w c) k) before row h

    newest_tops : (fs : CoreFields) (s r : Surroundings) → TopsOn (tops_in_fields fs) v w → Within s r → (row : Row) → CoreNewestAre v s fs row → CoreNewestAre w r fs row
    newest_tops NoCoreFields s r c k row h = h
    newest_tops (AndCoreField label e fs) s r c k row h = (newest_is_more label _ _ (core_tops e s r (left _ _ v w c) k) row h.0, newest_tops fs s r (right (tops_in e) _ v w c) k row h.1)

    functions_tops : (g : CoreGroup) (s r : Surroundings) → TopsOn (tops_in_group g) v w → Within s r → (ts : List Ground) → EachCoreHas v s g ts → EachCoreHas w r g ts
    functions_tops NoCoreFunctions s r c k [] h = h
    functions_tops NoCoreFunctions s r c k (t ∷ ts) h = h
    functions_tops (AndCoreFunction name i p e g) s r c k [] h = h
    functions_tops (AndCoreFunction name i p e g) s r c k (t ∷ ts) h = (
      well_more v w _ _ a (abstracted_more v w p (λ z. CoreHas v z e) (λ z. CoreHas w z e) s r a (λ from bs _. core_tops e _ _ (left _ _ v w c) (bound_more bs s r k))) t h.0,
      h.1,
      functions_tops g s r (right (tops_in e) _ v w c) k ts h.2,
    )
