-- More surroundings type no less: what has a type has it where names, top values and nodes have more types.
use Rattle.std.proofs.Common.{ℕ, None, List, [], ◌∷◌, subst}
use Rattle.elm_typing.specs.Ground.{Ground, Grounds, Row, NoGrounds, AndGround, Ends}
use Rattle.elm_meaning.specs.declared.callee.Callee.{Callee}
use Rattle.elm_meaning.specs.declared.callee.Callee.TheVariants as callee
use Rattle.elm_meaning.specs.Values.{Value, Values, Fields, Function, Int, Char, Text, Unit as UnitValue, Nil, Cons, Tuple, Made, Record, Applicable, Cells, Signal, NoValues, AndValue, NoFields, AndField, Closure, Member, Partial, Tree, Done, Local, Top, Input, Lambda, Call, If, Guards, Case, LetValue, LetFunctions, TupleTree, ListTree, Range, RecordTree, Update, Extend, Remove, Field, NoTree, Trees, NoTrees, AndTree, FieldTrees, NoFieldTrees, AndFieldTree, GuardedTrees, NoGuards, AndGuard, Branches, NoBranches, AndBranch, Group, NoFunctions, AndFunction}
use Rattle.elm_meaning.specs.FreeNames.{function_names}
use Rattle.elm_meaning.specs.Evaluation.{number_of}
use Rattle.typing_rules.specs.Unions.{UnionGives, ConstructorGives}
use Rattle.typing_rules.specs.CorePatterns.{core_pattern}
use Rattle.typing_rules.specs.Worlds.{Surroundings, no_surroundings, World}
use Rattle.typing_rules.specs.TermTypes.{CalleeGives, ValueHas, ValuesHave, FieldsHave, AreTaken, FunctionHas, TermHas, AllHave, EachHas, GuardsHave, BranchesHave, FieldsOver, NewestAre, EachFunctionHas, GroupHas}
use Rattle.typing_sound.proofs.Combine.{Sub, Within, same_within, name_more, bound_more, work_more, given_more, generalised_more, Alike, proper_more, well_more, incoming_more, called_more, branch_more, abstracted_more, chosen_more, cased_more, defined_more, grouped_more, of_parts_more, and_part_more, listed_more, ranged_more, SubOver, field_over_more, of_fields_more, extended_more, newest_is_more, updated_more, removed_more, field_of_more}

-- the second world has at least the types of the first
pub record Below (v w : World) : Type 0 where
  pub alike : Alike v w
  pub tops : (n : ℕ) → Sub (v.tops n) (w.tops n)
  pub nodes : (n : ℕ) → Sub (v.nodes n) (w.nodes n)

module _ (v w : World) (b : Below v w) where
  pub callee_more : (c : Callee) → Sub (CalleeGives v c) (CalleeGives w c)
  callee_more (callee.Native n) t h = (h.0, proper_more v w t b.alike h.1)
  callee_more (callee.Constructor name takes) t h =
      (subst (λ z. ConstructorGives z None name takes t) b.alike.unions h.0, proper_more v w t b.alike h.1)

  mutual
    pub value_more : (x : Value) (z : Surroundings) → Sub (ValueHas v x) (ValueHas w x)
    value_more (Int z) o t h = h
    value_more (Char code) o t h = h
    value_more (Text bytes) o t h = h
    value_more UnitValue o t h = h
    value_more Nil o t h = h
    value_more (Cons x xs) o t h = (h.0, h.1, value_more x o _ h.2, value_more xs o _ h.3)
    value_more (Tuple xs) o t h = (h.0, h.1, values_more xs o _ h.2)
    value_more (Made k xs) o t h =
        (h.0, subst (λ z. UnionGives z None k (number_of xs) h.0) b.alike.unions h.1, proper_more v w h.0 b.alike h.2, taken_more xs o _ t h.3)
    value_more (Record fs) o t h = (h.0, h.1, fields_more fs o _ h.2)
    value_more (Applicable f) o t h = function_more f o t h
    value_more (Cells width height rows) o t h = h
    value_more (Signal n) o t h = (h.0, h.1, b.nodes n _ h.2)

    pub values_more : (xs : Values) (z : Surroundings) (ts : Grounds) → ValuesHave v xs ts → ValuesHave w xs ts
    values_more NoValues o NoGrounds h = h
    values_more NoValues o (AndGround t ts) h = h
    values_more (AndValue x xs) o NoGrounds h = h
    values_more (AndValue x xs) o (AndGround t ts) h = (value_more x o t h.0, values_more xs o ts h.1)

    pub fields_more : (fs : Fields) (z : Surroundings) (row : Row) → FieldsHave v fs row → FieldsHave w fs row
    fields_more NoFields o (Ends rest) h = h
    fields_more NoFields o (Row.Field l t row) h = h
    fields_more (AndField l x fs) o (Ends rest) h = h
    fields_more (AndField l x fs) o (Row.Field k t row) h = (h.0, value_more x o t h.1, fields_more fs o row h.2)

    pub taken_more : (xs : Values) (z : Surroundings) (whole : Ground) → Sub (AreTaken v xs whole) (AreTaken w xs whole)
    taken_more NoValues o whole t h = h
    taken_more (AndValue x xs) o (Ground.Function a r) t h = (value_more x o a h.0, taken_more xs o r t h.1)
    taken_more (AndValue x xs) o (Ground.Named n ts) t h = absurd h
    taken_more (AndValue x xs) o (Ground.Tuple ts) t h = absurd h
    taken_more (AndValue x xs) o (Ground.Record row) t h = absurd h
    taken_more (AndValue x xs) o (Ground.Opaque n f) t h = absurd h

    pub function_more : (f : Function) (z : Surroundings) → Sub (FunctionHas v f) (FunctionHas w f)
    function_more (Closure p e) o t h =
        abstracted_more v w (core_pattern p) (λ s. TermHas v s e) (λ s. TermHas w s e) no_surroundings no_surroundings b.alike
        (λ from bs k. term_more e _ _ (bound_more bs _ _ (same_within no_surroundings))) t h
    function_more (Member i g) o t h =
        given_more i (GroupHas v no_surroundings g) (GroupHas w no_surroundings g)
        (λ ts k. each_function_more g _ _ (work_more (function_names g) ts _ _ (same_within no_surroundings)) ts k) t h
    function_more (Partial c xs) o t h = (h.0, callee_more c h.0 h.1, taken_more xs o h.0 t h.2, h.3)

    pub term_more : (e : Tree) (s r : Surroundings) → Within s r → Sub (TermHas v s e) (TermHas w r e)
    term_more (Done x) s r k = well_more v w _ _ b.alike (value_more x s)
    term_more (Local y) s r k = well_more v w _ _ b.alike (k.at y)
    term_more (Top n) s r k = well_more v w _ _ b.alike (b.tops n)
    term_more (Input n) s r k = well_more v w _ _ b.alike (incoming_more v w n b.alike)
    term_more (Lambda p e) s r k =
        well_more v w _ _ b.alike (abstracted_more v w (core_pattern p) (λ z. TermHas v z e) (λ z. TermHas w z e) s r b.alike
        (λ from bs _. term_more e _ _ (bound_more bs s r k)))
    term_more (Call f a) s r k = well_more v w _ _ b.alike (called_more _ _ _ _ (term_more f s r k) (term_more a s r k))
    term_more (If c y n) s r k =
        well_more v w _ _ b.alike (chosen_more _ _ _ _ _ _ (term_more c s r k) (term_more y s r k) (term_more n s r k))
    term_more (Guards gs) s r k = well_more v w _ _ b.alike (guards_more gs s r k)
    term_more (Case e bs) s r k =
        well_more v w _ _ b.alike (cased_more v w _ _ _ _ b.alike (term_more e s r k) (branches_more bs s r k))
    term_more (LetValue p e d) s r k =
        well_more v w _ _ b.alike (defined_more v w (core_pattern p) (λ z. TermHas v z e) (λ z. TermHas w z e) (λ z. TermHas v z d) (λ z. TermHas w z d) s r b.alike
        (term_more e s r k) (λ x _. term_more d _ _ (name_more x _ _ s r (term_more e s r k) k)) (λ from bs _. term_more d _ _ (bound_more bs s r k)))
    term_more (LetFunctions g d) s r k =
        well_more v w _ _ b.alike (grouped_more v w (function_names g) (λ z. GroupHas v z g) (λ z. GroupHas w z g) (λ z. TermHas v z d) (λ z. TermHas w z d) s r b.alike
        (λ ts. each_function_more g _ _ (work_more (function_names g) ts s r k) ts)
        (term_more d _ _ (generalised_more (function_names g) 0 _ _ s r (λ ts. each_function_more g _ _ (work_more (function_names g) ts s r k) ts) k)))
    term_more (TupleTree es) s r k = well_more v w _ _ b.alike (of_parts_more _ _ (all_more es s r k))
    term_more (ListTree es) s r k = well_more v w _ _ b.alike (listed_more _ _ (each_more es s r k))
    term_more (Range l h) s r k = well_more v w _ _ b.alike (ranged_more _ _ _ _ (term_more l s r k) (term_more h s r k))
    term_more (RecordTree fs) s r k = well_more v w _ _ b.alike (of_fields_more _ _ (over_more fs s r k))
    term_more (Update e fs) s r k = well_more v w _ _ b.alike (updated_more _ _ _ _ (term_more e s r k) (newest_more fs s r k))
    term_more (Extend e fs) s r k = well_more v w _ _ b.alike (extended_more _ _ _ _ (term_more e s r k) (over_more fs s r k))
    term_more (Remove e l) s r k = well_more v w _ _ b.alike (removed_more _ _ l (term_more e s r k))
    term_more (Field e l) s r k = well_more v w _ _ b.alike (field_of_more _ _ l (term_more e s r k))
    term_more NoTree s r k = λ t h. absurd h.1

    pub all_more : (es : Trees) (s r : Surroundings) → Within s r → (ts : Grounds) → AllHave v s es ts → AllHave w r es ts
    all_more NoTrees s r k ts h = h
    all_more (AndTree e es) s r k ts h = and_part_more _ _ _ _ (term_more e s r k) (all_more es s r k) ts h

    pub each_more : (es : Trees) (s r : Surroundings) → Within s r → Sub (EachHas v s es) (EachHas w r es)
    each_more NoTrees s r k t h = h
    each_more (AndTree e es) s r k t h = (term_more e s r k t h.0, each_more es s r k t h.1)

    pub guards_more : (gs : GuardedTrees) (s r : Surroundings) → Within s r → Sub (GuardsHave v s gs) (GuardsHave w r gs)
    guards_more NoGuards s r k t h = h
    guards_more (AndGuard c e gs) s r k t h = chosen_more _ _ _ _ _ _ (term_more c s r k) (term_more e s r k) (guards_more gs s r k) t h

    pub branches_more : (bs : Branches) (s r : Surroundings) → Within s r → (from : Ground) → Sub (BranchesHave v s bs from) (BranchesHave w r bs from)
    branches_more NoBranches s r k from t h = h
    branches_more (AndBranch p e bs) s r k from t h = (
      branch_more v w (core_pattern p) (λ z. TermHas v z e) (λ z. TermHas w z e) s r from b.alike (λ d _. term_more e _ _ (bound_more d s r k)) t h.0,
      branches_more bs s r k from t h.1,
    )

    pub over_more : (fs : FieldTrees) (s r : Surroundings) → Within s r → SubOver (FieldsOver v s fs) (FieldsOver w r fs)
    over_more NoFieldTrees s r k before row h = h
    over_more (AndFieldTree l e fs) s r k before row h = field_over_more l _ _ _ _ (term_more e s r k) (over_more fs s r k) before row h

    pub newest_more : (fs : FieldTrees) (s r : Surroundings) → Within s r → (row : Row) → NewestAre v s fs row → NewestAre w r fs row
    newest_more NoFieldTrees s r k row h = h
    newest_more (AndFieldTree l e fs) s r k row h = (newest_is_more l _ _ (term_more e s r k) row h.0, newest_more fs s r k row h.1)

    pub each_function_more : (g : Group) (s r : Surroundings) → Within s r → (ts : List Ground) → EachFunctionHas v s g ts → EachFunctionHas w r g ts
    each_function_more NoFunctions s r k [] h = h
    each_function_more NoFunctions s r k (t ∷ ts) h = h
    each_function_more (AndFunction name p e g) s r k [] h = h
    each_function_more (AndFunction name p e g) s r k (t ∷ ts) h = (
      well_more v w _ _ b.alike (abstracted_more v w (core_pattern p) (λ z. TermHas v z e) (λ z. TermHas w z e) s r b.alike (λ from bs _. term_more e _ _ (bound_more bs s r k))) t h.0,
      each_function_more g s r k ts h.1,
    )
