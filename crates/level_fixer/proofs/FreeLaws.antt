-- Where no chain lacks a tree, what is fixed has no chain.
use Rattle.std.proofs.Common.{◌≡◌, ℕ, Bool, true, false, ◌||◌, nat_eq, suc, Option, None, Some, List, [], ◌∷◌, length, map, refl, sym, ◌∙◌, ap, subst, arith, not, true≢false}
use Rattle.std.proofs.lemmas.Bool.{or_left, not_from_false, ne_eqb}
use Rattle.std.proofs.lemmas.List.{length-map}
use Rattle.std.proofs.lemmas.Option.{none-some}
use Rattle.elm_base.specs.declared.fault.ProjectFault.{ProjectFault}
use Rattle.elm_base.specs.declared.token.At.{At}
use Rattle.elm_base.specs.declared.tree.Operator.{Operator}
use Rattle.elm_base.specs.declared.tree.Pattern.{Pattern}
use Rattle.elm_base.specs.declared.tree.Set.{Set, roll-Set, map-Set}
use Rattle.elm_base.specs.declared.tree.Expr.{Expr, roll-Expr, map-Expr}
use Rattle.elm_base.specs.declared.tree.Expr.TheVariants as e
use Rattle.elm_base.specs.declared.tree.Declaration.{Declaration, roll-Declaration, out-Declaration, map-Declaration}
use Rattle.elm_base.specs.declared.tree.Declaration.TheOpen as tree
use Rattle.elm_base.specs.declared.tree.Declaration.TheFolds.{fold-roll-Expr, fold-roll-Declaration, fold-roll-Set, fold_out-Declaration, ind-Expr, ind-Declaration}
use Rattle.elm_base.specs.declared.tree.Module.{Module}
use Rattle.elm_base.specs.declared.project.Project.{Project}
use Rattle.operator_trees.specs.declared.binding.Binding.{Binding}
use Rattle.operator_trees.specs.declared.binding.Below.{Below}
use Rattle.operator_trees.specs.declared.binding.Below.TheVariants as below
use Rattle.operator_trees.specs.Chains.{binds, expr_of, binary, place}
use Rattle.operator_trees.specs.Levels.{Declared}
use Rattle.operator_trees.specs.Roots.{which_below}
use Rattle.operator_trees.specs.Trees.{OperatorTree, Operand, Applied}
use Rattle.level_fixer.specs.ChainFree.{chain_step, expr_has_chain, set_has_chain, declaration_has_chain, module_has_chain, has_chain}
use Rattle.level_fixer.specs.Clashes.{any, declaration_step, expr_step, expr_clashes, set_clashes, declaration_clashes, has_no_tree}
use Rattle.level_fixer.specs.FixedTrees.{fixed_expr, fixed_set, fixed_declaration, fixed_layer, fixed_module, fixed_project, of_chain}
use Rattle.level_fixer.specs.GrownTrees.{where_below, put_behind, grown}
use Rattle.level_fixer.specs.ProjectLevels.{bad_fixity, clash_at, declared_in, declaration_fault, fault_layer, first_of, module_fault, project_fault}

split : (a b : Bool) → (a || b) ≡ false → (a ≡ false) × (b ≡ false)
split true b h = absurd (true≢false h)
split false b h = (refl, h)

neither : (a b : Bool) → a ≡ false → b ≡ false → (a || b) ≡ false
neither false b h k = k
neither true b h k = h

both : (a b x y : Bool) → (a ≡ false → x ≡ false) → (b ≡ false → y ≡ false) → (a || b) ≡ false → (x || y) ≡ false
both a b x y h k none = let parts = split a b none in neither x y (h parts.0) (k parts.1)

-- of all parts
all_free : {A : Type 0} (bad has : A → Bool) (fixed : A → A) (xs : List ((x : A) × (bad x ≡ false → has (fixed x) ≡ false)))
    → any (map bad (map (λ x. x.0) xs)) ≡ false → any (map has (map fixed (map (λ x. x.0) xs))) ≡ false
all_free bad has fixed [] h = refl
all_free bad has fixed (x ∷ xs) h =
    both (bad x.0) _ (has (fixed x.0)) _ x.1 (all_free bad has fixed xs) h

-- ---- the tree of a chain

-- no operand has a chain
abbrev Free : OperatorTree Operator Expr → Type 0
Free (Operand x) = expr_has_chain x ≡ false
Free (Applied o l r) = Free l × Free r

free_expr : (t : OperatorTree Operator Expr) → Free t → expr_has_chain (expr_of t) ≡ false
free_expr (Operand x) h = h
free_expr (Applied o l r) h =
    ap expr_has_chain (sym (e.rolls-Binary (place (expr_of l)) o (expr_of l) (expr_of r)))
    ∙ fold-roll-Expr Bool Bool Bool declaration_step chain_step (λ set. set.value) (tree.Binary (place (expr_of l)) o (expr_of l) (expr_of r))
    ∙ neither (expr_has_chain (expr_of l)) (expr_has_chain (expr_of r)) (free_expr l h.0) (free_expr r h.1)

either_free : (w : Below) (x y : OperatorTree Operator Expr) → Free x → Free y → Free (where_below w x y)
either_free below.Second x y h k = h
either_free below.First x y h k = k
either_free below.Neither x y h k = k

module _ (binding : Operator → Binding) where
  put_free : (t : OperatorTree Operator Expr) (o : Operator) (x : Expr) → Free t → expr_has_chain x ≡ false → Free (put_behind binding t o x)
  put_free (Operand a) o x h k = (h, k)
  put_free (Applied p l r) o x h k =
      either_free (which_below (binding p) (binding o)) (Applied p l (put_behind binding r o x)) (Applied o (Applied p l r) (Operand x))
      (h.0, put_free r o x h.1 k) (h, k)

  grown_free : (t : OperatorTree Operator Expr) (os : List Operator) (xs : List Expr) → Free t → any (map expr_has_chain xs) ≡ false
      → Free (grown binding t os xs)
  grown_free t [] xs h k = h
  grown_free t (o ∷ os) [] h k = h
  grown_free t (o ∷ os) (x ∷ xs) h k =
      let parts = split (expr_has_chain x) (any (map expr_has_chain xs)) k in
      grown_free (put_behind binding t o x) os xs (put_free t o x h parts.0) parts.1

module _ (d : Declared) where
  chain_free : (at : At) (xs : List Expr) (os : List Operator) → any (map expr_has_chain xs) ≡ false → has_no_tree d (length xs) os ≡ false
      → expr_has_chain (of_chain d at xs os) ≡ false
  chain_free at [] os h k = absurd (true≢false (sym (or_left (not (nat_eq 0 (suc (length os)))) _ (not_from_false _ (ne_eqb 0 (suc (length os)) (λ z. omega (arith, z))))) ∙ k))
  chain_free at (x ∷ xs) os h k =
      let parts = split (expr_has_chain x) (any (map expr_has_chain xs)) h in
      free_expr (grown (binds d) (Operand x) os xs) (grown_free (binds d) (Operand x) os xs parts.0 parts.1)

  -- ---- trees, by their parts

  abbrev FreeExpr : Expr → Type 0
  FreeExpr x = expr_clashes d x ≡ false → expr_has_chain (fixed_expr d x) ≡ false

  abbrev FreeSet : Set → Type 0
  FreeSet x = set_clashes d x ≡ false → set_has_chain (fixed_set d x) ≡ false

  abbrev FreeDeclaration : Declaration → Type 0
  FreeDeclaration x = declaration_clashes d x ≡ false → declaration_has_chain (fixed_declaration d x) ≡ false

  abbrev FreePart : Type 0
  FreePart = (x : Expr) × FreeExpr x

  abbrev PairOfFree : Type 0
  PairOfFree = FreePart × FreePart

  guards_free : (ys : List PairOfFree)
      → any (map (λ (b : Bool × Bool). b.0 || b.1) (map (λ (b : Expr × Expr). (expr_clashes d b.0, expr_clashes d b.1)) (map (λ (y : PairOfFree). (y.0.0, y.1.0)) ys))) ≡ false
      → any (map (λ (b : Bool × Bool). b.0 || b.1) (map (λ (b : Expr × Expr). (expr_has_chain b.0, expr_has_chain b.1))
      (map (λ (b : Expr × Expr). (fixed_expr d b.0, fixed_expr d b.1)) (map (λ (y : PairOfFree). (y.0.0, y.1.0)) ys)))) ≡ false
  guards_free [] h = refl
  guards_free (y ∷ ys) h =
      both (expr_clashes d y.0.0 || expr_clashes d y.1.0) _ (expr_has_chain (fixed_expr d y.0.0) || expr_has_chain (fixed_expr d y.1.0)) _
      (both (expr_clashes d y.0.0) _ (expr_has_chain (fixed_expr d y.0.0)) _ y.0.1 y.1.1) (guards_free ys) h

  branches_free : (ys : List (Pattern × FreePart))
      → any (map (λ (b : Pattern × Bool). b.1) (map (λ (b : Pattern × Expr). (b.0, expr_clashes d b.1)) (map (λ (y : Pattern × FreePart). (y.0, y.1.0)) ys))) ≡ false
      → any (map (λ (b : Pattern × Bool). b.1) (map (λ (b : Pattern × Expr). (b.0, expr_has_chain b.1))
      (map (λ (b : Pattern × Expr). (b.0, fixed_expr d b.1)) (map (λ (y : Pattern × FreePart). (y.0, y.1.0)) ys)))) ≡ false
  branches_free [] h = refl
  branches_free (y ∷ ys) h = both (expr_clashes d y.1.0) _ (expr_has_chain (fixed_expr d y.1.0)) _ y.1.1 (branches_free ys) h

  abbrev Layer : Type 0
  Layer = tree.Expr-F Declaration Expr Set

  abbrev clash_map : Layer → tree.Expr-F Bool Bool Bool
  clash_map = map-Expr Declaration Expr Set Bool Bool Bool (declaration_clashes d) (expr_clashes d) (set_clashes d)

  abbrev chain_map : Layer → tree.Expr-F Bool Bool Bool
  chain_map = map-Expr Declaration Expr Set Bool Bool Bool declaration_has_chain expr_has_chain set_has_chain

  abbrev fixed_map : Layer → Layer
  fixed_map = map-Expr Declaration Expr Set Declaration Expr Set (fixed_declaration d) (fixed_expr d) (fixed_set d)

  -- a node that is no chain
  node : (x : Layer) → fixed_layer d (fixed_map x) ≡ roll-Expr (fixed_map x)
      → (expr_step d (clash_map x) ≡ false → chain_step (chain_map (fixed_map x)) ≡ false) → FreeExpr (roll-Expr x)
  node x e h clash =
      ap expr_has_chain (fold-roll-Expr Declaration Expr Set roll-Declaration (fixed_layer d) roll-Set x ∙ e)
      ∙ fold-roll-Expr Bool Bool Bool declaration_step chain_step (λ set. set.value) (fixed_map x)
      ∙ h (sym (fold-roll-Expr Bool Bool Bool declaration_step (expr_step d) (λ set. set.value) x) ∙ clash)

  lone : (x : Layer) → fixed_layer d (fixed_map x) ≡ roll-Expr (fixed_map x) → chain_step (chain_map (fixed_map x)) ≡ false → FreeExpr (roll-Expr x)
  lone x e h = node x e (λ clash. h)

  chain_node : (at : At) (es : List Expr) (os : List Operator)
      → (any (map (expr_clashes d) es) ≡ false → any (map expr_has_chain (map (fixed_expr d) es)) ≡ false) → FreeExpr (roll-Expr (tree.Chain at es os))
  chain_node at es os h clash =
      let known = sym (fold-roll-Expr Bool Bool Bool declaration_step (expr_step d) (λ set. set.value) (tree.Chain at es os)) ∙ clash in
      let parts = split (any (map (expr_clashes d) es)) (has_no_tree d (length (map (expr_clashes d) es)) os) known in
      ap expr_has_chain (fold-roll-Expr Declaration Expr Set roll-Declaration (fixed_layer d) roll-Set (tree.Chain at es os))
      ∙ chain_free at (map (fixed_expr d) es) os (h parts.0)
      (ap (λ n. has_no_tree d n os) (length-map es (fixed_expr d) ∙ sym (length-map es (expr_clashes d))) ∙ parts.1)

  abbrev FreeDefinition : Type 0
  FreeDefinition = (x : Declaration) × FreeDeclaration x

  abbrev FreeField : Type 0
  FreeField = (x : Set) × FreeSet x

  two : (x y : FreePart) → (expr_clashes d x.0 || expr_clashes d y.0) ≡ false → (expr_has_chain (fixed_expr d x.0) || expr_has_chain (fixed_expr d y.0)) ≡ false
  two x y = both (expr_clashes d x.0) (expr_clashes d y.0) (expr_has_chain (fixed_expr d x.0)) (expr_has_chain (fixed_expr d y.0)) x.1 y.1

  node_free : (y : tree.Expr-F FreeDefinition FreePart FreeField)
      → FreeExpr (roll-Expr (map-Expr FreeDefinition FreePart FreeField Declaration Expr Set (λ x. x.0) (λ x. x.0) (λ x. x.0) y))
  node_free (tree.Chain at xs os) = chain_node at (map (λ x. x.0) xs) os (all_free (expr_clashes d) expr_has_chain (fixed_expr d) xs)
  node_free (tree.Binary at o x y) = node (tree.Binary at o x.0 y.0) refl (two x y)
  node_free (tree.Negate at x) = node (tree.Negate at x.0) refl x.1
  node_free (tree.Call at f xs) = node (tree.Call at f.0 (map (λ x. x.0) xs)) refl
      (both (expr_clashes d f.0) _ (expr_has_chain (fixed_expr d f.0)) _ f.1 (all_free (expr_clashes d) expr_has_chain (fixed_expr d) xs))
  node_free (tree.Int at n) = lone (tree.Int at n) refl refl
  node_free (tree.Char at c) = lone (tree.Char at c) refl refl
  node_free (tree.Text at t) = lone (tree.Text at t) refl refl
  node_free (tree.Variable at n) = lone (tree.Variable at n) refl refl
  node_free (tree.Constructor at n) = lone (tree.Constructor at n) refl refl
  node_free (tree.FieldFunction at l) = lone (tree.FieldFunction at l) refl refl
  node_free (tree.Access at x l) = node (tree.Access at x.0 l) refl x.1
  node_free (tree.OperatorName at n) = lone (tree.OperatorName at n) refl refl
  node_free (tree.TupleMaker at n) = lone (tree.TupleMaker at n) refl refl
  node_free (tree.Unit at) = lone (tree.Unit at) refl refl
  node_free (tree.Brackets at x) = node (tree.Brackets at x.0) refl x.1
  node_free (tree.Tuple at xs) = node (tree.Tuple at (map (λ x. x.0) xs)) refl (all_free (expr_clashes d) expr_has_chain (fixed_expr d) xs)
  node_free (tree.List at xs) = node (tree.List at (map (λ x. x.0) xs)) refl (all_free (expr_clashes d) expr_has_chain (fixed_expr d) xs)
  node_free (tree.Range at x y) = node (tree.Range at x.0 y.0) refl (two x y)
  node_free (tree.Fields at xs) = node (tree.Fields at (map (λ x. x.0) xs)) refl (all_free (set_clashes d) set_has_chain (fixed_set d) xs)
  node_free (tree.Extend at x xs) = node (tree.Extend at x.0 (map (λ x. x.0) xs)) refl
      (both (expr_clashes d x.0) _ (expr_has_chain (fixed_expr d x.0)) _ x.1 (all_free (set_clashes d) set_has_chain (fixed_set d) xs))
  node_free (tree.Update at x xs) = node (tree.Update at x.0 (map (λ x. x.0) xs)) refl
      (both (expr_clashes d x.0) _ (expr_has_chain (fixed_expr d x.0)) _ x.1 (all_free (set_clashes d) set_has_chain (fixed_set d) xs))
  node_free (tree.Remove at x l xs) = node (tree.Remove at x.0 l (map (λ x. x.0) xs)) refl
      (both (expr_clashes d x.0) _ (expr_has_chain (fixed_expr d x.0)) _ x.1 (all_free (set_clashes d) set_has_chain (fixed_set d) xs))
  node_free (tree.Lambda at ps x) = node (tree.Lambda at ps x.0) refl x.1
  node_free (tree.If at x y z) = node (tree.If at x.0 y.0 z.0) refl (both (expr_clashes d x.0) _ (expr_has_chain (fixed_expr d x.0)) _ x.1 (two y z))
  node_free (tree.Guards at xs) = node (tree.Guards at (map (λ (y : PairOfFree). (y.0.0, y.1.0)) xs)) refl (guards_free xs)
  node_free (tree.Let at ds x) = node (tree.Let at (map (λ x. x.0) ds) x.0) refl
      (both _ (expr_clashes d x.0) _ (expr_has_chain (fixed_expr d x.0)) (all_free (declaration_clashes d) declaration_has_chain (fixed_declaration d) ds) x.1)
  node_free (tree.Case at x bs) = node (tree.Case at x.0 (map (λ (y : Pattern × FreePart). (y.0, y.1.0)) bs)) refl
      (both (expr_clashes d x.0) _ (expr_has_chain (fixed_expr d x.0)) _ x.1 (branches_free bs))

  set_free : (x : tree.Set-F Declaration Expr Set) → FreeExpr x.value → FreeSet (roll-Set x)
  set_free x h clash =
      ap set_has_chain (fold-roll-Set Declaration Expr Set roll-Declaration (fixed_layer d) roll-Set x)
      ∙ fold-roll-Set Bool Bool Bool declaration_step chain_step (λ set. set.value) (record x { value = fixed_expr d x.value })
      ∙ h (sym (fold-roll-Set Bool Bool Bool declaration_step (expr_step d) (λ set. set.value) x) ∙ clash)

  field_free : (y : tree.Set-F FreeDefinition FreePart FreeField)
      → FreeSet (roll-Set (map-Set FreeDefinition FreePart FreeField Declaration Expr Set (λ x. x.0) (λ x. x.0) (λ x. x.0) y))
  field_free y = set_free (record { at = y.at; label = y.label; value = y.value.0 }) y.value.1

  abbrev Top : Type 0
  Top = tree.Declaration-F Declaration Expr Set

  abbrev fixed_top : Top → Top
  fixed_top = map-Declaration Declaration Expr Set Declaration Expr Set (fixed_declaration d) (fixed_expr d) (fixed_set d)

  abbrev clash_top : Top → tree.Declaration-F Bool Bool Bool
  clash_top = map-Declaration Declaration Expr Set Bool Bool Bool (declaration_clashes d) (expr_clashes d) (set_clashes d)

  top : (x : Top) → (declaration_step (clash_top x) ≡ false
      → declaration_step (map-Declaration Declaration Expr Set Bool Bool Bool declaration_has_chain expr_has_chain set_has_chain (fixed_top x)) ≡ false)
      → FreeDeclaration (roll-Declaration x)
  top x h clash =
      ap declaration_has_chain (fold-roll-Declaration Declaration Expr Set roll-Declaration (fixed_layer d) roll-Set x)
      ∙ fold-roll-Declaration Bool Bool Bool declaration_step chain_step (λ set. set.value) (fixed_top x)
      ∙ h (sym (fold-roll-Declaration Bool Bool Bool declaration_step (expr_step d) (λ set. set.value) x) ∙ clash)

  top_free : (y : tree.Declaration-F FreeDefinition FreePart FreeField)
      → FreeDeclaration (roll-Declaration (map-Declaration FreeDefinition FreePart FreeField Declaration Expr Set (λ x. x.0) (λ x. x.0) (λ x. x.0) y))
  top_free (tree.Definition at name patterns body) = top (tree.Definition at name patterns body.0) body.1
  top_free (tree.PatternDefinition at pattern body) = top (tree.PatternDefinition at pattern body.0) body.1
  top_free (tree.PortDefinition at name body) = top (tree.PortDefinition at name body.0) body.1
  top_free (tree.Union a b c e) = top (tree.Union a b c e) (λ h. refl)
  top_free (tree.Alias a b c e) = top (tree.Alias a b c e) (λ h. refl)
  top_free (tree.Annotation a b c) = top (tree.Annotation a b c) (λ h. refl)
  top_free (tree.PortAnnotation a b c) = top (tree.PortAnnotation a b c) (λ h. refl)
  top_free (tree.Levels a b c e) = top (tree.Levels a b c e) (λ h. refl)
  top_free (tree.Native a b c e) = top (tree.Native a b c e) (λ h. refl)
  top_free (tree.Device a b c) = top (tree.Device a b c) (λ h. refl)
  top_free (tree.Opaque a b c) = top (tree.Opaque a b c) (λ h. refl)

  declaration_free : (x : Declaration) → FreeDeclaration x
  declaration_free = ind-Declaration FreeDeclaration FreeExpr FreeSet (λ x y is. subst (λ z. FreeDeclaration (roll-Declaration z)) is (top_free y))
      (λ x y is. subst (λ z. FreeExpr (roll-Expr z)) is (node_free y))
      (λ x y is. subst (λ z. FreeSet (roll-Set z)) is (field_free y))

  -- ---- a project without a fault

  no_clash_at : (m : List ℕ) (at : At) (name : List ℕ) (clashes : Bool) → clash_at m at name clashes ≡ None → clashes ≡ false
  no_clash_at m at name false h = refl
  no_clash_at m at name true h = absurd (none-some (bad_fixity m at name) (sym h))

  no_clash : (m : List ℕ) (x : Top) → fault_layer d m (declaration_step (clash_top x)) x ≡ None → declaration_step (clash_top x) ≡ false
  no_clash m (tree.Definition at name patterns body) h = no_clash_at m at name (expr_clashes d body) h
  no_clash m (tree.PatternDefinition at pattern body) h = no_clash_at m at [] (expr_clashes d body) h
  no_clash m (tree.PortDefinition at name body) h = no_clash_at m at name.name (expr_clashes d body) h
  no_clash m (tree.Union a b c e) h = refl
  no_clash m (tree.Alias a b c e) h = refl
  no_clash m (tree.Annotation a b c) h = refl
  no_clash m (tree.PortAnnotation a b c) h = refl
  no_clash m (tree.Levels a b c e) h = refl
  no_clash m (tree.Native a b c e) h = refl
  no_clash m (tree.Device a b c) h = refl
  no_clash m (tree.Opaque a b c) h = refl

  right_free : (m : List ℕ) (x : Declaration) → declaration_fault d m x ≡ None → declaration_has_chain (fixed_declaration d x) ≡ false
  right_free m x h =
      let opened = fold_out-Declaration Bool Bool Bool declaration_step (expr_step d) (λ set. set.value) x in
      declaration_free x (opened ∙ no_clash m (out-Declaration x) (subst (λ c. fault_layer d m c (out-Declaration x) ≡ None) opened h))

none_first : {A : Type 0} (x : Option A) (xs : List (Option A)) → first_of (x ∷ xs) ≡ None → (x ≡ None) × (first_of xs ≡ None)
none_first None xs h = (refl, h)
none_first (Some x) xs h = absurd (none-some x (sym h))

-- of each of several, where none has a fault
each_free : {A : Type 0} (fault : A → Option ProjectFault) (fixed : A → A) (has : A → Bool)
    → ((x : A) → fault x ≡ None → has (fixed x) ≡ false)
    → (xs : List A) → first_of (map fault xs) ≡ None → any (map has (map fixed xs)) ≡ false
each_free fault fixed has h [] none = refl
each_free fault fixed has h (x ∷ xs) none =
    let parts = none_first (fault x) (map fault xs) none in
    neither (has (fixed x)) (any (map has (map fixed xs))) (h x parts.0) (each_free fault fixed has h xs parts.1)

module_free : (d : Declared) (m : Module) → module_fault d m ≡ None → module_has_chain (fixed_module d m) ≡ false
module_free d m = each_free (declaration_fault d m.name) (fixed_declaration d) declaration_has_chain (right_free d m.name) m.declarations

pub project_free : (p : Project) → project_fault p ≡ None → has_chain (fixed_project p) ≡ false
project_free p = each_free (module_fault (declared_in p)) (fixed_module (declared_in p)) module_has_chain (module_free (declared_in p)) p.modules
