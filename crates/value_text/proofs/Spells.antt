-- A piece's text is what is written at once and the texts of the pieces that follow.
use Rattle.std.proofs.Common.{◌≡◌, ℕ, zero, suc, ◌<◌, ◌≤◌, Bool, true, false, if◌then◌else◌, Option, Some, None, List, [], ◌∷◌, ◌++◌, length, get_or, drop, refl, sym, ap, ◌∙◌, subst, arith, append_assoc, codes}
use Rattle.std.specs.List.{slice_get}
use Rattle.std.specs.Str.{bytes_eq}
use Rattle.std.proofs.lemmas.List.{append-nil}
use Rattle.std.proofs.lemmas.Option.{slice_get-get_or}
use Rattle.elm_meaning.specs.Values.{Value}
use Rattle.elm_meaning.specs.ValueText.{text_of, more_elements, more_parts, arguments_text, more_fields, takes_brackets}
use Rattle.value_arena.specs.declared.node.Node.{Node}
use Rattle.value_arena.specs.declared.node.Node.TheVariants.{Int as IntNode, Char as CharNode, Text as TextNode, Unit as UnitNode, Nil as NilNode, Cons as ConsNode, Tuple as TupleNode, Made as MadeNode, Fields as FieldsNode, Closure as ClosureNode, Partial as PartialNode, Cells as CellsNode, Signal as SignalNode}
use Rattle.value_arena.specs.Soundness.{RefsBelow, FieldsBelow, PartsBelow, Unfolds}
use Rattle.value_arena.specs.Unfolding.{Lambdas, value_of, values_of, values_at, fields_at, unfolded}
use Rattle.value_text.specs.declared.piece.Piece.{Piece}
use Rattle.value_text.specs.declared.piece.Piece.TheVariants.{Whole, Rest, Parts, Arguments, Fields, Closing}
use Rattle.value_text.specs.Pieces.{refs_of, fields_of, label_of, piece_text, waiting, opening, opening_of, written, next, inner, element_opening, more_of_list, comma_or, then_part, argument_opening, then_argument, bracketed, has_arguments, field_opening, then_field, shown_field, shown_value, PieceBelow, PiecesBelow}
use Rattle.value_text.specs.Sizes.{size, rest_size, parts_size, fields_size, piece_size, sizes}
use Rattle.value_text.proofs.Steps.{drop_some, drop_none, none_behind, ref_below, refs_below_more}

-- what follows a piece is smaller than the piece
abbrev pub Spells : Lambdas → List Node → Piece → Type 0
Spells lambdas nodes p =
    (piece_text lambdas nodes p ≡ written nodes p ++ waiting lambdas nodes (next nodes p))
    × (sizes lambdas nodes (next nodes p) < piece_size lambdas nodes p)

-- ---- whole values

whole_text : (lambdas : Lambdas) (nodes : List Node) (at : ℕ) (node : Node) → slice_get nodes at ≡ Some node
    → text_of (value_of lambdas (values_of lambdas nodes) node) ≡ opening node ++ waiting lambdas nodes (inner at (Some node))
whole_text lambdas nodes at (IntNode n) s = sym (append-nil (opening (IntNode n)))
whole_text lambdas nodes at (CharNode c) s = sym (append-nil (opening (CharNode c)))
whole_text lambdas nodes at (TextNode b) s = sym (append-nil (opening (TextNode b)))
whole_text lambdas nodes at UnitNode s = refl
whole_text lambdas nodes at NilNode s = refl
whole_text lambdas nodes at (ConsNode head tail) s = refl
whole_text lambdas nodes at (TupleNode []) s = rw s refl
whole_text lambdas nodes at (TupleNode (r ∷ rs)) s =
    rw s (ap (λ (x : List ℕ). 40 ∷ x) (append_assoc (text_of (unfolded lambdas nodes r)) (more_parts (values_at (values_of lambdas nodes) rs)) (41 ∷ [])))
whole_text lambdas nodes at (MadeNode k args) s = rw s refl
whole_text lambdas nodes at (FieldsNode []) s = refl
whole_text lambdas nodes at (FieldsNode (f ∷ fs)) s =
    rw s (append_assoc ((codes "{ " ++ f.0) ++ codes " = ") (text_of (unfolded lambdas nodes f.1)) (more_fields f.0 (fields_at (values_of lambdas nodes) fs)))
whole_text lambdas nodes at (ClosureNode l c) s = refl
whole_text lambdas nodes at (PartialNode l c) s = refl
whole_text lambdas nodes at (CellsNode w h r) s = refl
whole_text lambdas nodes at (SignalNode n) s = refl

whole_size : (lambdas : Lambdas) (nodes : List Node) (at : ℕ) (node : Node) → slice_get nodes at ≡ Some node
    → sizes lambdas nodes (inner at (Some node)) < size (value_of lambdas (values_of lambdas nodes) node)
whole_size lambdas nodes at (ConsNode head tail) s = omega arith
whole_size lambdas nodes at (TupleNode []) s = rw s (omega arith)
whole_size lambdas nodes at (TupleNode (r ∷ rs)) s = rw s (omega arith)
whole_size lambdas nodes at (MadeNode k args) s = rw s (omega arith)
whole_size lambdas nodes at (FieldsNode []) s = omega arith
whole_size lambdas nodes at (FieldsNode (f ∷ fs)) s = rw s (omega arith)
whole_size lambdas nodes at _ s = omega arith

found : (nodes : List Node) (at : ℕ) → at < length nodes → slice_get nodes at ≡ Some (get_or nodes at UnitNode)
found nodes at h = slice_get-get_or nodes at UnitNode h

spells_whole : (lambdas : Lambdas) (nodes : List Node) (at : ℕ) → Unfolds nodes → at < length nodes → Spells lambdas nodes (Whole at)
spells_whole lambdas nodes at u h =
    let node = get_or nodes at UnitNode in
    let s = found nodes at h in
    let v : unfolded lambdas nodes at ≡ value_of lambdas (values_of lambdas nodes) node = (u at node s).1 lambdas in (
      ap text_of v ∙ whole_text lambdas nodes at node s ∙ ap (λ (o : Option Node). opening_of o ++ waiting lambdas nodes (inner at o)) (sym s),
      subst (λ (o : Option Node). sizes lambdas nodes (inner at o) < size (unfolded lambdas nodes at)) (sym s)
          (subst (λ (x : Value). sizes lambdas nodes (inner at (Some node)) < size x) (sym v) (whole_size lambdas nodes at node s)),
    )

-- ---- the rest of a list

rest_text : (lambdas : Lambdas) (nodes : List Node) (node : Node)
    → more_elements (value_of lambdas (values_of lambdas nodes) node) ≡ element_opening (Some node) ++ waiting lambdas nodes (more_of_list (Some node))
rest_text lambdas nodes (ConsNode head tail) = refl
rest_text lambdas nodes _ = refl

rest_sizes : (lambdas : Lambdas) (nodes : List Node) (node : Node) → sizes lambdas nodes (more_of_list (Some node)) < rest_size (value_of lambdas (values_of lambdas nodes) node)
rest_sizes lambdas nodes (ConsNode head tail) = omega arith
rest_sizes lambdas nodes _ = omega arith

spells_rest : (lambdas : Lambdas) (nodes : List Node) (at : ℕ) → Unfolds nodes → at < length nodes → Spells lambdas nodes (Rest at)
spells_rest lambdas nodes at u h =
    let node = get_or nodes at UnitNode in
    let s = found nodes at h in
    let v : unfolded lambdas nodes at ≡ value_of lambdas (values_of lambdas nodes) node = (u at node s).1 lambdas in (
      ap more_elements v ∙ rest_text lambdas nodes node ∙ ap (λ (o : Option Node). element_opening o ++ waiting lambdas nodes (more_of_list o)) (sym s),
      subst (λ (o : Option Node). sizes lambdas nodes (more_of_list o) < rest_size (unfolded lambdas nodes at)) (sym s)
          (subst (λ (x : Value). sizes lambdas nodes (more_of_list (Some node)) < rest_size x) (sym v) (rest_sizes lambdas nodes node)),
    )

-- ---- parts and arguments

parts_go : (lambdas : Lambdas) (nodes : List Node) (at from : ℕ) (o : Option ℕ) → slice_get (refs_of (slice_get nodes at)) from ≡ o
    → (piece_text lambdas nodes (Parts at from) ≡ comma_or (codes ")") o ++ waiting lambdas nodes (then_part at from o))
    × (sizes lambdas nodes (then_part at from o) < piece_size lambdas nodes (Parts at from))
parts_go lambdas nodes at from None s =
    let e = drop_none (refs_of (slice_get nodes at)) from s in (
      ap (λ (rs : List ℕ). more_parts (values_at (values_of lambdas nodes) rs) ++ codes ")") e,
      subst (λ (rs : List ℕ). 0 < parts_size (values_at (values_of lambdas nodes) rs)) (sym e) (omega arith),
    )
parts_go lambdas nodes at from (Some r) s =
    let rest = drop (suc from) (refs_of (slice_get nodes at)) in
    let e = drop_some (refs_of (slice_get nodes at)) from r s in (
      ap (λ (rs : List ℕ). more_parts (values_at (values_of lambdas nodes) rs) ++ codes ")") e
          ∙ ap (λ (x : List ℕ). 44 ∷ x) (append_assoc (text_of (unfolded lambdas nodes r)) (more_parts (values_at (values_of lambdas nodes) rest)) (codes ")")),
      subst (λ (rs : List ℕ). sizes lambdas nodes (then_part at from (Some r)) < parts_size (values_at (values_of lambdas nodes) rs)) (sym e) (omega arith),
    )

brackets_node : (lambdas : Lambdas) (values : List Value) (node : Node) → takes_brackets (value_of lambdas values node) ≡ has_arguments (Some node)
brackets_node lambdas values (MadeNode k []) = refl
brackets_node lambdas values (MadeNode k (r ∷ rs)) = refl
brackets_node lambdas values _ = refl

brackets : (lambdas : Lambdas) (nodes : List Node) (r : ℕ) → Unfolds nodes → r < length nodes → takes_brackets (unfolded lambdas nodes r) ≡ has_arguments (slice_get nodes r)
brackets lambdas nodes r u h =
    let node = get_or nodes r UnitNode in
    let s = found nodes r h in
    ap takes_brackets ((u r node s).1 lambdas) ∙ brackets_node lambdas (values_of lambdas nodes) node ∙ ap has_arguments (sym s)

argument_turn : (lambdas : Lambdas) (nodes : List Node) (at from r : ℕ) (b : Bool) (rest : List ℕ) → takes_brackets (unfolded lambdas nodes r) ≡ b
    → rest ≡ drop (suc from) (refs_of (slice_get nodes at))
    → (arguments_text (values_at (values_of lambdas nodes) (r ∷ rest)) ≡ (if b then codes " (" else codes " ") ++ waiting lambdas nodes (Arguments at (suc from) ∷ bracketed b r))
    × (sizes lambdas nodes (Arguments at (suc from) ∷ bracketed b r) < parts_size (values_at (values_of lambdas nodes) (r ∷ rest)))
argument_turn lambdas nodes at from r true rest p e = (
  rw (p, e) refl,
  rw e (omega arith),
)
argument_turn lambdas nodes at from r false rest p e = (
  rw (p, e) refl,
  rw e (omega arith),
)

arguments_go : (lambdas : Lambdas) (nodes : List Node) (at from : ℕ) (o : Option ℕ) → Unfolds nodes → RefsBelow (length nodes) (refs_of (slice_get nodes at))
    → slice_get (refs_of (slice_get nodes at)) from ≡ o
    → (piece_text lambdas nodes (Arguments at from) ≡ argument_opening nodes o ++ waiting lambdas nodes (then_argument nodes at from o))
    × (sizes lambdas nodes (then_argument nodes at from o) < piece_size lambdas nodes (Arguments at from))
arguments_go lambdas nodes at from None u b s =
    let e = drop_none (refs_of (slice_get nodes at)) from s in (
      ap (λ (rs : List ℕ). arguments_text (values_at (values_of lambdas nodes) rs)) e,
      subst (λ (rs : List ℕ). 0 < parts_size (values_at (values_of lambdas nodes) rs)) (sym e) (omega arith),
    )
arguments_go lambdas nodes at from (Some r) u b s =
    let rest = drop (suc from) (refs_of (slice_get nodes at)) in
    let e = drop_some (refs_of (slice_get nodes at)) from r s in
    let turn =
    argument_turn lambdas nodes at from r (has_arguments (slice_get nodes r)) rest (brackets lambdas nodes r u (ref_below (length nodes) _ from r b s)) refl in (
      ap (λ (rs : List ℕ). arguments_text (values_at (values_of lambdas nodes) rs)) e ∙ turn.0,
      subst (λ (rs : List ℕ). sizes lambdas nodes (then_argument nodes at from (Some r)) < parts_size (values_at (values_of lambdas nodes) rs)) (sym e) turn.1,
    )

-- ---- fields

field_turn : (lambdas : Lambdas) (nodes : List Node) (at last : ℕ) (before : List ℕ) (g : List ℕ × ℕ) (b : Bool) (rest : List (List ℕ × ℕ)) → bytes_eq before g.0 ≡ b
    → rest ≡ drop (suc (suc last)) (fields_of (slice_get nodes at)) → g.0 ≡ label_of (slice_get (fields_of (slice_get nodes at)) (suc last))
    → (more_fields before (fields_at (values_of lambdas nodes) (g ∷ rest)) ≡ shown_field b g.0 ++ waiting lambdas nodes (Fields at (suc last) ∷ shown_value b g.1))
    × (sizes lambdas nodes (Fields at (suc last) ∷ shown_value b g.1) < fields_size (fields_at (values_of lambdas nodes) (g ∷ rest)))
field_turn lambdas nodes at last before g true rest p e l = (
  rw p (ap (λ (fs : List (List ℕ × ℕ)). more_fields g.0 (fields_at (values_of lambdas nodes) fs)) e
      ∙ ap (λ (label : List ℕ). more_fields label (fields_at (values_of lambdas nodes) (drop (suc (suc last)) (fields_of (slice_get nodes at))))) l),
  rw e (omega arith),
)
field_turn lambdas nodes at last before g false rest p e l = (
  rw p (append_assoc ((codes ", " ++ g.0) ++ codes " = ") (text_of (unfolded lambdas nodes g.1)) (more_fields g.0 (fields_at (values_of lambdas nodes) rest))
      ∙ ap (λ (x : List ℕ). ((codes ", " ++ g.0) ++ codes " = ") ++ (text_of (unfolded lambdas nodes g.1) ++ x))
      (ap (λ (fs : List (List ℕ × ℕ)). more_fields g.0 (fields_at (values_of lambdas nodes) fs)) e
      ∙ ap (λ (label : List ℕ). more_fields label (fields_at (values_of lambdas nodes) (drop (suc (suc last)) (fields_of (slice_get nodes at))))) l)),
  rw e (omega arith),
)

fields_go : (lambdas : Lambdas) (nodes : List Node) (at last : ℕ) (o p : Option (List ℕ × ℕ))
    → slice_get (fields_of (slice_get nodes at)) last ≡ o → slice_get (fields_of (slice_get nodes at)) (suc last) ≡ p
    → (more_fields (label_of o) (fields_at (values_of lambdas nodes) (drop (suc last) (fields_of (slice_get nodes at)))) ≡ field_opening o p ++ waiting lambdas nodes (then_field at last o p))
    × (sizes lambdas nodes (then_field at last o p) < piece_size lambdas nodes (Fields at last))
fields_go lambdas nodes at last None p s t =
    let e = drop_none (fields_of (slice_get nodes at)) (suc last) (none_behind (fields_of (slice_get nodes at)) last s) in (
      ap (λ (fs : List (List ℕ × ℕ)). more_fields [] (fields_at (values_of lambdas nodes) fs)) e,
      subst (λ (fs : List (List ℕ × ℕ)). 0 < fields_size (fields_at (values_of lambdas nodes) fs)) (sym e) (omega arith),
    )
fields_go lambdas nodes at last (Some f) None s t =
    let e = drop_none (fields_of (slice_get nodes at)) (suc last) t in (
      ap (λ (fs : List (List ℕ × ℕ)). more_fields f.0 (fields_at (values_of lambdas nodes) fs)) e,
      subst (λ (fs : List (List ℕ × ℕ)). 0 < fields_size (fields_at (values_of lambdas nodes) fs)) (sym e) (omega arith),
    )
fields_go lambdas nodes at last (Some f) (Some g) s t =
    let fields = fields_of (slice_get nodes at) in
    let rest = drop (suc (suc last)) fields in
    let e = drop_some fields (suc last) g t in
    let turn = field_turn lambdas nodes at last f.0 g (bytes_eq f.0 g.0) rest refl refl (ap label_of (sym t)) in (
      ap (λ (fs : List (List ℕ × ℕ)). more_fields f.0 (fields_at (values_of lambdas nodes) fs)) e ∙ turn.0,
      subst (λ (fs : List (List ℕ × ℕ)). sizes lambdas nodes (then_field at last (Some f) (Some g)) < fields_size (fields_at (values_of lambdas nodes) fs)) (sym e) turn.1,
    )

-- ---- every piece

pub refs_in_node : (n at : ℕ) (node : Node) → at < n → PartsBelow at node → RefsBelow n (refs_of (Some node))
refs_in_node n at (TupleNode parts) h p = refs_below_more at n parts (omega arith) p
refs_in_node n at (MadeNode k arguments) h p = refs_below_more at n arguments (omega arith) p
refs_in_node n at _ h p = tt

pub refs_there : (nodes : List Node) (at : ℕ) → Unfolds nodes → at < length nodes → RefsBelow (length nodes) (refs_of (slice_get nodes at))
refs_there nodes at u h =
    let s = found nodes at h in
    subst (λ (o : Option Node). RefsBelow (length nodes) (refs_of o)) (sym s) (refs_in_node (length nodes) at (get_or nodes at UnitNode) h (u at _ s).0.0)

pub spells : (lambdas : Lambdas) (nodes : List Node) (p : Piece) → Unfolds nodes → PieceBelow (length nodes) p → Spells lambdas nodes p
spells lambdas nodes (Whole at) u h = spells_whole lambdas nodes at u h
spells lambdas nodes (Rest at) u h = spells_rest lambdas nodes at u h
spells lambdas nodes (Parts at from) u h = parts_go lambdas nodes at from (slice_get (refs_of (slice_get nodes at)) from) refl
spells lambdas nodes (Arguments at from) u h =
    arguments_go lambdas nodes at from (slice_get (refs_of (slice_get nodes at)) from) u (refs_there nodes at u h) refl
spells lambdas nodes (Fields at last) u h =
    fields_go lambdas nodes at last (slice_get (fields_of (slice_get nodes at)) last) (slice_get (fields_of (slice_get nodes at)) (suc last)) refl refl
spells lambdas nodes Closing u h = (refl, omega arith)

-- ---- what follows stands in the store

below_inner : (n at : ℕ) (node : Node) → at < n → PartsBelow at node → PiecesBelow n (inner at (Some node))
below_inner n at (ConsNode head tail) h p = (omega (arith, p.1), (omega (arith, p.0), tt))
below_inner n at (TupleNode []) h p = (h, tt)
below_inner n at (TupleNode (r ∷ rs)) h p = (h, (omega (arith, p.0), tt))
below_inner n at (MadeNode k args) h p = (h, tt)
below_inner n at (FieldsNode []) h p = tt
below_inner n at (FieldsNode (f ∷ fs)) h p = (h, (omega (arith, p.0), tt))
below_inner n at _ h p = tt

below_list : (n at : ℕ) (node : Node) → at < n → PartsBelow at node → PiecesBelow n (more_of_list (Some node))
below_list n at (ConsNode head tail) h p = (omega (arith, p.1), (omega (arith, p.0), tt))
below_list n at _ h p = tt

below_part : (n at from : ℕ) (refs : List ℕ) (o : Option ℕ) → at < n → RefsBelow n refs → slice_get refs from ≡ o → PiecesBelow n (then_part at from o)
below_part n at from refs None h b s = tt
below_part n at from refs (Some r) h b s = (h, (ref_below n refs from r b s, tt))

below_bracketed : (n r : ℕ) (b : Bool) → r < n → PiecesBelow n (bracketed b r)
below_bracketed n r true h = (tt, (h, tt))
below_bracketed n r false h = (h, tt)

below_argument : (nodes : List Node) (n at from : ℕ) (refs : List ℕ) (o : Option ℕ) → at < n → RefsBelow n refs → slice_get refs from ≡ o → PiecesBelow n (then_argument nodes at from o)
below_argument nodes n at from refs None h b s = tt
below_argument nodes n at from refs (Some r) h b s = (h, below_bracketed n r (has_arguments (slice_get nodes r)) (ref_below n refs from r b s))

field_below : (n : ℕ) (fields : List (List ℕ × ℕ)) (i : ℕ) (f : List ℕ × ℕ) → FieldsBelow n fields → slice_get fields i ≡ Some f → f.1 < n
field_below n [] i f h k = absurd (cc)
field_below n (g ∷ gs) zero f h k = let e : g ≡ f = cc in subst (λ (x : List ℕ × ℕ). x.1 < n) e h.0
field_below n (g ∷ gs) (suc i) f h k = field_below n gs i f h.1 k

below_shown : (n r : ℕ) (b : Bool) → r < n → PiecesBelow n (shown_value b r)
below_shown n r true h = tt
below_shown n r false h = (h, tt)

below_field : (n at last : ℕ) (fields : List (List ℕ × ℕ)) (o p : Option (List ℕ × ℕ)) → at < n → FieldsBelow n fields → slice_get fields (suc last) ≡ p → PiecesBelow n (then_field at last o p)
below_field n at last fields None p h b s = tt
below_field n at last fields (Some f) None h b s = tt
below_field n at last fields (Some f) (Some g) h b s = (h, below_shown n g.1 (bytes_eq f.0 g.0) (field_below n fields (suc last) g b s))

fields_more : (m n : ℕ) (fields : List (List ℕ × ℕ)) → m ≤ n → FieldsBelow m fields → FieldsBelow n fields
fields_more m n [] l h = tt
fields_more m n (f ∷ fs) l h = (omega (arith, h.0), fields_more m n fs l h.1)

fields_in_node : (n at : ℕ) (node : Node) → at < n → PartsBelow at node → FieldsBelow n (fields_of (Some node))
fields_in_node n at (FieldsNode fields) h p = fields_more at n fields (omega arith) p
fields_in_node n at _ h p = tt

fields_there : (nodes : List Node) (at : ℕ) → Unfolds nodes → at < length nodes → FieldsBelow (length nodes) (fields_of (slice_get nodes at))
fields_there nodes at u h =
    let s = found nodes at h in
    subst (λ (o : Option Node). FieldsBelow (length nodes) (fields_of o)) (sym s) (fields_in_node (length nodes) at (get_or nodes at UnitNode) h (u at _ s).0.0)

pub follows_below : (nodes : List Node) (p : Piece) → Unfolds nodes → PieceBelow (length nodes) p → PiecesBelow (length nodes) (next nodes p)
follows_below nodes (Whole at) u h =
    let s = found nodes at h in
    subst (λ (o : Option Node). PiecesBelow (length nodes) (inner at o)) (sym s) (below_inner (length nodes) at (get_or nodes at UnitNode) h (u at _ s).0.0)
follows_below nodes (Rest at) u h =
    let s = found nodes at h in
    subst (λ (o : Option Node). PiecesBelow (length nodes) (more_of_list o)) (sym s) (below_list (length nodes) at (get_or nodes at UnitNode) h (u at _ s).0.0)
follows_below nodes (Parts at from) u h = below_part (length nodes) at from _ (slice_get (refs_of (slice_get nodes at)) from) h (refs_there nodes at u h) refl
follows_below nodes (Arguments at from) u h =
    below_argument nodes (length nodes) at from _ (slice_get (refs_of (slice_get nodes at)) from) h (refs_there nodes at u h) refl
follows_below nodes (Fields at last) u h =
    below_field (length nodes) at last (fields_of (slice_get nodes at)) (slice_get (fields_of (slice_get nodes at)) last) (slice_get (fields_of (slice_get nodes at)) (suc last)) h
    (fields_there nodes at u h) refl
follows_below nodes Closing u h = tt
