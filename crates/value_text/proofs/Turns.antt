-- A turn of the writing.
use Rattle.std.proofs.Common.{◌≡◌, ℕ, ◌+◌, ◌<◌, ◌≤◌, List, [], ◌∷◌, ◌++◌, length, drop, sym, ap, ◌∙◌, subst, arith, append_assoc}
use Rattle.std.proofs.lemmas.List.{append-nil, drop_at}
use Rattle.elm_meaning.specs.Texts.{char_count}
use Rattle.value_arena.specs.declared.node.Node.{Node}
use Rattle.value_arena.specs.Soundness.{Unfolds}
use Rattle.value_arena.specs.Unfolding.{Lambdas}
use Rattle.value_text.specs.declared.piece.Piece.{Piece}
use Rattle.value_text.specs.Counting.{completed, open_after}
use Rattle.value_text.specs.Pieces.{waiting, written, next, PieceBelow, PiecesBelow}
use Rattle.value_text.specs.Sizes.{sizes}
use Rattle.value_text.proofs.Counts.{counted, open-append, completed-append}
use Rattle.value_text.proofs.Steps.{no_lambdas, waiting-append, sizes-append, below-append, below-split}
use Rattle.value_text.proofs.Spells.{spells, follows_below}

pub popped_below : (n : ℕ) (ps ps' : List Piece) (p : Piece) → PiecesBelow n ps → ps ≡ ps' ++ p ∷ [] → PiecesBelow n ps' × PieceBelow n p
popped_below n ps ps' p h e = below-split n ps' p (subst (PiecesBelow n) e h)

pub written_turn : (lambdas : Lambdas) (nodes : List Node) (text text' : List ℕ) (ps ps' ps'' : List Piece) (p : Piece) (whole : List ℕ)
    → Unfolds nodes → PiecesBelow (length nodes) ps → ps ≡ ps' ++ p ∷ [] → text' ≡ text ++ written nodes p → ps'' ≡ ps' ++ next nodes p
    → text ++ waiting lambdas nodes ps ≡ whole → text' ++ waiting lambdas nodes ps'' ≡ whole
written_turn lambdas nodes text text' ps ps' ps'' p whole u b e t n h =
    let w = written nodes p in
    let follows = waiting lambdas nodes (next nodes p) in
    let others = waiting lambdas nodes ps' in
    let spelled = (spells lambdas nodes p u (popped_below (length nodes) ps ps' p b e).1).0 in
    let before : waiting lambdas nodes ps ≡ (w ++ follows) ++ others =
    ap (waiting lambdas nodes) e ∙ waiting-append lambdas nodes ps' (p ∷ []) ∙ ap (λ (x : List ℕ). x ++ others) spelled in
    let after : waiting lambdas nodes ps'' ≡ follows ++ others = ap (waiting lambdas nodes) n ∙ waiting-append lambdas nodes ps' (next nodes p) in
    ap (λ (x : List ℕ). x ++ waiting lambdas nodes ps'') t
    ∙ ap (λ (x : List ℕ). (text ++ w) ++ x) after
    ∙ append_assoc text w (follows ++ others)
    ∙ ap (λ (x : List ℕ). text ++ x) (sym (append_assoc w follows others) ∙ sym before)
    ∙ h

pub smaller_turn : (nodes : List Node) (ps ps' ps'' : List Piece) (p : Piece) → Unfolds nodes → PiecesBelow (length nodes) ps → ps ≡ ps' ++ p ∷ [] → ps'' ≡ ps' ++ next nodes p
    → sizes no_lambdas nodes ps'' < sizes no_lambdas nodes ps
smaller_turn nodes ps ps' ps'' p u b e n =
    let spelled = (spells no_lambdas nodes p u (popped_below (length nodes) ps ps' p b e).1).1 in
    let before = ap (sizes no_lambdas nodes) e ∙ sizes-append no_lambdas nodes ps' (p ∷ []) in
    let after = ap (sizes no_lambdas nodes) n ∙ sizes-append no_lambdas nodes ps' (next nodes p) in
    omega (arith, spelled, before, after)

pub below_turn : (nodes : List Node) (ps ps' ps'' : List Piece) (p : Piece) → Unfolds nodes → PiecesBelow (length nodes) ps → ps ≡ ps' ++ p ∷ [] → ps'' ≡ ps' ++ next nodes p
    → PiecesBelow (length nodes) ps''
below_turn nodes ps ps' ps'' p u b e n =
    let popped = popped_below (length nodes) ps ps' p b e in
    subst (PiecesBelow (length nodes)) (sym n) (below-append (length nodes) ps' (next nodes p) popped.0 (follows_below nodes p u popped.1))

-- what was written is what stands behind the text before
written_part : (text text' w slice : List ℕ) (n : ℕ) → text' ≡ text ++ w → n ≡ length text → slice ≡ drop n text' → slice ≡ w
written_part text text' w slice n t l s = s ∙ ap (drop n) t ∙ drop_at text w n (sym l)

pub budget_turn : (text text' w slice : List ℕ) (n left left' following following' limit : ℕ) → text' ≡ text ++ w → n ≡ length text → slice ≡ drop n text'
    → left + completed 0 text ≡ limit → following ≡ open_after 0 text → left' + completed following slice ≡ left → following' ≡ open_after following slice
    → (left' + completed 0 text' ≡ limit) × (following' ≡ open_after 0 text')
budget_turn text text' w slice n left left' following following' limit t l s h o k q =
    let same = written_part text text' w slice n t l s in
    let count : completed 0 text' ≡ completed 0 text + completed following slice =
    ap (completed 0) t ∙ completed-append 0 text w ∙ ap (λ (x : ℕ). completed 0 text + completed x w) (sym o) ∙ ap (λ (x : List ℕ). completed 0 text + completed following x) (sym same) in
    let state : open_after 0 text' ≡ open_after following slice =
    ap (open_after 0) t ∙ open-append 0 text w ∙ ap (λ (x : ℕ). open_after x w) (sym o) ∙ ap (open_after following) (sym same) in
    (omega (arith, count), q ∙ sym state)

pub over_turn : (text text' w slice others whole : List ℕ) (n left following limit : ℕ) → text' ≡ text ++ w → n ≡ length text → slice ≡ drop n text'
    → left + completed 0 text ≡ limit → following ≡ open_after 0 text → left < completed following slice → text' ++ others ≡ whole → limit < char_count whole
over_turn text text' w slice others whole n left following limit t l s h o k e =
    let same = written_part text text' w slice n t l s in
    let count : completed 0 text' ≡ completed 0 text + completed following slice =
    ap (completed 0) t ∙ completed-append 0 text w ∙ ap (λ (x : ℕ). completed 0 text + completed x w) (sym o) ∙ ap (λ (x : List ℕ). completed 0 text + completed following x) (sym same) in
    let all : completed 0 whole ≡ completed 0 text' + completed (open_after 0 text') others = ap (completed 0) (sym e) ∙ completed-append 0 text' others in
    omega (arith, count, all, counted whole)

pub ended : (lambdas : Lambdas) (nodes : List Node) (text whole : List ℕ) (ps : List Piece) (left limit : ℕ) → ps ≡ [] → text ++ waiting lambdas nodes ps ≡ whole
    → left + completed 0 text ≡ limit → (text ≡ whole) × (char_count whole ≤ limit)
ended lambdas nodes text whole ps left limit n h k =
    let same : text ≡ whole = sym (append-nil text) ∙ ap (λ (x : List Piece). text ++ waiting lambdas nodes x) (sym n) ∙ h in
    (same, omega (arith, ap (completed 0) same, counted whole))
