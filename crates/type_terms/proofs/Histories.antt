-- What a history says of the present.
use Rattle.std.proofs.Common.{◌≡◌, ℕ, zero, suc, ◌+◌, ◌-◌, ◌^◌, ◌<◌, ◌≤◌, List, [], ◌∷◌, ◌++◌, length, reverse, refl, sym, ◌∙◌, ap, subst, arith, take, drop, set, slice_index_or, length-set, length-append, Option, Some, None, option_to_list, IsSome}
use Rattle.std.proofs.Math.Seq.{take-append_seam}
use Rattle.std.proofs.lemmas.List.{length-reverse, reverse-append}
use Rattle.type_terms.specs.declared.change.Change.{Change}
use Rattle.type_terms.specs.declared.node.Node.{Node}
use Rattle.type_terms.specs.Terms.{State, nodes_of, notes_of, node_at, below, Each}
use Rattle.type_terms.specs.declared.change.Change.TheVariants.{Made, Noted, WasVariable}
use Rattle.type_terms.specs.declared.node.Node.TheVariants.{End}
use Rattle.type_terms.specs.declared.shape.Shape.TheVariants as shape
use Rattle.elm_typing.specs.declared.flag.Flag.{Flag}
use Rattle.elm_typing.specs.declared.flag.Flag.TheVariants.{Plain}
use Rattle.type_terms.specs.Depth.{IsBelow, IsSound, AreNotesBelow, AreSound, doubled}
use Rattle.type_terms.proofs.Sound.{sound-pushed, sound-more, sound-present, notes-present, notes-wider, notes-more}
use Rattle.type_terms.specs.History.{history, nodes_before, notes_before, without_last}

pub nodes_of-history : (nodes : List Node) (notes : List (ℕ × ℕ)) (trail : List Change) → nodes_of (history nodes notes trail) ≡ nodes
nodes_of-history nodes notes [] = refl
nodes_of-history nodes notes (change ∷ older) = refl

pub notes_of-history : (nodes : List Node) (notes : List (ℕ × ℕ)) (trail : List Change) → notes_of (history nodes notes trail) ≡ notes
notes_of-history nodes notes [] = refl
notes_of-history nodes notes (change ∷ older) = refl

pub length-history : (nodes : List Node) (notes : List (ℕ × ℕ)) (trail : List Change) → length (history nodes notes trail) ≡ suc (length trail)
length-history nodes notes [] = refl
length-history nodes notes (change ∷ older) = ap suc (length-history (nodes_before change nodes) (notes_before change notes) older)

pub without_last-append : {A : Type 0} (xs : List A) (x : A) → without_last (xs ++ x ∷ []) ≡ xs
without_last-append xs x =
    let e : length (xs ++ x ∷ []) - 1 ≡ length xs = simp length-append (omega arith) in
    ap (λ n. take n (xs ++ x ∷ [])) e ∙ take-append_seam xs (x ∷ [])

-- the same of a store, whose trail is kept oldest first --

pub length-view : (nodes : List Node) (notes : List (ℕ × ℕ)) (trail : List Change) (store : List State) →
    history nodes notes (reverse trail) ≡ store → length store ≡ length trail + 1
length-view nodes notes trail store e =
    let a = length-history nodes notes (reverse trail) in
    let b = length-reverse trail in
    let c = ap length e in
    omega (arith, a, b, c)

pub nodes-view : (nodes : List Node) (notes : List (ℕ × ℕ)) (trail : List Change) (store : List State) →
    history nodes notes (reverse trail) ≡ store → nodes_of store ≡ nodes
nodes-view nodes notes trail store e = sym (ap nodes_of e) ∙ nodes_of-history nodes notes (reverse trail)

pub notes-view : (nodes : List Node) (notes : List (ℕ × ℕ)) (trail : List Change) (store : List State) →
    history nodes notes (reverse trail) ≡ store → notes_of store ≡ notes
notes-view nodes notes trail store e = sym (ap notes_of e) ∙ notes_of-history nodes notes (reverse trail)

-- one change more
pub grown : (nodes : List Node) (notes : List (ℕ × ℕ)) (trail newer : List Change) (change : Change) (present : List Node) (noted : List (ℕ × ℕ)) →
    newer ≡ trail ++ change ∷ [] → nodes_before change present ≡ nodes → notes_before change noted ≡ notes →
    history present noted (reverse newer) ≡ record { nodes = present; notes = noted } ∷ history nodes notes (reverse trail)
grown nodes notes trail newer change present noted e en em =
    ap (λ (l : List Change). history present noted l) (ap reverse e ∙ reverse-append trail (change ∷ []))
    ∙ ap (λ (h : List State). record { nodes = present; notes = noted } ∷ h)
    (ap (λ (ns : List Node). history ns (notes_before change noted) (reverse trail)) en ∙ ap (λ (ms : List (ℕ × ℕ)). history nodes ms (reverse trail)) em)

-- the invariant after one change more --

sound-grown : (nodes : List Node) (notes : List (ℕ × ℕ)) (trail newer : List Change) (change : Change) (present : List Node) (noted : List (ℕ × ℕ)) →
    newer ≡ trail ++ change ∷ [] → nodes_before change present ≡ nodes → notes_before change noted ≡ notes →
    AreSound (history nodes notes (reverse trail)) → IsSound present (doubled (suc (length (history nodes notes (reverse trail))))) →
    AreNotesBelow (length present) noted → AreSound (history present noted (reverse newer))
sound-grown nodes notes trail newer change present noted e en em earlier now below =
    subst AreSound (sym (grown nodes notes trail newer change present noted e en em)) (now, below, earlier)

-- what the invariant knows of the present
pub sound-view : (nodes : List Node) (notes : List (ℕ × ℕ)) (trail : List Change) →
    AreSound (history nodes notes (reverse trail)) → IsSound nodes (doubled (length (history nodes notes (reverse trail))))
sound-view nodes notes trail h =
    subst (λ (ns : List Node). IsSound ns (doubled (length (history nodes notes (reverse trail))))) (nodes_of-history nodes notes (reverse trail)) (sound-present (history nodes notes (reverse trail)) h)

pub notes_below-view : (nodes : List Node) (notes : List (ℕ × ℕ)) (trail : List Change) → AreSound (history nodes notes (reverse trail)) → AreNotesBelow (length nodes) notes
notes_below-view nodes notes trail h =
    subst (λ (ns : List Node). AreNotesBelow (length ns) notes) (nodes_of-history nodes notes (reverse trail))
    (subst (AreNotesBelow (length (nodes_of (history nodes notes (reverse trail))))) (notes_of-history nodes notes (reverse trail)) (notes-present (history nodes notes (reverse trail)) h))

pub sound-made : (nodes : List Node) (notes : List (ℕ × ℕ)) (trail newer : List Change) (present : List Node) (node : Node) →
    newer ≡ trail ++ Made ∷ [] → present ≡ nodes ++ node ∷ [] → AreSound (history nodes notes (reverse trail)) →
    length nodes + 1 < 2 ^ 32 → Each (IsBelow (length nodes)) (below node) → AreSound (history present notes (reverse newer))
sound-made nodes notes trail newer present node e ep sound small inside =
    sound-grown nodes notes trail newer Made present notes e (ap without_last ep ∙ without_last-append nodes node) refl sound
    (subst (λ (ns : List Node). IsSound ns (doubled (suc (length (history nodes notes (reverse trail)))))) (sym ep)
    (sound-pushed nodes (length (history nodes notes (reverse trail))) node (sound-view nodes notes trail sound) small inside))
    (let longer : length present ≡ length nodes + 1 = ap length ep ∙ length-append nodes (node ∷ []) in
    notes-wider (length nodes) (length present) (omega (arith, longer)) notes (notes_below-view nodes notes trail sound))

pub sound-noted : (nodes : List Node) (notes : List (ℕ × ℕ)) (trail newer : List Change) (noted : List (ℕ × ℕ)) (note : ℕ × ℕ) →
    newer ≡ trail ++ Noted ∷ [] → noted ≡ notes ++ note ∷ [] → AreSound (history nodes notes (reverse trail)) → note.0 < length nodes → note.1 < length nodes → AreSound (history nodes noted (reverse newer))
sound-noted nodes notes trail newer noted note e en sound low high =
    sound-grown nodes notes trail newer Noted nodes noted e refl (ap without_last en ∙ without_last-append notes note) sound
    (sound-more nodes (length (history nodes notes (reverse trail))) (sound-view nodes notes trail sound))
    (subst (AreNotesBelow (length nodes)) (sym en) (notes-more (length nodes) notes note (notes_below-view nodes notes trail sound) low high))

set-twice : (nodes : List Node) (at : ℕ) (node old : Node) → node_at nodes at ≡ old → at < length nodes → set (set nodes at node) at old ≡ nodes
set-twice [] at node old e lt = refl
set-twice (n ∷ nodes) zero node old e lt = ap (λ m. m ∷ nodes) (sym e)
set-twice (n ∷ nodes) (suc at) node old e lt = ap (λ ms. n ∷ ms) (set-twice nodes at node old e (omega arith))

-- a variable that was rewritten, and is one again
pub variable-back : (nodes : List Node) (at : ℕ) (flag : Flag) (node : Node) → at < length nodes → node_at nodes at ≡ End (shape.Variable flag) →
    nodes_before (WasVariable at flag) (set nodes at node) ≡ nodes
variable-back nodes at flag node lt e = set-twice nodes at node (End (shape.Variable flag)) e lt

pub sound-rewritten : (nodes : List Node) (notes : List (ℕ × ℕ)) (trail newer : List Change) (at : ℕ) (flag : Flag) (node : Node) (store : List State) →
    history nodes notes (reverse trail) ≡ store →
    newer ≡ trail ++ WasVariable at flag ∷ [] → AreSound (history nodes notes (reverse trail)) → at < length (nodes_of store) → node_at (nodes_of store) at ≡ End (shape.Variable flag) →
    IsSound (set (nodes_of store) at node) (doubled (suc (length store))) → AreSound (history (set nodes at node) notes (reverse newer))
sound-rewritten nodes notes trail newer at flag node store view e sound lt variable now =
    let en = nodes-view nodes notes trail store view in
    sound-grown nodes notes trail newer (WasVariable at flag) (set nodes at node) notes e
    (variable-back nodes at flag node (subst (λ (ns : List Node). at < length ns) en lt) (subst (λ (ns : List Node). node_at ns at ≡ End (shape.Variable flag)) en variable)) refl sound
    (subst (λ (ns : List Node). IsSound (set ns at node) (doubled (suc (length (history nodes notes (reverse trail)))))) en
    (subst (λ (h : List State). IsSound (set (nodes_of store) at node) (doubled (suc (length h)))) (sym view) now))
    (subst (λ (n : ℕ). AreNotesBelow n notes) (sym (length-set nodes at node)) (notes_below-view nodes notes trail sound))

-- the new state, as contracts say it --

state-is : (nodes ns : List Node) (notes ms : List (ℕ × ℕ)) (store store2 : List State) → nodes ≡ ns → notes ≡ ms → store ≡ store2 →
    record { nodes = nodes; notes = notes } ∷ store ≡ record { nodes = ns; notes = ms } ∷ store2
state-is nodes ns notes ms store store2 e f g = cc (e, f, g)

pub state-made : (nodes : List Node) (notes : List (ℕ × ℕ)) (trail newer : List Change) (present : List Node) (node : Node) (store : List State) →
    history nodes notes (reverse trail) ≡ store → newer ≡ trail ++ Made ∷ [] → present ≡ nodes ++ node ∷ [] →
    history present notes (reverse newer) ≡ record { nodes = nodes_of store ++ node ∷ []; notes = notes_of store } ∷ store
state-made nodes notes trail newer present node store view e ep =
    grown nodes notes trail newer Made present notes e (ap without_last ep ∙ without_last-append nodes node) refl
    ∙ state-is present (nodes_of store ++ node ∷ []) notes (notes_of store) (history nodes notes (reverse trail)) store
    (ep ∙ ap (λ ns. ns ++ node ∷ []) (sym (nodes-view nodes notes trail store view))) (sym (notes-view nodes notes trail store view)) view

pub state-noted : (nodes : List Node) (notes : List (ℕ × ℕ)) (trail newer : List Change) (noted : List (ℕ × ℕ)) (note : ℕ × ℕ) (store : List State) →
    history nodes notes (reverse trail) ≡ store → newer ≡ trail ++ Noted ∷ [] → noted ≡ notes ++ note ∷ [] →
    history nodes noted (reverse newer) ≡ record { nodes = nodes_of store; notes = notes_of store ++ note ∷ [] } ∷ store
state-noted nodes notes trail newer noted note store view e en =
    grown nodes notes trail newer Noted nodes noted e refl (ap without_last en ∙ without_last-append notes note)
    ∙ state-is nodes (nodes_of store) noted (notes_of store ++ note ∷ []) (history nodes notes (reverse trail)) store
    (sym (nodes-view nodes notes trail store view)) (en ∙ ap (λ ms. ms ++ note ∷ []) (sym (notes-view nodes notes trail store view))) view

pub state-rewritten : (nodes : List Node) (notes : List (ℕ × ℕ)) (trail newer : List Change) (at : ℕ) (flag : Flag) (node : Node) (store : List State) →
    history nodes notes (reverse trail) ≡ store → newer ≡ trail ++ WasVariable at flag ∷ [] → at < length (nodes_of store) → node_at (nodes_of store) at ≡ End (shape.Variable flag) →
    history (set nodes at node) notes (reverse newer) ≡ record { nodes = set (nodes_of store) at node; notes = notes_of store } ∷ store
state-rewritten nodes notes trail newer at flag node store view e lt variable =
    let en = nodes-view nodes notes trail store view in
    grown nodes notes trail newer (WasVariable at flag) (set nodes at node) notes e
    (variable-back nodes at flag node (subst (λ (ns : List Node). at < length ns) en lt) (subst (λ (ns : List Node). node_at ns at ≡ End (shape.Variable flag)) en variable)) refl
    ∙ state-is (set nodes at node) (set (nodes_of store) at node) notes (notes_of store) (history nodes notes (reverse trail)) store
    (ap (λ (ns : List Node). set ns at node) (sym en)) (sym (notes-view nodes notes trail store view)) view

-- an element that was read is the node
pub node-read : (nodes : List Node) (at : ℕ) (node : Node) (notes : List (ℕ × ℕ)) (trail : List Change) (store : List State) →
    history nodes notes (reverse trail) ≡ store → at < length (nodes_of store) → node ≡ slice_index_or nodes at node → node ≡ node_at (nodes_of store) at
node-read nodes at node notes trail store view lt e =
    let en = nodes-view nodes notes trail store view in
    subst (λ (ns : List Node). node ≡ node_at ns at) (sym en)
    (e ∙ any-default nodes at node (End (shape.Variable Plain)) (subst (λ (ns : List Node). at < length ns) en lt))
  where
    any-default : (ns : List Node) (i : ℕ) (a b : Node) → i < length ns → slice_index_or ns i a ≡ slice_index_or ns i b
    any-default [] i a b l = absurd (omega arith)
    any-default (n ∷ ns) zero a b l = refl
    any-default (n ∷ ns) (suc i) a b l = any-default ns i a b (omega arith)

-- what was pushed last is popped first
pub popped : {A : Type 0} (old new kept : List A) (x : A) (r : Option A) → old ≡ kept ++ x ∷ [] → old ≡ new ++ option_to_list r → (0 < length old → IsSome r) → new ≡ kept
popped old new kept x None e f some = let h = some (subst (λ l. 0 < length l) (sym e) (simp length-append (omega arith))) in cc h
popped old new kept x (Some y) e f some = sym (without_last-append new y) ∙ ap without_last (sym f ∙ e) ∙ without_last-append kept x

pub view-popped : (nodes present : List Node) (notes : List (ℕ × ℕ)) (trail kept : List Change) (store : List State) →
    history nodes notes (reverse trail) ≡ store → present ≡ nodes → kept ≡ trail → history present notes (reverse kept) ≡ store
view-popped nodes present notes trail kept store view e f = cc (view, e, f)

-- one state less to drop
pub back-step : {A : Type 0} (xs ys : List A) (m : ℕ) → ys ≡ drop 1 xs → m < length xs → (m ≤ length ys) × (drop (length ys - m) ys ≡ drop (length xs - m) xs)
back-step [] ys m e lt = absurd (omega arith)
back-step (x ∷ xs) ys m e lt =
    let same : ys ≡ xs = e in
    let f : suc (length xs) - m ≡ suc (length xs - m) = omega (arith, lt) in
    (omega (arith, lt, ap length same), ap (λ l. drop (length l - m) l) same ∙ sym (ap (λ n. drop n (x ∷ xs)) f))
