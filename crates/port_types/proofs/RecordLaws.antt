-- Of records: what the fold over types gives, and that none stays none.
use Rattle.std.proofs.Common.{◌≡◌, ℕ, ◌+◌, ◌<◌, Bool, true, false, Option, Some, None, List, [], ◌∷◌, length, get_or, drop, refl, sym, ◌∙◌, ap}
use Rattle.std.proofs.lemmas.Bool.{false≢true}
use Rattle.std.proofs.lemmas.List.{drop_more}
use Rattle.elm_base.specs.declared.event.PortType.{PortType}
use Rattle.elm_base.specs.declared.token.At.{At}
use Rattle.elm_base.specs.declared.tree.Spot.{Spot}
use Rattle.elm_base.specs.declared.tree.TypeTree.{TypeTree}
use Rattle.elm_base.specs.declared.tree.TypeTree.TheOpen as type
use Rattle.elm_base.specs.declared.tree.TypeTree.TheFolds.{fold-roll-TypeTree}
use Rattle.elm_base.specs.declared.tree.TypeTree.TheVariants as t
use Rattle.port_types.specs.Fields.{placed_if, all_placed, fields_of, Placed}
use Rattle.port_types.specs.PortTypes.{closed, port_step, port_type, port_fields}

pub none_stays : (fields : List (Spot × Option PortType)) → all_placed None fields ≡ None
none_stays [] = refl
none_stays (field ∷ fields) = none_stays fields

pub port_of_fields : (tree : TypeTree) (at : At) (before : Option Spot) (fields slice : List (Spot × TypeTree)) → tree ≡ t.Fields at before fields →
    slice ≡ fields → closed before (port_fields slice) ≡ port_type tree
port_of_fields tree at before fields slice is same =
    ap (λ (fs : List (Spot × TypeTree)). closed before (port_fields fs)) same
    ∙ sym (ap port_type (sym (t.rolls-Fields at before fields)) ∙ fold-roll-TypeTree (Option PortType) port_step (type.Fields at before fields))
    ∙ ap port_type (sym is)

pub not_placed : (b : Bool) (found : Option (List (List ℕ × PortType))) (fields : List (List ℕ × PortType)) → b ≡ false → Placed b found fields →
    found ≡ None
not_placed true found fields e h = absurd (false≢true (sym e))
not_placed false found fields e h = h

-- where one field can't be placed, the record is no type of a port
pub stops : (fields : List (Spot × TypeTree)) (i : ℕ) (item : Spot × TypeTree) (placed : List (List ℕ × PortType)) (label : List ℕ) (port : Option PortType)
    (before : Option Spot) → i < length fields → item ≡ get_or fields i item → label ≡ item.0.name → port ≡ port_type item.1 →
    placed_if label port placed ≡ None → all_placed (Some placed) (port_fields (drop i fields)) ≡ all_placed (Some []) (port_fields fields) →
    before ≡ None → None ≡ closed before (port_fields fields)
stops fields i item placed label port before within is named typed none so closes =
    let rest = drop (i + 1) fields in
    let next : drop i fields ≡ item ∷ rest = drop_more fields i item within ∙ ap (λ (x : Spot × TypeTree). x ∷ rest) (sym is) in
    let ends : all_placed (Some placed) (port_fields (drop i fields)) ≡ None =
    ap (λ (fs : List (Spot × TypeTree)). all_placed (Some placed) (port_fields fs)) next
    ∙ ap (λ (p : Option (List (List ℕ × PortType))). all_placed p (port_fields rest))
    (ap (λ (l : List ℕ). placed_if l (port_type item.1) placed) (sym named) ∙ ap (λ (p : Option PortType). placed_if label p placed) (sym typed) ∙ none)
    ∙ none_stays (port_fields rest) in
    ap fields_of (sym ends ∙ so) ∙ ap (λ (b : Option Spot). closed b (port_fields fields)) (sym closes)
