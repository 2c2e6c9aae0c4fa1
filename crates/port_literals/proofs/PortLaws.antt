-- The test of types, form by form.
use Rattle.std.proofs.Common.{◌≡◌, ℕ, Bool, not, ◌&&◌, List, [], ◌∷◌, map, refl, ◌∙◌, ap, ap₂}
use Rattle.std.specs.List.{list_all}
use Rattle.std.specs.Str.{bytes_eq}
use Rattle.elm_base.specs.declared.event.PortType.{PortType, out-PortType, map-PortType}
use Rattle.elm_base.specs.declared.event.PortType.TheVariants as port_type
use Rattle.elm_base.specs.declared.event.PortType.TheFolds.{fold_out-PortType}
use Rattle.port_literals.specs.Ports.{is_label, is_new, are_labels, port_step, is_port, passed_field}

new_alike : (label : List ℕ) (fields : List (List ℕ × PortType)) → is_new label (map passed_field fields) ≡ is_new label fields
new_alike label [] = refl
new_alike label (field ∷ fields) = ap (λ b. not (bytes_eq label field.0) && b) (new_alike label fields)

labels_alike : (fields : List (List ℕ × PortType)) → are_labels (map passed_field fields) ≡ are_labels fields
labels_alike [] = refl
labels_alike (field ∷ fields) = ap₂ (λ a b. is_label field.0 && a && b) (new_alike field.0 fields) (labels_alike fields)

pub record_port : (port : PortType) (fields : List (List ℕ × PortType)) → port ≡ port_type.Fields fields
    → is_port port ≡ (are_labels fields && list_all (λ (field : List ℕ × Bool). field.1) (map passed_field fields))
record_port port fields is =
    fold_out-PortType Bool port_step port
    ∙ ap (λ layer. port_step (map-PortType PortType Bool is_port layer)) (ap out-PortType is ∙ port_type.outs-Fields fields)
    ∙ ap (λ b. b && list_all (λ (field : List ℕ × Bool). field.1) (map passed_field fields)) (labels_alike fields)
