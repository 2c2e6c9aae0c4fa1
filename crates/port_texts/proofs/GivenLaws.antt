-- The test of types, form by form.
use Rattle.std.proofs.Common.{◌≡◌, ◌==◌, ◌-◌, ℕ, suc, Bool, false, not, ◌&&◌, List, [], ◌∷◌, map, length, refl, sym, ◌∙◌, ap, ap₂}
use Rattle.elm_base.specs.declared.event.PortType.{PortType, out-PortType, map-PortType}
use Rattle.elm_base.specs.declared.event.PortType.TheVariants as port
use Rattle.elm_base.specs.declared.event.PortType.TheFolds.{fold_out-PortType}
use Rattle.port_texts.specs.Given.{Test, is_before, is_label, is_first, are_labels, are_few, all_pass, fields_pass, given_step, is_given, given_field, tuple_given, record_given, some_level}

pub first_alike : (label : List ℕ) (fields : List (List ℕ × PortType)) → is_first label (map given_field fields) ≡ is_first label fields
first_alike label [] = refl
first_alike label (field ∷ fields) = ap (λ b. is_before label field.0 && b) (first_alike label fields)

pub labels_alike : (fields : List (List ℕ × PortType)) → are_labels (map given_field fields) ≡ are_labels fields
labels_alike [] = refl
labels_alike (field ∷ fields) = ap₂ (λ a b. is_label field.0 && a && b) (first_alike field.0 fields) (labels_alike fields)

pub as_many : (parts : List PortType) → length (map is_given parts) ≡ length parts
as_many [] = refl
as_many (part ∷ parts) = ap (λ n. suc n) (as_many parts)

opened : (n : ℕ) → (n == 0) ≡ false → (b : Bool) → (some_level n && b) ≡ b
opened n h b = ap (λ x. not x && b) h

pub tuple_whole : (given : PortType) (parts : List PortType) → given ≡ port.Tuple parts → (n : ℕ) → (n == 0) ≡ false → tuple_given (n - 1) parts ≡ is_given given n
tuple_whole given parts is n some = sym (
    ap (λ f. f n) (fold_out-PortType Test given_step given
    ∙ ap (λ layer. given_step (map-PortType PortType Test is_given layer)) (ap out-PortType is ∙ port.outs-Tuple parts))
    ∙ opened n some _
    ∙ ap (λ k. are_few k && all_pass (map is_given parts) (n - 1)) (as_many parts))

pub record_whole : (given : PortType) (fields : List (List ℕ × PortType)) → given ≡ port.Fields fields → (n : ℕ) → (n == 0) ≡ false → record_given (n - 1) fields ≡ is_given given n
record_whole given fields is n some = sym (
    ap (λ f. f n) (fold_out-PortType Test given_step given
    ∙ ap (λ layer. given_step (map-PortType PortType Test is_given layer)) (ap out-PortType is ∙ port.outs-Fields fields))
    ∙ opened n some _
    ∙ ap (λ b. b && fields_pass (map given_field fields) (n - 1)) (labels_alike fields))
