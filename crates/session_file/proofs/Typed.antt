-- The value of a literal is of the literal's type.
use Rattle.std.proofs.Common.{◌≡◌, ℕ, Bool, true, false, ◌&&◌, if◌then◌else◌, List, [], ◌∷◌, map, length, replicate, Option, Some, None, refl, sym, ◌∙◌, ap}
use Rattle.std.specs.List.{list_all}
use Rattle.std.specs.Str.{bytes_eq, is_utf8}
use Rattle.std.proofs.lemmas.Slice.Eq.{bytes_eq-Decides}
use Rattle.elm_base.specs.declared.event.PortType.{PortType, out-PortType, map-PortType}
use Rattle.elm_base.specs.declared.event.PortType.TheOpen as type
use Rattle.elm_base.specs.declared.event.PortType.TheFolds.{fold_out-PortType}
use Rattle.elm_base.specs.declared.event.PortValue.{PortValue, out-PortValue}
use Rattle.elm_base.specs.declared.event.PortValue.TheOpen as value
use Rattle.port_values.specs.Values.{is_int, all_pass, fields_pass, passes, test_step, is_of}
use Rattle.port_values.specs.Leaves.{kept_by, number_of, between_quotes}
use Rattle.port_values.specs.Literals.{Text, Spells, form, brackets, Forms, unit, int, truth, quotes, nothing, just, list, tuple, fields, SpellEach, done, part, SpellFields, no_field, field}
use Rattle.session_file.specs.Written.{LiteralIsOfItsType}
use Rattle.session_file.proofs.Letters.{and_left, and_right}

both : (a b : Bool) → a ≡ true → b ≡ true → (a && b) ≡ true
both false b h k = h
both true b h k = k

kept : {A : Type 0} (test : A → Bool) (read : Option A) (found : A) → kept_by test read ≡ Some found → test found ≡ true
kept test None found e = cc
kept test (Some own) found e = go (test own) refl e where
  go : (b : Bool) → test own ≡ b → (if b then Some own else None) ≡ Some found → test found ≡ true
  go true is k = let same : own ≡ found = cc in ap test (sym same) ∙ is
  go false is k = cc

abbrev tests : type.PortType-F PortType → type.PortType-F (PortValue → Bool)
tests x = map-PortType PortType (PortValue → Bool) is_of x

abbrev test_field : List ℕ × PortType → List ℕ × (PortValue → Bool)
test_field f = (f.0, is_of f.1)

repeated : (port : PortType) (givens : List PortValue) → all_pass (map is_of (replicate (length givens) port)) givens ≡ true → list_all (is_of port) givens ≡ true
repeated port [] h = refl
repeated port (given ∷ givens) h = both (is_of port given) _ (and_left (is_of port given) _ h) (repeated port givens (and_right (is_of port given) _ h))

whole : (port : PortType) (given : PortValue) → passes (tests (out-PortType port)) (out-PortValue given) ≡ true → is_of port given ≡ true
whole port given h = ap (λ test. test given) (fold_out-PortType (PortValue → Bool) test_step port) ∙ h

mutual
  typed : (room : ℕ) (port : PortType) (given : PortValue) (text : Text) → Spells room port given text → is_of port given ≡ true
  typed _ _ _ _ (form room port given text f) = whole port given (formed room (out-PortType port) (out-PortValue given) text f)
  typed _ _ _ _ (brackets room port given inside text s e) = typed room port given inside s

  formed : (room : ℕ) (port : type.PortType-F PortType) (given : value.PortValue-F PortValue) (text : Text) → Forms room port given text → passes (tests port) given ≡ true
  formed _ _ _ _ (unit room text e) = refl
  formed _ _ _ _ (int room number text e) = kept is_int (number_of text) number e
  formed _ _ _ _ (truth room is text e) = refl
  formed _ _ _ _ (quotes room bytes text e) = kept is_utf8 (between_quotes text) bytes e
  formed _ _ _ _ (nothing room port text e) = refl
  formed _ _ _ _ (just room port given spaces inside text a b s e) = typed room port given inside s
  formed _ _ _ _ (list room port givens texts inside text s l e) = repeated port givens (each_typed room (replicate (length givens) port) givens texts s)
  formed _ _ _ _ (tuple room ports givens texts inside text s l e) = each_typed room ports givens texts s
  formed _ _ _ _ (fields room ports givens texts written inside text s r l e) = fields_typed room ports givens texts s

  each_typed : (room : ℕ) (ports : List PortType) (givens : List PortValue) (texts : List Text) → SpellEach room ports givens texts → all_pass (map is_of ports) givens ≡ true
  each_typed _ _ _ _ (done room) = refl
  each_typed _ _ _ _ (part room port given text ports givens texts s more) =
      both (is_of port given) _ (typed room port given text s) (each_typed room ports givens texts more)

  fields_typed : (room : ℕ) (ports : List (Text × PortType)) (givens : List (Text × PortValue)) (texts : List Text) → SpellFields room ports givens texts → fields_pass (map test_field ports) givens ≡ true
  fields_typed _ _ _ _ (no_field room) = refl
  fields_typed _ _ _ _ (field room label port given before behind inside text ports givens texts a b s e more) =
      both (bytes_eq label label && is_of port given) _ (both (bytes_eq label label) _ ((bytes_eq-Decides label label).1 refl) (typed room port given inside s)) (fields_typed room ports givens texts more)

pub literal_is_of : LiteralIsOfItsType
literal_is_of port given text h = typed 64 port given text h
