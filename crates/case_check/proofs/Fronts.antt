-- The last of several parts stands directly in front of the list.
use Rattle.std.proofs.Common.{◌≡◌, List, [], ◌∷◌, ◌++◌, map, refl, ap}
use Rattle.case_check.specs.declared.form.Form.{Form}
use Rattle.case_check.specs.Shapes.{Wanted}
use Rattle.case_check.specs.Asked.{cons_of, in_front}
use Rattle.case_check.specs.Trees.{wanted_of}

pub front_append : (parts : List Form) (last : Form) (tail : Wanted) → in_front (map wanted_of (parts ++ last ∷ [])) tail ≡ in_front (map wanted_of parts) (cons_of (wanted_of last) tail)
front_append [] last tail = refl
front_append (part ∷ parts) last tail = ap (cons_of (wanted_of part)) (front_append parts last tail)
