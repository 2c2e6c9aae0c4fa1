-- Worked cases of the types that ports of programs have: what is inside is given by its test.
use Rattle.std.specs.Prelude.{◌≡◌, ℕ, ◌==◌, true, false, List, [], ◌∷◌, codes, replicate}
use Rattle.elm_base.specs.declared.event.PortType.TheOpen as type
use Rattle.port_texts.specs.Given.{Test, is_label, given_step}

-- of so many levels
abbrev pub Takes : ℕ → type.PortType-F Test → Type 0
Takes levels port = given_step port levels ≡ true

abbrev pub Refuses : ℕ → type.PortType-F Test → Type 0
Refuses levels port = given_step port levels ≡ false

-- a test that takes all types, and one that takes those of one level
abbrev pub all : Test
all levels = true

abbrev pub one : Test
one levels = levels == 1

abbrev pub labelled : List ℕ → List ℕ → List (List ℕ × Test)
labelled first second = (first, all) ∷ (second, all) ∷ []

pub record Labels : Type 0 where
  pub letters : is_label (codes "xY1'_") ≡ true
  pub empty : is_label [] ≡ false
  pub upper : is_label (codes "Xy") ≡ false
  pub underscore : is_label (codes "_x") ≡ false
  pub digit : is_label (codes "1x") ≡ false
  pub space : is_label (codes "x y") ≡ false
  pub word_first : is_label (codes "module") ≡ false
  pub word_last : is_label (codes "infix") ≡ false
  pub longer_than_word : is_label (codes "infixx") ≡ true
  pub longest : is_label (replicate 255 120) ≡ true
  pub too_long : is_label (replicate 256 120) ≡ false

pub record Types : Type 0 where
  pub int : Takes 1 type.Int
  pub int_no_level : Refuses 0 type.Int
  pub unit : Takes 1 type.Unit
  pub truth : Takes 1 type.Bool
  pub text : Takes 1 type.Text
  pub maybe : Takes 2 (type.Maybe one)
  pub maybe_other : Refuses 3 (type.Maybe one)
  pub maybe_no_level : Refuses 0 (type.Maybe all)
  pub list : Takes 2 (type.List one)
  pub list_other : Refuses 3 (type.List one)
  pub pair : Takes 2 (type.Tuple (one ∷ all ∷ []))
  pub pair_other : Refuses 3 (type.Tuple (all ∷ one ∷ []))
  pub no_part : Refuses 3 (type.Tuple [])
  pub one_part : Refuses 3 (type.Tuple (all ∷ []))
  pub nine_parts : Takes 3 (type.Tuple (replicate 9 all))
  pub ten_parts : Refuses 3 (type.Tuple (replicate 10 all))
  pub no_field : Takes 1 (type.Fields [])
  pub no_field_no_level : Refuses 0 (type.Fields [])
  pub fields : Takes 3 (type.Fields (labelled (codes "x") (codes "y")))
  pub fields_other : Refuses 3 (type.Fields ((codes "x", all) ∷ (codes "y", one) ∷ []))
  pub label_twice : Refuses 3 (type.Fields (labelled (codes "x") (codes "x")))
  pub labels_turned : Refuses 3 (type.Fields (labelled (codes "y") (codes "x")))
  pub prefix_first : Takes 3 (type.Fields (labelled (codes "x") (codes "x1")))
  pub upper_first : Takes 3 (type.Fields (labelled (codes "aB") (codes "ab")))
  pub word_as_label : Refuses 3 (type.Fields (labelled (codes "of") (codes "x")))
