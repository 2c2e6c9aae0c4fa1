-- Worked cases of the types whose literals are told apart, and of how deep types nest: what is inside is given.
use Rattle.std.specs.Prelude.{◌≡◌, ℕ, Bool, true, false, List, [], ◌∷◌, codes}
use Rattle.elm_base.specs.declared.event.PortType.TheOpen as type
use Rattle.port_literals.specs.Ports.{is_label, port_step, nesting_step}

abbrev pub Takes : type.PortType-F Bool → Type 0
Takes port = port_step port ≡ true

abbrev pub Refuses : type.PortType-F Bool → Type 0
Refuses port = port_step port ≡ false

abbrev pub labelled : {A : Type 0} → List ℕ → A → List ℕ → A → List (List ℕ × A)
labelled first a second b = (first, a) ∷ (second, b) ∷ []

pub record Labels : Type 0 where
  pub letters : is_label (codes "x1'_") ≡ true
  pub empty : is_label [] ≡ false
  pub space : is_label (codes "x y") ≡ false
  pub equals : is_label (codes "x=") ≡ false

pub record Ports : Type 0 where
  pub int : Takes type.Int
  pub unit : Takes type.Unit
  pub maybe : Takes (type.Maybe true)
  pub maybe_other : Refuses (type.Maybe false)
  pub list : Takes (type.List true)
  pub list_other : Refuses (type.List false)
  pub pair : Takes (type.Tuple (true ∷ true ∷ []))
  pub pair_other : Refuses (type.Tuple (true ∷ false ∷ []))
  pub one_part : Refuses (type.Tuple (true ∷ []))
  pub no_part : Refuses (type.Tuple [])
  pub no_field : Takes (type.Fields [])
  pub fields : Takes (type.Fields (labelled (codes "x") true (codes "y") true))
  pub fields_other : Refuses (type.Fields (labelled (codes "x") true (codes "y") false))
  pub label_twice : Refuses (type.Fields (labelled (codes "x") true (codes "x") true))
  pub label_empty : Refuses (type.Fields (labelled [] true (codes "x") true))

pub record Nestings : Type 0 where
  pub int : nesting_step type.Int ≡ 0
  pub maybe : nesting_step (type.Maybe 3) ≡ 4
  pub list : nesting_step (type.List 0) ≡ 1
  pub pair : nesting_step (type.Tuple (2 ∷ 5 ∷ 1 ∷ [])) ≡ 6
  pub fields : nesting_step (type.Fields (labelled (codes "x") 4 (codes "y") 0)) ≡ 5
  pub no_field : nesting_step (type.Fields []) ≡ 0
