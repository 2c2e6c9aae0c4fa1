-- Inputs in the order of their first use, and orders of use beside near misses.
use Rattle.std.specs.Prelude.{◌≡◌, [], ◌∷◌, codes, true, false}
use Rattle.elm_base.specs.declared.event.PortType.{PortType}
use Rattle.elm_base.specs.declared.event.PortValue.{PortValue}
use Rattle.elm_base.specs.declared.event.Event.TheVariants as event
use Rattle.session_form.specs.Form.{delivery, input}
use Rattle.session_file.specs.Sessions.{in_order}
use Rattle.session_file.specs.Written.{inputs_of, place_of}

-- no event; a delivery; `q`, a delivery, `p` and `q` again: `q` stands first
abbrev pub FirstUses : Type 0
FirstUses =
    (inputs_of [] ≡ [])
    × (inputs_of (event.Deliver 7 ∷ []) ≡ [])
    × ((port other : PortType) (one two three : PortValue)
    → inputs_of (event.Input (codes "q") port one ∷ event.Deliver 7 ∷ event.Input (codes "p") other two ∷ event.Input (codes "q") port three ∷ [])
    ≡ (codes "q", port) ∷ (codes "p", other) ∷ [])

-- the first input, the second, and a name that none has
abbrev pub Places : Type 0
Places =
    (port other : PortType)
    → (place_of (codes "q") ((codes "q", port) ∷ (codes "p", other) ∷ []) ≡ 0)
    × (place_of (codes "p") ((codes "q", port) ∷ (codes "p", other) ∷ []) ≡ 1)
    × (place_of (codes "r") ((codes "q", port) ∷ (codes "p", other) ∷ []) ≡ 2)

-- the first is used, then the second, and again; the second is used first; the second is used by none; there is no second
abbrev pub Orders : Type 0
Orders =
    (in_order 2 0 (input 0 (codes "1") ∷ delivery 5 ∷ input 1 (codes "2") ∷ input 0 (codes "3") ∷ []) ≡ true)
    × (in_order 2 0 (input 1 (codes "2") ∷ input 0 (codes "1") ∷ []) ≡ false)
    × (in_order 2 0 (input 0 (codes "1") ∷ []) ≡ false)
    × (in_order 1 0 (input 0 (codes "1") ∷ input 1 (codes "2") ∷ []) ≡ false)
    × (in_order 0 0 (delivery 5 ∷ []) ≡ true)
