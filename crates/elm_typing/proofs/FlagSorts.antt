-- Types with a flag are simple.
use Rattle.std.proofs.Common.{◌≡◌, ◌≢◌, ◌↔◌, ℕ, refl, ap, inl, inr}
use Rattle.elm_typing.specs.declared.flag.Flag.{Flag}
use Rattle.elm_typing.specs.declared.flag.Flag.TheVariants.{Plain, Comparable, Appendable, Both}
use Rattle.elm_typing.specs.Flags.{HasFlag, IsComparable, IsAppendable, joined}
use Rattle.elm_typing.specs.Ground.{Ground, Named, Function, Tuple, Record, Opaque, NoGrounds, AndGround}
use Rattle.elm_typing.specs.Sorts.{Sort, Simple, sort_of}

pub comparable-simple : (chosen : ℕ → Sort) (t : Ground) → IsComparable t → sort_of chosen t ≡ Simple
comparable-simple chosen (Named name NoGrounds) h = elim h as (λ _. sort_of chosen (Named name NoGrounds) ≡ Simple) [
  | inl e ↦ ap (λ n. sort_of chosen (Named n NoGrounds)) e
  | inr f ↦ elim f as (λ _. sort_of chosen (Named name NoGrounds) ≡ Simple)
      [ inl e ↦ ap (λ n. sort_of chosen (Named n NoGrounds)) e | inr e ↦ ap (λ n. sort_of chosen (Named n NoGrounds)) e ]
]
comparable-simple chosen (Named name (AndGround t NoGrounds)) h = ap (λ n. sort_of chosen (Named n NoGrounds)) h.0
comparable-simple chosen (Named name (AndGround t (AndGround u us))) h = absurd h
comparable-simple chosen (Function a b) h = absurd h
comparable-simple chosen (Tuple ps) h = refl
comparable-simple chosen (Record row) h = refl
comparable-simple chosen (Opaque n Plain) h = absurd h
comparable-simple chosen (Opaque n Comparable) h = refl
comparable-simple chosen (Opaque n Appendable) h = refl
comparable-simple chosen (Opaque n Both) h = refl

pub appendable-simple : (chosen : ℕ → Sort) (t : Ground) → IsAppendable t → sort_of chosen t ≡ Simple
appendable-simple chosen (Named name NoGrounds) h = ap (λ n. sort_of chosen (Named n NoGrounds)) h
appendable-simple chosen (Named name (AndGround t NoGrounds)) h = ap (λ n. sort_of chosen (Named n NoGrounds)) h
appendable-simple chosen (Named name (AndGround t (AndGround u us))) h = absurd h
appendable-simple chosen (Function a b) h = absurd h
appendable-simple chosen (Tuple ps) h = refl
appendable-simple chosen (Record row) h = refl
appendable-simple chosen (Opaque n Plain) h = absurd h
appendable-simple chosen (Opaque n Comparable) h = refl
appendable-simple chosen (Opaque n Appendable) h = refl
appendable-simple chosen (Opaque n Both) h = refl

pub flagged-simple : (chosen : ℕ → Sort) (flag : Flag) (t : Ground) → flag ≢ Plain → HasFlag flag t → sort_of chosen t ≡ Simple
flagged-simple chosen Plain t ne h = absurd (ne refl)
flagged-simple chosen Comparable t ne h = comparable-simple chosen t h
flagged-simple chosen Appendable t ne h = appendable-simple chosen t h
flagged-simple chosen Both t ne h = comparable-simple chosen t h.0

pub joined-both : (f g : Flag) (t : Ground) → HasFlag (joined f g) t ↔ (HasFlag f t × HasFlag g t)
joined-both Plain g t = (λ h. (tt, h), λ h. h.1)
joined-both Both Plain t = (λ h. (h, tt), λ h. h.0)
joined-both Both Comparable t = (λ h. (h, h.0), λ h. h.0)
joined-both Both Appendable t = (λ h. (h, h.1), λ h. h.0)
joined-both Both Both t = (λ h. (h, h), λ h. h.0)
joined-both Comparable Plain t = (λ h. (h, tt), λ h. h.0)
joined-both Comparable Comparable t = (λ h. (h, h), λ h. h.0)
joined-both Comparable Appendable t = (λ h. h, λ h. h)
joined-both Comparable Both t = (λ h. (h.0, h), λ h. h.1)
joined-both Appendable Plain t = (λ h. (h, tt), λ h. h.0)
joined-both Appendable Comparable t = (λ h. (h.1, h.0), λ h. (h.1, h.0))
joined-both Appendable Appendable t = (λ h. (h, h), λ h. h.0)
joined-both Appendable Both t = (λ h. (h.1, h), λ h. h.1)

pub opaque-has : (flag : Flag) (number : ℕ) → HasFlag flag (Opaque number flag)
opaque-has Plain n = tt
opaque-has Comparable n = tt
opaque-has Appendable n = tt
opaque-has Both n = (tt, tt)

pub no_flag : (t : Ground) → (IsComparable t → ⊥) → (IsAppendable t → ⊥) → (flag : Flag) → flag ≢ Plain → HasFlag flag t → ⊥
no_flag t a b Plain ne h = ne refl
no_flag t a b Comparable ne h = a h
no_flag t a b Appendable ne h = b h
no_flag t a b Both ne h = a h.0
