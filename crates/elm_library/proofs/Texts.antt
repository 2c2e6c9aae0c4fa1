-- Texts are read one after the other.
use Rattle.std.proofs.Common.{◌≡◌, ◌<◌, ◌≤◌, ◌+◌, ◌⊎◌, inl, inr, ℕ, refl, sym, ◌∙◌, ap, subst, List, [], ◌∷◌, ◌++◌, drop, get_or, length, Result, Ok, Err}
use Rattle.std.proofs.lemmas.List.{append_assoc, append-nil, drop_more, drop_all}
use Rattle.elm_base.specs.declared.tree.Module.{Module}
use Rattle.elm_base.specs.declared.memory.Halt.{Halt}
use Rattle.elm_base.specs.declared.memory.Halt.TheVariants as halt
use Rattle.elm_base.specs.declared.fault.ProjectFault.{ProjectFault}
use Rattle.layout_lexer.specs.declared.place.TextFault.{TextFault}
use Rattle.elm_library.specs.declared.source.Source.{Source}
use Rattle.elm_library.specs.Reading.{AreModules, IsLibraryFault, IsModule, IsFault, fault_in}
use Rattle.elm_library.specs.Reaching.{ReadTexts, ReadsText, RefusesFor, PushesModule}

pub told : (number : ℕ) (s : Source) (last : ℕ) (old new : List Module) (bytes : List ℕ) (x : Halt TextFault) (h : Halt ProjectFault)
    → ReadsText number bytes last (Err x) → bytes ≡ s.text.now → RefusesFor s x h → PushesModule number s last old new (Err h)
told number s last old new bytes (halt.Because f) (halt.Because fault) is e r = (f, subst (λ b. IsFault number b f) e is, r)
told number s last old new bytes (halt.Because f) halt.NoMemory is e r = r
told number s last old new bytes halt.NoMemory (halt.Because fault) is e r = absurd r
told number s last old new bytes halt.NoMemory halt.NoMemory is e r = r

pub texts_none : (all : List Source) → ReadTexts all 0 all []
texts_none all = record { goes_on = λ ms is. is; fails_on = λ f is. is }

pub texts_more : (all ss : List Source) (number last : ℕ) (s : Source) (now : List Module) (m : Module)
    → ReadTexts all number (s ∷ ss) now → IsModule number s.text.now m last → ReadTexts all last ss (now ++ m ∷ [])
texts_more all ss number last s now m r is = record {
  goes_on = λ ms others. subst (AreModules 0 all) (sym (append_assoc now (m ∷ []) ms)) (r.goes_on (m ∷ ms) (last, is, others));
  fails_on = λ f others. r.fails_on f (inr (m, last, is, others));
}

-- the turn for the text at a place
pub texts_next : (all : List Source) (i : ℕ) (d : Source) (number last : ℕ) (now new : List Module) → i < length all
    → ReadTexts all number (drop i all) now → (m : Module) → IsModule number (get_or all i d).text.now m last → new ≡ now ++ m ∷ []
    → ReadTexts all last (drop (i + 1) all) new
texts_next all i d number last now new within r m is grown =
    subst (ReadTexts all last (drop (i + 1) all)) (sym grown)
    (texts_more all (drop (i + 1) all) number last (get_or all i d) now m (subst (λ ss. ReadTexts all number ss now) (drop_more all i d within) r) is)

pub texts_fail : (all : List Source) (i : ℕ) (d : Source) (number : ℕ) (now : List Module) (f : TextFault) (fault : ProjectFault) → i < length all
    → ReadTexts all number (drop i all) now → IsFault number (get_or all i d).text.now f → fault ≡ fault_in (get_or all i d) f → IsLibraryFault 0 all fault
texts_fail all i d number now f fault within r is e =
    (subst (λ ss. ReadTexts all number ss now) (drop_more all i d within) r).fails_on fault (inl (f, is, e))

pub texts_end : (all : List Source) (i number : ℕ) (now : List Module) → length all ≤ i → ReadTexts all number (drop i all) now → AreModules 0 all now
texts_end all i number now past r =
    subst (AreModules 0 all) (append-nil now) (r.goes_on [] (subst (λ ss. AreModules number ss []) (sym (drop_all i all past)) refl))
