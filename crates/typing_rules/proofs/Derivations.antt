-- Derivations of worked cases.
use Rattle.std.proofs.Common.{[], ◌∷◌, refl, codes, inl, inr}
use Rattle.std.specs.Prelude.{if◌then◌else◌}
use Rattle.std.specs.Str.{bytes_eq}
use Prim.Native.String.{String}
use Rattle.elm_base.specs.declared.native.TheConstants.{ADD, EQUAL, LESS, JOIN, TO_STRING, TEXT, MAP, FOLDP, FILTER_MAP}
use Rattle.elm_typing.specs.Ground.{Ground}
use Rattle.elm_typing.specs.Names.{list_of, signal_of}
use Rattle.elm_typing.specs.Spelling.{int, string, bool, maybe, tuple, record_of}
use Rattle.typing_rules.specs.WrittenTypes.{Choice}
use Rattle.typing_rules.specs.Library.{element}
use Rattle.typing_rules.specs.Worlds.{World, IsProper, Surroundings, no_surroundings, with_bound}
use Rattle.typing_rules.specs.Rules.{NativeGives}
use Rattle.typing_rules.specs.Core.{Local, Native, Case, Update, Remove, Field, ListOf}
use Rattle.typing_rules.specs.CoreTypes.{CoreHas}
use Rattle.typing_rules.specs.TypingExamples.{number, text, sets, call, cores, branches, name, lambda, let_name, always, mouse_x, show, here, Has, two_fields, named_twice, functions}

-- which type the first variable stands for, and all others
abbrev pub where_is : String → Ground → Ground → Choice
where_is variable t others x = if bytes_eq (codes variable) x then t else others

abbrev pub always_is : Ground → Choice
always_is t x = t

-- natives

pub add : NativeGives ADD (functions (int ∷ int ∷ []) int)
add = (_, refl, (always_is int, (tt, (tt, tt)), refl))

pub less_int : NativeGives LESS (functions (int ∷ int ∷ []) bool)
less_int = (_, refl, (always_is int, ((tt, inl refl), ((tt, inl refl), tt)), refl))

abbrev pair : Ground
pair = tuple (int ∷ string ∷ [])

pub less_pair : NativeGives LESS (functions (pair ∷ pair ∷ []) bool)
less_pair =
    (_, refl, (always_is pair, ((tt, (inl refl, (inr (inr refl), tt))), ((tt, (inl refl, (inr (inr refl), tt))), tt)), refl))

pub equal_at : (t : Ground) → NativeGives EQUAL (functions (t ∷ t ∷ []) bool)
equal_at t = (_, refl, (always_is t, ((tt, tt), ((tt, tt), tt)), refl))

pub join_lists : (t : Ground) → NativeGives JOIN (functions (list_of t ∷ list_of t ∷ []) (list_of t))
join_lists t = (_, refl, (always_is (list_of t), ((tt, refl), ((tt, refl), (tt, refl))), refl))

pub join_texts : NativeGives JOIN (functions (string ∷ string ∷ []) string)
join_texts = (_, refl, (always_is string, ((tt, refl), ((tt, refl), (tt, refl))), refl))

pub filter_map : NativeGives FILTER_MAP (functions (Ground.Function int (maybe string) ∷ string ∷ signal_of int ∷ []) (signal_of string))
filter_map = (_, refl, (where_is "a" int string, (((tt, tt), ((tt, tt), tt)), ((tt, tt), (((tt, tt), tt), ((tt, tt), tt)))), refl))

pub foldp : NativeGives FOLDP (functions (functions (int ∷ string ∷ []) string ∷ string ∷ signal_of int ∷ []) (signal_of string))
foldp =
    (_, refl, (where_is "a" int string, (((tt, tt), ((tt, tt), (tt, tt))), ((tt, tt), (((tt, tt), tt), ((tt, tt), tt)))), refl))

pub map_at : (t u : Ground) → NativeGives MAP (functions (Ground.Function t u ∷ signal_of t ∷ []) (signal_of u))
map_at t u = (_, refl, (where_is "a" t u, (((tt, tt), (tt, tt)), (((tt, tt), tt), ((tt, tt), tt))), refl))

pub to_string_at : (t : Ground) → NativeGives TO_STRING (functions (t ∷ []) string)
to_string_at t = (_, refl, (always_is t, ((tt, tt), tt), refl))

pub text_element : NativeGives TEXT (functions (string ∷ []) element)
text_element = (_, refl, (always_is int, (tt, tt), refl))

-- proper types

module _ (w : World) where
  pub proper_int : IsProper w int
  proper_int = record { sorted = tt; ordered = tt }

  pub proper_string : IsProper w string
  proper_string = record { sorted = tt; ordered = tt }

  pub proper_element : IsProper w element
  proper_element = record { sorted = tt; ordered = tt }

  pub proper_pair : IsProper w (tuple (int ∷ string ∷ []))
  proper_pair = record { sorted = (tt, refl, (tt, refl, tt)); ordered = (tt, (tt, tt)) }

  pub proper_record : IsProper w (record_of (("x", string) ∷ ("x", int) ∷ []))
  proper_record = record { sorted = (tt, refl, (tt, refl, tt)); ordered = (tt, refl, (tt, tt, tt)) }

  pub proper_old : IsProper w (record_of (("x", int) ∷ []))
  proper_old = record { sorted = (tt, refl, tt); ordered = (tt, tt, tt) }

  pub proper_signal : IsProper w (signal_of int)
  proper_signal = record { sorted = (tt, refl, tt); ordered = (tt, tt) }

  pub proper_list : IsProper w (list_of int)
  proper_list = record { sorted = (tt, refl, tt); ordered = (tt, tt) }

-- records

pub both : Has two_fields (record_of (("x", string) ∷ ("x", int) ∷ []))
both = (
  proper_record _,
  (_, _, refl, (proper_old _, (_, refl, (int, _, (proper_int _, refl), refl, refl))), (string, _, (proper_string _, refl), refl, refl)),
)

pub read : Has (Field two_fields (codes "x")) string
read = (proper_string _, (_, both, refl))

pub removed_first : Has (Field (Remove two_fields (codes "x")) (codes "x")) int
removed_first = (proper_int _, (_, (proper_old _, (_, _, refl, both, refl)), refl))

pub updated : Has (Update two_fields (sets (("x", text "b") ∷ []))) (record_of (("x", string) ∷ ("x", int) ∷ []))
updated = (proper_record _, (_, refl, both, ((string, refl, (proper_string _, refl)), tt)))

-- definitions

same_int : IsProper here (Ground.Function int int)
same_int = record { sorted = (tt, tt, tt); ordered = (tt, tt) }

same_string : IsProper here (Ground.Function string string)
same_string = record { sorted = (tt, tt, tt); ordered = (tt, tt) }

pub twice : Has named_twice (tuple (int ∷ string ∷ []))
twice = (
  proper_pair _,
  (
    Ground.Function int int ∷ [],
    ((same_int, (int, int, refl, (_, refl, (proper_int _, refl)))), tt, tt),
    (tt, tt),
    (
      proper_pair _,
      (
        _,
        refl,
        (
          int,
          _,
          refl,
          (proper_int _, (int, (same_int, (Ground.Function int int ∷ [], ((same_int, (int, int, refl, (_, refl, (proper_int _, refl)))), tt, tt), refl)), (proper_int _, refl))),
          (
            string,
            _,
            refl,
            (proper_string _, (string, (same_string, (Ground.Function string string ∷ [], ((same_string, (string, string, refl, (_, refl, (proper_string _, refl)))), tt, tt), refl)), (proper_string _, refl))),
            refl,
          ),
        ),
      ),
    ),
  ),
)

list_of_name : (s : Surroundings) → s 0 int → CoreHas here s (ListOf (cores (Local 0 ∷ []))) (list_of int)
list_of_name s h = (proper_list _, (int, refl, ((proper_int _, h), tt)))

pub own_surroundings : Has (lambda 0 (let_name 0 (ListOf (cores (Local 0 ∷ []))) (Local 0))) (Ground.Function int (list_of int))
own_surroundings = (
  record { sorted = (tt, (tt, refl, tt), tt); ordered = (tt, (tt, tt)) },
  (int, list_of int, refl, (_, refl, (proper_list _, (list_of int, list_of_name (with_bound ((0, int) ∷ []) no_surroundings) refl, tt, (proper_list _, list_of_name (with_bound ((0, int) ∷ []) no_surroundings) refl))))),
)

pub named_simple : Has (lambda 0 (let_name 1 (number 4) (number 3))) (Ground.Function int int)
named_simple = (same_int, (int, int, refl, (_, refl, (proper_int _, (int, (proper_int _, refl), tt, (proper_int _, refl))))))

-- signals

abbrev ints : Ground
ints = tuple (int ∷ int ∷ [])

proper_ints : (w : World) → IsProper w ints
proper_ints w = record { sorted = (tt, refl, (tt, refl, tt)); ordered = (tt, (tt, tt)) }

proper_ints_signal : (w : World) → IsProper w (signal_of ints)
proper_ints_signal w = record { sorted = ((tt, refl, (tt, refl, tt)), refl, tt); ordered = ((tt, (tt, tt)), tt) }

proper_first : (w : World) → IsProper w (Ground.Function ints int)
proper_first w = record { sorted = ((tt, refl, (tt, refl, tt)), tt, tt); ordered = ((tt, (tt, tt)), tt) }

proper_lift : (w : World) → IsProper w (Ground.Function (signal_of ints) (signal_of int))
proper_lift w = record { sorted = (((tt, refl, (tt, refl, tt)), refl, tt), (tt, refl, tt), tt); ordered = (((tt, (tt, tt)), tt), (tt, tt)) }

proper_mapping : (w : World) → IsProper w (Ground.Function (Ground.Function ints int) (Ground.Function (signal_of ints) (signal_of int)))
proper_mapping w = record { sorted = ((proper_first w).sorted, (proper_lift w).sorted, tt); ordered = ((proper_first w).ordered, (proper_lift w).ordered) }

pub typed_x : Has mouse_x (signal_of int)
typed_x = (
  proper_signal _,
  (
    signal_of int ∷ [],
    (
      (
        proper_signal _,
        (
          signal_of ints,
          (proper_lift _, (Ground.Function ints int, (proper_mapping _, map_at ints int), (proper_first _, (Ground.Function ints int ∷ [], ((proper_first _, (ints, int, refl, (_, (_, refl, (_, _, refl, (_, _, refl, refl, refl), refl)), (proper_int _, refl)))), tt, tt), refl)))),
          (proper_ints_signal _, (signal_of ints ∷ [], ((proper_ints_signal _, (ints, refl, refl)), tt, tt), refl)),
        ),
      ),
      tt,
      tt,
    ),
    refl,
  ),
)

pub named_signal : Has (let_name 1 mouse_x (Local 1)) (signal_of int)
named_signal = (proper_signal _, (signal_of int, typed_x, tt, (proper_signal _, typed_x)))

pub taken_signal : Has (Case mouse_x (branches ((name 0, Local 0) ∷ []))) (signal_of int)
taken_signal = (proper_signal _, (signal_of int, typed_x, tt, ((_, refl, (proper_signal _, refl)), tt)))

proper_second : (w : World) → IsProper w (Ground.Function int (signal_of int))
proper_second w = record { sorted = (tt, (tt, refl, tt), tt); ordered = (tt, (tt, tt)) }

proper_always : (w : World) → IsProper w (Ground.Function (signal_of int) (Ground.Function int (signal_of int)))
proper_always w = record { sorted = ((tt, refl, tt), (proper_second w).sorted, tt); ordered = ((tt, tt), (proper_second w).ordered) }

pub kept_signal : Has (call always (mouse_x ∷ number 3 ∷ [])) (signal_of int)
kept_signal = (
  proper_signal _,
  (
    int,
    (
      proper_second _,
      (
        signal_of int,
        (
          proper_always _,
          (
            Ground.Function (signal_of int) (Ground.Function int (signal_of int)) ∷ [],
            ((proper_always _, (signal_of int, Ground.Function int (signal_of int), refl, (_, refl, (proper_second _, (int, signal_of int, refl, (_, refl, (proper_signal _, refl))))))), tt, tt),
            refl,
          ),
        ),
        typed_x,
      ),
    ),
    (proper_int _, refl),
  ),
)

proper_shown : (w : World) → IsProper w (Ground.Function int element)
proper_shown w = record { sorted = (tt, tt, tt); ordered = (tt, tt) }

proper_elements : (w : World) → IsProper w (signal_of element)
proper_elements w = record { sorted = (tt, refl, tt); ordered = (tt, tt) }

proper_showing : (w : World) → IsProper w (Ground.Function (signal_of int) (signal_of element))
proper_showing w = record { sorted = ((tt, refl, tt), (tt, refl, tt), tt); ordered = ((tt, tt), (tt, tt)) }

pub mapped_signal : Has (call (Native MAP) (show ∷ mouse_x ∷ [])) (signal_of element)
mapped_signal = (
  proper_elements _,
  (
    signal_of int,
    (
      proper_showing _,
      (
        Ground.Function int element,
        (record { sorted = ((tt, tt, tt), ((tt, refl, tt), (tt, refl, tt), tt), tt); ordered = ((tt, tt), ((tt, tt), (tt, tt))) }, map_at int element),
        (
          proper_shown _,
          (
            Ground.Function int element ∷ [],
            (
              (
                proper_shown _,
                (
                  int,
                  element,
                  refl,
                  (
                    _,
                    refl,
                    (
                      proper_element _,
                      (
                        string,
                        (record { sorted = (tt, tt, tt); ordered = (tt, tt) }, text_element),
                        (proper_string _, (int, (record { sorted = (tt, tt, tt); ordered = (tt, tt) }, to_string_at int), (proper_int _, refl))),
                      ),
                    ),
                  ),
                ),
              ),
              tt,
              tt,
            ),
            refl,
          ),
        ),
      ),
    ),
    typed_x,
  ),
)
