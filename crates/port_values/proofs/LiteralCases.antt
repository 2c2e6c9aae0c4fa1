-- The worked cases of literals with parts.
use Rattle.std.proofs.Common.{◌≡◌, ℕ, zero, suc, pos, Bool, Some, true, true≢false, List, [], ◌∷◌, ◌++◌, drop, nat_le, codes, refl, sym, ◌∙◌, ap}
use Rattle.elm_base.specs.declared.event.PortType.{PortType}
use Rattle.elm_base.specs.declared.event.PortType.TheOpen as type
use Rattle.elm_base.specs.declared.event.PortValue.{PortValue}
use Rattle.elm_base.specs.declared.event.PortValue.TheOpen as value
use Rattle.port_values.specs.Literals.{Text, AreSpaces, ends_word, last, then_more, none, put, brackets, Forms, unit, int, truth, quotes, nothing, just, list, tuple, fields, SpellEach, done, part, SpellFields, no_field, field}
use Rattle.port_values.specs.Leaves.{text_of}
use lib.Utf8.{encode}
use Rattle.std.specs.Str.{chars, is_utf8}
use Rattle.port_values.specs.LiteralCases.{Given, Maybes, Lists, Tuples, Fields, Literals, x_and_y}

abbrev first_byte : Text → ℕ
first_byte [] = 0
first_byte (byte ∷ rest) = byte

lower_nothing : (room : ℕ) (port : PortType) → Forms room (type.Maybe port) value.Nothing (codes "nothing") → ⊥
lower_nothing room port (nothing _ _ _ is) = true≢false (sym (ap (λ text. nat_le (first_byte text) 78) is))

tight : (room : ℕ) (port : PortType) (given : PortValue) → Forms room (type.Maybe port) (value.Just given) (codes "Just1") → ⊥
tight room port given (just _ _ _ spaces inside _ are ends spelled is) =
    true≢false (sym (ap ends_word (ap (drop 4) is) ∙ ends))

just_no_nothing : (room : ℕ) (port : PortType) (given : PortValue) → Forms room (type.Maybe port) (value.Just given) (codes "Nothing") → ⊥
just_no_nothing room port given (just _ _ _ spaces inside _ are ends spelled is) =
    true≢false (sym (ap (λ text. nat_le (first_byte text) 75) is))

maybes : (g : Given) → Maybes g
maybes g = record {
  nothing = nothing g.room g.port (codes "Nothing") refl;
  lower = lower_nothing g.room g.port;
  just = just g.room g.port g.one (codes " ") (codes "1") (codes "Just 1") refl refl g.spells_one refl;
  spaces = just g.room g.port g.one (codes "   ") (codes "1") (codes "Just   1") refl refl g.spells_one refl;
  in_brackets = brackets g.room g.port g.one (codes "1") (codes "( 1  )") g.spells_one (codes " ", codes "  ", refl, refl, refl);
  just_tight = tight g.room g.port;
  just_nothing = just_no_nothing g.room g.port;
}

list_no_room : (port : PortType) (given : value.PortValue-F PortValue) (text : Text) → Forms zero (type.List port) given text → ⊥
list_no_room port given text h = elim h [ ]

two_parts : (g : Given) → SpellEach g.room (g.port ∷ g.port ∷ []) (g.one ∷ g.two ∷ []) (codes "1" ∷ codes "2" ∷ [])
two_parts g = part g.room g.port g.one (codes "1") _ _ _ g.spells_one (part g.room g.port g.two (codes "2") [] [] [] g.spells_two (done g.room))

lists : (g : Given) → Lists g
lists g = record {
  empty = list g.room g.port [] [] [] (codes "[ ]") (done g.room) refl (codes " ", [], refl, refl, refl);
  one = list g.room g.port (g.one ∷ []) (codes "1" ∷ []) (codes "1") (codes "[1]")
      (part g.room g.port g.one (codes "1") [] [] [] g.spells_one (done g.room)) (last (codes "1")) ([], [], refl, refl, refl);
  two = list g.room g.port (g.one ∷ g.two ∷ []) (codes "1" ∷ codes "2" ∷ []) (codes "1 ,  2") (codes "[ 1 ,  2]")
      (two_parts g) (then_more (codes "1") (codes "2" ∷ []) (codes " ") (codes "  ") (codes "2") (codes "1 ,  2") refl refl (last (codes "2")) refl)
      (codes " ", [], refl, refl, refl);
  no_room = list_no_room g.port;
}

tuple_missing : (room : ℕ) (p q : PortType) (one : PortValue) (text : Text)
    → Forms (suc room) (type.Tuple (p ∷ q ∷ [])) (value.Tuple (one ∷ [])) text → ⊥
tuple_missing room p q one text (tuple _ _ _ texts inside _ (part _ _ _ _ _ _ _ spelled rest) lists encloses) = elim rest [ ]

tuple_no_room : (ports : List PortType) (given : value.PortValue-F PortValue) (text : Text) → Forms zero (type.Tuple ports) given text → ⊥
tuple_no_room ports given text h = elim h [ ]

tuples : (g : Given) → Tuples g
tuples g = record {
  two = tuple g.room (g.port ∷ g.port ∷ []) (g.one ∷ g.two ∷ []) (codes "1" ∷ codes "2" ∷ []) (codes "1, 2") (codes "(1, 2 )")
      (two_parts g) (then_more (codes "1") (codes "2" ∷ []) [] (codes " ") (codes "2") (codes "1, 2") refl refl (last (codes "2")) refl)
      ([], codes " ", refl, refl, refl);
  missing = tuple_missing g.room g.port g.port g.one;
  no_room = tuple_no_room;
}

fields_missing : (room : ℕ) (p q : PortType) (one : PortValue) (text : Text)
    → Forms (suc room) (type.Fields (x_and_y p q)) (value.Fields ((codes "x", one) ∷ [])) text → ⊥
fields_missing room p q one text (fields _ _ _ texts written inside _ (field _ _ _ _ _ _ _ _ _ _ _ _ _ _ _ rest) order lists encloses) = elim rest [ ]

fields_no_room : (ports : List (Text × PortType)) (given : value.PortValue-F PortValue) (text : Text) → Forms zero (type.Fields ports) given text → ⊥
fields_no_room ports given text h = elim h [ ]

both_fields : (g : Given) (x y : Text) (ax bx ay by_ : Text) → AreSpaces ax → AreSpaces bx → AreSpaces ay → AreSpaces by_
    → x ≡ codes "x" ++ (ax ++ 61 ∷ (bx ++ codes "1")) → y ≡ codes "y" ++ (ay ++ 61 ∷ (by_ ++ codes "2"))
    → SpellFields g.room (x_and_y g.port g.port) (x_and_y g.one g.two) (x ∷ y ∷ [])
both_fields g x y ax bx ay by_ h i j k is_x is_y =
    field g.room (codes "x") g.port g.one ax bx (codes "1") x _ _ _ h i g.spells_one is_x
    (field g.room (codes "y") g.port g.two ay by_ (codes "2") y [] [] [] j k g.spells_two is_y (no_field g.room))

fields_cases : (g : Given) → Fields g
fields_cases g = record {
  none = fields g.room [] [] [] [] [] (codes "{}") (no_field g.room) none refl ([], [], refl, refl, refl);
  in_order = fields g.room (x_and_y g.port g.port) (x_and_y g.one g.two) (codes "x=1" ∷ codes "y = 2" ∷ []) (codes "x=1" ∷ codes "y = 2" ∷ []) (codes "x=1,y = 2") (codes "{x=1,y = 2 }")
      (both_fields g (codes "x=1") (codes "y = 2") [] [] (codes " ") (codes " ") refl refl refl refl refl refl)
      (put (codes "x=1") [] (codes "y = 2" ∷ []) (codes "y = 2" ∷ []) (put (codes "y = 2") [] [] [] none))
      (then_more (codes "x=1") (codes "y = 2" ∷ []) [] [] (codes "y = 2") (codes "x=1,y = 2") refl refl (last (codes "y = 2")) refl)
      ([], codes " ", refl, refl, refl);
  turned = fields g.room (x_and_y g.port g.port) (x_and_y g.one g.two) (codes "x=1" ∷ codes "y=2" ∷ []) (codes "y=2" ∷ codes "x=1" ∷ []) (codes "y=2, x=1") (codes "{ y=2, x=1}")
      (both_fields g (codes "x=1") (codes "y=2") [] [] [] [] refl refl refl refl refl refl)
      (put (codes "x=1") (codes "y=2" ∷ []) [] (codes "y=2" ∷ []) (put (codes "y=2") [] [] [] none))
      (then_more (codes "y=2") (codes "x=1" ∷ []) [] (codes " ") (codes "x=1") (codes "y=2, x=1") refl refl (last (codes "x=1")) refl)
      (codes " ", [], refl, refl, refl);
  missing = fields_missing g.room g.port g.port g.one;
  no_room = fields_no_room;
}

unit_no_room : (given : value.PortValue-F PortValue) (text : Text) → Forms zero type.Unit given text → ⊥
unit_no_room given text h = elim h [ ]

truth_is_no_int : (room : ℕ) (is : Bool) (text : Text) → Forms room type.Int (value.Bool is) text → ⊥
truth_is_no_int room is text h = elim h [ ]

a_text : text_of (codes "\"a\"") ≡ Some (codes "a")
unfolding chars is_utf8 encode
a_text = refl

pub literals : Literals
literals = record {
  leaves = record {
    int = λ room. int room (pos 5) (codes "05") refl;
    truth = λ room. truth room true (codes "True") refl;
    text = λ room. quotes room (codes "a") (codes "\"a\"") a_text;
    truth_no_int = truth_is_no_int;
  };
  units = record { unit = λ room. unit room (codes "( )") refl; no_room = unit_no_room };
  maybes = maybes;
  lists = lists;
  tuples = tuples;
  fields = fields_cases;
}
