-- Each form is read, and what is read is of the form.
use Rattle.std.proofs.Common.{◌≡◌, ◌==◌, ◌&&◌, if◌then◌else◌, ℕ, List, [], ◌∷◌, ◌≢◌, Option, Some, None, IfSome, IfNone, option_map, option_and_then, Bool, true, false, refl, sym, ap, ap₂, ◌∙◌, codes}
use Rattle.std.specs.Str.{bytes_eq}
use Rattle.std.proofs.lemmas.Slice.Eq.{bytes_eq-Decides}
use Rattle.std.proofs.lemmas.Bool.{eqb-true, and_parts}
use Rattle.serde_json.specs.Data.{Data, null, boolean, number, string, array, object, unsigned, negative, float, Items, Members, member, no_members}
use Rattle.serde_json.specs.Find.{as_str, as_array}
use Rattle.serde_json.specs.View.{items_of}
use Rattle.session_form.specs.Form.{sheet}
use Rattle.session_form.specs.Laws.{OneContent}
use Rattle.session_form.specs.Reader as spec
use Rattle.session_form.specs.Reader.{parts_in}

number_found : (d : Data) (n : ℕ) → spec.number_in d ≡ Some n → d ≡ number (unsigned n)
number_found (number (unsigned m)) n e = cc
number_found (number (negative z)) n e = cc
number_found (number (float x)) n e = cc
number_found null n e = cc
number_found (boolean b) n e = cc
number_found (string s) n e = cc
number_found (array ds) n e = cc
number_found (object ms) n e = cc

text_found : (d : Data) (text : List ℕ) → as_str d ≡ Some text → d ≡ string text
text_found (string s) text e = cc
text_found null text e = cc
text_found (boolean b) text e = cc
text_found (number n) text e = cc
text_found (array ds) text e = cc
text_found (object ms) text e = cc

list_found : (d : Data) (ds : Items) → as_array d ≡ Some ds → d ≡ array ds
list_found (array own) ds e = cc
list_found null ds e = cc
list_found (boolean b) ds e = cc
list_found (number n) ds e = cc
list_found (string s) ds e = cc
list_found (object ms) ds e = cc

some_is : {A : Type 0} (x y : A) → Some x ≡ Some y → x ≡ y
some_is x y e = cc

chosen : {A : Type 0} (b : Bool) (x y : A) → (if b then Some x else None) ≡ Some y → (b ≡ true) × (x ≡ y)
chosen true x y e = (refl, cc)
chosen false x y e = cc

taken_found : (key : List ℕ) (ms : Members) (d : Data) (left : Members) → spec.taken key ms ≡ Some (d, left) → ms ≡ member key d left
taken_found key no_members d left found = cc
taken_found key (member own e rest) d left found =
    let h = chosen (bytes_eq own key) (e, rest) (d, left) found in
    let same = (bytes_eq-Decides own key).0 h.0 in
    ap (λ k. member k e rest) same ∙ ap (λ (p : Data × Members). member key p.0 p.1) h.1

-- what the first member has, where f tells that it is what g makes
module _ {A : Type 0} (f : Data → Option A) (g : A → Data) (tells : (d : Data) (a : A) → f d ≡ Some a → d ≡ g a) where
  given : (t : Data × Members) (o : Option A) (a : A) (left : Members) → f t.0 ≡ o → option_map {U = A × Members} (λ b. (b, t.1)) o ≡ Some (a, left) → (t.0 ≡ g a) × (t.1 ≡ left)
  given t None a left own e = cc
  given t (Some b) a left own e =
      let pair = some_is (b, t.1) (a, left) e in
      let same : b ≡ a = ap (λ (p : A × Members). p.0) pair in
      (tells t.0 a (own ∙ ap Some same), ap (λ (p : A × Members). p.1) pair)

  found_by : (key : List ℕ) (ms : Members) (o : Option (Data × Members)) (a : A) (left : Members) → spec.taken key ms ≡ o
      → option_and_then {U = A × Members} (λ t. option_map {U = A × Members} (λ b. (b, t.1)) (f t.0)) o ≡ Some (a, left) → ms ≡ member key (g a) left
  found_by key ms None a left own e = cc
  found_by key ms (Some t) a left own e =
      let h = given t (f t.0) a left refl e in
      taken_found key ms t.0 t.1 own ∙ ap₂ (member key) h.0 h.1

  first_found : (key : List ℕ) (ms : Members) (a : A) (left : Members) → spec.taken_as f key ms ≡ Some (a, left) → ms ≡ member key (g a) left
  first_found key ms a left e = found_by key ms (spec.taken key ms) a left refl e

then_found : {A B : Type 0} (o : Option (A × Members)) (f : A → Members → Option B) (b : B) → spec.then_read o f ≡ Some b
    → (a : A) × (left : Members) × (o ≡ Some (a, left)) × (f a left ≡ Some b)
then_found None f b e = cc
then_found (Some (a, left)) f b e = (a, left, refl, e)

nothing_left : (ms : Members) → spec.is_end ms ≡ true → ms ≡ no_members
nothing_left no_members h = refl
nothing_left (member key d ms) h = cc

-- the members with these parts
abbrev pub members_with : spec.Parts → Members
members_with parts =
    member (codes "cursor") (number (unsigned parts.0))
    (member (codes "events") (array parts.1.0)
    (member (codes "format") (string (codes "reactor-session"))
    (member (codes "inputs") (array parts.1.1)
    (member (codes "version") (number (unsigned 1)) no_members))))

parts_found : (ms : Members) (parts : spec.Parts) → parts_in ms ≡ Some parts → ms ≡ members_with parts
unfolding parts_in
parts_found ms parts e =
    let cursor = then_found (spec.taken_as spec.number_in (codes "cursor") ms) _ parts e in
    let events = then_found (spec.taken_as as_array (codes "events") cursor.1) _ parts cursor.3 in
    let format = then_found (spec.taken_as as_str (codes "format") events.1) _ parts events.3 in
    let inputs = then_found (spec.taken_as as_array (codes "inputs") format.1) _ parts format.3 in
    let version = then_found (spec.taken_as spec.number_in (codes "version") inputs.1) _ parts inputs.3 in
    let whole = chosen (bytes_eq format.0 (codes "reactor-session") && version.0 == 1 && spec.is_end version.1) (cursor.0, (events.0, inputs.0)) parts version.3 in
    let both = and_parts (bytes_eq format.0 (codes "reactor-session") && version.0 == 1) (spec.is_end version.1) whole.0 in
    let two = and_parts (bytes_eq format.0 (codes "reactor-session")) (version.0 == 1) both.0 in
    let named = (bytes_eq-Decides format.0 (codes "reactor-session")).0 two.0 in
    let one = eqb-true version.0 1 two.1 in
    let at_end = nothing_left version.1 both.1 in
    first_found spec.number_in (λ n. number (unsigned n)) number_found (codes "cursor") ms cursor.0 cursor.1 cursor.2
    ∙ ap (member (codes "cursor") (number (unsigned cursor.0))) (first_found as_array array list_found (codes "events") cursor.1 events.0 events.1 events.2
    ∙ ap (member (codes "events") (array events.0)) (first_found as_str string text_found (codes "format") events.1 format.0 format.1 format.2
    ∙ ap₂ (λ text left. member (codes "format") (string text) left) named (first_found as_array array list_found (codes "inputs") format.1 inputs.0 inputs.1 inputs.2
    ∙ ap (member (codes "inputs") (array inputs.0)) (first_found spec.number_in (λ n. number (unsigned n)) number_found (codes "version") inputs.1 version.0 version.1 version.2
    ∙ ap₂ (λ n left. member (codes "version") (number (unsigned n)) left) one at_end))))
    ∙ ap members_with whole.1

pub sheet_found : (d : Data) (parts : spec.Parts) → spec.sheet_in d ≡ Some parts → d ≡ object (members_with parts)
sheet_found null parts e = cc
sheet_found (boolean b) parts e = cc
sheet_found (number n) parts e = cc
sheet_found (string s) parts e = cc
sheet_found (array ds) parts e = cc
sheet_found (object ms) parts e = ap object (parts_found ms parts e)

pub sheet_read : (cursor : ℕ) (events inputs : List Data) → spec.sheet_in (sheet cursor events inputs) ≡ Some (cursor, (items_of events, items_of inputs))
unfolding parts_in
sheet_read cursor events inputs = refl

-- ---- what a call says that gives what is read

module _ {S : Type 0} (seen : S → spec.Parts) where
  pub is_sheet : (o : Option S) (d : Data) → option_map seen o ≡ spec.sheet_in d → IfSome o (λ s. d ≡ object (members_with (seen s)))
  is_sheet None d e = tt
  is_sheet (Some s) d e = sheet_found d (seen s) (sym e)

  pub is_no_sheet : (o : Option S) (d : Data) → option_map seen o ≡ spec.sheet_in d → IfNone o ((cursor : ℕ) (events inputs : List Data) → d ≢ sheet cursor events inputs)
  is_no_sheet None d e = λ cursor events inputs h.
      let read : spec.sheet_in d ≡ Some (cursor, (items_of events, items_of inputs)) = ap spec.sheet_in h ∙ sheet_read cursor events inputs in
      cc
  is_no_sheet (Some s) d e = tt

-- ---- a sheet has one content

items_same : (ds es : List Data) → items_of ds ≡ items_of es → ds ≡ es
items_same [] [] h = refl
items_same [] (e ∷ es) h = cc
items_same (d ∷ ds) [] h = cc
items_same (d ∷ ds) (e ∷ es) h =
    let first : d ≡ e = cc in
    let rest : items_of ds ≡ items_of es = cc in
    ap₂ (λ x xs. x ∷ xs) first (items_same ds es rest)

pub one_content : OneContent
one_content cursor other events others inputs own h =
    let read = sym (sheet_read cursor events inputs) ∙ ap spec.sheet_in h ∙ sheet_read other others own in
    let same = some_is {A = spec.Parts} (cursor, (items_of events, items_of inputs)) (other, (items_of others, items_of own)) read in
    (ap (λ (p : spec.Parts). p.0) same, items_same events others (ap (λ (p : spec.Parts). p.1.0) same), items_same inputs own (ap (λ (p : spec.Parts). p.1.1) same))
