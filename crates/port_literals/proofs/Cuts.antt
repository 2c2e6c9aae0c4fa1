-- Texts cut at the commas outside brackets and texts.
use Rattle.std.proofs.Common.{◌≡◌, ◌==◌, ℕ, zero, suc, Bool, true, false, true≢false, ◌||◌, if◌then◌else◌, List, [], ◌∷◌, ◌++◌, map, refl, sym, ◌∙◌, ap, ap₂, subst}
use Rattle.std.specs.List.{list_all}
use Rattle.std.proofs.lemmas.List.{append_assoc, append-nil}
use Rattle.elm_base.specs.Letters.{is_name_byte}
use Rattle.elm_base.specs.Spaces.{trim_start}
use Rattle.port_values.specs.Literals.{Text, AreSpaces, Encloses, Joined, last, then_more, Lists}
use Rattle.port_literals.specs.declared.scan.Place.TheVariants as place
use Rattle.port_literals.specs.Parts.{opens, closes, fewer, after, put, cuts, trim, parts_unless, parts_of}
use Rattle.port_literals.proofs.Texts.{and_left, and_right, apart, starts, ends, skipped, all_skipped, stays, trimmed}

-- a text in front of the first
abbrev pub front : Text → List Text → List Text
front [] texts = texts
front (byte ∷ text) texts = put byte (front text texts)

pub front_on : (text first : Text) (others : List Text) → front text (first ∷ others) ≡ (text ++ first) ∷ others
front_on [] first others = refl
front_on (byte ∷ text) first others = ap (put byte) (front_on text first others)

pub front_more : (a b : Text) (texts : List Text) → front (a ++ b) texts ≡ front a (front b texts)
front_more [] b texts = refl
front_more (byte ∷ a) b texts = ap (put byte) (front_more a b texts)

-- no comma of a text parts the text in which it stands
abbrev pub Passes : Text → Type 0
Passes text = (depth : ℕ) (rest : Text) → cuts (place.Open depth) (text ++ rest) ≡ front text (cuts (place.Open depth) rest)

-- the same where a bracket is open
abbrev pub PassesIn : Text → Type 0
PassesIn text = (depth : ℕ) (rest : Text) → cuts (place.Open (suc depth)) (text ++ rest) ≡ front text (cuts (place.Open (suc depth)) rest)

pub within_brackets : (text : Text) → Passes text → PassesIn text
within_brackets text p depth rest = p (suc depth) rest

pub both_pass : (a b : Text) → Passes a → Passes b → Passes (a ++ b)
both_pass a b p q depth rest =
    ap (cuts (place.Open depth)) (append_assoc a b rest) ∙ p depth (b ++ rest) ∙ ap (front a) (q depth rest) ∙ sym (front_more a b (cuts (place.Open depth) rest))

pub both_pass_in : (a b : Text) → PassesIn a → PassesIn b → PassesIn (a ++ b)
both_pass_in a b p q depth rest =
    ap (cuts (place.Open (suc depth))) (append_assoc a b rest) ∙ p depth (b ++ rest) ∙ ap (front a) (q depth rest) ∙ sym (front_more a b (cuts (place.Open (suc depth)) rest))

-- ---- bytes that part nothing

-- a test that neither commas, quotes nor brackets pass
abbrev pub Avoids : (ℕ → Bool) → Type 0
Avoids test = (test 44 ≡ false) × (test 34 ≡ false) × (test 40 ≡ false) × (test 91 ≡ false) × (test 123 ≡ false) × (test 41 ≡ false) × (test 93 ≡ false) × (test 125 ≡ false)

no_or : (a b c : Bool) → a ≡ false → b ≡ false → c ≡ false → (a || b || c) ≡ false
no_or a b c h k l = ap (λ x. x || b || c) h ∙ ap (λ x. false || x || c) k ∙ ap (λ x. false || false || x) l

quiet : (test : ℕ → Bool) → Avoids test → (byte : ℕ) → test byte ≡ true → (depth : ℕ) (rest : Text) → cuts (place.Open depth) (byte ∷ rest) ≡ put byte (cuts (place.Open depth) rest)
quiet test avoids byte holds depth rest = go depth where
  no_comma : (byte == 44) ≡ false
  no_comma = apart test 44 byte avoids.0 holds

  no_quote : (byte == 34) ≡ false
  no_quote = apart test 34 byte avoids.1 holds

  no_open : opens byte ≡ false
  no_open = no_or (byte == 40) (byte == 91) (byte == 123) (apart test 40 byte avoids.2 holds) (apart test 91 byte avoids.3 holds) (apart test 123 byte avoids.4 holds)

  no_close : closes byte ≡ false
  no_close = no_or (byte == 41) (byte == 93) (byte == 125) (apart test 41 byte avoids.5 holds) (apart test 93 byte avoids.6 holds) (apart test 125 byte avoids.7 holds)

  stays_there : (d : ℕ) → after (place.Open d) byte ≡ place.Open d
  stays_there d =
      ap (λ b. if b then place.Quoted d else (if opens byte then place.Open (suc d) else (if closes byte then place.Open (fewer d) else place.Open d))) no_quote
      ∙ ap (λ b. if b then place.Open (suc d) else (if closes byte then place.Open (fewer d) else place.Open d)) no_open
      ∙ ap (λ b. if b then place.Open (fewer d) else place.Open d) no_close

  go : (d : ℕ) → cuts (place.Open d) (byte ∷ rest) ≡ put byte (cuts (place.Open d) rest)
  go zero = ap (λ b. if b then [] ∷ cuts (place.Open 0) rest else put byte (cuts (after (place.Open zero) byte) rest)) no_comma ∙ ap (λ p. put byte (cuts p rest)) (stays_there zero)
  go (suc d) = ap (λ p. put byte (cuts p rest)) (stays_there (suc d))

pub all_pass : (test : ℕ → Bool) → Avoids test → (text : Text) → list_all test text ≡ true → Passes text
all_pass test avoids [] h depth rest = refl
all_pass test avoids (byte ∷ text) h depth rest =
    quiet test avoids byte (and_left (test byte) (list_all test text) h) depth (text ++ rest)
    ∙ ap (put byte) (all_pass test avoids text (and_right (test byte) (list_all test text) h) depth rest)

pub spaces_pass : (text : Text) → AreSpaces text → Passes text
spaces_pass text h = all_pass (λ byte. byte == 32) (refl, refl, refl, refl, refl, refl, refl, refl) text h

pub names_pass : (text : Text) → list_all is_name_byte text ≡ true → Passes text
names_pass text h = all_pass is_name_byte (refl, refl, refl, refl, refl, refl, refl, refl) text h

-- ---- brackets

-- these bytes open and close
abbrev pub IsPair : ℕ → ℕ → Type 0
IsPair open_ close =
    ((depth : ℕ) (rest : Text) → cuts (place.Open depth) (open_ ∷ rest) ≡ put open_ (cuts (place.Open (suc depth)) rest))
    × ((depth : ℕ) (rest : Text) → cuts (place.Open (suc depth)) (close ∷ rest) ≡ put close (cuts (place.Open depth) rest))

round_opens : (depth : ℕ) (rest : Text) → cuts (place.Open depth) (40 ∷ rest) ≡ put 40 (cuts (place.Open (suc depth)) rest)
round_opens zero rest = refl
round_opens (suc depth) rest = refl

pub round : IsPair 40 41
round = (round_opens, λ depth rest. refl)

square_opens : (depth : ℕ) (rest : Text) → cuts (place.Open depth) (91 ∷ rest) ≡ put 91 (cuts (place.Open (suc depth)) rest)
square_opens zero rest = refl
square_opens (suc depth) rest = refl

pub square : IsPair 91 93
square = (square_opens, λ depth rest. refl)

curly_opens : (depth : ℕ) (rest : Text) → cuts (place.Open depth) (123 ∷ rest) ≡ put 123 (cuts (place.Open (suc depth)) rest)
curly_opens zero rest = refl
curly_opens (suc depth) rest = refl

pub curly : IsPair 123 125
curly = (curly_opens, λ depth rest. refl)

pub enclosed_pass : (open_ close : ℕ) → IsPair open_ close → (inside text : Text) → PassesIn inside → Encloses open_ close inside text → Passes text
enclosed_pass open_ close pair inside text p (before, behind, h, k, is) =
    subst Passes (sym is) (λ depth rest.
    pair.0 depth ((before ++ (inside ++ (behind ++ close ∷ []))) ++ rest)
    ∙ ap (put open_)
    (ap (cuts (place.Open (suc depth))) (append_assoc before (inside ++ (behind ++ close ∷ [])) rest ∙ ap (λ x. before ++ x) (append_assoc inside (behind ++ close ∷ []) rest ∙ ap (λ x. inside ++ x) (append_assoc behind (close ∷ []) rest)))
    ∙ spaces_pass before h (suc depth) (inside ++ (behind ++ (close ∷ rest)))
    ∙ ap (front before) (p depth (behind ++ (close ∷ rest)) ∙ ap (front inside) (spaces_pass behind k (suc depth) (close ∷ rest) ∙ ap (front behind) (pair.1 depth rest)
    ∙ sym (front_more behind (close ∷ []) (cuts (place.Open depth) rest))) ∙ sym (front_more inside (behind ++ close ∷ []) (cuts (place.Open depth) rest)))
    ∙ sym (front_more before (inside ++ (behind ++ close ∷ [])) (cuts (place.Open depth) rest))))

-- ---- texts with commas between them

-- a text that a cut gives back as it is
pub record Fine (text : Text) : Type 0 where
  pub begins : starts text ≡ true
  pub closed : ends text ≡ true
  pub passes : Passes text

abbrev pub AllFine : List Text → Type 0
AllFine [] = Unit {0}
AllFine (text ∷ texts) = Fine text × AllFine texts

joined_pass : (texts : List Text) (inside : Text) → Joined texts inside → AllFine texts → PassesIn inside
joined_pass _ inside (last _) fine = within_brackets inside fine.0.passes
joined_pass _ inside (then_more first others before behind rest _ h k more is) fine =
    subst PassesIn (sym is)
    (both_pass_in first (before ++ 44 ∷ (behind ++ rest)) (within_brackets first fine.0.passes)
    (both_pass_in before (44 ∷ (behind ++ rest)) (within_brackets before (spaces_pass before h))
    (both_pass_in (44 ∷ []) (behind ++ rest) (λ depth rest. refl)
    (both_pass_in behind rest (within_brackets behind (spaces_pass behind k)) (joined_pass others rest more fine.1)))))

pub lists_pass : (texts : List Text) (inside : Text) → Lists texts inside → AllFine texts → PassesIn inside
lists_pass [] inside is fine = subst PassesIn (sym is) (λ depth rest. refl)
lists_pass (first ∷ others) inside joined fine = joined_pass (first ∷ others) inside joined fine

starts_more : (t u : Text) → starts t ≡ true → starts (t ++ u) ≡ true
starts_more [] u h = absurd (true≢false (sym h))
starts_more (byte ∷ t) u h = h

joined_starts : (texts : List Text) (inside : Text) → Joined texts inside → AllFine texts → starts inside ≡ true
joined_starts _ inside (last _) fine = fine.0.begins
joined_starts _ inside (then_more first others before behind rest _ h k more is) fine =
    ap starts is ∙ starts_more first (before ++ 44 ∷ (behind ++ rest)) fine.0.begins

pub cut_spaces : (z : Text) → AreSpaces z → cuts (place.Open 0) z ≡ z ∷ []
cut_spaces z h = ap (cuts (place.Open 0)) (sym (append-nil z)) ∙ spaces_pass z h 0 [] ∙ front_on z [] [] ∙ ap (λ x. x ∷ []) (append-nil z)

joined_cut : (texts : List Text) (inside : Text) → Joined texts inside → AllFine texts → (a z : Text) → AreSpaces a → AreSpaces z
    → map trim (front a (cuts (place.Open 0) (inside ++ z))) ≡ texts
joined_cut _ inside (last _) fine a z h k =
    ap (λ x. map trim (front a x)) (fine.0.passes 0 z ∙ ap (front inside) (cut_spaces z k) ∙ front_on inside z [])
    ∙ ap (map trim) (front_on a (inside ++ z) [])
    ∙ ap (λ x. x ∷ []) (trimmed a inside z h fine.0.begins fine.0.closed k)
joined_cut _ inside (then_more first others before behind rest _ hb kb more is) fine a z h k =
    ap (λ x. map trim (front a (cuts (place.Open 0) (x ++ z)))) is
    ∙ ap (λ x. map trim (front a (cuts (place.Open 0) x))) whole
    ∙ ap (λ x. map trim (front a x)) (fine.0.passes 0 (before ++ 44 ∷ (behind ++ (rest ++ z)))
    ∙ ap (front first) (spaces_pass before hb 0 (44 ∷ (behind ++ (rest ++ z))) ∙ front_on before [] tail ∙ ap (λ x. x ∷ tail) (append-nil before))
    ∙ front_on first before tail)
    ∙ ap (map trim) (front_on a (first ++ before) tail)
    ∙ ap₂ (λ x y. x ∷ y) (trimmed a first before h fine.0.begins fine.0.closed hb)
    (ap (map trim) (spaces_pass behind kb 0 (rest ++ z)) ∙ joined_cut others rest more fine.1 behind z kb k)
  where
    tail : List Text
    tail = cuts (place.Open 0) (behind ++ (rest ++ z))

    whole : (first ++ (before ++ 44 ∷ (behind ++ rest))) ++ z ≡ first ++ (before ++ 44 ∷ (behind ++ (rest ++ z)))
    whole = append_assoc first (before ++ 44 ∷ (behind ++ rest)) z
        ∙ ap (λ x. first ++ x) (append_assoc before (44 ∷ (behind ++ rest)) z ∙ ap (λ x. before ++ 44 ∷ x) (append_assoc behind rest z))

-- there is a text
some_parts : (t text : Text) → starts t ≡ true → trim_start text ≡ t → parts_of text ≡ map trim (cuts (place.Open 0) text)
some_parts [] text h is = absurd (true≢false (sym h))
some_parts (byte ∷ t) text h is = ap (λ x. parts_unless x text) is

pub parts_are : (texts : List Text) (inside : Text) → Lists texts inside → AllFine texts → (a z : Text) → AreSpaces a → AreSpaces z
    → parts_of (a ++ (inside ++ z)) ≡ texts
parts_are [] inside is fine a z h k =
    ap (λ x. parts_of (a ++ (x ++ z))) is ∙ ap (λ x. parts_unless x (a ++ z)) (skipped a z h ∙ all_skipped z k)
parts_are (first ∷ others) inside joined fine a z h k =
    let begins = joined_starts (first ∷ others) inside joined fine in
    some_parts (inside ++ z) (a ++ (inside ++ z)) (starts_more inside z begins) (skipped a (inside ++ z) h ∙ stays inside z begins)
    ∙ ap (map trim) (spaces_pass a h 0 (inside ++ z)) ∙ joined_cut (first ∷ others) inside joined fine a z h k
