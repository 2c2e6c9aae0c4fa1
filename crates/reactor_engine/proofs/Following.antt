-- A script that is answered as its bytes come.
use Rattle.std.proofs.Common.{◌≡◌, ◌<◌, ◌≤◌, ◌+◌, ◌-◌, ◌++◌, ◌∙◌, arith, ℕ, List, [], ◌∷◌, Option, Some, None, length, take, drop, sym, ap, refl, length-drop, append_assoc, subst}
use Rattle.std.proofs.lemmas.List.{take-append-drop, drop-drop, append-nil, take-take, take_all}
use Rattle.std.proofs.Math.Seq.{take-add}
use Rattle.script_lines.specs.declared.line.Line.{Line}
use Rattle.script_lines.specs.Lines.{HasNoNewline}
use Rattle.script_lines.specs.Reading.{SaysTheSame, SaysFirst, readings, said, whole_readings}
use Rattle.script_lines.proofs.Whole.{handed_out_is_whole}
use Rattle.reactor_outside.specs.Shelf.{Files}
use Rattle.reactor_outside.specs.Sink.{with_bytes}
use Rattle.reactor_outside.specs.Source.{after_bytes}
use Rattle.reactor_outside.proofs.Taken.{with_bytes-with_bytes}
use Rattle.reactor_meaning.specs.Command.{State, next_line}
use Rattle.reactor_meaning.specs.Transcript.{answers, answer_text, state_after}
use Rattle.reactor_meaning.proofs.Stepping.{in_turn, states_in_turn}
use Rattle.reactor_engine.specs.declared.session.Session.{Session}
use Rattle.reactor_engine.specs.Session.{state_of, Answers}
use Rattle.reactor_engine.specs.Served.{Served, KeepsServed, TakesPiece, WritesPiece, WritesAll, WritesWhole}

pub with_nothing : (taken : Option (List ℕ)) → with_bytes [] taken ≡ taken
with_nothing None = refl
with_nothing (Some bytes) = ap Some (append-nil bytes)

-- no byte was read
pub served_at_start : (first : State) (start : Option (List ℕ)) → Served first [] first [] start start
served_at_start first start = record {
  said = [];
  says = λ more. refl;
  state = refl;
  written = sym (with_nothing start);
}

-- one answer more is to be written
one_more : (first : State) (lines : List Line) (line : Line) (now : State) (text : List ℕ) (start : Option (List ℕ)) → now ≡ state_after first lines → with_bytes (answer_text (next_line now line None).state (next_line now line None).answer) (with_bytes (answers first lines []) start) ≡ with_bytes (answers first (lines ++ line ∷ []) []) start
one_more first lines line now text start now_is =
    let reply : State → List ℕ = λ state. answer_text (next_line state line None).state (next_line state line None).answer in
    ap (λ state. with_bytes (reply state) (with_bytes (answers first lines []) start)) now_is
    ∙ with_bytes-with_bytes (reply (state_after first lines)) (answers first lines []) start
    ∙ ap (λ text. with_bytes (answers first lines [] ++ text) start) (sym (append-nil (reply (state_after first lines))))
    ∙ ap (λ text. with_bytes text start) (sym (in_turn first lines (line ∷ [])))

-- a line was handed out and answered
pub handed_out : (files : Files) (first : State) (script left left_now out out_now : List ℕ) (old new : Session) (line : Line) (start taken : Option (List ℕ)) → SaysFirst left (Some line) left_now → Answers old line new out out_now → Served first script (state_of old files) left start (with_bytes out taken) → Served first script (state_of new files) left_now start (with_bytes out_now taken)
handed_out files first script left left_now out out_now old new line start taken handed answered served =
    let now = state_of old files in
    let made = answered files in
    let text = answer_text (next_line now line None).state (next_line now line None).answer in record {
      said = served.said ++ line ∷ [];
      says = λ more.
          served.says more
          ∙ ap (λ found. served.said ++ found) (handed more)
          ∙ sym (append_assoc served.said (line ∷ []) (readings (left_now ++ more)));
      state = made.0
          ∙ ap (λ state. (next_line state line None).state) served.state
          ∙ sym (states_in_turn first served.said (line ∷ []));
      written =
          ap (λ bytes. with_bytes bytes taken) made.1
          ∙ sym (with_bytes-with_bytes text out taken)
          ∙ ap (with_bytes text) served.written
          ∙ one_more first served.said line now text start served.state;
    }

-- more of the script is there
pub piece_taken : (files : Files) (first : State) (script piece left left_now : List ℕ) (session : Session) (start taken : Option (List ℕ)) → SaysTheSame left_now (left ++ piece) → Served first script (state_of session files) left start taken → Served first (script ++ piece) (state_of session files) left_now start taken
piece_taken files first script piece left left_now session start taken same served = record {
  said = served.said;
  says = λ more.
      ap readings (append_assoc script piece more)
      ∙ served.says (piece ++ more)
      ∙ ap (λ text. served.said ++ readings text) (sym (append_assoc left piece more))
      ∙ ap (λ found. served.said ++ found) (sym (same more));
  state = served.state;
  written = served.written;
}

-- what was written, where an open line is left
pub whole_written : (first : State) (script left : List ℕ) (now : State) (start taken : Option (List ℕ)) → HasNoNewline left → Served first script now left start taken → taken ≡ with_bytes (answers first (whole_readings script) []) start
whole_written first script left now start taken plain served =
    served.written ∙ ap (λ lines. with_bytes (answers first lines []) start) (handed_out_is_whole script left served.said served.says plain)

-- nothing is left of the script but a line that says this, or nothing
said_in_all : (first : State) (script left : List ℕ) (now : State) (start taken : Option (List ℕ)) (found : Option Line) → readings left ≡ said found → (served : Served first script now left start taken) → served.said ++ said found ≡ readings script
said_in_all first script left now start taken found says served =
    ap (λ lines. served.said ++ lines) (sym says)
    ∙ ap (λ text. served.said ++ readings text) (sym (append-nil left))
    ∙ sym (served.says [])
    ∙ ap readings (append-nil script)

-- the end of a script without an open line
pub nothing_left : (files : Files) (first : State) (script left : List ℕ) (session : Session) (start taken : Option (List ℕ)) → readings left ≡ [] → Served first script (state_of session files) left start taken → taken ≡ with_bytes (answers first (readings script) []) start
nothing_left files first script left session start taken says served =
    served.written
    ∙ ap (λ lines. with_bytes (answers first lines []) start) (sym (append-nil served.said) ∙ said_in_all first script left (state_of session files) start taken None says served)

-- the end of a script with an open line, which was answered
pub last_answered : (files : Files) (first : State) (script left out out_now : List ℕ) (old new : Session) (line : Line) (start taken : Option (List ℕ)) → readings left ≡ line ∷ [] → Answers old line new out out_now → Served first script (state_of old files) left start (with_bytes out taken) → with_bytes out_now taken ≡ with_bytes (answers first (readings script) []) start
last_answered files first script left out out_now old new line start taken says answered served =
    let now = state_of old files in
    let made = answered files in
    let text = answer_text (next_line now line None).state (next_line now line None).answer in
    ap (λ bytes. with_bytes bytes taken) made.1
    ∙ sym (with_bytes-with_bytes text out taken)
    ∙ ap (with_bytes text) served.written
    ∙ one_more first served.said line now text start served.state
    ∙ ap (λ lines. with_bytes (answers first lines []) start) (said_in_all first script left now start (with_bytes out taken) (Some line) says served)

-- ---- the bytes of the script by their count

-- After so many bytes of a script were taken: the source tells the others, and those that were taken are served.
pub record Rest (first now : State) (script left : List ℕ) (count : ℕ) (told start taken : Option (List ℕ)) : Type 0 where
  pub others : told ≡ Some (drop count script)
  pub within : count ≤ length script
  pub served : Served first (take count script) now left start taken

pub rest_at_start : (files : Files) (session : Session) (script left : List ℕ) (told start : Option (List ℕ)) → told ≡ Some script → left ≡ [] → Rest (state_of session files) (state_of session files) script left 0 told start start
rest_at_start files session script left told start is none = record {
  others = is;
  within = omega arith;
  served = let P : List ℕ → Type 0 = λ l. Served (state_of session files) [] (state_of session files) l start start in subst P (sym none) (served_at_start (state_of session files) start);
}

take_more : (script : List ℕ) (count size : ℕ) → take count script ++ take size (drop count script) ≡ take (count + size) script
take_more script count size = sym (take-add count size script)

-- the rest after one piece more
pub rest_after : (files : Files) (first : State) (now next : Session) (script left left_next piece : List ℕ) (count size : ℕ) (told told_next start taken taken_next : Option (List ℕ)) → Rest first (state_of now files) script left count told start taken → size ≤ length (drop count script) → piece ≡ take size (drop count script) → told_next ≡ after_bytes size told → WritesPiece piece now left taken next left_next taken_next → Rest first (state_of next files) script left_next (count + size) told_next start taken_next
rest_after files first now next script left left_next piece count size told told_next start taken taken_next rest fits is told_is writes = record {
  others = told_is ∙ ap (after_bytes size) rest.others ∙ ap Some (drop-drop size count script);
  within = omega (arith, rest.within, length-drop count script);
  served =
      let P : List ℕ → Type 0 = λ text. Served first text (state_of next files) left_next start taken_next in
      subst P (ap (λ p. take count script ++ p) is ∙ take_more script count size) (writes files first (take count script) start rest.served);
}

-- the script before the limit: the piece is one byte shorter than what was read
pub before_limit : (script input : List ℕ) (count size : ℕ) → take size input ≡ take size (drop count script) → count + size ≡ 1073741825 → 0 < size → take count script ++ take (size - 1) input ≡ take 1073741824 script
before_limit script input count size is sum some =
    let fewer : size - 1 ≤ size = omega arith in
    let count_is : count + (size - 1) ≡ 1073741824 = omega arith in
    ap (λ p. take count script ++ p) (sym (take-take (size - 1) size input fewer) ∙ ap (take (size - 1)) is ∙ take-take (size - 1) size (drop count script) fewer)
    ∙ take_more script count (size - 1)
    ∙ ap (λ n. take n script) count_is

pub all_taken : (script : List ℕ) (count : ℕ) → drop count script ≡ [] → take count script ≡ script
all_taken script count none = sym (append-nil (take count script)) ∙ ap (λ tail. take count script ++ tail) (sym none) ∙ take-append-drop count script

pub length_at_end : (script : List ℕ) (count : ℕ) → drop count script ≡ [] → length script ≤ count
length_at_end script count none = omega (arith, ap length none, length-drop count script)

-- ---- what was to be written is written

-- all answers were written
pub written_all : (old : Session) (left out out_now bytes : List ℕ) (taken taken_now : Option (List ℕ)) → ((t : Option (List ℕ)) → WritesAll old left (with_bytes out t) (with_bytes out_now t)) → out ≡ [] → bytes ≡ out_now → taken_now ≡ with_bytes bytes taken → WritesAll old left taken taken_now
written_all old left out out_now bytes taken taken_now all empty is written files first script start served =
    let P : Option (List ℕ) → Type 0 = λ t. Served first script (state_of old files) left start t in
    written
    ∙ ap (λ b. with_bytes b taken) is
    ∙ all taken files first script start (subst P (sym (ap (λ b. with_bytes b taken) empty ∙ with_nothing taken)) served)

-- the answers to a piece were written
pub written_piece : (piece : List ℕ) (old new : Session) (left left_now out out_now bytes : List ℕ) (taken taken_now : Option (List ℕ)) → TakesPiece piece old left out new left_now out_now → out ≡ [] → bytes ≡ out_now → taken_now ≡ with_bytes bytes taken → WritesPiece piece old left taken new left_now taken_now
written_piece piece old new left left_now out out_now bytes taken taken_now takes empty is written files first script start served =
    let P : Option (List ℕ) → Type 0 = λ t. Served first script (state_of old files) left start t in
    let Q : Option (List ℕ) → Type 0 = λ t. Served first (script ++ piece) (state_of new files) left_now start t in
    subst Q (sym (written ∙ ap (λ b. with_bytes b taken) is))
    (takes files first script start taken (subst P (sym (ap (λ b. with_bytes b taken) empty ∙ with_nothing taken)) served))

-- of a piece behind which an open line is left, the whole lines were answered
pub whole_of_piece : (piece : List ℕ) (old new : Session) (left left_now : List ℕ) (taken taken_now : Option (List ℕ)) → WritesPiece piece old left taken new left_now taken_now → HasNoNewline left_now → WritesWhole piece old left taken taken_now
whole_of_piece piece old new left left_now taken taken_now writes plain files first script start served =
    whole_written first (script ++ piece) left_now (state_of new files) start taken_now plain (writes files first script start served)
