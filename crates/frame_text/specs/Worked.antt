-- Worked cases of frames and refusals, as their readers see them.
use Rattle.std.specs.Prelude.{◌≡◌, ℕ, List, [], ◌∷◌, codes, Option, Some, None}
use Rattle.elm_base.specs.declared.command.CommandRefusal.TheVariants as refusal
use Rattle.elm_base.specs.declared.fault.FaultKind.TheVariants as kind
use Rattle.frame_text.specs.declared.parts.Parts.{Parts}
use Rattle.frame_text.specs.Frame.{frame_text}
use Rattle.frame_text.specs.Refusals.{refusal_line}

-- a frame of rows alone
abbrev pub shown : ℕ → ℕ → List (List ℕ) → Parts
shown cursor events rows = record {
  cursor = cursor;
  events = events;
  rows = rows;
  outs = [];
  pending = [];
  watches = [];
  logs = [];
  stop = None;
}

-- one row, and behind it a watched tag; the first frame has 16 bytes
abbrev pub WatchedFrame : Type 0
WatchedFrame =
    frame_text (record (shown 2 3 (codes "2" ∷ [])) { watches = (codes "count", codes "2") ∷ [] })
    ≡ codes "at 2 of 3\n| 2\nwatch \"count\" 2\n.\n"

-- rows lose the spaces at their ends, and no others; an empty row is a bar alone
abbrev pub RowsFrame : Type 0
RowsFrame =
    frame_text (shown 0 0 (codes " a b  " ∷ codes "   " ∷ [] ∷ codes "c" ∷ []))
    ≡ codes "at 0 of 0\n|  a b\n|\n|\n| c\n.\n"

-- what goes out stands before what waits
abbrev pub WaitingFrame : Type 0
WaitingFrame =
    frame_text (record (shown 1 1 (codes "(0,0)" ∷ [])) {
      outs = (codes "doubled", codes "8") ∷ [];
      pending = (0, 1) ∷ (12, 30) ∷ [];
    })
    ≡ codes "at 1 of 1\n| (0,0)\nout doubled 8\npending 0 1\npending 12 30\n.\n"

-- a tag is written as the literal of a text, what was noted as it is; where the run has stopped comes last
abbrev pub StoppedFrame : Type 0
StoppedFrame =
    frame_text (record (shown 2 2 (codes "100" ∷ [])) {
      watches = (codes "a\"b\\c\n", codes "\"x\"") ∷ [];
      logs = (codes "\t\r'", codes "1") ∷ (codes "", codes "2") ∷ [];
      stop = Some (codes "2 node 10 DivideByZero");
    })
    ≡ codes "at 2 of 2\n| 100\nwatch \"a\\\"b\\\\c\\n\" \"x\"\nlog \"\\t\\r'\" 1\nlog \"\" 2\nstopped 2 node 10 DivideByZero\n.\n"

-- each refusal but that of a value, whose type is written by its own definition
abbrev pub RefusalLines : Type 0
RefusalLines =
    (refusal_line (refusal.Rewound 1 3) ≡ codes "refused Rewound 1 3\n")
    × (refusal_line (refusal.UnknownInput (codes "Nope")) ≡ codes "refused UnknownInput Nope\n")
    × (refusal_line (refusal.NothingPending 7) ≡ codes "refused NothingPending 7\n")
    × (refusal_line (refusal.TooManyEvents 1000000) ≡ codes "refused TooManyEvents 1000000\n")
    × (refusal_line (refusal.RecordTooLarge 16777216) ≡ codes "refused RecordTooLarge 16777216\n")
    × (refusal_line (refusal.NoSuchCursor 4 3) ≡ codes "refused NoSuchCursor 4 3\n")
    × (refusal_line (refusal.Shelf (codes "s1")) ≡ codes "refused Shelf s1\n")
    × (refusal_line (refusal.MissingFile (codes "nope")) ≡ codes "refused MissingFile nope\n")
    × (refusal_line refusal.BadSession ≡ codes "refused BadSession\n")
    × (refusal_line (refusal.InputMissing 1 (codes "p")) ≡ codes "refused InputMissing 1 p\n")
    × (refusal_line (refusal.InputType 2 (codes "p")) ≡ codes "refused InputType 2 p\n")
    × (refusal_line refusal.Unsupported ≡ codes "refused Unsupported\n")

-- a fault with a name, and one without
abbrev pub FaultLines : Type 0
FaultLines =
    (refusal_line (refusal.ProjectRefused (record {
      «module» = codes "Main";
      line = 3;
      kind = kind.IllTyped;
      name = codes "main";
    }))
    ≡ codes "refused ProjectRefused Main 3 IllTyped main\n")
    × (refusal_line (refusal.ProjectRefused (record {
      «module» = codes "A.B";
      line = 12;
      kind = kind.BadDeclaration;
      name = [];
    }))
    ≡ codes "refused ProjectRefused A.B 12 BadDeclaration -\n")
