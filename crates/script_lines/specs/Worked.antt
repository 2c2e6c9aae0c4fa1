-- Worked cases of lines and commands, on both sides of each rule.
use Rattle.std.specs.Prelude.{◌≡◌, ℕ, true, false, List, [], ◌∷◌, ◌++◌, codes, replicate, Option, Some, None}
use Rattle.elm_base.specs.declared.command.Command.{Command}
use Rattle.elm_base.specs.declared.command.Command.TheVariants.{Input, Deliver, Goto, Latest, Resume, Swap, Save, Load, Show, Quit}
use Rattle.script_lines.specs.declared.line.Line.{Line}
use Rattle.script_lines.specs.declared.line.Line.TheVariants as line
use Rattle.script_lines.specs.Commands.{command_of}
use Rattle.script_lines.specs.Reading.{readings, whole_readings}

abbrev pub Spells : List ℕ → Command → Type 0
Spells text command = command_of text ≡ Some command

abbrev pub SpellsNone : List ℕ → Type 0
SpellsNone text = command_of text ≡ None

pub record Commands : Type 0 where
  pub input : Spells (codes "input Mouse.position (1,2)") (Input (codes "Mouse.position") (codes "(1,2)"))
  pub input_spaces : Spells (codes "input   x_1'  a  b") (Input (codes "x_1'") (codes "a  b"))
  pub input_bytes : Spells (codes "input p " ++ 195 ∷ 169 ∷ []) (Input (codes "p") (195 ∷ 169 ∷ []))
  pub input_no_value : SpellsNone (codes "input p")
  pub input_no_name : SpellsNone (codes "input")
  pub input_not_utf8 : SpellsNone (codes "input p " ++ 195 ∷ [])
  pub input_dash : SpellsNone (codes "input a-b 1")
  pub input_tab : SpellsNone (codes "input\tp 1")
  pub deliver : Spells (codes "deliver 0") (Deliver 0)
  pub nine_digits : Spells (codes "deliver 999999999") (Deliver 999999999)
  pub ten_digits : SpellsNone (codes "deliver 0000000001")
  pub leading_zeros : Spells (codes "goto 007") (Goto 7)
  pub sign : SpellsNone (codes "goto +7")
  pub no_number : SpellsNone (codes "goto")
  pub two_numbers : SpellsNone (codes "goto 1 2")
  pub letters : SpellsNone (codes "goto 1x")
  pub latest : Spells (codes "latest") Latest
  pub resume : Spells (codes "resume") Resume
  pub show : Spells (codes "show") Show
  pub quit : Spells (codes "quit") Quit
  pub alone : SpellsNone (codes "quit now")
  pub swap : Spells (codes "swap a/b-2") (Swap (codes "a/b-2"))
  pub save : Spells (codes "save s1") (Save (codes "s1"))
  pub load : Spells (codes "load .x") (Load (codes ".x"))
  pub no_file : SpellsNone (codes "save")
  pub two_files : SpellsNone (codes "save a b")
  pub upwards : SpellsNone (codes "load a/../b")
  pub here : SpellsNone (codes "load ./a")
  pub dash_first : SpellsNone (codes "swap -a")
  pub dash_behind : SpellsNone (codes "swap a/-b")
  pub rooted : SpellsNone (codes "load /a")
  pub slash_behind : SpellsNone (codes "load a/")
  pub other_byte : SpellsNone (codes "load a+b")
  pub other_word : SpellsNone (codes "jump 3")
  pub longer_word : SpellsNone (codes "shows")
  pub upper_word : SpellsNone (codes "Show")

-- a line of a text with a newline behind it
abbrev pub SaysLine : List ℕ → Line → Type 0
SaysLine text found = readings (text ++ 10 ∷ []) ≡ found ∷ []

pub record Lines : Type 0 where
  pub none : readings [] ≡ []
  pub empty : SaysLine [] line.Nothing
  pub spaces : SaysLine (codes "  ") line.Nothing
  pub comment : SaysLine (codes "  # jump 3") line.Nothing
  pub comment_bytes : SaysLine (codes "#" ++ 255 ∷ []) line.Nothing
  pub trimmed : SaysLine (codes "  show  ") (line.Command Show)
  pub returned : SaysLine (codes "show \r") (line.Command Show)
  pub two_returns : SaysLine (codes "show\r\r") line.Bad
  pub return_inside : SaysLine (codes "input p a\rb") (line.Command (Input (codes "p") (codes "a\rb")))
  pub tab : SaysLine (codes "show\t") line.Bad
  pub not_utf8 : SaysLine (255 ∷ []) line.Bad
  pub bad : SaysLine (codes "jump 3") line.Bad
  pub two : readings (codes "show\n\nquit\n") ≡ line.Command Show ∷ line.Nothing ∷ line.Command Quit ∷ []
  pub no_newline : readings (codes "show\nquit") ≡ line.Command Show ∷ line.Command Quit ∷ []
  pub return_at_end : readings (codes "quit\r") ≡ line.Bad ∷ []
  pub whole : whole_readings (codes "show\nquit") ≡ line.Command Show ∷ []
