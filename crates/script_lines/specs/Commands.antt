-- The commands of a script, as they are written.
use Rattle.std.specs.Prelude.{◌==◌, ◌&&◌, ℕ, Bool, if◌then◌else◌, nat_le, List, [], ◌∷◌, length, codes, Option, Some, None}
use Rattle.std.specs.List.{list_all, before_first, after_first}
use Rattle.std.specs.Option.{option_map}
use Rattle.std.specs.Str.{bytes_eq, is_utf8}
use Rattle.std.specs.Str.Parse.{digits_value}
use Rattle.elm_base.specs.Letters.{is_digit}
use Rattle.elm_base.specs.Spaces.{trim_start}
use Rattle.elm_base.specs.declared.command.Command.{Command}
use Rattle.elm_base.specs.declared.command.Command.TheVariants.{Input, Deliver, Goto, Latest, Resume, Swap, Save, Load, Show, Quit}
use Rattle.script_lines.specs.declared.verb.Verb.{Verb}
use Rattle.script_lines.specs.declared.verb.Verb.TheVariants as verb
use Rattle.script_lines.specs.Names.{is_input_name, is_file_name}

abbrev pub is_space : ℕ → Bool
is_space byte = byte == 32

-- the first word of a text
abbrev pub first_word : List ℕ → List ℕ
first_word text = before_first is_space text

-- what follows the first word and the spaces behind it
abbrev pub after_word : List ℕ → List ℕ
after_word text = trim_start (after_first is_space text)

-- the verb that a word spells
abbrev pub verb_of : List ℕ → Option Verb
verb_of word =
    if bytes_eq word (codes "input") then Some verb.Input
    else if bytes_eq word (codes "deliver") then Some verb.Deliver
    else if bytes_eq word (codes "goto") then Some verb.Goto
    else if bytes_eq word (codes "latest") then Some verb.Latest
    else if bytes_eq word (codes "resume") then Some verb.Resume
    else if bytes_eq word (codes "swap") then Some verb.Swap
    else if bytes_eq word (codes "save") then Some verb.Save
    else if bytes_eq word (codes "load") then Some verb.Load
    else if bytes_eq word (codes "show") then Some verb.Show
    else if bytes_eq word (codes "quit") then Some verb.Quit
    else None

-- a number of one to nine digits
abbrev pub number_of : List ℕ → Option ℕ
number_of digits =
    if nat_le 1 (length digits) && nat_le (length digits) 9 && list_all is_digit digits
    then Some (digits_value 10 digits) else None

-- a name of a file or a project
abbrev pub file_of : List ℕ → Option (List ℕ)
file_of name = if is_file_name name then Some name else None

-- a command that stands alone
abbrev pub alone : Command → List ℕ → Option Command
alone command [] = Some command
alone command (byte ∷ more) = None

-- the text of a value: not empty, and UTF-8
abbrev pub is_value : List ℕ → Bool
is_value text = nat_le 1 (length text) && is_utf8 text

-- the name of an input, and behind it the text of a value
abbrev pub input_of : List ℕ → List ℕ → Option Command
input_of name value = if is_input_name name && is_value value then Some (Input name value) else None

-- the command of a verb and what is written behind it
abbrev pub command_with : Verb → List ℕ → Option Command
command_with verb.Input rest = input_of (first_word rest) (after_word rest)
command_with verb.Deliver rest = option_map Deliver (number_of rest)
command_with verb.Goto rest = option_map Goto (number_of rest)
command_with verb.Latest rest = alone Latest rest
command_with verb.Resume rest = alone Resume rest
command_with verb.Swap rest = option_map Swap (file_of rest)
command_with verb.Save rest = option_map Save (file_of rest)
command_with verb.Load rest = option_map Load (file_of rest)
command_with verb.Show rest = alone Show rest
command_with verb.Quit rest = alone Quit rest

abbrev pub command_by : Option Verb → List ℕ → Option Command
command_by None rest = None
command_by (Some v) rest = command_with v rest

-- The command of a text without spaces at its ends: a verb, and behind spaces what it takes.
abbrev pub command_of : List ℕ → Option Command
command_of text = command_by (verb_of (first_word text)) (after_word text)
