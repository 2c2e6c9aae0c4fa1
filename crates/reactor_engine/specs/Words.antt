-- The words of the command line.
use Rattle.std.specs.Prelude.{◌==◌, ◌&&◌, ◌||◌, ℕ, Bool, if◌then◌else◌, not, nat_le, List, [], ◌∷◌, length, slice_index, codes, Option, Some, None}
use Rattle.std.specs.List.{list_all, slice_split}
use Rattle.std.specs.Str.{bytes_eq}
use Rattle.script_lines.specs.Names.{is_file_name}

-- the second of two words, if it names a folder and the first is the command to run it
abbrev pub project_of_two : List ℕ → List ℕ → Option (List ℕ)
project_of_two command project = if bytes_eq command (codes "run") && is_file_name project then Some project else None

-- The project that the words ask to run: `run` and its name, and nothing else.
abbrev pub project_of : List (List ℕ) → Option (List ℕ)
project_of [] = None
project_of (command ∷ []) = None
project_of (command ∷ project ∷ []) = project_of_two command project
project_of (command ∷ project ∷ other ∷ more) = None
