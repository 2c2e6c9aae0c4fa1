-- What calls answer that read a part of a session.
use Rattle.std.specs.Prelude.{◌≢◌, Result, Ok, Err}
use Rattle.elm_base.specs.declared.memory.Halt.{Halt}
use Rattle.elm_base.specs.declared.memory.Halt.TheVariants as halt
use Rattle.session_file.specs.declared.session.BadSession.{BadSession}

-- What is found is such; nothing is such where it is refused, unless memory failed. It is seen by `seen`.
abbrev pub AnswersAs : {A B : Type 0} → (B → A) → (A → Type 0) → Result B (Halt BadSession) → Type 0
AnswersAs seen Is (Ok found) = Is (seen found)
AnswersAs {A} seen Is (Err cause) = cause ≢ halt.NoMemory → (a : A) → Is a → ⊥

abbrev pub Answers : {A : Type 0} → (A → Type 0) → Result A (Halt BadSession) → Type 0
Answers Is result = AnswersAs (λ found. found) Is result
