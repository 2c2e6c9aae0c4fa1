-- Bytes that spell a session are read as this session.
use Rattle.std.proofs.Common.{◌≡◌, ◌≢◌, Ok, Err, refl}
use Rattle.elm_base.specs.declared.memory.Halt.{Halt}
use Rattle.elm_base.specs.declared.memory.Halt.TheVariants as halt
use Rattle.session_file.specs.declared.session.BadSession.{BadSession}
use Rattle.session_file.specs.Sessions.{OneSession}
use Rattle.session_file.specs.Written.{IsReadAgain}

of_memory : (cause : Halt BadSession) → (cause ≢ halt.NoMemory → ⊥) → cause ≡ halt.NoMemory
of_memory halt.NoMemory h = refl
of_memory (halt.Because bad) h = absurd (h (λ e. cc e))

pub read_again : OneSession → IsReadAgain
read_again one bytes cursor events is (Ok said) h = one bytes said.0 cursor said.1 events h is
read_again one bytes cursor events is (Err cause) h = of_memory cause (λ apart. h apart (cursor, events) is)
