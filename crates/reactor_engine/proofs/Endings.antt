-- How the run of a script ends, by the ends of its parts.
use Rattle.std.proofs.Common.{◌≡◌, ◌<◌, ◌≤◌, ◌+◌, ◌-◌, ◌++◌, ◌∙◌, inl, inr, arith, ℕ, List, [], Option, Some, None, length, drop, take, ap, sym, subst, refl, length-drop}
use Rattle.std.specs.Prelude.{IfSome}
use Rattle.std.proofs.lemmas.List.{take-append-drop}
use Rattle.script_lines.specs.Lines.{HasNoNewline}
use Rattle.script_lines.specs.Reading.{readings, whole_readings}
use Rattle.reactor_outside.specs.Count.{Rose}
use Rattle.reactor_outside.specs.Sink.{with_bytes}
use Rattle.reactor_outside.specs.Shelf.{Files}
use Rattle.reactor_outside.proofs.Taken.{with_bytes-with_bytes}
use Rattle.reactor_meaning.specs.Program.{Program}
use Rattle.reactor_meaning.specs.Command.{State, begun}
use Rattle.reactor_meaning.specs.Transcript.{answers, frame_of}
use Rattle.reactor_engine.specs.declared.session.Session.{Session}
use Rattle.reactor_engine.specs.declared.status.Status.{Status}
use Rattle.reactor_engine.specs.declared.status.Status.TheVariants.{Done, ReadFault, WriteFault, ScriptTooLong, NoMemory}
use Rattle.reactor_engine.specs.Session.{state_of}
use Rattle.reactor_engine.specs.Served.{WritesAll, WritesWhole}
use Rattle.reactor_engine.specs.Serving.{Outside, TookAnswers, Undisturbed, Serves, Unwritten, EndsIn, max_script}
use Rattle.reactor_engine.proofs.Following.{Rest, all_taken, length_at_end, before_limit, whole_written}

-- a fact of what is told, from a fact of each that may be told
pub if_told : {A : Type 0} (o : Option A) (P : A → Type 0) → ((x : A) → o ≡ Some x → P x) → IfSome o P
if_told None P h = tt
if_told (Some x) P h = h x refl

pub told_at : {A : Type 0} (o : Option A) (x : A) (P : A → Type 0) → o ≡ Some x → IfSome o P → P x
told_at {A = A} o x P is h = let Q : Option A → Type 0 = λ p. IfSome p P in subst Q is h

pub told_map : {A : Type 0} (o : Option A) (P Q : A → Type 0) → ((x : A) → P x → Q x) → IfSome o P → IfSome o Q
told_map None P Q f h = tt
told_map (Some x) P Q f h = f x h

abbrev pub outside : ℕ → ℕ → Option (List ℕ) → Option (List ℕ) → Outside
outside reads writes left taken = record { reads = reads; writes = writes; left = left; taken = taken }

pub rose_from : (before now after : ℕ) → now ≡ before → Rose now after → Rose before after
rose_from before now after is h = let P : ℕ → Type 0 = λ n. Rose n after in subst P is h

-- an answer was not written
pub unwritten_serves : (shown : List ℕ) (first : State) (before after : Outside) (writes_now : ℕ) (status : Status) → after.reads ≡ before.reads → writes_now ≡ before.writes → Unwritten writes_now after.writes status → Serves shown first before after status
unwritten_serves shown first before after writes_now WriteFault r w h = (r, rose_from before.writes writes_now after.writes w h)
unwritten_serves shown first before after writes_now NoMemory r w h = (r, h ∙ w)
unwritten_serves shown first before after writes_now _ r w h = absurd h

-- a run that ends in a status, or with an answer that was not written
pub ends_serve : (wanted : Status) (Fact : Type 0) (shown : List ℕ) (first : State) (before after : Outside) (writes_now : ℕ) (status : Status) → after.reads ≡ before.reads → writes_now ≡ before.writes → (Undisturbed before after → Fact → Serves shown first before after wanted) → EndsIn wanted Fact writes_now after.writes status → Serves shown first before after status
ends_serve wanted Fact shown first before after writes_now status r w all (inl h) =
    let P : Status → Type 0 = λ s. Serves shown first before after s in
    subst P (sym h.0) (all (r, h.1 ∙ w) h.2)
ends_serve wanted Fact shown first before after writes_now status r w all (inr h) = unwritten_serves shown first before after writes_now status r w h

-- a script that was read to its end
pub served_by_end : (files : Files) (first : State) (now : Session) (left : List ℕ) (count : ℕ) (told : Option (List ℕ)) (taken : Option (List ℕ)) (before after : Outside) → count ≤ max_script → ((script : List ℕ) → before.left ≡ Some script → Rest first (state_of now files) script left count told before.taken taken) → IfSome told (λ bytes. bytes ≡ []) → Undisturbed before after → WritesAll now left taken after.taken → Serves [] first before after Done
served_by_end files first now left count told taken before after few rests none quiet all = (
  quiet,
  if_told before.left _ (λ script is.
      let rest = rests script is in
      let empty : drop count script ≡ [] = told_at told (drop count script) (λ bytes. bytes ≡ []) rest.others none in
      let short : length script ≤ count = length_at_end script count empty in (
        omega arith,
        all files first (take count script) before.taken rest.served
            ∙ ap (λ text. with_bytes (answers first (readings text) []) before.taken) (all_taken script count empty),
      )),
)

-- a script that is too long
pub served_at_limit : (files : Files) (first : State) (now : Session) (left input : List ℕ) (count size : ℕ) (told : Option (List ℕ)) (taken : Option (List ℕ)) (before after : Outside) → count + size ≡ 1073741825 → 0 < size → ((script : List ℕ) → before.left ≡ Some script → Rest first (state_of now files) script left count told before.taken taken) → IfSome told (λ bytes. (size ≤ length bytes) × (take size input ≡ take size bytes)) → Undisturbed before after → WritesWhole (take (size - 1) input) now left taken after.taken → Serves [] first before after ScriptTooLong
served_at_limit files first now left input count size told taken before after sum some rests next quiet whole = (
  quiet,
  if_told before.left _ (λ script is.
      let rest = rests script is in
      let held = told_at told (drop count script) (λ bytes. (size ≤ length bytes) × (take size input ≡ take size bytes)) rest.others next in
      let fits : size ≤ length (drop count script) = held.0 in (
        omega (arith, rest.within, length-drop count script),
        whole files first (take count script) before.taken rest.served
            ∙ ap (λ text. with_bytes (answers first (whole_readings text) []) before.taken) (before_limit script input count size held.1 sum some),
      )),
)

-- a read that failed
pub served_before_fault : (files : Files) (first : State) (now : Session) (left : List ℕ) (count : ℕ) (told taken : Option (List ℕ)) (before after : Outside) → HasNoNewline left → after.left ≡ told → after.taken ≡ taken → ((script : List ℕ) → before.left ≡ Some script → Rest first (state_of now files) script left count told before.taken taken) → IfSome before.left (λ script. IfSome after.left (λ rest. (text : List ℕ) × (script ≡ text ++ rest) × TookAnswers [] first (whole_readings text) before after))
served_before_fault files first now left count told taken before after plain told_is taken_is rests =
    if_told before.left _ (λ script is.
    let rest = rests script is in
    if_told after.left _ (λ others others_is.
    let same : drop count script ≡ others = by_some (drop count script) others (sym rest.others ∙ sym told_is ∙ others_is) in (
      take count script,
      sym (take-append-drop count script) ∙ ap (λ tail. take count script ++ tail) same,
      taken_is ∙ whole_written first (take count script) left (state_of now files) before.taken taken plain rest.served,
    ))) where
      by_some : (one other : List ℕ) → Some one ≡ Some other → one ≡ other
      by_some one other e = cc

-- ---- a run after its first frame

shown_before : (frame text : List ℕ) (shown before taken : Option (List ℕ)) → shown ≡ with_bytes frame before → taken ≡ with_bytes text shown → taken ≡ with_bytes (frame ++ text) before
shown_before frame text shown before taken shown_is is = is ∙ ap (with_bytes text) shown_is ∙ with_bytes-with_bytes text frame before

pub served_after_frame : (frame : List ℕ) (first : State) (reads writes writes_now : ℕ) (left shown before : Option (List ℕ)) (after : Outside) (status : Status) → writes_now ≡ writes → shown ≡ with_bytes frame before → Serves [] first (outside reads writes_now left shown) after status → Serves frame first (outside reads writes left before) after status
served_after_frame frame first reads writes writes_now left shown before after Done w shown_is h = (
  (h.0.0, h.0.1 ∙ w),
  told_map left _ (λ script. (length script ≤ max_script) × TookAnswers frame first (readings script) (outside reads writes left before) after)
      (λ script both. (both.0, shown_before frame (answers first (readings script) []) shown before after.taken shown_is both.1)) h.1,
)
served_after_frame frame first reads writes writes_now left shown before after ReadFault w shown_is h = (
  h.0,
  h.1 ∙ w,
  told_map left _ _ (λ script. told_map after.left
      (λ rest. (text : List ℕ) × (script ≡ text ++ rest) × TookAnswers [] first (whole_readings text) (outside reads writes_now left shown) after)
      (λ rest. (text : List ℕ) × (script ≡ text ++ rest) × TookAnswers frame first (whole_readings text) (outside reads writes left before) after)
      (λ rest some. (some.0, some.1, shown_before frame (answers first (whole_readings some.0) []) shown before after.taken shown_is some.2))) h.2,
)
served_after_frame frame first reads writes writes_now left shown before after WriteFault w shown_is h = (h.0, rose_from writes writes_now after.writes w h.1)
served_after_frame frame first reads writes writes_now left shown before after ScriptTooLong w shown_is h = (
  (h.0.0, h.0.1 ∙ w),
  told_map left _ (λ script. (max_script < length script) × TookAnswers frame first (whole_readings (take max_script script)) (outside reads writes left before) after)
      (λ script both. (both.0, shown_before frame (answers first (whole_readings (take max_script script)) []) shown before after.taken shown_is both.1)) h.1,
)
served_after_frame frame first reads writes writes_now left shown before after NoMemory w shown_is h = (h.0, h.1 ∙ w)
served_after_frame frame first reads writes writes_now left shown before after _ w shown_is h = absurd h

-- the run of a program, whose session begins
pub after_first_frame : (program : Program) (files : Files) (session : Session) (reads writes writes_now : ℕ) (left shown before : Option (List ℕ)) (after : Outside) (status : Status) → state_of session files ≡ begun program files → writes_now ≡ writes → shown ≡ with_bytes (frame_of (state_of session files)) before → Serves [] (state_of session files) (outside reads writes_now left shown) after status → Serves (frame_of (begun program files)) (begun program files) (outside reads writes left before) after status
after_first_frame program files session reads writes writes_now left shown before after status is w shown_is h =
    let P : State → Type 0 = λ state. Serves (frame_of state) state (outside reads writes left before) after status in
    subst P is (served_after_frame (frame_of (state_of session files)) (state_of session files) reads writes writes_now left shown before after status w shown_is h)
