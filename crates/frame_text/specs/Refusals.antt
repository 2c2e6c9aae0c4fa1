-- The line that says why a command is refused.
use Rattle.std.specs.Prelude.{ℕ, List, [], ◌∷◌, codes, decimal}
use Rattle.elm_base.specs.declared.command.CommandRefusal.{CommandRefusal}
use Rattle.elm_base.specs.declared.command.CommandRefusal.TheVariants as refusal
use Rattle.frame_text.specs.Faults.{refused, fault_line, shelf_line}
use Rattle.frame_text.specs.TypeText.{type_text}

abbrev pub refusal_line : CommandRefusal → List ℕ
refusal_line (refusal.Rewound cursor events) = refused (codes "Rewound" ∷ decimal cursor ∷ decimal events ∷ [])
refusal_line (refusal.UnknownInput name) = refused (codes "UnknownInput" ∷ name ∷ [])
refusal_line (refusal.BadValue name port) = refused (codes "BadValue" ∷ name ∷ type_text port ∷ [])
refusal_line (refusal.NothingPending number) = refused (codes "NothingPending" ∷ decimal number ∷ [])
refusal_line (refusal.TooManyEvents limit) = refused (codes "TooManyEvents" ∷ decimal limit ∷ [])
refusal_line (refusal.RecordTooLarge limit) = refused (codes "RecordTooLarge" ∷ decimal limit ∷ [])
refusal_line (refusal.NoSuchCursor cursor events) = refused (codes "NoSuchCursor" ∷ decimal cursor ∷ decimal events ∷ [])
refusal_line (refusal.Shelf file) = shelf_line file
refusal_line (refusal.MissingFile file) = refused (codes "MissingFile" ∷ file ∷ [])
refusal_line (refusal.ProjectRefused fault) = fault_line fault
refusal_line refusal.BadSession = refused (codes "BadSession" ∷ [])
refusal_line (refusal.InputMissing event name) = refused (codes "InputMissing" ∷ decimal event ∷ name ∷ [])
refusal_line (refusal.InputType event name) = refused (codes "InputType" ∷ decimal event ∷ name ∷ [])
refusal_line refusal.Unsupported = refused (codes "Unsupported" ∷ [])
