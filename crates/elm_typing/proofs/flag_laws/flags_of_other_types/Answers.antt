use Rattle.elm_typing.specs.Ground.{Function, Record, Opaque}
use Rattle.elm_typing.specs.declared.flag.Flag.TheVariants.{Plain}
use Rattle.elm_typing.proofs.FlagSorts.{no_flag, opaque-has}
use Rattle.elm_typing.proofs.flag_laws.flags_of_other_types.Goals as goal

pub returns-clause-record : goal.returns-clause-record
returns-clause-record c = λ flag row. no_flag (Record row) (λ h. h) (λ h. h) flag

pub returns-clause-function : goal.returns-clause-function
returns-clause-function c = λ flag a b. no_flag (Function a b) (λ h. h) (λ h. h) flag

pub returns-clause-opaque : goal.returns-clause-opaque
returns-clause-opaque c = opaque-has

pub returns-clause-unflagged : goal.returns-clause-unflagged
returns-clause-unflagged c = λ flag number. no_flag (Opaque number Plain) (λ h. h) (λ h. h) flag
