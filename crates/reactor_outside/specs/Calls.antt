use Rattle.std.specs.Prelude.{ℕ, ◌+◌, ◌==◌, Bool, List, if◌then◌else◌, min}
use Rattle.std.specs.List.{list_any}

-- The calls of an object that fails at calls of given numbers, counted from 1: how many were made, which fail,
-- and how many have failed.
pub record Calls : Type 0 where
  pub made : ℕ
  pub failing : List ℕ
  pub failed : ℕ

-- the next number, or the last one of 64 bits
abbrev pub raised : ℕ → ℕ
raised count = min (count + 1) 18446744073709551615

-- whether the next call is one of those that fail
abbrev pub next_fails : Calls → Bool
next_fails calls = list_any (λ number. number == raised calls.made) calls.failing

-- after one call more, that failed or not
abbrev pub after_call : Bool → Calls → Calls
after_call fails calls = record {
  made = raised calls.made;
  failing = calls.failing;
  failed = if fails then raised calls.failed else calls.failed;
}
