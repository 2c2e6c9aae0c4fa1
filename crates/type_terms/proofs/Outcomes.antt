-- Clauses on an answer that follow from other clauses on it.
use Rattle.std.proofs.Common.{Result, Ok, Err, IfOk, OnOk}

pub on_ok : {A E : Type 0} (r : Result A E) (P Q : Type 0) → (P → Q) → OnOk r P → OnOk r Q
on_ok (Ok a) P Q f h = f h
on_ok (Err e) P Q f h = tt

pub if_ok : {A E : Type 0} (r : Result A E) (P : A → Type 0) (S : Type 0) (Q : A → Type 0) → ((a : A) → P a → S → Q a) → IfOk r P → OnOk r S → IfOk r Q
if_ok (Ok a) P S Q f h k = f a h k
if_ok (Err e) P S Q f h k = tt
