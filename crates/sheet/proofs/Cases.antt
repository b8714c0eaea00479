-- The cases of an answer exclude each other.
use Rattle.std.proofs.Common.{◌≡◌, ℕ, None, Some, Ok, Err, Option, Result, arith}

pub ok_no_err : {X E A : Type 0} {x : X} {f : E} → ◌≡◌ {A = Result X E} (Ok x) (Err f) → A
ok_no_err e = let z : ◌≡◌ {A = ℕ} 0 1 = cc in absurd (omega arith)

pub none_no_some : {X E A : Type 0} {x : X} → ◌≡◌ {A = Result (Option X) E} (Ok None) (Ok (Some x)) → A
none_no_some e = let z : ◌≡◌ {A = ℕ} 0 1 = cc in absurd (omega arith)
