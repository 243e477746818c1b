-- What holds of the answer of a call, carried further.
use Rattle.std.proofs.Common.{Result, Ok, Err, OnOk, MatchResult}

pub ok_further : {T E : Type 0} {P Q : Type 0} (r : Result T E) → (P → Q) → OnOk r P → OnOk r Q
ok_further (Ok x) f p = f p
ok_further (Err e) f p = p

pub fault_further : {T E : Type 0} {P Q : E → Type 0} (r : Result T E) → ((e : E) → P e → Q e)
    → MatchResult r (λ _. Unit {0}) P → MatchResult r (λ _. Unit {0}) Q
fault_further (Ok x) f p = p
fault_further (Err e) f p = f e p
