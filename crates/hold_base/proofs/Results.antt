-- Results: what holds of a value or of an error.
use Rattle.std.specs.Prelude.{Result, Ok, Err, IfOk, OnErr}

pub OnErr-given : {X E P : Type 0} (r : Result X E) → P → OnErr r P
OnErr-given (Ok x) p = record {}
OnErr-given (Err e) p = p

pub IfOk-weaken : {X E : Type 0} {P Q : X → Type 0} (r : Result X E) → IfOk r P → ((x : X) → P x → Q x) → IfOk r Q
IfOk-weaken (Ok x) h f = f x h
IfOk-weaken (Err e) h f = h
