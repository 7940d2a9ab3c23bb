-- What holds of a value by two facts of it.
use Rattle.std.specs.Prelude.{Result, Ok, Err, IfOk}

pub IfOk-both : {X E : Type 0} {P Q R : X → Type 0} (r : Result X E) → IfOk r P → IfOk r Q → ((x : X) → P x → Q x → R x) → IfOk r R
IfOk-both (Ok x) p q f = f x p q
IfOk-both (Err e) p q f = p
