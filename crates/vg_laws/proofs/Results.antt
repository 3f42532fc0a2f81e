-- What holds after an error, and after an `Ok`.
use Rattle.std.proofs.Common.{Result, Ok, Err, OnErr, OnOk}

-- What holds, holds after an error.
pub on_err : {T E : Type 0} {P : Type 0} (r : Result T E) → P → OnErr r P
on_err (Ok x) p = tt
on_err (Err e) p = p

-- What follows from what holds after an error.
pub err_then : {T E : Type 0} {P Q : Type 0} (r : Result T E) → (P → Q) → OnErr r P → OnErr r Q
err_then (Ok x) follows p = tt
err_then (Err e) follows p = follows p

-- What follows from what holds, where it is an answer or an error.
pub ok_then : {T E : Type 0} {P Q : Type 0} (r : Result T E) → (P → Q) → OnOk r P → OnOk r Q
ok_then (Ok x) follows p = follows p
ok_then (Err e) follows p = tt
