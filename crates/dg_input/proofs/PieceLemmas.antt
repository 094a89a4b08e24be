-- Answers of two kinds.
use Rattle.std.proofs.Common.{◌≢◌, Ok, Err}

pub ok_unlike : {T E : Type 0} (x : T) (e : E) → Ok x ≢ Err e
ok_unlike x e p = cc
