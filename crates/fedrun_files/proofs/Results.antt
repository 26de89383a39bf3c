-- Results.
use Rattle.std.proofs.Common.{Result, Ok, Err, OnOk}

-- what holds holds of a result too, where it is fine
pub on_ok_always : {T E : Type 0} {P : Type 0} (r : Result T E) → P → OnOk r P
on_ok_always (Ok x) holds = holds
on_ok_always (Err e) holds = tt
