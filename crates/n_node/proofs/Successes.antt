-- What follows from what holds where nothing failed.
use Rattle.std.proofs.Common.{Result, Ok, Err}
use Rattle.std.specs.Prelude.{OnOk}

pub on_ok : {X E A B : Type 0} (r : Result X E) → (A → B) → OnOk r A → OnOk r B
on_ok (Ok x) f a = f a
on_ok (Err e) f a = tt

pub on_ok_two : {X E A B C : Type 0} (r : Result X E) → (A → B → C) → OnOk r A → OnOk r B → OnOk r C
on_ok_two (Ok x) f a b = f a b
on_ok_two (Err e) f a b = tt

pub on_ok_three : {X E A B C D : Type 0} (r : Result X E) → (A → B → C → D) → OnOk r A → OnOk r B → OnOk r C → OnOk r D
on_ok_three (Ok x) f a b c = f a b c
on_ok_three (Err e) f a b c = tt
