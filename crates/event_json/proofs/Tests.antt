-- Cases of a test.
use Rattle.std.proofs.Common.{◌≡◌, Bool, true, false, refl}

pub bool_cases : {P : Type 0} (t : Bool) → (t ≡ true → P) → (t ≡ false → P) → P
bool_cases true f g = f refl
bool_cases false f g = g refl
