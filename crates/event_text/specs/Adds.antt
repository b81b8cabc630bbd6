-- Text that is added to a string.
use Rattle.std.specs.Prelude.{◌≡◌, ℕ, List, ◌++◌, Result, OnOk, String, string_bytes}

-- the text stands behind what was there, unless memory ran out
abbrev pub AddsText : {Z T E : Type 0} → Result T E → List ℕ → String Z → String Z → Type 0
AddsText r text old new = OnOk r (string_bytes new ≡ string_bytes old ++ text)
