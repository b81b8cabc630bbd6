-- The same value in two forms.
use Rattle.std.specs.Prelude.{◌≡◌, ℕ, ℤ, Bool}
use Rattle.event_tree.specs.Number.{Num}
use Rattle.event_tree.specs.NumberTexts.{signed, tens}

-- the mantissa divided by ten so many times is the number's divided by ten so many times as its scale says: with one sign for both, a/10^places is b/10^scale
abbrev pub IsValueOf : ℤ → ℕ → Num → Type 0
IsValueOf mantissa places n = (negative : Bool) × (a : ℕ) × (b : ℕ)
    × (mantissa ≡ signed negative a) × (n.mantissa ≡ signed negative b)
    × (tens a n.scale ≡ tens b places)
