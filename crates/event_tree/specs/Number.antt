-- Decimal numbers.
use Rattle.std.specs.Prelude.{◌≡◌, ℕ, zero, suc, ◌≤◌, ℤ, pos, false, if◌then◌else◌, Option, Some, None, refl, nat_le, ◌⊎◌, int_rem, int_div}
use Rattle.std.specs.Ordering.{int_eq}
use Rattle.std.specs.Coded.{Coded, code_by, coded×, coded_ℕ, coded_ℤ}

-- the mantissa divided by ten so many times as the scale says
pub record Num : Type 0 where
  pub mantissa : ℤ
  pub scale : ℕ

abbrev pub num_code : Coded Num
num_code = code_by (ℤ × ℕ) (coded× coded_ℤ coded_ℕ) (λ n. (n.mantissa, n.scale)) (λ p. record { mantissa = p.0; scale = p.1 }) (λ _. refl)

-- at most 18 places, and no trailing zero where there are places
pub record IsLeast (mantissa : ℤ) (scale : ℕ) : Type 0 where
  pub few : scale ≤ 18
  pub trimmed : (scale ≡ 0) ⊎ (int_eq (int_rem mantissa (pos 10)) (pos 0) ≡ false)

-- the least form: trailing zeros are dropped as long as there are places; none where more than 18 are left
abbrev pub least : ℤ → ℕ → Option Num
least m zero = Some (record { mantissa = m; scale = 0 })
least m (suc s) =
    if int_eq (int_rem m (pos 10)) (pos 0) then least (int_div m (pos 10)) s
    else (if nat_le (suc s) 18 then Some (record { mantissa = m; scale = suc s })
    else None)
