-- One digit more at the front of a text.
use Rattle.std.proofs.Common.{◌≡◌, ℕ, zero, suc, ◌+◌, ◌-◌, ◌*◌, ◌<◌, true, false, List, [], ◌∷◌, length, Some, None, refl, arith}
use Rattle.event_tree.specs.NumberTexts.{is_digit}
use Rattle.event_times.specs.Digits.{Front, digits_behind}

pub no_more : (n left : ℕ) (s : List ℕ) → 0 < left → length s ≡ 0 → ◌≡◌ {A = Front ℕ} None (digits_behind n left s)
unfolding digits_behind
no_more n zero s some is = absurd (omega arith)
no_more n (suc left) [] some is = refl
no_more n (suc left) (b ∷ s) some is = absurd (omega arith)

pub no_digit : (n left b : ℕ) (s t : List ℕ) → 0 < left → s ≡ b ∷ t → is_digit b ≡ false → ◌≡◌ {A = Front ℕ} None (digits_behind n left s)
unfolding digits_behind
no_digit n zero b s t some is not_digit = absurd (omega arith)
no_digit n (suc left) b s t some is not_digit = rw (is, not_digit) refl

pub one_digit : (n left b : ℕ) (s t : List ℕ) → 0 < left → s ≡ b ∷ t → is_digit b ≡ true
    → (less : ℕ) → left ≡ suc less → digits_behind n left s ≡ digits_behind (10 * n + (b - 48)) less t
unfolding digits_behind
one_digit n left b s t some is digit less more = rw (more, is, digit) refl

pub all_digits : (n left : ℕ) (s : List ℕ) → left ≡ 0 → ◌≡◌ {A = Front ℕ} (Some (n, s)) (digits_behind n left s)
unfolding digits_behind
all_digits n left s none = rw none refl
