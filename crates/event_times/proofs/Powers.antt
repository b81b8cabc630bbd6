-- Powers of ten, as far as numbers of nine digits go.
use Rattle.std.proofs.Common.{ℕ, suc, ◌+◌, ◌*◌, ◌<◌, ◌≤◌, ◌^◌, arith}
use Rattle.std.proofs.Math.Nat.{pow-suc, pow-le-pow_right}

-- so many digits write less than a thousand million
pub most : (k : ℕ) → k ≤ 9 → 10 ^ k ≤ 1000000000
most k few = pow-le-pow_right (omega arith) few

-- one digit more
pub one_more : (n d k : ℕ) → n < 10 ^ k → d < 10 → 10 * n + d < 10 ^ suc k
one_more n d k within digit = omega (arith, pow-suc 10 k)

pub fits : (n d k : ℕ) → k < 9 → n < 10 ^ k → d < 10 → 10 * n + d < 1000000000
fits n d k few within digit = omega (arith, one_more n d k within digit, most (suc k) (omega arith))
