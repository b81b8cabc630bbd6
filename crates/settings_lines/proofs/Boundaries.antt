-- Where a text may be cut: behind a byte of ASCII, and in front of it all.
use Rattle.std.proofs.Common.{◌≡◌, ℕ, zero, suc, ◌+◌, ◌-◌, ◌<◌, ◌≤◌, List, length, get_or, arith, subst}
use Rattle.std.specs.Prelude.{IsUtf8}
use Rattle.std.proofs.lemmas.Str.{lead_after_ascii, IsCharBoundary-start}

pub cut_at : (s : List ℕ) (n : ℕ) → IsUtf8 s → (0 < n → get_or s (n - 1) 0 < 128) → n < length s → 128 ≤ get_or s n 0 → 192 ≤ get_or s n 0
cut_at s zero utf8 ascii below high = (IsCharBoundary-start s utf8).1 below high
cut_at s (suc n) utf8 ascii below high =
    let one : n + 1 ≡ suc n = omega arith in
    let last : suc n - 1 ≡ n = omega arith in
    let first : get_or s n 0 < 128 = subst (λ (k : ℕ). get_or s k 0 < 128) last (ascii (omega arith)) in
    subst (λ (k : ℕ). k < length s → 128 ≤ get_or s k 0 → 192 ≤ get_or s k 0) one (lead_after_ascii s n utf8 first) below high
