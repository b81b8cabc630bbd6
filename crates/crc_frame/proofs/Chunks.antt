-- A slice as arrays of one length, and a loop over them.
use Rattle.std.proofs.Common.{◌≡◌, ℕ, zero, suc, ◌+◌, ◌*◌, ◌<◌, List, get_or, take, drop, sym, ap, ◌∙◌, arith}
use Rattle.std.specs.Simd.{first_chunks}
use Rattle.std.proofs.lemmas.List.{drop-drop, take-append-drop}
use Rattle.std.proofs.Math.Nat.{suc-mul, zero-mul}
use Rattle.crc_frame.specs.Crc.{remainder_after}
use Rattle.crc_frame.proofs.Division.{remainder_after-append}

get_or-first_chunks : (n k i : ℕ) (xs d : List ℕ) → i < k → get_or (first_chunks n k xs) i d ≡ take n (drop (i * n) xs)
get_or-first_chunks n zero i xs d within = absurd (omega arith)
get_or-first_chunks n (suc k) zero xs d within = ap (λ (m : ℕ). take n (drop m xs)) (sym (zero-mul n))
get_or-first_chunks n (suc k) (suc i) xs d within =
    let moved : n + i * n ≡ suc i * n = omega (arith, suc-mul i n) in
    get_or-first_chunks n k i (drop n xs) d (omega arith)
    ∙ ap (λ (ys : List ℕ). take n ys) (drop-drop (i * n) n xs ∙ ap (λ (m : ℕ). drop m xs) moved)

-- One chunk more is divided.
pub remainder_after-chunk : (n k r i : ℕ) (bytes d : List ℕ) (chunks : List (List ℕ)) (result : ℕ) → chunks ≡ first_chunks n k bytes → i < k
    → result ≡ remainder_after r (get_or chunks i d) → remainder_after result (drop ((i + 1) * n) bytes) ≡ remainder_after r (drop (i * n) bytes)
remainder_after-chunk n k r i bytes d chunks result are within divided =
    let rest = drop (i * n) bytes in
    let next : i * n + n ≡ (i + 1) * n = omega (arith, suc-mul i n) in
    let read : get_or chunks i d ≡ take n rest = ap (λ (xs : List (List ℕ)). get_or xs i d) are ∙ get_or-first_chunks n k i bytes d within in
    ap (λ (x : ℕ). remainder_after x (drop ((i + 1) * n) bytes)) (divided ∙ ap (remainder_after r) read)
    ∙ ap (remainder_after (remainder_after r (take n rest))) (sym (drop-drop n (i * n) bytes ∙ ap (λ (m : ℕ). drop m bytes) next))
    ∙ sym (remainder_after-append r (take n rest) (drop n rest))
    ∙ ap (remainder_after r) (take-append-drop n rest)
