-- Bytes that end with their CRC-32.
use Rattle.std.proofs.Common.{◌≡◌, ℕ, ◌-◌, ◌^◌, ◌<◌, ◌≤◌, true, List, [], ◌++◌, length, take, drop, sym, ap, ◌∙◌, arith, length-append, length-drop}
use Rattle.std.proofs.lemmas.Bool.{eqb-true, eq-eqb}
use Rattle.std.proofs.lemmas.List.{take_all, take_at, drop_at, take-append-drop, append-nil}
use Rattle.byteorder.specs.Endian.{big_bytes, big_number}
use Rattle.byteorder.specs.Numbers.{big_number-reads_back, length-bytes_high_first}
use Rattle.crc_frame.specs.Crc.{crc32, is_checked}
use Rattle.crc_frame.specs.Bytes.{IsBytes}
use Rattle.crc_frame.proofs.Numbers.{IsBytes-drop, big_bytes-big_number}

crc32-lt : (bytes : List ℕ) → crc32 bytes < 256 ^ 4
unfolding crc32
crc32-lt bytes = omega arith

-- bytes and their CRC-32
pub is_checked-append : (bytes : List ℕ) → is_checked (bytes ++ big_bytes 4 (crc32 bytes)) ≡ true
unfolding is_checked
is_checked-append bytes =
    let crc = big_bytes 4 (crc32 bytes) in
    let front : length bytes ≡ length (bytes ++ crc) - 4 = omega (arith, length-append bytes crc, length-bytes_high_first 4 (crc32 bytes)) in
    let read : big_number 4 (drop (length (bytes ++ crc) - 4) (bytes ++ crc)) ≡ crc32 bytes =
    ap (big_number 4) (drop_at bytes crc (length (bytes ++ crc) - 4) front ∙ sym (append-nil crc))
    ∙ big_number-reads_back 4 (crc32 bytes) [] (crc32-lt bytes) in
    eq-eqb _ _ (read ∙ ap crc32 (sym (take_at bytes crc (length (bytes ++ crc) - 4) front)))

-- and the other way round
pub checked_parts : (bytes : List ℕ) → 4 ≤ length bytes → IsBytes bytes → is_checked bytes ≡ true
    → bytes ≡ take (length bytes - 4) bytes ++ big_bytes 4 (crc32 (take (length bytes - 4) bytes))
unfolding is_checked
checked_parts bytes long fit is =
    let n = length bytes - 4 in
    let four : length (drop n bytes) ≡ 4 = omega (arith, length-drop n bytes) in
    let crc : big_bytes 4 (crc32 (take n bytes)) ≡ drop n bytes =
    ap (big_bytes 4) (sym (eqb-true _ _ is)) ∙ big_bytes-big_number 4 (drop n bytes) (omega (arith, four)) (IsBytes-drop n bytes fit)
    ∙ take_all 4 (drop n bytes) (omega (arith, four)) in
    sym (take-append-drop n bytes) ∙ ap (λ (xs : List ℕ). take n bytes ++ xs) (sym crc)
