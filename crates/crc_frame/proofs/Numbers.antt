-- Numbers as bytes, the highest byte first.
use Rattle.std.proofs.Common.{◌≡◌, ℕ, zero, suc, ◌+◌, ◌*◌, ◌/◌, ◌^◌, ◌<◌, ◌≤◌, List, [], ◌∷◌, length, get_or, take, drop, refl, sym, ap, ◌∙◌, subst, arith}
use Rattle.std.specs.Int.{bytes_high_first, byte_at}
use Rattle.std.proofs.lemmas.List.{take_all, append-nil, get_or-drop}
use Rattle.std.proofs.lemmas.Nat.{same_from_place, mod_below}
use Rattle.crc_frame.specs.Bytes.{IsBytes}
use Rattle.byteorder.specs.Endian.{big_from, big_bytes, big_number}
use Rattle.byteorder.specs.Numbers.{big_from-cons, big_from-lt, big_number-reads_back, length-bytes_high_first}

pub IsBytes-drop : (n : ℕ) (bytes : List ℕ) → IsBytes bytes → IsBytes (drop n bytes)
IsBytes-drop n bytes fit i = subst (λ (b : ℕ). b < 256) (sym (get_or-drop n bytes i 0)) (fit (n + i))

pub IsBytes-take : (n : ℕ) (bytes : List ℕ) → IsBytes bytes → IsBytes (take n bytes)
IsBytes-take zero bytes fit i = omega arith
IsBytes-take (suc n) [] fit i = omega arith
IsBytes-take (suc n) (b ∷ bytes) fit zero = fit 0
IsBytes-take (suc n) (b ∷ bytes) fit (suc i) = IsBytes-take n bytes (λ j. fit (suc j)) i

byte_at-lt : (k x : ℕ) → byte_at k x < 256
byte_at-lt zero x = mod_below x 256 (omega arith)
byte_at-lt (suc k) x = mod_below (x / 256 ^ suc k) 256 (omega arith)

IsBytes-bytes_high_first : (n x : ℕ) → IsBytes (bytes_high_first n x)
IsBytes-bytes_high_first zero x i = omega arith
IsBytes-bytes_high_first (suc n) x zero = byte_at-lt n x
IsBytes-bytes_high_first (suc n) x (suc i) = IsBytes-bytes_high_first n x i

-- bytes that read as one number are the same
same_bytes : (n : ℕ) (xs ys : List ℕ) → n ≤ length xs → n ≤ length ys → IsBytes xs → IsBytes ys → big_from 0 n xs ≡ big_from 0 n ys → take n xs ≡ take n ys
same_bytes zero xs ys long_x long_y fit_x fit_y same = refl
same_bytes (suc n) [] ys long_x long_y fit_x fit_y same = absurd (omega arith)
same_bytes (suc n) (x ∷ xs) [] long_x long_y fit_x fit_y same = absurd (omega arith)
same_bytes (suc n) (x ∷ xs) (y ∷ ys) long_x long_y fit_x fit_y same =
    let bytes_x : IsBytes xs = λ i. fit_x (suc i) in
    let bytes_y : IsBytes ys = λ i. fit_y (suc i) in
    let same_rest : x * 256 ^ n + big_from 0 n xs ≡ y * 256 ^ n + big_from 0 n ys =
    ap (λ (r : ℕ). x * 256 ^ n + r) (sym (big_from-cons 0 n x xs)) ∙ same ∙ ap (λ (r : ℕ). y * 256 ^ n + r) (big_from-cons 0 n y ys) in
    let both = same_from_place x (big_from 0 n xs) y (big_from 0 n ys) (256 ^ n) (big_from-lt 0 n xs bytes_x) (big_from-lt 0 n ys bytes_y) same_rest in
    ap (λ (b : ℕ). b ∷ take n xs) both.0
    ∙ ap (λ (bs : List ℕ). y ∷ bs) (same_bytes n xs ys (omega arith) (omega arith) bytes_x bytes_y both.1)

-- a number's bytes are those that it was read from
pub big_bytes-big_number : (n : ℕ) (bytes : List ℕ) → n ≤ length bytes → IsBytes bytes → big_bytes n (big_number n bytes) ≡ take n bytes
big_bytes-big_number n bytes long fit =
    let x = big_number n bytes in
    let written = bytes_high_first n x in
    let len : length written ≡ n = length-bytes_high_first n x in
    let back : big_from 0 n written ≡ x = ap (big_from 0 n) (sym (append-nil written)) ∙ big_number-reads_back n x [] (big_from-lt 0 n bytes fit) in
    sym (take_all n written (omega (arith, len)))
    ∙ same_bytes n written bytes (omega (arith, len)) long (IsBytes-bytes_high_first n x) fit back
