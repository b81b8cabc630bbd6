-- The division of the check sequence: what a step does to a sum modulo 2, and many steps at once.
use Rattle.std.proofs.Common.{◌≡◌, ℕ, zero, suc, ◌+◌, ◌*◌, ◌/◌, ◌%◌, ◌^◌, ◌<◌, ◌≤◌, bit_xor, List, [], ◌∷◌, ◌++◌, length, get_or, take, drop, replicate, fold, refl, sym, ap, ◌∙◌, inl, inr, arith, zero-add, mul_assoc}
use Rattle.std.proofs.Math.Nat.{suc-add, pow-suc, mul-one}
use Rattle.std.specs.Int.Bits.{xor_assoc, xor_zero_r, xor_self}
use Rattle.std.proofs.lemmas.Nat.{xor_comm, xor_shr, xor_mod, xor_block, mod_below}
use Rattle.std.proofs.lemmas.Bool.{cases_eq, eq-eqb, ne_eqb, cond-true, cond-false}
use Rattle.std.proofs.lemmas.Grind.{flat_map-append}
use Rattle.std.proofs.lemmas.List.{drop_more, drop_all, take_all}
use Rattle.std.proofs.lemmas.List.Sums.{fold-append}
use Rattle.byteorder.specs.Endian.{little_from}
use Rattle.byteorder.specs.Numbers.{little_from-cons}
use Rattle.crc_frame.specs.Crc.{generator, divide_bit, low_bits, bits_of, remainder_after}

-- ---- sums modulo 2

half-xor : (a b : ℕ) → bit_xor a b / 2 ≡ bit_xor (a / 2) (b / 2)
half-xor a b = xor_shr a b 1

lowest-xor : (a b : ℕ) → bit_xor a b % 2 ≡ bit_xor (a % 2) (b % 2)
lowest-xor a b = xor_mod a b 1

lowest-xor_same : (a b : ℕ) → a % 2 ≡ b % 2 → bit_xor a b % 2 ≡ 0
lowest-xor_same a b same = lowest-xor a b ∙ ap (λ (x : ℕ). bit_xor x (b % 2)) same ∙ xor_self (b % 2)

xor_bits : (a b : ℕ) → a < 2 → b < 2 → (a ≡ b → ⊥) → bit_xor a b ≡ 1
xor_bits a b small_a small_b differ = elim (cases_eq a 0) [
  | inl none ↦ ap (λ (x : ℕ). bit_xor x b) none ∙ omega (arith, none, differ)
  | inr some ↦
      let one : a ≡ 1 = omega (arith, some) in
      let other : b ≡ 0 = omega (arith, one, differ) in
      ap (λ (x : ℕ). bit_xor x b) one ∙ ap (λ (x : ℕ). bit_xor 1 x) other
]

lowest-xor_other : (a b : ℕ) → (a % 2 ≡ b % 2 → ⊥) → bit_xor a b % 2 ≡ 0 → ⊥
lowest-xor_other a b differ even =
    let one = xor_bits (a % 2) (b % 2) (mod_below a 2 (omega arith)) (mod_below b 2 (omega arith)) differ in
    omega (arith, lowest-xor a b, one, even)

xor_last : (a b c : ℕ) → bit_xor (bit_xor a b) c ≡ bit_xor (bit_xor a c) b
xor_last a b c = xor_assoc a b c ∙ ap (λ (x : ℕ). bit_xor a x) (xor_comm b c) ∙ sym (xor_assoc a c b)

xor_twice : (a b : ℕ) → bit_xor (bit_xor a b) b ≡ a
xor_twice a b = xor_assoc a b b ∙ ap (λ (x : ℕ). bit_xor a x) (xor_self b) ∙ xor_zero_r a

-- a byte below other bits
xor_byte : (b x : ℕ) → b < 256 → bit_xor b (x * 256) ≡ b + x * 256
xor_byte b x small =
    let low : b ≡ 0 * 2 ^ 8 + b = omega arith in
    let high : x * 256 ≡ x * 2 ^ 8 + 0 = omega arith in
    ap (λ (y : ℕ). bit_xor y (x * 256)) low ∙ ap (λ (y : ℕ). bit_xor (0 * 2 ^ 8 + b) y) high ∙ xor_block 8 0 x b 0 small (omega arith)
    ∙ omega (arith, xor_zero_r b)

-- ---- one step

divide_same : (c bit : ℕ) → c % 2 ≡ bit → divide_bit c bit ≡ c / 2
divide_same c bit same = cond-true _ _ _ (eq-eqb (c % 2) bit same)

divide_other : (c bit : ℕ) → (c % 2 ≡ bit → ⊥) → divide_bit c bit ≡ bit_xor (c / 2) generator
divide_other c bit differ = cond-false _ _ _ (ne_eqb (c % 2) bit differ)

-- A bit that enters, and the bits behind it, may be added beforehand.
divide_bit-xor : (c x : ℕ) → divide_bit (bit_xor c x) 0 ≡ bit_xor (divide_bit c (x % 2)) (x / 2)
divide_bit-xor c x = elim (cases_eq (c % 2) (x % 2)) [
  | inl same ↦
      divide_same (bit_xor c x) 0 (lowest-xor_same c x same) ∙ half-xor c x
      ∙ ap (λ (y : ℕ). bit_xor y (x / 2)) (sym (divide_same c (x % 2) same))
  | inr differ ↦
      divide_other (bit_xor c x) 0 (lowest-xor_other c x differ) ∙ ap (λ (y : ℕ). bit_xor y generator) (half-xor c x)
      ∙ xor_last (c / 2) (x / 2) generator ∙ ap (λ (y : ℕ). bit_xor y (x / 2)) (sym (divide_other c (x % 2) differ))
]

-- the step by the other bit
divide_bit_one : (c : ℕ) → divide_bit c 1 ≡ bit_xor (divide_bit c 0) generator
divide_bit_one c = elim (cases_eq (c % 2) 0) [
  | inl even ↦ divide_other c 1 (omega (arith, even)) ∙ ap (λ (y : ℕ). bit_xor y generator) (sym (divide_same c 0 even))
  | inr odd ↦
      let one : c % 2 ≡ 1 = omega (arith, odd) in
      divide_same c 1 one ∙ sym (xor_twice (c / 2) generator) ∙ ap (λ (y : ℕ). bit_xor y generator) (sym (divide_other c 0 odd))
]

-- A step by a bit 0 keeps sums.
step-xor : (a b : ℕ) → divide_bit (bit_xor a b) 0 ≡ bit_xor (divide_bit a 0) (divide_bit b 0)
step-xor a b = divide_bit-xor a b ∙ elim (cases_eq (b % 2) 0) [
  | inl even ↦
      ap (λ (bit : ℕ). bit_xor (divide_bit a bit) (b / 2)) even ∙ ap (bit_xor (divide_bit a 0)) (sym (divide_same b 0 even))
  | inr odd ↦
      let one : b % 2 ≡ 1 = omega (arith, odd) in
      ap (λ (bit : ℕ). bit_xor (divide_bit a bit) (b / 2)) one ∙ ap (λ (y : ℕ). bit_xor y (b / 2)) (divide_bit_one a)
      ∙ xor_last (divide_bit a 0) generator (b / 2) ∙ xor_assoc (divide_bit a 0) (b / 2) generator
      ∙ ap (bit_xor (divide_bit a 0)) (sym (divide_other b 0 odd))
]

-- ---- many steps

-- the remainder after n bits 0
unfoldable pub shifted : ℕ → ℕ → ℕ
shifted zero c = c
shifted (suc n) c = shifted n (divide_bit c 0)

shifted_none : (c : ℕ) → shifted 0 c ≡ c
unfolding shifted
shifted_none c = refl

shifted-add : (m n c : ℕ) → shifted (m + n) c ≡ shifted n (shifted m c)
unfolding shifted
shifted-add zero n c = ap (λ (k : ℕ). shifted k c) (zero-add n)
shifted-add (suc m) n c = ap (λ (k : ℕ). shifted k c) (suc-add m n) ∙ shifted-add m n (divide_bit c 0)

shifted-xor : (n a b : ℕ) → shifted n (bit_xor a b) ≡ bit_xor (shifted n a) (shifted n b)
unfolding shifted
shifted-xor zero a b = refl
shifted-xor (suc n) a b = ap (shifted n) (step-xor a b) ∙ shifted-xor n (divide_bit a 0) (divide_bit b 0)

-- The message's bits may be added beforehand.
divided : (n c x : ℕ) → x < 2 ^ n → fold divide_bit c (low_bits n x) ≡ shifted n (bit_xor c x)
unfolding shifted
divided zero c x small =
    let none : x ≡ 0 = omega arith in
    sym (xor_zero_r c) ∙ ap (bit_xor c) (sym none)
divided (suc n) c x small = divided n (divide_bit c (x % 2)) (x / 2) (omega (arith, pow-suc 2 n)) ∙ ap (shifted n) (sym (divide_bit-xor c x))

-- What is added behind n bits may be added before them.
shifted-behind : (n a x : ℕ) → bit_xor (shifted n a) x ≡ shifted n (bit_xor a (x * 2 ^ n))
unfolding shifted
shifted-behind zero a x = ap (bit_xor a) (sym (mul-one x))
shifted-behind (suc n) a x =
    let high : x * 2 ^ suc n ≡ x * 2 ^ n * 2 = ap (λ (y : ℕ). x * y) (pow-suc 2 n) ∙ sym (mul_assoc x (2 ^ n) 2) in
    let bit : x * 2 ^ suc n % 2 ≡ 0 = omega (arith, high) in
    let rest : x * 2 ^ suc n / 2 ≡ x * 2 ^ n = omega (arith, high) in
    let entered : divide_bit (bit_xor a (x * 2 ^ suc n)) 0 ≡ bit_xor (divide_bit a 0) (x * 2 ^ n) =
    divide_bit-xor a (x * 2 ^ suc n) ∙ ap (λ (y : ℕ). bit_xor (divide_bit a y) (x * 2 ^ suc n / 2)) bit
    ∙ ap (bit_xor (divide_bit a 0)) rest in
    shifted-behind n (divide_bit a 0) x ∙ ap (shifted n) (sym entered)

-- ---- bytes

pub remainder_after-byte : (c b : ℕ) → remainder_after c (b ∷ []) ≡ fold divide_bit c (low_bits 8 b)
unfolding remainder_after
remainder_after-byte c b = refl

pub remainder_after-nil : (c : ℕ) → remainder_after c [] ≡ c
unfolding remainder_after
remainder_after-nil c = refl

pub remainder_after-append : (c : ℕ) (xs ys : List ℕ) → remainder_after c (xs ++ ys) ≡ remainder_after (remainder_after c xs) ys
unfolding remainder_after
remainder_after-append c xs ys = ap (fold divide_bit c) (flat_map-append (low_bits 8) xs ys) ∙ fold-append divide_bit c (bits_of xs) (bits_of ys)

-- a loop over bytes: one more of them, and their end
pub remainder_after-drop : (c : ℕ) (bytes : List ℕ) (i : ℕ) → i < length bytes
    → remainder_after c (drop i bytes) ≡ remainder_after (remainder_after c (get_or bytes i 0 ∷ [])) (drop (i + 1) bytes)
remainder_after-drop c bytes i within =
    ap (remainder_after c) (drop_more bytes i 0 within) ∙ remainder_after-append c (get_or bytes i 0 ∷ []) (drop (i + 1) bytes)

pub remainder_after-drop_all : (c : ℕ) (bytes : List ℕ) (i : ℕ) → length bytes ≤ i → remainder_after c (drop i bytes) ≡ c
remainder_after-drop_all c bytes i past = ap (remainder_after c) (drop_all i bytes past) ∙ remainder_after-nil c

eight_more : (n : ℕ) → 8 + 8 * n ≡ 8 * (n + 1)
eight_more n = omega arith

eight_more_suc : (n : ℕ) → 8 + 8 * n ≡ 8 * suc n
eight_more_suc n = omega arith

pub byte_shifted : (c b : ℕ) → b < 256 → remainder_after c (b ∷ []) ≡ shifted 8 (bit_xor c b)
byte_shifted c b small = remainder_after-byte c b ∙ divided 8 c b small

-- The remainder after some bytes is that of their number, the lowest byte first, after as many zero bytes.
pub remainder_after-take : (k c : ℕ) (bytes : List ℕ) → k ≤ length bytes → ((i : ℕ) → get_or bytes i 0 < 256)
    → remainder_after c (take k bytes) ≡ shifted (8 * k) (bit_xor c (little_from 0 k bytes))
remainder_after-take zero c bytes long small = remainder_after-nil c ∙ sym (xor_zero_r c) ∙ sym (shifted_none (bit_xor c 0))
remainder_after-take (suc k) c [] long small = absurd (omega arith)
remainder_after-take (suc k) c (b ∷ bytes) long small =
    let rest = little_from 0 k bytes in
    let first : remainder_after c (b ∷ []) ≡ shifted 8 (bit_xor c b) = byte_shifted c b (small 0) in
    let number : little_from 0 (suc k) (b ∷ bytes) ≡ bit_xor b (rest * 256) =
    ap (λ (y : ℕ). b + 256 * y) (little_from-cons 0 k b bytes) ∙ omega (arith, xor_byte b rest (small 0)) in
    remainder_after-append c (b ∷ []) (take k bytes)
    ∙ ap (λ (r : ℕ). remainder_after r (take k bytes)) first
    ∙ remainder_after-take k (shifted 8 (bit_xor c b)) bytes (omega arith) (λ i. small (suc i))
    ∙ ap (shifted (8 * k)) (shifted-behind 8 (bit_xor c b) rest)
    ∙ sym (shifted-add 8 (8 * k) (bit_xor (bit_xor c b) (rest * 256)))
    ∙ ap (λ (y : ℕ). shifted (8 + 8 * k) y) (xor_assoc c b (rest * 256) ∙ ap (bit_xor c) (sym number))
    ∙ ap (λ (n : ℕ). shifted n (bit_xor c (little_from 0 (suc k) (b ∷ bytes)))) (eight_more_suc k)

zeros_shifted : (n c : ℕ) → remainder_after c (replicate n 0) ≡ shifted (8 * n) c
zeros_shifted zero c = remainder_after-nil c ∙ sym (shifted_none c)
zeros_shifted (suc n) c =
    remainder_after-append c (0 ∷ []) (replicate n 0)
    ∙ ap (λ (r : ℕ). remainder_after r (replicate n 0)) (byte_shifted c 0 (omega arith) ∙ ap (shifted 8) (xor_zero_r c))
    ∙ zeros_shifted n (shifted 8 c) ∙ sym (shifted-add 8 (8 * n) c) ∙ ap (λ (k : ℕ). shifted k c) (eight_more_suc n)

-- some bytes and zero bytes behind them
pub remainder_after-padded : (k n c : ℕ) (bytes : List ℕ) → length bytes ≡ k → ((i : ℕ) → get_or bytes i 0 < 256)
    → remainder_after c (bytes ++ replicate n 0) ≡ shifted (8 * (n + k)) (bit_xor c (little_from 0 k bytes))
remainder_after-padded k n c bytes long small =
    let both : 8 * k + 8 * n ≡ 8 * (n + k) = omega arith in
    remainder_after-append c bytes (replicate n 0)
    ∙ ap (λ (r : ℕ). remainder_after r (replicate n 0)) (ap (remainder_after c) (sym (take_all k bytes (omega arith))) ∙ remainder_after-take k c bytes (omega arith) small)
    ∙ zeros_shifted n (shifted (8 * k) (bit_xor c (little_from 0 k bytes)))
    ∙ sym (shifted-add (8 * k) (8 * n) (bit_xor c (little_from 0 k bytes)))
    ∙ ap (λ (m : ℕ). shifted m (bit_xor c (little_from 0 k bytes))) both

-- The remainder so far and the bytes that follow are divided apart from each other.
pub remainder_after-apart : (k c : ℕ) (bytes : List ℕ) → length bytes ≡ k → ((i : ℕ) → get_or bytes i 0 < 256)
    → remainder_after c bytes ≡ bit_xor (remainder_after c (replicate k 0)) (remainder_after 0 bytes)
remainder_after-apart k c bytes long small =
    let number = little_from 0 k bytes in
    let all = sym (take_all k bytes (omega arith)) in
    ap (remainder_after c) all ∙ remainder_after-take k c bytes (omega arith) small ∙ shifted-xor (8 * k) c number
    ∙ ap (λ (x : ℕ). bit_xor x (shifted (8 * k) number)) (sym (zeros_shifted k c))
    ∙ ap (bit_xor (remainder_after c (replicate k 0)))
    (ap (shifted (8 * k)) (sym (xor_zero_r number) ∙ xor_comm number 0) ∙ sym (remainder_after-take k 0 bytes (omega arith) small)
    ∙ ap (remainder_after 0) (sym all))

-- an entry of a table
pub remainder_after-zeros : (n b : ℕ) → b < 256 → remainder_after 0 (b ∷ replicate n 0) ≡ shifted (8 * (n + 1)) b
remainder_after-zeros n b small =
    remainder_after-append 0 (b ∷ []) (replicate n 0) ∙ ap (λ (r : ℕ). remainder_after r (replicate n 0)) (byte_shifted 0 b small)
    ∙ zeros_shifted n (shifted 8 b) ∙ sym (shifted-add 8 (8 * n) b) ∙ ap (λ (k : ℕ). shifted k b) (eight_more n)

-- The lowest byte of a number is taken apart from the rest.
pub shifted-split : (n x : ℕ) → shifted (8 * (n + 1)) x ≡ bit_xor (shifted (8 * (n + 1)) (x % 256)) (shifted (8 * n) (x / 256))
shifted-split n x =
    let low = x % 256 in
    let high = x / 256 in
    let parts : x ≡ bit_xor low (high * 256) = omega (arith, xor_byte low high (mod_below x 256 (omega arith))) in
    ap (λ (k : ℕ). shifted k x) (sym (eight_more n)) ∙ shifted-add 8 (8 * n) x ∙ ap (λ (y : ℕ). shifted (8 * n) (shifted 8 y)) parts
    ∙ ap (shifted (8 * n)) (sym (shifted-behind 8 low high)) ∙ shifted-xor (8 * n) (shifted 8 low) high
    ∙ ap (λ (y : ℕ). bit_xor y (shifted (8 * n) high)) (sym (shifted-add 8 (8 * n) low) ∙ ap (λ (k : ℕ). shifted k low) (eight_more n))

-- the step of a byte by a table
pub byte_by_table : (c b r : ℕ) → b < 256 → r ≡ remainder_after 0 ((bit_xor c b % 256) ∷ []) → bit_xor r (c / 256) ≡ remainder_after c (b ∷ [])
byte_by_table c b r small entry =
    let sum = bit_xor c b in
    let low = sum % 256 in
    let none : b / 2 ^ 8 ≡ 0 = omega arith in
    let high : c / 256 ≡ sum / 256 = sym (xor_shr c b 8 ∙ ap (bit_xor (c / 256)) none ∙ xor_zero_r (c / 256)) in
    ap (λ (x : ℕ). bit_xor x (c / 256)) (entry ∙ byte_shifted 0 low (mod_below sum 256 (omega arith)))
    ∙ ap (bit_xor (shifted 8 low)) (high ∙ sym (shifted_none (sum / 256)))
    ∙ sym (shifted-split 0 sum) ∙ sym (byte_shifted c b small)

-- the step of several bytes by tables, the last of them first
pub byte_added : (n after x r : ℕ) → r ≡ remainder_after 0 ((x % 256) ∷ replicate n 0) → after ≡ shifted (8 * n) (x / 256)
    → bit_xor after r ≡ shifted (8 * (n + 1)) x
byte_added n after x r entry before =
    xor_comm after r
    ∙ ap (λ (y : ℕ). bit_xor y after) (entry ∙ remainder_after-zeros n (x % 256) (mod_below x 256 (omega arith)))
    ∙ ap (bit_xor (shifted (8 * (n + 1)) (x % 256))) before
    ∙ sym (shifted-split n x)

pub shifted_zero : (n : ℕ) → shifted n 0 ≡ 0
unfolding shifted
shifted_zero zero = refl
shifted_zero (suc n) = shifted_zero n
