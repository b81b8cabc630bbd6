-- CRC-32, the 32-bit frame check sequence of ITU-T V.42 (8.1.1.6.2) and ISO 3309, in the bit order of
-- the PNG specification (5.5): the remainder of a division of polynomials over the two numbers 0 and 1.
-- The coefficient of x^31 stands in the lowest bit of a remainder, and that of x^0 in bit 31.
use Rattle.std.specs.Prelude.{ℕ, zero, suc, ◌-◌, ◌/◌, ◌%◌, ◌==◌, Bool, List, [], ◌∷◌, length, take, drop, fold, bit_xor, if◌then◌else◌}
use Rattle.std.specs.Int.{w32, bit_not}
use Rattle.std.specs.List.{flat_map}
use Rattle.byteorder.specs.Endian.{big_number}

-- the generator polynomial without its highest term: x^26 + x^23 + x^22 + x^16 + x^12 + x^11 + x^10 +
-- x^8 + x^7 + x^5 + x^4 + x^2 + x + 1
abbrev pub generator : ℕ
generator = 0xEDB8_8320

-- One step of the division, in which one more coefficient of the message enters. Where it differs from
-- the remainder's highest coefficient, the generator is subtracted, which modulo 2 is to add it.
abbrev pub divide_bit : ℕ → ℕ → ℕ
divide_bit remainder bit = if remainder % 2 == bit then remainder / 2 else bit_xor (remainder / 2) generator

-- the lowest n bits of x, the lowest of them first
abbrev pub low_bits : ℕ → ℕ → List ℕ
low_bits zero x = []
low_bits (suc n) x = x % 2 ∷ low_bits n (x / 2)

-- the coefficients of a message: the bits of each byte, the lowest first
abbrev pub bits_of : List ℕ → List ℕ
bits_of bytes = flat_map (low_bits 8) bytes

-- the remainder after these bytes of a message, from the remainder before them
unfoldable pub remainder_after : ℕ → List ℕ → ℕ
remainder_after remainder bytes = fold divide_bit remainder (bits_of bytes)

-- The check sequence of a message: the division begins with all ones, and the ones' complement of its
-- remainder is taken.
unfoldable pub crc32 : List ℕ → ℕ
crc32 bytes = bit_not w32 (remainder_after 0xFFFF_FFFF bytes)

-- these bytes end with the CRC-32 of all before it, big endian in 4 bytes
unfoldable pub is_checked : List ℕ → Bool
is_checked bytes = big_number 4 (drop (length bytes - 4) bytes) == crc32 (take (length bytes - 4) bytes)
