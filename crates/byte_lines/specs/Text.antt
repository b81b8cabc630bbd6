-- Text from bytes that may be no text. UTF-8 is that of RFC 3629, section 3, and of The Unicode Standard, section 3.9.
use Rattle.std.specs.Prelude.{◌≡◌, ℕ, zero, suc, List, [], ◌∷◌, ◌++◌, take, if◌then◌else◌}
use Rattle.std.specs.Char.{IsScalar, encode_utf8}
use Rattle.std.specs.Str.{is_utf8}
use Rattle.std.specs.Str.Lossy.{replacement_bytes}

-- the bytes begin with the UTF-8 of a character (a scalar value: no surrogate, at most U+10FFFF)
abbrev pub BeginsCharacter : List ℕ → Type 0
BeginsCharacter bytes = (c : ℕ) × (more : List ℕ) × IsScalar c × (bytes ≡ encode_utf8 c ++ more)

-- the bytes decode to the text, which is given by its UTF-8: each character stays, and each byte that begins none becomes one U+FFFD.
-- The standard leaves open for how many ill-formed bytes one U+FFFD stands (section 3.9, "U+FFFD Substitution of Maximal Subparts"):
-- here always for one byte.
pub data DecodesTo : List ℕ → List ℕ → Type 0 where
  end : DecodesTo [] []
  character : (c : ℕ) (more text : List ℕ) → IsScalar c → DecodesTo more text → DecodesTo (encode_utf8 c ++ more) (encode_utf8 c ++ text)
  replaced : (b : ℕ) (more text : List ℕ) → ¬ (BeginsCharacter (b ∷ more)) → DecodesTo more text → DecodesTo (b ∷ more) (replacement_bytes ++ text)

-- how many bytes the character at the front takes, and 0 where none is there
abbrev pub character_length : List ℕ → ℕ
character_length bytes =
    if is_utf8 (take 1 bytes) then 1
    else (if is_utf8 (take 2 bytes) then 2
    else (if is_utf8 (take 3 bytes) then 3
    else (if is_utf8 (take 4 bytes) then 4 else 0)))

-- the text from byte b on, where the second argument is how many bytes the character takes that b begins, or 0. `later` is the text
-- of the bytes behind b, and `inside n` that text where the first n of them belong to the character
abbrev pub text_at : ℕ → ℕ → List ℕ → (ℕ → List ℕ) → List ℕ
text_at b zero later inside = replacement_bytes ++ later
text_at b (suc n) later inside = b ∷ inside n

-- the text that the bytes decode to, where the first n of them belong to a character
unfoldable pub text_inside : ℕ → List ℕ → List ℕ
text_inside n [] = []
text_inside (suc n) (b ∷ bytes) = b ∷ text_inside n bytes
text_inside zero (b ∷ bytes) = text_at b (character_length (b ∷ bytes)) (text_inside zero bytes) (λ n. text_inside n bytes)

-- the text that the bytes decode to
unfoldable pub text_of : List ℕ → List ℕ
text_of bytes = text_inside zero bytes
