-- Text that is added to a string.
use Rattle.std.proofs.Common.{◌≡◌, ℕ, ◌<◌, List, [], ◌∷◌, ◌++◌, length, drop, refl, sym, ◌∙◌, arith, Some, Result, Ok, Err, OnOk, is_ok, if◌then◌else◌, length-drop, true, false}
use Rattle.std.specs.Prelude.{encode_utf8}
use lib.Utf8.{encode}
use Rattle.event_json.specs.Strings.{replacement, is_high, is_low, alone, joined}
use Rattle.event_json.specs.Reading.{At, after_word}

pub added : {T E : Type 0} (r : Result T E) (old new bytes : List ℕ) → new ≡ (if is_ok r then old ++ bytes else old) → OnOk r (new ≡ old ++ bytes)
added (Ok x) old new bytes e = e
added (Err x) old new bytes e = tt

pub replacement_is : encode_utf8 65533 ≡ replacement
unfolding encode
replacement_is = refl

pub low_alone : (u : ℕ) → is_high u ≡ false → is_low u ≡ true → alone u ≡ replacement
low_alone u h l = rw (h, l) refl

pub not_joined : (h u : ℕ) → is_low u ≡ false → joined (Some h) u ≡ replacement ++ alone u
not_joined h u l = rw l refl

-- at the end of the bytes more of a word is wanted
pub word_nothing : (ws rest : List ℕ) → 0 < length ws → length rest ≡ 0 → after_word ws rest ≡ Err (At (length rest))
word_nothing [] rest some e = absurd (omega arith)
word_nothing (w ∷ ws) [] some e = refl
word_nothing (w ∷ ws) (b ∷ bs) some e = absurd (omega arith)

pub word_ends : (word rest bytes : List ℕ) (i : ℕ) → i < length word → length rest ≡ 0 → after_word (drop i word) rest ≡ after_word word bytes → after_word word bytes ≡ Err (At (length rest))
word_ends word rest bytes i lt e h = sym h ∙ word_nothing (drop i word) rest (omega (arith, length-drop i word)) e
