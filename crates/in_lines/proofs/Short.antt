-- The text of a line is not too long: it has at most three times as many bytes as a line may have.
use Rattle.std.proofs.Common.{rules, ◌≡◌, ◌<◌, ◌≤◌, ℕ, ◌-◌, ◌*◌, ◌==◌, Bool, true, false, List, [], ◌∷◌, ◌++◌, map, length, take, if◌then◌else◌, ap, arith, length-append}
use Rattle.std.specs.Prelude.{slice_index}
use Rattle.std.specs.Char.{encode_utf8}
use Rattle.std.specs.List.{AllByRecursion}
use Rattle.std.specs.Str.Lines.{strip_carriage_return}
use Rattle.std.specs.Str.Lossy.{replacement_bytes}
use Rattle.byte_lines.specs.Split.{IsRawLine, RawLine, Ended, Full, line_content, split_of}
use Rattle.byte_lines.specs.Lines.{last_line, line_text}
use Rattle.byte_lines.specs.Text.{DecodesTo, character, end, replaced, text_of}
use Rattle.byte_lines.specs.Unread.{Unread, lines_left}
use Rattle.byte_lines.proofs.Decoding.{DecodesTo-text_of}
use Rattle.byte_lines.proofs.Splitting.{SplitsInto-split_of}

text_short : (bytes text : List ℕ) → DecodesTo bytes text → length text ≤ 3 * length bytes
text_short _ _ end = omega arith
text_short _ _ (character c more text ok rest) =
    let h = text_short more text rest in omega (arith, h, length-append (encode_utf8 c) more, length-append (encode_utf8 c) text)
text_short _ _ (replaced b more text none rest) = let h = text_short more text rest in omega (arith, h, length-append replacement_bytes text)

pub text_of_short : (bytes : List ℕ) → length (text_of bytes) ≤ 3 * length bytes
text_of_short bytes = text_short bytes (text_of bytes) (DecodesTo-text_of bytes)

stripped_short : (bytes : List ℕ) → length (strip_carriage_return bytes) ≤ length bytes
stripped_short bytes = by (slice_index bytes (length bytes - 1) == 13)
  where
    by : (b : Bool) → length (if b then take (length bytes - 1) bytes else bytes) ≤ length bytes
    by true = search rules
    by false = omega arith

pub content_short : (limit : ℕ) (line : RawLine) → IsRawLine limit line → length (line_content line) ≤ limit
content_short limit (Ended bytes) is = let h = stripped_short bytes in omega (arith, h, is.1)
content_short limit (Full bytes) is = omega (arith, is.1)

abbrev first_of : List (List ℕ) → List ℕ
first_of [] = []
first_of (text ∷ more) = text

-- of the first line that a reader has left
pub first_short : (u : Unread) (text : List ℕ) (more : List (List ℕ)) → 0 < u.limit → lines_left u ≡ text ∷ more → length text ≤ 3 * u.limit
first_short u text more some is =
    let s = SplitsInto-split_of u.limit u.bytes some in
    by (split_of u.limit u.bytes).lines (split_of u.limit u.bytes).rest s.each s.short is
  where
    of_bytes : (bytes : List ℕ) → length bytes ≤ u.limit → text_of bytes ≡ text → length text ≤ 3 * u.limit
    of_bytes bytes short same = let h = text_of_short bytes in omega (arith, h, short, ap length same)

    last : (e : Bool) (rest : List ℕ) → length rest < u.limit → (if e then last_line rest else []) ≡ text ∷ more → length text ≤ 3 * u.limit
    last false rest short said = absurd (omega (arith, ap length said))
    last true [] short said = absurd (omega (arith, ap length said))
    last true (b ∷ rest) short said = of_bytes (b ∷ rest) (omega (arith, short)) (ap first_of said)

    by : (lines : List RawLine) (rest : List ℕ) → AllByRecursion (IsRawLine u.limit) lines → length rest < u.limit → map line_text lines ++ (if u.ended then last_line rest else []) ≡ text ∷ more → length text ≤ 3 * u.limit
    by [] rest each short said = last u.ended rest short said
    by (line ∷ lines) rest each short said = of_bytes (line_content line) (content_short u.limit line each.0) (ap first_of said)
