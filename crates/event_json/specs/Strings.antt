-- Strings (RFC 8259, section 7): the pieces between the quotes, and the text that they say.
use Rattle.std.specs.Prelude.{◌≡◌, ℕ, ◌+◌, ◌-◌, ◌*◌, ◌==◌, ◌&&◌, not, nat_le, nat_lt, Bool, true, if◌then◌else◌, List, [], ◌∷◌, ◌++◌, Option, Some, None, encode_utf8}
use Rattle.event_tree.specs.Characters.{backslash, quote}
use Rattle.event_json.specs.Characters.{backspace, carriage_return, form_feed, line_feed, slash, small_b, small_f, small_n, small_r, small_t, small_u, tab}

-- a byte that stands for itself, as those of a character beyond ASCII do; a backslash and a letter; or a backslash, a `u` and four digits in base 16
pub data Piece : Type 0 where
  plain : (byte : ℕ) → Piece
  short : (letter : ℕ) → Piece
  unit : (a b c d : ℕ) → Piece

-- neither a control character nor a quote nor a backslash
abbrev pub is_plain : ℕ → Bool
is_plain b = not (nat_lt b 32) && (not (b == quote) && not (b == backslash))

-- what a backslash and a letter stand for: `"`, `\`, `/`, and `b`, `f`, `n`, `r` and `t`
abbrev pub short_of : ℕ → Option ℕ
short_of c =
    if c == quote then Some quote
    else (if c == backslash then Some backslash
    else (if c == slash then Some slash
    else (if c == small_b then Some backspace
    else (if c == small_f then Some form_feed
    else (if c == small_n then Some line_feed
    else (if c == small_r then Some carriage_return
    else (if c == small_t then Some tab
    else None)))))))

-- a digit in base 16, in either case
abbrev pub hex_of : ℕ → Option ℕ
hex_of b =
    if nat_le 48 b && nat_le b 57 then Some (b - 48)
    else (if nat_le 97 b && nat_le b 102 then Some (b - 87)
    else (if nat_le 65 b && nat_le b 70 then Some (b - 55)
    else None))

-- the piece is one, and its value
abbrev pub IsHex : ℕ → Type 0
IsHex b = (n : ℕ) × (hex_of b ≡ Some n)

abbrev pub IsPiece : Piece → Type 0
IsPiece (plain b) = is_plain b ≡ true
IsPiece (short c) = (n : ℕ) × (short_of c ≡ Some n)
IsPiece (unit a b c d) = IsHex a × IsHex b × IsHex c × IsHex d

abbrev pub ArePieces : List Piece → Type 0
ArePieces [] = Unit {0}
ArePieces (p ∷ ps) = IsPiece p × ArePieces ps

abbrev pub piece_bytes : Piece → List ℕ
piece_bytes (plain b) = b ∷ []
piece_bytes (short c) = backslash ∷ c ∷ []
piece_bytes (unit a b c d) = backslash ∷ small_u ∷ a ∷ b ∷ c ∷ d ∷ []

abbrev pub pieces_bytes : List Piece → List ℕ
pieces_bytes [] = []
pieces_bytes (p ∷ ps) = piece_bytes p ++ pieces_bytes ps

-- the bytes of U+FFFD
abbrev pub replacement : List ℕ
replacement = 239 ∷ 191 ∷ 189 ∷ []

-- a high surrogate is the first half of a pair, and a low one the second (The Unicode Standard, section 3.8)
abbrev pub is_high : ℕ → Bool
is_high u = nat_le 55296 u && nat_lt u 56320

abbrev pub is_low : ℕ → Bool
is_low u = nat_le 56320 u && nat_lt u 57344

-- the character of a pair
abbrev pub paired : ℕ → ℕ → ℕ
paired h l = 65536 + (1024 * (h - 55296) + (l - 56320))

-- a high surrogate waits for its low one; a lone one is U+FFFD
abbrev pub held : ℕ → Option ℕ
held u = if is_high u then Some u else None

abbrev pub lone : Option ℕ → List ℕ
lone None = []
lone (Some h) = replacement

abbrev pub alone : ℕ → List ℕ
alone u = if is_high u then [] else (if is_low u then replacement else encode_utf8 u)

-- what a unit adds behind what waits
abbrev pub joined : Option ℕ → ℕ → List ℕ
joined None u = alone u
joined (Some h) u = if is_low u then encode_utf8 (paired h u) else replacement ++ alone u

abbrev pub hex_or_0 : Option ℕ → ℕ
hex_or_0 None = 0
hex_or_0 (Some n) = n

abbrev pub digit_on : ℕ → ℕ → ℕ
digit_on u b = 16 * u + hex_or_0 (hex_of b)

abbrev pub unit_of : ℕ → ℕ → ℕ → ℕ → ℕ
unit_of a b c d = digit_on (digit_on (digit_on (digit_on 0 a) b) c) d

-- the text of the pieces, in UTF-8, behind a high surrogate that may wait
abbrev pub pieces_behind : Option ℕ → List Piece → List ℕ
pieces_behind w [] = lone w
pieces_behind w (plain b ∷ ps) = lone w ++ b ∷ pieces_behind None ps
pieces_behind w (short c ∷ ps) = lone w ++ hex_or_0 (short_of c) ∷ pieces_behind None ps
pieces_behind w (unit a b c d ∷ ps) = joined w (unit_of a b c d) ++ pieces_behind (held (unit_of a b c d)) ps

abbrev pub pieces_text : List Piece → List ℕ
pieces_text ps = pieces_behind None ps
