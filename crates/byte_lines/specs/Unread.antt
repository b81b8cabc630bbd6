-- What a reader of lines has yet to give.
use Rattle.std.specs.Prelude.{◌≡◌, ℕ, Bool, false, List, [], ◌∷◌, Option, map, String}
use Rattle.std.specs.Option.{option_to_list}
use Rattle.std.specs.String.{string_bytes}
use Rattle.byte_lines.specs.Split.{split_of}
use Rattle.byte_lines.specs.Lines.{texts_of}

-- the bytes whose lines are not given yet, and whether the input ends behind them. A line has at most `limit` bytes
pub record Unread : Type 0 where
  pub limit : ℕ
  pub bytes : List ℕ
  pub ended : Bool

-- what is left behind the whole lines
abbrev pub rest_of : Unread → List ℕ
rest_of unread = (split_of unread.limit unread.bytes).rest

-- the lines to give: the whole ones and, at the end of the input, the one that the rest makes
abbrev pub lines_left : Unread → List (List ℕ)
lines_left unread = texts_of unread.ended (split_of unread.limit unread.bytes)

abbrev pub unread : ℕ → List ℕ → Bool → Unread
unread limit bytes ended = record { limit = limit; bytes = bytes; ended = ended }

-- the text of a line that was given, if one was
abbrev pub text_given : {A : Type 0} → Option (String A) → List (List ℕ)
text_given line = map string_bytes (option_to_list line)

-- no line was left to give, and nothing changed
abbrev pub FindsNone : Unread → Unread → Type 0
FindsNone old new = (lines_left old ≡ []) × (new ≡ old)

-- what is left behind the whole lines stays, but for the line that the end makes of it
abbrev pub KeepsRest : Unread → Unread → Type 0
KeepsRest old new = old.ended ≡ false → rest_of new ≡ rest_of old

-- `text` is the first line of the bytes, and `behind` are the bytes behind that line
pub record GivesLine (limit : ℕ) (bytes : List ℕ) (ended : Bool) (text behind : List ℕ) : Type 0 where
  pub lines : lines_left (unread limit bytes ended) ≡ text ∷ lines_left (unread limit behind ended)
  pub rest : ended ≡ false → (split_of limit behind).rest ≡ (split_of limit bytes).rest
