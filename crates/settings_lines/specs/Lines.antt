-- What a line of `pipelines.yml` is: a flat profile of YAML, of this project's own. A blank is the byte 32.
use Rattle.std.specs.Prelude.{ℕ, ◌==◌, ◌&&◌, ◌||◌, not, nat_lt, Bool, true, false, List, [], ◌∷◌, length, if◌then◌else◌, Option, Some, None, option_map, option_and_then}
use Rattle.std.specs.List.{list_all, position_or_len, before_first, after_first, slice_split}

-- the lines of a text, around its line feeds; a carriage return is part of its line
abbrev pub lines_of : List ℕ → List (List ℕ)
lines_of text = slice_split (λ b. b == 10) text

-- without the blanks in front
abbrev pub skip_blanks : List ℕ → List ℕ
skip_blanks [] = []
skip_blanks (b ∷ s) = if b == 32 then skip_blanks s else b ∷ s

abbrev pub begins_blank : List ℕ → Bool
begins_blank [] = false
begins_blank (b ∷ s) = b == 32

abbrev pub begins_comment : List ℕ → Bool
begins_comment [] = false
begins_comment (b ∷ s) = b == 35

-- blanks alone, or a comment behind them
abbrev pub is_blank : List ℕ → Bool
is_blank line = length (skip_blanks line) == 0 || begins_comment (skip_blanks line)

-- `- ` in front
abbrev pub begins_entry : List ℕ → Bool
begins_entry (a ∷ b ∷ s) = a == 45 && b == 32
begins_entry _ = false

-- a line may end so behind a closing quote: nothing, or a blank and then blanks and a comment
abbrev pub ends_line : List ℕ → Bool
ends_line s = length s == 0 || (begins_blank s && is_blank s)

-- what stands in front of the closing quote
abbrev pub quoted : ℕ → List ℕ → Option (List ℕ)
quoted q s =
    if nat_lt (position_or_len (λ b. b == q) s) (length s) && ends_line (after_first (λ b. b == q) s)
    then Some (before_first (λ b. b == q) s) else None

-- what stands in front of a `#` behind a blank
abbrev pub without_comment : Bool → List ℕ → List ℕ
without_comment behind_blank [] = []
without_comment behind_blank (b ∷ s) = if b == 35 && behind_blank then [] else b ∷ without_comment (b == 32) s

-- a blank in front of nothing is left out
abbrev pub kept : ℕ → List ℕ → List ℕ
kept b [] = if b == 32 then [] else b ∷ []
kept b (c ∷ s) = b ∷ c ∷ s

-- without the blanks at the end
abbrev pub trimmed : List ℕ → List ℕ
trimmed [] = []
trimmed (b ∷ s) = kept b (trimmed s)

abbrev pub unless_empty : List ℕ → Option (List ℕ)
unless_empty [] = None
unless_empty (b ∷ s) = Some (b ∷ s)

-- a bare scalar: it stands behind a blank, and isn't empty
abbrev pub bare : List ℕ → Option (List ℕ)
bare s = unless_empty (trimmed (without_comment true s))

-- a scalar: in double or single quotes, or bare
abbrev pub scalar_of : List ℕ → Option (List ℕ)
scalar_of [] = None
scalar_of (b ∷ s) = if b == 34 then quoted 34 s else (if b == 39 then quoted 39 s else bare (b ∷ s))

abbrev pub is_no_blank : ℕ → Bool
is_no_blank b = not (b == 32)

-- a key isn't empty, has no blank, and doesn't begin with `#`
abbrev pub is_key : List ℕ → Bool
is_key s = not (length s == 0) && not (begins_comment s) && list_all is_no_blank s

-- a key and a scalar, around `:` and blanks
abbrev pub key_and_scalar : List ℕ → List ℕ → Option (List ℕ × List ℕ)
key_and_scalar key value =
    if is_key key && begins_blank value then option_map (λ scalar. (key, scalar)) (scalar_of (skip_blanks value)) else None

abbrev pub is_colon : ℕ → Bool
is_colon b = b == 58

abbrev pub pair_in : List ℕ → Option (List ℕ × List ℕ)
pair_in s =
    if nat_lt (position_or_len is_colon s) (length s)
    then key_and_scalar (before_first is_colon s) (after_first is_colon s) else None

-- what stands behind `- ` or two blanks
abbrev pub content_of : List ℕ → Option (List ℕ)
content_of (a ∷ b ∷ s) = if (a == 45 || a == 32) && b == 32 then Some s else None
content_of _ = None

-- the key and the scalar of a line that begins with `- ` or two blanks; none where it has no such form
abbrev pub pair_of : List ℕ → Option (List ℕ × List ℕ)
pair_of line = option_and_then pair_in (content_of line)
