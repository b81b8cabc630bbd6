-- The pairs of keys and values that a text holds, as this project's table of the filter kv has them. Texts are lists of characters here.
use Rattle.std.specs.Prelude.{ℕ, zero, suc, ◌==◌, ◌&&◌, not, Bool, true, List, [], ◌∷◌, ◌++◌, length, if◌then◌else◌, Option, Some, None, option_map, option_and_then}
use Rattle.std.specs.Char.{char_set_contains}
use Rattle.std.specs.Option.{option_map_or}
use Rattle.filters_text.specs.declared.kv_text.Splits.{Splits}

-- the characters before the first of a set, and those from it on
abbrev pub until : List ℕ → List ℕ → List ℕ
until set [] = []
until set (c ∷ cs) = if char_set_contains set c then [] else c ∷ until set cs

abbrev pub since : List ℕ → List ℕ → List ℕ
since set [] = []
since set (c ∷ cs) = if char_set_contains set c then c ∷ cs else since set cs

-- without the characters of a set that stand in front
abbrev pub behind : List ℕ → List ℕ → List ℕ
behind set [] = []
behind set (c ∷ cs) = if char_set_contains set c then behind set cs else c ∷ cs

-- the characters behind the first, where that is one of a set
abbrev pub behind_one : List ℕ → List ℕ → Option (List ℕ)
behind_one set [] = None
behind_one set (c ∷ cs) = if char_set_contains set c then Some cs else None

-- the character that closes what another opens
abbrev pub closing : ℕ → Option ℕ
closing c =
    if c == 34 then Some 34
    else (if c == 39 then Some 39
    else (if c == 40 then Some 41
    else (if c == 91 then Some 93
    else (if c == 60 then Some 62
    else None))))

-- what stands around the first such character
abbrev pub cut_at : ℕ → List ℕ → Option (List ℕ × List ℕ)
cut_at e [] = None
cut_at e (c ∷ cs) = if c == e then Some ([], cs) else option_map (λ p. (c ∷ p.0, p.1)) (cut_at e cs)

-- the text between an opening character in front and the next that closes it, and what stands behind
abbrev pub enclosed : List ℕ → Option (List ℕ × List ℕ)
enclosed [] = None
enclosed (c ∷ cs) = option_and_then (λ e. cut_at e cs) (closing c)

-- a value, if there is one, and what is left
abbrev pub Found : Type 0
Found = Option (List ℕ) × List ℕ

abbrev pub some_text : List ℕ → Option (List ℕ)
some_text [] = None
some_text (c ∷ cs) = Some (c ∷ cs)

-- the value in front of a text: up to its closing character, where it has one, and else up to the next character that splits fields
abbrev pub value_at : Splits → List ℕ → Found
value_at s cs = option_map_or (λ p. (Some p.0, since s.fields p.1)) (enclosed cs) (some_text (until s.fields cs), since s.fields cs)

-- a pair, if there is one, and what is left
abbrev pub Piece : Type 0
Piece = Option (List ℕ × List ℕ) × List ℕ

abbrev pub with_key : List ℕ → Found → Piece
with_key key found = (option_map (λ value. (key, value)) found.0, found.1)

-- behind a key one character that splits key and value; where there is none, or the key is empty, the piece is dropped
abbrev pub keyed : Splits → List ℕ → List ℕ → Piece
keyed s [] rest = (None, since s.fields rest)
keyed s (k ∷ ks) rest = option_map_or (λ v. with_key (k ∷ ks) (value_at s v)) (behind_one s.values rest) (None, since s.fields rest)

-- the piece in front of a text: the key is the longest run without characters that split
abbrev pub piece_at : Splits → List ℕ → Piece
piece_at s cs = keyed s (until s.keys cs) (since s.keys cs)

abbrev pub listed : {A : Type 0} → Option A → List A
listed None = []
listed (Some x) = x ∷ []

-- the pairs of the next pieces, so many as the number says at most
unfoldable pub next_pairs : Splits → ℕ → List ℕ → List (List ℕ × List ℕ)
next_pairs s zero cs = []
next_pairs s (suc n) [] = []
next_pairs s (suc n) (c ∷ cs) = listed (piece_at s (c ∷ cs)).0 ++ next_pairs s n (behind s.fields (piece_at s (c ∷ cs)).1)

-- the pairs of a text, of which there are no more than characters
abbrev pub pairs_in : Splits → List ℕ → List (List ℕ × List ℕ)
pairs_in s cs = next_pairs s (length cs) (behind s.fields cs)

-- a character in front of what is left of those behind it
abbrev pub kept : List ℕ → ℕ → List ℕ → List ℕ
kept set c [] = if char_set_contains set c then [] else c ∷ []
kept set c (d ∷ ds) = c ∷ d ∷ ds

-- without the characters of a set that stand at the end
abbrev pub before : List ℕ → List ℕ → List ℕ
before set [] = []
before set (c ∷ cs) = kept set c (before set cs)

-- without those at both ends
abbrev pub trimmed : List ℕ → List ℕ → List ℕ
trimmed set cs = before set (behind set cs)

-- none of these characters stands in the text
abbrev pub are_missing : List ℕ → List ℕ → Bool
are_missing [] cs = true
are_missing (u ∷ us) cs = not (char_set_contains cs u) && are_missing us cs
