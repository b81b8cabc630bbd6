-- How a grok pattern is written, as this project's table of the filter grok has it: a regular expression with references to patterns by name.
use Rattle.std.specs.Prelude.{ℕ, ◌==◌, ◌||◌, nat_lt, List, [], ◌∷◌, ◌++◌, length, codes, bytes_eq, Bool, true, false, if◌then◌else◌, Option, Some, None}
use Rattle.std.specs.List.{position_or_len, before_first, after_first}
use Rattle.std.specs.Borrow.{Bor}
use Rattle.event_tree.specs.Paths.{over}
use Rattle.event_text.specs.PathReading.{way_in}
use Rattle.filter_settings.specs.Pieces.{pieces}
use Rattle.grok_patterns.specs.declared.piece.Coercion.{Coercion}
use Rattle.grok_patterns.specs.declared.piece.Coercion.TheVariants as coercion
use Rattle.grok_patterns.specs.declared.piece.PatternPiece.{PatternPiece}
use Rattle.grok_patterns.specs.declared.piece.PatternPiece.TheVariants as piece

-- two texts that were cut out of one
abbrev pub pair_of : Bor (List ℕ) × Bor (List ℕ) → List ℕ × List ℕ
pair_of p = (p.0.now, p.1.now)

-- what stands before the first such byte, and behind it; none where there is none
abbrev pub cut : ℕ → List ℕ → Option (List ℕ × List ℕ)
cut c s = if nat_lt (position_or_len (λ b. b == c) s) (length s) then Some (before_first (λ b. b == c) s, after_first (λ b. b == c) s) else None

-- what a third part of a reference says
abbrev pub coercion_of : List ℕ → Option Coercion
coercion_of s = if bytes_eq s (codes "int") then Some coercion.Integer else (if bytes_eq s (codes "float") then Some coercion.Float else None)

-- a reference that is kept at the field that a text names
abbrev pub kept_at : List ℕ → List ℕ → Coercion → PatternPiece
kept_at name field k = over (λ w. piece.Reference name (Some (record { path = w; coercion = k }))) piece.Unreadable (way_in field)

-- a name, and what stands behind its colon: a field, or a field and what its text becomes
abbrev pub with_field : List ℕ → List ℕ → PatternPiece
with_field name rest =
    over (λ c. over (kept_at name c.0) piece.Unreadable (coercion_of c.1))
    (kept_at name rest coercion.Text)
    (cut 58 rest)

abbrev pub alone : Bool → List ℕ → PatternPiece
alone all_kept name = if all_kept then kept_at name name coercion.Text else piece.Reference name None

-- what stands between `%{` and `}`
abbrev pub reference : Bool → List ℕ → PatternPiece
reference all_kept s = over (λ c. with_field c.0 c.1) (alone all_kept s) (cut 58 s)

-- `(?<=` and `(?<!` name no group
abbrev pub looks_behind : List ℕ → Bool
looks_behind [] = false
looks_behind (b ∷ s) = b == 61 || b == 33

-- the name of a group up to its `>`, and what stands behind
abbrev pub named : List ℕ → Option (List ℕ × List ℕ)
named s = if looks_behind s then None else cut 62 s

-- the text in front of the first `(?<`, or what stands behind one
abbrev pub group_pieces : Bool → List ℕ → List PatternPiece
group_pieces false s = piece.Written s ∷ []
group_pieces true s = over (λ c. piece.Group c.0 ∷ piece.Written c.1 ∷ []) (piece.Written (codes "(?<" ++ s) ∷ []) (named s)

abbrev pub groups_pieces : Bool → List (List ℕ) → List PatternPiece
groups_pieces later [] = []
groups_pieces later (s ∷ ss) = group_pieces later s ++ groups_pieces true ss

-- a text without references
abbrev pub plain_pieces : List ℕ → List PatternPiece
plain_pieces s = groups_pieces false (pieces (codes "(?<") s)

-- the text in front of the first `%{`, or what stands behind one
abbrev pub part_pieces : Bool → Bool → List ℕ → List PatternPiece
part_pieces all_kept false s = plain_pieces s
part_pieces all_kept true s = over (λ c. reference all_kept c.0 ∷ plain_pieces c.1) (piece.Written (codes "%{" ++ s) ∷ []) (cut 125 s)

abbrev pub parts_pieces : Bool → Bool → List (List ℕ) → List PatternPiece
parts_pieces all_kept later [] = []
parts_pieces all_kept later (s ∷ ss) = part_pieces all_kept later s ++ parts_pieces all_kept true ss

-- the pieces of a grok pattern; with the flag a reference without a field is kept under its name
unfoldable pub pieces_of : Bool → List ℕ → List PatternPiece
pieces_of all_kept text = parts_pieces all_kept false (pieces (codes "%{") text)
