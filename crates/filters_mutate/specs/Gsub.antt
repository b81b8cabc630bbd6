-- The operation gsub: how its settings are written, and what it makes of a text.
use Rattle.std.specs.Prelude.{ℕ, ◌-◌, List, [], ◌∷◌, ◌++◌, ◌&&◌, nat_le, Bool, true, false, if◌then◌else◌, Option, Some, None, option_map, option_and_then}
use Rattle.event_tree.specs.Events.{Way}
use Rattle.event_text.specs.PathReading.{way_in}
use Rattle.config_tree.specs.declared.tree.SettingValue.{SettingValue}
use Rattle.pattern_box.specs.Patterns.{is_pattern}
use Rattle.pattern_box.specs.declared.replacement.ReplacementPart.{ReplacementPart}
use Rattle.pattern_box.specs.declared.replacement.ReplacementPart.TheVariants as p
use Rattle.filter_settings.specs.Pieces.{pieces}
use Rattle.filter_settings.specs.Readers.{texts_of}
use Rattle.filters_mutate.specs.declared.gsub.Substitution.{Substitution}

-- a digit from 1 to 9
abbrev pub is_group : ℕ → Bool
is_group b = nat_le 49 b && nat_le b 57

-- what a backslash and the text behind it stand for: a group and the rest, or what is written
abbrev pub behind_backslash : List ℕ → List ReplacementPart
behind_backslash [] = p.Text (92 ∷ []) ∷ []
behind_backslash (b ∷ bs) = if is_group b then p.Group (b - 48) ∷ p.Text bs ∷ [] else p.Text (92 ∷ b ∷ bs) ∷ []

abbrev pub piece_parts : Bool → List ℕ → List ReplacementPart
piece_parts false s = p.Text s ∷ []
piece_parts true s = behind_backslash s

abbrev pub pieces_parts : Bool → List (List ℕ) → List ReplacementPart
pieces_parts later [] = []
pieces_parts later (s ∷ ss) = piece_parts later s ++ pieces_parts true ss

-- what a text stands for in the place of a match: `\1` to `\9` for the groups, and all else for itself
abbrev pub replacement : List ℕ → List ReplacementPart
replacement s = pieces_parts false (pieces (92 ∷ []) s)

-- a field, a pattern and a replacement
abbrev pub substitution : List ℕ → List ℕ → List ℕ → Option Substitution
substitution f s r = option_map (λ w. record { field = w; pattern = s; replacement = replacement r }) (way_in f)

-- three texts for each
abbrev pub substitutions : List (List ℕ) → Option (List Substitution)
substitutions [] = Some []
substitutions (f ∷ []) = None
substitutions (f ∷ s ∷ []) = None
substitutions (f ∷ s ∷ r ∷ rest) = option_and_then (λ g. option_map (λ gs. g ∷ gs) (substitutions rest)) (substitution f s r)

abbrev pub substitutions_of : SettingValue → Option (List Substitution)
substitutions_of x = option_and_then substitutions (texts_of x)

-- each pattern is one
abbrev pub are_patterns : List Substitution → Bool
are_patterns [] = true
are_patterns (g ∷ gs) = is_pattern g.pattern && are_patterns gs
