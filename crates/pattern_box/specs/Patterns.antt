-- What a pattern is, and which texts are patterns.
use Rattle.std.specs.Prelude.{◌≡◌, ℕ, ◌≤◌, ◌&&◌, nat_le, Bool, false, List, length, Option, option_map, chars}
use Rattle.regex_hir.specs.Re.{Re}
use Rattle.regex_hir.specs.Meaning.{meaning}
use Rattle.regex_hir.specs.Text.{is_some_and}
use Rattle.regex_hir.specs.declared.hir.Hir.{Hir}
use Rattle.regex_syntax.specs.Grammar.{Names, read}
use Rattle.regex_syntax.specs.Verdict.{default_config, Reads}
use Rattle.pattern_box.specs.declared.fault.PatternFault.{PatternFault}
use Rattle.pattern_box.specs.declared.fault.PatternFault.TheVariants.{BadPattern, Memory}

-- What is seen of a pattern: the expression that it searches for, how many groups it has, the whole match included, and how many bytes the tables of its
-- compiled form take.
pub record Expression : Type 0 where
  pub hir : Hir
  pub groups : ℕ
  pub tables : ℕ

-- what the pattern searches for
abbrev pub pattern_re : Expression → Re
pattern_re p = meaning p.hir

-- how many groups it has, the whole match included
abbrev pub pattern_groups : Expression → ℕ
pattern_groups p = p.groups

-- how many bytes the tables of its compiled form take
abbrev pub compiled_bytes : Expression → ℕ
compiled_bytes p = p.tables

-- the two search for the same, with as many groups
abbrev pub IsSamePattern : Expression → Expression → Type 0
IsSamePattern old new = (pattern_re new ≡ pattern_re old) × (pattern_groups new ≡ pattern_groups old)

-- the text is within the limit, and the grammar of `regex` reads it as the pattern, which has one group for each name
abbrev pub IsReadFrom : List ℕ → Expression → Type 0
IsReadFrom text p = (length text ≤ 65536)
    × ((hir : Hir) × (names : Names) × Reads default_config text hir names
    × (pattern_re p ≡ meaning hir) × (pattern_groups p ≡ length names))

-- what a text searches for, as the grammar of `regex` reads it; none where it reads no pattern
unfoldable pub written_re : List ℕ → Option Re
written_re text = option_map (λ found. found.0.value) (read default_config (chars text))

-- the text has at most 65,536 bytes, and the grammar reads a pattern that nests at most 250 deep
unfoldable pub is_pattern : List ℕ → Bool
is_pattern text = nat_le (length text) 65536 && is_some_and (read default_config (chars text)) (λ found. nat_le found.0.depth 250)

-- a text that is no pattern is refused as such; memory may run out for any text within the limit
abbrev pub IsRefusal : List ℕ → PatternFault → Type 0
IsRefusal text BadPattern = is_pattern text ≡ false
IsRefusal text Memory = length text ≤ 65536
