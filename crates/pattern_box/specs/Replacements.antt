-- What is written in the place of a match.
use Rattle.std.specs.Prelude.{ℕ, true, List, flat_map, Option, Some, None}
use Rattle.regex_hir.specs.Re.{Re}
use Rattle.regex_hir.specs.Find.{Match, find_all_str}
use Rattle.regex.specs.Search.{group_span}
use Rattle.regex.specs.Replace.{bytes_of, group_bytes, replaced_by}
use Rattle.pattern_box.specs.Patterns.{written_re}
use Rattle.pattern_box.specs.declared.replacement.ReplacementPart.{ReplacementPart}
use Rattle.pattern_box.specs.declared.replacement.ReplacementPart.TheVariants as p

-- what a part stands for at a match of the text
abbrev pub part_bytes : List ℕ → Match → ReplacementPart → List ℕ
part_bytes text m (p.Text s) = s
part_bytes text m (p.Group n) = group_bytes text m n

abbrev pub parts_bytes : List ℕ → List ReplacementPart → Match → List ℕ
parts_bytes text parts m = flat_map (part_bytes text m) parts

-- the text with the parts in the place of each match
abbrev pub substituted_by : Re → List ReplacementPart → List ℕ → List ℕ
substituted_by re parts text = replaced_by (parts_bytes text parts) text 0 (find_all_str re text)

abbrev pub substituted_where : Option Re → List ReplacementPart → List ℕ → List ℕ
substituted_where None parts text = text
substituted_where (Some re) parts text = substituted_by re parts text

-- the same of the pattern that is written so; a text that is no pattern matches nowhere
unfoldable pub substituted : List ℕ → List ReplacementPart → List ℕ → List ℕ
substituted pattern parts text = substituted_where (written_re pattern) parts text

-- what a part stands for, by the span of the match and the cells of its groups
abbrev pub cells_part : List ℕ → ℕ × ℕ → List ℕ → ReplacementPart → List ℕ
cells_part text whole cells (p.Text s) = s
cells_part text whole cells (p.Group n) = bytes_of text (group_span true text whole cells n)

abbrev pub cells_parts : List ℕ → ℕ × ℕ → List ℕ → List ReplacementPart → List ℕ
cells_parts text whole cells parts = flat_map (cells_part text whole cells) parts
