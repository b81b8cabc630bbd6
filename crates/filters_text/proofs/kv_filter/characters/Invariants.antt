use Rattle.std.proofs.Common.{◌≡◌, ◌++◌}
use Rattle.std.specs.Prelude.{IsUtf8, chars}
use Rattle.std.specs.Str.Iter.{chars_rest}
use Rattle.filters_text.proofs.kv_filter.characters.Given as goal

abbrev pub invariant-loop-character : goal.invariant-loop-character
invariant-loop-character l = (l.found ++ chars (chars_rest l.character-iterator) ≡ chars l.text) × IsUtf8 (chars_rest l.character-iterator)
