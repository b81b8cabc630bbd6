use Rattle.std.proofs.Common.{◌≡◌, ◌++◌}
use Rattle.std.specs.Prelude.{IsUtf8}
use Rattle.std.specs.Str.Iter.{chars_rest}
use Rattle.filter_settings.specs.Pieces as spec
use Rattle.filter_settings.proofs.pieces.characters.Given as goal

abbrev pub invariant-loop-character : goal.invariant-loop-character
invariant-loop-character l = (l.found ++ spec.characters (chars_rest l.character-iterator) ≡ spec.characters l.text) × IsUtf8 (chars_rest l.character-iterator)
