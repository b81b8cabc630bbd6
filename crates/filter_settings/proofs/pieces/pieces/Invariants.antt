use Rattle.std.proofs.Common.{◌≡◌, ◌++◌, ◌<◌, length}
use denote.Text.{Utf8}
use denote.Shadow.{shadow}
use Rattle.filter_settings.specs.Pieces as spec
use Rattle.filter_settings.proofs.pieces.pieces.Given as goal

abbrev pub invariant-loop-before : goal.invariant-loop-before
invariant-loop-before l =
    shadow (Utf8 l.rest) × (0 < length l.separator)
    × (l.found ++ spec.pieces l.separator l.rest ≡ spec.pieces l.separator l.fn.text)

abbrev pub decreases-loop-before : goal.decreases-loop-before
decreases-loop-before l = length l.rest
