use Rattle.std.proofs.Common.{◌≡◌, ◌++◌, length, string_bytes}
use denote.Text.{Utf8}
use denote.Shadow.{shadow}
use Rattle.filter_settings.specs.Convert as spec
use Rattle.filter_settings.proofs.conversion.without_commas.Given as goal

abbrev pub invariant-loop-before : goal.invariant-loop-before
invariant-loop-before l =
    shadow (Utf8 l.rest)
    × (string_bytes l.left ++ spec.without_commas l.rest ≡ spec.without_commas l.fn.text)

abbrev pub decreases-loop-before : goal.decreases-loop-before
decreases-loop-before l = length l.rest
