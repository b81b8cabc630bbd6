use Rattle.std.proofs.Common.{◌≡◌, Some, true, sym, ap, ◌∙◌, string_bytes, rules}
use Rattle.std.specs.Prelude.{slice_get}
use Rattle.std.specs.Char.{is_ascii_alphabetic, to_ascii_lowercase}
use Rattle.filters_mutate.specs.Texts.{lowered}
use Rattle.filters_mutate.proofs.Firsts.{cut_behind_first, first_lowered, lowered_is_ascii}
use Rattle.filters_mutate.proofs.cases.capitalized.Goals as goal

pub range_from-requires : goal.range_from-requires
range_from-requires c =
    let text = c.args.text.now in
    let first = c.in-Some.first.now in
    let is : slice_get text 0 ≡ Some first = search rules in
    let letter : is_ascii_alphabetic first ≡ true = search rules in
    let bytes : c.deref.result.now ≡ lowered text = search rules in
    λ some. cut_behind_first c.deref.result.now (to_ascii_lowercase first) c.deref.utf8 (ap (λ s. slice_get s 0) bytes ∙ first_lowered text first is) (lowered_is_ascii first letter)
