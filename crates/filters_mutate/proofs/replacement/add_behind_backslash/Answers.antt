use Rattle.std.proofs.Common.{◌≡◌, Some, true, sym, ◌∙◌, rules}
use Rattle.std.specs.Prelude.{slice_get}
use Rattle.filters_mutate.specs.Gsub.{is_group}
use Rattle.filters_mutate.proofs.Firsts.{cut_behind_first, group_is_ascii}
use Rattle.filters_mutate.proofs.replacement.add_behind_backslash.Goals as goal

pub range_from-requires : goal.range_from-requires
range_from-requires c =
    let digit = c.in-Some.digit.now in
    let is : slice_get c.args.piece.now 0 ≡ Some digit = search rules in
    let group : is_group digit ≡ true = sym c.is_group.ensures ∙ c.if-is_group.true in
    λ some. cut_behind_first c.args.piece.now digit c.utf8.piece is (group_is_ascii digit group)
