use Rattle.std.proofs.Common.{◌++◌, ◌<◌, ◌^◌}
use Rattle.std.proofs.lemmas.List.Filters.{dedup_is}
use Rattle.std.proofs.lemmas.List.Kept.{Contains-dedup_nat, Contains-from_dedup}
use Rattle.std.proofs.lemmas.List.Sorted.{Contains-permutation, IsPermutation-sym}
use Rattle.std.proofs.lemmas.List.Elements.{All-contains}
use Rattle.std.proofs.lemmas.Map.Keys.{IsStrictlyIncreasing-dedup}
use Rattle.std.specs.Prelude.{Contains}
use Rattle.std.specs.Fmt.{decimal}
use Rattle.queue_files.proofs.listing.numbers_of.Goals as goal

pub returns-clause-rises : goal.returns-clause-rises
returns-clause-rises c =
    let is = dedup_is _ _ _ c.dedup.ensures.filtered in
    rw is (IsStrictlyIncreasing-dedup _ c.sort_unstable.ensures.sorted)

pub returns-clause-each : goal.returns-clause-each
returns-clause-each c n =
    let is = dedup_is _ _ _ c.dedup.ensures.filtered in
    let moved = c.sort_unstable.ensures.permutation in
    let names = c.args.names.now in
    let kind = c.args.kind.now in (
      (λ h. All-contains (λ m. (m < 2 ^ 32) × Contains names (kind ++ decimal m)) c.in_ok-numbers.numbers.items n c.in_ok-numbers.ensures.from
          (Contains-permutation _ _ n (IsPermutation-sym _ _ moved) (Contains-from_dedup _ _ n (rw is at h)))),
      (λ found. rw is (Contains-dedup_nat _ n (Contains-permutation _ _ n moved (c.in_ok-numbers.ensures.all n found.0 found.1)))),
    )
