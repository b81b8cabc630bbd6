use Rattle.std.proofs.Common.{ℕ, ◌++◌, ◌<◌, ◌^◌, take, All}
use Rattle.std.specs.Prelude.{Contains}
use Rattle.std.specs.Fmt.{decimal}
use Rattle.queue_files.proofs.listing.numbers_in.Given as goal

abbrev pub invariant-loop-name : goal.invariant-loop-name
invariant-loop-name l = record {
  from : All (λ n. (n < 2 ^ 32) × Contains l.names (l.kind ++ decimal n)) l.numbers.items;
  all : (n : ℕ) → n < 2 ^ 32 → Contains (take l.name-index l.names) (l.kind ++ decimal n) → Contains l.numbers.items n;
}
