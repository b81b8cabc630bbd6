use Rattle.std.proofs.Common.{◌/◌, ◌%◌, ◌==◌, slice_index_or, ap}
use Rattle.std.proofs.lemmas.Nat.Bits.{shr_and_one}
use Rattle.queue_core.specs.Bits.{bit_of}
use Rattle.queue_core.proofs.words.is_set.Goals as goal

pub returns : goal.returns
unfolding bit_of
returns c = ap (λ n. n == 1) (shr_and_one (slice_index_or c.args.words.now (c.args.bit / 64) 0) (c.args.bit % 64))
