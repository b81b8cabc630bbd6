use Rattle.std.proofs.Common.{ℕ, take, All}
use Rattle.std.specs.Prelude.{Contains}
use Rattle.dead_letters.specs.Trimming.{IsOther, IsOfOther}
use Rattle.dead_letters.specs.Queues.{name_in, segment, segment_name}
use Rattle.dead_letters.proofs.listing.others.Given as goal

abbrev pub invariant-loop-part : goal.invariant-loop-part
invariant-loop-part l = record {
  from : All (IsOfOther l.folder l.segments) l.gone.items;
  all : (n : ℕ) → IsOther l.segments n → Contains (take l.part-index l.parts) (segment_name n) → Contains l.gone.items (name_in l.folder (segment n));
}
