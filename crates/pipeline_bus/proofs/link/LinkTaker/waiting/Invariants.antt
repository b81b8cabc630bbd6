use Rattle.std.proofs.Common.{◌≡◌, ◌-◌, ◌++◌, length, List}
use Rattle.pipeline_bus.specs.Ends.{taking, IsSameTaker}
use Rattle.pipeline_bus.specs.declared.parcel.Parcel.{Parcel}
use Rattle.pipeline_bus.proofs.link.LinkTaker.waiting.Given as goal

abbrev pub invariant-loop-self : goal.invariant-loop-self
invariant-loop-self l = ((more : List Parcel) × (taking l.self ≡ record (taking l.initial.self) { room = l.initial.self.room ++ more }))
    × IsSameTaker l.initial.self l.self

abbrev pub decreases-loop-self : goal.decreases-loop-self
decreases-loop-self l = 16 - length l.self.room
