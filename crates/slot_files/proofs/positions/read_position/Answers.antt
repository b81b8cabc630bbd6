use Rattle.std.proofs.Common.{ap, ◌∙◌}
use Rattle.io_traits.specs.Reads.{bytes_of}
use Rattle.slot_files.specs.Positions.{recorded_in}
use Rattle.slot_files.proofs.PositionReads.{front_records}
use Rattle.slot_files.proofs.positions.read_position.Goals as goal

pub returns-clause-recorded : goal.returns-clause-recorded
returns-clause-recorded g c = λ told.
    c.recorded_in.ensures ∙ ap recorded_in (c.in_ok-count.ensures.gives told).bytes ∙ front_records (bytes_of (g.S.Store.seen c.args.store.now c.args.name.now))
