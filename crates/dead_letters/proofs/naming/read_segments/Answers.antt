use Rattle.std.proofs.Common.{sym, ap, ◌∙◌, arith}
use Rattle.io_traits.specs.Reads.{bytes_of}
use Rattle.slot_files.proofs.Saying.{front_said}
use Rattle.dead_letters.specs.Segments.{slot_says, damaged_at_first, counted_in}
use Rattle.dead_letters.specs.declared.segments.Counted.TheVariants.{Nothing}
use Rattle.dead_letters.proofs.SegmentSlots.{counted_have_room}
use Rattle.dead_letters.proofs.naming.read_segments.Goals as goal

pub returns-clause-counted : goal.returns-clause-counted
returns-clause-counted g c = λ told.
    c.counted_in.ensures ∙ ap counted_in (c.in_ok-count.ensures.gives told).bytes
    ∙ front_said slot_says damaged_at_first Nothing 32 (omega arith) (bytes_of (g.S.Store.seen c.args.store.now c.args.name.now))

pub returns-clause-order : goal.returns-clause-order
returns-clause-order g c = λ turn s is. (counted_have_room _ turn s (sym c.counted_in.ensures ∙ is)).order
