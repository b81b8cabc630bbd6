use Rattle.std.proofs.Common.{arith}
use Rattle.io_traits.specs.Reads.{bytes_of}
use Rattle.queue_page.specs.Blocks.{left_of, window_of}
use Rattle.queue_page.proofs.ElementReads.{frame_in_front}
use Rattle.queue_page.proofs.Fronts.{length-left}
use Rattle.queue_page.proofs.element.read_frame.Goals as goal

pub returns-clause-frame : goal.returns-clause-frame
returns-clause-frame g c = λ told part within.
    let s = c.args.spot.now in
    let file = bytes_of (g.S.Store.seen c.args.store.now c.args.name.now) in
    frame_in_front c.args.total (window_of c.fill.new.self s.place s.end) (left_of file s.place s.end) (c.in_ok-fill.ensures.front told part s.end c.requires.within within) (omega (arith, length-left file s.place s.end within, c.requires.within))
