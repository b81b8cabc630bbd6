use Rattle.std.proofs.Common.{arith}
use Rattle.queue_page.specs.Pages.{room_of}
use Rattle.queue_page.proofs.opening.room_of.Goals as goal

pub returns-clause-room : goal.returns-clause-room
unfolding room_of
returns-clause-room c = omega (arith, c.min.ensures, c.from-rows.ensures)
