use Rattle.std.proofs.Common.{◌≡◌, ◌+◌, drop}
use Rattle.line_links.specs.SenderTables.{sender_place}
use Rattle.line_links.proofs.senders.place_of.Given as goal

abbrev pub invariant-loop-at : goal.invariant-loop-at
invariant-loop-at l = l.at + sender_place l.address (drop l.at l.senders) ≡ sender_place l.address l.senders
