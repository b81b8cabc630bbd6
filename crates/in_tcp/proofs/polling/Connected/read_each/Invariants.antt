use Rattle.std.proofs.Common.{◌≡◌, ◌-◌, length}
use Rattle.in_tcp.proofs.Turns.{ReadTo}
use Rattle.in_tcp.proofs.polling.Connected.read_each.Given as goal

abbrev pub invariant-loop-place : goal.invariant-loop-place
invariant-loop-place g l = record {
  read : ReadTo g.L.Links l.moment l.fn.self.connections.items l.self.connections.items l.place l.fn.self.held.pieces l.self.held.pieces l.fn.links l.links;
  rests : l.self.held.rests ≡ l.fn.self.held.rests;
}

abbrev pub decreases-loop-place : goal.decreases-loop-place
decreases-loop-place g l = length l.self.connections.items - l.place
