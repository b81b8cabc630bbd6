use Rattle.std.proofs.Common.{drop, ◌∙◌}
use Rattle.in_tcp.proofs.Placed.{as_long}
use Rattle.in_tcp.proofs.pieces.Pieces.len.Goals as goal

pub returns : goal.returns
returns c = let s = c.self.inside in c.len.ensures ∙ s.marks.ok.0 ∙ as_long (drop s.start s.bytes.items) s.marks.items c.args.self.now c.self.view_is
