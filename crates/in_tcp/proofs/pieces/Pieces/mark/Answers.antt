use Rattle.std.proofs.Common.{drop, arith}
use Rattle.std.proofs.lemmas.List.{length-drop}
use Rattle.in_tcp.proofs.Placed.{as_long, front_at}
use Rattle.in_tcp.proofs.pieces.Pieces.mark.Goals as goal

pub index-requires : goal.index-requires
index-requires c = let s = c.self.inside in omega (arith, c.requires, s.marks.ok.0, as_long (drop s.start s.bytes.items) s.marks.items c.args.self.now c.self.view_is)

pub returns : goal.returns
returns c =
    let s = c.self.inside in
    front_at (drop s.start s.bytes.items) s.marks.items c.args.self.now c.self.view_is c.args.place c.index.result.now c.requires c.index.ensures
    (omega (arith, c.self.invariant.0, c.self.invariant.1, s.bytes.ok.0, length-drop s.start s.bytes.items))
