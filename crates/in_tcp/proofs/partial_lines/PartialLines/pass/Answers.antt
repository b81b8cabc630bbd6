use Rattle.std.proofs.Common.{◌≡◌, ap, sym, ◌∙◌, Some, drop, length, arith, set}
use Rattle.in_tcp.specs.Rests.{bytes_of, place_from}
use Rattle.in_tcp.proofs.Among.{becomes_same, becomes_then, bytes_at, none_of, put_at}
use Rattle.in_tcp.proofs.partial_lines.PartialLines.pass.Goals as goal

pub returns-in_default : goal.returns-in_default
returns-in_default c = becomes_same c.args.conn c.args.count c.args.self.now (none_of 0 c.args.conn c.args.self.now (sym c.place.ensures.place ∙ c.in_default.is))

pub pass-requires : goal.pass-requires
pass-requires c =
    let items = c.self.inside.members.items in
    let found : place_from 0 c.args.conn items ≡ Some c.in-Some.place = ap (place_from 0 c.args.conn) c.self.view_is ∙ sym c.place.ensures.place ∙ c.in-Some.is in
    omega (arith, c.requires, ap length (bytes_at c.in-Some.place c.args.conn items c.args.self.now c.index_mut.result.now found c.self.view_is c.index_mut.ensures.value))

pub returns : goal.returns
returns c =
    let items = c.self.inside.members.items in
    let found : place_from 0 c.args.conn items ≡ Some c.in-Some.place = ap (place_from 0 c.args.conn) c.self.view_is ∙ sym c.place.ensures.place ∙ c.in-Some.is in
    becomes_then c.args.conn (drop c.args.count (bytes_of c.args.self.now c.args.conn)) c.args.self.now (set items c.in-Some.place c.pass.new.self) c.leave_out_empty.new.self
    (put_at c.in-Some.place c.args.conn items c.args.self.now c.index_mut.result.now c.pass.new.self (drop c.args.count) found c.self.view_is c.index_mut.ensures.value c.pass.ensures)
    c.leave_out_empty.ensures
