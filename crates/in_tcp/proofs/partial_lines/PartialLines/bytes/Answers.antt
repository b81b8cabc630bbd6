use Rattle.std.proofs.Common.{◌≡◌, ap, sym, ◌∙◌, Some}
use Rattle.in_tcp.specs.Rests.{place_from}
use Rattle.in_tcp.proofs.Among.{bytes_at, none_of}
use Rattle.in_tcp.proofs.partial_lines.PartialLines.bytes.Goals as goal

pub returns-in-Some : goal.returns-in-Some
returns-in-Some c =
    let items = c.self.inside.members.items in
    let found : place_from 0 c.args.conn items ≡ Some c.in-Some.place = ap (place_from 0 c.args.conn) c.self.view_is ∙ sym c.place.ensures.place ∙ c.in-Some.is in
    c.bytes.ensures ∙ sym (bytes_at c.in-Some.place c.args.conn items c.args.self.now c.index.result.now found c.self.view_is c.index.ensures)

pub returns-in-None : goal.returns-in-None
returns-in-None c = sym (none_of 0 c.args.conn c.args.self.now (sym c.place.ensures.place ∙ c.in-None.is))
