use Rattle.std.proofs.Common.{◌≡◌, ◌++◌, ap, sym, ◌∙◌, Some}
use Rattle.std.proofs.lemmas.Result.{on_ok_weaker}
use Rattle.in_tcp.specs.Rests.{place_from}
use Rattle.in_tcp.proofs.Among.{becomes_added, put_at}
use Rattle.in_tcp.proofs.partial_lines.PartialLines.append.Goals as goal

pub returns-in-Some-clause-ok : goal.returns-in-Some-clause-ok
returns-in-Some-clause-ok c =
    let items = c.self.inside.members.items in
    let found : place_from 0 c.args.conn items ≡ Some c.in-Some.place = ap (place_from 0 c.args.conn) c.self.view_is ∙ sym c.place.ensures.place ∙ c.in-Some.is in
    on_ok_weaker c.append.result (λ is. put_at c.in-Some.place c.args.conn items c.args.self.now c.index_mut.result.now c.append.new.self (λ b. b ++ c.args.bytes.now) found c.self.view_is c.index_mut.ensures.value is) c.append.ensures.ok

pub returns-in_ok-rest-in-None-clause-ok : goal.returns-in_ok-rest-in-None-clause-ok
returns-in_ok-rest-in-None-clause-ok c =
    on_ok_weaker c.add.result (λ is. becomes_added c.args.conn c.args.bytes.now c.args.self.now c.add.new.self c.in_ok-rest-in-None.rest (sym c.place.ensures.place ∙ c.in-None.is) is c.in_ok-rest-in-None.ensures) c.add.ensures.ok
