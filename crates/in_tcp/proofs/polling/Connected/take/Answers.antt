use Rattle.std.proofs.Common.{refl, ap, ◌∙◌}
use Rattle.std.specs.Prelude.{IsOk, is_ok}
use Rattle.std.proofs.lemmas.Result.{err_from_is_err_and}
use Rattle.in_tcp.specs.declared.polling.Connected.{Connected}
use Rattle.in_tcp.proofs.Taking.{held_by, same_held, took_by, took_short}
use Rattle.in_tcp.proofs.polling.Connected.take.Goals as goal

pub returns-in_err-read_each : goal.returns-in_err-read_each
returns-in_err-read_each g c =
    let e = err_from_is_err_and c.from_residual.result c.from_residual.ensures.1 in
    let mid = c.read_each.new.self in
    took_short g.L.Links c.args.moment c.args.self.now mid mid c.args.links.now c.read_each.new.links (IsOk c.read_each.result) c.from_residual.result e.0 e.1 c.read_each.ensures.read c.read_each.ensures.rests refl (same_held mid.held)

pub returns-in_err-find : goal.returns-in_err-find
returns-in_err-find g c =
    let e = err_from_is_err_and c.from_residual-in_err-find.result c.from_residual-in_err-find.ensures.1 in
    let mid = c.read_each.new.self in
    let new : Connected = record { connections = mid.connections; held = c.find.new.self } in
    took_short g.L.Links c.args.moment c.args.self.now mid new c.args.links.now c.read_each.new.links (IsOk c.read_each.result) c.from_residual-in_err-find.result e.0 e.1 c.read_each.ensures.read c.read_each.ensures.rests refl c.find.ensures.same

pub returns : goal.returns
returns g c =
    let mid = c.read_each.new.self in
    let new : Connected = record { connections = mid.connections; held = c.find.new.self } in
    took_by g.L.Links c.args.moment c.args.self.now mid new c.args.links.now c.read_each.new.links (IsOk c.read_each.result) _ c.read_each.ensures.read c.read_each.ensures.rests refl c.find.ensures.same (λ _. ap is_ok c.in_ok-read_each.was)
    (c.is_some.ensures ∙ held_by c.find.new.self c.in_ok-find.field-0 c.in_ok-find.ensures.next c.in_ok-find.ensures.none)
