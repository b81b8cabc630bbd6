use Rattle.std.proofs.Common.{Ok, Err, refl, sym, ap, ap₂, ◌∙◌, subst}
use Rattle.std.proofs.lemmas.Result.{err_from_is_err_and}
use Rattle.in_tcp.specs.Asks.{Looked}
use Rattle.in_tcp.specs.Inputs.{Tcp, WasPolled, poll_answer}
use Rattle.in_tcp.specs.Reads.{AllCame}
use Rattle.in_tcp.proofs.Polled.{look_came, look_rising, polled_all, polled_most, polled_not, polled_rising}
use Rattle.in_tcp.proofs.input.TcpInput.poll.Goals as goal

pub returns-in_err-over : goal.returns-in_err-over
returns-in_err-over g c =
    let s = c.self.inside in
    let old : Tcp = record { host = s.host; port = s.port; codec = s.codec; connections = s.connected.connections.items; parts = s.connected.held.rests; looks = s.connected.held.pieces } in
    let came : AllCame (g.L.Links.came c.args.links.now) old.connections = subst (λ o. AllCame (g.L.Links.came c.args.links.now) o.connections) (sym c.self.view_is) c.requires in
    let look = c.look.new.self in
    let new : Tcp = record { host = s.host; port = s.port; codec = s.codec; connections = look.connections.items; parts = look.held.rests; looks = look.held.pieces } in
    let looked = subst (λ h. Looked g.L.Links h s.port old.connections look.connections.items c.args.links.now c.look.new.links (Err c.in_err-over.field-0.0)) c.as_str.ensures c.in_err-over.ensures.looked in
    let e = err_from_is_err_and c.from_residual.result c.from_residual.ensures.1 in
    let polled = polled_not g.L.Links c.args.moment old new look.connections.items c.args.links.now c.look.new.links c.in_err-over.field-0.0 looked refl
    (λ same. ap₂ (λ cs h. record { host = s.host; port = s.port; codec = s.codec; connections = cs; parts = h.rests; looks = h.pieces }) same c.look.ensures.held) came c.self.invariant.0 c.self.invariant.1 in
    subst (λ o. WasPolled g.L.Links c.args.moment o new c.args.links.now c.look.new.links c.from_residual.result) c.self.view_is
    (subst (WasPolled g.L.Links c.args.moment old new c.args.links.now c.look.new.links) (sym (e.1 ∙ ap Err e.2)) polled)

pub take-taken-requires-clause-came : goal.take-taken-requires-clause-came
take-taken-requires-clause-came g c =
    let s = c.self.inside in
    let old : Tcp = record { host = s.host; port = s.port; codec = s.codec; connections = s.connected.connections.items; parts = s.connected.held.rests; looks = s.connected.held.pieces } in
    let came : AllCame (g.L.Links.came c.args.links.now) old.connections = subst (λ o. AllCame (g.L.Links.came c.args.links.now) o.connections) (sym c.self.view_is) c.requires in
    look_came g.L.Links c.as_str.result.now s.port old.connections c.look.new.self.connections.items c.args.links.now c.look.new.links c.look.result c.look.ensures.looked came

pub take-taken-requires-clause-rising : goal.take-taken-requires-clause-rising
take-taken-requires-clause-rising g c =
    let s = c.self.inside in
    let old : Tcp = record { host = s.host; port = s.port; codec = s.codec; connections = s.connected.connections.items; parts = s.connected.held.rests; looks = s.connected.held.pieces } in
    let came : AllCame (g.L.Links.came c.args.links.now) old.connections = subst (λ o. AllCame (g.L.Links.came c.args.links.now) o.connections) (sym c.self.view_is) c.requires in
    look_rising g.L.Links c.as_str.result.now s.port old.connections c.look.new.self.connections.items c.args.links.now c.look.new.links c.look.result c.look.ensures.looked came c.self.invariant.0

pub invariant_of-self-2 : goal.invariant_of-self-2
invariant_of-self-2 g c =
    let s = c.self.inside in
    let old : Tcp = record { host = s.host; port = s.port; codec = s.codec; connections = s.connected.connections.items; parts = s.connected.held.rests; looks = s.connected.held.pieces } in
    let came : AllCame (g.L.Links.came c.args.links.now) old.connections = subst (λ o. AllCame (g.L.Links.came c.args.links.now) o.connections) (sym c.self.view_is) c.requires in
    let after = c.take-taken.new.self in
    let new : Tcp = record { host = s.host; port = s.port; codec = s.codec; connections = after.connections.items; parts = after.held.rests; looks = after.held.pieces } in
    let looked = subst (λ h. Looked g.L.Links h s.port old.connections c.look.new.self.connections.items c.args.links.now c.look.new.links (Ok c.in_ok-over.over)) c.as_str.ensures c.in_ok-over.ensures.looked in (
      polled_rising g.L.Links c.args.moment old new c.look.new.self after c.args.links.now c.look.new.links c.take-taken.new.links c.in_ok-over.over c.take-taken.result looked c.take-taken.ensures came c.self.invariant.0 c.self.invariant.1
          (ap (λ h. h.rests) c.look.ensures.held) (ap (λ h. h.pieces) c.look.ensures.held) refl refl refl,
      polled_most g.L.Links c.args.moment old new c.look.new.self after c.args.links.now c.look.new.links c.take-taken.new.links c.in_ok-over.over c.take-taken.result looked c.take-taken.ensures came c.self.invariant.0 c.self.invariant.1
          (ap (λ h. h.rests) c.look.ensures.held) (ap (λ h. h.pieces) c.look.ensures.held) refl refl refl,
    )

pub returns : goal.returns
returns g c =
    let s = c.self.inside in
    let old : Tcp = record { host = s.host; port = s.port; codec = s.codec; connections = s.connected.connections.items; parts = s.connected.held.rests; looks = s.connected.held.pieces } in
    let came : AllCame (g.L.Links.came c.args.links.now) old.connections = subst (λ o. AllCame (g.L.Links.came c.args.links.now) o.connections) (sym c.self.view_is) c.requires in
    let after = c.take-taken.new.self in
    let new : Tcp = record { host = s.host; port = s.port; codec = s.codec; connections = after.connections.items; parts = after.held.rests; looks = after.held.pieces } in
    let looked = subst (λ h. Looked g.L.Links h s.port old.connections c.look.new.self.connections.items c.args.links.now c.look.new.links (Ok c.in_ok-over.over)) c.as_str.ensures c.in_ok-over.ensures.looked in
    subst (λ o. WasPolled g.L.Links c.args.moment o new c.args.links.now c.take-taken.new.links c.answer.result) c.self.view_is
    (polled_all g.L.Links c.args.moment old new c.look.new.self after c.args.links.now c.look.new.links c.take-taken.new.links c.in_ok-over.over c.take-taken.result looked c.take-taken.ensures came c.self.invariant.0 c.self.invariant.1
    (ap (λ h. h.rests) c.look.ensures.held) (ap (λ h. h.pieces) c.look.ensures.held) refl refl refl
    (record { host = refl; port = refl; codec = refl }) c.answer.result (c.answer.ensures ∙ ap (poll_answer c.take-taken.result c.in_ok-over.over) c.is_unconnected.ensures))
