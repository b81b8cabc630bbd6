use Rattle.std.proofs.Common.{refl, ◌∙◌}
use Rattle.out_bulk.proofs.DeliveryRuns.{heard_from, memory, says_good, unsent, spent, was_answered, settles, witnesses, holds}
use Rattle.out_bulk.proofs.bulk.Bulk.deliver.Goals as goal

pub returns-in_err-request-clause-answered : goal.returns-in_err-request-clause-answered
returns-in_err-request-clause-answered g c = (c.begin.new.self.kept, c.begin.ensures.kept, unsent g.Q.Peer.asked c.args.events.now c.args.self.now c.begin.new.self c.begin.ensures.same c.from_residual.result (memory c.from_residual.result c.from_residual.ensures.1))

pub returns-in_err-said-clause-answered : goal.returns-in_err-said-clause-answered
returns-in_err-said-clause-answered g c =
    let h = heard_from g.Q.Peer.asked c.args.events.now c.args.self.now c.begin.new.self c.ask.new.self c.in_ok-request.request _ c.in_ok-reply.reply c.begin.ensures.same c.begin.ensures.of_these c.in_ok-request.ensures c.ask.ensures.same c.deref.ensures.value c.in_ok-reply.ensures.asked in
    (c.begin.new.self.kept, c.begin.ensures.kept, spent _ _ _ _ _ _ _ _ h c.ask.new.self refl c.from_residual-in_err-said.result (memory c.from_residual-in_err-said.result c.from_residual-in_err-said.ensures.1))

pub settle-requires : goal.settle-requires
settle-requires g c =
    let h = heard_from g.Q.Peer.asked c.args.events.now c.args.self.now c.begin.new.self c.ask.new.self c.in_ok-request.request _ c.in_ok-reply.reply c.begin.ensures.same c.begin.ensures.of_these c.in_ok-request.ensures c.ask.ensures.same c.deref.ensures.value c.in_ok-reply.ensures.asked in
    let good = says_good _ _ _ _ _ c.deref-2.ensures.value c.in-Good.is c.in_ok-said.ensures in
    was_answered _ _ _ _ _ _ _ _ h c.as_slice.result.now good.0 good.1 (c.as_slice.ensures ∙ good.2)

pub returns-in_err-settle-in-Good-clause-answered : goal.returns-in_err-settle-in-Good-clause-answered
returns-in_err-settle-in-Good-clause-answered g c =
    let h = heard_from g.Q.Peer.asked c.args.events.now c.args.self.now c.begin.new.self c.ask.new.self c.in_ok-request.request _ c.in_ok-reply.reply c.begin.ensures.same c.begin.ensures.of_these c.in_ok-request.ensures c.ask.ensures.same c.deref.ensures.value c.in_ok-reply.ensures.asked in
    (c.begin.new.self.kept, c.begin.ensures.kept, spent _ _ _ _ _ _ _ _ h c.settle.new.self c.in_err-settle-in-Good.ensures c.from_residual-in_err-settle-in-Good.result (memory c.from_residual-in_err-settle-in-Good.result c.from_residual-in_err-settle-in-Good.ensures.1))

pub returns-in-Good-clause-answered : goal.returns-in-Good-clause-answered
returns-in-Good-clause-answered g c =
    let h = heard_from g.Q.Peer.asked c.args.events.now c.args.self.now c.begin.new.self c.ask.new.self c.in_ok-request.request _ c.in_ok-reply.reply c.begin.ensures.same c.begin.ensures.of_these c.in_ok-request.ensures c.ask.ensures.same c.deref.ensures.value c.in_ok-reply.ensures.asked in
    let good = says_good _ _ _ _ _ c.deref-2.ensures.value c.in-Good.is c.in_ok-said.ensures in
    (c.begin.new.self.kept, c.begin.ensures.kept, settles _ _ _ _ _ _ _ _ h c.settle.new.self c.as_slice.result.now good.0 good.1 (c.as_slice.ensures ∙ good.2) c.in_ok-settle-in-Good.field-0 c.in_ok-settle-in-Good.ensures)

pub returns-in-Good-clause-witnessed : goal.returns-in-Good-clause-witnessed
returns-in-Good-clause-witnessed g c =
    let h = heard_from g.Q.Peer.asked c.args.events.now c.args.self.now c.begin.new.self c.ask.new.self c.in_ok-request.request _ c.in_ok-reply.reply c.begin.ensures.same c.begin.ensures.of_these c.in_ok-request.ensures c.ask.ensures.same c.deref.ensures.value c.in_ok-reply.ensures.asked in
    let good = says_good _ _ _ _ _ c.deref-2.ensures.value c.in-Good.is c.in_ok-said.ensures in
    witnesses _ _ _ _ _ _ _ _ h c.settle.new.self c.as_slice.result.now good.0 good.1 (c.as_slice.ensures ∙ good.2) c.in_ok-settle-in-Good.field-0 c.in_ok-settle-in-Good.ensures

pub returns-in-Good-clause-held : goal.returns-in-Good-clause-held
returns-in-Good-clause-held g c =
    let h = heard_from g.Q.Peer.asked c.args.events.now c.args.self.now c.begin.new.self c.ask.new.self c.in_ok-request.request _ c.in_ok-reply.reply c.begin.ensures.same c.begin.ensures.of_these c.in_ok-request.ensures c.ask.ensures.same c.deref.ensures.value c.in_ok-reply.ensures.asked in
    let good = says_good _ _ _ _ _ c.deref-2.ensures.value c.in-Good.is c.in_ok-said.ensures in
    holds _ _ _ _ _ _ _ _ h c.settle.new.self c.as_slice.result.now good.0 good.1 (c.as_slice.ensures ∙ good.2) c.in_ok-settle-in-Good.field-0 c.in_ok-settle-in-Good.ensures
