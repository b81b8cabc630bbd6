use Rattle.std.proofs.Common.{ap}
use Rattle.line_inputs.specs.Inputs.{InputView}
use Rattle.line_core.proofs.AssuredInputs.{all_connections, all_room, all_slots, kept_room, part_connections, part_room}
use Rattle.line_core.proofs.line.LineInput.assure.Goals as goal

pub invariant_of-self : goal.invariant_of-self
invariant_of-self g c =
    let s = c.args.self.now in
    record {
      named = s.named;
      short = s.short;
      room = kept_room s.held s.open.source c.assure.new.self.source (part_room c.args.front s.open.source c.assure.new.self.source c.in_err-assure.ensures.err) s.room;
    }

pub invariant_of-self-2 : goal.invariant_of-self-2
invariant_of-self-2 g c =
    let s = c.args.self.now in
    record {
      named = s.named;
      short = s.short;
      room = kept_room s.held s.open.source c.assure.new.self.source (all_room c.args.front s.open.source c.assure.new.self.source (ap (λ (v : InputView). v.source) c.in_ok-assure.ensures.ok)) s.room;
    }

pub returns-in_err-assure-clause-connections : goal.returns-in_err-assure-clause-connections
returns-in_err-assure-clause-connections g c = part_connections c.args.front c.args.self.now.open.source c.assure.new.self.source c.in_err-assure.ensures.err

pub returns-clause-slots : goal.returns-clause-slots
returns-clause-slots g c = all_slots c.args.front c.args.self.now.open.source c.assure.new.self.source (ap (λ (v : InputView). v.source) c.in_ok-assure.ensures.ok)

pub returns-clause-connections : goal.returns-clause-connections
returns-clause-connections g c = all_connections c.args.front c.args.self.now.open.source c.assure.new.self.source (ap (λ (v : InputView). v.source) c.in_ok-assure.ensures.ok)
