use Rattle.std.proofs.Common.{◌≤◌, ◌<◌, ◌≡◌, ◌-◌, length, refl, rules}
use Rattle.plugin_graph.specs.KitParts.{contents_in}
use Rattle.plugin_graph.specs.Kits.{MayAt, boxes_of, filter_acts}
use Rattle.plugin_graph.proofs.Acting.{by_table, inside, outside, output_meets, nothing_meets}
use Rattle.plugin_graph.proofs.parts.PartsPlugins.act.Goals as goal

pub returns-in-None-clause-ok : goal.returns-in-None-clause-ok
returns-in-None-clause-ok g c =
    let parts = c.args.self.now in
    let found = contents_in parts in
    let e = c.args.event.now in
    let below : c.args.number < length parts.filters = search rules in
    by_table c.meet.result (MayAt g.X.FilterCall.may (boxes_of parts.filters)) found c.args.number e c.args.targets.now c.meet.new.event c.meet.new.targets c.args.to.now c.meet.new.to
    (filter_acts parts.filters c.args.number e) (inside parts.filters found refl c.args.number e below) c.meet.ensures.ok

pub returns-in_ok-send-in-Some-get-clause-ok : goal.returns-in_ok-send-in-Some-get-clause-ok
returns-in_ok-send-in-Some-get-clause-ok g c =
    let parts = c.args.self.now in
    let found = contents_in parts in
    let e = c.args.event.now in
    let past : length parts.filters ≤ c.args.number = search rules in
    let at : c.in-Some.place ≡ c.args.number - length parts.filters = search rules in
    output_meets (MayAt g.X.FilterCall.may (boxes_of parts.filters)) found c.args.number c.in-Some.place e c.args.targets.now (outside parts.filters found refl c.args.number e c.in-Some.place past at)
    c.send.new.targets c.args.to.now c.in-Some-get.output.now parts.own (search rules) c.in_ok-send-in-Some-get.ensures

pub returns-in_ok-push-in-None-get-clause-ok : goal.returns-in_ok-push-in-None-get-clause-ok
returns-in_ok-push-in-None-get-clause-ok g c =
    let parts = c.args.self.now in
    let found = contents_in parts in
    let e = c.args.event.now in
    let past : length parts.filters ≤ c.args.number = search rules in
    let at : c.in-Some.place ≡ c.args.number - length parts.filters = search rules in
    nothing_meets (MayAt g.X.FilterCall.may (boxes_of parts.filters)) found c.args.number c.in-Some.place e c.args.targets.now (outside parts.filters found refl c.args.number e c.in-Some.place past at)
    c.gone.new.event c.gone.new.targets c.args.to.now c.push.new.self c.gone.result (search rules) c.gone.ensures c.in_ok-push-in-None-get.ensures.ok
