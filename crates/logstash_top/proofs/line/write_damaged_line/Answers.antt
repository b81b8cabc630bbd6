use Rattle.std.proofs.Common.{OnOk, subst}
use Rattle.io_traits.specs.Telling.{Grows, GrowsInPart}
use Rattle.logstash_top.proofs.Statuses.{damage_parts}
use Rattle.logstash_top.proofs.line.write_damaged_line.Goals as goal

pub returns-clause-ok : goal.returns-clause-ok
returns-clause-ok g c =
    subst (λ l. OnOk c.write_parts.result (Grows (g.O.Sink.taken c.args.sink.now) (g.O.Sink.taken c.write_parts.new.sink) l))
    (damage_parts c.args.pipeline.now c.as_str.result.now c.format.result.now c.format-2.result.now c.format-3.result.now c.args.damage.now c.as_str.ensures c.format.ensures.text c.format-2.ensures.text c.format-3.ensures.text) c.write_parts.ensures.ok

pub returns-clause-part : goal.returns-clause-part
returns-clause-part g c =
    subst (λ l. GrowsInPart (g.O.Sink.taken c.args.sink.now) (g.O.Sink.taken c.write_parts.new.sink) l)
    (damage_parts c.args.pipeline.now c.as_str.result.now c.format.result.now c.format-2.result.now c.format-3.result.now c.args.damage.now c.as_str.ensures c.format.ensures.text c.format-2.ensures.text c.format-3.ensures.text) c.write_parts.ensures.part
