use Rattle.std.proofs.Common.{OnOk, subst}
use Rattle.io_traits.specs.Telling.{Grows, GrowsInPart}
use Rattle.logstash_top.proofs.Statuses.{deep_line, long_line, memory_line, syntax_line}
use Rattle.logstash_top.proofs.line.write_config_line.Goals as goal

pub returns-in-Deep-clause-ok : goal.returns-in-Deep-clause-ok
returns-in-Deep-clause-ok g c =
    subst (λ l. OnOk c.write_placed-in-Deep.result (Grows (g.O.Sink.taken c.args.sink.now) (g.O.Sink.taken c.write_placed-in-Deep.new.sink) l))
    (deep_line c.args.pipeline.now c.format-in-Deep.result.now c.args.fault.now c.in-Deep.at c.in-Deep.is c.format-in-Deep.ensures.text) c.write_placed-in-Deep.ensures.ok

pub returns-in-Deep-clause-part : goal.returns-in-Deep-clause-part
returns-in-Deep-clause-part g c =
    subst (λ l. GrowsInPart (g.O.Sink.taken c.args.sink.now) (g.O.Sink.taken c.write_placed-in-Deep.new.sink) l)
    (deep_line c.args.pipeline.now c.format-in-Deep.result.now c.args.fault.now c.in-Deep.at c.in-Deep.is c.format-in-Deep.ensures.text) c.write_placed-in-Deep.ensures.part

pub returns-in-Memory-clause-ok : goal.returns-in-Memory-clause-ok
returns-in-Memory-clause-ok g c =
    subst (λ l. OnOk c.write_parts-in-Memory.result (Grows (g.O.Sink.taken c.args.sink.now) (g.O.Sink.taken c.write_parts-in-Memory.new.sink) l))
    (memory_line c.args.pipeline.now c.args.fault.now c.in-Memory.is) c.write_parts-in-Memory.ensures.ok

pub returns-in-Long-clause-ok : goal.returns-in-Long-clause-ok
returns-in-Long-clause-ok g c =
    subst (λ l. OnOk c.write_parts.result (Grows (g.O.Sink.taken c.args.sink.now) (g.O.Sink.taken c.write_parts.new.sink) l))
    (long_line c.args.pipeline.now c.args.fault.now c.in-Long.is) c.write_parts.ensures.ok

pub returns-in-Long-clause-part : goal.returns-in-Long-clause-part
returns-in-Long-clause-part g c =
    subst (λ l. GrowsInPart (g.O.Sink.taken c.args.sink.now) (g.O.Sink.taken c.write_parts.new.sink) l)
    (long_line c.args.pipeline.now c.args.fault.now c.in-Long.is) c.write_parts.ensures.part

pub returns-in-Syntax-clause-ok : goal.returns-in-Syntax-clause-ok
returns-in-Syntax-clause-ok g c =
    subst (λ l. OnOk c.write_placed.result (Grows (g.O.Sink.taken c.args.sink.now) (g.O.Sink.taken c.write_placed.new.sink) l))
    (syntax_line c.args.pipeline.now c.format.result.now c.args.fault.now c.in-Syntax.at c.in-Syntax.is c.format.ensures.text) c.write_placed.ensures.ok

pub returns-in-Syntax-clause-part : goal.returns-in-Syntax-clause-part
returns-in-Syntax-clause-part g c =
    subst (λ l. GrowsInPart (g.O.Sink.taken c.args.sink.now) (g.O.Sink.taken c.write_placed.new.sink) l)
    (syntax_line c.args.pipeline.now c.format.result.now c.args.fault.now c.in-Syntax.at c.in-Syntax.is c.format.ensures.text) c.write_placed.ensures.part

pub returns-in-Memory-clause-part : goal.returns-in-Memory-clause-part
returns-in-Memory-clause-part g c =
    subst (λ l. GrowsInPart (g.O.Sink.taken c.args.sink.now) (g.O.Sink.taken c.write_parts-in-Memory.new.sink) l)
    (memory_line c.args.pipeline.now c.args.fault.now c.in-Memory.is) c.write_parts-in-Memory.ensures.part
