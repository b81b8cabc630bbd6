use Rattle.std.proofs.Common.{OnOk, codes, sym, ap, subst}
use Rattle.io_traits.specs.Telling.{Grows, GrowsInPart}
use Rattle.logstash_top.specs.Status.{setting_line}
use Rattle.logstash_top.proofs.Statuses.{setting_fault_line}
use Rattle.logstash_top.proofs.line.write_setting_line.Goals as goal

pub returns-in-Missing-clause-ok : goal.returns-in-Missing-clause-ok
returns-in-Missing-clause-ok g c =
    subst (λ l. OnOk c.write_named.result (Grows (g.O.Sink.taken c.args.sink.now) (g.O.Sink.taken c.write_named.new.sink) l))
    (setting_fault_line c.args.pipeline.now c.args.id.now (codes ": missing ") c.as_str.result.now c.in-Missing.name c.args.fault.now c.as_str.ensures (sym (ap (setting_line c.args.pipeline.now c.args.id.now) c.in-Missing.is))) c.write_named.ensures.ok

pub returns-in-Missing-clause-part : goal.returns-in-Missing-clause-part
returns-in-Missing-clause-part g c =
    subst (λ l. GrowsInPart (g.O.Sink.taken c.args.sink.now) (g.O.Sink.taken c.write_named.new.sink) l)
    (setting_fault_line c.args.pipeline.now c.args.id.now (codes ": missing ") c.as_str.result.now c.in-Missing.name c.args.fault.now c.as_str.ensures (sym (ap (setting_line c.args.pipeline.now c.args.id.now) c.in-Missing.is))) c.write_named.ensures.part

pub returns-in-Unknown-clause-ok : goal.returns-in-Unknown-clause-ok
returns-in-Unknown-clause-ok g c =
    subst (λ l. OnOk c.write_named-in-Unknown.result (Grows (g.O.Sink.taken c.args.sink.now) (g.O.Sink.taken c.write_named-in-Unknown.new.sink) l))
    (setting_fault_line c.args.pipeline.now c.args.id.now (codes ": unknown ") c.as_str-in-Unknown.result.now c.in-Unknown.name c.args.fault.now c.as_str-in-Unknown.ensures (sym (ap (setting_line c.args.pipeline.now c.args.id.now) c.in-Unknown.is))) c.write_named-in-Unknown.ensures.ok

pub returns-in-Unknown-clause-part : goal.returns-in-Unknown-clause-part
returns-in-Unknown-clause-part g c =
    subst (λ l. GrowsInPart (g.O.Sink.taken c.args.sink.now) (g.O.Sink.taken c.write_named-in-Unknown.new.sink) l)
    (setting_fault_line c.args.pipeline.now c.args.id.now (codes ": unknown ") c.as_str-in-Unknown.result.now c.in-Unknown.name c.args.fault.now c.as_str-in-Unknown.ensures (sym (ap (setting_line c.args.pipeline.now c.args.id.now) c.in-Unknown.is))) c.write_named-in-Unknown.ensures.part

pub returns-in-WrongKind-clause-ok : goal.returns-in-WrongKind-clause-ok
returns-in-WrongKind-clause-ok g c =
    subst (λ l. OnOk c.write_named-in-WrongKind.result (Grows (g.O.Sink.taken c.args.sink.now) (g.O.Sink.taken c.write_named-in-WrongKind.new.sink) l))
    (setting_fault_line c.args.pipeline.now c.args.id.now (codes ": wrong kind ") c.as_str-in-WrongKind.result.now c.in-WrongKind.name c.args.fault.now c.as_str-in-WrongKind.ensures (sym (ap (setting_line c.args.pipeline.now c.args.id.now) c.in-WrongKind.is))) c.write_named-in-WrongKind.ensures.ok

pub returns-in-WrongKind-clause-part : goal.returns-in-WrongKind-clause-part
returns-in-WrongKind-clause-part g c =
    subst (λ l. GrowsInPart (g.O.Sink.taken c.args.sink.now) (g.O.Sink.taken c.write_named-in-WrongKind.new.sink) l)
    (setting_fault_line c.args.pipeline.now c.args.id.now (codes ": wrong kind ") c.as_str-in-WrongKind.result.now c.in-WrongKind.name c.args.fault.now c.as_str-in-WrongKind.ensures (sym (ap (setting_line c.args.pipeline.now c.args.id.now) c.in-WrongKind.is))) c.write_named-in-WrongKind.ensures.part

pub returns-in-BadPattern-clause-ok : goal.returns-in-BadPattern-clause-ok
returns-in-BadPattern-clause-ok g c =
    subst (λ l. OnOk c.write_named-in-BadPattern.result (Grows (g.O.Sink.taken c.args.sink.now) (g.O.Sink.taken c.write_named-in-BadPattern.new.sink) l))
    (setting_fault_line c.args.pipeline.now c.args.id.now (codes ": bad pattern ") c.as_str-in-BadPattern.result.now c.in-BadPattern.name c.args.fault.now c.as_str-in-BadPattern.ensures (sym (ap (setting_line c.args.pipeline.now c.args.id.now) c.in-BadPattern.is))) c.write_named-in-BadPattern.ensures.ok

pub returns-in-BadPattern-clause-part : goal.returns-in-BadPattern-clause-part
returns-in-BadPattern-clause-part g c =
    subst (λ l. GrowsInPart (g.O.Sink.taken c.args.sink.now) (g.O.Sink.taken c.write_named-in-BadPattern.new.sink) l)
    (setting_fault_line c.args.pipeline.now c.args.id.now (codes ": bad pattern ") c.as_str-in-BadPattern.result.now c.in-BadPattern.name c.args.fault.now c.as_str-in-BadPattern.ensures (sym (ap (setting_line c.args.pipeline.now c.args.id.now) c.in-BadPattern.is))) c.write_named-in-BadPattern.ensures.part
