use Rattle.std.proofs.Common.{OnOk, codes, sym, ap, subst}
use Rattle.io_traits.specs.Telling.{Grows, GrowsInPart}
use Rattle.logstash_top.specs.Status.{refused_line}
use Rattle.logstash_top.proofs.Statuses.{name_line}
use Rattle.logstash_top.proofs.line.write_refused_line.Goals as goal

pub returns-in-UnknownPlugin-clause-ok : goal.returns-in-UnknownPlugin-clause-ok
returns-in-UnknownPlugin-clause-ok g c =
    subst (λ l. OnOk c.write_placed.result (Grows (g.O.Sink.taken c.args.sink.now) (g.O.Sink.taken c.write_placed.new.sink) l))
    (name_line c.args.pipeline.now (codes ": unknown plugin ") c.as_str.result.now c.in-UnknownPlugin.name c.args.fault.now c.as_str.ensures (sym (ap (refused_line c.args.pipeline.now) c.in-UnknownPlugin.is))) c.write_placed.ensures.ok

pub returns-in-UnknownPlugin-clause-part : goal.returns-in-UnknownPlugin-clause-part
returns-in-UnknownPlugin-clause-part g c =
    subst (λ l. GrowsInPart (g.O.Sink.taken c.args.sink.now) (g.O.Sink.taken c.write_placed.new.sink) l)
    (name_line c.args.pipeline.now (codes ": unknown plugin ") c.as_str.result.now c.in-UnknownPlugin.name c.args.fault.now c.as_str.ensures (sym (ap (refused_line c.args.pipeline.now) c.in-UnknownPlugin.is))) c.write_placed.ensures.part

pub returns-in-TwiceId-clause-ok : goal.returns-in-TwiceId-clause-ok
returns-in-TwiceId-clause-ok g c =
    subst (λ l. OnOk c.write_placed-in-TwiceId.result (Grows (g.O.Sink.taken c.args.sink.now) (g.O.Sink.taken c.write_placed-in-TwiceId.new.sink) l))
    (name_line c.args.pipeline.now (codes ": twice id ") c.as_str-in-TwiceId.result.now c.in-TwiceId.id c.args.fault.now c.as_str-in-TwiceId.ensures (sym (ap (refused_line c.args.pipeline.now) c.in-TwiceId.is))) c.write_placed-in-TwiceId.ensures.ok

pub returns-in-TwiceId-clause-part : goal.returns-in-TwiceId-clause-part
returns-in-TwiceId-clause-part g c =
    subst (λ l. GrowsInPart (g.O.Sink.taken c.args.sink.now) (g.O.Sink.taken c.write_placed-in-TwiceId.new.sink) l)
    (name_line c.args.pipeline.now (codes ": twice id ") c.as_str-in-TwiceId.result.now c.in-TwiceId.id c.args.fault.now c.as_str-in-TwiceId.ensures (sym (ap (refused_line c.args.pipeline.now) c.in-TwiceId.is))) c.write_placed-in-TwiceId.ensures.part

pub returns-in-TwicePath-clause-ok : goal.returns-in-TwicePath-clause-ok
returns-in-TwicePath-clause-ok g c =
    subst (λ l. OnOk c.write_placed-in-TwicePath.result (Grows (g.O.Sink.taken c.args.sink.now) (g.O.Sink.taken c.write_placed-in-TwicePath.new.sink) l))
    (name_line c.args.pipeline.now (codes ": twice path ") c.as_str-in-TwicePath.result.now c.in-TwicePath.path c.args.fault.now c.as_str-in-TwicePath.ensures (sym (ap (refused_line c.args.pipeline.now) c.in-TwicePath.is))) c.write_placed-in-TwicePath.ensures.ok

pub returns-in-TwicePath-clause-part : goal.returns-in-TwicePath-clause-part
returns-in-TwicePath-clause-part g c =
    subst (λ l. GrowsInPart (g.O.Sink.taken c.args.sink.now) (g.O.Sink.taken c.write_placed-in-TwicePath.new.sink) l)
    (name_line c.args.pipeline.now (codes ": twice path ") c.as_str-in-TwicePath.result.now c.in-TwicePath.path c.args.fault.now c.as_str-in-TwicePath.ensures (sym (ap (refused_line c.args.pipeline.now) c.in-TwicePath.is))) c.write_placed-in-TwicePath.ensures.part

pub returns-in-TwiceAddress-clause-ok : goal.returns-in-TwiceAddress-clause-ok
returns-in-TwiceAddress-clause-ok g c =
    subst (λ l. OnOk c.write_placed-in-TwiceAddress.result (Grows (g.O.Sink.taken c.args.sink.now) (g.O.Sink.taken c.write_placed-in-TwiceAddress.new.sink) l))
    (name_line c.args.pipeline.now (codes ": twice address ") c.as_str-in-TwiceAddress.result.now c.in-TwiceAddress.address c.args.fault.now c.as_str-in-TwiceAddress.ensures (sym (ap (refused_line c.args.pipeline.now) c.in-TwiceAddress.is))) c.write_placed-in-TwiceAddress.ensures.ok

pub returns-in-TwiceAddress-clause-part : goal.returns-in-TwiceAddress-clause-part
returns-in-TwiceAddress-clause-part g c =
    subst (λ l. GrowsInPart (g.O.Sink.taken c.args.sink.now) (g.O.Sink.taken c.write_placed-in-TwiceAddress.new.sink) l)
    (name_line c.args.pipeline.now (codes ": twice address ") c.as_str-in-TwiceAddress.result.now c.in-TwiceAddress.address c.args.fault.now c.as_str-in-TwiceAddress.ensures (sym (ap (refused_line c.args.pipeline.now) c.in-TwiceAddress.is))) c.write_placed-in-TwiceAddress.ensures.part

pub returns-in-PathLong-clause-ok : goal.returns-in-PathLong-clause-ok
returns-in-PathLong-clause-ok g c =
    subst (λ l. OnOk c.write_placed-in-PathLong.result (Grows (g.O.Sink.taken c.args.sink.now) (g.O.Sink.taken c.write_placed-in-PathLong.new.sink) l))
    (name_line c.args.pipeline.now (codes ": path long ") c.as_str-in-PathLong.result.now c.in-PathLong.path c.args.fault.now c.as_str-in-PathLong.ensures (sym (ap (refused_line c.args.pipeline.now) c.in-PathLong.is))) c.write_placed-in-PathLong.ensures.ok

pub returns-in-PathLong-clause-part : goal.returns-in-PathLong-clause-part
returns-in-PathLong-clause-part g c =
    subst (λ l. GrowsInPart (g.O.Sink.taken c.args.sink.now) (g.O.Sink.taken c.write_placed-in-PathLong.new.sink) l)
    (name_line c.args.pipeline.now (codes ": path long ") c.as_str-in-PathLong.result.now c.in-PathLong.path c.args.fault.now c.as_str-in-PathLong.ensures (sym (ap (refused_line c.args.pipeline.now) c.in-PathLong.is))) c.write_placed-in-PathLong.ensures.part

pub returns-in-TwiceStdin-clause-ok : goal.returns-in-TwiceStdin-clause-ok
returns-in-TwiceStdin-clause-ok g c =
    subst (λ l. OnOk c.write_whole.result (Grows (g.O.Sink.taken c.args.sink.now) (g.O.Sink.taken c.write_whole.new.sink) l))
    (sym (ap (refused_line c.args.pipeline.now) c.in-TwiceStdin.is)) c.write_whole.ensures.ok

pub returns-in-TwiceStdin-clause-part : goal.returns-in-TwiceStdin-clause-part
returns-in-TwiceStdin-clause-part g c =
    subst (λ l. GrowsInPart (g.O.Sink.taken c.args.sink.now) (g.O.Sink.taken c.write_whole.new.sink) l)
    (sym (ap (refused_line c.args.pipeline.now) c.in-TwiceStdin.is)) c.write_whole.ensures.part

pub returns-in-NoInput-clause-ok : goal.returns-in-NoInput-clause-ok
returns-in-NoInput-clause-ok g c =
    subst (λ l. OnOk c.write_whole-in-NoInput.result (Grows (g.O.Sink.taken c.args.sink.now) (g.O.Sink.taken c.write_whole-in-NoInput.new.sink) l))
    (sym (ap (refused_line c.args.pipeline.now) c.in-NoInput.is)) c.write_whole-in-NoInput.ensures.ok

pub returns-in-NoInput-clause-part : goal.returns-in-NoInput-clause-part
returns-in-NoInput-clause-part g c =
    subst (λ l. GrowsInPart (g.O.Sink.taken c.args.sink.now) (g.O.Sink.taken c.write_whole-in-NoInput.new.sink) l)
    (sym (ap (refused_line c.args.pipeline.now) c.in-NoInput.is)) c.write_whole-in-NoInput.ensures.part

pub returns-in-NoOutput-clause-ok : goal.returns-in-NoOutput-clause-ok
returns-in-NoOutput-clause-ok g c =
    subst (λ l. OnOk c.write_whole-in-NoOutput.result (Grows (g.O.Sink.taken c.args.sink.now) (g.O.Sink.taken c.write_whole-in-NoOutput.new.sink) l))
    (sym (ap (refused_line c.args.pipeline.now) c.in-NoOutput.is)) c.write_whole-in-NoOutput.ensures.ok

pub returns-in-NoOutput-clause-part : goal.returns-in-NoOutput-clause-part
returns-in-NoOutput-clause-part g c =
    subst (λ l. GrowsInPart (g.O.Sink.taken c.args.sink.now) (g.O.Sink.taken c.write_whole-in-NoOutput.new.sink) l)
    (sym (ap (refused_line c.args.pipeline.now) c.in-NoOutput.is)) c.write_whole-in-NoOutput.ensures.part

pub returns-in-Memory-clause-ok : goal.returns-in-Memory-clause-ok
returns-in-Memory-clause-ok g c =
    subst (λ l. OnOk c.write_parts.result (Grows (g.O.Sink.taken c.args.sink.now) (g.O.Sink.taken c.write_parts.new.sink) l))
    (sym (ap (refused_line c.args.pipeline.now) c.in-Memory.is)) c.write_parts.ensures.ok

pub returns-in-Memory-clause-part : goal.returns-in-Memory-clause-part
returns-in-Memory-clause-part g c =
    subst (λ l. GrowsInPart (g.O.Sink.taken c.args.sink.now) (g.O.Sink.taken c.write_parts.new.sink) l)
    (sym (ap (refused_line c.args.pipeline.now) c.in-Memory.is)) c.write_parts.ensures.part
