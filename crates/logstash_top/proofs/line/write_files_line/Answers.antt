use Rattle.std.proofs.Common.{OnOk, sym, ap, subst}
use Rattle.io_traits.specs.Telling.{Grows}
use Rattle.logstash_top.specs.Status.{files_line}
use Rattle.logstash_top.proofs.Statuses.{missing_line}
use Rattle.logstash_top.proofs.line.write_files_line.Goals as goal

pub returns-in-Some-clause-ok : goal.returns-in-Some-clause-ok
returns-in-Some-clause-ok g c =
    subst (λ l. OnOk c.write_parts.result (Grows (g.O.Sink.taken c.args.sink.now) (g.O.Sink.taken c.write_parts.new.sink) l))
    (missing_line c.args.path.now c.in-Some.path c.as_str.result.now c.in-Some.is c.as_str.ensures) c.write_parts.ensures.ok

pub returns-in-None-clause-ok : goal.returns-in-None-clause-ok
returns-in-None-clause-ok g c =
    subst (λ l. OnOk c.write_parts-in-None.result (Grows (g.O.Sink.taken c.args.sink.now) (g.O.Sink.taken c.write_parts-in-None.new.sink) l)) (sym (ap files_line c.in-None.is)) c.write_parts-in-None.ensures.ok
