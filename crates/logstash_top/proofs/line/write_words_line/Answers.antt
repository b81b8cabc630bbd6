use Rattle.std.proofs.Common.{OnOk, sym, ap, subst}
use Rattle.io_traits.specs.Telling.{Grows}
use Rattle.logstash_top.specs.Status.{words_line}
use Rattle.logstash_top.proofs.Statuses.{range_line}
use Rattle.logstash_top.proofs.line.write_words_line.Goals as goal

pub returns-in-Unread-clause-ok : goal.returns-in-Unread-clause-ok
returns-in-Unread-clause-ok g c =
    subst (λ l. OnOk c.write_parts.result (Grows (g.O.Sink.taken c.args.sink.now) (g.O.Sink.taken c.write_parts.new.sink) l)) (sym (ap words_line c.in-Unread.is)) c.write_parts.ensures.ok

pub returns-in-Both-clause-ok : goal.returns-in-Both-clause-ok
returns-in-Both-clause-ok g c =
    subst (λ l. OnOk c.write_parts-in-Both.result (Grows (g.O.Sink.taken c.args.sink.now) (g.O.Sink.taken c.write_parts-in-Both.new.sink) l)) (sym (ap words_line c.in-Both.is)) c.write_parts-in-Both.ensures.ok

pub returns-in-Apart-clause-ok : goal.returns-in-Apart-clause-ok
returns-in-Apart-clause-ok g c =
    subst (λ l. OnOk c.write_parts-in-Apart.result (Grows (g.O.Sink.taken c.args.sink.now) (g.O.Sink.taken c.write_parts-in-Apart.new.sink) l)) (sym (ap words_line c.in-Apart.is)) c.write_parts-in-Apart.ensures.ok

pub returns-in-Memory-clause-ok : goal.returns-in-Memory-clause-ok
returns-in-Memory-clause-ok g c =
    subst (λ l. OnOk c.write_parts-in-Memory.result (Grows (g.O.Sink.taken c.args.sink.now) (g.O.Sink.taken c.write_parts-in-Memory.new.sink) l)) (sym (ap words_line c.in-Memory.is)) c.write_parts-in-Memory.ensures.ok

pub returns-in-Range-clause-ok : goal.returns-in-Range-clause-ok
returns-in-Range-clause-ok g c =
    subst (λ l. OnOk c.write_parts-in-Range.result (Grows (g.O.Sink.taken c.args.sink.now) (g.O.Sink.taken c.write_parts-in-Range.new.sink) l))
    (range_line c.args.fault c.in-Range.option c.as_str.result.now c.in-Range.is c.as_str.ensures) c.write_parts-in-Range.ensures.ok
