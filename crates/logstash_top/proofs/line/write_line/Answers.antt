use Rattle.std.proofs.Common.{OnOk, sym, ap, subst, codes}
use Rattle.io_traits.specs.Telling.{Grows, GrowsInPart}
use Rattle.logstash_top.specs.Status.{line_of}
use Rattle.logstash_top.proofs.Statuses.{config_lines, damage_line, input_line, output_line, refused_lines, whole_lines}
use Rattle.logstash_top.proofs.line.write_line.Goals as goal

pub returns-in-BadConfig-clause-ok : goal.returns-in-BadConfig-clause-ok
returns-in-BadConfig-clause-ok g c =
    subst (λ l. OnOk c.write_config_line.result (Grows (g.O.Sink.taken c.args.stderr.now) (g.O.Sink.taken c.write_config_line.new.sink) l))
    (config_lines c.args.status.now c.in-BadConfig.pipeline c.as_str.result.now c.in-BadConfig.fault c.in-BadConfig.is c.as_str.ensures) c.write_config_line.ensures.ok

pub returns-in-NoMemory-clause-ok : goal.returns-in-NoMemory-clause-ok
returns-in-NoMemory-clause-ok g c =
    subst (λ l. OnOk c.write_parts-in-NoMemory.result (Grows (g.O.Sink.taken c.args.stderr.now) (g.O.Sink.taken c.write_parts-in-NoMemory.new.sink) l)) (sym (ap line_of c.in-NoMemory.is)) c.write_parts-in-NoMemory.ensures.ok

pub returns-in-BadConfig-clause-part : goal.returns-in-BadConfig-clause-part
returns-in-BadConfig-clause-part g c =
    subst (λ l. GrowsInPart (g.O.Sink.taken c.args.stderr.now) (g.O.Sink.taken c.write_config_line.new.sink) l)
    (config_lines c.args.status.now c.in-BadConfig.pipeline c.as_str.result.now c.in-BadConfig.fault c.in-BadConfig.is c.as_str.ensures) c.write_config_line.ensures.part

pub returns-in-NoMemory-clause-part : goal.returns-in-NoMemory-clause-part
returns-in-NoMemory-clause-part g c =
    subst (λ l. GrowsInPart (g.O.Sink.taken c.args.stderr.now) (g.O.Sink.taken c.write_parts-in-NoMemory.new.sink) l)
    (sym (ap line_of c.in-NoMemory.is)) c.write_parts-in-NoMemory.ensures.part

pub returns-in-Refused-clause-ok : goal.returns-in-Refused-clause-ok
returns-in-Refused-clause-ok g c =
    subst (λ l. OnOk c.write_refused_line.result (Grows (g.O.Sink.taken c.args.stderr.now) (g.O.Sink.taken c.write_refused_line.new.sink) l))
    (refused_lines c.args.status.now c.in-Refused.pipeline c.as_str-in-Refused.result.now c.in-Refused.fault c.in-Refused.is c.as_str-in-Refused.ensures) c.write_refused_line.ensures.ok

pub returns-in-Refused-clause-part : goal.returns-in-Refused-clause-part
returns-in-Refused-clause-part g c =
    subst (λ l. GrowsInPart (g.O.Sink.taken c.args.stderr.now) (g.O.Sink.taken c.write_refused_line.new.sink) l)
    (refused_lines c.args.status.now c.in-Refused.pipeline c.as_str-in-Refused.result.now c.in-Refused.fault c.in-Refused.is c.as_str-in-Refused.ensures) c.write_refused_line.ensures.part

pub returns-in-OutputFault-clause-ok : goal.returns-in-OutputFault-clause-ok
returns-in-OutputFault-clause-ok g c =
    subst (λ l. OnOk c.write_parts-in-OutputFault.result (Grows (g.O.Sink.taken c.args.stderr.now) (g.O.Sink.taken c.write_parts-in-OutputFault.new.sink) l))
    (output_line c.args.status.now c.in-OutputFault.output c.as_str-in-OutputFault.result.now c.in-OutputFault.is c.as_str-in-OutputFault.ensures) c.write_parts-in-OutputFault.ensures.ok

pub returns-in-OutputFault-clause-part : goal.returns-in-OutputFault-clause-part
returns-in-OutputFault-clause-part g c =
    subst (λ l. GrowsInPart (g.O.Sink.taken c.args.stderr.now) (g.O.Sink.taken c.write_parts-in-OutputFault.new.sink) l)
    (output_line c.args.status.now c.in-OutputFault.output c.as_str-in-OutputFault.result.now c.in-OutputFault.is c.as_str-in-OutputFault.ensures) c.write_parts-in-OutputFault.ensures.part

pub returns-in-InputFault-clause-ok : goal.returns-in-InputFault-clause-ok
returns-in-InputFault-clause-ok g c =
    subst (λ l. OnOk c.write_placed.result (Grows (g.O.Sink.taken c.args.stderr.now) (g.O.Sink.taken c.write_placed.new.sink) l))
    (input_line c.args.status.now c.in-InputFault.pipeline c.in-InputFault.input c.as_str-in-InputFault.result.now c.as_str-in-InputFault-2.result.now c.in-InputFault.is c.as_str-in-InputFault.ensures c.as_str-in-InputFault-2.ensures) c.write_placed.ensures.ok

pub returns-in-InputFault-clause-part : goal.returns-in-InputFault-clause-part
returns-in-InputFault-clause-part g c =
    subst (λ l. GrowsInPart (g.O.Sink.taken c.args.stderr.now) (g.O.Sink.taken c.write_placed.new.sink) l)
    (input_line c.args.status.now c.in-InputFault.pipeline c.in-InputFault.input c.as_str-in-InputFault.result.now c.as_str-in-InputFault-2.result.now c.in-InputFault.is c.as_str-in-InputFault.ensures c.as_str-in-InputFault-2.ensures) c.write_placed.ensures.part

pub returns-in-Damaged-clause-ok : goal.returns-in-Damaged-clause-ok
returns-in-Damaged-clause-ok g c =
    subst (λ l. OnOk c.write_damaged_line.result (Grows (g.O.Sink.taken c.args.stderr.now) (g.O.Sink.taken c.write_damaged_line.new.sink) l))
    (damage_line c.args.status.now c.in-Damaged.pipeline c.as_str-in-Damaged.result.now c.in-Damaged.damage c.in-Damaged.is c.as_str-in-Damaged.ensures) c.write_damaged_line.ensures.ok

pub returns-in-Damaged-clause-part : goal.returns-in-Damaged-clause-part
returns-in-Damaged-clause-part g c =
    subst (λ l. GrowsInPart (g.O.Sink.taken c.args.stderr.now) (g.O.Sink.taken c.write_damaged_line.new.sink) l)
    (damage_line c.args.status.now c.in-Damaged.pipeline c.as_str-in-Damaged.result.now c.in-Damaged.damage c.in-Damaged.is c.as_str-in-Damaged.ensures) c.write_damaged_line.ensures.part

pub returns-in-NumbersSpent-clause-ok : goal.returns-in-NumbersSpent-clause-ok
returns-in-NumbersSpent-clause-ok g c =
    subst (λ l. OnOk c.write_whole-in-NumbersSpent.result (Grows (g.O.Sink.taken c.args.stderr.now) (g.O.Sink.taken c.write_whole-in-NumbersSpent.new.sink) l))
    (whole_lines c.args.status.now (codes ": numbers spent\n") c.in-NumbersSpent.pipeline c.as_str-in-NumbersSpent.result.now c.as_str-in-NumbersSpent.ensures (ap line_of c.in-NumbersSpent.is)) c.write_whole-in-NumbersSpent.ensures.ok

pub returns-in-NumbersSpent-clause-part : goal.returns-in-NumbersSpent-clause-part
returns-in-NumbersSpent-clause-part g c =
    subst (λ l. GrowsInPart (g.O.Sink.taken c.args.stderr.now) (g.O.Sink.taken c.write_whole-in-NumbersSpent.new.sink) l)
    (whole_lines c.args.status.now (codes ": numbers spent\n") c.in-NumbersSpent.pipeline c.as_str-in-NumbersSpent.result.now c.as_str-in-NumbersSpent.ensures (ap line_of c.in-NumbersSpent.is)) c.write_whole-in-NumbersSpent.ensures.part
