use Rattle.std.proofs.Common.{sym}
use Rattle.dead_letters.proofs.LetterReads.{moment_found, moment_missed, moment_whole}
use Rattle.dead_letters.proofs.reading.moment_of.Goals as goal

pub returns-in-Some-clause-moment : goal.returns-in-Some-clause-moment
returns-in-Some-clause-moment c = moment_found c.args.bytes.now c.in_ok-own.own.now c.in_ok-own._behind.now c.in-Some.moment c.in_ok-own.ensures.reads (sym c.in-Some.ensures)

pub returns-in-None-clause-moment : goal.returns-in-None-clause-moment
returns-in-None-clause-moment c = moment_missed c.args.bytes.now c.in_ok-own.own.now c.in_ok-own._behind.now c.in_ok-own.ensures.reads (sym c.in-None.ensures)

pub returns-in-Some-clause-whole : goal.returns-in-Some-clause-whole
returns-in-Some-clause-whole c = moment_whole c.args.bytes.now c.in_ok-own.own.now c.in_ok-own._behind.now c.in_ok-own.ensures.reads
