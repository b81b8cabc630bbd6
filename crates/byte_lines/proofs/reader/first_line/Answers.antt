use Rattle.std.proofs.Common.{length, sym, ◌∙◌, arith, rules, eqb-true, true≢false}
use Rattle.std.proofs.lemmas.List.{drop_all}
use Rattle.byte_lines.proofs.Giving.{gives_line, gives_last, gives_none}
use Rattle.byte_lines.proofs.reader.first_line.Goals as goal
use Rattle.byte_lines.proofs.reader.first_line.Goals.{then-ended+else-not-is_empty, else-ended}

pub returns-in_ok-text-in-Some-clause-some : goal.returns-in_ok-text-in-Some-clause-some
returns-in_ok-text-in-Some-clause-some c =
    let line = c.in-Some.ensures.line in
    gives_line c.args.limit c.args.bytes.now c.args.ended line.0 _ _ _ c.requires.limit line.1 line.2 c.in_ok-text-in-Some.ensures line.3

pub returns-in_ok-text-in-None-clause-some : goal.returns-in_ok-text-in-None-clause-some
returns-in_ok-text-in-None-clause-some c =
    let bytes = c.args.bytes.now in
    gives_last c.args.limit bytes _ _ c.args.ended c.requires.limit c.in-None.ensures.none c.in-None.ensures.short (search rules) c.if-ended.true c.in_ok-text-in-None.ensures (drop_all (length bytes) bytes (omega arith))

pub returns-in-None-2-clause-none : goal.returns-in-None-2-clause-none
returns-in-None-2-clause-none c =
    gives_none c.args.limit c.args.bytes.now c.args.ended c.requires.limit c.in-None-2.ensures.none c.in-None-2.ensures.short
    (elim c.if-ended.branch [ then-ended+else-not-is_empty w ↦ λ _. eqb-true _ _ (sym w.if-not-is_empty.ensures) | else-ended w ↦ λ is. absurd (true≢false (sym is ∙ w.if-ended.false)) ])
