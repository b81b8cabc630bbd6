use Rattle.std.proofs.Common.{◌+◌, length, take, refl, sym, ◌∙◌, arith, take-take, length-take, eq-eqb, eqb-true}
use Rattle.byte_lines.specs.Split.{Ended, Full}
use Rattle.byte_lines.proofs.Finding.{ended_line, full_line, no_line}
use Rattle.byte_lines.proofs.find.find_line.Goals as goal

pub returns-in-Some-clause-line : goal.returns-in-Some-clause-line
returns-in-Some-clause-line c =
    let bytes = c.args.bytes.now in
    let h = c.in-Some.ensures in
    let found = ended_line bytes _ c.args.searched c.min-window.result refl (omega arith) (omega arith) c.requires.no_line_feed c.args.limit c.in-Some.at (omega arith) h.0.high (λ k less is. h.0.before k (omega arith) less (eq-eqb _ _ is)) (eqb-true _ _ h.1) in
    let end = c.args.searched + c.in-Some.at in
    let n = length c.without_carriage_return-content_len.result.now in
    let w = c.without_carriage_return-content_len.ensures in
    let content = sym w.value ∙ w.front ∙ take-take n end bytes (omega (arith, w.within, length-take end bytes)) in
    (Ended (take (c.args.searched + c.in-Some.at) bytes), found.0, content, found.1)

pub returns-in-None-clause-line : goal.returns-in-None-clause-line
returns-in-None-clause-line c =
    let bytes = c.args.bytes.now in
    let found = full_line bytes _ c.args.searched c.min-window.result refl (omega arith) (omega arith) c.requires.no_line_feed c.args.limit c.if-window-limit.true (λ k less is. c.in-None.ensures k (omega arith) less (eq-eqb _ _ is)) in
    (Full (take c.args.limit bytes), found.0, refl, found.1)

pub returns-in-None-2-clause-none : goal.returns-in-None-2-clause-none
returns-in-None-2-clause-none c = no_line c.args.bytes.now _ c.args.searched c.min-window.result refl (omega arith) (omega arith) c.requires.no_line_feed (omega arith) (λ k less is. c.in-None-2.ensures k (omega arith) less (eq-eqb _ _ is))
