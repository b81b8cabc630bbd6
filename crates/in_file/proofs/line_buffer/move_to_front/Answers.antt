use Rattle.std.proofs.Common.{◌≡◌, ◌+◌, ◌-◌, take, drop, sym, ap, ◌∙◌, arith, length-drop}
use Rattle.std.specs.List.{copy_within}
use Rattle.std.proofs.lemmas.List.{drop-take}
use Rattle.std.proofs.lemmas.List.Edits.{take-paste}
use Rattle.in_file.proofs.line_buffer.move_to_front.Goals as goal

pub returns-clause-front : goal.returns-clause-front
returns-clause-front c =
    let old = c.args.bytes.now.items in
    let n = c.args.end - c.args.start in
    let whole : c.args.start + n ≡ c.args.end = omega (arith, c.requires.order) in
    let none : 0 + n ≡ n = omega arith in
    ap (take n) c.copy_within.ensures.items ∙ ap (λ k. take k (copy_within old c.args.start c.args.end 0)) (sym none) ∙ take-paste old 0 (drop c.args.start old) n (omega arith) (omega (arith, length-drop c.args.start old, c.requires.within, c.args.bytes.now.ok.0))
    ∙ sym (drop-take c.args.start n old) ∙ ap (λ k. drop c.args.start (take k old)) whole
