use Rattle.std.proofs.Common.{arith, sym, ap}
use Rattle.regex.specs.Replace.{bytes_of}
use Rattle.pattern_box.proofs.Grouped.{no_group}
use Rattle.pattern_box.proofs.matcher.Matcher.group_text.Goals as goal

pub returns-then-index-self : goal.returns-then-index-self
returns-then-index-self c =
    let width = c.args.self.now.width in
    let past = c.if-index-self.true in
    sym (ap (bytes_of c.args.text.now) (no_group c.args.text.now c.args.whole c.args.self.now.cells.items c.args.index (omega (arith, width, past)) (omega (arith, width, past))))
