use Rattle.std.proofs.Common.{◌≡◌, ◌&&◌, ◌==◌, Bool, true, false, not, nat_lt, sym, ◌∙◌, ap, arith}
use Rattle.std.proofs.lemmas.Bool.Decides.{nat_tests}
use Rattle.std.specs.List.{list_any}
use Rattle.queue_files.proofs.unread.is_unpaired.Goals as goal

pub returns-then-number-head : goal.returns-then-number-head
returns-then-number-head c =
    let is : nat_lt c.args.number c.args.head ≡ true = grind (arith, nat_tests, c.if-number-head.true) in
    ap not c.contains.ensures.value ∙ sym (ap (λ (b : Bool). not (b && list_any (λ m. m == c.args.number) c.args.pages.now)) is)

pub returns-else-number-head : goal.returns-else-number-head
returns-else-number-head c =
    let is : nat_lt c.args.number c.args.head ≡ false = grind (arith, nat_tests, c.if-number-head.false) in
    sym (ap (λ (b : Bool). not (b && list_any (λ m. m == c.args.number) c.args.pages.now)) is)
