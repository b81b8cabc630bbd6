use Rattle.std.proofs.Common.{rules, ◌≡◌, nat_lt, true, false, is_some, sym, ◌∙◌, arith}
use Rattle.std.proofs.lemmas.Bool.Decides.{nat_tests}
use Rattle.queue_files.proofs.BareFolders.{not_if_slot, not_if_long, new_as_bare}
use Rattle.queue_files.proofs.look.is_new.Goals as goal

pub returns-then-is_some : goal.returns-then-is_some
returns-then-is_some c folder are listed =
    let some : is_some c.args.slots.now.newest ≡ true = search rules in
    sym (not_if_slot folder c.args.slots.now are some)

pub returns-then-slots-gt-SLOT_LEN : goal.returns-then-slots-gt-SLOT_LEN
returns-then-slots-gt-SLOT_LEN c folder are listed =
    let long : nat_lt c.args.slots.now.length 49 ≡ false = grind (arith, nat_tests, c.if-slots-gt-SLOT_LEN.true) in
    sym (not_if_long folder c.args.slots.now are long)

pub returns : goal.returns
returns c folder are listed =
    let none : is_some c.args.slots.now.newest ≡ false = search rules in
    let short : nat_lt c.args.slots.now.length 49 ≡ true = grind (arith, nat_tests, c.if-slots-gt-SLOT_LEN.false) in
    c.has_page_0_at_most.ensures folder listed ∙ sym (new_as_bare folder c.args.slots.now are none short)
