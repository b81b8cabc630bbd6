use Rattle.std.proofs.Common.{◌++◌, ◌∷◌, [], false, length, sym, ◌∙◌, ap, arith}
use Rattle.queue_files.specs.Kept.{leading}
use Rattle.queue_core.specs.Bits.{bits_from}
use Rattle.queue_core.proofs.BitLists.{long_bits, more_view, leads_still}
use Rattle.queue_core.proofs.acknowledged.Acknowledged.push.Goals as goal

pub overflow_add-self : goal.overflow_add-self
overflow_add-self c = omega (arith, c.requires, ap length c.self.view_is, long_bits c.self.inside.words.items 0 c.self.inside.count)

pub invariant_of-self-2 : goal.invariant_of-self-2
invariant_of-self-2 c =
    let inv = c.self.invariant in
    let old = c.self.inside.words.items in
    let new = c.make_room.new.words.items in
    let count = c.self.inside.count in
    record {
      room = omega (arith, c.in_ok-make_room.ensures.room);
      rest = λ k past. c.make_room.ensures.bits k ∙ inv.rest k (omega (arith, past));
      first_is = inv.first_is ∙ sym (ap leading (more_view old new count c.make_room.ensures.bits (inv.rest count (omega arith))) ∙ leads_still (bits_from old 0 count));
    }

pub returns-clause-ok : goal.returns-clause-ok
returns-clause-ok c =
    let inv = c.self.invariant in
    let count = c.self.inside.count in
    more_view c.self.inside.words.items c.make_room.new.words.items count c.make_room.ensures.bits (inv.rest count (omega arith)) ∙ ap (λ l. l ++ false ∷ []) c.self.view_is
