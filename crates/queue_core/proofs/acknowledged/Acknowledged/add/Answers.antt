use Rattle.std.proofs.Common.{◌≡◌, ◌≤◌, ◌+◌, ◌-◌, ◌||◌, Bool, List, ℕ, length, ◌∙◌, ap, subst, arith}
use Rattle.std.proofs.Math.Path.{ap₂}
use Rattle.queue_files.specs.Kept.{leading}
use Rattle.queue_core.specs.Bits.{bits_from, with_range}
use Rattle.queue_core.proofs.BitLists.{long_bits, ranged_bits, among_past, leading_within, first_after}
use Rattle.queue_core.proofs.acknowledged.Acknowledged.add.Goals as goal

pub set_bits-requires-clause-within : goal.set_bits-requires-clause-within
set_bits-requires-clause-within c = omega (arith, c.requires.within, ap length c.self.view_is, long_bits c.self.inside.words.items 0 c.self.inside.count, c.self.invariant.room)

pub first_unset-self-inside-requires-clause-order : goal.first_unset-self-inside-requires-clause-order
first_unset-self-inside-requires-clause-order c = omega (arith, c.self.invariant.first_is, leading_within c.self.inside.words.items 0 c.self.inside.count)

pub invariant_of-self : goal.invariant_of-self
invariant_of-self c =
    let inv = c.self.invariant in
    let old = c.self.inside.words.items in
    let new = c.set_bits.new.words.items in
    let count = c.self.inside.count in
    let first = c.self.inside.leading in
    let within : c.args.to ≤ count = omega (arith, c.requires.within, ap length c.self.view_is, long_bits old 0 count) in
    record {
      room = omega (arith, inv.room, c.set_bits.ensures.len);
      rest = λ k past. c.set_bits.ensures.bits k ∙ ap₂ (λ (a b : Bool). a || b) (inv.rest k past) (among_past c.args.from c.args.to k (omega (arith, past, within)));
      first_is = first_after old new c.args.from c.args.to count first c.first_unset-self-inside.result inv.first_is c.set_bits.ensures.bits
          (subst (λ (l : List ℕ). c.first_unset-self-inside.result ≡ first + leading (bits_from l first (count - first))) c.deref.ensures.value c.first_unset-self-inside.ensures);
    }

pub returns : goal.returns
returns c =
    ranged_bits c.self.inside.words.items c.set_bits.new.words.items c.args.from c.args.to 0 c.self.inside.count c.set_bits.ensures.bits ∙ ap (with_range 0 c.args.from c.args.to) c.self.view_is
