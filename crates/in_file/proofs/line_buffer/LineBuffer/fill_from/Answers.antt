use Rattle.std.proofs.Common.{◌≡◌, ◌≤◌, ◌+◌, length, take, drop, refl, sym, ap, ◌∙◌, subst, arith}
use Rattle.std.proofs.lemmas.List.{with_items_is}
use Rattle.byte_lines.specs.Split.{HasNoLineFeed}
use Rattle.byte_lines.specs.Unread.{Unread}
use Rattle.io_traits.specs.declared.sources.Step.TheVariants.{Bytes}
use Rattle.in_file.specs.Streams.{WasRead}
use Rattle.in_file.proofs.Filling.{held_behind, searched_still}
use Rattle.in_file.proofs.line_buffer.LineBuffer.fill_from.Goals as goal

pub invariant_of-self-in-Bytes : goal.invariant_of-self-in-Bytes
invariant_of-self-in-Bytes g c =
    let s = c.self.inside in
    let new = c.read_source_behind.new.buffer in
    let items = with_items_is c.make_room.new.bytes new (c.read_source_behind.ensures.len ∙ c.deref_mut.ensures.len) in
    let order : s.start ≤ s.filled = omega (arith, c.self.invariant.0) in
    let within : s.filled ≤ length s.bytes.items = omega (arith, c.self.invariant.1, s.bytes.ok.0) in
    let same : take s.filled new ≡ take s.filled s.bytes.items = c.read_source_behind.ensures.front ∙ ap (take s.filled) c.deref_mut.ensures.value ∙ c.make_room.ensures.front in
    let n = c.in-Bytes.count in
    let e = rw c.in-Bytes.is at c.in_ok-step.ensures in (
      omega (arith, c.self.invariant.0),
      omega (arith, c.in_ok-make_room.ensures.room, e.within),
      c.self.invariant.2,
      subst (λ b. HasNoLineFeed (take s.searched (drop s.start (take (s.filled + n) b)))) (sym items)
          (searched_still s.start s.filled n s.bytes.items new (drop s.start (take s.filled s.bytes.items)) order within same refl s.searched c.self.invariant.0 c.self.invariant.3),
    )

pub returns-in-Bytes-clause-read : goal.returns-in-Bytes-clause-read
returns-in-Bytes-clause-read g c =
    let s = c.self.inside in
    let new = c.read_source_behind.new.buffer in
    let items = with_items_is c.make_room.new.bytes new (c.read_source_behind.ensures.len ∙ c.deref_mut.ensures.len) in
    let order : s.start ≤ s.filled = omega (arith, c.self.invariant.0) in
    let within : s.filled ≤ length s.bytes.items = omega (arith, c.self.invariant.1, s.bytes.ok.0) in
    let same : take s.filled new ≡ take s.filled s.bytes.items = c.read_source_behind.ensures.front ∙ ap (take s.filled) c.deref_mut.ensures.value ∙ c.make_room.ensures.front in
    let held : drop s.start (take s.filled s.bytes.items) ≡ c.args.self.now.bytes = ap (λ (u : Unread). u.bytes) (c.self.view_is ∙ c.release_given.ensures) in
    let n = c.in-Bytes.count in
    let e = rw c.in-Bytes.is at c.in_ok-step.ensures in
    subst (λ b. WasRead g.I.Source (Bytes n) c.args.self.now.bytes (drop s.start (take (s.filled + n) b)) c.args.source.now c.read_source_behind.new.source) (sym items) (record {
      room = drop s.filled new;
      whole = held_behind s.start s.filled n s.bytes.items new c.args.self.now.bytes order within same held;
      found = e.found;
    })
