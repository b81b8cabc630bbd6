use Rattle.std.proofs.Common.{◌≡◌, ◌≤◌, ◌+◌, length, take, drop, refl, sym, ap, ◌∙◌, subst, arith}
use Rattle.std.proofs.lemmas.List.{with_items_is}
use Rattle.byte_lines.specs.Split.{HasNoLineFeed}
use Rattle.byte_lines.specs.Unread.{Unread}
use Rattle.in_file.specs.Looks.{IsRead}
use Rattle.in_file.proofs.Filling.{held_behind, searched_still, read_so}
use Rattle.in_file.proofs.line_buffer.LineBuffer.fill.Goals as goal

pub invariant_of-self-2 : goal.invariant_of-self-2
invariant_of-self-2 g c =
    let s = c.self.inside in
    let new = c.read_behind.new.buffer in
    let items = with_items_is c.make_room.new.bytes new (c.read_behind.ensures.len ∙ c.deref_mut.ensures.len) in
    let order : s.start ≤ s.filled = omega (arith, c.self.invariant.0) in
    let within : s.filled ≤ length s.bytes.items = omega (arith, c.self.invariant.1, s.bytes.ok.0) in
    let same : take s.filled new ≡ take s.filled s.bytes.items = c.read_behind.ensures.front ∙ ap (take s.filled) c.deref_mut.ensures.value ∙ c.make_room.ensures.front in
    let n = c.in_ok-count.count in (
      omega (arith, c.self.invariant.0),
      omega (arith, c.in_ok-make_room.ensures.room, c.in_ok-count.ensures.within),
      c.self.invariant.2,
      subst (λ b. HasNoLineFeed (take s.searched (drop s.start (take (s.filled + n) b)))) (sym items)
          (searched_still s.start s.filled n s.bytes.items new (drop s.start (take s.filled s.bytes.items)) order within same refl s.searched c.self.invariant.0 c.self.invariant.3),
    )

pub returns-clause-read : goal.returns-clause-read
returns-clause-read g c =
    let s = c.self.inside in
    let new = c.read_behind.new.buffer in
    let items = with_items_is c.make_room.new.bytes new (c.read_behind.ensures.len ∙ c.deref_mut.ensures.len) in
    let order : s.start ≤ s.filled = omega (arith, c.self.invariant.0) in
    let within : s.filled ≤ length s.bytes.items = omega (arith, c.self.invariant.1, s.bytes.ok.0) in
    let same : take s.filled new ≡ take s.filled s.bytes.items = c.read_behind.ensures.front ∙ ap (take s.filled) c.deref_mut.ensures.value ∙ c.make_room.ensures.front in
    let held : drop s.start (take s.filled s.bytes.items) ≡ c.args.self.now.bytes = ap (λ (u : Unread). u.bytes) (c.self.view_is ∙ c.release_given.ensures) in
    let n = c.in_ok-count.count in
    subst (λ b. IsRead g.F.Files c.args.path.now c.args.place c.args.room c.args.self.now.bytes (drop s.start (take (s.filled + n) b)) c.args.files.now c.read_behind.new.files n) (sym items)
    (read_so g.F.Files c.args.path.now c.args.place c.args.room s.filled n c.args.self.now.bytes (drop s.start (take (s.filled + n) new)) new c.args.files.now c.read_behind.new.files
    (held_behind s.start s.filled n s.bytes.items new c.args.self.now.bytes order within same held)
    (omega (arith, c.in_ok-make_room.ensures.room, c.read_behind.ensures.len, c.deref_mut.ensures.len)) c.in_ok-count.ensures.within c.in_ok-count.ensures.gives c.read_behind.ensures.call)
