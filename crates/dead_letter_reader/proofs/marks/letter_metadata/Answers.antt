use Rattle.std.proofs.Common.{refl}
use Rattle.dead_letter_reader.proofs.marks.letter_metadata.Goals as goal

pub returns : goal.returns
returns c =
    rw (
      c.in_ok-push-4.ensures.ok,
      c.in_ok-push-3.ensures.ok,
      c.in_ok-push-2.ensures.ok,
      c.in_ok-push.ensures.ok,
      c.in_ok-fields.ensures,
      c.in_ok-of.ensures,
      c.in_ok-of-2.ensures,
      c.in_ok-of-3.ensures,
      c.in_ok-of-4.ensures,
      c.in_ok-copy.ensures,
      c.in_ok-copy-2.ensures,
      c.in_ok-copy-3.ensures,
    ) refl
