use Rattle.std.proofs.Common.{[], arith, refl}
use Rattle.event_tree.proofs.Depths.{depth-Object}
use Rattle.event_tree.proofs.Sizes.{size-Object}
use Rattle.event_tree.proofs.Sounds.{sound_rises}
use Rattle.event_tree.proofs.event.Event.new.Goals as goal

pub invariant_of-result : goal.invariant_of-result
invariant_of-result c = rw (c.new.ensures, c.new-2.ensures) (
  (record {
    fields_object = ([], refl);
    meta_object = ([], refl);
    small = omega (arith, size-Object []);
    shallow = omega (arith, depth-Object []);
    fields_sound = sound_rises [] tt refl;
    meta_sound = sound_rises [] tt refl;
  }),
  omega (arith, size-Object []),
)
