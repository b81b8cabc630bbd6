use Rattle.std.proofs.Common.{◌≡◌, ◌+◌, [], refl, sym, ap, subst, ◌∙◌, arith}
use Rattle.event_tree.specs.Events.{IsEvent, both, event_size}
use Rattle.event_tree.specs.Sizes.{size}
use Rattle.event_tree.specs.declared.value.Value.TheVariants as v
use Rattle.event_tree.proofs.Depths.{depth-Object}
use Rattle.event_tree.proofs.Sizes.{size-Object}
use Rattle.event_tree.proofs.Sounds.{sound_rises}
use Rattle.event_tree.proofs.EventPuts.{size-object}
use Rattle.event_tree.proofs.event.Event.take_whole_meta.Goals as goal

pub invariant_of-self : goal.invariant_of-self
invariant_of-self c =
    let was = c.self.invariant.0 in
    let e : c.replace-meta.new.dest ≡ v.Object [] = c.replace-meta.ensures.after ∙ ap v.Object c.new.ensures in
    let m = size-object c.self.inside.meta was.meta_object in
    let f = size-object c.self.inside.fields was.fields_object in
    let r : size c.replace-meta.result ≡ size c.self.inside.meta = ap size c.replace-meta.ensures.value in
    subst (λ x. IsEvent (both c.self.inside.fields x) × (c.size_without.result + 4 ≡ event_size (both c.self.inside.fields x))) (sym e) (
      record {
        fields_object = was.fields_object;
        meta_object = ([], refl);
        small = omega (arith, size-Object [], m, was.small);
        shallow = omega (arith, depth-Object [], was.shallow);
        fields_sound = was.fields_sound;
        meta_sound = sound_rises [] tt refl;
      },
      omega (arith, size-Object [], c.self.invariant.1, c.size_without.ensures, r, m, f),
    )
