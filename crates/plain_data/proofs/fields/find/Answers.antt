use Rattle.std.proofs.Common.{◌≡◌, ◌+◌, ◌-◌, ◌/◌, ◌<◌, length, Some, refl, sym, ap, ◌∙◌, arith, slice_get}
use Rattle.std.proofs.lemmas.Option.{slice_get_read}
use Rattle.std.specs.declared.cmp.Ordering.TheVariants.{Less, Equal, Greater}
use Rattle.plain_data.specs.Keys.{text_cmp}
use Rattle.plain_data.proofs.FindLemmas.{find_member-within, find_member-above, find_member-below, find_member-at, find_member-end, found_at, absent_at, find_member}
use Rattle.plain_data.proofs.fields.find.Goals as goal

pub loop-low-init : goal.loop-low-init
loop-low-init g c = record { front = omega arith; back = find_member-within c.args.key.now c.args.members.now; within = omega arith }

pub loop-low-preserved-in-Less : goal.loop-low-preserved-in-Less
loop-low-preserved-in-Less g c =
    let ms = c.args.members.now in
    let m = c.index-members-middle.result in
    let i = c.loop-low.low + (c.loop-low.high - c.loop-low.low) / 2 in
    let lt : i < length ms = omega (arith, c.loop-low.invariant.within) in
    let h : slice_get ms i ≡ Some m = slice_get_read ms (length ms) i m refl lt c.index-members-middle.is in
    let e : text_cmp c.args.key.now m.0 ≡ Less = ap (λ x. text_cmp c.args.key.now x.0) c.index-members-middle.is ∙ ap (text_cmp c.args.key.now) (sym c.as_str.ensures) ∙ sym c.text_order.ensures ∙ c.in-Less.is in
    record { front = c.loop-low.invariant.front; back = find_member-below c.args.key.now ms i m h e; within = omega arith }

pub returns-in-Equal : goal.returns-in-Equal
returns-in-Equal g c =
    let ms = c.args.members.now in
    let m = c.index-members-middle.result in
    let i = c.loop-low.low + (c.loop-low.high - c.loop-low.low) / 2 in
    let lt : i < length ms = omega (arith, c.loop-low.invariant.within) in
    let h : slice_get ms i ≡ Some m = slice_get_read ms (length ms) i m refl lt c.index-members-middle.is in
    let e : text_cmp c.args.key.now m.0 ≡ Equal = ap (λ x. text_cmp c.args.key.now x.0) c.index-members-middle.is ∙ ap (text_cmp c.args.key.now) (sym c.as_str.ensures) ∙ sym c.text_order.ensures ∙ c.in-Equal.is in
    found_at c.args.key.now ms i (find_member-at c.args.key.now ms i m c.requires h e)

pub loop-low-preserved : goal.loop-low-preserved
loop-low-preserved g c =
    let ms = c.args.members.now in
    let m = c.index-members-middle.result in
    let i = c.loop-low.low + (c.loop-low.high - c.loop-low.low) / 2 in
    let lt : i < length ms = omega (arith, c.loop-low.invariant.within) in
    let h : slice_get ms i ≡ Some m = slice_get_read ms (length ms) i m refl lt c.index-members-middle.is in
    let e : text_cmp c.args.key.now m.0 ≡ Greater = ap (λ x. text_cmp c.args.key.now x.0) c.index-members-middle.is ∙ ap (text_cmp c.args.key.now) (sym c.as_str.ensures) ∙ sym c.text_order.ensures ∙ c.in-Greater.is in
    record { front = omega (arith, find_member-above c.args.key.now ms i m c.requires h e); back = c.loop-low.invariant.back; within = c.loop-low.invariant.within }

pub returns : goal.returns
returns g c =
    let ms = c.args.members.now in
    let k = c.args.key.now in
    absent_at k ms c.loop-low.low c.requires (find_member-end (find_member k ms) c.loop-low.low c.loop-low.high c.loop-low.invariant.front c.loop-low.invariant.back (omega arith))
