use Rattle.std.proofs.Common.{◌≡◌, Some, sym, ap, ◌∙◌, arith, rules, slice_get}
use Rattle.std.specs.Option.{option_copied}
use Rattle.plain_data.specs.Members.{get_member}
use Rattle.event_tree.specs.Sizes.{size}
use Rattle.event_tree.specs.declared.value.Value.TheVariants as v
use Rattle.event_tree.proofs.Sizes.{size-List, size-Object, items_size-get, members_size-get}
use Rattle.event_tree.proofs.measure.+room_at.Goals as goal

pub room_at-requires : goal.room_at-requires
room_at-requires t c =
    let ms = c.in-Object.fields in
    let found : get_member c.as_str.result.now ms ≡ Some c.in-Some-get.inner.now = sym c.get.ensures ∙ ap option_copied c.in-Some-get.is in
    let s : size c.args.target.now ≡ size (v.Object ms) = ap size c.in-Object.is in
    (search rules, omega (arith, s, size-Object ms, members_size-get c.as_str.result.now ms c.in-Some-get.inner.now found))

pub room_at-requires-in-Some-get-2 : goal.room_at-requires-in-Some-get-2
room_at-requires-in-Some-get-2 t c =
    let vs = c.in-List.items in
    let i = c.in_ok-place_in-in-List.field-0 in
    let found : slice_get vs i ≡ Some c.in-Some-get-2.inner.now = sym c.get-in-List.ensures ∙ ap option_copied c.in-Some-get-2.is in
    let s : size c.args.target.now ≡ size (v.List vs) = ap size c.in-List.is in
    (search rules, omega (arith, s, size-List vs, items_size-get vs i c.in-Some-get-2.inner.now found))
