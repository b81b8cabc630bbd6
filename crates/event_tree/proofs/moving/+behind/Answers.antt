use Rattle.std.proofs.Common.{◌≡◌, ◌≢◌, ◌<◌, ◌∷◌, [], length, Some, None, sym, ap, ◌∙◌, arith, rules, slice_get}
use Rattle.std.specs.Option.{option_copied}
use Rattle.std.specs.Cmp.Lexicographic.{bytes_decides}
use Rattle.plain_data.specs.Members.{get_member}
use Rattle.event_tree.specs.Sizes.{size}
use Rattle.event_tree.specs.Paths.{list_place, take}
use Rattle.event_tree.specs.Growth.{room_at_end}
use Rattle.event_tree.specs.declared.value.Value.TheVariants as v
use Rattle.event_tree.proofs.Sizes.{size-List, size-Object, items_size-get, members_size-get}
use Rattle.event_tree.proofs.TakeSteps.{no_parts}
use Rattle.event_tree.proofs.TakenAway.{in_object, in_object-none, in_list, in_list-none, other_field, same_field_cut, same_field, closed, no_item, other_item, same_item}
use Rattle.event_tree.proofs.Moves.{differ}
use Rattle.event_tree.proofs.moving.+behind.Goals as goal

pub room_behind-returns-in-Object : goal.room_behind-returns-in-Object
room_behind-returns-in-Object t c x left h s =
    let taken = ap (λ l. take l (v.Object c.in-Object.fields)) (sym c.in_ok-gone.ensures.cases.0) ∙ ap (take c.args.from.now) (sym c.in-Object.is) ∙ h in
    c.room_behind_field.ensures x left taken (s ∙ ap size c.in-Object.is) ∙ ap (λ l. room_at_end c.args.room l left) (sym c.in-Some.ensures.cases.0)

pub room_behind-returns-in-List : goal.room_behind-returns-in-List
room_behind-returns-in-List t c x left h s =
    let taken = ap (λ l. take l (v.List c.in-List.items)) (sym c.in_ok-gone.ensures.cases.0) ∙ ap (take c.args.from.now) (sym c.in-List.is) ∙ h in
    c.room_behind_item.ensures x left taken (s ∙ ap size c.in-List.is) ∙ ap (λ l. room_at_end c.args.room l left) (sym c.in-Some.ensures.cases.0)

pub room_behind_field-returns-then-is_empty : goal.room_behind_field-returns-then-is_empty
room_behind_field-returns-then-is_empty t c x left h s =
    let ms = c.args.fields.now in
    let same : c.args.part.now ≡ c.args.gone.now = (bytes_decides c.args.part.now c.args.gone.now).0 (sym c.if-eq.ensures) in
    let n : length c.args.more.now ≡ 0 = search rules in
    let taken : take (c.args.part.now ∷ []) (v.Object ms) ≡ Some (x, left) = ap (λ k. take (k ∷ []) (v.Object ms)) same ∙ ap (λ l. take (c.args.gone.now ∷ l) (v.Object ms)) (sym (no_parts c.args.more.now n)) ∙ h in
    ap Some c.room_after_member.ensures.room ∙ sym (same_field_cut c.args.room c.args.part.now c.args.rest.now ms x left c.members-members.ensures.rises taken)

pub room_behind_field-room_behind-requires : goal.room_behind_field-room_behind-requires
room_behind_field-room_behind-requires t c =
    (search rules, (omega (arith, c.requires.room, size-Object c.args.fields.now, members_size-get c.as_str.result.now c.args.fields.now c.in_ok-get.field-0.now (sym c.in_ok-get.ensures)), c.requires.freed))

pub room_behind_field-returns-then-eq : goal.room_behind_field-returns-then-eq
room_behind_field-returns-then-eq t c x left h s =
    let ms = c.args.fields.now in
    let same : c.args.part.now ≡ c.args.gone.now = (bytes_decides c.args.part.now c.args.gone.now).0 (sym c.if-eq.ensures) in
    let n : 0 < length c.args.more.now = search rules in
    let found : get_member c.args.part.now ms ≡ Some c.in_ok-get.field-0.now = ap (λ s. get_member s ms) (sym c.as_str.ensures) ∙ sym c.in_ok-get.ensures in
    let taken : take (c.args.part.now ∷ c.args.more.now) (v.Object ms) ≡ Some (x, left) = ap (λ k. take (k ∷ c.args.more.now) (v.Object ms)) same ∙ h in
    let r = same_field c.args.room c.args.part.now c.args.rest.now c.args.more.now ms x left c.args.freed c.in_ok-get.field-0.now n found taken s in
    c.room_behind.ensures x r.0 r.1 r.2 ∙ sym r.3

pub room_behind_field-room_at-requires : goal.room_behind_field-room_at-requires
room_behind_field-room_at-requires t c = omega (arith, c.requires.room, size-Object c.args.fields.now, members_size-get c.as_str-2.result.now c.args.fields.now c.in-Some.inner.now (sym c.in-Some.ensures))

pub room_behind_field-returns-in-Some : goal.room_behind_field-returns-in-Some
room_behind_field-returns-in-Some t c x left h s =
    let ms = c.args.fields.now in
    let q = c.args.part.now in
    let found : get_member q ms ≡ Some c.in-Some.inner.now = ap (λ s. get_member s ms) (sym c.as_str-2.ensures) ∙ sym c.in-Some.ensures in
    c.room_at.ensures.room ∙ sym (other_field c.args.room q c.args.rest.now c.args.gone.now c.args.more.now ms x left (differ q c.args.gone.now c.if-eq.ensures) h ∙ ap (in_object c.args.room q c.args.rest.now) found)

pub room_behind_field-returns-in-None : goal.room_behind_field-returns-in-None
room_behind_field-returns-in-None t c x left h s =
    let ms = c.args.fields.now in
    let q = c.args.part.now in
    let found : get_member q ms ≡ None = ap (λ s. get_member s ms) (sym c.as_str-2.ensures) ∙ sym c.get-2.ensures ∙ ap option_copied c.in-None.is in
    ap Some c.room_after_member-in-None.ensures.room ∙ sym (other_field c.args.room q c.args.rest.now c.args.gone.now c.args.more.now ms x left (differ q c.args.gone.now c.if-eq.ensures) h ∙ ap (in_object c.args.room q c.args.rest.now) found ∙ in_object-none c.args.room q c.args.rest.now)

pub room_behind_item-returns-then-is_empty : goal.room_behind_item-returns-then-is_empty
room_behind_item-returns-then-is_empty t c x left h s =
    let vs = c.args.items.now in
    let n : length c.args.more.now ≡ 0 = search rules in
    let taken : take (c.args.gone.now ∷ []) (v.List vs) ≡ Some (x, left) = ap (λ l. take (c.args.gone.now ∷ l) (v.List vs)) (sym (no_parts c.args.more.now n)) ∙ h in
    let place : list_place c.args.gone.now (length vs) ≡ Some c.in_ok-index.index = ap (list_place c.args.gone.now) (sym c.len.ensures) ∙ ap (λ s. list_place s c.len.result) (sym c.as_str.ensures) ∙ sym c.in_ok-index.ensures.exact in
    let r = closed c.args.gone.now vs x left c.in_ok-index.index taken place in
    c.room_in_closed.ensures r.0 ∙ ap (room_at_end c.args.room (c.args.part.now ∷ c.args.rest.now)) (sym r.1)

pub room_behind_item-returns-in_err-place : goal.room_behind_item-returns-in_err-place
room_behind_item-returns-in_err-place t c x left h s =
    let vs = c.args.items.now in
    let n : 0 < length c.args.more.now = search rules in
    let gone : list_place c.args.gone.now (length vs) ≡ Some c.in_ok-index.index = ap (list_place c.args.gone.now) (sym c.len.ensures) ∙ ap (λ s. list_place s c.len.result) (sym c.as_str.ensures) ∙ sym c.in_ok-index.ensures.exact in
    let place : list_place c.args.part.now (length vs) ≡ None = ap (list_place c.args.part.now) (sym c.len-2.ensures) ∙ ap (λ s. list_place s c.len-2.result) (sym c.as_str-2.ensures) ∙ sym c.in_err-place.ensures.exact in
    c.from_residual-in_err-place.ensures ∙ sym (no_item c.args.room c.args.part.now c.args.rest.now vs c.args.gone.now c.args.more.now x left c.in_ok-index.index n gone h place)

pub room_behind_item-room_behind-requires : goal.room_behind_item-room_behind-requires
room_behind_item-room_behind-requires t c =
    (search rules, (omega (arith, c.requires.room, size-List c.args.items.now, items_size-get c.args.items.now c.in_ok-index.index c.in_ok-get.field-0.now (sym c.in_ok-get.ensures)), c.requires.freed))

pub room_behind_item-returns-then-place-index : goal.room_behind_item-returns-then-place-index
room_behind_item-returns-then-place-index t c x left h s =
    let vs = c.args.items.now in
    let n : 0 < length c.args.more.now = search rules in
    let gone : list_place c.args.gone.now (length vs) ≡ Some c.in_ok-index.index = ap (list_place c.args.gone.now) (sym c.len.ensures) ∙ ap (λ s. list_place s c.len.result) (sym c.as_str.ensures) ∙ sym c.in_ok-index.ensures.exact in
    let place : list_place c.args.part.now (length vs) ≡ Some c.in_ok-index.index = ap (list_place c.args.part.now) (sym c.len-2.ensures) ∙ ap (λ s. list_place s c.len-2.result) (sym c.as_str-2.ensures) ∙ sym c.in_ok-place.ensures.exact ∙ ap Some c.if-place-index.true in
    let r = same_item c.args.room c.args.part.now c.args.rest.now vs c.args.gone.now c.args.more.now x left c.in_ok-index.index n gone h c.args.freed c.in_ok-get.field-0.now place (sym c.in_ok-get.ensures) s in
    c.room_behind.ensures x r.0 r.1 r.2 ∙ sym r.3

pub room_behind_item-room_at-requires : goal.room_behind_item-room_at-requires
room_behind_item-room_at-requires t c = omega (arith, c.requires.room, size-List c.args.items.now, items_size-get c.args.items.now c.in_ok-place.place c.in-Some.inner.now (sym c.in-Some.ensures))

pub room_behind_item-returns-in-Some : goal.room_behind_item-returns-in-Some
room_behind_item-returns-in-Some t c x left h s =
    let vs = c.args.items.now in
    let n : 0 < length c.args.more.now = search rules in
    let gone : list_place c.args.gone.now (length vs) ≡ Some c.in_ok-index.index = ap (list_place c.args.gone.now) (sym c.len.ensures) ∙ ap (λ s. list_place s c.len.result) (sym c.as_str.ensures) ∙ sym c.in_ok-index.ensures.exact in
    let place : list_place c.args.part.now (length vs) ≡ Some c.in_ok-place.place = ap (list_place c.args.part.now) (sym c.len-2.ensures) ∙ ap (λ s. list_place s c.len-2.result) (sym c.as_str-2.ensures) ∙ sym c.in_ok-place.ensures.exact in
    let apart : c.in_ok-index.index ≢ c.in_ok-place.place = λ e. absurd (c.if-place-index.false (sym e)) in
    c.room_at.ensures.room ∙ sym (other_item c.args.room c.args.part.now c.args.rest.now vs c.args.gone.now c.args.more.now x left c.in_ok-index.index n gone h c.in_ok-place.place place apart ∙ ap (in_list c.args.room c.args.rest.now) (sym c.in-Some.ensures))

pub room_behind_item-returns-in-None : goal.room_behind_item-returns-in-None
room_behind_item-returns-in-None t c x left h s =
    let vs = c.args.items.now in
    let n : 0 < length c.args.more.now = search rules in
    let gone : list_place c.args.gone.now (length vs) ≡ Some c.in_ok-index.index = ap (list_place c.args.gone.now) (sym c.len.ensures) ∙ ap (λ s. list_place s c.len.result) (sym c.as_str.ensures) ∙ sym c.in_ok-index.ensures.exact in
    let place : list_place c.args.part.now (length vs) ≡ Some c.in_ok-place.place = ap (list_place c.args.part.now) (sym c.len-2.ensures) ∙ ap (λ s. list_place s c.len-2.result) (sym c.as_str-2.ensures) ∙ sym c.in_ok-place.ensures.exact in
    let apart : c.in_ok-index.index ≢ c.in_ok-place.place = λ e. absurd (c.if-place-index.false (sym e)) in
    let found : slice_get vs c.in_ok-place.place ≡ None = sym c.get-2.ensures ∙ ap option_copied c.in-None.is in
    ap Some c.room_after_parts.ensures.room ∙ sym (other_item c.args.room c.args.part.now c.args.rest.now vs c.args.gone.now c.args.more.now x left c.in_ok-index.index n gone h c.in_ok-place.place place apart ∙ ap (in_list c.args.room c.args.rest.now) found ∙ in_list-none c.args.room c.args.rest.now)
