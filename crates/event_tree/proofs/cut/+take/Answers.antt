use Rattle.std.proofs.Common.{◌≡◌, ◌<◌, length, Some, refl, sym, ap, ◌∙◌, arith, rules, slice_get, remove}
use Rattle.std.specs.Option.{option_map, option_copied_mut}
use Rattle.plain_data.specs.Members.{get_member, remove_member}
use Rattle.event_tree.specs.Paths.{list_place}
use Rattle.event_tree.specs.Sizes.{size}
use Rattle.event_tree.specs.declared.value.Value.TheVariants as v
use Rattle.event_tree.proofs.Sizes.{size-List, size-Object, items_size-remove, members_size-remove}
use Rattle.event_tree.proofs.TakeSteps.{no_parts, takes_no_member, takes_through_member, takes_no_item, takes_through_item, shorter_member, shorter_item}
use Rattle.event_tree.proofs.cut.+take.Goals as goal

pub take_field-returns-in-None-clause-taken : goal.take_field-returns-in-None-clause-taken
take_field-returns-in-None-clause-taken t c =
    let n : length c.args.rest.now ≡ 0 = search rules in
    takes_no_member c.args.part.now c.as_str.result.now c.args.rest.now c.args.fields.now c.remove.new.self (no_parts c.args.rest.now n) c.as_str.ensures (sym c.remove.ensures.removed ∙ c.in-None.is) c.remove.ensures.rest

pub take_field-returns-in-Some-clause-shorter : goal.take_field-returns-in-Some-clause-shorter
take_field-returns-in-Some-clause-shorter t c =
    let ms = c.args.fields.now in
    let p = c.as_str.result.now in
    let found : get_member p ms ≡ Some c.in-Some.value = sym c.remove.ensures.removed ∙ c.in-Some.is in
    let l : length p ≡ length c.args.part.now = ap length c.as_str.ensures in
    let k : size (v.Object c.remove.new.self) ≡ size (v.Object (remove_member p ms)) = ap (λ l. size (v.Object l)) c.remove.ensures.rest in
    omega (arith, k, l, size-Object ms, size-Object (remove_member p ms), members_size-remove p ms c.in-Some.value found)

pub take_field-returns-in-Some-get_mut-clause-taken : goal.take_field-returns-in-Some-get_mut-clause-taken
take_field-returns-in-Some-get_mut-clause-taken t c =
    let ms = c.args.fields.now in
    let p = c.args.part.now in
    let n : 0 < length c.args.rest.now = search rules in
    let found : get_member p ms ≡ Some c.in-Some-get_mut.inner.now = ap (λ s. get_member s ms) (sym c.as_str-2.ensures) ∙ sym c.get_mut.ensures.value ∙ ap option_copied_mut c.in-Some-get_mut.is in
    takes_through_member (option_map (λ cut. cut.value) c.take_in.result) p c.as_str-2.result.now c.args.rest.now ms c.in-Some-get_mut.inner.now c.take_in.new.target n c.as_str-2.ensures found c.take_in.ensures.taken

pub take_field-returns-in-Some-get_mut-clause-shorter : goal.take_field-returns-in-Some-get_mut-clause-shorter
take_field-returns-in-Some-get_mut-clause-shorter t c =
    let ms = c.args.fields.now in
    let p = c.args.part.now in
    let found : get_member p ms ≡ Some c.in-Some-get_mut.inner.now = ap (λ s. get_member s ms) (sym c.as_str-2.ensures) ∙ sym c.get_mut.ensures.value ∙ ap option_copied_mut c.in-Some-get_mut.is in
    shorter_member c.take_in.result p c.as_str-2.result.now ms c.in-Some-get_mut.inner.now c.take_in.new.target c.as_str-2.ensures found c.take_in.ensures.shorter

pub take_item-returns-then-index-len-clause-taken : goal.take_item-returns-then-index-len-clause-taken
take_item-returns-then-index-len-clause-taken t c =
    let vs = c.args.items.now in
    let p = c.args.part.now in
    let i = c.in-Some.index in
    let at : list_place p (length vs) ≡ Some i = ap (list_place p) (sym c.len.ensures) ∙ ap (λ s. list_place s c.len.result) (sym c.as_str.ensures) ∙ sym c.place_in.ensures.exact ∙ c.in-Some.is in
    (takes_no_item p c.args.rest.now vs i at (omega arith), refl)

pub take_item-returns-then-is_empty-clause-shorter : goal.take_item-returns-then-is_empty-clause-shorter
take_item-returns-then-is_empty-clause-shorter t c =
    let vs = c.args.items.now in
    let i = c.in-Some.index in
    let k : size (v.List c.remove-value.new.self) ≡ size (v.List (remove vs i)) = ap (λ l. size (v.List l)) c.remove-value.ensures.rest in
    omega (arith, k, size-List vs, size-List (remove vs i), items_size-remove vs i c.remove-value.result c.remove-value.ensures.item)

pub take_item-returns-in-Some-get_mut-clause-taken : goal.take_item-returns-in-Some-get_mut-clause-taken
take_item-returns-in-Some-get_mut-clause-taken t c =
    let vs = c.args.items.now in
    let p = c.args.part.now in
    let i = c.in-Some.index in
    let n : 0 < length c.args.rest.now = search rules in
    let at : list_place p (length vs) ≡ Some i = ap (list_place p) (sym c.len.ensures) ∙ ap (λ s. list_place s c.len.result) (sym c.as_str.ensures) ∙ sym c.place_in.ensures.exact ∙ c.in-Some.is in
    let found : slice_get vs i ≡ Some c.in-Some-get_mut.inner.now = sym c.get_mut.ensures.value ∙ ap option_copied_mut c.in-Some-get_mut.is in
    takes_through_item (option_map (λ cut. cut.value) c.take_in.result) p c.args.rest.now vs i c.in-Some-get_mut.inner.now c.take_in.new.target n at found c.take_in.ensures.taken

pub take_item-returns-in-Some-get_mut-clause-shorter : goal.take_item-returns-in-Some-get_mut-clause-shorter
take_item-returns-in-Some-get_mut-clause-shorter t c =
    let vs = c.args.items.now in
    let i = c.in-Some.index in
    let found : slice_get vs i ≡ Some c.in-Some-get_mut.inner.now = sym c.get_mut.ensures.value ∙ ap option_copied_mut c.in-Some-get_mut.is in
    shorter_item c.take_in.result vs i c.in-Some-get_mut.inner.now c.take_in.new.target found c.take_in.ensures.shorter
