use Rattle.std.proofs.Common.{◌≡◌, length, Some, sym, ap, ◌∙◌, slice_get}
use Rattle.std.specs.Option.{option_copied_mut}
use Rattle.plain_data.specs.Members.{get_member}
use Rattle.event_tree.specs.Paths.{list_place}
use Rattle.event_tree.proofs.Appends.{appends_member, appends_item}
use Rattle.event_tree.proofs.append.+append.Goals as goal

pub append_field-returns-in-Some : goal.append_field-returns-in-Some
append_field-returns-in-Some t c =
    let ms = c.args.fields.now in
    let p = c.args.part.now in
    let found : get_member p ms ≡ Some c.in-Some.inner.now = ap (λ s. get_member s ms) (sym c.as_str.ensures) ∙ sym c.get_mut.ensures.value ∙ ap option_copied_mut c.in-Some.is in
    appends_member c.append_in.result p c.as_str.result.now c.args.rest.now c.args.value ms c.in-Some.inner.now c.append_in.new.target c.as_str.ensures found c.append_in.ensures

pub append_item-returns-in-Some-get_mut : goal.append_item-returns-in-Some-get_mut
append_item-returns-in-Some-get_mut t c =
    let vs = c.args.items.now in
    let p = c.args.part.now in
    let i = c.in-Some.index in
    let place : list_place p (length vs) ≡ Some i = ap (list_place p) (sym c.len.ensures) ∙ ap (λ s. list_place s c.len.result) (sym c.as_str.ensures) ∙ sym c.place_in.ensures.exact ∙ c.in-Some.is in
    let found : slice_get vs i ≡ Some c.in-Some-get_mut.inner.now = sym c.get_mut.ensures.value ∙ ap option_copied_mut c.in-Some-get_mut.is in
    appends_item c.append_in.result p c.args.rest.now c.args.value vs i c.in-Some-get_mut.inner.now c.append_in.new.target place found c.append_in.ensures
