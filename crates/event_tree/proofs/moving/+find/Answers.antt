use Rattle.std.proofs.Common.{◌≡◌, ◌<◌, length, Some, sym, ap, ◌∙◌, arith, rules}
use Rattle.plain_data.specs.Members.{get_member}
use Rattle.event_tree.specs.Paths.{list_place}
use Rattle.event_tree.proofs.Sizes.{size-List, size-Object, items_size-get, members_size-get, members_size-remove}
use Rattle.event_tree.proofs.Moves.{finds_field_cut, finds_item_cut, finds_field, finds_item}
use Rattle.event_tree.proofs.moving.+find.Goals as goal

pub find_field-size_of-requires : goal.find_field-size_of-requires
find_field-size_of-requires t c = omega (arith, c.requires, size-Object c.args.fields.now, members_size-get c.as_str.result.now c.args.fields.now c.in_ok-value.value.now (sym c.in_ok-value.ensures))

pub find_field-overflow_add-bytes : goal.find_field-overflow_add-bytes
find_field-overflow_add-bytes t c = omega (arith, c.requires, c.size_of.ensures, size-Object c.args.fields.now, members_size-get c.as_str.result.now c.args.fields.now c.in_ok-value.value.now (sym c.in_ok-value.ensures))

pub find_field-overflow_add-bytes-then-is_empty : goal.find_field-overflow_add-bytes-then-is_empty
find_field-overflow_add-bytes-then-is_empty t c =
    let l : length c.as_str.result.now ≡ length c.args.part.now = ap length c.as_str.ensures in
    omega (arith, l, c.requires, c.size_of.ensures, c.len.ensures, size-Object c.args.fields.now, members_size-remove c.as_str.result.now c.args.fields.now c.in_ok-value.value.now (sym c.in_ok-value.ensures))

pub find_field-returns-then-is_empty : goal.find_field-returns-then-is_empty
find_field-returns-then-is_empty t c =
    let ms = c.args.fields.now in
    let found : get_member c.args.part.now ms ≡ Some c.in_ok-value.value.now = ap (λ s. get_member s ms) (sym c.as_str.ensures) ∙ sym c.in_ok-value.ensures in
    let n : length c.args.rest.now ≡ 0 = search rules in
    let r = finds_field_cut c.args.part.now c.args.rest.now ms c.in_ok-value.value.now n found in
    (r.0, r.1, omega (arith, r.2, c.size_of.ensures, c.len.ensures))

pub find_field-find-requires : goal.find_field-find-requires
find_field-find-requires t c =
    let n : 0 < length c.args.rest.now = search rules in
    (search rules, omega (arith, c.requires, size-Object c.args.fields.now, members_size-get c.as_str.result.now c.args.fields.now c.in_ok-value.value.now (sym c.in_ok-value.ensures)))

pub find_field-returns : goal.find_field-returns
find_field-returns t c =
    let ms = c.args.fields.now in
    let found : get_member c.args.part.now ms ≡ Some c.in_ok-value.value.now = ap (λ s. get_member s ms) (sym c.as_str.ensures) ∙ sym c.in_ok-value.ensures in
    let n : 0 < length c.args.rest.now = search rules in
    finds_field c.find.result c.args.part.now c.args.rest.now ms c.in_ok-value.value.now n found c.find.ensures

pub find_item-size_of-bytes-requires : goal.find_item-size_of-bytes-requires
find_item-size_of-bytes-requires t c = omega (arith, c.requires, size-List c.args.items.now, items_size-get c.args.items.now c.in_ok-place_in.field-0 c.in_ok-value.value.now (sym c.in_ok-value.ensures))

pub find_item-returns-then-is_empty : goal.find_item-returns-then-is_empty
find_item-returns-then-is_empty t c =
    let vs = c.args.items.now in
    let place : list_place c.args.part.now (length vs) ≡ Some c.in_ok-place_in.field-0 = ap (list_place c.args.part.now) (sym c.len.ensures) ∙ ap (λ s. list_place s c.len.result) (sym c.as_str.ensures) ∙ sym c.in_ok-place_in.ensures.exact in
    let n : length c.args.rest.now ≡ 0 = search rules in
    let r = finds_item_cut c.args.part.now c.args.rest.now vs c.in_ok-place_in.field-0 c.in_ok-value.value.now n place (sym c.in_ok-value.ensures) in
    (r.0, r.1, omega (arith, r.2, c.size_of-bytes.ensures))

pub find_item-find-requires : goal.find_item-find-requires
find_item-find-requires t c =
    let n : 0 < length c.args.rest.now = search rules in
    (search rules, omega (arith, c.requires, size-List c.args.items.now, items_size-get c.args.items.now c.in_ok-place_in.field-0 c.in_ok-value.value.now (sym c.in_ok-value.ensures)))

pub find_item-returns : goal.find_item-returns
find_item-returns t c =
    let vs = c.args.items.now in
    let place : list_place c.args.part.now (length vs) ≡ Some c.in_ok-place_in.field-0 = ap (list_place c.args.part.now) (sym c.len.ensures) ∙ ap (λ s. list_place s c.len.result) (sym c.as_str.ensures) ∙ sym c.in_ok-place_in.ensures.exact in
    let n : 0 < length c.args.rest.now = search rules in
    finds_item c.find.result c.args.part.now c.args.rest.now vs c.in_ok-place_in.field-0 c.in_ok-value.value.now n place (sym c.in_ok-value.ensures) c.find.ensures
