use Rattle.std.proofs.Common.{◌≡◌, ◌<◌, ◌∷◌, ◌++◌, length, map, arith, ap, subst, ◌∙◌}
use Rattle.event_tree.specs.Values.{on_values}
use Rattle.event_tree.proofs.Depths.{falls_member}
use Rattle.crc_frame.specs.Fronts.{count_bytes}
use Rattle.element_code.specs.Parts.{part_bytes, key, bytes_of, items_parts, members_parts, parts, spelling}
use Rattle.element_code.specs.Adds.{Writes}
use Rattle.event_tree.proofs.Adding.{keeps_on}
use Rattle.element_code.proofs.Added.{then_writes, stops}
use Rattle.element_code.proofs.Spellings.{spelling-List, spelling-Object, items_on, members_on}
use Rattle.element_code.proofs.encoding.+write.Goals as goal

pub add_items-returns-in_err-add_value : goal.add_items-returns-in_err-add_value
add_items-returns-in_err-add_value t c = stops c.from_residual.result _ c.args.to.now.items c.add_value.new.to.items c.from_residual.ensures.0 (keeps_on c.args.to.now.items c.loop-item.to.items c.add_value.new.to.items c.loop-item.invariant.keeps c.in_err-add_value.ensures)

pub add_items-loop-item-preserved : goal.add_items-loop-item-preserved
add_items-loop-item-preserved t c =
    let lt : c.loop-item.item-index < length c.args.items.now = omega (arith, c.loop-item-test.true) in
    record {
      rest = items_on c.args.items.now c.loop-item.item-index c.item-item.result c.loop-item.to.items c.add_value.new.to.items _ lt c.item-item.is c.in_ok-add_value.ensures c.loop-item.invariant.rest;
      keeps = keeps_on c.args.to.now.items c.loop-item.to.items c.add_value.new.to.items c.loop-item.invariant.keeps (_, c.in_ok-add_value.ensures);
    }

pub add_members-add_value-requires : goal.add_members-add_value-requires
add_members-add_value-requires t c =
    let lt : c.loop-member.member-index < length c.args.members.now = omega (arith, c.loop-member-test.true) in
    (omega (arith, falls_member c.args.members.now c.loop-member.member-index c.member-item.result c.member-item.is lt), tt)

pub add_members-returns-in_err-add_value : goal.add_members-returns-in_err-add_value
add_members-returns-in_err-add_value t c = stops c.from_residual-in_err-add_value.result _ c.args.to.now.items c.add_value.new.to.items c.from_residual-in_err-add_value.ensures.0
    (keeps_on c.args.to.now.items c.loop-member.to.items c.add_value.new.to.items c.loop-member.invariant.keeps (keeps_on c.loop-member.to.items c.add_key.new.to.items c.add_value.new.to.items (_, c.in_ok-add_key.ensures) c.in_err-add_value.ensures))

pub add_members-loop-member-preserved : goal.add_members-loop-member-preserved
add_members-loop-member-preserved t c =
    let lt : c.loop-member.member-index < length c.args.members.now = omega (arith, c.loop-member-test.true) in
    let m = c.member-item.result in
    let keyed : c.add_key.new.to.items ≡ c.loop-member.to.items ++ part_bytes (key m.0) = c.in_ok-add_key.ensures ∙ ap (λ k. c.loop-member.to.items ++ part_bytes (key k)) c.as_str.ensures in
    record {
      rest = members_on c.args.members.now c.loop-member.member-index m c.loop-member.to.items c.add_key.new.to.items c.add_value.new.to.items _ lt c.member-item.is keyed c.in_ok-add_value.ensures c.loop-member.invariant.rest;
      keeps = keeps_on c.args.to.now.items c.loop-member.to.items c.add_value.new.to.items c.loop-member.invariant.keeps (keeps_on c.loop-member.to.items c.add_key.new.to.items c.add_value.new.to.items (_, keyed) (_, c.in_ok-add_value.ensures));
    }

pub add_value-returns-in_ok-add-in-List : goal.add_value-returns-in_ok-add-in-List
add_value-returns-in_ok-add-in-List t c =
    let vs = c.in-List.items in
    let e : spelling c.args.value.now ≡ (6 ∷ count_bytes (length vs)) ++ bytes_of (items_parts (map parts vs)) = ap spelling c.in-List.is ∙ spelling-List vs in
    then_writes c.add_items.result (6 ∷ count_bytes (length vs)) (bytes_of (items_parts (map parts vs))) (spelling c.args.value.now) c.args.to.now.items c.add-in-List.new.to.items c.add_items.new.to.items e (c.in_ok-add-in-List.ensures ∙ ap (λ bs. c.args.to.now.items ++ bs) (c.head_of.ensures ∙ ap (λ n. 6 ∷ count_bytes n) c.len.ensures)) (subst (λ s. Writes c.add_items.result (bytes_of (items_parts (map parts s))) c.add-in-List.new.to.items c.add_items.new.to.items) c.as_slice.ensures c.add_items.ensures)

pub add_value-returns-in_ok-add-in-Object : goal.add_value-returns-in_ok-add-in-Object
add_value-returns-in_ok-add-in-Object t c =
    let ms = c.in-Object.fields in
    let e : spelling c.args.value.now ≡ (7 ∷ count_bytes (length ms)) ++ bytes_of (members_parts (on_values parts ms)) = ap spelling c.in-Object.is ∙ spelling-Object ms in
    then_writes c.add_members.result (7 ∷ count_bytes (length ms)) (bytes_of (members_parts (on_values parts ms))) (spelling c.args.value.now) c.args.to.now.items c.add-in-Object.new.to.items c.add_members.new.to.items e (c.in_ok-add-in-Object.ensures ∙ ap (λ bs. c.args.to.now.items ++ bs) (c.head_of-in-Object.ensures ∙ ap (λ n. 7 ∷ count_bytes n) c.len-in-Object.ensures)) (subst (λ s. Writes c.add_members.result (bytes_of (members_parts (on_values parts s))) c.add-in-Object.new.to.items c.add_members.new.to.items) c.members.ensures.same c.add_members.ensures)
