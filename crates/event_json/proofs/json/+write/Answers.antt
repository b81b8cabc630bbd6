use Rattle.std.specs.Str.{IsUtf8}
use Rattle.std.proofs.Common.{ℕ, List, ◌≡◌, ◌<◌, [], ◌∷◌, ◌++◌, length, map, false, arith, ap, subst, ◌∙◌, OnOk}
use Rattle.event_tree.specs.Values.{on_values}
use Rattle.event_json.specs.Json.{json, quoted, items_json, members_json}
use Rattle.event_tree.specs.Adds.{Adds}
use Rattle.event_json.proofs.Jsons.{json-List, json-Object, items_on, members_on}
use Rattle.event_tree.proofs.Depths.{falls_member}
use Rattle.event_tree.proofs.Adding.{keeps_on}
use Rattle.event_tree.proofs.Sounds.{items_behind, members_behind}
use Rattle.event_json.proofs.Written.{keeps_err, keeps_after, adds_two}
use Rattle.event_json.proofs.json.+write.Goals as goal

pub add_items-returns-in_err-add_comma-clause-err : goal.add_items-returns-in_err-add_comma-clause-err
add_items-returns-in_err-add_comma-clause-err t c = keeps_err c.from_residual.result _ _ (keeps_on c.args.to.now.items c.loop-item.to.items c.add_comma.new.to.items c.loop-item.invariant.keeps c.in_err-add_comma.ensures.err)

pub add_items-returns-in_err-add_value-clause-err : goal.add_items-returns-in_err-add_value-clause-err
add_items-returns-in_err-add_value-clause-err t c = keeps_err c.from_residual-in_err-add_value.result _ _ (keeps_on c.args.to.now.items c.loop-item.to.items c.add_value.new.to.items c.loop-item.invariant.keeps
    (keeps_on c.loop-item.to.items c.add_comma.new.to.items c.add_value.new.to.items (_, c.in_ok-add_comma.ensures.ok) c.in_err-add_value.ensures.err))

pub add_items-returns-clause-err : goal.add_items-returns-clause-err
add_items-returns-clause-err t c = keeps_after c.add_text.result c.args.to.now.items c.loop-item.to.items c.add_text.new.to.items c.loop-item.invariant.keeps c.add_text.ensures.err

pub add_members-add_value-requires : goal.add_members-add_value-requires
add_members-add_value-requires t c =
    let lt : c.loop-member.member-index < length c.args.members.now = omega (arith, c.loop-member-test.true) in
    (omega (arith, falls_member c.args.members.now c.loop-member.member-index c.member-item.result c.member-item.is lt), tt)

pub add_members-returns-in_err-add_comma-clause-err : goal.add_members-returns-in_err-add_comma-clause-err
add_members-returns-in_err-add_comma-clause-err t c = keeps_err c.from_residual.result _ _ (keeps_on c.args.to.now.items c.loop-member.to.items c.add_comma.new.to.items c.loop-member.invariant.keeps c.in_err-add_comma.ensures.err)

pub add_members-returns-in_err-add_quoted-clause-err : goal.add_members-returns-in_err-add_quoted-clause-err
add_members-returns-in_err-add_quoted-clause-err t c = keeps_err c.from_residual-in_err-add_quoted.result _ _ (keeps_on c.args.to.now.items c.add_comma.new.to.items c.add_quoted.new.to.items (keeps_on c.args.to.now.items c.loop-member.to.items c.add_comma.new.to.items c.loop-member.invariant.keeps (_, c.in_ok-add_comma.ensures.ok)) c.in_err-add_quoted.ensures.err)

pub add_members-returns-in_err-add_text-clause-err : goal.add_members-returns-in_err-add_text-clause-err
add_members-returns-in_err-add_text-clause-err t c = keeps_err c.from_residual-in_err-add_text.result _ _ (keeps_on c.args.to.now.items c.add_quoted.new.to.items c.add_text.new.to.items (keeps_on c.args.to.now.items c.add_comma.new.to.items c.add_quoted.new.to.items (keeps_on c.args.to.now.items c.loop-member.to.items c.add_comma.new.to.items c.loop-member.invariant.keeps (_, c.in_ok-add_comma.ensures.ok)) (_, c.in_ok-add_quoted.ensures.ok)) c.in_err-add_text.ensures.err)

pub add_members-returns-in_err-add_value-clause-err : goal.add_members-returns-in_err-add_value-clause-err
add_members-returns-in_err-add_value-clause-err t c = keeps_err c.from_residual-in_err-add_value.result _ _ (keeps_on c.args.to.now.items c.add_text.new.to.items c.add_value.new.to.items (keeps_on c.args.to.now.items c.add_quoted.new.to.items c.add_text.new.to.items (keeps_on c.args.to.now.items c.add_comma.new.to.items c.add_quoted.new.to.items (keeps_on c.args.to.now.items c.loop-member.to.items c.add_comma.new.to.items c.loop-member.invariant.keeps (_, c.in_ok-add_comma.ensures.ok)) (_, c.in_ok-add_quoted.ensures.ok)) (_, c.in_ok-add_text.ensures.ok)) c.in_err-add_value.ensures.err)

pub add_members-returns-clause-err : goal.add_members-returns-clause-err
add_members-returns-clause-err t c = keeps_after c.add_text-2.result c.args.to.now.items c.loop-member.to.items c.add_text-2.new.to.items c.loop-member.invariant.keeps c.add_text-2.ensures.err

pub add_value-returns-in_ok-add_text-in-List-clause-ok : goal.add_value-returns-in_ok-add_text-in-List-clause-ok
add_value-returns-in_ok-add_text-in-List-clause-ok t c = adds_two c.add_items.result (91 ∷ []) (items_json false (map json c.in-List.items)) _ c.args.to.now.items c.add_text-in-List.new.to.items c.add_items.new.to.items (ap json c.in-List.is ∙ json-List c.in-List.items) c.in_ok-add_text-in-List.ensures.ok (subst (λ s. OnOk c.add_items.result (Adds (items_json false (map json s)) c.add_text-in-List.new.to.items c.add_items.new.to.items)) c.as_slice.ensures c.add_items.ensures.ok)

pub add_value-returns-in_ok-add_text-in-Object-clause-ok : goal.add_value-returns-in_ok-add_text-in-Object-clause-ok
add_value-returns-in_ok-add_text-in-Object-clause-ok t c = adds_two c.add_members.result (123 ∷ []) (members_json false (on_values json c.in-Object.fields)) _ c.args.to.now.items c.add_text-in-Object.new.to.items c.add_members.new.to.items (ap json c.in-Object.is ∙ json-Object c.in-Object.fields) c.in_ok-add_text-in-Object.ensures.ok (subst (λ s. OnOk c.add_members.result (Adds (members_json false (on_values json s)) c.add_text-in-Object.new.to.items c.add_members.new.to.items)) c.members.ensures.same c.add_members.ensures.ok)

pub add_items-loop-item-preserved : goal.add_items-loop-item-preserved
add_items-loop-item-preserved t c =
    let lt : c.loop-item.item-index < length c.args.items.now = omega (arith, c.loop-item-test.true) in
    record {
      rest = items_on c.args.items.now c.loop-item.item-index c.loop-item.later c.item-item.result c.loop-item.to.items c.add_comma.new.to.items c.add_value.new.to.items _ lt c.item-item.is c.in_ok-add_comma.ensures.ok c.in_ok-add_value.ensures.ok c.loop-item.invariant.rest;
      keeps = keeps_on c.args.to.now.items c.loop-item.to.items c.add_value.new.to.items c.loop-item.invariant.keeps (keeps_on c.loop-item.to.items c.add_comma.new.to.items c.add_value.new.to.items (_, c.in_ok-add_comma.ensures.ok) (_, c.in_ok-add_value.ensures.ok));
      sound = items_behind c.args.items.now c.loop-item.item-index c.item-item.result lt c.item-item.is c.in_ok-add_value.ensures.sound ∙ c.loop-item.invariant.sound;
    }

pub add_members-loop-member-preserved : goal.add_members-loop-member-preserved
add_members-loop-member-preserved t c =
    let lt : c.loop-member.member-index < length c.args.members.now = omega (arith, c.loop-member-test.true) in
    let m = c.member-item.result in
    let keyed : c.add_quoted.new.to.items ≡ c.add_comma.new.to.items ++ quoted m.0 = c.in_ok-add_quoted.ensures.ok ∙ ap (λ k. c.add_comma.new.to.items ++ quoted k) c.as_str.ensures in
    record {
      rest = members_on c.args.members.now c.loop-member.member-index c.loop-member.later m c.loop-member.to.items c.add_comma.new.to.items c.add_quoted.new.to.items c.add_text.new.to.items c.add_value.new.to.items _ lt c.member-item.is c.in_ok-add_comma.ensures.ok keyed c.in_ok-add_text.ensures.ok c.in_ok-add_value.ensures.ok c.loop-member.invariant.rest;
      keeps = keeps_on c.args.to.now.items c.loop-member.to.items c.add_value.new.to.items c.loop-member.invariant.keeps (keeps_on c.loop-member.to.items c.add_comma.new.to.items c.add_value.new.to.items (_, c.in_ok-add_comma.ensures.ok)
          (keeps_on c.add_comma.new.to.items c.add_quoted.new.to.items c.add_value.new.to.items (_, keyed) (keeps_on c.add_quoted.new.to.items c.add_text.new.to.items c.add_value.new.to.items (_, c.in_ok-add_text.ensures.ok) (_, c.in_ok-add_value.ensures.ok))));
      sound = members_behind c.args.members.now c.loop-member.member-index m lt c.member-item.is (subst (λ (ys : List ℕ). IsUtf8 ys) c.as_str.ensures c.as_str.utf8) c.in_ok-add_value.ensures.sound ∙ c.loop-member.invariant.sound;
    }
