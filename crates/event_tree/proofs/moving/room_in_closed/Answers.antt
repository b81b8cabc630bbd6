use Rattle.std.proofs.Common.{◌≡◌, ◌-◌, length, Some, None, sym, ap, ◌∙◌, arith, slice_get}
use Rattle.std.specs.Option.{option_copied}
use Rattle.event_tree.specs.Paths.{list_place}
use Rattle.event_tree.proofs.Sizes.{size-List, items_size-get}
use Rattle.event_tree.proofs.TakenAway.{in_list, in_list-none, closed_before, closed_after}
use Rattle.event_tree.proofs.moving.room_in_closed.Goals as goal
use Rattle.event_tree.proofs.moving.room_in_closed.Goals.{then-index-gone, else-index-gone}

pub room_at-requires : goal.room_at-requires
room_at-requires c = omega (arith, c.requires, size-List c.args.items.now, items_size-get c.args.items.now c.if-index-gone.before c.in-Some.inner.now (sym c.in-Some.ensures))

pub returns-in-Some : goal.returns-in-Some
returns-in-Some c within =
    let vs = c.args.items.now in
    let rest = c.args.rest.now in
    let room = c.args.room in
    let place : list_place c.args.part.now (length vs - 1) ≡ Some c.in_ok-index.index = ap (λ n. list_place c.args.part.now (n - 1)) (sym c.len-2.ensures) ∙ ap (λ s. list_place s (c.len-2.result - 1)) (sym c.as_str.ensures) ∙ sym c.in_ok-index.ensures.exact in
    let found : slice_get vs c.if-index-gone.before ≡ Some c.in-Some.inner.now = sym c.in-Some.ensures in
    c.room_at.ensures.room ∙ sym (ap (in_list room rest) found) ∙ elim c.if-index-gone.branch [
      | then-index-gone w ↦ ap (λ i. in_list room rest (slice_get vs i)) w.before-is ∙ sym (closed_before room c.args.part.now rest vs c.args.gone within c.in_ok-index.index place (omega (arith, w.if-index-gone.true)))
      | else-index-gone w ↦ ap (λ i. in_list room rest (slice_get vs i)) w.before-is ∙ sym (closed_after room c.args.part.now rest vs c.args.gone within c.in_ok-index.index place (omega (arith, w.if-index-gone.false)))
    ]

pub returns-in-None : goal.returns-in-None
returns-in-None c within =
    let vs = c.args.items.now in
    let rest = c.args.rest.now in
    let room = c.args.room in
    let place : list_place c.args.part.now (length vs - 1) ≡ Some c.in_ok-index.index = ap (λ n. list_place c.args.part.now (n - 1)) (sym c.len-2.ensures) ∙ ap (λ s. list_place s (c.len-2.result - 1)) (sym c.as_str.ensures) ∙ sym c.in_ok-index.ensures.exact in
    let found : slice_get vs c.if-index-gone.before ≡ None = sym c.get.ensures ∙ ap option_copied c.in-None.is in
    ap Some c.room_after_parts.ensures.room ∙ sym (in_list-none room rest) ∙ sym (ap (in_list room rest) found) ∙ elim c.if-index-gone.branch [
      | then-index-gone w ↦ ap (λ i. in_list room rest (slice_get vs i)) w.before-is ∙ sym (closed_before room c.args.part.now rest vs c.args.gone within c.in_ok-index.index place (omega (arith, w.if-index-gone.true)))
      | else-index-gone w ↦ ap (λ i. in_list room rest (slice_get vs i)) w.before-is ∙ sym (closed_after room c.args.part.now rest vs c.args.gone within c.in_ok-index.index place (omega (arith, w.if-index-gone.false)))
    ]
