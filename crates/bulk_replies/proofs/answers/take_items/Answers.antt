use Rattle.std.proofs.Common.{◌≡◌, None, ◌∙◌, arith, rules}
use Rattle.json.specs.Json.{after_end_array}
use Rattle.bulk_replies.proofs.ItemRuns.{said_added, said_all, said_start}
use Rattle.bulk_replies.proofs.Readings.{item_passed, list_ends, list_opens, no_item, reads_shorter}
use Rattle.bulk_replies.proofs.answers.take_items.Goals as goal

pub loop-said-init : goal.loop-said-init
loop-said-init g c = (_, list_opens 125 _ _ (rw c.in-None.is at c.in_ok-take.ensures), said_start _ (search (c.in_ok-said.ensures, rules)))

pub returns-in_err-saying : goal.returns-in_err-saying
returns-in_err-saying g c =
    let going : (after_end_array (g.T.Passes.left c.loop-said.reader) ≡ None) × (g.T.Passes.left c.take_end_array.new.self ≡ g.T.Passes.left c.loop-said.reader) = grind arith in
    let none = λ (sure : g.T.Passes.sure). no_item 125 _ _ _ c.loop-said.invariant.1 going.0 (rw (← going.1) (c.in_err-saying.ensures sure)) in
    grind (arith, none)

pub loop-said-smaller : goal.loop-said-smaller
loop-said-smaller g c =
    let going : (after_end_array (g.T.Passes.left c.loop-said.reader) ≡ None) × (g.T.Passes.left c.take_end_array.new.self ≡ g.T.Passes.left c.loop-said.reader) = grind arith in
    rw (← going.1) (reads_shorter 125 _ _ _ c.in_ok-saying.ensures.1)

pub loop-said-preserved : goal.loop-said-preserved
loop-said-preserved g c =
    let going : (after_end_array (g.T.Passes.left c.loop-said.reader) ≡ None) × (g.T.Passes.left c.take_end_array.new.self ≡ g.T.Passes.left c.loop-said.reader) = grind arith in
    let read = c.in_ok-saying.ensures in (
      _,
      item_passed 125 _ _ _ c.loop-said.invariant.1 going.0 (g.T.Passes.left c.take_item.new.reader) read.0 (rw (← going.1) read.1),
      said_added c.loop-said.invariant.0 _ _ _ read.0 c.loop-said.invariant.2 read.2 c.in_ok-all.ensures,
    )

pub returns : goal.returns
returns g c = (_, list_ends 125 _ _ _ _ c.loop-said.invariant.1 (grind arith), c.then_some.ensures ∙ said_all c.loop-said.invariant.0 _ c.loop-said.invariant.2)
