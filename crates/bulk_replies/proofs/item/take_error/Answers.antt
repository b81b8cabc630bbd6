use Rattle.std.proofs.Common.{◌≡◌, Some, refl, arith}
use Rattle.json.specs.Json.{read_key}
use Rattle.json.proofs.Grammar.{read_key-shorter}
use Rattle.serde_json.specs.Data.{object}
use Rattle.bulk_replies.proofs.Additions.{said_text}
use Rattle.bulk_replies.proofs.Readings.{member_passed, no_key, no_member, object_ends, object_opens, reads_shorter}
use Rattle.bulk_replies.proofs.item.take_error.Goals as goal

pub loop-key-init : goal.loop-key-init
loop-key-init g c = (_, object_opens 122 _ _ (rw c.in-None.is at c.in_ok-take.ensures), (refl, refl))

pub returns-in_err-key : goal.returns-in_err-key
returns-in_err-key g c = let none = λ (sure : g.T.Passes.sure). no_key 122 _ _ _ c.loop-key.invariant.1 (c.in_err-key.ensures sure) in grind (arith, none)

pub returns-in_err-texts : goal.returns-in_err-texts
returns-in_err-texts g c =
    let key : read_key (g.T.Passes.left c.loop-key.reader) ≡ Some (Some c.in-Some.key.now, g.T.Passes.left c.next_key.new.self) = grind arith in
    let none = λ (sure : g.T.Passes.sure). no_member 122 _ _ _ c.loop-key.invariant.1 _ _ key (c.in_err-texts.ensures sure) in
    grind (arith, none)

pub loop-key-smaller : goal.loop-key-smaller
loop-key-smaller g c =
    let key : read_key (g.T.Passes.left c.loop-key.reader) ≡ Some (Some c.in-Some.key.now, g.T.Passes.left c.next_key.new.self) = grind arith in
    omega (arith, read_key-shorter _ _ _ key, reads_shorter 122 _ _ _ c.in_ok-texts.ensures.1)

pub loop-key-preserved : goal.loop-key-preserved
loop-key-preserved g c =
    let key : read_key (g.T.Passes.left c.loop-key.reader) ≡ Some (Some c.in-Some.key.now, g.T.Passes.left c.next_key.new.self) = grind arith in
    (_, member_passed 122 _ _ _ c.loop-key.invariant.1 _ _ _ _ key c.in_ok-texts.ensures.1, c.in_ok-texts.ensures.2 _ c.loop-key.invariant.2)

pub returns : goal.returns
returns g c = (
  _,
  object_ends 122 _ _ _ c.loop-key.invariant.1 _ (grind arith),
  said_text (object c.loop-key.invariant.0) c.loop-key.texts _ _ _ c.loop-key.invariant.2 c.or.ensures c.unwrap_or.ensures refl,
)
