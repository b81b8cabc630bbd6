use Rattle.std.proofs.Common.{◌≡◌, Some, Err, refl, arith, rules}
use Rattle.json.specs.Json.{read_key}
use Rattle.json.proofs.Grammar.{read_key-shorter}
use Rattle.bulk_replies.proofs.Readings.{member_passed, no_key, no_member, object_ends, object_opens, reads_shorter, refuses_but}
use Rattle.bulk_replies.proofs.answers.take_body.Goals as goal

pub loop-said-init : goal.loop-said-init
loop-said-init g c = (_, object_opens 126 _ _ (rw c.in-None.is at c.in_ok-take.ensures), refl)

pub returns-in_err-key : goal.returns-in_err-key
returns-in_err-key g c = let none = λ (sure : g.T.Passes.sure). no_key 126 _ _ _ c.loop-said.invariant.1 (c.in_err-key.ensures sure) in grind (arith, none)

pub returns-in_err-said : goal.returns-in_err-said
returns-in_err-said g c =
    let key : read_key (g.T.Passes.left c.loop-said.reader) ≡ Some (Some c.in-Some.key.now, g.T.Passes.left c.next_key.new.self) = grind arith in
    let out : c.from_residual-in_err-said.result ≡ Err c.in_err-said.field-0.0 = search (c.from_residual-in_err-said.ensures, rules) in
    refuses_but _ _ 127 _ _ _ _ _ out (λ other sure. no_member 126 _ _ _ c.loop-said.invariant.1 _ _ key (c.in_err-said.ensures other sure))

pub loop-said-smaller : goal.loop-said-smaller
loop-said-smaller g c =
    let key : read_key (g.T.Passes.left c.loop-said.reader) ≡ Some (Some c.in-Some.key.now, g.T.Passes.left c.next_key.new.self) = grind arith in
    omega (arith, read_key-shorter _ _ _ key, reads_shorter 126 _ _ _ c.in_ok-said.ensures.1)

pub loop-said-preserved : goal.loop-said-preserved
loop-said-preserved g c =
    let key : read_key (g.T.Passes.left c.loop-said.reader) ≡ Some (Some c.in-Some.key.now, g.T.Passes.left c.next_key.new.self) = grind arith in
    (_, member_passed 126 _ _ _ c.loop-said.invariant.1 _ _ _ _ key c.in_ok-said.ensures.1, c.in_ok-said.ensures.2 _ c.loop-said.invariant.2)

pub returns : goal.returns
returns g c = (_, object_ends 126 _ _ _ c.loop-said.invariant.1 _ (grind arith), c.loop-said.invariant.2)
