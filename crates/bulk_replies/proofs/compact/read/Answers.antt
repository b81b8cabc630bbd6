use Rattle.std.proofs.Common.{◌≡◌, ◌∷◌, ap, ◌∙◌, sym, arith, true}
use Rattle.json.specs.Reads.{token_of}
use Rattle.bulk_replies.specs.Compact.{left_at, closes_at}
use Rattle.bulk_replies.proofs.Spots.{closes_array, closes_object, ended}
use Rattle.bulk_replies.proofs.compact.read.Goals as goal
use Rattle.bulk_replies.proofs.compact.read.Goals.{then-c-eq125, else-c-eq125}

pub returns-then-closes-clause-gives : goal.returns-then-closes-clause-gives
returns-then-closes-clause-gives c =
    let none = ended c.args.text.now c.args.spot (omega arith) (sym c.closes.ensures ∙ c.if-closes.true) in
    (none, none)

pub returns-then-c-clause-gives : goal.returns-then-c-clause-gives
returns-then-c-clause-gives c =
    let d = c.args.text.now in
    let s = c.args.spot in
    let next = c.behind_close.result in
    let may : closes_at s.place ≡ true = grind arith in
    elim c.if-c-eq125.branch [
      | then-c-eq125 w ↦ closes_object d s next (omega arith) (grind arith) may c.behind_close.ensures ∙ ap (λ t. token_of t ∷ left_at d next) (sym w.token-is)
      | else-c-eq125 w ↦ closes_array d s next (omega arith) (grind arith) may c.behind_close.ensures ∙ ap (λ t. token_of t ∷ left_at d next) (sym w.token-is)
    ]
