use Rattle.std.proofs.Common.{◌≡◌, length, Ok, Err, sym, ap, subst, ◌∙◌}
use Rattle.io_traits.specs.declared.queue_faults.QueueFault.{QueueFault}
use Rattle.io_traits.specs.declared.queue_faults.QueueFault.TheVariants as f
use Rattle.std.specs.Prelude.{Result}
use Rattle.pipeline_bus.specs.Ends.{taking}
use Rattle.dead_letter_reader.specs.Ready.{IsReady}
use Rattle.dead_letter_reader.specs.Work.{work}
use Rattle.dead_letter_reader.specs.declared.sender.SendOutcome.{SendOutcome}
use Rattle.queue_tests.proofs.senders.add_words.Goals as goal
use Rattle.queue_tests.proofs.senders.add_words.Goals.{then-eq+in-Ok+in_ok-push_str-in-Ok, else-eq+in_ok-given}

no_fault : (sent : SendOutcome) (r : Result SendOutcome QueueFault) → r ≡ Ok sent → r ≡ Err f.Fault → ⊥
no_fault sent r is other = let e : Ok sent ≡ Err f.Fault = sym is ∙ other in cc

pub loop-word-preserved : goal.loop-word-preserved
loop-word-preserved g c = elim c.if-eq.branch [
  | then-eq+in-Ok+in_ok-push_str-in-Ok e ↦
      let ready = e.step.ensures.ready (no_fault e.in-Ok.sent e.step.result e.in-Ok.is) in
      record {
        ready = subst (λ r. IsReady g.S.Store (work r) c.if-eq.store) (sym e.reader-is) (subst (λ s. IsReady g.S.Store (work e.step.new.self) s) (sym e.store-is) ready);
        given = ap (λ t. length (taking t).given) e.taker-is ∙ c.loop-word.invariant.given ∙ sym e.given-is;
      }
  | else-eq+in_ok-given e ↦
      record {
        ready = subst (λ r. IsReady g.S.Store (work r) c.if-eq.store) (sym e.reader-is) (subst (λ s. IsReady g.S.Store (work c.loop-word.reader) s) (sym e.store-is) c.loop-word.invariant.ready);
        given = ap (λ t. length (taking t).given) e.taker-is ∙ e.in_ok-given.ensures ∙ sym e.given-is;
      }
]
