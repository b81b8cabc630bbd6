use Rattle.std.proofs.Common.{◌≡◌, ◌∙◌, length, ap, sym}
use Rattle.pipeline_bus.specs.Parcels.{with_events}
use Rattle.link_tests.proofs.ends.Ends.new.Goals as goal

pub new-taker-requires : goal.new-taker-requires
unfolding with_events
new-taker-requires c =
    let new = c.in_ok-sends.ensures.taking in
    ap (λ t. with_events t.taken) new ∙ sym (ap (λ t. length t.given) new)
