use Rattle.std.proofs.Common.{◌≡◌, nat_lt, true, false, arith, refl}
use Rattle.std.proofs.lemmas.Bool.Decides.{nat_tests}
use Rattle.event_tree.specs.Events.{event_depth, event_size}
use Rattle.event_text.proofs.path_laws.events_have_limits.Goals as goal

pub returns-clause-held : goal.returns-clause-held
returns-clause-held c event is = (is.shallow, is.small)

pub returns-clause-none : goal.returns-clause-none
returns-clause-none c = refl

pub returns-clause-deep : goal.returns-clause-deep
returns-clause-deep c event deep = let t : nat_lt 128 (event_depth event) ≡ true = grind (arith, nat_tests) in rw t refl

pub returns-clause-large : goal.returns-clause-large
returns-clause-large c event (shallow, large) = let t : nat_lt 128 (event_depth event) ≡ false = grind (arith, nat_tests) in
    let u : nat_lt 16777216 (event_size event) ≡ true = grind (arith, nat_tests) in rw (t, u) refl

pub returns-clause-put : goal.returns-clause-put
returns-clause-put c event (shallow, small) = let t : nat_lt 128 (event_depth event) ≡ false = grind (arith, nat_tests) in
    let u : nat_lt 16777216 (event_size event) ≡ false = grind (arith, nat_tests) in rw (t, u) refl
