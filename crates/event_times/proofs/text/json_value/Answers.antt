use Rattle.std.proofs.Common.{◌≡◌, List, ℕ, Result, Ok, Err, sym, ap, subst, rules}
use Rattle.event_json.specs.JsonValues.{JsonWithin}
use Rattle.event_json.proofs.Whole.{read_each}
use Rattle.event_json.specs.Faults.{IsOnly}
use Rattle.event_times.specs.Decoded.{found}
use Rattle.event_times.proofs.Unread.{unread}
use Rattle.event_times.proofs.text.json_value.Goals as goal

pub returns-in-Ok : goal.returns-in-Ok
returns-in-Ok c =
    let text = c.args.text.now in
    let is : JsonWithin 100 text c.in-Ok.value = subst (λ l. JsonWithin 100 l c.in-Ok.value) c.as_bytes.ensures.value c.in-Ok.ensures.found in
    sym (ap found (read_each 100 text c.in-Ok.value is))

pub returns-in-Err-At : goal.returns-in-Err-At
returns-in-Err-At c = unread c.args.text.now c.utf8.text (λ d is. search (c.read_json.ensures.only d (subst (λ l. JsonWithin 100 l d) (sym c.as_bytes.ensures.value) is), rules))

pub returns-in-Err-Deep : goal.returns-in-Err-Deep
returns-in-Err-Deep c = unread c.args.text.now c.utf8.text (λ d is. search (c.read_json.ensures.only d (subst (λ l. JsonWithin 100 l d) (sym c.as_bytes.ensures.value) is), rules))
