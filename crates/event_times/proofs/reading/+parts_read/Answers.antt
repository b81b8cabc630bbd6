use Rattle.std.proofs.Common.{rules, ◌≡◌, ℕ, List, ◌∷◌, Some, None, option_and_then, sym, ap, ◌∙◌}
use Rattle.event_times.specs.declared.moment.TimeParts.{TimeParts}
use Rattle.event_times.specs.Reading.{first_reading, other_reading, parts_read}
use Rattle.event_times.proofs.ItemSteps.{at_end, before_end, rest_read, by_first, no_first, past_first}
use Rattle.event_times.proofs.reading.+parts_read.Goals.{in-Some-first_reading+in_default-parts_read, in_default-first_reading}
use Rattle.event_times.proofs.reading.+parts_read.Goals as goal

pub returns-then-is_empty : goal.returns-then-is_empty
returns-then-is_empty n c = at_end c.args.items.now c.args.parts c.args.text.now (search rules) (search rules)

pub returns-else-is_empty : goal.returns-else-is_empty
returns-else-is_empty n c = before_end c.args.items.now c.args.parts c.args.text.now (search rules) (search rules)

pub returns-in-Some-parts_read : goal.returns-in-Some-parts_read
returns-in-Some-parts_read n c =
    let f : TimeParts × List ℕ = (c.in-Some-first_reading.parts, c.in-Some-first_reading.rest.now) in
    let whole : c.args.items.now ≡ c.in-Some.item.now ∷ c.in-Some.items.now = search rules in
    let first : first_reading c.in-Some.item.now c.args.parts c.args.text.now ≡ Some f = search rules in
    let read : parts_read c.in-Some.items.now c.in-Some-first_reading.parts c.in-Some-first_reading.rest.now ≡ Some c.in-Some-parts_read.read = search rules in
    by_first c.args.items.now c.in-Some.items.now c.in-Some.item.now c.args.parts c.args.text.now whole f c.in-Some-parts_read.read first read

pub returns-in_err-parts : goal.returns-in_err-parts
returns-in_err-parts n c =
    let items = c.args.items.now in
    let is = c.in-Some.items.now in
    let i = c.in-Some.item.now in
    let p = c.args.parts in
    let s = c.args.text.now in
    let whole : items ≡ i ∷ is = search rules in
    let none : other_reading i p s ≡ None = search rules in
    let given : None ≡ c.from_residual.result = search rules in
    let past : parts_read items p s ≡ option_and_then (rest_read items is i p s whole) (other_reading i p s) =
    elim c.match-first_reading.branch [
      | in-Some-first_reading+in_default-parts_read w ↦
          past_first items is i p s whole (w.in-Some-first_reading.parts, w.in-Some-first_reading.rest.now) (search rules) (search rules)
      | in_default-first_reading w ↦ no_first items is i p s whole (search rules)
    ] in
    sym given ∙ sym (past ∙ ap (option_and_then (rest_read items is i p s whole)) none)

pub returns : goal.returns
returns n c =
    let items = c.args.items.now in
    let is = c.in-Some.items.now in
    let i = c.in-Some.item.now in
    let p = c.args.parts in
    let s = c.args.text.now in
    let whole : items ≡ i ∷ is = search rules in
    let f : TimeParts × List ℕ = (c.in_ok-parts.parts, c.in_ok-parts.rest.now) in
    let other : other_reading i p s ≡ Some f = search rules in
    let past : parts_read items p s ≡ option_and_then (rest_read items is i p s whole) (other_reading i p s) =
    elim c.match-first_reading.branch [
      | in-Some-first_reading+in_default-parts_read w ↦
          past_first items is i p s whole (w.in-Some-first_reading.parts, w.in-Some-first_reading.rest.now) (search rules) (search rules)
      | in_default-first_reading w ↦ no_first items is i p s whole (search rules)
    ] in
    c.parts_read-2.ensures ∙ sym (past ∙ ap (option_and_then (rest_read items is i p s whole)) other)
