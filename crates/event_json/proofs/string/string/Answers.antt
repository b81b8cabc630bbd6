use Rattle.std.proofs.Common.{◌≡◌, List, ℕ, Ok, sym, ap, ◌∙◌, string_bytes, rules}
use Rattle.std.proofs.lemmas.Result.{err_from_is_err_and}
use Rattle.event_json.specs.Reading.{escaped, inside_at, string_at}
use Rattle.event_json.proofs.Contents.{quote_ends, slash_on, special_refused}
use Rattle.event_json.proofs.string.string.Goals as goal

pub returns-in-Some : goal.returns-in-Some
returns-in-Some c =
    let f = string_bytes c.add_run.new.to in
    sym c.loop-found.invariant.so_far ∙ c.in_ok-held.ensures.goes.0 ∙ quote_ends c.in_ok-held.special.now c.in-Some.behind.now c.in_ok-held.held f c.in-Some.ensures
    ∙ ap (λ (ys : List ℕ). Ok (ys, c.in-Some.behind.now)) (sym c.in_ok-add_lone.ensures ∙ sym c.from_string.ensures)

pub returns-in_default-after_byte : goal.returns-in_default-after_byte
returns-in_default-after_byte c =
    let f = string_bytes c.add_run.new.to in
    rw (c.stopped.ensures, c.as_bytes.ensures.value) (sym c.loop-found.invariant.so_far ∙ c.in_ok-held.ensures.goes.0 ∙ special_refused c.in_ok-held.special.now c.in_ok-held.held f c.in_ok-held.ensures.special c.in_default.ensures c.in_default-after_byte.ensures)

pub returns-in_err-next : goal.returns-in_err-next
returns-in_err-next c =
    let f = string_bytes c.add_run.new.to in
    let p = err_from_is_err_and c.from_residual-in_err-next.result c.from_residual-in_err-next.ensures.1 in
    let so_far : string_at c.args.text.now ≡ inside_at c.in-Some-after_byte.letter.now escaped c.in_ok-held.held f = sym c.loop-found.invariant.so_far ∙ c.in_ok-held.ensures.goes.0 ∙ slash_on c.in_ok-held.special.now c.in-Some-after_byte.letter.now c.in_ok-held.held f c.in-Some-after_byte.ensures in
    rw (p.1, p.2) (rw so_far c.in_err-next.ensures.stops)

pub loop-found-preserved : goal.loop-found-preserved
loop-found-preserved c =
    let f = string_bytes c.add_run.new.to in
    record {
      utf8 = search rules;
      held = c.in_ok-next.ensures.waits;
      so_far = sym c.in_ok-next.ensures.goes.0 ∙ sym (slash_on c.in_ok-held.special.now c.in-Some-after_byte.letter.now c.in_ok-held.held f c.in-Some-after_byte.ensures) ∙ sym c.in_ok-held.ensures.goes.0 ∙ c.loop-found.invariant.so_far;
    }
