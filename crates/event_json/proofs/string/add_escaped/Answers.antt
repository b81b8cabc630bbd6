use Rattle.std.proofs.Common.{◌≡◌, ◌++◌, ◌∷◌, length, sym, ap, ◌∙◌, arith, string_bytes, None}
use Rattle.std.proofs.lemmas.Result.{err_from_is_err_and}
use Rattle.event_json.specs.Strings.{joined}
use Rattle.event_json.specs.Reading.{plainly, escaped, inside_at}
use Rattle.event_json.proofs.Fronts.{one_rest}
use Rattle.event_json.proofs.Contents.{unit_read, unit_refused, short_read, short_refused, nothing_behind, added_short}
use Rattle.event_json.proofs.string.add_escaped.Goals as goal

pub returns-in_err-unit-clause-stops : goal.returns-in_err-unit-clause-stops
returns-in_err-unit-clause-stops c =
    let p = err_from_is_err_and c.from_residual.result c.from_residual.ensures.1 in
    rw (p.1, p.2) (rw c.in-Some.ensures (unit_refused c.in-Some.digits.now c.args.waits (string_bytes c.args.to.now) c.in_err-unit.field-0.0 c.in_err-unit.ensures.unit))

pub returns-in-Some-clause-goes : goal.returns-in-Some-clause-goes
returns-in-Some-clause-goes c =
    let old = string_bytes c.args.to.now in
    let rest = c.in_ok-unit.rest.now in
    let e : inside_at c.args.text.now escaped c.args.waits old ≡ inside_at rest plainly c.held.result (string_bytes c.add_unit.new.to) =
    ap (λ t. inside_at t escaped c.args.waits old) c.in-Some.ensures ∙ unit_read c.in-Some.digits.now rest c.in_ok-unit.unit c.args.waits old c.in_ok-unit.ensures.unit
    ∙ ap (λ h. inside_at rest plainly h (old ++ joined c.args.waits c.in_ok-unit.unit)) (sym c.held.ensures.unit) ∙ ap (inside_at rest plainly c.held.result) (sym c.in_ok-add_unit.ensures) in
    (e, omega (arith, ap length c.in-Some.ensures, c.in_ok-unit.ensures.shorter))

pub returns-in_default-split_first-clause-stops : goal.returns-in_default-split_first-clause-stops
returns-in_default-split_first-clause-stops c =
    let none : length c.args.text.now ≡ 0 = omega (arith, ap length c.as_bytes.ensures.value, c.in_default-split_first.ensures.cases) in
    rw (c.stopped.ensures, c.as_bytes-in_default-split_first.ensures.value) (nothing_behind c.args.text.now escaped c.args.waits (string_bytes c.args.to.now) none)

pub returns-in_default-short-clause-stops : goal.returns-in_default-short-clause-stops
returns-in_default-short-clause-stops c =
    rw (c.stopped-in_default-short.ensures, c.as_bytes-in_default-short.ensures.value) (short_refused c.args.text.now c.in-Some-split_first.rest.now c.in-Some-split_first.first.now c.args.waits (string_bytes c.args.to.now) (sym c.as_bytes.ensures.value ∙ c.in-Some-split_first.ensures.cases.0) c.in_default.ensures (sym c.in_default-short.ensures.value))

pub rest_of-requires : goal.rest_of-requires
rest_of-requires c = one_rest c.args.text.now c.in-Some-split_first.rest.now c.in-Some-split_first.first.now (sym c.as_bytes.ensures.value ∙ c.in-Some-split_first.ensures.cases.0) c.in-Some-short.ensures.ascii.1

pub returns-clause-goes : goal.returns-clause-goes
returns-clause-goes c =
    let old = string_bytes c.args.to.now in
    let rest = c.in-Some-split_first.rest.now in
    let is : c.args.text.now ≡ c.in-Some-split_first.first.now ∷ rest = sym c.as_bytes.ensures.value ∙ c.in-Some-split_first.ensures.cases.0 in
    let e : inside_at c.args.text.now escaped c.args.waits old ≡ inside_at c.rest_of.result.now plainly None (string_bytes c.push.new.self) =
    short_read c.args.text.now rest c.in-Some-split_first.first.now c.in-Some-short.byte c.args.waits old is c.in_default.ensures (sym c.in-Some-short.ensures.value)
    ∙ ap (inside_at rest plainly None) (added_short old (string_bytes c.add_lone.new.to) (string_bytes c.push.new.self) c.args.waits c.in-Some-short.byte c.in-Some-short.ensures.ascii.0 c.in_ok-add_lone.ensures c.in_ok-push.ensures.bytes)
    ∙ ap (λ r. inside_at r plainly None (string_bytes c.push.new.self)) (sym c.rest_of.ensures) in
    (e, omega (arith, ap length is, ap length c.rest_of.ensures))
