use Rattle.std.proofs.Common.{rules, ◌≡◌, ◌≤ℤ◌, sym, ap, subst, ◌∙◌, unsigned_abs, to_z-of_z, SFits}
use Rattle.std.specs.Int.{w16}
use Rattle.jiff_core.specs.DateTime.{civil_nanos}
use Rattle.plain_data.specs.Calendar.{first_moment}
use Rattle.event_json.proofs.Dates.{is_nanos, instant_year, shown, Shown}
use Rattle.event_times.proofs.moment.year_of.Goals as goal

pub returns : goal.returns
returns c =
    let dt = c.from_nanosecond_in_range.result in
    let nanos : civil_nanos dt ≡ c.nanos.result = c.from_nanosecond_in_range.ensures ∙ is_nanos c.args.moment c.nanos.result c.nanos.ensures.value c.nanos.ensures.moment in
    let year = instant_year dt (subst (λ z. first_moment ≤ℤ z) (sym (nanos ∙ c.nanos.ensures.value)) c.nanos.ensures.moment.from_first) in
    let parts : Shown c.args.moment dt = subst (λ z. Shown z dt) (nanos ∙ c.nanos.ensures.value) (shown dt year) in
    let fits : SFits w16 dt.date.year = search rules in
    c.into.ensures ∙ c.unsigned_abs.ensures.value ∙ ap unsigned_abs (to_z-of_z fits) ∙ sym parts.year
