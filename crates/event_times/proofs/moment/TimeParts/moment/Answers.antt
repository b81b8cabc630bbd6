use Rattle.std.proofs.Common.{rules, ◌≡◌, ◌^◌, Some, pos, ◌-ℤ◌, ◌*ℤ◌, ◌∙◌, sym, ap, option_and_then}
use Rattle.event_times.specs.Moments.{shown_in, moment_in_years, offset_or, IsShown}
use Rattle.event_times.proofs.InYears.{in_years, computed}
use Rattle.event_times.proofs.moment.TimeParts.moment.Goals as goal

pub returns : goal.returns
returns c =
    let p = c.args.self.now in
    let shown = c.in-Some.shown in
    let bounded : IsShown shown = search rules in
    let moment = in_years c.from_nanos.result _ (shown -ℤ c.offset_or.result *ℤ pos 1000000000) c.from_nanos.ensures
    (computed shown c.offset_or.result c.from.result bounded (search rules) (search rules) (search rules)) in
    let of_parts : option_and_then (shown_in p) p.year ≡ Some shown = sym c.shown.ensures.value ∙ c.in-Some.is in
    let own : c.offset_or.result ≡ offset_or c.args.offset p.offset = search rules in
    moment ∙ ap (λ o. moment_in_years (shown -ℤ o *ℤ pos 1000000000)) own
    ∙ sym (ap (option_and_then (λ z. moment_in_years (z -ℤ offset_or c.args.offset p.offset *ℤ pos (10 ^ 9)))) of_parts)
