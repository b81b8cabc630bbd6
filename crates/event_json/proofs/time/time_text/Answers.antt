use Rattle.std.proofs.Common.{◌≡◌, ◌≤ℤ◌, sym, ap, subst, ◌∙◌}
use Rattle.jiff_core.specs.DateTime.{civil_nanos}
use Rattle.plain_data.specs.Calendar.{first_moment}
use Rattle.event_json.proofs.Dates.{is_nanos, instant_year, shown, filled, Shown}
use Rattle.event_json.specs.TimeText.{moment_in}
use Rattle.event_json.proofs.ReadBack.{text_reads_back}
use Rattle.event_json.proofs.time.time_text.Goals as goal

pub date_bytes-requires : goal.date_bytes-requires
date_bytes-requires c =
    let dt = c.from_nanosecond_in_range-shown.result in
    let same : civil_nanos dt ≡ c.nanos.result = c.from_nanosecond_in_range-shown.ensures ∙ is_nanos c.args.moment c.nanos.result c.nanos.ensures.value c.nanos.ensures.moment in
    instant_year dt (subst (λ z. first_moment ≤ℤ z) (sym (same ∙ c.nanos.ensures.value)) c.nanos.ensures.moment.from_first)

pub returns-clause-text : goal.returns-clause-text
returns-clause-text c =
    let dt = c.from_nanosecond_in_range-shown.result in
    let nanos : civil_nanos dt ≡ c.nanos.result = c.from_nanosecond_in_range-shown.ensures ∙ is_nanos c.args.moment c.nanos.result c.nanos.ensures.value c.nanos.ensures.moment in
    let year = instant_year dt (subst (λ z. first_moment ≤ℤ z) (sym (nanos ∙ c.nanos.ensures.value)) c.nanos.ensures.moment.from_first) in
    let parts : Shown c.args.moment dt = subst (λ z. Shown z dt) (nanos ∙ c.nanos.ensures.value) (shown dt year) in
    filled c.args.moment dt c.copy_from_slice.new.self c.copy_from_slice-2.new.self c.copy_from_slice-3.new.self c.decimals-decimals.result parts
    (c.copy_from_slice.ensures.after ∙ c.date_bytes.ensures) (c.copy_from_slice-2.ensures.after ∙ c.clock_bytes.ensures) (c.copy_from_slice-3.ensures.after ∙ c.fraction_bytes.ensures) c.decimals-decimals.ensures.value

pub returns-clause-reads_back : goal.returns-clause-reads_back
returns-clause-reads_back c =
    let dt = c.from_nanosecond_in_range-shown.result in
    let nanos : civil_nanos dt ≡ c.nanos.result = c.from_nanosecond_in_range-shown.ensures ∙ is_nanos c.args.moment c.nanos.result c.nanos.ensures.value c.nanos.ensures.moment in
    let year = instant_year dt (subst (λ z. first_moment ≤ℤ z) (sym (nanos ∙ c.nanos.ensures.value)) c.nanos.ensures.moment.from_first) in
    let parts : Shown c.args.moment dt = subst (λ z. Shown z dt) (nanos ∙ c.nanos.ensures.value) (shown dt year) in
    ap moment_in (returns-clause-text c) ∙ text_reads_back c.args.moment dt (nanos ∙ c.nanos.ensures.value) year parts
