-- Of events with the same day: parts for which the day alone counts have one text.
use Rattle.std.proofs.Common.{◌≡◌, ◌+◌, ℤ, pos, List, [], ◌∷◌, ◌++◌, Option, Some, None, Bool, true, false, refl, sym, ap, ap₂, ◌∙◌, rules}
use Rattle.std.specs.Prelude.{unsigned_abs, option_map, ◌-ℤ◌, ◌&&◌, if◌then◌else◌}
use Rattle.std.specs.List.{list_all}
use Rattle.jiff_core.specs.Calendar.{days_from_civil}
use Rattle.event_tree.specs.Events.{Ev}
use Rattle.event_json.specs.TimeText.{two_digits, four_digits, last_year, last_month, day_of}
use Rattle.event_text.specs.DateFormats.{is_of_day, part_text, date_text_of}
use Rattle.event_text.specs.Template.{is_daily, moment_of, or_written, template_part_text, text}
use Rattle.event_text.specs.TextLaws.{DaysHaveOneText}
use Rattle.event_text.specs.declared.date_format.DatePart.{DatePart}
use Rattle.event_text.specs.declared.date_format.DatePart.TheVariants as d
use Rattle.event_text.specs.declared.template.TemplatePart.{TemplatePart}
use Rattle.event_text.specs.declared.template.TemplatePart.TheVariants as p

part_once : (m n : ℤ) → day_of m ≡ day_of n → (part : DatePart) → is_of_day part ≡ true → part_text m part ≡ part_text n part
part_once m n same d.Year is = ap (λ day. four_digits (last_year 9999 day)) same
part_once m n same d.Month is = ap (λ day. two_digits (last_month 12 (pos (last_year 9999 day)) day)) same
part_once m n same d.Day is =
    ap (λ day. two_digits (unsigned_abs (day -ℤ days_from_civil (pos (last_year 9999 day)) (last_month 12 (pos (last_year 9999 day)) day) 1) + 1)) same
part_once m n same d.Hour is = absurd (search (is, rules))
part_once m n same d.Minute is = absurd (search (is, rules))
part_once m n same d.Second is = absurd (search (is, rules))
part_once m n same d.Millisecond is = absurd (search (is, rules))
part_once m n same (d.Plain run) is = refl

both : (a b : Bool) → (a && b) ≡ true → (a ≡ true) × (b ≡ true)
both true b is = (refl, is)
both false b is = absurd (search (is, rules))

date_once : (m n : ℤ) → day_of m ≡ day_of n → (parts : List DatePart) → list_all is_of_day parts ≡ true → date_text_of parts m ≡ date_text_of parts n
date_once m n same [] is = refl
date_once m n same (part ∷ parts) is =
    let tests = both (is_of_day part) (list_all is_of_day parts) is in
    ap₂ (λ a b. a ++ b) (part_once m n same part tests.0) (date_once m n same parts tests.1)

-- the moments are there, on one day
record OneDay (e o : Ev) : Type 0 where
  first : ℤ
  second : ℤ
  is_first : moment_of e ≡ Some first
  is_second : moment_of o ≡ Some second
  same : day_of first ≡ day_of second

template_part_once : (e o : Ev) → OneDay e o → (piece : TemplatePart) → is_daily piece ≡ true → template_part_text e piece ≡ template_part_text o piece
template_part_once e o one (p.Plain run) is = refl
template_part_once e o one (p.Field way inner) is = absurd (search (is, rules))
template_part_once e o one (p.Date parts inner) is =
    ap (λ m. or_written inner (option_map (date_text_of parts) m)) one.is_first
    ∙ date_once one.first one.second one.same parts is
    ∙ sym (ap (λ m. or_written inner (option_map (date_text_of parts) m)) one.is_second)

text_once : (e o : Ev) → OneDay e o → (pieces : List TemplatePart) → list_all is_daily pieces ≡ true → text pieces e ≡ text pieces o
text_once e o one [] is = refl
text_once e o one (piece ∷ pieces) is =
    let tests = both (is_daily piece) (list_all is_daily pieces) is in
    ap₂ (λ a b. a ++ b) (template_part_once e o one piece tests.0) (text_once e o one pieces tests.1)

dated : (found : Option ℤ) (day : ℤ) → option_map day_of found ≡ Some day → (m : ℤ) × (found ≡ Some m) × (day_of m ≡ day)
dated None day is = absurd (search (is, rules))
dated (Some m) day is = (m, refl, search (is, rules))

with_test : (pieces : List TemplatePart) (e o : Ev) (day : ℤ) (test : Bool) → list_all is_daily pieces ≡ test
    → (if test then option_map day_of (moment_of e) else None) ≡ Some day
    → (if test then option_map day_of (moment_of o) else None) ≡ Some day → text pieces e ≡ text pieces o
with_test pieces e o day false test one other = absurd (search (one, rules))
with_test pieces e o day true test one other =
    let first = dated (moment_of e) day one in
    let second = dated (moment_of o) day other in
    text_once e o (record { first = first.0; second = second.0; is_first = first.1; is_second = second.1; same = first.2 ∙ sym second.2 }) pieces test

pub days_have_one_text : DaysHaveOneText
days_have_one_text pieces e o day one other = with_test pieces e o day (list_all is_daily pieces) refl one other
