-- Events of one day have one line.
use Rattle.std.proofs.Common.{◌≡◌, ℤ, List, Option, Some, None, sym, ap, ◌∙◌}
use Rattle.std.specs.Prelude.{option_map, if◌then◌else◌}
use Rattle.std.specs.List.{list_all}
use Rattle.event_tree.specs.Events.{Ev}
use Rattle.event_json.specs.TimeText.{day_of}
use Rattle.event_text.specs.Template.{day_in, is_daily, moment_of, text}
use Rattle.event_text.specs.declared.template.TemplatePart.{TemplatePart}
use Rattle.event_text.proofs.Days.{days_have_one_text}
use Rattle.out_bulk.specs.Written.{IsDayOf, IsOf}
use Rattle.out_bulk.specs.declared.action.Day.{Day}

same_day : (moment : ℤ) (day : Day) (found : Option ℤ) → IsDayOf moment day → IsOf (Some day) found → option_map day_of found ≡ Some (day_of moment)
same_day moment day None is_day is = absurd is
same_day moment day (Some m) is_day is = ap Some (is_day m is)

pub one_text : (pieces : List TemplatePart) (own other : Ev) (d moment : ℤ) (day : Day) → day_in pieces own ≡ Some d → moment_of own ≡ Some moment → IsDayOf moment day
    → IsOf (Some day) (moment_of other) → text pieces own ≡ text pieces other
one_text pieces own other d moment day by_day is_moment is_day is =
    let one : option_map day_of (moment_of own) ≡ option_map day_of (moment_of other) = ap (option_map day_of) is_moment ∙ sym (same_day moment day (moment_of other) is_day is) in
    days_have_one_text pieces own other d by_day (sym (ap (λ x. if list_all is_daily pieces then x else None) one) ∙ by_day)
