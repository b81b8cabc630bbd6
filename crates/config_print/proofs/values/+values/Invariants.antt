use Rattle.std.proofs.Common.{◌≡◌, ◌++◌, drop, map, string_bytes}
use Rattle.std.specs.Prelude.{codes}
use Rattle.config_print.specs.Conditions.{members}
use Rattle.config_print.specs.Printed.{value, one_line, members_in_line, pair_lines, setting_lines}
use Rattle.config_print.specs.Layout.{text_of}
use Rattle.config_print.proofs.values.+values.Given as goal

abbrev pub invariant-add_members-loop-member : goal.invariant-add_members-loop-member
invariant-add_members-loop-member l = string_bytes l.to ++ text_of (members l.later (map (λ x. value x one_line) (drop l.member-index l.list))) ≡ string_bytes l.fn.to ++ text_of (members_in_line l.list)

abbrev pub invariant-add_pairs-loop-pair : goal.invariant-add_pairs-loop-pair
invariant-add_pairs-loop-pair l = string_bytes l.to ++ text_of (pair_lines l.inner (drop l.pair-index l.list)) ≡ string_bytes l.fn.to ++ (codes " {" ++ text_of (pair_lines l.inner l.list))

abbrev pub invariant-add_settings-loop-setting : goal.invariant-add_settings-loop-setting
invariant-add_settings-loop-setting l = string_bytes l.to ++ text_of (setting_lines l.inner (drop l.setting-index l.list)) ≡ string_bytes l.fn.to ++ (codes " {" ++ text_of (setting_lines l.inner l.list))
