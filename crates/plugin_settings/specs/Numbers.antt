-- Whole numbers of settings.
use Rattle.std.specs.Prelude.{ℕ, ◌==◌, nat_le, ◌&&◌, List, if◌then◌else◌, Option, Some, None, option_and_then, ℤ, pos, negsuc}
use Rattle.event_tree.specs.Number.{Num}
use Rattle.event_json.specs.Numbers.{number_of as number_in}
use Rattle.config_tree.specs.Readers.{Open}
use Rattle.config_tree.specs.declared.tree.SettingValue.{SettingValue, out-SettingValue}
use Rattle.config_tree.specs.declared.tree.SettingValue.TheOpen.{SettingValue-F}

abbrev written_in : Open → Option Num
written_in (SettingValue-F.Number n) = Some n
written_in (SettingValue-F.Text s) = number_in s
written_in _ = None

-- a number, or a text that writes one
abbrev pub number_of : SettingValue → Option Num
number_of x = written_in (out-SettingValue x)

abbrev from_zero : ℤ → Option ℕ
from_zero (pos n) = Some n
from_zero (negsuc n) = None

-- a whole number from 0 on
abbrev pub whole : Num → Option ℕ
whole n = if n.scale == 0 then from_zero n.mantissa else None

abbrev pub count_of : SettingValue → Option ℕ
count_of x = option_and_then whole (number_of x)

-- the number of a port is from 1 to 65,535
abbrev pub port_in : ℕ → Option ℕ
port_in n = if nat_le 1 n && nat_le n 65535 then Some n else None

abbrev pub port_of : SettingValue → Option ℕ
port_of x = option_and_then port_in (count_of x)
