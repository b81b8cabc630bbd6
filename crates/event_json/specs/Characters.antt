-- Characters of blanks and of escapes by their names.
use Rattle.std.specs.Prelude.{ℕ}

abbrev pub backspace : ℕ
backspace = 8

abbrev pub tab : ℕ
tab = 9

abbrev pub line_feed : ℕ
line_feed = 10

abbrev pub form_feed : ℕ
form_feed = 12

abbrev pub carriage_return : ℕ
carriage_return = 13

abbrev pub blank : ℕ
blank = 32

abbrev pub slash : ℕ
slash = 47

abbrev pub small_b : ℕ
small_b = 98

abbrev pub small_f : ℕ
small_f = 102

abbrev pub small_n : ℕ
small_n = 110

abbrev pub small_r : ℕ
small_r = 114

abbrev pub small_t : ℕ
small_t = 116

abbrev pub small_u : ℕ
small_u = 117
