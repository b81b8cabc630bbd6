-- Where groups with a number begin in a regular expression, as the syntax of the crate `regex` has them: a `(` that is neither escaped nor in brackets,
-- and behind which no `?` stands, or `?P`.
use Rattle.std.specs.Prelude.{ℕ, ◌+◌, ◌-◌, ◌==◌, List, [], ◌∷◌, Bool, true, false, if◌then◌else◌}
use Rattle.grok_patterns.specs.declared.scan.ScanState.{ScanState}
use Rattle.grok_patterns.specs.declared.scan.ScanState.TheVariants as place
use Rattle.grok_patterns.specs.declared.scan.Scan.{Scan}

abbrev pub start : Scan
start = record { place = place.Plain; brackets = 0; groups = 0 }

abbrev pub at : ScanState → Scan → Scan
at p c = record { place = p; brackets = c.brackets; groups = c.groups }

-- one group more
abbrev pub counted : Scan → Scan
counted c = record { place = place.Plain; brackets = c.brackets; groups = c.groups + 1 }

-- a backslash, `(` and `[`
abbrev pub plain_step : ℕ → Scan → Scan
plain_step b c =
    if b == 92 then at place.Escaped c
    else (if b == 40 then at place.Opened c
    else (if b == 91 then at place.ClassOpened c
    else at place.Plain c))

-- behind a `(`
abbrev pub opened_step : ℕ → Scan → Scan
opened_step b c = if b == 63 then at place.Flagged c else plain_step b (counted c)

-- behind `(?`
abbrev pub flagged_step : ℕ → Scan → Scan
flagged_step b c = if b == 80 then counted c else plain_step b c

-- brackets in brackets
abbrev pub bracketed : Scan → Scan
bracketed c = record { place = place.ClassOpened; brackets = c.brackets + 1; groups = c.groups }

-- behind a `]` that closes
abbrev pub unbracketed : Scan → Scan
unbracketed c = if c.brackets == 0 then at place.Plain c else record { place = place.Class; brackets = c.brackets - 1; groups = c.groups }

abbrev pub class_step : ℕ → Scan → Scan
class_step b c =
    if b == 92 then at place.ClassEscaped c
    else (if b == 91 then bracketed c
    else (if b == 93 then unbracketed c
    else at place.Class c))

-- a `]` that stands first in brackets stands for itself
abbrev pub class_negated_step : ℕ → Scan → Scan
class_negated_step b c =
    if b == 92 then at place.ClassEscaped c
    else (if b == 91 then bracketed c
    else at place.Class c)

abbrev pub class_opened_step : ℕ → Scan → Scan
class_opened_step b c = if b == 94 then at place.ClassNegated c else class_negated_step b c

abbrev step_at : ScanState → ℕ → Scan → Scan
step_at place.Plain = plain_step
step_at place.Escaped = λ b c. at place.Plain c
step_at place.Opened = opened_step
step_at place.Flagged = flagged_step
step_at place.Class = class_step
step_at place.ClassEscaped = λ b c. at place.Class c
step_at place.ClassOpened = class_opened_step
step_at place.ClassNegated = class_negated_step

-- behind one byte more
abbrev pub step : ℕ → Scan → Scan
step b c = step_at c.place b c

-- behind more bytes
abbrev pub over : List ℕ → Scan → Scan
over [] c = c
over (b ∷ s) c = over s (step b c)

abbrev may_open_at : ScanState → Bool
may_open_at place.Plain = true
may_open_at place.Escaped = false
may_open_at place.Opened = true
may_open_at place.Flagged = true
may_open_at place.Class = false
may_open_at place.ClassEscaped = false
may_open_at place.ClassOpened = false
may_open_at place.ClassNegated = false

-- a `(` that comes next begins a group
abbrev pub may_open : Scan → Bool
may_open c = may_open_at c.place

-- behind a `(` that begins a group with a number
abbrev pub opened : Scan → Scan
opened c = counted (step 40 c)
