-- The parts of a number's text as slices of it.
use Rattle.event_tree.specs.NumberTexts.{Decimal}
use Rattle.event_tree.specs.declared.decimal.Digits.{Digits}

abbrev pub as_decimal : Digits → Decimal
as_decimal d = record { negative = d.negative; whole = d.whole.now; fraction = d.fraction.now; lower = d.lower; exponent = d.exponent.now }
