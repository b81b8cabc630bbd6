use Rattle.std.proofs.Common.{◌≡◌, true, sym, ap, ◌∙◌}
use Rattle.std.specs.List.{list_all}
use Rattle.std.specs.Char.{is_ascii_digit}
use Rattle.settings_lines.proofs.Digits.{number_none}
use Rattle.settings_lines.proofs.numbers.number_in.Goals as goal

pub returns-in_default-clause-value : goal.returns-in_default-clause-value
returns-in_default-clause-value c =
    let digits : list_all is_ascii_digit c.args.text.now ≡ true = ap (list_all is_ascii_digit) (sym c.as_bytes.ensures.value) ∙ sym c.are_digits.ensures ∙ c.if-not-are_digits.false in
    number_none _ c.args.text.now c.in_default.field-0 c.args.low c.args.high (rw c.in_default.is at c.parse.ensures.value.0) digits c.ranges.high.fits
