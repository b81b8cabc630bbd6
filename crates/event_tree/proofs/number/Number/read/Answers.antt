use Rattle.std.proofs.Common.{◌≡◌, ℕ, List, Option, Some, None, sym, ap, subst, ◌∙◌, rules}
use Rattle.std.specs.Option.{option_map}
use Rattle.event_tree.specs.Number.{Num}
use Rattle.event_tree.specs.NumberTexts.{Decimal, ValueReads, NumberReads, decimal_of}
use Rattle.event_tree.specs.DecimalViews.{as_decimal}
use Rattle.event_tree.proofs.number.Number.read.Goals as goal

reads : (r : Option Num) (d : Decimal) (text : List ℕ) → decimal_of text ≡ Some d → ValueReads r d → NumberReads r text
reads None d text e v = λ x f. let same : d ≡ x = search (sym e ∙ f, rules) in subst (ValueReads None) same v
reads (Some n) d text e v = (d, e, v)

pub returns-in-Some : goal.returns-in-Some
returns-in-Some c =
    let e : decimal_of c.args.text.now ≡ Some (as_decimal c.in-Some.digits) = ap decimal_of (sym c.as_bytes.ensures.value) ∙ sym c.digits_of.ensures.parts ∙ ap (option_map as_decimal) c.in-Some.is in
    reads c.value_of.result (as_decimal c.in-Some.digits) c.args.text.now e c.value_of.ensures
