use Rattle.std.proofs.Common.{◌≡◌, ℕ, ◌<◌, ◌^◌, List, Some, true, Result, Ok, sym, ◌∙◌, ap, arith}
use Rattle.std.proofs.lemmas.Bool.{false≢true}
use Rattle.std.proofs.lemmas.Fmt.{parse-decimal}
use Rattle.std.specs.Fmt.{decimal}
use Rattle.std.proofs.lemmas.Slice.Eq.{bytes_eq-Decides}
use Rattle.std.specs.Str.{bytes_eq}
use Rattle.std.specs.Str.Parse.{ParsesUnsigned}
use Rattle.slot_files.proofs.number.number_of.Goals as goal

-- digits are read as their number
digits_parse : {E : Type 0} (n : ℕ) (bs : List ℕ) (r : Result ℕ E) → n < 2 ^ 32 → bs ≡ decimal n → ParsesUnsigned 32 10 bs r → r ≡ Ok n
digits_parse n bs r fits is parses = parse-decimal 32 n bs r fits (omega (arith, fits)) is parses

-- and only digits that are written so pass for them
digits_differ : (n m : ℕ) (bs written : List ℕ) → written ≡ decimal m → bs ≡ decimal n → m ≡ n → bytes_eq written bs ≡ true
digits_differ n m bs written text is same = (bytes_eq-Decides written bs).1 (text ∙ ap decimal same ∙ sym is)

ok_number : {E : Type 0} (m n : ℕ) → ◌≡◌ {A = Result ℕ E} (Ok m) (Ok n) → m ≡ n
ok_number m n is = cc

pub returns-in_default-clause-all : goal.returns-in_default-clause-all
returns-in_default-clause-all c n fits is =
    let parsed : c.parse.result ≡ Ok n = digits_parse n c.args.digits.now c.parse.result fits is c.parse.ensures.value.0 in
    absurd cc

pub returns-then-eq-clause-all : goal.returns-then-eq-clause-all
returns-then-eq-clause-all c n fits is =
    let parsed : c.parse.result ≡ Ok n = digits_parse n c.args.digits.now c.parse.result fits is c.parse.ensures.value.0 in
    ap Some (ok_number c.in-Ok.number n (sym c.in-Ok.is ∙ parsed))

pub returns-else-eq-clause-all : goal.returns-else-eq-clause-all
returns-else-eq-clause-all c n fits is =
    let parsed : c.parse.result ≡ Ok n = digits_parse n c.args.digits.now c.parse.result fits is c.parse.ensures.value.0 in
    absurd (false≢true (c.if-eq.ensures ∙ digits_differ n c.in-Ok.number c.args.digits.now c.format.result.now c.format.ensures.text is (ok_number c.in-Ok.number n (sym c.in-Ok.is ∙ parsed))))
