-- The number that a text writes, computed.
use Rattle.std.specs.Prelude.{ℕ, zero, suc, ◌/◌, ◌%◌, ◌==◌, ◌&&◌, nat_le, Bool, if◌then◌else◌, List, ◌++◌, Option, Some, None, option_and_then}
use Rattle.event_tree.specs.Number.{Num}
use Rattle.event_tree.specs.NumberTexts.{Decimal, decimal_of, number, tens, signed, raised_by, lowered_by, most}
use Rattle.event_tree.specs.declared.value.Value.{Value}
use Rattle.event_tree.specs.declared.value.Value.TheVariants as v

-- digits of which so many are decimals
pub record Places : Type 0 where
  pub digits : ℕ
  pub places : ℕ

-- without the zeros at the end, as long as there are places
abbrev pub stripped : ℕ → ℕ → Places
stripped m zero = record { digits = m; places = 0 }
stripped m (suc s) = if m % 10 == 0 then stripped (m / 10) s else record { digits = m; places = suc s }

-- none where there are more than 18 places, or the digits don't fit 64 bits with their sign
abbrev pub held_number : Bool → Places → Option Num
held_number negative p =
    if nat_le p.places 18 && nat_le p.digits (most negative)
    then Some (record { mantissa = signed negative p.digits; scale = p.places })
    else None

-- the least form of a decimal's value
abbrev pub value_of : Decimal → Option Num
value_of d = held_number d.negative (stripped (tens (number 0 (d.whole ++ d.fraction)) (raised_by d)) (lowered_by d))

-- the number that the text writes; none where it writes none, or none that has a least form of 64 bits
unfoldable pub number_of : List ℕ → Option Num
number_of text = option_and_then value_of (decimal_of text)

abbrev pub number_or_text : List ℕ → Option Num → Value
number_or_text spelling None = v.Text spelling
number_or_text spelling (Some n) = v.Num n

-- the value of a number: one that no number of 64 bits has is the text of its spelling
abbrev pub number_value : List ℕ → Value
number_value spelling = number_or_text spelling (number_of spelling)
