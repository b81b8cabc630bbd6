-- Which numbers are digits with a sign, times ten to one power and divided by ten to another.
use Rattle.std.proofs.Common.{◌≡◌, ◌≢◌, ℕ, ◌+◌, ◌-◌, ◌%◌, ◌<◌, ◌≤◌, length, Bool, true, false, Option, Some, None, refl, sym, ap, subst, ◌∙◌, arith}
use Rattle.std.proofs.lemmas.Int.{ints}
use Rattle.event_tree.specs.Number.{Num, IsLeast}
use Rattle.event_tree.specs.NumberTexts.{Decimal, IsI64, IsShifted, Shifts, number, tens, signed, most, raised_by, lowered_by}
use Rattle.event_tree.proofs.Tens.{tens-add, tens-le, tens-mono, tens-zero, tens-big, reach}

pub magnitude : (negative : Bool) (k : ℕ) → IsI64 (signed negative k) → k ≤ most negative
magnitude true k h = omega (arith, ints, h.0)
magnitude false k h = omega (arith, ints, h.1)

no_more : (negative : Bool) → most negative ≤ 9223372036854775808
no_more true = omega arith
no_more false = omega arith

pub same_shift : (r : Option Num) (negative : Bool) (a b up up' down down' : ℕ) → a ≡ b → up ≡ up' → down ≡ down' → Shifts r negative a up down → Shifts r negative b up' down'
same_shift r negative a b up up' down down' e f g h = subst (λ x. Shifts r negative x up' down') e (subst (λ x. Shifts r negative a x down') f (subst (λ x. Shifts r negative a up x) g h))

-- digits with zeros behind them, and the digits raised by as many powers of ten
with_zeros_tens : (n m zeros up : ℕ) → n ≡ tens m zeros → tens m (zeros + up) ≡ tens n up
with_zeros_tens n m zeros up e = tens-add m zeros up ∙ ap (λ x. tens x up) (sym e)

pub with_zeros : (r : Option Num) (negative : Bool) (n m zeros up down : ℕ) → n ≡ tens m zeros → Shifts r negative m (zeros + up) down → Shifts r negative n up down
with_zeros (Some x) negative n m zeros up down e (k, is, s) = (k, is, s ∙ ap (tens m) (omega arith) ∙ with_zeros_tens n m zeros (up + x.scale) e)
with_zeros None negative n m zeros up down e none = λ x l f s. none x l f (s.0, s.1, s.2 ∙ sym (with_zeros_tens n m zeros (up + x.scale) e) ∙ ap (tens m) (omega arith))

pub zero_stands : (negative : Bool) (n m zeros up down : ℕ) (x : Num) → n ≡ tens m zeros → x.mantissa ≡ signed negative 0 → m ≡ 0 → IsShifted negative n up down x
zero_stands negative n m zeros up down x e is z =
    let none : n ≡ 0 = e ∙ ap (λ k. tens k zeros) z ∙ tens-zero zeros in
    (0, is, tens-zero down ∙ sym (ap (λ k. tens k (up + x.scale)) none ∙ tens-zero (up + x.scale)))

module _ (negative : Bool) (m up down : ℕ) where
  pub raised_stands : (x : Num) (k : ℕ) → x.mantissa ≡ signed negative k → x.scale ≡ 0 → down ≤ up → k ≡ tens m (up - down) → IsShifted negative m up down x
  raised_stands x k is flat h e = (k, is, ap (λ n. tens n down) e ∙ sym (tens-add m (up - down) down) ∙ ap (tens m) (omega (arith, flat)))

  pub lowered_stands : (x : Num) → x.mantissa ≡ signed negative m → x.scale ≡ down - up → up ≤ down → IsShifted negative m up down x
  lowered_stands x is places h = (m, is, ap (tens m) (omega (arith, places)))

  module _ (trimmed : m % 10 ≢ 0) (n : Num) (least : IsLeast n.mantissa n.scale) (fits : IsI64 n.mantissa) (stands : IsShifted negative m up down n) where
    digits_fit : stands.0 ≤ most negative
    digits_fit = magnitude negative stands.0 (subst IsI64 stands.1 fits)

    reached : (down ≤ up + n.scale) × (stands.0 ≡ tens m (up + n.scale - down))
    reached = reach stands.0 m down (up + n.scale) trimmed stands.2

    pub not_above : most negative < m → ⊥
    not_above h = omega (arith, digits_fit, reached.1, tens-le m (up + n.scale - down))

    pub not_raised : down ≤ up → most negative < tens m (up - down) → ⊥
    not_raised l h = omega (arith, digits_fit, reached.1, tens-mono m (up - down) (up + n.scale - down) (omega arith))

    pub not_lowered : 18 < down - up → ⊥
    not_lowered h = omega (arith, reached.0, least.few)

    not_far : 0 < m → down + 20 ≤ up → ⊥
    not_far some h = omega (arith, digits_fit, reached.1, no_more negative, tens-big m (up + n.scale - down) some (omega arith))

-- an exponent that is larger than all digits could make up for
module _ (d : Decimal) (m zeros : ℕ) (trimmed : m % 10 ≢ 0) (few : zeros ≤ length d.whole + length d.fraction) (w : length d.whole < 18446744073709551616) (f : length d.fraction < 18446744073709551616) where
  pub no_exponent : 1267650600228229401496703205376 < number 0 d.exponent → Shifts None d.negative m (zeros + raised_by d) (lowered_by d)
  no_exponent big n least fits stands = by d.lower refl
    where
      by : (t : Bool) → d.lower ≡ t → ⊥
      by true e =
          let r : raised_by d ≡ 0 = rw e in
          let l : lowered_by d ≡ length d.fraction + number 0 d.exponent = rw e in
          not_lowered d.negative m (zeros + raised_by d) (lowered_by d) trimmed n least fits stands (omega (arith, r, l))
      by false e =
          let r : raised_by d ≡ number 0 d.exponent = rw e in
          let l : lowered_by d ≡ length d.fraction + 0 = rw e in
          not_far d.negative m (zeros + raised_by d) (lowered_by d) trimmed n least fits stands (omega arith) (omega (arith, r, l))
