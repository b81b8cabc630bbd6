-- The laws of paths and numbers.
use Rattle.std.proofs.Common.{◌≡◌, ◌≢◌, ℕ, suc, ◌+◌, ◌-◌, ◌*◌, ◌<◌, inl, inr, List, ◌++◌, Bool, true, false, pos, refl, sym, ap, subst, ◌∙◌, arith, rules, Option, Some, None}
use Rattle.std.proofs.lemmas.Option.{same_Some}
use Rattle.std.specs.Prelude.{int_rem}
use Rattle.std.specs.Ordering.{int_eq}
use Rattle.std.proofs.lemmas.Int.{ints}
use Rattle.std.proofs.lemmas.Bool.{cases_order}
use Rattle.std.proofs.lemmas.Bool.Decides.{Decides-int_eq}
use Rattle.event_tree.specs.Number.{Num, IsLeast}
use Rattle.event_tree.specs.NumberTexts.{Decimal, StandsFor, NumberReads, IsI64, number, tens, signed, raised_by, lowered_by}
use Rattle.event_tree.specs.PathTexts.{IsPathText, IsPathFault}
use Rattle.event_tree.proofs.Tens.{tens-add, tens-cancel}
use Rattle.std.specs.Option.{IfSome}
use Rattle.event_json.specs.Json.{number_text}
use Rattle.event_json.proofs.WrittenNumbers.{number_text_reads}
use Rattle.event_text.specs.PathReading.{parts_in}
use Rattle.event_text.proofs.PathReads.{path_text, empty_fault, unclosed_fault, stray_fault}
use Rattle.event_text.proofs.PathFaults.{fault_is}
use Rattle.event_tree.specs.declared.fault.PathFault.{PathFault}
use Rattle.event_tree.specs.declared.fault.PathFault.TheVariants.{Empty, Unclosed, Stray, Memory}

pub path_once : (ps qs : List (List ℕ)) (text : List ℕ) → IsPathText ps text → IsPathText qs text → ps ≡ qs
path_once ps qs text h k = same_Some ps qs (sym (path_text ps text h) ∙ path_text qs text k)

true_false : true ≡ false → ⊥
true_false e = search (e, rules)

pub path_faulty : (fault : PathFault) (text : List ℕ) → fault ≢ Memory → IsPathFault fault text → parts_in text ≡ None
path_faulty Empty text n h = empty_fault text h
path_faulty (Unclosed at) text n h = unclosed_fault at text h
path_faulty (Stray at) text n h = stray_fault at text h
path_faulty Memory text n h = absurd (n refl)

pub fault_once : (fault other : PathFault) (text : List ℕ) → fault ≢ Memory → other ≢ Memory → IsPathFault fault text → IsPathFault other text → fault ≡ other
fault_once fault other text n m h k = same_Some fault other (sym (fault_is fault text n h) ∙ fault_is other text m k)

ten_divides : (negative : Bool) (x : ℕ) → int_rem (signed negative (10 * x)) (pos 10) ≡ pos 0
ten_divides true x = omega (arith, ints)
ten_divides false x = omega (arith, ints)

divided : (negative : Bool) (x : ℕ) → int_eq (int_rem (signed negative (10 * x)) (pos 10)) (pos 0) ≡ true
divided negative x = (Decides-int_eq (int_rem (signed negative (10 * x)) (pos 10)) (pos 0)).1 (ten_divides negative x)

same_scale : (d : Decimal) (n m : Num) → n.scale ≡ m.scale → StandsFor n d → StandsFor m d → n ≡ m
same_scale d n m e h k =
    let l = lowered_by d in
    let same : h.0 ≡ k.0 = tens-cancel h.0 k.0 l (h.2 ∙ ap (λ s. tens (number 0 (d.whole ++ d.fraction)) (raised_by d + s)) e ∙ sym k.2) in
    let digits : n.mantissa ≡ m.mantissa = h.1 ∙ ap (signed d.negative) same ∙ sym k.1 in
    ap (λ z. record { mantissa = z; scale = n.scale }) digits ∙ ap (λ s. record { mantissa = m.mantissa; scale = s }) e

-- a number of more places has a zero at its end
lower_scale : (d : Decimal) (n m : Num) → n.scale < m.scale → IsLeast m.mantissa m.scale → StandsFor n d → StandsFor m d → ⊥
lower_scale d n m less least h k =
    let l = lowered_by d in
    let digits = number 0 (d.whole ++ d.fraction) in
    let r = raised_by d in
    let more = m.scale - n.scale in
    let one_less = more - 1 in
    let up : r + n.scale + more ≡ r + m.scale = omega arith in
    let turn : l + more ≡ more + l = omega arith in
    let behind : suc one_less ≡ more = omega arith in
    let raised : tens k.0 l ≡ tens (tens h.0 more) l =
    k.2 ∙ ap (tens digits) (sym up) ∙ tens-add digits (r + n.scale) more ∙ ap (λ x. tens x more) (sym h.2) ∙ sym (tens-add h.0 l more) ∙ ap (tens h.0) turn ∙ tens-add h.0 more l in
    let ten : k.0 ≡ 10 * tens h.0 one_less = tens-cancel k.0 (tens h.0 more) l raised ∙ ap (tens h.0) (sym behind) in
    let zero_end : int_eq (int_rem m.mantissa (pos 10)) (pos 0) ≡ true = ap (λ z. int_eq (int_rem z (pos 10)) (pos 0)) (k.1 ∙ ap (signed d.negative) ten) ∙ divided d.negative (tens h.0 one_less) in
    elim least.trimmed [ inl none ↦ absurd (omega arith) | inr kept ↦ absurd (true_false (sym zero_end ∙ kept)) ]

pub number_once : (n m : Num) (text : List ℕ) → IsLeast n.mantissa n.scale → IsLeast m.mantissa m.scale → NumberReads (Some n) text → NumberReads (Some m) text → n ≡ m
number_once n m text nl ml h k =
    let same : h.0 ≡ k.0 = same_Some h.0 k.0 (sym h.1 ∙ k.1) in
    let stands : StandsFor n k.0 = subst (StandsFor n) same h.2 in
    elim (cases_order n.scale m.scale) [
      | inl e ↦ same_scale k.0 n m e stands k.2
      | inr (inl less) ↦ absurd (lower_scale k.0 n m less ml stands k.2)
      | inr (inr more) ↦ absurd (lower_scale k.0 m n more nl k.2 stands)
    ]

-- what reads the text of a number is that number
pub text_reads : (n : Num) (r : Option Num) → IsLeast n.mantissa n.scale → IsI64 n.mantissa → IfSome r (λ m. IsLeast m.mantissa m.scale) → NumberReads r (number_text n) → r ≡ Some n
text_reads n None least fits reads_least h = absurd (h back.0 back.1 n least fits back.2) where
  back : NumberReads (Some n) (number_text n)
  back = number_text_reads n fits
text_reads n (Some m) least fits reads_least h = ap Some (number_once m n (number_text n) reads_least least h (number_text_reads n fits))
