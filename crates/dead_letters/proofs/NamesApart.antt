-- No two files of a queue have one name.
use Rattle.std.proofs.Common.{◌≡◌, ℕ, zero, suc, ◌+◌, ◌%◌, ◌<◌, ◌≤◌, ◌^◌, List, [], ◌∷◌, ◌++◌, length, get_or, refl, ap, ◌∙◌, sym, arith, length-append}
use Rattle.std.specs.Prelude.{codes}
use Rattle.std.specs.Fmt.{decimal}
use Rattle.std.proofs.lemmas.Fmt.{decimal_injective, decimal_by_steps}
use Rattle.std.proofs.lemmas.List.{append_cancel_left, append_cancel_right}
use Rattle.dead_letters.specs.Queues.{Role, segment, names, position, segment_name, name_in, IsRole, NamesDiffer}

abbrev part : Role → List ℕ
part (segment n) = segment_name n
part names = codes "dead.seg"
part position = codes "dead.pos"

in_folder : (folder : List ℕ) (a : Role) → name_in folder a ≡ folder ++ part a
in_folder folder (segment n) = refl
in_folder folder names = refl
in_folder folder position = refl

some_digit : (n : ℕ) → n < 2 ^ 64 → 1 ≤ length (decimal n)
some_digit n fits = decimal_by_steps (λ m ds. 1 ≤ length ds) (λ m small. omega arith) (λ m ds big more. omega (arith, length-append ds ((48 + m % 10) ∷ []))) n fits

long : (k : ℕ) → suc k < 2 ^ 32 → 10 ≤ length (segment_name (suc k))
long k fits =
    let digits = some_digit (suc k) (omega (arith, fits)) in
    omega (arith, length-append (codes "dead.") (decimal (suc k) ++ codes ".log"), length-append (decimal (suc k)) (codes ".log"), digits)

at_five : (a b : List ℕ) → a ≡ b → get_or a 5 0 ≡ get_or b 5 0
at_five a b same = ap (λ l. get_or l 5 0) same

apart : (a b : Role) → IsRole a → IsRole b → part a ≡ part b → a ≡ b
apart (segment zero) (segment zero) i j e = refl
apart (segment zero) (segment (suc k)) i j e = absurd (omega (arith, ap length e, long k j))
apart (segment (suc k)) (segment zero) i j e = absurd (omega (arith, ap length e, long k i))
apart (segment (suc k)) (segment (suc m)) i j e =
    ap segment (decimal_injective (suc k) (suc m) (omega (arith, i)) (omega (arith, j)) (append_cancel_right (decimal (suc k)) (decimal (suc m)) (codes ".log") (append_cancel_left (codes "dead.") _ _ e)))
apart (segment zero) names i j e = absurd (omega (arith, at_five _ _ e))
apart (segment zero) position i j e = absurd (omega (arith, at_five _ _ e))
apart (segment (suc k)) names i j e = absurd (omega (arith, ap length e, long k i))
apart (segment (suc k)) position i j e = absurd (omega (arith, ap length e, long k i))
apart names (segment zero) i j e = absurd (omega (arith, at_five _ _ e))
apart names (segment (suc k)) i j e = absurd (omega (arith, ap length e, long k j))
apart names names i j e = refl
apart names position i j e = absurd (omega (arith, at_five _ _ e))
apart position (segment zero) i j e = absurd (omega (arith, at_five _ _ e))
apart position (segment (suc k)) i j e = absurd (omega (arith, ap length e, long k j))
apart position names i j e = absurd (omega (arith, at_five _ _ e))
apart position position i j e = refl

pub names_differ : NamesDiffer
names_differ folder a b i j same = apart a b i j (append_cancel_left folder (part a) (part b) (sym (in_folder folder a) ∙ same ∙ in_folder folder b))
