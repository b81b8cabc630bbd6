-- Lists of bits.
use Rattle.std.proofs.Common.{◌≡◌, ⊎_elim, ℕ, zero, suc, ◌+◌, ◌-◌, ◌*◌, ◌/◌, ◌%◌, ◌^◌, ◌<◌, ◌≤◌, ◌==◌, ◌&&◌, ◌||◌, not, nat_lt, if◌then◌else◌, Bool, true, false, List, [], ◌∷◌, ◌++◌, length, drop, get_or, max, refl, sym, ◌∙◌, ap, subst, arith, length-append}
use Rattle.std.proofs.Math.Path.{ap₂}
use Rattle.std.proofs.Math.Bool.{or-true, or-false}
use Rattle.std.proofs.Math.Pow.{pow-lt}
use Rattle.std.proofs.lemmas.Bool.{cases_eq, cases_lt, eq-eqb, ne_eqb}
use Rattle.std.proofs.lemmas.List.{get_or-set_same, get_or-set_other}
use Rattle.std.proofs.lemmas.Nat.Bits.{bit_at-lt, bit_at-zero, bit_at-pow_same, bit_at-pow_other, bit_at_or}
use Rattle.std.proofs.Math.ListN.{set}
use Rattle.std.specs.Int.{bit_at}
use Rattle.std.specs.Int.Bits.{bit_or}
use Rattle.std.proofs.lemmas.Bool.Decides.{nat_tests}
use Rattle.queue_files.specs.Kept.{leading}
use Rattle.queue_core.specs.Bits.{bit_of, bits_from, is_among, with_range, AreHeld}

-- the same bits are the same list
pub same_bits : (words other : List ℕ) (from count : ℕ) → ((k : ℕ) → from ≤ k → k < from + count → bit_of other k ≡ bit_of words k) → bits_from other from count ≡ bits_from words from count
same_bits words other from zero same = refl
same_bits words other from (suc count) same =
    ap₂ (λ (b : Bool) (l : List Bool). b ∷ l) (same from (omega arith) (omega arith)) (same_bits words other (suc from) count (λ k past within. same k (omega (arith, past)) (omega (arith, within))))

pub one_bit_more : (words : List ℕ) (from count : ℕ) → bits_from words from (count + 1) ≡ bits_from words from count ++ bit_of words (from + count) ∷ []
one_bit_more words from zero = let here : from ≡ from + 0 = omega arith in ap (λ k. bit_of words k ∷ []) here
one_bit_more words from (suc count) =
    let more : suc count + 1 ≡ suc (count + 1) = omega arith in
    let there : suc from + count ≡ from + suc count = omega arith in
    ap (bits_from words from) more ∙ ap (λ l. bit_of words from ∷ l) (one_bit_more words (suc from) count ∙ ap (λ k. bits_from words (suc from) count ++ bit_of words k ∷ []) there)

-- with a range that is set
pub ranged_bits : (words other : List ℕ) (first last from count : ℕ) → ((k : ℕ) → bit_of other k ≡ (bit_of words k || is_among first last k)) → bits_from other from count ≡ with_range from first last (bits_from words from count)
ranged_bits words other first last from zero are = refl
ranged_bits words other first last from (suc count) are = ap₂ (λ (b : Bool) (l : List Bool). b ∷ l) (are from) (ranged_bits words other first last (suc from) count are)

pub long_bits : (words : List ℕ) (from count : ℕ) → length (bits_from words from count) ≡ count
long_bits words from zero = refl
long_bits words from (suc count) = ap suc (long_bits words (suc from) count)

-- ---- the first that isn't set

front_by : (words : List ℕ) (from count k : ℕ) → from ≤ k → k < from + leading (bits_from words from (suc count)) → (suc from ≤ k → k < suc from + leading (bits_from words (suc from) count) → bit_of words k ≡ true) → (b : Bool)
    → bit_of words from ≡ b → bit_of words k ≡ true
front_by words from count k past within rest true is = ⊎_elim (λ (here : from ≡ k). ap (bit_of words) (sym here) ∙ is)
    (λ other. rest (omega (arith, past, other)) (omega (arith, within, ap (λ (b : Bool). if b then suc (leading (bits_from words (suc from) count)) else 0) is))) (cases_eq from k)
front_by words from count k past within rest false is = absurd (omega (arith, past, within, ap (λ (b : Bool). if b then suc (leading (bits_from words (suc from) count)) else 0) is))

-- of those in front all are set
pub front_set : (words : List ℕ) (from count : ℕ) (k : ℕ) → from ≤ k → k < from + leading (bits_from words from count) → bit_of words k ≡ true
front_set words from zero k past within = absurd (omega (arith, past, within))
front_set words from (suc count) k past within = front_by words from count k past within (front_set words (suc from) count k) (bit_of words from) refl

-- where the first are set, they lead
pub leads_on : (words : List ℕ) (from done count : ℕ) → done ≤ count → ((k : ℕ) → from ≤ k → k < from + done → bit_of words k ≡ true)
    → leading (bits_from words from count) ≡ done + leading (bits_from words (from + done) (count - done))
leads_on words from zero count few set =
    let here : from ≡ from + 0 = omega arith in
    let all : count ≡ count - 0 = omega arith in
    ap₂ (λ (k n : ℕ). leading (bits_from words k n)) here all ∙ omega arith
leads_on words from (suc done) zero few set = absurd (omega (arith, few))
leads_on words from (suc done) (suc count) few set =
    let rest = leads_on words (suc from) done count (omega (arith, few)) (λ k past within. set k (omega (arith, past)) (omega (arith, within))) in
    let there : suc from + done ≡ from + suc done = omega arith in
    let left : count - done ≡ suc count - suc done = omega arith in
    let here : leading (bits_from words from (suc count)) ≡ suc (leading (bits_from words (suc from) count)) =
    ap (λ (b : Bool). if b then suc (leading (bits_from words (suc from) count)) else 0) (set from (omega arith) (omega arith)) in
    let same : leading (bits_from words (suc from + done) (count - done)) ≡ leading (bits_from words (from + suc done) (suc count - suc done)) = ap₂ (λ (k n : ℕ). leading (bits_from words k n)) there left in
    omega (arith, here, rest, same)

pub stops_at : (words : List ℕ) (from bit end : ℕ) → from ≤ bit → bit < end → ((k : ℕ) → from ≤ k → k < bit → bit_of words k ≡ true) → bit_of words bit ≡ false → bit ≡ from + leading (bits_from words from (end - from))
stops_at words from bit end past within set none =
    let done = bit - from in
    let there : from + done ≡ bit = omega (arith, past) in
    let left : end - from - done ≡ suc (end - bit - 1) = omega (arith, past, within) in
    let led = leads_on words from done (end - from) (omega (arith, past, within)) (λ k from_k less. set k from_k (omega (arith, less, past))) in
    let same : leading (bits_from words (from + done) (end - from - done)) ≡ leading (bits_from words bit (suc (end - bit - 1))) = ap₂ (λ (k n : ℕ). leading (bits_from words k n)) there left in
    let stop : leading (bits_from words bit (suc (end - bit - 1))) ≡ 0 = ap (λ (b : Bool). if b then suc (leading (bits_from words (suc bit) (end - bit - 1))) else 0) none in
    omega (arith, past, led, same, stop)

pub stops_end : (words : List ℕ) (from end : ℕ) → from ≤ end → ((k : ℕ) → from ≤ k → k < end → bit_of words k ≡ true) → end ≡ from + leading (bits_from words from (end - from))
stops_end words from end past set =
    let done = end - from in
    let none : done - done ≡ 0 = omega arith in
    let led = leads_on words from done done (omega arith) (λ k from_k less. set k from_k (omega (arith, less, past))) in
    let same : leading (bits_from words (from + done) (done - done)) ≡ 0 = ap (λ (n : ℕ). leading (bits_from words (from + done) n)) none in
    omega (arith, past, led, same)

-- ---- one bit

pub no_words : (k : ℕ) → bit_of [] k ≡ false
unfolding bit_of
no_words k = ap (λ n. n == 1) (bit_at-zero (k % 64))

pub bits_set : (words : List ℕ) (bit : ℕ) → bit < 64 * length words → (k : ℕ)
    → bit_of (set words (bit / 64) (bit_or (get_or words (bit / 64) 0) (1 * 2 ^ (bit % 64) % 2 ^ 64))) k ≡ (bit_of words k || (k == bit))
unfolding bit_of
bits_set words bit within k =
    let i = bit / 64 in
    let b = bit % 64 in
    let w = get_or words i 0 in
    let v = bit_or w (1 * 2 ^ b % 2 ^ 64) in
    let small : b < 64 = omega arith in
    let low : 2 ^ b < 2 ^ 64 = pow-lt small in
    let pow : 1 * 2 ^ b % 2 ^ 64 ≡ 2 ^ b = omega (arith, low) in
    let was = bit_at (get_or words (k / 64) 0) (k % 64) in
    let now = bit_at (get_or (set words i v) (k / 64) 0) (k % 64) in
    ⊎_elim
    (λ (same : k / 64 ≡ i).
    let here : get_or (set words i v) (k / 64) 0 ≡ v = ap (λ j. get_or (set words i v) j 0) same ∙ get_or-set_same words i v 0 (omega (arith, within)) in
    let joined : now ≡ max (bit_at w (k % 64)) (bit_at (2 ^ b) (k % 64)) = ap (λ n. bit_at n (k % 64)) (here ∙ ap (bit_or w) pow) ∙ bit_at_or w (2 ^ b) (k % 64) in
    ⊎_elim
    (λ (is : k % 64 ≡ b).
    let one : bit_at (2 ^ b) (k % 64) ≡ 1 = ap (bit_at (2 ^ b)) is ∙ bit_at-pow_same b in
    let set_is : now ≡ 1 = omega (arith, joined, one, bit_at-lt w (k % 64)) in
    let eq : (k == bit) ≡ true = eq-eqb k bit (omega (arith, same, is)) in
    eq-eqb now 1 set_is ∙ sym (or-true (was == 1)) ∙ ap (λ (t : Bool). (was == 1) || t) (sym eq))
    (λ other.
    let none : bit_at (2 ^ b) (k % 64) ≡ 0 = bit_at-pow_other b (k % 64) other in
    let old : was ≡ bit_at w (k % 64) = ap (λ j. bit_at (get_or words j 0) (k % 64)) same in
    let same_is : now ≡ was = omega (arith, joined, none, old) in
    let eq : (k == bit) ≡ false = ne_eqb k bit (λ e. other (ap (λ n. n % 64) e)) in
    ap (λ n. n == 1) same_is ∙ sym (or-false (was == 1)) ∙ ap (λ (t : Bool). (was == 1) || t) (sym eq))
    (cases_eq (k % 64) b))
    (λ other.
    let here : get_or (set words i v) (k / 64) 0 ≡ get_or words (k / 64) 0 = get_or-set_other words i (k / 64) v 0 other in
    let eq : (k == bit) ≡ false = ne_eqb k bit (λ e. other (ap (λ n. n / 64) e)) in
    ap (λ n. bit_at n (k % 64) == 1) here ∙ sym (or-false (was == 1)) ∙ ap (λ (t : Bool). (was == 1) || t) (sym eq))
    (cases_eq (k / 64) i)

-- ---- a range of bits

pub among_none : (from k : ℕ) → is_among from from k ≡ false
unfolding is_among
among_none from k = by (nat_lt k from)
  where
    by : (b : Bool) → (not b && b) ≡ false
    by true = refl
    by false = refl

pub among_more : (from bit k : ℕ) → from ≤ bit → (is_among from bit k || (k == bit)) ≡ is_among from (bit + 1) k
unfolding is_among
among_more from bit k past =
    let front = not (nat_lt k from) in
    ⊎_elim
    (λ (same : k ≡ bit).
    let inside : nat_lt k from ≡ false = grind (arith, nat_tests, same, past) in
    let more : nat_lt k (bit + 1) ≡ true = grind (arith, nat_tests, same) in
    ap (λ (t : Bool). (front && nat_lt k bit) || t) (eq-eqb k bit same) ∙ or-true (front && nat_lt k bit) ∙ sym (ap₂ (λ (x y : Bool). not x && y) inside more))
    (λ other.
    let tests : nat_lt k (bit + 1) ≡ nat_lt k bit = ⊎_elim
    (λ less. let a : nat_lt k (bit + 1) ≡ true = grind (arith, nat_tests, less) in let b : nat_lt k bit ≡ true = grind (arith, nat_tests, less) in a ∙ sym b)
    (λ more. let a : nat_lt k (bit + 1) ≡ false = grind (arith, nat_tests, more, other) in let b : nat_lt k bit ≡ false = grind (arith, nat_tests, more) in a ∙ sym b)
    (cases_lt k bit) in
    ap (λ (t : Bool). (front && nat_lt k bit) || t) (ne_eqb k bit other) ∙ or-false (front && nat_lt k bit) ∙ ap (λ (t : Bool). front && t) (sym tests))
    (cases_eq k bit)

or_next : (a b c : Bool) → ((a || b) || c) ≡ (a || (b || c))
or_next true b c = refl
or_next false b c = refl

-- one more of a range is set
pub range_more : (words now new : List ℕ) (from bit : ℕ) → from ≤ bit → ((k : ℕ) → bit_of now k ≡ (bit_of words k || is_among from bit k)) → ((k : ℕ) → bit_of new k ≡ (bit_of now k || (k == bit)))
    → (k : ℕ) → bit_of new k ≡ (bit_of words k || is_among from (bit + 1) k)
range_more words now new from bit past so_far one k =
    one k ∙ ap (λ (t : Bool). t || (k == bit)) (so_far k) ∙ or_next (bit_of words k) (is_among from bit k) (k == bit) ∙ ap (λ (t : Bool). bit_of words k || t) (among_more from bit k past)

pub range_none : (words : List ℕ) (from k : ℕ) → bit_of words k ≡ (bit_of words k || is_among from from k)
range_none words from k = sym (ap (λ (t : Bool). bit_of words k || t) (among_none from k) ∙ or-false (bit_of words k))

-- behind a range nothing is set
pub among_past : (from to k : ℕ) → to ≤ k → is_among from to k ≡ false
unfolding is_among
among_past from to k past =
    let none : nat_lt k to ≡ false = grind (arith, nat_tests, past) in
    ap (λ (t : Bool). not (nat_lt k from) && t) none ∙ and_never (not (nat_lt k from))
  where
    and_never : (b : Bool) → (b && false) ≡ false
    and_never true = refl
    and_never false = refl

pub leading_within : (words : List ℕ) (from count : ℕ) → leading (bits_from words from count) ≤ count
leading_within words from zero = omega arith
leading_within words from (suc count) = by (bit_of words from) (leading_within words (suc from) count)
  where
    by : (b : Bool) → leading (bits_from words (suc from) count) ≤ count → (if b then suc (leading (bits_from words (suc from) count)) else 0) ≤ suc count
    by true rest = omega (arith, rest)
    by false rest = omega arith

-- ---- one bit more, which isn't set

zero_behind : (words : List ℕ) (i : ℕ) → get_or (words ++ 0 ∷ []) i 0 ≡ get_or words i 0
zero_behind [] zero = refl
zero_behind [] (suc i) = refl
zero_behind (w ∷ words) zero = refl
zero_behind (w ∷ words) (suc i) = zero_behind words i

pub zero_more : (words : List ℕ) (k : ℕ) → bit_of (words ++ 0 ∷ []) k ≡ bit_of words k
unfolding bit_of
zero_more words k = ap (λ n. bit_at n (k % 64) == 1) (zero_behind words (k / 64))

pub more_view : (old new : List ℕ) (count : ℕ) → ((k : ℕ) → bit_of new k ≡ bit_of old k) → bit_of old count ≡ false → bits_from new 0 (count + 1) ≡ bits_from old 0 count ++ false ∷ []
more_view old new count same none =
    let here : 0 + count ≡ count = omega arith in
    one_bit_more new 0 count
    ∙ ap₂ (λ (l : List Bool) (b : Bool). l ++ b ∷ []) (same_bits old new 0 count (λ k past within. same k)) (same (0 + count) ∙ ap (bit_of old) here ∙ none)

pub leads_still : (bits : List Bool) → leading (bits ++ false ∷ []) ≡ leading bits
leads_still [] = refl
leads_still (true ∷ bits) = ap suc (leads_still bits)
leads_still (false ∷ bits) = refl

-- the first that isn't set, with a range that is set
pub first_after : (old new : List ℕ) (from to count first found : ℕ) → first ≡ leading (bits_from old 0 count) → ((k : ℕ) → bit_of new k ≡ (bit_of old k || is_among from to k))
    → found ≡ first + leading (bits_from new first (count - first)) → found ≡ leading (bits_from new 0 count)
first_after old new from to count first found is bits found_is =
    let here : 0 + first ≡ first = omega arith in
    let set : (k : ℕ) → 0 ≤ k → k < 0 + first → bit_of new k ≡ true =
    λ k past less. bits k ∙ ap (λ (b : Bool). b || is_among from to k) (front_set old 0 count k past (omega (arith, less, is))) in
    found_is ∙ sym (leads_on new 0 first count (omega (arith, is, leading_within old 0 count)) set ∙ ap (λ n. first + leading (bits_from new n (count - first))) here)

-- ---- the last bit goes again

same_last : (xs ys : List Bool) (x y : Bool) → xs ++ x ∷ [] ≡ ys ++ y ∷ [] → (xs ≡ ys) × (x ≡ y)
same_last [] [] x y is = (refl, ap (λ l. get_or l 0 false) is)
same_last [] (b ∷ ys) x y is = absurd (omega (arith, ap length is, length-append ys (y ∷ [])))
same_last (a ∷ xs) [] x y is = absurd (omega (arith, ap length is, length-append xs (x ∷ [])))
same_last (a ∷ xs) (b ∷ ys) x y is =
    let rest = same_last xs ys x y (ap (drop 1) is) in
    (ap₂ (λ (c : Bool) (l : List Bool). c ∷ l) (ap (λ l. get_or l 0 false) is) rest.0, rest.1)

pub bits_popped : (words : List ℕ) (count first : ℕ) (rows : List Bool) → AreHeld words count first → bits_from words 0 count ≡ rows ++ false ∷ [] → (bits_from words 0 (count - 1) ≡ rows) × AreHeld words (count - 1) first
bits_popped words zero first rows held is = absurd (omega (arith, ap length is, length-append rows (false ∷ [])))
bits_popped words (suc n) first rows held is =
    let less : suc n - 1 ≡ n = omega arith in
    subst (λ k. (bits_from words 0 k ≡ rows) × AreHeld words k first) (sym less) (last.0, record { room = omega (arith, held.room); rest = rest; first_is = first_is })
  where
    last : (bits_from words 0 n ≡ rows) × (bit_of words n ≡ false)
    last =
        let more : suc n ≡ n + 1 = omega arith in
        let here : 0 + n ≡ n = omega arith in
        same_last (bits_from words 0 n) rows (bit_of words n) false (ap (λ k. bits_from words 0 n ++ bit_of words k ∷ []) (sym here) ∙ sym (one_bit_more words 0 n) ∙ ap (bits_from words 0) (sym more) ∙ is)

    rest : (k : ℕ) → n ≤ k → bit_of words k ≡ false
    rest k past = ⊎_elim (λ same. ap (bit_of words) same ∙ last.1) (λ differs. held.rest k (omega (arith, past, differs))) (cases_eq k n)

    first_is : first ≡ leading (bits_from words 0 n)
    first_is = held.first_is ∙ ap leading is ∙ leads_still rows ∙ ap leading (sym last.0)
