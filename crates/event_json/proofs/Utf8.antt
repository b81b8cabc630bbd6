-- The texts that are written are UTF-8.
use Rattle.std.proofs.Common.{◌≡◌, ◌==◌, ℕ, zero, suc, ◌+◌, ◌-◌, ◌/◌, ◌%◌, ◌^◌, ◌<◌, ◌≤◌, List, [], ◌∷◌, ◌++◌, length, take, drop, get_or, Bool, true, false, if◌then◌else◌, refl, sym, ap, subst, ◌∙◌, arith, ℤ, pos, negsuc, unsigned_abs, inl, inr}
use Rattle.std.specs.Prelude.{decimal, flat_map, nat_lt}
use Rattle.std.specs.Str.{IsUtf8, IsAscii}
use Rattle.std.specs.Char.{IsScalar}
use Rattle.std.proofs.lemmas.Bool.Decides.{nat_tests}
use Rattle.std.proofs.lemmas.Bool.{cases_order}
use Rattle.std.proofs.lemmas.Str.{IsUtf8-append, IsUtf8-from_ascii, IsUtf8-encode, IsUtf8-nil, encode_ascii, inside_one, IsAscii-append, IsAscii-take, IsAscii-drop}
use Rattle.std.proofs.lemmas.Fmt.{IsAscii-decimal}
use Rattle.std.proofs.lemmas.Grind.{flat_map-append}
use Rattle.std.proofs.lemmas.List.{append-nil}
use lib.Utf8.{scalars, scalar, encodes, encode}
use Rattle.event_tree.specs.Number.{Num}
use Rattle.std.proofs.Common.{Result, Ok, Err, OnOk}
use Rattle.event_tree.proofs.Sounds.{first, second}
use Rattle.event_tree.specs.Adds.{Adds}
use Rattle.event_json.specs.TimeText.{digit, nine_digits, two_digits, four_digits, date_text, clock_text, date_time_text, fraction_text, decimals_of, nanos_in_day, year_of, month_of, day_in_month, time_text_of}
use Rattle.event_json.specs.Json.{escaped, quoted, hex_digit, zeros, pointed, sign_of, number_text}

-- each byte is ASCII
abbrev pub Low : List ℕ → Type 0
Low [] = Unit {0}
Low (b ∷ bs) = (b < 128) × Low bs

pub low_ascii : (bs : List ℕ) → Low bs → IsAscii bs
low_ascii [] h i = omega arith
low_ascii (b ∷ bs) h zero = h.0
low_ascii (b ∷ bs) h (suc i) = low_ascii bs h.1 i

pub low_append : (xs ys : List ℕ) → Low xs → Low ys → Low (xs ++ ys)
low_append [] ys h k = k
low_append (x ∷ xs) ys h k = (h.0, low_append xs ys h.1 k)

if_low : (t : Bool) (xs ys : List ℕ) → Low xs → Low ys → Low (if t then xs else ys)
if_low true xs ys h k = h
if_low false xs ys h k = k

hex_low : (n : ℕ) → n < 16 → hex_digit n < 128
hex_low n h = grind (arith, nat_tests)

short : (c : ℕ) → c < 128 → Low (92 ∷ c ∷ [])
short c h = (omega arith, (h, tt))

escaped_low : (b : ℕ) → b < 128 → Low (escaped b)
escaped_low b h =
    let high = hex_low (b / 16) (omega arith) in
    let low = hex_low (b % 16) (omega arith) in
    let long : Low (92 ∷ 117 ∷ 48 ∷ 48 ∷ hex_digit (b / 16) ∷ hex_digit (b % 16) ∷ []) = (omega arith, (omega arith, (omega arith, (omega arith, (high, (low, tt)))))) in
    if_low (b == 34) _ _ (short 34 (omega arith)) (if_low (b == 92) _ _ (short 92 (omega arith)) (if_low (b == 8) _ _ (short 98 (omega arith)) (if_low (b == 9) _ _ (short 116 (omega arith)) (if_low (b == 10) _ _ (short 110 (omega arith))
    (if_low (b == 12) _ _ (short 102 (omega arith)) (if_low (b == 13) _ _ (short 114 (omega arith)) (if_low (nat_lt b 32) _ _ long (h, tt))))))))

escaped_high : (b : ℕ) → 128 ≤ b → escaped b ≡ b ∷ []
escaped_high b h =
    let a : (b == 34) ≡ false = grind (arith, nat_tests) in
    let c : (b == 92) ≡ false = grind (arith, nat_tests) in
    let d : (b == 8) ≡ false = grind (arith, nat_tests) in
    let e : (b == 9) ≡ false = grind (arith, nat_tests) in
    let f : (b == 10) ≡ false = grind (arith, nat_tests) in
    let g : (b == 12) ≡ false = grind (arith, nat_tests) in
    let i : (b == 13) ≡ false = grind (arith, nat_tests) in
    let j : nat_lt b 32 ≡ false = grind (arith, nat_tests) in
    rw (a, c, d, e, f, g, i, j) refl

abbrev High : List ℕ → Type 0
High bs = (k : ℕ) → k < length bs → 128 ≤ get_or bs k 0

all_high : (bs : List ℕ) → High bs → flat_map escaped bs ≡ bs
all_high [] h = refl
all_high (b ∷ bs) h = ap (λ l. l ++ flat_map escaped bs) (escaped_high b (h 0 (omega arith))) ∙ ap (λ l. b ∷ l) (all_high bs (λ k l. h (suc k) (omega arith)))

by_lt : {P : Type 0} (a b : ℕ) → (a < b → P) → (b ≤ a → P) → P
by_lt a b f g = elim (cases_order a b) [ inl same ↦ g (omega arith) | inr (inl less) ↦ f less | inr (inr more) ↦ g (omega arith) ]

encode_high : (c : ℕ) → 128 ≤ c → High (encode c)
encode_high c h k lt = by_lt (get_or (encode c) k 0) 128 (λ low. absurd (omega (arith, inside_one c [] (encode c) k (sym (append-nil (encode c))) lt low))) (λ high. high)

escaped_encode : (c : ℕ) → IsScalar c → IsUtf8 (flat_map escaped (encode c))
escaped_encode c s = by_lt c 128
    (λ low. subst (λ bs. IsUtf8 (flat_map escaped bs)) (sym (encode_ascii c low)) (subst IsUtf8 (sym (append-nil (escaped c))) (IsUtf8-from_ascii (escaped c) (low_ascii (escaped c) (escaped_low c low)))))
    (λ high. subst IsUtf8 (sym (all_high (encode c) (encode_high c high))) (IsUtf8-encode c s))

escaped_encodes : (cs : List ℕ) → scalars cs ≡ true → IsUtf8 (flat_map escaped (encodes cs))
escaped_encodes [] s = IsUtf8-nil
escaped_encodes (c ∷ cs) s = subst IsUtf8 (sym (flat_map-append escaped (encode c) (encodes cs))) (IsUtf8-append (flat_map escaped (encode c)) (flat_map escaped (encodes cs)) (escaped_encode c (first (scalar c) (scalars cs) s)) (escaped_encodes cs (second (scalar c) (scalars cs) s)))

low_utf8 : (bs : List ℕ) → Low bs → IsUtf8 bs
low_utf8 bs h = IsUtf8-from_ascii bs (low_ascii bs h)

pub quoted_utf8 : (s : List ℕ) → IsUtf8 s → IsUtf8 (quoted s)
quoted_utf8 s u = IsUtf8-append (34 ∷ []) (flat_map escaped s ++ 34 ∷ []) (low_utf8 (34 ∷ []) (omega arith, tt)) (IsUtf8-append (flat_map escaped s) (34 ∷ []) (subst (λ bs. IsUtf8 (flat_map escaped bs)) u.1.1 (escaped_encodes u.0 u.1.0)) (low_utf8 (34 ∷ []) (omega arith, tt)))

low_zeros : (n : ℕ) → Low (zeros n)
low_zeros zero = tt
low_zeros (suc n) = (omega arith, low_zeros n)

low_sign : (z : ℤ) → Low (sign_of z)
low_sign (pos n) = tt
low_sign (negsuc n) = (omega arith, tt)

ascii_cons : (b : ℕ) (bs : List ℕ) → b < 128 → IsAscii bs → IsAscii (b ∷ bs)
ascii_cons b bs h k zero = h
ascii_cons b bs h k (suc i) = k i

ascii_pointed : (places : ℕ) (digits : List ℕ) → IsAscii digits → IsAscii (pointed places digits)
ascii_pointed zero digits h = h
ascii_pointed (suc places) digits h =
    let n = length digits - suc places in
    IsAscii-append (take n digits) (46 ∷ drop n digits) (IsAscii-take digits n h) (ascii_cons 46 (drop n digits) (omega arith) (IsAscii-drop digits n h))

-- a number's digits, its sign and its point are ASCII
pub number_utf8 : (n : Num) → unsigned_abs n.mantissa < 2 ^ 64 → IsUtf8 (number_text n)
unfolding number_text
number_utf8 n h =
    let digits = decimal (unsigned_abs n.mantissa) in
    let front = zeros (n.scale + 1 - length digits) in
    IsUtf8-from_ascii (number_text n) (IsAscii-append (sign_of n.mantissa) (pointed n.scale (front ++ digits)) (low_ascii _ (low_sign n.mantissa)) (ascii_pointed n.scale (front ++ digits) (IsAscii-append front digits (low_ascii front (low_zeros _)) (IsAscii-decimal (unsigned_abs n.mantissa) h))))

-- each byte is one that stands in a string as it is
abbrev Plain : List ℕ → Type 0
Plain [] = Unit {0}
Plain (b ∷ bs) = (44 < b) × (b < 91) × Plain bs

plain_low : (bs : List ℕ) → Plain bs → Low bs
plain_low [] h = tt
plain_low (b ∷ bs) h = (omega (arith, h.1), plain_low bs h.2)

escaped_plain : (b : ℕ) → 44 < b → b < 91 → escaped b ≡ b ∷ []
escaped_plain b low high =
    let a : (b == 34) ≡ false = grind (arith, nat_tests) in
    let c : (b == 92) ≡ false = grind (arith, nat_tests) in
    let d : (b == 8) ≡ false = grind (arith, nat_tests) in
    let e : (b == 9) ≡ false = grind (arith, nat_tests) in
    let f : (b == 10) ≡ false = grind (arith, nat_tests) in
    let g : (b == 12) ≡ false = grind (arith, nat_tests) in
    let i : (b == 13) ≡ false = grind (arith, nat_tests) in
    let j : nat_lt b 32 ≡ false = grind (arith, nat_tests) in
    rw (a, c, d, e, f, g, i, j) refl

plain_same : (bs : List ℕ) → Plain bs → flat_map escaped bs ≡ bs
plain_same [] h = refl
plain_same (b ∷ bs) h = ap (λ l. l ++ flat_map escaped bs) (escaped_plain b h.0 h.1) ∙ ap (λ l. b ∷ l) (plain_same bs h.2)

plain_append : (xs ys : List ℕ) → Plain xs → Plain ys → Plain (xs ++ ys)
plain_append [] ys h k = k
plain_append (x ∷ xs) ys h k = (h.0, h.1, plain_append xs ys h.2 k)

plain_take : (k : ℕ) (bs : List ℕ) → Plain bs → Plain (take k bs)
plain_take zero bs h = tt
plain_take (suc k) [] h = tt
plain_take (suc k) (b ∷ bs) h = (h.0, h.1, plain_take k bs h.2)

plain_digit : (p n : ℕ) (bs : List ℕ) → Plain bs → Plain (digit p n ∷ bs)
plain_digit p n bs h = (omega arith, omega arith, h)

plain_two : (n : ℕ) → Plain (two_digits n)
plain_two n = plain_digit 10 n (digit 1 n ∷ []) (plain_digit 1 n [] tt)

plain_four : (n : ℕ) → Plain (four_digits n)
plain_four n = plain_digit 1000 n (digit 100 n ∷ two_digits n) (plain_digit 100 n (two_digits n) (plain_two n))

plain_six : (n : ℕ) → Plain (digit 100000 n ∷ digit 10000 n ∷ four_digits n)
plain_six n = plain_digit 100000 n (digit 10000 n ∷ four_digits n) (plain_digit 10000 n (four_digits n) (plain_four n))

plain_nine : (n : ℕ) → Plain (nine_digits n)
plain_nine n =
    let six = digit 100000 n ∷ digit 10000 n ∷ four_digits n in
    plain_digit 100000000 n (digit 10000000 n ∷ digit 1000000 n ∷ six) (plain_digit 10000000 n (digit 1000000 n ∷ six) (plain_digit 1000000 n six (plain_six n)))

-- behind a `-`, a `.`, a `:`, the `T` or the `Z`
plain_behind : (b : ℕ) (bs : List ℕ) → 44 < b → b < 91 → Plain bs → Plain (b ∷ bs)
plain_behind b bs low high h = (low, high, h)

plain_date : (y m d : ℕ) → Plain (date_text y m d)
plain_date y m d =
    let day : Plain (45 ∷ two_digits d) = plain_behind 45 (two_digits d) (omega arith) (omega arith) (plain_two d) in
    let behind : Plain (45 ∷ (two_digits m ++ 45 ∷ two_digits d)) = plain_behind 45 (two_digits m ++ 45 ∷ two_digits d) (omega arith) (omega arith) (plain_append (two_digits m) (45 ∷ two_digits d) (plain_two m) day) in
    plain_append (four_digits y) (45 ∷ (two_digits m ++ 45 ∷ two_digits d)) (plain_four y) behind

plain_clock : (h m s : ℕ) → Plain (clock_text h m s)
plain_clock h m s =
    let second : Plain (58 ∷ two_digits s) = plain_behind 58 (two_digits s) (omega arith) (omega arith) (plain_two s) in
    let behind : Plain (58 ∷ (two_digits m ++ 58 ∷ two_digits s)) = plain_behind 58 (two_digits m ++ 58 ∷ two_digits s) (omega arith) (omega arith) (plain_append (two_digits m) (58 ∷ two_digits s) (plain_two m) second) in
    plain_append (two_digits h) (58 ∷ (two_digits m ++ 58 ∷ two_digits s)) (plain_two h) behind

plain_date_time : (date clock fraction : List ℕ) → Plain date → Plain clock → Plain fraction → Plain (date_time_text date clock fraction)
plain_date_time date clock fraction h k l =
    let end : Plain (90 ∷ []) = plain_behind 90 [] (omega arith) (omega arith) tt in
    let rest : Plain (46 ∷ (fraction ++ 90 ∷ [])) = plain_behind 46 (fraction ++ 90 ∷ []) (omega arith) (omega arith) (plain_append fraction (90 ∷ []) l end) in
    let behind : Plain (84 ∷ (clock ++ 46 ∷ (fraction ++ 90 ∷ []))) = plain_behind 84 (clock ++ 46 ∷ (fraction ++ 90 ∷ [])) (omega arith) (omega arith) (plain_append clock (46 ∷ (fraction ++ 90 ∷ [])) k rest) in
    plain_append date (84 ∷ (clock ++ 46 ∷ (fraction ++ 90 ∷ []))) h behind

plain_time : (t : ℤ) → Plain (time_text_of t)
unfolding time_text_of
plain_time t =
    let time = nanos_in_day t in
    plain_date_time (date_text (year_of t) (month_of t) (day_in_month t)) (clock_text (time / 3600000000000) (time / 60000000000 % 60) (time / 1000000000 % 60)) (fraction_text (time % 1000000000))
    (plain_date (year_of t) (month_of t) (day_in_month t)) (plain_clock (time / 3600000000000) (time / 60000000000 % 60) (time / 1000000000 % 60)) (plain_take (decimals_of (time % 1000000000)) (nine_digits (time % 1000000000)) (plain_nine (time % 1000000000)))

-- an instant's text is ASCII, and stands in a string as it is
pub low_time : (t : ℤ) → Low (time_text_of t)
low_time t = plain_low (time_text_of t) (plain_time t)

pub time_same : (t : ℤ) → flat_map escaped (time_text_of t) ≡ time_text_of t
time_same t = plain_same (time_text_of t) (plain_time t)

pub time_utf8 : (t : ℤ) → IsUtf8 (time_text_of t)
time_utf8 t = low_utf8 (time_text_of t) (low_time t)

-- UTF-8 behind UTF-8
pub adds_utf8 : {T E : Type 0} (r : Result T E) (bytes xs ys : List ℕ) → IsUtf8 bytes → OnOk r (Adds bytes xs ys) → IsUtf8 xs → OnOk r (IsUtf8 ys)
adds_utf8 (Ok x) bytes xs ys u h k = subst IsUtf8 (sym h) (IsUtf8-append xs bytes k u)
adds_utf8 (Err x) bytes xs ys u h k = tt

pub in_quotes_utf8 : (s : List ℕ) → IsUtf8 s → IsUtf8 (34 ∷ (s ++ 34 ∷ []))
in_quotes_utf8 s u = IsUtf8-append (34 ∷ []) (s ++ 34 ∷ []) (low_utf8 (34 ∷ []) (omega arith, tt)) (IsUtf8-append s (34 ∷ []) u (low_utf8 (34 ∷ []) (omega arith, tt)))
