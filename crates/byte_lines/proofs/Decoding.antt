-- What the text of bytes computes to.
use Rattle.std.proofs.Common.{◌⊎◌, inl, inr, ◌≡◌, ◌<◌, ◌≤◌, ◌+◌, ℕ, zero, suc, true, false, List, [], ◌∷◌, ◌++◌, length, take, drop, refl, sym, ap, ◌∙◌, subst, arith, ⊎_elim, append_assoc, append-nil, length-append, length-take, length-drop, take-append-drop, IsUtf8}
use Rattle.std.specs.Char.{IsScalar, encode_utf8}
use Rattle.std.specs.Str.{is_utf8, IsValidUpTo}
use Rattle.std.specs.Str.Lossy.{replacement_bytes}
use Rattle.std.proofs.lemmas.Bool.{cases_Bool, and_parts, false_from_ne_true, cond-true, cond-false}
use Rattle.std.proofs.lemmas.List.{take_at, drop-drop}
use Rattle.std.proofs.lemmas.Str.{IsUtf8-nil, IsUtf8-from_is_utf8, is_utf8-from_IsUtf8, IsUtf8-encode, IsUtf8-append, encode_same, length-encode, len_utf8_bounds}
use lib.Utf8.{encodes, encode, scalars}
use Rattle.byte_lines.specs.Text.{BeginsCharacter, DecodesTo, end, character, replaced, character_length, text_at, text_inside, text_of}

-- a front that is text begins with a character that is no longer than it
pub record Begins (k : ℕ) (bytes : List ℕ) : Type 0 where
  pub code : ℕ
  pub more : List ℕ
  pub scalar : IsScalar code
  pub splits : bytes ≡ encode_utf8 code ++ more
  pub within : length (encode_utf8 code) ≤ k

begins_by : (k : ℕ) (bytes cs : List ℕ) → 0 < k → 0 < length bytes → scalars cs ≡ true → encodes cs ≡ take k bytes → Begins k bytes
begins_by k bytes [] some more ok is = absurd (omega (arith, ap length is, length-take k bytes))
begins_by k bytes (d ∷ ds) some more ok is = record {
  code = d;
  more = encodes ds ++ drop k bytes;
  scalar = (and_parts _ _ ok).0;
  splits = sym (take-append-drop k bytes) ∙ ap (λ f. f ++ drop k bytes) (sym is) ∙ append_assoc (encode d) (encodes ds) (drop k bytes);
  within = omega (arith, ap length is, length-take k bytes, length-append (encode d) (encodes ds));
}

pub begins : (k : ℕ) (bytes : List ℕ) → 0 < k → 0 < length bytes → is_utf8 (take k bytes) ≡ true → Begins k bytes
begins k bytes some more is = let u = IsUtf8-from_is_utf8 (take k bytes) is in begins_by k bytes u.0 some more u.1.0 u.1.1

encode_some : (c : ℕ) → (0 < length (encode_utf8 c)) × (length (encode_utf8 c) ≤ 4)
encode_some c = (omega (arith, length-encode c, len_utf8_bounds c), omega (arith, length-encode c, len_utf8_bounds c))

-- fewer bytes than a character's are no text
short_front : (c k : ℕ) (more : List ℕ) → 0 < k → k < length (encode_utf8 c) → is_utf8 (take k (encode_utf8 c ++ more)) ≡ false
short_front c k more some less = false_from_ne_true _ (λ is.
    let b = begins k (encode_utf8 c ++ more) some (omega (arith, length-append (encode_utf8 c) more)) is in
    let same = encode_same c b.code more b.more b.splits in
    omega (arith, b.within, ap (λ d. length (encode_utf8 d)) same.0, less))

whole_front : (c k : ℕ) (more : List ℕ) → IsScalar c → k ≡ length (encode_utf8 c) → is_utf8 (take k (encode_utf8 c ++ more)) ≡ true
whole_front c k more ok is = is_utf8-from_IsUtf8 _ (subst IsUtf8 (sym (take_at (encode_utf8 c) more k (sym is))) (IsUtf8-encode c ok))

character_length-least : (bytes : List ℕ) (n : ℕ) → 0 < n → n ≤ 4 → ((k : ℕ) → 0 < k → k < n → is_utf8 (take k bytes) ≡ false) → is_utf8 (take n bytes) ≡ true → character_length bytes ≡ n
character_length-least bytes zero some less short whole = absurd (omega arith)
character_length-least bytes (suc zero) some less short whole = cond-true _ _ _ whole
character_length-least bytes (suc (suc zero)) some less short whole = cond-false _ _ _ (short 1 (omega arith) (omega arith)) ∙ cond-true _ _ _ whole
character_length-least bytes (suc (suc (suc zero))) some less short whole = cond-false _ _ _ (short 1 (omega arith) (omega arith)) ∙ cond-false _ _ _ (short 2 (omega arith) (omega arith)) ∙ cond-true _ _ _ whole
character_length-least bytes (suc (suc (suc (suc zero)))) some less short whole =
    cond-false _ _ _ (short 1 (omega arith) (omega arith)) ∙ cond-false _ _ _ (short 2 (omega arith) (omega arith)) ∙ cond-false _ _ _ (short 3 (omega arith) (omega arith)) ∙ cond-true _ _ _ whole
character_length-least bytes (suc (suc (suc (suc (suc n))))) some less short whole = absurd (omega arith)

pub character_length-character : (c : ℕ) (more : List ℕ) → IsScalar c → character_length (encode_utf8 c ++ more) ≡ length (encode_utf8 c)
character_length-character c more ok = character_length-least (encode_utf8 c ++ more) (length (encode_utf8 c)) (encode_some c).0 (encode_some c).1 (λ k some less. short_front c k more some less) (whole_front c _ more ok refl)

no_front : (b k : ℕ) (more : List ℕ) → ¬ (BeginsCharacter (b ∷ more)) → 0 < k → is_utf8 (take k (b ∷ more)) ≡ false
no_front b k more none some = false_from_ne_true _ (λ is. let w = begins k (b ∷ more) some (omega arith) is in none (w.code, w.more, w.scalar, w.splits))

pub character_length-none : (b : ℕ) (more : List ℕ) → ¬ (BeginsCharacter (b ∷ more)) → character_length (b ∷ more) ≡ 0
character_length-none b more none =
    cond-false _ _ _ (no_front b 1 more none (omega arith)) ∙ cond-false _ _ _ (no_front b 2 more none (omega arith)) ∙ cond-false _ _ _ (no_front b 3 more none (omega arith)) ∙ cond-false _ _ _ (no_front b 4 more none (omega arith))

-- how the text goes on
text_inside-append : (xs ys : List ℕ) → text_inside (length xs) (xs ++ ys) ≡ xs ++ text_inside 0 ys
unfolding text_inside
text_inside-append [] [] = refl
text_inside-append [] (y ∷ ys) = refl
text_inside-append (x ∷ xs) ys = ap (λ t. x ∷ t) (text_inside-append xs ys)

text_inside-replaced : (b : ℕ) (bytes : List ℕ) → character_length (b ∷ bytes) ≡ 0 → text_inside 0 (b ∷ bytes) ≡ replacement_bytes ++ text_inside 0 bytes
unfolding text_inside
text_inside-replaced b bytes is = ap (λ n. text_at b n (text_inside 0 bytes) (λ left. text_inside left bytes)) is

text_inside-begins : (b : ℕ) (bytes : List ℕ) (left : ℕ) → character_length (b ∷ bytes) ≡ suc left → text_inside 0 (b ∷ bytes) ≡ b ∷ text_inside left bytes
unfolding text_inside
text_inside-begins b bytes left is = ap (λ n. text_at b n (text_inside 0 bytes) (λ left. text_inside left bytes)) is

pub text_of-replaced : (b : ℕ) (more : List ℕ) → ¬ (BeginsCharacter (b ∷ more)) → text_of (b ∷ more) ≡ replacement_bytes ++ text_of more
unfolding text_of
text_of-replaced b more none = text_inside-replaced b more (character_length-none b more none)

text_inside-character : (e more : List ℕ) → 0 < length e → character_length (e ++ more) ≡ length e → text_inside 0 (e ++ more) ≡ e ++ text_inside 0 more
text_inside-character [] more some is = absurd (omega arith)
text_inside-character (b ∷ e) more some is = text_inside-begins b (e ++ more) (length e) is ∙ ap (λ t. b ∷ t) (text_inside-append e more)

pub text_of-character : (c : ℕ) (more : List ℕ) → IsScalar c → text_of (encode_utf8 c ++ more) ≡ encode_utf8 c ++ text_of more
unfolding text_of
text_of-character c more ok = text_inside-character (encode_utf8 c) more (encode_some c).0 (character_length-character c more ok)

text_of-characters : (cs more : List ℕ) → scalars cs ≡ true → text_of (encodes cs ++ more) ≡ encodes cs ++ text_of more
text_of-characters [] more ok = refl
text_of-characters (c ∷ cs) more ok = let p = and_parts _ _ ok in
    ap text_of (append_assoc (encode c) (encodes cs) more) ∙ text_of-character c (encodes cs ++ more) p.0 ∙ ap (λ t. encode c ++ t) (text_of-characters cs more p.1) ∙ sym (append_assoc (encode c) (encodes cs) (text_of more))

-- text stays
pub text_of-text : (text more : List ℕ) → IsUtf8 text → text_of (text ++ more) ≡ text ++ text_of more
text_of-text text more u = subst (λ t. text_of (t ++ more) ≡ t ++ text_of more) u.1.1 (text_of-characters u.0 more u.1.0)

pub text_of-nil : text_of [] ≡ []
unfolding text_of text_inside
text_of-nil = refl

-- behind the longest front that is text no character begins
pub none_behind : (bytes : List ℕ) (n : ℕ) → IsValidUpTo bytes n → BeginsCharacter (drop n bytes) → ⊥
none_behind bytes n v (c, more, ok, is) =
    let e = encode_utf8 c in
    let f = take n bytes in
    let front : length f ≡ n = omega (arith, length-take n bytes, v.short) in
    let whole : bytes ≡ (f ++ e) ++ more = sym (take-append-drop n bytes) ∙ ap (λ t. f ++ t) is ∙ sym (append_assoc f e more) in
    let m = length (f ++ e) in
    let taken : take m bytes ≡ f ++ e = ap (take m) whole ∙ take_at (f ++ e) more m refl in
    v.longest m (omega (arith, length-append f e, front, encode_some c)) (subst IsUtf8 (sym taken) (IsUtf8-append f e v.front (IsUtf8-encode c ok)))

-- a character stands at the head, or none
pub cases_BeginsCharacter : (bytes : List ℕ) → 0 < length bytes → BeginsCharacter bytes ⊎ ¬ (BeginsCharacter bytes)
cases_BeginsCharacter bytes some = ⊎_elim (yes 0) (λ no1. ⊎_elim (yes 1) (λ no2. ⊎_elim (yes 2) (λ no3. ⊎_elim (yes 3) (λ no4.
    inr (λ (c, more, ok, is). omega (arith, (encode_some c).0, sym (character_length-character c more ok) ∙ ap character_length (sym is) ∙ cond-false _ _ _ no1 ∙ cond-false _ _ _ no2 ∙ cond-false _ _ _ no3 ∙ cond-false _ _ _ no4)))
    (cases_Bool (is_utf8 (take 4 bytes)))) (cases_Bool (is_utf8 (take 3 bytes)))) (cases_Bool (is_utf8 (take 2 bytes)))) (cases_Bool (is_utf8 (take 1 bytes)))
  where
    yes : (k : ℕ) → is_utf8 (take (suc k) bytes) ≡ true → BeginsCharacter bytes ⊎ ¬ (BeginsCharacter bytes)
    yes k is = let w = begins (suc k) bytes (omega arith) some is in inl (w.code, w.more, w.scalar, w.splits)

DecodesTo-at : (fuel b : ℕ) (bytes : List ℕ) → length bytes ≤ fuel → ((more : List ℕ) → length more ≤ fuel → DecodesTo more (text_of more)) → BeginsCharacter (b ∷ bytes) ⊎ ¬ (BeginsCharacter (b ∷ bytes)) → DecodesTo (b ∷ bytes) (text_of (b ∷ bytes))
DecodesTo-at fuel b bytes le rest (inl (c, more, ok, is)) =
    let shorter : length more ≤ fuel = omega (arith, ap length is, length-append (encode_utf8 c) more, encode_some c) in
    subst (λ t. DecodesTo t (text_of t)) (sym is) (subst (λ t. DecodesTo (encode_utf8 c ++ more) t) (sym (text_of-character c more ok)) (character c more (text_of more) ok (rest more shorter)))
DecodesTo-at fuel b bytes le rest (inr none) = subst (λ t. DecodesTo (b ∷ bytes) t) (sym (text_of-replaced b bytes none)) (replaced b bytes (text_of bytes) none (rest bytes le))

-- the text is the one that the rule says
DecodesTo-within : (fuel : ℕ) (bytes : List ℕ) → length bytes ≤ fuel → DecodesTo bytes (text_of bytes)
DecodesTo-within fuel [] le = subst (λ t. DecodesTo [] t) (sym text_of-nil) end
DecodesTo-within zero (b ∷ bytes) le = absurd (omega arith)
DecodesTo-within (suc fuel) (b ∷ bytes) le = DecodesTo-at fuel b bytes (omega arith) (DecodesTo-within fuel) (cases_BeginsCharacter (b ∷ bytes) (omega arith))

-- and no other is
pub text_of-DecodesTo : (bytes text : List ℕ) → DecodesTo bytes text → text ≡ text_of bytes
text_of-DecodesTo _ _ end = sym text_of-nil
text_of-DecodesTo _ _ (character c more text ok rest) = ap (λ t. encode_utf8 c ++ t) (text_of-DecodesTo more text rest) ∙ sym (text_of-character c more ok)
text_of-DecodesTo _ _ (replaced b more text none rest) = ap (λ t. replacement_bytes ++ t) (text_of-DecodesTo more text rest) ∙ sym (text_of-replaced b more none)

pub DecodesTo-text_of : (bytes : List ℕ) → DecodesTo bytes (text_of bytes)
DecodesTo-text_of bytes = DecodesTo-within (length bytes) bytes (omega arith)

text_of-no_character : (bytes : List ℕ) → 0 < length bytes → (BeginsCharacter bytes → ⊥) → text_of bytes ≡ replacement_bytes ++ text_of (drop 1 bytes)
text_of-no_character [] some none = absurd (omega arith)
text_of-no_character (b ∷ bytes) some none = text_of-replaced b bytes none

-- a step: a front that is text, and then a byte that begins no character
pub text_of-step : (bytes : List ℕ) (n : ℕ) → IsUtf8 (take n bytes) → n < length bytes → (BeginsCharacter (drop n bytes) → ⊥) → text_of bytes ≡ take n bytes ++ (replacement_bytes ++ text_of (drop (n + 1) bytes))
text_of-step bytes n u less none =
    ap text_of (sym (take-append-drop n bytes)) ∙ text_of-text (take n bytes) (drop n bytes) u ∙ ap (λ t. take n bytes ++ t) (text_of-no_character (drop n bytes) (omega (arith, length-drop n bytes)) none ∙ ap (λ t. replacement_bytes ++ text_of t) (drop-drop 1 n bytes))

-- what a step of `text_of_bytes` adds
pub pushed_all : (old new front bytes : List ℕ) (n : ℕ) → new ≡ old ++ front → front ≡ take n bytes → IsUtf8 front → new ++ text_of (drop n bytes) ≡ old ++ text_of bytes
pushed_all old new front bytes n added is u =
    ap (λ t. t ++ text_of (drop n bytes)) added ∙ append_assoc old front (text_of (drop n bytes)) ∙ ap (λ t. old ++ t) (sym (text_of-text front (drop n bytes) u) ∙ ap (λ t. text_of (t ++ drop n bytes)) is ∙ ap text_of (take-append-drop n bytes))

pub pushed_replacement : (old mid new front bytes : List ℕ) (n : ℕ) → mid ≡ old ++ front → new ≡ mid ++ replacement_bytes → front ≡ take n bytes → IsUtf8 front → n < length bytes → (BeginsCharacter (drop n bytes) → ⊥)
    → new ++ text_of (drop (n + 1) bytes) ≡ old ++ text_of bytes
pushed_replacement old mid new front bytes n first second is u less none =
    let rest = text_of (drop (n + 1) bytes) in
    let step : text_of bytes ≡ front ++ (replacement_bytes ++ rest) = text_of-step bytes n (subst IsUtf8 is u) less none ∙ ap (λ t. t ++ (replacement_bytes ++ rest)) (sym is) in
    ap (λ t. t ++ rest) (second ∙ ap (λ t. t ++ replacement_bytes) first) ∙ append_assoc (old ++ front) replacement_bytes rest ∙ append_assoc old front (replacement_bytes ++ rest) ∙ ap (λ t. old ++ t) (sym step)

-- text stays as it is
pub text_of-IsUtf8 : (text : List ℕ) → IsUtf8 text → text_of text ≡ text
text_of-IsUtf8 text u = ap text_of (sym (append-nil text)) ∙ text_of-text text [] u ∙ ap (λ t. text ++ t) text_of-nil ∙ append-nil text

replacement_bytes-encode : encode_utf8 65533 ≡ replacement_bytes
unfolding lib.Utf8.encode
replacement_bytes-encode = refl

-- what bytes decode to is UTF-8
IsUtf8-DecodesTo : (bytes text : List ℕ) → DecodesTo bytes text → IsUtf8 text
IsUtf8-DecodesTo _ _ end = IsUtf8-nil
IsUtf8-DecodesTo _ _ (character c more text ok rest) = IsUtf8-append (encode_utf8 c) text (IsUtf8-encode c ok) (IsUtf8-DecodesTo more text rest)
IsUtf8-DecodesTo _ _ (replaced b more text none rest) = IsUtf8-append replacement_bytes text (subst IsUtf8 replacement_bytes-encode (IsUtf8-encode 65533 refl)) (IsUtf8-DecodesTo more text rest)

pub IsUtf8-text_of : (bytes : List ℕ) → IsUtf8 (text_of bytes)
IsUtf8-text_of bytes = IsUtf8-DecodesTo bytes (text_of bytes) (DecodesTo-text_of bytes)
