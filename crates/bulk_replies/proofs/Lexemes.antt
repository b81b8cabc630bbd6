-- What `lex` gives of JSON that is written compactly.
use Rattle.std.proofs.Common.{◌≡◌, ℕ, suc, ◌+◌, ◌-◌, ◌<◌, ◌≤◌, Bool, true, false, cond, ◌==◌, ◌||◌, nat_eq, List, [], ◌∷◌, ◌++◌, length, take, drop, get_or, Option, Some, None, option_and_then, ◌⊎◌, inl, inr, refl, sym, ap, ap₂, ◌∙◌, subst, arith, append-nil, ne_eqb}
use Rattle.std.specs.List.{prefix_len, starts_with}
use Rattle.std.specs.Char.{is_ascii_digit}
use Rattle.std.proofs.lemmas.List.{append_assoc, drop_more, drop-drop, length-append, length-drop, take_all}
use Rattle.std.proofs.lemmas.Bool.{or_parts, not-true, true≢false}
use Rattle.std.proofs.lemmas.Bool.Decides.{Decides-eqb, nat_tests}
use Rattle.std.proofs.lemmas.Slice.Eq.{starts_is}
use Rattle.json.specs.Token.{Token, string, number, boolean, null, bad}
use Rattle.json.specs.Text.{content, plain, after_backslash, prepend}
use Rattle.json.specs.Ascii.{true_text, false_text, null_text}
use Rattle.json.specs.Word.{word, head, is_operator, is_space, ends_word, after_digits, after_minus, after_sign, after_whole, after_fraction, after_exponent, after_number, number_before, literal}
use Rattle.json.specs.Lex.{Lexeme, token, quote, backslash, operator, space, other, class, string_token, Mode, between, in_word, in_string, lex_byte, lex, Place, after_value, if_allowed, may_begin, punctuate}
use Rattle.json.specs.Run.{is_plain}
use Rattle.bulk_replies.specs.Compact.{Delimits, Words}

-- ---- strings

plain_step : (q b o s : Bool) (x : ℕ) (xs : List ℕ) (k : Mode → List Lexeme) → q ≡ false → b ≡ false
    → lex_byte in_string (cond q quote (cond b backslash (cond o operator (cond s space other)))) x xs k ≡ k in_string
plain_step true b o s x xs k e f = absurd (true≢false e)
plain_step false true o s x xs k e f = absurd (true≢false f)
plain_step false false true s x xs k e f = refl
plain_step false false false true x xs k e f = refl
plain_step false false false false x xs k e f = refl

plain_byte : (p : Bool) (x n : ℕ) (xs : List ℕ) → p ≡ is_plain x → lex in_string xs ≡ lex in_string (drop n xs) → lex in_string (x ∷ xs) ≡ lex in_string (drop (cond p (1 + n) 0) (x ∷ xs))
unfolding lex
plain_byte false x n xs e ih = refl
plain_byte true x n xs e ih =
    let next : suc n ≡ 1 + n = omega arith in
    let none = or_parts ((x == 34) || (x == 92)) _ (not-true _ (sym e)) in
    let tests = or_parts (x == 34) _ none.0 in
    plain_step (x == 34) (x == 92) (is_operator x) (is_space x) x xs (λ m. lex m xs) tests.0 tests.1 ∙ ih ∙ ap (λ k. lex in_string (drop k (x ∷ xs))) next

in_string_run : (xs : List ℕ) → lex in_string xs ≡ lex in_string (drop (prefix_len is_plain xs) xs)
in_string_run [] = refl
in_string_run (x ∷ xs) = plain_byte (is_plain x) x (prefix_len is_plain xs) xs refl (in_string_run xs)

pub front : (d : List ℕ) (i x : ℕ) → i < length d → get_or d i 0 ≡ x → drop i d ≡ x ∷ drop (i + 1) d
front d i x h e = drop_more d i 0 h ∙ ap (λ y. y ∷ drop (i + 1) d) e

prepend-prepend : (a b : List ℕ) (r : Option (List ℕ)) → prepend a (prepend b r) ≡ prepend (a ++ b) r
prepend-prepend a b None = refl
prepend-prepend a b (Some s) = ap Some (sym (append_assoc a b s))

prepend-nil : (r : Option (List ℕ)) → prepend [] r ≡ r
prepend-nil None = refl
prepend-nil (Some s) = refl

content_byte : (p : Bool) (x n : ℕ) (xs : List ℕ) → p ≡ is_plain x → content plain xs ≡ prepend (take n xs) (content plain (drop n xs))
    → content plain (x ∷ xs) ≡ prepend (take (cond p (1 + n) 0) (x ∷ xs)) (content plain (drop (cond p (1 + n) 0) (x ∷ xs)))
unfolding content
content_byte false x n xs e ih = sym (prepend-nil _)
content_byte true x n xs e ih =
    let next : suc n ≡ 1 + n = omega arith in
    let none = or_parts ((x == 34) || (x == 92)) _ (not-true _ (sym e)) in
    let tests = or_parts (x == 34) _ none.0 in
    (λ i. cond (tests.0 i) (Some []) (cond (tests.1 i) (content after_backslash xs) (cond (none.1 i) None (prepend (x ∷ []) (ih i)))))
    ∙ prepend-prepend (x ∷ []) (take n xs) _ ∙ ap (λ k. prepend (take k (x ∷ xs)) (content plain (drop k (x ∷ xs)))) next

-- plain bytes stand for themselves
content_run : (xs : List ℕ) → content plain xs ≡ prepend (take (prefix_len is_plain xs) xs) (content plain (drop (prefix_len is_plain xs) xs))
content_run [] = sym (prepend-nil _)
content_run (x ∷ xs) = content_byte (is_plain x) x (prefix_len is_plain xs) xs refl (content_run xs)

at_quote : (xs : List ℕ) → content plain (34 ∷ xs) ≡ Some []
unfolding content
at_quote xs = refl

-- a string stands there, up to the first byte that isn't plain, which is a quote
pub string_there : (d : List ℕ) (i stop : ℕ) → i < length d → get_or d i 0 ≡ 34 → stop ≡ i + 1 + prefix_len is_plain (drop (i + 1) d) → stop < length d → get_or d stop 0 ≡ 34
    → lex between (drop i d) ≡ token (string (take (stop - (i + 1)) (drop (i + 1) d))) ∷ lex between (drop (stop + 1) d)
unfolding lex
string_there d i stop within opens is below closes =
    let s = take (stop - (i + 1)) (drop (i + 1) d) in
    let n = prefix_len is_plain (drop (i + 1) d) in
    let count : n ≡ stop - (i + 1) = omega arith in
    let behind : drop n (drop (i + 1) d) ≡ drop stop d = drop-drop n (i + 1) d ∙ ap (λ k. drop k d) (sym is) in
    let found : content plain (drop (i + 1) d) ≡ Some s =
    content_run (drop (i + 1) d) ∙ ap (λ t. prepend (take n (drop (i + 1) d)) (content plain t)) (behind ∙ front d stop 34 below closes)
    ∙ ap (prepend (take n (drop (i + 1) d))) (at_quote (drop (stop + 1) d)) ∙ ap (λ k. prepend (take k (drop (i + 1) d)) (Some [])) count ∙ ap Some (append-nil s) in
    let stopped : lex in_string (drop (i + 1) d) ≡ lex in_string (drop stop d) = in_string_run (drop (i + 1) d) ∙ ap (lex in_string) behind in
    let closed : lex in_string (drop stop d) ≡ lex between (drop (stop + 1) d) = ap (lex in_string) (front d stop 34 below closes) in
    ap (lex between) (front d i 34 within opens) ∙ ap₂ (λ o ls. token (string_token o) ∷ ls) found (stopped ∙ closed)

-- ---- words

pub allowed : (b : Bool) (t : Token) (k : Place → List Token) (next : Place) → b ≡ true → if_allowed b t k next ≡ t ∷ k next
allowed b t k next e = ap (λ x. if_allowed x t k next) e

abbrev IsDelimiter : ℕ → Type 0
IsDelimiter c = (c ≡ 44) ⊎ ((c ≡ 93) ⊎ (c ≡ 125))

pub at_delimiter : (P : ℕ → Type 0) → P 44 → P 93 → P 125 → (c : ℕ) → IsDelimiter c → P c
at_delimiter P comma list object c (inl e) = subst P (sym e) comma
at_delimiter P comma list object c (inr (inl e)) = subst P (sym e) list
at_delimiter P comma list object c (inr (inr e)) = subst P (sym e) object

delimited : (xs : List ℕ) (c : ℕ) → IsDelimiter c → lex in_word (c ∷ xs) ≡ lex between (c ∷ xs)
unfolding lex
delimited xs = at_delimiter (λ c. lex in_word (c ∷ xs) ≡ lex between (c ∷ xs)) refl refl refl

word_ends : (d : List ℕ) (end : ℕ) → Delimits d end → lex in_word (drop end d) ≡ lex between (drop end d)
word_ends d end at =
    let e = front d end (get_or d end 0) at.within refl in
    ap (lex in_word) e ∙ delimited (drop (end + 1) d) (get_or d end 0) at.byte ∙ ap (lex between) (sym e)

head_is : (d : List ℕ) (end : ℕ) → end < length d → head (drop end d) ≡ get_or d end 0
head_is d end within = ap head (drop_more d end 0 within)

-- ---- numbers

other_class : (q b o s : Bool) → q ≡ false → b ≡ false → o ≡ false → s ≡ false → cond q quote (cond b backslash (cond o operator (cond s space other))) ≡ other
other_class true b o s e f g h = absurd (true≢false e)
other_class false true o s e f g h = absurd (true≢false f)
other_class false false true s e f g h = absurd (true≢false g)
other_class false false false true e f g h = absurd (true≢false h)
other_class false false false false e f g h = refl

digit_class : (x : ℕ) → 48 ≤ x → x ≤ 57 → class x ≡ other
digit_class x low high =
    let no : (c : ℕ) → (x ≡ c → ⊥) → (x == c) ≡ false = λ c. ne_eqb x c in
    other_class (x == 34) (x == 92) (is_operator x) (is_space x) (no 34 (λ e. omega arith)) (no 92 (λ e. omega arith))
    (λ j. no 123 (λ e. omega arith) j || no 125 (λ e. omega arith) j || no 91 (λ e. omega arith) j || no 93 (λ e. omega arith) j || no 58 (λ e. omega arith) j || no 44 (λ e. omega arith) j)
    (λ j. no 32 (λ e. omega arith) j || no 9 (λ e. omega arith) j || no 10 (λ e. omega arith) j || no 13 (λ e. omega arith) j)

digit_bounds : (x : ℕ) → is_ascii_digit x ≡ true → (48 ≤ x) × (x ≤ 57)
digit_bounds x e = (grind (arith, nat_tests), grind (arith, nat_tests))

digit_byte : (p : Bool) (x n : ℕ) (xs : List ℕ) → p ≡ is_ascii_digit x → lex in_word xs ≡ lex in_word (drop n xs) → lex in_word (x ∷ xs) ≡ lex in_word (drop (cond p (1 + n) 0) (x ∷ xs))
unfolding lex
digit_byte false x n xs e ih = refl
digit_byte true x n xs e ih =
    let next : suc n ≡ 1 + n = omega arith in
    let b = digit_bounds x (sym e) in
    ap (λ c. lex_byte in_word c x xs (λ m. lex m xs)) (digit_class x b.0 b.1) ∙ ih ∙ ap (λ k. lex in_word (drop k (x ∷ xs))) next

in_word_run : (xs : List ℕ) → lex in_word xs ≡ lex in_word (drop (prefix_len is_ascii_digit xs) xs)
in_word_run [] = refl
in_word_run (x ∷ xs) = digit_byte (is_ascii_digit x) x (prefix_len is_ascii_digit xs) xs refl (in_word_run xs)

-- a word that begins with a digit is a number, if its whole part ends it
number_is : (x : ℕ) (xs rest : List ℕ) → 48 ≤ x → x ≤ 57 → after_whole (x ∷ xs) ≡ Some rest → IsDelimiter (head rest) → word (x ∷ xs) ≡ number (take (length (x ∷ xs) - length rest) (x ∷ xs))
unfolding word after_number
number_is x xs rest low high whole ends =
    let t = x ∷ xs in
    let no : (c : ℕ) → (x ≡ c → ⊥) → (x == c) ≡ false = λ c. ne_eqb x c in
    let minus : after_minus t ≡ t = ap (λ b. cond b xs t) (no 45 (λ e. omega arith)) in
    let dot : (head rest == 46) ≡ false = at_delimiter (λ c. (c == 46) ≡ false) refl refl refl (head rest) ends in
    let exponent : ((head rest == 101) || (head rest == 69)) ≡ false = at_delimiter (λ c. ((c == 101) || (c == 69)) ≡ false) refl refl refl (head rest) ends in
    let ends_it : ends_word rest ≡ true = at_delimiter (λ c. (is_operator c || is_space c) ≡ true) refl refl refl (head rest) ends in
    let all : after_number t ≡ Some rest = ap (λ u. option_and_then after_exponent (option_and_then after_fraction (after_whole u))) minus
    ∙ ap (λ o. option_and_then after_exponent (option_and_then after_fraction o)) whole
    ∙ ap (λ b. option_and_then after_exponent (cond b (after_digits (drop 1 rest)) (Some rest))) dot
    ∙ ap (λ b. cond b (after_digits (after_sign (drop 1 rest))) (Some rest)) exponent in
    let chosen : word t ≡ number_before t (after_number t) = (λ j. cond (no 116 (λ e. omega arith) j) (literal true_text (boolean true) t) (cond (no 102 (λ e. omega arith) j) (literal false_text (boolean false) t)
    (cond (no 110 (λ e. omega arith) j) (literal null_text null t) (number_before t (after_number t))))) in
    chosen ∙ ap (number_before t) all ∙ ap (λ b. cond b (number (take (length t - length rest) t)) bad) ends_it

-- the first lexeme where a digit stands
first_word : (x : ℕ) (xs : List ℕ) → 48 ≤ x → x ≤ 57 → lex between (x ∷ xs) ≡ token (word (x ∷ xs)) ∷ lex in_word xs
unfolding lex
first_word x xs low high = ap (λ c. lex_byte between c x xs (λ m. lex m xs)) (digit_class x low high)

placed_number : (s : List ℕ) (p : Place) (ls : List Lexeme) → may_begin p ≡ true → punctuate p (token (number s) ∷ ls) ≡ number s ∷ punctuate after_value ls
unfolding punctuate
placed_number s p ls may = allowed (may_begin p) (number s) (λ n. punctuate n ls) after_value may

module _ (d : List ℕ) (at : ℕ) (within : at < length d) where
  -- from a digit on, the whole part ends there
  number_there : (end : ℕ) → end ≤ length d → at ≤ end → 48 ≤ get_or d at 0 → get_or d at 0 ≤ 57 → after_whole (drop at d) ≡ Some (drop end d) → (Delimits d end → lex in_word (drop (at + 1) d) ≡ lex in_word (drop end d))
      → Words d at (number (take (end - at) (drop at d))) end
  number_there end below after low high whole passes =
      let x = get_or d at 0 in
      let xs = drop (at + 1) d in
      let e : drop at d ≡ x ∷ xs = drop_more d at 0 within in
      let count : length (drop at d) - length (drop end d) ≡ end - at = simp length-drop (omega arith) in
      record {
        within = below;
        placed = placed_number (take (end - at) (drop at d));
        gives = λ dl.
            let is = number_is x xs (drop end d) low high (ap after_whole (sym e) ∙ whole) (subst IsDelimiter (sym (head_is d end dl.within)) dl.byte) in
            ap (lex between) e ∙ first_word x xs low high ∙ ap₂ (λ w ls. token w ∷ ls) (is ∙ ap (λ t. number (take (length t - length (drop end d)) t)) (sym e) ∙ ap (λ k. number (take k (drop at d))) count) (passes dl ∙ word_ends d end dl);
      }

  pub zero_there : get_or d at 0 ≡ 48 → Words d at (number (take (at + 1 - at) (drop at d))) (at + 1)
  zero_there is =
      let e : drop at d ≡ 48 ∷ drop (at + 1) d = front d at 48 within is in
      number_there (at + 1) (omega arith) (omega arith) (omega arith) (omega arith) (ap after_whole e) (λ dl. refl)

  pub digits_there : (end : ℕ) → end ≤ length d → 49 ≤ get_or d at 0 → get_or d at 0 ≤ 57 → end ≡ at + 1 + prefix_len is_ascii_digit (drop (at + 1) d) → Words d at (number (take (end - at) (drop at d))) end
  digits_there end below low high is =
      let x = get_or d at 0 in
      let xs = drop (at + 1) d in
      let n = prefix_len is_ascii_digit xs in
      let e : drop at d ≡ x ∷ xs = drop_more d at 0 within in
      let digit : is_ascii_digit x ≡ true = grind (arith, nat_tests) in
      let len : prefix_len is_ascii_digit (x ∷ xs) ≡ 1 + n = ap (λ b. cond b (1 + n) 0) digit in
      let some : (1 + n == 0) ≡ false = ne_eqb (1 + n) 0 (λ z. omega arith) in
      let left : drop (1 + n) (x ∷ xs) ≡ drop end d = ap (drop (1 + n)) (sym e) ∙ drop-drop (1 + n) at d ∙ (let k : at + (1 + n) ≡ end = omega arith in ap (λ k. drop k d) k) in
      let whole : after_whole (drop at d) ≡ Some (drop end d) =
      ap after_whole e ∙ ap (λ b. cond b (Some xs) (after_digits (x ∷ xs))) (ne_eqb x 48 (λ z. omega arith))
      ∙ ap (λ k. cond (k == 0) None (Some (drop k (x ∷ xs)))) len ∙ ap (λ b. cond b None (Some (drop (1 + n) (x ∷ xs)))) some ∙ ap Some left in
      let run : lex in_word xs ≡ lex in_word (drop end d) = in_word_run xs ∙ ap (lex in_word) (drop-drop n (at + 1) d ∙ (let k : at + 1 + n ≡ end = omega arith in ap (λ k. drop k d) k)) in
      number_there end below (omega arith) (omega arith) high whole (λ dl. run)

-- ---- literals

ended : (r : List ℕ) → IsDelimiter (head r) → ends_word r ≡ true
ended r = at_delimiter (λ c. (is_operator c || is_space c) ≡ true) refl refl refl (head r)

true_word : (r : List ℕ) → IsDelimiter (head r) → word (116 ∷ 114 ∷ 117 ∷ 101 ∷ r) ≡ boolean true
unfolding word
true_word r at = ap (λ b. cond b (boolean true) bad) (ended r at)

false_word : (r : List ℕ) → IsDelimiter (head r) → word (102 ∷ 97 ∷ 108 ∷ 115 ∷ 101 ∷ r) ≡ boolean false
unfolding word
false_word r at = ap (λ b. cond b (boolean false) bad) (ended r at)

null_word : (r : List ℕ) → IsDelimiter (head r) → word (110 ∷ 117 ∷ 108 ∷ 108 ∷ r) ≡ null
unfolding word
null_word r at = ap (λ b. cond b null bad) (ended r at)

placed_boolean : (b : Bool) (p : Place) (ls : List Lexeme) → may_begin p ≡ true → punctuate p (token (boolean b) ∷ ls) ≡ boolean b ∷ punctuate after_value ls
unfolding punctuate
placed_boolean b p ls may = allowed (may_begin p) (boolean b) (λ n. punctuate n ls) after_value may

placed_null : (p : Place) (ls : List Lexeme) → may_begin p ≡ true → punctuate p (token null ∷ ls) ≡ null ∷ punctuate after_value ls
unfolding punctuate
placed_null p ls may = allowed (may_begin p) null (λ n. punctuate n ls) after_value may

-- what the rest of the bytes begins with
pub stands_first : (d name : List ℕ) (at : ℕ) (r : Bool) → r ≡ starts_with nat_eq (take (length d - at) (drop at d)) name → r ≡ true → drop at d ≡ name ++ drop (length name) (drop at d)
stands_first d name at r says is =
    let all : take (length d - at) (drop at d) ≡ drop at d = take_all (length d - at) (drop at d) (omega (arith, length-drop at d)) in
    (starts_is Decides-eqb (drop at d) name r (says ∙ ap (λ t. starts_with nat_eq t name) all)).0 is

module _ (d : List ℕ) (at : ℕ) (within : at ≤ length d) where
  -- the name of a literal stands there
  literal_there : (name : List ℕ) (t : Token) (n : ℕ) → ((p : Place) (ls : List Lexeme) → may_begin p ≡ true → punctuate p (token t ∷ ls) ≡ t ∷ punctuate after_value ls) → length name ≡ n
      → ((r : List ℕ) → IsDelimiter (head r) → lex between (name ++ r) ≡ token t ∷ lex in_word r) → drop at d ≡ name ++ drop n (drop at d) → Words d at t (at + n)
  literal_there name t n placed long reads e =
      let left : drop n (drop at d) ≡ drop (at + n) d = drop-drop n at d in
      let all : length (drop at d) ≡ length name + length (drop n (drop at d)) = ap length e ∙ length-append name (drop n (drop at d)) in
      record {
        within = omega (arith, all, length-drop at d);
        placed = placed;
        gives = λ dl.
            ap (lex between) (e ∙ ap (λ r. name ++ r) left) ∙ reads (drop (at + n) d) (subst IsDelimiter (sym (head_is d (at + n) dl.within)) dl.byte)
            ∙ ap (λ ls. token t ∷ ls) (word_ends d (at + n) dl);
      }

  pub true_there : drop at d ≡ true_text ++ drop 4 (drop at d) → Words d at (boolean true) (at + 4)
  unfolding lex
  true_there = literal_there true_text (boolean true) 4 (placed_boolean true) refl (λ r ends. ap (λ w. token w ∷ lex in_word r) (true_word r ends))

  pub false_there : drop at d ≡ false_text ++ drop 5 (drop at d) → Words d at (boolean false) (at + 5)
  unfolding lex
  false_there = literal_there false_text (boolean false) 5 (placed_boolean false) refl (λ r ends. ap (λ w. token w ∷ lex in_word r) (false_word r ends))

  pub null_there : drop at d ≡ null_text ++ drop 4 (drop at d) → Words d at null (at + 4)
  unfolding lex
  null_there = literal_there null_text null 4 placed_null refl (λ r ends. ap (λ w. token w ∷ lex in_word r) (null_word r ends))
