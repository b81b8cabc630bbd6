-- What is found in front of a text is written there.
use Rattle.std.proofs.Common.{◌≡◌, ◌≤◌, ℕ, zero, suc, ◌+◌, ◌==◌, ◌&&◌, ◌||◌, ◌⊎◌, inl, inr, not, List, [], ◌∷◌, ◌++◌, length, take, drop, Option, Some, None, option_map, Bool, true, false, if◌then◌else◌, refl, ap, sym, subst, ◌∙◌, append_assoc, length-append, eqb-true, arith}
use Rattle.std.specs.Prelude.{codes, bytes_eq, nat_eq}
use Rattle.std.specs.List.{list_any}
use Rattle.std.proofs.lemmas.Slice.Eq.{bytes_eq-Decides}
use Rattle.std.proofs.Math.Seq.{take-append-add}
use Rattle.std.proofs.lemmas.List.{append-nil, length-drop, take-append-drop}
use Rattle.event_tree.specs.Number.{Num}
use Rattle.event_tree.specs.NumberTexts.{is_digit}
use Rattle.event_tree.specs.PathTexts.{bracketed}
use Rattle.config_lex.specs.Bytes.{passing, skip, closing, unescaped, is_letter, is_in_word, is_in_part, begins_with, begins_digit, begins_number, sign_length, whole_length, point_length, number_length, number_of, part_length}
use Rattle.config_lex.specs.Laws.{Writes}
use Rattle.config_lex.specs.Lexemes.{Found, joint_word, other_word, word_of, word_token, word_at, number_at, quoted_at, regexp_at, bracket_at, selector_of, selector_length, parts_at, parts_more, begins_literals, sign_at, double, single, longer, token_at}
use Rattle.config_lex.specs.Spelling.{spelling}
use Rattle.config_lex.specs.declared.context.Context.{Context}
use Rattle.config_lex.specs.declared.token.Token.{Token}
use Rattle.config_lex.specs.declared.token.Token.TheVariants as t
use Rattle.config_lex.specs.declared.token.Word.{Word}
use Rattle.config_lex.specs.declared.token.Word.TheVariants as w
use Rattle.config_lex.specs.declared.token.Section.TheVariants as kind
use Rattle.config_tree.specs.declared.operators.Conjunction.TheVariants as and
use Rattle.config_tree.specs.declared.operators.Disjunction.TheVariants as or
use Rattle.config_tree.specs.declared.operators.Comparison.TheVariants as is
use Rattle.config_tree.specs.declared.operators.Matching.TheVariants as matching

-- a token found in front of a text is some of it, and is written so
pub record IsThere (s : List ℕ) (y : Token) (n : ℕ) : Type 0 where
  pub some : 1 ≤ n
  pub within : n ≤ length s
  pub writes : Writes y (take n s)

abbrev pub Found_there : List ℕ → Found → Type 0
Found_there s None = Unit {0}
Found_there s (Some p) = IsThere s p.0 p.1

either : {A : Type 0} (P : A → Type 0) (z : Bool) (a b : A) → (z ≡ true → P a) → (z ≡ false → P b) → P (if z then a else b)
either P true a b f g = f refl
either P false a b f g = g refl

passing_fits : (test : ℕ → Bool) (s : List ℕ) → passing test s ≤ length s
unfolding passing
passing_fits test [] = omega arith
passing_fits test (b ∷ s) = either (λ n. n ≤ suc (length s)) (test b) (suc (passing test s)) 0 (λ e. omega (arith, passing_fits test s)) (λ e. omega arith)

passing_some : (test : ℕ → Bool) (b : ℕ) (s : List ℕ) → test b ≡ true → 1 ≤ passing test (b ∷ s)
unfolding passing
passing_some test b s e = subst (λ z. 1 ≤ (if z then suc (passing test s) else 0)) (sym e) (omega arith)

-- ---- words

named : (s text : List ℕ) (a b : Word) → (bytes_eq s text ≡ true → spelling a ≡ text) → spelling b ≡ s → spelling (if bytes_eq s text then a else b) ≡ s
named s text a b f g = either (λ x. spelling x ≡ s) (bytes_eq s text) a b (λ e. f e ∙ sym ((bytes_eq-Decides s text).0 e)) (λ e. g)

spelled : (s : List ℕ) → spelling (word_of s) ≡ s
spelled s =
    named s (codes "if") w.If (if bytes_eq s (codes "else") then w.Else else other_word s) (λ e. refl)
    (named s (codes "else") w.Else (other_word s) (λ e. refl)
    (named s (codes "in") w.In (if bytes_eq s (codes "not") then w.Not else joint_word s) (λ e. refl)
    (named s (codes "not") w.Not (joint_word s) (λ e. refl)
    (named s (codes "and") (w.Conjunction and.And) _ (λ e. refl)
    (named s (codes "nand") (w.Conjunction and.Nand) _ (λ e. refl)
    (named s (codes "or") (w.Disjunction or.Or) _ (λ e. refl)
    (named s (codes "xor") (w.Disjunction or.Xor) _ (λ e. refl)
    (named s (codes "input") (w.Section kind.Input) _ (λ e. refl)
    (named s (codes "filter") (w.Section kind.Filter) _ (λ e. refl)
    (named s (codes "output") (w.Section kind.Output) (w.Other s) (λ e. refl) refl))))))))))

word_writes : (s : List ℕ) → Writes (word_token s) s
word_writes s = either (λ y. Writes y s) (list_any (λ b. nat_eq b 45) s) (t.Dashed s) (t.Word (word_of s)) (λ e. refl) (λ e. sym (spelled s))

letter_in_word : (dashes : Bool) (b : ℕ) → is_letter b ≡ true → is_in_word dashes b ≡ true
letter_in_word dashes b h = ap (λ z. z || is_digit b || (dashes && b == 45)) h

word_there : (inside : Bool) (b : ℕ) (s : List ℕ) → is_letter b ≡ true → Found_there (b ∷ s) (word_at inside (b ∷ s))
word_there inside b s h =
    let n = passing (is_in_word (not inside)) (b ∷ s) in
    record { some = passing_some (is_in_word (not inside)) b s (letter_in_word (not inside) b h); within = passing_fits (is_in_word (not inside)) (b ∷ s); writes = word_writes (take n (b ∷ s)) }

-- ---- numbers

sign_fits : (s : List ℕ) → sign_length s ≤ length s
sign_fits [] = omega arith
sign_fits (b ∷ s) = either (λ n. n ≤ suc (length s)) (b == 45) 1 0 (λ e. omega arith) (λ e. omega arith)

pub whole_fits : (s : List ℕ) → whole_length s ≤ length s
whole_fits s = omega (arith, sign_fits s, passing_fits is_digit (drop (sign_length s) s), length-drop (sign_length s) s)

point_fits : (s : List ℕ) → point_length s ≤ length s
point_fits [] = omega arith
point_fits (b ∷ s) = either (λ n. n ≤ suc (length s)) (b == 46 && begins_digit s) (suc (passing is_digit s)) 0 (λ e. omega (arith, passing_fits is_digit s)) (λ e. omega arith)

pub number_fits : (s : List ℕ) → number_length s ≤ length s
number_fits s = omega (arith, whole_fits s, point_fits (drop (whole_length s) s), length-drop (whole_length s) s)

pub digits_some : (s : List ℕ) → begins_digit s ≡ true → 1 ≤ passing is_digit s
digits_some [] e = absurd (cc)
digits_some (b ∷ s) e = passing_some is_digit b s e

number_there : (s : List ℕ) → begins_number s ≡ true → Found_there s (number_at s)
number_there s h = at (number_of (take (number_length s) s)) refl
  where
    at : (o : Option Num) → number_of (take (number_length s) s) ≡ o → Found_there s (option_map (λ value. (t.Number value (take (number_length s) s), number_length s)) o)
    at None e = tt
    at (Some n) e = record { some = omega (arith, digits_some (drop (sign_length s) s) h); within = number_fits s; writes = (refl, e) }

-- ---- strings and regexps

-- what closes stands behind what is inside
pub closes_there : (c : ℕ) (escaped : Bool) (s : List ℕ) (n : ℕ) → closing c escaped s ≡ Some n → (suc n ≤ length s) × (take (suc n) s ≡ take n s ++ c ∷ [])
unfolding closing
closes_there c escaped [] n e = absurd (cc)
closes_there c escaped (b ∷ s) n e = at (b == c && not escaped) refl (closing c (b == 92) s) refl e (λ k g. closes_there c (b == 92) s k g)
  where
    here : (b == c && not escaped) ≡ true → b ≡ c
    here f = eqb-true b c (first (b == c) (not escaped) f)
      where
        first : (x y : Bool) → (x && y) ≡ true → x ≡ true
        first true y g = refl
        first false y g = g

    at : (z : Bool) → (b == c && not escaped) ≡ z → (o : Option ℕ) → closing c (b == 92) s ≡ o → (if z then Some 0 else option_map suc o) ≡ Some n → ((k : ℕ) → closing c (b == 92) s ≡ Some k → (suc k ≤ length s) × (take (suc k) s ≡ take k s ++ c ∷ [])) → (suc n ≤ length (b ∷ s)) × (take (suc n) (b ∷ s) ≡ take n (b ∷ s) ++ c ∷ [])
    at true f o g h again = let is : 0 ≡ n = cc in subst (λ k. (suc k ≤ suc (length s)) × (take (suc k) (b ∷ s) ≡ take k (b ∷ s) ++ c ∷ [])) is (omega arith, ap (λ x. x ∷ []) (here f))
    at false f None g h again = absurd (cc)
    at false f (Some k) g h again =
        let is : suc k ≡ n = cc in
        let m = again k g in
        subst (λ k. (suc k ≤ suc (length s)) × (take (suc k) (b ∷ s) ≡ take k (b ∷ s) ++ c ∷ [])) is (omega (arith, m.0), ap (λ x. b ∷ x) m.1)

between : (c : ℕ) (s : List ℕ) (n : ℕ) → closing c false s ≡ Some n → take (n + 2) (c ∷ s) ≡ c ∷ (take n s ++ c ∷ [])
between c s n e = let two : n + 2 ≡ suc (suc n) = omega arith in ap (λ k. take k (c ∷ s)) two ∙ ap (λ x. c ∷ x) (closes_there c false s n e).1

quote_is : (b : ℕ) → (b == 34 || b == 39) ≡ true → (b ≡ 34) ⊎ (b ≡ 39)
quote_is b h = at (b == 34) refl
  where
    at : (z : Bool) → (b == 34) ≡ z → (b ≡ 34) ⊎ (b ≡ 39)
    at true e = inl (eqb-true b 34 e)
    at false e = inr (eqb-true b 39 (sym (ap (λ z. z || b == 39) e) ∙ h))

quoted_there : (b : ℕ) (s : List ℕ) → (b ≡ 34) ⊎ (b ≡ 39) → Found_there (b ∷ s) (quoted_at b s)
quoted_there b s q = at (closing b false s) refl q
  where
    at : (o : Option ℕ) → closing b false s ≡ o → (b ≡ 34) ⊎ (b ≡ 39) → Found_there (b ∷ s) (option_map (λ n. (t.Quoted (take n s), n + 2)) o)
    at None e q = tt
    at (Some n) e (inl is) = record { some = omega arith; within = omega (arith, (closes_there b false s n e).0); writes = inl (between b s n e ∙ ap (λ c. c ∷ (take n s ++ c ∷ [])) is) }
    at (Some n) e (inr is) = record { some = omega arith; within = omega (arith, (closes_there b false s n e).0); writes = inr (between b s n e ∙ ap (λ c. c ∷ (take n s ++ c ∷ [])) is) }

regexp_there : (b : ℕ) (s : List ℕ) → b ≡ 47 → Found_there (b ∷ s) (regexp_at s)
regexp_there b s is = at (closing 47 false s) refl
  where
    at : (o : Option ℕ) → closing 47 false s ≡ o → Found_there (b ∷ s) (option_map (λ n. (t.Regexp (unescaped (take n s)), n + 2)) o)
    at None e = tt
    at (Some n) e = record { some = omega arith; within = omega (arith, (closes_there 47 false s n e).0); writes = (take n s, refl, ap (λ c. take (n + 2) (c ∷ s)) is ∙ between 47 s n e) }

-- ---- signs

abbrev Sign : List ℕ → Option Token → Type 0
Sign s None = Unit {0}
Sign s (Some y) = Writes y s

or_else : (s : List ℕ) (z : Bool) (y : Token) (o : Option Token) → (z ≡ true → Writes y s) → Sign s o → Sign s (if z then Some y else o)
or_else s z y o f u = either (Sign s) z (Some y) o f (λ e. u)

two : (b c p q : ℕ) → (b == p && c == q) ≡ true → b ∷ c ∷ [] ≡ p ∷ q ∷ []
two b c p q h = at (b == p) refl
  where
    at : (z : Bool) → (b == p) ≡ z → b ∷ c ∷ [] ≡ p ∷ q ∷ []
    at true e = let f : (c == q) ≡ true = sym (ap (λ z. z && c == q) e) ∙ h in λ i. eqb-true b p e i ∷ eqb-true c q f i ∷ []
    at false e = let f : false ≡ true = sym (ap (λ z. z && c == q) e) ∙ h in absurd (cc)

double_writes : (b c : ℕ) → Sign (b ∷ c ∷ []) (double b c)
double_writes b c =
    or_else _ (b == 61 && c == 62) t.Arrow _ (two b c 61 62) (or_else _ (b == 61 && c == 61) (t.Comparison is.Equal) _ (two b c 61 61) (or_else _ (b == 33 && c == 61) (t.Comparison is.Unequal) _ (two b c 33 61)
    (or_else _ (b == 60 && c == 61) (t.Comparison is.AtMost) _ (two b c 60 61) (or_else _ (b == 62 && c == 61) (t.Comparison is.AtLeast) _ (two b c 62 61) (or_else _ (b == 61 && c == 126) (t.Matching matching.Matches) _ (two b c 61 126)
    (or_else _ (b == 33 && c == 126) (t.Matching matching.MatchesNot) None (two b c 33 126) tt))))))

one : (b p : ℕ) → (b == p) ≡ true → b ∷ [] ≡ p ∷ []
one b p e = ap (λ x. x ∷ []) (eqb-true b p e)

single_writes : (b : ℕ) → Sign (b ∷ []) (single b)
single_writes b =
    or_else _ (b == 123) t.OpenBrace _ (one b 123) (or_else _ (b == 125) t.CloseBrace _ (one b 125) (or_else _ (b == 93) t.CloseBracket _ (one b 93) (or_else _ (b == 40) t.OpenParen _ (one b 40) (or_else _ (b == 41) t.CloseParen _ (one b 41)
    (or_else _ (b == 44) t.Comma _ (one b 44) (or_else _ (b == 33) t.Exclamation _ (one b 33) (or_else _ (b == 60) (t.Comparison is.Less) _ (one b 60) (or_else _ (b == 62) (t.Comparison is.Greater) None (one b 62) tt))))))))

sign_there : (s : List ℕ) → Found_there s (sign_at s)
sign_there [] = tt
sign_there (b ∷ []) = at (single b) (single_writes b)
  where
    at : (o : Option Token) → Sign (b ∷ []) o → Found_there (b ∷ []) (longer None o)
    at None h = tt
    at (Some y) h = record { some = omega arith; within = omega arith; writes = h }
sign_there (b ∷ c ∷ s) = at (double b c) (single b) (double_writes b c) (single_writes b)
  where
    at : (o q : Option Token) → Sign (b ∷ c ∷ []) o → Sign (b ∷ []) q → Found_there (b ∷ c ∷ s) (longer o q)
    at (Some y) q h u = record { some = omega arith; within = omega arith; writes = h }
    at None (Some y) h u = record { some = omega arith; within = omega arith; writes = u }
    at None None h u = tt

-- ---- selectors

stands_at : (c m : ℕ) (s : List ℕ) → begins_with c (drop m s) ≡ true → (suc m ≤ length s) × (take (suc m) s ≡ take m s ++ c ∷ [])
stands_at c zero [] e = absurd (cc)
stands_at c zero (b ∷ s) e = (omega arith, ap (λ x. x ∷ []) (eqb-true b c e))
stands_at c (suc m) [] e = absurd (cc)
stands_at c (suc m) (b ∷ s) e = let q = stands_at c m s e in (omega (arith, q.0), ap (λ x. b ∷ x) q.1)

both_l : (x y : Bool) → (x && y) ≡ true → x ≡ true
both_l true y g = refl
both_l false y g = g

both_r : (x y : Bool) → (x && y) ≡ true → y ≡ true
both_r true y g = g
both_r false y g = absurd (cc)

-- a part of a selector in front
part_there : (s : List ℕ) (k : ℕ) → part_length s ≡ Some k → (k + 2 ≤ length s) × (take (k + 2) s ≡ 91 ∷ (take k (drop 1 s) ++ 93 ∷ []))
part_there [] k e = absurd (cc)
part_there (b ∷ s) k e = at (b == 91 && not (m == 0) && begins_with 93 (drop m s)) refl e
  where
    m : ℕ
    m = passing is_in_part s

    there : (z : Bool) → (b == 91 && not (passing is_in_part s == 0) && begins_with 93 (drop (passing is_in_part s) s)) ≡ true → passing is_in_part s ≡ k → (k + 2 ≤ suc (length s)) × (take (k + 2) (b ∷ s) ≡ 91 ∷ (take k s ++ 93 ∷ []))
    there z f is =
        let n = passing is_in_part s in
        let q = stands_at 93 n s (both_r (b == 91 && not (n == 0)) (begins_with 93 (drop n s)) f) in
        let two : n + 2 ≡ suc (suc n) = omega arith in
        let first : b ≡ 91 = eqb-true b 91 (both_l (b == 91) (not (n == 0)) (both_l (b == 91 && not (n == 0)) (begins_with 93 (drop n s)) f)) in
        subst (λ j. (j + 2 ≤ suc (length s)) × (take (j + 2) (b ∷ s) ≡ 91 ∷ (take j s ++ 93 ∷ []))) is (omega (arith, q.0), ap (λ j. take j (b ∷ s)) two ∙ (λ i. first i ∷ q.1 i))

    at : (z : Bool) → (b == 91 && not (passing is_in_part s == 0) && begins_with 93 (drop (passing is_in_part s) s)) ≡ z → (if z then Some (passing is_in_part s) else None) ≡ Some k → (k + 2 ≤ suc (length s)) × (take (k + 2) (b ∷ s) ≡ 91 ∷ (take k s ++ 93 ∷ []))
    at true f g = there true f (cc)
    at false f g = absurd (cc)

-- the parts that are read, behind those in front
record More (front : List (List ℕ)) (s : List ℕ) (all : List (List ℕ)) : Type 0 where
  more : List (List ℕ)
  whole : all ≡ front ++ more
  within : selector_length more ≤ length s
  written : take (selector_length more) s ≡ bracketed more

one_more : (front : List (List ℕ)) (s p : List ℕ) (k : ℕ) (all : List (List ℕ)) → k + 2 ≤ length s → take (k + 2) s ≡ 91 ∷ (p ++ 93 ∷ []) → More (front ++ p ∷ []) (drop (k + 2) s) all → More front s all
one_more front s p k all fits is m =
    let part = 91 ∷ (p ++ 93 ∷ []) in
    let rest = drop (k + 2) s in
    let split : s ≡ part ++ rest = sym (take-append-drop (k + 2) s) ∙ ap (λ x. x ++ rest) is in
    let long : length part ≡ length p + 2 = ap suc (length-append p (93 ∷ [])) ∙ omega arith in
    let count : selector_length (p ∷ m.more) ≡ length part + selector_length m.more = omega (arith, long) in
    let all_long : length s ≡ length part + length rest = ap length split ∙ length-append part rest in
    record {
      more = p ∷ m.more;
      whole = m.whole ∙ append_assoc front (p ∷ []) m.more;
      within = omega (arith, count, all_long, m.within);
      written = ap (λ n. take n s) count ∙ ap (take (length part + selector_length m.more)) split ∙ take-append-add part rest (selector_length m.more) ∙ ap (λ x. part ++ x) m.written ∙ ap (λ x. 91 ∷ x) (append_assoc p (93 ∷ []) (bracketed m.more));
    }

parts_from : (n : ℕ) (front : List (List ℕ)) (s : List ℕ) → More front s (parts_at n front s)
unfolding parts_at
parts_from zero front s = record { more = []; whole = sym (append-nil front); within = omega arith; written = refl }
parts_from (suc n) front s = at (part_length s) refl (λ k. parts_from n (front ++ take k (drop 1 s) ∷ []) (drop (k + 2) s))
  where
    at : (o : Option ℕ) → part_length s ≡ o → ((k : ℕ) → More (front ++ take k (drop 1 s) ∷ []) (drop (k + 2) s) (parts_at n (front ++ take k (drop 1 s) ∷ []) (drop (k + 2) s))) → More front s (parts_more o front s (λ f r. parts_at n f r))
    at None e again = record { more = []; whole = sym (append-nil front); within = omega arith; written = refl }
    at (Some k) e again = let p = part_there s k e in one_more front s (take k (drop 1 s)) k _ p.0 p.1 (again k)

selector_there : (s : List ℕ) (parts : List (List ℕ)) → More [] s parts → Found_there s (selector_of parts)
selector_there s [] m = tt
selector_there s (p ∷ ps) m =
    let is : p ∷ ps ≡ m.more = m.whole in
    record { some = omega arith; within = subst (λ q. selector_length q ≤ length s) (sym is) m.within; writes = subst (λ q. take (selector_length q) s ≡ bracketed q) (sym is) m.written }

bracket_there : (operand : Bool) (b : ℕ) (s : List ℕ) → b ≡ 91 → Found_there (b ∷ s) (bracket_at operand (b ∷ s))
bracket_there operand b s is =
    either (Found_there (b ∷ s)) (operand && not (begins_literals (drop (1 + skip false s) (b ∷ s)))) (selector_of (parts_at (length (b ∷ s)) [] (b ∷ s))) (Some (t.OpenBracket, 1))
    (λ e. selector_there (b ∷ s) (parts_at (length (b ∷ s)) [] (b ∷ s)) (parts_from (length (b ∷ s)) [] (b ∷ s)))
    (λ e. record { some = omega arith; within = omega arith; writes = ap (λ x. x ∷ []) is })

-- ---- each token

abbrev behind_regexps : Context → ℕ → List ℕ → Found
behind_regexps x b s = if b == 91 then bracket_at x.at_operand (b ∷ s) else sign_at (b ∷ s)

abbrev behind_strings : Context → ℕ → List ℕ → Found
behind_strings x b s = if b == 47 then regexp_at s else behind_regexps x b s

abbrev behind_numbers : Context → ℕ → List ℕ → Found
behind_numbers x b s = if b == 34 || b == 39 then quoted_at b s else behind_strings x b s

abbrev behind_letters : Context → ℕ → List ℕ → Found
behind_letters x b s = if begins_number (b ∷ s) then number_at (b ∷ s) else behind_numbers x b s

-- a token that is found is written there
pub found_there : (x : Context) (s : List ℕ) → Found_there s (token_at x s)
unfolding token_at
found_there x [] = tt
found_there x (b ∷ s) =
    either (Found_there (b ∷ s)) (is_letter b) (word_at x.in_condition (b ∷ s)) (behind_letters x b s) (λ e. word_there x.in_condition b s e)
    (λ e. either (Found_there (b ∷ s)) (begins_number (b ∷ s)) (number_at (b ∷ s)) (behind_numbers x b s) (λ e. number_there (b ∷ s) e)
    (λ e. either (Found_there (b ∷ s)) (b == 34 || b == 39) (quoted_at b s) (behind_strings x b s) (λ e. quoted_there b s (quote_is b e))
    (λ e. either (Found_there (b ∷ s)) (b == 47) (regexp_at s) (behind_regexps x b s) (λ e. regexp_there b s (eqb-true b 47 e))
    (λ e. either (Found_there (b ∷ s)) (b == 91) (bracket_at x.at_operand (b ∷ s)) (sign_at (b ∷ s)) (λ e. bracket_there x.at_operand b s (eqb-true b 91 e)) (λ e. sign_there (b ∷ s))))))
