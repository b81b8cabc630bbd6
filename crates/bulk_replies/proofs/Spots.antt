-- What `punctuate` gives of JSON that is written compactly, where a reader stands.
use Rattle.std.proofs.Common.{◌≡◌, ℕ, ◌+◌, ◌<◌, Bool, true, false, cond, ◌==◌, ◌||◌, List, [], ◌∷◌, length, drop, get_or, Option, Some, None, refl, sym, ap, ◌∙◌, arith, ne_eqb}
use Rattle.std.proofs.lemmas.List.{drop_all, drop_more}
use Rattle.std.proofs.lemmas.Bool.{true≢false, false≢true}
use Rattle.std.specs.Prelude.{⊤}
use Rattle.json.specs.Token.{Token, begin_object, end_object, begin_array, end_array, key, string, number, boolean, null, bad}
use Rattle.json.specs.Text.{content, plain}
use Rattle.json.specs.Word.{after_number, ends_word, head, is_operator, is_space, number_before, word}
use Rattle.json.specs.Json.{after_end_array}
use Rattle.json.specs.Lex.{Lexeme, token, comma, colon, Class, quote, backslash, operator, space, other, string_token, Mode, between, in_word, in_string, lex_byte, lex, fresh, after_value, after_comma, after_key, begins_colon, if_allowed, may_begin, may_close, place_token, punctuate}
use Rattle.json.specs.Lex as text
use Rattle.bulk_replies.specs.Compact.{place_of, begins_at, closes_at, left_at, Follows, Delimits, Lexes, Words, Begins}
use Rattle.bulk_replies.specs.declared.compact.SeparatorState.{SeparatorState}
use Rattle.bulk_replies.specs.declared.compact.SeparatorState.TheVariants.{Fresh, AfterValue, AfterComma}
use Rattle.bulk_replies.specs.declared.compact.ReaderState.{ReaderState}
use Rattle.bulk_replies.proofs.Lexemes.{allowed, front, at_delimiter}

abbrev spot : ℕ → SeparatorState → ReaderState
spot at place = record { at = at; place = place }

pub past_comma : (d : List ℕ) (at : ℕ) → at < length d → get_or d at 0 ≡ 44 → Follows d at (spot (at + 1) AfterComma)
unfolding lex punctuate
past_comma d at within is = record { within = omega arith; same = ap (λ t. punctuate after_value (lex between t)) (front d at 44 within is) }

-- ---- what begins

no_colon : (d : List ℕ) (at : ℕ) → Delimits d at → begins_colon (lex between (drop at d)) ≡ false
unfolding lex
no_colon d at dl =
    ap (λ t. begins_colon (lex between t)) (drop_more d at 0 dl.within)
    ∙ at_delimiter (λ c. begins_colon (lex between (c ∷ drop (at + 1) d)) ≡ false) refl refl refl (get_or d at 0) dl.byte

pub begins_key : (d s : List ℕ) (at end : ℕ) → Lexes d at (string s) end → end < length d → get_or d end 0 ≡ 58 → Begins d at (key s) (spot (end + 1) Fresh)
unfolding lex punctuate
begins_key d s at end l within is = record {
  within = omega arith;
  gives = λ p may.
      ap (punctuate p) (l.gives ∙ ap (λ t. token (string s) ∷ lex between t) (front d end 58 within is))
      ∙ allowed (may_begin p) (key s) (λ n. punctuate n (colon ∷ lex between (drop (end + 1) d))) after_key may;
}

pub begins_string : (d s : List ℕ) (at end : ℕ) (next : ReaderState) → Lexes d at (string s) end → Delimits d end → Follows d end next → Begins d at (string s) next
unfolding punctuate
begins_string d s at end next l dl f = record {
  within = f.within;
  gives = λ p may.
      let ls = lex between (drop end d) in
      ap (punctuate p) l.gives ∙ ap (λ b. place_token p (string s) b (λ n. punctuate n ls)) (no_colon d end dl)
      ∙ allowed (may_begin p) (string s) (λ n. punctuate n ls) after_value may ∙ ap (λ ts. string s ∷ ts) f.same;
}

pub begins_word : (d : List ℕ) (t : Token) (at end : ℕ) (next : ReaderState) → Words d at t end → Delimits d end → Follows d end next → Begins d at t next
begins_word d t at end next w dl f = record {
  within = f.within;
  gives = λ p may. ap (punctuate p) (w.gives dl) ∙ w.placed p (lex between (drop end d)) may ∙ ap (λ ts. t ∷ ts) f.same;
}

pub opens_object : (d : List ℕ) (at : ℕ) → at < length d → get_or d at 0 ≡ 123 → Begins d at begin_object (spot (at + 1) Fresh)
unfolding lex punctuate
opens_object d at within is = record {
  within = omega arith;
  gives = λ p may.
      ap (λ t. punctuate p (lex between t)) (front d at 123 within is) ∙ allowed (may_begin p) begin_object (λ n. punctuate n (lex between (drop (at + 1) d))) fresh may;
}

pub opens_array : (d : List ℕ) (at : ℕ) → at < length d → get_or d at 0 ≡ 91 → Begins d at begin_array (spot (at + 1) Fresh)
unfolding lex punctuate
opens_array d at within is = record {
  within = omega arith;
  gives = λ p may.
      ap (λ t. punctuate p (lex between t)) (front d at 91 within is) ∙ allowed (may_begin p) begin_array (λ n. punctuate n (lex between (drop (at + 1) d))) fresh may;
}

may_begin_at : (p : SeparatorState) → begins_at p ≡ true → may_begin (place_of p) ≡ true
may_begin_at Fresh is = refl
may_begin_at AfterValue is = is
may_begin_at AfterComma is = refl

-- where a value may begin
pub begun : (d : List ℕ) (s next : ReaderState) (t : Token) → begins_at s.place ≡ true → Begins d s.at t next → left_at d s ≡ t ∷ left_at d next
begun d s next t may b = b.gives (place_of s.place) (may_begin_at s.place may)

-- ---- what closes

may_close_at : (p : SeparatorState) → closes_at p ≡ true → may_close (place_of p) ≡ true
may_close_at Fresh is = refl
may_close_at AfterValue is = refl
may_close_at AfterComma is = is

pub closes_object : (d : List ℕ) (s next : ReaderState) → s.at < length d → get_or d s.at 0 ≡ 125 → closes_at s.place ≡ true → Follows d (s.at + 1) next → left_at d s ≡ end_object ∷ left_at d next
unfolding lex punctuate
closes_object d s next within is may f =
    ap (λ t. punctuate (place_of s.place) (lex between t)) (front d s.at 125 within is)
    ∙ allowed (may_close (place_of s.place)) end_object (λ n. punctuate n (lex between (drop (s.at + 1) d))) after_value (may_close_at s.place may) ∙ ap (λ ts. end_object ∷ ts) f.same

pub closes_array : (d : List ℕ) (s next : ReaderState) → s.at < length d → get_or d s.at 0 ≡ 93 → closes_at s.place ≡ true → Follows d (s.at + 1) next → left_at d s ≡ end_array ∷ left_at d next
unfolding lex punctuate
closes_array d s next within is may f =
    ap (λ t. punctuate (place_of s.place) (lex between t)) (front d s.at 93 within is)
    ∙ allowed (may_close (place_of s.place)) end_array (λ n. punctuate n (lex between (drop (s.at + 1) d))) after_value (may_close_at s.place may) ∙ ap (λ ts. end_array ∷ ts) f.same

-- ---- the end of the text

none_left : (p : SeparatorState) → closes_at p ≡ true → punctuate (place_of p) [] ≡ []
unfolding punctuate
none_left Fresh is = refl
none_left AfterValue is = refl
none_left AfterComma is = absurd (false≢true is)

pub ended : (d : List ℕ) (s : ReaderState) → s.at ≡ length d → closes_at s.place ≡ true → left_at d s ≡ []
unfolding lex
ended d s is may = ap (λ t. punctuate (place_of s.place) (lex between t)) (drop_all s.at d (omega arith)) ∙ none_left s.place may

-- ---- where no array closes

abbrev IsNoEnd : Token → Type 0
IsNoEnd begin_object = ⊤
IsNoEnd end_object = ⊤
IsNoEnd begin_array = ⊤
IsNoEnd end_array = ⊥
IsNoEnd (key s) = ⊤
IsNoEnd (string s) = ⊤
IsNoEnd (number s) = ⊤
IsNoEnd (boolean b) = ⊤
IsNoEnd null = ⊤
IsNoEnd bad = ⊤

either : (b : Bool) (x y : Token) → IsNoEnd x → IsNoEnd y → IsNoEnd (cond b x y)
either true x y p q = p
either false x y p q = q

number_no_end : (t : List ℕ) (o : Option (List ℕ)) → IsNoEnd (number_before t o)
number_no_end t None = tt
number_no_end t (Some r) = either (ends_word r) _ bad tt tt

word_no_end : (t : List ℕ) → IsNoEnd (word t)
unfolding word
word_no_end t =
    either (head t == 116) _ _ (either _ (boolean true) bad tt tt) (either (head t == 102) _ _ (either _ (boolean false) bad tt tt)
    (either (head t == 110) _ _ (either _ null bad tt tt) (number_no_end t (after_number t))))

string_no_end : (o : Option (List ℕ)) → IsNoEnd (string_token o)
string_no_end None = tt
string_no_end (Some s) = tt

allowed_no_end : (b : Bool) (t : Token) (k : text.Place → List Token) (next : text.Place) → after_end_array (t ∷ k next) ≡ None → after_end_array (if_allowed b t k next) ≡ None
allowed_no_end true t k next e = e
allowed_no_end false t k next e = refl

string_placed : (p : text.Place) (s : List ℕ) (b : Bool) (k : text.Place → List Token) → after_end_array (place_token p (string s) b k) ≡ None
string_placed p s true k = allowed_no_end (may_begin p) (key s) k after_key refl
string_placed p s false k = allowed_no_end (may_begin p) (string s) k after_value refl

token_no_end : (p : text.Place) (t : Token) (ls : List Lexeme) → IsNoEnd t → after_end_array (punctuate p (token t ∷ ls)) ≡ None
unfolding punctuate
token_no_end p begin_object ls h = allowed_no_end (may_begin p) begin_object (λ n. punctuate n ls) fresh refl
token_no_end p end_object ls h = allowed_no_end (may_close p) end_object (λ n. punctuate n ls) after_value refl
token_no_end p begin_array ls h = allowed_no_end (may_begin p) begin_array (λ n. punctuate n ls) fresh refl
token_no_end p end_array ls h = absurd h
token_no_end p (key s) ls h = refl
token_no_end p (string s) ls h = string_placed p s (begins_colon ls) (λ n. punctuate n ls)
token_no_end p (number s) ls h = allowed_no_end (may_begin p) (number s) (λ n. punctuate n ls) after_value refl
token_no_end p (boolean b) ls h = allowed_no_end (may_begin p) (boolean b) (λ n. punctuate n ls) after_value refl
token_no_end p null ls h = allowed_no_end (may_begin p) null (λ n. punctuate n ls) after_value refl
token_no_end p bad ls h = refl

mark_no_end : (p : SeparatorState) (b : Bool) (ls : List Lexeme) → begins_at p ≡ true → after_end_array (punctuate (place_of p) (cond b comma colon ∷ ls)) ≡ None
unfolding punctuate
mark_no_end Fresh true ls is = refl
mark_no_end Fresh false ls is = refl
mark_no_end AfterValue b ls is = absurd (false≢true is)
mark_no_end AfterComma true ls is = refl
mark_no_end AfterComma false ls is = refl

-- a lexeme of one byte, by the tests for the brackets
operator_no_end : (p : SeparatorState) (a b c d e : Bool) (ls : List Lexeme) → d ≡ false → begins_at p ≡ true
    → after_end_array (punctuate (place_of p) (cond a (token begin_object) (cond b (token end_object) (cond c (token begin_array) (cond d (token end_array) (cond e comma colon)))) ∷ ls)) ≡ None
operator_no_end p true b c d e ls h is = token_no_end (place_of p) begin_object ls tt
operator_no_end p false true c d e ls h is = token_no_end (place_of p) end_object ls tt
operator_no_end p false false true d e ls h is = token_no_end (place_of p) begin_array ls tt
operator_no_end p false false false true e ls h is = absurd (true≢false h)
operator_no_end p false false false false e ls h is = mark_no_end p e ls is

first_no_end : (q b o s : Bool) (p : SeparatorState) (x : ℕ) (xs : List ℕ) (k : Mode → List Lexeme) → s ≡ false → (x == 93) ≡ false → begins_at p ≡ true
    → after_end_array (punctuate (place_of p) (lex_byte between (cond q quote (cond b backslash (cond o operator (cond s space other)))) x xs k)) ≡ None
first_no_end true b o s p x xs k h other_byte is = token_no_end (place_of p) _ (k in_string) (string_no_end (content plain xs))
first_no_end false true o s p x xs k h other_byte is = token_no_end (place_of p) bad (k in_word) tt
first_no_end false false true s p x xs k h other_byte is = operator_no_end p (x == 123) (x == 125) (x == 91) (x == 93) (x == 44) (k between) other_byte is
first_no_end false false false true p x xs k h other_byte is = absurd (true≢false h)
first_no_end false false false false p x xs k h other_byte is = token_no_end (place_of p) _ (k in_word) (word_no_end (x ∷ xs))

pub no_array_ends : (d : List ℕ) (s : ReaderState) → s.at < length d → 32 < get_or d s.at 0 → (get_or d s.at 0 ≡ 93 → ⊥) → begins_at s.place ≡ true → after_end_array (left_at d s) ≡ None
unfolding lex
no_array_ends d s within high other_byte is =
    let x = get_or d s.at 0 in
    let xs = drop (s.at + 1) d in
    let no : (c : ℕ) → (x ≡ c → ⊥) → (x == c) ≡ false = λ c. ne_eqb x c in
    let solid : is_space x ≡ false = (λ j. no 32 (λ e. omega arith) j || no 9 (λ e. omega arith) j || no 10 (λ e. omega arith) j || no 13 (λ e. omega arith) j) in
    ap (λ t. after_end_array (punctuate (place_of s.place) (lex between t))) (drop_more d s.at 0 within)
    ∙ first_no_end (x == 34) (x == 92) (is_operator x) (is_space x) s.place x xs (λ m. lex m xs) solid (no 93 other_byte) is

-- what was seen in the bytes of a text
pub seen : {a b : List ℕ} (i : ℕ) {x : ℕ} → a ≡ b → get_or a i 0 ≡ x → get_or b i 0 ≡ x
seen i same is = ap (λ t. get_or t i 0) (sym same) ∙ is
