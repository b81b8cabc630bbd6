-- Reading, beside the machine: numbers, literals and strings.
use Rattle.std.proofs.Common.{◌≡◌, ℕ, zero, suc, ◌+◌, ◌*◌, List, [], ◌∷◌, ◌++◌, length, Option, Some, None, Result, Ok, Err, refl, sym, ap, ◌∙◌, Bool, true, false, ◌==◌, ◌||◌, nat_lt}
use Rattle.event_tree.specs.NumberTexts.{is_digit}
use Rattle.event_json.specs.Strings.{short_of, hex_of, lone, joined, held}
use Rattle.event_json.specs.Grammar.{is_space}
use Rattle.event_json.specs.Reading as r
use Rattle.event_json.specs.Reading.{◌>>=◌, Fault, At, Deep, Inside, plainly, escaped, digits_in, inside_at, turned, short_turn, digit_turn}
use Rattle.event_json.proofs.Tests.{bool_cases}
use Rattle.event_json.proofs.Machine.{Frame, in_list, in_object, Place, plain, escape, hex, Mode, want, opened, after, opened_object, key, colon, text, word, minus, nought, digits, point, decimals, exponent, sign, power, moves, behind, step, step_number, step_signed, step_exponent, step_short, step_hex, fate, fate_from}

module _ (levels : ℕ) where
  -- what the machine comes to where reading left off
  abbrev pub ahead : Mode → List Frame → Result (List ℕ) Fault → Option Fault
  ahead m fs (Ok rest) = fate levels rest m fs
  ahead m fs (Err f) = Some f

  abbrev pub onward : {A : Type 0} → Mode → List Frame → Result (A × List ℕ) Fault → Option Fault
  onward m fs (Ok x) = fate levels x.1 m fs
  onward m fs (Err f) = Some f

  pub onward-bind : {A : Type 0} (m : Mode) (fs : List Frame) (read : Result (List ℕ) Fault) (f : List ℕ → A) → onward m fs (read >>= λ rest. Ok (f rest, rest)) ≡ ahead m fs read
  onward-bind m fs (Ok rest) f = refl
  onward-bind m fs (Err e) f = refl

  pub onward-map : {A B : Type 0} (m : Mode) (fs : List Frame) (read : Result (A × List ℕ) Fault) (f : A → B) → onward m fs (read >>= λ x. Ok (f x.0, x.1)) ≡ onward m fs read
  onward-map m fs (Ok x) f = refl
  onward-map m fs (Err e) f = refl

  -- blanks change nothing where they may stand
  pub fate-skip : (m : Mode) (fs : List Frame) → ((b : ℕ) → is_space b ≡ true → step levels m fs b ≡ moves m fs) → (bs : List ℕ) → fate levels (r.skip bs) m fs ≡ fate levels bs m fs
  unfolding fate
  fate-skip m fs h [] = refl
  fate-skip m fs h (b ∷ bs) = bool_cases (is_space b) (λ e. rw e (fate-skip m fs h bs ∙ sym (ap (λ x. fate_from x (fate levels bs) (suc (length bs))) (h b e)))) (λ e. rw e refl)

  pub space_want : (fs : List Frame) (b : ℕ) → is_space b ≡ true → step levels want fs b ≡ moves want fs
  space_want fs b e = rw e refl

  pub space_opened : (fs : List Frame) (b : ℕ) → is_space b ≡ true → step levels opened fs b ≡ moves opened fs
  space_opened fs b e = rw e refl

  pub space_object : (fs : List Frame) (b : ℕ) → is_space b ≡ true → step levels opened_object fs b ≡ moves opened_object fs
  space_object fs b e = rw e refl

  pub space_key : (fs : List Frame) (b : ℕ) → is_space b ≡ true → step levels key fs b ≡ moves key fs
  space_key fs b e = rw e refl

  pub space_colon : (fs : List Frame) (b : ℕ) → is_space b ≡ true → step levels colon fs b ≡ moves colon fs
  space_colon fs b e = rw e refl

  pub space_after : (fs : List Frame) (b : ℕ) → is_space b ≡ true → step levels after fs b ≡ moves after fs
  space_after [] b e = rw e refl
  space_after (in_list ∷ fs) b e = rw e refl
  space_after (in_object ∷ fs) b e = rw e refl

  -- ---- numbers

  -- no digit comes next
  abbrev NoDigit : List ℕ → Type 0
  NoDigit [] = Unit {0}
  NoDigit (b ∷ bs) = is_digit b ≡ false

  skip_digits-none : (bs : List ℕ) → NoDigit (r.skip_digits bs)
  skip_digits-none [] = tt
  skip_digits-none (b ∷ bs) = bool_cases (is_digit b) (λ e. rw e (skip_digits-none bs)) (λ e. rw e e)

  fate-digits : (bs : List ℕ) (fs : List Frame) → fate levels (r.skip_digits bs) digits fs ≡ fate levels bs digits fs
  unfolding fate
  fate-digits [] fs = refl
  fate-digits (b ∷ bs) fs = bool_cases (is_digit b) (λ e. rw e (fate-digits bs fs)) (λ e. rw (e, e))

  fate-decimals : (bs : List ℕ) (fs : List Frame) → fate levels (r.skip_digits bs) decimals fs ≡ fate levels bs decimals fs
  unfolding fate
  fate-decimals [] fs = refl
  fate-decimals (b ∷ bs) fs = bool_cases (is_digit b) (λ e. rw e (fate-decimals bs fs)) (λ e. rw (e, e))

  fate-power : (bs : List ℕ) (fs : List Frame) → fate levels (r.skip_digits bs) power fs ≡ fate levels bs power fs
  unfolding fate
  fate-power [] fs = refl
  fate-power (b ∷ bs) fs = bool_cases (is_digit b) (λ e. rw e (fate-power bs fs)) (λ e. rw (e, e))

  power_over : (bs : List ℕ) (fs : List Frame) → NoDigit bs → fate levels bs power fs ≡ fate levels bs after fs
  unfolding fate
  power_over [] fs h = refl
  power_over (b ∷ bs) fs h = rw h refl

  exponent_digits : (bs : List ℕ) (fs : List Frame) → fate levels bs sign fs ≡ ahead after fs (r.digits bs)
  unfolding fate
  exponent_digits [] fs = refl
  exponent_digits (b ∷ bs) fs = bool_cases (is_digit b) (λ e. rw e (sym (fate-power bs fs) ∙ power_over (r.skip_digits bs) fs (skip_digits-none bs))) (λ e. rw e refl)

  from_letter : (bs : List ℕ) (fs : List Frame) → fate levels bs exponent fs ≡ ahead after fs (r.digits (r.after_sign bs))
  unfolding fate
  from_letter [] fs = refl
  from_letter (b ∷ bs) fs = bool_cases (b == 45 || b == 43) (λ e. rw e (exponent_digits bs fs)) (λ e. rw e (bool_cases (is_digit b) (λ d. rw d (sym (fate-power bs fs) ∙ power_over (r.skip_digits bs) fs (skip_digits-none bs))) (λ d. rw d refl)))

  letter_or_after : (b : ℕ) (bs : List ℕ) (fs : List Frame) → fate_from (step_exponent fs b) (fate levels bs) (suc (length bs)) ≡ ahead after fs (r.exponent (b ∷ bs))
  unfolding fate
  letter_or_after b bs fs = bool_cases (b == 101 || b == 69) (λ e. rw e (from_letter bs fs)) (λ e. rw e refl)

  decimals_over : (bs : List ℕ) (fs : List Frame) → NoDigit bs → fate levels bs decimals fs ≡ ahead after fs (r.exponent bs)
  unfolding fate
  decimals_over [] fs h = refl
  decimals_over (b ∷ bs) fs h = bool_cases (b == 101 || b == 69) (λ e. rw (h, e) (from_letter bs fs)) (λ e. rw (h, e) refl)

  from_point : (bs : List ℕ) (fs : List Frame) → fate levels bs point fs ≡ ahead after fs (r.digits bs >>= r.exponent)
  unfolding fate
  from_point [] fs = refl
  from_point (b ∷ bs) fs = bool_cases (is_digit b) (λ d. rw d (sym (fate-decimals bs fs) ∙ decimals_over (r.skip_digits bs) fs (skip_digits-none bs))) (λ d. rw d refl)

  digits_over : (bs : List ℕ) (fs : List Frame) → NoDigit bs → fate levels bs digits fs ≡ ahead after fs (r.fraction bs >>= r.exponent)
  unfolding fate
  digits_over [] fs h = refl
  digits_over (b ∷ bs) fs h = bool_cases (b == 46) (λ e. rw (h, e) (from_point bs fs)) (λ e. rw (h, e) (letter_or_after b bs fs))

  nought_over : (bs : List ℕ) (fs : List Frame) → fate levels bs nought fs ≡ ahead after fs (r.fraction bs >>= r.exponent)
  unfolding fate
  nought_over [] fs = refl
  nought_over (b ∷ bs) fs = bool_cases (b == 46) (λ e. rw e (from_point bs fs)) (λ e. rw e (letter_or_after b bs fs))

  unsigned_over : (b : ℕ) (bs : List ℕ) (fs : List Frame) → fate_from (step_number fs b) (fate levels bs) (suc (length bs)) ≡ ahead after fs (r.whole (b ∷ bs) >>= λ a. r.fraction a >>= r.exponent)
  unsigned_over b bs fs = bool_cases (b == 48) (λ e. rw e (nought_over bs fs)) (λ e. rw e (bool_cases (is_digit b)
      (λ d. rw d (sym (fate-digits bs fs) ∙ digits_over (r.skip_digits bs) fs (skip_digits-none bs)))
      (λ d. rw d refl)))

  minus_over : (bs : List ℕ) (fs : List Frame) → fate levels bs minus fs ≡ ahead after fs (r.whole bs >>= λ a. r.fraction a >>= r.exponent)
  unfolding fate
  minus_over [] fs = refl
  minus_over (b ∷ bs) fs = unsigned_over b bs fs

  number_over : (b : ℕ) (bs : List ℕ) (fs : List Frame) → fate_from (step_signed fs b) (fate levels bs) (suc (length bs)) ≡ ahead after fs (r.after_number (b ∷ bs))
  unfolding r.after_number
  number_over b bs fs = bool_cases (b == 45) (λ e. rw e (minus_over bs fs)) (λ e. rw e (unsigned_over b bs fs))

  pub number_goes : (b : ℕ) (bs : List ℕ) (fs : List Frame) → fate_from (step_signed fs b) (fate levels bs) (suc (length bs)) ≡ onward after fs (r.number_at (b ∷ bs))
  unfolding r.number_at
  number_goes b bs fs = number_over b bs fs ∙ sym (onward-bind after fs (r.after_number (b ∷ bs)) _)

  -- ---- literals

  pub word_goes : (w : ℕ) (ws bs : List ℕ) (fs : List Frame) → fate levels bs (word w ws) fs ≡ ahead after fs (r.after_word (w ∷ ws) bs)
  unfolding fate
  word_goes w ws [] fs = refl
  word_goes w [] (b ∷ bs) fs = bool_cases (b == w) (λ e. rw e refl) (λ e. rw e refl)
  word_goes w (x ∷ ws) (b ∷ bs) fs = bool_cases (b == w) (λ e. rw e (word_goes x ws bs fs)) (λ e. rw e refl)

  -- ---- strings

  abbrev seen : Inside → Place
  seen plainly = plain
  seen escaped = escape
  seen (digits_in wanted so_far) = hex wanted

  abbrev AllGo : Bool → List Frame → List ℕ → Type 0
  AllGo k fs bs = (place : Inside) (w : Option ℕ) (found : List ℕ) → fate levels bs (text k (seen place)) fs ≡ onward (behind k) fs (inside_at bs place w found)

  plain_goes : (k : Bool) (fs : List Frame) (b : ℕ) (bs : List ℕ) (w : Option ℕ) (found : List ℕ) → AllGo k fs bs → fate levels (b ∷ bs) (text k plain) fs ≡ onward (behind k) fs (inside_at (b ∷ bs) plainly w found)
  unfolding fate inside_at
  plain_goes k fs b bs w found ih = bool_cases (b == 34) (λ x. rw x refl) (λ x. bool_cases (b == 92) (λ y. rw (x, y) (ih escaped w found))
      (λ y. bool_cases (nat_lt b 32) (λ z. rw (x, y, z) refl) (λ z. rw (x, y, z) (ih plainly None (found ++ (lone w ++ b ∷ []))))))

  short_goes : (k : Bool) (fs : List Frame) (bs : List ℕ) (o w : Option ℕ) (found : List ℕ) → AllGo k fs bs → fate_from (step_short k fs o) (fate levels bs) (suc (length bs)) ≡ onward (behind k) fs (turned (short_turn o w found) (inside_at bs) bs)
  short_goes k fs bs None w found ih = refl
  short_goes k fs bs (Some c) w found ih = ih plainly None (found ++ (lone w ++ c ∷ []))

  escape_goes : (k : Bool) (fs : List Frame) (b : ℕ) (bs : List ℕ) (w : Option ℕ) (found : List ℕ) → AllGo k fs bs → fate levels (b ∷ bs) (text k escape) fs ≡ onward (behind k) fs (inside_at (b ∷ bs) escaped w found)
  unfolding fate inside_at
  escape_goes k fs b bs w found ih = bool_cases (b == 117) (λ x. rw x (ih (digits_in 3 0) w found)) (λ x. rw x (short_goes k fs bs (short_of b) w found ih))

  hex_goes : (k : Bool) (fs : List Frame) (bs : List ℕ) (n u : ℕ) (o w : Option ℕ) (found : List ℕ) → AllGo k fs bs → fate_from (step_hex k fs n o) (fate levels bs) (suc (length bs)) ≡ onward (behind k) fs (turned (digit_turn o n u w found) (inside_at bs) bs)
  hex_goes k fs bs n u None w found ih = refl
  hex_goes k fs bs zero u (Some d) w found ih = ih plainly (held (16 * u + d)) (found ++ joined w (16 * u + d))
  hex_goes k fs bs (suc n) u (Some d) w found ih = ih (digits_in n (16 * u + d)) w found

  text_goes : (k : Bool) (fs : List Frame) (bs : List ℕ) → AllGo k fs bs
  unfolding fate inside_at
  text_goes k fs [] plainly w found = refl
  text_goes k fs [] escaped w found = refl
  text_goes k fs [] (digits_in n u) w found = refl
  text_goes k fs (b ∷ bs) plainly w found = plain_goes k fs b bs w found (text_goes k fs bs)
  text_goes k fs (b ∷ bs) escaped w found = escape_goes k fs b bs w found (text_goes k fs bs)
  text_goes k fs (b ∷ bs) (digits_in n u) w found = hex_goes k fs bs n u (hex_of b) w found (text_goes k fs bs)

  pub string_goes : (k : Bool) (fs : List Frame) (bs : List ℕ) → fate levels bs (text k plain) fs ≡ onward (behind k) fs (r.string_at bs)
  string_goes k fs bs = text_goes k fs bs plainly None []
