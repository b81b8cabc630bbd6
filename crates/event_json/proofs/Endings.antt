-- From each place some bytes lead to the end of a text, and what leads to a place where the machine stops.
use Rattle.std.proofs.Common.{◌≡◌, ℕ, zero, suc, ◌-◌, ◌≤◌, List, [], ◌∷◌, ◌++◌, length, take, drop, Option, Some, None, refl, sym, ap, subst, ◌∙◌, arith, Bool, true, false}
use Rattle.std.proofs.Common.{◌==◌}
use Rattle.std.proofs.lemmas.Bool.Decides.{nat_tests}
use Rattle.std.specs.Str.{IsAscii}
use Rattle.std.proofs.lemmas.Str.{IsAscii-append}
use Rattle.event_json.specs.Reading.{Fault, At, Deep}
use Rattle.event_json.proofs.Ascii.{ascii_nil, ascii_cons}
use Rattle.event_json.proofs.Machine.{Frame, in_list, in_object, plain, escape, hex, Mode, want, opened, after, opened_object, key, colon, text, word, minus, nought, digits, point, decimals, exponent, sign, power, Move, fails, passes, moves, others, behind, step, ends, ends_value, fate, fate_from}
use Rattle.event_json.proofs.Moves.{Tidy, Kept, step_kept, moves_more}

-- what closes all that is open
abbrev pub closers : List Frame → List ℕ
closers [] = []
closers (in_list ∷ fs) = 93 ∷ closers fs
closers (in_object ∷ fs) = 125 ∷ closers fs

-- what ends a text behind a string
abbrev behind_end : Bool → List Frame → List ℕ
behind_end true fs = 58 ∷ 48 ∷ closers fs
behind_end false fs = closers fs

-- digits in base 16, and then more
abbrev hex_end : ℕ → List ℕ → List ℕ
hex_end zero more = 48 ∷ more
hex_end (suc n) more = 48 ∷ hex_end n more

abbrev pub ending : Mode → List Frame → List ℕ
ending want fs = 48 ∷ closers fs
ending opened fs = 93 ∷ closers (others fs)
ending after fs = closers fs
ending opened_object fs = 125 ∷ closers (others fs)
ending key fs = 34 ∷ 34 ∷ 58 ∷ 48 ∷ closers fs
ending colon fs = 58 ∷ 48 ∷ closers fs
ending (text k plain) fs = 34 ∷ behind_end k fs
ending (text k escape) fs = 110 ∷ 34 ∷ behind_end k fs
ending (text k (hex n)) fs = hex_end n (34 ∷ behind_end k fs)
ending (word w ws) fs = w ∷ (ws ++ closers fs)
ending minus fs = 48 ∷ closers fs
ending nought fs = closers fs
ending digits fs = closers fs
ending point fs = 48 ∷ closers fs
ending decimals fs = closers fs
ending exponent fs = 48 ∷ closers fs
ending sign fs = 48 ∷ closers fs
ending power fs = closers fs

module _ (l : ℕ) where
  after_closers : (fs : List Frame) → fate l (closers fs) after fs ≡ None
  unfolding fate
  after_closers [] = refl
  after_closers (in_list ∷ fs) = after_closers fs
  after_closers (in_object ∷ fs) = after_closers fs

  from_nought : (fs : List Frame) → fate l (closers fs) nought fs ≡ None
  unfolding fate
  from_nought [] = refl
  from_nought (in_list ∷ fs) = after_closers fs
  from_nought (in_object ∷ fs) = after_closers fs

  from_digits : (fs : List Frame) → fate l (closers fs) digits fs ≡ None
  unfolding fate
  from_digits [] = refl
  from_digits (in_list ∷ fs) = after_closers fs
  from_digits (in_object ∷ fs) = after_closers fs

  from_decimals : (fs : List Frame) → fate l (closers fs) decimals fs ≡ None
  unfolding fate
  from_decimals [] = refl
  from_decimals (in_list ∷ fs) = after_closers fs
  from_decimals (in_object ∷ fs) = after_closers fs

  from_power : (fs : List Frame) → fate l (closers fs) power fs ≡ None
  unfolding fate
  from_power [] = refl
  from_power (in_list ∷ fs) = after_closers fs
  from_power (in_object ∷ fs) = after_closers fs

  from_behind : (k : Bool) (fs : List Frame) → fate l (behind_end k fs) (behind k) fs ≡ None
  unfolding fate
  from_behind true fs = from_nought fs
  from_behind false fs = after_closers fs

  from_plain : (k : Bool) (fs : List Frame) → fate l (34 ∷ behind_end k fs) (text k plain) fs ≡ None
  unfolding fate
  from_plain k fs = from_behind k fs

  from_hex : (k : Bool) (n : ℕ) (fs : List Frame) → fate l (hex_end n (34 ∷ behind_end k fs)) (text k (hex n)) fs ≡ None
  unfolding fate
  from_hex k zero fs = from_plain k fs
  from_hex k (suc n) fs = from_hex k n fs

  from_word : (w : ℕ) (ws : List ℕ) (fs : List Frame) → fate l (w ∷ (ws ++ closers fs)) (word w ws) fs ≡ None
  unfolding fate
  from_word w [] fs = let e : (w == w) ≡ true = grind (arith, nat_tests) in rw e (after_closers fs)
  from_word w (x ∷ ws) fs = let e : (w == w) ≡ true = grind (arith, nat_tests) in rw e (from_word x ws fs)

  pub ending_ends : (m : Mode) (fs : List Frame) → fate l (ending m fs) m fs ≡ None
  unfolding fate
  ending_ends want fs = from_nought fs
  ending_ends opened fs = after_closers (others fs)
  ending_ends after fs = after_closers fs
  ending_ends opened_object fs = after_closers (others fs)
  ending_ends key fs = from_nought fs
  ending_ends colon fs = from_nought fs
  ending_ends (text k plain) fs = from_plain k fs
  ending_ends (text k escape) fs = from_plain k fs
  ending_ends (text k (hex n)) fs = from_hex k n fs
  ending_ends (word w ws) fs = from_word w ws fs
  ending_ends minus fs = from_nought fs
  ending_ends nought fs = from_nought fs
  ending_ends digits fs = from_digits fs
  ending_ends point fs = from_decimals fs
  ending_ends decimals fs = from_decimals fs
  ending_ends exponent fs = from_power fs
  ending_ends sign fs = from_power fs
  ending_ends power fs = from_power fs

closers_ascii : (fs : List Frame) → IsAscii (closers fs)
closers_ascii [] = ascii_nil
closers_ascii (in_list ∷ fs) = ascii_cons 93 (closers fs) (omega arith) (closers_ascii fs)
closers_ascii (in_object ∷ fs) = ascii_cons 125 (closers fs) (omega arith) (closers_ascii fs)

nought_ascii : (fs : List Frame) → IsAscii (48 ∷ closers fs)
nought_ascii fs = ascii_cons 48 (closers fs) (omega arith) (closers_ascii fs)

behind_ascii : (k : Bool) (fs : List Frame) → IsAscii (behind_end k fs)
behind_ascii true fs = ascii_cons 58 (48 ∷ closers fs) (omega arith) (nought_ascii fs)
behind_ascii false fs = closers_ascii fs

quote_ascii : (k : Bool) (fs : List Frame) → IsAscii (34 ∷ behind_end k fs)
quote_ascii k fs = ascii_cons 34 (behind_end k fs) (omega arith) (behind_ascii k fs)

hex_ascii : (n : ℕ) (bs : List ℕ) → IsAscii bs → IsAscii (hex_end n bs)
hex_ascii zero bs h = ascii_cons 48 bs (omega arith) h
hex_ascii (suc n) bs h = ascii_cons 48 (hex_end n bs) (omega arith) (hex_ascii n bs h)

pub ending_ascii : (m : Mode) (fs : List Frame) → Tidy m → IsAscii (ending m fs)
ending_ascii want fs t = nought_ascii fs
ending_ascii opened fs t = ascii_cons 93 (closers (others fs)) (omega arith) (closers_ascii (others fs))
ending_ascii after fs t = closers_ascii fs
ending_ascii opened_object fs t = ascii_cons 125 (closers (others fs)) (omega arith) (closers_ascii (others fs))
ending_ascii key fs t = ascii_cons 34 (34 ∷ 58 ∷ 48 ∷ closers fs) (omega arith) (ascii_cons 34 (58 ∷ 48 ∷ closers fs) (omega arith) (ascii_cons 58 (48 ∷ closers fs) (omega arith) (nought_ascii fs)))
ending_ascii colon fs t = ascii_cons 58 (48 ∷ closers fs) (omega arith) (nought_ascii fs)
ending_ascii (text k plain) fs t = quote_ascii k fs
ending_ascii (text k escape) fs t = ascii_cons 110 (34 ∷ behind_end k fs) (omega arith) (quote_ascii k fs)
ending_ascii (text k (hex n)) fs t = hex_ascii n (34 ∷ behind_end k fs) (quote_ascii k fs)
ending_ascii (word w ws) fs t = IsAscii-append (w ∷ ws) (closers fs) t (closers_ascii fs)
ending_ascii minus fs t = nought_ascii fs
ending_ascii nought fs t = closers_ascii fs
ending_ascii digits fs t = closers_ascii fs
ending_ascii point fs t = nought_ascii fs
ending_ascii decimals fs t = closers_ascii fs
ending_ascii exponent fs t = nought_ascii fs
ending_ascii sign fs t = nought_ascii fs
ending_ascii power fs t = closers_ascii fs

-- ---- where the machine stops

abbrev pub left_of : Fault → ℕ
left_of (At left) = left
left_of (Deep left) = left

abbrev pub stop_of : Fault → Move
stop_of (At left) = fails
stop_of (Deep left) = passes

some_is : (f g : Fault) → ◌≡◌ {A = Option Fault} (Some f) (Some g) → g ≡ f
some_is f g e = cc

value_zero : (fs : List Frame) (f : Fault) → ends_value fs ≡ Some f → f ≡ At 0
value_zero [] f e = absurd cc
value_zero (x ∷ fs) f e = cc

pub ends_zero : (m : Mode) (fs : List Frame) (f : Fault) → ends m fs ≡ Some f → f ≡ At 0
ends_zero want fs f e = cc
ends_zero opened fs f e = cc
ends_zero after fs f e = value_zero fs f e
ends_zero opened_object fs f e = cc
ends_zero key fs f e = cc
ends_zero colon fs f e = cc
ends_zero (text k place) fs f e = cc
ends_zero (word w ws) fs f e = cc
ends_zero minus fs f e = cc
ends_zero nought fs f e = value_zero fs f e
ends_zero digits fs f e = value_zero fs f e
ends_zero point fs f e = cc
ends_zero decimals fs f e = value_zero fs f e
ends_zero exponent fs f e = cc
ends_zero sign fs f e = cc
ends_zero power fs f e = value_zero fs f e

within_at : (l : ℕ) (o : Move) (bs : List ℕ) (f : Fault) → ((m : Mode) (fs : List Frame) → fate l bs m fs ≡ Some f → left_of f ≤ length bs) → fate_from o (fate l bs) (suc (length bs)) ≡ Some f → left_of f ≤ suc (length bs)
within_at l fails bs f below e = let g : f ≡ At (suc (length bs)) = some_is (At (suc (length bs))) f e in omega (arith, ap left_of g)
within_at l passes bs f below e = let g : f ≡ Deep (suc (length bs)) = some_is (Deep (suc (length bs))) f e in omega (arith, ap left_of g)
within_at l (moves m fs) bs f below e = omega (arith, below m fs e)

pub left_within : (l : ℕ) (bytes : List ℕ) (m : Mode) (fs : List Frame) (f : Fault) → fate l bytes m fs ≡ Some f → left_of f ≤ length bytes
unfolding fate
left_within l [] m fs f e = omega (arith, ap left_of (ends_zero m fs f e))
left_within l (b ∷ bs) m fs f e = within_at l (step l m fs b) bs f (λ n gs h. left_within l bs n gs f h) e

-- how it stops before these bytes
abbrev pub StopsBy : ℕ → Mode → List Frame → Fault → List ℕ → Type 0
StopsBy l m fs f [] = ends m fs ≡ Some f
StopsBy l m fs f (b ∷ bs) = (step l m fs b ≡ stop_of f) × (left_of f ≡ suc (length bs))

-- the front before which it stops leads somewhere, whatever follows and with as many levels or more
abbrev pub Leads : ℕ → List ℕ → List ℕ → Mode → List Frame → Fault → Type 0
Leads l front rest m fs f = (n : Mode) × (gs : List Frame) × Tidy n × ((h : ℕ) → l ≤ h → (more : List ℕ) → fate h (front ++ more) m fs ≡ fate h more n gs) × StopsBy l n gs f rest

leads_on : (l b : ℕ) (front rest : List ℕ) (m n : Mode) (fs gs : List Frame) (f : Fault) → step l m fs b ≡ moves n gs → Leads l front rest n gs f → Leads l (b ∷ front) rest m fs f
unfolding fate
leads_on l b front rest m n fs gs f is h = (h.0, h.1, h.2, (λ k le more. rw (moves_more l k m n fs gs b le is) (h.3 k le more)), h.4)

leads_here : (l : ℕ) (rest : List ℕ) (m : Mode) (fs : List Frame) (f : Fault) → Tidy m → StopsBy l m fs f rest → Leads l [] rest m fs f
leads_here l rest m fs f t s = (m, fs, t, (λ h le more. refl), s)

leads_at : (l : ℕ) (o : Move) (b : ℕ) (bs : List ℕ) (m : Mode) (fs : List Frame) (f : Fault) → Tidy m → step l m fs b ≡ o → ((n : Mode) (gs : List Frame) → Tidy n → fate l bs n gs ≡ Some f → Leads l (take (length bs - left_of f) bs) (drop (length bs - left_of f) bs) n gs f)
    → fate_from o (fate l bs) (suc (length bs)) ≡ Some f → Leads l (take (suc (length bs) - left_of f) (b ∷ bs)) (drop (suc (length bs) - left_of f) (b ∷ bs)) m fs f
leads_at l fails b bs m fs f t is below e =
    let g : f ≡ At (suc (length bs)) = some_is (At (suc (length bs))) f e in
    let z : suc (length bs) - left_of f ≡ 0 = omega (arith, ap left_of g) in
    rw z (leads_here l (b ∷ bs) m fs f t (is ∙ sym (ap stop_of g), ap left_of g))
leads_at l passes b bs m fs f t is below e =
    let g : f ≡ Deep (suc (length bs)) = some_is (Deep (suc (length bs))) f e in
    let z : suc (length bs) - left_of f ≡ 0 = omega (arith, ap left_of g) in
    rw z (leads_here l (b ∷ bs) m fs f t (is ∙ sym (ap stop_of g), ap left_of g))
leads_at l (moves n gs) b bs m fs f t is below e =
    let tidy : Tidy n = (subst (λ o. Kept m b o) is (step_kept l m fs b t)).1 in
    let k : suc (length bs) - left_of f ≡ suc (length bs - left_of f) = omega (arith, left_within l bs n gs f e) in
    rw k (leads_on l b (take (length bs - left_of f) bs) (drop (length bs - left_of f) bs) m n fs gs f is (below n gs tidy e))

pub leads : (l : ℕ) (bytes : List ℕ) (m : Mode) (fs : List Frame) (f : Fault) → Tidy m → fate l bytes m fs ≡ Some f → Leads l (take (length bytes - left_of f) bytes) (drop (length bytes - left_of f) bytes) m fs f
unfolding fate
leads l [] m fs f t e =
    let z : 0 - left_of f ≡ 0 = omega arith in
    rw z (leads_here l [] m fs f t e)
leads l (b ∷ bs) m fs f t e = leads_at l (step l m fs b) b bs m fs f t refl (λ n gs u h. leads l bs n gs f u h) e
