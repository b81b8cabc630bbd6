-- The pieces of a template's text, read from the front.
use Rattle.std.proofs.Common.{◌≡◌, ◌≢◌, ◌==◌, ◌&&◌, ℕ, zero, suc, ◌+◌, ◌-◌, ◌<◌, ◌≤◌, List, [], ◌∷◌, length, take, drop, get_or, true, false, if◌then◌else◌, refl, sym, ap, subst, ◌∙◌, arith, length-drop, length-take, get_or-drop, drop-cons, add-one, Option, Some, None, option_map}
use Rattle.std.specs.Option.{option_and_then}
use Rattle.std.proofs.lemmas.List.{drop-drop}
use Rattle.std.proofs.lemmas.Bool.Decides.{nat_tests}
use Rattle.std.specs.Str.{IsUtf8, IsCharBoundary}
use Rattle.std.proofs.lemmas.Str.{IsCharBoundary-before_ascii, IsCharBoundary-after_ascii}
use Rattle.event_tree.proofs.Sounds.{first, second}
use Rattle.event_text.specs.Template.{opens, before_close, IsNextClose, placed, template_part_of, placeholder}
use Rattle.event_text.specs.declared.template.TemplatePart.{TemplatePart}

is_close : (b : ℕ) → b ≡ 125 → (b == 125) ≡ true
is_close b h = grind (arith, nat_tests)

pub not_close : (b : ℕ) → b ≢ 125 → (b == 125) ≡ false
not_close b h = grind (arith, nat_tests)

first_close : (n : ℕ) (xs : List ℕ) → n < length xs → ((k : ℕ) → k < n → get_or xs k 0 ≢ 125) → get_or xs n 0 ≡ 125 → before_close xs ≡ Some (take n xs)
first_close n [] within before at = absurd (omega arith)
first_close zero (b ∷ bs) within before at = ap (λ t. if t then Some [] else option_map (λ inner. b ∷ inner) (before_close bs)) (is_close b at)
first_close (suc n) (b ∷ bs) within before at =
    ap (λ t. if t then Some [] else option_map (λ inner. b ∷ inner) (before_close bs)) (not_close b (before 0 (omega arith)))
    ∙ ap (option_map (λ inner. b ∷ inner)) (first_close n bs (omega arith) (λ k h. before (suc k) (omega arith)) at)

no_close : (xs : List ℕ) → ((k : ℕ) → k < length xs → get_or xs k 0 ≢ 125) → before_close xs ≡ None
no_close [] none = refl
no_close (b ∷ bs) none =
    ap (λ t. if t then Some [] else option_map (λ inner. b ∷ inner) (before_close bs)) (not_close b (none 0 (omega arith)))
    ∙ ap (option_map (λ inner. b ∷ inner)) (no_close bs (λ k h. none (suc k) (omega arith)))

pub close_found : (bytes : List ℕ) (from at : ℕ) → from ≤ at → at < length bytes → ((k : ℕ) → from ≤ k → k < at → get_or bytes k 0 ≢ 125) → get_or bytes at 0 ≡ 125 → before_close (drop from bytes) ≡ Some (take (at - from) (drop from bytes))
close_found bytes from at after within before is =
    let e : from + (at - from) ≡ at = omega arith in
    first_close (at - from) (drop from bytes) (omega (arith, length-drop from bytes)) (λ k h s. before (from + k) (omega arith) (omega arith) (sym (get_or-drop from bytes k 0) ∙ s)) (get_or-drop from bytes (at - from) 0 ∙ ap (λ i. get_or bytes i 0) e ∙ is)

pub close_missing : (bytes : List ℕ) (from : ℕ) → ((k : ℕ) → from ≤ k → k < length bytes → get_or bytes k 0 ≢ 125) → before_close (drop from bytes) ≡ None
close_missing bytes from none = no_close (drop from bytes) (λ k h s. none (from + k) (omega arith) (omega (arith, length-drop from bytes, h)) (sym (get_or-drop from bytes k 0) ∙ s))

-- further on the next `}` is the same, as long as it stands behind
pub next_later : (bytes : List ℕ) (from later close : ℕ) → from ≤ later → IsNextClose bytes from close → IsNextClose bytes later close
next_later bytes from later close on h = (h.0, λ k low high. h.1 k (omega (arith, on, low)) high, λ after within. h.2 (omega (arith, on, after)) within)

two_front : (bytes : List ℕ) (at : ℕ) → at + 1 < length bytes → drop at bytes ≡ get_or bytes at 0 ∷ get_or bytes (at + 1) 0 ∷ drop (suc (at + 1)) bytes
two_front bytes at h =
    drop-cons bytes at 0 (omega arith) ∙ ap (λ i. get_or bytes at 0 ∷ drop i bytes) (sym (add-one at)) ∙ ap (λ l. get_or bytes at 0 ∷ l) (drop-cons bytes (at + 1) 0 h)

pub opens_two : (bytes : List ℕ) (at : ℕ) → at + 1 < length bytes → opens (drop at bytes) ≡ (get_or bytes at 0 == 37 && get_or bytes (at + 1) 0 == 123)
opens_two bytes at h = ap opens (two_front bytes at h)

one_short : (xs : List ℕ) → length xs ≤ 1 → opens xs ≡ false
one_short [] h = refl
one_short (a ∷ []) h = refl
one_short (a ∷ b ∷ xs) h = absurd (omega arith)

pub opens_last : (bytes : List ℕ) (at : ℕ) → at + 1 ≡ length bytes → opens (drop at bytes) ≡ false
opens_last bytes at h = one_short (drop at bytes) (omega (arith, length-drop at bytes))

is_37 : (b : ℕ) → (b == 37) ≡ true → b < 128
is_37 b h = grind (arith, nat_tests)

is_123 : (b : ℕ) → (b == 123) ≡ true → b < 128
is_123 b h = grind (arith, nat_tests)

-- `%{` stands there, and both are ASCII
opened : (bytes : List ℕ) (at : ℕ) → at + 2 ≤ length bytes → opens (drop at bytes) ≡ true → (get_or bytes at 0 == 37 && get_or bytes (at + 1) 0 == 123) ≡ true
opened bytes at h is = sym (opens_two bytes at (omega arith)) ∙ is

pub boundary_before : (bytes : List ℕ) (at : ℕ) → at + 2 ≤ length bytes → opens (drop at bytes) ≡ true → IsCharBoundary bytes at
boundary_before bytes at h is = IsCharBoundary-before_ascii bytes at (omega arith) (is_37 (get_or bytes at 0) (first _ _ (opened bytes at h is)))

pub boundary_inside : (bytes : List ℕ) (at : ℕ) → IsUtf8 bytes → at + 2 ≤ length bytes → opens (drop at bytes) ≡ true → IsCharBoundary bytes (at + 2)
boundary_inside bytes at u h is =
    let e : at + 1 + 1 ≡ at + 2 = omega arith in
    subst (λ i. IsCharBoundary bytes i) e (IsCharBoundary-after_ascii bytes (at + 1) u (omega arith) (is_123 (get_or bytes (at + 1) 0) (second _ _ (opened bytes at h is))))

inside_is : (bytes : List ℕ) (at : ℕ) → drop 2 (drop at bytes) ≡ drop (at + 2) bytes
inside_is bytes at = drop-drop 2 at bytes

pub not_closed : (bytes : List ℕ) (at : ℕ) → opens (drop at bytes) ≡ true → before_close (drop (at + 2) bytes) ≡ None → placeholder (drop at bytes) ≡ None
not_closed bytes at is none =
    ap (λ t. if t then option_and_then placed (before_close (drop 2 (drop at bytes))) else None) is
    ∙ ap (λ l. option_and_then placed (before_close l)) (inside_is bytes at) ∙ ap (option_and_then placed) none

pub closed : (bytes : List ℕ) (at close : ℕ) (piece : Option TemplatePart) → opens (drop at bytes) ≡ true → at + 2 ≤ close → close < length bytes → before_close (drop (at + 2) bytes) ≡ Some (take (close - (at + 2)) (drop (at + 2) bytes))
    → piece ≡ template_part_of (take (close - (at + 2)) (drop (at + 2) bytes)) → option_map (λ x. (x, close + 1 - at)) piece ≡ placeholder (drop at bytes)
closed bytes at close piece is after within before read =
    let inner = take (close - (at + 2)) (drop (at + 2) bytes) in
    let size : length inner ≡ close - (at + 2) = omega (arith, length-take (close - (at + 2)) (drop (at + 2) bytes), length-drop (at + 2) bytes) in
    let count : close + 1 - at ≡ length inner + 3 = omega (arith, size) in
    ap (λ n. option_map (λ x. (x, n)) piece) count ∙ ap (λ o. option_map (λ x. (x, length inner + 3)) o) read
    ∙ sym (ap (λ t. if t then option_and_then placed (before_close (drop 2 (drop at bytes))) else None) is
    ∙ ap (λ l. option_and_then placed (before_close l)) (inside_is bytes at) ∙ ap (option_and_then placed) before)
