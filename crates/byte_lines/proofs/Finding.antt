-- What a search for a line feed finds, behind bytes that were searched before.
use Rattle.std.proofs.Common.{◌≡◌, ◌≢◌, ◌<◌, ◌≤◌, ◌+◌, ◌-◌, ℕ, zero, suc, List, [], ◌∷◌, ◌++◌, length, get_or, take, drop, sym, ap, ◌∙◌, subst, ⊎_elim, arith, append_assoc, length-take, length-drop, take-append-drop}
use Rattle.std.proofs.lemmas.Bool.{cases_lt}
use Rattle.std.proofs.lemmas.List.{take_all, drop_more, get_or-take, get_or-drop}
use Rattle.byte_lines.specs.Split.{HasNoLineFeed, Ended, Full, IsRawLine, line_bytes}

no_feed_from_places : (bytes : List ℕ) → ((k : ℕ) → k < length bytes → get_or bytes k 0 ≢ 10) → HasNoLineFeed bytes
no_feed_from_places [] each = tt
no_feed_from_places (b ∷ bytes) each = (each 0 (omega arith), no_feed_from_places bytes (λ k less. each (suc k) (omega arith)))

no_feed_at_place : (bytes : List ℕ) (k : ℕ) → HasNoLineFeed bytes → k < length bytes → get_or bytes k 0 ≢ 10
no_feed_at_place [] k free less = absurd (omega arith)
no_feed_at_place (b ∷ bytes) zero free less = free.0
no_feed_at_place (b ∷ bytes) (suc k) free less = no_feed_at_place bytes k free.1 (omega arith)

-- `hay` are the bytes from `searched` up to `window`, in which a search looked
module _ (bytes hay : List ℕ) (searched window : ℕ) (is : hay ≡ take (window - searched) (drop searched bytes)) (low : searched ≤ window) (within : window ≤ length bytes) (front : HasNoLineFeed (take searched bytes)) where
  hay_length : length hay ≡ window - searched
  hay_length = omega (arith, ap length is, length-take (window - searched) (drop searched bytes), length-drop searched bytes)

  hay_at : (k : ℕ) → k < window - searched → get_or hay k 0 ≡ get_or bytes (searched + k) 0
  hay_at k less = ap (λ h. get_or h k 0) is ∙ get_or-take (window - searched) (drop searched bytes) k 0 less ∙ get_or-drop searched bytes k 0

  -- none up to n, where the search found none up to there
  no_feed_up_to : (n : ℕ) → searched ≤ n → n ≤ window → ((k : ℕ) → k < n - searched → get_or hay k 0 ≢ 10) → HasNoLineFeed (take n bytes)
  no_feed_up_to n above below back = no_feed_from_places (take n bytes) (λ k less feed.
      let early_or_late : k < n = omega (arith, length-take n bytes) in
      let here : get_or bytes k 0 ≡ 10 = sym (get_or-take n bytes k 0 early_or_late) ∙ feed in
      ⊎_elim
      (λ early. no_feed_at_place (take searched bytes) k front (omega (arith, length-take searched bytes)) (get_or-take searched bytes k 0 early ∙ here))
      (λ late. let place : searched + (k - searched) ≡ k = omega arith in
      back (k - searched) (omega arith) (hay_at (k - searched) (omega arith) ∙ ap (λ j. get_or bytes j 0) place ∙ here))
      (cases_lt k searched))

  -- a line that a line feed ends
  pub ended_line : (limit at : ℕ) → window ≤ limit → at < length hay → ((k : ℕ) → k < at → get_or hay k 0 ≢ 10) → get_or hay at 0 ≡ 10
      → IsRawLine limit (Ended (take (searched + at) bytes)) × (bytes ≡ line_bytes (Ended (take (searched + at) bytes)) ++ drop (searched + at + 1) bytes)
  ended_line limit at fits inside before feed =
      let end = searched + at in
      let size = hay_length in
      let here : get_or bytes end 0 ≡ 10 = sym (hay_at at (omega (arith, size))) ∙ feed in
      let free = no_feed_up_to end (omega arith) (omega (arith, size)) (λ k less. before k (omega arith)) in
      let shorter : length (take end bytes) < limit = omega (arith, length-take end bytes, size) in
      let behind : drop end bytes ≡ 10 ∷ drop (end + 1) bytes = drop_more bytes end 0 (omega (arith, size)) ∙ ap (λ b. b ∷ drop (end + 1) bytes) here in
      ((free, shorter), sym (take-append-drop end bytes) ∙ ap (λ t. take end bytes ++ t) behind ∙ sym (append_assoc (take end bytes) (10 ∷ []) (drop (end + 1) bytes)))

  -- a line that is as long as one may be
  pub full_line : (limit : ℕ) → window ≡ limit → ((k : ℕ) → k < length hay → get_or hay k 0 ≢ 10)
      → IsRawLine limit (Full (take limit bytes)) × (bytes ≡ line_bytes (Full (take limit bytes)) ++ drop limit bytes)
  full_line limit whole none =
      ((no_feed_up_to limit (omega arith) (omega arith) (λ k less. none k (omega (arith, hay_length))), omega (arith, length-take limit bytes)), sym (take-append-drop limit bytes))

  -- and no line
  pub no_line : window ≡ length bytes → ((k : ℕ) → k < length hay → get_or hay k 0 ≢ 10) → HasNoLineFeed bytes
  no_line whole none = subst HasNoLineFeed (take_all window bytes (omega arith)) (no_feed_up_to window low (omega arith) (λ k less. none k (omega (arith, hay_length))))
