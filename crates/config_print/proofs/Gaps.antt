-- The blanks and comments between tokens, and what the lexer makes of them.
use Rattle.std.proofs.Common.{◌≡◌, ℕ, zero, suc, ◌==◌, ◌||◌, not, List, [], ◌∷◌, ◌++◌, drop, Bool, true, false, if◌then◌else◌, refl, ap, sym, ◌∙◌, arith, append_assoc}
use Rattle.std.specs.List.{list_any}
use Rattle.std.proofs.lemmas.List.{append-nil, drop_all}
use Rattle.config_lex.specs.Bytes.{skip, is_blank, is_in_part, passing, begins_with}
use Rattle.config_lex.specs.declared.context.Context.{Context}
use Rattle.config_lex.specs.Laws.{IsLine, IsGap, IsEnd, nothing, blank, comment, gap, last_comment}
use Rattle.config_print.proofs.LaidTokens.{scan, scan_next, skip_blank}
use Rattle.config_print.proofs.Words.{blank_case, run_none, run_empty}

-- the text is at its end, or begins with a blank or a comment
pub data Free : List ℕ → Type 0 where
  at_end : Free []
  at_blank : {b : ℕ} {s : List ℕ} → is_blank b ≡ true → Free (b ∷ s)
  at_comment : {s : List ℕ} → Free (35 ∷ s)

pub gap_free : (m s : List ℕ) → IsGap m → (m ≡ [] → ⊥) → Free (m ++ s)
gap_free _ s nothing h = absurd (h refl)
gap_free _ s (blank e g) h = at_blank e
gap_free _ s (comment line m l g) h = at_comment

pub end_free : (s : List ℕ) → IsEnd s → Free s
end_free s (gap nothing) = at_end
end_free s (gap (blank e g)) = at_blank e
end_free s (gap (comment line m l g)) = at_comment
end_free _ (last_comment s line nothing l) = at_comment
end_free _ (last_comment s line (blank e g) l) = at_blank e
end_free _ (last_comment s line (comment first m k g) l) = at_comment

-- a test that neither a blank nor the first byte of a comment passes
abbrev pub Stops : (ℕ → Bool) → Type 0
Stops test = (test 32 ≡ false) × (test 9 ≡ false) × (test 13 ≡ false) × (test 10 ≡ false) × (test 35 ≡ false)

pub free_stops : (test : ℕ → Bool) → Stops test → (s : List ℕ) → Free s → passing test s ≡ 0
free_stops test h _ at_end = run_empty test
free_stops test h _ (at_blank {b} {s} e) = run_none test b s (blank_case (λ k. test k ≡ false) b e h.0 h.1 h.2 h.3)
free_stops test h _ (at_comment {s}) = run_none test 35 s h.4

-- ---- the lexer goes over gaps

skip_hash : (s : List ℕ) → skip false (35 ∷ s) ≡ suc (skip true s)
unfolding skip
skip_hash s = refl

-- over the line of a comment
skip_line : (line s : List ℕ) → IsLine line → drop (skip true (line ++ 10 ∷ s)) (line ++ 10 ∷ s) ≡ drop (skip false s) s
unfolding skip
skip_line [] s h = refl
skip_line (b ∷ line) s h = by (b == 10) h (λ l. skip_line line s l)
  where
    by : (z : Bool) → (z || list_any (λ q. q == 10) line) ≡ false → (IsLine line → drop (skip true (line ++ 10 ∷ s)) (line ++ 10 ∷ s) ≡ drop (skip false s) s)
        → drop (suc (skip (not z) (line ++ 10 ∷ s))) (b ∷ (line ++ 10 ∷ s)) ≡ drop (skip false s) s
    by true e again = absurd (cc)
    by false e again = again e

pub skip_gap : (m s : List ℕ) → IsGap m → drop (skip false (m ++ s)) (m ++ s) ≡ drop (skip false s) s
skip_gap _ s nothing = refl
skip_gap _ s (blank {b} {s = m} e g) = ap (λ k. drop k (b ∷ (m ++ s))) (skip_blank b (m ++ s) e) ∙ skip_gap m s g
skip_gap _ s (comment line m l g) =
    let u = (line ++ 10 ∷ m) ++ s in
    let v = line ++ 10 ∷ (m ++ s) in
    ap (λ k. drop k (35 ∷ u)) (skip_hash u) ∙ ap (λ x. drop (skip true x) x) (append_assoc line (10 ∷ m) s) ∙ skip_line line (m ++ s) l ∙ skip_gap m s g

skip_last : (line : List ℕ) → IsLine line → drop (skip true line) line ≡ []
unfolding skip
skip_last [] h = refl
skip_last (b ∷ line) h = by (b == 10) h (λ l. skip_last line l)
  where
    by : (z : Bool) → (z || list_any (λ q. q == 10) line) ≡ false → (IsLine line → drop (skip true line) line ≡ []) → drop (suc (skip (not z) line)) (b ∷ line) ≡ []
    by true e again = absurd (cc)
    by false e again = again e

-- up to the end
pub skip_end : (s : List ℕ) → IsEnd s → drop (skip false s) s ≡ []
skip_end s (gap g) = ap (λ x. drop (skip false x) x) (sym (append-nil s)) ∙ skip_gap s [] g ∙ drop_all (skip false []) [] (omega arith)
skip_end _ (last_comment s line g l) = skip_gap s (35 ∷ line) g ∙ ap (λ k. drop k (35 ∷ line)) (skip_hash line) ∙ skip_last line l

pub scan_gap : (n : ℕ) (x : Context) (m s : List ℕ) → IsGap m → scan n x (m ++ s) ≡ scan n x s
unfolding scan
scan_gap zero x m s g = refl
scan_gap (suc n) x m s g = ap (λ r. scan_next x r (λ y q. scan n y q)) (skip_gap m s g)

pub scan_end : (n : ℕ) (x : Context) (s : List ℕ) → IsEnd s → scan n x s ≡ []
unfolding scan
scan_end zero x s e = refl
scan_end (suc n) x s e = ap (λ r. scan_next x r (λ y q. scan n y q)) (skip_end s e)

-- ---- a `]` behind bytes that a part of a selector may have

abbrev pub closes : List ℕ → Bool
closes s = begins_with 93 (drop (passing is_in_part s) s)

pub closes_on : (b : ℕ) (s : List ℕ) → is_in_part b ≡ true → closes (b ∷ s) ≡ closes s
unfolding passing
closes_on b s h = ap (λ z. begins_with 93 (drop (if z then suc (passing is_in_part s) else 0) (b ∷ s))) h

pub closes_here : (b : ℕ) (s : List ℕ) → is_in_part b ≡ false → closes (b ∷ s) ≡ (b == 93)
unfolding passing
closes_here b s h = ap (λ z. begins_with 93 (drop (if z then suc (passing is_in_part s) else 0) (b ∷ s))) h

blank_in_part : (b : ℕ) → is_blank b ≡ true → is_in_part b ≡ true
blank_in_part b e = blank_case (λ k. is_in_part k ≡ true) b e refl refl refl refl

abbrev pub has_comment : List ℕ → Bool
has_comment m = list_any (λ b. b == 35) m

no_hash : (b : ℕ) → is_blank b ≡ true → (b == 35) ≡ false
no_hash b e = blank_case (λ k. (k == 35) ≡ false) b e refl refl refl refl

pub comment_closes : (m s : List ℕ) → IsGap m → has_comment m ≡ true → closes (m ++ s) ≡ false
comment_closes _ s nothing h = absurd (cc)
comment_closes _ s (blank {b} {s = m} e g) h = closes_on b (m ++ s) (blank_in_part b e) ∙ comment_closes m s g (sym (ap (λ z. z || has_comment m) (no_hash b e)) ∙ h)
comment_closes _ s (comment line m l g) h = closes_here 35 ((line ++ 10 ∷ m) ++ s) refl

pub blanks_close : (m s : List ℕ) → IsGap m → has_comment m ≡ false → closes (m ++ s) ≡ closes s
blanks_close _ s nothing h = refl
blanks_close _ s (blank {b} {s = m} e g) h = closes_on b (m ++ s) (blank_in_part b e) ∙ blanks_close m s g (sym (ap (λ z. z || has_comment m) (no_hash b e)) ∙ h)
blanks_close _ s (comment line m l g) h = absurd (cc)

empty_closes : closes [] ≡ false
unfolding passing
empty_closes = refl

-- no `]` comes up to the end of the text
pub end_closes : (s : List ℕ) → IsEnd s → closes s ≡ false
end_closes s (gap g) = by (has_comment s) refl
  where
    by : (z : Bool) → has_comment s ≡ z → closes s ≡ false
    by true h = ap closes (sym (append-nil s)) ∙ comment_closes s [] g h
    by false h = ap closes (sym (append-nil s)) ∙ blanks_close s [] g h ∙ empty_closes
end_closes _ (last_comment s line g l) = by (has_comment s) refl
  where
    by : (z : Bool) → has_comment s ≡ z → closes (s ++ 35 ∷ line) ≡ false
    by true h = comment_closes s (35 ∷ line) g h
    by false h = blanks_close s (35 ∷ line) g h ∙ closes_here 35 line refl

-- a gap that begins with a byte that no part has begins with a comment
pub gap_opens : (m s : List ℕ) → IsGap m → (m ≡ [] → ⊥) → passing is_in_part (m ++ s) ≡ 0 → has_comment m ≡ true
unfolding passing
gap_opens _ s nothing h u = absurd (h refl)
gap_opens _ s (blank {b} {s = m} e g) h u =
    let one : suc (passing is_in_part (m ++ s)) ≡ 0 = sym (ap (λ z. if z then suc (passing is_in_part (m ++ s)) else 0) (blank_in_part b e)) ∙ u in
    absurd (omega (arith, one))
gap_opens _ s (comment line m l g) h u = refl
