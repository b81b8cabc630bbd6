-- The blanks and comments in front of a text.
use Rattle.std.proofs.Common.{◌≡◌, ℕ, suc, ◌+◌, ◌==◌, ◌||◌, ◌⊎◌, inl, inr, not, List, [], ◌∷◌, ◌++◌, length, Bool, true, false, if◌then◌else◌, refl, ap, sym, subst, ◌∙◌, append_assoc, length-append, eqb-true, arith}
use Rattle.std.specs.List.{list_any}
use Rattle.config_lex.specs.Bytes.{is_blank, skip}
use Rattle.config_lex.specs.Laws.{IsLine, IsGap, nothing, blank, comment, IsEnd, gap, last_comment}

skip_blank : (b : ℕ) (s : List ℕ) → is_blank b ≡ true → skip false (b ∷ s) ≡ suc (skip false s)
unfolding skip
skip_blank b s e = ap (λ z. if z then suc (skip false s) else (if b == 35 then suc (skip true s) else 0)) e

skip_comment : (b : ℕ) (s : List ℕ) → is_blank b ≡ false → (b == 35) ≡ true → skip false (b ∷ s) ≡ suc (skip true s)
unfolding skip
skip_comment b s e f = ap (λ z. if z then suc (skip false s) else (if b == 35 then suc (skip true s) else 0)) e ∙ ap (λ z. if z then suc (skip true s) else 0) f

skip_none : (b : ℕ) (s : List ℕ) → is_blank b ≡ false → (b == 35) ≡ false → skip false (b ∷ s) ≡ 0
unfolding skip
skip_none b s e f = ap (λ z. if z then suc (skip false s) else (if b == 35 then suc (skip true s) else 0)) e ∙ ap (λ z. if z then suc (skip true s) else 0) f

skip_line : (b : ℕ) (s : List ℕ) (z : Bool) → (b == 10) ≡ z → skip true (b ∷ s) ≡ suc (skip (not z) s)
unfolding skip
skip_line b s z e = ap (λ q. suc (skip (not q) s)) e

-- a gap and what is behind it
pub record Split (s : List ℕ) : Type 0 where
  pub between : List ℕ
  pub rest : List ℕ
  pub whole : s ≡ between ++ rest
  pub is_gap : IsGap between
  pub skipped : skip false s ≡ length between

-- the text is a gap, up to its end
abbrev pub Ended : List ℕ → Type 0
Ended s = IsEnd s × (skip false s ≡ length s)

-- what a text is behind the `#` of a comment: a line with its newline, and then a gap or the end
record Closed (s : List ℕ) : Type 0 where
  line : List ℕ
  behind : List ℕ
  whole : s ≡ line ++ 10 ∷ behind
  is_line : IsLine line
  skipped : skip true s ≡ suc (length line + skip false behind)
  next : Split behind ⊎ Ended behind

-- .. or a line up to the end
abbrev Open : List ℕ → Type 0
Open s = IsLine s × (skip true s ≡ length s)

more_end : (b : ℕ) (s : List ℕ) → is_blank b ≡ true → IsEnd s → IsEnd (b ∷ s)
more_end b s e (gap g) = gap (blank e g)
more_end b _ e (last_comment s line g l) = last_comment (b ∷ s) line (blank e g) l

comment_end : (line s : List ℕ) → IsLine line → IsEnd s → IsEnd (35 ∷ (line ++ 10 ∷ s))
comment_end line s h (gap g) = gap (comment line s h g)
comment_end line _ h (last_comment s l g k) = subst IsEnd (ap (λ q. 35 ∷ q) (append_assoc line (10 ∷ s) (35 ∷ l))) (last_comment (35 ∷ (line ++ 10 ∷ s)) l (comment line s h g) k)

line_more : (b : ℕ) (s : List ℕ) → (b == 10) ≡ false → IsLine s → IsLine (b ∷ s)
line_more b s e h = ap (λ z. z || list_any (λ q. q == 10) s) e ∙ h

blanks : (b : ℕ) (s : List ℕ) → is_blank b ≡ true → Split s ⊎ Ended s → Split (b ∷ s) ⊎ Ended (b ∷ s)
blanks b s e (inl p) = inl (record { between = b ∷ p.between; rest = p.rest; whole = ap (λ q. b ∷ q) p.whole; is_gap = blank e p.is_gap; skipped = skip_blank b s e ∙ ap suc p.skipped })
blanks b s e (inr p) = inr (more_end b s e p.0, skip_blank b s e ∙ ap suc p.1)

closed : (b : ℕ) (s : List ℕ) → is_blank b ≡ false → (b == 35) ≡ true → (c : Closed s) → Split c.behind ⊎ Ended c.behind → Split (b ∷ s) ⊎ Ended (b ∷ s)
closed b s e f c (inl p) = inl (record {
  between = 35 ∷ (c.line ++ 10 ∷ p.between);
  rest = p.rest;
  whole = ap (λ q. q ∷ s) (eqb-true b 35 f) ∙ ap (λ q. 35 ∷ q) (c.whole ∙ ap (λ q. c.line ++ 10 ∷ q) p.whole ∙ sym (append_assoc c.line (10 ∷ p.between) p.rest));
  is_gap = comment c.line p.between c.is_line p.is_gap;
  skipped = omega (arith, skip_comment b s e f, c.skipped, p.skipped, length-append c.line (10 ∷ p.between));
})
closed b s e f c (inr p) = inr (
  subst IsEnd (ap (λ q. 35 ∷ q) (sym c.whole) ∙ ap (λ q. q ∷ s) (sym (eqb-true b 35 f))) (comment_end c.line c.behind c.is_line p.0),
  omega (arith, skip_comment b s e f, c.skipped, p.1, length-append c.line (10 ∷ c.behind), ap length c.whole),
)

comments : (b : ℕ) (s : List ℕ) → is_blank b ≡ false → (b == 35) ≡ true → Closed s ⊎ Open s → Split (b ∷ s) ⊎ Ended (b ∷ s)
comments b s e f (inl c) = closed b s e f c c.next
comments b s e f (inr h) = inr (subst IsEnd (ap (λ q. q ∷ s) (sym (eqb-true b 35 f))) (last_comment [] s nothing h.0), skip_comment b s e f ∙ ap suc h.1)

stops_here : (b : ℕ) (s : List ℕ) → is_blank b ≡ false → (b == 35) ≡ false → Split (b ∷ s) ⊎ Ended (b ∷ s)
stops_here b s e f = inl (record { between = []; rest = b ∷ s; whole = refl; is_gap = nothing; skipped = skip_none b s e f })

newline : (b : ℕ) (s : List ℕ) → (b == 10) ≡ true → Split s ⊎ Ended s → Closed (b ∷ s)
newline b s e next = let skips : skip true (b ∷ s) ≡ suc (skip false s) = skip_line b s true e in record { line = []; behind = s; whole = ap (λ q. q ∷ s) (eqb-true b 10 e); is_line = refl; skipped = omega (arith, skips); next = next }

in_line : (b : ℕ) (s : List ℕ) → (b == 10) ≡ false → Closed s ⊎ Open s → Closed (b ∷ s) ⊎ Open (b ∷ s)
in_line b s e (inl c) = let skips : skip true (b ∷ s) ≡ suc (skip true s) = skip_line b s false e in inl (record { line = b ∷ c.line; behind = c.behind; whole = ap (λ q. b ∷ q) c.whole; is_line = line_more b c.line e c.is_line; skipped = omega (arith, skips, c.skipped); next = c.next })
in_line b s e (inr h) = inr (line_more b s e h.0, skip_line b s false e ∙ ap suc h.1)

outside_at : (b : ℕ) (s : List ℕ) (z : Bool) → is_blank b ≡ z → (q : Bool) → (b == 35) ≡ q → Split s ⊎ Ended s → Closed s ⊎ Open s → Split (b ∷ s) ⊎ Ended (b ∷ s)
outside_at b s true e q f out in_ = blanks b s e out
outside_at b s false e true f out in_ = comments b s e f in_
outside_at b s false e false f out in_ = stops_here b s e f

inside_at : (b : ℕ) (s : List ℕ) (z : Bool) → (b == 10) ≡ z → Split s ⊎ Ended s → Closed s ⊎ Open s → Closed (b ∷ s) ⊎ Open (b ∷ s)
inside_at b s true e out in_ = inl (newline b s e out)
inside_at b s false e out in_ = in_line b s e in_

both : (s : List ℕ) → (Split s ⊎ Ended s) × (Closed s ⊎ Open s)
unfolding skip
both [] = (inr (gap nothing, refl), inr (refl, refl))
both (b ∷ s) = let m = both s in (outside_at b s (is_blank b) refl (b == 35) refl m.0 m.1, inside_at b s (b == 10) refl m.0 m.1)

-- each text begins with a gap, or is one up to its end
pub gap_in_front : (s : List ℕ) → Split s ⊎ Ended s
gap_in_front s = (both s).0
