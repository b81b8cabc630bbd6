-- How far a bare scalar goes, byte by byte.
use Rattle.std.proofs.Common.{◌≡◌, ℕ, ◌+◌, ◌<◌, ◌≤◌, List, [], ◌∷◌, ◌++◌, length, take, drop, get_or, sym, ap, ◌∙◌, arith, append_assoc, Bool, true, false, if◌then◌else◌, ◌⊎◌, inl, inr}
use Rattle.std.proofs.lemmas.Bool.Decides.{eqb_tells, Decides-eqb}
use Rattle.std.specs.Prelude.{◌==◌, ◌&&◌}
use Rattle.std.proofs.lemmas.List.{drop_more, take_more}
use Rattle.settings_lines.specs.Lines.{without_comment, trimmed, kept}

le_split : (a b : ℕ) → a ≤ b → (a < b) ⊎ (a ≡ b)
le_split a b le = elim (eqb_tells a b) [
  | inl same ↦ inr same.1
  | inr other ↦ inl (omega (arith, other.1))
]

-- what was read up to `len`, or up to `at` where more follows
abbrev pub joined : List ℕ → ℕ → ℕ → List ℕ → List ℕ
joined s len at [] = take len s
joined s len at (b ∷ rest) = take at s ++ b ∷ rest

-- what is left from a place on, the blanks and the comment at its end cut off
abbrev pub left_at : List ℕ → ℕ → Bool → List ℕ
left_at s at behind = trimmed (without_comment behind (drop at s))

blank_more : (s : List ℕ) (len at b : ℕ) (T : List ℕ) → take (at + 1) s ≡ take at s ++ b ∷ [] → (b == 32) ≡ true → joined s len (at + 1) T ≡ joined s len at (kept b T)
blank_more s len at b [] e blank = ap (λ t. joined s len at (if t then [] else b ∷ [])) (sym blank)
blank_more s len at b (t ∷ ts) e blank = ap (λ x. x ++ t ∷ ts) e ∙ append_assoc (take at s) (b ∷ []) (t ∷ ts)

other_more : (s : List ℕ) (len at b : ℕ) (T : List ℕ) → take (at + 1) s ≡ take at s ++ b ∷ [] → (b == 32) ≡ false → joined s (at + 1) (at + 1) T ≡ joined s len at (kept b T)
other_more s len at b [] e other = e ∙ ap (λ t. joined s len at (if t then [] else b ∷ [])) (sym other)
other_more s len at b (t ∷ ts) e other = ap (λ x. x ++ t ∷ ts) e ∙ append_assoc (take at s) (b ∷ []) (t ∷ ts)

front : (s : List ℕ) (at b : ℕ) → at < length s → b ≡ get_or s at 0 → drop at s ≡ b ∷ drop (at + 1) s
front s at b below is = drop_more s at 0 below ∙ ap (λ y. y ∷ drop (at + 1) s) (sym is)

until : (s : List ℕ) (at b : ℕ) → at < length s → b ≡ get_or s at 0 → take (at + 1) s ≡ take at s ++ b ∷ []
until s at b below is = take_more s at 0 below ∙ ap (λ y. take at s ++ y ∷ []) (sym is)

-- the byte at `at` ends the scalar
pub stops : (s : List ℕ) (len at b : ℕ) (behind : Bool) → at < length s → b ≡ get_or s at 0 → (b == 35 && behind) ≡ true → joined s len at (left_at s at behind) ≡ take len s
stops s len at b behind below is hash =
    ap (λ xs. joined s len at (trimmed (without_comment behind xs))) (front s at b below is)
    ∙ ap (λ t. joined s len at (trimmed (if t then [] else b ∷ without_comment (b == 32) (drop (at + 1) s)))) hash

-- it goes on, behind a blank or another byte
goes : (s : List ℕ) (len at b : ℕ) (behind : Bool) → at < length s → b ≡ get_or s at 0 → (b == 35 && behind) ≡ false → joined s len at (left_at s at behind) ≡ joined s len at (kept b (left_at s (at + 1) (b == 32)))
goes s len at b behind below is on =
    ap (λ xs. joined s len at (trimmed (without_comment behind xs))) (front s at b below is)
    ∙ ap (λ t. joined s len at (trimmed (if t then [] else b ∷ without_comment (b == 32) (drop (at + 1) s)))) on

pub goes_blank : (s : List ℕ) (len to at b : ℕ) (behind : Bool) → at < length s → b ≡ get_or s at 0 → (b == 35 && behind) ≡ false → (b == 32) ≡ true → to ≡ len → joined s to (at + 1) (left_at s (at + 1) (b == 32)) ≡ joined s len at (left_at s at behind)
goes_blank s len to at b behind below is on blank same =
    ap (λ n. joined s n (at + 1) (left_at s (at + 1) (b == 32))) same
    ∙ blank_more s len at b (left_at s (at + 1) (b == 32)) (until s at b below is) blank ∙ sym (goes s len at b behind below is on)

pub goes_other : (s : List ℕ) (len to at b : ℕ) (behind : Bool) → at < length s → b ≡ get_or s at 0 → (b == 35 && behind) ≡ false → (b == 32) ≡ false → to ≡ at + 1 → joined s to (at + 1) (left_at s (at + 1) (b == 32)) ≡ joined s len at (left_at s at behind)
goes_other s len to at b behind below is on other behind_it =
    ap (λ n. joined s n (at + 1) (left_at s (at + 1) (b == 32))) behind_it
    ∙ other_more s len at b (left_at s (at + 1) (b == 32)) (until s at b below is) other ∙ sym (goes s len at b behind below is on)

-- what stands behind the scalar so far is a blank
pub still_blank : (s : List ℕ) (len to at : ℕ) → to ≡ len → len ≤ at → (len < at → get_or s len 0 ≡ 32) → (get_or s at 0 == 32) ≡ true → get_or s to 0 ≡ 32
still_blank s len to at same within blank here = elim (le_split len at within) [
  | inl before ↦ ap (λ n. get_or s n 0) same ∙ blank before
  | inr there ↦ ap (λ n. get_or s n 0) (same ∙ there) ∙ (Decides-eqb (get_or s at 0) 32).0 here
]
