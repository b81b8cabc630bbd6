-- The split of bytes into lines and a rest, and that cutting the bytes changes nothing.
use Rattle.std.proofs.Common.{◌≡◌, ◌≢◌, ◌<◌, ◌+◌, ℕ, List, [], ◌∷◌, ◌++◌, map, length, refl, sym, ap, ◌∙◌, subst, ⊎_elim, arith, append_assoc, append-nil, length-append}
use Rattle.std.specs.List.{flat_map, AllByRecursion}
use Rattle.std.proofs.lemmas.Bool.{ne_eqb, eq-eqb, cond-true, cond-false, cases_eq}
use Rattle.std.proofs.lemmas.Grind.{flat_map-append}
use Rattle.std.proofs.lemmas.List.{map-append}
use Rattle.byte_lines.specs.Split.{HasNoLineFeed, RawLine, Ended, Full, IsRawLine, line_bytes, SplitsInto, Split, with_first, split_from, split_of}
use Rattle.byte_lines.specs.Lines.{line_text, whole_lines}

-- bytes without a line feed are held, where they leave the line shorter than the limit
split_from-held : (limit : ℕ) (held xs ys : List ℕ) → HasNoLineFeed xs → length held + length xs < limit → split_from limit held (xs ++ ys) ≡ split_from limit (held ++ xs) ys
split_from-held limit held [] ys free short = ap (λ h. split_from limit h ys) (sym (append-nil held))
split_from-held limit held (x ∷ xs) ys free short =
    cond-false _ _ _ (ne_eqb x 10 free.0) ∙ cond-false _ _ _ (ne_eqb (length held + 1) limit (λ is. omega arith))
    ∙ split_from-held limit (held ++ x ∷ []) xs ys free.1 (omega (arith, length-append held (x ∷ []))) ∙ ap (λ h. split_from limit h ys) (append_assoc held (x ∷ []) xs)

-- and they are a line, where they make it as long as one may be
split_from-full : (limit : ℕ) (held xs ys : List ℕ) → HasNoLineFeed xs → 0 < length xs → length held + length xs ≡ limit → split_from limit held (xs ++ ys) ≡ with_first (Full (held ++ xs)) (split_from limit [] ys)
split_from-full limit held [] ys free some full = absurd (omega arith)
split_from-full limit held (x ∷ []) ys free some full = cond-false _ _ _ (ne_eqb x 10 free.0) ∙ cond-true _ _ _ (eq-eqb (length held + 1) limit (omega arith))
split_from-full limit held (x ∷ z ∷ xs) ys free some full =
    cond-false _ _ _ (ne_eqb x 10 free.0) ∙ cond-false _ _ _ (ne_eqb (length held + 1) limit (λ is. omega arith))
    ∙ split_from-full limit (held ++ x ∷ []) (z ∷ xs) ys free.1 (omega arith) (omega (arith, length-append held (x ∷ [])))
    ∙ ap (λ h. with_first (Full h) (split_from limit [] ys)) (append_assoc held (x ∷ []) (z ∷ xs))

-- a line at the front comes first
pub split_of-line : (limit : ℕ) (line : RawLine) (more : List ℕ) → 0 < limit → IsRawLine limit line → split_of limit (line_bytes line ++ more) ≡ with_first line (split_of limit more)
unfolding split_of
split_of-line limit (Ended bytes) more some ok = ap (split_from limit []) (append_assoc bytes (10 ∷ []) more) ∙ split_from-held limit [] bytes (10 ∷ more) ok.0 (omega (arith, ok.1))
split_of-line limit (Full bytes) more some ok = split_from-full limit [] bytes more ok.0 (omega (arith, ok.1)) (omega (arith, ok.1))

-- less than a line has none
pub split_of-rest : (limit : ℕ) (rest : List ℕ) → HasNoLineFeed rest → length rest < limit → split_of limit rest ≡ record { lines = []; rest = rest }
unfolding split_of
split_of-rest limit rest free short = ap (split_from limit []) (sym (append-nil rest)) ∙ split_from-held limit [] rest [] free (omega arith)

-- no other lines are those of the bytes
pub split_of-SplitsInto : (limit : ℕ) (bytes : List ℕ) (lines : List RawLine) (rest : List ℕ) → 0 < limit → SplitsInto limit bytes lines rest → split_of limit bytes ≡ record { lines = lines; rest = rest }
split_of-SplitsInto limit bytes [] rest some split = ap (split_of limit) split.whole ∙ split_of-rest limit rest split.no_line_feed split.short
split_of-SplitsInto limit bytes (line ∷ lines) rest some split =
    let more = flat_map line_bytes lines ++ rest in
    let later : SplitsInto limit more lines rest = record { whole = refl; each = split.each.1; no_line_feed = split.no_line_feed; short = split.short } in
    ap (split_of limit) (split.whole ∙ append_assoc (line_bytes line) (flat_map line_bytes lines) rest) ∙ split_of-line limit line more some split.each.0
    ∙ ap (with_first line) (split_of-SplitsInto limit more lines rest some later)

pub all_append : {X : Type 0} (P : X → Type 0) (xs ys : List X) → AllByRecursion P xs → AllByRecursion P ys → AllByRecursion P (xs ++ ys)
all_append P [] ys one other = other
all_append P (x ∷ xs) ys one other = (one.0, all_append P xs ys one.1 other)

abbrev SplitsAs : ℕ → List ℕ → Split → Type 0
SplitsAs limit bytes split = SplitsInto limit bytes split.lines split.rest

splits_with_first : (limit : ℕ) (line : RawLine) (bytes : List ℕ) (split : Split) → IsRawLine limit line → SplitsAs limit bytes split → SplitsAs limit (line_bytes line ++ bytes) (with_first line split)
splits_with_first limit line bytes split ok s = record {
  whole = ap (λ t. line_bytes line ++ t) s.whole ∙ sym (append_assoc (line_bytes line) (flat_map line_bytes split.lines) split.rest);
  each = (ok, s.each);
  no_line_feed = s.no_line_feed;
  short = s.short;
}

SplitsInto-split_from : (limit : ℕ) (held bytes : List ℕ) → HasNoLineFeed held → length held < limit → SplitsAs limit (held ++ bytes) (split_from limit held bytes)
SplitsInto-split_from limit held [] free short = record { whole = append-nil held; each = tt; no_line_feed = free; short = short }
SplitsInto-split_from limit held (b ∷ bytes) free short =
    let whole = append_assoc held (b ∷ []) bytes in
    ⊎_elim
    (λ feed. subst (SplitsAs limit (held ++ b ∷ bytes)) (sym (cond-true _ _ _ (eq-eqb b 10 feed)))
    (subst (λ t. SplitsAs limit t (with_first (Ended held) (split_from limit [] bytes))) (append_assoc held (10 ∷ []) bytes ∙ ap (λ x. held ++ x ∷ bytes) (sym feed))
    (splits_with_first limit (Ended held) bytes (split_from limit [] bytes) (free, short) (SplitsInto-split_from limit [] bytes tt (omega arith)))))
    (λ other.
    let longer = all_append (λ x. x ≢ 10) held (b ∷ []) free (other, tt) in
    let size = length-append held (b ∷ []) in
    subst (SplitsAs limit (held ++ b ∷ bytes)) (sym (cond-false _ _ _ (ne_eqb b 10 other)))
    (⊎_elim
    (λ full. subst (SplitsAs limit (held ++ b ∷ bytes)) (sym (cond-true _ _ _ (eq-eqb (length held + 1) limit full)))
    (subst (λ t. SplitsAs limit t (with_first (Full (held ++ b ∷ [])) (split_from limit [] bytes))) whole
    (splits_with_first limit (Full (held ++ b ∷ [])) bytes (split_from limit [] bytes) (longer, omega (arith, size, full)) (SplitsInto-split_from limit [] bytes tt (omega arith)))))
    (λ less. subst (SplitsAs limit (held ++ b ∷ bytes)) (sym (cond-false _ _ _ (ne_eqb (length held + 1) limit less)))
    (subst (λ t. SplitsAs limit t (split_from limit (held ++ b ∷ []) bytes)) whole (SplitsInto-split_from limit (held ++ b ∷ []) bytes longer (omega (arith, size, less)))))
    (cases_eq (length held + 1) limit)))
    (cases_eq b 10)

-- the computed lines and rest are those of the bytes
pub SplitsInto-split_of : (limit : ℕ) (bytes : List ℕ) → 0 < limit → SplitsInto limit bytes (split_of limit bytes).lines (split_of limit bytes).rest
unfolding split_of
SplitsInto-split_of limit bytes some = SplitsInto-split_from limit [] bytes tt some

-- and no others are
pub split_of-only : (limit : ℕ) (bytes rest : List ℕ) (lines : List RawLine) → 0 < limit → SplitsInto limit bytes lines rest → (lines ≡ (split_of limit bytes).lines) × (rest ≡ (split_of limit bytes).rest)
split_of-only limit bytes rest lines some split =
    let same = split_of-SplitsInto limit bytes lines rest some split in
    (sym (ap (λ s. s.lines) same), sym (ap (λ s. s.rest) same))

-- what is left has no line
pub split_of-settled : (limit : ℕ) (bytes : List ℕ) → 0 < limit → let rest = (split_of limit bytes).rest in split_of limit rest ≡ record { lines = []; rest = rest }
split_of-settled limit bytes some = let s = SplitsInto-split_of limit bytes some in split_of-rest limit (split_of limit bytes).rest s.no_line_feed s.short

-- bytes in two pieces: the lines of the first, and then those of its rest and the second
pub split_of-append : (limit : ℕ) (xs ys : List ℕ) → 0 < limit
    → let first = split_of limit xs in let later = split_of limit (first.rest ++ ys) in split_of limit (xs ++ ys) ≡ record { lines = first.lines ++ later.lines; rest = later.rest }
split_of-append limit xs ys some =
    let first = split_of limit xs in
    let later = split_of limit (first.rest ++ ys) in
    let one = SplitsInto-split_of limit xs some in
    let two = SplitsInto-split_of limit (first.rest ++ ys) some in
    let both : SplitsInto limit (xs ++ ys) (first.lines ++ later.lines) later.rest = record {
      whole = ap (λ t. t ++ ys) one.whole ∙ append_assoc (flat_map line_bytes first.lines) first.rest ys ∙ ap (λ t. flat_map line_bytes first.lines ++ t) two.whole
          ∙ sym (append_assoc (flat_map line_bytes first.lines) (flat_map line_bytes later.lines) later.rest) ∙ ap (λ t. t ++ later.rest) (sym (flat_map-append line_bytes first.lines later.lines));
      each = all_append (IsRawLine limit) first.lines later.lines one.each two.each;
      no_line_feed = two.no_line_feed;
      short = two.short;
    } in
    split_of-SplitsInto limit (xs ++ ys) (first.lines ++ later.lines) later.rest some both

pub whole_lines-append : (limit : ℕ) (xs ys : List ℕ) → 0 < limit → whole_lines limit (xs ++ ys) ≡ whole_lines limit xs ++ whole_lines limit ((split_of limit xs).rest ++ ys)
whole_lines-append limit xs ys some =
    let first = split_of limit xs in
    ap (λ s. map line_text s.lines) (split_of-append limit xs ys some) ∙ map-append line_text first.lines (split_of limit (first.rest ++ ys)).lines

pub rest-append : (limit : ℕ) (xs ys : List ℕ) → 0 < limit → (split_of limit (xs ++ ys)).rest ≡ (split_of limit ((split_of limit xs).rest ++ ys)).rest
rest-append limit xs ys some = ap (λ s. s.rest) (split_of-append limit xs ys some)

pub lines-append : (limit : ℕ) (xs ys : List ℕ) → 0 < limit → (split_of limit (xs ++ ys)).lines ≡ (split_of limit xs).lines ++ (split_of limit ((split_of limit xs).rest ++ ys)).lines
lines-append limit xs ys some = ap (λ s. s.lines) (split_of-append limit xs ys some)
