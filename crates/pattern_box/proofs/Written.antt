-- What a pattern does is said by the text that it was read from.
use Rattle.std.proofs.Common.{◌≡◌, ℕ, ◌+◌, ◌*◌, ◌<◌, ◌≤◌, ◌&&◌, ◌==◌, true, if◌then◌else◌, List, [], ◌∷◌, ◌++◌, map, length, get_or, Option, None, Some, IsSomeAnd, slice_range, refl, sym, ap, ap₂, ◌∙◌, arith}
use Rattle.std.proofs.lemmas.Bool.Decides.{nat_tests}
use Rattle.std.specs.Prelude.{chars, option_map, nat_le}
use Rattle.regex_hir.specs.Re.{Re}
use Rattle.regex_hir.specs.Find.{Match}
use Rattle.regex_hir.specs.Meaning.{meaning}
use Rattle.regex_hir.specs.Text.{is_some_and}
use Rattle.regex_hir.specs.declared.hir.Hir.{Hir}
use Rattle.regex_syntax.specs.Grammar.{Names, read}
use Rattle.regex_syntax.specs.Verdict.{default_config, Reads}
use Rattle.regex.specs.Replace.{bytes_of, replaced_by}
use Rattle.regex.specs.Writes.{both}
use Rattle.regex.proofs.ForCallers.{spans, find_all_alike}
use Rattle.pattern_box.specs.declared.replacement.ReplacementPart.{ReplacementPart}
use Rattle.pattern_box.specs.declared.replacement.ReplacementPart.TheVariants as p
use Rattle.pattern_box.specs.Patterns.{Expression, pattern_re, written_re, is_pattern, IsReadFrom}
use Rattle.pattern_box.specs.Replacements.{part_bytes, parts_bytes, substituted_by, substituted_where, substituted}

with_read : {A B : Type 0} (o : Option A) (P : A → Type 0) → ((x : A) → o ≡ Some x → P x → B) → IsSomeAnd o P → B
with_read None P f h = absurd h
with_read (Some x) P f h = f x refl h

-- the text of a pattern is one
read_is_pattern : (s : List ℕ) (hir : Hir) (names : Names) → length s ≤ 65536 → Reads default_config s hir names → is_pattern s ≡ true
unfolding Reads is_pattern
read_is_pattern s hir names small reads =
    let within : nat_le (length s) 65536 ≡ true = grind (arith, nat_tests) in
    with_read (read default_config (chars s)) _
    (λ x is h. let shallow : nat_le x.0.depth 250 ≡ true = grind (arith, nat_tests) in
    ap (λ b. b && is_some_and (read default_config (chars s)) (λ found. nat_le found.0.depth 250)) within
    ∙ ap (λ o. is_some_and o (λ found. nat_le found.0.depth 250)) is ∙ shallow)
    reads

pub of_pattern : (s : List ℕ) (box : Expression) → IsReadFrom s box → is_pattern s ≡ true
of_pattern s box h = read_is_pattern s h.1.0 h.1.1 h.0 h.1.2

abbrev Seen : Type 0
Seen = ℕ × ℕ × (ℕ → Option ℕ)

abbrev seen_group : List ℕ → ℕ → Seen → List ℕ
seen_group text n s = bytes_of text (if n == 0 then Some (s.0, s.1) else both (s.2 (2 * n)) (s.2 (2 * n + 1)))

-- matches that a caller sees alike are written alike
part_alike : (text : List ℕ) (x y : Match) → spans x ≡ spans y → (part : ReplacementPart) → part_bytes text x part ≡ part_bytes text y part
part_alike text x y e (p.Text s) = refl
part_alike text x y e (p.Group n) = ap (seen_group text n) e

parts_alike : (text : List ℕ) (x y : Match) → spans x ≡ spans y → (parts : List ReplacementPart) → parts_bytes text parts x ≡ parts_bytes text parts y
parts_alike text x y e [] = refl
parts_alike text x y e (part ∷ parts) = ap₂ ◌++◌ (part_alike text x y e part) (parts_alike text x y e parts)

all_alike : (text : List ℕ) (parts : List ReplacementPart) (at : ℕ) (xs ys : List Match) → map spans xs ≡ map spans ys →
    replaced_by (parts_bytes text parts) text at xs ≡ replaced_by (parts_bytes text parts) text at ys
unfolding replaced_by
all_alike text parts at [] [] e = refl
all_alike text parts at [] (y ∷ ys) e = absurd (cc)
all_alike text parts at (x ∷ xs) [] e = absurd (cc)
all_alike text parts at (x ∷ xs) (y ∷ ys) e =
    let head : spans x ≡ spans y = cc in
    let tail : map spans xs ≡ map spans ys = cc in
    ap₂ ◌++◌ (ap₂ ◌++◌ (ap (λ (s : Seen). slice_range text at s.0) head) (parts_alike text x y head parts))
    (all_alike text parts x.trace.end xs ys tail ∙ ap (λ (s : Seen). replaced_by (parts_bytes text parts) text s.1 ys) head)

as_written : (s text : List ℕ) (re : Re) (hir : Hir) (names : Names) → re ≡ meaning hir → ((k : ℕ) → get_or text k 0 < 256) →
    Reads default_config s hir names → (parts : List ReplacementPart) → substituted_by re parts text ≡ substituted s parts text
unfolding Reads substituted written_re
as_written s text re hir names e bytes reads parts =
    with_read (read default_config (chars s)) _
    (λ x is h. ap (λ r. substituted_by r parts text) e ∙ all_alike text parts 0 _ _ (find_all_alike h.1 text bytes true)
    ∙ sym (ap (λ o. substituted_where (option_map (λ found. found.0.value) o) parts text) is))
    reads

-- what is substituted by a pattern is what its text says
pub substituted_as_written : (s text : List ℕ) (box : Expression) → IsReadFrom s box → ((k : ℕ) → get_or text k 0 < 256) →
    (parts : List ReplacementPart) → substituted_by (pattern_re box) parts text ≡ substituted s parts text
substituted_as_written s text box h bytes = as_written s text (pattern_re box) h.1.0 h.1.1 h.1.3 bytes h.1.2
