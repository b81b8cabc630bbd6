-- The text of sections one behind the other.
use Rattle.std.proofs.Common.{◌≡◌, ℕ, ◌<◌, List, [], ◌∷◌, ◌++◌, length, drop, refl, sym, ap, ◌∙◌, append_assoc, arith, codes}
use Rattle.config_lex.specs.declared.token.Section.{Section}
use Rattle.config_lex.specs.Spelling.{section_text}
use Rattle.config_print.specs.Layout.{Piece, text_of}
use Rattle.config_print.specs.Printed.{Laid, no_indentation, deeper, braced, lines_of, lines_text, section}
use Rattle.config_print.proofs.Layouts.{text_both}

-- the text of a section that isn't empty
pub section_lines : {A : Type 0} (line : A → Laid) (kind : Section) (xs : List A) → 0 < length xs
    → lines_text (section line kind xs) ≡ section_text kind ++ (text_of (braced no_indentation (lines_of line (deeper no_indentation) xs)) ++ codes "\n")
section_lines line kind [] some = absurd (omega (arith, some))
section_lines line kind (x ∷ xs) some = append_assoc (section_text kind) (text_of (braced no_indentation (lines_of line (deeper no_indentation) (x ∷ xs)))) (10 ∷ [])

-- pieces that begin a line, or none
abbrev Begins : List Piece → Type 0
Begins ps = 10 ∷ lines_text ps ≡ text_of ps ++ 10 ∷ []

section_begins : {A : Type 0} (line : A → Laid) (kind : Section) (xs : List A) → Begins (section line kind xs)
section_begins line kind [] = refl
section_begins line kind (x ∷ xs) = refl

before_begins : {A : Type 0} (line : A → Laid) (kind : Section) (xs : List A) (ps : List Piece) → Begins ps → Begins (section line kind xs ++ ps)
before_begins line kind [] ps h = h
before_begins line kind (x ∷ xs) ps h = refl

-- the first byte of what has one
drop_front : (xs ys : List ℕ) → drop 1 ((xs ++ 10 ∷ []) ++ ys) ≡ drop 1 (xs ++ 10 ∷ []) ++ ys
drop_front [] ys = refl
drop_front (x ∷ xs) ys = refl

lines_both : (a b : List Piece) → Begins b → lines_text (a ++ b) ≡ lines_text a ++ lines_text b
lines_both a b h =
    ap (λ z. drop 1 (z ++ 10 ∷ [])) (text_both a b) ∙ ap (drop 1) (append_assoc (text_of a) (text_of b) (10 ∷ []) ∙ ap (λ z. text_of a ++ z) (sym h) ∙ sym (append_assoc (text_of a) (10 ∷ []) (lines_text b))) ∙ drop_front (text_of a) (lines_text b)

pub three_sections : {A B C : Type 0} (f : A → Laid) (g : B → Laid) (h : C → Laid) (i j k : Section) (xs : List A) (ys : List B) (zs : List C)
    → lines_text (section f i xs ++ (section g j ys ++ section h k zs)) ≡ lines_text (section f i xs) ++ (lines_text (section g j ys) ++ lines_text (section h k zs))
three_sections f g h i j k xs ys zs =
    let last = section_begins h k zs in
    lines_both (section f i xs) (section g j ys ++ section h k zs) (before_begins g j ys (section h k zs) last) ∙ ap (λ z. lines_text (section f i xs) ++ z) (lines_both (section g j ys) (section h k zs) last)
