-- The pieces of a template are written as its text, and each says what is written of it.
use Rattle.std.proofs.Common.{◌≡◌, ◌==◌, ◌&&◌, ℕ, zero, suc, ◌+◌, ◌-◌, ◌<◌, List, [], ◌∷◌, ◌++◌, length, drop, Bool, true, false, if◌then◌else◌, refl, sym, ap, ◌∙◌, arith, append_assoc, Option, Some, None, option_map}
use Rattle.std.specs.Prelude.{flat_map}
use Rattle.std.specs.Option.{option_and_then, option_or}
use Rattle.std.proofs.lemmas.Bool.Decides.{nat_tests}
use Rattle.event_tree.specs.Events.{Way}
use Rattle.event_tree.specs.Paths.{over}
use Rattle.event_tree.proofs.Sounds.{first, second}
use Rattle.event_text.specs.PathReading.{way_in}
use Rattle.event_text.specs.DateFormats.{format_of}
use Rattle.event_text.specs.Template.{before_close, placed, date_part_of, field_part_of, template_part_of, placeholder, with_plain, template_parts_behind, template_parts, as_written, written, IsRead, AreRead}
use Rattle.event_text.specs.declared.template.TemplatePart.{TemplatePart}
use Rattle.event_text.specs.declared.template.TemplatePart.TheVariants as p
use Rattle.event_text.specs.declared.date_format.DatePart.{DatePart}

-- what stands between `%{` and `}` is read, and written again
abbrev Says : List ℕ → TemplatePart → Type 0
Says inner piece = (written piece ≡ as_written inner) × IsRead piece

abbrev MaySay : List ℕ → Option TemplatePart → Type 0
MaySay inner None = Unit {0}
MaySay inner (Some piece) = Says inner piece

either : (inner : List ℕ) (a b : Option TemplatePart) → MaySay inner a → MaySay inner b → MaySay inner (option_or a b)
either inner None b h k = k
either inner (Some x) b h k = h

field_says : (inner : List ℕ) → MaySay inner (field_part_of inner)
field_says inner = by (way_in inner) refl where
  by : (o : Option Way) → way_in inner ≡ o → MaySay inner (option_map (λ way. p.Field way inner) o)
  by None e = tt
  by (Some way) e = (refl, e)

date_says : (inner : List ℕ) → MaySay inner (date_part_of inner)
date_says [] = tt
date_says (b ∷ bs) = by_plus (b == 43) refl where
  by_format : b ≡ 43 → (o : Option (List DatePart)) → format_of bs ≡ o → MaySay (b ∷ bs) (option_map (λ parts. p.Date parts (b ∷ bs)) o)
  by_format plus None e = tt
  by_format plus (Some parts) e = (refl, (bs, ap (λ x. x ∷ bs) plus, e))

  by_plus : (t : Bool) → (b == 43) ≡ t → MaySay (b ∷ bs) (if t then option_map (λ parts. p.Date parts (b ∷ bs)) (format_of bs) else None)
  by_plus true e = let plus : b ≡ 43 = grind (arith, nat_tests) in by_format plus (format_of bs) refl
  by_plus false e = tt

piece_says : (inner : List ℕ) → MaySay inner (template_part_of inner)
piece_says inner = either inner (date_part_of inner) (field_part_of inner) (date_says inner) (field_says inner)

-- what stands before the first `}`, and that `}`
abbrev Closes : List ℕ → List ℕ → Type 0
Closes text inner = (more : List ℕ) × (text ≡ inner ++ 125 ∷ more)

abbrev MayClose : List ℕ → Option (List ℕ) → Type 0
MayClose text None = Unit {0}
MayClose text (Some inner) = Closes text inner

one_more : (b : ℕ) (bs : List ℕ) (o : Option (List ℕ)) → MayClose bs o → MayClose (b ∷ bs) (option_map (λ inner. b ∷ inner) o)
one_more b bs None h = tt
one_more b bs (Some inner) h = (h.0, ap (λ l. b ∷ l) h.1)

close_first : (b : ℕ) (bs : List ℕ) → MayClose bs (before_close bs) → (t : Bool) → (b == 125) ≡ t → MayClose (b ∷ bs) (if t then Some [] else option_map (λ inner. b ∷ inner) (before_close bs))
close_first b bs h true e = let close : b ≡ 125 = grind (arith, nat_tests) in (bs, ap (λ x. x ∷ bs) close)
close_first b bs h false e = one_more b bs (before_close bs) h

closes : (text : List ℕ) → MayClose text (before_close text)
closes [] = tt
closes (b ∷ bs) = close_first b bs (closes bs) (b == 125) refl

-- what is found at the front is written there
abbrev Stands : List ℕ → Option (TemplatePart × ℕ) → Type 0
Stands text None = Unit {0}
Stands text (Some f) = (0 < f.1) × IsRead f.0 × (written f.0 ++ drop f.1 text ≡ text)

pub drop_whole : (inner more : List ℕ) → drop (length inner + 1) (inner ++ 125 ∷ more) ≡ more
drop_whole [] more = refl
drop_whole (b ∷ inner) more = let e : length (b ∷ inner) + 1 ≡ suc (length inner + 1) = omega arith in ap (λ n. drop n (b ∷ (inner ++ 125 ∷ more))) e ∙ drop_whole inner more

stands_with : (text rest inner : List ℕ) (o : Option TemplatePart) → text ≡ 37 ∷ 123 ∷ rest → Closes rest inner → MaySay inner o → Stands text (option_map (λ piece. (piece, length inner + 3)) o)
stands_with text rest inner None e c h = tt
stands_with text rest inner (Some piece) e c h =
    let n : length inner + 3 ≡ suc (suc (length inner + 1)) = omega arith in
    let whole : text ≡ 37 ∷ 123 ∷ (inner ++ 125 ∷ c.0) = e ∙ ap (λ l. 37 ∷ 123 ∷ l) c.1 in
    let left : drop (length inner + 3) text ≡ c.0 = ap (drop (length inner + 3)) whole ∙ ap (λ k. drop k (37 ∷ 123 ∷ (inner ++ 125 ∷ c.0))) n ∙ drop_whole inner c.0 in
    (omega arith, h.1, ap (λ l. written piece ++ l) left ∙ ap (λ l. l ++ c.0) h.0 ∙ ap (λ l. 37 ∷ 123 ∷ l) (append_assoc inner (125 ∷ []) c.0) ∙ sym whole)

stands_closed : (text rest : List ℕ) (o : Option (List ℕ)) → text ≡ 37 ∷ 123 ∷ rest → MayClose rest o → Stands text (option_and_then placed o)
stands_closed text rest None e c = tt
stands_closed text rest (Some inner) e c = stands_with text rest inner (template_part_of inner) e c (piece_says inner)

found_stands : (text : List ℕ) → Stands text (placeholder text)
found_stands [] = tt
found_stands (a ∷ []) = tt
found_stands (a ∷ b ∷ bs) = by (a == 37 && b == 123) refl where
  by : (t : Bool) → (a == 37 && b == 123) ≡ t → Stands (a ∷ b ∷ bs) (if t then option_and_then placed (before_close bs) else None)
  by true e =
      let first : a ≡ 37 = let h = first (a == 37) (b == 123) e in grind (arith, nat_tests) in
      let second : b ≡ 123 = let h = second (a == 37) (b == 123) e in grind (arith, nat_tests) in
      stands_closed (a ∷ b ∷ bs) bs (before_close bs) (ap (λ x. x ∷ b ∷ bs) first ∙ ap (λ x. 37 ∷ x ∷ bs) second) (closes bs)
  by false e = tt

plain_written : (b : ℕ) (ps : List TemplatePart) → flat_map written (with_plain b ps) ≡ b ∷ flat_map written ps
plain_written b [] = refl
plain_written b (p.Plain run ∷ ps) = refl
plain_written b (p.Field way inner ∷ ps) = refl
plain_written b (p.Date parts inner ∷ ps) = refl

plain_read : (b : ℕ) (ps : List TemplatePart) → AreRead ps → AreRead (with_plain b ps)
plain_read b [] h = (omega arith, tt)
plain_read b (p.Plain run ∷ ps) h = (omega arith, h.1)
plain_read b (p.Field way inner ∷ ps) h = (omega arith, h)
plain_read b (p.Date parts inner ∷ ps) h = (omega arith, h)

abbrev Whole : List TemplatePart → List ℕ → Type 0
Whole ps text = (flat_map written ps ≡ text) × AreRead ps

whole_step : (b : ℕ) (bs : List ℕ) (o : Option (TemplatePart × ℕ)) → Stands (b ∷ bs) o → ((k : ℕ) → Whole (template_parts_behind k bs) (drop k bs)) → Whole (over (λ found. found.0 ∷ template_parts_behind (found.1 - 1) bs) (with_plain b (template_parts_behind zero bs)) o) (b ∷ bs)
whole_step b bs None h rest = (plain_written b (template_parts_behind zero bs) ∙ ap (λ l. b ∷ l) (rest zero).0, plain_read b (template_parts_behind zero bs) (rest zero).1)
whole_step b bs (Some f) h rest =
    let n : suc (f.1 - 1) ≡ f.1 = let some = h.0 in omega arith in
    (ap (λ l. written f.0 ++ l) (rest (f.1 - 1)).0 ∙ ap (λ k. written f.0 ++ drop k (b ∷ bs)) n ∙ h.2, (h.1, (rest (f.1 - 1)).1))

whole_behind : (k : ℕ) (text : List ℕ) → Whole (template_parts_behind k text) (drop k text)
whole_behind zero [] = (refl, tt)
whole_behind (suc k) [] = (refl, tt)
whole_behind (suc k) (b ∷ bs) = whole_behind k bs
whole_behind zero (b ∷ bs) = whole_step b bs (placeholder (b ∷ bs)) (found_stands (b ∷ bs)) (λ k. whole_behind k bs)

pub pieces_whole : (text : List ℕ) → flat_map written (template_parts text) ≡ text
pieces_whole text = (whole_behind 0 text).0

pub pieces_read : (text : List ℕ) → AreRead (template_parts text)
pieces_read text = (whole_behind 0 text).1
