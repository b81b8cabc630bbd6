-- Templates and formats piece by piece.
use Rattle.std.proofs.Common.{◌≡◌, ◌≢◌, ◌==◌, ◌&&◌, ℕ, suc, ◌+◌, ◌-◌, ◌<◌, List, [], ◌∷◌, ◌++◌, length, take, drop, get_or, false, if◌then◌else◌, refl, sym, ap, ◌∙◌, arith, append_assoc, length-append, Some, None, option_map, option_and_then}
use Rattle.std.specs.Option.{option_or}
use Rattle.std.proofs.lemmas.Bool.Decides.{nat_tests}
use Rattle.std.proofs.lemmas.List.{get_or_append_left, get_or-append-add}
use Rattle.std.proofs.Math.Seq.{take-append_seam, drop-append_seam}
use Rattle.event_tree.specs.Events.{Way}
use Rattle.event_text.specs.PathReading.{way_in}
use Rattle.event_text.specs.DateFormats.{kind, runs, part_of, parts_of, format_of}
use Rattle.event_text.specs.Template.{opens, before_close, placed, date_part_of, field_part_of, template_part_of, placeholder, with_plain, plain_parts, template_parts, as_written}
use Rattle.event_text.specs.TextLaws.{HasNo, IsOneRun, BeginsOther}
use Rattle.event_text.specs.declared.date_format.DatePart.{DatePart}
use Rattle.event_text.specs.declared.template.TemplatePart.{TemplatePart}
use Rattle.event_text.specs.declared.template.TemplatePart.TheVariants as p
use Rattle.event_text.proofs.Pieces.{not_close}
use Rattle.event_text.proofs.Runs.{runs_split}
use Rattle.event_text.proofs.Scans.{step_plain, step_piece}
use Rattle.event_text.proofs.Wholes.{drop_whole}

-- ---- what stands between `%{` and the next `}`

closed_by : (inner more : List ℕ) → HasNo 125 inner → before_close (inner ++ 125 ∷ more) ≡ Some inner
closed_by [] more h = refl
closed_by (b ∷ inner) more h =
    ap (λ t. if t then Some [] else option_map (λ i. b ∷ i) (before_close (inner ++ 125 ∷ more))) (not_close b h.0) ∙ ap (option_map (λ i. b ∷ i)) (closed_by inner more h.1)

module _ (inner rest : List ℕ) (h : HasNo 125 inner) where
  abbrev whole : List ℕ
  whole = as_written inner ++ rest

  placeholder_is : placeholder whole ≡ option_map (λ piece. (piece, length inner + 3)) (template_part_of inner)
  placeholder_is = ap (λ l. option_and_then placed (before_close l)) (append_assoc inner (125 ∷ []) rest) ∙ ap (option_and_then placed) (closed_by inner rest h)

  behind : drop (0 + (length inner + 3)) whole ≡ rest
  behind =
      let n : 0 + (length inner + 3) ≡ suc (suc (length inner + 1)) = omega arith in
      ap (λ k. drop k whole) n ∙ ap (drop (length inner + 1)) (append_assoc inner (125 ∷ []) rest) ∙ drop_whole inner rest

  pub piece_read : (piece : TemplatePart) → template_part_of inner ≡ Some piece → template_parts whole ≡ piece ∷ template_parts rest
  piece_read piece is =
      step_piece whole 0 (length inner + 3) piece (omega arith) (omega arith) (placeholder_is ∙ ap (option_map (λ x. (x, length inner + 3))) is)
      ∙ ap (λ l. piece ∷ template_parts l) behind

  pub other_stays : template_part_of inner ≡ None → template_parts whole ≡ with_plain 37 (template_parts (123 ∷ ((inner ++ 125 ∷ []) ++ rest)))
  other_stays none = step_plain whole 0 (omega arith) (placeholder_is ∙ ap (option_map (λ x. (x, length inner + 3))) none)

pub date_read : (format rest : List ℕ) (parts : List DatePart) → HasNo 125 format → format_of format ≡ Some parts → template_parts (as_written (43 ∷ format) ++ rest) ≡ p.Date parts (43 ∷ format) ∷ template_parts rest
date_read format rest parts h is =
    let no : 43 ≢ 125 = λ e. omega (arith, e) in
    let date : template_part_of (43 ∷ format) ≡ Some (p.Date parts (43 ∷ format)) = ap (λ o. option_or (option_map (λ ps. p.Date ps (43 ∷ format)) o) (field_part_of (43 ∷ format))) is in
    piece_read (43 ∷ format) rest (no, h) (p.Date parts (43 ∷ format)) date

pub field_read : (inner rest : List ℕ) (way : Way) → HasNo 125 inner → date_part_of inner ≡ None → way_in inner ≡ Some way → template_parts (as_written inner ++ rest) ≡ p.Field way inner ∷ template_parts rest
field_read inner rest way h none is =
    piece_read inner rest h (p.Field way inner) (ap (λ o. option_or o (field_part_of inner)) none ∙ ap (option_map (λ w. p.Field w inner)) is)

-- ---- plain text

pub unopened_stays : (b : ℕ) (rest : List ℕ) → opens (b ∷ rest) ≡ false → template_parts (b ∷ rest) ≡ with_plain b (template_parts rest)
unopened_stays b rest h = step_plain (b ∷ rest) 0 (omega arith) (ap (λ t. if t then option_and_then placed (before_close (drop 2 (b ∷ rest))) else None) h)

never_closed : (rest : List ℕ) → HasNo 125 rest → before_close rest ≡ None
never_closed [] h = refl
never_closed (b ∷ rest) h =
    ap (λ t. if t then Some [] else option_map (λ i. b ∷ i) (before_close rest)) (not_close b h.0) ∙ ap (option_map (λ i. b ∷ i)) (never_closed rest h.1)

pub unclosed_stays : (rest : List ℕ) → HasNo 125 rest → template_parts (37 ∷ 123 ∷ rest) ≡ with_plain 37 (template_parts (123 ∷ rest))
unclosed_stays rest h = step_plain (37 ∷ 123 ∷ rest) 0 (omega arith) (ap (option_and_then placed) (never_closed rest h))

not_percent : (b : ℕ) → b ≢ 37 → (b == 37) ≡ false
not_percent b h = grind (arith, nat_tests)

nothing_opens : (b : ℕ) (bs : List ℕ) → b ≢ 37 → placeholder (b ∷ bs) ≡ None
nothing_opens b [] h = refl
nothing_opens b (c ∷ bs) h = ap (λ t. if t && (c == 123) then option_and_then placed (before_close bs) else None) (not_percent b h)

plain_before : (b : ℕ) (bs : List ℕ) → with_plain b (plain_parts bs) ≡ plain_parts (b ∷ bs)
plain_before b [] = refl
plain_before b (c ∷ bs) = refl

pub plain_read : (text : List ℕ) → HasNo 37 text → template_parts text ≡ plain_parts text
plain_read [] h = refl
plain_read (b ∷ bs) h = step_plain (b ∷ bs) 0 (omega arith) (nothing_opens b bs h.0) ∙ ap (with_plain b) (plain_read bs h.1) ∙ plain_before b bs

-- ---- formats

module _ (run rest : List ℕ) (one : IsOneRun run) (other : BeginsOther run rest) where
  inside : (k : ℕ) → k < length run → get_or (run ++ rest) k 0 ≡ get_or run k 0
  inside k h = get_or_append_left run rest 0 k h

  run_first : runs (run ++ rest) ≡ run ∷ runs rest
  run_first =
      let m = length run - 1 in
      let n : suc m ≡ length run = omega (arith, one.some) in
      let first = inside 0 one.some in
      let split = runs_split m (run ++ rest) (omega (arith, length-append run rest, n))
      (λ k h. ap kind (inside k (omega (arith, h, n))) ∙ one.same k (omega (arith, h, n)) ∙ ap kind (sym first))
      (λ h e. other (omega (arith, h, n, length-append run rest)) (ap kind (sym (beyond h)) ∙ e ∙ ap kind first)) in
      split ∙ ap (λ k. take k (run ++ rest) ∷ runs (drop k (run ++ rest))) n ∙ ap (λ l. l ∷ runs (drop (length run) (run ++ rest))) (take-append_seam run rest) ∙ ap (λ l. run ∷ runs l) (drop-append_seam run rest)
    where
      beyond : suc (length run - 1) < length (run ++ rest) → get_or (run ++ rest) (suc (length run - 1)) 0 ≡ get_or rest 0 0
      beyond h =
          let n : suc (length run - 1) ≡ length run + 0 = omega (arith, one.some) in
          ap (λ k. get_or (run ++ rest) k 0) n ∙ get_or-append-add run rest 0 0

  format_is : format_of (run ++ rest) ≡ parts_of (run ∷ runs rest)
  format_is = from (run ++ rest) (omega (arith, length-append run rest, one.some)) ∙ ap parts_of run_first
    where
      from : (bytes : List ℕ) → 0 < length bytes → format_of bytes ≡ parts_of (runs bytes)
      from [] some = absurd (omega (arith, some))
      from (b ∷ bs) some = refl

  pub run_read : (part : DatePart) (parts : List DatePart) → part_of run ≡ Some part → parts_of (runs rest) ≡ Some parts → format_of (run ++ rest) ≡ Some (part ∷ parts)
  run_read part parts is more =
      format_is ∙ ap (option_and_then (λ x. option_map (λ ps. x ∷ ps) (parts_of (runs rest)))) is ∙ ap (option_map (λ ps. part ∷ ps)) more

  pub run_refused : part_of run ≡ None → format_of (run ++ rest) ≡ None
  run_refused none = format_is ∙ ap (option_and_then (λ x. option_map (λ ps. x ∷ ps) (parts_of (runs rest)))) none
