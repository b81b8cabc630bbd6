-- One step of the scan for the pieces of a template's text.
use Rattle.std.proofs.Common.{◌≡◌, ℕ, zero, suc, ◌+◌, ◌-◌, ◌<◌, ◌≤◌, List, [], ◌∷◌, ◌++◌, length, take, drop, get_or, true, false, if◌then◌else◌, ◌==◌, refl, sym, ap, subst, ◌∙◌, arith, append_assoc, length-drop, get_or-drop, drop-cons, add-one, Option, Some, None, option_map}
use Rattle.std.specs.Option.{option_and_then, option_or}
use Rattle.std.proofs.lemmas.List.{drop-drop, take_more}
use Rattle.std.proofs.Math.Seq.{take-length, drop-length}
use Rattle.event_tree.specs.Paths.{over}
use Rattle.event_text.specs.PathReading.{way_in}
use Rattle.event_text.specs.DateFormats.{format_of}
use Rattle.event_text.specs.Template.{opens, before_close, placed, date_part_of, field_part_of, template_part_of, placeholder, with_plain, with_run, plain_parts, template_parts_behind, template_parts}
use Rattle.event_text.specs.declared.template.TemplatePart.{TemplatePart}
use Rattle.event_text.specs.declared.template.TemplatePart.TheVariants as p

behind_drop : (k : ℕ) (text : List ℕ) → template_parts_behind k text ≡ template_parts (drop k text)
behind_drop zero text = refl
behind_drop (suc k) [] = refl
behind_drop (suc k) (b ∷ bs) = behind_drop k bs

pub step_plain : (text : List ℕ) (at : ℕ) → at < length text → placeholder (drop at text) ≡ None → template_parts (drop at text) ≡ with_plain (get_or text at 0) (template_parts (drop (suc at) text))
step_plain text at h none =
    let b = get_or text at 0 in
    let bs = drop (suc at) text in
    let e : drop at text ≡ b ∷ bs = drop-cons text at 0 h in
    ap template_parts e ∙ ap (λ o. over (λ found. found.0 ∷ template_parts_behind (found.1 - 1) bs) (with_plain b (template_parts bs)) o) (sym (ap placeholder e) ∙ none)

pub step_piece : (text : List ℕ) (at n : ℕ) (piece : TemplatePart) → at < length text → 0 < n → placeholder (drop at text) ≡ Some (piece, n) → template_parts (drop at text) ≡ piece ∷ template_parts (drop (at + n) text)
step_piece text at n piece h some found =
    let b = get_or text at 0 in
    let bs = drop (suc at) text in
    let e : drop at text ≡ b ∷ bs = drop-cons text at 0 h in
    let i : suc at + (n - 1) ≡ at + n = omega arith in
    ap template_parts e ∙ ap (λ o. over (λ f. f.0 ∷ template_parts_behind (f.1 - 1) bs) (with_plain b (template_parts bs)) o) (sym (ap placeholder e) ∙ found)
    ∙ ap (λ l. piece ∷ l) (behind_drop (n - 1) bs) ∙ ap (λ l. piece ∷ template_parts l) (drop-drop (n - 1) (suc at) text) ∙ ap (λ k. piece ∷ template_parts (drop k text)) i

run_push : (run : List ℕ) (b : ℕ) (ps : List TemplatePart) → with_run (run ++ b ∷ []) ps ≡ with_run run (with_plain b ps)
run_push [] b ps = refl
run_push (a ∷ run) b ps = ap (with_plain a) (run_push run b ps)

run_more : (text : List ℕ) (plain at : ℕ) → plain ≤ at → at < length text → take (at + 1 - plain) (drop plain text) ≡ take (at - plain) (drop plain text) ++ get_or text at 0 ∷ []
run_more text plain at h lt =
    let e : at + 1 - plain ≡ at - plain + 1 = omega arith in
    let i : plain + (at - plain) ≡ at = omega arith in
    ap (λ k. take k (drop plain text)) e ∙ take_more (drop plain text) (at - plain) 0 (omega (arith, length-drop plain text))
    ∙ ap (λ b. take (at - plain) (drop plain text) ++ b ∷ []) (get_or-drop plain text (at - plain) 0 ∙ ap (λ k. get_or text k 0) i)

-- a byte of plain text
pub next_plain : (whole pieces : List TemplatePart) (text : List ℕ) (plain at : ℕ) → plain ≤ at → at < length text → placeholder (drop at text) ≡ None
    → whole ≡ pieces ++ with_run (take (at - plain) (drop plain text)) (template_parts (drop at text)) → whole ≡ pieces ++ with_run (take (at + 1 - plain) (drop plain text)) (template_parts (drop (at + 1) text))
next_plain whole pieces text plain at h lt none is =
    let run = take (at - plain) (drop plain text) in
    let b = get_or text at 0 in
    is ∙ ap (λ ps. pieces ++ with_run run ps) (step_plain text at lt none)
    ∙ ap (λ ps. pieces ++ ps) (sym (run_push run b (template_parts (drop (suc at) text))))
    ∙ ap (λ r. pieces ++ with_run r (template_parts (drop (suc at) text))) (sym (run_more text plain at h lt))
    ∙ ap (λ k. pieces ++ with_run (take (at + 1 - plain) (drop plain text)) (template_parts (drop k text))) (sym (add-one at))

abbrev IsPlace : TemplatePart → Type 0
IsPlace (p.Plain run) = ⊥
IsPlace (p.Field way inner) = Unit {0}
IsPlace (p.Date parts inner) = Unit {0}

abbrev AreHeld : Option TemplatePart → Type 0
AreHeld None = Unit {0}
AreHeld (Some piece) = IsPlace piece

either_place : (a b : Option TemplatePart) → AreHeld a → AreHeld b → AreHeld (option_or a b)
either_place None b h k = k
either_place (Some x) b h k = h

field_place : (inner : List ℕ) → AreHeld (field_part_of inner)
field_place inner = elim (way_in inner) as (λ o. AreHeld (option_map (λ way. p.Field way inner) o)) [ None ↦ tt | Some way ↦ tt ]

date_place : (inner : List ℕ) → AreHeld (date_part_of inner)
date_place [] = tt
date_place (b ∷ bs) = elim (b == 43) as (λ t. AreHeld (if t then option_map (λ parts. p.Date parts (b ∷ bs)) (format_of bs) else None)) [
  | true ↦ elim (format_of bs) as (λ o. AreHeld (option_map (λ parts. p.Date parts (b ∷ bs)) o)) [ None ↦ tt | Some parts ↦ tt ]
  | false ↦ tt
]

piece_place : (inner : List ℕ) → AreHeld (template_part_of inner)
piece_place inner = either_place (date_part_of inner) (field_part_of inner) (date_place inner) (field_place inner)

abbrev IsHeld : Option (TemplatePart × ℕ) → Type 0
IsHeld None = Unit {0}
IsHeld (Some f) = IsPlace f.0

with_count : (n : ℕ) (o : Option TemplatePart) → AreHeld o → IsHeld (option_map (λ piece. (piece, n)) o)
with_count n None h = tt
with_count n (Some piece) h = h

placed_place : (o : Option (List ℕ)) → IsHeld (option_and_then placed o)
placed_place None = tt
placed_place (Some inner) = with_count (length inner + 3) (template_part_of inner) (piece_place inner)

found_place : (text : List ℕ) → IsHeld (placeholder text)
found_place text = elim (opens text) as (λ t. IsHeld (if t then option_and_then placed (before_close (drop 2 text)) else None)) [ true ↦ placed_place (before_close (drop 2 text)) | false ↦ tt ]

before_place : (b : ℕ) (piece : TemplatePart) (ps : List TemplatePart) → IsPlace piece → with_plain b (piece ∷ ps) ≡ p.Plain (b ∷ []) ∷ piece ∷ ps
before_place b (p.Plain run) ps h = absurd h
before_place b (p.Field way inner) ps h = refl
before_place b (p.Date parts inner) ps h = refl

run_place : (run : List ℕ) (piece : TemplatePart) (ps : List TemplatePart) → IsPlace piece → with_run run (piece ∷ ps) ≡ plain_parts run ++ piece ∷ ps
run_place [] piece ps h = refl
run_place (b ∷ []) piece ps h = before_place b piece ps h
run_place (b ∷ c ∷ run) piece ps h = ap (with_plain b) (run_place (c ∷ run) piece ps h)

run_end : (run : List ℕ) → with_run run [] ≡ plain_parts run
run_end [] = refl
run_end (b ∷ []) = refl
run_end (b ∷ c ∷ run) = ap (with_plain b) (run_end (c ∷ run))

nothing_between : (k : ℕ) (text : List ℕ) (ps : List TemplatePart) → ps ≡ with_run (take (k - k) text) ps
nothing_between k text ps = let e : k - k ≡ 0 = omega arith in sym (ap (λ n. with_run (take n text) ps) e)

-- a placeholder
pub next_place : (whole pieces added pushed : List TemplatePart) (text run : List ℕ) (plain at n : ℕ) (piece : TemplatePart) → at < length text → 0 < n → placeholder (drop at text) ≡ Some (piece, n) → run ≡ take (at - plain) (drop plain text) → added ≡ pieces ++ plain_parts run
    → pushed ≡ added ++ piece ∷ [] → whole ≡ pieces ++ with_run (take (at - plain) (drop plain text)) (template_parts (drop at text))
    → whole ≡ pushed ++ with_run (take (at + n - (at + n)) (drop (at + n) text)) (template_parts (drop (at + n) text))
next_place whole pieces added pushed text run plain at n piece lt some found e add push is =
    let rest = template_parts (drop (at + n) text) in
    let place : IsPlace piece = subst IsHeld found (found_place (drop at text)) in
    is ∙ ap (λ ps. pieces ++ with_run (take (at - plain) (drop plain text)) ps) (step_piece text at n piece lt some found)
    ∙ ap (λ r. pieces ++ with_run r (piece ∷ rest)) (sym e)
    ∙ ap (λ ps. pieces ++ ps) (run_place run piece rest place)
    ∙ sym (append_assoc pieces (plain_parts run) (piece ∷ rest))
    ∙ ap (λ ps. ps ++ piece ∷ rest) (sym add)
    ∙ sym (append_assoc added (piece ∷ []) rest)
    ∙ ap (λ ps. ps ++ rest) (sym push)
    ∙ ap (λ ps. pushed ++ ps) (nothing_between (at + n) (drop (at + n) text) rest)

-- the end of the text
pub last_plain : (whole pieces added : List TemplatePart) (text run : List ℕ) (plain at : ℕ) → plain ≤ at → at ≡ length text → run ≡ drop plain text → added ≡ pieces ++ plain_parts run
    → whole ≡ pieces ++ with_run (take (at - plain) (drop plain text)) (template_parts (drop at text)) → added ≡ whole
last_plain whole pieces added text run plain at h last e add is =
    let n : at - plain ≡ length (drop plain text) = omega (arith, length-drop plain text) in
    let ended : drop at text ≡ [] = ap (λ k. drop k text) last ∙ drop-length text in
    add ∙ ap (λ ps. pieces ++ ps) (sym (run_end run)) ∙ ap (λ r. pieces ++ with_run r []) (e ∙ sym (take-length (drop plain text)) ∙ ap (λ k. take k (drop plain text)) (sym n))
    ∙ ap (λ l. pieces ++ with_run (take (at - plain) (drop plain text)) (template_parts l)) (sym ended) ∙ sym is
