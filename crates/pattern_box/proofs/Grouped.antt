-- The cells of a match that a search found give the spans of its groups, and what parts of a replacement stand for.
use Rattle.std.proofs.Common.{◌≡◌, ℕ, zero, suc, ◌+◌, ◌-◌, ◌*◌, ◌<◌, ◌≤◌, ◌==◌, None, false, true, List, [], ◌∷◌, ◌++◌, map, length, Option, Some, IsUtf8, vec_len, refl, sym, ap, ap₂, ne_eqb, if◌then◌else◌, ◌∙◌, arith}
use Rattle.std.proofs.lemmas.List.{get_or_past}
use Rattle.std.specs.Prelude.{slice_index}
use Rattle.std.specs.List.{range_with_len}
use Rattle.regex_hir.specs.Find.{Match, find_str}
use Rattle.regex_vm.specs.Found.{span, group_cells}
use Rattle.regex.specs.Search.{Shows, group_span}
use Rattle.regex.specs.Replace.{bytes_of}
use Rattle.regex.specs.Writes.{group_of}
use Rattle.regex.proofs.CapturesLemmas.{groups_in_text, group_span-zero}
use Rattle.pattern_box.specs.declared.matcher.Matcher.{Matcher}
use Rattle.pattern_box.specs.declared.replacement.ReplacementPart.{ReplacementPart}
use Rattle.pattern_box.specs.declared.replacement.ReplacementPart.TheVariants as p
use Rattle.pattern_box.specs.Matchers.{shown}
use Rattle.pattern_box.specs.Patterns.{pattern_re}
use Rattle.pattern_box.specs.Replacements.{part_bytes, parts_bytes, cells_part, cells_parts}
use Rattle.pattern_box.specs.Spans.{spans_of, spans_from_cells}
use Rattle.pattern_box.proofs.Room.{searcher_has_room}

same_from_one : {X : Type 0} (f g : ℕ → X) → ((n : ℕ) → 1 ≤ n → f n ≡ g n) → (a k : ℕ) → 1 ≤ a →
    map f (range_with_len a k) ≡ map g (range_with_len a k)
same_from_one f g same a zero low = refl
same_from_one f g same a (suc k) low = ap₂ ◌∷◌ (same a low) (same_from_one f g same (a + 1) k (omega arith))

module _ (box : Matcher) (text : List ℕ) (utf8 : IsUtf8 text) (m : Match) (start : ℕ) (found : find_str (pattern_re (shown box)) text start ≡ Some m)
    (whole : ℕ × ℕ) (cells : List ℕ) (spanned : whole ≡ span m) (held : cells ≡ group_cells m (vec_len box.cells))
    (width : vec_len box.cells ≡ length cells) where
  of_groups : (n : ℕ) → 1 ≤ n → group_span true text whole cells n ≡ group_of m n
  of_groups =
      let shows : Shows m whole cells = record { whole_is = spanned; cells_are = held ∙ ap (group_cells m) width } in
      let room = searcher_has_room box.searcher (length cells) (omega (arith, box.slots, box.width)) in
      groups_in_text (pattern_re (shown box)) text m whole cells shows room utf8 box.whole_characters start found

  of_whole : group_span true text whole cells 0 ≡ Some (span m)
  of_whole = group_span-zero true text whole cells ∙ ap Some spanned

  pub cells_give_spans : spans_from_cells box.groups text whole cells ≡ spans_of box.groups m
  cells_give_spans =
      let of : ℕ → Option (ℕ × ℕ) = group_span true text whole cells in
      let more : box.groups ≡ suc (box.groups - 1) = omega (arith, box.width) in
      ap (λ n. map of (range_with_len 0 n)) more
      ∙ ap₂ ◌∷◌ of_whole (same_from_one of (group_of m) of_groups 1 (box.groups - 1) (omega arith))

  cells_give_part : (part : ReplacementPart) → cells_part text whole cells part ≡ part_bytes text m part
  cells_give_part (p.Text s) = refl
  cells_give_part (p.Group zero) = ap (bytes_of text) of_whole
  cells_give_part (p.Group (suc n)) =
      ap (bytes_of text) (of_groups (suc n) (omega arith)
      ∙ sym (ap (λ b. if b then Some (span m) else group_of m (suc n)) (ne_eqb (suc n) 0 (omega arith))))

  pub cells_give_parts : (parts : List ReplacementPart) → cells_parts text whole cells parts ≡ parts_bytes text parts m
  cells_give_parts [] = refl
  cells_give_parts (part ∷ parts) = ap₂ ◌++◌ (cells_give_part part) (cells_give_parts parts)

-- a group that the cells have no room for spans nothing
pub no_group : (text : List ℕ) (whole : ℕ × ℕ) (cells : List ℕ) (n : ℕ) → 0 < n → length cells + 2 ≤ 2 * n → group_span true text whole cells n ≡ None
unfolding group_span
no_group text whole cells n some past =
    let first : slice_index cells (2 * n - 2) ≡ 0 = get_or_past cells (2 * n - 2) 0 (omega arith) in
    let counted : (n == 0) ≡ false = ne_eqb n 0 (omega arith) in
    rw (counted, first) refl
