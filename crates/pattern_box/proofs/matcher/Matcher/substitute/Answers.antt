use Rattle.std.proofs.Common.{◌≡◌, ℕ, ◌+◌, ◌++◌, List, None, Some, vec_len, option_map, string_bytes, slice_range, refl, sym, ap, ap₂, ◌∙◌, arith, append_assoc, true}
use Rattle.std.proofs.lemmas.Str.{IsCharBoundary-start}
use Rattle.regex_vm.specs.Found.{span, group_cells}
use Rattle.regex_hir.specs.Find.{Match, find_str}
use Rattle.regex_meta.proofs.ProgramLemmas.{value_of_option_map}
use Rattle.regex_extract.proofs.NeedlesLemmas.{at_some}
use Rattle.regex.specs.Search.{next_match}
use Rattle.regex.specs.Replace.{replaced_by}
use Rattle.regex.proofs.CapturesLemmas.{next_is_leftmost}
use Rattle.regex.proofs.SearchLemmas.{matches_after_text}
use Rattle.pattern_box.specs.Matchers.{shown}
use Rattle.pattern_box.specs.Patterns.{pattern_re}
use Rattle.pattern_box.specs.Replacements.{parts_bytes}
use Rattle.pattern_box.proofs.Grouped.{cells_give_parts}
use Rattle.pattern_box.proofs.Replaced.{replaced_from, replaced_next, replaced_end}
use Rattle.pattern_box.proofs.matcher.Matcher.substitute.Goals as goal

pub matches-init : goal.matches-init
matches-init c = (
  omega arith,
  omega arith,
  rw c.in_ok-replaced.ensures.bytes refl,
  IsCharBoundary-start c.args.text.now c.utf8.text,
  (refl, refl),
)

pub matches-preserved : goal.matches-preserved
matches-preserved c =
    let p = c.args.self.now in
    let re = pattern_re (shown p) in
    let text = c.args.text.now in
    let parts = c.args.parts.now in
    let written : Match → List ℕ = parts_bytes text parts in
    let l = c.matches in
    let inv = l.invariant in
    let step = c.in-Some.ensures in
    let now = c.next.new.self in
    let s : ℕ × ℕ = (c.in-Some.start, c.in-Some.end) in
    let v = value_of_option_map span (next_match true (pattern_re (shown l.self)) text l.after) s (sym step.found) in
    let m = v.0 in
    let found : next_match true re text l.after ≡ Some m = sym (ap (λ p. next_match true p text l.after) inv.4.0) ∙ v.1 in
    let held = at_some (λ m. now.cells.items ≡ group_cells m (vec_len l.self.cells)) _ m v.1 step.cells in
    let width : vec_len now.cells ≡ vec_len l.self.cells = omega (arith, now.width, l.self.width, step.same.1) in
    let first = next_is_leftmost true (pattern_re (shown l.self)) text l.after m v.1 in
    let given = cells_give_parts now text c.utf8.text m first.0 (ap (λ p. find_str p text first.0) step.same.0 ∙ first.1) s now.cells.items
    (sym v.2) (held ∙ ap (group_cells m) (sym width)) (omega (arith, now.cells.ok.0)) parts in
    let kept : c.range.result.now ≡ slice_range text l.last s.0 = c.range.ensures.value in
    let out : string_bytes c.add_parts.new.to ≡ string_bytes l.replaced ++ (slice_range text l.last s.0 ++ written m) =
    c.in_ok-add_parts.ensures
    ∙ ap₂ ◌++◌ (c.in_ok-push_str.ensures.bytes ∙ ap (λ x. string_bytes l.replaced ++ x) kept) given
    ∙ append_assoc (string_bytes l.replaced) (slice_range text l.last s.0) (written m) in (
      omega arith,
      omega (arith, step.within),
      ap (λ x. x ++ replaced_from re text written s.1 (s.1 + 1)) out
          ∙ append_assoc (string_bytes l.replaced) (slice_range text l.last s.0 ++ written m) (replaced_from re text written s.1 (s.1 + 1))
          ∙ ap (λ (x : ℕ × ℕ). string_bytes l.replaced ++ ((slice_range text l.last x.0 ++ written m) ++ replaced_from re text written x.1 (x.1 + 1))) (sym v.2)
          ∙ ap (λ x. string_bytes l.replaced ++ x) (sym (replaced_next re text written l.last l.after m found)) ∙ inv.2,
      step.cuts.1,
      (step.same.0 ∙ inv.4.0, step.same.1 ∙ inv.4.1),
    )

pub returns-clause-value : goal.returns-clause-value
returns-clause-value c =
    let re = pattern_re (shown c.args.self.now) in
    let text = c.args.text.now in
    let written : Match → List ℕ = parts_bytes text c.args.parts.now in
    let l = c.matches in
    let inv = l.invariant in
    let none : None ≡ option_map span (next_match true re text l.after) =
    c.in_default.ensures.found ∙ ap (λ p. option_map span (next_match true p text l.after)) inv.4.0 in
    let tail = c.in_ok-push_str-2.ensures.bytes ∙ ap (λ x. string_bytes l.replaced ++ x)
    (c.range_from.ensures.value ∙ sym (replaced_end re text written l.last l.after none)) in
    c.from_string.ensures ∙ tail ∙ inv.2 ∙ ap (replaced_by written text 0) (matches_after_text re text)
