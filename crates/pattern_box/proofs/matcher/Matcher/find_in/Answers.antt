use Rattle.std.proofs.Common.{◌≡◌, true, None, vec_len, option_map, IfSome, sym, ap, ◌∙◌, subst, arith, rules}
use Rattle.regex_hir.specs.Find.{find, find_str}
use Rattle.regex_vm.specs.Found.{span, group_cells}
use Rattle.regex_meta.proofs.LeftmostLemmas.{are_bytes}
use Rattle.regex_meta.proofs.ProgramLemmas.{none_of_option_map}
use Rattle.regex.proofs.SearchLemmas.{leftmost_past, leftmost_none}
use Rattle.pattern_box.specs.Matchers.{shown}
use Rattle.pattern_box.specs.Patterns.{pattern_re}
use Rattle.pattern_box.proofs.Searching.{was_found, match_within, match_here, match_inside, match_cuts}
use Rattle.pattern_box.proofs.matcher.Matcher.find_in.Goals as goal

pub returns-then-start-hay-clause-found : goal.returns-then-start-hay-clause-found
returns-then-start-hay-clause-found c =
    sym (ap (option_map span) (leftmost_past (pattern_re (shown c.args.self.now)) c.args.hay.now true _ c.if-start-hay.true))

pub returns-then-start-hay-clause-cells : goal.returns-then-start-hay-clause-cells
returns-then-start-hay-clause-cells c =
    rw (leftmost_past (pattern_re (shown c.args.self.now)) c.args.hay.now true _ c.if-start-hay.true) tt

pub returns-in_err-from-clause-found : goal.returns-in_err-from-clause-found
returns-in_err-from-clause-found c =
    let re = pattern_re (shown c.args.self.now) in
    let hay = c.args.hay.now in
    let at = c.loop-from.at in
    let inv = c.loop-from.invariant in
    let none = inv.2 ∙ leftmost_none re hay true at (none_of_option_map span _
    (sym (c.in_err-from.ensures.found ∙ ap (λ p. option_map span (find p hay at)) inv.3.0))) in
    let nothing : c.from_residual.result ≡ None = search rules in
    nothing ∙ sym (ap (option_map span) none)

pub returns-in_err-from-clause-cells : goal.returns-in_err-from-clause-cells
returns-in_err-from-clause-cells c =
    let re = pattern_re (shown c.args.self.now) in
    let hay = c.args.hay.now in
    let at = c.loop-from.at in
    let inv = c.loop-from.invariant in
    let none = inv.2 ∙ leftmost_none re hay true at (none_of_option_map span _
    (sym (c.in_err-from.ensures.found ∙ ap (λ p. option_map span (find p hay at)) inv.3.0))) in
    rw none tt

pub returns-then-begins_character-clause-found : goal.returns-then-begins_character-clause-found
returns-then-begins_character-clause-found c =
    let inv = c.loop-from.invariant in
    let cut = sym c.begins_character.ensures ∙ c.if-begins_character.true in
    was_found _ _ _ _ _ c.in_ok-from.ensures.found inv.3.0
    ∙ sym (ap (option_map span) (inv.2 ∙ match_here _ _ _ _ _ c.in_ok-from.ensures.found inv.3.0 cut))

pub returns-then-begins_character-clause-cells : goal.returns-then-begins_character-clause-cells
returns-then-begins_character-clause-cells c =
    let re = pattern_re (shown c.args.self.now) in
    let hay = c.args.hay.now in
    let inv = c.loop-from.invariant in
    let cut = sym c.begins_character.ensures ∙ c.if-begins_character.true in
    let same = ap (λ p. find p hay c.loop-from.at) inv.3.0 ∙ sym (inv.2 ∙ match_here _ _ _ _ _ c.in_ok-from.ensures.found inv.3.0 cut) in
    let width : vec_len c.loop-from.self.cells ≡ vec_len c.args.self.now.cells =
    omega (arith, c.loop-from.self.width, c.args.self.now.width, inv.3.1) in
    subst (λ n. IfSome (find_str re hay c.args.start) (λ m. c.find_in_bytes.new.self.cells.items ≡ group_cells m n)) width
    (subst (λ o. IfSome o (λ m. c.find_in_bytes.new.self.cells.items ≡ group_cells m (vec_len c.loop-from.self.cells))) same
    c.in_ok-from.ensures.cells)

pub returns-then-begins_character-clause-within : goal.returns-then-begins_character-clause-within
returns-then-begins_character-clause-within c =
    let within = match_within _ _ _ _ _ c.in_ok-from.ensures.found c.loop-from.invariant.3.0 in
    (omega (arith, within.0, c.loop-from.invariant.1), within.1, within.2)

pub returns-then-begins_character-clause-cuts : goal.returns-then-begins_character-clause-cuts
returns-then-begins_character-clause-cuts c =
    match_cuts _ _ _ _ _ c.in_ok-from.ensures.found c.loop-from.invariant.3.0 (are_bytes c.args.hay.now c.type_inv.hay) c.args.self.now.whole_characters c.requires
    (sym c.begins_character.ensures ∙ c.if-begins_character.true)

pub overflow_add-at : goal.overflow_add-at
overflow_add-at c =
    let inside = match_inside _ _ _ _ _ c.in_ok-from.ensures.found c.loop-from.invariant.3.0 (sym c.begins_character.ensures ∙ c.if-begins_character.false) in
    omega (arith, inside.0)

pub loop-from-smaller : goal.loop-from-smaller
loop-from-smaller c =
    let within = match_within _ _ _ _ _ c.in_ok-from.ensures.found c.loop-from.invariant.3.0 in
    let inside = match_inside _ _ _ _ _ c.in_ok-from.ensures.found c.loop-from.invariant.3.0 (sym c.begins_character.ensures ∙ c.if-begins_character.false) in
    omega (arith, inside.0, within.0)

pub loop-from-preserved : goal.loop-from-preserved
loop-from-preserved c =
    let inv = c.loop-from.invariant in
    let within = match_within _ _ _ _ _ c.in_ok-from.ensures.found inv.3.0 in
    let inside = match_inside _ _ _ _ _ c.in_ok-from.ensures.found inv.3.0 (sym c.begins_character.ensures ∙ c.if-begins_character.false) in
    let same = c.in_ok-from.ensures.same in (
      omega (arith, inside.0),
      omega (arith, within.0, inv.1),
      inv.2 ∙ inside.1,
      (same.0 ∙ inv.3.0, same.1 ∙ inv.3.1),
    )
