use Rattle.std.proofs.Common.{◌≡◌, Some, length, vec_len, option_map, sym, ap, ◌∙◌, arith}
use Rattle.regex_hir.specs.Find.{find_str}
use Rattle.regex_vm.specs.Found.{span, group_cells}
use Rattle.regex_meta.proofs.ProgramLemmas.{value_of_option_map}
use Rattle.regex_extract.proofs.NeedlesLemmas.{at_some}
use Rattle.pattern_box.specs.Matchers.{shown}
use Rattle.pattern_box.specs.Patterns.{pattern_re}
use Rattle.pattern_box.specs.Spans.{spans_of, spans_from_cells}
use Rattle.pattern_box.proofs.Grouped.{cells_give_spans}
use Rattle.pattern_box.proofs.matcher.Matcher.spans.Goals as goal

pub returns-in_ok-spans_of_match-in-Some-clause-found : goal.returns-in_ok-spans_of_match-in-Some-clause-found
returns-in_ok-spans_of_match-in-Some-clause-found c =
    let p = c.args.self.now in
    let text = c.args.text.now in
    let whole = c.in-Some.whole in
    let now = c.find.new.self in
    let step = c.in-Some.ensures in
    let v = value_of_option_map span (find_str (pattern_re (shown p)) text 0) whole (sym step.found) in
    let held = at_some (λ m. now.cells.items ≡ group_cells m (vec_len p.cells)) _ v.0 v.1 step.cells in
    let width : vec_len p.cells ≡ length now.cells.items = omega (arith, p.width, now.width, step.same.1, now.cells.ok.0) in
    ap Some (c.in_ok-spans_of_match-in-Some.ensures.value ∙ ap (λ n. spans_from_cells n text whole now.cells.items) step.same.1
    ∙ cells_give_spans p text c.utf8.text v.0 0 v.1 whole now.cells.items (sym v.2) held width)
    ∙ sym (ap (option_map (spans_of p.groups)) v.1)
