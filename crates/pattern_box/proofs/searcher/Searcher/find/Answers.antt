use Rattle.std.proofs.Common.{◌≡◌, ◌∙◌, ap, subst, length, option_map, IfSome}
use Rattle.regex_vm.specs.Found.{span, group_cells}
use Rattle.pattern_box.proofs.Found.{first_match_is_find}
use Rattle.pattern_box.proofs.searcher.Searcher.find.Goals as goal

pub returns-in-Done-clause-found : goal.returns-in-Done-clause-found
returns-in-Done-clause-found c =
    let same = first_match_is_find c.args.self.now c.args.hay.now c.args.start in
    (rw c.in-Done.is at c.in-Ok.ensures.near).0 ∙ ap (option_map span) same

pub returns-in-Done-clause-cells : goal.returns-in-Done-clause-cells
returns-in-Done-clause-cells c =
    let same = first_match_is_find c.args.self.now c.args.hay.now c.args.start in
    subst (λ o. IfSome o (λ m. c.find_near.new.groups ≡ group_cells m (length c.args.cells.now))) same (rw c.in-Done.is at c.in-Ok.ensures.near).1

pub returns-in-Err-clause-found : goal.returns-in-Err-clause-found
returns-in-Err-clause-found c =
    let same = first_match_is_find c.args.self.now c.args.hay.now c.args.start in
    c.step_by_step-in-Err.ensures.found ∙ ap (option_map span) same

pub returns-in-Err-clause-cells : goal.returns-in-Err-clause-cells
returns-in-Err-clause-cells c =
    let same = first_match_is_find c.args.self.now c.args.hay.now c.args.start in
    subst (λ o. IfSome o (λ m. c.step_by_step-in-Err.new.cells ≡ group_cells m (length c.args.cells.now))) same
    (rw c.find_near.auto.groups at c.step_by_step-in-Err.ensures.cells)
