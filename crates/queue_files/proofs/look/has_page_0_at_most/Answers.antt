use Rattle.std.proofs.Common.{rules, ◌≡◌, ◌==◌, true, false, length, sym, ◌∙◌, ap}
use Rattle.std.proofs.lemmas.Bool.{false≢true, eqb-true}
use Rattle.std.specs.List.{list_all}
use Rattle.queue_files.proofs.BareFolders.{is_not_bare, is_bare_so}
use Rattle.queue_files.proofs.look.has_page_0_at_most.Goals as goal

pub returns-then-not-is_empty : goal.returns-then-not-is_empty
returns-then-not-is_empty c folder listed =
    let full : c.is_empty.result ≡ false = search rules in
    sym (is_not_bare folder c.args.listing.now listed (λ none. false≢true (sym full ∙ c.is_empty.ensures ∙ ap (λ n. n == 0) (ap length c.as_slice-checkpoints.ensures.value ∙ none))))

pub returns : goal.returns
returns c folder listed =
    let empty : c.is_empty.result ≡ true = search rules in
    let none : length c.as_slice-checkpoints.result.now ≡ 0 = eqb-true (length c.as_slice-checkpoints.result.now) 0 (sym c.is_empty.ensures ∙ empty) in
    c.are_zero.ensures ∙ ap (list_all (λ n. n == 0)) c.as_slice.ensures.value ∙ sym (is_bare_so folder c.args.listing.now listed (ap length (sym c.as_slice-checkpoints.ensures.value) ∙ none))
