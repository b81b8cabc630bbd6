use Rattle.std.proofs.Common.{◌∙◌, sym, ap, Some}
use Rattle.csv.specs.Reading.{strip_bom}
use Rattle.filters_text.proofs.Rowing.{behind, refused, others, alone}
use Rattle.filters_text.proofs.csv_row.only_row.Goals as goal

pub returns-in-NoText : goal.returns-in-NoText
returns-in-NoText c separator quote text stands config state =
    let says = c.in_ok-read_next.ensures (strip_bom text) stands in
    sym (refused _ separator quote text _ _ _ _ config state c.in-NoText.is says)

pub returns-in-End : goal.returns-in-End
returns-in-End c separator quote text stands config state =
    let says = rw c.in-Row.is at c.in_ok-read_next.ensures (strip_bom text) stands in
    let (p, is, found) = behind _ _ _ _ _ says in
    let then_says = c.in_ok-read_next-2.ensures p.2 found.stands in
    ap Some c.in_ok-fields-in-End.ensures ∙ sym (alone _ separator quote text _ _ _ _ _ p _ config state is found then_says c.in-End.is)

pub returns : goal.returns
returns c separator quote text stands config state =
    let says = rw c.in-Row.is at c.in_ok-read_next.ensures (strip_bom text) stands in
    let (p, is, found) = behind _ _ _ _ _ says in
    let then_says = c.in_ok-read_next-2.ensures p.2 found.stands in
    sym (others _ separator quote text _ _ _ _ _ p _ config state is found then_says c.in-Row-2.is)
