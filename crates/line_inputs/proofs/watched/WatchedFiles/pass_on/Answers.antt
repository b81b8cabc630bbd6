use Rattle.std.proofs.Common.{◌≡◌, List, slice_set, ap, sym, subst, ◌∙◌, arith}
use Rattle.line_inputs.specs.Rows.{Noted, handed_on}
use Rattle.line_inputs.specs.Watching.{Watching, passed_on}
use Rattle.line_inputs.specs.Positions.{stored, stored_of}
use Rattle.line_inputs.proofs.Staying.{stored_set}
use Rattle.line_inputs.proofs.Together.{changed_at, changed_past}
use Rattle.line_inputs.proofs.watched.WatchedFiles.pass_on.Goals as goal

pub returns-then-self-len-clause-passed_on : goal.returns-then-self-len-clause-passed_on
returns-then-self-len-clause-passed_on c =
    let s = c.self.inside in
    let after : List Noted → Watching = λ files. record { files = files; at = s.at; given_at = s.at } in
    subst (λ (w : Watching). after (slice_set s.files.items s.at c.pass_on.new.self) ≡ passed_on w) c.self.view_is
    (ap after (changed_at handed_on s.files.items s.at c.index_mut.result.now c.pass_on.new.self c.index_mut.ensures.value c.pass_on.ensures))

pub returns-else-self-len-clause-passed_on : goal.returns-else-self-len-clause-passed_on
returns-else-self-len-clause-passed_on c =
    let s = c.self.inside in
    let after : List Noted → Watching = λ files. record { files = files; at = s.at; given_at = s.at } in
    subst (λ (w : Watching). after s.files.items ≡ passed_on w) c.self.view_is
    (ap after (sym (changed_past handed_on s.files.items s.at (omega (arith, c.if-self-len.false, c.len.ensures, s.files.ok.0)))))

pub returns-then-self-len-clause-stored : goal.returns-then-self-len-clause-stored
returns-then-self-len-clause-stored c =
    let s = c.self.inside in
    stored_set s.files.items s.at c.index_mut.result.now c.pass_on.new.self c.index_mut.ensures.value (ap (λ (n : Noted). stored_of n.watched) c.pass_on.ensures) ∙ ap (λ (w : Watching). stored w.files) c.self.view_is

pub returns-else-self-len-clause-stored : goal.returns-else-self-len-clause-stored
returns-else-self-len-clause-stored c = ap (λ (w : Watching). stored w.files) c.self.view_is
