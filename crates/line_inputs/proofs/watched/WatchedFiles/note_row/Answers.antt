use Rattle.std.proofs.Common.{◌≡◌, List, slice_set, ap, sym, subst, ◌∙◌, arith}
use Rattle.line_inputs.specs.Rows.{Noted}
use Rattle.line_inputs.specs.Rows.{with_row as file_with_row}
use Rattle.line_inputs.specs.Watching.{Watching, with_row}
use Rattle.line_inputs.specs.Positions.{stored, stored_of}
use Rattle.line_inputs.proofs.Staying.{stored_set}
use Rattle.line_inputs.proofs.Together.{changed_at, changed_past}
use Rattle.line_inputs.proofs.watched.WatchedFiles.note_row.Goals as goal

pub returns-then-self-len-clause-with_row : goal.returns-then-self-len-clause-with_row
returns-then-self-len-clause-with_row c =
    let s = c.self.inside in
    let after : List Noted → Watching = λ files. record { files = files; at = s.at; given_at = s.given_at } in
    subst (λ (w : Watching). after (slice_set s.files.items s.given_at c.note_row.new.self) ≡ with_row c.args.number w) c.self.view_is
    (ap after (changed_at (file_with_row c.args.number) s.files.items s.given_at c.index_mut.result.now c.note_row.new.self c.index_mut.ensures.value c.note_row.ensures))

pub returns-else-self-len-clause-with_row : goal.returns-else-self-len-clause-with_row
returns-else-self-len-clause-with_row c =
    let s = c.self.inside in
    let after : List Noted → Watching = λ files. record { files = files; at = s.at; given_at = s.given_at } in
    subst (λ (w : Watching). w ≡ with_row c.args.number w) c.self.view_is
    (ap after (sym (changed_past (file_with_row c.args.number) s.files.items s.given_at (omega (arith, c.if-self-len.false, c.len.ensures, s.files.ok.0)))))

pub returns-then-self-len-clause-stored : goal.returns-then-self-len-clause-stored
returns-then-self-len-clause-stored c =
    let s = c.self.inside in
    stored_set s.files.items s.given_at c.index_mut.result.now c.note_row.new.self c.index_mut.ensures.value (ap (λ (n : Noted). stored_of n.watched) c.note_row.ensures) ∙ ap (λ (w : Watching). stored w.files) c.self.view_is
