use Rattle.std.proofs.Common.{◌≡◌, ap₂, subst, rules}
use Rattle.std.specs.Prelude.{nat_le, not}
use Rattle.std.specs.List.{filter}
use Rattle.std.proofs.lemmas.Fn.{filter_same}
use Rattle.line_inputs.specs.Rows.{Noted, rows_above}
use Rattle.line_inputs.specs.contracts.watched_file.WatchedFile.{the_view}
use Rattle.line_inputs.specs.declared.watched_file.RowPlace.{RowPlace}
use Rattle.line_inputs.proofs.watched_file.WatchedFile.forget.Goals as goal

pub returns : goal.returns
returns c =
    let old : Noted = the_view c.self.inside in
    let kept : c.retain.new.self.items ≡ filter (λ (r : RowPlace). not (nat_le r.number c.args.front)) c.self.inside.rows.items = filter_same _ _ _ (λ x b f' k. search rules) _ _ c.retain.ensures.filtered in
    subst (λ (n : Noted). the_view (record c.self.inside { rows = c.retain.new.self }) ≡ record n { rows = rows_above c.args.front n.rows }) c.self.view_is
    (ap₂ (λ r k. record old { rows = r; capacity = k }) kept c.retain.ensures.capacity)
