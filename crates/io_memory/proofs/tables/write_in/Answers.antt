use Rattle.std.proofs.Common.{Some, sym, ap, ◌∙◌}
use Rattle.io_memory.specs.Tables.{overwritten}
use Rattle.io_traits.specs.Images.{overlaid}
use Rattle.io_memory.proofs.Changes.{set_changed, set_same, on_err, made_at}
use Rattle.io_memory.proofs.tables.write_in.Goals as goal

pub returns-in_err-overlay-clause-err : goal.returns-in_err-overlay-clause-err
returns-in_err-overlay-clause-err c = on_err c.from_residual.result (set_same c.args.name.now c.args.files.now c.in-Some.file.now (sym c.in-Some.ensures.value))

pub returns-in-Some-clause-ok : goal.returns-in-Some-clause-ok
returns-in-Some-clause-ok c =
    set_changed c.args.name.now (overwritten c.args.at c.args.bytes.now) c.args.files.now c.in-Some.file.now c.from_vec.result (sym c.in-Some.ensures.value)
    (ap Some (sym (c.from_vec.ensures ∙ c.in_ok-overlay.ensures ∙ ap (overlaid c.args.at c.args.bytes.now) c.as_slice.ensures)))

pub returns-clause-ok : goal.returns-clause-ok
returns-clause-ok c =
    made_at c.args.name.now c.in_ok-of.field-0 (overwritten c.args.at c.args.bytes.now) c.args.files.now c.insert.new.self _ c.in_default.ensures.value c.in_ok-of.ensures c.in_ok-insert.ensures.ok
    (ap Some (sym (c.from_vec-file.ensures ∙ c.in_ok-overlay-2.ensures)))
