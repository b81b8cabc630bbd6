use Rattle.std.proofs.Common.{rules, [], ◌∷◌, ◌++◌, sym, ap, ap₂, subst, ◌∙◌}
use Rattle.std.specs.List.{list_any}
use Rattle.std.specs.Str.{bytes_eq}
use Rattle.in_file.specs.Positions.{IsReady}
use Rattle.in_file.specs.Views.{Watched}
use Rattle.io_traits.specs.Reads.{bytes_of}
use Rattle.slot_files.specs.Positions.{recorded_in}
use Rattle.line_inputs.proofs.Opened.{by_file, one_ready}
use Rattle.line_inputs.proofs.opening.open_one.Goals as goal

pub returns-clause-ready : goal.returns-clause-ready
returns-clause-ready g c =
    let n = c.new.result in
    one_ready g.S.Store g.met.S.Store.images_tell c.args.store.now c.open_on.new.store c.open_on.ensures.any_moment c.open_on.ensures.reads c.args.opened.now.items n c.as_str-2.result.now c.requires.ready
    (subst (λ w. IsReady g.S.Store w c.open_on.new.store) (sym c.new.ensures.watched) c.in_ok-input.ensures.ready)
    (ap (λ (w : Watched). w.slot) (c.new.ensures.watched ∙ c.in_ok-input.ensures.opened.begun.is))
    (ap₂ (λ s l. list_any (bytes_eq s) l) (c.as_str-2.ensures ∙ sym c.as_str.ensures) (sym (c.as_slice.ensures ∙ c.requires.slots)) ∙ sym c.is_taken.ensures ∙ c.if-is_taken.false)
    c.push_reserved.new.self.items (c.push_reserved.ensures.items ∙ ap (λ l. l ++ n ∷ []) c.reserve.ensures.items)

pub returns-in_err-input-clause-damaged : goal.returns-in_err-input-clause-damaged
returns-in_err-input-clause-damaged g c = λ damage is told.
    by_file (λ slot. recorded_in (bytes_of (g.S.Store.seen c.args.store.now slot))) c.as_str-2.result.now damage
    (c.open_on.ensures.damaged damage (search (is, c.in_err-input.was, c.from_residual.ensures, rules)) told)
