use Rattle.std.proofs.Common.{◌≡◌, sym, ◌∙◌, ap}
use Rattle.io_traits.specs.Reads.{bytes_of}
use Rattle.slot_files.specs.Positions.{recorded_in}
use Rattle.slot_files.specs.declared.recorded.Recorded.TheVariants.{Nothing, Position}
use Rattle.in_file.specs.declared.faults.OpenFault.TheVariants as o
use Rattle.in_file.proofs.Beginning.{opened_so, damaged_so}
use Rattle.in_file.proofs.opening.opened.Goals as goal

pub returns-in-Ok-Nothing-clause-opened : goal.returns-in-Ok-Nothing-clause-opened
returns-in-Ok-Nothing-clause-opened g c =
    opened_so g.S.Store g.F.Files c.args.names.path c.args.names.slot c.args.plan c.args.store.now c.args.files.now Nothing c.begin.result tt
    (λ told. sym c.in-Ok-Nothing.field-0-is ∙ c.in-Ok-Nothing.ensures.recorded told ∙ ap (λ n. recorded_in (bytes_of (g.S.Store.seen c.args.store.now n))) c.as_str.ensures) c.begin.ensures.begun

pub returns-in-Ok-Position-clause-opened : goal.returns-in-Ok-Position-clause-opened
returns-in-Ok-Position-clause-opened g c =
    opened_so g.S.Store g.F.Files c.args.names.path c.args.names.slot c.args.plan c.args.store.now c.args.files.now (Position c.in-Ok-Position.turn c.in-Ok-Position.position) c.begin-in-Ok-Position.result tt
    (λ told. sym c.in-Ok-Position.field-0-is ∙ c.in-Ok-Position.ensures.recorded told ∙ ap (λ n. recorded_in (bytes_of (g.S.Store.seen c.args.store.now n))) c.as_str.ensures) c.begin-in-Ok-Position.ensures.begun

pub returns-in-Ok-Damaged-clause-damaged : goal.returns-in-Ok-Damaged-clause-damaged
returns-in-Ok-Damaged-clause-damaged g c = λ damage same told.
    let inner : c.damaged.result ≡ o.Damaged damage = cc in
    damaged_so c.args.names.slot (bytes_of (g.S.Store.seen c.args.store.now c.args.names.slot)) c.in-Ok-Damaged.found c.in-Ok-Damaged.expected c.damaged.result damage
    (c.damaged.ensures ∙ ap (λ s. o.Damaged (record { file = s; place = 0; found = c.in-Ok-Damaged.found; expected = c.in-Ok-Damaged.expected })) c.into_slot.ensures) inner
    (sym (ap (λ n. recorded_in (bytes_of (g.S.Store.seen c.args.store.now n))) c.as_str.ensures) ∙ sym (c.in-Ok-Damaged.ensures.recorded told) ∙ c.in-Ok-Damaged.field-0-is)
