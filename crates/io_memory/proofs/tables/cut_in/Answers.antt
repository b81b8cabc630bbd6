use Rattle.std.proofs.Common.{Some, sym, ap, ◌∙◌, take, option_map}
use Rattle.io_memory.proofs.Changes.{set_changed, missing_changed}
use Rattle.io_memory.proofs.tables.cut_in.Goals as goal

pub returns-in-Some : goal.returns-in-Some
returns-in-Some c =
    set_changed c.args.name.now (option_map (take c.args.length)) c.args.files.now c.in-Some.file.now c.truncate.new.self (sym c.in-Some.ensures.value) (ap Some (sym c.truncate.ensures))

pub returns-in_default : goal.returns-in_default
returns-in_default c = missing_changed c.args.name.now (option_map (take c.args.length)) c.args.files.now (ap (option_map (take c.args.length)) (sym c.in_default.ensures.value) ∙ c.in_default.ensures.value)
