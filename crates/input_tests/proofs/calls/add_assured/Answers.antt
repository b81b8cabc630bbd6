use Rattle.in_file.proofs.Staying.{has_room}
use Rattle.input_tests.proofs.calls.add_assured.Goals as goal

pub assure-requires : goal.assure-requires
assure-requires g c = has_room g.S.Store c.args.input.now c.args.store.now c.requires
