use Rattle.std.proofs.Common.{◌∙◌, take, option_map, is_ok}
use Rattle.io_traits.specs.Images.{CutFile}
use Rattle.store_memory.specs.Keeping.{reads_of}
use Rattle.store_memory.specs.declared.calls.StoreCall.TheVariants.{Cut}
use Rattle.store_memory.proofs.Stepping.{at_name, at_other, on_did, did_read, changes_one}
use Rattle.io_traits.proofs.Tearing.{cut_none}
use Rattle.store_memory.proofs.stores.MemoryStoreStore.cut.Goals as goal

pub returns-clause-cut : goal.returns-clause-cut
returns-clause-cut c =
    on_did c.args.self.now c.cut.new.self (Cut c.args.name.now c.args.length) c.cut.result
    (λ did told. did_read c.args.self.now c.cut.new.self (Cut c.args.name.now c.args.length) did c.args.name.now ∙ at_name c.args.name.now (option_map (take c.args.length) (reads_of c.args.self.now c.args.name.now)) (reads_of c.args.self.now c.args.name.now)) c.cut.ensures.state

pub returns-clause-change : goal.returns-clause-change
returns-clause-change c =
    changes_one c.args.self.now c.cut.new.self (Cut c.args.name.now c.args.length) (is_ok c.cut.result) c.args.name.now (CutFile c.args.length)
    (λ n f differ. at_other c.args.name.now n _ f differ) (cut_none c.args.length) (λ i left. left) c.cut.ensures.state
