-- What a run or a test leaves, by its status.
use Rattle.std.specs.Prelude.{◌≡◌, ◌⊎◌, ◌+◌, ℕ, List, [], ◌∷◌, codes, Contains, None}
use Rattle.config_tree.specs.declared.tree.Plugin.{Plugin}
use Rattle.event_flow.specs.Ids.{plugin_id}
use Rattle.io_traits.specs.Counts.{HasCauseUnless, Rose}
use Rattle.io_traits.specs.declared.files.Files.{Ghosts as FilesWords}
use Rattle.io_traits.specs.declared.stores.Store.{Ghosts as StoreWords}
use Rattle.io_traits.specs.declared.sinks.Sink.{Ghosts as SinkWords}
use Rattle.logstash_top.specs.declared.start.Checked.{Checked}
use Rattle.logstash_top.specs.declared.status.Status.{Status}
use Rattle.logstash_top.specs.declared.status.Status.TheVariants.{Done, BadWords, WordsNotBuilt, BadConfig, Refused, NotBuilt, StoreFault, InputFault, OutputFault, Damaged, NoMemory, FilesFault, NumbersSpent, DeadLettersFull}
use Rattle.logstash_top.specs.declared.world.World.{World}
use Rattle.logstash_top.specs.Sinks.{AllFlushed, Took}
use Rattle.logstash_top.specs.Status.{test_output_fault}

-- what a test that is done writes to stdout
abbrev pub confirmation : List ℕ
confirmation = codes "Configuration OK\n"

-- how a test may end
abbrev pub MayTest : Checked → Status → Type 0
MayTest c status = (status ≡ Done) ⊎ ((status ≡ test_output_fault) ⊎ (status ≡ NoMemory))

-- the ids of inputs that a text counts from k on
abbrev pub ids_from : ℕ → List Plugin → List (List ℕ)
ids_from k [] = []
ids_from k (p ∷ ps) = plugin_id (codes "input") k p ∷ ids_from (k + 1) ps

module _ {S P I L O K : Type 0} where
  -- nothing of the outside was touched but the files and stderr
  pub record IsUntouched (old new : World S P I L O K) : Type 0 where
    pub store : new.store ≡ old.store
    pub stdin : new.stdin ≡ old.stdin
    pub links : new.links ≡ old.links
    pub stdout : new.stdout ≡ old.stdout
    pub clock : new.clock ≡ old.clock

module _ {O : Type 0} (sink : SinkWords O) where
  -- an output fault of a test comes where the count of stdout's faults rose, and at no other status but want of memory did it rise
  abbrev pub TestFaultHasCause : O → O → Status → Type 0
  TestFaultHasCause old new status = HasCauseUnless (sink.faults old) (sink.faults new) (status ≡ NoMemory) (status ≡ test_output_fault)

  -- a test that is done left this line there, flushed
  abbrev pub Confirmed : O → O → Type 0
  Confirmed old new = Took sink old new confirmation × AllFlushed sink new

-- a call of the store failed
abbrev pub IsStoreFault : Status → Type 0
IsStoreFault Done = ⊥
IsStoreFault (BadWords fault) = ⊥
IsStoreFault WordsNotBuilt = ⊥
IsStoreFault (BadConfig pipeline fault) = ⊥
IsStoreFault (Refused pipeline fault) = ⊥
IsStoreFault (NotBuilt pipeline) = ⊥
IsStoreFault (StoreFault pipeline) = Unit {0}
IsStoreFault (InputFault pipeline input) = ⊥
IsStoreFault (OutputFault output) = ⊥
IsStoreFault (Damaged pipeline damage) = ⊥
IsStoreFault NoMemory = ⊥
IsStoreFault (FilesFault path) = ⊥
IsStoreFault (NumbersSpent pipeline) = ⊥
IsStoreFault (DeadLettersFull pipeline size added limit) = ⊥

module _ {S P I L O K : Type 0} where
  -- a store fault comes only where the count of the store's faults rose
  abbrev pub StoreFaultHasCause : StoreWords S → World S P I L O K → World S P I L O K → Status → Type 0
  StoreFaultHasCause store old new status = IsStoreFault status → Rose (store.faults old.store) (store.faults new.store)

  -- a fault of files without a path comes only where the count of their faults rose
  abbrev pub FilesFaultHasCause : FilesWords P → World S P I L O K → World S P I L O K → Status → Type 0
  FilesFaultHasCause files old new status = status ≡ FilesFault None → Rose (files.faults old.files) (files.faults new.files)

-- a run of this configuration as this pipeline may end so; an input fault names one of its inputs
abbrev pub MayRun : Checked → Status → Type 0
MayRun c Done = Unit {0}
MayRun c (BadWords fault) = ⊥
MayRun c WordsNotBuilt = ⊥
MayRun c (BadConfig pipeline fault) = ⊥
MayRun c (Refused pipeline fault) = ⊥
MayRun c (NotBuilt pipeline) = ⊥
MayRun c (StoreFault pipeline) = pipeline ≡ c.settings.pipeline_id
MayRun c (InputFault pipeline input) = (pipeline ≡ c.settings.pipeline_id) × Contains (ids_from 1 c.config.inputs) input
MayRun c (OutputFault output) = Unit {0}
MayRun c (Damaged pipeline damage) = pipeline ≡ c.settings.pipeline_id
MayRun c NoMemory = Unit {0}
MayRun c (FilesFault path) = ⊥
MayRun c (NumbersSpent pipeline) = pipeline ≡ c.settings.pipeline_id
MayRun c (DeadLettersFull pipeline size added limit) = pipeline ≡ c.settings.pipeline_id
