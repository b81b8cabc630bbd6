-- How a run ends that was begun, and one that wasn't.
use Rattle.std.proofs.Common.{◌≡◌, ⊎_elim, ℕ, List, Err, refl, subst}
use Rattle.config_tree.specs.declared.tree.Config.{Config}
use Rattle.graph_checks.specs.Whole.{Given}
use Rattle.io_traits.specs.declared.files.Files.{Ghosts as FilesWords}
use Rattle.settings_lines.specs.declared.settings.PipelineSettings.{PipelineSettings}
use Rattle.logstash_top.specs.declared.start.Checked.{Checked}
use Rattle.logstash_top.specs.declared.status.Status.{Status}
use Rattle.logstash_top.specs.declared.status.Status.TheVariants.{Done, BadWords, WordsNotBuilt, BadConfig, Refused, NotBuilt, StoreFault, InputFault, OutputFault, Damaged, NoMemory, FilesFault, NumbersSpent, DeadLettersFull}
use Rattle.logstash_top.specs.Answers.{Asked, IsCauseOf, StartsBy}
use Rattle.logstash_top.specs.Outcomes.{IsStoreFault, MayRun}
use Rattle.logstash_top.specs.Status.{IsRefused}

-- a run that was begun doesn't end in a refusal
pub run_last : (c : Checked) (status : Status) → MayRun c status → IsRefused status → ⊥
run_last c Done may is = absurd is
run_last c (BadWords fault) may is = absurd may
run_last c WordsNotBuilt may is = absurd may
run_last c (BadConfig pipeline fault) may is = absurd may
run_last c (Refused pipeline fault) may is = absurd may
run_last c (NotBuilt pipeline) may is = absurd may
run_last c (StoreFault pipeline) may is = absurd is
run_last c (InputFault pipeline input) may is = absurd is
run_last c (OutputFault output) may is = absurd is
run_last c (Damaged pipeline damage) may is = absurd is
run_last c NoMemory may is = absurd is
run_last c (FilesFault path) may is = absurd may
run_last c (NumbersSpent pipeline) may is = absurd is
run_last c (DeadLettersFull pipeline size added limit) may is = absurd is

-- and one that wasn't in no fault of the store
never_store : (given : ℕ → Given) (asked : Asked) (status : Status) → IsStoreFault status → IsCauseOf given asked status → ⊥
never_store given asked Done is cause = absurd is
never_store given asked (BadWords fault) is cause = absurd is
never_store given asked WordsNotBuilt is cause = absurd is
never_store given asked (BadConfig pipeline fault) is cause = absurd is
never_store given asked (Refused pipeline fault) is cause = absurd is
never_store given asked (NotBuilt pipeline) is cause = absurd is
never_store given asked (StoreFault pipeline) is cause = absurd cause
never_store given asked (InputFault pipeline input) is cause = absurd is
never_store given asked (OutputFault output) is cause = absurd is
never_store given asked (Damaged pipeline damage) is cause = absurd is
never_store given asked NoMemory is cause = absurd is
never_store given asked (FilesFault path) is cause = absurd is
never_store given asked (NumbersSpent pipeline) is cause = absurd is
never_store given asked (DeadLettersFull pipeline size added limit) is cause = absurd is

pub starts_calm : (given : ℕ → Given) {P : Type 0} (files : FilesWords P) (words : List (List ℕ)) (old new : P) (status : Status) → StartsBy given files words old new (Err status) → IsStoreFault status → ⊥
starts_calm given files words old new status s is = ⊎_elim (λ e. subst IsStoreFault e is) (λ cause. never_store given s.asked status is cause) (s.starts.cause status refl)

-- the same of a configuration by another name
pub may_as : (settings : PipelineSettings) (one other : Config) (status : Status) → one ≡ other → MayRun (record { settings = settings; config = one }) status → MayRun (record { settings = settings; config = other }) status
may_as settings one other status same may = subst (λ c. MayRun (record { settings = settings; config = c }) status) same may
