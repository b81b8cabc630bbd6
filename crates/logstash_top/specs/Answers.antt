-- When each status comes of the words and the text that they name, where these boxes are handed in.
use Rattle.std.specs.Prelude.{◌≡◌, ◌⊎◌, ℕ, List, Bool, if◌then◌else◌, Some, None, Result, Ok, Err}
use Rattle.config_tree.specs.declared.tree.Config.{Config}
use Rattle.graph_checks.specs.Answers.{Checked as GraphChecked}
use Rattle.graph_checks.specs.Whole.{Given}
use Rattle.io_traits.specs.declared.files.Files.{Ghosts as FilesWords}
use Rattle.logstash_settings.specs.Words.{answer_of}
use Rattle.settings_lines.specs.declared.settings.PipelineSettings.{PipelineSettings}
use Rattle.logstash_top.specs.declared.config_files.TextFault.{TextFault}
use Rattle.logstash_top.specs.declared.config_files.TextFault.TheVariants as text
use Rattle.logstash_top.specs.declared.start.Checked.{Checked}
use Rattle.logstash_top.specs.declared.start.Command.{Command}
use Rattle.logstash_top.specs.declared.status.Status.{Status}
use Rattle.logstash_top.specs.declared.status.Status.TheVariants.{Done, BadWords, WordsNotBuilt, BadConfig, Refused, NotBuilt, StoreFault, InputFault, OutputFault, Damaged, NoMemory, FilesFault, NumbersSpent, DeadLettersFull}
use Rattle.logstash_top.specs.Built.{is_built}
use Rattle.logstash_top.specs.Checks.{checked_all}
use Rattle.logstash_top.specs.Refused.{FailsBy, IsRun, IsNotBuilt, IsRefusedFor}
use Rattle.logstash_top.specs.Status.{IsRefused, status_of_refusal}
use Rattle.logstash_top.specs.Texts.{IsSourceText}
use Rattle.logstash_top.specs.Words.{settings_asked}

-- what is asked for: the text that is to be run with the settings of its pipeline, or why there is none
abbrev pub Asked : Type 0
Asked = Result Command Status

-- by the text of these settings' source
abbrev pub asked_of : PipelineSettings → Result (List ℕ) TextFault → Asked
asked_of settings (Ok found) = Ok (record { settings = settings; text = found })
asked_of settings (Err (text.NoFile path)) = Err (FilesFault (Some path))
asked_of settings (Err text.Failed) = Err (FilesFault None)
asked_of settings (Err text.Memory) = Err NoMemory

module _ {P : Type 0} (files : FilesWords P) where
  abbrev pub IsAskedBy : Result PipelineSettings Status → P → P → Asked → Type 0
  IsAskedBy (Ok settings) old new asked = (found : Result (List ℕ) TextFault) × IsSourceText files settings.source old new found × (asked ≡ asked_of settings found)
  IsAskedBy (Err status) old new asked = (asked ≡ Err status) × (new ≡ old)

  -- the words and the files ask for this, or memory ran out
  abbrev pub IsAsked : List (List ℕ) → P → P → Asked → Type 0
  IsAsked words old new asked = (asked ≡ Err NoMemory) ⊎ IsAskedBy (settings_asked (answer_of words)) old new asked

-- what boxes are handed in, for so many workers
module _ (given : ℕ → Given) where
  -- what is said of the text that is asked for, which is that of this pipeline
  pub record IsOf (asked : Asked) (says : Given → List ℕ → List ℕ → Type 0) (pipeline : List ℕ) : Type 0 where
    pub command : Command
    pub is : asked ≡ Ok command
    pub own : pipeline ≡ command.settings.pipeline_id
    pub said : says (given command.settings.workers) command.settings.path_data command.text

  -- when what is asked for is refused with this status
  abbrev pub IsCauseOf : Asked → Status → Type 0
  IsCauseOf asked Done = ⊥
  IsCauseOf asked (BadWords fault) = asked ≡ Err (BadWords fault)
  IsCauseOf asked WordsNotBuilt = asked ≡ Err WordsNotBuilt
  IsCauseOf asked (BadConfig pipeline fault) = IsOf asked (λ g folder text. IsRefusedFor text fault) pipeline
  IsCauseOf asked (Refused pipeline fault) = IsOf asked (λ g folder text. FailsBy g folder text fault) pipeline
  IsCauseOf asked (NotBuilt pipeline) = IsOf asked IsNotBuilt pipeline
  IsCauseOf asked (StoreFault pipeline) = ⊥
  IsCauseOf asked (InputFault pipeline input) = ⊥
  IsCauseOf asked (OutputFault output) = ⊥
  IsCauseOf asked (Damaged pipeline damage) = ⊥
  IsCauseOf asked NoMemory = asked ≡ Err NoMemory
  IsCauseOf asked (FilesFault path) = asked ≡ Err (FilesFault path)
  IsCauseOf asked (NumbersSpent pipeline) = ⊥
  IsCauseOf asked (DeadLettersFull pipeline size added limit) = ⊥

  -- a run of this configuration with these settings is asked for, and the program runs it
  abbrev pub Orders : Asked → Checked → Type 0
  Orders asked c = (text : List ℕ) × (asked ≡ Ok (record { settings = c.settings; text = text })) × IsRun (given c.settings.workers) c.settings.path_data text c.config

  -- the answers to what is asked for: a refusal comes where it has its cause, and only there; and where the text is one that the program
  -- runs, it ends in one of the ways in which it may
  pub record Answers (asked : Asked) (may : Checked → Status → Type 0) (status : Status) : Type 0 where
    pub refused : (refusal : Status) → IsCauseOf asked refusal → (status ≡ refusal) ⊎ (status ≡ NoMemory)
    pub cause : IsRefused status → IsCauseOf asked status
    pub runs : (c : Checked) → Orders asked c → may c status

  -- where the text is one that the program runs, the call is done, or memory ran out
  abbrev pub Completes : Asked → Status → Type 0
  Completes asked status = (c : Checked) → Orders asked c → (status ≡ Done) ⊎ (status ≡ NoMemory)

  -- the checked configuration of a text, and the status of one that isn't run
  abbrev pub built_as : PipelineSettings → Config → Bool → Result Checked Status
  built_as settings config built = if built then Ok (record { settings = settings; config = config }) else Err (NotBuilt settings.pipeline_id)

  abbrev pub checked_by : PipelineSettings → Config → GraphChecked (Unit {0}) → Result Checked Status
  checked_by settings config (Ok u) = built_as settings config (is_built config)
  checked_by settings config (Err fault) = Err (status_of_refusal settings.pipeline_id fault)

  abbrev pub checked_as : PipelineSettings → Config → Result Checked Status
  checked_as settings config = checked_by settings config (checked_all (given settings.workers) settings.path_data config)

  -- What stands before each run and test: a configuration that passes its checks and is built, or why there is none.
  pub record Starts (asked : Asked) (result : Result Checked Status) : Type 0 where
    pub found : (c : Checked) → result ≡ Ok c → Orders asked c
    pub cause : (status : Status) → result ≡ Err status → (status ≡ NoMemory) ⊎ IsCauseOf asked status
    pub only : (c : Checked) → Orders asked c → (result ≡ Ok c) ⊎ (result ≡ Err NoMemory)
    pub refused : (refusal : Status) → IsCauseOf asked refusal → (result ≡ Err refusal) ⊎ (result ≡ Err NoMemory)

  -- the same by the words and the files, of which this was asked
  module _ {P : Type 0} (files : FilesWords P) (words : List (List ℕ)) (old new : P) where
    pub record StartsBy (result : Result Checked Status) : Type 0 where
      pub asked : Asked
      pub is_asked : IsAsked files words old new asked
      pub starts : Starts asked result

    -- and the answers; a call that is refused makes no further call of the files
    pub record AnswersBy (may : Checked → Status → Type 0) (status : Status) : Type 0 where
      pub later : P
      pub asked : Asked
      pub is_asked : IsAsked files words old later asked
      pub answers : Answers asked may status
      pub untouched : IsRefused status → new ≡ later
