-- What stands before a run or a test, by what is asked for and what the text is.
use Rattle.std.proofs.Common.{◌≡◌, ◌⊎◌, inl, inr, ⊎_elim, ℕ, Bool, true, false, List, Result, Ok, Err, refl, ap, sym, ◌∙◌, subst}
use Rattle.std.proofs.lemmas.Bool.{false≢true}
use Rattle.config_tree.specs.declared.tree.Config.{Config}
use Rattle.config_parse.specs.declared.fault.ConfigFault.{ConfigFault}
use Rattle.config_parse.specs.declared.fault.ConfigFault.TheVariants as text_fault
use Rattle.graph_checks.specs.Answers.{Checked as GraphChecked, Refuses}
use Rattle.graph_checks.specs.Whole.{Given}
use Rattle.graph_checks.specs.declared.fault.GraphFault.{GraphFault}
use Rattle.graph_checks.specs.declared.fault.GraphFault.TheVariants as graph
use Rattle.logstash_top.specs.declared.start.Checked.{Checked}
use Rattle.logstash_top.specs.declared.start.Command.{Command}
use Rattle.logstash_top.specs.declared.status.Status.{Status}
use Rattle.logstash_top.specs.declared.status.Status.TheVariants.{Done, BadWords, WordsNotBuilt, BadConfig, Refused, NotBuilt, StoreFault, InputFault, OutputFault, Damaged, NoMemory, FilesFault, NumbersSpent, DeadLettersFull}
use Rattle.logstash_top.specs.Answers.{Asked, IsCauseOf, Orders, Starts, built_as, checked_as, checked_by}
use Rattle.logstash_top.specs.Built.{IsBuilt, is_built}
use Rattle.logstash_top.specs.Checks.{checked_all}
use Rattle.logstash_top.specs.Refused.{FailsBy, IsConfig, IsNotBuilt, IsRefusedFor, IsRun}
use Rattle.logstash_top.specs.Status.{status_of_fault, status_of_refusal}
use Rattle.logstash_top.proofs.Answering.{Parsed, not_refused, only_reason, reason}

abbrev pub Started : Type 0
Started = Result Checked Status

abbrev pub failed : Status → Started
failed status = Err status

abbrev pub asked_not : Status → Asked
asked_not status = Err status

abbrev pub asked_for : Command → Asked
asked_for command = Ok command

-- the status of a text's fault, but for want of memory
text_status : (pipeline text : List ℕ) (fault : ConfigFault) → IsRefusedFor text fault → status_of_fault pipeline fault ≡ BadConfig pipeline fault
text_status pipeline text text_fault.Long why = refl
text_status pipeline text (text_fault.Syntax at) why = refl
text_status pipeline text (text_fault.Deep at) why = refl
text_status pipeline text text_fault.Memory why = absurd why

-- a fault of the checks: what it says of them, and its status
pub record IsFault (fault : GraphFault) : Type 0 where
  pub told : (said : GraphChecked (Unit {0})) → Refuses fault said → said ≡ Err fault
  pub shown : (pipeline : List ℕ) → status_of_refusal pipeline fault ≡ Refused pipeline fault

-- each fault is one, but for want of memory
pub memory_or : (fault : GraphFault) → (fault ≡ graph.Memory) ⊎ IsFault fault
memory_or (graph.UnknownPlugin name) = inr (record { told = λ said is. is; shown = λ pipeline. refl })
memory_or (graph.Setting id f) = inr (record { told = λ said is. is; shown = λ pipeline. refl })
memory_or (graph.TwiceId id) = inr (record { told = λ said is. is; shown = λ pipeline. refl })
memory_or (graph.TwicePath path) = inr (record { told = λ said is. is; shown = λ pipeline. refl })
memory_or (graph.TwiceAddress address) = inr (record { told = λ said is. is; shown = λ pipeline. refl })
memory_or graph.TwiceStdin = inr (record { told = λ said is. is; shown = λ pipeline. refl })
memory_or (graph.PathLong path) = inr (record { told = λ said is. is; shown = λ pipeline. refl })
memory_or graph.NoInput = inr (record { told = λ said is. is; shown = λ pipeline. refl })
memory_or graph.NoOutput = inr (record { told = λ said is. is; shown = λ pipeline. refl })
memory_or (graph.NoSpare name wanted left) = inr (record { told = λ said is. is; shown = λ pipeline. refl })
memory_or graph.Memory = inl refl

module _ (given : ℕ → Given) where
  -- nothing is asked for
  refused_asked : (status refusal : Status) → IsCauseOf given (asked_not status) refusal → status ≡ refusal
  refused_asked status Done cause = absurd cause
  refused_asked status (BadWords fault) cause = cc
  refused_asked status WordsNotBuilt cause = cc
  refused_asked status (BadConfig pipeline fault) cause = let other = cause.is in absurd cc
  refused_asked status (Refused pipeline fault) cause = let other = cause.is in absurd cc
  refused_asked status (NotBuilt pipeline) cause = let other = cause.is in absurd cc
  refused_asked status (StoreFault pipeline) cause = absurd cause
  refused_asked status (InputFault pipeline input) cause = absurd cause
  refused_asked status (OutputFault output) cause = absurd cause
  refused_asked status (Damaged pipeline damage) cause = absurd cause
  refused_asked status NoMemory cause = cc
  refused_asked status (FilesFault path) cause = cc
  refused_asked status (NumbersSpent pipeline) cause = absurd cause
  refused_asked status (DeadLettersFull pipeline size added limit) cause = absurd cause

  pub starts_refused : (status : Status) → IsCauseOf given (asked_not status) status → Starts given (asked_not status) (Err status)
  starts_refused status cause = record {
    found = λ c is. absurd cc;
    cause = λ other is. let same : status ≡ other = cc in inr (subst (IsCauseOf given (asked_not status)) same cause);
    only = λ c (text, is, run). absurd cc;
    refused = λ refusal why. inl (ap failed (refused_asked status refusal why));
  }

  module _ (command : Command) where
    -- why the text that is asked for is refused, and with which status
    abbrev Why : Status → Type 0
    Why refusal =
        ((fault : ConfigFault) × (refusal ≡ BadConfig command.settings.pipeline_id fault) × IsRefusedFor command.text fault)
        ⊎ (((fault : GraphFault) × (refusal ≡ Refused command.settings.pipeline_id fault) × FailsBy (given command.settings.workers) command.settings.path_data command.text fault)
        ⊎ ((refusal ≡ NotBuilt command.settings.pipeline_id) × IsNotBuilt (given command.settings.workers) command.settings.path_data command.text))

    same_command : (other : Command) → asked_for command ≡ Ok other → other ≡ command
    same_command other is = cc

    why : (refusal : Status) → IsCauseOf given (asked_for command) refusal → Why refusal
    why Done cause = absurd cause
    why (BadWords fault) cause = absurd cc
    why WordsNotBuilt cause = absurd cc
    why (BadConfig pipeline fault) cause =
        let same = same_command cause.command cause.is in
        inl (fault, ap (λ p. BadConfig p fault) (cause.own ∙ ap (λ (c : Command). c.settings.pipeline_id) same), subst (λ (c : Command). IsRefusedFor c.text fault) same cause.said)
    why (Refused pipeline fault) cause =
        let same = same_command cause.command cause.is in
        inr (inl (fault, ap (λ p. Refused p fault) (cause.own ∙ ap (λ (c : Command). c.settings.pipeline_id) same), subst (λ (c : Command). FailsBy (given c.settings.workers) c.settings.path_data c.text fault) same cause.said))
    why (NotBuilt pipeline) cause =
        let same = same_command cause.command cause.is in
        inr (inr (ap NotBuilt (cause.own ∙ ap (λ (c : Command). c.settings.pipeline_id) same), subst (λ (c : Command). IsNotBuilt (given c.settings.workers) c.settings.path_data c.text) same cause.said))
    why (StoreFault pipeline) cause = absurd cause
    why (InputFault pipeline input) cause = absurd cause
    why (OutputFault output) cause = absurd cause
    why (Damaged pipeline damage) cause = absurd cause
    why NoMemory cause = absurd cc
    why (FilesFault path) cause = absurd cc
    why (NumbersSpent pipeline) cause = absurd cause
    why (DeadLettersFull pipeline size added limit) cause = absurd cause

    -- what a refusal becomes
    abbrev Stops : Started → Status → Type 0
    Stops result refusal = (result ≡ failed refusal) ⊎ (result ≡ failed NoMemory)

    -- the run that is asked for
    run_of : (c : Checked) → Orders given (asked_for command) c → (command.settings ≡ c.settings) × IsRun (given command.settings.workers) command.settings.path_data command.text c.config
    run_of c (text, is, run) =
        let same : command ≡ record { settings = c.settings; text = text } = cc in
        (ap (λ (x : Command). x.settings) same, subst (λ (x : Command). IsRun (given x.settings.workers) x.settings.path_data x.text c.config) (sym same) run)

    -- memory ran out
    pub starts_not : Starts given (asked_for command) (Err NoMemory)
    starts_not = record {
      found = λ c is. absurd cc;
      cause = λ status is. inl cc;
      only = λ c orders. inr refl;
      refused = λ refusal cause. inr refl;
    }

    -- the text is a configuration
    module _ (config : Config) (p : Parsed command.text (Ok config)) where
      same_config : (other : Config) → IsConfig command.text other → config ≡ other
      same_config other read = p.only other read.0 read.1

      abbrev said_of : GraphChecked (Unit {0})
      said_of = checked_all (given command.settings.workers) command.settings.path_data config

      abbrev the : Checked
      the = record { settings = command.settings; config = config }

      -- it passes its checks and is built
      starts_built : said_of ≡ Ok tt → IsBuilt config → Starts given (asked_for command) (Ok the)
      starts_built passes built = record {
        found = λ c is. let same : the ≡ c = cc in subst (Orders given (asked_for command)) same (command.text, refl, (p.found, passes, built));
        cause = λ status is. absurd cc;
        only = λ c orders.
            let run = run_of c orders in
            let same = same_config c.config run.1.0 in
            inl (λ i. Ok (record { settings = run.0 i; config = same i }));
        refused = λ refusal cause. by refusal (why refusal cause);
      }
        where
          by : (refusal : Status) → Why refusal → Stops (Ok the) refusal
          by refusal (inl (fault, e, h)) = absurd (not_refused command.text config p fault h)
          by refusal (inr (inl (fault, e, (other, read, fails)))) =
              let both = sym passes ∙ ap (checked_all (given command.settings.workers) command.settings.path_data) (same_config other read) ∙ fails in absurd cc
          by refusal (inr (inr (e, (other, read, passes, none)))) = absurd (none (subst IsBuilt (same_config other read) built))

      -- it passes them and isn't built
      starts_unbuilt : said_of ≡ Ok tt → (IsBuilt config → ⊥) → Starts given (asked_for command) (failed (NotBuilt command.settings.pipeline_id))
      starts_unbuilt passes none = record {
        found = λ c is. absurd cc;
        cause = λ status is.
            let same : NotBuilt command.settings.pipeline_id ≡ status = cc in
            inr (subst (IsCauseOf given (asked_for command)) same (record { command = command; is = refl; own = refl; said = (config, p.found, passes, none) }));
        only = λ c orders. let run = run_of c orders in absurd (none (subst IsBuilt (sym (same_config c.config run.1.0)) run.1.2));
        refused = λ refusal cause. by refusal (why refusal cause);
      }
        where
          by : (refusal : Status) → Why refusal → Stops (failed (NotBuilt command.settings.pipeline_id)) refusal
          by refusal (inl (fault, e, h)) = absurd (not_refused command.text config p fault h)
          by refusal (inr (inl (fault, e, (other, read, fails)))) =
              let both = sym passes ∙ ap (checked_all (given command.settings.workers) command.settings.path_data) (same_config other read) ∙ fails in absurd cc
          by refusal (inr (inr (e, (other, read, passes, none)))) = inl (ap failed (sym e))

      -- it fails a check
      abbrev of_refusal : GraphFault → Started
      of_refusal fault = failed (status_of_refusal command.settings.pipeline_id fault)

      starts_failed : (fault : GraphFault) → said_of ≡ Err fault → Starts given (asked_for command) (of_refusal fault)
      starts_failed fault fails = by (memory_or fault)
        where
          other_fails : (other : GraphFault) (c : Config) → IsConfig command.text c → checked_all (given command.settings.workers) command.settings.path_data c ≡ Err other → fault ≡ other
          other_fails other c read is = let both = sym fails ∙ ap (checked_all (given command.settings.workers) command.settings.path_data) (same_config c read) ∙ is in cc

          why_failed : IsFault fault → (refusal : Status) → Why refusal → Stops (failed (Refused command.settings.pipeline_id fault)) refusal
          why_failed f refusal (inl (other, e, h)) = absurd (not_refused command.text config p other h)
          why_failed f refusal (inr (inl (other, e, (c, read, is)))) = inl (ap failed (ap (Refused command.settings.pipeline_id) (other_fails other c read is) ∙ sym e))
          why_failed f refusal (inr (inr (e, (c, read, passes, none)))) =
              let both = sym fails ∙ ap (checked_all (given command.settings.workers) command.settings.path_data) (same_config c read) ∙ passes in absurd cc

          as_refused : IsFault fault → Starts given (asked_for command) (failed (Refused command.settings.pipeline_id fault))
          as_refused f = record {
            found = λ c is. absurd cc;
            cause = λ status is.
                let same : Refused command.settings.pipeline_id fault ≡ status = cc in
                inr (subst (IsCauseOf given (asked_for command)) same (record { command = command; is = refl; own = refl; said = (config, p.found, fails) }));
            only = λ c orders.
                let run = run_of c orders in
                let both = sym fails ∙ ap (checked_all (given command.settings.workers) command.settings.path_data) (same_config c.config run.1.0) ∙ run.1.1 in absurd cc;
            refused = λ refusal cause. why_failed f refusal (why refusal cause);
          }

          by : (fault ≡ graph.Memory) ⊎ IsFault fault → Starts given (asked_for command) (of_refusal fault)
          by (inl memory) = subst (Starts given (asked_for command)) (sym (ap of_refusal memory)) starts_not
          by (inr f) = subst (Starts given (asked_for command)) (sym (ap failed (f.shown command.settings.pipeline_id))) (as_refused f)

      starts_as_built : said_of ≡ Ok tt → (built : Bool) → is_built config ≡ built → Starts given (asked_for command) (built_as given command.settings config built)
      starts_as_built passes true is = starts_built passes is
      starts_as_built passes false is = starts_unbuilt passes (λ built. absurd (false≢true (sym is ∙ built)))

      starts_by : (said : GraphChecked (Unit {0})) → said_of ≡ said → Starts given (asked_for command) (checked_by given command.settings config said)
      starts_by (Ok u) is = starts_as_built is (is_built config) refl
      starts_by (Err fault) is = starts_failed fault is

    -- the text is none
    module _ (fault : ConfigFault) (p : Parsed command.text (Err fault)) where
      abbrev of_fault : ConfigFault → Started
      of_fault f = failed (status_of_fault command.settings.pipeline_id f)

      starts_fault : Starts given (asked_for command) (of_fault fault)
      starts_fault = record {
        found = λ c is. absurd cc;
        cause = λ status is.
            let same : status_of_fault command.settings.pipeline_id fault ≡ status = cc in
            subst (λ s. (s ≡ NoMemory) ⊎ IsCauseOf given (asked_for command) s) same
            (⊎_elim (λ memory. inl (ap (status_of_fault command.settings.pipeline_id) memory))
            (λ h. inr (subst (IsCauseOf given (asked_for command)) (sym (text_status command.settings.pipeline_id command.text fault h)) (record { command = command; is = refl; own = refl; said = h }))) (reason command.text fault p));
        only = λ c orders. let run = run_of c orders in inr (ap of_fault (p.only c.config run.1.0.0 run.1.0.1));
        refused = λ refusal cause. by refusal (why refusal cause);
      }
        where
          by : (refusal : Status) → Why refusal → Stops (of_fault fault) refusal
          by refusal (inl (other, e, h)) =
              ⊎_elim (λ memory. inr (ap of_fault memory)) (λ same. inl (ap of_fault same ∙ ap failed (text_status command.settings.pipeline_id command.text other h ∙ sym e))) (only_reason command.text fault p other h)
          by refusal (inr (inl (other, e, (config, read, fails)))) = inr (ap of_fault (p.only config read.0 read.1))
          by refusal (inr (inr (e, (config, read, passes, none)))) = inr (ap of_fault (p.only config read.0 read.1))

    -- the same by what calls answered
    module _ (text : List ℕ) (two : Result Config ConfigFault) (same : text ≡ command.text) (parsed : Parsed text two) where
      parsed_as : (answer : Result Config ConfigFault) → two ≡ answer → Parsed command.text answer
      parsed_as answer is = subst (Parsed command.text) is (subst (λ t. Parsed t two) same parsed)

      pub starts_read : (config : Config) (result : Started) → two ≡ Ok config → (result ≡ checked_as given command.settings config) ⊎ (result ≡ Err NoMemory) → Starts given (asked_for command) result
      starts_read config result is (inl e) = subst (Starts given (asked_for command)) (sym e) (starts_by config (parsed_as (Ok config) is) _ refl)
      starts_read config result is (inr e) = subst (Starts given (asked_for command)) (sym e) starts_not

      pub starts_not_read : (fault : ConfigFault) (status : Status) → two ≡ Err fault → status ≡ status_of_fault command.settings.pipeline_id fault → Starts given (asked_for command) (Err status)
      starts_not_read fault status is e = subst (Starts given (asked_for command)) (ap failed (sym e)) (starts_fault fault (parsed_as (Err fault) is))
