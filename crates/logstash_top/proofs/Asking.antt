-- What words and files ask for.
use Rattle.std.proofs.Common.{◌≡◌, ◌⊎◌, inl, inr, ⊎_elim, ℕ, Bool, true, false, List, if◌then◌else◌, Some, None, Result, Ok, Err, refl, sym, ap, ◌∙◌, subst}
use Rattle.graph_checks.specs.Whole.{Given}
use Rattle.io_traits.specs.Counts.{Rose}
use Rattle.settings_lines.specs.declared.orders.ConfigSource.{ConfigSource}
use Rattle.settings_lines.specs.declared.orders.ConfigSource.TheVariants as source
use Rattle.io_traits.specs.declared.files.Files.{Ghosts as FilesWords}
use Rattle.logstash_settings.specs.Words.{Answer, answer_of}
use Rattle.settings_lines.specs.Own.{own_settings}
use Rattle.settings_lines.specs.declared.orders.Orders.{Orders as Order}
use Rattle.settings_lines.specs.declared.settings.PipelineSettings.{PipelineSettings}
use Rattle.logstash_top.specs.declared.config_files.TextFault.{TextFault}
use Rattle.logstash_top.specs.declared.config_files.TextFault.TheVariants as text
use Rattle.logstash_top.specs.declared.status.Status.{Status}
use Rattle.logstash_top.specs.declared.status.Status.TheVariants.{BadWords, WordsNotBuilt, FilesFault, NoMemory}
use Rattle.logstash_top.specs.Answers.{Asked, IsAsked, IsAskedBy, IsCauseOf, StartsBy, asked_of}
use Rattle.logstash_top.specs.Texts.{IsSourceText}
use Rattle.logstash_top.specs.Words.{has_more, settings_asked}
use Rattle.logstash_top.proofs.Starting.{asked_not, starts_refused}

abbrev failed_text : TextFault → Result (List ℕ) TextFault
failed_text fault = Err fault

abbrev failed_words : Status → Result PipelineSettings Status
failed_words status = Err status

abbrev set : PipelineSettings → Result PipelineSettings Status
set settings = Ok settings

module _ {P : Type 0} (files : FilesWords P) (words : List (List ℕ)) (old new : P) where
  -- words without a text
  pub asked_without : (settings : PipelineSettings) (fault : TextFault) (status : Status) → (set settings ≡ settings_asked (answer_of words)) ⊎ (set settings ≡ Err NoMemory)
      → (failed_text fault ≡ Err text.Memory) ⊎ IsSourceText files settings.source old new (Err fault) → asked_of settings (Err fault) ≡ Err status → IsAsked files words old new (Err status)
  asked_without settings fault status (inr none) source is = absurd cc
  asked_without settings fault status (inl read) (inl memory) is = inl (sym is ∙ ap (asked_of settings) memory)
  asked_without settings fault status (inl read) (inr source) is = inr (subst (λ a. IsAskedBy files a old new (Err status)) read (failed_text fault, source, sym is))

module _ (given : ℕ → Given) {P : Type 0} (files : FilesWords P) (old new : P) (status : Status) where
  -- what is refused so has its cause
  cause_as : (other : Status) → IsCauseOf given (asked_not other) other → asked_not status ≡ Err other → IsCauseOf given (asked_not status) status
  cause_as other cause is = let same : other ≡ status = cc in subst (λ s. IsCauseOf given (asked_not s) s) same cause

  by_found : (settings : PipelineSettings) (found : Result (List ℕ) TextFault) → asked_not status ≡ asked_of settings found → IsCauseOf given (asked_not status) status
  by_found settings (Ok bytes) is = absurd cc
  by_found settings (Err (text.NoFile path)) is = cause_as (FilesFault (Some path)) refl is
  by_found settings (Err text.Failed) is = cause_as (FilesFault None) refl is
  by_found settings (Err text.Memory) is = cause_as NoMemory refl is

  by_more : (orders : Order) (more : Bool) → IsAskedBy files (if more then failed_words WordsNotBuilt else set (own_settings orders)) old new (Err status) → IsCauseOf given (asked_not status) status
  by_more orders true (is, same) = cause_as WordsNotBuilt refl is
  by_more orders false (found, source, is) = by_found (own_settings orders) found is

  by_answer : (answer : Answer) → IsAskedBy files (settings_asked answer) old new (Err status) → IsCauseOf given (asked_not status) status
  by_answer (Ok orders) asks = by_more orders (has_more orders) asks
  by_answer (Err fault) (is, same) = cause_as (BadWords fault) refl is

  by_words : (words : List (List ℕ)) → IsAsked files words old new (Err status) → IsCauseOf given (asked_not status) status
  by_words words (inl memory) = cause_as NoMemory refl memory
  by_words words (inr asks) = by_answer (answer_of words) asks

-- nothing is asked for
pub starts_unasked : (given : ℕ → Given) {P : Type 0} (files : FilesWords P) (words : List (List ℕ)) (old new : P) (status : Status) → IsAsked files words old new (Err status) → StartsBy given files words old new (Err status)
starts_unasked given files words old new status asks = record { asked = asked_not status; is_asked = asks; starts = starts_refused given status (by_words given files old new status words asks) }

-- a fault of the files has its cause
module _ (given : ℕ → Given) {P : Type 0} (files : FilesWords P) (old new : P) (asked : Asked) (is : asked ≡ Err (FilesFault None)) where
  rose_by_source : (from : ConfigSource) → IsSourceText files from old new (Err text.Failed) → Rose (files.faults old) (files.faults new)
  rose_by_source (source.Text words) (found, same) = absurd cc
  rose_by_source (source.Path path) rose = rose
  rose_by_source (source.Sample events) none = absurd none
  rose_by_source source.Pipelines none = absurd none

  rose_by_found : (settings : PipelineSettings) (found : Result (List ℕ) TextFault) → IsSourceText files settings.source old new found → asked ≡ asked_of settings found → Rose (files.faults old) (files.faults new)
  rose_by_found settings (Ok bytes) from told = let both = sym is ∙ told in absurd cc
  rose_by_found settings (Err (text.NoFile path)) from told = let both = sym is ∙ told in absurd cc
  rose_by_found settings (Err text.Failed) from told = rose_by_source settings.source from
  rose_by_found settings (Err text.Memory) from told = let both = sym is ∙ told in absurd cc

  rose_by_more : (orders : Order) (more : Bool) → IsAskedBy files (if more then failed_words WordsNotBuilt else set (own_settings orders)) old new asked → Rose (files.faults old) (files.faults new)
  rose_by_more orders true (told, same) = let both = sym is ∙ told in absurd cc
  rose_by_more orders false (found, from, told) = rose_by_found (own_settings orders) found from told

  rose_by_answer : (answer : Answer) → IsAskedBy files (settings_asked answer) old new asked → Rose (files.faults old) (files.faults new)
  rose_by_answer (Ok orders) asks = rose_by_more orders (has_more orders) asks
  rose_by_answer (Err fault) (told, same) = let both = sym is ∙ told in absurd cc

  rose_by_words : (words : List (List ℕ)) → IsAsked files words old new asked → Rose (files.faults old) (files.faults new)
  rose_by_words words (inl memory) = let both = sym is ∙ memory in absurd cc
  rose_by_words words (inr asks) = rose_by_answer (answer_of words) asks

pub files_rose : (given : ℕ → Given) {P : Type 0} (files : FilesWords P) (words : List (List ℕ)) (old new : P) (status : Status) → StartsBy given files words old new (Err status) → status ≡ FilesFault None → Rose (files.faults old) (files.faults new)
files_rose given files words old new status s is = ⊎_elim (λ e. let both = sym is ∙ e in absurd cc) (λ cause. rose_by_words given files old new s.asked (subst (IsCauseOf given s.asked) is cause) words s.is_asked) (s.starts.cause status refl)
