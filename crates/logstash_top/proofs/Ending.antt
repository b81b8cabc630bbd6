-- The answers of a run or a test, by what stands before it and how it ended.
use Rattle.std.proofs.Common.{◌≡◌, ◌⊎◌, inl, inr, ⊎_elim, ℕ, List, Ok, Err, refl, subst}
use Rattle.graph_checks.specs.Whole.{Given}
use Rattle.io_traits.specs.declared.files.Files.{Ghosts as FilesWords}
use Rattle.logstash_top.specs.declared.start.Checked.{Checked}
use Rattle.logstash_top.specs.declared.status.Status.{Status}
use Rattle.logstash_top.specs.declared.status.Status.TheVariants.{Done, NoMemory}
use Rattle.logstash_top.specs.Answers.{AnswersBy, Asked, IsCauseOf, StartsBy}
use Rattle.logstash_top.specs.Status.{IsRefused, test_output_fault}

module _ (given : ℕ → Given) {P : Type 0} (files : FilesWords P) (words : List (List ℕ)) (old later : P) where
  -- a call that ends where it starts ends in no other status
  pub ends_not : (status other : Status) → StartsBy given files words old later (Err status) → (other ≡ NoMemory → ⊥) → ((asked : Asked) → IsCauseOf given asked other → ⊥) → status ≡ other → ⊥
  ends_not status other s none never is =
      ⊎_elim (λ e. none (subst (λ x. x ≡ NoMemory) is e)) (λ cause. never s.asked (subst (IsCauseOf given s.asked) is cause)) (s.starts.cause status refl)

  pub ends_not_done : (status : Status) → StartsBy given files words old later (Err status) → status ≡ Done → ⊥
  ends_not_done status s is = ends_not status Done s (λ e. cc) (λ asked cause. cause) is

  pub ends_not_unconfirmed : (status : Status) → StartsBy given files words old later (Err status) → status ≡ test_output_fault → ⊥
  ends_not_unconfirmed status s is = ends_not status test_output_fault s (λ e. cc) (λ asked cause. cause) is

  module _ (may : Checked → Status → Type 0) (memory : (c : Checked) → may c NoMemory) where
    -- its answers
    pub answers_refused : (status : Status) → StartsBy given files words old later (Err status) → AnswersBy given files words old later may status
    answers_refused status s = record {
      later = later;
      asked = s.asked;
      is_asked = s.is_asked;
      answers = record {
        refused = λ refusal cause. ⊎_elim (λ e. inl cc) (λ e. inr cc) (s.starts.refused refusal cause);
        cause = λ is. ⊎_elim (λ e. absurd (subst IsRefused e is)) (λ cause. cause) (s.starts.cause status refl);
        runs = λ c orders. ⊎_elim (λ e. absurd cc) (λ e. let same : NoMemory ≡ status = cc in subst (may c) same (memory c)) (s.starts.only c orders);
      };
      untouched = λ is. refl;
    }

    -- and those of one whose configuration passed its checks and is built
    pub answers_passed : (new : P) (c : Checked) (status : Status) → StartsBy given files words old later (Ok c) → (IsRefused status → ⊥) → may c status → AnswersBy given files words old new may status
    answers_passed new c status s not is = record {
      later = later;
      asked = s.asked;
      is_asked = s.is_asked;
      answers = record {
        refused = λ refusal cause. ⊎_elim (λ e. absurd cc) (λ e. absurd cc) (s.starts.refused refusal cause);
        cause = λ refused. absurd (not refused);
        runs = λ other orders. ⊎_elim (λ e. let same : c ≡ other = cc in subst (λ x. may x status) same is) (λ e. absurd cc) (s.starts.only other orders);
      };
      untouched = λ refused. absurd (not refused);
    }

-- a test that was made is no refusal
pub tested_last : (status : Status) → (status ≡ Done) ⊎ ((status ≡ test_output_fault) ⊎ (status ≡ NoMemory)) → IsRefused status → ⊥
tested_last status ended is = ⊎_elim (λ e. subst IsRefused e is) (⊎_elim (λ e. subst IsRefused e is) (λ e. subst IsRefused e is)) ended
