-- A line that was opened stands where its history does, and so behind any steps.
use Rattle.std.proofs.Common.{◌≡◌, inl, ℕ, ◌<◌, List, [], ◌∷◌, ◌++◌, Some, None, refl, sym, ap, ap₂, ◌∙◌, subst, append-nil, append_assoc}
use Rattle.io_traits.specs.Images.{Image}
use Rattle.event_flow.specs.Meaning.{Makes}
use Rattle.queue_files.specs.Found.{Row}
use Rattle.history_book.specs.Contents.{Bytes}
use Rattle.history_book.specs.Entries.{Entry, Adopt, Opened}
use Rattle.history_book.specs.Holdings.{Follows, HoldsTold}
use Rattle.history_book.specs.Inputs.{Renumbered, named_from}
use Rattle.history_book.specs.Legal.{Legal_at}
use Rattle.history_book.specs.Links.{Listening}
use Rattle.history_book.specs.Lists.{IsIn}
use Rattle.history_book.specs.Queues.{AreRowsOf}
use Rattle.history_book.specs.Sound.{Places, LineSound}
use Rattle.history_book.specs.States.{State, start, opens, unread, next, after}
use Rattle.history_book.proofs.Following.{others_leave_it}
use Rattle.history_book.proofs.Histories.{after_both}
use Rattle.history_book.proofs.Moments.{following_stands, opening_stands}
use Rattle.history_book.proofs.Unread.{found_come_next}
use Rattle.line_machine.specs.Openings.{IsOpenedLine, opening, OpenedLineStands, Stays, Goes, RunsStand}
use Rattle.line_machine.specs.Stands.{AreBatchesOf, Knows, Stands}
use Rattle.line_machine.proofs.Inputs.{begun_are}
use Rattle.line_machine.specs.Steps.{effect}
use Rattle.line_machine.specs.Views.{Batch, LineView, inputs_of}
use Rattle.line_machine.proofs.Steps.{steps_follow}

module _ (makes : Makes) (listening : Listening) (bytes : Bytes) (places : Places) where
  module _ (told : List Entry) (image : Image) (sound : LineSound makes bytes places told image) (i : LineView places) (is : IsOpenedLine makes listening bytes places told image sound i) where
    abbrev opened : Entry
    opened = Opened sound.rows.rows i.limits.limit i.limits.policy

    abbrev adopts : Entry
    adopts = Adopt i.plan.generation i.plan.config i.plan.draws

    abbrev s : State
    s = after makes start told

    abbrev behind : State
    behind = opens s sound.rows.rows i.limits

    behind_is : after makes start (told ++ opened ∷ []) ≡ behind
    behind_is = after_both makes start told (opened ∷ [])

    holds_opened : HoldsTold makes bytes places (told ++ opened ∷ []) i.holds
    holds_opened = opening_stands makes bytes places told image sound i.holds i.limits.limit i.limits.policy is.opened

    adopted : Follows makes bytes places (told ++ opened ∷ []) (adopts ∷ []) i.holds i.holds
    adopted = record {
      whole = inl (ap (λ (x : State). x.between) behind_is);
      legal = (subst (λ x. Legal_at makes x adopts) (sym behind_is) (tt, refl, tt, is.draws), tt);
      queue = others_leave_it makes (after makes start (told ++ opened ∷ [])) i.holds.queue adopts tt holds_opened.queue;
      files = λ file m. (i.holds.content file m, refl, refl);
      dead = (i.holds.dead, refl, refl);
    }

    knows_now : Knows (next makes behind adopts) i
    knows_now = record {
      running = refl;
      between = refl;
      limits = refl;
      unread = subst (λ l. AreRowsOf l (unread behind)) (sym (ap₂ (λ (k l : List Row). k ++ l) is.kept is.unread))
          (found_come_next makes told sound.rows i.limits.limit i.limits.policy sound.legal sound.fits);
      batches = subst (λ bs. AreBatchesOf bs []) (sym is.batches) tt;
      below = subst (λ bs. (b : Batch) → IsIn b bs → b.number < i.next_batch) (sym is.batches) (λ b has. absurd has);
      used = λ n has. absurd has;
      inputs = ([], refl, subst (Renumbered 0 [] (named_from 1 i.plan.config.inputs)) (sym (ap inputs_of is.begun_all ∙ begun_are is.inputs)) is.numbered);
      mark = λ front e. absurd (differ front (sym is.unmarked ∙ e));
    }
      where
        differ : (front : ℕ) → None ≡ Some front → ⊥
        differ front e = cc

    pub opened_stands : Stands makes bytes places (told ++ opening makes listening bytes places told image sound i) i
    opened_stands = record {
      holds = subst (λ l. HoldsTold makes bytes places l i.holds) (append_assoc told (opened ∷ []) (adopts ∷ []))
          (following_stands makes bytes places (told ++ opened ∷ []) (adopts ∷ []) i.holds i.holds holds_opened adopted);
      knows = subst (λ x. Knows x i) (sym (after_both makes start told (opened ∷ adopts ∷ []))) knows_now;
    }

  pub opened_line_stands : OpenedLineStands makes listening bytes places
  opened_line_stands told image sound i is = opened_stands told image sound i is

  pub runs_stand : RunsStand makes listening bytes places
  runs_stand told more i j stands (Stays k) = subst (λ l. Stands makes bytes places l k) (sym (append-nil told)) stands
  runs_stand told more i j stands (Goes k l rest x on run) =
      subst (λ e. Stands makes bytes places e l) (append_assoc told (effect makes listening bytes k x).told rest)
      (runs_stand (told ++ (effect makes listening bytes k x).told) rest (effect makes listening bytes k x).line l ((steps_follow makes listening bytes places told k x stands).stands on) run)
