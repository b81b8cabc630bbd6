-- What a run holds that agrees with what stands around it.
use Rattle.std.proofs.Common.{◌≡◌, ⊎_elim, List, ◌++◌, Some, sym, ap, ◌∙◌, subst, append_assoc}
use Rattle.foreign_parts.specs.Delivering.{taken}
use Rattle.history_book.specs.Deeds.{DeedOf}
use Rattle.history_book.specs.Laws.{fates_of}
use Rattle.history_book.specs.Givings.{TookMore, BoxTookMore, all_printed, all_given}
use Rattle.history_book.proofs.Giving.{runs_give_to_stdout, runs_give_to_boxes}
use Rattle.history_book.proofs.Reaching.{everything_stands}
use Rattle.history_book.proofs.Standing.{all_stands}
use Rattle.history_book.proofs.Histories.{acknowledged_were_delivered}
use Rattle.history_book.specs.Yards.{all_done}
use Rattle.history_book.specs.Runs.{Meanings, Bases, Outputs, TookSo, OutputsSound, SettledRowsStand, StdoutHolds, BoxesHold, line_in}
use Rattle.history_book.specs.Ends.{EmptyIsDelivered}

pub settled_rows_stand : SettledRowsStand
settled_rows_stand m bases first steps around sound links k before rest w told settled =
    everything_stands m.makes m.listening m.bytes bases.places around.images first steps sound.last links k before rest w sound.entries sound.links
    (line_in m bases first steps around sound) told settled

-- with something in front, and something behind
module _ {X : Type 0} where
  abbrev Stands : List X → List X → Type 0
  Stands part whole = (front : List X) × (back : List X) × (whole ≡ front ++ part ++ back)

  with_more : (part whole more : List X) → Stands part whole → Stands part (whole ++ more)
  with_more part whole more s = (
    s.0,
    s.1 ++ more,
    ap (λ (l : List X). l ++ more) s.2 ∙ append_assoc (s.0 ++ part) s.1 more,
  )

  behind : (part whole base : List X) → Stands part whole → Stands part (base ++ whole)
  behind part whole base s = (base ++ s.0, s.1, ap (λ l. base ++ l) s.2 ∙ sym (append_assoc base (s.0 ++ part) s.1) ∙ ap (λ l. l ++ s.1) (sym (append_assoc base s.0 part)))

took : (m : Meanings) (bases : Bases) (done : List DeedOf) (o : Outputs) → OutputsSound m bases done (Some o) → TookSo m bases done o
took m bases done o t = t

pub stdout_holds : StdoutHolds
stdout_holds m bases first steps around o sound is k plan id events w none =
    let done = first ++ all_done steps in
    let t = took m bases done o (subst (OutputsSound m bases done) is sound.outputs) in
    let part = m.bytes plan.config id events in
    let told = runs_give_to_stdout m.makes m.bytes done k plan id events w none in
    subst (Stands part) (sym t.stdout_is) (behind part t.printed bases.stdout (⊎_elim
    (λ (same : t.printed ≡ all_printed m.makes m.bytes done). subst (Stands part) (sym same) told)
    (λ (more : TookMore m.makes m.bytes done t.printed). subst (Stands part) (sym more.took_is) (with_more part (all_printed m.makes m.bytes done) more.part told)) t.stdout))

pub boxes_hold : BoxesHold
boxes_hold m bases first steps around o sound is k n plan id events w none =
    let done = first ++ all_done steps in
    let t = took m bases done o (subst (OutputsSound m bases done) is sound.outputs) in
    let part = taken (fates_of w.entry) events in
    let told = runs_give_to_boxes m.makes n done k plan id events w none in
    subst (Stands part) (sym (t.boxes_are n)) (behind part (t.given n) (bases.boxes n) (⊎_elim
    (λ (same : t.given n ≡ all_given m.makes n done). subst (Stands part) (sym same) told)
    (λ (more : BoxTookMore m.makes n done (t.given n)). subst (Stands part) (sym more.took_is) (with_more part (all_given m.makes n done) more.part told)) (t.boxes n)))

pub empty_is_delivered : EmptyIsDelivered
empty_is_delivered makes listening sources bytes places told i w sound empty has =
    all_stands makes bytes places told i w sound.legal sound.files sound.dead (acknowledged_were_delivered makes told w sound.legal has (empty.rows w has))
