use Rattle.std.proofs.Common.{◌≤◌, List, length, sym, ◌∙◌, subst}
use Rattle.std.specs.Prelude.{Contains}
use Rattle.io_traits.specs.Reads.{file_length}
use Rattle.crc_frame.specs.Slots.{place_of}
use Rattle.io_traits.proofs.TailRuns.{on_ok_so}
use Rattle.dead_letters.specs.Plans.{IsPlan}
use Rattle.dead_letters.specs.Queues.{name_in, names}
use Rattle.dead_letters.specs.Ready.{IsReady}
use Rattle.dead_letters.specs.Views.{DeadQueue, behind_append, joining, last_of, named, names_from, sheds, taken_by}
use Rattle.dead_letters.specs.declared.letter.DeadLetter.{DeadLetter}
use Rattle.dead_letters.proofs.AppendRun.{Counts, HasLeft, LaidFor, Lays, Removes, WasCounted, appended, counted_as, laid_as, left_counting, left_laying, left_removing}
use Rattle.dead_letters.proofs.appending.carry_out.Goals as goal
use Rattle.dead_letters.proofs.appending.carry_out.Goals.{After-append_each, After-count_segments, After-remove_each}

pub count_segments-requires-clause-room : goal.count_segments-requires-clause-room
count_segments-requires-clause-room g c = λ told.
    let slot = c.args.plan.now.slot in
    let same = c.append_each.ensures.beside told slot (λ has. c.requires.apart (subst (λ l. Contains l slot) c.deref.ensures.value has)) in
    subst (λ n. place_of 32 c.args.plan.now.turn ≤ file_length (g.S.Store.seen c.append_each.new.store n)) (sym c.as_str.ensures) (subst (λ o. place_of 32 c.args.plan.now.turn ≤ file_length o) (sym same) (c.requires.room told))

-- what each call told, by the plan
lays : (g : _) (c : goal.After-append_each g) (q : DeadQueue) (letters : List DeadLetter) → IsPlan q letters c.args.plan.now
    → Lays g.S.Store c.args.store.now c.append_each.new.store (names_from q.folder (last_of q) (length (taken_by q (joining q letters))))
lays g c q letters plan = subst (Lays g.S.Store c.args.store.now c.append_each.new.store) (c.deref.ensures.value ∙ plan.names) (record { moments = c.append_each.ensures.any_moment; beside = c.append_each.ensures.beside })

laid : (g : _) (c : goal.After-count_segments g) (q : DeadQueue) (letters : List DeadLetter) → IsPlan q letters c.args.plan.now
    → LaidFor g.S.Store q letters c.args.store.now c.append_each.new.store
laid g c q letters plan =
    laid_as g.S.Store c.args.store.now c.append_each.new.store _ _ _ _ _ _ (c.deref.ensures.value ∙ plan.names) (c.as_slice.ensures ∙ plan.joins.pieces) (c.deref-2.ensures.value ∙ plan.joins.bytes)
    (record { lays = record { moments = c.append_each.ensures.any_moment; beside = c.append_each.ensures.beside }; reads = c.in_ok-append_each.ensures.laid; rests = c.in_ok-append_each.ensures.settled })

counts : (g : _) (c : goal.After-count_segments g) (q : DeadQueue) (letters : List DeadLetter) → IsPlan q letters c.args.plan.now
    → Counts g.S.Store c.append_each.new.store c.count_segments.new.store (behind_append q letters).turn (named (behind_append q letters)) (name_in q.folder names)
counts g c q letters plan =
    counted_as (Counts g.S.Store c.append_each.new.store c.count_segments.new.store) _ _ _ _ _ _ plan.turn plan.segments (c.as_str.ensures ∙ plan.slot)
    (record { moments = c.count_segments.ensures.any_moment; beside = c.count_segments.ensures.beside })

counted : (g : _) (c : goal.After-remove_each g) (q : DeadQueue) (letters : List DeadLetter) → IsPlan q letters c.args.plan.now
    → WasCounted g.S.Store c.append_each.new.store c.count_segments.new.store (behind_append q letters).turn (named (behind_append q letters)) (name_in q.folder names)
counted g c q letters plan =
    counted_as (WasCounted g.S.Store c.append_each.new.store c.count_segments.new.store) _ _ _ _ _ _ plan.turn plan.segments (c.as_str.ensures ∙ plan.slot)
    (record {
      counts = record { moments = c.count_segments.ensures.any_moment; beside = c.count_segments.ensures.beside };
      counted = c.in_ok-count_segments.ensures.counted;
      rests = c.in_ok-count_segments.ensures.settled;
    })

removes : (g : _) (c : goal.After-remove_each g) (q : DeadQueue) (letters : List DeadLetter) → IsPlan q letters c.args.plan.now
    → Removes g.S.Store c.count_segments.new.store c.remove_each.new.store (names_from q.folder q.first (sheds q letters).older)
removes g c q letters plan =
    subst (Removes g.S.Store c.count_segments.new.store c.remove_each.new.store) (c.deref-3.ensures.value ∙ plan.gone) (record { moments = c.remove_each.ensures.any_moment; beside = c.remove_each.ensures.beside })

-- what is left at each exit
left_first : (g : _) (c : goal.After-append_each g) (q : DeadQueue) (letters : List DeadLetter) → IsPlan q letters c.args.plan.now → IsReady g.S.Store q c.args.store.now
    → HasLeft g.S.Store q letters c.args.store.now c.append_each.new.store
left_first g c q letters plan ready = left_laying g.S.Store g.met.S.Store.images_tell q letters c.args.store.now ready c.append_each.new.store (lays g c q letters plan)

left_second : (g : _) (c : goal.After-count_segments g) (q : DeadQueue) (letters : List DeadLetter) → IsPlan q letters c.args.plan.now → IsReady g.S.Store q c.args.store.now
    → HasLeft g.S.Store q letters c.args.store.now c.count_segments.new.store
left_second g c q letters plan ready =
    left_counting g.S.Store g.met.S.Store.images_tell q letters c.args.store.now ready c.append_each.new.store (laid g c q letters plan) c.count_segments.new.store (counts g c q letters plan)

left_third : (g : _) (c : goal.After-remove_each g) (q : DeadQueue) (letters : List DeadLetter) → IsPlan q letters c.args.plan.now → IsReady g.S.Store q c.args.store.now
    → LaidFor g.S.Store q letters c.args.store.now c.append_each.new.store → HasLeft g.S.Store q letters c.args.store.now c.remove_each.new.store
left_third g c q letters plan ready l =
    left_removing g.S.Store g.met.S.Store.images_tell q letters c.args.store.now ready c.append_each.new.store l c.count_segments.new.store (counted g c q letters plan) c.remove_each.new.store (removes g c q letters plan)

pub returns-in_err-append_each-clause-any_moment : goal.returns-in_err-append_each-clause-any_moment
returns-in_err-append_each-clause-any_moment g c = λ q letters plan ready. (left_first g (goal.at.returns-in_err-append_each-clause-any_moment g c).After-append_each q letters plan ready).any_moment

pub returns-in_err-append_each-clause-beside : goal.returns-in_err-append_each-clause-beside
returns-in_err-append_each-clause-beside g c = λ q letters plan ready. (left_first g (goal.at.returns-in_err-append_each-clause-beside g c).After-append_each q letters plan ready).beside

pub returns-in_err-count_segments-clause-any_moment : goal.returns-in_err-count_segments-clause-any_moment
returns-in_err-count_segments-clause-any_moment g c = λ q letters plan ready. (left_second g (goal.at.returns-in_err-count_segments-clause-any_moment g c).After-count_segments q letters plan ready).any_moment

pub returns-in_err-count_segments-clause-beside : goal.returns-in_err-count_segments-clause-beside
returns-in_err-count_segments-clause-beside g c = λ q letters plan ready. (left_second g (goal.at.returns-in_err-count_segments-clause-beside g c).After-count_segments q letters plan ready).beside

pub returns-clause-any_moment : goal.returns-clause-any_moment
returns-clause-any_moment g c = λ q letters plan ready.
    let at = goal.at.returns-clause-any_moment g c in
    (left_third g at.After-remove_each q letters plan ready (laid g at.After-count_segments q letters plan)).any_moment

pub returns-clause-beside : goal.returns-clause-beside
returns-clause-beside g c = λ q letters plan ready.
    let at = goal.at.returns-clause-beside g c in
    (left_third g at.After-remove_each q letters plan ready (laid g at.After-count_segments q letters plan)).beside

pub returns-clause-appended : goal.returns-clause-appended
returns-clause-appended g c = on_ok_so c.remove_each.result c.remove_each.ensures.gone (λ gone_now q letters plan ready.
    let at = goal.at.returns-clause-appended g c in
    appended g.S.Store g.met.S.Store.images_tell q letters c.args.store.now ready c.append_each.new.store (laid g at.After-count_segments q letters plan) c.count_segments.new.store (counted g at.After-remove_each q letters plan)
    c.remove_each.new.store (removes g at.After-remove_each q letters plan))
