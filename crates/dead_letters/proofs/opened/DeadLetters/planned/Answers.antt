use Rattle.std.proofs.Common.{◌≡◌, ◌<◌, ◌≤◌, ◌+◌, ◌-◌, ◌^◌, ◌++◌, ℕ, List, codes, length, drop, get_or, refl, sym, ap, ◌∙◌, subst, arith}
use Rattle.std.proofs.Math.Path.{ap₂}
use Rattle.crc_frame.specs.Slots.{next_turn}
use Rattle.dead_letters.specs.Segments.{segments}
use Rattle.dead_letters.specs.Plans.{IsJoining, IsPlan}
use Rattle.dead_letters.specs.Views.{DeadQueue, behind_append, held_last, joining, names_from, sheds, sizes_with, taken_by}
use Rattle.dead_letters.specs.declared.append_plan.AppendPlan.{AppendPlan}
use Rattle.dead_letters.specs.declared.append_plan.Joining.{Joining}
use Rattle.dead_letters.specs.declared.letter.DeadLetter.{DeadLetter}
use Rattle.dead_letters.specs.declared.shedding.Shedding.{Shedding}
use Rattle.dead_letters.proofs.Joining.{stays, pieces_fit, pieces_are, new_numbers, new_some, last_room, view}
use Rattle.dead_letters.proofs.opened.DeadLetters.planned.Goals as goal
use Rattle.dead_letters.proofs.opened.DeadLetters.planned.Goals.{After-as_slice-taken, After-slot_name}

-- the queue, and what joins it
record Joins (q : DeadQueue) (letters : List DeadLetter) (j : Joining) (held taken : List ℕ) : Type 0 where
  some : 0 < length q.sizes
  numbers : q.first + length q.sizes ≤ 2 ^ 32
  joins : IsJoining q letters j
  held_is : held ≡ q.sizes
  taken_is : taken ≡ taken_by q (joining q letters)
  older_is : j.shedding.older ≡ (sheds q letters).older

joined : (c : goal.After-as_slice-taken) → Joins (view c.self.inside) c.args.letters.now c.in_ok-joining.joining c.as_slice-held.result.now c.as_slice-taken.result.now
joined c =
    let joins = subst (λ s. IsJoining s c.args.letters.now c.in_ok-joining.joining) (sym c.self.view_is) c.in_ok-joining.ensures.joins in
    record {
      some = subst (λ (s : DeadQueue). 0 < length s.sizes) (sym c.self.view_is) c.requires.some;
      numbers = subst (λ (s : DeadQueue). s.first + length s.sizes ≤ 2 ^ 32) (sym c.self.view_is) c.requires.numbers;
      joins = joins;
      held_is = c.as_slice-held.ensures;
      taken_is = c.as_slice-taken.ensures ∙ joins.pieces;
      older_is = ap (λ (s : Shedding). s.older) joins.shedding;
    }

pub names_from-requires : goal.names_from-requires
names_from-requires c =
    let j = joined (goal.at.names_from-requires c).After-as_slice-taken in
    omega (arith, pieces_fit (view c.self.inside) c.args.letters.now j.some j.numbers, ap length j.held_is, ap length j.taken_is)

pub names_from-requires-2 : goal.names_from-requires-2
names_from-requires-2 c =
    let j = joined (goal.at.names_from-requires-2 c).After-as_slice-taken in
    omega (arith, j.older_is, stays (view c.self.inside) c.args.letters.now j.some j.numbers, j.numbers)

pub sizes_with-requires-clause-stays : goal.sizes_with-requires-clause-stays
sizes_with-requires-clause-stays c =
    let j = joined (goal.at.sizes_with-requires-clause-stays c).After-as_slice-taken in
    omega (arith, j.older_is, stays (view c.self.inside) c.args.letters.now j.some j.numbers, ap length j.held_is)

pub sizes_with-requires-clause-piece : goal.sizes_with-requires-clause-piece
sizes_with-requires-clause-piece c =
    let j = joined (goal.at.sizes_with-requires-clause-piece c).After-as_slice-taken in
    omega (arith, pieces_are (view c.self.inside) c.args.letters.now j.some j.numbers, ap length j.taken_is)

pub sizes_with-requires-clause-room : goal.sizes_with-requires-clause-room
sizes_with-requires-clause-room c =
    let q = view c.self.inside in
    let j = joined (goal.at.sizes_with-requires-clause-room c).After-as_slice-taken in
    let last = c.type_inv.held (length c.as_slice-held.result.now - 1) in
    let low : held_last q.sizes < 2 ^ 64 = omega (arith, last, ap held_last j.held_is) in
    let room = last_room q c.args.letters.now j.some j.numbers (subst (λ (s : DeadQueue). s.limit < 2 ^ 64) (sym c.self.view_is) c.in_ok-joining.ensures.limit) low in
    subst (λ l. held_last l + get_or c.as_slice-taken.result.now 0 0 < 2 ^ 64) (sym j.held_is) (subst (λ l. held_last q.sizes + get_or l 0 0 < 2 ^ 64) (sym j.taken_is) room)

pub overflow_cast-older : goal.overflow_cast-older
overflow_cast-older c =
    let j = joined (goal.at.overflow_cast-older c).After-as_slice-taken in
    omega (arith, j.older_is, stays (view c.self.inside) c.args.letters.now j.some j.numbers, j.numbers)

pub overflow_add-self-inside : goal.overflow_add-self-inside
overflow_add-self-inside c =
    let j = joined (goal.at.overflow_add-self-inside c).After-as_slice-taken in
    omega (arith, j.older_is, stays (view c.self.inside) c.args.letters.now j.some j.numbers, j.numbers)

-- how many bytes each segment has then
grown : (c : goal.After-slot_name) → Joins (view c.self.inside) c.args.letters.now c.in_ok-joining.joining c.as_slice-held.result.now c.as_slice-taken.result.now → c.in_ok-sizes.sizes ≡ (behind_append (view c.self.inside) c.args.letters.now).sizes
grown c j = c.in_ok-sizes.ensures ∙ ap₂ sizes_with (ap₂ drop j.older_is j.held_is) j.taken_is

pub segments_of-segments-requires-clause-some : goal.segments_of-segments-requires-clause-some
segments_of-segments-requires-clause-some c =
    let at = goal.at.segments_of-segments-requires-clause-some c in
    let j = joined at.After-as_slice-taken in
    omega (arith, ap length (c.as_slice.ensures ∙ grown at.After-slot_name j), new_some (view c.self.inside) c.args.letters.now j.some j.numbers)

pub segments_of-segments-requires-clause-numbers : goal.segments_of-segments-requires-clause-numbers
segments_of-segments-requires-clause-numbers c =
    let at = goal.at.segments_of-segments-requires-clause-numbers c in
    let j = joined at.After-as_slice-taken in
    omega (arith, ap length (c.as_slice.ensures ∙ grown at.After-slot_name j), j.older_is, new_numbers (view c.self.inside) c.args.letters.now j.some j.numbers)

pub returns : goal.returns
returns c =
    let q = view c.self.inside in
    let at = goal.at.returns c in
    let j = joined at.After-as_slice-taken in
    let grown_is = grown at.After-slot_name j in
    let plan : AppendPlan = record {
      joining = c.in_ok-joining.joining;
      names = c.in_ok-names.names;
      gone = c.in_ok-gone.gone;
      slot = c.in_ok-slot.slot;
      turn = next_turn c.self.inside.turn;
      segments = c.segments_of-segments.result;
      sizes = c.in_ok-sizes.sizes;
    } in
    subst (λ s. IsPlan s c.args.letters.now plan) c.self.view_is (record {
      joins = j.joins;
      slot = c.in_ok-slot.ensures ∙ ap (λ f. f ++ codes "dead.seg") c.as_str-folder.ensures;
      names = c.in_ok-names.ensures ∙ ap (λ f. names_from f (q.first + (length c.as_slice-held.result.now - 1)) (length c.as_slice-taken.result.now)) c.as_str-folder.ensures
          ∙ ap₂ (λ n k. names_from q.folder (q.first + (n - 1)) k) (ap length j.held_is) (ap length j.taken_is);
      gone = c.in_ok-gone.ensures ∙ ap (λ f. names_from f q.first c.in_ok-joining.joining.shedding.older) c.as_str-folder.ensures ∙ ap (names_from q.folder q.first) j.older_is;
      turn = refl;
      segments = c.segments_of-segments.ensures ∙ ap₂ (λ o l. segments (q.first + o) (q.first + o + (length l - 1)) (held_last l)) j.older_is (c.as_slice.ensures ∙ grown_is);
      sizes = grown_is;
    })
