-- What files hold of what was told.
use Rattle.std.proofs.Common.{◌≡◌, ⊎_elim, ℕ, List, [], ◌∷◌, ◌++◌, Some, Bool, if◌then◌else◌, refl, sym, ap, ◌∙◌, subst, append_assoc, append-nil}
use Rattle.std.proofs.lemmas.Slice.Eq.{bytes_eq-Decides}
use Rattle.event_tree.specs.Events.{Ev}
use Rattle.event_tree.specs.declared.lists.DeadPart.{DeadPart}
use Rattle.foreign_parts.specs.declared.place.Place.TheVariants as place
use Rattle.event_flow.specs.Meaning.{Makes, Due}
use Rattle.event_flow.specs.Meaning as due
use Rattle.history_book.specs.Contents.{Bytes, FileLeft, FileAfter, FileHolds, next_bytes, bytes_at, is_file}
use Rattle.history_book.specs.Entries.{Entry, Accept, Mark, Assure, Read, Back, Shed, Deliver, Letters, Ack, Purge, Adopt, Opened}
use Rattle.history_book.specs.Laws.{Tells, FilesHoldDeliveries}
use Rattle.history_book.specs.States.{Plan, Out, State, start, out_of, next, after}

module _ (makes : Makes) (bytes : Bytes) (path : List ℕ) where
  abbrev Grows : List ℕ → List ℕ → Type 0
  Grows old new = (more : List ℕ) × (new ≡ old ++ more)

  same : (old new : List ℕ) → new ≡ old → Grows old new
  same old new is = ([], is ∙ sym (append-nil old))

  step_grows : (s : State) (e : Entry) (old new : List ℕ) → FileAfter makes bytes path s e old new → Grows old new
  step_grows s (Accept input parcel number event) old new is = same old new is
  step_grows s (Mark front) old new is = same old new is
  step_grows s (Assure input front) old new is = same old new is
  step_grows s (Read batch generation numbers) old new is = same old new is
  step_grows s (Back batch verdicts) old new is = same old new is
  step_grows s (Shed batch older newer) old new is = same old new is
  step_grows s (Deliver batch at events fates) old new is = (next_bytes bytes (is_file path) (out_of batch s.out), is)
  step_grows s (Letters batch letters) old new is = same old new is
  step_grows s (Ack batch) old new is = same old new is
  step_grows s (Purge page) old new is = same old new is
  step_grows s (Adopt generation config draws) old new is = same old new is
  step_grows s (Opened rows limit policy) old new is =
      ⊎_elim (λ (e : new ≡ old). same old new e) (λ (l : FileLeft bytes path s old new). (next_bytes bytes (is_file path) (Some l.0), l.2)) is

  grows : (s : State) (told : List Entry) (base content : List ℕ) → FileHolds makes bytes path s base told content → Grows base content
  grows s [] base content holds = same base content holds
  grows s (e ∷ told) base content holds =
      let first = step_grows s e base holds.0 holds.1 in
      let more = grows (next makes s e) told holds.0 content holds.2 in
      (first.0 ++ more.0, more.1 ∙ ap (λ (l : List ℕ). l ++ more.0) first.1 ∙ append_assoc base first.0 more.0)

  -- what an entry made of the file, and what came behind it
  record At (s : State) (entry : Entry) (content : List ℕ) : Type 0 where
    old : List ℕ
    new : List ℕ
    made : FileAfter makes bytes path s entry old new
    behind : Grows new content

  at : (s : State) (before : List Entry) (entry : Entry) (rest : List Entry) (base content : List ℕ) → FileHolds makes bytes path s base (before ++ entry ∷ rest) content
      → At (after makes s before) entry content
  at s [] entry rest base content holds = record { old = base; new = holds.0; made = holds.1; behind = grows (next makes s entry) rest holds.0 content holds.2 }
  at s (e ∷ before) entry rest base content holds = at (next makes s e) before entry rest holds.0 content holds.2

  module _ (id : List ℕ) (events : List Ev) where
    abbrev here : Due
    here = due.Events id (place.File path) events

    abbrev bytes_here : Out → List ℕ
    bytes_here o = bytes o.plan.config id events

    next_is : (o : Out) (left : List Due) → o.left ≡ here ∷ left → next_bytes bytes (is_file path) (Some o) ≡ bytes_here o
    next_is o left is =
        ap (bytes_at bytes (is_file path) o.plan.config) is ∙ ap (λ (b : Bool). if b then bytes_here o else []) ((bytes_eq-Decides path path).1 refl)

    made_of : (s : State) (entry : Entry) (batch : ℕ) (o : Out) (left : List Due) (old new : List ℕ) → Tells entry batch here → out_of batch s.out ≡ Some o → o.left ≡ here ∷ left
        → FileAfter makes bytes path s entry old new → new ≡ old ++ bytes_here o
    made_of s (Deliver b place_told es fates) batch o left old new tells has is made =
        made ∙ ap (λ (l : List ℕ). old ++ l) (ap (λ (n : ℕ). next_bytes bytes (is_file path) (out_of n s.out)) tells.0 ∙ ap (next_bytes bytes (is_file path)) has ∙ next_is o left is)
    made_of s (Letters b letters) batch o left old new tells has is made = absurd (differ tells.1 tells.2)
      where
        differ : (ds : List DeadPart) → here ≡ due.Letters ds → ⊥
        differ ds e = cc
    made_of s (Accept input parcel number event) batch o left old new tells has is made = absurd tells
    made_of s (Mark front) batch o left old new tells has is made = absurd tells
    made_of s (Assure input front) batch o left old new tells has is made = absurd tells
    made_of s (Read b generation numbers) batch o left old new tells has is made = absurd tells
    made_of s (Back b verdicts) batch o left old new tells has is made = absurd tells
    made_of s (Shed b older newer) batch o left old new tells has is made = absurd tells
    made_of s (Ack b) batch o left old new tells has is made = absurd tells
    made_of s (Purge page) batch o left old new tells has is made = absurd tells
    made_of s (Adopt generation config draws) batch o left old new tells has is made = absurd tells
    made_of s (Opened rows limit policy) batch o left old new tells has is made = absurd tells

pub files_hold : FilesHoldDeliveries
files_hold makes bytes path base content told plan id events holds w =
    let there = at makes bytes path start w.before w.entry w.rest base content (subst (λ (l : List Entry). FileHolds makes bytes path start base l content) w.parts holds) in
    let made = made_of makes bytes path id events (after makes start w.before) w.entry w.batch w.out w.left there.old there.new w.tells w.was_out w.next there.made in (
      there.old,
      there.behind.0,
      there.behind.1 ∙ ap (λ (l : List ℕ). l ++ there.behind.0) made
          ∙ ap (λ (p : Plan). there.old ++ bytes p.config id events ++ there.behind.0) w.plan_is,
    )
