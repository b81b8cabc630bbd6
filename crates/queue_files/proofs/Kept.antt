-- A folder that holds a queue file by file keeps its rows.
use Rattle.std.proofs.Common.{◌≡◌, ℕ, ◌&&◌, not, nat_lt, true, false, Bool, List, length, take, Option, Some, None, is_some, Result, Ok, refl, ◌∙◌, ap, arith, length-take}
use Rattle.std.proofs.lemmas.Bool.{cond-false}
use Rattle.io_traits.specs.Reads.{bytes_of}
use Rattle.io_traits.specs.declared.pages.PageState.{PageState}
use Rattle.slot_files.specs.Checkpoints.{slots_of}
use Rattle.queue_page.specs.Elements.{and_then}
use Rattle.queue_files.specs.Folders.{head, page, Folder}
use Rattle.queue_files.specs.Checkpoints.{Mismatch, misfit, told, told_by}
use Rattle.queue_files.specs.Found.{Damaged, or_damage, told_at, is_new, has_page_0_at_most, Held, head_held, unless, opened_page, read_all, found_in, of_head, nothing_found, found}
use Rattle.queue_files.specs.Laws.{StandingIsKept}
use Rattle.queue_files.proofs.Standing.{fits, none_falls, reads}

some_newest : (slots : _) (o : Option (ℕ × PageState)) (s : PageState) → told_by slots o ≡ Ok s → is_some o ≡ true
some_newest slots None s is = absurd cc
some_newest slots (Some newest) s is = refl

-- a folder whose head slot tells something isn't new
pub not_new : (folder : Folder) (s : PageState) → told (folder head) ≡ Ok s → is_new folder ≡ false
unfolding is_new
not_new folder s is =
    let slots = slots_of (bytes_of (folder head)) in
    ap (λ (b : Bool). not b && nat_lt (length (bytes_of (folder head))) 49 && has_page_0_at_most folder) (some_newest slots slots.newest s is)

pub found_as : (folder : Folder) (s : PageState) → told (folder head) ≡ Ok s → found folder ≡ of_head folder s
found_as folder s is =
    cond-false (is_new folder) (Ok nothing_found) (and_then (told_at head (folder head)) (of_head folder)) (not_new folder s is)
    ∙ ap (λ (t : Result PageState Mismatch). and_then (or_damage t (λ m. (head, m))) (of_head folder)) is

pub standing_is_kept : StandingIsKept
standing_is_kept q folder is stands =
    let t = stands.top in
    let s : PageState = record { page = q.top.number; first_open = t.first_open; least = q.top.least; count = length (take t.recorded q.top.rows); length = t.len } in
    let top = head_held folder s in
    let hs = fits q.top.number 0 0 q.tails q.top folder (omega arith) is stands.tails (λ n from less none. stands.gone n less none) in
    let opens : opened_page true top ≡ Ok t.read = ap (λ r. or_damage r (λ m. (page q.top.number, misfit m.place m.found m.expected))) t.opens in
    let r = reads q q.tails hs.pages top t.read t.count t.first_open hs.fit opens refl t.since refl t.gives (omega (arith, t.enough, t.not_less)) t.within (omega (arith, length-take t.count q.top.rows, t.within)) in
    record {
      held = r.held;
      is_found =
          found_as folder s t.told
          ∙ ap (λ (l : Result (List Held) Damaged). and_then l (found_in top)) hs.is
          ∙ ap (λ (o : Option Damaged). unless o (read_all hs.pages top)) (none_falls 0 0 q.tails q.top hs.pages top is hs.fit refl)
          ∙ r.is;
      kept = r.kept;
      recorded = (
        omega (arith, r.recorded, t.enough, t.not_less, t.within, length-take t.recorded q.top.rows),
        omega (arith, r.recorded, r.next_is, t.not_less, length-take t.recorded q.top.rows),
      );
    }
