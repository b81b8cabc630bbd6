-- What a stop leaves of a whole queue.
use Rattle.std.proofs.Common.{◌≡◌, inl, ℕ, suc, ◌+◌, ◌<◌, List, [], ◌∷◌, length, Option, sym, ◌∙◌, ap, subst, arith}
use Rattle.crc_frame.specs.Slots.{is_slot}
use Rattle.io_traits.specs.Images.{Image, FileImage, at_rest}
use Rattle.io_traits.specs.Chance.{NoChance}
use Rattle.io_traits.specs.Tails.{passes}
use Rattle.queue_page.specs.Elements.{is_element}
use Rattle.queue_files.specs.Folders.{head, page, checkpoint, Folder, Names, folder_in}
use Rattle.queue_files.specs.Kept.{Page, Queue, first_open_of, state_at, IsTail, AreTails, IsTop, Stands, Rising, IsSound, IsQueue}
use Rattle.queue_files.specs.Resting.{MayRecord, TailHeld, TailsHeld, Held, TailsRest, Rests, TailsMark, Marks}
use Rattle.queue_files.specs.Laws.{RestingIsKept, MarkingIsKept}
use Rattle.queue_files.proofs.Kept.{standing_is_kept}
use Rattle.queue_files.proofs.Torn.{tails_stand, marked_heads_stand, open_heads_stand}

-- a file at rest
file_of : (f : FileImage) (o : Option (List ℕ)) → f ≡ at_rest o → f.file ≡ o
file_of f o is = ap (λ (g : FileImage). g.file) is

-- a checkpoint at rest
pub rests_may_record : (slots : Option (List ℕ)) (turn : ℕ) (s : _) (f : FileImage) → f ≡ at_rest slots → MayRecord slots turn s f
rests_may_record slots turn s f rests = record {
  rests_or_torn = inl rests;
  no_chance = subst (NoChance (passes (is_slot 48))) (sym rests) (record { each = λ place frame is stands. inl stands });
}

pub rising_top : (number end : ℕ) (tails : List Page) (top : Page) → Rising number end tails top → IsSound top
rising_top number end [] top rising = rising.2
rising_top number end (p ∷ tails) top rising = rising_top (suc p.number) (p.least + length p.rows) tails top rising.4

-- ---- while a mark is written

tail_marks : (p : Page) (names : Names) (folder : Folder) (i : Image) → IsSound p → (held : TailHeld p (folder (checkpoint p.number)) (folder (page p.number)))
    → MayRecord (folder (checkpoint p.number)) p.turn (state_at p (first_open_of p) p.rows (length held.bytes)) (i (names (checkpoint p.number)))
    → i (names (page p.number)) ≡ at_rest (folder (page p.number)) → IsTail p (folder_in names i (checkpoint p.number)) (folder_in names i (page p.number))
tail_marks p names folder i sound held may rests =
    subst (IsTail p (folder_in names i (checkpoint p.number))) (sym (file_of (i (names (page p.number))) (folder (page p.number)) rests))
    (tails_stand p (folder (checkpoint p.number)) (folder (page p.number)) (i (names (checkpoint p.number))) sound held may)

marking_tails : (number end : ℕ) (tails : List Page) (top : Page) (names : Names) (folder : Folder) (i : Image) → Rising number end tails top → (held : TailsHeld tails folder)
    → TailsMark tails names folder held i → ((n : ℕ) → n < top.number → i (names (page n)) ≡ at_rest (folder (page n))) → AreTails tails (folder_in names i)
marking_tails number end [] top names folder i rising held may rests = tt
marking_tails number end (p ∷ tails) top names folder i rising held may rests = (
  tail_marks p names folder i rising.3 held.0 may.0 (rests p.number rising.1),
  marking_tails (suc p.number) (p.least + length p.rows) tails top names folder i rising.4 held.1 may.1 rests,
)

marking_stands : (q : Queue) (names : Names) (folder : Folder) (i : Image) → IsQueue q → (held : Held q folder) → Marks q names folder held i → Stands q (folder_in names i)
marking_stands q names folder i is held may =
    let top_file = file_of (i (names (page q.top.number))) (folder (page q.top.number)) (may.pages q.top.number (omega arith)) in
    record {
      tails = marking_tails 0 0 q.tails q.top names folder i is held.tails may.tails (λ n less. may.pages n (omega (arith, less)));
      gone = λ n less none. file_of (i (names (page n))) (folder (page n)) (may.pages n (omega (arith, less))) ∙ held.gone n less none;
      top = subst (IsTop q (folder_in names i head)) (sym top_file)
          (marked_heads_stand q (folder head) (folder (page q.top.number)) (i (names head)) (rising_top 0 0 q.tails q.top is) held.top may.head);
    }

pub marking_is_kept : MarkingIsKept
marking_is_kept q names folder i is held may = standing_is_kept q (folder_in names i) is (marking_stands q names folder i is held may)

-- ---- between two calls

tails_rest : (tails : List Page) (names : Names) (folder : Folder) (i : Image) → (held : TailsHeld tails folder) → TailsRest tails names folder i → TailsMark tails names folder held i
tails_rest [] names folder i held rest = tt
tails_rest (p ∷ tails) names folder i held rest =
    (rests_may_record (folder (checkpoint p.number)) p.turn (state_at p (first_open_of p) p.rows (length held.0.bytes)) (i (names (checkpoint p.number))) rest.0, tails_rest tails names folder i held.1 rest.1)

pub resting_stands : (q : Queue) (names : Names) (folder : Folder) (i : Image) → IsQueue q → (held : Held q folder) → Rests q names folder held i → NoChance (passes is_element) (i (names (page q.top.number))) → Stands q (folder_in names i)
resting_stands q names folder i is held rest chance =
    record {
      tails = marking_tails 0 0 q.tails q.top names folder i is held.tails (tails_rest q.tails names folder i held.tails rest.tails) (λ n less. rest.pages n (λ same. absurd (omega (arith, less, same))));
      gone = λ n less none. file_of (i (names (page n))) (folder (page n)) (rest.pages n (λ same. absurd (omega (arith, less, same)))) ∙ held.gone n less none;
      top = subst (λ o. IsTop q o (folder_in names i (page q.top.number))) (sym (file_of (i (names head)) (folder head) rest.top_slot))
          (open_heads_stand q (folder head) (folder (page q.top.number)) (i (names (page q.top.number))) (rising_top 0 0 q.tails q.top is) held.top (record { image = rest.top_page; no_chance = chance }));
    }

pub resting_is_kept : RestingIsKept
resting_is_kept q names folder i is held rest chance = standing_is_kept q (folder_in names i) is (resting_stands q names folder i is held rest chance)
