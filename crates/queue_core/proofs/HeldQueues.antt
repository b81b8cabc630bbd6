-- What is held in memory of a queue stays so.
use Rattle.std.proofs.Common.{◌≡◌, ℕ, ◌+◌, ◌-◌, List, [], ◌∷◌, ◌++◌, length, map, remove, refl, sym, ◌∙◌, ap, subst, arith}
use Rattle.std.proofs.Math.Path.{ap₂}
use Rattle.queue_files.specs.Folders.{head, page, checkpoint, names_in}
use Rattle.queue_files.specs.declared.marking.Mark.{Mark}
use Rattle.queue_core.specs.Calls.{IsHeldQueue, behind_acknowledge, behind_mark, behind_purge, marks_of, tail_bytes, with_acknowledged, with_marked, with_recorded}
use Rattle.queue_core.specs.Views.{OpenPageView, QueueView}
use Rattle.queue_core.specs.declared.limits.Numbers.{Numbers}
use Rattle.queue_core.specs.declared.queue.Queue.TheInside.{Inside}
use Rattle.queue_core.proofs.MarkRuns.{Named, other_files}
use Rattle.queue_core.proofs.PurgeRuns.{Goes, filed_left, named_left}

-- the queue as it is seen
abbrev pub view : Inside → QueueView
view q = record { folder = q.folder; limits = q.limits; tails = q.tails.items; top = q.top; unread = q.unread; cursor = q.cursor }

-- what pages have that no call changes
pub same_map : {Y : Type 0} (f : OpenPageView → Y) (g : OpenPageView → OpenPageView) → ((o : OpenPageView) → f (g o) ≡ f o) → (tails : List OpenPageView) → map f (map g tails) ≡ map f tails
same_map f g same [] = refl
same_map {Y = Y} f g same (o ∷ tails) = ap₂ (λ (y : Y) (l : List Y). y ∷ l) (same o) (same_map f g same tails)

-- with each page changed so that its number, its file and its bytes stay
module _ (g : OpenPageView → OpenPageView) (file_same : (o : OpenPageView) → (g o).file ≡ o.file) (number_same : (o : OpenPageView) → (g o).number ≡ o.number)
    (bytes_same : (o : OpenPageView) → (g o).page.state.length ≡ o.page.state.length) where
  same_bytes : (tails : List OpenPageView) → tail_bytes (map g tails) ≡ tail_bytes tails
  same_bytes [] = refl
  same_bytes (o ∷ tails) = ap₂ (λ (a b : ℕ). a + b) (bytes_same o) (same_bytes tails)

  pub changed_held : (v : QueueView) (marks : List Mark) (bytes : ℕ) (top : OpenPageView) → top.file ≡ v.top.file → top.number ≡ v.top.number → top.page.state.length ≡ v.top.page.state.length → IsHeldQueue v marks bytes
      → IsHeldQueue (record v { tails = map g v.tails; top = top }) marks bytes
  changed_held v marks bytes top file number long held = record {
    tails = same_map (λ (o : OpenPageView). o.file) g file_same v.tails ∙ held.tails ∙ sym (same_map (λ (o : OpenPageView). names_in v.folder (page o.number)) g (λ o. ap (λ n. names_in v.folder (page n)) (number_same o)) v.tails);
    top = file ∙ held.top ∙ ap (λ n. names_in v.folder (page n)) (sym number);
    marks_are = held.marks_are ∙ ap (λ (l : List (List ℕ)). l ++ names_in v.folder head ∷ [])
        (sym (same_map (λ (o : OpenPageView). names_in v.folder (checkpoint o.number)) g (λ o. ap (λ n. names_in v.folder (checkpoint n)) (number_same o)) v.tails));
    bytes_are = omega (arith, held.bytes_are, same_bytes v.tails, long);
  }

pub acknowledged_held : (numbers : Numbers) (v : QueueView) (marks : List Mark) (bytes : ℕ) → IsHeldQueue v marks bytes → IsHeldQueue (behind_acknowledge numbers v) marks bytes
acknowledged_held numbers v marks bytes held = changed_held (with_acknowledged numbers) (λ o. refl) (λ o. refl) (λ o. refl) v marks bytes (with_acknowledged numbers v.top) refl refl refl held

-- the marks of a queue keep their names
pub files_same : (tails : List OpenPageView) (top : OpenPageView) (marks : List Mark) → length marks ≡ length tails + 1 → map (λ (m : Mark). m.file) (marks_of tails top marks) ≡ map (λ (m : Mark). m.file) marks
files_same [] top [] long = refl
files_same [] top (m ∷ marks) long = refl
files_same (o ∷ tails) top [] long = refl
files_same (o ∷ tails) top (m ∷ marks) long = ap (λ l. m.file ∷ l) (files_same tails top marks (omega (arith, long)))

pub long_named : (folder : List ℕ) (tails : List OpenPageView) (marks : List Mark) → Named folder tails marks → length marks ≡ length tails + 1
long_named folder [] [] named = absurd (omega (arith, ap length named))
long_named folder [] (m ∷ []) named = refl
long_named folder [] (m ∷ k ∷ marks) named = absurd (omega (arith, ap length named))
long_named folder (o ∷ tails) [] named = absurd (omega (arith, ap length named))
long_named folder (o ∷ tails) (m ∷ marks) named = omega (arith, long_named folder tails marks (other_files named))

pub marks_held : (v : QueueView) (marks : List Mark) (bytes : ℕ) → IsHeldQueue v marks bytes → IsHeldQueue v (marks_of v.tails v.top marks) bytes
marks_held v marks bytes held = record {
  tails = held.tails;
  top = held.top;
  marks_are = files_same v.tails v.top marks (long_named v.folder v.tails marks held.marks_are) ∙ held.marks_are;
  bytes_are = held.bytes_are;
}

pub marked_held : (v : QueueView) (marks : List Mark) (bytes : ℕ) → IsHeldQueue v marks bytes → IsHeldQueue (behind_mark v) (marks_of v.tails v.top marks) bytes
marked_held v marks bytes held =
    changed_held with_marked (λ o. refl) (λ o. refl) (λ o. refl) v (marks_of v.tails v.top marks) bytes (with_recorded v.top) refl refl refl (marks_held v marks bytes held)

pub purged_held : (v : QueueView) (marks : List Mark) (bytes : ℕ) (i : ℕ) (o : OpenPageView) → Goes v.tails i o → IsHeldQueue v marks bytes → IsHeldQueue (behind_purge v) (remove marks i) (bytes - o.page.state.length)
purged_held v marks bytes i o goes held = record {
  tails = subst (λ (l : List OpenPageView). map (λ (x : OpenPageView). x.file) l ≡ map (λ (x : OpenPageView). names_in v.folder (page x.number)) l) goes.left (filed_left v.folder v.tails i held.tails);
  top = held.top;
  marks_are = subst (λ (l : List OpenPageView). Named v.folder l (remove marks i)) goes.left (named_left v.folder v.tails marks i goes.within held.marks_are);
  bytes_are = omega (arith, held.bytes_are, goes.bytes);
}
