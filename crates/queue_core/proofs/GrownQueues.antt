-- What is held in memory of a queue that has a row more, or a new head page.
use Rattle.std.proofs.Common.{◌≡◌, ℕ, suc, ◌+◌, ◌-◌, ◌<◌, false, List, [], ◌∷◌, ◌++◌, length, map, refl, sym, ap, subst, arith}
use Rattle.std.specs.List.{insert}
use Rattle.std.proofs.Math.Path.{ap₂}
use Rattle.queue_files.specs.Folders.{page, checkpoint, names_in}
use Rattle.queue_page.specs.Pages.{with_element}
use Rattle.queue_files.specs.declared.marking.Mark.{Mark}
use Rattle.queue_files.specs.declared.rolling.NextPage.{NextPage}
use Rattle.queue_core.specs.Calls.{IsHeldQueue, behind_mark, marks_of, tail_bytes, with_marked, with_recorded}
use Rattle.queue_core.specs.Views.{OpenPageView, QueueView}
use Rattle.queue_core.specs.Writing.{behind_append, behind_roll, sealed}
use Rattle.queue_core.proofs.HeldQueues.{long_named, marked_held, marks_held}
use Rattle.queue_core.proofs.MarkRuns.{Named, first_file, other_files}

tails_bytes_more : (tails : List OpenPageView) (o : OpenPageView) → tail_bytes (tails ++ o ∷ []) ≡ tail_bytes tails + o.page.state.length
tails_bytes_more [] o = omega arith
tails_bytes_more (t ∷ tails) o = omega (arith, tails_bytes_more tails o)

filed_more : (folder : List ℕ) (tails : List OpenPageView) (o : OpenPageView) → map (λ (x : OpenPageView). x.file) tails ≡ map (λ (x : OpenPageView). names_in folder (page x.number)) tails → o.file ≡ names_in folder (page o.number)
    → map (λ (x : OpenPageView). x.file) (tails ++ o ∷ []) ≡ map (λ (x : OpenPageView). names_in folder (page x.number)) (tails ++ o ∷ [])
filed_more folder [] o filed is = ap (λ l. l ∷ []) is
filed_more folder (t ∷ tails) o filed is = ap₂ (λ (x : List ℕ) (l : List (List ℕ)). x ∷ l) (first_file filed) (filed_more folder tails o (other_files filed) is)

named_more : (folder : List ℕ) (tails : List OpenPageView) (o : OpenPageView) (marks : List Mark) (m : Mark) → Named folder tails marks → m.file ≡ names_in folder (checkpoint o.number) → Named folder (tails ++ o ∷ []) (insert marks (length tails) m)
named_more folder [] o [] m named is = absurd (omega (arith, ap length named))
named_more folder [] o (x ∷ marks) m named is = ap₂ (λ (x : List ℕ) (l : List (List ℕ)). x ∷ l) is named
named_more folder (t ∷ tails) o [] m named is = absurd (omega (arith, ap length named))
named_more folder (t ∷ tails) o (x ∷ marks) m named is = ap₂ (λ (x : List ℕ) (l : List (List ℕ)). x ∷ l) (first_file named) (named_more folder tails o marks m (other_files named) is)

long_map : (f : OpenPageView → OpenPageView) (tails : List OpenPageView) → length (map f tails) ≡ length tails
long_map f [] = refl
long_map f (o ∷ tails) = ap suc (long_map f tails)

pub rolled_held : (v : QueueView) (marks : List Mark) (bytes size : ℕ) (m : Mark) → m.file ≡ names_in v.folder (checkpoint v.top.number) → IsHeldQueue v marks bytes
    → IsHeldQueue (behind_append size (behind_roll (behind_mark v))) (insert (marks_of v.tails v.top marks) (length (marks_of v.tails v.top marks) - 1) m) (bytes + (size + 1))
rolled_held v marks bytes size m is held =
    let now = marked_held v marks bytes held in
    let ms = marks_of v.tails v.top marks in
    let tails = map with_marked v.tails in
    let long : length ms - 1 ≡ length tails = omega (arith, long_named v.folder tails ms now.marks_are) in
    record {
      tails = filed_more v.folder tails (sealed (with_recorded v.top)) now.tails now.top;
      top = refl;
      marks_are = subst (λ n. Named v.folder (tails ++ sealed (with_recorded v.top) ∷ []) (insert ms n m)) (sym long) (named_more v.folder tails (sealed (with_recorded v.top)) ms m now.marks_are is);
      bytes_are = omega (arith, now.bytes_are, tails_bytes_more tails (sealed (with_recorded v.top)));
    }

-- with room for more pages, and marks that are set
pub reserved_held : (v : QueueView) (marks ms : List Mark) (bytes : ℕ) (tails : List OpenPageView) → tails ≡ v.tails → ms ≡ marks_of v.tails v.top marks → IsHeldQueue v marks bytes → IsHeldQueue (record v { tails = tails }) ms bytes
reserved_held v marks ms bytes tails is are held =
    subst (λ (l : List OpenPageView). IsHeldQueue (record v { tails = l }) ms bytes) (sym is) (subst (λ (m : List Mark). IsHeldQueue v m bytes) (sym are) (marks_held v marks bytes held))

pub some_marks : (v : QueueView) (marks ms : List Mark) (bytes : ℕ) → ms ≡ marks_of v.tails v.top marks → IsHeldQueue v marks bytes → 0 < length ms
some_marks v marks ms bytes are held = omega (arith, ap length are, long_named v.folder v.tails (marks_of v.tails v.top marks) (marks_held v marks bytes held).marks_are)

-- a page with one row that was begun as this says
abbrev pub begun_top : ℕ → NextPage → OpenPageView
begun_top n x = record { number = x.state.page; file = x.file; page = with_element (record { version = 2; state = x.state }) n; acknowledged = false ∷ []; from = x.state.least; turn = x.turn }

-- the same folder and pages
pub still_held : (a b : QueueView) (marks : List Mark) (bytes : ℕ) → b.folder ≡ a.folder → b.tails ≡ a.tails → b.top ≡ a.top → IsHeldQueue a marks bytes → IsHeldQueue b marks bytes
still_held a b marks bytes folder tails top held =
    let same : record a { limits = b.limits; unread = b.unread; cursor = b.cursor } ≡ b = λ i. record { folder = sym folder i; limits = b.limits; tails = sym tails i; top = sym top i; unread = b.unread; cursor = b.cursor } in
    subst (λ (x : QueueView). IsHeldQueue x marks bytes) same (record { tails = held.tails; top = held.top; marks_are = held.marks_are; bytes_are = held.bytes_are })
