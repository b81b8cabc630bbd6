-- What a folder holds goes by its own files.
use Rattle.std.proofs.Common.{◌≡◌, List, [], ◌∷◌, refl, sym, ap, ◌∙◌, subst}
use Rattle.io_traits.specs.Images.{Image}
use Rattle.io_traits.specs.Tails.{TailImage}
use Rattle.queue_files.specs.Folders.{Role, head, page, checkpoint, Folder, Names, IsOwn, folder_in}
use Rattle.queue_files.specs.Found.{found}
use Rattle.queue_files.specs.Kept.{Page, Queue, Kept}
use Rattle.queue_files.specs.Resting.{Held, TailsRest, Rests}
use Rattle.queue_files.specs.Laws.{FoundBeside, KeptBeside}

same_folder : (names : Names) (i d : Image) → ((name : List _) → IsOwn names name → i name ≡ d name) → folder_in names i ≡ folder_in names d
same_folder names i d same = λ k role. (same (names role) (role, refl) k).file

pub found_beside : FoundBeside
found_beside names i d same = ap found (same_folder names i d same)

pub kept_beside : KeptBeside
kept_beside names q i d same kept = subst (Kept q) (sym (same_folder names i d same)) kept

-- ---- which of them are at rest

tails_on : (tails : List Page) (names : Names) (folder : Folder) (i d : Image) → ((role : Role) → i (names role) ≡ d (names role)) → TailsRest tails names folder d → TailsRest tails names folder i
tails_on [] names folder i d same rest = tt
tails_on (p ∷ tails) names folder i d same rest = (same (checkpoint p.number) ∙ rest.0, tails_on tails names folder i d same rest.1)

pub rests_on : (q : Queue) (names : Names) (folder : Folder) (held : Held q folder) (i d : Image) → ((role : Role) → i (names role) ≡ d (names role)) → Rests q names folder held d → Rests q names folder held i
rests_on q names folder held i d same rest = record {
  top_slot = same head ∙ rest.top_slot;
  tails = tails_on q.tails names folder i d same rest.tails;
  pages = λ n other. same (page n) ∙ rest.pages n other;
  top_page = subst (TailImage held.top.front held.top.tail) (sym (same (page q.top.number))) rest.top_page;
}
