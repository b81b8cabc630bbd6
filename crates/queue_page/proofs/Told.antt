-- What a store tells that only looked at its files.
use Rattle.std.proofs.Common.{◌≡◌, ℕ, List, subst}
use Rattle.io_traits.specs.Folders.{Content}
use Rattle.io_traits.specs.Reads.{bytes_of}
use Rattle.queue_page.specs.Views.{PageBufferView}
use Rattle.queue_page.specs.Blocks.{IsPart}

-- what holds of a file as it is read now holds of it as it was read before, since reads give the same
pub over : (now then : Content) (name : List ℕ) (block : PageBufferView) (P : List ℕ → Type 0) → now ≡ then → (IsPart (bytes_of (now name)) block → P (bytes_of (now name))) → IsPart (bytes_of (then name)) block → P (bytes_of (then name))
over now then name block P same so = subst (λ (content : Content). IsPart (bytes_of (content name)) block → P (bytes_of (content name))) same so
