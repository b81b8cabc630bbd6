-- What an opening, and so a check, tells of a damage.
use Rattle.std.specs.Prelude.{◌≢◌, List, ℕ, Err}
use Rattle.io_traits.specs.Reads.{bytes_of}
use Rattle.io_traits.specs.declared.queue_faults.Damage.{Damage}
use Rattle.io_traits.specs.declared.queue_faults.QueueFault.TheVariants as f
use Rattle.queue_page.specs.Laws.{AreBytes}
use Rattle.queue_files.specs.Folders.{Role, Folder}
use Rattle.queue_core.specs.Opening.{FindsQueue}
use Rattle.queue_core.specs.declared.limits.Limits.{Limits}

-- the files of a folder hold bytes
abbrev pub HoldsBytes : Folder → Type 0
HoldsBytes files = (role : Role) → AreBytes (bytes_of (files role))

-- Of a damage that an opening tells, the number that was found isn't the one that was expected.
abbrev pub OpenedDamageDiffers : Type 0
OpenedDamageDiffers =
    (folder : List ℕ) (limits : Limits) (files : Folder) (damage : Damage) → HoldsBytes files → FindsQueue folder limits files (Err (f.Damaged damage)) → damage.found ≢ damage.expected
