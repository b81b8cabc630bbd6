-- A part of a file that is held in memory.
use Rattle.std.specs.Prelude.{◌≡◌, ◌≤◌, ◌<◌, ℕ, ◌+◌, ◌-◌, min, IsTrue, List, length, take, drop, get_or}
use Rattle.io_traits.specs.Reads.{bytes_of}
use Rattle.io_traits.specs.declared.stores.Store.{Ghosts as StoreWords}
use Rattle.queue_page.specs.Views.{PageBufferView}

-- it holds what the file has from its place on
abbrev pub IsPart : List ℕ → PageBufferView → Type 0
IsPart file block = block.bytes ≡ take (length block.bytes) (drop block.place file)

-- what it holds from a place on, up to another
abbrev pub window_of : PageBufferView → ℕ → ℕ → List ℕ
window_of block place end = take (end - place) (drop (place - block.place) block.bytes)

-- it holds so many bytes from a place on, which it has from there up to another
pub record HoldsFrom (block : PageBufferView) (place end count : ℕ) : Type 0 where
  pub from : block.place ≤ place
  pub held : place ≤ block.place + length block.bytes
  pub enough : count ≤ length (window_of block place end)

-- so many of the first of these bytes, or all, and maybe more of them
pub record IsFront (bytes : List ℕ) (count : ℕ) (front : List ℕ) : Type 0 where
  pub is : front ≡ take (length front) bytes
  pub enough : min count (length bytes) ≤ length front

-- what is left of the part of a file up to an end, from a place on
abbrev pub left_of : List ℕ → ℕ → ℕ → List ℕ
left_of file place end = drop place (take end file)

-- from one place up to another all of a file are bytes
abbrev pub AreBytesIn : ℕ → ℕ → List ℕ → Type 0
AreBytesIn from to file = (i : ℕ) → from ≤ i → i < to → get_or file i 0 < 256

-- of a file that is told, and that a block holds a part of
abbrev pub OnFile : {S : Type 0} → StoreWords S → S → List ℕ → PageBufferView → (List ℕ → Type 0) → Type 0
OnFile store s name block Fact = IsTrue store.tells → IsPart (bytes_of (store.seen s name)) block → Fact (bytes_of (store.seen s name))
