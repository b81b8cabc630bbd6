-- Rows of a page that are read for a batch: the next ones, as many as a batch may have.
use Rattle.std.specs.Prelude.{◌≡◌, ℕ, zero, suc, ◌+◌, ◌-◌, ◌||◌, not, min, nat_lt, Bool, true, List, [], ◌∷◌, ◌++◌, length, if◌then◌else◌, Option, Some, None, Result, Ok, Err, ⊤}
use Rattle.io_traits.specs.declared.queue_faults.Damage.{Damage}
use Rattle.io_traits.specs.declared.queue_faults.QueueFault.{QueueFault}
use Rattle.io_traits.specs.declared.queue_faults.QueueFault.TheVariants as f
use Rattle.queue_page.specs.Blocks.{left_of}
use Rattle.queue_page.specs.Elements.{element_at, and_then}
use Rattle.queue_page.specs.Views.{PageView}
use Rattle.queue_page.specs.declared.row.PageRow.{PageRow}
use Rattle.queue_core.specs.declared.page_rows.QueueRow.{QueueRow}
use Rattle.queue_core.specs.declared.page_rows.BatchReader.{BatchReader}

abbrev pub given : PageRow → QueueRow
given r = record { number = r.number; origin = r.origin; event = r.event }

-- ---- how many rows a batch has

-- so many bytes of bodies with those of a row more, if they are no more than these at most; a first row may have any number
abbrev pub with_more : ℕ → Option ℕ → ℕ → Option ℕ
with_more most None size = Some size
with_more most (Some bytes) size = if nat_lt most (bytes + size) then None else Some (bytes + size)

-- it has as many rows as it may, or the next row has no room in it
abbrev pub is_over : BatchReader → Bool
is_over r = r.closed || not (nat_lt (length r.rows) r.most_rows)

-- ---- a row is read

-- it is passed over
abbrev pub passed : PageRow → BatchReader → BatchReader
passed row r = record r { number = r.number + 1; place = row.next }

-- it joins the batch, whose bodies have so many bytes then; or it has no room in it, and is read again for the next batch
abbrev pub joined : PageRow → Option ℕ → BatchReader → BatchReader
joined row None r = record r { closed = true }
joined row (Some bytes) r = record r { number = r.number + 1; place = row.next; bytes = Some bytes; rows = r.rows ++ given row ∷ [] }

-- A row that stands at this place: one below this number was acknowledged, and is passed over. An element has 16 bytes beside its body.
abbrev pub behind_row : ℕ → ℕ → PageRow → BatchReader → BatchReader
behind_row from place row r = if nat_lt r.number from then passed row r else joined row (with_more r.most_bytes r.bytes (row.next - place - 16)) r

-- ---- a page is read

-- where the next row stands in a page: a place behind its end counts as the end
abbrev pub place_in : PageView → BatchReader → ℕ
place_in p r = min r.place p.state.length

-- the number behind the last row
abbrev pub end_of : PageView → ℕ
end_of p = p.state.least + p.state.count

-- a fault with the file that is damaged
abbrev pub or_damage : {X M : Type 0} → Result X M → (M → Damage) → Result X Damage
or_damage (Ok x) damage = Ok x
or_damage (Err m) damage = Err (damage m)

-- the next row of a page in a file of this name, with these bytes
abbrev pub next_at : List ℕ → PageView → List ℕ → BatchReader → Result PageRow Damage
next_at name p file r =
    or_damage (element_at p.version r.number (place_in p r) (left_of file (place_in p r) p.state.length)) (λ m. record { file = name; place = m.place; found = m.found; expected = m.expected })

-- So many rows of a page, one behind the other, until the batch has as many as it may; or the first damage of an element that is read for it.
unfoldable pub rows_read : List ℕ → PageView → ℕ → List ℕ → ℕ → BatchReader → Result BatchReader Damage
rows_read name p from file zero r = Ok r
rows_read name p from file (suc count) r =
    if is_over r then Ok r else and_then (next_at name p file r) (λ row. rows_read name p from file count (behind_row from (place_in p r) row r))

-- what was read is this, or this damage was found, where the store and memory lasted
abbrev pub Finds : {X Y : Type 0} → (X → Y) → Result X QueueFault → Result Y Damage → Type 0
Finds view (Ok x) read = read ≡ Ok (view x)
Finds view (Err (f.Damaged d)) read = read ≡ Err d
Finds view (Err f.Fault) read = ⊤
Finds view (Err f.Memory) read = ⊤
