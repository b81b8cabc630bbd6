-- The longest run of intact elements with the next numbers at the front of some bytes.
use Rattle.std.specs.Prelude.{ℕ, zero, suc, ◌+◌, ◌==◌, List, [], ◌∷◌, ◌++◌, length, drop, if◌then◌else◌, Option, Some, None, Result, Ok, Err}
use Rattle.queue_page.specs.Elements.{element_at, total_of}
use Rattle.queue_page.specs.declared.fault.Mismatch.{Mismatch}
use Rattle.queue_page.specs.declared.row.PageRow.{PageRow}
use Rattle.queue_page.specs.declared.run.RunEnd.{RunEnd}

-- the rows, the place behind the last, and the fault of the element there, if there is one and it was looked at
pub record Run : Type 0 where
  pub rows : List PageRow
  pub end : ℕ
  pub stop : Option Mismatch

abbrev pub no_run : ℕ → Option Mismatch → Run
no_run place stop = record { rows = []; end = place; stop = stop }

-- rows in front of a run
abbrev pub behind : List PageRow → Run → Run
behind rows run = record { rows = rows ++ run.rows; end = run.end; stop = run.stop }

-- an element, and the run behind it
abbrev pub run_by : ℕ → Result PageRow Mismatch → Run → Run
run_by place (Ok row) rest = behind (row ∷ []) rest
run_by place (Err fault) rest = no_run place (Some fault)

-- at most so many elements, the first with this number and at this place
unfoldable pub run : ℕ → ℕ → ℕ → ℕ → List ℕ → Run
run zero version number place bytes = no_run place None
run (suc limit) version number place bytes =
    if length bytes == 0 then no_run place None
    else run_by place (element_at version number place bytes) (run limit version (number + 1) (place + total_of bytes) (drop (total_of bytes) bytes))

-- how many rows it has, and where it ends
abbrev pub end_of : Run → RunEnd
end_of run = record { count = length run.rows; end = run.end; stop = run.stop }
