-- What a reader returned, beside what reading on lists gives.
use Rattle.std.specs.Prelude.{◌≡◌, ℕ, Result, Ok, Err, ⊤}
use Rattle.crc_frame.specs.declared.stop.Stop.{Stop}
use Rattle.crc_frame.specs.declared.stop.Stop.TheVariants.{Left, Memory}

-- reading stops there too, unless memory ran out
abbrev pub StopsAs : {Y : Type 0} → Stop → Result Y ℕ → Type 0
StopsAs Memory read = ⊤
StopsAs (Left left) read = read ≡ Err left

-- what was returned, seen by view, is what reading gives, unless memory ran out
abbrev pub Gives : {X Y : Type 0} → (X → Y) → Result X Stop → Result Y ℕ → Type 0
Gives view (Ok x) read = read ≡ Ok (view x)
Gives view (Err stop) read = StopsAs stop read
