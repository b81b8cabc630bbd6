-- What an append writes and removes, before the first call of its store.
use Rattle.std.specs.Prelude.{◌≡◌, List, length, map}
use Rattle.dead_letters.specs.Letters.{record_bytes}
use Rattle.dead_letters.specs.Queues.{names, name_in, joined}
use Rattle.dead_letters.specs.Views.{DeadQueue, names_from, last_of, named, sheds, joining, taken_by, behind_append}
use Rattle.dead_letters.specs.declared.letter.DeadLetter.{DeadLetter}
use Rattle.dead_letters.specs.declared.append_plan.Joining.{Joining}
use Rattle.dead_letters.specs.declared.append_plan.AppendPlan.{AppendPlan}

pub record IsJoining (q : DeadQueue) (letters : List DeadLetter) (j : Joining) : Type 0 where
  pub shedding : j.shedding ≡ sheds q letters
  pub bytes : j.bytes.items ≡ joined (map record_bytes (joining q letters))
  pub pieces : j.pieces ≡ taken_by q (joining q letters)

pub record IsPlan (q : DeadQueue) (letters : List DeadLetter) (p : AppendPlan) : Type 0 where
  pub joins : IsJoining q letters p.joining
  pub slot : p.slot ≡ name_in q.folder names
  pub names : p.names.items ≡ names_from q.folder (last_of q) (length (taken_by q (joining q letters)))
  pub gone : p.gone.items ≡ names_from q.folder q.first (sheds q letters).older
  pub turn : p.turn ≡ (behind_append q letters).turn
  pub segments : p.segments ≡ named (behind_append q letters)
  pub sizes : p.sizes ≡ (behind_append q letters).sizes
