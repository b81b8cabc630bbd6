-- The look for a connection, by its answer.
use Rattle.std.proofs.Common.{◌≡◌, ◌<◌, ℕ, Bool, true, List, [], ◌∷◌, ◌++◌, Result, Ok, Err, length, refl, ap}
use Rattle.std.specs.Prelude.{IsErr}
use Rattle.std.proofs.lemmas.Bool.{false≢true}
use Rattle.io_traits.specs.Connections.{IsNumbered, IsOver, KeepsReads, Lessens, brought}
use Rattle.io_traits.specs.Counts.{HasCause}
use Rattle.io_traits.specs.Telling.{Grows}
use Rattle.io_traits.specs.declared.faults.Failed.{Failed}
use Rattle.io_traits.specs.declared.links.Come.{Come}
use Rattle.io_traits.specs.declared.links.Come.TheVariants.{Conn, NotYet, Ended}
use Rattle.io_traits.specs.declared.links.Links.{Ghosts as LinksWords}
use Rattle.io_traits.proofs.Causes.{cause_of}
use Rattle.in_lines.specs.declared.poll_outcome.PollFault.{PollFault}
use Rattle.in_lines.specs.declared.poll_outcome.PollFault.TheVariants.{Fault}
use Rattle.in_tcp.specs.Asks.{Answered, Looked, come_in, is_ended_come, most_open, over_or}

fault_is : (r : Result Come Failed) → over_or r ≡ Err Fault → IsErr r
fault_is (Ok c) is = absurd cc
fault_is (Err e) is = refl

is_fault : (r : Result Come Failed) → IsErr r → over_or r ≡ Err Fault
is_fault (Ok c) is = absurd (false≢true is)
is_fault (Err e) is = refl

ended_is : (r : Result Come Failed) → is_ended_come r ≡ true → r ≡ Ok Ended
ended_is (Ok (Conn n)) is = absurd (false≢true is)
ended_is (Ok NotYet) is = absurd (false≢true is)
ended_is (Ok Ended) is = refl
ended_is (Err e) is = absurd (false≢true is)

wait_is : (r : Result Come Failed) → Answered r ≡ Answered (Ok NotYet) → r ≡ Ok NotYet
wait_is r is = cc

module _ {L : Type 0} (links : LinksWords L) where
  pub answered : (host : List ℕ) (port : ℕ) (opened opened_new : List ℕ) (old new : L) (r : Result Come Failed) (result : Result Bool PollFault) → length opened < most_open
      → Grows (links.looks old) (links.looks new) ((host, port) ∷ []) → IsNumbered r (links.came old) (links.came new) → Lessens (links.coming old) (links.coming new) (brought r)
      → (r ≡ Ok Ended → IsOver (links.coming new)) → KeepsReads links.given links.left links.faults links.waits old new
      → HasCause (links.accept_faults old) (links.accept_faults new) (IsErr r) → HasCause (links.accept_waits old) (links.accept_waits new) (r ≡ Ok NotYet)
      → opened_new ≡ opened ++ come_in r → result ≡ over_or r → Looked links host port opened opened_new old new result
  answered host port opened opened_new old new r result room place came coming end reads cause waits is answer = record {
    asked = Answered r;
    room = room;
    looks = record {
      places = place;
      came = came;
      coming = coming;
      over = λ over. end (ended_is r over);
      fault = cause_of (fault_is r) (is_fault r) cause;
      waits = cause_of (wait_is r) (ap Answered) waits;
    };
    keeps = reads;
    connections = is;
    answer = answer;
  }
