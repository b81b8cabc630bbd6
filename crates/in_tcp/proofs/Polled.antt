-- A poll, of its parts.
use Rattle.std.proofs.Common.{◌≡◌, ◌≤◌, inl, inr, ℕ, suc, ℤ, Bool, true, false, not, List, [], ◌∷◌, ◌++◌, Result, Ok, Err, length, if◌then◌else◌, refl, sym, ap, ap₂, ◌∙◌, subst, arith, append-nil, length-append}
use Rattle.std.specs.Prelude.{is_ok}
use Rattle.std.specs.List.{AllByRecursion}
use Rattle.std.specs.declared.alloc.AllocError.{AllocError}
use Rattle.io_traits.specs.Telling.{Grows}
use Rattle.in_lines.specs.Sources.{lefts_after, made_from}
use Rattle.in_tcp.specs.Lines.{line_limit}
use Rattle.io_traits.specs.Connections.{IsOver, KeepsLooks, KeepsReads, Lessens}
use Rattle.io_traits.specs.declared.links.Links.{Ghosts as LinksWords}
use Rattle.io_traits.specs.declared.links.Come.TheVariants.{Conn, NotYet, Ended}
use Rattle.io_traits.proofs.Causes.{cause_of, cause_to}
use Rattle.io_traits.proofs.Growth.{grows_then}
use Rattle.in_lines.specs.declared.poll_outcome.Got.{Got}
use Rattle.in_lines.specs.declared.poll_outcome.PollFault.{PollFault}
use Rattle.in_lines.specs.declared.poll_outcome.PollFault.TheVariants.{Fault, Memory}
use Rattle.in_tcp.specs.Asks.{Answered, Asked, Full, HasRoom, IsCounted, Looked, Looks, NoRoom, answer_of, brought_by, came_in, is_over, most_open, places_of}
use Rattle.in_tcp.specs.Held.{lefts_in, lines_in}
use Rattle.in_tcp.specs.Inputs.{Answers, ReadAnswer, StaysSet, Tcp, WasPolled, got_by, got_in, lefts_of, lines_of, poll_answer}
use Rattle.in_tcp.specs.Reads.{AllCame, AreRead, FoundIn, IsFoundIn, ReadOf, Rising, closes, left_open, looks_by, numbers, piece_found}
use Rattle.in_tcp.specs.Took.{Took, is_none}
use Rattle.in_tcp.specs.declared.polling.Connected.{Connected}
use Rattle.in_tcp.proofs.Standing.{came_come, came_new, rising_come, rising_new, stands_on}
use Rattle.in_tcp.proofs.Turns.{none_read}

-- a look that was answered well
over_is : (asked : Asked) (over : Bool) → Ok over ≡ answer_of asked → over ≡ is_over asked
over_is Full over is = cc
over_is (Answered (Ok c)) over is = cc
over_is (Answered (Err e)) over is = absurd cc
over_is NoRoom over is = absurd cc

-- the answer of a poll whose look was answered well
answers_by : (asked : Asked) (over : Bool) (reads : List ReadOf) (unread : List ℕ) (old new : Tcp) (result : Result Got PollFault) → Ok over ≡ answer_of asked → ReadAnswer asked unread new result → Answers asked reads unread old new result
answers_by Full over reads unread old new result is answer = answer
answers_by (Answered (Ok c)) over reads unread old new result is answer = answer
answers_by (Answered (Err e)) over reads unread old new result is answer = absurd cc
answers_by NoRoom over reads unread old new result is answer = absurd cc

fault_same : (f : PollFault) → ◌≡◌ {A = Result Bool PollFault} (Err f) (Err Fault) → f ≡ Fault
fault_same f is = cc

memory_same : (f : PollFault) → ◌≡◌ {A = Result Bool PollFault} (Err f) (Err Memory) → f ≡ Memory
memory_same f is = cc

answers_not : (asked : Asked) (f : PollFault) (unread : List ℕ) (old new : Tcp) → Err f ≡ answer_of asked → new ≡ old → Answers asked [] unread old new (Err f)
answers_not Full f unread old new is same = absurd cc
answers_not (Answered (Ok c)) f unread old new is same = absurd cc
answers_not (Answered (Err e)) f unread old new is same = (ap Err (fault_same f is), refl, same)
answers_not NoRoom f unread old new is same = (ap Err (memory_same f is), refl, same)

-- where the look failed or was not made, no connection came
none_came : (asked : Asked) (f : PollFault) → Err f ≡ answer_of asked → came_in asked ≡ []
none_came Full f is = absurd cc
none_came (Answered (Ok c)) f is = absurd cc
none_came (Answered (Err e)) f is = refl
none_came NoRoom f is = refl

fault_by : (asked : Asked) (reads : List ReadOf) (unread : List ℕ) (old new : Tcp) (result : Result Got PollFault) → Answers asked reads unread old new result → result ≡ Err Fault → answer_of asked ≡ Err Fault
fault_by Full reads unread old new result (inl ok) is = absurd (let no : Ok (got_by false new) ≡ Err Fault = sym ok.0 ∙ is in cc)
fault_by Full reads unread old new result (inr memory) is = absurd (let no : Err Memory ≡ Err Fault = sym memory ∙ is in cc)
fault_by (Answered (Ok c)) reads unread old new result (inl ok) is = absurd (let no : Ok (got_by (is_over (Answered (Ok c))) new) ≡ Err Fault = sym ok.0 ∙ is in cc)
fault_by (Answered (Ok c)) reads unread old new result (inr memory) is = absurd (let no : Err Memory ≡ Err Fault = sym memory ∙ is in cc)
fault_by (Answered (Err e)) reads unread old new result answer is = refl
fault_by NoRoom reads unread old new result answer is = absurd (let no : Err Memory ≡ Err Fault = sym answer.0 ∙ is in cc)

by_fault : (asked : Asked) (reads : List ReadOf) (unread : List ℕ) (old new : Tcp) (result : Result Got PollFault) → Answers asked reads unread old new result → answer_of asked ≡ Err Fault → result ≡ Err Fault
by_fault Full reads unread old new result answer is = absurd cc
by_fault (Answered (Ok c)) reads unread old new result answer is = absurd cc
by_fault (Answered (Err e)) reads unread old new result answer is = answer.0
by_fault NoRoom reads unread old new result answer is = absurd cc

-- no more are open than were read or came
length_left : (reads : List ReadOf) → length (left_open reads) ≤ length (numbers reads)
length_left [] = omega arith
length_left (r ∷ reads) = by (closes (piece_found r.1)) (length_left reads)
  where
    by : (b : Bool) → length (left_open reads) ≤ length (numbers reads) → length (if b then left_open reads else r.0 ∷ left_open reads) ≤ suc (length (numbers reads))
    by true le = omega (arith, le)
    by false le = omega (arith, le)

came_short : (asked : Asked) (xs : List ℕ) → HasRoom asked (length xs) → length xs ≤ most_open → length (xs ++ came_in asked) ≤ most_open
came_short Full xs room le = omega (arith, le, length-append xs (came_in Full))
came_short (Answered (Ok (Conn n))) xs room le = omega (arith, room, length-append xs (n ∷ []))
came_short (Answered (Ok NotYet)) xs room le = omega (arith, le, length-append xs (came_in (Answered (Ok NotYet))))
came_short (Answered (Ok Ended)) xs room le = omega (arith, le, length-append xs (came_in (Answered (Ok Ended))))
came_short (Answered (Err e)) xs room le = omega (arith, le, length-append xs (came_in (Answered (Err e))))
came_short NoRoom xs room le = omega (arith, le, length-append xs (came_in NoRoom))

module _ {L : Type 0} (links : LinksWords L) where
  abbrev Keeps : L → L → Type 0
  Keeps old new = KeepsLooks links.looks links.came links.coming links.accept_faults links.accept_waits old new

  -- what the look left, once the connections were read
  counted_on : (asked : Asked) (before mid now : ℕ) → now ≡ mid → IsCounted asked before mid → IsCounted asked before now
  counted_on asked before mid now same counted = subst (IsCounted asked before) (sym same) counted

  looks_on : (host : List ℕ) (port : ℕ) (asked : Asked) (old mid new : L) → Looks links host port asked old mid → Keeps mid new → Looks links host port asked old new
  looks_on host port asked old mid new k keeps = record {
    places = subst (λ l. Grows (links.looks old) l (places_of asked host port)) (sym keeps.looks) k.places;
    came = counted_on asked (links.came old) (links.came mid) (links.came new) keeps.came k.came;
    coming = subst (λ l. Lessens (links.coming old) l (brought_by asked)) (sym keeps.coming) k.coming;
    over = λ is. subst IsOver (sym keeps.coming) (k.over is);
    fault = cause_to k.fault keeps.faults;
    waits = cause_to k.waits keeps.waits;
  }

  found_from : (old mid new : L) (r : ReadOf) → KeepsReads links.given links.left links.faults links.waits old mid → IsFoundIn links mid new r → IsFoundIn links old new r
  found_from old mid new r k f =
      subst (λ l. FoundIn l (links.left new r.0) (links.faults old r.0) (links.faults new r.0) (links.waits old r.0) (links.waits new r.0) r.1) (k.left r.0)
      (subst (λ x. FoundIn (links.left mid r.0) (links.left new r.0) x (links.faults new r.0) (links.waits old r.0) (links.waits new r.0) r.1) (k.faults r.0)
      (subst (λ w. FoundIn (links.left mid r.0) (links.left new r.0) (links.faults mid r.0) (links.faults new r.0) w (links.waits new r.0) r.1) (k.waits r.0) f))

  each_from : (old mid new : L) (reads : List ReadOf) → KeepsReads links.given links.left links.faults links.waits old mid → AllByRecursion (IsFoundIn links mid new) reads → AllByRecursion (IsFoundIn links old new) reads
  each_from old mid new [] k each = tt
  each_from old mid new (r ∷ reads) k each = (found_from old mid new r k each.0, each_from old mid new reads k each.1)

  read_from : (old mid new : L) (reads : List ReadOf) → KeepsReads links.given links.left links.faults links.waits old mid → AreRead links mid new reads → AreRead links old new reads
  read_from old mid new reads k r = record {
    given = grows_then k.given r.given;
    each = each_from old mid new reads k r.each;
    left = λ n none. r.left n none ∙ k.left n;
    faults = λ n none. r.faults n none ∙ k.faults n;
    waits = λ n none. r.waits n none ∙ k.waits n;
  }

  -- the connections behind the look
  pub look_came : (host : List ℕ) (port : ℕ) (opened now : List ℕ) (old new : L) (result : Result Bool PollFault) → Looked links host port opened now old new result → AllCame (links.came old) opened → AllCame (links.came new) now
  look_came host port opened now old new result k all = subst (AllCame (links.came new)) (sym k.connections) (came_come k.asked (links.came old) (links.came new) opened k.looks.came all)

  pub look_rising : (host : List ℕ) (port : ℕ) (opened now : List ℕ) (old new : L) (result : Result Bool PollFault) → Looked links host port opened now old new result → AllCame (links.came old) opened → Rising opened → Rising now
  look_rising host port opened now old new result k all rising = subst Rising (sym k.connections) (rising_come k.asked (links.came old) (links.came new) opened k.looks.came rising all)

  -- ---- a poll whose look was answered well

  module _ (moment : ℤ) (old new : Tcp) (before after : Connected) (links_old links_mid links_new : L) (over : Bool) (taken : Result Bool AllocError) (looked : Looked links old.host old.port old.connections before.connections.items links_old links_mid (Ok over)) (took : Took links moment before after links_mid links_new taken) (came_all : AllCame (links.came links_old) old.connections) (rising : Rising old.connections) (short : length old.connections ≤ most_open) (parts_old : before.held.rests ≡ old.parts) (looks_old : before.held.pieces ≡ old.looks) (connections_new : new.connections ≡ after.connections.items) (parts_new : new.parts ≡ after.held.rests) (looks_new : new.looks ≡ after.held.pieces) where
    order : old.connections ++ came_in looked.asked ≡ numbers took.reads ++ took.unread
    order = sym looked.connections ∙ took.order

    counted : IsCounted looked.asked (links.came links_old) (links.came links_new)
    counted = counted_on looked.asked (links.came links_old) (links.came links_mid) (links.came links_new) took.keeps.came looked.looks.came

    still : new.connections ≡ left_open took.reads ++ took.unread
    still = connections_new ∙ took.still

    pub polled_rising : Rising new.connections
    polled_rising = rising_new moment old new looked.asked took.reads took.unread (links.came links_old) (links.came links_new) counted came_all rising order still

    pub polled_came : AllCame (links.came links_new) new.connections
    polled_came = came_new moment old new looked.asked took.reads took.unread (links.came links_old) (links.came links_new) counted came_all rising order still

    pub polled_most : length new.connections ≤ most_open
    polled_most = omega (arith, ap length still, length-append (left_open took.reads) took.unread, length_left took.reads, ap length order, length-append (numbers took.reads) took.unread, came_short looked.asked old.connections looked.room short)

    held_lines : lines_of new ≡ lines_in after.held.rests after.held.pieces
    held_lines = ap₂ (λ p l. lines_in p l) parts_new looks_new

    pub polled_on : StaysSet old new → (result : Result Got PollFault) → ReadAnswer looked.asked took.unread new result → WasPolled links moment old new links_old links_new result
    polled_on stays result answer =
        let answers = answers_by looked.asked over took.reads took.unread old new result looked.answer answer in
        let looks = looks_on old.host old.port looked.asked links_old links_mid links_new looked.looks took.keeps in
        let lines = held_lines ∙ took.lines ∙ ap₂ (λ p l. lines_in p l ++ made_from line_limit (lefts_in p l) (looks_by moment took.reads)) parts_old looks_old in
        let lefts : (n : ℕ) → lefts_of new n ≡ lefts_after line_limit (lefts_of old) (looks_by moment took.reads) n = λ n. ap₂ (λ p l. lefts_in p l n) parts_new looks_new ∙ took.lefts n ∙ ap₂ (λ p l. lefts_after line_limit (lefts_in p l) (looks_by moment took.reads) n) parts_old looks_old in record {
          asked = looked.asked;
          reads = took.reads;
          unread = took.unread;
          room = looked.room;
          looked = looks;
          order = order;
          read = read_from links_old links_mid links_new took.reads looked.keeps took.read;
          connections = still;
          lines = lines;
          stays = stays;
          answer = answers;
          cause = cause_of (fault_by looked.asked took.reads took.unread old new result answers) (by_fault looked.asked took.reads took.unread old new result answers) looks.fault;
          came = polled_came;
          rising = polled_rising;
          most = polled_most;
          stands = stands_on moment old new looked.asked took.reads took.unread (links.came links_old) (links.came links_new) counted came_all rising order still lines lefts;
        }

    -- what it found
    got_is : (held : Bool) → taken ≡ Ok held → held ≡ not (is_none (lines_of new))
    got_is held is = (rw is at took.held) ∙ ap (λ l. not (is_none l)) (sym held_lines)

    pub polled_all : StaysSet old new → (result : Result Got PollFault) → result ≡ poll_answer taken over (is_none new.connections) → WasPolled links moment old new links_old links_new result
    polled_all stays result is = by taken refl
      where
        by : (t : Result Bool AllocError) → taken ≡ t → WasPolled links moment old new links_old links_new result
        by (Ok held) at = polled_on stays result (inl (
          is ∙ ap (λ t. poll_answer t over (is_none new.connections)) at ∙ ap₂ (λ h o. Ok (got_in h o (is_none new.connections))) (got_is held at) (over_is looked.asked over looked.answer),
          took.whole (ap is_ok at),
        ))
        by (Err e) at = polled_on stays result (inr (is ∙ ap (λ t. poll_answer t over (is_none new.connections)) at))

  -- ---- a poll whose look failed, or found no memory

  pub polled_not : (moment : ℤ) (old new : Tcp) (connections : List ℕ) (links_old links_new : L) (f : PollFault) → Looked links old.host old.port old.connections connections links_old links_new (Err f) → new.connections ≡ connections → (new.connections ≡ old.connections → new ≡ old)
      → AllCame (links.came links_old) old.connections → Rising old.connections → length old.connections ≤ most_open → WasPolled links moment old new links_old links_new (Err f)
  polled_not moment old new connections links_old links_new f k here unchanged came_all rising short =
      let none = none_came k.asked f k.answer in
      let same : new.connections ≡ old.connections = here ∙ k.connections ∙ ap (λ l. old.connections ++ l) none ∙ append-nil old.connections in
      let is = unchanged same in
      let order : old.connections ++ came_in k.asked ≡ [] ++ old.connections = ap (λ l. old.connections ++ l) none ∙ append-nil old.connections in
      let answers = answers_not k.asked f old.connections old new k.answer is in
      let lines = ap lines_of is ∙ sym (append-nil (lines_of old)) in
      let lefts : (n : ℕ) → lefts_of new n ≡ lefts_of old n = λ n. ap (λ t. lefts_of t n) is in record {
        asked = k.asked;
        reads = [];
        unread = old.connections;
        room = k.room;
        looked = k.looks;
        order = order;
        read = read_from links_old links_new links_new [] k.keeps (none_read links links_new);
        connections = same;
        lines = lines;
        stays = record { host = ap (λ t. t.host) is; port = ap (λ t. t.port) is; codec = ap (λ t. t.codec) is };
        answer = answers;
        cause = cause_of (fault_by k.asked [] old.connections old new (Err f) answers) (by_fault k.asked [] old.connections old new (Err f) answers) k.looks.fault;
        came = came_new moment old new k.asked [] old.connections (links.came links_old) (links.came links_new) k.looks.came came_all rising order same;
        rising = subst Rising (sym same) rising;
        most = omega (arith, short, ap length same);
        stands = stands_on moment old new k.asked [] old.connections (links.came links_old) (links.came links_new) k.looks.came came_all rising order same lines lefts;
      }
