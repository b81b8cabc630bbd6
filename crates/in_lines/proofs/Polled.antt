-- What one more poll makes of the bytes and lines so far.
use Rattle.std.proofs.Common.{◌≡◌, ◌<◌, ◌≤◌, ◌+◌, ℕ, Bool, true, false, List, [], ◌∷◌, ◌++◌, map, take, drop, length, get_or, refl, sym, ap, ◌∙◌, arith, append-nil, length-append, if◌then◌else◌}
use Rattle.std.proofs.lemmas.List.{map-append, take_more, drop-map, length-map}
use Rattle.event_tree.specs.declared.value.Value.{Value}
use Rattle.byte_lines.specs.Unread.{lines_left}
use Rattle.byte_lines.proofs.Giving.{unread}
use Rattle.in_lines.specs.Polls.{Poll, joined, joined_with, is_ended, ended_with, lines_through, received, received_at, received_after}
use Rattle.in_lines.specs.Events.{event_of}
use Rattle.in_lines.specs.Given.{polls_of, poll_of}
use Rattle.in_lines.specs.declared.poll.Poll.{Poll as PollInMemory}
use Rattle.in_lines.proofs.Receiving.{joined-append, joined-ended, is_ended-append, is_ended-ended, received_after-append, one_longer}

pub polls_of-more : (polls : List PollInMemory) (i : ℕ) (poll : PollInMemory) → poll ≡ get_or polls i poll → i < length polls → polls_of (take (i + 1) polls) ≡ polls_of (take i polls) ++ poll_of poll ∷ []
polls_of-more polls i poll is lt = ap polls_of (take_more polls i poll lt) ∙ map-append poll_of (take i polls) (get_or polls i poll ∷ []) ∙ ap (λ p. polls_of (take i polls) ++ poll_of p ∷ []) (sym is)

-- the bytes and the end after one more poll
pub joined-more : (polls : List Poll) (poll : Poll) → joined (polls ++ poll ∷ []) ≡ (if is_ended polls then joined polls else joined polls ++ joined_with poll.piece [])
joined-more polls poll = elim (is_ended polls) as (λ e. is_ended polls ≡ e → joined (polls ++ poll ∷ []) ≡ (if e then joined polls else joined polls ++ joined_with poll.piece [])) [
  | true ↦ λ is. joined-ended polls (poll ∷ []) is
  | false ↦ λ still. joined-append polls (poll ∷ []) still
] refl

pub is_ended-more : (polls : List Poll) (poll : Poll) → is_ended (polls ++ poll ∷ []) ≡ (if is_ended polls then true else ended_with poll.piece false)
is_ended-more polls poll = elim (is_ended polls) as (λ e. is_ended polls ≡ e → is_ended (polls ++ poll ∷ []) ≡ (if e then true else ended_with poll.piece false)) [
  | true ↦ λ is. is_ended-ended polls (poll ∷ []) is
  | false ↦ λ still. is_ended-append polls (poll ∷ []) still
] refl

-- the lines so far, where the bytes and the end are known
pub lines_of_all : (limit : ℕ) (polls : List Poll) (bytes : List ℕ) (ended : Bool) → bytes ≡ joined polls → ended ≡ is_ended polls → lines_left (unread limit bytes ended) ≡ lines_through limit polls
lines_of_all limit polls bytes ended one two = ap (λ t. lines_left (unread limit t ended)) one ∙ ap (λ e. lines_left (unread limit (joined polls) e)) two

-- one more poll takes no line away
pub lines_through-longer : (limit : ℕ) (polls : List Poll) (poll : Poll) → 0 < limit → length (lines_through limit polls) ≤ length (lines_through limit (polls ++ poll ∷ []))
lines_through-longer limit polls poll some = let one = one_longer limit polls poll some in omega (arith, ap length one.1, length-append (lines_through limit polls) one.0)

pub received-next : (limit : ℕ) (polls : List Poll) (poll : Poll)
    → received limit (polls ++ poll ∷ []) ≡ received limit polls ++ received_at poll.moment (drop (length (lines_through limit polls)) (lines_through limit (polls ++ poll ∷ [])))
unfolding received
received-next limit polls poll = received_after-append limit [] polls (poll ∷ [])
    ∙ ap (λ t. received_after limit [] polls ++ t) (append-nil (received_at poll.moment (drop (length (lines_through limit polls)) (lines_through limit (polls ++ poll ∷ [])))))

-- the events after one more poll are those before, and those of the lines that it made whole
pub events-next : (limit : ℕ) (polls : List Poll) (poll : Poll)
    → map event_of (received limit (polls ++ poll ∷ [])) ≡ map event_of (received limit polls) ++ map event_of (received_at poll.moment (drop (length (lines_through limit polls)) (lines_through limit (polls ++ poll ∷ []))))
events-next limit polls poll = ap (map event_of) (received-next limit polls poll) ∙ map-append event_of (received limit polls) (received_at poll.moment (drop (length (lines_through limit polls)) (lines_through limit (polls ++ poll ∷ []))))

-- the same for the values that a loop over the polls holds
pub taken_bytes : (polls : List Poll) (poll : Poll) (bytes new : List ℕ) (ended : Bool) → bytes ≡ joined polls → ended ≡ is_ended polls → new ≡ (if ended then bytes else bytes ++ joined_with poll.piece []) → new ≡ joined (polls ++ poll ∷ [])
taken_bytes polls poll bytes new ended one two is =
    is ∙ ap (λ e. if e then bytes else bytes ++ joined_with poll.piece []) two ∙ ap (λ b. if is_ended polls then b else b ++ joined_with poll.piece []) one ∙ sym (joined-more polls poll)

pub taken_end : (polls : List Poll) (poll : Poll) (ended now : Bool) → ended ≡ is_ended polls → now ≡ (if ended then true else ended_with poll.piece false) → now ≡ is_ended (polls ++ poll ∷ [])
taken_end polls poll ended now two is = is ∙ ap (λ e. if e then true else ended_with poll.piece false) two ∙ sym (is_ended-more polls poll)

pub count_within : {X : Type 0} (f : X → List ℕ) (limit : ℕ) (polls : List Poll) (poll : Poll) (before lines : List X) → 0 < limit → map f before ≡ lines_through limit polls → map f lines ≡ lines_through limit (polls ++ poll ∷ [])
    → length before ≤ length lines
count_within f limit polls poll before lines some one two = omega (arith, length-map before f, length-map lines f, ap length one, ap length two, lines_through-longer limit polls poll some)

pub taken_events : {X : Type 0} (f : X → List ℕ) (limit : ℕ) (polls : List Poll) (poll : Poll) (before lines : List X) (events new : List Value) → map f before ≡ lines_through limit polls → map f lines ≡ lines_through limit (polls ++ poll ∷ [])
    → events ≡ map event_of (received limit polls) → new ≡ events ++ map event_of (received_at poll.moment (map f (drop (length before) lines))) → new ≡ map event_of (received limit (polls ++ poll ∷ []))
taken_events f limit polls poll before lines events new one two so_far is =
    let later : map f (drop (length before) lines) ≡ drop (length (lines_through limit polls)) (lines_through limit (polls ++ poll ∷ []))
    = sym (drop-map f (length before) lines) ∙ ap (λ n. drop n (map f lines)) (sym (length-map before f) ∙ ap length one) ∙ ap (drop (length (lines_through limit polls))) two in
    is ∙ ap (λ e. e ++ map event_of (received_at poll.moment (map f (drop (length before) lines)))) so_far
    ∙ ap (λ t. map event_of (received limit polls) ++ map event_of (received_at poll.moment t)) later ∙ sym (events-next limit polls poll)
