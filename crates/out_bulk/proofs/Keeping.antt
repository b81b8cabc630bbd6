-- What is kept of a batch, and why it is settled.
use Rattle.std.proofs.Common.{◌≡◌, ◌≤◌, ℕ, ◌+◌, List, [], ◌∷◌, ◌++◌, length, drop, get_or, map, refl, sym, ap, ap₂, subst, ◌∙◌, Bool, true, false, if◌then◌else◌, Option, Some, None, Result, Ok, Err, arith, length-drop}
use Rattle.std.specs.Prelude.{◌==◌, ◌&&◌, ◌||◌, nat_le, Contains, option_and_then, option_map, slice_get}
use Rattle.std.proofs.lemmas.Option.{none-some, slice_get-get_or}
use Rattle.std.proofs.lemmas.List.{drop-drop, get_or-drop}
use Rattle.std.proofs.lemmas.Simd.{map-map}
use Rattle.out_bulk.proofs.RequestRuns.{open_nothing}
use Rattle.std.proofs.lemmas.List.Elements.{Contains-append_left}
use Rattle.io_traits.specs.Telling.{Grows}
use Rattle.bulk_replies.specs.Answers.{Answer, cut, said_of}
use Rattle.bulk_replies.specs.declared.item_result.ItemResult.{ItemResult}
use Rattle.bulk_replies.specs.Replies.{IsGood}
use Rattle.bulk_replies.specs.declared.item_result.ItemResult.TheVariants as said
use Rattle.bulk_replies.proofs.AnswerLaws.{cut_within, good_length}
use Rattle.event_tree.specs.Events.{Ev}
use Rattle.foreign_parts.specs.Delivering.{AreFates}
use Rattle.foreign_parts.specs.declared.output.Fate.{Fate}
use Rattle.foreign_parts.specs.declared.output.Fate.TheVariants as f
use Rattle.out_bulk.specs.Batches.{Kept, nothing_kept, IsShort, AreFor, AreForOrNone, Settles, AreSettled, Witnessed, IsKept}
use Rattle.out_bulk.specs.Deliveries.{Standing}
use Rattle.out_bulk.specs.Exchanges.{Exchange, exchange, Asks}
use Rattle.out_bulk.specs.Fates.{Settled, all_settled, fate_of, filled, open_in, settled_by}
use Rattle.out_bulk.specs.Requests.{request_of}
use Rattle.out_bulk.specs.Settings.{Target}
use Rattle.out_bulk.specs.Steps.{WasAnswered}
use Rattle.out_bulk.specs.declared.peer.PeerFault.{PeerFault}

-- what is settled stays so, whatever is asked later
later : (t : Target) (asked more : List Exchange) (e : Ev) (x : Fate) → Settles t asked e x → Settles t (asked ++ more) e x
later t asked more e x s = record {
  exchange = s.exchange;
  was_made = Contains-append_left asked more s.exchange s.was_made;
  host = s.host;
  events = s.events;
  request = s.request;
  reply = s.reply;
  came = s.came;
  answers = s.answers;
  good = s.good;
  place = s.place;
  sent = s.sent;
  answered = s.answered;
}

all_later : (t : Target) (asked more : List Exchange) (es : List Ev) (fs : Settled) → AreSettled t asked es fs → AreSettled t (asked ++ more) es fs
all_later t asked more [] fs are = tt
all_later t asked more (e ∷ es) [] are = tt
all_later t asked more (e ∷ es) (None ∷ fs) are = all_later t asked more es fs are
all_later t asked more (e ∷ es) (Some x ∷ fs) are = (later t asked more e x are.0, all_later t asked more es fs are.1)

witnessed_later : (t : Target) (old new : Option (List Exchange)) (more : List Exchange) (es : List Ev) (fs : Settled) → Grows old new more → Witnessed t old es fs → Witnessed t new es fs
witnessed_later t old new more es fs grows was asked is =
    let g = grows.each asked is in
    subst (λ xs. AreSettled t xs es fs) (sym g.2) (all_later t g.0 more es fs (was g.0 g.1))

pub kept_later : (t : Target) (old new : Option (List Exchange)) (more : List Exchange) (k : Kept) → Grows old new more → IsKept t old k → IsKept t new k
kept_later t old new more k grows is = record { witnessed = witnessed_later t old new more k.events k.settled grows is.witnessed; are_for = is.are_for }

pub asked_kept : (t : Target) (r : Result (Unit {0}) PeerFault) (host request reply : List ℕ) (old new : Option (List Exchange)) (k : Kept) → Asks r host request reply old new → IsKept t old k → IsKept t new k
asked_kept t (Ok u) host request reply old new k asks is = kept_later t old new _ k asks is
asked_kept t (Err fault) host request reply old new k asks is = kept_later t old new asks.part k asks.grows is

pub none_kept : (t : Target) (told : Option (List Exchange)) → IsKept t told nothing_kept
none_kept t told = record { witnessed = λ asked is. tt; are_for = tt }

nothing_settled : (t : Target) (asked : List Exchange) (es : List Ev) → AreSettled t asked es []
nothing_settled t asked [] = tt
nothing_settled t asked (e ∷ es) = tt

-- what a list begins with behind a place
at_drop : {X : Type 0} (xs rest : List X) (n : ℕ) (x : X) → drop n xs ≡ x ∷ rest → slice_get xs n ≡ Some x
at_drop xs rest n x is =
    let none : n + 0 ≡ n = omega arith in
    let there : get_or xs n x ≡ x = ap (λ k. get_or xs k x) (sym none) ∙ sym (get_or-drop n xs 0 x) ∙ ap (λ ys. get_or ys 0 x) is in
    slice_get-get_or xs n x (omega (arith, ap length is, length-drop n xs)) ∙ ap Some there

next_drop : {X : Type 0} (xs rest : List X) (n : ℕ) (x : X) → drop n xs ≡ x ∷ rest → rest ≡ drop (n + 1) xs
next_drop xs rest n x is = sym (ap (drop 1) is) ∙ drop-drop 1 n xs

-- a good reply to a request that was sent
module _ (t : Target) (told : List Exchange) (sent : List Ev) (reply : List ℕ) (answers : List Answer) (made : Contains told (exchange t.host (request_of t sent) (Some reply))) (good : IsGood (length sent) reply answers) where
  settles : (e : Ev) (x : Fate) (a : Answer) (n : ℕ) → slice_get sent n ≡ Some e → slice_get answers n ≡ Some a → fate_of a ≡ Some x → Settles t told e x
  settles e x a n there says is = record {
    exchange = exchange t.host (request_of t sent) (Some reply);
    was_made = made;
    host = refl;
    events = sent;
    request = refl;
    reply = reply;
    came = refl;
    answers = answers;
    good = good;
    place = n;
    sent = there;
    answered = ap (option_and_then fate_of) says ∙ is;
  }

  one_filled : (x : Option Fate) (e : Ev) (es : List Ev) (fs : Settled) (a : Answer) (n : ℕ) → slice_get sent n ≡ Some e → slice_get answers n ≡ Some a → fate_of a ≡ x → AreSettled t told es fs → AreSettled t told (e ∷ es) (x ∷ fs)
  one_filled None e es fs a n there says is rest = rest
  one_filled (Some x) e es fs a n there says is rest = (settles e x a n there says is, rest)

  fill_from : (es : List Ev) (fs : Settled) (rest : List Answer) (n : ℕ) → drop n sent ≡ open_in es fs → drop n answers ≡ rest → length rest ≡ length (open_in es fs) → AreSettled t told es fs → AreSettled t told es (filled fs (map fate_of rest))
  fill_from [] fs rest n events says many are = tt
  fill_from (e ∷ es) (Some x ∷ fs) rest n events says many are = (are.0, fill_from es fs rest n events says many are.1)
  fill_from (e ∷ es) (None ∷ fs) [] n events says many are = absurd (omega (arith, many))
  fill_from (e ∷ es) (None ∷ fs) (a ∷ rest) n events says many are = one_filled (fate_of a) e es (filled fs (map fate_of rest)) a n (at_drop sent (open_in es fs) n e events) (at_drop answers rest n a says) refl (fill_from es fs rest (n + 1) (sym (next_drop sent (open_in es fs) n e events)) (sym (next_drop answers rest n a says)) (omega (arith, many)) are)
  fill_from (e ∷ es) [] [] n events says many are = tt
  fill_from (e ∷ es) [] (a ∷ rest) n events says many are = one_filled (fate_of a) e es (map fate_of rest) a n (at_drop sent es n e events) (at_drop answers rest n a says) refl (fill_from es [] rest (n + 1) (sym (next_drop sent es n e events) ∙ sym (open_nothing es)) (sym (next_drop answers rest n a says)) (omega (arith, many, ap length (open_nothing es))) (nothing_settled t told es))

  pub are_filled : (es : List Ev) (fs : Settled) → sent ≡ open_in es fs → AreSettled t told es fs → AreSettled t told es (filled fs (map fate_of answers))
  are_filled es fs is are = fill_from es fs answers 0 is refl (good_length (length sent) reply answers good ∙ ap length is) are

-- there is a fate for each event
short_case : (b c : Bool) (status : ℕ) (reason : List ℕ) → length reason ≤ 65536 → IsShort (settled_by (if b then said.Took else (if c then said.Rejected status reason else said.Retry)))
short_case true c status reason within = tt
short_case false true status reason within = within
short_case false false status reason within = tt

short : (a : Answer) → IsShort (fate_of a)
short a = short_case (nat_le 200 a.status && nat_le a.status 299) ((a.status == 400) || (a.status == 404)) a.status (cut a.reason) (cut_within a.reason)

fresh_for : (es : List Ev) (answers : List Answer) → length answers ≡ length es → AreFor es (map fate_of answers)
fresh_for [] [] many = tt
fresh_for [] (a ∷ rest) many = absurd (omega (arith, many))
fresh_for (e ∷ es) [] many = absurd (omega (arith, many))
fresh_for (e ∷ es) (a ∷ rest) many = (short a, fresh_for es rest (omega (arith, many)))

filled_for : (es : List Ev) (fs : Settled) (answers : List Answer) → AreFor es fs → length answers ≡ length (open_in es fs) → AreFor es (filled fs (map fate_of answers))
filled_for [] [] [] are many = tt
filled_for [] [] (a ∷ rest) are many = absurd (omega (arith, many))
filled_for [] (x ∷ fs) rest are many = absurd are
filled_for (e ∷ es) [] rest are many = absurd are
filled_for (e ∷ es) (Some x ∷ fs) rest are many = (are.0, filled_for es fs rest are.1 many)
filled_for (e ∷ es) (None ∷ fs) [] are many = absurd (omega (arith, many))
filled_for (e ∷ es) (None ∷ fs) (a ∷ rest) are many = (short a, filled_for es fs rest are.1 (omega (arith, many)))

pub all_for : (es : List Ev) (fs : Settled) (answers : List Answer) → AreForOrNone es fs → length answers ≡ length (open_in es fs) → AreFor es (filled fs (map fate_of answers))
all_for es [] answers are many = fresh_for es answers (many ∙ ap length (open_nothing es))
all_for es (x ∷ fs) answers are many = filled_for es (x ∷ fs) answers are many

pub or_none : (es : List Ev) (fs : Settled) → AreFor es fs → AreForOrNone es fs
or_none es [] are = tt
or_none es (x ∷ fs) are = are

-- what is kept once a good reply came
module _ (t : Target) (told : Option (List Exchange)) (es : List Ev) (fs : Settled) (k : IsKept t told (record { events = es; settled = fs })) (reply : List ℕ) (answers : List Answer) (made : (asked : List Exchange) → told ≡ Some asked → Contains asked (exchange t.host (request_of t (open_in es fs)) (Some reply))) (good : IsGood (length (open_in es fs)) reply answers) where
  pub now_witnessed : Witnessed t told es (filled fs (map fate_of answers))
  now_witnessed asked is = are_filled t asked (open_in es fs) reply answers (made asked is) good es fs refl (k.witnessed asked is)

  pub now_for : AreFor es (filled fs (map fate_of answers))
  now_for = all_for es fs answers k.are_for (good_length (length (open_in es fs)) reply answers good)

  pub now_kept : IsKept t told (record { events = es; settled = filled fs (map fate_of answers) })
  now_kept = record { witnessed = now_witnessed; are_for = or_none es (filled fs (map fate_of answers)) now_for }

-- what is said is what the answers settle
pub said_fates : (answers : List Answer) (said : List ItemResult) → said ≡ map said_of answers → map settled_by said ≡ map fate_of answers
said_fates answers said is = ap (map settled_by) is ∙ map-map settled_by said_of answers

-- the fates of a batch that is finished
settled_head : (x : Option Fate) (rest : Option (List Fate)) (fates : List Fate) → option_and_then (λ y. option_map (λ more. y ∷ more) rest) x ≡ Some fates → (y : Fate) × (more : List Fate) × (x ≡ Some y) × (rest ≡ Some more) × (fates ≡ y ∷ more)
settled_head None rest fates is = absurd (none-some fates is)
settled_head (Some y) None fates is = absurd (none-some fates is)
settled_head (Some y) (Some more) fates is = let same : y ∷ more ≡ fates = cc in (y, more, refl, refl, sym same)

pub settled_are : (all : Settled) (fates : List Fate) → all_settled all ≡ Some fates → all ≡ map Some fates
settled_are [] fates is = let same : [] ≡ fates = cc in ap (map Some) same
settled_are (x ∷ all) fates is =
    let h = settled_head x (all_settled all) fates is in
    ap₂ (λ y ys. y ∷ ys) h.2 (settled_are all h.1 h.3) ∙ ap (map Some) (sym h.4)

short_fates : (es : List Ev) (fates : List Fate) → AreFor es (map Some fates) → AreFates fates es
short_fates [] [] are = tt
short_fates [] (x ∷ fates) are = are
short_fates (e ∷ es) [] are = are
short_fates (e ∷ es) (f.Took ∷ fates) are = short_fates es fates are.1
short_fates (e ∷ es) (f.Rejected status reason ∷ fates) are = (are.0, short_fates es fates are.1)

pub are_fates : (es : List Ev) (all : Settled) (fates : List Fate) → all_settled all ≡ Some fates → AreFor es all → AreFates fates es
are_fates es all fates is are = short_fates es fates (subst (AreFor es) (settled_are all fates is) are)

pub settled_kept : {Q : Type 0} (asked : Q → Option (List Exchange)) (events : List Ev) (s : Standing Q) (said : List ItemResult) → WasAnswered asked events s said → (es : List Ev) (fs all : Settled) → es ≡ events → fs ≡ s.kept.settled → all ≡ filled fs (map settled_by said) → IsKept s.target (asked s.peer) (record { events = es; settled = all })
settled_kept asked events s said a es fs all es_is fs_is all_is =
    let is : filled s.kept.settled (map fate_of a.answers) ≡ all = ap₂ filled (sym fs_is) (sym (said_fates a.answers said a.said_is)) ∙ sym all_is in
    subst (λ (k : Kept). IsKept s.target (asked s.peer) k) (ap₂ (λ x y. record { events = x; settled = y }) (sym es_is) is) (now_kept s.target (asked s.peer) events s.kept.settled a.of_these a.reply a.answers a.made a.good)

pub unsettled_kept : (t : Target) (told : Option (List Exchange)) (es : List Ev) (fs : Settled) → fs ≡ [] → IsKept t told (record { events = es; settled = fs })
unsettled_kept t told es fs is = subst (λ xs. IsKept t told (record { events = es; settled = xs })) (sym is) (record { witnessed = λ asked told_is. nothing_settled t asked es; are_for = tt })
