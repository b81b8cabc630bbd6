-- The counts of connections after a call.
use Rattle.std.proofs.Common.{◌≡◌, suc, ◌≢◌, ◌⊎◌, ◌≤◌, ◌<◌, ◌+◌, ◌-◌, ◌^◌, ℕ, List, [], ◌∷◌, ◌++◌, Bool, true, false, Option, Some, None, Result, Ok, Err, inl, inr, set, get_or, refl, sym, ap, subst, ◌∙◌, rules, arith}
use Rattle.std.specs.Prelude.{IsErr, is_some, not, nat_eq, nat_lt, if◌then◌else◌}
use Rattle.std.proofs.lemmas.Bool.{cases_lt, ltb-false}
use Rattle.std.proofs.lemmas.Option.{none-some, same_Some}
use Rattle.std.proofs.lemmas.Bool.Decides.{nat_tests}
use Rattle.io_traits.specs.Connections.{IsNumbered, KeepsReads, KeepsOthers}
use Rattle.io_traits.specs.Counts.{HasCause, Rose, one_more}
use Rattle.io_traits.specs.Pieces.{Piece}
use Rattle.io_traits.proofs.Growth.{grows_same}
use Rattle.io_traits.specs.declared.links.Come.{Come}
use Rattle.io_traits.specs.declared.links.Come.TheVariants.{Conn, Ended}
use Rattle.io_traits.specs.declared.links.Come.TheVariants.{NotYet as NoConn}
use Rattle.io_traits.specs.declared.faults.Failed.{Failed}
use Rattle.io_traits.specs.declared.sources.Step.{Step}
use Rattle.io_traits.specs.declared.sources.Step.TheVariants.{Bytes, NotYet}
use Rattle.io_traits.specs.declared.sources.Step.TheVariants.{End as AtEnd}
use Rattle.io_real.specs.Adapters.{ReadCounts, no_counts, counts_after}
use Rattle.io_real.specs.Links.{Open, LinkCounts, AllCame, last_counts, counts_among, counts_of, faults_of, waits_of, counted, others, place_from, is_open, with_next, after_accept, after_read, after_close}

-- one more connection
pub came_more : (came : ℕ) (all : List Open) → AllCame came all → AllCame (came + 1) (all ++ (came, no_counts) ∷ [])
came_more came [] each = (omega arith, omega arith, omega arith, tt)
came_more came (o ∷ rest) each = (omega (arith, each.0), each.1, each.2, came_more came rest each.3)

pub more_among : (came : ℕ) (missing : ReadCounts) (conn : ℕ) (all : List Open) → counts_among missing conn (all ++ (came, no_counts) ∷ []) ≡ counts_among (if nat_eq came conn then no_counts else missing) conn all
more_among came missing conn [] = refl
more_among came missing conn (o ∷ rest) = grind (arith, nat_tests, more_among came missing conn rest)

-- of a connection that didn't come there are no counts
pub not_among : (came conn : ℕ) (missing : ReadCounts) (all : List Open) → AllCame came all → came ≤ conn → counts_among missing conn all ≡ missing
not_among came conn missing [] each late = refl
not_among came conn missing (o ∷ rest) each late = grind (arith, nat_tests, each.0, not_among came conn missing rest each.3 late)

-- the connections with other numbers
pub others_among : (missing : ReadCounts) (conn other : ℕ) (all : List Open) → other ≢ conn → counts_among missing other (others conn all) ≡ counts_among missing other all
others_among missing conn other [] differ = refl
others_among missing conn other (o ∷ rest) differ = grind (arith, nat_tests, others_among missing conn other rest differ)

pub gone_among : (missing : ReadCounts) (conn : ℕ) (all : List Open) → counts_among missing conn (others conn all) ≡ missing
gone_among missing conn [] = refl
gone_among missing conn (o ∷ rest) = grind (arith, nat_tests, gone_among missing conn rest)

came_or_not : (b : Bool) (came : ℕ) (o : Open) (rest : List Open) → (o.0 < came) × (o.1.faults ≤ 2 ^ 64 - 1) × (o.1.waits ≤ 2 ^ 64 - 1) → AllCame came rest → AllCame came (if b then o ∷ rest else rest)
came_or_not true came o rest first each = (first.0, first.1, first.2, each)
came_or_not false came o rest first each = each

pub came_others : (came conn : ℕ) (all : List Open) → AllCame came all → AllCame came (others conn all)
came_others came conn [] each = each
came_others came conn (o ∷ rest) each = came_or_not (not (nat_eq o.0 conn)) came o (others conn rest) (each.0, each.1, each.2) (came_others came conn rest each.3)

-- a count that is a number of 64 bits stays one
faults_fit : (c : ReadCounts) (result : Result Step Failed) → c.faults ≤ 2 ^ 64 - 1 → (counts_after c result).faults ≤ 2 ^ 64 - 1
faults_fit c (Ok (Bytes n)) fits = fits
faults_fit c (Ok NotYet) fits = fits
faults_fit c (Ok AtEnd) fits = fits
faults_fit c (Err e) fits = omega arith

waits_fit : (c : ReadCounts) (result : Result Step Failed) → c.waits ≤ 2 ^ 64 - 1 → (counts_after c result).waits ≤ 2 ^ 64 - 1
waits_fit c (Ok (Bytes n)) fits = fits
waits_fit c (Ok NotYet) fits = omega arith
waits_fit c (Ok AtEnd) fits = fits
waits_fit c (Err e) fits = fits

pub came_counted : (came conn : ℕ) (result : Result Step Failed) (all : List Open) → AllCame came all → AllCame came (counted conn result all)
came_counted came conn result [] each = each
came_counted came conn result (o ∷ rest) each = either (nat_eq o.0 conn) (came_counted came conn result rest each.3)
  where
    either : (b : Bool) → AllCame came (counted conn result rest) → AllCame came (if b then (o.0, counts_after o.1 result) ∷ rest else o ∷ counted conn result rest)
    either true later = (each.0, faults_fit o.1 result each.1, waits_fit o.1 result each.2, each.3)
    either false later = (each.0, each.1, each.2, later)

-- the counts of the connection that was read, and of each other one
place_later : (at conn : ℕ) (all : List Open) → is_some (place_from (at + 1) conn all) ≡ is_some (place_from at conn all)
place_later at conn [] = refl
place_later at conn (o ∷ rest) = later (nat_eq o.0 conn) (place_later (at + 1) conn rest)
  where
    later : (b : Bool) → is_some (place_from (at + 1 + 1) conn rest) ≡ is_some (place_from (at + 1) conn rest) → is_some (if b then Some (at + 1) else place_from (at + 1 + 1) conn rest) ≡ is_some (if b then Some at else place_from (at + 1) conn rest)
    later true same = refl
    later false same = same

pub counted_among : (missing : ReadCounts) (conn : ℕ) (result : Result Step Failed) (all : List Open) → (is_open conn all ≡ false → result ≡ Ok AtEnd) → counts_among missing conn (counted conn result all) ≡ counts_after (counts_among missing conn all) result
counted_among missing conn result [] closed = ap (counts_after missing) (sym (closed refl))
counted_among missing conn result (o ∷ rest) closed = either (nat_eq o.0 conn) refl (λ none. counted_among missing conn result rest none) closed
  where
    either : (b : Bool) → nat_eq o.0 conn ≡ b → ((is_open conn rest ≡ false → result ≡ Ok AtEnd) → counts_among missing conn (counted conn result rest) ≡ counts_after (counts_among missing conn rest) result) → (is_some (if b then Some 0 else place_from 1 conn rest) ≡ false → result ≡ Ok AtEnd) → counts_among missing conn (if b then (o.0, counts_after o.1 result) ∷ rest else o ∷ counted conn result rest) ≡ counts_after (if b then o.1 else counts_among missing conn rest) result
    either true same later closed = ap (λ b. if b then counts_after o.1 result else counts_among missing conn rest) same
    either false same later closed = ap (λ b. if b then o.1 else counts_among missing conn (counted conn result rest)) same ∙ later (λ none. closed (place_later 0 conn rest ∙ none))

pub counted_others : (missing : ReadCounts) (conn other : ℕ) (result : Result Step Failed) (all : List Open) → other ≢ conn → counts_among missing other (counted conn result all) ≡ counts_among missing other all
counted_others missing conn other result [] differ = refl
counted_others missing conn other result (o ∷ rest) differ = grind (arith, nat_tests, counted_others missing conn other result rest differ)

-- why a count rose
rises : (n : ℕ) → n ≤ 2 ^ 64 - 1 → Rose n (one_more n)
rises n fits = by_order (cases_lt n (2 ^ 64 - 1))
  where
    by_order : (n < 2 ^ 64 - 1) ⊎ (2 ^ 64 - 1 ≤ n) → Rose n (one_more n)
    by_order (inl less) = inl (omega arith)
    by_order (inr most) = inr (omega arith)

pub faults_cause : (c : ReadCounts) (result : Result Step Failed) → c.faults ≤ 2 ^ 64 - 1 → HasCause c.faults (counts_after c result).faults (IsErr result)
faults_cause c (Ok (Bytes n)) fits = record { later = omega arith; rose = λ e. cc; same = λ none. refl }
faults_cause c (Ok NotYet) fits = record { later = omega arith; rose = λ e. cc; same = λ none. refl }
faults_cause c (Ok AtEnd) fits = record { later = omega arith; rose = λ e. cc; same = λ none. refl }
faults_cause c (Err e) fits = record { later = omega arith; rose = λ e. rises _ fits; same = λ none. absurd (none (search rules)) }

pub waits_cause : (c : ReadCounts) (result : Result Step Failed) → c.waits ≤ 2 ^ 64 - 1 → HasCause c.waits (counts_after c result).waits (result ≡ Ok NotYet)
waits_cause c (Ok (Bytes n)) fits = record { later = omega arith; rose = λ e. cc; same = λ none. refl }
waits_cause c (Ok NotYet) fits = record { later = omega arith; rose = λ e. rises _ fits; same = λ none. absurd (none refl) }
waits_cause c (Ok AtEnd) fits = record { later = omega arith; rose = λ e. cc; same = λ none. refl }
waits_cause c (Err e) fits = record { later = omega arith; rose = λ e. cc; same = λ none. refl }

pub faults_bound : (missing : ReadCounts) (came conn : ℕ) (all : List Open) → missing.faults ≤ 2 ^ 64 - 1 → AllCame came all → (counts_among missing conn all).faults ≤ 2 ^ 64 - 1
faults_bound missing came conn [] fits each = fits
faults_bound missing came conn (o ∷ rest) fits each = either (nat_eq o.0 conn) (faults_bound missing came conn rest fits each.3)
  where
    either : (b : Bool) → (counts_among missing conn rest).faults ≤ 2 ^ 64 - 1 → (if b then o.1 else counts_among missing conn rest).faults ≤ 2 ^ 64 - 1
    either true later = each.1
    either false later = later

pub waits_bound : (missing : ReadCounts) (came conn : ℕ) (all : List Open) → missing.waits ≤ 2 ^ 64 - 1 → AllCame came all → (counts_among missing conn all).waits ≤ 2 ^ 64 - 1
waits_bound missing came conn [] fits each = fits
waits_bound missing came conn (o ∷ rest) fits each = either (nat_eq o.0 conn) (waits_bound missing came conn rest fits each.3)
  where
    either : (b : Bool) → (counts_among missing conn rest).waits ≤ 2 ^ 64 - 1 → (if b then o.1 else counts_among missing conn rest).waits ≤ 2 ^ 64 - 1
    either true later = each.2
    either false later = later

missing_fits : (b : Bool) → ((if b then last_counts else no_counts).faults ≤ 2 ^ 64 - 1) × ((if b then last_counts else no_counts).waits ≤ 2 ^ 64 - 1)
missing_fits true = (omega arith, omega arith)
missing_fits false = (omega arith, omega arith)

-- the counts of a connection are numbers of 64 bits
pub counts_fit : (l : LinkCounts) (conn : ℕ) → AllCame l.came l.connections → ((counts_of l conn).faults ≤ 2 ^ 64 - 1) × ((counts_of l conn).waits ≤ 2 ^ 64 - 1)
counts_fit l conn each = (faults_bound _ l.came conn l.connections (missing_fits (nat_lt conn l.came)).0 each, waits_bound _ l.came conn l.connections (missing_fits (nat_lt conn l.came)).1 each)

-- the place that was found is that of the connection that is counted
abbrev CountedAt : ℕ → ℕ → ℕ → Result Step Failed → List Open → Open → Type 0
CountedAt at i conn result all d = (k : ℕ) × (i ≡ at + k) × (set all k ((get_or all k d).0, counts_after (get_or all k d).1 result) ≡ counted conn result all)

counted_from : (at i conn : ℕ) (result : Result Step Failed) (all : List Open) (d : Open) → place_from at conn all ≡ Some i → CountedAt at i conn result all d
counted_from at i conn result [] d is = absurd (none-some i is)
counted_from at i conn result (o ∷ rest) d is = either (nat_eq o.0 conn) refl is (λ found. counted_from (at + 1) i conn result rest d found)
  where
    first : Some at ≡ Some i → i ≡ at + 0
    first is = omega (arith, same_Some _ _ is)

    more : (k : ℕ) → i ≡ at + 1 + k → i ≡ at + suc k
    more k is = omega (arith, is)

    either : (b : Bool) → nat_eq o.0 conn ≡ b → (if b then Some at else place_from (at + 1) conn rest) ≡ Some i → (place_from (at + 1) conn rest ≡ Some i → CountedAt (at + 1) i conn result rest d) → CountedAt at i conn result (o ∷ rest) d
    either true same is later = (0, first is, sym (ap (λ b. if b then (o.0, counts_after o.1 result) ∷ rest else o ∷ counted conn result rest) same))
    either false same is later = (suc (later is).0, more (later is).0 (later is).1, ap (λ t. o ∷ t) (later is).2 ∙ sym (ap (λ b. if b then (o.0, counts_after o.1 result) ∷ rest else o ∷ counted conn result rest) same))

pub counted_at : (i conn : ℕ) (result : Result Step Failed) (all : List Open) (d : Open) → place_from 0 conn all ≡ Some i → set all i ((get_or all i d).0, counts_after (get_or all i d).1 result) ≡ counted conn result all
counted_at i conn result all d is =
    let at : CountedAt 0 i conn result all d = counted_from 0 i conn result all d is in
    let same : at.0 ≡ i = omega (arith, at.1) in
    subst (λ k. set all k ((get_or all k d).0, counts_after (get_or all k d).1 result) ≡ counted conn result all) same at.2

pub not_counted : (at conn : ℕ) (result : Result Step Failed) (all : List Open) → place_from at conn all ≡ None → counted conn result all ≡ all
not_counted at conn result [] none = refl
not_counted at conn result (o ∷ rest) none = either (nat_eq o.0 conn) refl none (λ none. not_counted (at + 1) conn result rest none)
  where
    either : (b : Bool) → nat_eq o.0 conn ≡ b → (if b then Some at else place_from (at + 1) conn rest) ≡ None → (place_from (at + 1) conn rest ≡ None → counted conn result rest ≡ rest) → counted conn result (o ∷ rest) ≡ o ∷ rest
    either true same none later = cc
    either false same none later = ap (λ b. if b then (o.0, counts_after o.1 result) ∷ rest else o ∷ counted conn result rest) same ∙ ap (λ t. o ∷ t) (later none)

-- the counts of a connection that is closed didn't fall
pub closed_later : (l : LinkCounts) (conn : ℕ) → AllCame l.came l.connections → (faults_of l conn ≤ faults_of (after_close l conn) conn) × (waits_of l conn ≤ waits_of (after_close l conn) conn)
closed_later l conn each = subst (λ c. (faults_of l conn ≤ c.faults) × (waits_of l conn ≤ c.waits)) (sym (gone_among (if nat_lt conn l.came then last_counts else no_counts) conn l.connections)) (either (nat_lt conn l.came) refl)
  where
    fit : ((counts_of l conn).faults ≤ 2 ^ 64 - 1) × ((counts_of l conn).waits ≤ 2 ^ 64 - 1)
    fit = counts_fit l conn each

    either : (b : Bool) → nat_lt conn l.came ≡ b → ((counts_of l conn).faults ≤ (if b then last_counts else no_counts).faults) × ((counts_of l conn).waits ≤ (if b then last_counts else no_counts).waits)
    either true inside = fit
    either false late =
        let none : counts_of l conn ≡ no_counts = not_among l.came conn _ l.connections each (ltb-false conn l.came late) ∙ ap (λ b. if b then last_counts else no_counts) late in
        (subst (λ n. n ≤ 0) (ap (λ c. c.faults) (sym none)) (omega arith), subst (λ n. n ≤ 0) (ap (λ c. c.waits) (sym none)) (omega arith))

-- a connection that comes changes no counts
same_missing : (came conn : ℕ) → (if nat_eq came conn then no_counts else if nat_lt conn (came + 1) then last_counts else no_counts) ≡ (if nat_lt conn came then last_counts else no_counts)
same_missing came conn = grind (arith, nat_tests)

pub come_later : (l : LinkCounts) (conn : ℕ) → counts_of (record l { came = l.came + 1; connections = l.connections ++ (l.came, no_counts) ∷ [] }) conn ≡ counts_of l conn
come_later l conn = more_among l.came _ conn l.connections ∙ ap (λ m. counts_among m conn l.connections) (same_missing l.came conn)

-- what a look, a read and a close leave as they were
abbrev none_given : LinkCounts → Option (List (ℕ × Piece))
none_given l = None

abbrev none_left : LinkCounts → ℕ → Option (List ℕ)
none_left l conn = None

pub accept_keeps : (old new : LinkCounts) (result : Result Come Failed) → IsNumbered result old.came new.came → new ≡ after_accept old result → KeepsReads none_given none_left faults_of waits_of old new
accept_keeps old new result number is = record { given = grows_same None; left = λ conn. refl; faults = λ conn. ap (λ c. c.faults) (same result number is conn); waits = λ conn. ap (λ c. c.waits) (same result number is conn) }
  where
    same : (result : Result Come Failed) → IsNumbered result old.came new.came → new ≡ after_accept old result → (conn : ℕ) → counts_of new conn ≡ counts_of old conn
    same (Ok (Conn n)) number is conn = ap (λ l. counts_of l conn) (is ∙ ap (with_next old) number.0) ∙ come_later old conn
    same (Ok NoConn) number is conn = ap (λ l. counts_of l conn) is
    same (Ok Ended) number is conn = ap (λ l. counts_of l conn) is
    same (Err e) number is conn = ap (λ l. counts_of l conn) is

keeps_others : (conn : ℕ) (old new : LinkCounts) → ((other : ℕ) → other ≢ conn → counts_of new other ≡ counts_of old other) → KeepsOthers none_left faults_of waits_of conn old new
keeps_others conn old new same = record { left = λ other differ. refl; faults = λ other differ. ap (λ c. c.faults) (same other differ); waits = λ other differ. ap (λ c. c.waits) (same other differ) }

pub read_keeps : (conn : ℕ) (old new : LinkCounts) (result : Result Step Failed) → new ≡ after_read old conn result → KeepsOthers none_left faults_of waits_of conn old new
read_keeps conn old new result is = keeps_others conn old new (λ other differ. ap (λ l. counts_of l other) is ∙ counted_others _ conn other result old.connections differ)

pub close_keeps : (conn : ℕ) (old new : LinkCounts) → new ≡ after_close old conn → KeepsOthers none_left faults_of waits_of conn old new
close_keeps conn old new is = keeps_others conn old new (λ other differ. ap (λ l. counts_of l other) is ∙ others_among _ conn other old.connections differ)

-- the counts of a connection that was read
read_counts : (l : LinkCounts) (conn : ℕ) (result : Result Step Failed) (all : List Open) → all ≡ counted conn result l.connections → (is_open conn l.connections ≡ false → result ≡ Ok AtEnd) → counts_of (record l { connections = all }) conn ≡ counts_after (counts_of l conn) result
read_counts l conn result all is closed = ap (counts_among _ conn) is ∙ counted_among _ conn result l.connections closed

pub read_faults : (l : LinkCounts) (conn : ℕ) (result : Result Step Failed) (all : List Open) → AllCame l.came l.connections → all ≡ counted conn result l.connections → (is_open conn l.connections ≡ false → result ≡ Ok AtEnd)
    → HasCause (faults_of l conn) (faults_of (record l { connections = all }) conn) (IsErr result)
read_faults l conn result all came is closed = subst (λ c. HasCause (faults_of l conn) c.faults (IsErr result)) (sym (read_counts l conn result all is closed)) (faults_cause (counts_of l conn) result (counts_fit l conn came).0)

pub read_waits : (l : LinkCounts) (conn : ℕ) (result : Result Step Failed) (all : List Open) → AllCame l.came l.connections → all ≡ counted conn result l.connections → (is_open conn l.connections ≡ false → result ≡ Ok AtEnd)
    → HasCause (waits_of l conn) (waits_of (record l { connections = all }) conn) (result ≡ Ok NotYet)
read_waits l conn result all came is closed = subst (λ c. HasCause (waits_of l conn) c.waits (result ≡ Ok NotYet)) (sym (read_counts l conn result all is closed)) (waits_cause (counts_of l conn) result (counts_fit l conn came).1)

pub close_later : (l : LinkCounts) (conn : ℕ) (all : List Open) → AllCame l.came l.connections → all ≡ others conn l.connections
    → (faults_of l conn ≤ faults_of (record l { connections = all }) conn) × (waits_of l conn ≤ waits_of (record l { connections = all }) conn)
close_later l conn all came is = subst (λ a. (faults_of l conn ≤ faults_of (record l { connections = a }) conn) × (waits_of l conn ≤ waits_of (record l { connections = a }) conn)) (sym is) (closed_later l conn came)
