-- Pieces as they stand behind one another.
use Rattle.std.proofs.Common.{◌≡◌, ◌≤◌, ◌+◌, ◌-◌, ℕ, ℤ, false, Some, None, Ok, List, [], ◌∷◌, ◌++◌, length, take, drop, refl, sym, ap, ap₂, ◌∙◌, subst, arith}
use Rattle.std.proofs.lemmas.List.{drop-drop, drop-take, length-take-le, length-drop, take-append-drop, drop-append-le, take-append-le}
use Rattle.std.proofs.lemmas.Option.{none-some, same_Some}
use Rattle.io_traits.specs.Pieces.{bytes_in, IfBytes}
use Rattle.io_traits.specs.Pieces.{gave as gave_of}
use Rattle.io_traits.specs.declared.sources.Step.{Step}
use Rattle.io_traits.specs.declared.sources.Step.TheVariants.{NotYet}
use Rattle.io_traits.specs.declared.sources.Step.TheVariants.{Bytes as StepBytes, End as StepEnd}
use Rattle.in_lines.specs.Sources.{Look}
use Rattle.in_tcp.specs.Pieces.{count_of, front_bytes, front_less, gave_in, gave_less, is_end, look_less, look_with, looks_in, piece_with, total_of}
use Rattle.in_tcp.specs.Reads.{Found, closes, looks_with, piece_found}
use Rattle.in_tcp.specs.declared.pieces.PieceRecord.{PieceRecord}
use Rattle.in_tcp.specs.declared.pieces.ReadEvent.{ReadEvent}
use Rattle.in_tcp.specs.declared.pieces.ReadEvent.TheVariants.{Bytes}
use Rattle.in_tcp.specs.declared.pieces.ReadEvent.TheVariants.{End as AtEnd}

abbrev pub mark : PieceRecord → ReadEvent → PieceRecord
mark m g = record { conn = m.conn; moment = m.moment; gave = g }

-- how many bytes the first piece has
pub front_count : (bytes : List ℕ) (m : PieceRecord) (marks : List PieceRecord) → total_of (m ∷ marks) ≤ length bytes → length (front_bytes (looks_in bytes (m ∷ marks))) ≡ count_of m.gave
front_count bytes m marks within = by m.gave (omega (arith, within))
  where
    by : (g : ReadEvent) → count_of g ≤ length bytes → length (bytes_in (piece_with g (take (count_of g) bytes))) ≡ count_of g
    by (Bytes n) le = length-take-le n bytes le
    by AtEnd le = refl

-- without bytes in front
first_less : (m : PieceRecord) (g : ReadEvent) (bytes : List ℕ) (k : ℕ) → k ≤ count_of g → look_with (mark m (gave_less k g)) (take (count_of (gave_less k g)) (drop k bytes)) ≡ look_less k (look_with (mark m g) (take (count_of g) bytes))
first_less m (Bytes n) bytes k le =
    let same : k + (n - k) ≡ n = omega (arith, le) in
    ap (λ b. look_with (mark m (Bytes (n - k))) b) (sym (drop-take k (n - k) bytes) ∙ ap (λ t. drop k (take t bytes)) same)
first_less m AtEnd bytes k le = refl

rest_less : (g : ReadEvent) (bytes : List ℕ) (k : ℕ) → k ≤ count_of g → drop (count_of (gave_less k g)) (drop k bytes) ≡ drop (count_of g) bytes
rest_less (Bytes n) bytes k le = let same : k + (n - k) ≡ n = omega (arith, le) in drop-drop (n - k) k bytes ∙ ap (λ t. drop t bytes) same
rest_less AtEnd bytes k le = let none : k ≡ 0 = omega (arith, le) in ap (λ t. drop t bytes) none

pub looks_less : (bytes : List ℕ) (m : PieceRecord) (marks : List PieceRecord) (k : ℕ) → k ≤ count_of m.gave → looks_in (drop k bytes) (record m { gave = gave_less k m.gave } ∷ marks) ≡ front_less k (looks_in bytes (m ∷ marks))
looks_less bytes m marks k le = ap₂ (λ look t. look ∷ looks_in t marks) (first_less m m.gave bytes k le) (rest_less m.gave bytes k le)

pub total_less : (g : ReadEvent) (k : ℕ) → k ≤ count_of g → k + count_of (gave_less k g) ≡ count_of g
total_less (Bytes n) k le = omega (arith, le)
total_less AtEnd k le = omega (arith, le)

-- without the first piece, which has no bytes
abbrev IsPopped : List ℕ → List PieceRecord → List PieceRecord → Type 0
IsPopped bytes old new = (total_of new ≡ total_of old) × (looks_in bytes new ≡ drop 1 (looks_in bytes old))

pub popped : (bytes : List ℕ) (old new : List PieceRecord) → new ≡ drop 1 old → total_of old ≤ length bytes → front_bytes (looks_in bytes old) ≡ [] → IsPopped bytes old new
popped bytes [] new is within none = (ap total_of is, ap (looks_in bytes) is)
popped bytes (m ∷ marks) new is within none =
    let count : count_of m.gave ≡ 0 = sym (front_count bytes m marks within) ∙ ap length none in
    (omega (arith, ap total_of is, count), ap (looks_in bytes) is ∙ ap (λ k. looks_in (drop k bytes) marks) (sym count))

-- the bytes behind those of all pieces don't count
pub looks_front : (bytes other : List ℕ) (marks : List PieceRecord) → total_of marks ≤ length bytes → looks_in (bytes ++ other) marks ≡ looks_in bytes marks
looks_front bytes other [] within = refl
looks_front bytes other (m ∷ marks) within =
    let n = count_of m.gave in
    let le : n ≤ length bytes = omega (arith, within) in
    ap₂ (λ b t. look_with m b ∷ t) (take-append-le n bytes other le)
    (ap (λ b. looks_in b marks) (drop-append-le n bytes other le) ∙ looks_front (drop n bytes) other marks (omega (arith, within, length-drop n bytes)))

-- one piece more behind them
pub looks_pushed : (bytes other : List ℕ) (marks : List PieceRecord) (m : PieceRecord) → total_of marks ≡ length bytes → looks_in (bytes ++ other) (marks ++ m ∷ []) ≡ looks_in bytes marks ++ look_with m (take (count_of m.gave) other) ∷ []
looks_pushed [] other [] m all = refl
looks_pushed (b ∷ bytes) other [] m all = absurd (omega (arith, all))
looks_pushed bytes other (x ∷ marks) m all =
    let n = count_of x.gave in
    let le : n ≤ length bytes = omega (arith, all) in
    ap₂ (λ b t. look_with x b ∷ t) (take-append-le n bytes other le)
    (ap (λ b. looks_in b (marks ++ m ∷ [])) (drop-append-le n bytes other le) ∙ looks_pushed (drop n bytes) other marks m (omega (arith, all, length-drop n bytes)))

pub total_pushed : (marks : List PieceRecord) (m : PieceRecord) → total_of (marks ++ m ∷ []) ≡ total_of marks + count_of m.gave
total_pushed [] m = omega arith
total_pushed (x ∷ marks) m = omega (arith, total_pushed marks m)

-- the same for the values that calls have: the buffer, where the first piece begins in it, and the marks before and after
pub shortened : (bytes : List ℕ) (start k : ℕ) (old new rest : List PieceRecord) (now : List Look) (m n : PieceRecord) → looks_in (drop start bytes) old ≡ now → old ≡ m ∷ rest → new ≡ n ∷ rest → n ≡ record m { gave = gave_less k m.gave }
    → start + total_of old ≤ length bytes → k ≤ length (front_bytes now) → looks_in (drop (start + k) bytes) new ≡ front_less k now
shortened bytes start k old new rest now m n view was is less within le =
    let room : total_of (m ∷ rest) ≤ length (drop start bytes) = omega (arith, within, ap total_of was, length-drop start bytes) in
    let seen : looks_in (drop start bytes) (m ∷ rest) ≡ now = ap (looks_in (drop start bytes)) (sym was) ∙ view in
    let most : k ≤ count_of m.gave = omega (arith, le, front_count (drop start bytes) m rest room, ap (λ l. length (front_bytes l)) seen) in
    ap₂ (λ b ms. looks_in b ms) (sym (drop-drop k start bytes)) (is ∙ ap (λ x. x ∷ rest) less) ∙ looks_less (drop start bytes) m rest k most ∙ ap (front_less k) seen

pub popped_from : (bytes : List ℕ) (start : ℕ) (old new : List PieceRecord) (now : List Look) → looks_in (drop start bytes) old ≡ now → new ≡ drop 1 old → start + total_of old ≤ length bytes → front_bytes now ≡ []
    → (total_of new ≡ total_of old) × (looks_in (drop start bytes) new ≡ drop 1 now)
popped_from bytes start old new now view is within none =
    let p = popped (drop start bytes) old new is (omega (arith, within, length-drop start bytes)) (ap front_bytes view ∙ none) in
    (p.0, p.1 ∙ ap (drop 1) view)

-- what stands behind all pieces doesn't count
pub seen_in : (bytes : List ℕ) (start end : ℕ) (marks : List PieceRecord) (now : List Look) → looks_in (drop start bytes) marks ≡ now → start + total_of marks ≡ end → end ≤ length bytes → looks_in (drop start (take end bytes)) marks ≡ now
seen_in bytes start end marks now view total within =
    let long : length (take end bytes) ≡ end = length-take-le end bytes within in
    let room : total_of marks ≤ length (drop start (take end bytes)) = omega (arith, total, long, length-drop start (take end bytes)) in
    let whole : drop start (take end bytes) ++ drop end bytes ≡ drop start bytes
    = sym (drop-append-le start (take end bytes) (drop end bytes) (omega (arith, total, long))) ∙ ap (drop start) (take-append-drop end bytes) in
    sym (looks_front (drop start (take end bytes)) (drop end bytes) marks room) ∙ ap (λ b. looks_in b marks) whole ∙ view

-- bytes behind all pieces were overwritten
seam : (bytes new : List ℕ) (start end : ℕ) → start ≤ end → end ≤ length bytes → take end new ≡ take end bytes → drop start new ≡ drop start (take end bytes) ++ drop end new
seam bytes new start end le within front =
    let long : length (take end bytes) ≡ end = length-take-le end bytes within in
    ap (drop start) (sym (take-append-drop end new)) ∙ ap (λ b. drop start (b ++ drop end new)) front ∙ drop-append-le start (take end bytes) (drop end new) (omega (arith, le, long))

pub overwritten_in : (bytes new : List ℕ) (start end : ℕ) (marks : List PieceRecord) (now : List Look) → looks_in (drop start bytes) marks ≡ now → start + total_of marks ≡ end → end ≤ length bytes → take end new ≡ take end bytes
    → looks_in (drop start new) marks ≡ now
overwritten_in bytes new start end marks now view total within front =
    let long : length (take end bytes) ≡ end = length-take-le end bytes within in
    let some : total_of marks ≤ length (drop start (take end bytes)) = omega (arith, total, long, length-drop start (take end bytes)) in
    ap (λ b. looks_in b marks) (seam bytes new start end (omega (arith, total)) within front)
    ∙ looks_front (drop start (take end bytes)) (drop end new) marks some ∙ seen_in bytes start end marks now view total within

-- and one piece more has the first of them
pub pushed_in : (bytes new : List ℕ) (start end : ℕ) (old marks : List PieceRecord) (now : List Look) (m : PieceRecord) → looks_in (drop start bytes) old ≡ now → start + total_of old ≡ end → end ≤ length bytes → take end new ≡ take end bytes → marks ≡ old ++ m ∷ []
    → looks_in (drop start new) marks ≡ now ++ look_with m (take (count_of m.gave) (drop end new)) ∷ []
pushed_in bytes new start end old marks now m view total within front pushed =
    let long : length (take end bytes) ≡ end = length-take-le end bytes within in
    let all : total_of old ≡ length (drop start (take end bytes)) = omega (arith, total, long, length-drop start (take end bytes)) in
    ap₂ (λ b ms. looks_in b ms) (seam bytes new start end (omega (arith, total)) within front) pushed ∙ looks_pushed (drop start (take end bytes)) (drop end new) old m all
    ∙ ap (λ l. l ++ look_with m (take (count_of m.gave) (drop end new)) ∷ []) (seen_in bytes start end old now view total within)

-- ---- what a read gave

-- the mark of what a read gave is the look that it is
abbrev IsTaken : ℕ → ℤ → ReadEvent → Found → List ℕ → Type 0
IsTaken conn moment gave found room = (look_with (record { conn = conn; moment = moment; gave = gave }) (take (count_of gave) room) ∷ [] ≡ looks_with conn moment (piece_found found)) × (is_end gave ≡ closes (piece_found found))

pub taken_by : (conn : ℕ) (moment : ℤ) (found : Found) (step : Step) (gave : ReadEvent) (into : List ℕ) → gave_in step ≡ Some gave → piece_found found ≡ gave_of (Ok step) into → IsTaken conn moment gave found into
taken_by conn moment found (StepBytes n) gave into is piece =
    let same : Bytes n ≡ gave = same_Some (Bytes n) gave is in
    subst (λ g. IsTaken conn moment g found into) same (ap (looks_with conn moment) (sym piece), ap closes (sym piece))
taken_by conn moment found StepEnd gave into is piece =
    let same : AtEnd ≡ gave = same_Some AtEnd gave is in
    subst (λ g. IsTaken conn moment g found into) same (ap (looks_with conn moment) (sym piece), ap closes (sym piece))
taken_by conn moment found NotYet gave into is piece = absurd (none-some gave is)

pub none_taken : (conn : ℕ) (moment : ℤ) (found : Found) (step : Step) (into : List ℕ) → gave_in step ≡ None → piece_found found ≡ gave_of (Ok step) into → (looks_with conn moment (piece_found found) ≡ []) × (false ≡ closes (piece_found found))
none_taken conn moment found (StepBytes n) into is piece = absurd (none-some (Bytes n) (sym is))
none_taken conn moment found StepEnd into is piece = absurd (none-some AtEnd (sym is))
none_taken conn moment found NotYet into is piece = (ap (looks_with conn moment) piece, sym (ap closes piece))

-- of a mark that has its bytes
pub count_within : (step : Step) (gave : ReadEvent) (room : ℕ) → gave_in step ≡ Some gave → IfBytes (Ok step) (λ n. n ≤ room) → count_of gave ≤ room
count_within (StepBytes n) gave room is within = subst (λ g. count_of g ≤ room) (same_Some (Bytes n) gave is) within
count_within StepEnd gave room is within = subst (λ g. count_of g ≤ room) (same_Some AtEnd gave is) (omega arith)
count_within NotYet gave room is within = absurd (none-some gave is)
