-- What a stop within a step leaves stands inside a run.
use Rattle.std.proofs.Common.{◌≡◌, ◌⊎◌, inl, inr, ℕ, true, List, [], ◌∷◌, ◌++◌, length, take, drop, Option, Some, None, refl, sym, ap, ap₂, ◌∙◌, subst, arith, append-nil, append_assoc}
use Rattle.std.proofs.lemmas.List.{length-append, take-append-le}
use Rattle.io_traits.specs.Folders.{Content}
use Rattle.io_traits.specs.Images.{Image}
use Rattle.io_traits.specs.Reads.{bytes_of}
use Rattle.event_tree.specs.Events.{Ev}
use Rattle.event_flow.specs.Meaning.{Makes}
use Rattle.history_book.specs.Deeds.{Deed, Tell, told_of, tell_all, no_mail, Assurance, Leaves, DidLegally, LegalBehind}
use Rattle.history_book.specs.Entries.{Entry, ParcelAt, Accept}
use Rattle.history_book.specs.Legal.{Legal}
use Rattle.history_book.specs.Links.{Listening}
use Rattle.history_book.specs.Lists.{IsIn}
use Rattle.slot_files.specs.Positions.{recorded_in}
use Rattle.slot_files.specs.declared.recorded.Recorded.{Recorded}
use Rattle.history_book.specs.Contents.{Bytes}
use Rattle.history_book.specs.Holdings.{Holdings, StopLeaves}
use Rattle.history_book.specs.Premises.{OnlyGrows, StandsInside}
use Rattle.history_book.specs.Runs.{Meanings, Bases}
use Rattle.history_book.specs.Sound.{Places, LineSound}
use Rattle.history_book.specs.Sources.{Sources}
use Rattle.history_book.specs.States.{start, after}
use Rattle.history_book.specs.Watched.{WatchedFile, IsPosition, PositionSound}
use Rattle.history_book.proofs.Histories.{legal_rest, settled_stays}
use Rattle.history_book.proofs.Mailing.{told_both, told_all, did_more}
use Rattle.line_machine.specs.declared.calls.Call.{Call}
use Rattle.line_machine.specs.Answers.{IsPart, Parts, None_before, First}
use Rattle.line_machine.specs.Doing.{deeds_of}
use Rattle.line_machine.specs.Effects.{Effect, MayLeave, Before, Behind}
use Rattle.line_machine.specs.Inside.{StepsStandInside, CallsStandInside, InsideStays, LeavesPosition, StopsStandInside}
use Rattle.line_machine.specs.Lines.{LineStands, deeds_of_parts}
use Rattle.line_machine.specs.Steps as s
use Rattle.line_machine.specs.Steps.{Step, effect}
use Rattle.line_machine.specs.Positions.{BeganAt}
use Rattle.line_machine.specs.Views.{FileAt, Incoming, InputView, LineView}
use Rattle.line_machine.proofs.Doing.{does_legally_still}
use Rattle.line_machine.proofs.Lines.{step_told, parts_stand_whole}
use Rattle.line_machine.proofs.Positions.{recorded_positions_stand}
use Rattle.line_machine.proofs.Steps.{steps_follow}

same_rest : (d : Deed) (xs ys : List Deed) → d ∷ xs ≡ d ∷ ys → xs ≡ ys
same_rest d xs ys same = cc

same_behind : (told : List Entry) (xs ys : List Deed) → tell_all told ++ xs ≡ tell_all told ++ ys → xs ≡ ys
same_behind [] xs ys same = same
same_behind (e ∷ told) xs ys same = same_behind told xs ys (same_rest (Tell e) (tell_all told ++ xs) (tell_all told ++ ys) same)

-- what was done behind earlier runs was legal there
pub did_behind : (makes : Makes) (earlier : List Entry) (deeds since : List Deed) (left : List Assurance) → deeds ≡ tell_all earlier ++ since → DidLegally makes earlier deeds left → LegalBehind makes earlier since
did_behind makes earlier deeds since left parts did = (left, subst (λ (d : List Deed). Leaves makes (after makes start earlier) no_mail [] d left) (same_behind earlier did.since since (sym did.parts ∙ parts)) did.legal)

-- a recorded position that agrees with what was told does so behind more
position_still : (listening : Listening) (sources : Sources) (makes : Makes) (told more : List Entry) (files : Content) (image : Image) (file : WatchedFile) → Legal makes start (told ++ more)
    → PositionSound listening sources makes told files image file → PositionSound listening sources makes (told ++ more) files image file
position_still listening sources makes told more files image file legal is = record {
  position = is.position;
  recorded = is.recorded;
  behind = is.behind;
  within = is.within;
  readings = is.readings;
  cut = is.cut;
  read = is.read;
  settled = λ r has w row. let settled = is.settled r has w row in settled_stays makes told more w legal settled.0 settled.1;
  differ = is.differ;
}

module _ (m : Meanings) (bases : Bases) (k : ℕ) (earlier : List Entry) (since : List Deed) (came : ℕ → List Incoming) (i : LineView (bases.places k))
    (line : LineStands m.makes m.listening m.bytes (bases.places k) earlier (tell_all earlier ++ since) came i) where
  abbrev before : List Deed
  before = tell_all earlier ++ since

  abbrev done_by : Step m.makes m.listening m.bytes i → List Deed
  done_by x = deeds_of m.makes m.listening m.bytes (bases.places k) i x

  told_before : told_of before ≡ earlier ++ told_of since
  told_before = told_both (tell_all earlier) since ∙ ap (λ l. l ++ told_of since) (told_all earlier)

  legal_now : (x : Step m.makes m.listening m.bytes i) → Legal m.makes start (told_of before ++ (effect m.makes m.listening m.bytes i x).told)
  legal_now x = (steps_follow m.makes m.listening m.bytes (bases.places k) (told_of before) i x line.stands).legal

  legal_since : LegalBehind m.makes earlier since
  legal_since = did_behind m.makes earlier before since line.senders.left refl line.senders.legal

  none_done : LegalBehind m.makes earlier (since ++ [])
  none_done = subst (LegalBehind m.makes earlier) (sym (append-nil since)) legal_since

  -- a row of which it is in doubt whether it is there
  doubtful : (input : ℕ) (parcel : Option ParcelAt) (number : ℕ) (event : Ev) → Legal m.makes start (told_of before ++ Accept input parcel number event ∷ [])
      → LegalBehind m.makes earlier (since ++ Tell (Accept input parcel number event) ∷ [])
  doubtful input parcel number event legal =
      let e = Accept input parcel number event in
      let left = line.senders.left in
      did_behind m.makes earlier (before ++ Tell e ∷ []) (since ++ Tell e ∷ []) left (append_assoc (tell_all earlier) since (Tell e ∷ []))
      (did_more m.makes earlier before (Tell e ∷ []) left left line.senders.legal ((legal_rest m.makes start (told_of before) (e ∷ []) legal).0, (left, refl, refl)))

  legal_behind : (x : Step m.makes m.listening m.bytes i) → LegalBehind m.makes earlier (since ++ done_by x)
  legal_behind (s.Accepts n c r true) = doubtful n None r.row.number r.row.event (legal_now (s.Accepts n c r true))
  legal_behind (s.Accepts_parcel n a r true) = doubtful n (Some a.at) r.row.number r.row.event (legal_now (s.Accepts_parcel n a r true))
  legal_behind (s.Fails_to_deliver n left h f is printed out given took) = none_done
  legal_behind (s.Fails_to_assure n front h is) = none_done
  legal_behind (s.Only_fails x fails) = none_done
  legal_behind x =
      let still = does_legally_still m.makes m.listening m.bytes (bases.places k) earlier before i x line.stands line.senders tt in
      did_behind m.makes earlier (before ++ done_by x) (since ++ done_by x) still.left (append_assoc (tell_all earlier) since (done_by x)) still.legal

  stands_inside : (x : Step m.makes m.listening m.bytes i) (files : Content) (image : Image)
      → ((file : WatchedFile) → IsIn file (bases.watched k) → PositionSound m.listening m.sources m.makes (earlier ++ told_of since) files image file)
      → LineSound m.makes m.bytes (bases.places k) (told_of before) image ⊎ LineSound m.makes m.bytes (bases.places k) (told_of before ++ (effect m.makes m.listening m.bytes i x).told) image
      → StandsInside m bases k earlier (since ++ done_by x) files image
  stands_inside x files image positions (inl sound) = record {
    front = since;
    more = done_by x;
    parts = refl;
    legal = legal_since;
    sound = record { line = subst (λ (l : List Entry). LineSound m.makes m.bytes (bases.places k) l image) told_before sound; positions = positions };
  }
  stands_inside x files image positions (inr sound) =
      let told = (effect m.makes m.listening m.bytes i x).told in
      let now : told_of before ++ told ≡ earlier ++ told_of (since ++ done_by x) =
      ap (λ (l : List Entry). l ++ told) told_before ∙ append_assoc earlier (told_of since) told ∙ ap (λ (l : List Entry). earlier ++ (told_of since ++ l)) (sym (step_told m.makes m.listening m.bytes (bases.places k) i x))
      ∙ ap (λ (l : List Entry). earlier ++ l) (sym (told_both since (done_by x))) in
      record {
        front = since ++ done_by x;
        more = [];
        parts = sym (append-nil (since ++ done_by x));
        legal = legal_behind x;
        sound = record {
          line = subst (λ (l : List Entry). LineSound m.makes m.bytes (bases.places k) l image) now sound;
          positions = λ file has.
              subst (λ (l : List Entry). PositionSound m.listening m.sources m.makes l files image file) now
              (position_still m.listening m.sources m.makes (told_of before) told files image file (legal_now x)
              (subst (λ (l : List Entry). PositionSound m.listening m.sources m.makes l files image file) (sym told_before) (positions file has)));
        };
      }

pub steps_stand_inside : StepsStandInside
steps_stand_inside m bases k earlier since came i x files image line leaves positions =
    stands_inside m bases k earlier since came i line x files image positions
    ((steps_follow m.makes m.listening m.bytes (bases.places k) (told_of (tell_all earlier ++ since)) i x line.stands).images image leaves)

-- ---- calls

module _ (makes : Makes) (listening : Listening) (bytes : Bytes) (places : Places) (x : Call) where
  part_quiet : (i : LineView places) (y : Step makes listening bytes i) → IsPart makes listening bytes i y x
      → ((effect makes listening bytes i y).line.holds ≡ i.holds) × (told_of (deeds_of makes listening bytes places i y) ≡ []) × ((effect makes listening bytes i y).line.inputs ≡ i.inputs)
  part_quiet i (s.Sends n id address events rest h none p same some may) part = (refl, refl, refl)
  part_quiet i (s.Hears address a sender has turn waits) part = (refl, refl, refl)
  part_quiet i (s.Sends_last address p last may ends) part = (refl, refl, refl)
  part_quiet i y part = absurd part

  parts_quiet : (i j : LineView places) (parts : Parts makes listening bytes x i j)
      → (j.holds ≡ i.holds) × (told_of (deeds_of_parts makes listening bytes places x i j parts) ≡ []) × (j.inputs ≡ i.inputs)
  parts_quiet i j (None_before _) = (refl, refl, refl)
  parts_quiet i j (First _ _ y part parts) =
      let now = (effect makes listening bytes i y).line in
      let first = part_quiet i y part in
      let rest = parts_quiet now j parts in (
        rest.0 ∙ first.0,
        told_both (deeds_of makes listening bytes places i y) (deeds_of_parts makes listening bytes places x now j parts) ∙ ap₂ (λ (l r : List Entry). l ++ r) first.1 rest.1,
        rest.2 ∙ first.2,
      )

pub calls_stand_inside : CallsStandInside
calls_stand_inside m bases k earlier since came i x e files image line did leaves positions =
    subst (λ (d : List Deed). StandsInside m bases k earlier d files image) (append_assoc since parts (deeds_of m.makes m.listening m.bytes (bases.places k) did.line did.step))
    (steps_stand_inside m bases k earlier (since ++ parts) came did.line did.step files image
    (subst (λ (d : List Deed). LineStands m.makes m.listening m.bytes (bases.places k) earlier d came did.line) (append_assoc (tell_all earlier) since parts)
    (parts_stand_whole m.makes m.listening m.bytes (bases.places k) x i did.line did.before earlier (tell_all earlier ++ since) came line))
    (leaves_on leaves) (λ file has. subst (λ (l : List Entry). PositionSound m.listening m.sources m.makes (earlier ++ l) files image file) (sym since_same) (positions file has)))
  where
    parts : List Deed
    parts = deeds_of_parts m.makes m.listening m.bytes (bases.places k) x i did.line did.before

    quiet : (did.line.holds ≡ i.holds) × (told_of parts ≡ []) × (did.line.inputs ≡ i.inputs)
    quiet = parts_quiet m.makes m.listening m.bytes (bases.places k) x i did.line did.before

    since_same : told_of (since ++ parts) ≡ told_of since
    since_same = told_both since parts ∙ ap (λ (l : List Entry). told_of since ++ l) quiet.1 ∙ append-nil (told_of since)

    told_same : told_of (tell_all earlier ++ (since ++ parts)) ≡ told_of (tell_all earlier ++ since)
    told_same = told_both (tell_all earlier) (since ++ parts) ∙ ap (λ (l : List Entry). told_of (tell_all earlier) ++ l) since_same ∙ sym (told_both (tell_all earlier) since)

    leaves_on : MayLeave m.makes m.bytes (bases.places k) (told_of (tell_all earlier ++ since)) i e image
        → MayLeave m.makes m.bytes (bases.places k) (told_of (tell_all earlier ++ (since ++ parts))) did.line (effect m.makes m.listening m.bytes did.line did.step) image
    leaves_on (Before left) =
        Before (subst (λ (h : Holdings (bases.places k)). StopLeaves m.makes m.bytes (bases.places k) (told_of (tell_all earlier ++ (since ++ parts))) h image) (sym quiet.0)
        (subst (λ (l : List Entry). StopLeaves m.makes m.bytes (bases.places k) l i.holds image) (sym told_same) left))
    leaves_on (Behind left) =
        Behind (subst (λ (y : Effect (bases.places k)). StopLeaves m.makes m.bytes (bases.places k) (told_of (tell_all earlier ++ (since ++ parts)) ++ y.told) y.behind image) did.effect_is
        (subst (λ (l : List Entry). StopLeaves m.makes m.bytes (bases.places k) (l ++ e.told) e.behind image) (sym told_same) left))

-- ---- further deeds, and files that grow

position_grown : (listening : Listening) (sources : Sources) (makes : Makes) (told : List Entry) (old new : Content) (image : Image) (file : WatchedFile) → OnlyGrows old new
    → PositionSound listening sources makes told old image file → PositionSound listening sources makes told new image file
position_grown listening sources makes told old new image file grows is =
    let more = grows file.path in
    let long = ap length more.1 ∙ length-append (bytes_of (old file.path)) more.0 in
    let inside = is.within in
    record {
      position = is.position;
      recorded = is.recorded;
      behind = is.behind;
      within = omega (arith, inside, long);
      readings = is.readings;
      cut = is.cut ∙ ap (drop file.base) (sym (ap (take is.position) more.1 ∙ take-append-le is.position (bytes_of (old file.path)) more.0 is.within));
      read = is.read;
      settled = is.settled;
      differ = is.differ;
    }

pub inside_stays : InsideStays
inside_stays m bases k earlier deeds later old new image grows is = record {
  front = is.front;
  more = is.more ++ later;
  parts = ap (λ (d : List Deed). d ++ later) is.parts ∙ append_assoc is.front is.more later;
  legal = is.legal;
  sound = record {
    line = is.sound.line;
    positions = λ file has. position_grown m.listening m.sources m.makes (earlier ++ told_of is.front) old new image file grows (is.sound.positions file has);
  };
}

-- ---- positions

-- a position that was recorded before, and is still
recorded_still : (listening : Listening) (sources : Sources) (makes : Makes) (told : List Entry) (files : Content) (image old : Image) (file : WatchedFile)
    → recorded_in (bytes_of (image file.slot).file) ≡ recorded_in (bytes_of (old file.slot).file) → PositionSound listening sources makes told files old file → PositionSound listening sources makes told files image file
recorded_still listening sources makes told files image old file same is = record {
  position = is.position;
  recorded = subst (λ (r : Recorded). IsPosition file.base r is.position) (sym same) is.recorded;
  behind = is.behind;
  within = is.within;
  readings = is.readings;
  cut = is.cut;
  read = is.read;
  settled = is.settled;
  differ = is.differ;
}

pub stops_stand_inside : StopsStandInside
stops_stand_inside m bases k earlier since came i x e files image line files_read did leaves left =
    calls_stand_inside m bases k earlier since came i x e files image line did leaves (λ file has. by_position file has (left file has))
  where
    parts : List Deed
    parts = deeds_of_parts m.makes m.listening m.bytes (bases.places k) x i did.line did.before

    quiet : (did.line.holds ≡ i.holds) × (told_of parts ≡ []) × (did.line.inputs ≡ i.inputs)
    quiet = parts_quiet m.makes m.listening m.bytes (bases.places k) x i did.line did.before

    done : List Deed
    done = (tell_all earlier ++ since) ++ parts

    told_is : told_of done ≡ earlier ++ told_of since
    told_is =
        told_both (tell_all earlier ++ since) parts ∙ ap (λ (l : List Entry). told_of (tell_all earlier ++ since) ++ l) quiet.1 ∙ append-nil (told_of (tell_all earlier ++ since))
        ∙ told_both (tell_all earlier) since ∙ ap (λ (l : List Entry). l ++ told_of since) (told_all earlier)

    there : (v : InputView) → IsIn v did.line.inputs → IsIn v i.inputs
    there v has = subst (IsIn v) quiet.2 has

    at_place : (file : WatchedFile) → IsIn file (bases.watched k) → (f : FileAt) → IsIn f e.recorded → file.path ≡ f.path → IsPosition file.base (recorded_in (bytes_of (image file.slot).file)) f.behind
        → PositionSound m.listening m.sources m.makes (told_of done) files image file
    at_place file has f was same recorded =
        recorded_positions_stand m.makes m.listening m.bytes (bases.places k) m.sources earlier done came did.line did.step f files files_read.begins file image
        (parts_stand_whole m.makes m.listening m.bytes (bases.places k) x i did.line did.before earlier (tell_all earlier ++ since) came line)
        (subst (λ (y : Effect (bases.places k)). IsIn f y.recorded) did.effect_is was) (λ v is opens lines. files_read.lines v (there v is) opens lines)
        (λ v is opens lines watches.
        subst (λ (path : List ℕ). BeganAt m.listening m.sources m.makes (told_of done) v.number files file (files_read.begins v.number path)) same
        (subst (λ (l : List Entry). BeganAt m.listening m.sources m.makes l v.number files file (files_read.begins v.number file.path)) (sym told_is)
        (files_read.began file has v (there v is) opens lines (subst (λ (path : List ℕ). m.sources.watches v.statement path ≡ true) (sym same) watches)))) same recorded

    by_position : (file : WatchedFile) → IsIn file (bases.watched k) → LeavesPosition m bases k files (earlier ++ told_of since) e.recorded image file
        → PositionSound m.listening m.sources m.makes (earlier ++ told_of since) files image file
    by_position file has (inl old) = recorded_still m.listening m.sources m.makes (earlier ++ told_of since) files image old.0 file old.2 old.1
    by_position file has (inr new) =
        subst (λ (l : List Entry). PositionSound m.listening m.sources m.makes l files image file) told_is (at_place file has new.0 new.1 new.2 new.3)
