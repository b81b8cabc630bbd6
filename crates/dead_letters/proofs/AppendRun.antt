-- An append: records are laid behind the segments and settled, the slot is written and settled that names them, and the segments that left are removed.
use Rattle.std.proofs.Common.{◌≡◌, inl, inr, ⊎_elim, ℕ, zero, suc, ◌+◌, ◌-◌, ◌<◌, ◌≤◌, ◌^◌, Bool, true, false, IsTrue, List, [], ◌∷◌, ◌++◌, length, map, take, drop, Option, Ok, refl, sym, ap, ◌∙◌, subst, arith, length-append}
use Rattle.std.specs.Prelude.{Contains}
use Rattle.std.specs.Str.{bytes_eq}
use Rattle.std.proofs.lemmas.Bool.{cond-true, cond-false}
use Rattle.std.proofs.lemmas.List.{take_all, take_at, append-nil, append_assoc}
use Rattle.io_traits.specs.Folders.{Content}
use Rattle.io_traits.specs.Reads.{bytes_of, file_length}
use Rattle.io_traits.specs.Images.{Image, FileImage, IsAtRest, at_rest}
use Rattle.io_traits.specs.Moments.{NowOrSynced, EachMoment, ReadsBeside, ImagesTell}
use Rattle.io_traits.specs.declared.stores.Store.{Ghosts as StoreWords}
use Rattle.io_traits.proofs.Beside.{resting}
use Rattle.io_traits.proofs.Moments.{weaker, one_then_other, holds_now}
use Rattle.slot_files.specs.Changes.{AllRest, HasFirst, Alters}
use Rattle.slot_files.specs.Each.{laid, with_more, KeepsBytes, GoneOrSame, AltersEach}
use Rattle.slot_files.specs.Slots.{ComesNext}
use Rattle.slot_files.proofs.Altering.{keeps_same}
use Rattle.slot_files.proofs.EachFile.{none_altered}
use Rattle.slot_files.specs.Contents.{left_in}
use Rattle.dead_letters.specs.Letters.{record_bytes}
use Rattle.dead_letters.specs.Queues.{Role, segment, names, position, name_in, joined}
use Rattle.dead_letters.specs.Segments.{counted_in, OldOrNewSegments}
use Rattle.dead_letters.specs.Found.{bytes_in, found}
use Rattle.dead_letters.specs.Appends.{append_to}
use Rattle.dead_letters.specs.Views.{DeadQueue, IsOwn, names_from, last_of, named, sheds, joining, taken_by, behind_append}
use Rattle.dead_letters.specs.Ready.{files_from, held_now, AppendLeaves, IsReady, LeavesOldOrNew, IsAppended}
use Rattle.dead_letters.specs.declared.letter.DeadLetter.{DeadLetter}
use Rattle.dead_letters.specs.declared.segments.Segments.{Segments}
use Rattle.dead_letters.specs.declared.segments.Counted.TheVariants.{Count}
use Rattle.dead_letters.proofs.NamesApart.{names_differ}
use Rattle.dead_letters.proofs.SegmentSlots.{comes_next}
use Rattle.dead_letters.proofs.Growing.{files_same, is_none_of, segment_apart, laid_other}
use Rattle.dead_letters.proofs.Joining.{holds, stays, pieces_fit, pieces_are, other_segment, new_length, new_sizes, new_last, new_fresh, new_held}

-- ---- names

-- the file that names segments is none of them
pub names_apart : (folder : List ℕ) (m : ℕ) → m < 2 ^ 32 → name_in folder names ≡ name_in folder (segment m) → ⊥
names_apart folder m low same = differ (names_differ folder names (segment m) tt low same)
  where
    number : Role → ℕ
    number (segment k) = 1
    number names = 0
    number position = 2

    differ : names ≡ segment m → ⊥
    differ e = omega (arith, ap number e)

pub none_names : (folder : List ℕ) (n k : ℕ) → n + k ≤ 2 ^ 32 → Contains (names_from folder n k) (name_in folder names) → ⊥
none_names folder n k fits = is_none_of folder n k names (λ m low high. names_apart folder m (omega (arith, high, fits)))

pub none_segment : (folder : List ℕ) (n k m : ℕ) → n + k ≤ 2 ^ 32 → m < 2 ^ 32 → (n ≤ m → m < n + k → ⊥) → Contains (names_from folder n k) (name_in folder (segment m)) → ⊥
none_segment folder n k m fits low apart =
    is_none_of folder n k (segment m) (λ p from to same. segment_apart folder m p low (omega (arith, to, fits)) (λ (e : m ≡ p). apart (omega (arith, e, from)) (omega (arith, e, to))) same)

pub are_own : (folder : List ℕ) (n k : ℕ) (name : List ℕ) → n + k ≤ 2 ^ 32 → Contains (names_from folder n k) name → IsOwn folder name
are_own folder n zero name fits (i, less, is) = absurd (omega (arith, less))
are_own folder n (suc k) name fits (zero, less, is) = (segment n, omega (arith, fits), sym is)
are_own folder n (suc k) name fits (suc i, less, is) = are_own folder (suc n) k name (omega (arith, fits)) (i, omega (arith, less), is)

-- ---- what is laid behind a file

laid_behind : (ns : List (List ℕ)) (sizes bytes : List ℕ) (c : Content) (name : List ℕ) → (x : List ℕ) × (bytes_of (laid ns sizes bytes c name) ≡ bytes_of (c name) ++ x)
laid_behind [] sizes bytes c name = ([], sym (append-nil (bytes_of (c name))))
laid_behind (y ∷ ns) [] bytes c name = ([], sym (append-nil (bytes_of (c name))))
laid_behind (y ∷ ns) (n ∷ sizes) bytes c name =
    let rest = laid_behind ns sizes (drop n bytes) (with_more y (take n bytes) c) name in
    by (bytes_eq name y) refl rest.0 rest.1
  where
    by : (b : Bool) → bytes_eq name y ≡ b → (x : List ℕ) → bytes_of (laid ns sizes (drop n bytes) (with_more y (take n bytes) c) name) ≡ bytes_of (with_more y (take n bytes) c name) ++ x
        → (x : List ℕ) × (bytes_of (laid ns sizes (drop n bytes) (with_more y (take n bytes) c) name) ≡ bytes_of (c name) ++ x)
    by true is x behind = (take n bytes ++ x, behind ∙ ap (λ o. bytes_of o ++ x) (cond-true _ _ _ is) ∙ append_assoc (bytes_of (c name)) (take n bytes) x)
    by false is x behind = (x, behind ∙ ap (λ o. bytes_of o ++ x) (cond-false _ _ _ is))

-- ---- what the calls told

-- records are laid behind the files of these names, and once they are
pub record Lays {S : Type 0} (store : StoreWords S) (old mid : S) (ns : List (List ℕ)) : Type 0 where
  pub moments : EachMoment store old mid (AltersEach store ns (KeepsBytes (store.seen old)) old)
  pub beside : ReadsBeside store (Contains ns) old mid

pub record WasLaid {S : Type 0} (store : StoreWords S) (old mid : S) (ns : List (List ℕ)) (sizes bytes : List ℕ) : Type 0 where
  pub lays : Lays store old mid ns
  pub reads : IsTrue store.tells → (name : List ℕ) → store.seen mid name ≡ laid ns sizes bytes (store.seen old) name
  pub rests : AllRest store mid

-- they are those of letters, behind the segments of a queue
abbrev pub LaidFor : {S : Type 0} → StoreWords S → DeadQueue → List DeadLetter → S → S → Type 0
LaidFor store q letters old mid = WasLaid store old mid (names_from q.folder (last_of q) (length (taken_by q (joining q letters)))) (taken_by q (joining q letters)) (joined (map record_bytes (joining q letters)))

-- the slot is written in the file of this name, and once it is
pub record Counts {S : Type 0} (store : StoreWords S) (mid two : S) (turn : ℕ) (s : Segments) (name : List ℕ) : Type 0 where
  pub moments : EachMoment store mid two (Alters store name (OldOrNewSegments turn s) mid)
  pub beside : ReadsBeside store (λ n. n ≡ name) mid two

pub record WasCounted {S : Type 0} (store : StoreWords S) (mid two : S) (turn : ℕ) (s : Segments) (name : List ℕ) : Type 0 where
  pub counts : Counts store mid two turn s name
  pub counted : IsTrue store.tells → ComesNext 32 (bytes_of (store.seen mid name)) turn → counted_in (bytes_of (store.seen two name)) ≡ Count turn s
  pub rests : AllRest store two

-- the files of these names are removed
pub record Removes {S : Type 0} (store : StoreWords S) (two new : S) (ns : List (List ℕ)) : Type 0 where
  pub moments : EachMoment store two new (AltersEach store ns GoneOrSame two)
  pub beside : ReadsBeside store (Contains ns) two new

-- what an append leaves, wherever it ends
pub record HasLeft {S : Type 0} (store : StoreWords S) (q : DeadQueue) (letters : List DeadLetter) (old new : S) : Type 0 where
  pub any_moment : AppendLeaves store q letters old new
  pub beside : ReadsBeside store (IsOwn q.folder) old new

-- by the parts of a plan
pub laid_as : {S : Type 0} (store : StoreWords S) (old mid : S) (one_files files : List (List ℕ)) (one_sizes sizes one_text text : List ℕ) → one_files ≡ files → one_sizes ≡ sizes → one_text ≡ text
    → WasLaid store old mid one_files one_sizes one_text → WasLaid store old mid files sizes text
laid_as store old mid one_files files one_sizes sizes one_text text is_files is_sizes is_text l =
    subst (λ n. WasLaid store old mid n sizes text) is_files (subst (λ s. WasLaid store old mid one_files s text) is_sizes (subst (WasLaid store old mid one_files one_sizes) is_text l))

pub counted_as : (P : ℕ → Segments → List ℕ → Type 0) (one_turn turn : ℕ) (one s : Segments) (one_name name : List ℕ) → one_turn ≡ turn → one ≡ s → one_name ≡ name → P one_turn one one_name → P turn s name
counted_as P one_turn turn one s one_name name is_turn is is_name p = subst (λ t. P t s name) is_turn (subst (λ x. P one_turn x name) is (subst (P one_turn one) is_name p))

-- ---- an append

module _ {S : Type 0} (store : StoreWords S) (tell : ImagesTell store) (q : DeadQueue) (letters : List DeadLetter) (old : S) (ready : IsReady store q old) where
  abbrev c : Content
  c = store.seen old

  abbrev ps : List ℕ
  ps = taken_by q (joining q letters)

  abbrev bytes : List ℕ
  bytes = joined (map record_bytes (joining q letters))

  abbrev ns : List (List ℕ)
  ns = names_from q.folder (last_of q) (length ps)

  abbrev slot : List ℕ
  slot = name_in q.folder names

  abbrev new : DeadQueue
  new = behind_append q letters

  abbrev Appends : Image → Type 0
  Appends = AltersEach store ns (KeepsBytes c) old

  abbrev Leaves : Image → Type 0
  Leaves = LeavesOldOrNew store q.folder (held_now q c) (append_to q.limit (held_now q c) (sheds q letters) letters) old

  fit : last_of q + length ps ≤ 2 ^ 32
  fit = pieces_fit q letters ready.some ready.numbers

  fits_last : last_of q < 2 ^ 32
  fits_last = omega (arith, ready.some, ready.numbers)

  slot_rests : (d : Image) → NowOrSynced store old d → d slot ≡ at_rest (c slot)
  slot_rests d (inl left) = ready.names_rest d left
  slot_rests d (inr synced) = synced.1 slot

  segment_rests : (d : Image) → NowOrSynced store old d → (m : ℕ) → q.first ≤ m → m < 2 ^ 32 → d (name_in q.folder (segment m)) ≡ at_rest (c (name_in q.folder (segment m)))
  segment_rests d (inl left) m low high = ready.segments_rest d left m low high
  segment_rests d (inr synced) m low high = synced.1 (name_in q.folder (segment m))

  bytes_as : (i : Image) (m : ℕ) (file : Option (List ℕ)) → i (name_in q.folder (segment m)) ≡ at_rest file → bytes_in q.folder (left_in i) m ≡ bytes_of file
  bytes_as i m file is = ap (λ (f : FileImage). bytes_of f.file) is

  -- while records are laid
  pub while_laid : (i : Image) → IsTrue store.tells → Appends i → Leaves i
  while_laid i told a =
      let d = a.0 in
      let slot_is : i slot ≡ at_rest (c slot) = ⊎_elim (λ same. same ∙ slot_rests d a.1) (λ x. absurd (none_names q.folder (last_of q) (length ps) fit x.0)) (a.2 slot) in
      let first : HasFirst (length (bytes_in q.folder c (last_of q))) (c (name_in q.folder (segment (last_of q)))) (i (name_in q.folder (segment (last_of q)))) =
      (let rest = segment_rests d a.1 (last_of q) (omega arith) fits_last in
      let file = c (name_in q.folder (segment (last_of q))) in
      ⊎_elim (λ same. keeps_same (file_length file) file (i (name_in q.folder (segment (last_of q)))) (same ∙ rest)) (λ x. x.1 rest) (a.2 (name_in q.folder (segment (last_of q))))) in
      record {
        own = λ chance. inl (holds q ready.some c (ready.said told).sizes q.turn (left_in i) (ap (λ (f : FileImage). counted_in (bytes_of f.file)) slot_is ∙ (ready.said told).counted)
            (λ m low high. ⊎_elim
            (λ same. bytes_as i m (c (name_in q.folder (segment m))) (same ∙ segment_rests d a.1 m low (omega (arith, high, fits_last))))
            (λ x. absurd (none_segment q.folder (last_of q) (length ps) m fit (omega (arith, high, fits_last)) (λ from to. omega (arith, from, high)) x.0))
            (a.2 (name_in q.folder (segment m))))
            (omega (arith, first.no_shorter))
            (first.front ∙ take_all (length (bytes_in q.folder c (last_of q))) (bytes_in q.folder c (last_of q)) (omega arith)));
        beside = (d, a.1, λ name other. ⊎_elim (λ same. same) (λ x. absurd (other (are_own q.folder (last_of q) (length ps) name fit x.0))) (a.2 name));
      }

  laying : (mid : S) → EachMoment store old mid Appends → EachMoment store old mid Leaves
  laying mid run = weaker store tell old mid Appends Leaves run while_laid

  -- before the first call
  pub untouched : EachMoment store old old Leaves
  untouched = laying old (none_altered store tell ns (KeepsBytes c) old)

  laid_own : (mid : S) → ReadsBeside store (Contains ns) old mid → ReadsBeside store (IsOwn q.folder) old mid
  laid_own mid beside told name other = beside told name (λ has. other (are_own q.folder (last_of q) (length ps) name fit has))

  pub left_laying : (mid : S) → Lays store old mid ns → HasLeft store q letters old mid
  left_laying mid l = record { any_moment = laying mid l.moments; beside = laid_own mid l.beside }

  module _ (mid : S) (l : WasLaid store old mid ns ps bytes) where
    abbrev after : Content
    after = laid ns ps bytes c

    abbrev Names : Image → Type 0
    Names = Alters store slot (OldOrNewSegments new.turn (named new)) mid

    slot_reads : IsTrue store.tells → store.seen mid slot ≡ c slot
    slot_reads told = l.reads told slot ∙ laid_other ns ps bytes c slot (none_names q.folder (last_of q) (length ps) fit)

    pub next_comes : IsTrue store.tells → ComesNext 32 (bytes_of (store.seen mid slot)) new.turn
    next_comes told = comes_next (bytes_of (store.seen mid slot)) q.turn (named q) ready.turn_fits (ap (λ o. counted_in (bytes_of o)) (slot_reads told) ∙ (ready.said told).counted)

    mid_rests : (d : Image) → NowOrSynced store mid d → IsAtRest (store.seen mid) d
    mid_rests d (inl left) = l.rests d left
    mid_rests d (inr synced) = synced.1

    -- segments that read as they were laid
    new_holds : (i : Image) → IsTrue store.tells → counted_in (bytes_of (left_in i slot)) ≡ Count new.turn (named new)
        → ((m : ℕ) → new.first ≤ m → m < 2 ^ 32 → bytes_in q.folder (left_in i) m ≡ bytes_in q.folder after m)
        → found q.folder (left_in i) ≡ Ok (append_to q.limit (held_now q c) (sheds q letters) letters)
    new_holds i told counted same =
        let said = ready.said told in
        let long = new_length q letters ready.some ready.numbers in
        let low : last_of new < 2 ^ 32 = (let at = new_last q letters ready.some ready.numbers in omega (arith, at, fit, pieces_are q letters ready.some ready.numbers)) in
        let last = same (last_of new) (omega arith) low in
        holds new (omega (arith, long, pieces_are q letters ready.some ready.numbers)) after (new_sizes q letters ready.some ready.numbers c said) new.turn (left_in i) counted (λ m from to. same m from (omega (arith, to, low)))
        (let e : length (bytes_in q.folder (left_in i) (last_of new)) ≡ length (bytes_in q.folder after (last_of new)) = ap length last in omega (arith, e))
        (ap (take (length (bytes_in q.folder after (last_of new)))) last ∙ take_all (length (bytes_in q.folder after (last_of new))) (bytes_in q.folder after (last_of new)) (omega arith))
        ∙ ap Ok (new_held q letters ready.some ready.numbers c said)

    -- while it is written which segments count
    while_counted : (i : Image) → IsTrue store.tells → Names i → Leaves i
    while_counted i told a =
        let said = ready.said told in
        let rests = mid_rests a.0 a.1 in
        let bytes_are = λ (m : ℕ) (low : m < 2 ^ 32). bytes_as i m (store.seen mid (name_in q.folder (segment m)))
        (a.2.there (name_in q.folder (segment m)) (λ same. names_apart q.folder m low (sym same)) ∙ rests (name_in q.folder (segment m)))
        ∙ ap bytes_of (l.reads told (name_in q.folder (segment m))) in
        let more = laid_behind ns ps bytes c (name_in q.folder (segment (last_of q))) in
        let last = bytes_are (last_of q) fits_last ∙ more.1 in
        record {
          own = λ chance. ⊎_elim
              (λ same. inl (holds q ready.some c said.sizes q.turn (left_in i) (same ∙ ap (λ o. counted_in (bytes_of o)) (slot_reads told) ∙ said.counted)
              (λ m low high. bytes_are m (omega (arith, high, fits_last)) ∙ other_segment q letters ready.some ready.numbers c said m (omega (arith, high, fits_last)) (λ from to. omega (arith, from, high)))
              (let e : length (bytes_in q.folder (left_in i) (last_of q)) ≡ length (bytes_in q.folder c (last_of q) ++ more.0) = ap length last in omega (arith, e, length-append (bytes_in q.folder c (last_of q)) more.0))
              (ap (take (length (bytes_in q.folder c (last_of q)))) last ∙ take_at (bytes_in q.folder c (last_of q)) more.0 (length (bytes_in q.folder c (last_of q))) refl)))
              (λ is. inr (new_holds i told is (λ m low high. bytes_are m high)))
              (a.2.here (store.seen mid slot) (rests slot) (next_comes told) chance);
          beside = (
            resting c,
            inr (told, λ n. refl),
            λ name other. a.2.there name (λ is. other (names, tt, is)) ∙ rests name ∙ ap at_rest (laid_own mid l.lays.beside told name other),
          );
        }

    counted_own : (two : S) → ReadsBeside store (λ n. n ≡ slot) mid two → ReadsBeside store (IsOwn q.folder) old two
    counted_own two beside told name other = beside told name (λ is. other (names, tt, is)) ∙ laid_own mid l.lays.beside told name other

    pub left_counting : (two : S) → Counts store mid two new.turn (named new) slot → HasLeft store q letters old two
    left_counting two w = record {
      any_moment = one_then_other store tell old mid two Appends Names Leaves l.lays.moments w.moments while_laid while_counted;
      beside = counted_own two w.beside;
    }

    module _ (two : S) (w : WasCounted store mid two new.turn (named new) slot) where
      abbrev gone : List (List ℕ)
      gone = names_from q.folder q.first (sheds q letters).older

      abbrev Goes : Image → Type 0
      Goes = AltersEach store gone GoneOrSame two

      gone_fit : q.first + (sheds q letters).older ≤ 2 ^ 32
      gone_fit = omega (arith, stays q letters ready.some ready.numbers, ready.numbers)

      two_rests : (d : Image) → NowOrSynced store two d → IsAtRest (store.seen two) d
      two_rests d (inl left) = w.rests d left
      two_rests d (inr synced) = synced.1

      segment_reads : IsTrue store.tells → (m : ℕ) → m < 2 ^ 32 → bytes_of (store.seen two (name_in q.folder (segment m))) ≡ bytes_in q.folder after m
      segment_reads told m low = ap bytes_of (w.counts.beside told (name_in q.folder (segment m)) (λ same. names_apart q.folder m low (sym same)) ∙ l.reads told (name_in q.folder (segment m)))

      -- a file that counts is none of those that leave
      slot_same : (i : Image) → Goes i → i slot ≡ at_rest (store.seen two slot)
      slot_same i a = ⊎_elim (λ same. same ∙ two_rests a.0 a.1 slot) (λ x. absurd (none_names q.folder q.first (sheds q letters).older gone_fit x.0)) (a.2 slot)

      segment_same : (i : Image) → Goes i → (m : ℕ) → new.first ≤ m → m < 2 ^ 32 → i (name_in q.folder (segment m)) ≡ at_rest (store.seen two (name_in q.folder (segment m)))
      segment_same i a m low high = ⊎_elim
          (λ same. same ∙ two_rests a.0 a.1 (name_in q.folder (segment m)))
          (λ x. absurd (none_segment q.folder q.first (sheds q letters).older m gone_fit high (λ from to. omega (arith, low, to)) x.0))
          (a.2 (name_in q.folder (segment m)))

      while_removed : (i : Image) → IsTrue store.tells → Goes i → Leaves i
      while_removed i told a = record {
        own = λ chance. inr (new_holds i told (ap (λ (f : FileImage). counted_in (bytes_of f.file)) (slot_same i a) ∙ w.counted told (next_comes told))
            (λ m low high. bytes_as i m (store.seen two (name_in q.folder (segment m))) (segment_same i a m low high) ∙ segment_reads told m high));
        beside = (
          resting c,
          inr (told, λ n. refl),
          λ name other. ⊎_elim (λ same. same ∙ two_rests a.0 a.1 name) (λ x. absurd (other (are_own q.folder q.first (sheds q letters).older name gone_fit x.0))) (a.2 name) ∙ ap at_rest (counted_own two w.counts.beside told name other),
        );
      }

      pub left_removing : (s : S) → Removes store two s gone → HasLeft store q letters old s
      left_removing s r = record {
        any_moment = one_then_other store tell old two s Leaves Goes Leaves (left_counting two w.counts).any_moment r.moments (λ i told leaves. leaves) while_removed;
        beside = λ told name other. r.beside told name (λ has. other (are_own q.folder q.first (sheds q letters).older name gone_fit has)) ∙ counted_own two w.counts.beside told name other;
      }

      pub appended : (s : S) → Removes store two s gone → IsAppended store q letters old new s
      appended s r = record {
        ready = record {
          some = some_new;
          numbers = numbers_new;
          turn_fits = omega arith;
          said = λ told. record {
            counted = ap (λ o. counted_in (bytes_of o)) (slot_is told) ∙ w.counted told (next_comes told);
            sizes = ap (map length) (files_are told) ∙ new_sizes q letters ready.some ready.numbers c (ready.said told);
            fresh = λ m low high. segment_is told m (omega (arith, low)) high ∙ new_fresh q letters ready.some ready.numbers c (ready.said told) m low high;
          };
          names_rest = λ i left. slot_same i (holds_now store two s Goes r.moments i left) ∙ ap at_rest (sym (slot_is (tell s (store.moment s) i left)));
          segments_rest = λ i left m low high. segment_same i (holds_now store two s Goes r.moments i left) m low high ∙ ap at_rest (sym (file_is (tell s (store.moment s) i left) m low high));
        };
        held = λ told. ap (λ l. record { first = new.first; segments = l }) (files_are told) ∙ new_held q letters ready.some ready.numbers c (ready.said told);
      }
        where
          long : length new.sizes ≡ length q.sizes - 1 - (sheds q letters).older + length ps
          long = new_length q letters ready.some ready.numbers

          some_new : 0 < length new.sizes
          some_new = omega (arith, long, pieces_are q letters ready.some ready.numbers)

          numbers_new : new.first + length new.sizes ≤ 2 ^ 32
          numbers_new = omega (arith, long, fit, stays q letters ready.some ready.numbers)

          slot_is : IsTrue store.tells → store.seen s slot ≡ store.seen two slot
          slot_is told = r.beside told slot (none_names q.folder q.first (sheds q letters).older gone_fit)

          file_is : IsTrue store.tells → (m : ℕ) → new.first ≤ m → m < 2 ^ 32 → store.seen s (name_in q.folder (segment m)) ≡ store.seen two (name_in q.folder (segment m))
          file_is told m low high = r.beside told (name_in q.folder (segment m)) (none_segment q.folder q.first (sheds q letters).older m gone_fit high (λ from to. omega (arith, low, to)))

          segment_is : IsTrue store.tells → (m : ℕ) → new.first ≤ m → m < 2 ^ 32 → bytes_in q.folder (store.seen s) m ≡ bytes_in q.folder after m
          segment_is told m low high = ap bytes_of (file_is told m low high) ∙ segment_reads told m high

          files_are : IsTrue store.tells → files_from q.folder (store.seen s) new.first (length new.sizes) ≡ files_from q.folder after new.first (length new.sizes)
          files_are told = files_same q.folder (store.seen s) after new.first (length new.sizes) (λ m low high. segment_is told m low (omega (arith, high, numbers_new)))
