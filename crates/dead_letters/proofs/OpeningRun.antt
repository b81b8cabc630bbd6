-- Calls of an opening, one after the other, and what a stop leaves.
use Rattle.std.proofs.Common.{◌≡◌, ◌⊎◌, inl, inr, ⊎_elim, ℕ, ◌+◌, ◌-◌, ◌<◌, ◌≤◌, ◌^◌, IsTrue, List, length, Result, Ok, Err, IfOk, refl, sym, ap, ◌∙◌, subst, arith}
use Rattle.std.specs.Prelude.{Contains}
use Rattle.io_traits.specs.Folders.{Content}
use Rattle.io_traits.specs.Reads.{bytes_of}
use Rattle.io_traits.specs.Images.{Image, FileImage, IsAtRest, at_rest}
use Rattle.io_traits.specs.Moments.{MayLeaveNow, NowOrSynced, EachMoment, ReadsBeside, ImagesTell}
use Rattle.io_traits.specs.declared.stores.Store.{Ghosts as StoreWords}
use Rattle.io_traits.proofs.Beside.{resting, beside_none}
use Rattle.io_traits.proofs.Moments.{started, goes_on, weaker, one_then_other, holds_now}
use Rattle.io_traits.proofs.Looking.{Nothing, nothing_left}
use Rattle.io_traits.specs.declared.queue_faults.QueueFault.{QueueFault}
use Rattle.slot_files.specs.Changes.{AllRest, HasFirst}
use Rattle.slot_files.specs.Contents.{left_in}
use Rattle.dead_letters.specs.Queues.{segment, names, name_in}
use Rattle.dead_letters.specs.Segments.{counted_in}
use Rattle.dead_letters.specs.Found.{Held, bytes_in, found}
use Rattle.dead_letters.specs.Views.{IsOwn}
use Rattle.dead_letters.specs.Opening.{NoChances, HoldsStill, LeavesHeld}
use Rattle.dead_letters.specs.Trimming.{IsCut, IsExcess, IsOpened, StaysHeld, Trims, sizes_cut}
use Rattle.dead_letters.specs.declared.segments.Segments.{Segments}
use Rattle.dead_letters.specs.declared.segments.Counted.TheVariants.{Count}
use Rattle.dead_letters.specs.declared.opening.OpenedLetters.{OpenedLetters}
use Rattle.dead_letters.specs.declared.trimming.Excess.{Excess}
use Rattle.dead_letters.proofs.OpenedReads.{none_counted, other_own, trimmed, said, held, cleared}

-- files at rest are left as they read
pub left_same : (c : Content) (i : Image) → IsAtRest c i → left_in i ≡ c
left_same c i rests = λ k name. ap (λ (f : FileImage). f.file) (rests name) k

-- and no slot stands in them that was not settled
rested_chances : (folder : List ℕ) (c : Content) → NoChances folder (resting c)
rested_chances folder c = (record { each = λ place frame is stands. inl stands }, record { each = λ place frame is stands. inl stands })

rested_holds : (folder : List ℕ) (c : Content) (i : Image) → IsAtRest c i → HoldsStill folder c i
rested_holds folder c i rests h is chances = ap (found folder) (left_same c i rests) ∙ is

-- what the call told that removes files and cuts another
pub record WasTrimmed {S : Type 0} (store : StoreWords S) (gone : List (List ℕ)) (len : ℕ) (mid two : S) (last : List ℕ) : Type 0 where
  pub moments : AllRest store mid → EachMoment store mid two (Trims store gone last len mid)
  pub beside : ReadsBeside store (λ n. (Contains gone n) ⊎ (n ≡ last)) mid two

module _ {S : Type 0} (store : StoreWords S) (tell : ImagesTell store) (folder : List ℕ) where
  -- ---- where all is at rest

  rested : (s : S) → AllRest store s → (i : Image) → MayLeaveNow store s i → StaysHeld store folder s i
  rested s rests i left = record { own = rested_holds folder (store.seen s) i (rests i left); beside = λ name other. rests i left name }

  pub untouched : (s : S) → AllRest store s → EachMoment store s s (StaysHeld store folder s)
  untouched s rests = started store s (StaysHeld store folder s) (rested s rests)

  -- calls that change nothing
  pub looked : (old mid : S) → AllRest store old → Nothing store old mid → EachMoment store old mid (StaysHeld store folder old)
  looked old mid rests nothing = weaker store tell old mid (MayLeaveNow store old) (StaysHeld store folder old) (nothing_left store old mid nothing) (λ i told left. rested old rests i left)

  pub rests_still : (old mid : S) → AllRest store old → Nothing store old mid → AllRest store mid
  rests_still old mid rests nothing i left n = rests i (nothing.images i left) n ∙ sym (ap (λ c. at_rest (c n)) (nothing.reads (tell mid (store.moment mid) i left)))

  -- and such calls behind others
  pub then_looked : (old mid new : S) (P : Image → Type 0) → EachMoment store old mid P → Nothing store mid new → EachMoment store old new P
  then_looked old mid new P run nothing = goes_on store old mid new P run nothing.time (λ i left. holds_now store old mid P run i (nothing.images i left))

  -- a folder that holds still what it held, and then holds that
  pub holds_then : (old mid new : S) → (IsTrue store.tells → found folder (store.seen mid) ≡ found folder (store.seen old)) → ReadsBeside store (IsOwn folder) old mid
      → EachMoment store old mid (StaysHeld store folder old) → EachMoment store mid new (StaysHeld store folder mid) → EachMoment store old new (StaysHeld store folder old)
  holds_then old mid new same beside one other =
      one_then_other store tell old mid new (StaysHeld store folder old) (StaysHeld store folder mid) (StaysHeld store folder old) one other (λ i told a. a)
      (λ i told a. record { own = λ h is. a.own h (same told ∙ is); beside = λ name outside. a.beside name outside ∙ ap at_rest (beside told name outside) })

  pub beside_then : (old mid new : S) → ReadsBeside store (IsOwn folder) old mid → ReadsBeside store (IsOwn folder) mid new → ReadsBeside store (IsOwn folder) old new
  beside_then old mid new one other told name outside = other told name outside ∙ one told name outside

  pub beside_looked : (old mid : S) → Nothing store old mid → ReadsBeside store (IsOwn folder) old mid
  beside_looked old mid nothing told name outside = ap (λ (c : Content). c name) (nothing.reads told)

  -- and is open then
  pub holds_opened : (old mid new : S) → (IsTrue store.tells → found folder (store.seen mid) ≡ found folder (store.seen old)) → (r : Result OpenedLetters QueueFault) → IfOk r (λ o. IsOpened store folder o mid new)
      → IfOk r (λ o. IsOpened store folder o old new)
  holds_opened old mid new same (Ok o) is = record { ready = is.ready; held = λ limit policy told. sym (same told) ∙ is.held limit policy told; cleared = is.cleared }
  holds_opened old mid new same (Err _) is = tt

  -- ---- all is settled first

  begun : (old : S) (i : Image) → IsTrue store.tells → NowOrSynced store old i → LeavesHeld store folder old i
  begun old i told was = record {
    own = ⊎_elim (λ left. inl left) (λ synced. inr (told, rested_holds folder (store.seen old) i synced.1)) was;
    beside = beside_none store (IsOwn folder) old i was;
  }

  pub not_begun : (old : S) → EachMoment store old old (LeavesHeld store folder old)
  not_begun old = started store old (LeavesHeld store folder old) (λ i left. begun old i (tell old (store.moment old) i left) (inl left))

  pub settling : (old mid : S) → EachMoment store old mid (NowOrSynced store old) → EachMoment store old mid (LeavesHeld store folder old)
  settling old mid run = weaker store tell old mid (NowOrSynced store old) (LeavesHeld store folder old) run (begun old)

  pub settled_then : (old mid new : S) → EachMoment store old mid (NowOrSynced store old) → (IsTrue store.tells → store.seen mid ≡ store.seen old) → EachMoment store mid new (StaysHeld store folder mid)
      → EachMoment store old new (LeavesHeld store folder old)
  settled_then old mid new one reads other =
      one_then_other store tell old mid new (NowOrSynced store old) (StaysHeld store folder mid) (LeavesHeld store folder old) one other (begun old)
      (λ i told a. record {
        own = inr (told, subst (λ c. HoldsStill folder c i) (reads told) a.own);
        beside = (resting (store.seen old), inr (told, λ n. refl), λ name outside. a.beside name outside ∙ ap (λ (c : Content). at_rest (c name)) (reads told));
      })

  -- what all images hold is kept
  pub kept_held : (h : Held) (old new : S) → EachMoment store old new (LeavesHeld store folder old) → ((i : Image) → NowOrSynced store old i → NoChances folder i → found folder (left_in i) ≡ Ok h)
      → EachMoment store old new (λ i. NoChances folder i → found folder (left_in i) ≡ Ok h)
  kept_held h old new run holds =
      let c = store.seen old in
      weaker store tell old new (LeavesHeld store folder old) (λ i. NoChances folder i → found folder (left_in i) ≡ Ok h) run
      (λ i told a chances. ⊎_elim
      (λ left. holds i (inl left) chances)
      (λ still. still.1 h (holds (resting c) (inr (told, λ n. refl)) (rested_chances folder c)) chances)
      a.own)

  -- ---- a folder is cut back to these segments

  module _ (turn : ℕ) (turn_fits : turn < 2 ^ 64) (s : Segments) (low : s.last < 2 ^ 32) (order : s.first ≤ s.last) (old : S) (rests : AllRest store old)
      (counted : IsTrue store.tells → counted_in (bytes_of (store.seen old (name_in folder names))) ≡ Count turn s) (mid : S) (nothing : Nothing store old mid) (e : Excess) (x : IsExcess folder s store.tells (store.seen old) e) where
    abbrev last : List ℕ
    last = name_in folder (segment s.last)

    pub apart : Contains e.gone.items last → ⊥
    apart = none_counted folder s low e.gone.items x.from s.last order (omega arith)

    seen_then : IsTrue store.tells → store.seen mid ≡ store.seen old
    seen_then told = nothing.reads told

    pub long : IsTrue store.tells → s.length ≤ length (bytes_in folder (store.seen mid) s.last)
    long told = subst (λ (c : Content). s.length ≤ length (bytes_in folder c s.last)) (sym (seen_then told)) (x.long told)

    was_trimmed : (two : S) (removed : List (List ℕ)) (name : List ℕ) → removed ≡ e.gone.items → name ≡ e.last → (AllRest store mid → EachMoment store mid two (Trims store removed name s.length mid))
        → ReadsBeside store (λ n. (Contains removed n) ⊎ (n ≡ name)) mid two → WasTrimmed store e.gone.items s.length mid two last
    was_trimmed two removed name gone_is name_is moments beside =
        subst (WasTrimmed store e.gone.items s.length mid two) (name_is ∙ x.last) (subst (λ l. WasTrimmed store l s.length mid two name) gone_is (record { moments = moments; beside = beside }))

    trim_beside : (new : S) → WasTrimmed store e.gone.items s.length mid new last → ReadsBeside store (IsOwn folder) old new
    trim_beside new was told name outside =
        was.beside told name (λ mine. ⊎_elim (λ has. outside (let o = other_own folder s low e.gone.items x.from name has in (segment o.0, o.1.0, o.2))) (λ is. outside (segment s.last, low, is)) mine)
        ∙ ap (λ (c : Content). c name) (seen_then told)

    trimming : (new : S) → WasTrimmed store e.gone.items s.length mid new last → EachMoment store old new (StaysHeld store folder old)
    trimming new was =
        one_then_other store tell old mid new (StaysHeld store folder old) (Trims store e.gone.items last s.length mid) (StaysHeld store folder old) (looked old mid rests nothing) (was.moments (rests_still old mid rests nothing)) (λ i told a. a)
        (λ i told t. trimmed folder s low e.gone.items x.from store old turn order (counted told) (x.long told) i (record {
          stays = λ name other none. t.stays name other none ∙ ap (λ (c : Content). at_rest (c name)) (seen_then told);
          front = subst (λ (c : Content). HasFirst s.length (c last) (i last)) (seen_then told) t.front;
        }))

    -- by other words for the names of the files
    pub cut_run : (two : S) (removed : List (List ℕ)) (name : List ℕ) → removed ≡ e.gone.items → name ≡ e.last → (AllRest store mid → EachMoment store mid two (Trims store removed name s.length mid))
        → ReadsBeside store (λ n. (Contains removed n) ⊎ (n ≡ name)) mid two → EachMoment store old two (StaysHeld store folder old) × ReadsBeside store (IsOwn folder) old two
    cut_run two removed name gone_is name_is moments beside = let was = was_trimmed two removed name gone_is name_is moments beside in (trimming two was, trim_beside two was)

    module _ (new : S) (settled : AllRest store new) (cut : IsTrue store.tells → IsCut e.gone.items last s.length (store.seen mid) (store.seen new)) (sizes : List ℕ) (many : length sizes ≡ s.last - s.first + 1)
        (are : IsTrue store.tells → sizes ≡ sizes_cut folder (store.seen old) s) where
      cut_old : IsTrue store.tells → IsCut e.gone.items last s.length (store.seen old) (store.seen new)
      cut_old told = subst (λ c. IsCut e.gone.items last s.length c (store.seen new)) (seen_then told) (cut told)

      pub opened : IsOpened store folder (record { turn = turn; first = s.first; sizes = sizes }) old new
      opened = record {
        ready = λ limit policy. record {
          some = omega (arith, many);
          numbers = omega (arith, many, order, low);
          turn_fits = turn_fits;
          said = λ told. said folder s low e.gone.items x.from order turn (store.seen old) (store.seen new) (counted told) (x.long told) (cut_old told) sizes limit policy many (are told) (x.all told);
          names_rest = λ i left. settled i left (name_in folder names);
          segments_rest = λ i left n from below. settled i left (name_in folder (segment n));
        };
        held = λ limit policy told. held folder s low e.gone.items x.from order turn (store.seen old) (store.seen new) (counted told) (x.long told) (cut_old told) sizes limit policy many (are told);
        cleared = λ limit policy told. cleared folder s low e.gone.items x.from order turn (store.seen old) (store.seen new) (counted told) (x.long told) (cut_old told) sizes limit policy many (are told) (x.all told);
      }
