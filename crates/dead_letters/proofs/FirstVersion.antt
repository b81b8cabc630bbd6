-- A folder of the first version, or a new one: its one segment is opened as an output file, and then it is named.
use Rattle.std.proofs.Common.{◌≡◌, ◌≢◌, ◌⊎◌, Bool, Some, None, inl, inr, ⊎_elim, ℕ, ◌<◌, ◌≤◌, nat_lt, true, false, IsTrue, List, [], ◌∷◌, length, take, Option, Result, Ok, Err, refl, sym, ap, ◌∙◌, subst, arith, length-take, take-take}
use Rattle.std.specs.Str.{bytes_eq}
use Rattle.std.proofs.Math.Path.{ap₂}
use Rattle.std.proofs.lemmas.Bool.{cond-true, cond-false, cases_Bool, false≢true}
use Rattle.std.proofs.lemmas.Bool.Decides.{nat_tests}
use Rattle.std.proofs.lemmas.List.{take_all}
use Rattle.std.proofs.lemmas.Slice.Eq.{bytes_eq-Decides}
use Rattle.io_traits.specs.Folders.{Content}
use Rattle.io_traits.specs.Reads.{bytes_of, file_length}
use Rattle.io_traits.specs.Images.{Image, FileImage, IsAtRest, at_rest}
use Rattle.crc_frame.specs.Slots.{is_slot}
use Rattle.io_traits.specs.Chance.{NoChance}
use Rattle.io_traits.specs.Tails.{passes}
use Rattle.io_traits.specs.Moments.{NowOrSynced, EachMoment, ReadsBeside, ImagesTell}
use Rattle.io_traits.specs.declared.stores.Store.{Ghosts as StoreWords}
use Rattle.io_traits.proofs.Moments.{weaker, one_then_other, holds_now}
use Rattle.io_traits.specs.declared.queue_faults.Damage.{Damage}
use Rattle.slot_files.specs.Changes.{AllRest, Alters}
use Rattle.slot_files.specs.Slots.{newest_bytes, ComesNext, first, broken_slot}
use Rattle.slot_files.proofs.Saying.{by_slot, by_broken}
use Rattle.slot_files.specs.Positions.{recorded_in}
use Rattle.slot_files.specs.declared.recorded.Recorded.{Recorded}
use Rattle.slot_files.specs.declared.recorded.Recorded.TheVariants.{Nothing as NoPosition, Position, Damaged as BadPosition}
use Rattle.slot_files.specs.Views.{Output}
use Rattle.slot_files.specs.Contents.{Holds, left_in, counted_by, counted_in as first_version}
use Rattle.slot_files.specs.Outputs.{IsReady, LeavesHeld as LeavesOutput}
use Rattle.slot_files.proofs.Holding.{held_is_counted, reached}
use Rattle.dead_letters.specs.Queues.{Role, segment, names, position, name_in}
use Rattle.dead_letters.specs.Segments.{segments, said_by, slot_says, damaged_at_first, counted_in, OldOrNewSegments}
use Rattle.dead_letters.specs.Found.{Held, bytes_in, held_first, found_by, found}
use Rattle.dead_letters.specs.Views.{IsOwn}
use Rattle.dead_letters.specs.Trimming.{IsFirst, StaysHeld}
use Rattle.dead_letters.specs.declared.segments.Segments.{Segments}
use Rattle.dead_letters.specs.declared.segments.Counted.TheVariants.{Nothing, Count, Damaged}
use Rattle.dead_letters.proofs.NamesApart.{names_differ}
use Rattle.dead_letters.proofs.AppendRun.{names_apart}
use Rattle.dead_letters.proofs.OpenedReads.{held_ok}
use Rattle.dead_letters.proofs.OpeningRun.{left_same}

-- ---- the file that names segments, as long as it says nothing

nothing_by_slot : (turn : ℕ) (s : Segments) → said_by turn s ≡ Nothing → ⊥
nothing_by_slot turn s is = elim (cases_Bool (nat_lt s.last s.first)) [
  | inl above ↦ let other : Damaged s.first s.last ≡ Nothing = sym (cond-true _ _ _ above) ∙ is in cc
  | inr not_above ↦ let other : Count turn s ≡ Nothing = sym (cond-false _ _ _ not_above) ∙ is in cc
]

-- the slot of turn 0 comes next
pub first_comes : (file : List ℕ) → counted_in file ≡ Nothing → ComesNext 32 file 0
first_comes file nothing = by (newest_bytes 32 file) refl
  where
    by : (slot : Option (List ℕ)) → newest_bytes 32 file ≡ slot → ComesNext 32 file 0
    by (Some slot) is = absurd (nothing_by_slot _ _ (sym (by_slot slot_says damaged_at_first Nothing 32 file slot is) ∙ nothing))
    by None is = elim (cases_Bool (nat_lt 32 (length file))) [
      | inl long ↦
          let longer : 32 < length file = grind (arith, nat_tests, long) in
          let other : damaged_at_first (broken_slot (take 32 file)) ≡ Nothing = sym (by_broken slot_says damaged_at_first Nothing 32 file is longer) ∙ nothing in
          absurd cc
      | inr not_long ↦
          let shorter : length file ≤ 32 = grind (arith, nat_tests, not_long) in
          first is shorter refl
    ]

-- ---- an output file by how much of it counts

module _ (path slot : List ℕ) (i : Image) (len : ℕ) where
  abbrev bytes : List ℕ
  bytes = bytes_of (left_in i path)

  -- so it holds that much
  holds_by : (r : Recorded) → recorded_in (bytes_of (left_in i slot)) ≡ r → counted_by path slot (length bytes) r ≡ Ok len → Holds path slot (take len bytes) i
  holds_by NoPosition is said =
      let same : Ok (length bytes) ≡ Ok len = said in
      let long : length bytes ≡ len = cc in
      inr (record { nothing = is; whole = sym (take_all len bytes (omega (arith, long))) })
  holds_by (Position turn place) is said = elim (cases_Bool (nat_lt (length bytes) place)) [
    | inl less ↦ let other = sym (cond-true _ _ _ less) ∙ said in absurd cc
    | inr not_less ↦
        let these : Ok place ≡ Ok len = sym (cond-false _ _ _ not_less) ∙ said in
        let same : place ≡ len = cc in
        let within : place ≤ length bytes = grind (arith, nat_tests, not_less) in
        let long : length (take len bytes) ≡ len = omega (arith, length-take len bytes, within, same) in
        inl (record { turn = turn; recorded = is ∙ ap (Position turn) (same ∙ sym long); front = ap (λ n. take n bytes) long })
  ]
  holds_by (BadPosition there expected) is said = absurd cc

  pub counted_holds : first_version path slot (left_in i) ≡ Ok len → Holds path slot (take len bytes) i
  counted_holds said = holds_by (recorded_in (bytes_of (left_in i slot))) refl said

held_front : (path slot bytes : List ℕ) (i : Image) → Holds path slot bytes i → take (length bytes) (bytes_of (left_in i path)) ≡ bytes
held_front path slot bytes i (inl s) = s.front
held_front path slot bytes i (inr b) = ap (take (length bytes)) b.whole ∙ take_all (length bytes) bytes (omega arith)

-- what the call told that opens such a file
pub record WasOpened {S : Type 0} (store : StoreWords S) (old mid : S) (path slot : List ℕ) : Type 0 where
  pub moments : path ≢ slot → EachMoment store old mid (LeavesOutput store path slot old)
  pub beside : ReadsBeside store (λ n. (n ≡ path) ⊎ (n ≡ slot)) old mid

pub record HasOpened {S : Type 0} (store : StoreWords S) (old mid : S) (out : Output) (path slot : List ℕ) : Type 0 where
  pub names : (out.path ≡ path) × (out.slot ≡ slot)
  pub ready : path ≢ slot → IsReady store out mid
  pub content : IsTrue store.tells → path ≢ slot → bytes_of (store.seen mid path) ≡ take out.position (bytes_of (store.seen old path))
  pub counted : IsTrue store.tells → first_version path slot (store.seen old) ≡ Ok out.position

-- what the call told that says in its slot which segments count
pub record WasNamed {S : Type 0} (store : StoreWords S) (len : ℕ) (mid new : S) (seg : List ℕ) : Type 0 where
  pub moments : EachMoment store mid new (Alters store seg (OldOrNewSegments 0 (segments 0 0 len)) mid)
  pub beside : ReadsBeside store (λ n. n ≡ seg) mid new

-- of the files of a folder, by other words for their names
module _ {S : Type 0} (store : StoreWords S) (folder : List ℕ) (old mid : S) (p s : List ℕ) (p_is : p ≡ name_in folder (segment 0)) (s_is : s ≡ name_in folder position) where
  pub was_opened : WasOpened store old mid p s → WasOpened store old mid (name_in folder (segment 0)) (name_in folder position)
  was_opened was = subst (WasOpened store old mid (name_in folder (segment 0))) s_is (subst (λ n. WasOpened store old mid n s) p_is was)

  pub has_opened : (out : Output) → HasOpened store old mid out p s → HasOpened store old mid out (name_in folder (segment 0)) (name_in folder position)
  has_opened out has = subst (HasOpened store old mid out (name_in folder (segment 0))) s_is (subst (λ n. HasOpened store old mid out n s) p_is has)

-- ---- what a folder holds

module _ (folder : List ℕ) where
  abbrev path : List ℕ
  path = name_in folder (segment 0)

  abbrev slot : List ℕ
  slot = name_in folder position

  abbrev seg : List ℕ
  seg = name_in folder names

  seg_path : seg ≢ path
  seg_path same = names_apart folder 0 (omega arith) same

  abbrev number : Role → ℕ
  number (segment k) = 1
  number names = 0
  number position = 2

  seg_slot : seg ≢ slot
  seg_slot same = let e : names ≡ position = names_differ folder names position tt tt same in let n : ◌≡◌ {A = ℕ} 0 2 = ap number e in omega (arith, n)

  pub path_slot : path ≢ slot
  path_slot same = let e : segment 0 ≡ position = names_differ folder (segment 0) position (omega arith) tt same in let n : ◌≡◌ {A = ℕ} 1 2 = ap number e in omega (arith, n)

  pub found_first : (c : Content) (r : Result ℕ Damage) → counted_in (bytes_of (c seg)) ≡ Nothing → first_version path slot c ≡ r → found folder c ≡ held_first folder c r
  found_first c r nothing is = ap (found_by folder c) nothing ∙ ap (held_first folder c) is

  -- two folders of which as much counts
  first_same : (c d : Content) (len : ℕ) → counted_in (bytes_of (c seg)) ≡ Nothing → first_version path slot c ≡ Ok len → counted_in (bytes_of (d seg)) ≡ Nothing → first_version path slot d ≡ Ok len
      → take len (bytes_in folder d 0) ≡ take len (bytes_in folder c 0) → found folder d ≡ found folder c
  first_same c d len nothing counted nothing_d counted_d same =
      found_first d (Ok len) nothing_d counted_d ∙ ap (λ b. Ok (record { first = 0; segments = b ∷ [] })) same ∙ sym (found_first c (Ok len) nothing counted)

  -- and one that names its segment
  named_same : (c d : Content) (len : ℕ) → counted_in (bytes_of (c seg)) ≡ Nothing → first_version path slot c ≡ Ok len → counted_in (bytes_of (d seg)) ≡ Count 0 (segments 0 0 len) → len ≤ length (bytes_in folder d 0)
      → take len (bytes_in folder d 0) ≡ take len (bytes_in folder c 0) → found folder d ≡ found folder c
  named_same c d len nothing counted counted_d long same =
      held_ok folder d 0 (segments 0 0 len) counted_d long ∙ ap (λ b. Ok (record { first = 0; segments = b ∷ [] })) same ∙ sym (found_first c (Ok len) nothing counted)

  module _ (c m : Content) (len : ℕ) (f : IsFirst folder len c m) where
    pub front_kept : take len (bytes_in folder m 0) ≡ take len (bytes_in folder c 0)
    front_kept = ap (take len) f.bytes ∙ take-take len len (bytes_in folder c 0) (omega arith)

    pub named : (d : Content) → counted_in (bytes_of (c seg)) ≡ Nothing → counted_in (bytes_of (d seg)) ≡ Count 0 (segments 0 0 len) → bytes_in folder d 0 ≡ bytes_in folder m 0 → found folder d ≡ found folder c
    named d nothing counted same = named_same c d len nothing f.counted counted (let e : length (bytes_in folder d 0) ≡ len = ap length same ∙ f.long in omega (arith, e)) (ap (take len) same ∙ front_kept)

    pub not_named : (d : Content) → counted_in (bytes_of (c seg)) ≡ Nothing → counted_in (bytes_of (d seg)) ≡ Nothing → d path ≡ m path → d slot ≡ m slot → found folder d ≡ found folder c
    not_named d nothing nothing_d same_path same_slot =
        first_same c d len nothing f.counted nothing_d (ap₂ (λ (p s : Option (List ℕ)). counted_by path slot (file_length p) (recorded_in (bytes_of s))) same_path same_slot ∙ f.still) (ap (λ (p : Option (List ℕ)). take len (bytes_of p)) same_path ∙ front_kept)

  -- its files are those of the queue
  pub first_own : {S : Type 0} (store : StoreWords S) (old mid : S) → ReadsBeside store (λ n. (n ≡ path) ⊎ (n ≡ slot)) old mid → ReadsBeside store (IsOwn folder) old mid
  first_own store old mid beside told name other = beside told name (λ mine. ⊎_elim (λ is. other (segment 0, omega arith, is)) (λ is. other (position, tt, is)) mine)

  -- ---- what a stop leaves

  module _ {S : Type 0} (store : StoreWords S) (tell : ImagesTell store) (old : S) (rests : AllRest store old) (nothing : IsTrue store.tells → counted_in (bytes_of (store.seen old seg)) ≡ Nothing) where
    abbrev c : Content
    c = store.seen old

    abbrev Opens : Image → Type 0
    Opens = LeavesOutput store path slot old

    abbrev Leaves : Image → Type 0
    Leaves = StaysHeld store folder old

    old_rests : (d : Image) → NowOrSynced store old d → IsAtRest c d
    old_rests d (inl left) = rests d left
    old_rests d (inr synced) = synced.1

    -- while the segment is opened
    while_opened : (i : Image) → IsTrue store.tells → Opens i → Leaves i
    while_opened i told a = record {
      own = λ h is chances. by h chances.1 (first_version path slot c) refl is;
      beside = λ name other. a.beside name (λ is. other (segment 0, omega arith, is)) (λ is. other (position, tt, is)) ∙ from_rests name;
    }
      where
        from_rests : IsAtRest c a.from
        from_rests = old_rests a.from a.was

        nothing_left : counted_in (bytes_of (left_in i seg)) ≡ Nothing
        nothing_left = ap (λ (f : FileImage). counted_in (bytes_of f.file)) (a.beside seg seg_path seg_slot ∙ from_rests seg) ∙ nothing told

        by : (h : Held) → NoChance (passes (is_slot 24)) (i slot) → (r : Result ℕ Damage) → first_version path slot c ≡ r → found folder c ≡ Ok h → found folder (left_in i) ≡ Ok h
        by h chance (Ok len) counted is =
            let from_is = left_same c a.from from_rests in
            let counted_from : first_version path slot (left_in a.from) ≡ Ok len = ap (first_version path slot) from_is ∙ counted in
            let holds = counted_holds path slot a.from len counted_from in
            let bytes = take len (bytes_of (left_in a.from path)) in
            let both : Ok len ≡ Ok (length bytes) = sym counted_from ∙ held_is_counted path slot bytes a.from holds in
            let long : len ≡ length bytes = cc in
            let now = a.own bytes holds chance in
            let counted_now : first_version path slot (left_in i) ≡ Ok len = held_is_counted path slot bytes i now ∙ ap Ok (sym long) in
            let front : take len (bytes_in folder (left_in i) 0) ≡ take len (bytes_in folder c 0) =
            ap (λ n. take n (bytes_in folder (left_in i) 0)) long ∙ held_front path slot bytes i now ∙ ap (λ (d : Content). take len (bytes_in folder d 0)) from_is in
            first_same c (left_in i) len (nothing told) counted nothing_left counted_now front ∙ is
        by h chance (Err d) counted is = let other : Err d ≡ Ok h = sym (found_first c (Err d) (nothing told) counted) ∙ is in absurd cc

    pub opening : (mid : S) → WasOpened store old mid path slot → EachMoment store old mid Leaves
    opening mid was = weaker store tell old mid Opens Leaves (was.moments path_slot) while_opened

    -- then all is at rest
    module _ (mid : S) (was : WasOpened store old mid path slot) (out : Output) (has : HasOpened store old mid out path slot) where
      ready : IsReady store out mid
      ready = has.ready path_slot

      pub opened_rests : AllRest store mid
      opened_rests i left name = by (bytes_eq name path) (bytes_eq name slot) refl refl
        where
          is : (other : List ℕ) → bytes_eq name other ≡ true → name ≡ other
          is other test = (bytes_eq-Decides name other).0 test

          is_not : (other : List ℕ) → bytes_eq name other ≡ false → name ≢ other
          is_not other test same = false≢true (sym test ∙ (bytes_eq-Decides name other).1 same)

          by : (p s : Bool) → bytes_eq name path ≡ p → bytes_eq name slot ≡ s → i name ≡ at_rest (store.seen mid name)
          by true s test other = ready.settled i left name (inl (is path test ∙ sym has.names.0))
          by false true test other = ready.settled i left name (inr (is slot other ∙ sym has.names.1))
          by false false test other =
              let a = holds_now store old mid Opens (was.moments path_slot) i left in
              let told = tell mid (store.moment mid) i left in
              a.beside name (is_not path test) (is_not slot other) ∙ old_rests a.from a.was name
              ∙ sym (ap at_rest (was.beside told name (λ mine. ⊎_elim (is_not path test) (is_not slot other) mine)))

      -- and so much counts
      pub is_first : (len : ℕ) → IsTrue store.tells → len ≡ file_length (store.seen mid path) → IsFirst folder len c (store.seen mid)
      is_first len told is =
          let ends : file_length (store.seen mid path) ≡ out.position = subst (λ n. file_length (store.seen mid n) ≡ out.position) has.names.0 (ready.ends told) in
          let recorded : recorded_in (bytes_of (store.seen mid slot)) ≡ Position out.turn out.position = subst (λ n. recorded_in (bytes_of (store.seen mid n)) ≡ Position out.turn out.position) has.names.1 (ready.recorded told) in
          let long : len ≡ out.position = is ∙ ends in
          record {
            counted = has.counted told ∙ ap Ok (sym long);
            still = ap (counted_by path slot (file_length (store.seen mid path))) recorded ∙ reached path slot (file_length (store.seen mid path)) out.turn out.position (omega (arith, ends)) ∙ ap Ok (sym long);
            bytes = has.content told path_slot ∙ ap (λ n. take n (bytes_of (c path))) (sym long);
            long = sym is;
          }

    -- while it is named
    module _ (mid : S) (mid_settled : AllRest store mid) (len : ℕ) (f : IsTrue store.tells → IsFirst folder len c (store.seen mid)) (reads : ReadsBeside store (λ n. (n ≡ path) ⊎ (n ≡ slot)) old mid) where
      abbrev Names : Image → Type 0
      Names = Alters store seg (OldOrNewSegments 0 (segments 0 0 len)) mid

      mid_rests : (d : Image) → NowOrSynced store mid d → IsAtRest (store.seen mid) d
      mid_rests d (inl left) = mid_settled d left
      mid_rests d (inr synced) = synced.1

      seg_reads : IsTrue store.tells → store.seen mid seg ≡ c seg
      seg_reads told = reads told seg (λ mine. ⊎_elim seg_path seg_slot mine)

      nothing_mid : IsTrue store.tells → counted_in (bytes_of (store.seen mid seg)) ≡ Nothing
      nothing_mid told = ap (λ (o : Option (List ℕ)). counted_in (bytes_of o)) (seg_reads told) ∙ nothing told

      pub comes : IsTrue store.tells → ComesNext 32 (bytes_of (store.seen mid seg)) 0
      comes told = first_comes (bytes_of (store.seen mid seg)) (nothing_mid told)

      while_named : (i : Image) → IsTrue store.tells → Names i → Leaves i
      while_named i told a =
          let d_rests = mid_rests a.0 a.1 in
          let as_read = λ (name : List ℕ) (other : name ≢ seg). ap (λ (g : FileImage). g.file) (a.2.there name other ∙ d_rests name) in
          let path_is = as_read path (λ same. seg_path (sym same)) in
          let slot_is = as_read slot (λ same. seg_slot (sym same)) in
          record {
            own = λ h is chances. ⊎_elim
                (λ same. not_named c (store.seen mid) len (f told) (left_in i) (nothing told) (same ∙ nothing_mid told) path_is slot_is ∙ is)
                (λ new. named c (store.seen mid) len (f told) (left_in i) (nothing told) new (ap bytes_of path_is) ∙ is)
                (a.2.here (store.seen mid seg) (d_rests seg) (comes told) chances.0);
            beside = λ name other. a.2.there name (λ is. other (names, tt, is)) ∙ d_rests name
                ∙ ap at_rest (first_own store old mid reads told name other);
          }

      pub naming : (new : S) → EachMoment store old mid Leaves → WasNamed store len mid new seg → EachMoment store old new Leaves
      naming new one was = one_then_other store tell old mid new Leaves Names Leaves one was.moments (λ i told a. a) while_named

      pub named_beside : (new : S) → WasNamed store len mid new seg → ReadsBeside store (IsOwn folder) old new
      named_beside new was told name other = was.beside told name (λ is. other (names, tt, is)) ∙ first_own store old mid reads told name other

      pub named_holds : (new : S) → WasNamed store len mid new seg → IsTrue store.tells → counted_in (bytes_of (store.seen new seg)) ≡ Count 0 (segments 0 0 len) → found folder (store.seen new) ≡ found folder c
      named_holds new was told counted = named c (store.seen mid) len (f told) (store.seen new) (nothing told) counted (ap bytes_of (was.beside told path (λ same. seg_path (sym same))))
