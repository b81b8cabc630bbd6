-- Of the damages of a folder, each number that was found isn't the one that was expected.
use Rattle.std.proofs.Common.{◌≡◌, ◌≢◌, ◌⊎◌, inl, inr, ℕ, zero, suc, ◌+◌, ◌-◌, ◌%◌, ◌<◌, ◌≤◌, ◌^◌, ◌==◌, nat_lt, Bool, true, false, List, [], ◌∷◌, ◌++◌, take, drop, length, Option, Some, None, Result, Ok, Err, if◌then◌else◌, refl, sym, ◌∙◌, ap, subst, arith}
use Rattle.std.specs.Prelude.{⊤}
use Rattle.std.proofs.lemmas.Bool.{cond-false, eq-eqb, eqb-true, false≢true}
use Rattle.std.proofs.lemmas.Bool.Decides.{nat_tests}
use Rattle.byteorder.specs.Numbers.{big_from-lt}
use Rattle.crc_frame.specs.Bytes.{IsBytes}
use Rattle.crc_frame.proofs.Numbers.{IsBytes-drop, IsBytes-take}
use Rattle.crc_frame.specs.Slots.{turn_of}
use Rattle.crc_frame.proofs.Fronts.{chosen}
use Rattle.io_traits.specs.Reads.{bytes_of}
use Rattle.io_traits.specs.declared.pages.PageState.{PageState}
use Rattle.slot_files.specs.Checkpoints.{at_first, computed_crc, newest_in, says, slots_of, stored_crc}
use Rattle.slot_files.proofs.CheckpointReads.{misplaced_turn_is_odd, sayer}
use Rattle.queue_page.specs.Elements.{and_then}
use Rattle.queue_page.specs.Pages.{extended, opened, recorded}
use Rattle.queue_page.proofs.Differing.{damage_differs}
use Rattle.queue_page.proofs.ElementReads.{and_then_ok}
use Rattle.queue_files.specs.Checkpoints.{Mismatch, bounded, misfit, told, told_by, no_intact_slot}
use Rattle.queue_files.specs.Folders.{Role, head, page, checkpoint, Folder}
use Rattle.queue_files.specs.Found.{Damaged, Held, falling, found, found_in, head_held, held, held_by, is_new, nothing_found, of_head, opened_page, or_damage, read_all, told_at, unless}
use Rattle.queue_files.proofs.QueuePages.{damage_ok, in_bounds}
use Rattle.pq_tools.specs.Damages.{HoldsBytes, OpenedDamageDiffers}

abbrev Differs : Mismatch → Type 0
Differs m = m.found ≢ m.expected

same_fault : {A E : Type 0} (a b : E) → ◌≡◌ {A = Result A E} (Err a) (Err b) → a ≡ b
same_fault a b h = cc

no_fault : {A E : Type 0} (x : A) (e : E) → ◌≡◌ {A = Result A E} (Ok x) (Err e) → ⊥
no_fault x e h = absurd cc

same_value : {A E : Type 0} (x y : A) → ◌≡◌ {A = Result A E} (Ok x) (Ok y) → x ≡ y
same_value x y h = cc

-- one step at fault, or the next
and_then_err : {A B E : Type 0} (r : Result A E) (g : A → Result B E) (e : E) → and_then r g ≡ Err e → (r ≡ Err e) ⊎ ((x : A) × (r ≡ Ok x) × (g x ≡ Err e))
and_then_err (Ok x) g e h = inr (x, refl, h)
and_then_err (Err a) g e h = inl (ap Err (same_fault a e h))

damage_err : {X M : Type 0} (r : Result X M) (damage : M → Damaged) (e : Damaged) → or_damage r damage ≡ Err e → (m : M) × (r ≡ Err m) × (damage m ≡ e)
damage_err (Ok x) damage e h = absurd (no_fault x e h)
damage_err (Err m) damage e h = (m, refl, same_fault (damage m) e h)

-- ---- checkpoints

either_differs : (b : Bool) (x y : Mismatch) → (b ≡ true → Differs x) → (b ≡ false → Differs y) → Differs (if b then x else y)
either_differs true x y one two = one refl
either_differs false x y one two = two refl

turn_differs : (file : List ℕ) → newest_in file ≡ None → nat_lt (length file) 48 ≡ false → ((slots_of file).stored == (slots_of file).computed) ≡ true → (slots_of file).turn ≢ (slots_of file).turn - 1
turn_differs file none long equal same =
    let at : (tells : List ℕ → ℕ) → at_first tells file ≡ tells (take 48 file) = λ tells. cond-false (nat_lt (length file) 48) 0 (tells (take 48 file)) long in
    let odd : turn_of (take 48 file) % 2 ≡ 1 = misplaced_turn_is_odd file none (grind (arith, nat_tests, long)) (sym (at stored_crc) ∙ eqb-true _ _ equal ∙ at computed_crc) in
    omega (arith, at turn_of, odd, same)

unslotted_differs : (file : List ℕ) → newest_in file ≡ None → Differs (no_intact_slot (slots_of file))
unfolding no_intact_slot
unslotted_differs file none =
    let s = slots_of file in
    let turn = misfit 0 s.turn (s.turn - 1) in
    let sums = misfit 0 s.stored s.computed in
    either_differs (nat_lt s.length 48) (misfit 0 s.length 48) (if s.stored == s.computed then turn else sums) (λ short same. grind (arith, nat_tests, short, same))
    (λ long. either_differs (s.stored == s.computed) turn sums (turn_differs file none long) (λ other same. false≢true (sym other ∙ eq-eqb _ _ same)))

bounded_by : (s : PageState) (m : Mismatch) (a b c : Bool) → (a ≡ true → Differs (misfit 0 s.page 0xFFFF_FFFE)) → (b ≡ true → Differs (misfit 0 s.least 1))
    → (b ≡ false → c ≡ true → Differs (misfit 0 s.least (0x7FFF_FFFF_FFFF_FFFF - s.count)))
    → ◌≡◌ {A = Result PageState Mismatch}
    (if a then Err (misfit 0 s.page 0xFFFF_FFFE) else (if b then Err (misfit 0 s.least 1) else (if c then Err (misfit 0 s.least (0x7FFF_FFFF_FFFF_FFFF - s.count)) else Ok s))) (Err m) → Differs m
bounded_by s m true b c one two three is = subst Differs (same_fault (misfit 0 s.page 0xFFFF_FFFE) m is) (one refl)
bounded_by s m false true c one two three is = subst Differs (same_fault (misfit 0 s.least 1) m is) (two refl)
bounded_by s m false false true one two three is = subst Differs (same_fault (misfit 0 s.least (0x7FFF_FFFF_FFFF_FFFF - s.count)) m is) (three refl refl)
bounded_by s m false false false one two three is = absurd (no_fault s m is)

bounded_differs : (s : PageState) (m : Mismatch) → bounded s ≡ Err m → Differs m
unfolding bounded
bounded_differs s m is =
    bounded_by s m (s.page == 0xFFFF_FFFF) (s.least == 0) (nat_lt 0x7FFF_FFFF_FFFF_FFFF (s.least + s.count)) (λ e same. grind (arith, nat_tests, e, same)) (λ e same. grind (arith, nat_tests, e, same))
    (λ some e same. grind (arith, nat_tests, some, e, same)) is

told_by_differs : (file : List ℕ) (newest : Option (ℕ × PageState)) (m : Mismatch) → newest_in file ≡ newest → told_by (slots_of file) newest ≡ Err m → Differs m
told_by_differs file None m is h = subst Differs (same_fault {A = PageState} (no_intact_slot (slots_of file)) m h) (unslotted_differs file is)
told_by_differs file (Some newest) m is h =
    let version = (slots_of file).version in
    elim (chosen (version == 1) (bounded newest.1) (Err (misfit 0 version 1)) (Err m) h) [
      | inl w ↦ bounded_differs newest.1 m w.1
      | inr w ↦ subst Differs (same_fault {A = PageState} (misfit 0 version 1) m w.1) (λ same. false≢true (sym w.0 ∙ eq-eqb _ _ same))
    ]

told_differs : (file : Option (List ℕ)) (m : Mismatch) → told file ≡ Err m → Differs m
told_differs file m h = told_by_differs (bytes_of file) (newest_in (bytes_of file)) m refl h

told_at_differs : (role : Role) (file : Option (List ℕ)) (d : Damaged) → told_at role file ≡ Err d → Differs d.1
told_at_differs role file d h =
    let w = damage_err (told file) (λ m. (role, m)) d h in
    subst Differs (ap (λ (e : Damaged). e.1) w.2) (told_differs file w.0 w.1)

-- ---- pages

-- what is known of a page that stands
record IsGood (p : Held) : Type 0 where
  least : 1 ≤ p.state.least
  short : p.state.length < 2 ^ 64
  bytes : IsBytes p.bytes

abbrev AreGood : List Held → Type 0
AreGood [] = ⊤
AreGood (p ∷ pages) = IsGood p × AreGood pages

-- a number of a slot has no more than its bytes
said_short : (file : List ℕ) (turn : ℕ) (s : PageState) → IsBytes file → newest_in file ≡ Some (turn, s) → s.length < 2 ^ 64
unfolding says
said_short file turn s fit is =
    let w = sayer file turn s is in
    let bytes : IsBytes w.bytes = subst IsBytes w.is.bytes_are (IsBytes-take 48 _ (IsBytes-drop w.newest.place file fit)) in
    subst (λ (t : PageState). t.length < 2 ^ 64) w.says_it (big_from-lt 0 8 (drop 34 w.bytes) (IsBytes-drop 34 w.bytes bytes))

bounded_same : (s t : PageState) → bounded s ≡ Ok t → s ≡ t
unfolding bounded
bounded_same s t h =
    elim (chosen (s.page == 0xFFFF_FFFF) (Err (misfit 0 s.page 0xFFFF_FFFE)) _ (Ok t) h) [
      | inl w ↦ absurd cc
      | inr w ↦ elim (chosen (s.least == 0) (Err (misfit 0 s.least 1)) _ (Ok t) w.1) [
        | inl v ↦ absurd cc
        | inr v ↦ elim (chosen (nat_lt 0x7FFF_FFFF_FFFF_FFFF (s.least + s.count)) (Err (misfit 0 s.least (0x7FFF_FFFF_FFFF_FFFF - s.count))) (Ok s) (Ok t) v.1) [ inl u ↦ absurd cc | inr u ↦ same_value s t u.1 ]
      ]
    ]

told_by_good : (number : ℕ) (file bytes : List ℕ) (newest : Option (ℕ × PageState)) (s : PageState) → IsBytes file → IsBytes bytes → newest_in file ≡ newest → told_by (slots_of file) newest ≡ Ok s
    → IsGood (record { number = number; state = s; bytes = bytes })
told_by_good number file bytes None s fit fits is h = absurd cc
told_by_good number file bytes (Some newest) s fit fits is h =
    elim (chosen ((slots_of file).version == 1) (bounded newest.1) (Err (misfit 0 (slots_of file).version 1)) (Ok s) h) [
      | inl w ↦
          let same : newest.1 ≡ s = bounded_same newest.1 s w.1 in
          record {
            least = subst (λ (t : PageState). 1 ≤ t.least) same (in_bounds newest.1 s w.1).least;
            short = subst (λ (t : PageState). t.length < 2 ^ 64) same (said_short file newest.0 newest.1 fit is);
            bytes = fits;
          }
      | inr w ↦ absurd cc
    ]

told_good : (number : ℕ) (slots : Option (List ℕ)) (bytes : List ℕ) (s : PageState) → IsBytes (bytes_of slots) → IsBytes bytes → told slots ≡ Ok s → IsGood (record { number = number; state = s; bytes = bytes })
told_good number slots bytes s fit fits h = told_by_good number (bytes_of slots) bytes (newest_in (bytes_of slots)) s fit fits refl h

opened_differs : (is_head : Bool) (p : Held) (d : Damaged) → IsGood p → opened_page is_head p ≡ Err d → Differs d.1
opened_differs is_head p d good h =
    let w = damage_err (opened is_head p.state p.bytes) (λ m. (page p.number, misfit m.place m.found m.expected)) d h in
    subst Differs (ap (λ (e : Damaged). e.1) w.2)
    (elim (and_then_err (recorded p.state p.bytes) (λ read. Ok (extended is_head p.state p.bytes read)) w.0 w.1) [
      | inl e ↦ damage_differs p.state p.bytes w.0 good.bytes good.least good.short e
      | inr v ↦ absurd (no_fault (extended is_head p.state p.bytes v.0) w.0 v.2)
    ])

falling_differs : (end : ℕ) (pages : List Held) (d : Damaged) → falling end pages ≡ Some d → Differs d.1
falling_differs end [] d h = absurd cc
falling_differs end (p ∷ pages) d h =
    let told : Damaged = (page p.number, misfit 0 p.state.least end) in
    elim (chosen (nat_lt p.state.least end) (Some told) (falling (p.state.least + p.state.count) pages) (Some d) h) [
      | inl w ↦ let same : told ≡ d = cc in subst (λ (e : Damaged). Differs e.1) same (λ is. grind (arith, nat_tests, w.0, is))
      | inr w ↦ falling_differs (p.state.least + p.state.count) pages d w.1
    ]

read_differs : (pages : List Held) (top : Held) (d : Damaged) → AreGood pages → IsGood top → read_all pages top ≡ Err d → Differs d.1
read_differs [] top d goods good h = elim (and_then_err (opened_page true top) _ d h) [ inl e ↦ opened_differs true top d good e | inr w ↦ absurd cc ]
read_differs (p ∷ pages) top d goods good h =
    elim (and_then_err (opened_page false p) _ d h) [
      | inl e ↦ opened_differs false p d goods.0 e
      | inr w ↦ elim (and_then_err (read_all pages top) _ d w.2) [ inl e ↦ read_differs pages top d goods.1 good e | inr v ↦ absurd cc ]
    ]

found_in_differs : (top : Held) (pages : List Held) (d : Damaged) → AreGood pages → IsGood top → found_in top pages ≡ Err d → Differs d.1
found_in_differs top pages d goods good h = by_fall (falling 0 (pages ++ top ∷ [])) refl h
  where
    by_fall : (fall : Option Damaged) → falling 0 (pages ++ top ∷ []) ≡ fall → unless fall (read_all pages top) ≡ Err d → Differs d.1
    by_fall None is e = read_differs pages top d goods good e
    by_fall (Some damage) is e = falling_differs 0 (pages ++ top ∷ []) d (is ∙ ap Some (same_fault damage d e))

-- ---- the folder

module _ (files : Folder) (fit : HoldsBytes files) where
  page_differs : (number : ℕ) (file : Option (List ℕ)) (rest : Result (List Held) Damaged) (d : Damaged) → ((e : Damaged) → rest ≡ Err e → Differs e.1)
      → held_by number (files (checkpoint number)) file rest ≡ Err d → Differs d.1
  page_differs number None rest d behind h = behind d h
  page_differs number (Some bytes) rest d behind h =
      elim (and_then_err (told_at (checkpoint number) (files (checkpoint number))) _ d h) [
        | inl w ↦ told_at_differs (checkpoint number) (files (checkpoint number)) d w
        | inr w ↦ elim (and_then_err rest _ d w.2) [ inl v ↦ behind d v | inr v ↦ absurd cc ]
      ]

  held_differs : (count from : ℕ) (d : Damaged) → held count from files ≡ Err d → Differs d.1
  held_differs zero from d h = absurd cc
  held_differs (suc count) from d h = page_differs from (files (page from)) (held count (suc from) files) d (held_differs count (suc from)) h

  page_good : (number : ℕ) (file : Option (List ℕ)) (rest : Result (List Held) Damaged) (pages : List Held) → files (page number) ≡ file
      → ((others : List Held) → rest ≡ Ok others → AreGood others) → held_by number (files (checkpoint number)) file rest ≡ Ok pages → AreGood pages
  page_good number None rest pages is behind h = behind pages h
  page_good number (Some bytes) rest pages is behind h =
      let w = and_then_ok (told_at (checkpoint number) (files (checkpoint number))) _ pages h in
      let v = and_then_ok rest _ pages w.2 in
      let tells = damage_ok (told (files (checkpoint number))) (λ m. (checkpoint number, m)) w.0 w.1 in
      let fits : IsBytes bytes = subst (λ (o : Option (List ℕ)). IsBytes (bytes_of o)) is (fit (page number)) in
      subst AreGood (same_value _ pages v.2) (told_good number (files (checkpoint number)) bytes w.0 (fit (checkpoint number)) fits tells, behind v.0 v.1)

  held_good : (count from : ℕ) (pages : List Held) → held count from files ≡ Ok pages → AreGood pages
  held_good zero from pages h = subst AreGood (same_value [] pages h) tt
  held_good (suc count) from pages h = page_good from (files (page from)) (held count (suc from) files) pages refl (held_good count (suc from)) h

  of_head_differs : (s : PageState) (d : Damaged) → told (files head) ≡ Ok s → of_head files s ≡ Err d → Differs d.1
  of_head_differs s d tells h =
      let good = told_good s.page (files head) (bytes_of (files (page s.page))) s (fit head) (fit (page s.page)) tells in
      elim (and_then_err (held s.page 0 files) (found_in (head_held files s)) d h) [
        | inl w ↦ held_differs s.page 0 d w
        | inr w ↦ found_in_differs (head_held files s) w.0 d (held_good s.page 0 w.0 w.1) good w.2
      ]

  found_differs : (d : Damaged) → found files ≡ Err d → Differs d.1
  found_differs d h =
      elim (chosen (is_new files) (Ok nothing_found) (and_then (told_at head (files head)) (of_head files)) (Err d) h) [
        | inl w ↦ absurd (no_fault nothing_found d w.1)
        | inr w ↦ elim (and_then_err (told_at head (files head)) (of_head files) d w.1) [
          | inl e ↦ told_at_differs head (files head) d e
          | inr v ↦ of_head_differs v.0 d (damage_ok (told (files head)) (λ m. (head, m)) v.0 v.1) v.2
        ]
      ]

pub opened_damage_differs : OpenedDamageDiffers
opened_damage_differs folder limits files damage fit lost = found_differs files fit (lost.0, misfit damage.place damage.found damage.expected) lost.2
