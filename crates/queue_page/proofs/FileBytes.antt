-- From one place of a file up to another there are bytes.
use Rattle.std.proofs.Common.{◌≡◌, ⊎_elim, ℕ, ◌+◌, ◌-◌, ◌≤◌, ◌<◌, List, length, take, drop, get_or, sym, ap, ◌∙◌, subst, arith, length-take}
use Rattle.std.proofs.lemmas.Bool.{cases_lt}
use Rattle.std.proofs.lemmas.List.{get_or-take, get_or-drop, get_or_past}
use Rattle.crc_frame.specs.Bytes.{IsBytes}
use Rattle.queue_page.specs.Blocks.{AreBytesIn, left_of}
use Rattle.queue_page.specs.Pages.{version_of}

module _ (file : List ℕ) where
  pub none_there : (place : ℕ) → AreBytesIn place place file
  none_there place i from to = absurd (omega (arith, from, to))

  pub and_behind : (a b c : ℕ) → AreBytesIn a b file → AreBytesIn b c file → AreBytesIn a c file
  and_behind a b c first next i from to = ⊎_elim (λ before. first i from before) (λ behind. next i behind to) (cases_lt i b)

  pub first_byte : (n version : ℕ) → 0 < n → version_of (take n file) ≡ version → version < 256 → AreBytesIn 0 1 file
  first_byte n version some is low i from to =
      let first : i ≡ 0 = omega (arith, to) in
      subst (λ (k : ℕ). get_or file k 0 < 256) (sym first) (omega (arith, low, is, get_or-take n file 0 0 some))

  -- those of a frame
  pub of_frame : (place end total : ℕ) (frame : List ℕ) → place + total ≤ end → frame ≡ take total (left_of file place end) → AreBytesIn 0 (length frame) frame
      → AreBytesIn place (place + length frame) file
  of_frame place end total frame within is are i from to =
      let k = i - place in
      let there : place + k ≡ i = omega (arith, from) in
      let size : length frame ≤ total = omega (arith, ap length is, length-take total (left_of file place end)) in
      let same : get_or frame k 0 ≡ get_or file i 0 =
      ap (λ (l : List ℕ). get_or l k 0) is ∙ get_or-take total (left_of file place end) k 0 (omega (arith, to, there, size)) ∙ get_or-drop place (take end file) k 0
      ∙ get_or-take end file (place + k) 0 (omega (arith, to, there, within, size)) ∙ ap (λ (n : ℕ). get_or file n 0) there in
      subst (λ (b : ℕ). b < 256) same (are k (omega arith) (omega (arith, there, to)))

  -- as a list of their own
  pub part_bytes : (from size : ℕ) → AreBytesIn from (from + size) file → IsBytes (take size (drop from file))
  part_bytes from size are i = ⊎_elim
      (λ less. subst (λ (b : ℕ). b < 256) (sym (get_or-take size (drop from file) i 0 less ∙ get_or-drop from file i 0)) (are (from + i) (omega arith) (omega (arith, less))))
      (λ past. omega (arith, get_or_past (take size (drop from file)) i 0 (omega (arith, past, length-take size (drop from file)))))
      (cases_lt i size)

  pub front_bytes : (n : ℕ) → AreBytesIn 0 n file → IsBytes (take n file)
  front_bytes n are = part_bytes 0 n (λ i from to. are i from (omega (arith, to)))
