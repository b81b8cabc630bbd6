-- The records of a segment, read from the front.
use Rattle.std.proofs.Common.{◌≡◌, ◌≢◌, inl, inr, ℕ, zero, suc, ◌+◌, ◌-◌, ◌<◌, ◌≤◌, ◌^◌, ◌==◌, nat_lt, true, false, List, [], ◌∷◌, ◌++◌, length, take, drop, Result, Ok, Err, refl, sym, ap, subst, ◌∙◌, arith, rules, append_assoc, length-append, length-drop, length-take}
use Rattle.std.proofs.lemmas.List.{take_at, drop_at, take-append-drop, append-nil, take_rest}
use Rattle.std.proofs.Math.Path.{ap₂}
use Rattle.std.proofs.Math.Seq.{take-append_seam, take-add}
use Rattle.std.proofs.lemmas.Bool.{eqb-true, cond-true, cond-false}
use Rattle.std.proofs.lemmas.Bool.Decides.{nat_tests}
use Rattle.byteorder.specs.Endian.{big_bytes, big_number}
use Rattle.byteorder.specs.Numbers.{big_from-lt, big_number-reads_back, length-bytes_high_first}
use Rattle.crc_frame.specs.Crc.{crc32}
use Rattle.crc_frame.specs.Bytes.{IsBytes}
use Rattle.crc_frame.proofs.Numbers.{IsBytes-drop, IsBytes-take, big_bytes-big_number}
use Rattle.crc_frame.specs.Fronts.{count_bytes}
use Rattle.crc_frame.proofs.Fronts.{chosen, length-count_bytes}
use Rattle.dead_letters.specs.Letters.{letter_body, covered, record_of, record_bytes, segment_bytes, IsLetter, FitsRecord, AreLetters}
use Rattle.dead_letters.specs.Records.{letter_at, fault, body_length, stored_crc, computed_crc, letter_or, record_at, with_letter, letter_then, records_from, records_in, FaultAs, RecordsAreReadBack, RecordsAreSpelled}
use Rattle.dead_letters.specs.declared.letter.DeadLetter.{DeadLetter}
use Rattle.dead_letters.specs.declared.faults.RecordFault.{RecordFault}
use Rattle.dead_letters.specs.declared.faults.ReadFault.{ReadFault}
use Rattle.dead_letters.specs.declared.faults.ReadFault.TheVariants.{At}
use Rattle.dead_letters.proofs.LetterReads.{letter_again, letter_takes}

crc_low : (bytes : List ℕ) → crc32 bytes < 256 ^ 4
unfolding crc32
crc_low bytes = omega arith

number_of_count : (n : ℕ) (rest : List ℕ) → n < 2 ^ 32 → big_number 4 (count_bytes n ++ rest) ≡ n
unfolding count_bytes
number_of_count n rest low = big_number-reads_back 4 n rest low

count_of_number : (bytes : List ℕ) → IsBytes bytes → 4 ≤ length bytes → count_bytes (big_number 4 bytes) ≡ take 4 bytes
unfolding count_bytes
count_of_number bytes fit long = big_bytes-big_number 4 bytes long fit

length-covered : (body : List ℕ) → length (covered body) ≡ length body + 4
length-covered body = omega (arith, length-append (count_bytes (length body)) body, length-count_bytes (length body))

pub length-record_of : (body : List ℕ) → length (record_of body) ≡ length body + 8
unfolding record_of
length-record_of body = omega (arith, length-append (covered body) (big_bytes 4 (crc32 (covered body))), length-covered body, length-bytes_high_first 4 (crc32 (covered body)))

-- a body by its length and what stands behind it
pub length_of : (bytes : List ℕ) → 4 ≤ length bytes → body_length bytes ≡ big_number 4 bytes
unfolding body_length
length_of bytes long = let t : nat_lt (length bytes) 4 ≡ false = grind (arith, nat_tests, long) in cond-false _ _ _ t

pub no_length : (bytes : List ℕ) → length bytes < 4 → body_length bytes ≡ 0
unfolding body_length
no_length bytes few = let t : nat_lt (length bytes) 4 ≡ true = grind (arith, nat_tests, few) in cond-true _ _ _ t

-- ---- by the tests

module _ (place total : ℕ) (bytes : List ℕ) where
  abbrev n : ℕ
  n = body_length bytes

  pub leaves : length bytes < n + 8 → record_at place total bytes ≡ Err (fault place (place + (n + 8)) total)
  unfolding record_at
  leaves few = let t : nat_lt (length bytes) (n + 8) ≡ true = grind (arith, nat_tests, few) in cond-true _ _ _ t

  pub broken : n + 8 ≤ length bytes → stored_crc n bytes ≢ computed_crc n bytes → record_at place total bytes ≡ Err (fault place (stored_crc n bytes) (computed_crc n bytes))
  unfolding record_at
  broken long differ =
      let t : nat_lt (length bytes) (n + 8) ≡ false = grind (arith, nat_tests, long) in
      let u : (stored_crc n bytes == computed_crc n bytes) ≡ false = grind (arith, nat_tests, differ) in
      cond-false _ _ _ t ∙ cond-false _ _ _ u

  pub stands : n + 8 ≤ length bytes → stored_crc n bytes ≡ computed_crc n bytes → record_at place total bytes ≡ letter_or place n (letter_at (take n (drop 4 bytes)))
  unfolding record_at
  stands long same =
      let t : nat_lt (length bytes) (n + 8) ≡ false = grind (arith, nat_tests, long) in
      let u : (stored_crc n bytes == computed_crc n bytes) ≡ true = grind (arith, nat_tests, same) in
      cond-false _ _ _ t ∙ cond-true _ _ _ u

-- ---- as the code reads them

pub body_low : (bytes : List ℕ) → IsBytes bytes → body_length bytes < 2 ^ 32
unfolding body_length
body_low bytes fit = elim (chosen (nat_lt (length bytes) 4) 0 (big_number 4 bytes) (body_length bytes) refl) [
  | inl w ↦ omega (arith, w.1)
  | inr w ↦ let low : big_number 4 bytes < 2 ^ 32 = big_from-lt 0 4 bytes fit in omega (arith, w.1, low)
]

pub tells_fault : {Y : Type 0} (f : ReadFault) (r : RecordFault) (read : Result Y RecordFault) → f ≡ At r → read ≡ Err r → FaultAs f read
tells_fault f r read is said = subst (λ g. FaultAs g read) (sym is) said

module _ (place total : ℕ) (bytes : List ℕ) (len : ℕ) where
  pub leaves_by : len ≡ body_length bytes → length bytes < len + 8 → record_at place total bytes ≡ Err (fault place (place + (len + 8)) total)
  leaves_by is few = leaves place total bytes (omega (arith, is, few)) ∙ ap (λ n. Err (fault place (place + (n + 8)) total)) (sym is)

  module _ (stored computed : ℕ) (is : len ≡ body_length bytes) (long : len + 8 ≤ length bytes) (stored_is : stored ≡ big_number 4 (take (length bytes - (len + 4)) (drop (len + 4) bytes))) (computed_is : computed ≡ crc32 (take (len + 4) bytes)) where
    reads_stored : stored ≡ stored_crc (body_length bytes) bytes
    unfolding stored_crc
    reads_stored = stored_is ∙ ap (big_number 4) (take_rest bytes (len + 4)) ∙ ap (λ n. big_number 4 (drop (n + 4) bytes)) is

    divides : computed ≡ computed_crc (body_length bytes) bytes
    unfolding computed_crc
    divides = computed_is ∙ ap (λ n. crc32 (take (n + 4) bytes)) is

    pub broken_by : stored ≢ computed → record_at place total bytes ≡ Err (fault place stored computed)
    broken_by differ =
        broken place total bytes (omega (arith, is, long)) (λ same. differ (reads_stored ∙ same ∙ sym divides)) ∙ sym (ap₂ (λ s c. Err (fault place s c)) reads_stored divides)

    pub stands_by : stored ≡ computed → record_at place total bytes ≡ letter_or place (length (take len (take (length bytes - 4) (drop 4 bytes)))) (letter_at (take len (take (length bytes - 4) (drop 4 bytes))))
    stands_by same =
        let own = take len (take (length bytes - 4) (drop 4 bytes)) in
        let own_is : own ≡ take (body_length bytes) (drop 4 bytes) = ap (take len) (take_rest bytes 4) ∙ ap (λ n. take n (drop 4 bytes)) is in
        let size : length own ≡ body_length bytes = omega (arith, ap length own_is, length-take (body_length bytes) (drop 4 bytes), length-drop 4 bytes, is, long) in
        stands place total bytes (omega (arith, is, long)) (sym reads_stored ∙ same ∙ divides) ∙ sym (ap₂ (λ n b. letter_or place n (letter_at b)) size own_is)

-- ---- what is written is read

record Front (body rest bytes : List ℕ) : Type 0 where
  length_is : body_length bytes ≡ length body
  long : length body + 8 ≤ length bytes
  crc : stored_crc (length body) bytes ≡ computed_crc (length body) bytes
  body_is : take (length body) (drop 4 bytes) ≡ body
  behind : drop (length body + 8) bytes ≡ rest

in_front : (body rest : List ℕ) → length body < 2 ^ 32 → Front body rest (record_of body ++ rest)
unfolding record_of stored_crc computed_crc
in_front body rest short =
    let n = length body in
    let c = covered body in
    let crc = big_bytes 4 (crc32 c) in
    let bytes = record_of body ++ rest in
    let size : length bytes ≡ n + 8 + length rest = omega (arith, length-append (record_of body) rest, length-record_of body) in
    let parts : bytes ≡ c ++ (crc ++ rest) = append_assoc c crc rest in
    let deep : bytes ≡ count_bytes n ++ (body ++ (crc ++ rest)) = parts ∙ append_assoc (count_bytes n) body (crc ++ rest) in
    let four = length-count_bytes n in
    let front : take (n + 4) bytes ≡ c = ap (take (n + 4)) parts ∙ take_at c (crc ++ rest) (n + 4) (length-covered body) in
    let back : drop (n + 4) bytes ≡ crc ++ rest = ap (drop (n + 4)) parts ∙ drop_at c (crc ++ rest) (n + 4) (length-covered body) in
    let after : drop 4 bytes ≡ body ++ (crc ++ rest) = ap (drop 4) deep ∙ drop_at (count_bytes n) (body ++ (crc ++ rest)) 4 four in
    record {
      length_is = length_of bytes (omega (arith, size)) ∙ ap (big_number 4) deep ∙ number_of_count n (body ++ (crc ++ rest)) short;
      long = omega (arith, size);
      crc = ap (big_number 4) back ∙ big_number-reads_back 4 (crc32 c) rest (crc_low c) ∙ ap crc32 (sym front);
      body_is = ap (take n) after ∙ take-append_seam body (crc ++ rest);
      behind = drop_at (record_of body) rest (n + 8) (length-record_of body);
    }

record_again : (place total : ℕ) (l : DeadLetter) (rest : List ℕ) → IsLetter l → FitsRecord l → record_at place total (record_bytes l ++ rest) ≡ Ok l
record_again place total l rest is short =
    let bytes = record_bytes l ++ rest in
    let f = in_front (letter_body l) rest short in
    let same : stored_crc (body_length bytes) bytes ≡ computed_crc (body_length bytes) bytes = subst (λ n. stored_crc n bytes ≡ computed_crc n bytes) (sym f.length_is) f.crc in
    stands place total bytes (omega (arith, f.long, f.length_is)) same
    ∙ ap (λ n. letter_or place n (letter_at (take n (drop 4 bytes)))) f.length_is
    ∙ ap (λ b. letter_or place (length (letter_body l)) (letter_at b)) f.body_is
    ∙ ap (letter_or place (length (letter_body l))) (letter_again l is short)

-- one record more
pub records_step : (most total : ℕ) (bytes : List ℕ) → 0 < length bytes
    → records_from (suc most) total bytes ≡ letter_then (record_at (total - length bytes) total bytes) (records_from most total (drop (body_length bytes + 8) bytes))
records_step most total [] some = absurd (omega (arith, some))
records_step most total (b ∷ bytes) some = refl

pub records_end : (most total : ℕ) → records_from most total [] ≡ Ok []
records_end zero total = refl
records_end (suc most) total = refl

records_again : (most total : ℕ) (letters : List DeadLetter) → AreLetters letters → length (segment_bytes letters) ≤ most → records_from most total (segment_bytes letters) ≡ Ok letters
records_again most total [] are long = records_end most total
records_again zero total (l ∷ ls) are long = absurd (omega (arith, long, length-append (record_bytes l) (segment_bytes ls), length-record_of (letter_body l)))
records_again (suc most) total (l ∷ ls) are long =
    let bytes = record_bytes l ++ segment_bytes ls in
    let size = length-append (record_bytes l) (segment_bytes ls) in
    let f = in_front (letter_body l) (segment_bytes ls) are.0.1 in
    let behind : drop (body_length bytes + 8) bytes ≡ segment_bytes ls = ap (λ n. drop (n + 8) bytes) f.length_is ∙ f.behind in
    let rest = records_again most total ls are.1 (omega (arith, long, size, length-record_of (letter_body l))) in
    records_step most total bytes (omega (arith, size, length-record_of (letter_body l)))
    ∙ ap (λ r. letter_then r (records_from most total (drop (body_length bytes + 8) bytes))) (record_again (total - length bytes) total l (segment_bytes ls) are.0.0 are.0.1)
    ∙ ap (with_letter l) (ap (records_from most total) behind ∙ rest)

pub records_are_read_back : RecordsAreReadBack
unfolding records_in
records_are_read_back letters are = records_again (length (segment_bytes letters)) (length (segment_bytes letters)) letters are (omega arith)

-- ---- what is read is written so

letter_is : (place len : ℕ) (read : Result DeadLetter ℕ) (l : DeadLetter) → letter_or place len read ≡ Ok l → read ≡ Ok l
letter_is place len (Ok m) l h = ap Ok (search (h, rules))
letter_is place len (Err left) l h = absurd (search (h, rules))

record Taken (bytes : List ℕ) (l : DeadLetter) : Type 0 where
  is_letter : IsLetter l
  fits : FitsRecord l
  is : bytes ≡ record_bytes l ++ drop (body_length bytes + 8) bytes

record_takes : (place total : ℕ) (bytes : List ℕ) (l : DeadLetter) → IsBytes bytes → record_at place total bytes ≡ Ok l → Taken bytes l
unfolding record_at record_of stored_crc computed_crc
record_takes place total bytes l fit h =
    let n = body_length bytes in
    elim (chosen (nat_lt (length bytes) (n + 8)) _ _ (Ok l) h) [
      | inl w ↦ absurd (search (w.1, rules))
      | inr w ↦
          let long : n + 8 ≤ length bytes = grind (arith, nat_tests, w.0) in
          elim (chosen (stored_crc n bytes == computed_crc n bytes) _ _ (Ok l) w.1) [
            | inr u ↦ absurd (search (u.1, rules))
            | inl u ↦
                let own = take n (drop 4 bytes) in
                let k = letter_takes own l (IsBytes-take n (drop 4 bytes) (IsBytes-drop 4 bytes fit)) (letter_is place n (letter_at own) l u.1) in
                let size : length own ≡ n = omega (arith, long, length-take n (drop 4 bytes), length-drop 4 bytes) in
                let n_is : n ≡ big_number 4 bytes = length_of bytes (omega (arith, long)) in
                let low : big_number 4 bytes < 2 ^ 32 = big_from-lt 0 4 bytes fit in
                let count : count_bytes (length own) ≡ take 4 bytes = ap count_bytes (size ∙ n_is) ∙ count_of_number bytes fit (omega (arith, long)) in
                let cover : covered own ≡ take (n + 4) bytes =
                ap (λ c. c ++ own) count ∙ sym (take-add 4 n bytes) ∙ (let e : 4 + n ≡ n + 4 = omega arith in ap (λ k. take k bytes) e) in
                let same : big_number 4 (drop (n + 4) bytes) ≡ crc32 (take (n + 4) bytes) = eqb-true _ _ u.0 in
                let crc : big_bytes 4 (crc32 (covered own)) ≡ take 4 (drop (n + 4) bytes) =
                ap (λ c. big_bytes 4 (crc32 c)) cover ∙ ap (big_bytes 4) (sym same) ∙ big_bytes-big_number 4 (drop (n + 4) bytes) (omega (arith, long, length-drop (n + 4) bytes)) (IsBytes-drop (n + 4) bytes fit) in
                let whole : record_of own ≡ take (n + 8) bytes =
                ap (λ c. c ++ big_bytes 4 (crc32 (covered own))) cover ∙ ap (λ c. take (n + 4) bytes ++ c) crc ∙ sym (take-add (n + 4) 4 bytes) ∙ (let e : n + 4 + 4 ≡ n + 8 = omega arith in ap (λ k. take k bytes) e) in
                record {
                  is_letter = k.0;
                  fits = omega (arith, ap length k.1, size, n_is, low);
                  is = sym (take-append-drop (n + 8) bytes) ∙ ap (λ r. r ++ drop (n + 8) bytes) (sym whole ∙ ap record_of (sym k.1));
                }
          ]
    ]

-- a letter, and those behind it
record First (read : Result DeadLetter RecordFault) (rest : Result (List DeadLetter) RecordFault) (letters : List DeadLetter) : Type 0 where
  one : DeadLetter
  others : List DeadLetter
  one_is : read ≡ Ok one
  others_are : rest ≡ Ok others
  are : letters ≡ one ∷ others

first_of : (read : Result DeadLetter RecordFault) (rest : Result (List DeadLetter) RecordFault) (letters : List DeadLetter) → letter_then read rest ≡ Ok letters → First read rest letters
first_of (Ok l) (Ok ls) letters h = record { one = l; others = ls; one_is = refl; others_are = refl; are = search (h, rules) }
first_of (Ok l) (Err f) letters h = absurd (search (h, rules))
first_of (Err f) rest letters h = absurd (search (h, rules))

records_take : (most total : ℕ) (bytes : List ℕ) (letters : List DeadLetter) → IsBytes bytes → length bytes ≤ most → records_from most total bytes ≡ Ok letters → AreLetters letters × (bytes ≡ segment_bytes letters)
records_take zero total [] letters fit short h = let none : [] ≡ letters = search (h, rules) in subst (λ ls. AreLetters ls × ([] ≡ segment_bytes ls)) none (tt, refl)
records_take zero total (b ∷ bytes) letters fit short h = absurd (omega (arith, short))
records_take (suc most) total [] letters fit short h = let none : [] ≡ letters = search (h, rules) in subst (λ ls. AreLetters ls × ([] ≡ segment_bytes ls)) none (tt, refl)
records_take (suc most) total (b ∷ more) letters fit short h =
    let bytes = b ∷ more in
    let rest = drop (body_length bytes + 8) bytes in
    let f = first_of (record_at (total - length bytes) total bytes) (records_from most total rest) letters h in
    let t = record_takes (total - length bytes) total bytes f.one fit f.one_is in
    let r = records_take most total rest f.others (IsBytes-drop (body_length bytes + 8) bytes fit) (omega (arith, short, length-drop (body_length bytes + 8) bytes)) f.others_are in
    subst (λ ls. AreLetters ls × (bytes ≡ segment_bytes ls)) (sym f.are) (((t.is_letter, t.fits), r.0), t.is ∙ ap (λ x. record_bytes f.one ++ x) r.1)

pub records_are_spelled : RecordsAreSpelled
unfolding records_in
records_are_spelled bytes letters fit h = records_take (length bytes) (length bytes) bytes letters fit (omega arith) h

-- ---- reading one record after the other

abbrev pub with_front : List DeadLetter → Result (List DeadLetter) RecordFault → Result (List DeadLetter) RecordFault
with_front front (Ok ls) = Ok (front ++ ls)
with_front front (Err f) = Err f

starts : (read : Result (List DeadLetter) RecordFault) → with_front [] read ≡ read
starts (Ok ls) = refl
starts (Err f) = refl

pub begun : (bytes : List ℕ) → with_front [] (records_from (length bytes - 0) (length bytes) bytes) ≡ records_in bytes
unfolding records_in
begun bytes = let all : length bytes - 0 ≡ length bytes = omega arith in ap (λ n. with_front [] (records_from n (length bytes) bytes)) all ∙ starts (records_from (length bytes) (length bytes) bytes)

regroup : (front : List DeadLetter) (l : DeadLetter) (read : Result (List DeadLetter) RecordFault) → with_front front (with_letter l read) ≡ with_front (front ++ l ∷ []) read
regroup front l (Ok ls) = ap Ok (simp append_assoc)
regroup front l (Err f) = refl

module _ (front : List DeadLetter) (i : ℕ) (bytes rest : List ℕ) (less : i < length bytes) (some : 0 < length rest) (so_far : with_front front (records_from (length bytes - i) (length bytes) rest) ≡ records_in bytes) where
  abbrev total : ℕ
  total = length bytes

  step : records_from (total - i) total rest ≡ letter_then (record_at (total - length rest) total rest) (records_from (total - (i + 1)) total (drop (body_length rest + 8) rest))
  step = let k : total - i ≡ suc (total - (i + 1)) = omega (arith, less) in ap (λ n. records_from n total rest) k ∙ records_step (total - (i + 1)) total rest some

  pub reads_on : (l : DeadLetter) → record_at (total - length rest) total rest ≡ Ok l
      → with_front (front ++ l ∷ []) (records_from (total - (i + 1)) total (drop (body_length rest + 8) rest)) ≡ records_in bytes
  reads_on l is =
      sym (regroup front l (records_from (total - (i + 1)) total (drop (body_length rest + 8) rest)))
      ∙ sym (ap (with_front front) (step ∙ ap (λ r. letter_then r (records_from (total - (i + 1)) total (drop (body_length rest + 8) rest))) is)) ∙ so_far

  pub reads_not : (f : RecordFault) → record_at (total - length rest) total rest ≡ Err f → records_in bytes ≡ Err f
  reads_not f is = sym so_far ∙ ap (with_front front) (step ∙ ap (λ r. letter_then r (records_from (total - (i + 1)) total (drop (body_length rest + 8) rest))) is)

pub all_read : (front : List DeadLetter) (most total : ℕ) (whole : Result (List DeadLetter) RecordFault) → with_front front (records_from most total []) ≡ whole → whole ≡ Ok front
all_read front most total whole so_far = sym so_far ∙ ap (with_front front) (records_end most total) ∙ ap Ok (append-nil front)

pub used_up : (front : List DeadLetter) (n i : ℕ) (rest : List ℕ) (whole : Result (List DeadLetter) RecordFault) → n ≤ i → with_front front (records_from (n - i) n rest) ≡ whole → whole ≡ Ok front
used_up front n i rest whole done so_far = let none : n - i ≡ 0 = omega (arith, done) in sym so_far ∙ ap (λ m. with_front front (records_from m n rest)) none ∙ ap Ok (append-nil front)

-- ---- a record as it is written

pub joined : (old head body sum items : List ℕ) (start : ℕ) → start ≡ length old → head ≡ count_bytes (length body) → items ≡ (old ++ head) ++ body → sum ≡ big_bytes 4 (crc32 (drop start items)) → items ++ sum ≡ old ++ record_of body
unfolding record_of
joined old head body sum items start at head_is items_are sum_is =
    let cover : items ≡ old ++ covered body = items_are ∙ append_assoc old head body ∙ ap (λ h. old ++ (h ++ body)) head_is in
    let rest : drop start items ≡ covered body = ap (drop start) cover ∙ drop_at old (covered body) start (sym at) in
    ap (λ s. items ++ s) (sum_is ∙ ap (λ c. big_bytes 4 (crc32 c)) rest) ∙ ap (λ c. c ++ big_bytes 4 (crc32 (covered body))) cover ∙ append_assoc old (covered body) (big_bytes 4 (crc32 (covered body)))
