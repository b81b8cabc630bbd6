-- The letters of a queue behind an append.
use Rattle.std.proofs.Common.{◌≡◌, inl, inr, ℕ, suc, ◌+◌, ◌==◌, List, [], ◌∷◌, ◌++◌, length, map, drop, Result, Ok, Err, refl, sym, ap, ◌∙◌, subst, append-nil, append_assoc}
use Rattle.std.proofs.lemmas.Bool.{cond-true, cond-false, cases_Bool}
use Rattle.io_traits.specs.declared.queue_faults.Damage.{Damage}
use Rattle.dead_letters.specs.Letters.{AreLetters, record_bytes, segment_bytes}
use Rattle.dead_letters.specs.Queues.{segment, name_in, begins_next, grown}
use Rattle.dead_letters.specs.Records.{records_in}
use Rattle.dead_letters.specs.Rows.{followed_by, in_file, in_front, letters_from}
use Rattle.dead_letters.specs.Appends.{kept_from, with_records, AreBytes, AppendedAreRead}
use Rattle.dead_letters.specs.declared.letter.DeadLetter.{DeadLetter}
use Rattle.dead_letters.specs.declared.faults.RecordFault.{RecordFault}
use Rattle.dead_letters.proofs.Placing.{letters_by_segments}
use Rattle.dead_letters.proofs.RecordReads.{records_are_read_back as read_back, records_are_spelled as spelled}

-- ---- letters

bytes_both : (one other : List DeadLetter) → segment_bytes (one ++ other) ≡ segment_bytes one ++ segment_bytes other
bytes_both [] other = refl
bytes_both (l ∷ one) other = ap (λ b. record_bytes l ++ b) (bytes_both one other) ∙ sym (append_assoc (record_bytes l) (segment_bytes one) (segment_bytes other))

letters_both : (one other : List DeadLetter) → AreLetters one → AreLetters other → AreLetters (one ++ other)
letters_both [] other are more = more
letters_both (l ∷ one) other are more = (are.0, letters_both one other are.1 more)

kept_are : (places : List ℕ) (at : ℕ) (letters : List DeadLetter) → AreLetters letters → AreLetters (kept_from places at letters)
kept_are [] at letters are = are
kept_are (p ∷ places) at [] are = tt
kept_are (p ∷ places) at (l ∷ letters) are = elim (cases_Bool (p == at)) [
  | inl is ↦ subst AreLetters (sym (cond-true _ _ _ is)) (kept_are places (suc at) letters are.1)
  | inr is_not ↦ subst AreLetters (sym (cond-false _ _ _ is_not)) (are.0, kept_are (p ∷ places) (suc at) letters are.1)
]

-- ---- the last segment grows

module _ (folder : List ℕ) (limit : ℕ) where
  grown_read : (n : ℕ) (last : List ℕ) (old letters : List DeadLetter) → AreLetters old → AreLetters letters → last ≡ segment_bytes old → letters_from folder n (grown limit n last (map record_bytes letters)) ≡ Ok (old ++ letters)
  grown_read n last old [] are more is = letters_by_segments folder n last [] ∙ ap (λ r. followed_by (in_file (name_in folder (segment n)) r) (Ok [])) (ap records_in is ∙ read_back old are)
  grown_read n last old (l ∷ letters) are more is = elim (cases_Bool (begins_next limit n (length last) (length (record_bytes l)))) [
    | inl next ↦
        ap (letters_from folder n) (cond-true _ _ _ next) ∙ letters_by_segments folder n last (grown limit (suc n) (record_bytes l) (map record_bytes letters))
        ∙ ap (λ r. followed_by (in_file (name_in folder (segment n)) r) (letters_from folder (suc n) (grown limit (suc n) (record_bytes l) (map record_bytes letters)))) (ap records_in is ∙ read_back old are)
        ∙ ap (in_front old) (grown_read (suc n) (record_bytes l) (l ∷ []) letters (more.0, tt) more.1 (sym (append-nil (record_bytes l))))
    | inr not_next ↦
        ap (letters_from folder n) (cond-false _ _ _ not_next)
        ∙ grown_read n (last ++ record_bytes l) (old ++ l ∷ []) letters (letters_both old (l ∷ []) are (more.0, tt)) more.1
        (ap (λ b. b ++ record_bytes l) is ∙ ap (λ b. segment_bytes old ++ b) (sym (append-nil (record_bytes l))) ∙ sym (bytes_both old (l ∷ [])))
        ∙ ap Ok (append_assoc old (l ∷ []) letters)
  ]

  -- what two parts give that give letters
  record Parts (r : Result (List DeadLetter) RecordFault) (rest : Result (List DeadLetter) Damage) (all : List DeadLetter) : Type 0 where
    one : List DeadLetter
    other : List DeadLetter
    one_is : r ≡ Ok one
    other_is : rest ≡ Ok other
    both : one ++ other ≡ all

  parts : (file : List ℕ) (r : Result (List DeadLetter) RecordFault) (rest : Result (List DeadLetter) Damage) (all : List DeadLetter) → followed_by (in_file file r) rest ≡ Ok all → Parts r rest all
  parts file (Ok one) (Ok other) all is = record { one = one; other = other; one_is = refl; other_is = refl; both = same (one ++ other) all is }
    where
      same : (a b : List DeadLetter) → ◌≡◌ {A = Result (List DeadLetter) Damage} (Ok a) (Ok b) → a ≡ b
      same a b e = cc
  parts file (Ok one) (Err d) all is = absurd (no_ok d all is)
    where
      no_ok : (d : Damage) (b : List DeadLetter) → ◌≡◌ {A = Result (List DeadLetter) Damage} (Err d) (Ok b) → ⊥
      no_ok d b e = cc
  parts file (Err f) rest all is = absurd (no_ok _ all is)
    where
      no_ok : (d : Damage) (b : List DeadLetter) → ◌≡◌ {A = Result (List DeadLetter) Damage} (Err d) (Ok b) → ⊥
      no_ok d b e = cc

  appended_read : (n : ℕ) (segments : List (List ℕ)) (old letters : List DeadLetter) → AreLetters letters → AreBytes segments → letters_from folder n segments ≡ Ok old
      → letters_from folder n (with_records limit n segments (map record_bytes letters)) ≡ Ok (old ++ letters)
  appended_read n [] old letters are bytes is = grown_read n [] [] letters tt are refl ∙ ap (λ l. Ok (l ++ letters)) (none old is)
    where
      none : (old : List DeadLetter) → ◌≡◌ {A = Result (List DeadLetter) Damage} (Ok []) (Ok old) → [] ≡ old
      none old e = cc
  appended_read n (b ∷ []) old letters are bytes is =
      let p = parts (name_in folder (segment n)) (records_in b) (Ok []) old (sym (letters_by_segments folder n b []) ∙ is) in
      let spelt = spelled b p.one bytes.0 p.one_is in
      grown_read n b p.one letters spelt.0 are spelt.1 ∙ ap (λ l. Ok (l ++ letters)) (sym (append-nil p.one) ∙ ap (λ l. p.one ++ l) (none p.other p.other_is) ∙ p.both)
    where
      none : (other : List DeadLetter) → ◌≡◌ {A = Result (List DeadLetter) Damage} (Ok []) (Ok other) → [] ≡ other
      none other e = cc
  appended_read n (b ∷ t ∷ rest) old letters are bytes is =
      let p = parts (name_in folder (segment n)) (records_in b) (letters_from folder (suc n) (t ∷ rest)) old (sym (letters_by_segments folder n b (t ∷ rest)) ∙ is) in
      letters_by_segments folder n b (with_records limit (suc n) (t ∷ rest) (map record_bytes letters))
      ∙ ap (λ r. followed_by (in_file (name_in folder (segment n)) r) (letters_from folder (suc n) (with_records limit (suc n) (t ∷ rest) (map record_bytes letters)))) p.one_is
      ∙ ap (in_front p.one) (appended_read (suc n) (t ∷ rest) p.other letters are bytes.1 p.other_is)
      ∙ ap Ok (sym (append_assoc p.one p.other letters) ∙ ap (λ l. l ++ letters) p.both)

pub appended_are_read : AppendedAreRead
appended_are_read folder limit h s letters old are bytes is = appended_read folder limit (h.first + s.older) (drop s.older h.segments) old (kept_from s.newer 0 letters) (kept_are s.newer 0 letters are) bytes is
