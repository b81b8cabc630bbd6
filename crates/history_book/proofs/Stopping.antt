-- What a stop leaves of a run is what the next one may begin with.
use Rattle.std.proofs.Common.{◌≡◌, ℕ, zero, suc, ◌-◌, ◌==◌, Bool, true, false, if◌then◌else◌, List, [], ◌∷◌, ◌++◌, length, take, refl, sym, ap, ◌∙◌, subst, arith, append_assoc, append-nil}
use Rattle.std.proofs.Math.Seq.{take-append_seam}
use Rattle.std.proofs.lemmas.Bool.{eqb-true}
use Rattle.std.proofs.lemmas.List.Concat.{flat_map-cons}
use Rattle.event_flow.specs.Meaning.{Makes}
use Rattle.history_book.specs.Deeds.{Deed, Tell, Send, Hear, DeedOf, deeds_by, told_of, told_by, AreTold, LegalBehind}
use Rattle.history_book.specs.Entries.{Entry}
use Rattle.history_book.specs.Links.{Listening, Link}
use Rattle.history_book.specs.Premises.{StandsInside, RunsStandInside, one_less, cut_behind, cut_at, StopsMeetTheStart}
use Rattle.history_book.specs.Runs.{PipelineSound}
use Rattle.history_book.specs.Yards.{AreSteps, all_done}
use Rattle.history_book.proofs.Mailing.{told_both, deeds_both, told_by_both}

-- ---- where a run agrees with what stands around it

module _ (makes : Makes) (listening : Listening) (first : List DeedOf) (k : ℕ) where
  legal_behind : (since : List DeedOf) (old : List Link) (steps : List (List DeedOf)) (last : List Link) → AreSteps makes listening first since old steps last
      → LegalBehind makes (told_by k first) (deeds_by k since) → LegalBehind makes (told_by k first) (deeds_by k (since ++ all_done steps))
  legal_behind since old [] last are legal = subst (λ l. LegalBehind makes (told_by k first) (deeds_by k l)) (sym (append-nil since)) legal
  legal_behind since old (step ∷ steps) last are legal =
      let parts = ap (λ l. since ++ l) (flat_map-cons (λ (s : List DeedOf). s) step steps) ∙ sym (append_assoc since step (all_done steps)) in
      subst (λ l. LegalBehind makes (told_by k first) (deeds_by k l)) (sym parts) (legal_behind (since ++ step) are.1.0 steps last are.1.3 (are.1.2.legal k))

pub runs_stand_inside : RunsStandInside
runs_stand_inside m bases first steps around sound k =
    let deeds = deeds_by k (all_done steps) in
    record {
      front = deeds;
      more = [];
      parts = sym (append-nil deeds);
      legal = legal_behind m.makes m.listening first k [] [] steps sound.last sound.links ([], refl);
      sound = subst (λ l. PipelineSound m bases k l around.files (around.images k)) (told_by_both k first (all_done steps)) (sound.pipelines k);
    }

-- ---- a stop

-- what is cut tells entries alone
told_behind : (line : ℕ) (deed : Deed) (n : ℕ) (counts : ℕ → ℕ) (rest : (ℕ → ℕ) → List DeedOf) → ((less : ℕ → ℕ) → AreTold (rest less)) → AreTold (cut_behind line deed n counts rest)
told_behind line (Tell e) zero counts rest told = told counts
told_behind line (Tell e) (suc n) counts rest told = ((e, refl), told (one_less line counts))
told_behind line (Send address p) n counts rest told = told counts
told_behind line (Hear address a) n counts rest told = told counts

cut_told : (counts : ℕ → ℕ) (done : List DeedOf) → AreTold (cut_at counts done)
cut_told counts [] = tt
cut_told counts (d ∷ done) = told_behind d.line d.deed (counts d.line) counts (λ less. cut_at less done) (λ less. cut_told less done)

-- of each pipeline it has the first entries
module _ (k line : ℕ) (done : List DeedOf) (rest : (ℕ → ℕ) → List DeedOf) (is_cut : (counts : ℕ → ℕ) → told_by k (rest counts) ≡ take (counts k) (told_by k done)) where
  -- behind a deed of another pipeline
  other_cut : (counts : ℕ → ℕ) → (k == line) ≡ false → (deed : Deed) (n : ℕ) → told_by k (cut_behind line deed n counts rest) ≡ take (counts k) (told_by k done)
  other_cut counts test (Send address p) n = is_cut counts
  other_cut counts test (Hear address a) n = is_cut counts
  other_cut counts test (Tell e) zero = is_cut counts
  other_cut counts test (Tell e) (suc n) =
      let less = rest (one_less line counts) in
      ap (λ (b : Bool). told_of (if b then Tell e ∷ deeds_by k less else deeds_by k less)) test ∙ is_cut (one_less line counts)
      ∙ ap (λ (b : Bool). take (if b then counts k - 1 else counts k) (told_by k done)) test

  one_back : (n : ℕ) → suc n - 1 ≡ n
  one_back n = omega arith

  -- behind one of its own
  own_cut : (counts : ℕ → ℕ) → (k == line) ≡ true → (deed : Deed) (n : ℕ) → counts k ≡ n → told_by k (cut_behind line deed n counts rest) ≡ take n (told_of (deed ∷ deeds_by k done))
  own_cut counts test (Send address p) n is = is_cut counts ∙ ap (λ x. take x (told_by k done)) is
  own_cut counts test (Hear address a) n is = is_cut counts ∙ ap (λ x. take x (told_by k done)) is
  own_cut counts test (Tell e) zero is = is_cut counts ∙ ap (λ x. take x (told_by k done)) is
  own_cut counts test (Tell e) (suc n) is =
      let less = rest (one_less line counts) in
      ap (λ (b : Bool). told_of (if b then Tell e ∷ deeds_by k less else deeds_by k less)) test
      ∙ ap (λ l. e ∷ l)
      (is_cut (one_less line counts) ∙ ap (λ (b : Bool). take (if b then counts k - 1 else counts k) (told_by k done)) test ∙ ap (λ x. take (x - 1) (told_by k done)) is
      ∙ ap (λ x. take x (told_by k done)) (one_back n))

  by_line : (counts : ℕ → ℕ) (deed : Deed) (b : Bool) → (k == line) ≡ b
      → told_by k (cut_behind line deed (counts line) counts rest) ≡ take (counts k) (told_by k (record { line = line; deed = deed } ∷ done))
  by_line counts deed false test =
      other_cut counts test deed (counts line) ∙ sym (ap (λ (b : Bool). take (counts k) (told_of (if b then deed ∷ deeds_by k done else deeds_by k done))) test)
  by_line counts deed true test =
      let same = ap counts (eqb-true k line test) in
      own_cut counts test deed (counts line) same ∙ ap (λ x. take x (told_of (deed ∷ deeds_by k done))) (sym same)
      ∙ sym (ap (λ (b : Bool). take (counts k) (told_of (if b then deed ∷ deeds_by k done else deeds_by k done))) test)

cut_is : (k : ℕ) (counts : ℕ → ℕ) (done : List DeedOf) → told_by k (cut_at counts done) ≡ take (counts k) (told_by k done)
cut_is k counts [] = none_cut (counts k)
  where
    none_cut : (n : ℕ) → ◌≡◌ {A = List Entry} [] (take n [])
    none_cut zero = refl
    none_cut (suc n) = refl
cut_is k counts (d ∷ done) = by_line k d.line done (λ less. cut_at less done) (λ less. cut_is k less done) counts d.deed (k == d.line) refl

pub stops_meet_the_start : StopsMeetTheStart
stops_meet_the_start m bases first since files images inside = (counts, record { entries = cut_told counts (first ++ since); pipelines = at })
  where
    counts : ℕ → ℕ
    counts k = length (told_by k first ++ told_of (inside k).front)

    whole : (k : ℕ) → told_by k (first ++ since) ≡ (told_by k first ++ told_of (inside k).front) ++ told_of (inside k).more
    whole k =
        told_by_both k first since ∙ ap (λ l. told_by k first ++ l) (ap told_of (inside k).parts ∙ told_both (inside k).front (inside k).more)
        ∙ sym (append_assoc (told_by k first) (told_of (inside k).front) (told_of (inside k).more))

    cut : (k : ℕ) → told_by k (cut_at counts (first ++ since)) ≡ told_by k first ++ told_of (inside k).front
    cut k =
        cut_is k counts (first ++ since) ∙ ap (take (counts k)) (whole k)
        ∙ take-append_seam (told_by k first ++ told_of (inside k).front) (told_of (inside k).more)

    at : (k : ℕ) → PipelineSound m bases k (told_by k (cut_at counts (first ++ since))) files (images k)
    at k = subst (λ l. PipelineSound m bases k l files (images k)) (sym (cut k)) (inside k).sound
