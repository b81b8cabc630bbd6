-- A turn ends: each refusal leaves fewer calls that can be refused.
use Rattle.std.proofs.Common.{◌≡◌, inl, inr, ℕ, suc, ◌≤◌, ◌==◌, ◌||◌, Bool, true, false, List, [], ◌∷◌, ◌++◌, map, Option, Some, None, if◌then◌else◌, refl, sym, ap, ◌∙◌, subst, arith}
use Rattle.std.proofs.lemmas.Bool.{eq-eqb}
use Rattle.event_flow.specs.Meaning.{Makes}
use Rattle.history_book.specs.Contents.{Bytes}
use Rattle.history_book.specs.Links.{Listening}
use Rattle.history_book.specs.Lists.{IsIn}
use Rattle.history_book.specs.Sound.{Places}
use Rattle.history_book.specs.States.{is_among}
use Rattle.line_machine.specs.declared.calls.Act.{Act}
use Rattle.line_machine.specs.declared.calls.Act.TheVariants as act
use Rattle.line_machine.specs.declared.calls.Call.{Call}
use Rattle.line_machine.specs.declared.calls.Call.TheVariants as call
use Rattle.line_machine.specs.Answers.{IsCall, IsPart, Parts, None_before, First}
use Rattle.line_machine.specs.Effects.{Effect, held_now, in_parcel}
use Rattle.line_machine.specs.Ends.{TakerView, Taken, Takes, took, change_taker}
use Rattle.line_machine.specs.Steps as m
use Rattle.line_machine.specs.Steps.{Step, effect}
use Rattle.line_machine.specs.Views.{InputView, LineView, change_input}
use Rattle.line_machine.proofs.BatchLists.{numbers_kept}
use Rattle.line_machine.specs.Choices.{IsRefusal, IsOf, noted, untried, one_unless, chances, Begins, Is_refused, Takes_none, TurnsEnd}
use Rattle.line_machine.specs.Summaries.{Refused, batches_of, inputs_of, places_of}
use Rattle.line_machine.proofs.Choosing.{IsFresh, choice_fresh}

-- ---- fewer are left

one_or_none : (first again : Bool) → (if first || again then 0 else 1) ≤ (if again then 0 else 1)
one_or_none true true = omega (arith)
one_or_none true false = omega (arith)
one_or_none false true = omega (arith)
one_or_none false false = omega (arith)

no_more : (n : ℕ) (tried ns : List ℕ) → untried (n ∷ tried) ns ≤ untried tried ns
no_more n tried [] = omega (arith)
no_more n tried (k ∷ ns) = let first = one_or_none (k == n) (is_among k tried) in let rest = no_more n tried ns in omega (arith, first, rest)

fewer : (n : ℕ) (tried ns : List ℕ) → IsIn n ns → is_among n tried ≡ false → suc (untried (n ∷ tried) ns) ≤ untried tried ns
fewer n tried [] has new = absurd has
fewer n tried (k ∷ ns) (inl same) new =
    let now = ap (λ (b : Bool). one_unless (b || is_among k tried)) (eq-eqb k n (sym same)) in
    let before = ap one_unless (ap (λ x. is_among x tried) (sym same) ∙ new) in
    let rest = no_more n tried ns in omega (arith, now, before, rest)
fewer n tried (k ∷ ns) (inr i) new =
    let first = one_or_none (k == n) (is_among k tried) in let rest = fewer n tried ns i new in omega (arith, first, rest)

taken_once : (read : Bool) → read ≡ false → suc (one_unless true) ≤ one_unless read
taken_once true new = absurd (differs new)
  where
    differs : true ≡ false → ⊥
    differs e = cc
taken_once false new = omega (arith)

-- ---- a refusal leaves batches, inputs and ends

module _ {places : Places} where
  record Keeps (i j : LineView places) : Type 0 where
    batches : batches_of j ≡ batches_of i
    inputs : inputs_of j ≡ inputs_of i
    ends : places_of j ≡ places_of i

  keeps_all : (i : LineView places) → Keeps i i
  keeps_all i = record { batches = refl; inputs = refl; ends = refl }

  keeps_both : (i j k : LineView places) → Keeps i j → Keeps j k → Keeps i k
  keeps_both i j k first then_more = record {
    batches = then_more.batches ∙ first.batches;
    inputs = then_more.inputs ∙ first.inputs;
    ends = then_more.ends ∙ first.ends;
  }

  same_chances : (r : Refused) (i j : LineView places) → Keeps i j → chances r j ≡ chances r i
  same_chances r i j keeps =
      let inputs = ap (untried r.accepts) keeps.inputs in let batches = ap (untried r.deliveries) keeps.batches in let ends = ap (untried r.answers) keeps.ends in
      omega (arith, inputs, batches, ends)

inputs_same : (f : InputView → InputView) → ((v : InputView) → (f v).number ≡ v.number) → (n : ℕ) (vs : List InputView)
    → map (λ (v : InputView). v.number) (change_input f n vs) ≡ map (λ (v : InputView). v.number) vs
inputs_same f keeps n [] = refl
inputs_same f keeps n (v ∷ vs) = by_test (n == v.number) (inputs_same f keeps n vs)
  where
    by_test : (t : Bool) → map (λ (x : InputView). x.number) (change_input f n vs) ≡ map (λ (x : InputView). x.number) vs
        → map (λ (x : InputView). x.number) (if t then f v ∷ vs else v ∷ change_input f n vs) ≡ v.number ∷ map (λ (x : InputView). x.number) vs
    by_test true rest = ap (λ k. k ∷ map (λ (x : InputView). x.number) vs) (keeps v)
    by_test false rest = ap (λ l. v.number ∷ l) rest

places_same : (f : TakerView → TakerView) → ((t : TakerView) → (f t).place ≡ t.place) → (n : ℕ) (ts : List TakerView)
    → map (λ (t : TakerView). t.place) (change_taker f n ts) ≡ map (λ (t : TakerView). t.place) ts
places_same f keeps n [] = refl
places_same f keeps n (t ∷ ts) = by_test (n == t.place) (places_same f keeps n ts)
  where
    by_test : (b : Bool) → map (λ (x : TakerView). x.place) (change_taker f n ts) ≡ map (λ (x : TakerView). x.place) ts
        → map (λ (x : TakerView). x.place) (if b then f t ∷ ts else t ∷ change_taker f n ts) ≡ t.place ∷ map (λ (x : TakerView). x.place) ts
    by_test true rest = ap (λ k. k ∷ map (λ (x : TakerView). x.place) ts) (keeps t)
    by_test false rest = ap (λ l. t.place ∷ l) rest

taken_same : (only : Option (List ℕ)) (n : ℕ) (taken : List Taken) (old new : List TakerView) → Takes only n taken old new → map (λ (t : TakerView). t.place) new ≡ map (λ (t : TakerView). t.place) old
taken_same only n [] old new same = ap (λ ts. map (λ (t : TakerView). t.place) ts) same
taken_same only n (x ∷ taken) old new takes = taken_same only n taken (change_taker (took x.parcel) x.place old) new takes.1 ∙ places_same (took x.parcel) (λ t. refl) x.place old

module _ (makes : Makes) (listening : Listening) (bytes : Bytes) {places : Places} where
  part_keeps : (x : Call) (i : LineView places) (s : Step makes listening bytes i) → IsPart makes listening bytes i s x → Keeps i (effect makes listening bytes i s).line
  part_keeps x i (m.Sends n id address events rest h none p is some may) part =
      record { batches = numbers_kept (in_parcel (Some p.number)) (λ b. refl) n i.batches; inputs = refl; ends = refl }
  part_keeps x i (m.Hears address a s has turn waits) part = record { batches = refl; inputs = refl; ends = refl }
  part_keeps x i (m.Sends_last address p last may is) part = record { batches = refl; inputs = refl; ends = refl }
  part_keeps x i s part = absurd part

  parts_keep : (x : Call) (i j : LineView places) → Parts makes listening bytes x i j → Keeps i j
  parts_keep x i _ (None_before _) = keeps_all i
  parts_keep x i k (First _ _ s part rest) =
      keeps_both i (effect makes listening bytes i s).line k (part_keeps x i s part) (parts_keep x (effect makes listening bytes i s).line k rest)

  last_keeps : (x : Call) (i : LineView places) (s : Step makes listening bytes i) → IsCall makes listening bytes i s x → IsRefusal x → Keeps i (effect makes listening bytes i s).line
  last_keeps x i (m.Takes_alone n h address listens taken takers takes) is refusal = record { batches = refl; inputs = refl; ends = taken_same _ n taken i.takers takers takes }
  last_keeps x i (m.Holds_more n h reads came answer none) is refusal = record { batches = refl; inputs = inputs_same (held_now (h.input.held ++ came)) (λ v. refl) n i.inputs; ends = refl }
  last_keeps x i (m.Is_not_heard n id address events rest h number was heard) is refusal = record { batches = numbers_kept (in_parcel None) (λ b. refl) n i.batches; inputs = refl; ends = refl }
  last_keeps x i (m.Leaves_all y leaves) is refusal = keeps_all i
  last_keeps x i (m.Only_fails y fails) is refusal = keeps_all i
  last_keeps x i (m.Sends n id address events rest h none p same some may) is refusal = absurd is
  last_keeps x i (m.Hears address a s has turn waits) is refusal = absurd is
  last_keeps x i (m.Sends_last address p last may due) is refusal = absurd is
  last_keeps x i (m.Accepts n c r true) is refusal = absurd (subst IsRefusal is refusal)
  last_keeps x i (m.Accepts_parcel n a r true) is refusal = absurd (subst IsRefusal is refusal)
  last_keeps x i s is refusal = absurd (subst IsRefusal is refusal)

  -- ---- the law

  refused_less : (a : Act) (x : Call) (r : Refused) (i : LineView places) → IsOf a x → IsFresh i r a → suc (chances (noted r x) i) ≤ chances r i
  refused_less a (call.Accept n answer) r i of new =
      let fresh = subst (IsFresh i r) of new in let less = fewer n r.accepts (inputs_of i) fresh.0 fresh.1 in omega (arith, less)
  refused_less a (call.Read answer) r i of new = let less = taken_once r.read (subst (IsFresh i r) of new) in omega (arith, less)
  refused_less a (call.Deliver n answer) r i of new =
      let fresh = subst (IsFresh i r) of new in let less = fewer n r.deliveries (batches_of i) fresh.0 fresh.1 in omega (arith, less)
  refused_less a (call.AnswerLink place answer) r i of new =
      let fresh = subst (IsFresh i r) of new in let less = fewer place r.answers (places_of i) fresh.0 fresh.1 in omega (arith, less)
  refused_less a x r i of new = absurd of

pub turns_end : (makes : Makes) (listening : Listening) (bytes : Bytes) (places : Places) → TurnsEnd makes listening bytes places
turns_end makes listening bytes places g r i h s j count Begins = omega (arith)
turns_end makes listening bytes places g r i h s j count (Is_refused before said showing line so_far a x e tries chosen of refusal did) =
    let sooner = turns_end makes listening bytes places g r i before said line so_far tries in
    let less = refused_less makes listening bytes a x said line of (choice_fresh listening line before said showing a chosen) in
    let last = last_keeps makes listening bytes x did.line did.step did.is_call refusal in
    let kept = keeps_both line did.line (effect makes listening bytes did.line did.step).line (parts_keep makes listening bytes x line did.line did.before) last in
    let same = ap (chances (noted said x)) (ap (λ (y : Effect places). y.line) did.effect_is) ∙ same_chances (noted said x) line (effect makes listening bytes did.line did.step).line kept in
    omega (arith, sooner, less, same)
turns_end makes listening bytes places g r i h s j count (Takes_none before said showing line so_far tries chosen) =
    let sooner = turns_end makes listening bytes places g r i before said line so_far tries in
    let less = taken_once said.take (choice_fresh listening line before said showing act.Take chosen) in omega (arith, sooner, less)
