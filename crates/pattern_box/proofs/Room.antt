-- No match of a searcher writes to a slot that its automaton doesn't count.
use Rattle.std.proofs.Common.{◌≡◌, ℕ, ◌+◌, ◌<◌, List, length, Some, All, refl, sym, ◌∙◌, ap, subst, ⊎_elim, arith}
use Rattle.std.proofs.lemmas.List.Elements.{All-nil, All-cons, All-weaker}
use Rattle.std.proofs.lemmas.Option.{none-some, same_Some}
use Rattle.regex_hir.specs.Looks.{holds}
use Rattle.regex_hir.specs.Re.{Trace}
use Rattle.regex_hir.specs.Meaning.{meaning}
use Rattle.regex_hir.proofs.OptionLemmas.{option_or_cases, write_cases}
use Rattle.regex_hir.proofs.AttemptLemmas.{cond_some, option_and_then_some}
use Rattle.regex_nfa.specs.States.{next_on, byte_below, read, visit}
use Rattle.regex_nfa.specs.Run.{state_of, measure, run}
use Rattle.regex_nfa.specs.declared.state.State.{State}
use Rattle.regex_nfa.specs.declared.state.State.TheVariants.{ByteRange, Sparse, Split, Save, Look, Match, Fail}
use Rattle.regex_nfa.specs.declared.nfa.Nfa.{Nfa}
use Rattle.regex_nfa.proofs.RunLemmas.{sound_of, next_on_within, byte_below_some, run_unfold, measure_falls_empty, measure_falls_byte, measure_induction}
use Rattle.regex.proofs.GroupLemmas.{HasRoom}
use Rattle.pattern_box.specs.declared.searcher.Searcher.{Searcher}
use Rattle.pattern_box.proofs.Found.{run_is_attempt}

module _ (nfa : Nfa) (hay : List ℕ) (stop : ℕ) where
  abbrev IsCounted : ℕ × ℕ → Type 0
  IsCounted w = w.0 < nfa.slot_count

  -- each way on from the state q at position i writes to slots that the automaton counts
  abbrev WritesCounted : ℕ → ℕ → Type 0
  WritesCounted q i = (t : Trace) → run nfa hay stop q i ≡ Some t → All IsCounted t.writes

  -- the same of each state and position that is nearer to the end
  abbrev LaterCounted : ℕ → ℕ → Type 0
  LaterCounted q i = (r j : ℕ) → measure nfa hay stop r j < measure nfa hay stop q i → WritesCounted r j

  after_byte : (q i : ℕ) (state : State) → state_of nfa q ≡ state → LaterCounted q i → (t : Trace) →
      read nfa.transitions.items hay stop (run nfa hay stop) state i ≡ Some t → All IsCounted t.writes
  after_byte q i state is later t e =
      let target = option_and_then_some _ _ t e in
      let byte = option_and_then_some (next_on nfa.transitions.items state) (byte_below hay stop i) target.0 target.1 in
      let goes : next_on nfa.transitions.items (state_of nfa q) byte.0 ≡ Some target.0 =
      ap (λ s. next_on nfa.transitions.items s byte.0) is ∙ byte.2 in
      later target.0 (i + 1)
      (measure_falls_byte nfa hay stop target.0 q i (byte_below_some hay stop i byte.0 byte.1).0 (next_on_within nfa q byte.0 target.0 goes))
      t target.2

  after_visit : (q i : ℕ) (state : State) → state_of nfa q ≡ state → LaterCounted q i → (t : Trace) →
      visit nfa.transitions.items hay stop (run nfa hay stop) state i ≡ Some t → All IsCounted t.writes
  after_visit q i (ByteRange x) is later t e = after_byte q i _ is later t e
  after_visit q i (Sparse from to) is later t e = after_byte q i _ is later t e
  after_visit q i (Split first second) is later t e =
      let sound = sound_of nfa q _ is in
      ⊎_elim
      (later first i (measure_falls_empty nfa hay stop first q i sound.0) t)
      (λ right. later second i (measure_falls_empty nfa hay stop second q i sound.1) t right.1)
      (option_or_cases _ _ t e)
  after_visit q i (Save slot next) is later t e =
      let sound = sound_of nfa q _ is in
      let wrote = write_cases slot i _ t e in
      subst (All IsCounted) (sym wrote.3)
      (All-cons IsCounted (slot, i) _ sound.0 (later next i (measure_falls_empty nfa hay stop next q i sound.1) wrote.0 wrote.1))
  after_visit q i (Look l next) is later t e =
      later next i (measure_falls_empty nfa hay stop next q i (sound_of nfa q _ is)) t (cond_some (holds l hay i) _ t e).1
  after_visit q i Match is later t e = subst (λ (u : Trace). All IsCounted u.writes) (same_Some _ t e) (All-nil _)
  after_visit q i Fail is later t e = absurd (none-some t e)

  run_counted : (q i : ℕ) → WritesCounted q i
  run_counted =
      measure_induction nfa hay stop WritesCounted
      (λ q i later t e. after_visit q i _ refl later t (sym (run_unfold nfa hay stop q i) ∙ e))

pub searcher_has_room : (s : Searcher) (width : ℕ) → s.dfa.nfa.slot_count ≡ width + 2 → HasRoom (meaning s.hir) width
searcher_has_room s width counts hay i t found =
    let nfa = s.dfa.nfa in
    All-weaker (λ (w : ℕ × ℕ). w.0 < nfa.slot_count) (λ w. w.0 < width + 2) (λ w h. omega arith) t.writes
    (run_counted nfa hay (length hay) nfa.start i t (run_is_attempt s hay i ∙ found))
