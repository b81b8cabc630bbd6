-- What is sent, parted by a target one by one.
use Rattle.std.proofs.Common.{◌≡◌, List, [], ◌∷◌, ◌++◌, Bool, true, false, if◌then◌else◌, sym, ap, ◌∙◌, append_assoc, append-nil}
use Rattle.built_plugins.specs.declared.output.Target.{Target}
use Rattle.plugin_graph.specs.declared.passage.Sent.{Sent}
use Rattle.line_jobs.specs.Deliveries.{events_to, goes_to, parted, sent_elsewhere, with_sent}
use Rattle.line_jobs.specs.declared.sorting.PartedSent.{PartedSent}

module _ (t : Target) where
  -- what was parted so far, with all that is sent behind it
  abbrev pub with_all : List Sent → PartedSent → PartedSent
  with_all sent p = record { events = p.events ++ events_to t sent; others = p.others ++ sent_elsewhere t sent }

  pub none_left : (p : PartedSent) → with_all [] p ≡ p
  none_left p = λ i. record { events = append-nil p.events i; others = append-nil p.others i }

  one_more : (s : Sent) (rest : List Sent) (p : PartedSent) → with_all rest (with_sent t s p) ≡ with_all (s ∷ rest) p
  one_more s rest p = by (goes_to t s)
    where
      by : (b : Bool) → with_all rest (if b then record { events = p.events ++ (s.event ∷ []); others = p.others } else record { events = p.events; others = p.others ++ (s ∷ []) })
          ≡ record { events = p.events ++ (if b then s.event ∷ events_to t rest else events_to t rest); others = p.others ++ (if b then sent_elsewhere t rest else s ∷ sent_elsewhere t rest) }
      by true = λ i. record { events = append_assoc p.events (s.event ∷ []) (events_to t rest) i; others = p.others ++ sent_elsewhere t rest }
      by false = λ i. record { events = p.events ++ events_to t rest; others = append_assoc p.others (s ∷ []) (sent_elsewhere t rest) i }

  -- what was parted so far, and what is left, is all
  module _ (all left : List Sent) (now : PartedSent) (so_far : with_all left now ≡ parted t all) where
    pub next_sent : (rest : List Sent) (s : Sent) (new : PartedSent) → left ≡ s ∷ rest → new ≡ with_sent t s now → with_all rest new ≡ parted t all
    next_sent rest s new is here = ap (with_all rest) here ∙ one_more s rest now ∙ ap (λ xs. with_all xs now) (sym is) ∙ so_far

    pub last_sent : left ≡ [] → now ≡ parted t all
    last_sent none = sym (none_left now) ∙ ap (λ xs. with_all xs now) (sym none) ∙ so_far
