-- Bytes that are added one part after another.
use Rattle.std.proofs.Common.{◌≡◌, ℕ, List, ◌++◌, refl, sym, ap, ◌∙◌, append_assoc}
use Rattle.event_tree.specs.Adds.{Adds, Keeps}

pub adds_on : (one two whole old mid new : List ℕ) → whole ≡ one ++ two → Adds one old mid → Adds two mid new → Adds whole old new
adds_on one two whole old mid new e h k = k ∙ ap (λ l. l ++ two) h ∙ append_assoc old one two ∙ ap (λ l. old ++ l) (sym e)

pub keeps_on : (old mid new : List ℕ) → Keeps old mid → Keeps mid new → Keeps old new
keeps_on old mid new h k = (h.0 ++ k.0, adds_on h.0 k.0 (h.0 ++ k.0) old mid new refl h.1 k.1)
