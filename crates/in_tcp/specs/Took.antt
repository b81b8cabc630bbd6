-- What the reads of a poll do to what is held.
use Rattle.std.specs.Prelude.{◌≡◌, ℕ, ℤ, Bool, true, false, not, Result, IfOk, IsOk, List, [], ◌∷◌, ◌++◌}
use Rattle.std.specs.declared.alloc.AllocError.{AllocError}
use Rattle.io_traits.specs.Connections.{KeepsLooks}
use Rattle.io_traits.specs.declared.links.Links.{Ghosts as LinksWords}
use Rattle.in_lines.specs.Sources.{made_from, lefts_after}
use Rattle.in_tcp.specs.Held.{lefts_in, lines_in}
use Rattle.in_tcp.specs.Lines.{line_limit}
use Rattle.in_tcp.specs.Reads.{AreRead, ReadOf, left_open, looks_by, numbers}
use Rattle.in_tcp.specs.declared.polling.Connected.{Connected}

abbrev pub is_none : {X : Type 0} → List X → Bool
is_none [] = true
is_none (x ∷ xs) = false

module _ {L : Type 0} (links : LinksWords L) where
  -- Open connections were read at a moment, in their order, but for the last of them where memory ran out; and the answer says whether a line is held.
  pub record Took (moment : ℤ) (old new : Connected) (links_old links_new : L) (result : Result Bool AllocError) : Type 0 where
    pub reads : List ReadOf
    pub unread : List ℕ
    pub order : old.connections.items ≡ numbers reads ++ unread
    pub whole : IsOk result → unread ≡ []
    pub still : new.connections.items ≡ left_open reads ++ unread
    pub read : AreRead links links_old links_new reads
    pub keeps : KeepsLooks links.looks links.came links.coming links.accept_faults links.accept_waits links_old links_new
    pub lines : lines_in new.held.rests new.held.pieces ≡ lines_in old.held.rests old.held.pieces ++ made_from line_limit (lefts_in old.held.rests old.held.pieces) (looks_by moment reads)
    pub lefts : (n : ℕ) → lefts_in new.held.rests new.held.pieces n ≡ lefts_after line_limit (lefts_in old.held.rests old.held.pieces) (looks_by moment reads) n
    pub held : IfOk result (λ held. held ≡ not (is_none (lines_in new.held.rests new.held.pieces)))
