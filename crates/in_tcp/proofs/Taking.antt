-- What the reads of a poll add to what is held.
use Rattle.std.proofs.Common.{◌≡◌, ℕ, ℤ, Bool, true, false, not, List, [], ◌∷◌, ◌++◌, Option, Some, None, Result, Err, drop, refl, sym, ap, ◌∙◌, subst, append_assoc}
use Rattle.std.specs.Prelude.{IfNone, IfOk, IfSome, IsOk, is_some}
use Rattle.std.specs.declared.alloc.AllocError.{AllocError}
use Rattle.std.proofs.lemmas.Bool.{false≢true}
use Rattle.io_traits.specs.declared.links.Links.{Ghosts as LinksWords}
use Rattle.in_lines.specs.Sources.{Look, from_source, left_after, lefts_after, made_by, made_from}
use Rattle.in_lines.specs.Polls.{received_at}
use Rattle.in_tcp.specs.Held.{IsNext, SameLines, lefts_in, lines_in}
use Rattle.in_tcp.specs.Lines.{Part, line_limit}
use Rattle.in_tcp.specs.Pieces.{front_bytes}
use Rattle.in_tcp.specs.Reads.{ReadEach, looks_by}
use Rattle.in_tcp.specs.Rests.{bytes_of}
use Rattle.in_tcp.specs.Took.{Took, is_none}
use Rattle.in_tcp.specs.declared.receive_buffer.ReceiveBuffer.{ReceiveBuffer}
use Rattle.in_tcp.specs.declared.receive_buffer.NextLine.{NextLine}
use Rattle.in_tcp.specs.declared.polling.Connected.{Connected}
use Rattle.in_tcp.proofs.Holding.{first_in, held_piece, held_rest, whole_in}

pub made_append : (lefts : ℕ → List ℕ) (xs ys : List Look) → made_from line_limit lefts (xs ++ ys) ≡ made_from line_limit lefts xs ++ made_from line_limit (lefts_after line_limit lefts xs) ys
made_append lefts [] ys = refl
made_append lefts (x ∷ xs) ys =
    let first = from_source x.0 (received_at x.1.moment (made_by line_limit (lefts x.0) x.1.piece)) in
    ap (λ t. first ++ t) (made_append (left_after line_limit lefts x) xs ys) ∙ sym (append_assoc first (made_from line_limit (left_after line_limit lefts x) xs) (made_from line_limit (lefts_after line_limit (left_after line_limit lefts x) xs) ys))

lefts_append : (lefts : ℕ → List ℕ) (xs ys : List Look) (n : ℕ) → lefts_after line_limit lefts (xs ++ ys) n ≡ lefts_after line_limit (lefts_after line_limit lefts xs) ys n
lefts_append lefts [] ys n = refl
lefts_append lefts (x ∷ xs) ys n = lefts_append (left_after line_limit lefts x) xs ys n

-- where there is a next line one is held
some_first : {X : Type 0} (xs ys : List X) (x : X) → xs ≡ x ∷ ys → is_none xs ≡ false
some_first xs ys x is = ap is_none is

next_some : (h : ReceiveBuffer) (next : NextLine) → IsNext h next → is_none (lines_in h.rests h.pieces) ≡ false
next_some h next is = by next.in_rest refl
  where
    by : (b : Bool) → next.in_rest ≡ b → is_none (lines_in h.rests h.pieces) ≡ false
    by true there =
        let conn = next.mark.conn in
        let new : List Part = record { conn = conn; bytes = drop next.taken (bytes_of h.rests conn) } ∷ h.rests in
        ap is_none (held_rest h.rests new h.pieces next is.front (λ n. refl) (first_in next (bytes_of h.rests conn) (front_bytes h.pieces) there is.first)).0
    by false there = ap is_none (held_piece h.rests h.pieces next is.front (is.none_left there) (whole_in next (bytes_of h.rests next.mark.conn) (front_bytes h.pieces) there is.first)).0

pub held_by : (h : ReceiveBuffer) (r : Option NextLine) → IfSome r (λ n. IsNext h n) → IfNone r (h.pieces ≡ []) → is_some r ≡ not (is_none (lines_in h.rests h.pieces))
held_by h (Some next) some none = ap not (sym (next_some h next some))
held_by h None some none = ap not (sym (ap (λ l. is_none (lines_in h.rests l)) none))

module _ {L : Type 0} (links : LinksWords L) where
  pub took_by : (moment : ℤ) (old mid new : Connected) (links_old links_new : L) (all : Type 0) (result : Result Bool AllocError) → ReadEach links moment old.connections.items mid.connections.items old.held.pieces mid.held.pieces links_old links_new all → mid.held.rests ≡ old.held.rests
      → new.connections.items ≡ mid.connections.items → SameLines mid.held new.held → (IsOk result → all) → IfOk result (λ held. held ≡ not (is_none (lines_in new.held.rests new.held.pieces))) → Took links moment old new links_old links_new result
  took_by moment old mid new links_old links_new all result r rests connections same ok held =
      let more = looks_by moment r.reads in record {
        reads = r.reads;
        unread = r.unread;
        order = r.order;
        whole = λ is. r.whole (ok is);
        still = connections ∙ r.still;
        read = r.read;
        keeps = r.keeps;
        lines = same.lines ∙ ap (λ p. lines_in p mid.held.pieces) rests ∙ ap (lines_in old.held.rests) r.looks ∙ made_append (bytes_of old.held.rests) old.held.pieces more;
        lefts = λ n. same.lefts n ∙ ap (λ p. lefts_in p mid.held.pieces n) rests ∙ ap (λ l. lefts_in old.held.rests l n) r.looks ∙ lefts_append (bytes_of old.held.rests) old.held.pieces more n;
        held = held;
      }

  -- memory ran out
  pub took_short : (moment : ℤ) (old mid new : Connected) (links_old links_new : L) (all : Type 0) (result : Result Bool AllocError) (y : AllocError) → result ≡ Err y → ReadEach links moment old.connections.items mid.connections.items old.held.pieces mid.held.pieces links_old links_new all → mid.held.rests ≡ old.held.rests
      → new.connections.items ≡ mid.connections.items → SameLines mid.held new.held → Took links moment old new links_old links_new result
  took_short moment old mid new links_old links_new all result y is r rests connections same =
      subst (Took links moment old new links_old links_new) (sym is) (took_by moment old mid new links_old links_new all (Err y) r rests connections same (λ ok. absurd (false≢true ok)) tt)

pub same_held : (h : ReceiveBuffer) → SameLines h h
same_held h = record { lines = refl; lefts = λ n. refl }
