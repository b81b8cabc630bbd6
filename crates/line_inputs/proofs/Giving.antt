-- What a source gives is the first of the events that it holds.
use Rattle.std.proofs.Common.{◌≡◌, ◌↔◌, Option, Some, None, Result, Ok, Err, IfOk, IsErr, false, Bool, List, [], ◌∷◌, ◌++◌, map, refl, sym, ap, ap₂, ◌∙◌}
use Rattle.std.specs.Option.{option_to_list}
use Rattle.std.specs.declared.alloc.AllocError.{AllocError}
use Rattle.std.proofs.lemmas.List.{map-append}
use Rattle.byte_lines.specs.Unread.{lines_left}
use Rattle.event_tree.specs.Events.{Ev}
use Rattle.in_file.specs.Streams.{Gave, Stream}
use Rattle.in_lines.specs.Decoding.{event_by}
use Rattle.in_lines.specs.Polls.{received_at}
use Rattle.in_tcp.specs.Inputs.{GaveNext, Tcp, lines_of}
use Rattle.line_inputs.specs.Sources.{stream_events, tcp_events}

-- of a stream
pub stream_next : (e : Option Ev) (s left : Stream) → Gave e s left → stream_events s ≡ option_to_list e ++ stream_events left
stream_next None s left gave = ap stream_events (sym gave.1)
stream_next (Some event) s left gave =
    ap (λ l. map (event_by s.codec) (received_at s.moment l)) gave.first
    ∙ ap₂ (λ x xs. x ∷ xs) (sym gave.event_is) (ap (λ (v : Stream). map (event_by v.codec) (received_at v.moment (lines_left left.unread))) (sym gave.after_is))

-- of connections
pub tcp_next : (t left : Tcp) (result : Result (Option Ev) AllocError) → GaveNext t left result → IfOk result (λ e. tcp_events t ≡ option_to_list e ++ tcp_events left)
tcp_next t left (Ok e) gave =
    ap (map (λ r. event_by t.codec r.1)) gave.lines ∙ map-append (λ r. event_by t.codec r.1) gave.given (lines_of left)
    ∙ ap₂ (λ xs c. xs ++ map (λ r. event_by c r.1) (lines_of left)) (sym gave.events) (sym gave.stays.codec)
tcp_next t left (Err f) gave = tt

pub tcp_failed : (t left : Tcp) (result : Result (Option Ev) AllocError) → GaveNext t left result → IsErr result → tcp_events left ≡ tcp_events t
tcp_failed t left result gave failed =
    ap₂ (λ ls c. map (λ r. event_by c r.1) ls) (sym (gave.lines ∙ ap (λ l. l ++ lines_of left) (gave.err failed))) gave.stays.codec

none_mapped : {A B : Type 0} (f : A → B) (xs : List A) → map f xs ≡ [] → xs ≡ []
none_mapped f [] is = refl
none_mapped f (x ∷ xs) is = absurd cc

pub tcp_holds : (t : Tcp) (some : Bool) → ((some ≡ false) ↔ (lines_of t ≡ [])) → (some ≡ false) ↔ (tcp_events t ≡ [])
tcp_holds t some says = (λ no. ap (map (λ r. event_by t.codec r.1)) (says.0 no), λ none. says.1 (none_mapped _ (lines_of t) none))
