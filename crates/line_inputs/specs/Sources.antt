-- The sources of inputs side by side: what each holds, and what a poll and an event are of it (this project's rules for inputs).
use Rattle.std.specs.Prelude.{◌≡◌, ℕ, ℤ, Result, Ok, Err, IfOk, OnOk, OnErr, List, [], map, drop}
use Rattle.io_traits.specs.Counts.{HasCause}
use Rattle.io_traits.specs.declared.files.Files.{Ghosts as FilesWords}
use Rattle.io_traits.specs.declared.links.Links.{Ghosts as LinksWords}
use Rattle.io_traits.specs.declared.sources.Source.{Ghosts as SourceWords}
use Rattle.byte_lines.specs.Unread.{lines_left}
use Rattle.event_tree.specs.Events.{Ev}
use Rattle.in_file.specs.Streams.{Stream}
use Rattle.in_file.specs.Streams.{WasPolled as StreamPolled, got_of as stream_got}
use Rattle.in_lines.specs.Decoding.{event_by}
use Rattle.in_lines.specs.Polls.{received_at}
use Rattle.in_lines.specs.declared.poll_outcome.Got.{Got}
use Rattle.in_lines.specs.declared.poll_outcome.PollFault.{PollFault}
use Rattle.in_lines.specs.declared.poll_outcome.PollFault.TheVariants.{Fault}
use Rattle.in_tcp.specs.Inputs.{Tcp, lines_of}
use Rattle.in_tcp.specs.Inputs.{WasPolled as TcpPolled}
use Rattle.in_tcp.specs.Reads.{AllCame}
use Rattle.line_inputs.specs.Generating.{Generating}
use Rattle.line_inputs.specs.Generating.{events_held as generated_events, got_of as generated_got, polled as generator_polled}
use Rattle.line_inputs.specs.Rows.{Noted}
use Rattle.line_inputs.specs.Watching.{Watching, FirstHasRoom}
use Rattle.line_inputs.specs.Watching.{AssuredInPart as FilesAssured, assured as files_assured, passed_on as files_passed_on, with_row as files_with_row}
use Rattle.line_inputs.specs.Watching.{WasPolled as FilesPolled, events_held as watched_events, got_of as watched_got}
use Rattle.line_inputs.specs.declared.source.InputSource.{InputSource}
use Rattle.line_inputs.specs.declared.source.InputSource.TheVariants.{Stdin, Generated, Files, Connections}

abbrev pub stream_events : Stream → List Ev
stream_events s = map (event_by s.codec) (received_at s.moment (lines_left s.unread))

abbrev pub tcp_events : Tcp → List Ev
tcp_events t = map (λ r. event_by t.codec r.1) (lines_of t)

-- the events that a source holds, before the settings of its input; those of a generator have its own
abbrev pub events_held : InputSource → List Ev
events_held (Stdin s) = stream_events s
events_held (Generated g) = generated_events g
events_held (Files w) = watched_events w
events_held (Connections t) = tcp_events t

-- the connections of a source that are open
abbrev pub connections_of : InputSource → List ℕ
connections_of (Stdin s) = []
connections_of (Generated g) = []
connections_of (Files w) = []
connections_of (Connections t) = t.connections

module _ {I F L : Type 0} (stdin : SourceWords I) (files : FilesWords F) (links : LinksWords L) where
  -- its connections are those that came
  abbrev pub AreCame : InputSource → L → Type 0
  AreCame source l = AllCame (links.came l) (connections_of source)

  -- the outside, before a poll and behind it
  pub record Around : Type 0 where
    pub stdin_old : I
    pub stdin_new : I
    pub files_old : F
    pub files_new : F
    pub links_old : L
    pub links_new : L

  abbrev pub around : I → I → F → F → L → L → Around
  around stdin_old stdin_new files_old files_new links_old links_new =
      record { stdin_old = stdin_old; stdin_new = stdin_new; files_old = files_old; files_new = files_new; links_old = links_old; links_new = links_new }

  pub record StreamWas (moment : ℤ) (o : Around) (s : Stream) (after : InputSource) (result : Result Got PollFault) : Type 0 where
    pub left : Stream
    pub after_is : after ≡ Stdin left
    pub polled : OnOk result (StreamPolled stdin moment o.stdin_old o.stdin_new s left)
    pub got : IfOk result (λ got. got ≡ stream_got left)
    pub err : OnErr result (left ≡ s)
    pub cause : HasCause (stdin.faults o.stdin_old) (stdin.faults o.stdin_new) (result ≡ Err Fault)
    pub files_same : o.files_new ≡ o.files_old
    pub links_same : o.links_new ≡ o.links_old

  pub record GeneratedWas (moment : ℤ) (o : Around) (g : Generating) (after : InputSource) (result : Result Got PollFault) : Type 0 where
    pub after_is : after ≡ Generated (generator_polled moment g)
    pub got : result ≡ Ok (generated_got (generator_polled moment g))
    pub stdin_same : o.stdin_new ≡ o.stdin_old
    pub files_same : o.files_new ≡ o.files_old
    pub links_same : o.links_new ≡ o.links_old

  pub record FilesWere (moment : ℤ) (o : Around) (w : Watching) (after : InputSource) (result : Result Got PollFault) : Type 0 where
    pub left : Watching
    pub after_is : after ≡ Files left
    pub polled : OnOk result (FilesPolled files moment o.files_old o.files_new w left)
    pub got : IfOk result (λ got. got ≡ watched_got left)
    pub err : OnErr result (left ≡ w)
    pub cause : HasCause (files.faults o.files_old) (files.faults o.files_new) (result ≡ Err Fault)
    pub stdin_same : o.stdin_new ≡ o.stdin_old
    pub links_same : o.links_new ≡ o.links_old

  pub record ConnectionsWere (moment : ℤ) (o : Around) (t : Tcp) (after : InputSource) (result : Result Got PollFault) : Type 0 where
    pub left : Tcp
    pub after_is : after ≡ Connections left
    pub polled : TcpPolled links moment t left o.links_old o.links_new result
    pub stdin_same : o.stdin_new ≡ o.stdin_old
    pub files_same : o.files_new ≡ o.files_old

  -- a poll at a moment, by the source
  abbrev pub WasPolled : ℤ → Around → InputSource → InputSource → Result Got PollFault → Type 0
  WasPolled moment o (Stdin s) after result = StreamWas moment o s after result
  WasPolled moment o (Generated g) after result = GeneratedWas moment o g after result
  WasPolled moment o (Files w) after result = FilesWere moment o w after result
  WasPolled moment o (Connections t) after result = ConnectionsWere moment o t after result

-- there is room for the row of the event that is handed on next, or on last
abbrev pub NextHasRoom : InputSource → Type 0
NextHasRoom (Stdin s) = Unit {0}
NextHasRoom (Generated g) = Unit {0}
NextHasRoom (Files w) = FirstHasRoom (drop w.at w.files)
NextHasRoom (Connections t) = Unit {0}

abbrev pub LastHasRoom : InputSource → Type 0
LastHasRoom (Stdin s) = Unit {0}
LastHasRoom (Generated g) = Unit {0}
LastHasRoom (Files w) = FirstHasRoom (drop w.given_at w.files)
LastHasRoom (Connections t) = Unit {0}

-- the watched files of a source
abbrev pub files_of : InputSource → List Noted
files_of (Stdin s) = []
files_of (Generated g) = []
files_of (Files w) = w.files
files_of (Connections t) = []

-- an event is handed on, and the row that it became is noted, where it is of a watched file
abbrev pub passed_on : InputSource → InputSource
passed_on (Stdin s) = Stdin s
passed_on (Generated g) = Generated g
passed_on (Files w) = Files (files_passed_on w)
passed_on (Connections t) = Connections t

abbrev pub with_row : ℕ → InputSource → InputSource
with_row number (Stdin s) = Stdin s
with_row number (Generated g) = Generated g
with_row number (Files w) = Files (files_with_row number w)
with_row number (Connections t) = Connections t

-- the positions that the rows up to a front reach are recorded, and these rows are forgotten
abbrev pub assured : ℕ → InputSource → InputSource
assured front (Stdin s) = Stdin s
assured front (Generated g) = Generated g
assured front (Files w) = Files (files_assured front w)
assured front (Connections t) = Connections t

abbrev pub AssuredInPart : ℕ → InputSource → InputSource → Type 0
AssuredInPart front (Stdin s) after = after ≡ Stdin s
AssuredInPart front (Generated g) after = after ≡ Generated g
AssuredInPart front (Files w) after = (left : Watching) × FilesAssured front w left × (after ≡ Files left)
AssuredInPart front (Connections t) after = after ≡ Connections t
