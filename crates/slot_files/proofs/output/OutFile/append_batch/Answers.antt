use Rattle.std.proofs.Common.{◌≡◌, ◌+◌, ◌≤◌, IsTrue, length, sym, ap, ◌∙◌, subst, arith}
use Rattle.io_traits.specs.Reads.{file_length}
use Rattle.crc_frame.specs.Slots.{place_of, next_turn}
use Rattle.slot_files.specs.Views.{Output}
use Rattle.slot_files.specs.Outputs.{IsAppended, IsReady}
use Rattle.slot_files.proofs.BatchRun.{Appends, HasLeft, Records, WasAppended, WasRecorded, appended, left_appending, left_recording, room}
use Rattle.slot_files.proofs.output.OutFile.append_batch.Goals as goal
use Rattle.slot_files.proofs.output.OutFile.append_batch.Goals.{After-append_settled, After-as_str-2, After-record_position}

-- what each call told, of the files of the output
appends : (g : _) (c : goal.After-append_settled g) → Appends g.S.Store c.args.store.now c.append_settled.new.store c.args.self.now.path
appends g c =
    subst (Appends g.S.Store c.args.store.now c.append_settled.new.store) (c.as_str.ensures ∙ ap (λ (o : Output). o.path) c.self.view_is)
    (record { moments = c.append_settled.ensures.any_moment; beside = c.append_settled.ensures.beside })

was_appended : (g : _) (c : goal.After-as_str-2 g) → WasAppended g.S.Store c.args.bytes.now c.args.store.now c.append_settled.new.store c.args.self.now.path
was_appended g c =
    subst (WasAppended g.S.Store c.args.bytes.now c.args.store.now c.append_settled.new.store) (c.as_str.ensures ∙ ap (λ (o : Output). o.path) c.self.view_is)
    (record {
      appends = record { moments = c.append_settled.ensures.any_moment; beside = c.append_settled.ensures.beside };
      settled = c.in_ok-append_settled.ensures.settled;
      fits = c.in_ok-append_settled.ensures.fits;
    })

records : (g : _) (c : goal.After-record_position g)
    → Records g.S.Store (next_turn c.args.self.now.turn) c.saturating_add-position.result c.append_settled.new.store c.record_position.new.store c.args.self.now.slot
records g c =
    subst (λ (o : Output). Records g.S.Store (next_turn o.turn) c.saturating_add-position.result c.append_settled.new.store c.record_position.new.store o.slot) c.self.view_is
    (subst (Records g.S.Store (next_turn c.self.inside.turn) c.saturating_add-position.result c.append_settled.new.store c.record_position.new.store) c.as_str-2.ensures
    (record { moments = c.record_position.ensures.any_moment; beside = c.record_position.ensures.beside }))

-- the position that is recorded is the end of the file
exact : (g : _) (c : goal.After-as_str-2 g) → IsReady g.S.Store c.args.self.now c.args.store.now → IsTrue g.S.Store.tells → c.saturating_add-position.result ≡ c.args.self.now.position + length c.args.bytes.now
exact g c ready told = omega (arith, (was_appended g c).fits told, ready.ends told, ap (λ (o : Output). o.position) c.self.view_is, c.saturating_add-position.ensures)

-- what is left at each exit
left_first : (g : _) (c : goal.After-append_settled g) → HasLeft g.S.Store c.args.self.now c.args.bytes.now c.args.store.now c.append_settled.new.store
left_first g c = left_appending g.S.Store g.met.S.Store.images_tell c.args.self.now c.args.bytes.now c.args.store.now c.append_settled.new.store (appends g c)

left_second : (g : _) (c : goal.After-as_str-2 g) (new : _) → Records g.S.Store (next_turn c.args.self.now.turn) c.saturating_add-position.result c.append_settled.new.store new c.args.self.now.slot
    → HasLeft g.S.Store c.args.self.now c.args.bytes.now c.args.store.now new
left_second g c new r =
    left_recording g.S.Store g.met.S.Store.images_tell c.args.self.now c.args.bytes.now c.args.store.now c.append_settled.new.store (was_appended g c) c.saturating_add-position.result (exact g c) new r

pub record_position-requires : goal.record_position-requires
record_position-requires g c = λ told.
    let out = c.args.self.now in
    let a = was_appended g (goal.at.record_position-requires g c).After-as_str-2 in
    let turn = ap (λ (o : Output). next_turn o.turn) c.self.view_is in
    let slot = c.as_str-2.ensures ∙ ap (λ (o : Output). o.slot) c.self.view_is in
    let before = subst (λ t. place_of 24 t ≤ file_length (g.S.Store.seen c.args.store.now out.slot)) (sym turn) (c.requires told) in
    subst (λ n. place_of 24 (next_turn c.self.inside.turn) ≤ file_length (g.S.Store.seen c.append_settled.new.store n)) (sym slot)
    (room g.S.Store g.met.S.Store.images_tell out c.args.bytes.now c.args.store.now c.append_settled.new.store a (place_of 24 (next_turn c.self.inside.turn)) told before)

pub returns-in_err-append_settled-clause-any_moment : goal.returns-in_err-append_settled-clause-any_moment
returns-in_err-append_settled-clause-any_moment g c = (left_first g (goal.at.returns-in_err-append_settled-clause-any_moment g c).After-append_settled).any_moment

pub returns-in_err-append_settled-clause-beside : goal.returns-in_err-append_settled-clause-beside
returns-in_err-append_settled-clause-beside g c = (left_first g (goal.at.returns-in_err-append_settled-clause-beside g c).After-append_settled).beside

pub returns-in_err-record_position-clause-any_moment : goal.returns-in_err-record_position-clause-any_moment
returns-in_err-record_position-clause-any_moment g c = let at = goal.at.returns-in_err-record_position-clause-any_moment g c in (left_second g at.After-as_str-2 c.record_position.new.store (records g at.After-record_position)).any_moment

pub returns-in_err-record_position-clause-beside : goal.returns-in_err-record_position-clause-beside
returns-in_err-record_position-clause-beside g c = let at = goal.at.returns-in_err-record_position-clause-beside g c in (left_second g at.After-as_str-2 c.record_position.new.store (records g at.After-record_position)).beside

pub returns-clause-any_moment : goal.returns-clause-any_moment
returns-clause-any_moment g c = let at = goal.at.returns-clause-any_moment g c in (left_second g at.After-as_str-2 c.record_position.new.store (records g at.After-record_position)).any_moment

pub returns-clause-beside : goal.returns-clause-beside
returns-clause-beside g c = let at = goal.at.returns-clause-beside g c in (left_second g at.After-as_str-2 c.record_position.new.store (records g at.After-record_position)).beside

pub returns-clause-appended : goal.returns-clause-appended
returns-clause-appended g c = λ ready.
    let at = goal.at.returns-clause-appended g c in
    let out = c.args.self.now in
    let position = c.saturating_add-position.result in
    let recorded = subst (λ (o : Output). WasRecorded g.S.Store (next_turn o.turn) position c.append_settled.new.store c.record_position.new.store o.slot) c.self.view_is
    (subst (WasRecorded g.S.Store (next_turn c.self.inside.turn) position c.append_settled.new.store c.record_position.new.store) c.as_str-2.ensures
    (record {
      recording = record { moments = c.record_position.ensures.any_moment; beside = c.record_position.ensures.beside };
      rests = c.in_ok-record_position.ensures.settled;
      records = c.in_ok-record_position.ensures.records;
    })) in
    subst (λ grown. IsAppended g.S.Store out c.args.bytes.now c.args.store.now grown c.record_position.new.store)
    (sym (ap (λ (o : Output). record { path = o.path; slot = o.slot; position = position; turn = next_turn o.turn }) c.self.view_is))
    (appended g.S.Store g.met.S.Store.images_tell out c.args.bytes.now c.args.store.now c.append_settled.new.store ready (was_appended g at.After-as_str-2) position (exact g at.After-as_str-2 ready)
    c.record_position.new.store recorded)
