use Rattle.std.proofs.Common.{sym, subst}
use Rattle.in_file.specs.Positions.{IsReady}
use Rattle.in_file.proofs.Staying.{has_room}
use Rattle.line_inputs.specs.Rows.{Noted}
use Rattle.line_inputs.proofs.Recording.{stands_still}
use Rattle.line_inputs.proofs.watched_file.WatchedFile.record_place.Goals as goal

pub returns-then-place-position-clause-any_moment : goal.returns-then-place-position-clause-any_moment
returns-then-place-position-clause-any_moment g c = stands_still g.S.Store c.args.self.now.watched c.args.store.now c.requires c.args.place

pub assure-requires : goal.assure-requires
assure-requires g c = λ told. has_room g.S.Store c.self.inside.input c.args.store.now (subst (λ (n : Noted). IsReady g.S.Store n.watched c.args.store.now) (sym c.self.view_is) c.requires) told
