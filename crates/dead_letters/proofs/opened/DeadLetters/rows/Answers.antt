use Rattle.std.proofs.Common.{length, sym, ap, subst, arith}
use Rattle.dead_letters.specs.Found.{fronts_from}
use Rattle.dead_letters.specs.Rows.{Answers, rows_from, rows_of}
use Rattle.dead_letters.specs.Ready.{IsReady, held_now}
use Rattle.dead_letters.specs.Views.{DeadQueue}
use Rattle.dead_letters.proofs.Joining.{view}
use Rattle.dead_letters.proofs.Turns.{fronts_are}
use Rattle.dead_letters.proofs.opened.DeadLetters.rows.Goals as goal

pub read_rows-requires : goal.read_rows-requires
read_rows-requires g c =
    let ready = subst (λ q. IsReady g.S.Store q c.args.store.now) (sym c.self.view_is) c.requires.ready in
    omega (arith, ready.numbers, ap length c.as_slice-sizes.ensures)

pub returns-clause-rows : goal.returns-clause-rows
returns-clause-rows g c told =
    let old = g.S.Store.seen c.args.store.now in
    let q = view c.self.inside in
    let ready = subst (λ q. IsReady g.S.Store q c.args.store.now) (sym c.self.view_is) c.requires.ready in
    let by_folder = subst (λ f. Answers c.read_rows.result (rows_from f q.first (fronts_from f old q.first c.as_slice-sizes.result.now))) c.as_str.ensures (c.read_rows.ensures.rows told) in
    let by_sizes = subst (λ l. Answers c.read_rows.result (rows_from q.folder q.first (fronts_from q.folder old q.first l))) c.as_slice-sizes.ensures by_folder in
    let by_files = subst (λ l. Answers c.read_rows.result (rows_from q.folder q.first l)) (fronts_are q.folder old q.first q.sizes (ready.said told).sizes) by_sizes in
    subst (λ (s : DeadQueue). Answers c.read_rows.result (rows_of s.folder (held_now s old))) c.self.view_is by_files
