use Rattle.std.proofs.lemmas.List.{length-map}
use Rattle.std.proofs.Common.{[], length, map, refl, sym, ap, ap₂, subst, ◌∙◌}
use Rattle.foreign_parts.specs.declared.boxes.BoxKind.TheVariants as kind
use Rattle.foreign_parts.specs.Stocks.{IsOut}
use Rattle.plugin_graph.specs.Graphs.{contents_of}
use Rattle.graph_checks.specs.Drawings.{AllDrawn}
use Rattle.graph_checks.specs.Drawns.{boxes_of}
use Rattle.graph_checks.specs.Linked.{all_taken, links_there}
use Rattle.graph_checks.specs.Numbering.{draws_behind}
use Rattle.graph_checks.specs.Wants.{AreLeft, names_of, so_often}
use Rattle.graph_checks.specs.Whole.{given_by}
use Rattle.graph_checks.proofs.Configured.{checked_reads}
use Rattle.graph_checks.proofs.Numbers.{drawn_as, nothing_drawn}
use Rattle.graph_checks.proofs.Planning.{enough, still_kits}
use Rattle.graph_checks.proofs.Turning.{drawn_before}
use Rattle.graph_checks.proofs.compiling.compile.Goals as goal

pub prepare-requires-clause-read : goal.prepare-requires-clause-read
prepare-requires-clause-read g c =
    let given = given_by g.B.Boxes.stand g.B.Boxes.links c.args.rack.now c.args.workers in
    checked_reads given c.args.config c.in_ok-wants.ensures.fault

pub draw_into-filters-requires-clause-filters : goal.draw_into-filters-requires-clause-filters
draw_into-filters-requires-clause-filters g c =
    let e = c.in_ok-wants.ensures in
    subst (λ ws. AreLeft (names_of ws) (g.B.Boxes.stand c.find_wants.new.boxes kind.Filter).stocks) (sym c.in_ok-ready.ensures.filters_wanted)
    (subst (λ st. AreLeft (names_of (so_often c.args.workers c.in_ok-wants.wants.filters)) st.stocks) (sym (e.keeps.stands kind.Filter)) e.wants.filters_left)

pub draw_into-filters-requires-clause-outputs : goal.draw_into-filters-requires-clause-outputs
draw_into-filters-requires-clause-outputs g c =
    let e = c.in_ok-wants.ensures in
    subst (λ ws. AreLeft (names_of ws) (g.B.Boxes.stand c.find_wants.new.boxes kind.Output).stocks) (sym c.in_ok-ready.ensures.outputs_wanted)
    (subst (λ st. AreLeft (names_of c.in_ok-wants.wants.outputs) st.stocks) (sym (e.keeps.stands kind.Output)) e.wants.outputs_left)

pub hand_out-requires-clause-enough : goal.hand_out-requires-clause-enough
hand_out-requires-clause-enough g c =
    let given = given_by g.B.Boxes.stand g.B.Boxes.links c.args.rack.now c.args.workers in
    let e = c.in_ok-wants.ensures in
    let r = c.in_ok-ready.ensures in
    let boxes = c.draw_into-filters.result.filters.items in
    enough c.in_ok-ready.ready.draws c.args.config c.args.workers (length boxes) c.in_ok-wants.wants.filters c.in_ok-ready.ready.kits.items
    (checked_reads given c.args.config e.fault) r.kits r.workers_are (sym (length-map boxes (λ d. d.want)) ∙ ap length (c.draw_into-filters.ensures.filters ∙ r.filters_wanted)) e.wants.filters

pub returns-clause-plan : goal.returns-clause-plan
returns-clause-plan g c =
    let e = c.in_ok-wants.ensures in
    let r = c.in_ok-ready.ensures in
    let d = c.draw_into-filters.ensures in
    let h = c.hand_out.ensures in
    let kits = c.in_ok-ready.ready.kits.items in
    let news = c.hand_out.new.kits.items in
    let outputs = c.draw_into-filters.result.outputs.items in
    let ss = (g.B.Boxes.stand c.find_wants.new.boxes kind.Output).stocks in
    let rack = c.draw_into-filters.new.rack in
    record {
      config_is = refl;
      graph = r.graph;
      inputs = r.inputs;
      outgoing = r.outgoing;
      workers_are = sym (length-map news contents_of) ∙ ap length h.contents ∙ length-map kits contents_of ∙ r.workers_are;
      kits = still_kits c.in_ok-ready.ready.draws c.args.config kits news h.contents h.built r.kits;
      boxes = h.filled;
      filters = ap (map (λ x. x.want)) h.boxes ∙ d.filters ∙ r.filters_wanted ∙ ap (so_often c.args.workers) e.wants.filters;
      outputs = d.outputs ∙ r.outputs_wanted ∙ e.wants.outputs;
      draws = r.draws ∙ ap (λ ws. draws_behind [] ws ss) (sym (d.outputs ∙ r.outputs_wanted)) ∙ drawn_as g.B.BoxPool.output_number (λ xs n. IsOut (g.B.BoxPool.given rack) (g.B.Boxes.stand rack kind.Filter).stocks xs n) [] outputs ss ss (g.B.Boxes.stand rack kind.Output).stocks (nothing_drawn ss) d.drawn.of_outputs;
    }

pub returns-clause-drawn : goal.returns-clause-drawn
returns-clause-drawn g c =
    let e = c.in_ok-wants.ensures in
    let d = c.draw_into-filters in
    let number = g.B.BoxPool.filter_number in
    let outputs = boxes_of g.B.BoxPool.output_number d.result.outputs.items in
    subst (λ bs. AllDrawn (g.B.BoxPool.given d.new.rack) (boxes_of number bs) outputs (g.B.Boxes.stand c.args.rack.now kind.Filter).stocks (g.B.Boxes.stand c.args.rack.now kind.Output).stocks (g.B.Boxes.stand d.new.rack kind.Filter).stocks (g.B.Boxes.stand d.new.rack kind.Output).stocks)
    (sym c.hand_out.ensures.boxes)
    (drawn_before (boxes_of number d.result.filters.items) outputs (ap (λ st. st.stocks) (e.keeps.stands kind.Filter)) (ap (λ st. st.stocks) (e.keeps.stands kind.Output)) d.ensures.drawn)

pub returns-clause-links : goal.returns-clause-links
returns-clause-links g c =
    c.draw_into-filters.ensures.links ∙ ap₂ links_there (c.in_ok-ready.ensures.links_wanted ∙ c.in_ok-wants.ensures.wants.links) c.in_ok-wants.ensures.keeps.links_stand

pub returns-clause-taken : goal.returns-clause-taken
returns-clause-taken g c =
    c.draw_into-filters.ensures.taken ∙ ap₂ all_taken (c.in_ok-ready.ensures.links_wanted ∙ c.in_ok-wants.ensures.wants.links) c.in_ok-wants.ensures.keeps.links_stand
