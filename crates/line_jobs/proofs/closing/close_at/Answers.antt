use Rattle.plugin_graph.specs.Graphs.{boxes_in}
use Rattle.line_jobs.proofs.OnceMore.{one_closed, same_told}
use Rattle.line_jobs.proofs.closing.close_at.Goals as goal

pub returns-clause-numbers : goal.returns-clause-numbers
returns-clause-numbers g c =
    let out = c.replace_box-plugged.ensures in
    same_told g.F.Close.number (boxes_in c.args.kit.now) (boxes_in c.replace_box-plugged.new.self) (boxes_in c.replace_box.new.self) c.args.at
    c.replace_box-plugged.result c.close_box.result out.out out.boxes c.replace_box.ensures.boxes c.close_box.ensures.number

pub returns-clause-closed : goal.returns-clause-closed
returns-clause-closed g c =
    let out = c.replace_box-plugged.ensures in
    one_closed g.F.Close.closes (boxes_in c.args.kit.now) (boxes_in c.replace_box-plugged.new.self) (boxes_in c.replace_box.new.self) c.args.at
    c.replace_box-plugged.result c.close_box.result out.out out.boxes c.replace_box.ensures.boxes c.close_box.ensures.closes
