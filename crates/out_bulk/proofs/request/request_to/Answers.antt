use Rattle.std.proofs.Common.{◌∙◌, sym, ap, ◌++◌, length}
use Rattle.out_bulk.proofs.RequestRuns.{whole}
use Rattle.out_bulk.proofs.request.request_to.Goals as goal

pub returns : goal.returns
returns c =
    let added = c.in_ok-extend_from_slice.ensures.items ∙ ap (λ t. c.add_head.new.to.items ++ t) c.deref.ensures.value in
    record {
      bytes = whole _ _ _ _ _ _ _ _ _ c.in_ok-body.ensures.items c.in_ok-count.ensures.lines c.in_ok-bytes.ensures.items (c.len-2.ensures ∙ sym c.deref.ensures.len ∙ ap length c.deref.ensures.value) c.host_of.ensures c.in_ok-add_head.ensures added;
      count = c.in_ok-count.ensures.count;
    }
