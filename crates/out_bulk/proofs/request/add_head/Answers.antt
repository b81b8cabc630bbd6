use Rattle.std.proofs.Common.{codes, ◌∙◌, ap, ◌++◌}
use Rattle.httparse.specs.Ascii.{crlf_bytes}
use Rattle.out_bulk.proofs.RequestRuns.{written}
use Rattle.out_bulk.proofs.request.add_head.Goals as goal

pub returns : goal.returns
returns c =
    let a = c.extend_from_slice.new.self.items in
    let b = c.extend_from_slice-3.new.self.items in
    written c.args.to.now.items (codes "POST /_bulk HTTP/1.1") (codes "Host: ") (codes "Content-Type: application/x-ndjson") (codes "Content-Length: ") (codes "Connection: close") c.args.host.now _ crlf_bytes a _ b _ _
    c.in_ok-extend_from_slice.ensures.items (c.in_ok-extend_from_slice-2.ensures.items ∙ ap (λ t. a ++ t) c.as_bytes.ensures.value) c.in_ok-extend_from_slice-3.ensures.items (c.in_ok-extend_from_slice-4.ensures.items ∙ ap (λ t. b ++ t) (c.as_bytes-2.ensures.value ∙ c.format.ensures.text)) c.in_ok-extend_from_slice-5.ensures.items
