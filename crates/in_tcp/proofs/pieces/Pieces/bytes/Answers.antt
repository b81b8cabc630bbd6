use Rattle.std.proofs.Common.{rules, ◌≡◌, ◌≤◌, ◌+◌, ◌-◌, drop, take, vec_len, arith, sym, ap, ap₂, ◌∙◌}
use Rattle.std.proofs.lemmas.List.{drop-drop}
use Rattle.in_tcp.specs.Pieces.{count_of, total_of}
use Rattle.in_tcp.proofs.Placed.{as_long, bytes_at, total_at, total_split}
use Rattle.in_tcp.proofs.pieces.Pieces.bytes.Goals as goal

pub total_before-requires-clause-within : goal.total_before-requires-clause-within
total_before-requires-clause-within c = let s = c.self.inside in omega (arith, c.requires, as_long (drop s.start s.bytes.items) s.marks.items c.args.self.now c.self.view_is)

pub index-requires : goal.index-requires
index-requires c = let s = c.self.inside in omega (arith, c.requires, s.marks.ok.0, as_long (drop s.start s.bytes.items) s.marks.items c.args.self.now c.self.view_is)

pub overflow_add-at : goal.overflow_add-at
overflow_add-at c =
    let s = c.self.inside in
    let l : s.start + c.total_before.result ≤ vec_len s.bytes = omega (arith, c.self.invariant.0, c.self.invariant.1, c.total_before.ensures, total_split s.marks.items c.args.place) in
    search (l, rules)

pub overflow_add-result : goal.overflow_add-result
overflow_add-result c =
    let s = c.self.inside in
    let most = total_at (drop s.start s.bytes.items) s.marks.items c.args.self.now c.self.view_is c.args.place c.index.result.now c.requires c.index.ensures in
    let l : s.start + c.total_before.result + c.count.result ≤ vec_len s.bytes = omega (arith, c.self.invariant.0, c.self.invariant.1, c.total_before.ensures, c.count.ensures, most) in
    search (l, rules)

pub slice_bounds-result-end : goal.slice_bounds-result-end
slice_bounds-result-end c =
    let s = c.self.inside in
    let most = total_at (drop s.start s.bytes.items) s.marks.items c.args.self.now c.self.view_is c.args.place c.index.result.now c.requires c.index.ensures in
    omega (arith, c.self.invariant.0, c.self.invariant.1, c.total_before.ensures, c.count.ensures, most, c.deref.ensures.len, s.bytes.ok.0)

pub returns : goal.returns
returns c =
    let s = c.self.inside in
    let m = c.index.result.now in
    let same : s.start + c.total_before.result + c.count.result - (s.start + c.total_before.result) ≡ count_of m.gave = omega (arith, c.count.ensures) in
    let behind : drop (s.start + c.total_before.result) c.deref.result.now ≡ drop (total_of (take c.args.place s.marks.items)) (drop s.start s.bytes.items)
    = ap (drop (s.start + c.total_before.result)) c.deref.ensures.value ∙ sym (drop-drop c.total_before.result s.start s.bytes.items) ∙ ap (λ k. drop k (drop s.start s.bytes.items)) c.total_before.ensures in
    ap₂ (λ k b. take k b) same behind ∙ sym (bytes_at (drop s.start s.bytes.items) s.marks.items c.args.self.now c.self.view_is c.args.place m c.requires c.index.ensures)
