use Rattle.std.proofs.Common.{◌++◌, drop, take, sym, ap, ◌∙◌, arith, append-nil}
use Rattle.std.proofs.lemmas.List.{with_items_is}
use Rattle.in_tcp.specs.Pieces.{looks_in, total_of}
use Rattle.in_tcp.proofs.Laying.{count_within, none_taken, overwritten_in, pushed_in, taken_by, total_pushed}
use Rattle.in_tcp.proofs.pieces.Pieces.read.Goals as goal

pub returns-in_default-clause-read : goal.returns-in_default-clause-read
returns-in_default-clause-read g c =
    let s = c.self.inside in
    let new = c.read_behind-step.new.room in
    let r = c.read_behind-step.ensures.read in
    let items = with_items_is c.make_room.new.bytes new (c.read_behind-step.ensures.len ∙ c.deref_mut.ensures.len) in
    let none = none_taken c.args.conn c.args.moment r.0 c.read_behind-step.result (drop s.end new) (sym c.of.ensures ∙ c.in_default.is) r.1 in
    record {
      found = r.0;
      read = r.2;
      looks = ap (λ b. looks_in (drop s.start b) c.reserve.new.self.items) items
          ∙ overwritten_in s.bytes.items new s.start s.end c.reserve.new.self.items c.args.self.now (ap (looks_in (drop s.start s.bytes.items)) c.reserve.ensures.items ∙ c.self.view_is ∙ c.release_given.ensures)
          (omega (arith, c.self.invariant.0, ap total_of c.reserve.ensures.items)) (omega (arith, c.self.invariant.1, s.bytes.ok.0)) (c.read_behind-step.ensures.front ∙ ap (take s.end) c.deref_mut.ensures.value ∙ c.make_room.ensures.front)
          ∙ sym (ap (λ l. c.args.self.now ++ l) none.0 ∙ append-nil c.args.self.now);
      closed_is = none.1;
    }

pub invariant_of-self-2 : goal.invariant_of-self-2
invariant_of-self-2 g c =
    let s = c.self.inside in
    let count = count_within c.read_behind-step.result c.in-Some.gave _ (sym c.of.ensures ∙ c.in-Some.is) c.read_behind-step.ensures.within in (
      omega (arith, c.self.invariant.0, ap total_of c.reserve.ensures.items, ap total_of c.push_back_reserved.ensures.items, total_pushed c.reserve.new.self.items (record { conn = c.args.conn; moment = c.args.moment; gave = c.in-Some.gave }), c.count.ensures),
      omega (arith, count, c.count.ensures, c.deref_mut.ensures.len, c.make_room.ensures.within),
    )

pub returns-clause-read : goal.returns-clause-read
returns-clause-read g c =
    let s = c.self.inside in
    let new = c.read_behind-step.new.room in
    let r = c.read_behind-step.ensures.read in
    let items = with_items_is c.make_room.new.bytes new (c.read_behind-step.ensures.len ∙ c.deref_mut.ensures.len) in
    let t = taken_by c.args.conn c.args.moment r.0 c.read_behind-step.result c.in-Some.gave (drop s.end new) (sym c.of.ensures ∙ c.in-Some.is) r.1 in
    record {
      found = r.0;
      read = r.2;
      looks = ap (λ b. looks_in (drop s.start b) c.push_back_reserved.new.self.items) items
          ∙ pushed_in s.bytes.items new s.start s.end c.reserve.new.self.items c.push_back_reserved.new.self.items c.args.self.now (record { conn = c.args.conn; moment = c.args.moment; gave = c.in-Some.gave })
          (ap (looks_in (drop s.start s.bytes.items)) c.reserve.ensures.items ∙ c.self.view_is ∙ c.release_given.ensures)
          (omega (arith, c.self.invariant.0, ap total_of c.reserve.ensures.items)) (omega (arith, c.self.invariant.1, s.bytes.ok.0)) (c.read_behind-step.ensures.front ∙ ap (take s.end) c.deref_mut.ensures.value ∙ c.make_room.ensures.front) c.push_back_reserved.ensures.items
          ∙ ap (λ l. c.args.self.now ++ l) t.0;
      closed_is = c.is_end.ensures ∙ t.1;
    }
