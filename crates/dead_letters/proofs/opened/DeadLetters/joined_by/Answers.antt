use Rattle.std.proofs.Common.{◌≡◌, ◌<◌, ◌≤◌, ◌+◌, ◌-◌, ◌^◌, ℕ, List, length, map, get_or, sym, ap, ◌∙◌, subst, arith}
use Rattle.std.specs.List.{sum}
use Rattle.std.proofs.Math.Path.{ap₂}
use Rattle.dead_letters.specs.Letters.{record_bytes, size_of}
use Rattle.dead_letters.specs.Queues.{joined, pieces}
use Rattle.dead_letters.specs.Shedding.{shed}
use Rattle.dead_letters.specs.Appends.{kept_from}
use Rattle.dead_letters.specs.Plans.{IsJoining}
use Rattle.dead_letters.specs.Views.{DeadQueue, joining, sheds}
use Rattle.dead_letters.specs.declared.append_plan.Joining.{Joining}
use Rattle.dead_letters.specs.declared.keeping.Records.{Records}
use Rattle.dead_letters.specs.declared.letter.DeadLetter.{DeadLetter}
use Rattle.dead_letters.specs.declared.shedding.Shedding.{Shedding}
use Rattle.dead_letters.proofs.Joining.{bytes_summed, view}
use Rattle.dead_letters.proofs.opened.DeadLetters.joined_by.Goals as goal
use Rattle.dead_letters.proofs.opened.DeadLetters.joined_by.Goals.{After-as_slice-taken}

-- what is shed, and the records of the letters that join
record Keeps (q : DeadQueue) (letters : List DeadLetter) (s : Shedding) (r : Records) (taken : List ℕ) : Type 0 where
  shed_is : s ≡ sheds q letters
  bytes : r.bytes.items ≡ joined (map record_bytes (joining q letters))
  sizes : taken ≡ map size_of (joining q letters)

kept : (c : goal.After-as_slice-taken) → Keeps (view c.self.inside) c.args.letters.now c.in_ok-shedding.shedding c.in_ok-records.records c.as_slice-taken.result.now
kept c =
    let q = view c.self.inside in
    let letters = c.args.letters.now in
    let shed_is = c.in_ok-shedding.ensures ∙ ap₂ (shed q.policy q.limit) c.as_slice-held.ensures (c.as_slice.ensures ∙ c.in_ok-sizes.ensures) in
    let places = c.as_slice-2.ensures ∙ ap (λ (s : Shedding). s.newer) shed_is in
    record {
      shed_is = shed_is;
      bytes = c.in_ok-records.ensures.bytes ∙ ap (λ l. joined (map record_bytes (kept_from l 0 letters))) places;
      sizes = c.as_slice-taken.ensures ∙ c.in_ok-records.ensures.sizes ∙ ap (λ l. map size_of (kept_from l 0 letters)) places;
    }

pub pieces-requires : goal.pieces-requires
pieces-requires c =
    let q = view c.self.inside in
    let k = kept (goal.at.pieces-requires c).After-as_slice-taken in
    let some : 0 < length q.sizes = subst (λ (s : DeadQueue). 0 < length s.sizes) (sym c.self.view_is) c.requires.some in
    let numbers : q.first + length q.sizes ≤ 2 ^ 32 = subst (λ (s : DeadQueue). s.first + length s.sizes ≤ 2 ^ 32) (sym c.self.view_is) c.requires.numbers in
    let v = c.in_ok-records.records.bytes in
    let all : length v.items ≡ sum (map size_of (joining q c.args.letters.now)) = ap length k.bytes ∙ bytes_summed q c.args.letters.now some numbers in
    omega (arith, ap sum k.sizes, all, v.ok.0, v.ok.1, v.small)

pub returns-clause-joins : goal.returns-clause-joins
returns-clause-joins c =
    let q = view c.self.inside in
    let k = kept (goal.at.returns-clause-joins c).After-as_slice-taken in
    let joins : Joining = record { shedding = c.in_ok-shedding.shedding; bytes = c.in_ok-records.records.bytes; pieces = c.in_ok-pieces.pieces } in
    subst (λ s. IsJoining s c.args.letters.now joins) c.self.view_is (record {
      shedding = k.shed_is;
      bytes = k.bytes;
      pieces = c.in_ok-pieces.ensures ∙ ap₂ (λ (h rs : List ℕ). pieces q.limit (q.first + (length h - 1)) (get_or h (length h - 1) 0) 0 rs) c.as_slice-held.ensures k.sizes;
    })

pub returns-clause-limit : goal.returns-clause-limit
returns-clause-limit c =
    let low : c.self.inside.limit < 2 ^ 64 = omega arith in
    subst (λ (s : DeadQueue). s.limit < 2 ^ 64) c.self.view_is low
