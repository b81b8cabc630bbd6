use Rattle.std.proofs.Common.{sym, ap, ◌≡◌, ◌∙◌, ◌+◌, ◌-◌, ◌==◌, ◌&&◌, not, drop, arith, get_or, false, true, ℕ, List, Bool, refl, suc, Some, option_map}
use Rattle.config_lex.specs.Bytes.{closing}
use Rattle.config_lex.proofs.Scans.{closing_stops, closing_on, closing_ends, moved, unequal_is, equal_is}
use Rattle.config_lex.proofs.bytes.closing.Goals as goal
use Rattle.config_lex.proofs.bytes.closing.Goals.{else-byte-close-via-then-byte-close+else-not-escaped, else-byte-close-via-else-byte-close}

pub returns-then-not-escaped-clause-length : goal.returns-then-not-escaped-clause-length
returns-then-not-escaped-clause-length c =
    let b = c.args.bytes.now in
    let i = c.loop-at.at in
    let t : (get_or b i 0 == c.args.close && not c.loop-at.escaped) ≡ true = ap (λ e. get_or b i 0 == c.args.close && not e) c.if-not-escaped.true ∙ ap (λ e. e && true) (equal_is (get_or b i 0) c.args.close c.if-byte-close.true) in
    sym (c.loop-at.invariant ∙ ap (option_map (λ n. (i - c.args.from) + n)) (closing_stops c.args.close c.loop-at.escaped b i c.loop-at-test.true t) ∙ ap Some (omega arith))

abbrev goal_is : ℕ → ℕ → List ℕ → ℕ → Type 0
goal_is close from b i = closing close false (drop from b) ≡ option_map (λ n. (i + 1 - from) + n) (closing close (get_or b i 0 == 92) (drop (i + 1) b))

and_false : (b : Bool) → (b && false) ≡ false
and_false true = refl
and_false false = refl

pub loop-at-preserved : goal.loop-at-preserved
loop-at-preserved c =
    let b = c.args.bytes.now in
    let i = c.loop-at.at in
    let k = i - c.args.from in
    let e : suc k ≡ i + 1 - c.args.from = omega (arith, c.loop-at.auto.at) in
    let go : (get_or b i 0 == c.args.close && not c.loop-at.escaped) ≡ false → goal_is c.args.close c.args.from b i = λ t.
    c.loop-at.invariant ∙ ap (option_map (λ n. k + n)) (closing_on c.args.close c.loop-at.escaped b i c.loop-at-test.true t) ∙ moved k (closing c.args.close (get_or b i 0 == 92) (drop (i + 1) b))
    ∙ ap (λ j. option_map (λ n. j + n) (closing c.args.close (get_or b i 0 == 92) (drop (i + 1) b))) e in
    elim c.else-byte-close.branch [
      | else-byte-close-via-then-byte-close+else-not-escaped w ↦
          go (ap (λ x. get_or b i 0 == c.args.close && not x) w.if-not-escaped.false ∙ and_false (get_or b i 0 == c.args.close))
      | else-byte-close-via-else-byte-close w ↦ go (ap (λ x. x && not c.loop-at.escaped) (unequal_is (get_or b i 0) c.args.close w.if-byte-close.false))
    ]

pub returns-clause-length : goal.returns-clause-length
returns-clause-length c = sym (c.loop-at.invariant ∙ ap (option_map (λ n. (c.loop-at.at - c.args.from) + n)) (closing_ends c.args.close c.loop-at.escaped c.args.bytes.now c.loop-at.at c.loop-at-test.false))
