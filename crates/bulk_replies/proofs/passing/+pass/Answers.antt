use Rattle.std.proofs.Common.{◌≡◌, ◌∷◌, None, true, false, refl, arith, inl, inr}
use Rattle.json.specs.Json.{after_end_array}
use Rattle.json.specs.Token.{begin_array, begin_object}
use Rattle.json.proofs.Grammar.{read_key-shorter}
use Rattle.bulk_replies.proofs.Readings.{item_passed, key_passed, list_ends, list_opens, member_passed, no_item, no_key, no_key_left, no_level, no_member, object_ends, object_opens, passed_list, passed_object, reads_shorter}
use Rattle.bulk_replies.proofs.passing.+pass.Goals as goal

pub pass-returns-then-depth-eq0 : goal.pass-returns-then-depth-eq0
pass-returns-then-depth-eq0 g t c =
    let first : g.T.Passes.left c.args.reader.now ≡ begin_array ∷ g.T.Passes.left c.pass_token.new.self = passed_list _ _ _ c.in-List.is c.in_ok-pass_token.ensures in
    λ sure. no_level _ _ _ _ (omega arith) first (inl refl)

pub pass-returns-then-depth-eq0-2 : goal.pass-returns-then-depth-eq0-2
pass-returns-then-depth-eq0-2 g t c =
    let first : g.T.Passes.left c.args.reader.now ≡ begin_object ∷ g.T.Passes.left c.pass_token.new.self = passed_object _ _ _ c.in-Object.is c.in_ok-pass_token.ensures in
    λ sure. no_level _ _ _ _ (omega arith) first (inr refl)

pub pass_items-loop-reader-init : goal.pass_items-loop-reader-init
pass_items-loop-reader-init g t c = (_, list_opens _ _ _ refl)

pub pass_items-loop-reader-smaller : goal.pass_items-loop-reader-smaller
pass_items-loop-reader-smaller g t c =
    let going : (after_end_array (g.T.Passes.left c.loop-reader.reader) ≡ None) × (g.T.Passes.left c.take_end_array.new.self ≡ g.T.Passes.left c.loop-reader.reader) = grind arith in
    rw (← going.1) (reads_shorter _ _ _ _ c.in_ok-pass.ensures.1)

pub pass_items-loop-reader-preserved : goal.pass_items-loop-reader-preserved
pass_items-loop-reader-preserved g t c =
    let going : (after_end_array (g.T.Passes.left c.loop-reader.reader) ≡ None) × (g.T.Passes.left c.take_end_array.new.self ≡ g.T.Passes.left c.loop-reader.reader) = grind arith in
    (_, item_passed _ _ _ _ c.loop-reader.invariant.1 going.0 (g.T.Passes.left c.pass.new.reader) c.in_ok-pass.ensures.0 (rw (← going.1) c.in_ok-pass.ensures.1))

pub pass_items-returns-in_err-pass : goal.pass_items-returns-in_err-pass
pass_items-returns-in_err-pass g t c =
    let going : (after_end_array (g.T.Passes.left c.loop-reader.reader) ≡ None) × (g.T.Passes.left c.take_end_array.new.self ≡ g.T.Passes.left c.loop-reader.reader) = grind arith in
    let none = λ (sure : g.T.Passes.sure). no_item _ _ _ _ c.loop-reader.invariant.1 going.0 (rw (← going.1) (c.in_err-pass.ensures sure)) in
    grind (arith, none)

pub pass_items-returns : goal.pass_items-returns
pass_items-returns g t c = (_, list_ends _ _ _ _ _ c.loop-reader.invariant.1 (grind arith), (_, refl))

pub pass_members-loop-reader-init : goal.pass_members-loop-reader-init
pass_members-loop-reader-init g t c = (_, object_opens _ _ _ refl)

pub pass_members-returns-in_err-pass_key : goal.pass_members-returns-in_err-pass_key
pass_members-returns-in_err-pass_key g t c = let none = λ (sure : g.T.Passes.sure). no_key _ _ _ _ c.loop-reader.invariant.1 (c.in_err-pass_key.ensures sure) in grind (arith, none)

pub pass_members-loop-reader-smaller : goal.pass_members-loop-reader-smaller
pass_members-loop-reader-smaller g t c =
    let yes : c.in_ok-pass_key.field-0 ≡ true = grind arith in
    let key = key_passed _ _ _ yes c.in_ok-pass_key.ensures in
    omega (arith, read_key-shorter _ _ _ key.1, reads_shorter _ _ _ _ c.in_ok-pass.ensures.1)

pub pass_members-loop-reader-preserved : goal.pass_members-loop-reader-preserved
pass_members-loop-reader-preserved g t c =
    let yes : c.in_ok-pass_key.field-0 ≡ true = grind arith in
    let key = key_passed _ _ _ yes c.in_ok-pass_key.ensures in
    (_, member_passed _ _ _ _ c.loop-reader.invariant.1 _ _ _ _ key.1 c.in_ok-pass.ensures.1)

pub pass_members-returns-in_err-pass : goal.pass_members-returns-in_err-pass
pass_members-returns-in_err-pass g t c =
    let yes : c.in_ok-pass_key.field-0 ≡ true = grind arith in
    let key = key_passed _ _ _ yes c.in_ok-pass_key.ensures in
    let none = λ (sure : g.T.Passes.sure). no_member _ _ _ _ c.loop-reader.invariant.1 _ _ key.1 (c.in_err-pass.ensures sure) in
    grind (arith, none)

pub pass_members-returns : goal.pass_members-returns
pass_members-returns g t c =
    let no : c.in_ok-pass_key.field-0 ≡ false = grind arith in
    (_, object_ends _ _ _ _ c.loop-reader.invariant.1 _ (no_key_left _ _ _ no c.in_ok-pass_key.ensures), (_, refl))
