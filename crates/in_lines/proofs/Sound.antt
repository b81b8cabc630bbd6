-- The event of a line is one that keeps what each event keeps.
use Rattle.std.proofs.Common.{rules, ◌≡◌, ℕ, suc, ◌+◌, ◌*◌, ◌≤◌, List, [], ◌∷◌, length, max, true, ◌&&◌, codes, refl, ap, ◌∙◌, arith}
use Rattle.std.specs.Str.{IsUtf8}
use Rattle.plain_data.specs.Calendar.{IsMoment}
use Rattle.event_tree.specs.Events.{IsEvent, both, event_depth, event_size}
use Rattle.event_tree.specs.Sizes.{size}
use Rattle.event_tree.specs.Sound.{is_text, members_sound, sound}
use Rattle.event_tree.specs.Values.{Members, depth}
use Rattle.event_tree.specs.declared.value.Value.{Value}
use Rattle.event_tree.specs.declared.value.Value.TheVariants as v
use Rattle.event_tree.proofs.Depths.{depth-Object, depth-Text, depth-Time}
use Rattle.event_tree.proofs.Sizes.{size-Object, size-Text, size-Time}
use Rattle.event_tree.proofs.Sounds.{both_true, sound-Object, sound_text, sound_time, text_true}
use Rattle.in_lines.specs.Polls.{Received}
use Rattle.in_lines.specs.Events.{event_of, members_of, original_of}

-- the most bytes of a line, so that its event is encoded in at most 16 MiB
abbrev pub most : ℕ
most = 8388558

size_original : (r : Received) → size (v.Object (original_of r)) ≡ 22 + length r.line
size_original r = let text = size-Text r.line in omega (arith, size-Object (original_of r), text)

size_members : (r : Received) → size (event_of r) ≡ 97 + 2 * length r.line
size_members r = omega (arith, size-Object (members_of r), size-Time r.moment, size-Text (codes "1"), size_original r, size-Text r.line)

pub line_size : (r : Received) → event_size (both (event_of r) (v.Object [])) ≡ 100 + 2 * length r.line
line_size r = omega (arith, size_members r, size-Object [])

depth_original : (r : Received) → depth (v.Object (original_of r)) ≡ 1
depth_original r = depth-Object (original_of r) ∙ ap (λ n. suc (max n 0)) (depth-Text r.line)

depth_members : (r : Received) → depth (event_of r) ≡ 2
depth_members r =
    depth-Object (members_of r)
    ∙ ap (λ n. suc (max n (max (depth (v.Text (codes "1"))) (max (depth (v.Object (original_of r))) (max (depth (v.Text r.line)) 0))))) (depth-Time r.moment)
    ∙ ap (λ n. suc (max 0 (max n (max (depth (v.Object (original_of r))) (max (depth (v.Text r.line)) 0))))) (depth-Text (codes "1"))
    ∙ ap (λ n. suc (max 0 (max 0 (max n (max (depth (v.Text r.line)) 0))))) (depth_original r)
    ∙ ap (λ n. suc (max 0 (max 0 (max 1 (max n 0))))) (depth-Text r.line)

no_depth : event_depth (both (v.Object []) (v.Object [])) ≡ 1
no_depth = ap (λ n. max n n) (depth-Object [])

depth_line : (r : Received) → event_depth (both (event_of r) (v.Object [])) ≡ 2
depth_line r = ap (λ n. max n (depth (v.Object []))) (depth_members r) ∙ ap (λ n. max 2 n) (depth-Object [])

sound_one : (k : List ℕ) (x : Value) (ms : Members) → is_text k ≡ true → sound x ≡ true → members_sound ms ≡ true → members_sound ((k, x) ∷ ms) ≡ true
sound_one k x ms key value others = both_true (is_text k && sound x) (members_sound ms) (both_true (is_text k) (sound x) key value) others

key : (k : List ℕ) → IsUtf8 k → is_text k ≡ true
key k utf8 = text_true k utf8

sound_original : (r : Received) → IsUtf8 r.line → sound (v.Object (original_of r)) ≡ true
sound_original r utf8 = sound-Object (original_of r) ∙ both_true _ _ refl (sound_one (codes "original") (v.Text r.line) [] (key (codes "original") (search rules)) (sound_text r.line utf8) refl)

sound_line : (r : Received) → IsUtf8 r.line → IsMoment r.moment → sound (event_of r) ≡ true
sound_line r utf8 moment =
    let one : Members = (codes "message", v.Text r.line) ∷ [] in
    let two : Members = (codes "event", v.Object (original_of r)) ∷ one in
    let three : Members = (codes "@version", v.Text (codes "1")) ∷ two in
    let message = sound_one (codes "message") (v.Text r.line) [] (key (codes "message") (search rules)) (sound_text r.line utf8) refl in
    let event = sound_one (codes "event") (v.Object (original_of r)) one (key (codes "event") (search rules)) (sound_original r utf8) message in
    let version = sound_one (codes "@version") (v.Text (codes "1")) two (key (codes "@version") (search rules)) (sound_text (codes "1") (search rules)) event in
    let timestamp = sound_one (codes "@timestamp") (v.Time r.moment) three (key (codes "@timestamp") (search rules)) (sound_time r.moment moment) version in
    sound-Object (members_of r) ∙ both_true _ _ refl timestamp

pub line_is_event : (r : Received) → IsUtf8 r.line → IsMoment r.moment → length r.line ≤ most → IsEvent (both (event_of r) (v.Object []))
line_is_event r utf8 moment short = record {
  fields_object = (members_of r, refl);
  meta_object = ([], refl);
  small = omega (arith, line_size r, short);
  shallow = omega (arith, depth_line r);
  fields_sound = sound_line r utf8 moment;
  meta_sound = sound-Object [];
}
