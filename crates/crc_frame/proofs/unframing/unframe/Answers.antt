use Rattle.std.proofs.Common.{◌≡◌, ℕ, List, ◌+◌, ◌-◌, ◌++◌, ◌<◌, ◌≤◌, true, false, drop, get_or, take, length, Fits, w8, sym, ap, subst, ◌∙◌, arith, length-take, length-drop}
use Rattle.std.proofs.lemmas.List.{take_rest, drop-take, take-take}
use Rattle.byteorder.specs.Endian.{big_number}
use Rattle.crc_frame.specs.Crc.{is_checked}
use Rattle.crc_frame.specs.Frames.{frame_of}
use Rattle.crc_frame.specs.Bytes.{IsBytes}
use Rattle.crc_frame.proofs.FrameLemmas.{ReadsAs, NotFramed, unframed_some, unframed_none, none_begins, read_framed, cut_short, not_checked}
use Rattle.crc_frame.proofs.unframing.unframe.Goals as goal

are_bytes : (bytes : List ℕ) → ((i : ℕ) → Fits w8 (get_or bytes i 0)) → IsBytes bytes
are_bytes bytes fits = λ i. omega (arith, fits i)

-- the length as the code reads it
length_read : (bytes : List ℕ) (size : ℕ) → size ≡ big_number 4 (take (length bytes - 8) (drop 8 bytes)) → size ≡ big_number 4 (drop 8 bytes)
length_read bytes size read = read ∙ ap (big_number 4) (take_rest bytes 8)

short : (bytes : List ℕ) (size : ℕ) → size ≡ big_number 4 (take (length bytes - 8) (drop 8 bytes)) → length bytes < 12 + size + 4 → NotFramed bytes
short bytes size read is = let same = length_read bytes size read in cut_short bytes (omega (arith, same, is))

wrong : (bytes : List ℕ) (size : ℕ) → size ≡ big_number 4 (take (length bytes - 8) (drop 8 bytes)) → is_checked (take (12 + size + 4) bytes) ≡ false → NotFramed bytes
wrong bytes size read is = not_checked bytes (12 + size + 4) (let same = length_read bytes size read in omega (arith, same)) is

-- the body as the code takes it
abbrev body_of : List ℕ → ℕ → List ℕ
body_of bytes size = take (12 + size + 4 - 4 - 12) (drop 12 (take (12 + size + 4) bytes))

body_is : (bytes : List ℕ) (size : ℕ) → body_of bytes size ≡ take size (drop 12 bytes)
body_is bytes size =
    let len : 12 + size + 4 - 4 - 12 ≡ size = omega arith in
    let total : 12 + size + 4 ≡ 12 + (size + 4) = omega arith in
    ap (λ (n : ℕ). take n (drop 12 (take (12 + size + 4) bytes))) len
    ∙ ap (λ (n : ℕ). take size (drop 12 (take n bytes))) total ∙ ap (λ (xs : List ℕ). take size xs) (drop-take 12 (size + 4) bytes)
    ∙ take-take size (size + 4) (drop 12 bytes) (omega arith)

length-body_of : (bytes : List ℕ) (size : ℕ) → 12 + size + 4 ≤ length bytes → length (body_of bytes size) ≡ size
length-body_of bytes size long =
    ap (λ (xs : List ℕ). length xs) (body_is bytes size) ∙ omega (arith, long, length-take size (drop 12 bytes), length-drop 12 bytes)

-- a frame that the code found
found : (bytes : List ℕ) (number size : ℕ) → number ≡ big_number 8 bytes → size ≡ big_number 4 (take (length bytes - 8) (drop 8 bytes)) → 12 + size + 4 ≤ length bytes
    → is_checked (take (12 + size + 4) bytes) ≡ true → ReadsAs bytes number (body_of bytes size)
found bytes number size number_is read long is =
    let len = length-body_of bytes size long in
    let total : 12 + size + 4 ≡ length (body_of bytes size) + 16 = omega (arith, len) in
    record {
      long = omega (arith, long, len);
      number_read = sym number_is;
      length_read = sym (length_read bytes size read) ∙ sym len;
      body_read = ap (λ (n : ℕ). take n (drop 12 bytes)) len ∙ sym (body_is bytes size);
      checked = subst (λ (n : ℕ). is_checked (take n bytes) ≡ true) total is;
    }

pub returns-then-bytes-lt-HEAD_LEN-clause-element : goal.returns-then-bytes-lt-HEAD_LEN-clause-element
returns-then-bytes-lt-HEAD_LEN-clause-element c =
    sym (unframed_none c.args.bytes.now (are_bytes c.args.bytes.now c.type_inv.bytes) (cut_short c.args.bytes.now (omega arith)))

pub returns-then-bytes-lt-HEAD_LEN-clause-none : goal.returns-then-bytes-lt-HEAD_LEN-clause-none
returns-then-bytes-lt-HEAD_LEN-clause-none c = none_begins c.args.bytes.now (cut_short c.args.bytes.now (omega arith))

pub returns-then-bytes-total-clause-element : goal.returns-then-bytes-total-clause-element
returns-then-bytes-total-clause-element c =
    let bytes = c.args.bytes.now in
    sym (unframed_none bytes (are_bytes bytes c.type_inv.bytes) (short bytes c.read_u32.result c.read_u32.ensures c.if-bytes-total.true))

pub returns-then-bytes-total-clause-none : goal.returns-then-bytes-total-clause-none
returns-then-bytes-total-clause-none c =
    none_begins c.args.bytes.now (short c.args.bytes.now c.read_u32.result c.read_u32.ensures c.if-bytes-total.true)

pub returns-then-not-is_checked-clause-element : goal.returns-then-not-is_checked-clause-element
returns-then-not-is_checked-clause-element c =
    let bytes = c.args.bytes.now in
    sym (unframed_none bytes (are_bytes bytes c.type_inv.bytes) (wrong bytes c.read_u32.result c.read_u32.ensures (sym c.is_checked.ensures ∙ c.if-not-is_checked.true)))

pub returns-then-not-is_checked-clause-none : goal.returns-then-not-is_checked-clause-none
returns-then-not-is_checked-clause-none c =
    none_begins c.args.bytes.now (wrong c.args.bytes.now c.read_u32.result c.read_u32.ensures (sym c.is_checked.ensures ∙ c.if-not-is_checked.true))

pub returns-clause-element : goal.returns-clause-element
returns-clause-element c =
    let bytes = c.args.bytes.now in
    let is : is_checked (take (12 + c.read_u32.result + 4) bytes) ≡ true = sym c.is_checked.ensures ∙ c.if-not-is_checked.false in
    sym (unframed_some bytes c.read_u64-number.result (body_of bytes c.read_u32.result) (are_bytes bytes c.type_inv.bytes)
    (found bytes c.read_u64-number.result c.read_u32.result c.read_u64-number.ensures c.read_u32.ensures c.if-bytes-total.false is))

pub returns-clause-begins : goal.returns-clause-begins
returns-clause-begins c =
    let bytes = c.args.bytes.now in
    let size = c.read_u32.result in
    let is : is_checked (take (12 + size + 4) bytes) ≡ true = sym c.is_checked.ensures ∙ c.if-not-is_checked.false in
    let total : length (body_of bytes size) + 16 ≡ 12 + size + 4 = omega (arith, length-body_of bytes size c.if-bytes-total.false) in
    read_framed bytes c.read_u64-number.result (body_of bytes size) (are_bytes bytes c.type_inv.bytes)
    (found bytes c.read_u64-number.result size c.read_u64-number.ensures c.read_u32.ensures c.if-bytes-total.false is)
    ∙ ap (λ (n : ℕ). frame_of c.read_u64-number.result (body_of bytes size) ++ drop n bytes) total
