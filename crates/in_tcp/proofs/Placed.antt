-- The piece of a place among those that stand behind one another.
use Rattle.std.proofs.Common.{◌≡◌, ◌≤◌, ◌<◌, ◌+◌, ℕ, zero, suc, Bool, true, false, List, [], ◌∷◌, ◌++◌, length, take, drop, get_or, nat_eq, if◌then◌else◌, refl, sym, ap, ◌∙◌, subst, arith, append-nil, length-append}
use Rattle.std.proofs.Math.Seq.{take-add}
use Rattle.std.proofs.lemmas.List.{drop-drop, drop_more, length-drop, take_more}
use Rattle.io_traits.specs.Pieces.{bytes_in}
use Rattle.in_lines.specs.Sources.{Look}
use Rattle.in_tcp.specs.Pieces.{IsFront, count_of, front_bytes, looks_in, piece_with, total_of}
use Rattle.in_tcp.specs.Search.{count_from, joined_of}
use Rattle.in_tcp.specs.declared.pieces.PieceRecord.{PieceRecord}
use Rattle.in_tcp.specs.declared.pieces.ReadEvent.{ReadEvent}
use Rattle.in_tcp.specs.declared.pieces.ReadEvent.TheVariants.{Bytes}
use Rattle.in_tcp.specs.declared.pieces.ReadEvent.TheVariants.{End as AtEnd}
use Rattle.in_tcp.proofs.Laying.{front_count, total_pushed}

-- as many looks as marks
long_as : (bytes : List ℕ) (marks : List PieceRecord) → length (looks_in bytes marks) ≡ length marks
long_as bytes [] = refl
long_as bytes (m ∷ marks) = ap suc (long_as (drop (count_of m.gave) bytes) marks)

-- the looks from a place on
from_place : (bytes : List ℕ) (marks : List PieceRecord) (place : ℕ) → drop place (looks_in bytes marks) ≡ looks_in (drop (total_of (take place marks)) bytes) (drop place marks)
from_place bytes marks zero = refl
from_place bytes [] (suc place) = refl
from_place bytes (m ∷ marks) (suc place) =
    from_place (drop (count_of m.gave) bytes) marks place ∙ ap (λ b. looks_in b (drop place marks)) (drop-drop (total_of (take place marks)) (count_of m.gave) bytes)

pub total_split : (marks : List PieceRecord) (place : ℕ) → total_of marks ≡ total_of (take place marks) + total_of (drop place marks)
total_split marks zero = omega arith
total_split [] (suc place) = omega arith
total_split (m ∷ marks) (suc place) = omega (arith, total_split marks place)

-- the bytes of the pieces up to a place and with it
pub total_next : (marks : List PieceRecord) (at : ℕ) (m : PieceRecord) → at < length marks → m ≡ get_or marks at m → total_of (take (at + 1) marks) ≡ total_of (take at marks) + count_of m.gave
total_next marks at m lt is =
    ap total_of (take_more marks at m lt) ∙ total_pushed (take at marks) (get_or marks at m) ∙ ap (λ (x : PieceRecord). total_of (take at marks) + count_of x.gave) (sym is)

-- what stands in front
look_again : (m : PieceRecord) (g : ReadEvent) (b : List ℕ) → piece_with g b ≡ piece_with g (bytes_in (piece_with g b))
look_again m (Bytes n) b = refl
look_again m AtEnd b = refl

bytes_again : (g : ReadEvent) (bytes : List ℕ) → bytes_in (piece_with g (take (count_of g) bytes)) ≡ take (count_of g) bytes
bytes_again (Bytes n) bytes = refl
bytes_again AtEnd bytes = refl

first_front : (bytes : List ℕ) (m : PieceRecord) (rest : List PieceRecord) → total_of (m ∷ rest) ≤ length bytes → IsFront (looks_in bytes (m ∷ rest)) m
first_front bytes m rest within = record {
  is = ap (λ p. (m.conn, record { moment = m.moment; piece = p }) ∷ looks_in (drop (count_of m.gave) bytes) rest) (look_again m m.gave (take (count_of m.gave) bytes));
  long = front_count bytes m rest within;
}

module _ (bytes : List ℕ) (marks : List PieceRecord) (now : List Look) (view : looks_in bytes marks ≡ now) where
  pub as_long : length marks ≡ length now
  as_long = sym (long_as bytes marks) ∙ ap length view

  module _ (place : ℕ) (m : PieceRecord) (lt : place < length now) (is : m ≡ get_or marks place m) where
    abbrev behind : List ℕ
    behind = drop (total_of (take place marks)) bytes

    abbrev rest : List PieceRecord
    rest = drop (place + 1) marks

    here : drop place marks ≡ m ∷ rest
    here = drop_more marks place m (omega (arith, lt, as_long)) ∙ ap (λ (x : PieceRecord). x ∷ rest) (sym is)

    seen : drop place now ≡ looks_in behind (m ∷ rest)
    seen = ap (drop place) (sym view) ∙ from_place bytes marks place ∙ ap (looks_in behind) here

    pub front_at : total_of marks ≤ length bytes → IsFront (drop place now) m
    front_at within =
        subst (λ l. IsFront l m) (sym seen)
        (first_front behind m rest (omega (arith, within, total_split marks place, ap total_of here, length-drop (total_of (take place marks)) bytes)))

    pub bytes_at : front_bytes (drop place now) ≡ take (count_of m.gave) behind
    bytes_at = ap front_bytes seen ∙ bytes_again m.gave behind

    pub total_at : total_of (take place marks) + count_of m.gave ≤ total_of marks
    total_at = omega (arith, total_split marks place, ap total_of here)

-- ---- what was found of a connection

joined_append : (n : ℕ) (before looks : List Look) → joined_of n (before ++ looks) ≡ joined_of n before ++ joined_of n looks
joined_append n [] looks = refl
joined_append n (look ∷ before) looks = ap (λ l. (if nat_eq look.0 n then bytes_in look.1.piece else []) ++ l) (joined_append n before looks) ∙ sym (append_assoc' (if nat_eq look.0 n then bytes_in look.1.piece else []) (joined_of n before) (joined_of n looks))
  where
    append_assoc' : (xs ys zs : List ℕ) → (xs ++ ys) ++ zs ≡ xs ++ (ys ++ zs)
    append_assoc' [] ys zs = refl
    append_assoc' (x ∷ xs) ys zs = ap (λ l. x ∷ l) (append_assoc' xs ys zs)

pub joined_next : (n : ℕ) (looks : List Look) (at : ℕ) (m : PieceRecord) → IsFront (drop at looks) m → length (joined_of n (take (at + 1) looks)) ≡ length (joined_of n (take at looks)) + count_from n m
joined_next n looks at m front =
    let bytes = front_bytes (drop at looks) in
    let one : joined_of n (take 1 (drop at looks)) ≡ (if nat_eq m.conn n then bytes_in (piece_with m.gave bytes) else []) ++ [] = ap (λ l. joined_of n (take 1 l)) front.is in
    let long = length-append (joined_of n (take at looks)) (joined_of n (take 1 (drop at looks))) in
    ap (λ l. length (joined_of n l)) (take-add at 1 looks) ∙ ap length (joined_append n (take at looks) (take 1 (drop at looks))) ∙ long
    ∙ ap (λ k. length (joined_of n (take at looks)) + k) (ap length (one ∙ append-nil _) ∙ counted (nat_eq m.conn n) m.gave bytes front.long)
  where
    counted : (b : Bool) (g : ReadEvent) (bytes : List ℕ) → length bytes ≡ count_of g → length (if b then bytes_in (piece_with g bytes) else []) ≡ (if b then count_of g else 0)
    counted true (Bytes k) bytes is = is
    counted true AtEnd bytes is = refl
    counted false g bytes is = refl
