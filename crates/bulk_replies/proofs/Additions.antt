-- What an object says with one member more, and what another value says.
use Rattle.std.proofs.Common.{◌≡◌, ℕ, List, [], true, false, Bor, bytes_eq, if◌then◌else◌, codes, Option, Some, None, option_map, Ordering, Less, Equal, Greater, nat_cmp, is_eq, ◌⊎◌, inl, inr, refl, sym, ap, ap₂, subst, ◌∙◌}
use Rattle.std.specs.Prelude.{nat_le, option_and_then, unwrap_or, map}
use Rattle.std.specs.Option.{option_or}
use Rattle.std.specs.Cmp.Lexicographic.{slice_cmp}
use Rattle.std.specs.Ordering.{match_ordering}
use Rattle.std.proofs.lemmas.Bool.{false≢true}
use Rattle.std.proofs.lemmas.Cmp.{nat_list_cmp_total, tied_itself}
use Rattle.std.proofs.lemmas.Map.Text.{is_eq-slice_cmp}
use Rattle.std.proofs.lemmas.Slice.Eq.{bytes_eq-Decides}
use Rattle.serde_json.specs.Data.{Data, null, boolean, number, string, array, object, Members, no_members, member, put}
use Rattle.serde_json.specs.Find.{as_array, as_number, as_str, as_u64, get_member}
use Rattle.serde_json.proofs.Views.{get_member-put, get_member-put_other}
use Rattle.bulk_replies.specs.Answers.{error_text, item_answer, items_answers, reason_in, said_of, status_in, text_at}
use Rattle.bulk_replies.specs.Plain.{IsNot}
use Rattle.bulk_replies.specs.Sayings.{answer_of, AreSeveral, AreTexts, IsOnly, IsSaying, said_in}
use Rattle.bulk_replies.specs.declared.item.Only.{Only}
use Rattle.bulk_replies.specs.declared.item.Only.TheVariants.{Nothing, Several}
use Rattle.bulk_replies.specs.declared.item.Saying.{Saying}
use Rattle.bulk_replies.specs.declared.item.Texts.{Texts}
use Rattle.bulk_replies.specs.declared.item_result.ItemResult.{ItemResult}
use Rattle.bulk_replies.specs.declared.passing.Expect.TheVariants as wanted

-- ---- another value than an object or a list

abbrev pub IsSilent : Data → Type 0
IsSilent d = (None ≡ item_answer d) × (None ≡ status_in d) × ([] ≡ reason_in d) × ([] ≡ error_text d) × (None ≡ said_in d)

pub silent : (d : Data) → IsNot wanted.Object d → IsSilent d
silent null other = (refl, refl, refl, refl, refl)
silent (boolean b) other = (refl, refl, refl, refl, refl)
silent (number n) other = (refl, refl, refl, refl, refl)
silent (string s) other = (refl, refl, refl, refl, refl)
silent (array ds) other = (refl, refl, refl, refl, refl)
silent (object ms) other = absurd (other refl)

pub no_list : (d : Data) → IsNot wanted.List d → None ≡ option_map (map said_of) (option_and_then items_answers (as_array d))
no_list null other = refl
no_list (boolean b) other = refl
no_list (number n) other = refl
no_list (string s) other = refl
no_list (array ds) other = absurd (other refl)
no_list (object ms) other = refl

-- ---- the text of an error

abbrev first : Option (List ℕ) → List ℕ → List ℕ
first (Some s) other = s
first None other = other

said_first : (o p : Option (Bor (List ℕ))) (e : Bor (List ℕ)) → (unwrap_or (option_or o p) e).now ≡ first (option_map (λ s. s.now) o) (first (option_map (λ s. s.now) p) e.now)
said_first (Some s) p e = refl
said_first None (Some s) e = refl
said_first None None e = refl

pub said_text : (d : Data) (t : Texts) (o : Option (Bor (List ℕ))) (text e : Bor (List ℕ)) → AreTexts d t → o ≡ option_or t.reason t.kind → text ≡ unwrap_or o e → e.now ≡ [] → text.now ≡ error_text d
said_text d t o text e says found is none =
    ap (λ s. s.now) (is ∙ ap (λ x. unwrap_or x e) found) ∙ said_first t.reason t.kind e ∙ ap₂ (λ o p. first o (first p e.now)) says.0 says.1
    ∙ ap (λ x. first (text_at (codes "reason") d) (first (text_at (codes "type") d) x)) none

-- ---- the keys of an item

pub same_key : (ms : Members) (k l : List ℕ) (d e : Data) → ms ≡ member l e no_members → true ≡ bytes_eq l k → put k d ms ≡ member k d no_members
same_key ms k l d e is equal =
    let same : l ≡ k = (bytes_eq-Decides l k).0 (sym equal) in
    ap (put k d) (is ∙ ap (λ x. member x e no_members) same) ∙ rw (tied_itself nat_list_cmp_total k)

two_keys : (o : Ordering) (k l : List ℕ) (d e : Data) → slice_cmp nat_cmp k l ≡ o → false ≡ bytes_eq l k → AreSeveral (match_ordering o (member k d (member l e no_members)) (member l d no_members) (member l e (member k d no_members)))
two_keys Less k l d e is other = tt
two_keys Equal k l d e is other =
    let same : k ≡ l = (bytes_eq-Decides k l).0 (sym (is_eq-slice_cmp k l) ∙ ap is_eq is) in
    absurd (false≢true (other ∙ (bytes_eq-Decides l k).1 (sym same)))
two_keys Greater k l d e is other = tt

pub other_key : (ms : Members) (k l : List ℕ) (d e : Data) → ms ≡ member l e no_members → false ≡ bytes_eq l k → AreSeveral (put k d ms)
other_key ms k l d e is other = subst (λ x. AreSeveral (put k d x)) (sym is) (two_keys (slice_cmp nat_cmp k l) k l d e refl other)

third_key : (o p : Ordering) (k l m : List ℕ) (d e f : Data) (ms : Members) → AreSeveral (match_ordering o (member k d (member l e (member m f ms))) (member l d (member m f ms))
    (member l e (match_ordering p (member k d (member m f ms)) (member m d ms) (member m f (put k d ms)))))
third_key Less p k l m d e f ms = tt
third_key Equal p k l m d e f ms = tt
third_key Greater Less k l m d e f ms = tt
third_key Greater Equal k l m d e f ms = tt
third_key Greater Greater k l m d e f ms = tt

pub more_keys : (ms : Members) (k : List ℕ) (d : Data) → AreSeveral ms → AreSeveral (put k d ms)
more_keys no_members k d several = absurd several
more_keys (member l e no_members) k d several = absurd several
more_keys (member l e (member m f ms)) k d several = third_key (slice_cmp nat_cmp k l) (slice_cmp nat_cmp k m) k l m d e f ms

pub one_answer : (ms : Members) (k : List ℕ) (d : Data) (s : Saying) → ms ≡ member k d no_members → IsSaying d s → answer_of (Some s) ≡ item_answer (object ms)
one_answer ms k d s is says =
    ap₂ (λ reason status. option_map (λ n. record { status = n; reason = reason }) status) says.1 says.0 ∙ ap (λ x. item_answer (object x)) (sym is)

no_answer : (ms : Members) → AreSeveral ms → None ≡ item_answer (object ms)
no_answer no_members several = absurd several
no_answer (member k d no_members) several = absurd several
no_answer (member k d (member l e ms)) several = refl

pub not_one : (ms : Members) (o : Only) → IsOnly ms o → (o ≡ Nothing) ⊎ (o ≡ Several) → None ≡ item_answer (object ms)
not_one ms o only (inl is) = let none : ms ≡ no_members = subst (IsOnly ms) is only in ap (λ x. item_answer (object x)) (sym none)
not_one ms o only (inr is) = no_answer ms (subst (IsOnly ms) is only)

-- ---- the members of an object

module _ (key : List ℕ) (d : Data) (ms : Members) where
  here : (k : List ℕ) → true ≡ bytes_eq key k → get_member k (put key d ms) ≡ Some d
  here k is = let same : key ≡ k = (bytes_eq-Decides key k).0 (sym is) in ap (λ x. get_member k (put x d ms)) same ∙ get_member-put k d ms

  there : (k : List ℕ) → false ≡ bytes_eq key k → get_member k (put key d ms) ≡ get_member k ms
  there k other = get_member-put_other k key d ms (λ same. false≢true (other ∙ (bytes_eq-Decides key k).1 (sym same)))

  -- a key that is one isn't another
  differs : (k l : List ℕ) → true ≡ bytes_eq key k → bytes_eq k l ≡ false → false ≡ bytes_eq key l
  differs k l is other = let same : key ≡ k = (bytes_eq-Decides key k).0 (sym is) in sym (ap (λ x. bytes_eq x l) same ∙ other)

  abbrev status_of : Option Data → Option ℕ
  status_of o = option_and_then (λ n. if nat_le n 65535 then Some n else None) (option_and_then as_u64 (option_and_then as_number o))

  abbrev reason_of : Option Data → List ℕ
  reason_of o = unwrap_or (option_map error_text o) []

  pub with_status : (s : Saying) (n status : Option ℕ) → true ≡ bytes_eq key (codes "status") → n ≡ option_and_then as_u64 (as_number d) → status ≡ option_and_then (λ n. if nat_le n 65535 then Some n else None) n
      → IsSaying (object ms) s → (status ≡ status_in (object (put key d ms))) × (s.reason.now ≡ reason_in (object (put key d ms)))
  with_status s n status is read small says = (
    small ∙ ap (option_and_then (λ n. if nat_le n 65535 then Some n else None)) read ∙ sym (ap status_of (here (codes "status") is)),
    says.1 ∙ sym (ap reason_of (there (codes "error") (differs (codes "status") (codes "error") is refl))),
  )

  pub with_error : (s : Saying) (reason : List ℕ) → true ≡ bytes_eq key (codes "error") → reason ≡ error_text d → IsSaying (object ms) s
      → (s.status ≡ status_in (object (put key d ms))) × (reason ≡ reason_in (object (put key d ms)))
  with_error s reason is read says = (
    says.0 ∙ sym (ap status_of (there (codes "status") (differs (codes "error") (codes "status") is refl))),
    read ∙ sym (ap reason_of (here (codes "error") is)),
  )

  pub with_other : (s : Saying) → false ≡ bytes_eq key (codes "status") → false ≡ bytes_eq key (codes "error") → IsSaying (object ms) s → IsSaying (object (put key d ms)) s
  with_other s no_status no_error says = (says.0 ∙ sym (ap status_of (there (codes "status") no_status)), says.1 ∙ sym (ap reason_of (there (codes "error") no_error)))

  pub with_reason : (t : Texts) (reason : Option (List ℕ)) → true ≡ bytes_eq key (codes "reason") → reason ≡ as_str d → AreTexts (object ms) t
      → (reason ≡ text_at (codes "reason") (object (put key d ms))) × (option_map (λ s. s.now) t.kind ≡ text_at (codes "type") (object (put key d ms)))
  with_reason t reason is read says = (
    read ∙ sym (ap (option_and_then as_str) (here (codes "reason") is)),
    says.1 ∙ sym (ap (option_and_then as_str) (there (codes "type") (differs (codes "reason") (codes "type") is refl))),
  )

  pub with_type : (t : Texts) (kind : Option (List ℕ)) → true ≡ bytes_eq key (codes "type") → kind ≡ as_str d → AreTexts (object ms) t
      → (option_map (λ s. s.now) t.reason ≡ text_at (codes "reason") (object (put key d ms))) × (kind ≡ text_at (codes "type") (object (put key d ms)))
  with_type t kind is read says = (
    says.0 ∙ sym (ap (option_and_then as_str) (there (codes "reason") (differs (codes "type") (codes "reason") is refl))),
    read ∙ sym (ap (option_and_then as_str) (here (codes "type") is)),
  )

  pub with_no_text : (t : Texts) → false ≡ bytes_eq key (codes "reason") → false ≡ bytes_eq key (codes "type") → AreTexts (object ms) t → AreTexts (object (put key d ms)) t
  with_no_text t no_reason no_type says =
      (says.0 ∙ sym (ap (option_and_then as_str) (there (codes "reason") no_reason)), says.1 ∙ sym (ap (option_and_then as_str) (there (codes "type") no_type)))

  -- the items of a body
  abbrev said_at : Option Data → Option (List ItemResult)
  said_at o = option_map (map said_of) (option_and_then items_answers (option_and_then as_array o))

  pub with_items : (said : Option (List ItemResult)) → true ≡ bytes_eq key (codes "items") → said ≡ option_map (map said_of) (option_and_then items_answers (as_array d)) → said ≡ said_in (object (put key d ms))
  with_items said is read = read ∙ sym (ap said_at (here (codes "items") is))

  pub with_no_items : (said : Option (List ItemResult)) → false ≡ bytes_eq key (codes "items") → said ≡ said_in (object ms) → said ≡ said_in (object (put key d ms))
  with_no_items said other says = says ∙ sym (ap said_at (there (codes "items") other))
