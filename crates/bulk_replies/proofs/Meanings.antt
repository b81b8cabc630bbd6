-- What a reply says, by its head and its body.
use Rattle.std.proofs.Common.{◌≡◌, ℕ, List, drop, map, sym, ap, subst, ◌∙◌, Option, Some, None, Result, Ok, Err, Bool}
use Rattle.std.specs.Prelude.{◌↔◌, IfOk, IsTrue}
use Rattle.httparse.specs.Grammar.{ResponseHead, status_code}
use Rattle.httparse.specs.Spans.{name_and_value}
use Rattle.httparse.proofs.GrammarLemmas.{response_unique}
use Rattle.bulk_replies.specs.Bodies.{EndsWithin, HasChunks, IsBody, framing_of}
use Rattle.bulk_replies.specs.Fronts.{HasNoChunks}
use Rattle.bulk_replies.specs.Heads.{HasHead, IsHead}
use Rattle.bulk_replies.specs.Reading.{Answers, SaysOf, SaysBehind}
use Rattle.bulk_replies.specs.Replies.{IsBad, IsWhole}
use Rattle.bulk_replies.specs.declared.framing.Framing.{Framing}
use Rattle.bulk_replies.specs.declared.framing.Framing.TheVariants as framing
use Rattle.bulk_replies.specs.declared.head.Head.{Head}
use Rattle.bulk_replies.specs.declared.item_result.ItemResult.{ItemResult}
use Rattle.bulk_replies.proofs.ChunkRuns.{one_body}

-- what the chunks join to says it for the whole
chunked : (count : ℕ) (bytes body : List ℕ) (found : Option (List ItemResult)) → HasChunks bytes body → SaysOf count body found → SaysBehind count framing.Chunked bytes found
chunked count bytes body (Some said) has says = (says.0, record { body = body; is_body = has; says = says.1 }, says.2)
chunked count bytes body None has says = λ answers a. says answers (subst (λ b. Answers count b answers) (one_body bytes a.body body a.is_body has) a.says)

pub chunked_says : {E : Type 0} (count : ℕ) (f : Framing) (bytes body : List ℕ) (r : Result (Option (List ItemResult)) E) → f ≡ framing.Chunked → HasChunks bytes body → IfOk r (SaysOf count body) → IfOk r (SaysBehind count f bytes)
chunked_says count f bytes body (Ok found) is has says = subst (λ x. SaysBehind count x bytes found) (sym is) (chunked count bytes body found has says)
chunked_says count f bytes body (Err e) is has says = tt

pub unchunked_says : (count : ℕ) (f : Framing) (bytes : List ℕ) → f ≡ framing.Chunked → HasNoChunks bytes → SaysBehind count f bytes None
unchunked_says count f bytes is none = subst (λ x. SaysBehind count x bytes None) (sym is) (λ answers a. none a.body a.is_body)

-- a head is the one that was found
module _ (reply : List ℕ) (found : Head) (h : IsHead reply found) where
  same_head : (head : ResponseHead) (rest : List ℕ) → HasHead reply head rest → (head ≡ h.head) × (rest ≡ drop found.len reply)
  same_head head rest other = response_unique reply head h.head rest (drop found.len reply) other.reads h.has_head.reads

  pub is_bad : (count : ℕ) → found.status ≡ 200 → SaysBehind count found.framing (drop found.len reply) None → IsBad count reply
  is_bad count good none = record {
    no_other = λ status s. sym s.is_status ∙ ap status_code (same_head s.head s.rest s.has_head).0 ∙ sym h.status ∙ good;
    not_good = λ answers g. none answers (record {
      body = g.body;
      is_body = subst (λ bytes. IsBody found.framing bytes g.body) (same_head g.head g.rest g.has_head).1 (subst (λ f. IsBody f g.rest g.body) (ap (λ head. framing_of (map name_and_value head.fields)) (same_head g.head g.rest g.has_head).0 ∙ sym h.framing) g.has_body);
      says = record { is_text = g.is_text; says = g.says };
    });
  }

  whole : EndsWithin found.framing (drop found.len reply) → IsWhole reply
  whole ends = record { head = h.head; rest = drop found.len reply; has_head = h.has_head; ends = subst (λ f. EndsWithin f (drop found.len reply)) h.framing ends }

  ends_within : IsWhole reply → EndsWithin found.framing (drop found.len reply)
  ends_within w =
      let same = same_head w.head w.rest w.has_head in
      subst (EndsWithin found.framing) same.1 (subst (λ f. EndsWithin f w.rest) (ap (λ head. framing_of (map name_and_value head.fields)) same.0 ∙ sym h.framing) w.ends)

  pub whole_where : {b : Bool} {bytes : List ℕ} → bytes ≡ drop found.len reply → IsTrue b ↔ EndsWithin found.framing bytes → IsTrue b ↔ IsWhole reply
  whole_where is ends = (λ yes. whole (subst (EndsWithin found.framing) is (ends.0 yes)), λ w. ends.1 (subst (EndsWithin found.framing) (sym is) (ends_within w)))
