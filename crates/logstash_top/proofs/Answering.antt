-- What the answers of `parse` make of a text.
use Rattle.std.proofs.Common.{◌≡◌, ◌≤◌, ◌<◌, ◌↔◌, ◌⊎◌, inl, inr, ℕ, List, length, Result, MatchResult, IfOk, Ok, Err, refl}
use Rattle.config_tree.specs.declared.tree.Config.{Config}
use Rattle.config_parse.specs.Texts.{Reads, IsSyntaxAt, IsDeepAt}
use Rattle.config_parse.specs.declared.text.TheConstants.{LENGTH, LEVELS}
use Rattle.config_parse.specs.declared.fault.ConfigFault.{ConfigFault}
use Rattle.config_parse.specs.declared.fault.ConfigFault.TheVariants.{Long, Syntax, Deep, Memory}
use Rattle.logstash_top.specs.Refused.{IsConfig, IsRefusedFor}

-- what `parse` answers
pub record Parsed (text : List ℕ) (result : Result Config ConfigFault) : Type 0 where
  pub found : IfOk result (λ config. IsConfig text config)
  pub only : (config : Config) → length text ≤ LENGTH → Reads LEVELS text config → MatchResult result (λ given. given ≡ config) (λ e. e ≡ Memory)
  pub long : (result ≡ Err Long) ↔ (LENGTH < length text)
  pub syntax : (at : ℕ) → result ≡ Err (Syntax at) → (length text ≤ LENGTH) × IsSyntaxAt LEVELS text at
  pub only_syntax : (at : ℕ) → length text ≤ LENGTH → IsSyntaxAt LEVELS text at → MatchResult result (λ _. ⊥) (λ e. (e ≡ Memory → ⊥) → e ≡ Syntax at)
  pub deep : (at : ℕ) → result ≡ Err (Deep at) → (length text ≤ LENGTH) × IsDeepAt LEVELS text at
  pub only_deep : (at : ℕ) → length text ≤ LENGTH → IsDeepAt LEVELS text at → MatchResult result (λ _. ⊥) (λ e. (e ≡ Memory → ⊥) → e ≡ Deep at)

-- a text that reads is refused for nothing
pub not_refused : (text : List ℕ) (config : Config) → Parsed text (Ok config) → (fault : ConfigFault) → IsRefusedFor text fault → ⊥
not_refused text config p Long long = let one : Ok config ≡ Err Long = p.long.1 long in cc
not_refused text config p (Syntax at) h = p.only_syntax at h.0 h.1
not_refused text config p (Deep at) h = p.only_deep at h.0 h.1
not_refused text config p Memory h = h

-- why it is refused
pub reason : (text : List ℕ) (fault : ConfigFault) → Parsed text (Err fault) → (fault ≡ Memory) ⊎ IsRefusedFor text fault
reason text Long p = inr (p.long.0 refl)
reason text (Syntax at) p = inr (p.syntax at refl)
reason text (Deep at) p = inr (p.deep at refl)
reason text Memory p = inl refl

-- a fault is want of memory, or not
is_memory : (fault : ConfigFault) → (fault ≡ Memory) ⊎ (fault ≡ Memory → ⊥)
is_memory Long = inr (λ e. cc)
is_memory (Syntax at) = inr (λ e. cc)
is_memory (Deep at) = inr (λ e. cc)
is_memory Memory = inl refl

abbrev faulty : ConfigFault → Result Config ConfigFault
faulty fault = Err fault

same_fault : (a b : ConfigFault) → faulty a ≡ faulty b → a ≡ b
same_fault a b e = cc

other_reason : (text : List ℕ) (fault : ConfigFault) → Parsed text (Err fault) → (other : ConfigFault) → IsRefusedFor text other → (fault ≡ Memory → ⊥) → fault ≡ other
other_reason text fault p Long long other = same_fault fault Long (p.long.1 long)
other_reason text fault p (Syntax at) h other = p.only_syntax at h.0 h.1 other
other_reason text fault p (Deep at) h other = p.only_deep at h.0 h.1 other
other_reason text fault p Memory h other = absurd h

-- and that this is the one reason
pub only_reason : (text : List ℕ) (fault : ConfigFault) → Parsed text (Err fault) → (other : ConfigFault) → IsRefusedFor text other → (fault ≡ Memory) ⊎ (fault ≡ other)
only_reason text fault p other h = by (is_memory fault)
  where
    by : (fault ≡ Memory) ⊎ (fault ≡ Memory → ⊥) → (fault ≡ Memory) ⊎ (fault ≡ other)
    by (inl memory) = inl memory
    by (inr not) = inr (other_reason text fault p other h not)
