-- The inputs by some configurations are determined.
use Rattle.std.proofs.Common.{◌≡◌, ◌⊎◌, inl, inr, ℕ, suc, Bool, true, List, [], ◌∷◌, length, map, refl, sym, ap, ap₂, ◌∙◌, subst}
use Rattle.config_tree.specs.declared.tree.Plugin.{Plugin}
use Rattle.history_book.specs.Inputs.{Input, Continues, IsNew, Renumbered, AreInputs, closed, named_from}
use Rattle.history_book.specs.States.{Plan}

continues_one : (p : Plugin) (xs : List Input) (n m : ℕ) (others rest : List Input) → Continues p xs n others → Continues p xs m rest → (n ≡ m) × (others ≡ rest)
continues_one p [] n m others rest a b = absurd a
continues_one p (x ∷ xs) n m others rest (inl a) (inl b) = (a.2 ∙ sym b.2, a.3 ∙ sym b.3)
continues_one p (x ∷ xs) n m others rest (inl a) (inr b) = absurd (b.0 (a.0, a.1))
continues_one p (x ∷ xs) n m others rest (inr a) (inl b) = absurd (a.0 (b.0, b.1))
continues_one p (x ∷ xs) n m others rest (inr a) (inr b) =
    let one = continues_one p xs n m a.1 b.1 a.3 b.3 in (one.0, a.2 ∙ ap (λ l. x ∷ l) one.1 ∙ sym b.2)

continues_old : (p : Plugin) (xs : List Input) (n : ℕ) (others : List Input) → Continues p xs n others → IsNew p xs → ⊥
continues_old p [] n others a new = a
continues_old p (x ∷ xs) n others (inl a) new = new.0 (a.0, a.1)
continues_old p (x ∷ xs) n others (inr a) new = continues_old p xs n a.1 a.3 new.1

input_same : (x y : Input) → x.number ≡ y.number → x.statement ≡ y.statement → x.id ≡ y.id → x.is_open ≡ y.is_open → x ≡ y
input_same x y number statement id open_now =
    ap₂ (λ (n : ℕ) (s : Plugin). record { number = n; statement = s; id = x.id; is_open = x.is_open }) number statement
    ∙ ap₂ (λ (i : List ℕ) (o : Bool). record { number = y.number; statement = y.statement; id = i; is_open = o }) id open_now

renumbered_one : (unused : ℕ) (before : List Input) (ps : List (Plugin × List ℕ)) (now new : List Input) → Renumbered unused before ps now → Renumbered unused before ps new → now ≡ new
renumbered_one unused before [] now new a b = a ∙ sym b
renumbered_one unused before (p ∷ ps) now new a b = both (λ n l x y. renumbered_one n l ps a.1 b.1 x y) a.6 b.6
  where
    whole : a.0.number ≡ b.0.number → a.1 ≡ b.1 → now ≡ new
    whole number rest =
        a.2 ∙ ap₂ (λ (x : Input) (l : List Input). x ∷ l) (input_same a.0 b.0 number (a.3 ∙ sym b.3) (a.4 ∙ sym b.4) (a.5 ∙ sym b.5)) rest ∙ sym b.2

    both : ((n : ℕ) (l : List Input) → Renumbered n l ps a.1 → Renumbered n l ps b.1 → a.1 ≡ b.1)
        → ((others : List Input) × Continues p.0 before a.0.number others × Renumbered unused others ps a.1) ⊎ (IsNew p.0 before × (a.0.number ≡ unused) × Renumbered (suc unused) before ps a.1)
        → ((others : List Input) × Continues p.0 before b.0.number others × Renumbered unused others ps b.1) ⊎ (IsNew p.0 before × (b.0.number ≡ unused) × Renumbered (suc unused) before ps b.1) → now ≡ new
    both rest (inl x) (inl y) =
        let one = continues_one p.0 before a.0.number b.0.number x.0 y.0 x.1 y.1 in
        whole one.0 (rest unused y.0 (subst (λ l. Renumbered unused l ps a.1) one.1 x.2) y.2)
    both rest (inl x) (inr y) = absurd (continues_old p.0 before a.0.number x.0 x.1 y.0)
    both rest (inr x) (inl y) = absurd (continues_old p.0 before b.0.number y.0 y.1 x.0)
    both rest (inr x) (inr y) = whole (x.1 ∙ sym y.1) (rest (suc unused) before x.2 y.2)

pub inputs_one : (plans : List Plan) (now new : List Input) → AreInputs plans now → AreInputs plans new → now ≡ new
inputs_one [] now new a b = a ∙ sym b
inputs_one (plan ∷ plans) now new a b =
    let same = inputs_one plans a.0 b.0 a.1 b.1 in
    renumbered_one (length b.0) b.0 (named_from 1 plan.config.inputs) now new (subst (λ l. Renumbered (length l) l (named_from 1 plan.config.inputs) now) same a.2) b.2
