-- What the stance of a seat says.
use Rattle.std.proofs.Common.{◌≡◌, ◌==◌, if◌then◌else◌, ℕ, Bool, true, false, List, [], ◌∷◌, refl, ap, ◌∙◌, arith, length, ◌≤◌}
use Rattle.std.proofs.lemmas.Bool.{eqb-true}
use Rattle.atomic_table.specs.Table.{Me}
use Rattle.batch_shop.specs.Rule.{MessageSlot, Carries, Free, IsIdle, IsOut, stance, job_in}
use Rattle.batch_shop.specs.declared.rule.View.{View}
use Rattle.batch_shop.specs.declared.rule.View.TheVariants as view

module _ {T D : Type 0} where
  pub idle_of : (v : View T) (held : List (ℕ × MessageSlot T D)) → stance (v, held) ≡ 1 → IsIdle (v, held)
  idle_of view.Alone held e = absurd (omega (arith, e))
  idle_of view.Ready held e = absurd (omega (arith, e))
  idle_of (view.Idle n) [] e = absurd (omega (arith, e))
  idle_of (view.Idle n) (x ∷ []) e = by (x.0 == 0) refl e
    where
      by : (b : Bool) → (x.0 == 0) ≡ b → ◌≡◌ {A = ℕ} (if b then 1 else 0) 1 → IsIdle (view.Idle n, x ∷ [])
      by true z f = (n, x.1, λ i. (view.Idle n, (eqb-true x.0 0 z i, x.1) ∷ []))
      by false z f = absurd (omega (arith, f))
  idle_of (view.Idle n) (x ∷ y ∷ xs) e = absurd (omega (arith, e))
  idle_of (view.Out j n) [] e = absurd (omega (arith, e))
  idle_of (view.Out j n) (x ∷ xs) e = absurd (omega (arith, e))
  idle_of (view.Closed n) held e = absurd (omega (arith, e))
  idle_of view.Waiting held e = absurd (omega (arith, e))
  idle_of (view.Working j) held e = absurd (omega (arith, e))

  pub out_of : (v : View T) (held : List (ℕ × MessageSlot T D)) → stance (v, held) ≡ 2 → IsOut (v, held)
  out_of view.Alone held e = absurd (omega (arith, e))
  out_of view.Ready held e = absurd (omega (arith, e))
  out_of (view.Idle n) [] e = absurd (omega (arith, e))
  out_of (view.Idle n) (x ∷ []) e = by (x.0 == 0) e
    where
      by : (b : Bool) → ◌≡◌ {A = ℕ} (if b then 1 else 0) 2 → IsOut (view.Idle n, x ∷ [])
      by true f = absurd (omega (arith, f))
      by false f = absurd (omega (arith, f))
  out_of (view.Idle n) (x ∷ y ∷ xs) e = absurd (omega (arith, e))
  out_of (view.Out j n) [] e = (j, n, refl)
  out_of (view.Out j n) (x ∷ xs) e = absurd (omega (arith, e))
  out_of (view.Closed n) held e = absurd (omega (arith, e))
  out_of view.Waiting held e = absurd (omega (arith, e))
  out_of (view.Working j) held e = absurd (omega (arith, e))

  pub idle_stands : (m : Me (MessageSlot T D) (View T)) (n : ℕ) (x : MessageSlot T D) → m ≡ Carries (view.Idle n) x → stance m ≡ 1
  idle_stands m n x e = ap stance e

  pub out_stands : (m : Me (MessageSlot T D) (View T)) (j : T) (n : ℕ) → m ≡ Free (view.Out j n) → stance m ≡ 2
  out_stands m j n e = ap stance e

  pub idle_has_none : (m : Me (MessageSlot T D) (View T)) → IsIdle m → job_in m.0 ≡ []
  idle_has_none m h = ap (λ k. job_in k.0) h.2

  pub idle_by : (m : Me (MessageSlot T D) (View T)) (out : Bool) → stance m ≡ (if out then 2 else 1) → out ≡ false → IsIdle m
  idle_by m out e f = idle_of m.0 m.1 (e ∙ ap (λ b. if b then 2 else 1) f)

  pub out_by : (m : Me (MessageSlot T D) (View T)) (out : Bool) → stance m ≡ (if out then 2 else 1) → out ≡ true → IsOut m
  out_by m out e f = out_of m.0 m.1 (e ∙ ap (λ b. if b then 2 else 1) f)

  pub out_has_one : (m : Me (MessageSlot T D) (View T)) → IsOut m → length (job_in m.0) ≡ 1
  out_has_one m h = ap (λ k. length (job_in k.0)) h.2

module _ {T : Type 0} where
  pub one_job : (v : View T) → length (job_in v) ≤ 1
  one_job view.Alone = omega arith
  one_job view.Ready = omega arith
  one_job (view.Idle n) = omega arith
  one_job (view.Out j n) = omega arith
  one_job (view.Closed n) = omega arith
  one_job view.Waiting = omega arith
  one_job (view.Working j) = omega arith
