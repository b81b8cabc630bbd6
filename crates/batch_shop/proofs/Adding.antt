-- What workers add, one after another.
use Rattle.std.proofs.Common.{◌≡◌, ◌≤◌, ◌+◌, List, [], ◌∷◌, ◌++◌, length, length-append, append_assoc, flat_map, reverse, refl, sym, ap, subst, ◌∙◌, arith}
use Rattle.std.proofs.lemmas.List.{append-nil}
use Rattle.std.proofs.lemmas.Grind.{flat_map-append, reverse_onto}
use Rattle.std.specs.List.{AllZip}
use Rattle.batch_shop.specs.Desks.{job_out}
use Rattle.batch_shop.specs.Adding.{AddsResult}
use Rattle.batch_shop.specs.declared.worker_slot.WorkerSlot.{WorkerSlot}

module _ {T D : Type 0} where
  zip_more : (gives : T → D → Type 0) (js : List T) (ds : List D) (j : T) (d : D) → AllZip gives js ds → gives j d → AllZip gives (js ++ j ∷ []) (ds ++ d ∷ [])
  zip_more gives [] [] j d z h = (h, tt)
  zip_more gives [] (x ∷ ds) j d z h = absurd z
  zip_more gives (i ∷ js) [] j d z h = absurd z
  zip_more gives (i ∷ js) (x ∷ ds) j d z h = (z.0, zip_more gives js ds j d z.1 h)

  -- the jobs that came home, the last worker's first, with their results
  pub record Homes (gives : T → D → Type 0) (all : List T) (left : List (WorkerSlot T D)) (dones : List D) : Type 0 where
    pub home : List T
    pub split : all ≡ flat_map job_out left ++ home
    pub results : AllZip gives (reverse home) dones

  pub one_home : (gives : T → D → Type 0) (all : List T) (left : List (WorkerSlot T D)) (d : WorkerSlot T D) (old new : List D) → Homes gives all (left ++ d ∷ []) old
      → AddsResult gives (job_out d) old new → Homes gives all left new
  one_home gives all left d old new h adds = by (job_out d) refl adds
    where
      whole : all ≡ flat_map job_out left ++ (job_out d ++ h.home)
      whole = h.split ∙ ap (λ l. l ++ h.home) (flat_map-append job_out left (d ∷ []) ∙ ap (λ l. flat_map job_out left ++ l) (append-nil (job_out d)))
          ∙ append_assoc (flat_map job_out left) (job_out d) h.home

      by : (js : List T) → job_out d ≡ js → AddsResult gives js old new → Homes gives all left new
      by [] e a = record {
        home = h.home;
        split = whole ∙ ap (λ l. flat_map job_out left ++ (l ++ h.home)) e;
        results = subst (λ l. AllZip gives (reverse h.home) l) (sym a) h.results;
      }
      by (j ∷ []) e a = record {
        home = j ∷ h.home;
        split = whole ∙ ap (λ l. flat_map job_out left ++ (l ++ h.home)) e;
        results = subst (λ l. AllZip gives (reverse (j ∷ h.home)) l) (sym a.2) (subst (λ l. AllZip gives l (old ++ a.0 ∷ [])) (sym (reverse_onto h.home j [])) (zip_more gives (reverse h.home) old j a.0 h.results a.1));
      }
      by (j ∷ i ∷ js) e a = absurd a

  pub one_more : (gives : T → D → Type 0) (js : List T) (old new : List D) → AddsResult gives js old new → length new ≤ length old + 1
  one_more gives [] old new a = omega (arith, ap length a)
  one_more gives (j ∷ []) old new a = omega (arith, ap length a.2, length-append old (a.0 ∷ []))
  one_more gives (j ∷ i ∷ js) old new a = absurd a
