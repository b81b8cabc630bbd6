-- An end of a ring with the count of its misses.
use Rattle.std.specs.Prelude.{◌≡◌, ℕ, List, [], ◌∷◌, ◌++◌, Option, Some, None}
use Rattle.io_traits.specs.Counts.{one_more}
use Rattle.rtrb.specs.Ring.{sent, received}
use Rattle.rtrb.specs.declared.producer.Producer.{Producer}
use Rattle.rtrb.specs.declared.consumer.Consumer.{Consumer}
use Rattle.pipeline_bus.specs.declared.counted.CountedEnd.{CountedEnd}

module _ {E : Type 0} where
  -- the end of the ring itself
  abbrev pub ring : CountedEnd E → E
  ring e = e.end

  -- how many calls found no free slot, or no item
  abbrev pub misses : CountedEnd E → ℕ
  misses e = e.misses

module _ {T A P : Type 0} where
  abbrev pub pushed : CountedEnd (Producer T A P) → List T
  pushed e = sent (ring e)

  abbrev pub popped : CountedEnd (Consumer T A P) → List T
  popped e = received (ring e)

  -- a push: the value is in the ring, or it came back and one more call missed
  abbrev pub Pushes : Option T → T → CountedEnd (Producer T A P) → CountedEnd (Producer T A P) → Type 0
  Pushes None value old new = (pushed new ≡ pushed old ++ value ∷ []) × (misses new ≡ misses old)
  Pushes (Some back) value old new = (back ≡ value) × (pushed new ≡ pushed old) × (misses new ≡ one_more (misses old))

  -- a pop: a value came out, or none did and one more call missed
  abbrev pub Pops : Option T → CountedEnd (Consumer T A P) → CountedEnd (Consumer T A P) → Type 0
  Pops (Some value) old new = (popped new ≡ popped old ++ value ∷ []) × (misses new ≡ misses old)
  Pops None old new = (popped new ≡ popped old) × (misses new ≡ one_more (misses old))
