-- What the steps of a delivery make of a bulk output.
use Rattle.std.specs.Prelude.{◌≡◌, ℕ, List, ◌++◌, length, map, Option, Some, None, option_map, Result, Ok, Err, Contains}
use Rattle.std.specs.declared.alloc.AllocError.{AllocError}
use Rattle.io_traits.specs.Counts.{one_more}
use Rattle.bulk_replies.specs.Answers.{Answer, said_of}
use Rattle.bulk_replies.specs.Replies.{IsGood}
use Rattle.bulk_replies.specs.declared.item_result.ItemResult.{ItemResult}
use Rattle.event_tree.specs.Events.{Ev}
use Rattle.foreign_parts.specs.Delivering.{taken}
use Rattle.foreign_parts.specs.declared.output.Delivery.{Delivery}
use Rattle.foreign_parts.specs.declared.output.Delivery.TheVariants as d
use Rattle.out_bulk.specs.Batches.{IsKept, nothing_kept}
use Rattle.out_bulk.specs.Deliveries.{Standing}
use Rattle.out_bulk.specs.Exchanges.{Exchange, exchange}
use Rattle.out_bulk.specs.Fates.{Settled, all_settled, open_in}
use Rattle.out_bulk.specs.Requests.{request_of}
use Rattle.out_bulk.specs.Settings.{bulk_of, target_of}
use Rattle.out_bulk.specs.declared.settings.BulkSettings.{BulkSettings}
use Rattle.config_tree.specs.Joining.{Entries}

module _ {Q : Type 0} (asked : Q → Option (List Exchange)) (events : List Ev) where
  -- the events that aren't settled were sent, and a good reply says this of them
  pub record WasAnswered (s : Standing Q) (said : List ItemResult) : Type 0 where
    pub of_these : IsKept s.target (asked s.peer) (record { events = events; settled = s.kept.settled })
    pub reply : List ℕ
    pub answers : List Answer
    pub made : (told : List Exchange) → asked s.peer ≡ Some told → Contains told (exchange s.target.host (request_of s.target (open_in events s.kept.settled)) (Some reply))
    pub good : IsGood (length (open_in events s.kept.settled)) reply answers
    pub said_is : said ≡ map said_of answers

-- it aims at what the settings say, and keeps nothing of a batch
pub record IsConfigured {Q : Type 0} (entries : Entries) (old new : Standing Q) : Type 0 where
  pub settings : BulkSettings
  pub made : bulk_of entries ≡ Ok settings
  pub state : new ≡ record old { target = target_of (Some settings); kept = nothing_kept }

-- with these fates the batch is finished, or it is put off; memory may run out in the place of both
abbrev pub Settling : {Q : Type 0} → List Ev → Settled → Standing Q → Standing Q → Result Delivery AllocError → Type 0
Settling events all old new (Ok (d.Took fates)) = (all_settled all ≡ Some fates) × (new ≡ record old { kept = nothing_kept; held = option_map (λ held. held ++ taken fates events) old.held })
Settling events all old new (Ok d.Later) = (all_settled all ≡ None) × (new ≡ record old { kept = record { events = events; settled = all }; laters = one_more old.laters })
Settling events all old new (Err e) = new ≡ old
