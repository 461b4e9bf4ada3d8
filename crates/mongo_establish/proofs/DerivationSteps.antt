-- How far the plan of a login's key was followed and what that took, carried over from a part of the plan to the whole.
use Rattle.std.proofs.Common.{◌≡◌, ℤ, ◌⊎◌, inl, inr, Option, List}
use Rattle.mongo_wire.specs.declared.error.ErrorKind.{ErrorKind}
use Rattle.mongo_wire.specs.declared.error.ErrorKind.TheVariants.{OutOfMemory}
use Rattle.mongo_wire.specs.Outside.{State}
use Rattle.mongo_command.specs.Conversation.{Event, Turn, Plan, followed_by, Reached, Stopped}
use Rattle.mongo_command.specs.Exchange.{Point, point}
use Rattle.mongo_command.proofs.Steps.{reached_more, stopped_more}
use Rattle.mongo_command.proofs.FollowedBy.{reached_both, stopped_second}
use Rattle.mongo_scram.specs.declared.cache.SaltedKey.{SaltedKey}
use Rattle.mongo_scram.specs.Costs.{Checkpoint, checkpoint, CostsNothing}
use Rattle.mongo_establish.specs.KeyCosts.{AcceptedKeyCosts, RefusedKeyCosts}

-- ---- how far the plan was followed

-- it was followed to its end, and what came after it was accepted
pub record KeyStored (plan : Plan (Option SaltedKey)) (old new : Checkpoint) : Type 0 where
  pub key : Option SaltedKey
  pub middle : Point
  pub reached : Reached plan key old.point middle
  pub takes : AcceptedKeyCosts key old.ledgers new.ledgers

-- it was followed to its end, and what came after it was refused; memory may have run out before the key was derived
pub record SpentAfterKey (plan : Plan (Option SaltedKey)) (kind : ErrorKind) (old new : Checkpoint) : Type 0 where
  pub key : Option SaltedKey
  pub middle : Point
  pub reached : Reached plan key old.point middle
  pub takes : RefusedKeyCosts key old.ledgers new.ledgers ⊎ ((kind ≡ OutOfMemory) × CostsNothing old.ledgers new.ledgers)

-- it was stopped, and nothing was derived
pub record SpentBeforeKey (plan : Plan (Option SaltedKey)) (kind : ErrorKind) (old new : Checkpoint) : Type 0 where
  pub stopped : Stopped plan kind old.point new.point
  pub nothing : CostsNothing old.ledgers new.ledgers

abbrev pub KeySpent : Plan (Option SaltedKey) → ErrorKind → Checkpoint → Checkpoint → Type 0
KeySpent plan kind old new = SpentBeforeKey plan kind old new ⊎ SpentAfterKey plan kind old new

-- ---- a plan that tells more

-- each turn of the one is a turn of the other
abbrev pub TellsMore : {A : Type 0} → Plan A → Plan A → Type 0
TellsMore {A} plan other = (past : List Event) (turn : Turn A) → plan past turn → other past turn

pub taken_more : (plan other : Plan (Option SaltedKey)) (old new : Checkpoint) → TellsMore plan other → KeyStored plan old new → KeyStored other old new
taken_more plan other old new more a = record {
  key = a.key;
  middle = a.middle;
  reached = reached_more plan other a.key old.point.state a.middle.state old.point.id a.middle.id more a.reached;
  takes = a.takes;
}

pub spent_more : (plan other : Plan (Option SaltedKey)) (kind : ErrorKind) (old new : Checkpoint) → TellsMore plan other → KeySpent plan kind old new → KeySpent other kind old new
spent_more plan other kind old new more r =
    elim r [
      | inl early ↦ inl (record { stopped = (early.stopped.0, stopped_more plan other kind old.point.state new.point.state old.point.id new.point.id more early.stopped.1); nothing = early.nothing })
      | inr late ↦ inr (record { key = late.key; middle = late.middle; reached = reached_more plan other late.key old.point.state late.middle.state old.point.id late.middle.id more late.reached; takes = late.takes })
    ]

-- ---- a plan, and then that of the key

pub taken_after : {A : Type 0} (plan : Plan A) (next : A → Plan (Option SaltedKey)) (answer : A) (middle : State) (between : ℤ) (old new : Checkpoint)
    → Reached plan answer old.point (point middle between) → KeyStored (next answer) (checkpoint (point middle between) old.ledgers) new → KeyStored (followed_by plan next) old new
taken_after plan next answer middle between old new r a = record {
  key = a.key;
  middle = a.middle;
  reached = reached_both plan next answer a.key old.point.state middle a.middle.state old.point.id between a.middle.id r a.reached;
  takes = a.takes;
}

pub spent_after : {A : Type 0} (plan : Plan A) (next : A → Plan (Option SaltedKey)) (answer : A) (kind : ErrorKind) (middle : State) (between : ℤ) (old new : Checkpoint)
    → Reached plan answer old.point (point middle between) → KeySpent (next answer) kind (checkpoint (point middle between) old.ledgers) new → KeySpent (followed_by plan next) kind old new
spent_after plan next answer kind middle between old new r s =
    elim s [
      | inl early ↦ inl (record { stopped = (early.stopped.0, stopped_second plan next answer kind old.point.state middle new.point.state old.point.id between new.point.id r early.stopped.1); nothing = early.nothing })
      | inr late ↦ inr (record { key = late.key; middle = late.middle; reached = reached_both plan next answer late.key old.point.state middle late.middle.state old.point.id between late.middle.id r late.reached; takes = late.takes })
    ]
