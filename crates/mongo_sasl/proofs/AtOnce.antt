-- A plan that is refused before any exchange, part of the plan by part: it leaves everything as it was.
use Rattle.std.proofs.Common.{◌≡◌, ℕ, ℤ, refl, sym, subst, inl, inr, Option, None, Result, Ok, Err, List, [], IfErr}
use Rattle.mongo_wire.specs.declared.error.Error.{Error}
use Rattle.mongo_wire.specs.declared.error.ErrorKind.{ErrorKind}
use Rattle.mongo_wire.specs.Outside.{State}
use Rattle.mongo_command.specs.Conversation.{Said, Turn, says, refuses, ends, Plan, saying, followed_by, plain_message, StoppedKeeping}
use Rattle.mongo_command.specs.Exchange.{CountsStay, Exchanges, ExchangeRefused, point}
use Rattle.mongo_command.proofs.Steps.{stopped_memory, stopped_later}
use Rattle.mongo_command.proofs.Talked.{nothing_said, still_counts, exchange_stopped, turn_stopped}
use Rattle.mongo_sasl.specs.Stops.{RefusedAtOnce, BeginsTooLong}

-- a refusal at once of what is a part of a plan
pub at_once_by : {A B : Type 0} (plan : Plan A) (other : Plan B) (kind : ErrorKind) → (plan [] (refuses kind) → other [] (refuses kind)) → ((said : Said) → plan [] (says said) → other [] (says said)) → RefusedAtOnce plan kind → RefusedAtOnce other kind
at_once_by plan other kind refusal command (inl is) = inl (refusal is)
at_once_by plan other kind refusal command (inr (inl memory)) = inr (inl memory)
at_once_by plan other kind refusal command (inr (inr begins)) = inr (inr (record { said = begins.said; turn = command begins.said begins.turn; long = begins.long; kind_is = begins.kind_is }))

pub at_once_more : {A : Type 0} (plan other : Plan A) (kind : ErrorKind) → ((turn : Turn A) → plan [] turn → other [] turn) → RefusedAtOnce plan kind → RefusedAtOnce other kind
at_once_more plan other kind more r = at_once_by plan other kind (more (refuses kind)) (λ said. more (says said)) r

-- a command that is too long is refused before it is sent
too_long_refused : {A : Type 0} (plan : Plan A) (kind : ErrorKind) (old : State) (before : ℤ) (b : BeginsTooLong plan kind) → ExchangeRefused kind b.said.maximum (plain_message b.said.document) (point old before) (point old before) None
too_long_refused plan kind old before b =
    subst (λ k. ExchangeRefused k b.said.maximum (plain_message b.said.document) (point old before) (point old before) None) (sym b.kind_is) (inl (b.long, record { link = refl; ids = refl; kept_is = refl }))

-- it leaves everything as it was
pub at_once_keeping : {A : Type 0} (plan : Plan A) (kind : ErrorKind) (old : State) (before : ℤ) → RefusedAtOnce plan kind → StoppedKeeping plan kind (point old before) (point old before) None
at_once_keeping plan kind old before (inl is) = turn_stopped plan kind [] old old before before (nothing_said plan old before) (inl is)
at_once_keeping plan kind old before (inr (inl memory)) = stopped_memory plan kind old before memory
at_once_keeping plan kind old before (inr (inr b)) = exchange_stopped plan kind [] b.said old old old before before before None (nothing_said plan old before) b.turn (too_long_refused plan kind old before b) (still_counts old)

-- a stop that leaves no fault, over a connection that keeps none
pub keeping_none : {T A : Type 0} (r : Result T Error) (plan : Plan A) (old new : State) (before after : ℤ) (kept : Option ErrorKind) → kept ≡ None → IfErr r (λ e. StoppedKeeping plan e.kind (point old before) (point new after) None) → IfErr r (λ e. StoppedKeeping plan e.kind (point old before) (point new after) kept)
keeping_none (Ok x) plan old new before after kept none stopped = tt
keeping_none (Err e) plan old new before after kept none stopped = subst (StoppedKeeping plan e.kind (point old before) (point new after)) (sym none) stopped

-- after an exchange the plan of its reply refuses at once
pub refused_later : {A : Type 0} (s : Said) (plan : List ℕ → Plan A) (reply : List ℕ) (kind : ErrorKind) (old new : State) (before after : ℤ)
    → Exchanges s.maximum (plain_message s.document) (point old before) (point new after) reply → CountsStay old new → RefusedAtOnce (plan reply) kind → StoppedKeeping (saying s plan) kind (point old before) (point new after) None
refused_later s plan reply kind old new before after e counts r = stopped_later s plan reply kind old new new before after after e counts (at_once_keeping (plan reply) kind new after r)

-- of a plan and then the plan of its answer, either refuses at once
pub at_once_first : {A B : Type 0} (plan : Plan A) (next : A → Plan B) (kind : ErrorKind) → RefusedAtOnce plan kind → RefusedAtOnce (followed_by plan next) kind
at_once_first plan next kind r = at_once_by plan (followed_by plan next) kind (λ is. (refuses kind, is, refl)) (λ said is. (says said, is, refl)) r

pub at_once_second : {A B : Type 0} (plan : Plan A) (next : A → Plan B) (answer : A) (kind : ErrorKind) → plan [] (ends answer) → RefusedAtOnce (next answer) kind → RefusedAtOnce (followed_by plan next) kind
at_once_second plan next answer kind ended r = at_once_by (next answer) (followed_by plan next) kind (λ is. (ends answer, ended, is)) (λ said is. (ends answer, ended, is)) r
