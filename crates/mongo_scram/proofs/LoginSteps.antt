-- A login, by its opening, its derivation and its closing: where it was accepted, and where it was stopped.
use Rattle.std.proofs.Common.{◌≡◌, ◌⊎◌, ℕ, ℤ, refl, ap, ◌∙◌, subst, inl, inr, Option, None, Some, IsSome, Result, Ok, Err, List, Contains, IfErr, OnOk, OnErr}
use Rattle.mongo_wire.specs.declared.error.Error.{Error}
use Rattle.mongo_wire.specs.declared.error.ErrorKind.{ErrorKind}
use Rattle.mongo_wire.specs.declared.error.ErrorKind.TheVariants.{OutOfMemory}
use Rattle.mongo_wire.specs.declared.frame_buffer.FrameBuffer.{FrameBuffer}
use Rattle.mongo_wire.specs.Buffer.{held_document, IsFrameTaken}
use Rattle.mongo_wire.specs.Outside.{State, risen}
use Rattle.mongo_command.specs.Conversation.{Plan, Reached, StoppedKeeping}
use Rattle.mongo_command.specs.Exchange.{point}
use Rattle.mongo_command.proofs.FollowedBy.{stopped_first, stopped_second}
use Rattle.mongo_sasl.specs.Login.{EndsByReply}
use Rattle.mongo_sasl.specs.Stops.{RefusedAtOnce}
use Rattle.mongo_sasl.proofs.LastReply.{ends_reached}
use Rattle.mongo_scram.specs.declared.cache.SaltedCache.{SaltedCache}
use Rattle.mongo_scram.specs.declared.cache.SaltedKey.{SaltedKey}
use Rattle.mongo_scram.specs.declared.first_round.FirstRound.{FirstRound}
use Rattle.mongo_scram.specs.declared.login.Opened.{Opened}
use Rattle.mongo_scram.specs.Cache.{entries_of, rounds_of, Adds}
use Rattle.mongo_scram.specs.Client.{nonce_of, frames_after}
use Rattle.mongo_scram.specs.Costs.{Ledgers, ledgers, Checkpoint, checkpoint, key_by, HasEntry, Derives, SameEntries, CostsNothing, EndsLogin, Accepted, StoppedScram, CloseUnsaid, ScramRefused, key_for}
use Rattle.mongo_scram.specs.Entry.{salted_of, IsUsable}
use Rattle.mongo_scram.specs.Plan.{Handed, Challenge, salted_by, opening, closing, scram_plan}
use Rattle.mongo_scram.specs.Login.{frames_opened, Opens, IsAnswered}
use Rattle.mongo_scram.specs.User.{User, IsUser}
use Rattle.mongo_scram.proofs.OpeningSteps.{opening_reached, opening_at_once}
use Rattle.mongo_scram.proofs.ScramPlan.{challenge_by_first}

-- ---- between the exchanges

-- the first exchange is over, and the key was derived where it has no entry
pub record IsBetween (handed : Handed) (user : User) (o : Opened) (key : SaltedKey) (tag : List ℕ) (old middle : Checkpoint) : Type 0 where
  pub is_user : IsUser handed.credential user
  pub opens : Opens handed user o old.point middle.point
  pub key_is : key ≡ key_for handed.version user o.server_first
  pub answered : IsAnswered o.server_first (nonce_of o.client_first) handed.max_iterations key tag old.ledgers middle.ledgers

pub between_by : (handed : Handed) (user : User) (o : Opened) (key : SaltedKey) (tag nonce : List ℕ) (old middle : Checkpoint) → IsUser handed.credential user → Opens handed user o old.point middle.point → nonce ≡ nonce_of o.client_first → key ≡ key_for handed.version user o.server_first
    → IsAnswered o.server_first nonce handed.max_iterations key tag old.ledgers middle.ledgers → IsBetween handed user o key tag old middle
between_by handed user o key tag nonce old middle is_user opens same key_is answered =
    record { is_user = is_user; opens = opens; key_is = key_is; answered = subst (λ n. IsAnswered o.server_first n handed.max_iterations key tag old.ledgers middle.ledgers) same answered }

-- ---- what was kept

-- the rounds that were counted are those, whatever was put in
kept_derives : (key : SaltedKey) (first last : Ledgers) (kept : SaltedCache) → rounds_of kept ≡ rounds_of last.cache → Derives key first last → Derives key first (ledgers last.steps kept)
kept_derives key first last kept same (inl had) = inl (had.0, record { steps = had.1.steps; rounds_are = same ∙ had.1.rounds_are })
kept_derives key first last kept same (inr derived) = inr (derived.0, record { steps = derived.1.steps; rounds_are = same ∙ derived.1.rounds_are })

-- a plan that was followed to its end, where memory ran out then
reached_stopped : {A : Type 0} (plan : Plan A) (answer : A) (kind : ErrorKind) (old new : State) (before after : ℤ) → kind ≡ OutOfMemory → Reached plan answer (point old before) (point new after) → StoppedKeeping plan kind (point old before) (point new after) None
reached_stopped plan answer kind old new before after memory r =
    record { events = r.events; middle = point new after; talked = r.talked; given_is = r.given_is; stop = inl (record { cause = inr memory; link = refl; ids = refl }, refl) }

abbrev Kept : SaltedKey → SaltedCache → SaltedCache → Type 0
Kept key old new = (HasEntry old key × (entries_of new ≡ entries_of old)) ⊎ Adds (entries_of old) (entries_of new) (key, salted_of key)

kept_entries : (key : SaltedKey) (first last : Ledgers) (kept : SaltedCache) → SameEntries first last → Kept key last.cache kept → (HasEntry first.cache key × SameEntries first (ledgers last.steps kept)) ⊎ Adds (entries_of first.cache) (entries_of kept) (key, salted_of key)
kept_entries key first last kept same (inl had) = inl ((had.0.0, subst (λ es. Contains es (key, had.0.0)) same had.0.1), had.1 ∙ same)
kept_entries key first last kept same (inr adds) = inr (subst (λ es. Adds es (entries_of kept) (key, salted_of key)) same adds)

-- ---- where it was stopped

-- and what that leaves the connection to keep
abbrev pub StopsScram : Handed → ErrorKind → Option ErrorKind → Checkpoint → Checkpoint → Type 0
StopsScram handed kind kept old new = StoppedScram handed kind old new × StoppedKeeping (scram_plan handed) kind old.point new.point kept

-- in its opening
pub stopped_early : {kept : Option ErrorKind} (handed : Handed) (kind : ErrorKind) (old new : Checkpoint) → StoppedKeeping (opening handed) kind old.point new.point kept → CostsNothing old.ledgers new.ledgers → StopsScram handed kind kept old new
stopped_early {kept = kept} handed kind old new s nothing =
    (inl ((kept, s), nothing), stopped_first (opening handed) (closing handed) kind old.point.state new.point.state old.point.id new.point.id s)

-- ---- from between the exchanges

module _ (handed : Handed) (user : User) (o : Opened) (key : SaltedKey) (tag : List ℕ) (old middle : Checkpoint) (is : IsBetween handed user o key tag old middle) where
  abbrev challenge : Challenge
  challenge = challenge_by_first user o.server_first

  pub between_tag : tag ≡ salted_by handed challenge
  between_tag = is.answered.tag_is ∙ ap salted_of is.key_is

  usable : IsUsable (key_by handed challenge)
  usable = subst IsUsable is.key_is is.answered.usable

  opening_followed : Reached (opening handed) challenge old.point middle.point
  opening_followed = opening_reached handed user o old.point.state middle.point.state old.point.id middle.point.id is.is_user is.opens is.answered.valid usable.password

  derived : Derives (key_by handed challenge) old.ledgers middle.ledgers
  derived = subst (λ k. Derives k old.ledgers middle.ledgers) is.key_is is.answered.derived

  -- a stop of the closing
  pub stopped_late : {kept : Option ErrorKind} (kind : ErrorKind) (new : State) (after : ℤ) (last : SaltedCache) → Derives (key_by handed challenge) old.ledgers (ledgers middle.ledgers.steps last) → SameEntries old.ledgers (ledgers middle.ledgers.steps last)
      → StoppedKeeping (closing handed challenge) kind middle.point (point new after) kept → StopsScram handed kind kept old (checkpoint (point new after) (ledgers middle.ledgers.steps last))
  stopped_late {kept = kept} kind new after last derives entries s = (
    inr (record {
      challenge = challenge;
      middle = middle.point;
      opened = opening_followed;
      stopped = (kept, s);
      derived = inl derives;
      entries = entries;
    }),
    stopped_second (opening handed) (closing handed) challenge kind old.point.state middle.point.state new old.point.id middle.point.id after opening_followed s,
  )

  -- one before anything is put in
  pub stopped_between : {kept : Option ErrorKind} (kind : ErrorKind) (new : State) (after : ℤ) → StoppedKeeping (closing handed challenge) kind middle.point (point new after) kept → StopsScram handed kind kept old (checkpoint (point new after) middle.ledgers)
  stopped_between kind new after s = stopped_late kind new after middle.ledgers.cache derived is.answered.entries s

  -- what was derived by a first round that went with the hello, before its last message is said
  pub close_unsaid : IsSome handed.speculated → CloseUnsaid handed old.ledgers middle.ledgers
  close_unsaid some = record {
    challenge = challenge;
    opened = opening_at_once handed user o old.point.state middle.point.state old.point.id middle.point.id some is.is_user is.opens is.answered.valid usable.password;
    derived = derived;
    entries = is.answered.entries;
  }

  pub close_refused : (kind : ErrorKind) → IsSome handed.speculated → RefusedAtOnce (closing handed challenge) kind → ScramRefused handed kind old.ledgers middle.ledgers
  unfolding close_unsaid
  close_refused kind some refused = inr (record { unsaid = close_unsaid some; refused = refused })

  -- ---- after the last exchange

  pub stopped_last : {T : Type 0} (r : Result T Error) (document : List ℕ) (new : State) (after : ℤ) (kept : SaltedCache) → EndsByReply (closing handed challenge) challenge document middle.point (point new after) → rounds_of kept ≡ rounds_of middle.ledgers.cache
      → OnErr r (entries_of kept ≡ entries_of middle.ledgers.cache) → IfErr r (λ e. e.kind ≡ OutOfMemory) → IfErr r (λ e. StopsScram handed e.kind None old (checkpoint (point new after) (ledgers middle.ledgers.steps kept)))
  stopped_last (Ok x) document new after kept closed rounds entries memory = tt
  stopped_last (Err e) document new after kept closed rounds entries memory =
      stopped_late e.kind new after kept (kept_derives (key_by handed challenge) old.ledgers middle.ledgers kept rounds derived) (entries ∙ is.answered.entries)
      (reached_stopped (closing handed challenge) challenge e.kind middle.point.state new middle.point.id after memory (ends_reached (closing handed challenge) challenge document middle.point.state new middle.point.id after closed))

  pub accepted_by : {T : Type 0} (r : Result T Error) (buffer : FrameBuffer) (new : State) (after : ℤ) (kept : SaltedCache) → IsFrameTaken handed.maximum middle.point.state new buffer → EndsByReply (closing handed challenge) challenge (held_document buffer) middle.point (point new after)
      → rounds_of kept ≡ rounds_of middle.ledgers.cache → EndsLogin handed challenge (held_document buffer) → OnOk r (Kept key middle.ledgers.cache kept) → OnOk r (Accepted handed buffer old (checkpoint (point new after) (ledgers middle.ledgers.steps kept)))
  accepted_by (Ok x) buffer new after kept taken closed rounds ends entries =
      record {
        challenge = challenge;
        middle = middle.point;
        opened = opening_followed;
        taken = taken;
        closed = closed;
        ends = ends;
        derived = kept_derives (key_by handed challenge) old.ledgers middle.ledgers kept rounds derived;
        kept = kept_entries (key_by handed challenge) old.ledgers middle.ledgers kept is.answered.entries (subst (λ k. Kept k middle.ledgers.cache kept) is.key_is entries);
      }
  accepted_by (Err e) buffer new after kept taken closed rounds ends entries = tt

-- ---- the buffer, and a fault that is kept

pub frames_both : (round : Option FirstRound) (old middle new : ℕ) → middle ≡ frames_opened round old → new ≡ risen middle → new ≡ frames_after round old
frames_both None old middle new p q = q ∙ ap risen p
frames_both (Some round) old middle new p q = q ∙ ap risen p

-- the entries, where the last step leaves them
pub unchanged_on : {T E : Type 0} {A : Type 0} (r : Result T E) (old middle new : A) → middle ≡ old → OnErr r (new ≡ middle) → OnErr r (new ≡ old)
unchanged_on (Ok x) old middle new p q = tt
unchanged_on (Err e) old middle new p q = q ∙ p
