-- What a login takes of the counter and of the cache: it derives where its key has no entry, and its key is put in once
-- it was accepted.
use Rattle.std.specs.Prelude.{◌≡◌, ℕ, ◌+◌, ◌-◌, ◌^◌, ◌⊎◌, min, None, List, [], Contains}
use Rattle.mongo_bson.specs.declared.owned_value.OwnedValue.{OwnedValue}
use Rattle.mongo_wire.specs.declared.error.ErrorKind.{ErrorKind}
use Rattle.mongo_wire.specs.declared.error.ErrorKind.TheVariants.{OutOfMemory}
use Rattle.mongo_wire.specs.declared.frame_buffer.FrameBuffer.{FrameBuffer}
use Rattle.mongo_wire.specs.Buffer.{held_document, IsFrameTaken}
use Rattle.mongo_command.specs.Conversation.{ends, HasNone, Reached, Stopped}
use Rattle.mongo_command.specs.Exchange.{Point}
use Rattle.mongo_sasl.specs.Stops.{RefusedAtOnce}
use Rattle.mongo_sasl.specs.Login.{EndsByReply}
use Rattle.mongo_scram.specs.declared.cache.SaltedCache.{SaltedCache}
use Rattle.mongo_scram.specs.declared.cache.SaltedKey.{SaltedKey}
use Rattle.mongo_scram.specs.Cache.{entries_of, rounds_of, Adds}
use Rattle.mongo_scram.specs.Entry.{salted_of}
use Rattle.mongo_scram.specs.declared.scram_version.ScramVersion.{ScramVersion}
use Rattle.mongo_scram.specs.declared.server_first.ServerFirst.{ServerFirst}
use Rattle.mongo_scram.specs.declared.server_final.ServerFinal.{ServerFinal}
use Rattle.mongo_scram.specs.Replies.{CarriesFinal}
use Rattle.mongo_scram.specs.Plan.{Handed, Challenge, verifier_by, LastMessageRow, opening, closing}
use Rattle.mongo_scram.specs.User.{User, IsUser}

-- the key that a server's first message asks of a user
abbrev pub key_for : ScramVersion → User → ServerFirst → SaltedKey
key_for version user first = record { version = version; username = user.username; password = user.password; salt = first.salt; count = first.i }

-- the key that a challenge asks for
abbrev pub key_by : Handed → Challenge → SaltedKey
key_by handed c = key_for handed.version c.user c.first

-- the key has an entry
abbrev pub HasEntry : SaltedCache → SaltedKey → Type 0
HasEntry cache key = (tag : List ℕ) × Contains (entries_of cache) (key, tag)

-- a counter and a cache
pub record Ledgers : Type 0 where
  pub steps : ℕ
  pub cache : SaltedCache

abbrev pub ledgers : ℕ → SaltedCache → Ledgers
ledgers steps cache = record { steps = steps; cache = cache }

-- where a login is at a moment: the point of its conversation, and its counter and cache
pub record Checkpoint : Type 0 where
  pub point : Point
  pub ledgers : Ledgers

abbrev pub checkpoint : Point → Ledgers → Checkpoint
checkpoint point ledgers = record { point = point; ledgers = ledgers }

-- so many rounds were derived and counted
pub record Counts (rounds : ℕ) (old new : Ledgers) : Type 0 where
  pub steps : new.steps ≡ old.steps + rounds
  pub rounds_are : rounds_of new.cache ≡ min (rounds_of old.cache + rounds) (2 ^ 64 - 1)

abbrev pub SameEntries : Ledgers → Ledgers → Type 0
SameEntries old new = entries_of new.cache ≡ entries_of old.cache

-- the key was derived exactly where it has no entry
abbrev pub Derives : SaltedKey → Ledgers → Ledgers → Type 0
Derives key old new = (HasEntry old.cache key × Counts 0 old new) ⊎ ((HasEntry old.cache key → ⊥) × Counts key.count old new)

-- nothing was derived, and the entries are as they were
pub record CostsNothing (old new : Ledgers) : Type 0 where
  pub counts : Counts 0 old new
  pub entries : SameEntries old new

-- the document carries a last message of the server that is taken in this conversation, by the verifier that is owed
pub record CarriesValidFinal (conversation : OwnedValue) (owed document : List ℕ) : Type 0 where
  pub last : ServerFinal
  pub carries : CarriesFinal document last
  pub taken : HasNone (LastMessageRow conversation owed last)

-- the one by which a login ends
abbrev pub EndsLogin : Handed → Challenge → List ℕ → Type 0
EndsLogin handed c = CarriesValidFinal c.first.conversation_id (verifier_by handed c)

-- The opening was followed to its end and then the closing, by one exchange, whose reply the buffer holds, the very frame that
-- was taken; the key was derived where it had no entry, and has one now.
pub record Accepted (handed : Handed) (buffer : FrameBuffer) (old new : Checkpoint) : Type 0 where
  pub challenge : Challenge
  pub middle : Point
  pub opened : Reached (opening handed) challenge old.point middle
  pub taken : IsFrameTaken handed.maximum middle.state new.point.state buffer
  pub closed : EndsByReply (closing handed challenge) challenge (held_document buffer) middle new.point
  pub ends : EndsLogin handed challenge (held_document buffer)
  pub derived : Derives (key_by handed challenge) old.ledgers new.ledgers
  pub kept : (HasEntry old.ledgers.cache (key_by handed challenge) × SameEntries old.ledgers new.ledgers) ⊎ Adds (entries_of old.ledgers.cache) (entries_of new.ledgers.cache) (key_by handed challenge, salted_of (key_by handed challenge))

-- the opening was followed to its end, and the closing was stopped
pub record StoppedClosing (handed : Handed) (kind : ErrorKind) (old new : Checkpoint) : Type 0 where
  pub challenge : Challenge
  pub middle : Point
  pub opened : Reached (opening handed) challenge old.point middle
  pub stopped : Stopped (closing handed challenge) kind middle new.point
  -- memory may have run out before the key was derived
  pub derived : Derives (key_by handed challenge) old.ledgers new.ledgers ⊎ ((kind ≡ OutOfMemory) × Counts 0 old.ledgers new.ledgers)
  pub entries : SameEntries old.ledgers new.ledgers

-- Where a login was stopped: in the opening, before anything was derived, or in the closing.
abbrev pub StoppedScram : Handed → ErrorKind → Checkpoint → Checkpoint → Type 0
StoppedScram handed kind old new = (Stopped (opening handed) kind old.point new.point × CostsNothing old.ledgers new.ledgers) ⊎ StoppedClosing handed kind old new

-- ---- over a connection that keeps a fault

-- the credential names a user, whose first message wasn't said yet, and nothing was derived
pub record StartUnsaid (handed : Handed) (earlier later : Ledgers) : Type 0 where
  pub user : User
  pub is_user : IsUser handed.credential user
  pub anew : handed.speculated ≡ None
  pub costs : CostsNothing earlier later

-- the opening ended without an exchange, and the key was derived where it had no entry
pub record CloseUnsaid (handed : Handed) (earlier later : Ledgers) : Type 0 where
  pub challenge : Challenge
  pub opened : opening handed [] (ends challenge)
  pub derived : Derives (key_by handed challenge) earlier later
  pub entries : SameEntries earlier later

-- What a login takes before it answers the fault in place of an exchange: nothing, where that is its first message's; with
-- a first round that went with the hello, what it takes up to its last message.
abbrev pub FaultCosts : Handed → Ledgers → Ledgers → Type 0
FaultCosts handed earlier later = StartUnsaid handed earlier later ⊎ CloseUnsaid handed earlier later

-- the opening ended without an exchange, and then the login was refused before its last
pub record ClosingRefused (handed : Handed) (kind : ErrorKind) (earlier later : Ledgers) : Type 0 where
  pub unsaid : CloseUnsaid handed earlier later
  pub refused : RefusedAtOnce (closing handed unsaid.challenge) kind

-- Where a login is refused before it comes to an exchange: in the opening, before anything was derived, or after that.
abbrev pub ScramRefused : Handed → ErrorKind → Ledgers → Ledgers → Type 0
ScramRefused handed kind earlier later = (RefusedAtOnce (opening handed) kind × CostsNothing earlier later) ⊎ ClosingRefused handed kind earlier later
