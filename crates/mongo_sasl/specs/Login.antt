-- A login over told bytes: the bytes that are one, and what a call answers by where they lead its plan.
use Rattle.std.specs.Prelude.{◌≡◌, ℕ, ℤ, ◌⊎◌, Result, Ok, Err, List, [], ◌∷◌, ◌++◌}
use Rattle.mongo_wire.specs.declared.error.Error.{Error}
use Rattle.mongo_wire.specs.declared.error.ErrorKind.TheVariants.{OutOfMemory}
use Rattle.mongo_wire.specs.Bytes.{IsSentWithin, IsWholeWithin}
use Rattle.mongo_command.specs.Conversation.{Said, exchanged, Turn, refuses, ends, Plan, Talked, LeftBy}
use Rattle.mongo_command.specs.Exchange.{Point}
use Rattle.mongo_command.specs.Helper.{Given}

-- a login whose mechanism asks no helper, as a relation that takes what one gave
abbrev pub unasked : (List (List ℕ) → List (List ℕ) → Type 0) → List Given → List (List ℕ) → List (List ℕ) → Type 0
unasked IsLogin given commands replies = (given ≡ []) × IsLogin commands replies

-- There are answers of a helper, commands and replies of a login: the commands can be sent, and the replies' frames stand at the
-- front of the bytes.
pub record HasLogin (IsLogin : List Given → List (List ℕ) → List (List ℕ) → Type 0) (maximum first_id : ℤ) (bytes : List ℕ) : Type 0 where
  pub given : List Given
  pub commands : List (List ℕ)
  pub replies : List (List ℕ)
  pub is_login : IsLogin given commands replies
  pub sent : List ℕ
  pub is_sent : IsSentWithin maximum maximum commands first_id sent
  pub taken : List ℕ
  pub rest : List ℕ
  pub joined : bytes ≡ taken ++ rest
  pub is_taken : IsWholeWithin maximum maximum replies taken

-- An answer by what the bytes lead to where a helper gives the first list, which is what it gave: just that end or that refusal,
-- and the link is left as it says. Want of memory may come in place of it.
abbrev pub AnswersLed : {T A : Type 0} → List Given → List Given → Result T Error → Turn A → List Said → List ℕ → Point → Point → Type 0
AnswersLed {T} {A} granted given (Ok accepted) outcome commands unread old new = (answer : A) × (granted ≡ given) × (outcome ≡ ends answer) × LeftBy commands unread old new
AnswersLed granted given (Err e) outcome commands unread old new = (e.kind ≡ OutOfMemory) ⊎ ((granted ≡ given) × (outcome ≡ refuses e.kind) × LeftBy commands unread old new)

-- The plan was followed to its end by one exchange, and this document was the reply.
pub record EndsByReply {A : Type 0} (plan : Plan A) (answer : A) (document : List ℕ) (old new : Point) : Type 0 where
  pub said : Said
  pub talked : Talked plan (exchanged said document ∷ []) old new
  pub answer_is : plan (exchanged said document ∷ []) (ends answer)
