-- A request that was cut, and why.
use Rattle.std.specs.Prelude.{◌≡◌, ℕ, ℤ, pos, ◌<◌, ◌≤◌, ◌≤ℤ◌, ◌⊎◌, Option, Some, List, [], ◌++◌, length, IfSome}
use Rattle.std.specs.List.{AllByRecursion}
use Rattle.std.specs.Io.KnownBytes.{Consumes, Appends}
use Rattle.mongo_wire.specs.Header.{code_number, signed_at}
use Rattle.mongo_wire.specs.Outside.{State, Rose, FailsToRead, MeetsEnd, Unstopped}
use Rattle.mongo_wire.specs.Rows.{IsStarted, IsEmptied}
use Rattle.mongo_wire.specs.declared.op_code.OpCode.TheVariants.{Query}
use Rattle.mongo_service.specs.declared.fault.ServeFault.{ServeFault}
use Rattle.mongo_service.specs.declared.fault.ServeFault.TheVariants.{ReadFault, WriteFault, CutFrame, NoFrame, NoHello, ReplyTooLong, TooManyRequests, OutOfMemory}
use Rattle.mongo_session.specs.declared.reply.Reply.{Reply}
use Rattle.mongo_session.specs.declared.session.Session.{Session}
use Rattle.mongo_session.specs.declared.serve_settings.ServeSettings.{ServeSettings}
use Rattle.mongo_session.specs.Answers.{IsDocumentAnswered}
use Rattle.mongo_session.specs.Login.{HasLoggedIn}
use Rattle.mongo_server.specs.Announced.{maximum_message_length}
use Rattle.mongo_session.specs.Replies.{document_of_served}
use Rattle.mongo_session.specs.Requests.{IsHello}
use Rattle.mongo_service.specs.Juncture.{Basis, Juncture, user_at}
use Rattle.mongo_service.specs.Sent.{CutsMessage, CutsQuery, IsLongMessage, IsLongReply}
use Rattle.mongo_service.specs.Spent.{SpendsRounds}
use Rattle.mongo_service.specs.Taken.{CarriesRequest, IsMessage, IsQuery}
use Rattle.mongo_service.specs.ServedRequests.{ServedRequest, IsRequestTaken, joined_frames, documents, sent_for}

-- ---- a frame whose answer was cut

-- what was sent is a front of what answers the frame with a reply
abbrev pub CutsIn : ServedRequest → Reply → ℤ → Type 0
CutsIn request reply id =
    CutsMessage request.frame request.document reply id request.sent ⊎ (IsQuery request.frame request.document × IsHello request.document × CutsQuery request.frame reply id request.sent)

-- the reply is longer than what answers the frame may be
abbrev pub IsLong : ServedRequest → Reply → Type 0
IsLong request reply =
    (IsMessage request.frame request.document × IsLongMessage (document_of_served reply)) ⊎ (IsQuery request.frame request.document × IsLongReply (document_of_served reply))

-- the request was answered by the session, which has this user then, and the reply sent in part, for this fault; of one that is too long
-- nothing is sent
pub record IsCutRequest (settings : ServeSettings) (before : Basis) (user : Option (List ℕ)) (fault : Option ServeFault) (request : ServedRequest) : Type 0 where
  pub is_taken : IsRequestTaken request
  pub after : Session
  pub reply : Reply
  pub answered : IsDocumentAnswered settings before.session request.document after reply
  pub user_is : user ≡ after.user
  pub sent : CutsIn request reply before.id
  pub too_long : fault ≡ Some ReplyTooLong → IsLong request reply × (request.sent ≡ [])

-- ---- bytes that were taken and not answered

-- a front of an OP_QUERY that is no longer than the greatest frame
pub record IsQueryFront (bytes : List ℕ) : Type 0 where
  pub head : List ℕ
  pub rest : List ℕ
  pub spelled : bytes ≡ head ++ rest
  pub sixteen : length head ≡ 16
  pub code : signed_at 12 head ≡ code_number Query
  pub front : pos (length bytes) ≤ℤ signed_at 0 head
  pub within : signed_at 0 head ≤ℤ maximum_message_length

-- a front of a header or of a frame that is read, or one frame
abbrev pub IsPart : List ℕ → Type 0
IsPart bytes = IsStarted maximum_message_length bytes ⊎ (IsQueryFront bytes ⊎ ((document : List ℕ) × CarriesRequest bytes document))

-- ---- why

-- an OP_QUERY that asks for another command than hello
abbrev pub AsksOtherwise : List ℕ → Type 0
AsksOtherwise bytes = (document : List ℕ) × IsQuery bytes document × (IsHello document → ⊥)

-- the answer to one frame was cut, and nothing was taken after it
abbrev pub CutsOne : List ServedRequest → List ℕ → Type 0
CutsOne cut more = (length cut ≡ 1) × (more ≡ [])

-- some bytes were taken, where the link tells them
abbrev pub TookSome : State → List ℕ → Type 0
TookSome old more = IfSome old.left (λ _. 0 < length more)

-- bytes that are no whole request
abbrev pub IsNoRequest : List ℕ → Type 0
IsNoRequest bytes = (document : List ℕ) → CarriesRequest bytes document → ⊥

-- no frame up to the greatest that begins with these bytes carries a request
abbrev pub BeginsNoRequest : List ℕ → Type 0
BeginsNoRequest taken = (frame rest document : List ℕ) → frame ≡ taken ++ rest → pos (length frame) ≤ℤ maximum_message_length → CarriesRequest frame document → ⊥

-- one end was counted, and no fault
abbrev pub CountsEnd : State → State → Type 0
CountsEnd old new = MeetsEnd old new × (new.write_faults ≡ old.write_faults)

-- What was counted for a fault: one read fault, one end or one write fault alone, or nothing.
abbrev pub CountsFault : ServeFault → State → State → Type 0
CountsFault ReadFault old new = FailsToRead old new × (new.write_faults ≡ old.write_faults)
CountsFault CutFrame old new = CountsEnd old new
CountsFault WriteFault old new = Unstopped old new × Rose old.write_faults new.write_faults
CountsFault fault old new = Unstopped old new × (new.write_faults ≡ old.write_faults)

-- What a fault says of the bytes that weren't answered, and of the link before and after. Whatever it is, nothing is taken behind a frame
-- whose answer is cut.
abbrev pub HasCause : ServeFault → State → State → List ServedRequest → List ℕ → Type 0
HasCause ReadFault old new cut more = (cut ≡ []) × IsNoRequest more
HasCause WriteFault old new cut more = CutsOne cut more
HasCause CutFrame old new cut more = IsEmptied new.left × (cut ≡ []) × TookSome old more × IsNoRequest more
HasCause NoFrame old new cut more = (cut ≡ []) × (16 ≤ length more) × BeginsNoRequest more
HasCause NoHello old new cut more = (cut ≡ []) × AsksOtherwise more
HasCause ReplyTooLong old new cut more = CutsOne cut more
HasCause TooManyRequests old new cut more = ⊥
HasCause OutOfMemory old new cut more = (cut ≡ []) ⊎ (more ≡ [])

-- A request was cut: a frame was taken and its answer cut, or some bytes were taken and nothing answered. Who is logged in has sent what a
-- login takes.
pub record IsCut (settings : ServeSettings) (requests : List (List ℕ)) (old new : Juncture) (fault : ServeFault) : Type 0 where
  pub served_requests : List ServedRequest
  pub one : length served_requests ≤ 1
  pub each : AllByRecursion (IsCutRequest settings old.basis (user_at new) (Some fault)) served_requests
  pub none : served_requests ≡ [] → user_at new ≡ user_at old
  pub more : List ℕ
  pub part : IsPart more
  pub consumed : Consumes old.state.left new.state.left (joined_frames served_requests ++ more)
  pub appended : Appends old.state.written new.state.written (sent_for served_requests)
  pub logged_in : IfSome (user_at new) (λ name. HasLoggedIn settings name (requests ++ documents served_requests))
  pub stays : old.state.flushed ≤ new.state.flushed
  pub spent : SpendsRounds settings (documents served_requests) (Some fault) more old.steps new.steps
  pub counted : CountsFault fault old.state new.state
  pub cause : HasCause fault old.state new.state served_requests more
