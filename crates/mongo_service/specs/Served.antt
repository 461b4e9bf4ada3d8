-- How a stream was served.
use Rattle.std.specs.Prelude.{◌≡◌, ℕ, pos, ◌-◌, ◌^◌, ◌≤◌, Bool, true, false, None, Result, Ok, Err, List, [], ◌∷◌, ◌++◌, length, IfSome, MatchOption, ⊤}
use Rattle.std.specs.List.{AllByRecursion}
use Rattle.std.specs.Io.KnownBytes.{Consumes, Appends}
use Rattle.mongo_wire.specs.Outside.{State, HasEnded, ReadsOn, Unstopped}
use Rattle.mongo_service.specs.declared.fault.ServeFault.{ServeFault}
use Rattle.mongo_service.specs.declared.fault.ServeFault.TheVariants.{TooManyRequests}
use Rattle.mongo_service.specs.declared.serve.Served.{Served}
use Rattle.mongo_session.specs.declared.serve_settings.ServeSettings.{ServeSettings}
use Rattle.mongo_service.specs.Cut.{CountsEnd, HasCause, CountsFault, IsCut, IsCutRequest, IsPart}
use Rattle.mongo_session.specs.Costs.{AllRounds, DocumentRounds, CostsRounds}
use Rattle.mongo_session.specs.Login.{fresh, HasLoggedIn, Remembers}
use Rattle.mongo_service.specs.Juncture.{Basis, Juncture, basis}
use Rattle.mongo_service.specs.Sent.{HasFlushed}
use Rattle.mongo_service.specs.Spent.{SpendsRounds}
use Rattle.mongo_service.specs.ServedRequests.{ServedRequest, IsRequestTaken, IsServedRequest, AreServedRequests, joined_frames, documents, sent_for}

-- no fault and no end was counted, and what was flushed stays so
pub record Lasts (old new : State) : Type 0 where
  pub reads : new.read_faults ≡ old.read_faults
  pub ends : new.ends ≡ old.ends
  pub writes : new.write_faults ≡ old.write_faults
  pub flushed : old.flushed ≤ new.flushed

-- ---- one request

-- a request was taken and answered, and the reply flushed
pub record ServesRequest (settings : ServeSettings) (requests : List (List ℕ)) (old new : Juncture) : Type 0 where
  pub request : ServedRequest
  pub is_taken : IsRequestTaken request
  pub is_served : IsServedRequest settings old.basis request new.basis
  pub consumed : Consumes old.state.left new.state.left request.frame
  pub appended : Appends old.state.written new.state.written request.sent
  pub flushed : HasFlushed old.state new.state request.sent
  pub lasts : Lasts old.state new.state
  pub remembers : Remembers settings (requests ++ request.document ∷ []) new.basis.session
  pub cost : CostsRounds (DocumentRounds settings request.document) old.steps new.steps

-- there was no request: the client has ended its stream
pub record NoRequestLeft (old new : Juncture) : Type 0 where
  pub ended : HasEnded old.state new.state
  pub appended : Appends old.state.written new.state.written []
  pub flushed : new.state.flushed ≡ old.state.flushed
  pub writes : new.state.write_faults ≡ old.state.write_faults
  pub kept : new.basis.session ≡ old.basis.session
  pub unspent : new.steps ≡ old.steps

-- what a request comes to
abbrev pub RequestEnds : ServeSettings → List (List ℕ) → Juncture → Juncture → Result Bool ServeFault → Type 0
RequestEnds settings requests old new (Ok true) = ServesRequest settings requests old new
RequestEnds settings requests old new (Ok false) = NoRequestLeft old new
RequestEnds settings requests old new (Err fault) = IsCut settings requests old new fault

-- the same, where there was a header
abbrev pub PartEnds : ServeSettings → List (List ℕ) → Juncture → Juncture → Result ⊤ ServeFault → Type 0
PartEnds settings requests old new (Ok done) = ServesRequest settings requests old new
PartEnds settings requests old new (Err fault) = IsCut settings requests old new fault

-- ---- within a request

-- a header was taken, and nothing was written
pub record FollowsHead (before now : State) (head : List ℕ) : Type 0 where
  pub taken : Consumes before.left now.left head
  pub unstopped : Unstopped before now
  pub on : ReadsOn before now

-- ---- the stream

-- what the first reply goes by: nobody is logged in or logs in, and replies are numbered from 1
abbrev pub beginning : Basis
beginning = basis fresh (pos 1)

-- so many requests so far, each answered, from this state of the link and this number of steps on, and what the session remembers of them
pub record HasServed (settings : ServeSettings) (old : State) (first : ℕ) (now : Juncture) (count : ℕ) : Type 0 where
  pub served_requests : List ServedRequest
  pub counted : length served_requests ≡ count
  pub answered : AreServedRequests settings beginning served_requests now.basis
  pub each : AllByRecursion IsRequestTaken served_requests
  pub consumed : Consumes old.left now.state.left (joined_frames served_requests)
  pub appended : Appends old.written now.state.written (sent_for served_requests)
  pub flushed : HasFlushed old now.state (sent_for served_requests)
  pub lasts : Lasts old now.state
  pub remembers : Remembers settings (documents served_requests) now.basis.session
  pub cost : CostsRounds (AllRounds settings (documents served_requests)) first now.steps

-- why a stream was left after so many requests
abbrev pub HasCauseAfter : ServeFault → ℕ → State → State → List ServedRequest → List ℕ → Type 0
HasCauseAfter TooManyRequests count old new cut more = (count ≡ 2 ^ 64 - 1) × (cut ≡ []) × (more ≡ [])
HasCauseAfter fault count old new cut more = HasCause fault old new cut more

-- The frames that were taken carry requests, one after another, and what was sent are the replies to them, numbered from 1 and flushed;
-- the last may have been cut, and so the answer to it. Where the client ended its stream, nothing was cut, and nothing was taken after
-- the last frame. Who is logged in has sent, among just these requests, the messages of a login. The counter of steps rose from the first
-- number to the last by the rounds of the keys that these requests derive.
pub record IsServed (settings : ServeSettings) (old new : State) (first last : ℕ) (served : Served) : Type 0 where
  pub served_requests : List ServedRequest
  pub after : Basis
  pub answered : AreServedRequests settings beginning served_requests after
  pub each : AllByRecursion IsRequestTaken served_requests
  pub flushed : HasFlushed old new (sent_for served_requests)
  pub cut : List ServedRequest
  pub one : length cut ≤ 1
  pub each_cut : AllByRecursion (IsCutRequest settings after served.user served.fault) cut
  pub user_is : cut ≡ [] → served.user ≡ after.session.user
  pub more : List ℕ
  pub part : IsPart more
  pub consumed : Consumes old.left new.left (joined_frames (served_requests ++ cut) ++ more)
  pub appended : Appends old.written new.written (sent_for (served_requests ++ cut))
  pub logged_in : IfSome served.user (λ name. HasLoggedIn settings name (documents (served_requests ++ cut)))
  pub spent : SpendsRounds settings (documents (served_requests ++ cut)) served.fault more first last
  pub counted : MatchOption served.fault (CountsEnd old new) (λ fault. CountsFault fault old new)
  pub cause : IfSome served.fault (λ fault. HasCauseAfter fault (length served_requests) old new cut more)
  pub whole : served.fault ≡ None → (cut ≡ []) × (more ≡ []) × IfSome new.left (λ rest. rest ≡ [])
