-- Served requests: a frame is taken, and answered.
use Rattle.std.specs.Prelude.{◌≡◌, ℕ, ℤ, ◌⊎◌, List, [], ◌∷◌, map, flat_map}
use Rattle.mongo_session.specs.declared.reply.Reply.{Reply}
use Rattle.mongo_session.specs.declared.serve_settings.ServeSettings.{ServeSettings}
use Rattle.mongo_session.specs.Answers.{IsDocumentAnswered}
use Rattle.mongo_session.specs.Requests.{IsHello}
use Rattle.mongo_service.specs.Juncture.{Basis}
use Rattle.mongo_service.specs.Sent.{AnswersMessage, AnswersQuery}
use Rattle.mongo_service.specs.Taken.{CarriesRequest, IsQuery}

-- a frame that was taken, the document that it asks with, and the bytes that were sent for it
pub record ServedRequest : Type 0 where
  pub frame : List ℕ
  pub document : List ℕ
  pub sent : List ℕ

abbrev pub IsRequestTaken : ServedRequest → Type 0
IsRequestTaken request = CarriesRequest request.frame request.document

-- ---- requests, one after another

-- the bytes of their frames, joined
abbrev pub joined_frames : List ServedRequest → List ℕ
joined_frames served_requests = flat_map (λ t. t.frame) served_requests

-- what they ask with, in their order
abbrev pub documents : List ServedRequest → List (List ℕ)
documents served_requests = map (λ t. t.document) served_requests

-- what was sent for them
abbrev pub sent_for : List ServedRequest → List ℕ
sent_for served_requests = flat_map (λ t. t.sent) served_requests

-- what was sent answers the frame with a reply: an OP_MSG, or an OP_QUERY, which asks for a hello. The next reply has this id, and the
-- one after it that.
abbrev pub AnswersIn : ServedRequest → Reply → ℤ → ℤ → Type 0
AnswersIn request reply id later =
    AnswersMessage request.frame request.document reply id later request.sent ⊎ (IsQuery request.frame request.document × IsHello request.document × AnswersQuery request.frame reply id later request.sent)

-- the request was answered by the session, and the reply sent
pub record IsServedRequest (settings : ServeSettings) (before : Basis) (request : ServedRequest) (after : Basis) : Type 0 where
  pub reply : Reply
  pub answered : IsDocumentAnswered settings before.session request.document after.session reply
  pub sent : AnswersIn request reply before.id after.id

-- Each request begins with the session that the one before it left, and the ids of the replies are counted on.
abbrev pub AreServedRequests : ServeSettings → Basis → List ServedRequest → Basis → Type 0
AreServedRequests settings before [] after = after ≡ before
AreServedRequests settings before (request ∷ served_requests) after =
    (between : Basis) × IsServedRequest settings before request between × AreServedRequests settings between served_requests after
