-- What a request comes to, by what its parts answer.
use Rattle.std.proofs.Common.{◌≡◌, ℕ, ℤ, pos, ◌+◌, ◌≤◌, ◌<◌, Option, None, Some, IfSome, Result, Ok, Err, OnOk, OnErr, IfErr, List, [], ◌∷◌, ◌++◌, length, take, refl, sym, ap, ◌∙◌, subst, inl, inr, arith, length-append}
use Rattle.std.proofs.lemmas.List.{take_at}
use Rattle.std.proofs.KnownBytes.{Appends-nil, Consumes-trans}
use Rattle.std.specs.Prelude.{⊤}
use Rattle.std.specs.Io.KnownBytes.{Appends, Consumes, prepend_known}
use Rattle.mongo_wire.specs.Frame.{Frame, IsFrame}
use Rattle.mongo_wire.specs.Header.{code_number, signed_at}
use Rattle.mongo_wire.specs.Outside.{State, AppendsFront, WritesOn}
use Rattle.mongo_wire.specs.declared.op_code.OpCode.TheVariants.{Message, Query}
use Rattle.mongo_service.specs.declared.fault.ServeFault.{ServeFault}
use Rattle.mongo_service.specs.declared.fault.ServeFault.TheVariants.{ReplyTooLong}
use Rattle.mongo_session.specs.declared.reply.Reply.{Reply}
use Rattle.mongo_session.specs.declared.serve_settings.ServeSettings.{ServeSettings}
use Rattle.mongo_session.specs.Costs.{DocumentRounds, CostsRounds}
use Rattle.mongo_session.specs.Login.{HasLoggedIn, Remembers}
use Rattle.mongo_session.specs.Replies.{document_of_served}
use Rattle.mongo_session.specs.Requests.{IsHello}
use Rattle.mongo_service.specs.Cut.{HasCause, CountsFault, IsCut, IsPart}
use Rattle.mongo_service.specs.Juncture.{Juncture, user_at}
use Rattle.mongo_service.specs.Sent.{IsAnswerTo, IsLongMessage, IsLongReply, IsReplySent, IsSentInPart, IsSentToQuery, message_reply, outbox, query_reply, WantsNone, WriteCause}
use Rattle.mongo_service.specs.Served.{FollowsHead, Lasts, PartEnds}
use Rattle.mongo_session.specs.Answers.{IsDocumentAnswered}
use Rattle.mongo_service.proofs.Lasts.{sent_flushed}
use Rattle.mongo_service.specs.Spent.{SpendsRounds}
use Rattle.mongo_service.specs.Taken.{IsQuery, IsQueryBody}
use Rattle.mongo_wire.proofs.OneFrame.{signed_in}
use Rattle.mongo_service.proofs.Causes.{long_cause}
use Rattle.mongo_service.proofs.ServedRequests.{request_taken, request_cut, none_taken}

-- how much of a reply was sent: nothing of one that is too long
abbrev part_of : ServeFault → ℕ → ℕ
part_of ReplyTooLong n = 0
part_of fault n = n

appends_part : (too_long : Type 0) (fault : ServeFault) (n : ℕ) (bytes : List ℕ) (old new : State) → Appends old.written new.written (take n bytes) → WriteCause too_long fault old new → Appends old.written new.written (take (part_of fault n) bytes)
appends_part too_long ReplyTooLong n bytes old new front cause = subst (λ state. Appends old.written state.written (take 0 bytes)) (sym cause.1) (Appends-nil old.written)
appends_part too_long fault n bytes old new front cause = front

unsent : (fault : ServeFault) (n : ℕ) (bytes : List ℕ) → Some fault ≡ Some ReplyTooLong → take (part_of fault n) bytes ≡ []
unsent fault n bytes is = let same : fault ≡ ReplyTooLong = cc in subst (λ f. take (part_of f n) bytes ≡ []) (sym same) refl

-- an OP_MSG was taken and answered, and the answer sent or cut
pub message_part : (settings : ServeSettings) (requests : List (List ℕ)) (old new : Juncture) (mid : State) (frame : List ℕ) (parts : Frame) (document : List ℕ) → IsFrame frame parts → parts.body ≡ document → Consumes old.state.left mid.left frame → mid.written ≡ old.state.written
    → Lasts old.state mid → WritesOn mid new.state → (reply : Reply) → IsDocumentAnswered settings old.basis.session document new.basis.session reply → CostsRounds (DocumentRounds settings document) old.steps new.steps → Remembers settings (requests ++ document ∷ []) new.basis.session
    → (to : ℤ) → to ≡ parts.request_id → (flags : ℕ) → flags ≡ parts.flags → (r : Result ⊤ ServeFault) → OnOk r (new.state.write_faults ≡ mid.write_faults) → OnOk r (IsReplySent (outbox mid old.basis.id) (outbox new.state new.basis.id) to flags reply)
    → OnErr r (IsSentInPart (outbox mid old.basis.id) (outbox new.state new.basis.id) to flags reply) → IfErr r (λ fault. WriteCause (IsLongMessage (document_of_served reply)) fault mid new.state) → PartEnds settings requests old new r
message_part settings requests old new mid frame parts document is_frame body_is consumed unwritten lasts on reply answered cost remembers to to_is flags flags_are (Ok done) still h cut cause =
    let id = old.basis.id in
    let later = new.basis.id in
    let answer : IsAnswerTo parts.request_id parts.flags reply id later h.sent = subst (λ f. IsAnswerTo parts.request_id f reply id later h.sent) flags_are (subst (λ t. IsAnswerTo t flags reply id later h.sent) to_is h.is_answer) in
    request_taken settings requests old new mid (record { frame = frame; document = document; sent = h.sent }) (inl (parts, is_frame, body_is)) consumed unwritten lasts still on h.appended h.flushed
    (record { reply = reply; answered = answered; sent = inl (record { parts = parts; is_frame = is_frame; body_is = body_is; answer = answer }) })
    remembers cost
message_part settings requests old new mid frame parts document is_frame body_is consumed unwritten lasts on reply answered cost remembers to to_is flags flags_are (Err fault) still h cut cause =
    let id = old.basis.id in
    let reply_bytes = document_of_served reply in
    let n = part_of fault cut.front.0 in
    let bytes = message_reply id to reply_bytes in
    let front = appends_part (IsLongMessage reply_bytes) fault cut.front.0 bytes mid new.state cut.front.1 cause in
    let sent = take n bytes in
    request_cut (IsLongMessage reply_bytes) settings requests old new mid fault (record { frame = frame; document = document; sent = sent })
    (record {
      is_taken = inl (parts, is_frame, body_is);
      after = new.basis.session;
      reply = reply;
      answered = answered;
      user_is = refl;
      sent =
          inl (record {
            parts = parts;
            is_frame = is_frame;
            body_is = body_is;
            wanted = subst (λ f. WantsNone f → ⊥) flags_are cut.wanted;
            front = (n, ap (λ t. take n (message_reply id t reply_bytes)) to_is);
          });
      too_long = λ is. (inl ((parts, is_frame, body_is), long_cause (IsLongMessage reply_bytes) fault mid new.state cause is), unsent fault cut.front.0 bytes is);
    })
    consumed unwritten lasts on front cause remembers.user cost

-- an OP_QUERY was taken and answered, and the answer sent or cut
pub query_part : (settings : ServeSettings) (requests : List (List ℕ)) (old new : Juncture) (mid : State) (head body command : List ℕ) → IsQuery (head ++ body) command → length head ≡ 16 → Consumes old.state.left mid.left (head ++ body) → mid.written ≡ old.state.written
    → Lasts old.state mid → WritesOn mid new.state → (reply : Reply) → IsDocumentAnswered settings old.basis.session command new.basis.session reply → CostsRounds (DocumentRounds settings command) old.steps new.steps → IsHello command
    → Remembers settings (requests ++ command ∷ []) new.basis.session → (to : ℤ) → to ≡ signed_at 4 head → (r : Result ⊤ ServeFault) → OnOk r (new.state.write_faults ≡ mid.write_faults) → OnOk r (IsSentToQuery (outbox mid old.basis.id) (outbox new.state new.basis.id) to reply)
    → OnErr r (AppendsFront mid.written new.state.written (query_reply old.basis.id to (document_of_served reply))) → IfErr r (λ fault. WriteCause (IsLongReply (document_of_served reply)) fault mid new.state) → PartEnds settings requests old new r
query_part settings requests old new mid head body command is_query sixteen consumed unwritten lasts on reply answered cost is_hello remembers to to_is (Ok done) still h front cause =
    let id = old.basis.id in
    let sent = query_reply id to (document_of_served reply) in
    let to_front : to ≡ signed_at 4 (take 16 (head ++ body)) = to_is ∙ ap (signed_at 4) (sym (take_at head body 16 sixteen)) in
    request_taken settings requests old new mid (record { frame = head ++ body; document = command; sent = sent }) (inr is_query) consumed unwritten lasts still on h.appended (sent_flushed mid new.state sent h.appended h.flushed)
    (record { reply = reply; answered = answered; sent = inr (is_query, is_hello, (ap (λ t. query_reply id t (document_of_served reply)) to_front, h.drawn)) })
    remembers cost
query_part settings requests old new mid head body command is_query sixteen consumed unwritten lasts on reply answered cost is_hello remembers to to_is (Err fault) still h front cause =
    let id = old.basis.id in
    let n = part_of fault front.0 in
    let bytes = query_reply id to (document_of_served reply) in
    let sent = appends_part (IsLongReply (document_of_served reply)) fault front.0 bytes mid new.state front.1 cause in
    let to_front : to ≡ signed_at 4 (take 16 (head ++ body)) = to_is ∙ ap (signed_at 4) (sym (take_at head body 16 sixteen)) in
    request_cut (IsLongReply (document_of_served reply)) settings requests old new mid fault (record { frame = head ++ body; document = command; sent = take n bytes })
    (record {
      is_taken = inr is_query;
      after = new.basis.session;
      reply = reply;
      answered = answered;
      user_is = refl;
      sent = inr (is_query, is_hello, (n, ap (λ t. take n (query_reply id t (document_of_served reply))) to_front));
      too_long = λ is. (inr (is_query, long_cause (IsLongReply (document_of_served reply)) fault mid new.state cause is), unsent fault front.0 bytes is);
    })
    consumed unwritten lasts on sent cause remembers.user cost

-- a header and what follows it are an OP_QUERY
pub query_of : (head body command : List ℕ) (rest : ℕ) → length head ≡ 16 → signed_at 12 head ≡ code_number Query → pos (16 + rest) ≡ signed_at 0 head → length body ≡ rest → IsQueryBody body command → IsQuery (head ++ body) command
query_of head body command rest sixteen code counted whole is_body = record {
  header = head;
  body = body;
  spelled = refl;
  sixteen = sixteen;
  counted = sym counted ∙ ap pos (ap (λ n. 16 + n) (sym whole) ∙ ap (λ n. n + length body) (sym sixteen) ∙ sym (length-append head body));
  code = code;
  is_body = is_body;
}

-- a header is some bytes
pub has_some : (before now : Option (List ℕ)) (head : List ℕ) → length head ≡ 16 → Consumes before now head → IfSome before (λ bytes. 0 < length bytes)
has_some None now head sixteen p = tt
has_some (Some xs) None head sixteen p = absurd p
has_some (Some xs) (Some ys) head sixteen p = omega (arith, sixteen, ap length p, length-append head ys)

-- the op code of the header that stands at the front
pub code_before : (before now : Option (List ℕ)) (head : List ℕ) → length head ≡ 16 → signed_at 12 head ≡ code_number Message → Consumes before now head → IfSome before (λ bytes. signed_at 12 bytes ≡ code_number Message)
code_before None now head sixteen code p = tt
code_before (Some xs) None head sixteen code p = absurd p
code_before (Some xs) (Some ys) head sixteen code p = ap (signed_at 12) p ∙ signed_in 12 head ys (omega (arith, sixteen)) ∙ code

-- bytes that stand before what is left are taken first
pub front_taken : (head : List ℕ) (left : Option (List ℕ)) → Consumes (prepend_known head left) left head
front_taken head None = tt
front_taken head (Some bytes) = refl

-- more was taken after a header, and nothing answered
pub none_after : (settings : ServeSettings) (requests : List (List ℕ)) (old new : Juncture) (mid : State) (fault : ServeFault) (head more : List ℕ) → user_at new ≡ user_at old → IsPart (head ++ more)
    → FollowsHead old.state mid head → Consumes mid.left new.state.left more → new.state.written ≡ mid.written → IfSome (user_at old) (λ name. HasLoggedIn settings name requests) → CountsFault fault old.state new.state
    → HasCause fault old.state new.state [] (head ++ more) → old.state.flushed ≤ new.state.flushed → SpendsRounds settings [] (Some fault) (head ++ more) old.steps new.steps → IsCut settings requests old new fault
none_after settings requests old new mid fault head more same part f consumed unwritten logged_in counted cause stays spent =
    none_taken settings requests old new fault (head ++ more) same part (Consumes-trans old.state.left mid.left new.state.left head more f.taken consumed) (unwritten ∙ f.on.unwritten.written) logged_in counted cause stays spent
