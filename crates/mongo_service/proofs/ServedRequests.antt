-- Requests, one after another.
use Rattle.std.proofs.Common.{◌≡◌, ℕ, ◌≤◌, Some, IfSome, List, [], ◌∷◌, ◌++◌, refl, sym, ◌∙◌, subst, append-nil, flat_map, inl, arith}
use Rattle.std.proofs.lemmas.List.{map-append}
use Rattle.std.proofs.lemmas.List.Concat.{flat_map-append}
use Rattle.std.proofs.KnownBytes.{Appends-nil}
use Rattle.std.specs.Io.KnownBytes.{Appends, Consumes}
use Rattle.std.specs.List.{AllByRecursion}
use Rattle.mongo_wire.specs.Outside.{State, WritesOn}
use Rattle.mongo_service.specs.declared.fault.ServeFault.{ServeFault}
use Rattle.mongo_session.specs.declared.serve_settings.ServeSettings.{ServeSettings}
use Rattle.mongo_service.specs.Cut.{HasCause, CountsFault, IsCut, IsCutRequest, IsPart}
use Rattle.mongo_session.specs.Login.{HasLoggedIn, Remembers}
use Rattle.mongo_session.specs.Costs.{DocumentRounds, CostsRounds}
use Rattle.mongo_service.specs.Juncture.{Basis, Juncture, user_at}
use Rattle.mongo_service.specs.Sent.{HasFlushed, WriteCause}
use Rattle.mongo_service.specs.Served.{Lasts, ServesRequest}
use Rattle.mongo_service.specs.Spent.{SpendsRounds}
use Rattle.mongo_service.specs.ServedRequests.{ServedRequest, IsRequestTaken, IsServedRequest, AreServedRequests, joined_frames, documents, sent_for}
use Rattle.mongo_service.proofs.Causes.{write_cause, write_counted}
use Rattle.mongo_service.proofs.Lasts.{flushed_from, lasts_on, lasts_write}
use Rattle.mongo_service.proofs.Spent.{one_spent}

pub requests_joined : (xs ys : List ServedRequest) → AllByRecursion IsRequestTaken xs → AllByRecursion IsRequestTaken ys → AllByRecursion IsRequestTaken (xs ++ ys)
requests_joined [] ys all others = others
requests_joined (x ∷ xs) ys all others = (all.0, requests_joined xs ys all.1 others)

pub joined_append : (xs ys : List ServedRequest) → joined_frames (xs ++ ys) ≡ joined_frames xs ++ joined_frames ys
joined_append xs ys = flat_map-append (λ t. t.frame) xs ys

pub sent_append : (xs ys : List ServedRequest) → sent_for (xs ++ ys) ≡ sent_for xs ++ sent_for ys
sent_append xs ys = flat_map-append (λ t. t.sent) xs ys

pub documents_append : (xs ys : List ServedRequest) → documents (xs ++ ys) ≡ documents xs ++ documents ys
documents_append xs ys = map-append (λ t. t.document) xs ys

-- ---- one request

-- the bytes of one frame
one_joined : (f : ServedRequest → List ℕ) (request : ServedRequest) → flat_map f (request ∷ []) ≡ f request
one_joined f request = append-nil (f request)

-- a request was taken, answered, and the answer sent
pub request_taken : (settings : ServeSettings) (requests : List (List ℕ)) (old new : Juncture) (mid : State) (request : ServedRequest) → IsRequestTaken request → Consumes old.state.left mid.left request.frame → mid.written ≡ old.state.written
    → Lasts old.state mid → new.state.write_faults ≡ mid.write_faults → WritesOn mid new.state → Appends mid.written new.state.written request.sent → HasFlushed mid new.state request.sent → IsServedRequest settings old.basis request new.basis
    → Remembers settings (requests ++ request.document ∷ []) new.basis.session → CostsRounds (DocumentRounds settings request.document) old.steps new.steps → ServesRequest settings requests old new
request_taken settings requests old new mid request is_taken consumed unwritten lasts still on appended flushed is_served remembers cost = record {
  request = request;
  is_taken = is_taken;
  is_served = is_served;
  consumed = subst (λ left. Consumes old.state.left left request.frame) (sym on.unread.left) consumed;
  appended = subst (λ written. Appends written new.state.written request.sent) unwritten appended;
  flushed = flushed_from old.state mid new.state request.sent unwritten flushed;
  lasts = lasts_on old.state mid new.state lasts (lasts_write mid new.state still on);
  remembers = remembers;
  cost = cost;
}

-- a request was taken, and its answer cut
pub request_cut : (too_long : Type 0) (settings : ServeSettings) (requests : List (List ℕ)) (old new : Juncture) (mid : State) (fault : ServeFault) (request : ServedRequest) → IsCutRequest settings old.basis (user_at new) (Some fault) request
    → Consumes old.state.left mid.left request.frame → mid.written ≡ old.state.written → Lasts old.state mid → WritesOn mid new.state → Appends mid.written new.state.written request.sent → WriteCause too_long fault mid new.state
    → IfSome (user_at new) (λ name. HasLoggedIn settings name (requests ++ request.document ∷ [])) → CostsRounds (DocumentRounds settings request.document) old.steps new.steps → IsCut settings requests old new fault
request_cut too_long settings requests old new mid fault request is_cut consumed unwritten lasts on appended cause logged_in cost = record {
  served_requests = request ∷ [];
  one = omega arith;
  each = (is_cut, tt);
  none = λ empty. absurd (filled empty);
  more = [];
  part = inl (inl (omega arith));
  consumed =
      subst (Consumes old.state.left new.state.left) (sym (append-nil (joined_frames (request ∷ [])) ∙ one_joined (λ t. t.frame) request)) (subst (λ left. Consumes old.state.left left request.frame) (sym on.unread.left) consumed);
  appended = subst (Appends old.state.written new.state.written) (sym (one_joined (λ t. t.sent) request)) (subst (λ written. Appends written new.state.written request.sent) unwritten appended);
  logged_in = logged_in;
  stays = omega (arith, lasts.flushed, on.flushed_stays);
  spent = one_spent settings request.document (Some fault) [] old.steps new.steps cost;
  counted = write_counted too_long fault old.state mid new.state lasts on cause;
  cause = write_cause too_long fault old.state mid new.state (request ∷ []) (omega arith) lasts cause;
}
  where
    filled : request ∷ [] ≡ [] → ⊥
    filled e = cc

-- no request was answered, but some bytes taken
pub none_taken : (settings : ServeSettings) (requests : List (List ℕ)) (old new : Juncture) (fault : ServeFault) (more : List ℕ) → user_at new ≡ user_at old → IsPart more → Consumes old.state.left new.state.left more
    → new.state.written ≡ old.state.written → IfSome (user_at old) (λ name. HasLoggedIn settings name requests) → CountsFault fault old.state new.state → HasCause fault old.state new.state [] more → old.state.flushed ≤ new.state.flushed
    → SpendsRounds settings [] (Some fault) more old.steps new.steps → IsCut settings requests old new fault
none_taken settings requests old new fault more same part consumed unwritten logged_in counted cause stays spent = record {
  served_requests = [];
  one = omega arith;
  each = tt;
  none = λ _. same;
  more = more;
  part = part;
  consumed = consumed;
  appended = subst (λ written. Appends old.state.written written []) (sym unwritten) (Appends-nil old.state.written);
  logged_in = subst (λ rs. IfSome (user_at new) (λ name. HasLoggedIn settings name rs)) (sym (append-nil requests)) (subst (λ u. IfSome u (λ name. HasLoggedIn settings name requests)) (sym same) logged_in);
  stays = stays;
  spent = spent;
  counted = counted;
  cause = cause;
}

-- ---- requests after requests

pub requests_more : (settings : ServeSettings) (before between after : Basis) (served_requests : List ServedRequest) (request : ServedRequest) → AreServedRequests settings before served_requests between → IsServedRequest settings between request after
    → AreServedRequests settings before (served_requests ++ request ∷ []) after
requests_more settings before between after [] request same is_served = (after, subst (λ b. IsServedRequest settings b request after) same is_served, refl)
requests_more settings before between after (first ∷ served_requests) request are is_served = (are.0, are.1, requests_more settings are.0 between after served_requests request are.2 is_served)
