-- A stream, request by request.
use Rattle.std.proofs.Common.{◌≡◌, ℕ, ◌+◌, ◌-◌, ◌^◌, ℤ, pos, None, Some, IfSome, [], ◌∷◌, ◌++◌, length, refl, sym, ap, ◌∙◌, subst, inl, append-nil, append_assoc, arith, length-append}
use Rattle.std.proofs.KnownBytes.{Consumes-nil, Consumes-trans, Consumes-kept, Appends-nil, Appends-trans}
use Rattle.std.specs.Io.KnownBytes.{Appends, Consumes}
use Rattle.mongo_wire.specs.Outside.{State}
use Rattle.mongo_service.specs.declared.fault.ServeFault.{ServeFault}
use Rattle.mongo_service.specs.declared.fault.ServeFault.TheVariants.{TooManyRequests}
use Rattle.mongo_session.specs.declared.session.Session.{Session}
use Rattle.mongo_session.specs.declared.serve_settings.ServeSettings.{ServeSettings}
use Rattle.mongo_service.specs.Cut.{IsCut}
use Rattle.mongo_session.specs.Costs.{AllRounds, CostsRounds}
use Rattle.mongo_session.specs.Login.{HasLoggedIn, Remembers}
use Rattle.mongo_service.specs.Juncture.{Juncture, basis, juncture, user_at}
use Rattle.mongo_service.specs.Sent.{HasFlushed}
use Rattle.mongo_service.specs.Served.{ServesRequest, NoRequestLeft, HasServed, IsServed, beginning}
use Rattle.mongo_service.specs.Spent.{SpendsRounds}
use Rattle.mongo_service.specs.ServedRequests.{joined_frames, documents, sent_for}
use Rattle.mongo_session.specs.Login.{fresh}
use Rattle.mongo_service.proofs.Causes.{cause_after}
use Rattle.mongo_service.proofs.Lasts.{counted_after, end_after, flushed_on, flushed_still, lasts_all, lasts_on, lasts_unstopped}
use Rattle.mongo_service.proofs.Spent.{all_spent, rounds_after, rounds_then}
use Rattle.mongo_service.proofs.ServedRequests.{requests_joined, joined_append, documents_append, sent_append, requests_more}

is_fresh : (session : Session) → session.user ≡ None → session.login ≡ None → fresh ≡ session
is_fresh session nobody none = ap (λ u. record { user = u; login = None }) (sym nobody) ∙ ap (λ l. record { user = session.user; login = l }) (sym none)

none_served : (settings : ServeSettings) (old : State) (first : ℕ) → HasServed settings old first (juncture old first beginning) 0
none_served settings old first = record {
  served_requests = [];
  counted = refl;
  answered = refl;
  each = tt;
  consumed = Consumes-nil old.left;
  appended = Appends-nil old.written;
  flushed = inl refl;
  lasts = lasts_all old;
  remembers = record { user = tt; login = tt };
  cost = (0, refl, omega arith);
}

pub begun : (settings : ServeSettings) (old : State) (first : ℕ) (session : Session) (id : ℤ) → session.user ≡ None → session.login ≡ None → id ≡ pos 1 → HasServed settings old first (juncture old first (basis session id)) 0
begun settings old first session id nobody none one =
    subst (λ i. HasServed settings old first (juncture old first (basis session i)) 0) (sym one) (subst (λ s. HasServed settings old first (juncture old first (basis s (pos 1))) 0) (is_fresh session nobody none) (none_served settings old first))

pub one_request_more : (settings : ServeSettings) (old : State) (first : ℕ) (now new : Juncture) (count : ℕ) (h : HasServed settings old first now count) → ServesRequest settings (documents h.served_requests) now new → HasServed settings old first new (count + 1)
one_request_more settings old first now new count h t =
    let one = t.request ∷ [] in
    let mid = now.state in
    let last = new.state in
    let sent = sent_append h.served_requests one ∙ ap (λ l. sent_for h.served_requests ++ l) (append-nil t.request.sent) in
    record {
      served_requests = h.served_requests ++ one;
      counted = length-append h.served_requests one ∙ ap (λ n. n + 1) h.counted;
      answered = requests_more settings beginning now.basis new.basis h.served_requests t.request h.answered t.is_served;
      each = requests_joined h.served_requests one h.each (t.is_taken, tt);
      consumed =
          subst (Consumes old.left last.left) (sym (joined_append h.served_requests one ∙ ap (λ l. joined_frames h.served_requests ++ l) (append-nil t.request.frame))) (Consumes-trans old.left mid.left last.left (joined_frames h.served_requests) t.request.frame h.consumed t.consumed);
      appended = subst (Appends old.written last.written) (sym sent) (Appends-trans old.written mid.written last.written (sent_for h.served_requests) t.request.sent h.appended t.appended);
      flushed = subst (HasFlushed old last) (sym sent) (flushed_on old mid last (sent_for h.served_requests) t.request.sent h.appended h.flushed t.lasts.flushed t.flushed);
      lasts = lasts_on old mid last h.lasts t.lasts;
      remembers = subst (λ rs. Remembers settings rs new.basis.session) (sym (documents_append h.served_requests one)) t.remembers;
      cost = subst (λ rs. CostsRounds (AllRounds settings rs) first new.steps) (sym (documents_append h.served_requests one)) (rounds_then settings (documents h.served_requests) t.request.document first now.steps new.steps h.cost t.cost);
    }

pub has_ended : (settings : ServeSettings) (old : State) (first : ℕ) (now new : Juncture) (count : ℕ) (h : HasServed settings old first now count) → NoRequestLeft now new → IsServed settings old new.state first new.steps (record { fault = None; user = user_at new })
has_ended settings old first now new count h n =
    let served_requests = sym (append-nil h.served_requests) in
    let mid = now.state in
    let last = new.state in
    record {
      served_requests = h.served_requests;
      after = now.basis;
      answered = h.answered;
      each = h.each;
      flushed = flushed_still old mid last (sent_for h.served_requests) h.flushed (omega (arith, n.flushed));
      cut = [];
      one = omega arith;
      each_cut = tt;
      user_is = λ _. ap (λ s. s.user) n.kept;
      more = [];
      part = inl (inl (omega arith));
      consumed =
          subst (λ l. Consumes old.left last.left (l ++ [])) (ap joined_frames served_requests) (subst (Consumes old.left last.left) (sym (append-nil (joined_frames h.served_requests))) (Consumes-kept old.left mid.left last.left (joined_frames h.served_requests) h.consumed n.ended.keeps));
      appended = subst (λ l. Appends old.written last.written (sent_for l)) served_requests (subst (Appends old.written last.written) (append-nil (sent_for h.served_requests)) (Appends-trans old.written mid.written last.written (sent_for h.served_requests) [] h.appended n.appended));
      logged_in = subst (λ l. IfSome (user_at new) (λ name. HasLoggedIn settings name (documents l))) served_requests (subst (λ s. IfSome s.user (λ name. HasLoggedIn settings name (documents h.served_requests))) (sym n.kept) h.remembers.user);
      spent = subst (λ l. SpendsRounds settings (documents l) None [] first new.steps) served_requests (all_spent settings (documents h.served_requests) None [] first new.steps (subst (λ n. CostsRounds (AllRounds settings (documents h.served_requests)) first n) (sym n.unspent) h.cost));
      counted = end_after old mid last h.lasts (n.ended.met, n.writes);
      cause = tt;
      whole = λ _. (refl, refl, n.ended.still);
    }

is_fault : (fault : ServeFault) → Some fault ≡ None → ⊥
is_fault fault e = cc

pub was_cut : (settings : ServeSettings) (old : State) (first : ℕ) (now new : Juncture) (fault : ServeFault) (count : ℕ) (h : HasServed settings old first now count) → IsCut settings (documents h.served_requests) now new fault
    → IsServed settings old new.state first new.steps (record { fault = Some fault; user = user_at new })
was_cut settings old first now new fault count h c =
    let mid = now.state in
    let last = new.state in
    record {
      served_requests = h.served_requests;
      after = now.basis;
      answered = h.answered;
      each = h.each;
      flushed = flushed_still old mid last (sent_for h.served_requests) h.flushed c.stays;
      cut = c.served_requests;
      one = c.one;
      each_cut = c.each;
      user_is = c.none;
      more = c.more;
      part = c.part;
      consumed =
          subst (Consumes old.left last.left) (sym (ap (λ l. l ++ c.more) (joined_append h.served_requests c.served_requests) ∙ append_assoc (joined_frames h.served_requests) (joined_frames c.served_requests) c.more)) (Consumes-trans old.left mid.left last.left (joined_frames h.served_requests) (joined_frames c.served_requests ++ c.more) h.consumed c.consumed);
      appended = subst (Appends old.written last.written) (sym (sent_append h.served_requests c.served_requests)) (Appends-trans old.written mid.written last.written (sent_for h.served_requests) (sent_for c.served_requests) h.appended c.appended);
      logged_in = subst (λ rs. IfSome (user_at new) (λ name. HasLoggedIn settings name rs)) (sym (documents_append h.served_requests c.served_requests)) c.logged_in;
      spent = subst (λ rs. SpendsRounds settings rs (Some fault) c.more first new.steps) (sym (documents_append h.served_requests c.served_requests)) (rounds_after settings (documents h.served_requests) (documents c.served_requests) (Some fault) c.more first now.steps new.steps h.cost c.spent);
      counted = counted_after fault old mid last h.lasts c.counted;
      cause = cause_after fault (length h.served_requests) old mid last (joined_frames h.served_requests) c.served_requests c.more h.lasts h.consumed c.cause;
      whole = λ is. absurd (is_fault fault is);
    }

-- the requests are as many as are counted
pub went_on : (settings : ServeSettings) (old : State) (first : ℕ) (now : Juncture) (count : ℕ) → count ≡ 2 ^ 64 - 1 → HasServed settings old first now count → IsServed settings old now.state first now.steps (record { fault = Some TooManyRequests; user = user_at now })
went_on settings old first now count all h =
    let served_requests = sym (append-nil h.served_requests) in
    let last = now.state in
    record {
      served_requests = h.served_requests;
      after = now.basis;
      answered = h.answered;
      each = h.each;
      flushed = h.flushed;
      cut = [];
      one = omega arith;
      each_cut = tt;
      user_is = λ _. refl;
      more = [];
      part = inl (inl (omega arith));
      consumed = subst (λ l. Consumes old.left last.left (l ++ [])) (ap joined_frames served_requests) (subst (Consumes old.left last.left) (sym (append-nil (joined_frames h.served_requests))) h.consumed);
      appended = subst (λ l. Appends old.written last.written (sent_for l)) served_requests h.appended;
      logged_in = subst (λ l. IfSome (user_at now) (λ name. HasLoggedIn settings name (documents l))) served_requests h.remembers.user;
      spent = subst (λ l. SpendsRounds settings (documents l) (Some TooManyRequests) [] first now.steps) served_requests (all_spent settings (documents h.served_requests) (Some TooManyRequests) [] first now.steps h.cost);
      counted = (lasts_unstopped old last h.lasts, h.lasts.writes);
      cause = (h.counted ∙ all, refl, refl);
      whole = λ is. absurd (is_fault TooManyRequests is);
    }
