use Rattle.std.proofs.Common.{◌≡◌, ℕ, Bool, true, false, Option, None, Some, List, option_copied, subst, inl, inr}
use Rattle.std.specs.Borrow.{Bor}
use Rattle.mongo_scram.specs.declared.scram_version.ScramVersion.{ScramVersion}
use Rattle.mongo_session.specs.declared.request.StartRequest.{StartRequest}
use Rattle.mongo_session.specs.declared.request.ContinueRequest.{ContinueRequest}
use Rattle.mongo_session.specs.Requests.{BringsStart, HasPayload, IsHello, IsHelloBy, IsStart, SaysStart, SaysContinue, SaysVersion, StartsLogin, SaysSaslContinue}
use Rattle.mongo_session.specs.Values.{HoldsIfAny}

-- What a request begins, or goes on with.

-- a hello, by whichever name
pub hello_carried : (document : List ℕ) (is_legacy : Bool) → IsHelloBy document is_legacy → IsHello document
hello_carried document false named = inl named
hello_carried document true named = inr named

-- what an option holds
held_payload : (document : List ℕ) (given : Option (Bor (List ℕ))) (payload : List ℕ) → option_copied given ≡ Some payload → HoldsIfAny (HasPayload document) given → HasPayload document payload
held_payload document None payload is h = let never : None ≡ Some payload = is in absurd (cc never)
held_payload document (Some m) payload is h = let same : Some m.now ≡ Some payload = is in let one : m.now ≡ payload = cc in subst (HasPayload document) one h

starts_with : (document : List ℕ) (start : StartRequest) → SaysStart document start → (version : ScramVersion) (payload : List ℕ) → start.version ≡ Some version → option_copied start.payload ≡ Some payload → IsStart document version payload
starts_with document start says version payload version_is said = record {
  named = says.named;
  mechanism = subst (SaysVersion document) version_is says.version;
  message = held_payload document start.payload payload said says.message;
}

pub brings_login : (document : List ℕ) (start : StartRequest) → BringsStart document start → (version : ScramVersion) (payload : List ℕ) → start.version ≡ Some version → option_copied start.payload ≡ Some payload → StartsLogin document version payload
brings_login document start (inl says) version payload version_is said = inl (starts_with document start says version payload version_is said)
brings_login document start (inr carried) version payload version_is said =
    inr (record { is_hello = carried.0; inner = carried.1.inner; inside = carried.1.inside; start = starts_with carried.1.inner start carried.1.says version payload version_is said })

-- of the conversation
pub goes_on_with : (document : List ℕ) (next : ContinueRequest) (message : Bor (List ℕ)) → SaysContinue document next → next.payload ≡ Some message → next.is_of_conversation ≡ true → SaysSaslContinue document message.now
goes_on_with document next message says given of_conversation = record {
  named = says.named;
  conversation = says.conversation.0 of_conversation;
  message = subst (HoldsIfAny (HasPayload document)) given says.message;
}
