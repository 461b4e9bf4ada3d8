-- The client of an authentication accepts the server's messages.
use Rattle.std.proofs.Common.{◌≡◌, ◌<◌, ◌^◌, ℕ, true, List, ◌++◌, drop, decimal, refl, ap, sym, subst, ◌∙◌}
use Rattle.std.proofs.lemmas.List.Elements.{All-append}
use Rattle.base64.specs.GeneralPurpose.{IsBytes}
use Rattle.mongo_bson.specs.declared.owned_value.OwnedValue.{OwnedValue}
use Rattle.mongo_sasl.specs.Reply.{IsSaslReply}
use Rattle.mongo_scram.specs.Key.{PasswordRow, salted}
use Rattle.mongo_scram.specs.Messages.{bare_message, open_message, transcript, close_message, verifier}
use Rattle.mongo_scram.specs.Plan.{Handed, auth_message_by, salted_by, close_by, verifier_by}
use Rattle.mongo_scram.specs.User.{User}
use Rattle.mongo_scram.specs.Version.{digest_of}
use Rattle.mongo_server.specs.Acceptance.{IsClientOf, Accepts, challenge_of}
use Rattle.mongo_server.specs.ClientMessages.{IsNonceByte, IsNonce}
use Rattle.mongo_server.specs.Authentication.{Authentication, joined_of, salted_between, first_of, auth_message_between, close_of, server_final_of}
use Rattle.mongo_server.specs.ServerTexts.{server_final}
use Rattle.mongo_server.proofs.ReadFirst.{read_first, read_count}

-- the first message without its header
open-bare : (username nonce : List ℕ) → drop 3 (open_message username nonce) ≡ bare_message username nonce
unfolding open_message
open-bare username nonce = refl

module _ (x : Authentication) (handed : Handed) (user : User) (conversation_id : OwnedValue) (client : IsClientOf x handed user) where
  -- both sign the same
  signs : auth_message_by handed (challenge_of x conversation_id user) ≡ auth_message_between x
  signs = ap (λ bare. transcript bare (first_of x) (joined_of x)) (ap (λ (message : List ℕ). drop 3 message) client.said ∙ open-bare x.username x.nonce)

  -- with the same key
  derives : salted_by handed (challenge_of x conversation_id user) ≡ salted_between x
  derives = λ i. salted (client.version i) (client.username i) (client.password i) x.salt x.count

  closes : close_by handed (challenge_of x conversation_id user) ≡ close_of x
  closes = λ i. close_message (digest_of (client.version i)) (derives i) (signs i) (joined_of x)

  demands : server_final (verifier_by handed (challenge_of x conversation_id user)) ≡ server_final_of x
  demands = λ i. server_final (verifier (digest_of (client.version i)) (derives i) (signs i))

pub accepts : (x : Authentication) (last : List ℕ) → IsNonce x.nonce → IsNonce x.suffix → IsBytes x.salt → x.count < 2 ^ 32 → last ≡ server_final_of x → Accepts x last
accepts x last nonce_is suffix_is bytes within same = λ handed user conversation_id first_reply last_reply client carries. record {
  closes = closes x handed user conversation_id client;
  conversation = record {
    challenge = challenge_of x conversation_id user;
    is_user = refl;
    goes_on = (refl, ((x.suffix, ap (λ nonce. nonce ++ x.suffix) (sym client.nonce)), (client.enough, (client.within, tt))));
    replied = carries.first_carried;
    count = decimal x.count;
    is_first = read_first (joined_of x) x.salt x.count (All-append IsNonceByte x.nonce x.suffix nonce_is suffix_is) bytes within;
    is_count = read_count x.count within;
    usable = λ kind row. client.usable kind (subst (λ password. PasswordRow x.version password kind) client.password (subst (λ version. PasswordRow version user.password kind) client.version row));
    command_is = refl;
    ended = subst (λ payload. IsSaslReply last_reply (record { conversation_id = conversation_id; done = true; payload = payload })) (same ∙ sym (demands x handed user conversation_id client)) carries.last_carried;
  };
}
