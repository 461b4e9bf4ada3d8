-- The server of an authentication says its messages: the first, the verifier, and the proof that it takes.
use Rattle.std.proofs.Common.{◌≡◌, ℕ, Some, Result, Ok, Err, List, ◌++◌, decimal, IfOk, IfErr, MatchResult, OnOk, refl, ap, sym, subst, ◌∙◌, inl, inr}
use Rattle.std.proofs.lemmas.List.Elements.{All-append}
use Rattle.base64.specs.GeneralPurpose.{IsBytes}
use Rattle.mongo_scram.specs.Attributes.{after_comma, proof_attribute}
use Rattle.mongo_scram.specs.Base64.{base64_of}
use Rattle.mongo_scram.specs.Keys.{proof_under, verifier_under}
use Rattle.mongo_scram.specs.Messages.{bare_message, no_proof, transcript, proof, close_message}
use Rattle.mongo_scram.specs.ServerMessages.{IsServerFirst}
use Rattle.mongo_scram.specs.Version.{digest_of}
use Rattle.mongo_scram.proofs.Signed.{verifier_is, proof_is}
use Rattle.mongo_server.specs.declared.fault.ServerFault.{ServerFault}
use Rattle.mongo_server.specs.declared.fault.ServerFault.TheVariants.{OutOfMemory}
use Rattle.mongo_server.specs.declared.server_core.ServerConversation.{ServerConversation}
use Rattle.mongo_server.specs.declared.server_core.ServerCore.{ServerCore}
use Rattle.mongo_server.specs.ClientMessages.{IsNonceByte, IsNonce, IsClientFirst, IsClientFinal}
use Rattle.mongo_server.specs.Authentication.{Authentication, joined_of, salted_between, open_of, first_of, auth_message_between, close_of, server_final_of, IsReadAs}
use Rattle.mongo_server.specs.Server.{server_user, salt_of, suffix_of, username_of, held_conversation, first_by, conversation_by, ClientFirstRow, IsValidClientFinal, ClientFinalRefused, Serves, HasBegun}
use Rattle.mongo_server.specs.ServerTexts.{server_first, server_final}
use Rattle.mongo_server.proofs.ClientFirsts.{one_client_first}
use Rattle.mongo_server.specs.Acceptance.{Accepts}
use Rattle.mongo_server.specs.User.{IsUserOf}
use Rattle.mongo_server.proofs.Accepted.{accepts}
use Rattle.mongo_server.proofs.ReadFirst.{read_first, read_count}
use Rattle.mongo_server.proofs.ServerRows.{first_no_row, final_no_row}
use Rattle.mongo_server.proofs.ProofBytes.{proof_bytes}

-- ---- the first message

module _ (core : ServerCore) (x : Authentication) (serves : Serves core x) where
  suffix_printable : IsNonce x.suffix
  suffix_printable = subst IsNonce serves.suffix core.printable

  joined_printable : IsNonce x.nonce → IsNonce (joined_of x)
  joined_printable printable = All-append IsNonceByte x.nonce x.suffix printable suffix_printable

  first_is : (nonce : List ℕ) → nonce ≡ x.nonce → first_by core nonce ≡ first_of x
  first_is nonce same = λ i. server_first (same i ++ serves.suffix i) (serves.user.salt_is i) (serves.user.count_is i)

  conversation_is : (nonce : List ℕ) → nonce ≡ x.nonce → conversation_by core nonce ≡ record { nonce = joined_of x; auth_message = auth_message_between x }
  conversation_is nonce same = λ i. record {
    nonce = same i ++ serves.suffix i;
    auth_message = transcript (bare_message (serves.user.username_is i) (same i)) (first_is nonce same i) (same i ++ serves.suffix i);
  }

  client_first : (message : List ℕ) → IsNonce x.nonce → message ≡ open_of x → IsClientFirst message x.username x.nonce
  client_first message printable is = record { message_is = is; text = serves.user.text; printable = printable }

  -- what it answers is what the client reads
  answer_read_as : (text nonce : List ℕ) → nonce ≡ x.nonce → IsNonce x.nonce → IsBytes (salt_of core) → text ≡ first_by core nonce → IsReadAs text x
  answer_read_as text nonce same printable bytes is =
      let text_is : text ≡ first_of x = is ∙ first_is nonce same in
      record {
        text_is = text_is;
        is_first = subst (λ t. IsServerFirst t (joined_of x) x.salt (decimal x.count)) (sym text_is) (read_first (joined_of x) x.salt x.count (joined_printable printable) (subst IsBytes serves.user.salt_is bytes) serves.user.within);
        is_count = read_count x.count serves.user.within;
        begins = (x.suffix, refl);
      }

  has_begun : (new : ServerCore) (nonce : List ℕ) → nonce ≡ x.nonce → IsNonce x.nonce → IsBytes (salt_of core) → server_user new ≡ server_user core → suffix_of new ≡ suffix_of core → held_conversation new ≡ Some (conversation_by core nonce) → HasBegun new x
  has_begun new nonce same printable bytes same_user same_suffix begun = record {
    serves = record { user = subst (IsUserOf x.version x.username x.password x.salt x.count) (sym same_user) serves.user; suffix = same_suffix ∙ serves.suffix };
    printable = printable;
    bytes = subst IsBytes serves.user.salt_is bytes;
    held = begun ∙ ap Some (conversation_is nonce same);
  }

pub accepts_first : (core new : ServerCore) (message text nonce : List ℕ) → IsClientFirst message (username_of core) nonce → text ≡ first_by core nonce → IsBytes (salt_of core) → server_user new ≡ server_user core → suffix_of new ≡ suffix_of core → held_conversation new ≡ Some (conversation_by core nonce)
    → (x : Authentication) → Serves core x → IsNonce x.nonce → message ≡ open_of x → IsReadAs text x × HasBegun new x
accepts_first core new message text nonce first text_is bytes same_user same_suffix begun x serves printable is =
    let same = (one_client_first message (username_of core) nonce x.username x.nonce first (client_first core x serves message printable is)).nonce_is in
    (answer_read_as core x serves text nonce same printable bytes text_is, has_begun core x serves new nonce same printable bytes same_user same_suffix begun)

-- a client of the authentication isn't refused
pub hears_first : (core : ServerCore) (message : List ℕ) (fault : ServerFault) → ClientFirstRow core message fault → (x : Authentication) → Serves core x → IsNonce x.nonce → message ≡ open_of x → fault ≡ OutOfMemory
hears_first core message fault row x serves printable is =
    absurd (first_no_row core message x.nonce (subst (λ name. IsClientFirst message name x.nonce) (sym serves.user.username_is) (client_first core x serves message printable is)) fault row)

-- ---- the last message

module _ (core : ServerCore) (x : Authentication) (begun : HasBegun core x) where
  abbrev authentication_held : ServerConversation
  authentication_held = record { nonce = joined_of x; auth_message = auth_message_between x }

  held_is : (held : ServerConversation) → held_conversation core ≡ Some held → held ≡ authentication_held
  held_is held is = let same : Some held ≡ Some authentication_held = sym is ∙ begun.held in cc

  final_is : (held : ServerConversation) → held_conversation core ≡ Some held → server_final (verifier_under core.user.keys held.auth_message) ≡ server_final_of x
  final_is held is =
      ap (λ (c : ServerConversation). server_final (verifier_under core.user.keys c.auth_message)) (held_is held is)
      ∙ ap server_final (verifier_is core.user.keys x.version (salted_between x) (auth_message_between x) begun.serves.user.version_is begun.serves.user.keys)

  owed_is : (held : ServerConversation) → held_conversation core ≡ Some held → proof_under core.user.keys held.auth_message ≡ proof (digest_of x.version) (salted_between x) (auth_message_between x)
  owed_is held is =
      ap (λ (c : ServerConversation). proof_under core.user.keys c.auth_message) (held_is held is)
      ∙ proof_is core.user.keys x.version (salted_between x) (auth_message_between x) begun.serves.user.version_is begun.serves.user.keys

  client_final : (message : List ℕ) → message ≡ close_of x → IsClientFinal message (joined_of x) (proof (digest_of x.version) (salted_between x) (auth_message_between x))
  unfolding close_message
  client_final message is = record { message_is = is; bytes = proof_bytes x.version (salted_between x) (auth_message_between x) }

  -- what it takes is the client's last message
  taken_is : (message : List ℕ) → IsValidClientFinal core message → message ≡ close_of x
  unfolding close_message
  taken_is message is = is.2.message_is ∙ (λ i. no_proof ((held_is is.0 is.1 i).nonce) ++ (after_comma proof_attribute ++ base64_of (owed_is is.0 is.1 i)))

  accepted_text : (text : List ℕ) (held : ServerConversation) → held_conversation core ≡ Some held → text ≡ server_final (verifier_under core.user.keys held.auth_message) → (text ≡ server_final_of x) × Accepts x text
  accepted_text text held is text_is =
      let same : text ≡ server_final_of x = text_is ∙ final_is held is in
      (same, accepts x text begun.printable (suffix_printable core x begun.serves) begun.bytes begun.serves.user.within same)

pub accepts_final : (core : ServerCore) (held : ServerConversation) (r : Result (List ℕ) ServerFault) → held_conversation core ≡ Some held → IfOk r (λ text. text ≡ server_final (verifier_under core.user.keys held.auth_message)) → IfErr r (λ fault. fault ≡ OutOfMemory)
    → (x : Authentication) → HasBegun core x → MatchResult r (λ text. (text ≡ server_final_of x) × Accepts x text) (λ fault. fault ≡ OutOfMemory)
accepts_final core held (Ok text) is text_is memory x begun = accepted_text core x begun text held is text_is
accepts_final core held (Err fault) is text_is memory x begun = memory

-- a client of the authentication isn't refused
pub takes_final : (core : ServerCore) (message : List ℕ) (fault : ServerFault) → ClientFinalRefused core message fault → (x : Authentication) → HasBegun core x → message ≡ close_of x → fault ≡ OutOfMemory
takes_final core message fault (inl row) x begun is =
    let held = authentication_held core x begun in
    let last = subst (λ bytes. IsClientFinal message held.nonce bytes) (sym (owed_is core x begun held begun.held)) (client_final core x begun message is) in
    absurd (final_no_row core message (held, begun.held, last) fault row)
takes_final core message fault (inr memory) x begun is = memory.0

-- and no other message is taken
pub takes_only : {T : Type 0} (core : ServerCore) (message : List ℕ) (r : Result T ServerFault) → IsValidClientFinal core message → (x : Authentication) → HasBegun core x → OnOk r (message ≡ close_of x)
takes_only core message (Ok t) is x begun = taken_is core x begun message is
takes_only core message (Err fault) is x begun = tt
