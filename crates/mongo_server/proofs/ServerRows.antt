-- A message is refused for one reason, and not where it is taken.
use Rattle.std.proofs.Common.{◌≡◌, ◌≢◌, ◌⊎◌, ℕ, Option, None, Some, Result, Err, List, refl, ap, sym, ◌∙◌, inl, inr}
use Rattle.mongo_command.specs.Conversation.{IsOne, HasNone}
use Rattle.mongo_command.proofs.Plans.{one_else, one_row, none_else, no_row}
use Rattle.mongo_scram.specs.UserName.{escaped}
use Rattle.mongo_server.specs.declared.fault.ServerFault.{ServerFault}
use Rattle.mongo_server.specs.declared.fault.ServerFault.TheVariants.{Proof, OutOfMemory}
use Rattle.mongo_server.specs.declared.server_core.ServerConversation.{ServerConversation}
use Rattle.mongo_server.specs.declared.server_core.ServerCore.{ServerCore}
use Rattle.mongo_server.specs.ClientMessages.{IsClientFirst, IsClientFinal}
use Rattle.mongo_scram.specs.Keys.{proof_under}
use Rattle.mongo_server.specs.Server.{username_of, held_conversation, ClientFirstRow, ClientFinalRow, ClientFinalRefused, IsValidClientFinal}
use Rattle.mongo_server.proofs.ClientFirsts.{one_client_first}
use Rattle.mongo_server.proofs.UserNames.{escaped_same}
use Rattle.mongo_server.proofs.ClientFinals.{one_client_final}

-- ---- the first message

one_first_row : (core : ServerCore) (message : List ℕ) → IsOne (ClientFirstRow core message)
one_first_row core message = one_else _ _ (one_row _ _) (one_row _ _)

pub one_first_errors : {T : Type 0} (core : ServerCore) (message : List ℕ) (a : ServerFault) → ClientFirstRow core message a → (fault : ServerFault) → ClientFirstRow core message fault → ◌≡◌ {A = Result T ServerFault} (Err a) (Err fault)
one_first_errors core message a is fault row = ap Err (one_first_row core message a fault is row)

pub first_no_row : (core : ServerCore) (message nonce : List ℕ) → IsClientFirst message (username_of core) nonce → HasNone (ClientFirstRow core message)
first_no_row core message nonce is =
    none_else _ _ (no_row _ _ (λ none. none (username_of core) nonce is))
    (no_row _ _ (λ row. row.3 (one_client_first message row.0 row.1 (username_of core) nonce row.2 is).username_is))

-- the name that it says is the user's where their texts are one
pub heard_of : (core : ServerCore) (message username nonce text : List ℕ) → IsClientFirst message username nonce → text ≡ escaped username → text ≡ core.user.saslname → username ≡ username_of core
heard_of core message username nonce text is said same = escaped_same username (username_of core) (sym said ∙ same ∙ core.user.said)

-- ---- the last message

not_started : (held : Option ServerConversation) (c : ServerConversation) → held ≡ None → held ≡ Some c → ⊥
not_started held c none some = let never : None ≡ Some c = sym none ∙ some in absurd (cc never)

one_held : (held : Option ServerConversation) (c d : ServerConversation) → held ≡ Some c → held ≡ Some d → c ≡ d
one_held held c d p q = let same : Some c ≡ Some d = sym p ∙ q in cc

one_final_row : (core : ServerCore) (message : List ℕ) → IsOne (ClientFinalRow core message)
one_final_row core message = one_else _ _ (one_row _ _) (one_else _ _ (one_row _ _) (one_else _ _ (one_row _ _) (one_row _ _)))

-- a message of the nonce that is held has no other
nonce_held : (core : ServerCore) (message : List ℕ) (c : ServerConversation) (proof : List ℕ) → held_conversation core ≡ Some c → IsClientFinal message c.nonce proof → (d : ServerConversation) (nonce other : List ℕ) → held_conversation core ≡ Some d → IsClientFinal message nonce other → nonce ≡ d.nonce
nonce_held core message c proof is final d nonce other also last =
    (one_client_final message nonce other c.nonce proof last final).nonce_is ∙ ap (λ (x : ServerConversation). x.nonce) (one_held (held_conversation core) c d is also)

pub proof_row : (core : ServerCore) (message : List ℕ) (held : ServerConversation) (proof : List ℕ) → held_conversation core ≡ Some held → IsClientFinal message held.nonce proof → proof ≢ proof_under core.user.keys held.auth_message → ClientFinalRow core message Proof
proof_row core message held proof is final other =
    inr (
      no_row _ _ (λ none. not_started (held_conversation core) held none is),
      inr (
        no_row _ _ (λ none. none held.nonce proof final),
        inr (
          no_row _ _ (λ row. row.2.3 (nonce_held core message held proof is final row.0 row.2.0 row.2.1 row.1 row.2.2)),
          (refl, (held, is, (proof, final, other))),
        ),
      ),
    )

pub final_no_row : (core : ServerCore) (message : List ℕ) → IsValidClientFinal core message → HasNone (ClientFinalRow core message)
final_no_row core message is =
    let proof = proof_under core.user.keys is.0.auth_message in
    none_else _ _ (no_row _ _ (λ none. not_started (held_conversation core) is.0 none is.1))
    (none_else _ _ (no_row _ _ (λ none. none is.0.nonce proof is.2))
    (none_else _ _ (no_row _ _ (λ row. row.2.3 (nonce_held core message is.0 proof is.1 is.2 row.0 row.2.0 row.2.1 row.1 row.2.2)))
    (no_row _ _ (λ row. row.2.2 ((one_client_final message row.0.nonce row.2.0 is.0.nonce proof row.2.1 is.2).proof_is ∙ ap (λ (c : ServerConversation). proof_under core.user.keys c.auth_message) (one_held (held_conversation core) is.0 row.0 is.1 row.1))))))

pub exact_taken : {T : Type 0} (core : ServerCore) (message : List ℕ) (r : Result T ServerFault) → IsValidClientFinal core message → (fault : ServerFault) → ClientFinalRow core message fault → (r ≡ Err fault) ⊎ (r ≡ Err OutOfMemory)
exact_taken core message r is fault row = absurd (final_no_row core message is fault row)

pub exact_refused : {T : Type 0} (core : ServerCore) (message : List ℕ) (a : ServerFault) → ClientFinalRefused core message a → (fault : ServerFault) → ClientFinalRow core message fault → (◌≡◌ {A = Result T ServerFault} (Err a) (Err fault)) ⊎ (◌≡◌ {A = Result T ServerFault} (Err a) (Err OutOfMemory))
exact_refused core message a (inl is) fault row = inl (ap Err (one_final_row core message a fault is row))
exact_refused core message a (inr memory) fault row = inr (ap Err memory.0)
