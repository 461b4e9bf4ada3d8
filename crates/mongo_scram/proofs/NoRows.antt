-- Where no row applies, the message is one that a client takes, and the other way round.
use Rattle.std.proofs.Common.{◌≡◌, ◌≢◌, ℕ, ◌<◌, ◌≤◌, Bool, true, false, None, Some, List, length, drop, refl, sym, ap, subst, ◌∙◌, arith, Decides, nat_eq}
use Rattle.std.specs.List.{starts_with}
use Rattle.std.proofs.lemmas.Bool.{false≢true}
use Rattle.std.proofs.lemmas.Slice.Eq.{starts_is, bytes_eq-Decides}
use Rattle.std.proofs.lemmas.Bool.Decides.{Decides-eqb}
use Rattle.mongo_bson.specs.declared.owned_value.OwnedValue.{OwnedValue}
use Rattle.mongo_wire.specs.declared.error.ErrorKind.{ErrorKind}
use Rattle.mongo_wire.specs.declared.error.ErrorKind.TheVariants.{Authentication}
use Rattle.mongo_wire.specs.declared.auth_fault.AuthFault.TheVariants.{NotCompleted}
use Rattle.mongo_command.specs.Conversation.{HasNone}
use Rattle.mongo_command.proofs.Plans.{no_row, row_denied, no_of, of_denied, none_unmet, all_met}
use Rattle.mongo_scram.specs.declared.server_first.ServerFirst.{ServerFirst}
use Rattle.mongo_scram.specs.declared.server_final.ServerFinal.{ServerFinal}
use Rattle.mongo_scram.specs.declared.server_final.ServerFinalBody.{ServerFinalBody}
use Rattle.mongo_scram.specs.declared.server_final.ServerFinalBody.TheVariants.{Error, Verifier}
use Rattle.mongo_scram.specs.Validity.{BeginsWith, least_count, first_demands, IsValidFirst, ServerFirstRow, IsVerifier, IsDecodable, final_demands, IsValidFinal, ServerFinalRow}

-- ---- what can be decided holds where its denial is refuted

not_true : (b : Bool) → (b ≡ true → ⊥) → b ≡ false
not_true true h = absurd (h refl)
not_true false h = refl

not_false : (b : Bool) → (b ≡ false → ⊥) → b ≡ true
not_false true h = refl
not_false false h = absurd (h refl)

not_less : (a b : ℕ) → (a < b → ⊥) → b ≤ a
not_less a b h = omega (arith, h)

is_false : (b : Bool) → ((b ≡ false → ⊥) → ⊥) → b ≡ false
is_false b h = not_true b (λ yes. h (λ no. false≢true (sym no ∙ yes)))

is_least : (a b : ℕ) → ((a ≤ b → ⊥) → ⊥) → a ≤ b
is_least a b h = not_less b a (λ less. h (λ least. omega (arith, less, least)))

stable : {P : Type 0} (r : Bool) → Decides r P → ((P → ⊥) → ⊥) → P
stable true d h = d.0 refl
stable false d h = absurd (h (λ p. let no : false ≡ true = d.1 p in cc))

begins_decided : (nonce ours : List ℕ) → Decides (starts_with nat_eq nonce ours) (BeginsWith nonce ours)
begins_decided nonce ours =
    let starts = starts_is Decides-eqb nonce ours (starts_with nat_eq nonce ours) refl in
    (λ is. (drop (length ours) nonce, starts.0 is), λ begins. starts.1 begins.0 begins.1)

begun : (nonce ours : List ℕ) → ((BeginsWith nonce ours → ⊥) → ⊥) → BeginsWith nonce ours
begun nonce ours h = stable _ (begins_decided nonce ours) h

same_bytes : (a b : List ℕ) → (a ≢ b → ⊥) → a ≡ b
same_bytes a b h = stable _ (bytes_eq-Decides a b) h

same_value : (a b : OwnedValue) → (a ≢ b → ⊥) → a ≡ b
same_value a b h =
    let kinds : a.kind ≡ b.kind = stable _ (Decides-eqb a.kind b.kind) (λ other. h (λ is. other (ap (λ v. v.kind) is))) in
    let bytes : a.bytes ≡ b.bytes = same_bytes a.bytes b.bytes (λ other. h (λ is. other (ap (λ v. v.bytes) is))) in
    ap (λ (k : ℕ). let v : OwnedValue = record { kind = k; bytes = a.bytes } in v) kinds ∙ ap (λ (bs : List ℕ). let v : OwnedValue = record { kind = b.kind; bytes = bs } in v) bytes

-- ---- the server's first message

pub valid_first : (first : ServerFirst) (nonce : List ℕ) (max_iterations : ℕ) → HasNone (ServerFirstRow first nonce max_iterations) → IsValidFirst first nonce max_iterations
valid_first first nonce max_iterations none =
    all_met (first_demands first nonce max_iterations) (
      is_false first.done,
      (
        begun first.nonce nonce,
        (
          is_least least_count first.i,
          (
            is_least first.i max_iterations,
            tt,
          ),
        ),
      ),
    )
    (of_denied Authentication _ none)

pub valid_first_row : (first : ServerFirst) (nonce : List ℕ) (max_iterations : ℕ) → IsValidFirst first nonce max_iterations → HasNone (ServerFirstRow first nonce max_iterations)
valid_first_row first nonce max_iterations valid = no_of Authentication _ (none_unmet (first_demands first nonce max_iterations) valid)

-- ---- the server's last message

is_verifier : (body : ServerFinalBody) → ((IsVerifier body → ⊥) → ⊥) → IsVerifier body
is_verifier (Error text) h = h (λ is. is)
is_verifier (Verifier found) h = tt

is_decodable : (body : ServerFinalBody) → ((IsDecodable body → ⊥) → ⊥) → IsDecodable body
is_decodable (Error text) h = tt
is_decodable (Verifier None) h = h (λ is. is)
is_decodable (Verifier (Some bytes)) h = tt

no_error : (text owed : List ℕ) → Error text ≡ Verifier (Some owed) → ⊥
no_error text owed is = cc

no_bytes : (owed : List ℕ) → ◌≡◌ {A = ServerFinalBody} (Verifier None) (Verifier (Some owed)) → ⊥
no_bytes owed is = cc

same_owed : (a b : List ℕ) → ◌≡◌ {A = ServerFinalBody} (Verifier (Some a)) (Verifier (Some b)) → a ≡ b
same_owed a b is = cc

is_owed : (body : ServerFinalBody) (owed : List ℕ) → ((body ≡ Verifier (Some owed) → ⊥) → ⊥) → body ≡ Verifier (Some owed)
is_owed (Error text) owed h = absurd (h (no_error text owed))
is_owed (Verifier None) owed h = absurd (h (no_bytes owed))
is_owed (Verifier (Some bytes)) owed h = ap (λ b. Verifier (Some b)) (same_bytes bytes owed (λ other. h (λ is. other (same_owed bytes owed is))))

pub valid_final : (last : ServerFinal) (conversation : OwnedValue) (owed : List ℕ) → HasNone (ServerFinalRow last conversation owed) → IsValidFinal last conversation owed
valid_final last conversation owed none =
    all_met (final_demands last conversation owed) (
      same_value last.conversation_id conversation,
      (
        is_verifier last.body,
        (
          is_decodable last.body,
          (
            is_owed last.body owed,
            tt,
          ),
        ),
      ),
    )
    (of_denied Authentication _ none)

-- the verifier that the server owes
pub verifier_in : (last : ServerFinal) (conversation : OwnedValue) (owed : List ℕ) → IsValidFinal last conversation owed → last.body ≡ Verifier (Some owed)
verifier_in last conversation owed valid = valid.1.1.1.0

pub valid_final_by : (last : ServerFinal) (conversation : OwnedValue) (owed : List ℕ) → last.conversation_id ≡ conversation → last.body ≡ Verifier (Some owed) → IsValidFinal last conversation owed
valid_final_by last conversation owed same is = (
  same,
  (
    subst IsVerifier (sym is) tt,
    (
      subst IsDecodable (sym is) tt,
      (
        is,
        tt,
      ),
    ),
  ),
)

pub valid_final_row : (last : ServerFinal) (conversation : OwnedValue) (owed : List ℕ) → IsValidFinal last conversation owed → HasNone (ServerFinalRow last conversation owed)
valid_final_row last conversation owed valid = no_of Authentication _ (none_unmet (final_demands last conversation owed) valid)

pub completed : (done : Bool) → ((kind : ErrorKind) → (kind ≡ Authentication NotCompleted) × (done ≡ false) → ⊥) → done ≡ true
completed done none = not_false done (row_denied _ _ none)

pub not_completed : (done : Bool) → done ≡ true → (kind : ErrorKind) → (kind ≡ Authentication NotCompleted) × (done ≡ false) → ⊥
not_completed done is = no_row _ _ (λ no. false≢true (sym no ∙ is))
