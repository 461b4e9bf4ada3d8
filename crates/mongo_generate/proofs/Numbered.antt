-- The login of a number is the client's side of a possible authentication.
use Rattle.std.proofs.Common.{◌≡◌, ◌⊎◌, ℕ, zero, suc, ◌+◌, ◌%◌, ◌<◌, ◌≤◌, Result, Ok, Err, IfOk, List, [], ◌∷◌, ◌++◌, length, replicate, codes, decimal, inl, inr, get_or, ap, ◌∙◌, subst, arith, Any}
use Rattle.std.proofs.lemmas.Fmt.{decimal_digit}
use Rattle.std.proofs.lemmas.List.{length-replicate}
use Rattle.mongo_wire.specs.declared.error.ErrorKind.{ErrorKind}
use Rattle.mongo_wire.specs.declared.error.ErrorKind.TheVariants.{OutOfMemory}
use Rattle.mongo_command.specs.Conversation.{HasNone}
use Rattle.mongo_command.proofs.Plans.{none_else, no_row}
use Rattle.mongo_scram.specs.declared.scram_version.ScramVersion.{ScramVersion}
use Rattle.mongo_scram.specs.declared.scram_version.ScramVersion.TheVariants.{Sha1, Sha256}
use Rattle.mongo_scram.specs.Base64.{base64_of}
use Rattle.mongo_scram.specs.Key.{IsControl, PasswordRow}
use Rattle.mongo_scram.specs.Messages.{open_message}
use Rattle.mongo_establish.specs.declared.login_state.Nonces.{Nonces}
use Rattle.mongo_generate.specs.declared.user_login.UserLogin.{UserLogin}
use Rattle.mongo_generate.specs.Generated.{version_at, authentication_at, nonces_at}
use Rattle.mongo_generate.specs.Login.{credential_by, IsUserLogin, IsPossible, IsAuthenticationClient}
use Rattle.mongo_generate.proofs.Texts.{length_base64, alike_nonce}

-- ---- its password

at_most : (d k x : ℕ) → d < 10 → k < 2 → get_or (112 ∷ (48 + d) ∷ []) k x ≡ x → (32 ≤ x) × (x ≤ 126)
at_most d zero x few within at = let e : 112 ≡ x = at in (omega arith, omega arith)
at_most d (suc zero) x few within at = let e : 48 + d ≡ x = at in (omega arith, omega arith)
at_most d (suc (suc k)) x few within at = absurd (omega arith)

no_high : (d : ℕ) → d < 10 → Any (λ byte. 128 ≤ byte) (112 ∷ (48 + d) ∷ []) → ⊥
no_high d few any = let b = at_most d any.0 any.1 few any.2 any.3 in let high = any.4 in absurd (omega (arith, b.0, b.1))

no_control : (d : ℕ) → d < 10 → Any IsControl (112 ∷ (48 + d) ∷ []) → ⊥
no_control d few any =
    let b = at_most d any.0 any.1 few any.2 any.3 in
    elim any.4 [ inl low ↦ absurd (omega (arith, b.0)) | inr last ↦ absurd (omega (arith, b.1)) ]

none_applies : (version : ScramVersion) (d : ℕ) → d < 10 → HasNone (PasswordRow version (112 ∷ (48 + d) ∷ []))
none_applies Sha1 d few = λ kind row. absurd row
none_applies Sha256 d few = none_else _ _ (no_row _ _ (no_high d few)) (no_row _ _ (no_control d few))

usable : (version : ScramVersion) (d : ℕ) → d < 10 → (kind : ErrorKind) → PasswordRow version (112 ∷ decimal d) kind → ⊥
usable version d few kind row = none_applies version d few kind (subst (λ digits. PasswordRow version (112 ∷ digits) kind) (decimal_digit d few) row)

-- a user of its password is refused for want of memory alone
pub password_only_memory : (k : ℕ) (version : ScramVersion) (password : List ℕ) (kind : ErrorKind) → version ≡ version_at k → password ≡ codes "p" ++ decimal (k % 3) → PasswordRow version password kind ⊎ (kind ≡ OutOfMemory) → kind ≡ OutOfMemory
password_only_memory k version password kind v p (inl row) =
    absurd (usable (version_at k) (k % 3) (omega arith) kind (subst (λ w. PasswordRow w (codes "p" ++ decimal (k % 3)) kind) v (subst (λ s. PasswordRow version s kind) p row)))
password_only_memory k version password kind v p (inr memory) = memory

-- ---- its authentication

one_digit : (d : ℕ) → d < 10 → length (decimal d) ≡ 1
one_digit d few = ap length (decimal_digit d few)

pub possible_at : (k : ℕ) → IsPossible (authentication_at k)
possible_at k = record {
  printable = alike_nonce 32 (k % 256) (omega arith);
  enough = omega arith;
  within = omega arith;
  usable = usable (version_at k) (k % 3) (omega arith);
  short = (
      let user = one_digit (k % 7) (omega arith) in
      let nonce = length_base64 (replicate 32 (k % 256)) in
      let grains = length-replicate 16 (k % 5) in
      let drawn = length-replicate 32 (k % 256) in
      omega (arith, user, nonce, grains, drawn)
      );
}

-- its nonces are bytes of its number and of the next one
pub nonces_as_at : (k : ℕ) (nonces : Nonces) → nonces.first ≡ replicate 32 (k % 256) → nonces.second ≡ replicate 32 ((k % 256 + 1) % 256) → nonces ≡ nonces_at k
nonces_as_at k nonces first second =
    let next : (k % 256 + 1) % 256 ≡ (k + 1) % 256 = omega arith in
    let second_is : nonces.second ≡ replicate 32 ((k + 1) % 256) = second ∙ ap (replicate 32) next in
    λ i. record { first = first i; second = second_is i }

pub login_at : {E : Type 0} (k : ℕ) (r : Result UserLogin E) (version : ScramVersion) (username password : List ℕ) (nonces : Nonces) → version ≡ version_at k → username ≡ codes "u" ++ decimal (k % 7) → password ≡ codes "p" ++ decimal (k % 3) → nonces ≡ nonces_at k
    → IfOk r (IsUserLogin version username password nonces) → IfOk r (IsAuthenticationClient (authentication_at k))
login_at k (Ok login) version username password nonces v u p n is = record {
  possible = possible_at k;
  credential_is = is.credential_is ∙ (λ i. credential_by (v i) (u i) (p i));
  nonce_is = ap (λ (m : Nonces). base64_of m.first) (is.nonces_are ∙ n);
  first_is = is.first_is ∙ (λ i. open_message (u i) (base64_of (n i).first));
}
login_at k (Err e) version username password nonces v u p n is = tt

pub nonces_of_login : {E : Type 0} (k : ℕ) (r : Result UserLogin E) (version : ScramVersion) (username password : List ℕ) (nonces : Nonces) → nonces ≡ nonces_at k → IfOk r (IsUserLogin version username password nonces) → IfOk r (λ login. login.inputs.nonces ≡ nonces_at k)
nonces_of_login k (Ok login) version username password nonces n is = is.nonces_are ∙ n
nonces_of_login k (Err e) version username password nonces n is = tt
