-- A proof is a list of bytes.
use Rattle.std.proofs.Common.{ℕ, zero, suc, List, [], ◌∷◌, arith}
use Rattle.std.proofs.lemmas.Nat.{xor_lt}
use Rattle.base64.specs.GeneralPurpose.{IsBytes}
use Rattle.mongo_mac.specs.Bytes.{xor_bytes}
use Rattle.mongo_mac.specs.Hmac.{hmac_of}
use Rattle.mongo_scram.specs.declared.scram_version.ScramVersion.{ScramVersion}
use Rattle.mongo_scram.specs.Messages.{client_key, proof}
use Rattle.mongo_scram.specs.Version.{digest_of}
use Rattle.mongo_scram.proofs.Octets.{digest_octets}

xor_octets : (xs ys : List ℕ) → IsBytes xs → IsBytes ys → IsBytes (xor_bytes xs ys)
unfolding xor_bytes
xor_octets [] ys p q i = omega arith
xor_octets (x ∷ xs) [] p q i = omega arith
xor_octets (x ∷ xs) (y ∷ ys) p q zero = xor_lt 8 x y (p 0) (q 0)
xor_octets (x ∷ xs) (y ∷ ys) p q (suc i) = xor_octets xs ys (λ k. p (suc k)) (λ k. q (suc k)) i

pub proof_bytes : (version : ScramVersion) (salted auth_message : List ℕ) → IsBytes (proof (digest_of version) salted auth_message)
unfolding proof client_key hmac_of
proof_bytes version salted auth_message = xor_octets _ _ (digest_octets version _) (digest_octets version _)
