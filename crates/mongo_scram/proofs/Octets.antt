-- A verifier is a list of bytes, and the server's message that carries it is a text.
use Rattle.std.proofs.Common.{ℕ, zero, suc, ◌<◌, List, [], ◌∷◌, ◌++◌, get_or, arith}
use Rattle.std.specs.Int.{w32, to_be_bytes}
use Rattle.std.specs.Str.{IsUtf8, IsAscii}
use Rattle.std.proofs.lemmas.Str.{IsUtf8-from_ascii}
use Rattle.base64.specs.Engines.{standard}
use Rattle.base64.specs.GeneralPurpose.{IsBytes}
use Rattle.base64.proofs.EngineFacts.{IsAscii-encode_of}
use Rattle.sha1.specs.Sha1.{sha1}
use Rattle.sha1.specs.Sha1 as S1
use Rattle.sha2.specs.Sha256 as S256
use Rattle.sha2.specs.Sha256.{sha256}
use Rattle.mongo_mac.specs.Hmac.{hmac_of}
use Rattle.mongo_scram.specs.Attributes.{verifier_attribute}
use Rattle.mongo_scram.specs.declared.scram_version.ScramVersion.{ScramVersion}
use Rattle.mongo_scram.specs.declared.scram_version.ScramVersion.TheVariants.{Sha1, Sha256}
use Rattle.mongo_scram.specs.Base64.{base64_of}
use Rattle.mongo_scram.specs.Messages.{verifier}
use Rattle.mongo_scram.specs.Version.{digest_of}

-- ---- a digest's bytes

both_below : (n : ℕ) (xs ys : List ℕ) → ((i : ℕ) → get_or xs i 0 < n) → ((i : ℕ) → get_or ys i 0 < n) → (i : ℕ) → get_or (xs ++ ys) i 0 < n
both_below n [] ys p q i = q i
both_below n (x ∷ xs) ys p q zero = p 0
both_below n (x ∷ xs) ys p q (suc i) = both_below n xs ys (λ k. p (suc k)) q i

word_bytes : (word : ℕ) → IsBytes (to_be_bytes w32 word)
word_bytes word zero = omega arith
word_bytes word (suc zero) = omega arith
word_bytes word (suc (suc zero)) = omega arith
word_bytes word (suc (suc (suc zero))) = omega arith
word_bytes word (suc (suc (suc (suc i)))) = omega arith

sha1_words : (hash : List ℕ) (n : ℕ) → IsBytes (S1.digest_bytes hash n)
unfolding S1.digest_bytes
sha1_words hash zero = λ i. omega arith
sha1_words hash (suc n) = both_below 256 (S1.digest_bytes hash n) (to_be_bytes w32 (get_or hash n 0)) (sha1_words hash n) (word_bytes (get_or hash n 0))

sha256_words : (hash : List ℕ) (n : ℕ) → IsBytes (S256.digest_bytes hash n)
unfolding S256.digest_bytes
sha256_words hash zero = λ i. omega arith
sha256_words hash (suc n) = both_below 256 (S256.digest_bytes hash n) (to_be_bytes w32 (get_or hash n 0)) (sha256_words hash n) (word_bytes (get_or hash n 0))

pub digest_octets : (version : ScramVersion) (text : List ℕ) → IsBytes (digest_of version text)
unfolding sha1 sha256
digest_octets Sha1 text = sha1_words _ 5
digest_octets Sha256 text = sha256_words _ 8

pub verifier_bytes : (version : ScramVersion) (salted auth_message : List ℕ) → IsBytes (verifier (digest_of version) salted auth_message)
unfolding verifier hmac_of
verifier_bytes version salted auth_message = digest_octets version _

-- ---- the text of the server's last message

verifier_ascii : (bytes : List ℕ) → IsAscii (verifier_attribute ++ base64_of bytes)
unfolding base64_of
verifier_ascii bytes zero = omega arith
verifier_ascii bytes (suc zero) = omega arith
verifier_ascii bytes (suc (suc i)) = IsAscii-encode_of standard bytes i

pub verifier_text : (bytes : List ℕ) → IsUtf8 (verifier_attribute ++ base64_of bytes)
verifier_text bytes = IsUtf8-from_ascii (verifier_attribute ++ base64_of bytes) (verifier_ascii bytes)
