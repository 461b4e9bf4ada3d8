-- How long the texts of a login are at most, and that a base64 text is a nonce.
use Rattle.std.proofs.Common.{ℕ, zero, suc, ◌+◌, ◌*◌, ◌/◌, ◌%◌, ◌<◌, ◌≤◌, ◌==◌, Bool, true, false, List, [], ◌∷◌, ◌++◌, length, length-append, replicate, slice_index, if◌then◌else◌, refl, arith}
use Rattle.std.specs.List.{AllByRecursion}
use Rattle.std.proofs.lemmas.List.{length-replicate}
use Rattle.std.proofs.lemmas.List.Elements.{All-from_recursion}
use Rattle.base64.specs.Engines.{standard}
use Rattle.base64.specs.Rfc4648.{encode_symbols, padding_len}
use Rattle.base64.proofs.Tables.{is_alphabet_symbol}
use Rattle.mongo_mac.specs.Bytes.{xor_bytes}
use Rattle.mongo_mac.specs.Digests.{length-sha1, length-sha256}
use Rattle.mongo_mac.specs.Hmac.{hmac_of}
use Rattle.mongo_scram.specs.Attributes.{after_comma, nonce_attribute, proof_attribute}
use Rattle.mongo_scram.specs.declared.scram_version.ScramVersion.{ScramVersion}
use Rattle.mongo_scram.specs.declared.scram_version.ScramVersion.TheVariants.{Sha1, Sha256}
use Rattle.mongo_scram.specs.Base64.{base64_of}
use Rattle.mongo_scram.specs.Messages.{bare_message, open_message, no_proof, client_key, proof, close_message}
use Rattle.mongo_scram.specs.UserName.{escaped_byte, escaped, comma_code, equals_code}
use Rattle.mongo_scram.specs.Version.{digest_of}
use Rattle.mongo_server.specs.ClientMessages.{IsNonceByte, IsNonce}
use Rattle.mongo_server.specs.Authentication.{Authentication, salted_between, auth_message_between, close_of}

-- ---- base64

abbrev symbols : List ℕ
symbols = standard.encode_table

length_symbols : (table bytes : List ℕ) → length (encode_symbols table bytes) ≤ 2 * length bytes
unfolding encode_symbols
length_symbols table [] = omega arith
length_symbols table (a ∷ []) = omega arith
length_symbols table (a ∷ b ∷ []) = omega arith
length_symbols table (a ∷ b ∷ c ∷ rest) = omega (arith, length_symbols table rest)

pub length_base64 : (bytes : List ℕ) → length (base64_of bytes) ≤ 2 * length bytes + 2
unfolding base64_of
length_base64 bytes =
    omega (arith, length-append (encode_symbols symbols bytes) (replicate (padding_len (length bytes)) 61), length-replicate {A = ℕ} (padding_len (length bytes)) 61, length_symbols symbols bytes)

symbol : (i : ℕ) → i < 64 → IsNonceByte (slice_index symbols i)
symbol i below = let is = is_alphabet_symbol symbols 0x2C i refl below in (is.0, is.1, is.2)

symbols_printable : (bytes : List ℕ) → AllByRecursion (λ b. b < 256) bytes → AllByRecursion IsNonceByte (encode_symbols symbols bytes)
unfolding encode_symbols
symbols_printable [] all = tt
symbols_printable (a ∷ []) all = let x = all.0 in (symbol (a / 4) (omega arith), (symbol (a % 4 * 16) (omega arith), tt))
symbols_printable (a ∷ b ∷ []) all = let x = all.0 in let y = all.1.0 in (symbol (a / 4) (omega arith), (symbol (a % 4 * 16 + b / 16) (omega arith), (symbol (b % 16 * 4) (omega arith), tt)))
symbols_printable (a ∷ b ∷ c ∷ rest) all =
    let x = all.0 in let y = all.1.0 in let z = all.1.1.0 in
    (symbol (a / 4) (omega arith), (symbol (a % 4 * 16 + b / 16) (omega arith), (symbol (b % 16 * 4 + c / 64) (omega arith), (symbol (c % 64) (omega arith), symbols_printable rest all.1.1.1))))

all_joined : (xs ys : List ℕ) → AllByRecursion IsNonceByte xs → AllByRecursion IsNonceByte ys → AllByRecursion IsNonceByte (xs ++ ys)
all_joined [] ys p q = q
all_joined (x ∷ xs) ys p q = (p.0, all_joined xs ys p.1 q)

padding : (n : ℕ) → AllByRecursion IsNonceByte (replicate n 61)
padding zero = tt
padding (suc n) = ((omega arith, omega arith, λ is. absurd (omega arith)), padding n)

alike : (n b : ℕ) → b < 256 → AllByRecursion (λ x. x < 256) (replicate n b)
alike zero b small = tt
alike (suc n) b small = (small, alike n b small)

base64_printable : (bytes : List ℕ) → AllByRecursion (λ b. b < 256) bytes → AllByRecursion IsNonceByte (base64_of bytes)
unfolding base64_of
base64_printable bytes all = all_joined (encode_symbols symbols bytes) (replicate (padding_len (length bytes)) 61) (symbols_printable bytes all) (padding (padding_len (length bytes)))

-- so many bytes that are alike
pub alike_nonce : (n b : ℕ) → b < 256 → IsNonce (base64_of (replicate n b))
alike_nonce n b small = All-from_recursion IsNonceByte (base64_of (replicate n b)) (base64_printable (replicate n b) (alike n b small))

-- ---- the client's first message

three : (s t : Bool) (b : ℕ) → length (if s then 0x3D ∷ equals_code else (if t then 0x3D ∷ comma_code else b ∷ [])) ≤ 3
three true t b = omega arith
three false true b = omega arith
three false false b = omega arith

length_escaped : (name : List ℕ) → length (escaped name) ≤ 3 * length name
length_escaped [] = omega arith
length_escaped (b ∷ bs) = omega (arith, length-append (escaped_byte b) (escaped bs), three (b == 0x3D) (b == 0x2C) b, length_escaped bs)

pub length_open : (username nonce : List ℕ) → length (open_message username nonce) ≤ 3 * length username + length nonce + 10
unfolding open_message bare_message
length_open username nonce = omega (arith, length-append (escaped username) (after_comma nonce_attribute ++ nonce), length_escaped username)

-- ---- the client's last message

length_xor : (xs ys : List ℕ) → length (xor_bytes xs ys) ≤ length xs
unfolding xor_bytes
length_xor [] ys = omega arith
length_xor (x ∷ xs) [] = omega arith
length_xor (x ∷ xs) (y ∷ ys) = omega (arith, length_xor xs ys)

pub length_digest : (version : ScramVersion) (text : List ℕ) → length (digest_of version text) ≤ 32
length_digest Sha1 text = omega (arith, length-sha1 text)
length_digest Sha256 text = omega (arith, length-sha256 text)

length_key : (version : ScramVersion) (salted : List ℕ) → length (client_key (digest_of version) salted) ≤ 32
unfolding client_key hmac_of
length_key version salted = length_digest version _

length_proof : (version : ScramVersion) (salted auth_message : List ℕ) → length (proof (digest_of version) salted auth_message) ≤ 32
unfolding proof
length_proof version salted auth_message =
    let key = client_key (digest_of version) salted in
    omega (arith, length_xor key (hmac_of (digest_of version) (digest_of version key) auth_message), length_key version salted)

pub length_closing : (version : ScramVersion) (salted auth_message nonce : List ℕ) → length (close_message (digest_of version) salted auth_message nonce) ≤ length nonce + 100
unfolding close_message no_proof
length_closing version salted auth_message nonce =
    let owed = proof (digest_of version) salted auth_message in
    omega (arith, length-append nonce (after_comma proof_attribute ++ base64_of owed), length_base64 owed, length_proof version salted auth_message)

pub length_close : (x : Authentication) → length (close_of x) ≤ length x.nonce + length x.suffix + 100
length_close x = omega (arith, length_closing x.version (salted_between x) (auth_message_between x) (x.nonce ++ x.suffix), length-append x.nonce x.suffix)
