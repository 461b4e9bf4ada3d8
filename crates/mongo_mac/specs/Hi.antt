-- Hi(str, salt, i) (RFC 5802, section 2.2; PBKDF2 of RFC 8018 with one block of output). `mac` is
-- HMAC(str, _).
use Rattle.std.specs.Prelude.{ℕ, zero, suc, List, [], ◌∷◌, ◌++◌}
use Rattle.mongo_mac.specs.Bytes.{xor_bytes}
use Rattle.mongo_mac.specs.Hmac.{hmac_of}

-- INT(1): the block's index in four octets, the most significant first
abbrev pub first_index : List ℕ
first_index = 0 ∷ 0 ∷ 0 ∷ 1 ∷ []

-- U1, U2, ..: each is the HMAC of the text before it, and before U1 stands salt + INT(1)
unfoldable pub u_of : (List ℕ → List ℕ) → List ℕ → ℕ → List ℕ
u_of mac salt zero = salt ++ first_index
u_of mac salt (suc j) = mac (u_of mac salt j)

-- U1 XOR U2 XOR .. XOR Ui; RFC 5802 has no i below 1
unfoldable pub hi_under : (List ℕ → List ℕ) → List ℕ → ℕ → List ℕ
hi_under mac salt zero = []
hi_under mac salt (suc zero) = u_of mac salt 1
hi_under mac salt (suc (suc i)) =
    xor_bytes (hi_under mac salt (suc i)) (u_of mac salt (suc (suc i)))

-- Hi(str, salt, i) with HMAC over the hash function h
unfoldable pub hi_of : (List ℕ → List ℕ) → List ℕ → List ℕ → ℕ → List ℕ
hi_of h str salt i = hi_under (hmac_of h str) salt i
