-- The attributes of SCRAM's messages, each a letter and its equals sign, in the words of RFC 5802, section 7.
use Rattle.std.specs.Prelude.{ℕ, List, ◌∷◌, ◌++◌, codes}

-- an attribute where it follows another
abbrev pub after_comma : List ℕ → List ℕ
after_comma attribute = 0x2C ∷ attribute

-- gs2-header: no channel binding, and no other user is named
abbrev pub gs2_header : List ℕ
gs2_header = codes "n,,"

abbrev pub user_name_attribute : List ℕ
user_name_attribute = codes "n="

abbrev pub nonce_attribute : List ℕ
nonce_attribute = codes "r="

-- the nonce in the client's last message, behind its channel binding: that is none, for `biws` is `n,,` in base64
abbrev pub bound_nonce_attribute : List ℕ
bound_nonce_attribute = codes "c=biws" ++ after_comma nonce_attribute

abbrev pub salt_attribute : List ℕ
salt_attribute = codes "s="

abbrev pub iteration_count_attribute : List ℕ
iteration_count_attribute = codes "i="

abbrev pub proof_attribute : List ℕ
proof_attribute = codes "p="

abbrev pub verifier_attribute : List ℕ
verifier_attribute = codes "v="

-- server-error
abbrev pub error_attribute : List ℕ
error_attribute = codes "e="
