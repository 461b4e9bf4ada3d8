-- The keys of the conversation's documents, by the authentication specification's section on MONGODB-AWS.
use Rattle.std.specs.Prelude.{ℕ, List, codes}

-- the client's nonce, of its first message
abbrev pub client_nonce_key : List ℕ
client_nonce_key = codes "r"

-- the client's channel binding flag, of its first message
abbrev pub binding_key : List ℕ
binding_key = codes "p"

-- the server's nonce, of its first message
abbrev pub server_nonce_key : List ℕ
server_nonce_key = codes "s"

-- the host of STS, of the server's first message
abbrev pub sts_host_key : List ℕ
sts_host_key = codes "h"

-- the authorization header, of the client's second message
abbrev pub authorization_key : List ℕ
authorization_key = codes "a"

-- the date, of the client's second message
abbrev pub date_key : List ℕ
date_key = codes "d"

-- the session token, of the client's second message
abbrev pub token_key : List ℕ
token_key = codes "t"
