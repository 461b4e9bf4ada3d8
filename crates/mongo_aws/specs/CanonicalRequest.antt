-- The request to STS that a client signs, by AWS Signature Version 4, "Create a canonical request". The server sends it to STS,
-- which tells it by the signature who the client is.
use Rattle.std.specs.Prelude.{ℕ, Option, None, Some, List, [], ◌∷◌, ◌++◌, length, map, flat_map, option_copied, codes}
use Rattle.std.specs.Fmt.{decimal}
use Rattle.std.specs.List.{join_with_byte}
use Rattle.hex.specs.Hex.{encode_lower}
use Rattle.mongo_mac.specs.Digests.{sha256}
use Rattle.mongo_aws.specs.declared.canonical_request.Request.{Request}

pub record Header : Type 0 where
  pub name : List ℕ
  pub value : List ℕ

abbrev pub header : List ℕ → List ℕ → Header
header name value = record { name = name; value = value }

-- the body: who am I?
abbrev pub request_body : List ℕ
request_body = codes "Action=GetCallerIdentity&Version=2011-06-15"

-- the session token, where the credentials have one
abbrev pub token_headers : Option (List ℕ) → List Header
token_headers None = []
token_headers (Some token) = header (codes "x-amz-security-token") token ∷ []

-- the headers in the order of their names, all of which are signed; the nonce is a text of base64
unfoldable pub request_headers : Option (List ℕ) → List ℕ → List ℕ → List ℕ → List Header
request_headers token date host nonce_text =
    header (codes "content-length") (decimal (length request_body))
    ∷ header (codes "content-type") (codes "application/x-www-form-urlencoded")
    ∷ header (codes "host") host
    ∷ header (codes "x-amz-date") date
    ∷ (token_headers token
    ++ header (codes "x-mongodb-gs2-cb-flag") (codes "n")
    ∷ header (codes "x-mongodb-server-nonce") nonce_text
    ∷ [])

-- the same of what a request is made of
abbrev pub headers_in : Request → List Header
headers_in request = request_headers (option_copied request.token) request.date.now request.host.now request.nonce.now

-- a header's line
abbrev pub header_line : Header → List ℕ
header_line h = h.name ++ codes ":" ++ h.value ++ codes "\n"

-- CanonicalHeaders
unfoldable pub canonical_headers : List Header → List ℕ
canonical_headers headers = flat_map header_line headers

-- SignedHeaders: the headers' names, parted by semicolons
unfoldable pub signed_headers : List Header → List ℕ
signed_headers headers = join_with_byte 59 (map (λ h. h.name) headers)

-- the lower-case hex of the SHA-256 digest
unfoldable pub hash : List ℕ → List ℕ
hash text = encode_lower (sha256 text)

-- HTTPRequestMethod, CanonicalURI, CanonicalQueryString, CanonicalHeaders, SignedHeaders and HashedPayload, a line feed behind each
-- but the last
unfoldable pub canonical_request : List Header → List ℕ
canonical_request headers =
    codes "POST" ++ codes "\n"
    ++ codes "/" ++ codes "\n"
    ++ codes "" ++ codes "\n"
    ++ canonical_headers headers ++ codes "\n"
    ++ signed_headers headers ++ codes "\n"
    ++ hash request_body
