-- A whole authentication between a client and a server that know one user, message by message (RFC 5802, section 3).
use Rattle.std.specs.Prelude.{◌≡◌, ℕ, List, ◌++◌, decimal}
use Rattle.mongo_scram.specs.declared.scram_version.ScramVersion.{ScramVersion}
use Rattle.mongo_scram.specs.Key.{salted}
use Rattle.mongo_scram.specs.Messages.{bare_message, open_message, transcript, close_message, verifier}
use Rattle.mongo_scram.specs.ServerMessages.{IsServerFirst, IsIterationCount}
use Rattle.mongo_scram.specs.Validity.{BeginsWith}
use Rattle.mongo_scram.specs.Version.{digest_of}
use Rattle.mongo_server.specs.ServerTexts.{server_first, server_final}

-- what both sides know, and what each of them adds
pub record Authentication : Type 0 where
  pub version : ScramVersion
  pub username : List ℕ
  pub password : List ℕ
  pub salt : List ℕ
  pub count : ℕ
  -- the client's nonce, and what the server puts behind it
  pub nonce : List ℕ
  pub suffix : List ℕ

abbrev pub joined_of : Authentication → List ℕ
joined_of x = x.nonce ++ x.suffix

abbrev pub salted_between : Authentication → List ℕ
salted_between x = salted x.version x.username x.password x.salt x.count

-- client first
abbrev pub open_of : Authentication → List ℕ
open_of x = open_message x.username x.nonce

-- server first
abbrev pub first_of : Authentication → List ℕ
first_of x = server_first (joined_of x) x.salt x.count

-- what both sign
abbrev pub auth_message_between : Authentication → List ℕ
auth_message_between x = transcript (bare_message x.username x.nonce) (first_of x) (joined_of x)

-- client final
abbrev pub close_of : Authentication → List ℕ
close_of x = close_message (digest_of x.version) (salted_between x) (auth_message_between x) (joined_of x)

-- server final
abbrev pub server_final_of : Authentication → List ℕ
server_final_of x = server_final (verifier (digest_of x.version) (salted_between x) (auth_message_between x))

-- the text is the server's first message, and a client that sent the nonce reads the authentication's joined nonce, salt and
-- count in it
pub record IsReadAs (text : List ℕ) (x : Authentication) : Type 0 where
  pub text_is : text ≡ first_of x
  pub is_first : IsServerFirst text (joined_of x) x.salt (decimal x.count)
  pub is_count : IsIterationCount (decimal x.count) x.count
  pub begins : BeginsWith (joined_of x) x.nonce
