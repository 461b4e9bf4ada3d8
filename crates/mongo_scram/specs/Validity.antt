-- Which messages of the server a client takes.
use Rattle.std.specs.Prelude.{◌≡◌, ℕ, ◌≤◌, false, Some, None, List, [], ◌++◌, ⊤}
use Rattle.mongo_wire.specs.declared.error.ErrorKind.{ErrorKind}
use Rattle.mongo_wire.specs.declared.error.ErrorKind.TheVariants.{Authentication}
use Rattle.mongo_wire.specs.declared.auth_fault.AuthFault.{AuthFault}
use Rattle.mongo_wire.specs.declared.auth_fault.AuthFault.TheVariants.{EndedEarly, Nonce, CountLow, CountHigh, Conversation, ServerError, Malformed, Verifier as WrongVerifier}
use Rattle.mongo_bson.specs.declared.owned_value.OwnedValue.{OwnedValue}
use Rattle.mongo_command.specs.Conversation.{Demands, no_demand, demand, AreMet, UnmetRow, row_of}
use Rattle.mongo_scram.specs.declared.server_first.ServerFirst.{ServerFirst}
use Rattle.mongo_scram.specs.declared.server_final.ServerFinal.{ServerFinal}
use Rattle.mongo_scram.specs.declared.server_final.ServerFinalBody.{ServerFinalBody}
use Rattle.mongo_scram.specs.declared.server_final.ServerFinalBody.TheVariants.{Error, Verifier}

-- the nonce begins with this one
abbrev pub BeginsWith : List ℕ → List ℕ → Type 0
BeginsWith nonce ours = (suffix : List ℕ) × (nonce ≡ ours ++ suffix)

-- the least iteration count
abbrev pub least_count : ℕ
least_count = 4096

-- what a client with this nonce and this ceiling demands of the server's first message
abbrev pub first_demands : ServerFirst → List ℕ → ℕ → Demands AuthFault
first_demands first nonce max_iterations =
    demand EndedEarly (first.done ≡ false)
    (demand Nonce (BeginsWith first.nonce nonce)
    (demand CountLow (least_count ≤ first.i)
    (demand CountHigh (first.i ≤ max_iterations)
    no_demand)))

-- it goes on
abbrev pub IsValidFirst : ServerFirst → List ℕ → ℕ → Type 0
IsValidFirst first nonce max_iterations = AreMet (first_demands first nonce max_iterations)

-- why it doesn't: the row of the first demand that isn't met
abbrev pub ServerFirstRow : ServerFirst → List ℕ → ℕ → ErrorKind → Type 0
ServerFirstRow first nonce max_iterations = row_of Authentication (UnmetRow (first_demands first nonce max_iterations))

-- the text of an error
abbrev pub server_error_text : ServerFinalBody → List ℕ
server_error_text (Error text) = text
server_error_text (Verifier found) = []

-- it is no error
abbrev pub IsVerifier : ServerFinalBody → Type 0
IsVerifier (Error text) = ⊥
IsVerifier (Verifier found) = ⊤

-- a verifier's text is base64
abbrev pub IsDecodable : ServerFinalBody → Type 0
IsDecodable (Error text) = ⊤
IsDecodable (Verifier None) = ⊥
IsDecodable (Verifier (Some bytes)) = ⊤

-- What is demanded of the server's last message: it proves that the server knows the key. It answers in this conversation, and
-- with the verifier that the server owes, all of it. What that comes to for an error, and for a verifier that is no base64, are
-- demands of their own, for the sake of their refusals; that of an error has the error's text.
abbrev pub final_demands : ServerFinal → OwnedValue → List ℕ → Demands AuthFault
final_demands last conversation owed =
    demand Conversation (last.conversation_id ≡ conversation)
    (demand (ServerError (server_error_text last.body)) (IsVerifier last.body)
    (demand Malformed (IsDecodable last.body)
    (demand WrongVerifier (last.body ≡ Verifier (Some owed))
    no_demand)))

-- it has proved it
abbrev pub IsValidFinal : ServerFinal → OwnedValue → List ℕ → Type 0
IsValidFinal last conversation owed = AreMet (final_demands last conversation owed)

-- why it hasn't: the row of the first demand that isn't met
abbrev pub ServerFinalRow : ServerFinal → OwnedValue → List ℕ → ErrorKind → Type 0
ServerFinalRow last conversation owed = row_of Authentication (UnmetRow (final_demands last conversation owed))
