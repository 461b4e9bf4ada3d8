-- Keys of the commands of a login and of their replies, as the authentication specification spells them, but the user's name
-- in `authenticate`: the specification has `user` there, the driver `username`.
use Rattle.std.specs.Prelude.{ℕ, List, codes}

abbrev pub sasl_start_key : List ℕ
sasl_start_key = codes "saslStart"

abbrev pub sasl_continue_key : List ℕ
sasl_continue_key = codes "saslContinue"

abbrev pub authenticate_key : List ℕ
authenticate_key = codes "authenticate"

abbrev pub mechanism_key : List ℕ
mechanism_key = codes "mechanism"

abbrev pub username_key : List ℕ
username_key = codes "username"

abbrev pub payload_key : List ℕ
payload_key = codes "payload"

abbrev pub options_key : List ℕ
options_key = codes "options"

abbrev pub skip_empty_exchange_key : List ℕ
skip_empty_exchange_key = codes "skipEmptyExchange"

abbrev pub conversation_id_key : List ℕ
conversation_id_key = codes "conversationId"

abbrev pub done_key : List ℕ
done_key = codes "done"
