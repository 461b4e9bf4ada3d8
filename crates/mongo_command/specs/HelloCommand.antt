-- The hello command, by the handshake specification: the new command where the server is known to understand it, else
-- the legacy one.
use Rattle.std.specs.Prelude.{ℕ, ℤ, pos, ◌-◌, ◌^◌, nat_lt, ◌||◌, Bool, true, false, Option, None, Some, option_map, is_some, is_none, unwrap_or, List, [], ◌∷◌, ◌++◌, codes, if◌then◌else◌}
use Rattle.mongo_bson.specs.Document.{Element}
use Rattle.mongo_command.specs.Literal.{text_element, document_element, object_id_element, int32_element, int64_element, boolean_element, document_of}
use Rattle.mongo_command.specs.Command.{admin, present, command_of}
use Rattle.mongo_command.specs.declared.server_api.ServerApi.{ServerApi}
use Rattle.mongo_command.specs.declared.inner_documents.TopologyVersion.{TopologyVersion}
use Rattle.mongo_command.specs.declared.hello.AwaitableHelloOptions.{AwaitableHelloOptions}
use Rattle.mongo_command.specs.declared.command.Command.{Command}
use Rattle.mongo_command.specs.Keys.{counter_key, hello_ok_key, process_id_key, topology_version_key}

-- the new command is sent with a server API, to a load balancer, and to a server that said that it understands it
abbrev pub is_modern : Option ServerApi → Option Bool → Option Bool → Bool
is_modern server_api load_balanced hello_ok = is_some server_api || unwrap_or load_balanced false || unwrap_or hello_ok false

-- the command's name, and its legacy name
abbrev pub hello_command_name : List ℕ
hello_command_name = codes "hello"

abbrev pub legacy_hello_command_name : List ℕ
legacy_hello_command_name = codes "isMaster"

abbrev pub hello_name : Bool → List ℕ
hello_name modern = if modern then hello_command_name else legacy_hello_command_name

-- the legacy command asks whether the new one is understood, unless the server said that it isn't
abbrev pub asked_hello_ok : Bool → Option Bool → Option Bool
asked_hello_ok modern hello_ok = if modern then None else if is_none hello_ok then Some true else None

-- ---- a hello that waits

abbrev pub topology_version_elements : TopologyVersion → List Element
topology_version_elements version = object_id_element process_id_key version.process_id.0 ∷ int64_element counter_key version.counter ∷ []

abbrev pub topology_version_document : AwaitableHelloOptions → List ℕ
topology_version_document options = document_of (topology_version_elements options.topology_version)

-- the milliseconds as an int64: its greatest stands for those beyond it
abbrev pub await_time : AwaitableHelloOptions → ℤ
await_time options = if nat_lt options.max_await_time_ms (2 ^ 63) then pos options.max_await_time_ms else pos (2 ^ 63 - 1)

-- ---- the command

-- the elements of a hello of this name
abbrev pub named_elements : Bool → Option Bool → Option AwaitableHelloOptions → List Element
named_elements modern hello_ok awaitable =
    int32_element (hello_name modern) (pos 1)
    ∷ (present (boolean_element hello_ok_key) (asked_hello_ok modern hello_ok)
    ++ (text_element (codes "backpressure") (codes "2")
    ∷ (present (document_element topology_version_key) (option_map topology_version_document awaitable)
    ++ (present (int64_element (codes "maxAwaitTimeMS")) (option_map await_time awaitable)
    ++ []))))

abbrev pub hello_elements : Option ServerApi → Option Bool → Option Bool → Option AwaitableHelloOptions → List Element
hello_elements server_api load_balanced hello_ok awaitable = named_elements (is_modern server_api load_balanced hello_ok) hello_ok awaitable

abbrev pub hello_body : Option ServerApi → Option Bool → Option Bool → Option AwaitableHelloOptions → List ℕ
hello_body server_api load_balanced hello_ok awaitable = document_of (hello_elements server_api load_balanced hello_ok awaitable)

-- to `admin`, with the server API; more than one answer may come exactly to a hello that waits
abbrev pub hello_command : Option ServerApi → Option Bool → Option Bool → Option AwaitableHelloOptions → Command
hello_command server_api load_balanced hello_ok awaitable =
    record (command_of (hello_name (is_modern server_api load_balanced hello_ok)) admin (hello_body server_api load_balanced hello_ok awaitable) server_api) { exhaust_allowed = is_some awaitable }
