-- What settings say of the connection that is asked for.
use Rattle.std.specs.Prelude.{ℕ, if◌then◌else◌, Option, None, Some, option_map, option_and_then, unwrap_or, List, []}
use Rattle.std.specs.Result.{result_ok}
use Rattle.hex.specs.Hex.{decode_sized}
use Rattle.serde_json.specs.Data.{Data, Members, no_members, member}
use Rattle.serde_json.specs.Find.{as_str, as_object}
use Rattle.mongo_bson.specs.declared.raw_value.ObjectId.{ObjectId}
use Rattle.mongo_command.specs.declared.server_address.ServerAddress.{ServerAddress}
use Rattle.mongo_command.specs.declared.server_address.ServerAddress.TheVariants.{Tcp, Unix}
use Rattle.mongo_establish.specs.declared.establisher.PendingConnection.{PendingConnection}
use Rattle.mongo_establish.specs.declared.generation.PoolGeneration.{PoolGeneration}
use Rattle.mongo_establish.specs.declared.generation.PoolGeneration.TheVariants.{Normal, LoadBalanced}
use Rattle.mongo_establish.specs.Generation.{Numbers, with_number}
use Rattle.mongo_settings.specs.Keys.{host_key, port_key, unix_key, pool_id_key, generation_key, generations_key}
use Rattle.mongo_settings.specs.Kinds.{◌>>=◌, optional, port_in, uint32_in}
use Rattle.mongo_settings.specs.Options.{load_balanced_in}

-- a host, perhaps with a port, or the path of a Unix socket, beside which a port says nothing; one of the two, and not both
abbrev pub address_of : Option (List ℕ) → Option ℕ → Option (List ℕ) → Option ServerAddress
address_of (Some host) port None = Some (Tcp host port)
address_of None port (Some path) = Some (Unix path)
address_of (Some host) port (Some path) = None
address_of None port None = None

unfoldable pub address_in : Data → Option ServerAddress
address_in d = do
  host ← optional host_key as_str d
  port ← optional port_key port_in d
  path ← optional unix_key as_str d
  address_of host port path

-- the id of a service, by 24 hex digits of either case
abbrev pub service_in : List ℕ → Option ObjectId
service_in text = option_map (λ bytes. let id : ObjectId = record { 0 = bytes } in id) (result_ok (decode_sized text 12))

-- These numbers with those of an object's members, in the order of their keys: of two keys that name one id the later counts.
unfoldable pub with_members : Numbers → Members → Option Numbers
with_members numbers no_members = Some numbers
with_members numbers (member key d others) = do
  id ← service_in key
  number ← uint32_in d
  with_members (with_number id number numbers) others

abbrev pub generations_in : Data → Option Numbers
generations_in d = option_and_then (with_members []) (as_object d)

-- the generation of the pool's connections: one number for all, or behind a load balancer a number for each service
unfoldable pub generation_in : Data → Option PoolGeneration
generation_in d = do
  number ← optional generation_key uint32_in d
  load_balanced ← load_balanced_in d
  generations ← optional generations_key generations_in d
  Some (if load_balanced then LoadBalanced (unwrap_or generations []) else Normal (unwrap_or number 0))

unfoldable pub pending_in : Data → Option PendingConnection
pending_in d = do
  address ← address_in d
  id ← optional pool_id_key uint32_in d
  generation ← generation_in d
  Some (record { id = unwrap_or id 1; address = address; generation = generation })
