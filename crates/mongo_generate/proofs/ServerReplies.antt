-- The server's two replies say what they carry.
use Rattle.std.proofs.Common.{◌≡◌, ℕ, suc, ◌^◌, ◌<◌, ◌≤◌, Bool, true, false, None, Some, inl, inr, FitsSigned, List, length, refl, sym, ◌∙◌, subst, arith}
use Rattle.std.specs.Int.{to_le_bytes, cast_unsigned, w32}
use Rattle.std.specs.List.{AllByRecursion}
use Rattle.mongo_command.proofs.HelloShort.{length-document_of}
use Rattle.mongo_bson.specs.Framed.{maximum_length}
use Rattle.mongo_bson.specs.Document.{Element, Shape, fixed, boolean, binary, document, shape_of, IsCstring, IsElement, IsDocument, IsReadable, IsInside, HasDistinctKeys}
use Rattle.mongo_bson.specs.declared.owned_value.OwnedValue.{OwnedValue}
use Rattle.mongo_bson.specs.declared.raw_value.RawValue.TheVariants.{Double}
use Rattle.mongo_bson.proofs.ByKind.{same_shape}
use Rattle.mongo_bson.proofs.ReadBack.{written_element}
use Rattle.mongo_command.specs.Literal.{document_element, boolean_element, int32_element, ok_element, document_of, generic_element}
use Rattle.mongo_command.specs.declared.hello.HelloCommandResponse.{HelloCommandResponse}
use Rattle.mongo_command.specs.Field.{Required, Optional}
use Rattle.mongo_command.specs.Hello.{IsHelloResponse}
use Rattle.mongo_command.specs.Keys.{max_bson_object_size_key, max_message_size_bytes_key, ok_key, speculative_authenticate_key}
use Rattle.mongo_sasl.specs.Reply.{IsSaslReply}
use Rattle.mongo_sasl.specs.Keys.{conversation_id_key, done_key, payload_key}
use Rattle.mongo_server.specs.Announced.{conversation_id, maximum_document_length, maximum_message_length}
use Rattle.mongo_generate.specs.Replies.{round_elements, speculative_elements, standalone_elements, final_elements, hello_reply, final_reply}
use Rattle.mongo_generate.proofs.Documents.{cstring, apart, number_is_element, boolean_is_element, binary_is_element, document_is_element, document_of-is, framed_document_of, IsFlat, flat_readable}

-- ---- what no document is inside of

not_fixed : (n : ℕ) → fixed n ≡ document → ⊥
not_fixed n is = cc

not_boolean : boolean ≡ document → ⊥
not_boolean is = cc

not_binary : binary ≡ document → ⊥
not_binary is = cc

flat : (e : Element) (shape : Shape) → shape_of e.kind ≡ Some shape → (shape ≡ document → ⊥) → (e.kind ≡ 0x0F → ⊥) → IsFlat e
flat e shape known other scope d inside = elim inside [ inl x ↦ other (same_shape shape document (sym known ∙ x.0)) | inr y ↦ scope y.0 ]

-- ---- a round

pub conversation_is_cstring : IsCstring conversation_id_key
conversation_is_cstring = cstring conversation_id_key refl refl

done_is_cstring : IsCstring done_key
done_is_cstring = cstring done_key refl refl

pub payload_is_cstring : IsCstring payload_key
payload_is_cstring = cstring payload_key refl refl

pub one_fits : FitsSigned w32 conversation_id
one_fits = omega arith

round_are : (done : Bool) (payload : List ℕ) → length payload ≤ maximum_length → AllByRecursion IsElement (round_elements done payload)
round_are done payload short =
    (number_is_element conversation_id_key conversation_id conversation_is_cstring one_fits, (boolean_is_element done_key done done_is_cstring, (binary_is_element payload_key payload payload_is_cstring short, tt)))

round_flat : (done : Bool) (payload : List ℕ) → AllByRecursion IsFlat (round_elements done payload)
round_flat done payload = (flat (int32_element conversation_id_key conversation_id) (fixed 4) refl (not_fixed 4) (λ is. absurd (omega arith)), (flat (boolean_element done_key done) boolean refl not_boolean (λ is. absurd (omega arith)), (flat (generic_element payload_key payload) binary refl not_binary (λ is. absurd (omega arith)), tt)))

round_distinct : (done : Bool) (payload : List ℕ) → HasDistinctKeys (round_elements done payload)
round_distinct done payload = ((apart done_key conversation_id_key refl, (apart payload_key conversation_id_key refl, tt)), ((apart payload_key done_key refl, tt), (tt, tt)))

-- ---- `ok`

ok_is_element : IsElement ok_element
ok_is_element = written_element ok_key (Double 0x3FF0000000000000) (cstring ok_key refl refl) (let small : 0x3FF0000000000000 < 2 ^ 64 = omega arith in small)

ok_flat : IsFlat ok_element
ok_flat = flat ok_element (fixed 8) refl (not_fixed 8) (λ is. absurd (omega arith))

-- ---- the answer to the login that goes with a hello

speculative_document : (payload : List ℕ) → length payload < 2 ^ 30 → IsDocument (document_of (speculative_elements payload)) (speculative_elements payload)
speculative_document payload short = document_of-is (speculative_elements payload) (round_are false payload (omega arith)) (omega arith)

speculative_readable : (levels : ℕ) (payload : List ℕ) → length payload < 2 ^ 30 → IsReadable (suc levels) (document_of (speculative_elements payload))
speculative_readable levels payload short = flat_readable levels (document_of (speculative_elements payload)) (speculative_elements payload) (speculative_document payload short) (round_flat false payload)

-- the conversation's number
abbrev pub conversation : OwnedValue
conversation = record { kind = 0x10; bytes = to_le_bytes w32 (cast_unsigned w32 conversation_id) }

pub speculative_says : (payload : List ℕ) → length payload < 2 ^ 30 → IsSaslReply (document_of (speculative_elements payload)) (record { conversation_id = conversation; done = false; payload = payload })
unfolding Required
speculative_says payload short = record {
  elements = speculative_elements payload;
  well_formed = record { document = speculative_document payload short; readable = speculative_readable 99 payload short; distinct = round_distinct false payload };
  succeeded = tt;
  table = record { conversation_id = (refl, refl); done = (refl, refl); payload = (refl, refl, refl) };
}

-- ---- the end

final_document : (payload : List ℕ) → length payload < 2 ^ 30 → IsDocument (document_of (final_elements payload)) (final_elements payload)
final_document payload short = document_of-is (final_elements payload) (ok_is_element, round_are true payload (omega arith)) (omega arith)

pub final_says : (payload : List ℕ) → length payload < 2 ^ 30 → IsSaslReply (final_reply payload) (record { conversation_id = conversation; done = true; payload = payload })
unfolding Required final_reply
final_says payload short = record {
  elements = final_elements payload;
  well_formed = record {
    document = final_document payload short;
    readable = flat_readable 99 (document_of (final_elements payload)) (final_elements payload) (final_document payload short) (ok_flat, round_flat true payload);
    distinct = (
      (apart conversation_id_key ok_key refl, (apart done_key ok_key refl, (apart payload_key ok_key refl, tt))),
      round_distinct true payload,
    );
  };
  succeeded = refl;
  table = record { conversation_id = (refl, refl); done = (refl, refl); payload = (refl, refl, refl) };
}

-- ---- the hello's reply

size_key : IsCstring max_bson_object_size_key
size_key = cstring max_bson_object_size_key refl refl

message_key : IsCstring max_message_size_bytes_key
message_key = cstring max_message_size_bytes_key refl refl

speculative_key : IsCstring speculative_authenticate_key
speculative_key = cstring speculative_authenticate_key refl refl

size_fits : FitsSigned w32 maximum_document_length
size_fits = omega arith

message_fits : FitsSigned w32 maximum_message_length
message_fits = omega arith

standalone_is_document : (payload : List ℕ) → length payload < 2 ^ 29 → IsDocument (document_of (standalone_elements payload)) (standalone_elements payload)
standalone_is_document payload short =
    document_of-is (standalone_elements payload)
    (ok_is_element, (number_is_element max_bson_object_size_key maximum_document_length size_key size_fits, (number_is_element max_message_size_bytes_key maximum_message_length message_key message_fits, (document_is_element speculative_authenticate_key (document_of (speculative_elements payload)) speculative_key (framed_document_of (speculative_elements payload) (omega arith)), tt))))
    (omega (arith, length-document_of (speculative_elements payload)))

inner_readable : (levels : ℕ) (payload d : List ℕ) → length payload < 2 ^ 29 → IsInside (document_element speculative_authenticate_key (document_of (speculative_elements payload))) d → IsReadable (suc levels) d
inner_readable levels payload d short inside = elim inside [
  | inl x ↦ subst (IsReadable (suc levels)) (sym x.1) (speculative_readable levels payload (omega arith))
  | inr y ↦ (let scope = y.0 in absurd (omega arith))
]

hello_readable : (levels : ℕ) (payload : List ℕ) → length payload < 2 ^ 29 → IsReadable (suc (suc levels)) (document_of (standalone_elements payload))
unfolding IsReadable
hello_readable levels payload short = (
  standalone_elements payload,
  standalone_is_document payload short,
  ((λ d inside. absurd (ok_flat d inside)), ((λ d inside. absurd (flat (int32_element max_bson_object_size_key maximum_document_length) (fixed 4) refl (not_fixed 4) (λ is. absurd (omega arith)) d inside)), ((λ d inside. absurd (flat (int32_element max_message_size_bytes_key maximum_message_length) (fixed 4) refl (not_fixed 4) (λ is. absurd (omega arith)) d inside)), ((λ d inside. inner_readable levels payload d short inside), tt)))),
)

-- a standalone server's, with this answer to the login
abbrev pub standalone : List ℕ → HelloCommandResponse
standalone inner = record {
  is_writable_primary = None;
  is_master = None;
  hello_ok = None;
  hosts = None;
  passives = None;
  arbiters = None;
  msg = None;
  me = None;
  compressors = None;
  set_version = None;
  set_name = None;
  hidden = None;
  secondary = None;
  arbiter_only = None;
  is_replica_set = None;
  logical_session_timeout_minutes = None;
  last_write = None;
  min_wire_version = None;
  max_wire_version = None;
  tags = None;
  election_id = None;
  primary = None;
  sasl_supported_mechs = None;
  speculative_authenticate = Some inner;
  max_bson_object_size = maximum_document_length;
  max_message_size_bytes = maximum_message_length;
  max_write_batch_size = None;
  service_id = None;
  topology_version = None;
  connection_id = None;
}

pub hello_says : (payload : List ℕ) → length payload < 2 ^ 29 → IsHelloResponse (hello_reply payload) (standalone (document_of (speculative_elements payload))) None
unfolding Required Optional hello_reply
hello_says payload short = record {
  elements = standalone_elements payload;
  well_formed = record {
    document = standalone_is_document payload short;
    readable = hello_readable 98 payload short;
    distinct = ((apart max_bson_object_size_key ok_key refl, (apart max_message_size_bytes_key ok_key refl, (apart speculative_authenticate_key ok_key refl, tt))), ((apart max_message_size_bytes_key max_bson_object_size_key refl, (apart speculative_authenticate_key max_bson_object_size_key refl, tt)), ((apart speculative_authenticate_key max_message_size_bytes_key refl, tt), (tt, tt))));
  };
  table = record {
    success = refl;
    response = record {
      is_writable_primary = tt;
      is_master = tt;
      hello_ok = tt;
      msg = tt;
      me = tt;
      hidden = tt;
      secondary = tt;
      arbiter_only = tt;
      is_replica_set = tt;
      last_write = tt;
      set = record {
        hosts = tt;
        passives = tt;
        arbiters = tt;
        primary = tt;
        set_version = tt;
        set_name = tt;
        tags = tt;
        election_id = tt;
        server = record {
          compressors = tt;
          logical_session_timeout_minutes = tt;
          min_wire_version = tt;
          max_wire_version = tt;
          sasl_supported_mechs = tt;
          speculative_authenticate = ((λ is. absurd (omega arith)), (refl, refl));
          max_bson_object_size = refl;
          max_message_size_bytes = (refl, message_fits);
          max_write_batch_size = tt;
          service_id = tt;
          topology_version = tt;
          connection_id = tt;
        };
      };
    };
    time = tt;
  };
}
