-- A hello is short, so that memory alone can be wanting.
use Rattle.std.proofs.Common.{◌≡◌, ℕ, ◌+◌, ◌^◌, ◌<◌, ◌≤◌, Bool, true, false, Option, None, Some, List, [], ◌∷◌, length, length-append, flat_map, refl, sym, ap, ◌∙◌, subst, Result, Ok, Err, IfSome, IfOk, IfErr, arith}
use Rattle.mongo_bson.specs.Framed.{maximum_length}
use Rattle.mongo_bson.specs.Document.{Element, spell}
use Rattle.mongo_bson.specs.declared.fault.BsonFault.{BsonFault}
use Rattle.mongo_bson.specs.declared.fault.BsonFault.TheVariants.{TooLong, OutOfMemory}
use Rattle.mongo_bson.proofs.Enclosed.{length-enclosed}
use Rattle.mongo_command.specs.Literal.{document_of}
use Rattle.mongo_command.specs.Arguments.{TooLongFor}
use Rattle.mongo_command.specs.HelloCommand.{named_elements, topology_version_elements, topology_version_document}
use Rattle.mongo_command.specs.declared.inner_documents.TopologyVersion.{TopologyVersion}
use Rattle.mongo_command.specs.declared.hello.AwaitableHelloOptions.{AwaitableHelloOptions}

-- how many bytes elements take: a kind byte and a zero each, the key and the value
abbrev pub spelled_length : List Element → ℕ
spelled_length [] = 0
spelled_length (e ∷ es) = 2 + length e.key + length e.value + spelled_length es

pub length-spelled : (es : List Element) → length (flat_map spell es) ≡ spelled_length es
length-spelled [] = refl
length-spelled (e ∷ es) = omega (arith, length-append (spell e) (flat_map spell es), length-append e.key (0 ∷ e.value), length-spelled es)

pub length-document_of : (es : List Element) → length (document_of es) ≡ spelled_length es + 5
length-document_of es = omega (arith, length-enclosed (flat_map spell es), length-spelled es)

pub short_version : (version : TopologyVersion) → length version.process_id.0 ≡ 12 → length (document_of (topology_version_elements version)) < 2 ^ 8
short_version version twelve = omega (arith, twelve, length-document_of (topology_version_elements version))

pub short_hello : (modern : Bool) (hello_ok : Option Bool) (awaitable : Option AwaitableHelloOptions) → IfSome awaitable (λ options. length (topology_version_document options) < 2 ^ 8) → length (document_of (named_elements modern hello_ok awaitable)) ≤ maximum_length
short_hello true hello_ok None short = omega (arith, length-document_of (named_elements true hello_ok None))
short_hello true hello_ok (Some options) short = omega (arith, length-document_of (named_elements true hello_ok (Some options)))
short_hello false None None short = omega (arith, length-document_of (named_elements false None None))
short_hello false None (Some options) short = omega (arith, length-document_of (named_elements false None (Some options)))
short_hello false (Some boolean) None short = omega (arith, length-document_of (named_elements false (Some boolean) None))
short_hello false (Some boolean) (Some options) short = omega (arith, length-document_of (named_elements false (Some boolean) (Some options)))

short_fault : (fault : BsonFault) (document : List ℕ) → TooLongFor fault document → length document ≤ maximum_length → fault ≡ OutOfMemory
short_fault TooLong document long short = absurd (omega arith)
short_fault OutOfMemory document long short = refl
short_fault fault document long short = absurd long

-- where a document is short, only memory can be wanting for it
pub short_only_memory : {T : Type 0} (answer : Result T BsonFault) (fields elements : List Element) → fields ≡ elements → length (document_of elements) ≤ maximum_length → IfErr answer (λ fault. TooLongFor fault (document_of fields)) → IfErr answer (λ fault. fault ≡ OutOfMemory)
short_only_memory (Ok value) fields elements same short refused = tt
short_only_memory (Err fault) fields elements same short refused = short_fault fault (document_of elements) (subst (λ es. TooLongFor fault (document_of es)) same refused) short

-- and what is made is as short
pub short_document : (answer : Result (List ℕ) BsonFault) (fields elements : List Element) → fields ≡ elements → length (document_of elements) < 2 ^ 8 → IfOk answer (λ document. document ≡ document_of fields) → IfOk answer (λ document. length document < 2 ^ 8)
short_document (Ok document) fields elements same short is = subst (λ d. length d < 2 ^ 8) (sym (is ∙ ap document_of same)) short
short_document (Err fault) fields elements same short is = tt
