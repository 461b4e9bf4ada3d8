-- The payload of a document, as it is found.
use Rattle.std.proofs.Common.{◌≡◌, ℕ, ℤ, true, Option, None, Some, List, refl, sym, ap, ◌∙◌, subst, arith}
use Rattle.std.proofs.lemmas.Bool.{false≢true}
use Rattle.mongo_bson.specs.Document.{Element}
use Rattle.mongo_bson.specs.Find.{FindsValue, LacksKey, BreaksOff}
use Rattle.mongo_bson.specs.Framed.{element_bytes}
use Rattle.mongo_bson.specs.Value.{IsValue, has_variant}
use Rattle.mongo_bson.specs.declared.raw_value.RawValue.{RawValue}
use Rattle.mongo_bson.specs.declared.raw_value.RawValue.TheVariants.{Double, Str, Document, Array, Binary, ObjectId, Bool as Boolean, DateTime, Null, Int32, Int64, Other}
use Rattle.mongo_bson.proofs.Found.{broken_no_document}
use Rattle.mongo_wire.specs.declared.fault.FrameFault.{FrameFault}
use Rattle.mongo_wire.specs.declared.fault.FrameFault.TheVariants as frame_fault
use Rattle.mongo_wire.specs.Error.{kind_of_frame_fault}
use Rattle.mongo_wire.specs.Message.{ReadRefused, IsUnreadable}
use Rattle.mongo_wire.specs.Outside.{State}
use Rattle.mongo_command.specs.Field.{field_of, Required}
use Rattle.mongo_command.proofs.FirstOfKey.{field_first, field_none}
use Rattle.mongo_sasl.specs.Reply.{ReadsGeneric}
use Rattle.mongo_sasl.specs.Keys.{payload_key}
use Rattle.mongo_generate.specs.Written.{IsBinaryOf, CarriesPayload}

-- ---- the field

five : (kind : ℕ) → kind ≡ 5 → has_variant kind ≡ true
five kind is = ap has_variant is

-- a generic binary is read as one
content_read : (e : Element) (value : RawValue) (payload : List ℕ) → ReadsGeneric e payload → IsValue e.kind e.value value → IsBinaryOf payload value
content_read e (Binary subtype content) payload reads is = is.2 ∙ sym reads.2
content_read e (Double bits) payload reads is = let k = sym reads.0 ∙ is.0 in absurd (omega (arith, k))
content_read e (Str text) payload reads is = let k = sym reads.0 ∙ is.0 in absurd (omega (arith, k))
content_read e (Document d) payload reads is = let k = sym reads.0 ∙ is.0 in absurd (omega (arith, k))
content_read e (Array a) payload reads is = let k = sym reads.0 ∙ is.0 in absurd (omega (arith, k))
content_read e (ObjectId id) payload reads is = let k = sym reads.0 ∙ is.0 in absurd (omega (arith, k))
content_read e (Boolean b) payload reads is = let k = sym reads.0 ∙ is.0 in absurd (omega (arith, k))
content_read e (DateTime t) payload reads is = let k = sym reads.0 ∙ is.0 in absurd (omega (arith, k))
content_read e Null payload reads is = let k = sym reads.0 ∙ is in absurd (omega (arith, k))
content_read e (Int32 n) payload reads is = let k = sym reads.0 ∙ is.0 in absurd (omega (arith, k))
content_read e (Int64 n) payload reads is = let k = sym reads.0 ∙ is.0 in absurd (omega (arith, k))
content_read e (Other kind content) payload reads is = absurd (false≢true (sym is.2 ∙ five e.kind reads.0))

required_is_read : (found : Option Element) (e : Element) (payload : List ℕ) → found ≡ Some e → Required ReadsGeneric found payload → ReadsGeneric e payload
unfolding Required
required_is_read found e payload is reads = subst (λ f. Required ReadsGeneric f payload) is reads

absent : (found : Option Element) (payload : List ℕ) → found ≡ None → Required ReadsGeneric found payload → ⊥
unfolding Required
absent found payload is reads = subst (λ f. Required ReadsGeneric f payload) is reads

pub payload_found : (document payload : List ℕ) (value : RawValue) → CarriesPayload payload document → FindsValue (element_bytes document) payload_key (Some value) → IsBinaryOf payload value
payload_found document payload value carries found =
    let e = found.0 in
    let is = field_first document payload_key carries.elements e carries.is_document found.1 in
    content_read e value payload (required_is_read (field_of payload_key carries.elements) e payload is carries.payload_is) found.2

pub payload_absent : (document payload : List ℕ) → CarriesPayload payload document → LacksKey (element_bytes document) payload_key → ⊥
payload_absent document payload carries none =
    absent (field_of payload_key carries.elements) payload (field_none document payload_key carries.elements carries.is_document none) carries.payload_is

pub payload_broken : (document payload : List ℕ) → CarriesPayload payload document → BreaksOff (element_bytes document) payload_key → ⊥
payload_broken document payload carries broken = broken_no_document document payload_key carries.elements carries.is_document broken

-- ---- reading

-- a frame of a link that doesn't fail is taken again, or memory runs out
pub reading_only_memory : (fault : FrameFault) (maximum : ℤ) (old new : State) → IsUnreadable (kind_of_frame_fault fault) → ReadRefused (kind_of_frame_fault fault) maximum old new → new.read_faults ≡ 0 → fault ≡ frame_fault.OutOfMemory
reading_only_memory frame_fault.ReadFault maximum old new again refused none = let rose = refused.0 in absurd (omega (arith, rose, none))
reading_only_memory frame_fault.EndOfInput maximum old new again refused none = absurd again
reading_only_memory frame_fault.OutOfMemory maximum old new again refused none = refl
reading_only_memory (frame_fault.InvalidArgument fault) maximum old new again refused none = absurd again
reading_only_memory (frame_fault.InvalidResponse fault) maximum old new again refused none = absurd again
