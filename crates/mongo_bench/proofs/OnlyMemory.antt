-- What is built and read here is refused for want of memory alone.
use Rattle.std.proofs.Common.{◌≡◌, ℕ, ℤ, ◌+◌, ◌^◌, ◌<◌, ◌≤◌, Some, List, [], ◌∷◌, ◌++◌, length, length-append, refl, sym, ap, ◌∙◌, arith}
use Rattle.std.specs.Fmt.{decimal}
use Rattle.std.proofs.lemmas.Int.{ints}
use Rattle.std.proofs.lemmas.Fmt.{length-decimal-le}
use Rattle.std.proofs.lemmas.List.{append-nil}
use Rattle.mongo_bson.specs.Framed.{IsFramed, element_bytes, enclosed, maximum_length}
use Rattle.mongo_bson.specs.Document.{spell}
use Rattle.mongo_bson.specs.Value.{bytes_of, element_of}
use Rattle.mongo_bson.specs.Refusals.{PushRefuses}
use Rattle.mongo_bson.specs.declared.fault.BsonFault.{BsonFault}
use Rattle.mongo_bson.specs.declared.fault.BsonFault.TheVariants.{TooLong as TooLongFault, OutOfMemory as NoMemory}
use Rattle.mongo_bson.specs.declared.raw_value.RawValue.{RawValue}
use Rattle.mongo_bson.proofs.Enclosed.{length-enclosed, length-element_bytes}
use Rattle.mongo_wire.specs.Bytes.{first_maximum}
use Rattle.mongo_wire.specs.Error.{kind_of_fault}
use Rattle.mongo_wire.specs.Outside.{State}
use Rattle.mongo_wire.specs.Message.{ReadRefused, IsUnreadable, WhereFrameStands, WriteRefused, Fits}
use Rattle.mongo_wire.specs.declared.message.Message.{Message}
use Rattle.mongo_bench.specs.Built.{IsWholeFrame}
use Rattle.mongo_wire.specs.declared.error.ErrorKind.{ErrorKind}
use Rattle.mongo_wire.specs.declared.error.ErrorKind.TheVariants.{ReadFault, WriteFault, OutOfMemory, InvalidArgument}
use Rattle.mongo_wire.specs.declared.fault.ArgumentFault.TheVariants.{IdentifierHasZero, SequenceTooLong, MaximumNegative, TooLong}

digits_at_most : (n : ℕ) → n < 2 ^ 64 → length (decimal n) ≤ 20
digits_at_most n small = length-decimal-le 20 n (omega arith) (omega arith) small

pub size_under_number : (count : ℕ) (value : RawValue) → count < 2 ^ 64 → length (spell (element_of (decimal count) value)) ≤ 22 + length (bytes_of value)
size_under_number count value small = omega (arith, length-append (decimal count) (0 ∷ bytes_of value), digits_at_most count small)

-- a value that has room in an array is pushed, but for want of memory
pub push_wants_memory : (fault : BsonFault) (held count : ℕ) (value : RawValue) → count < 2 ^ 64 → held + (22 + length (bytes_of value)) ≤ maximum_length
    → PushRefuses fault → (fault ≡ TooLongFault → maximum_length < held + length (spell (element_of (decimal count) value))) → kind_of_fault fault ≡ OutOfMemory
push_wants_memory TooLongFault held count value small room refuses long = absurd (omega (arith, room, long refl, size_under_number count value small))
push_wants_memory NoMemory held count value small room refuses long = refl
push_wants_memory fault held count value small room refuses long = absurd refuses

pub pushed_size : (old new : List ℕ) (count : ℕ) (value : RawValue) → IsFramed old → count < 2 ^ 64 → new ≡ enclosed (element_bytes old ++ spell (element_of (decimal count) value)) → length new ≤ length old + (22 + length (bytes_of value))
pushed_size old new count value framed small is =
    let element = spell (element_of (decimal count) value) in
    omega (arith, ap length is, length-enclosed (element_bytes old ++ element), length-append (element_bytes old) element, length-element_bytes old framed, size_under_number count value small)

-- a source that never fails is refused nothing but memory where a frame stands in it
stands_wants_memory : (kind : ErrorKind) (maximum : ℤ) (old new : State) → IsUnreadable kind → ReadRefused kind maximum old new → old.read_faults ≡ 0 → new.read_faults ≡ 0 → kind ≡ OutOfMemory
stands_wants_memory ReadFault maximum old new unread refused before after = absurd (omega (arith, refused.0.reads, before, after))
stands_wants_memory OutOfMemory maximum old new unread refused before after = refl
stands_wants_memory kind maximum old new unread refused before after = absurd unread

pub reading_wants_memory : (kind : ErrorKind) (frame : List ℕ) (old new : State) → IsWholeFrame frame → old.left ≡ Some frame → WhereFrameStands first_maximum old (λ _ _ _. IsUnreadable kind)
    → ReadRefused kind first_maximum old new → old.read_faults ≡ 0 → new.read_faults ≡ 0 → kind ≡ OutOfMemory
reading_wants_memory kind frame old new whole stands again refused before after =
    stands_wants_memory kind first_maximum old new (again frame [] whole.parts (stands ∙ ap Some (sym (append-nil frame))) whole.is_frame whole.within) refused before after

-- a sink that never fails takes a message that fits, but for want of memory
pub writing_wants_memory : (kind : ErrorKind) (maximum : ℤ) (m : Message) (old new : State) (before after : ℤ) → Fits maximum m → WriteRefused kind maximum m old new before after → old.write_faults ≡ 0 → new.write_faults ≡ 0 → kind ≡ OutOfMemory
writing_wants_memory (InvalidArgument IdentifierHasZero) maximum m old new before after fits refused first last = absurd (refused.0 fits.names)
writing_wants_memory (InvalidArgument SequenceTooLong) maximum m old new before after fits refused first last = absurd (refused.0.1 fits.sizes)
writing_wants_memory (InvalidArgument MaximumNegative) maximum m old new before after fits refused first last = absurd (omega (arith, ints, fits.positive, refused.0.2))
writing_wants_memory (InvalidArgument TooLong) maximum m old new before after fits refused first last = absurd (omega (arith, ints, fits.within, refused.0.3))
writing_wants_memory (InvalidArgument fault) maximum m old new before after fits refused first last = absurd refused.0
writing_wants_memory WriteFault maximum m old new before after fits refused first last = absurd (omega (arith, refused.0, first, last))
writing_wants_memory OutOfMemory maximum m old new before after fits refused first last = refl
writing_wants_memory kind maximum m old new before after fits refused first last = absurd refused
