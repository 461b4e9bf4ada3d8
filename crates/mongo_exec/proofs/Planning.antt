-- Why an insert is refused before a byte is written, and why none of these rows applies to one that is planned.
use Rattle.std.proofs.Common.{◌≡◌, ◌⊎◌, ℕ, ◌-◌, ◌<◌, ◌≤◌, pos, ◌<ℤ◌, ◌≤ℤ◌, Bool, Option, Some, List, [], ◌∷◌, ◌++◌, length, inl, ap, sym, subst, ◌∙◌, arith}
use Rattle.std.specs.List.{All, AllByRecursion}
use Rattle.std.proofs.lemmas.Int.{ints}
use Rattle.std.proofs.lemmas.List.Elements.{recursion_from_All}
use Rattle.mongo_bson.specs.Framed.{maximum_length}
use Rattle.mongo_bson.specs.declared.fault.BsonFault.TheVariants.{TooLong as DocumentLimit}
use Rattle.mongo_wire.specs.declared.error.ErrorKind.{ErrorKind}
use Rattle.mongo_wire.specs.declared.error.ErrorKind.TheVariants.{InvalidArgument}
use Rattle.mongo_wire.specs.declared.fault.ArgumentFault.TheVariants.{Bson, MaximumNegative, TooLong}
use Rattle.mongo_command.specs.Command.{command_document}
use Rattle.mongo_command.specs.Collection.{frame_size}
use Rattle.mongo_command.specs.declared.command.Command.{Command}
use Rattle.mongo_command.specs.declared.stream_description.StreamDescription.{StreamDescription}
use Rattle.mongo_exec.specs.Insert.{Insert, bare_command, insert_size, documents_sequence}
use Rattle.mongo_exec.specs.InsertMany.{HasBatches, HasCommand, HasRoom, IsAccepted, IsSendable, IsFirstUnaccepted, UnacceptedRow, WireRow, DescribedRow, EarlyRow, IsMemory, argument_error}
use Rattle.mongo_exec.specs.Plan.{IsPlan}
use Rattle.mongo_exec.specs.declared.exec_error.ExecError.{ExecError}
use Rattle.mongo_exec.specs.declared.exec_error.ExecError.TheVariants.{NoDescription, NoDocuments, BatchSize, DocumentTooLong, Wire}
use Rattle.mongo_exec.proofs.Sizes.{insert_size-one}

pub has_command : (d : StreamDescription) (insert : Insert) (documents : List (List ℕ)) (command : Command) → HasBatches d documents → command ≡ bare_command insert → length (command_document command) ≤ maximum_length → HasCommand d insert documents
has_command d insert documents command batches is fits = record { batches = batches; document = subst (λ c. length (command_document c) ≤ maximum_length) is fits }

pub maximum_row : (d : StreamDescription) (insert : Insert) (documents : List (List ℕ)) (error : ExecError) → HasCommand d insert documents → error ≡ argument_error MaximumNegative → d.max_message_size_bytes <ℤ pos 0 → DescribedRow error d insert documents ⊎ IsMemory error
maximum_row d insert documents error command is below = subst (λ e. DescribedRow e d insert documents ⊎ IsMemory e) (sym is) (inl (command, below))

pub unaccepted_row : (d : StreamDescription) (insert : Insert) (documents : List (List ℕ)) (error : ExecError) → HasRoom d insert documents → UnacceptedRow error d insert documents → DescribedRow error d insert documents ⊎ IsMemory error
unaccepted_row d insert documents (DocumentTooLong place) room row = inl (room, row)
unaccepted_row d insert documents (Wire error) room row = inl (subst (λ kind. WireRow kind d insert documents) (sym row.0) (room, row.1))
unaccepted_row d insert documents error room row = absurd row

pub has_room : (d : StreamDescription) (insert : Insert) (documents : List (List ℕ)) (frame : ℕ) → HasCommand d insert documents → pos frame ≡ d.max_message_size_bytes → HasRoom d insert documents
has_room d insert documents frame command is = record { command = command; maximum = subst (λ m. pos 0 ≤ℤ m) is (omega (arith, ints)) }

pub bare_is : (insert : Insert) (command : Command) (bare : ℕ) → command ≡ bare_command insert → bare ≡ frame_size (record command { document_sequences = documents_sequence [] ∷ [] }) → bare ≡ insert_size insert []
bare_is insert command bare is size = size ∙ ap (λ (c : Command). frame_size (record c { document_sequences = documents_sequence [] ∷ [] })) is

pub bare_within : (d : StreamDescription) (insert : Insert) (documents : List (List ℕ)) (bare frame : ℕ) → 0 < length documents → bare ≡ insert_size insert [] → pos frame ≡ d.max_message_size_bytes → All (IsAccepted d insert) documents → bare ≤ frame
bare_within d insert (document ∷ documents) bare frame some is same all =
    let one = all 0 document some in
    let within : pos (insert_size insert (document ∷ [])) ≤ℤ pos frame = subst (λ m. pos (insert_size insert (document ∷ [])) ≤ℤ m) (sym same) one.alone in
    omega (arith, ints, within, insert_size-one insert document, is)
bare_within d insert [] bare frame some is same all = absurd (omega (arith, some))

pub plan_made : (d : StreamDescription) (insert : Insert) (documents : List (List ℕ)) (command : Command) (ordered : Bool) (most bare frame : ℕ) → HasRoom d insert documents → All (IsAccepted d insert) documents → command ≡ bare_command insert → ordered ≡ insert.ordered
    → pos most ≡ d.max_write_batch_size → bare ≡ insert_size insert [] → pos frame ≡ d.max_message_size_bytes → bare ≤ frame → IsPlan d insert documents (record { command = command; ordered = ordered; most = most; room = frame - bare })
plan_made d insert documents command ordered most bare frame room all is same limit size maximum within = record {
  sendable = record { room = room; each = all };
  command = is;
  ordered = same;
  most = limit;
  room = ap pos (omega (arith, size, within)) ∙ maximum;
}

-- ---- none of the rows applies

all_middle : {X : Type 0} (P : X → Type 0) (before after : List X) (x : X) → AllByRecursion P (before ++ x ∷ after) → P x
all_middle P [] after x all = all.0
all_middle P (y ∷ before) after x all = all_middle P before after x all.1

accepted_at : (d : StreamDescription) (insert : Insert) (documents : List (List ℕ)) (place : ℕ) (document : List ℕ) → All (IsAccepted d insert) documents → IsFirstUnaccepted d insert documents place document → IsAccepted d insert document
accepted_at d insert documents place document all first = all_middle (IsAccepted d insert) first.before first.after document (recursion_from_All (IsAccepted d insert) _ (subst (All (IsAccepted d insert)) first.joined all))

no_wire_row : (d : StreamDescription) (insert : Insert) (documents : List (List ℕ)) (kind : ErrorKind) → IsSendable d insert documents → WireRow kind d insert documents → ⊥
no_wire_row d insert documents (InvalidArgument (Bson DocumentLimit)) can row = omega (arith, row.1, can.room.command.document)
no_wire_row d insert documents (InvalidArgument MaximumNegative) can row = omega (arith, ints, row.1, can.room.maximum)
no_wire_row d insert documents (InvalidArgument TooLong) can row = let one = accepted_at d insert documents row.1.place row.1.document can.each row.1.first in omega (arith, ints, one.alone, row.1.long)
no_wire_row d insert documents kind can row = row

no_described_row : (d : StreamDescription) (insert : Insert) (documents : List (List ℕ)) (error : ExecError) → IsSendable d insert documents → DescribedRow error d insert documents → ⊥
no_described_row d insert documents NoDescription can row = row
no_described_row d insert documents NoDocuments can row = omega (arith, ap length row, can.room.command.batches.some)
no_described_row d insert documents BatchSize can row = omega (arith, ints, row.1, can.room.command.batches.size)
no_described_row d insert documents (DocumentTooLong place) can row = let one = accepted_at d insert documents place row.1.document can.each row.1.first in omega (arith, ints, one.whole, row.1.long)
no_described_row d insert documents (Wire error) can row = no_wire_row d insert documents error.kind can row

pub no_early_row : (d : StreamDescription) (insert : Insert) (documents : List (List ℕ)) (described : Option StreamDescription) → described ≡ Some d → IsSendable d insert documents → (error : ExecError) → EarlyRow error described insert documents → ⊥
no_early_row d insert documents described is can error row = no_described_row d insert documents error can (subst (λ o. EarlyRow error o insert documents) is row)
