-- A frame that is sent, or not whole.
use Rattle.std.proofs.Common.{◌≡◌, ℕ, ℤ, Option, List, length, to_z, of_z, FitsSigned, sym, ap, ◌∙◌, subst, arith}
use Rattle.std.proofs.Math.Seq.{take-length}
use Rattle.std.proofs.KnownBytes.{Appends-kept}
use Rattle.std.proofs.lemmas.Int.{ints, to_z-of_z}
use Rattle.std.specs.Int.{w32}
use Rattle.std.specs.Io.KnownBytes.{Appends, Keeps}
use Rattle.mongo_wire.specs.Error.{kind_of_sink_error}
use Rattle.mongo_wire.specs.Outside.{State, AppendsFront, SinkCounts, WriteStops, risen}
use Rattle.mongo_wire.specs.Sending.{sections_frame, SectionsFit, SectionsRow, SectionsRefused}
use Rattle.mongo_wire.specs.declared.error.ErrorKind.{ErrorKind}
use Rattle.mongo_wire.specs.declared.error.ErrorKind.TheVariants.{InvalidArgument, WriteFault, OutOfMemory}
use Rattle.mongo_wire.specs.declared.fault.ArgumentFault.{ArgumentFault}
use Rattle.mongo_wire.specs.declared.fault.ArgumentFault.TheVariants.{MaximumNegative, TooLong}
use Rattle.mongo_wire.specs.declared.outside.SinkError.{SinkError}
use Rattle.mongo_wire.specs.declared.outside.SinkError.TheVariants.{Failed, OutOfMemory as SinkMemory}

-- sections that fit call for no row
no_row : (fault : ArgumentFault) (maximum : ℤ) (sections : List ℕ) → SectionsFit maximum sections → SectionsRow fault maximum sections → ⊥
no_row MaximumNegative maximum sections fits row = omega (arith, ints, fits.positive, row)
no_row TooLong maximum sections fits row = omega (arith, ints, fits.within, row.1)
no_row fault maximum sections fits row = row

pub unsent_stops : (kind : ErrorKind) (maximum : ℤ) (sections frame : List ℕ) (old new : State) → SectionsFit maximum sections → SectionsRefused kind maximum sections frame old new → WriteStops kind old new frame
unsent_stops (InvalidArgument fault) maximum sections frame old new fits refused = absurd (no_row fault maximum sections fits refused.0)
unsent_stops WriteFault maximum sections frame old new fits refused = (refused.0, refused.2)
unsent_stops OutOfMemory maximum sections frame old new fits refused = (refused.0, refused.2)
unsent_stops kind maximum sections frame old new fits refused = absurd refused

-- all of the bytes are a front of them
front_written : (old mid new : Option (List ℕ)) (bytes : List ℕ) → Appends old mid bytes → Keeps mid new → AppendsFront old new bytes
front_written old mid new bytes appended kept = (length bytes, subst (Appends old new) (sym (take-length bytes)) (Appends-kept old mid new bytes appended kept))

pub unflushed_stops : (fault : SinkError) (kind : ErrorKind) (old mid new : State) (frame : List ℕ) → kind ≡ kind_of_sink_error fault → Appends old.written mid.written frame → mid.write_faults ≡ old.write_faults
    → Keeps mid.written new.written → SinkCounts fault mid new → WriteStops kind old new frame
unflushed_stops fault kind old mid new frame is appended still kept counts = subst (λ k. WriteStops k old new frame) (sym is) (by fault counts)
  where
    by : (fault : SinkError) → SinkCounts fault mid new → WriteStops (kind_of_sink_error fault) old new frame
    by Failed counts = (counts ∙ ap risen still, front_written old.written mid.written new.written frame appended kept)
    by SinkMemory counts = (counts ∙ still, front_written old.written mid.written new.written frame appended kept)

-- ids that fit are those of the 32 bits that they are handed on as
pub same_ids : (id to : ℤ) (flags : ℕ) (sections : List ℕ) → FitsSigned w32 id → FitsSigned w32 to → sections_frame (to_z w32 (of_z w32 id)) (to_z w32 (of_z w32 to)) flags sections ≡ sections_frame id to flags sections
same_ids id to flags sections id_fits to_fits =
    ap (λ i. sections_frame i (to_z w32 (of_z w32 to)) flags sections) (to_z-of_z w32 id id_fits) ∙ ap (λ t. sections_frame id t flags sections) (to_z-of_z w32 to to_fits)
