-- What the faults below are to the server.
use Rattle.std.specs.Prelude.{⊤}
use Rattle.mongo_bson.specs.declared.fault.BsonFault.{BsonFault}
use Rattle.mongo_bson.specs.declared.fault.BsonFault.TheVariants.{TooLong, OutOfMemory as NoMemory}
use Rattle.mongo_wire.specs.declared.fault.FrameFault.{FrameFault}
use Rattle.mongo_wire.specs.declared.fault.FrameFault.TheVariants as frame
use Rattle.mongo_wire.specs.declared.error.ErrorKind.{ErrorKind}
use Rattle.mongo_wire.specs.declared.error.ErrorKind.TheVariants as kind
use Rattle.mongo_wire.specs.declared.outside.SinkError.{SinkError}
use Rattle.mongo_wire.specs.declared.outside.SinkError.TheVariants as sink
use Rattle.mongo_service.specs.declared.fault.ServeFault.{ServeFault}
use Rattle.mongo_service.specs.declared.fault.ServeFault.TheVariants.{ReadFault, WriteFault, CutFrame, NoFrame, ReplyTooLong, OutOfMemory}

-- a document isn't built only where it would be longer than an int32 says, or memory runs out
abbrev pub IsOfBuilding : BsonFault → Type 0
IsOfBuilding TooLong = ⊤
IsOfBuilding NoMemory = ⊤
IsOfBuilding fault = ⊥

abbrev pub fault_of_bson : BsonFault → ServeFault
fault_of_bson NoMemory = OutOfMemory
fault_of_bson fault = ReplyTooLong

abbrev pub fault_of_frame : FrameFault → ServeFault
fault_of_frame frame.ReadFault = ReadFault
fault_of_frame frame.EndOfInput = CutFrame
fault_of_frame frame.OutOfMemory = OutOfMemory
fault_of_frame (frame.InvalidArgument fault) = NoFrame
fault_of_frame (frame.InvalidResponse fault) = NoFrame

-- a message that is written: it is refused before, or cut
abbrev pub IsOfWriting : ErrorKind → Type 0
IsOfWriting (kind.InvalidArgument fault) = ⊤
IsOfWriting kind.WriteFault = ⊤
IsOfWriting kind.OutOfMemory = ⊤
IsOfWriting other = ⊥

abbrev pub fault_of_kind : ErrorKind → ServeFault
fault_of_kind kind.WriteFault = WriteFault
fault_of_kind kind.OutOfMemory = OutOfMemory
fault_of_kind other = ReplyTooLong

abbrev pub fault_of_sink : SinkError → ServeFault
fault_of_sink sink.Failed = WriteFault
fault_of_sink sink.OutOfMemory = OutOfMemory
