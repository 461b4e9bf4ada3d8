-- What the faults of documents, frames and sinks are as causes.
use Rattle.mongo_bson.specs.declared.fault.BsonFault.{BsonFault}
use Rattle.mongo_bson.specs.declared.fault.BsonFault.TheVariants.{OutOfMemory as NoMemory}
use Rattle.mongo_wire.specs.declared.error.ErrorKind.{ErrorKind}
use Rattle.mongo_wire.specs.declared.error.ErrorKind.TheVariants.{InvalidArgument, InvalidResponse, ReadFault, WriteFault, EndOfInput, OutOfMemory}
use Rattle.mongo_wire.specs.declared.outside.SinkError.{SinkError}
use Rattle.mongo_wire.specs.declared.outside.SinkError.TheVariants.{Failed as SinkFailed, OutOfMemory as SinkMemory}
use Rattle.mongo_wire.specs.declared.fault.ArgumentFault.TheVariants.{Bson}
use Rattle.mongo_wire.specs.declared.fault.FrameFault.{FrameFault}
use Rattle.mongo_wire.specs.declared.fault.FrameFault.TheVariants as frame_fault

abbrev pub kind_of_fault : BsonFault → ErrorKind
kind_of_fault NoMemory = OutOfMemory
kind_of_fault fault = InvalidArgument (Bson fault)

abbrev pub kind_of_frame_fault : FrameFault → ErrorKind
kind_of_frame_fault frame_fault.ReadFault = ReadFault
kind_of_frame_fault frame_fault.EndOfInput = EndOfInput
kind_of_frame_fault frame_fault.OutOfMemory = OutOfMemory
kind_of_frame_fault (frame_fault.InvalidArgument fault) = InvalidArgument fault
kind_of_frame_fault (frame_fault.InvalidResponse fault) = InvalidResponse fault

abbrev pub kind_of_sink_error : SinkError → ErrorKind
kind_of_sink_error SinkFailed = WriteFault
kind_of_sink_error SinkMemory = OutOfMemory
