-- The faults that a call may answer; each call's other clauses say when each comes.
use Rattle.std.specs.Prelude.{Result, IsErrOf}
use Rattle.mongo_bson.specs.declared.fault.BsonFault.{BsonFault}
use Rattle.mongo_bson.specs.declared.fault.BsonFault.TheVariants.{Malformed, KeyHasZero, TooLong, DuplicateKey, OutOfMemory}

-- want of memory, which may stand in the place of any other answer, is not the answer
abbrev pub HadMemory : {T : Type 0} → Result T BsonFault → Type 0
HadMemory r = IsErrOf r OutOfMemory → ⊥

-- a key, a length or want of memory
abbrev pub AppendRefuses : BsonFault → Type 0
AppendRefuses KeyHasZero = Unit {0}
AppendRefuses TooLong = Unit {0}
AppendRefuses OutOfMemory = Unit {0}
AppendRefuses other = ⊥

-- no document, or want of memory
abbrev pub ReadRefuses : BsonFault → Type 0
ReadRefuses Malformed = Unit {0}
ReadRefuses OutOfMemory = Unit {0}
ReadRefuses other = ⊥

-- a length or want of memory
abbrev pub PushRefuses : BsonFault → Type 0
PushRefuses TooLong = Unit {0}
PushRefuses OutOfMemory = Unit {0}
PushRefuses other = ⊥

-- no document, a key that stands twice, a length or want of memory
abbrev pub ExtendRefuses : BsonFault → Type 0
ExtendRefuses Malformed = Unit {0}
ExtendRefuses DuplicateKey = Unit {0}
ExtendRefuses TooLong = Unit {0}
ExtendRefuses OutOfMemory = Unit {0}
ExtendRefuses other = ⊥

-- no document, a length or want of memory
abbrev pub IdRefuses : BsonFault → Type 0
IdRefuses Malformed = Unit {0}
IdRefuses TooLong = Unit {0}
IdRefuses OutOfMemory = Unit {0}
IdRefuses other = ⊥
