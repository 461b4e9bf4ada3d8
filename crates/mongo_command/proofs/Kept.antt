-- What an exchange leaves to be kept is a fault that a connection keeps.
use Rattle.std.proofs.Common.{◌≡◌, ℕ, ℤ, pos, Bool, true, false, refl, sym, ap, ◌∙◌, inl, inr, Option, None, Some, List, if◌then◌else◌}
use Rattle.std.specs.Prelude.{int_lt}
use Rattle.mongo_wire.specs.declared.error.ErrorKind.{ErrorKind}
use Rattle.mongo_wire.specs.declared.error.ErrorKind.TheVariants.{InvalidArgument, InvalidResponse, ReadFault, EndOfInput, OutOfMemory}
use Rattle.mongo_wire.specs.declared.fault.ArgumentFault.TheVariants.{CheckedFailure}
use Rattle.mongo_wire.specs.declared.fault.ResponseFault.TheVariants.{OpCode as OpCodeFault, OverMaximum, Compressed as CompressedFault, NotMessage}
use Rattle.mongo_wire.specs.declared.op_code.OpCode.{OpCode}
use Rattle.mongo_wire.specs.declared.op_code.OpCode.TheVariants.{Reply, Query, Compressed, Message as OpMessage}
use Rattle.mongo_wire.specs.Header.{signed_at, op_code_of}
use Rattle.mongo_wire.specs.Message.{ReadRefused}
use Rattle.mongo_wire.specs.Outside.{State}
use Rattle.mongo_wire.specs.Rows.{code_row, length_row, FrameRow}
use Rattle.mongo_command.specs.Exchange.{ReceiveRefused}
use Rattle.mongo_command.specs.Fault.{is_kept}

some_kept : (a kind : ErrorKind) → is_kept a ≡ true → Some a ≡ Some kind → is_kept kind ≡ true
some_kept a kind kept row = let same : a ≡ kind = cc in ap is_kept (sym same) ∙ kept

short_kept : (short : Bool) (kind : ErrorKind) → (if short then Some (InvalidArgument CheckedFailure) else None) ≡ Some kind → is_kept kind ≡ true
short_kept true kind row = some_kept (InvalidArgument CheckedFailure) kind refl row
short_kept false kind row = let no : ⊥ = cc in absurd no

code_kept : (length : ℤ) (code : OpCode) (kind : ErrorKind) → code_row length code ≡ Some kind → is_kept kind ≡ true
code_kept length Compressed kind row = some_kept (InvalidResponse CompressedFault) kind refl row
code_kept length Reply kind row = some_kept (InvalidResponse NotMessage) kind refl row
code_kept length Query kind row = some_kept (InvalidResponse NotMessage) kind refl row
code_kept length OpMessage kind row = short_kept (int_lt length (pos 16)) kind row

over_kept : (over : Bool) (length : ℤ) (code : OpCode) (kind : ErrorKind) → (if over then Some (InvalidResponse OverMaximum) else code_row length code) ≡ Some kind → is_kept kind ≡ true
over_kept true length code kind row = some_kept (InvalidResponse OverMaximum) kind refl row
over_kept false length code kind row = code_kept length code kind row

length_kept : (maximum length : ℤ) (code : Option OpCode) (number : ℤ) (kind : ErrorKind) → length_row maximum length code number ≡ Some kind → is_kept kind ≡ true
length_kept maximum length None number kind row = some_kept (InvalidResponse (OpCodeFault number)) kind refl row
length_kept maximum length (Some code) number kind row = over_kept (int_lt maximum length) length code kind row

-- the rows of a frame
row_kept : (maximum : ℤ) (taken : List ℕ) (kind : ErrorKind) → FrameRow maximum taken kind → is_kept kind ≡ true
row_kept maximum taken kind (inl short) = ap is_kept short.kind_is
row_kept maximum taken kind (inr (inl header)) = length_kept maximum (signed_at 0 taken) (op_code_of (signed_at 12 taken)) (signed_at 12 taken) kind header.row
row_kept maximum taken kind (inr (inr (inl short))) = ap is_kept short.kind_is
row_kept maximum taken kind (inr (inr (inr none))) = ap is_kept none.kind_is

read_kept : (kind : ErrorKind) (maximum : ℤ) (old new : State) → ReadRefused kind maximum old new → is_kept kind ≡ true
read_kept ReadFault maximum old new refused = refl
read_kept OutOfMemory maximum old new refused = refl
read_kept EndOfInput maximum old new refused = refl
read_kept (InvalidResponse fault) maximum old new refused = row_kept maximum refused.1.0 (InvalidResponse fault) refused.1.2
read_kept (InvalidArgument fault) maximum old new refused = row_kept maximum refused.1.0 (InvalidArgument fault) refused.1.2
read_kept kind maximum old new refused = absurd refused

pub received_kept : (kind : ErrorKind) (maximum : ℤ) (old new : State) → ReceiveRefused kind maximum old new → is_kept kind ≡ true
received_kept kind maximum old new refused = read_kept kind maximum old new refused.refused
