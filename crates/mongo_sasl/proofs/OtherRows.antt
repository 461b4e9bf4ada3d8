-- Rows of a login that aren't `IncompatibleServer`, which is the establishment's own refusal of a server that names no service.
use Rattle.std.proofs.Common.{◌≡◌}
use Rattle.mongo_wire.specs.declared.error.ErrorKind.{ErrorKind}
use Rattle.mongo_wire.specs.declared.error.ErrorKind.TheVariants.{Authentication, IncompatibleServer}
use Rattle.mongo_wire.specs.declared.auth_fault.AuthFault.{AuthFault}
use Rattle.mongo_command.specs.Conversation.{row_of}
use Rattle.mongo_command.proofs.Plans.{all_of}

abbrev pub IsOther : ErrorKind → Type 0
IsOther kind = kind ≡ IncompatibleServer → ⊥

pub other : (fault : AuthFault) → IsOther (Authentication fault)
other fault is = cc

pub other_row : (Holds : AuthFault → Type 0) (kind : ErrorKind) → row_of Authentication Holds kind → IsOther kind
other_row Holds = all_of IsOther Authentication Holds other
