-- What an exchange over a connection that keeps a fault answers.
use Rattle.std.proofs.Common.{◌≡◌, ap, Result, Ok, Err}
use Rattle.mongo_wire.specs.declared.error.Error.{Error}
use Rattle.mongo_wire.specs.declared.error.ErrorKind.{ErrorKind}

-- that fault
pub answered_fault : {T : Type 0} (a : Error) (kind : ErrorKind) → ◌≡◌ {A = Result T Error} (Err a) (Err (record { kind = kind })) → a.kind ≡ kind
answered_fault a kind is = let same : a ≡ record { kind = kind } = cc in ap (λ (e : Error). e.kind) same

no_answer : {T : Type 0} (x : T) (kind : ErrorKind) → ◌≡◌ {A = Result T Error} (Ok x) (Err (record { kind = kind })) → ⊥
no_answer x kind is = cc

-- and no reply
pub not_replied : {T : Type 0} (x : T) (kind : ErrorKind) (Anything : Type 0) → ◌≡◌ {A = Result T Error} (Ok x) (Err (record { kind = kind })) → Anything
not_replied x kind Anything is = absurd (no_answer x kind is)
