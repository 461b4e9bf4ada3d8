-- Why a reply isn't read as that to an insert, row by row, and what one that is read says.
use Rattle.std.proofs.Common.{◌≡◌, ℕ, Option, None, Some, List, [], inl, inr, refl, subst, sym, option_and_then, unwrap_or, All}
use Rattle.mongo_wire.specs.declared.error.ErrorKind.{ErrorKind}
use Rattle.mongo_wire.specs.declared.error.ErrorKind.TheVariants.{InvalidResponse, OutOfMemory}
use Rattle.mongo_wire.specs.declared.fault.ResponseFault.TheVariants.{Body}
use Rattle.mongo_wire.specs.declared.write_error.IndexedWriteError.{IndexedWriteError}
use Rattle.mongo_wire.specs.declared.write_error.WriteConcernError.{WriteConcernError}
use Rattle.mongo_wire.specs.declared.write_error.InsertManyError.{InsertManyError}
use Rattle.mongo_command.specs.CommandReply.{IsCommandBody, CommandRefused}
use Rattle.mongo_command.specs.Response.{CountIs, CountRefused}
use Rattle.mongo_command.specs.WriteReply.{SaysOfWrite, insert_failure, WriteReplyRefused}
use Rattle.mongo_exec.specs.Reply.{Said, IsInsertReply, IsPlaceIn, ReplyRefused}
use Rattle.mongo_exec.specs.Told.{Tells, TellsOf}
use Rattle.mongo_exec.specs.declared.insert_reply.BatchReply.{BatchReply}

pub command_refused : (kind : ErrorKind) (many : ℕ) (reply : List ℕ) → CommandRefused kind reply → ReplyRefused kind many reply
command_refused OutOfMemory many reply refused = inr refl
command_refused kind many reply refused = inl (inl refused)

pub count_refused : (kind : ErrorKind) (many : ℕ) (reply : List ℕ) → IsCommandBody reply → CountRefused kind reply → ReplyRefused kind many reply
count_refused kind many reply body refused = inl (inr (inl (body, refused)))

pub writes_refused : (kind : ErrorKind) (many : ℕ) (reply : List ℕ) (count : ℕ) → IsCommandBody reply → CountIs reply count → WriteReplyRefused kind reply → ReplyRefused kind many reply
writes_refused OutOfMemory many reply count body is refused = inr refl
writes_refused kind many reply count body is refused = inl (inr (inr (inl (body, (count, is), refused))))

-- what was refused, by the writes and the write concern that a reply has
told_of : (errors : Option (List IndexedWriteError)) (concern : Option WriteConcernError) (labels : List (List ℕ)) (refused : Option InsertManyError) → insert_failure (record { write_errors = errors; write_concern_error = concern; labels = labels }) ≡ refused
    → (unwrap_or (option_and_then (λ r. r.write_errors) refused) [] ≡ unwrap_or errors []) × (option_and_then (λ r. r.write_concern_error) refused ≡ concern)
told_of (Some errors) concern labels refused is = subst (λ r. (unwrap_or (option_and_then (λ x. x.write_errors) r) [] ≡ errors) × (option_and_then (λ x. x.write_concern_error) r ≡ concern)) is (refl, refl)
told_of None (Some concern) labels refused is = subst (λ r. (unwrap_or (option_and_then (λ x. x.write_errors) r) [] ≡ []) × (option_and_then (λ x. x.write_concern_error) r ≡ Some concern)) is (refl, refl)
told_of None None labels refused is = subst (λ r. (unwrap_or (option_and_then (λ x. x.write_errors) r) [] ≡ []) × (option_and_then (λ x. x.write_concern_error) r ≡ None)) is (refl, refl)

abbrev said_of : BatchReply → InsertManyError → Said
said_of told refused = record { count = told.count; refused = refused }

tells : (told : BatchReply) (refused : InsertManyError) → insert_failure refused ≡ told.refused → Tells told (said_of told refused)
tells told refused is = let parts = told_of refused.write_errors refused.write_concern_error refused.labels told.refused is in record { count = refl; errors = parts.0; concern = parts.1 }

pub reply_read : (many : ℕ) (reply : List ℕ) (told : BatchReply) → IsCommandBody reply → CountIs reply told.count → SaysOfWrite insert_failure reply told.refused → TellsOf many told → (said : Said) × IsInsertReply many reply said × Tells told said
reply_read many reply told body count says within =
    let tell = tells told says.0 says.2 in (
      said_of told says.0,
      record {
        reads = record { body = body; count = count; refused = says.1 };
        is_of = record { count = within.count; places = subst (All (IsPlaceIn many)) tell.errors within.places };
      },
      tell,
    )

pub reply_other : (many : ℕ) (reply : List ℕ) (told : BatchReply) → IsCommandBody reply → CountIs reply told.count → SaysOfWrite insert_failure reply told.refused → (TellsOf many told → ⊥) → ReplyRefused (InvalidResponse Body) many reply
reply_other many reply told body count says not =
    let tell = tells told says.0 says.2 in
    inl (inr (inr (inr (
      said_of told says.0,
      record { body = body; count = count; refused = says.1 },
      λ is. not (record { count = is.count; places = subst (All (IsPlaceIn many)) (sym tell.errors) is.places }),
    ))))
