use Rattle.std.proofs.Common.{◌≡◌, ℕ, List, Option, None, Some, sym, ◌∙◌, subst, rules}
use Rattle.mongo_bson.specs.Framed.{element_bytes}
use Rattle.mongo_bson.specs.Find.{FindsValue}
use Rattle.mongo_bson.specs.Number.{u64_of_kind}
use Rattle.mongo_bson.specs.Value.{IsValue}
use Rattle.mongo_bson.specs.declared.raw_value.RawValue.{RawValue}
use Rattle.mongo_wire.specs.declared.error.ErrorKind.{ErrorKind}
use Rattle.mongo_wire.specs.declared.error.ErrorKind.TheVariants.{InvalidResponse}
use Rattle.mongo_wire.specs.declared.fault.ResponseFault.TheVariants.{NNotNumber}
use Rattle.mongo_command.specs.Response.{CountRefused, reply_document}
use Rattle.mongo_command.specs.Keys.{n_key}
use Rattle.mongo_command.proofs.raw_command_response.RawCommandResponse.extract_n.Goals as goal

-- an `n` that reads as no number
no_number : (document : List ℕ) (value : RawValue) (kind : ErrorKind) (read : Option ℕ) → kind ≡ InvalidResponse NNotNumber → FindsValue (element_bytes document) n_key (Some value) → ((k : ℕ) (bytes : List ℕ) → IsValue k bytes value → read ≡ u64_of_kind k bytes) → read ≡ None → CountRefused kind document
no_number document value kind read is found meaning none =
    subst (λ k. CountRefused k document) (sym is) (found.0, found.1, sym (meaning found.0.kind found.0.value found.2) ∙ none)

pub returns-in-None-clause-refused : goal.returns-in-None-clause-refused
returns-in-None-clause-refused c =
    let found = rw c.in-Ok-Some.field-0-is at c.in-Ok-Some.ensures.found in
    no_number (reply_document c.args.self.now) c.in-Ok-Some.n c.into.result.kind c.get_u64_raw.result c.into.ensures (rw (c.borrow.ensures) at found) c.get_u64_raw.ensures.meaning c.in-None.is

pub returns-in-Some-clause-count : goal.returns-in-Some-clause-count
returns-in-Some-clause-count c = search rules
