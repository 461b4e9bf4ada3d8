use Rattle.std.proofs.Common.{◌≡◌, ◌∙◌, ℕ, List, ap, drop, subst, sym}
use Rattle.mongo_wire.specs.Memory.{bytes_left}
use Rattle.mongo_wire.specs.declared.memory_link.MemoryLink.{MemoryLink}
use Rattle.mongo_command.proofs.Phases.{document_held}
use Rattle.mongo_generate.specs.Written.{CarriesPayload, CarriesPayloadLast}
use Rattle.mongo_generate.proofs.written.client_final.Goals as goal

-- a fresh link gives what was written
given_by : (payload written : List ℕ) (link : MemoryLink) → link.at ≡ 0 → link.input.items ≡ written → CarriesPayloadLast payload written → CarriesPayloadLast payload (bytes_left link)
given_by payload written link at input = subst (CarriesPayloadLast payload) (sym (ap (λ n. drop n link.input.items) at ∙ input))

pub copied_payload-requires : goal.copied_payload-requires
copied_payload-requires c =
    let link = c.new-link in
    let (payload, carries) = c.requires.carried in
    let given = given_by payload c.args.written link.result link.ensures.at link.ensures.input carries in
    let held = document_held given.second given.second_parts c.take_second.new.buffer (c.in-Ok.ensures.second payload given) in
    record { carried = (payload, subst (CarriesPayload payload) (sym (c.held_reply.ensures ∙ held)) given.carried) }

pub returns-in-Ok : goal.returns-in-Ok
returns-in-Ok c = record {
  found = λ payload carries.
      let link = c.new-link in
      let given = given_by payload c.args.written link.result link.ensures.at link.ensures.input carries in
      let held = document_held given.second given.second_parts c.take_second.new.buffer (c.in-Ok.ensures.second payload given) in
      c.copied_payload.ensures.found payload (subst (CarriesPayload payload) (sym (c.held_reply.ensures ∙ held)) given.carried);
}

pub unreachable-requires : goal.unreachable-requires
unreachable-requires c =
    let link = c.new-link in
    let (payload, carries) = c.requires.carried in
    c.in_default.not-OutOfMemory (c.in-Err.ensures.second payload (given_by payload c.args.written link.result link.ensures.at link.ensures.input carries))
