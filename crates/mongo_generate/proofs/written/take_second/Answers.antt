use Rattle.std.proofs.Common.{◌≡◌, ◌∙◌, sym, append-nil, [], Result, Ok, Err, MatchResult}
use Rattle.mongo_wire.specs.declared.fault.FrameFault.{FrameFault}
use Rattle.mongo_wire.specs.declared.fault.FrameFault.TheVariants.{OutOfMemory}
use Rattle.mongo_generate.proofs.written.take_second.Goals as goal

first_alone : {T : Type 0} (Held Left : Type 0) (r : Result T FrameFault) → MatchResult r (λ _. Held × Left) (λ fault. fault ≡ OutOfMemory) → MatchResult r (λ _. Held) (λ fault. fault ≡ OutOfMemory)
first_alone Held Left (Ok x) is = is.0
first_alone Held Left (Err fault) memory = memory

pub returns-in-Ok-clause-second : goal.returns-in-Ok-clause-second
returns-in-Ok-clause-second c = λ payload carries.
    let one = c.in-Ok.ensures.next carries.first carries.second carries.first_parts carries.joined carries.first_is carries.first_within in
    first_alone _ _ c.take_next-in-Ok.result
    (c.take_next-in-Ok.ensures.next carries.second [] carries.second_parts (one.1 ∙ sym (append-nil carries.second)) carries.second_is carries.second_within)

pub returns-in-Err-clause-second : goal.returns-in-Err-clause-second
returns-in-Err-clause-second c = λ payload carries. c.in-Err.ensures.next carries.first carries.second carries.first_parts carries.joined carries.first_is carries.first_within
