use Rattle.std.proofs.Common.{◌≡◌, Some, ap, List, ℕ, refl}
use Rattle.mongo_generate.proofs.Payloads.{reading_only_memory}
use Rattle.mongo_generate.proofs.written.take_next.Goals as goal

same_rest : (a b : List ℕ) → Some a ≡ Some b → a ≡ b
same_rest a b same = cc

pub returns-in-Ok-clause-next : goal.returns-in-Ok-clause-next
returns-in-Ok-clause-next c = λ frame rest parts is frame_is within.
    let again = c.in-Ok.ensures.again frame rest parts (ap Some is) frame_is within in
    (again.0, same_rest _ _ again.1)

pub returns-in-Ok-clause-holds : goal.returns-in-Ok-clause-holds
returns-in-Ok-clause-holds c = let taken = c.in-Ok.ensures.taken in (taken.frame, taken.parts, taken.holds)

pub returns-in-Err-clause-next : goal.returns-in-Err-clause-next
returns-in-Err-clause-next c = λ frame rest parts is frame_is within. reading_only_memory c.in-Err.fault _ _ _ (c.in-Err.ensures.again frame rest parts (ap Some is) frame_is within) c.in-Err.ensures.refused refl
