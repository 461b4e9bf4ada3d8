use Rattle.std.proofs.Common.{◌≡◌, Result, Ok, Err, ap}
use Rattle.mongo_bson.specs.Value.{element_of}
use Rattle.mongo_settings.proofs.PlainKeys.{put_under, not_put_under}
use Rattle.mongo_settings.proofs.settings.properties.put_value.Goals as goal

no_refusal : {X E : Type 0} (x : X) (e : E) → ◌≡◌ {A = Result X E} (Ok x) (Err e) → ⊥
no_refusal x e is = cc

pub returns-in-Ok-clause-put : goal.returns-in-Ok-clause-put
returns-in-Ok-clause-put c =
    put_under c.args.key.now c.args.document.now c.append.new.self (element_of c.args.key.now c.args.value) (λ zero. no_refusal _ _ (c.in-Ok.ensures.key_has_zero.1 zero)) c.in-Ok.ensures.added

pub returns-in-Err-clause-refused : goal.returns-in-Err-clause-refused
returns-in-Err-clause-refused c = rw c.from.ensures
    (not_put_under c.args.key.now c.args.document.now (element_of c.args.key.now c.args.value) c.in-Err.fault c.in-Err.ensures.refused (λ is. c.in-Err.ensures.key_has_zero.0 (ap Err is)) (λ is. c.in-Err.ensures.too_long.0 (ap Err is)))
