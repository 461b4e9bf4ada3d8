use Rattle.std.proofs.Common.{refl}
use Rattle.std.proofs.lemmas.Bool.{false≢true}
use Rattle.mongo_bson.proofs.Searched.{found_text, text_absent}
use Rattle.mongo_bson.proofs.extend.holds_text.Goals as goal

pub returns-in-Ok : goal.returns-in-Ok
returns-in-Ok c = (λ _. found_text c.args.sorted.now c.in-Ok.field-0 c.args.text c.in-Ok.ensures.bound c.in-Ok.ensures.ok, λ _. refl)

pub returns-in-Err : goal.returns-in-Err
returns-in-Err c = (λ f. absurd (false≢true f), λ held. absurd (text_absent c.args.sorted.now c.in-Err.field-0 c.args.text c.requires c.in-Err.ensures.position held))
