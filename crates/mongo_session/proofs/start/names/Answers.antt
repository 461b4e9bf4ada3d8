use Rattle.std.proofs.Common.{◌++◌, drop, length, ap, ◌∙◌}
use Rattle.std.proofs.lemmas.Bool.Decides.{Decides-eqb}
use Rattle.std.proofs.lemmas.Slice.Eq.{starts_is}
use Rattle.mongo_session.proofs.Begun.{names_front}
use Rattle.mongo_session.proofs.start.names.Goals as goal
use Rattle.mongo_scram.specs.Attributes.{after_comma, nonce_attribute, user_name_attribute}

pub returns : goal.returns
returns c =
    let message = c.args.payload.now in
    let name = c.args.name.now in
    let front = c.as_bytes.result.now in
    names_front message front name (drop (length front) message) c.starts_with.result
    (c.as_bytes.ensures.value ∙ c.in_ok-push_str-3.ensures.bytes ∙ ap (λ text. text ++ after_comma nonce_attribute) (c.in_ok-push_str-2.ensures.bytes ∙ (λ i. (c.in_ok-push_str.ensures.bytes ∙ ap (λ text. text ++ user_name_attribute) c.in_ok-front.ensures.ok) i ++ (c.as_str.ensures ∙ c.in_ok-carried.ensures) i)))
    (starts_is Decides-eqb message front c.starts_with.result c.starts_with.ensures.value)
