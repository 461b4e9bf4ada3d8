use Rattle.std.proofs.Common.{rules}
use Rattle.mongo_server.proofs.ClientFinals.{no_header, no_comma, no_key, no_base64, is_final}
use Rattle.mongo_server.proofs.parse.read_client_final.Goals as goal

pub returns-in_default-clause-refused : goal.returns-in_default-clause-refused
returns-in_default-clause-refused c = no_header c.args.message.now (search rules)

pub returns-in_default-cut_last-clause-refused : goal.returns-in_default-cut_last-clause-refused
returns-in_default-cut_last-clause-refused c = no_comma c.args.message.now c.in-Some.attributes.now (search rules) (search rules)

pub returns-in_default-after-clause-refused : goal.returns-in_default-after-clause-refused
returns-in_default-after-clause-refused c =
    no_key c.args.message.now c.in-Some.attributes.now c.in-Some-cut_last.nonce.now c.in-Some-cut_last.attribute.now
    (record { header = search rules; ends = search rules; joined = search rules }) (search rules)

pub returns-in-None-clause-refused : goal.returns-in-None-clause-refused
returns-in-None-clause-refused c =
    no_base64 c.args.message.now c.in-Some.attributes.now c.in-Some-cut_last.nonce.now c.in-Some-cut_last.attribute.now
    (record { header = search rules; ends = search rules; joined = search rules }) c.in-Some-after.text.now (search rules) (search rules)

pub returns-in-Some-2-clause-read : goal.returns-in-Some-2-clause-read
returns-in-Some-2-clause-read c =
    is_final c.args.message.now c.in-Some.attributes.now c.in-Some-cut_last.nonce.now c.in-Some-cut_last.attribute.now
    (record { header = search rules; ends = search rules; joined = search rules }) c.in-Some-after.text.now c.in-Some-2.proof (search rules) (search rules) (search rules)
