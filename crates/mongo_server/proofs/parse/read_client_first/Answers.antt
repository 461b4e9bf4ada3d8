use Rattle.std.proofs.Common.{◌≡◌, ◌++◌, rules}
use Rattle.mongo_server.specs.ClientMessages.{IsSaslName}
use Rattle.mongo_server.proofs.ClientFirsts.{AreFirstAttributes, no_utf8_message, no_gs2_header, no_user_name, no_attribute_comma, no_nonce, no_saslname, not_printable, is_message, is_bare, username_text}
use Rattle.mongo_server.proofs.parse.read_client_first.Goals as goal
use Rattle.mongo_scram.specs.Attributes.{nonce_attribute}

pub returns-in_default : goal.returns-in_default
returns-in_default c = no_utf8_message c.args.message.now (search rules)

pub returns-in_default-strip_prefix : goal.returns-in_default-strip_prefix
returns-in_default-strip_prefix c = no_gs2_header c.args.message.now (search rules)

pub returns-in_default-strip_prefix-2 : goal.returns-in_default-strip_prefix-2
returns-in_default-strip_prefix-2 c = no_user_name c.args.message.now c.in-Some.bare.now (search rules) (search rules)

pub returns-in_default-cut : goal.returns-in_default-cut
returns-in_default-cut c =
    no_attribute_comma c.args.message.now c.in-Some.bare.now c.in-Some-strip_prefix.attributes.now (record { header = search rules; key = search rules }) (search rules)

pub returns-in_default-strip_prefix-3 : goal.returns-in_default-strip_prefix-3
returns-in_default-strip_prefix-3 c =
    no_nonce c.args.message.now c.in-Some.bare.now c.in-Some-strip_prefix.attributes.now c.in-Some-cut.saslname.now c.in-Some-cut.attribute.now
    (record { opened = record { header = search rules; key = search rules }; ends = search rules; joined = search rules }) (search rules)

pub returns-then-not-is_saslname : goal.returns-then-not-is_saslname
returns-then-not-is_saslname c =
    no_saslname c.args.message.now c.in-Some.bare.now c.in-Some-strip_prefix.attributes.now c.in-Some-cut.saslname.now c.in-Some-cut.attribute.now
    (record { opened = record { header = search rules; key = search rules }; ends = search rules; joined = search rules }) (search rules)

pub returns-then-not-is_nonce : goal.returns-then-not-is_nonce
returns-then-not-is_nonce c =
    not_printable c.args.message.now c.in-Some.bare.now c.in-Some-strip_prefix.attributes.now c.in-Some-cut.saslname.now c.in-Some-cut.attribute.now
    (record { opened = record { header = search rules; key = search rules }; ends = search rules; joined = search rules }) c.in-Some-strip_prefix-2.nonce.now (search rules) (search rules)

pub returns : goal.returns
returns c =
    let message = c.args.message.now in
    let bare = c.in-Some.bare.now in
    let attributes = c.in-Some-strip_prefix.attributes.now in
    let name = c.in-Some-cut.saslname.now in
    let attribute = c.in-Some-cut.attribute.now in
    let nonce = c.in-Some-strip_prefix-2.nonce.now in
    let parts : AreFirstAttributes message bare attributes name attribute = record { opened = record { header = search rules; key = search rules }; ends = search rules; joined = search rules } in
    let named : IsSaslName name = search rules in
    let value : attribute ≡ nonce_attribute ++ nonce = search rules in
    record {
      username = named.0;
      is_first = record {
        message_is = is_message message bare attributes name attribute parts named.0 nonce named.1 value;
        text = username_text message bare attributes name attribute parts named.0 (search rules) named.1;
        printable = search rules;
      };
      saslname_is = named.1;
      bare_is = is_bare message bare attributes name attribute parts named.0 nonce named.1 value;
    }
