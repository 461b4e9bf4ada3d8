use Rattle.std.proofs.Common.{rules}
use Rattle.mongo_server.proofs.UserNames.{IsCutAtEquals, code_of, plain_name, after_no_comma, whole_from, after_from, no_escaped_name}
use Rattle.mongo_server.proofs.user_name.is_saslname.Goals as goal

pub returns-in_default-after_code : goal.returns-in_default-after_code
returns-in_default-after_code c = (
  λ is. absurd (cc is),
  λ named. absurd (no_escaped_name c.loop-code.rest.now c.in-Some.field-0-0.now c.in-Some.code.now c.loop-code.invariant.no_comma (search rules) (search rules) (search rules) (c.loop-code.invariant.part named)),
)

pub loop-code-preserved : goal.loop-code-preserved
loop-code-preserved c =
    let rest = c.loop-code.rest.now in
    let front = c.in-Some.field-0-0.now in
    let code = c.in-Some.code.now in
    let after = c.in-Some-after_code.after.now in
    let no_comma = c.loop-code.invariant.no_comma in
    let cut : IsCutAtEquals rest front code after = record { joined = search rules; no_equals = search rules; is_code = code_of code after (search rules) } in
    record {
      text = search rules;
      no_comma = after_no_comma rest front code after no_comma (search rules) (search rules);
      whole = λ named. c.loop-code.invariant.whole (whole_from rest front code after no_comma cut named);
      part = λ named. after_from rest front code after no_comma cut (c.loop-code.invariant.part named);
    }

pub returns : goal.returns
returns c = (
  λ is. c.loop-code.invariant.whole (plain_name c.loop-code.rest.now (search rules) c.loop-code.invariant.no_comma),
  λ named. search rules,
)
