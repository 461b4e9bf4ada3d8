use Rattle.std.proofs.Common.{ℕ, Option, List, codes, subst, rules}
use Rattle.mongo_bson.specs.Document.{Element}
use Rattle.mongo_command.specs.Field.{OptionalThree, ReadsText, ReadsTexts}
use Rattle.mongo_command.specs.Fields.{Answers}
use Rattle.mongo_command.specs.Hello.{ReadsTags, IsSetTable, IsServerTable}
use Rattle.mongo_command.specs.declared.tags.MemberTag.{MemberTag}
use Rattle.mongo_command.proofs.FieldAnswers.{refused, part_fault, Both, both_answer}
use Rattle.mongo_command.proofs.hello_table.set_of.Goals as goal

-- the lists of members, and the names and tags
abbrev MemberLists : List Element → Option (List (List ℕ)) × Option (List (List ℕ)) × Option (List (List ℕ)) → Type 0
MemberLists = OptionalThree ReadsTexts ReadsTexts ReadsTexts (codes "hosts") (codes "passives") (codes "arbiters")

abbrev SetNames : List Element → Option (List ℕ) × Option (List ℕ) × Option (List MemberTag) → Type 0
SetNames = OptionalThree ReadsText ReadsText ReadsTags (codes "primary") (codes "setName") (codes "tags")

pub returns-in_err-set_version : goal.returns-in_err-set_version
returns-in_err-set_version c = λ els are. refused IsSetTable els _ _ _ _ c.from_residual.ensures.1 (λ t is. (t.set_version, is.set_version)) (c.in_err-set_version.ensures els are)

pub returns-in_err-election_id : goal.returns-in_err-election_id
returns-in_err-election_id c = λ els are. refused IsSetTable els _ _ _ _ c.from_residual-in_err-election_id.ensures.1 (λ t is. (t.election_id, is.election_id)) (c.in_err-election_id.ensures els are)

pub returns-in_err-parts : goal.returns-in_err-parts
returns-in_err-parts c = λ els are.
    let parts = both_answer MemberLists SetNames els els _ _ c.both.result c.both.ensures.values c.both.ensures.fault (c.optional_three-lists.ensures els are) (c.optional_three-names.ensures els are) in
    let all = both_answer (Both MemberLists SetNames) IsServerTable (els, els) els _ _ c.both-2.result c.both-2.ensures.values c.both-2.ensures.fault parts (c.server_of.ensures els are) in
    part_fault IsSetTable (Both (Both MemberLists SetNames) IsServerTable) els ((els, els), els) c.in_err-parts.field-0.0 c.from_residual-in_err-parts.result c.from_residual-in_err-parts.ensures.1
    (λ t is. ((((t.hosts, t.passives, t.arbiters), (t.primary, t.set_name, t.tags)), t), (((is.hosts, is.passives, is.arbiters), (is.primary, is.set_name, is.tags)), is.server)))
    (subst (Answers (Both (Both MemberLists SetNames) IsServerTable) ((els, els), els)) c.in_err-parts.was all)

pub returns : goal.returns
returns c = λ els are.
    let answered = c.in_ok-parts.ensures.values in
    let server = subst (Answers IsServerTable els) answered.1 (c.server_of.ensures els are) in
    let parts = subst (Answers (Both MemberLists SetNames) (els, els)) answered.0 (both_answer MemberLists SetNames els els _ _ c.both.result c.both.ensures.values c.both.ensures.fault (c.optional_three-lists.ensures els are) (c.optional_three-names.ensures els are)) in
    record {
      server = search (rules, server);
      hosts = parts.0.0;
      passives = parts.0.1;
      arbiters = parts.0.2;
      primary = parts.1.0;
      set_version = c.in_ok-set_version.ensures els are;
      set_name = parts.1.1;
      tags = parts.1.2;
      election_id = c.in_ok-election_id.ensures els are;
    }
