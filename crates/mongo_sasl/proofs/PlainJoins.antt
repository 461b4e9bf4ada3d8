-- A login may be by PLAIN.
use Rattle.std.proofs.Common.{ℕ, List, refl, sym, subst}
use Rattle.mongo_wire.specs.declared.auth_fault.AuthFault.TheVariants.{Malformed}
use Rattle.mongo_wire.specs.declared.error.ErrorKind.TheVariants.{IncompatibleServer}
use Rattle.mongo_command.specs.Conversation.{ending, reading, unless, saying}
use Rattle.mongo_command.proofs.Leads.{Never, never_ending, never_unless, never_reading, never_saying}
use Rattle.mongo_sasl.specs.Plain.{PlainHanded, PlainRow, IsPlainUser, UnfinishedRow, plain_said, plain_heard, plain_plan, IsPlainLogin}
use Rattle.mongo_sasl.specs.Reply.{IsSaslReply, SaslRow}
use Rattle.mongo_sasl.specs.Login.{unasked}
use Rattle.mongo_sasl.proofs.Joining.{JoinsLogin}
use Rattle.mongo_sasl.proofs.LoginEvents.{LoginEnd}
use Rattle.mongo_sasl.proofs.OtherRows.{other, other_row}
use Rattle.mongo_sasl.proofs.PlainPlan.{one_plain, plain_ended, plain_ends}

never_heard : (reply : List ℕ) → Never IncompatibleServer (plain_heard reply)
never_heard reply =
    never_unless IncompatibleServer (SaslRow reply) (reading (IsSaslReply reply) (λ sasl. unless (UnfinishedRow sasl) (ending tt))) (λ row. other_row _ IncompatibleServer row refl) (never_reading IncompatibleServer (IsSaslReply reply) (λ sasl. unless (UnfinishedRow sasl) (ending tt)) (λ sasl.
    never_unless IncompatibleServer (UnfinishedRow sasl) (ending tt) (λ row. other Malformed (sym row.0)) (never_ending IncompatibleServer tt)))

never_plain : (handed : PlainHanded) → Never IncompatibleServer (plain_plan handed)
never_plain handed =
    never_unless IncompatibleServer (PlainRow handed.credential) (reading (IsPlainUser handed.credential) (λ user. saying (plain_said handed user) plain_heard)) (λ row. other_row _ IncompatibleServer row refl)
    (never_reading IncompatibleServer (IsPlainUser handed.credential) (λ user. saying (plain_said handed user) plain_heard) (λ user. never_saying IncompatibleServer (plain_said handed user) plain_heard never_heard))

pub plain_joins : (handed : PlainHanded) → JoinsLogin (plain_plan handed) (unasked (IsPlainLogin handed)) handed.maximum
plain_joins handed = record {
  one = one_plain handed;
  fits = never_plain handed;
  ended = λ events done e. let found = plain_ended handed events done e in (found.1, found.2);
  ends = λ given commands replies is. (tt, subst (λ x. LoginEnd (plain_plan handed) tt handed.maximum x commands replies) (sym is.0) (plain_ends handed commands replies is.1));
}
