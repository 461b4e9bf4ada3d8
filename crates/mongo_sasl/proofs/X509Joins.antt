-- A login may be by MONGODB-X509.
use Rattle.std.proofs.Common.{Bool, true, false, refl, sym, subst}
use Rattle.mongo_wire.specs.declared.error.ErrorKind.TheVariants.{IncompatibleServer}
use Rattle.mongo_command.specs.Conversation.{ending, reading}
use Rattle.mongo_command.proofs.Leads.{Never, never_ending, never_unless, never_reading, never_saying}
use Rattle.mongo_sasl.specs.X509.{X509Handed, X509Row, AcceptsCertificate, x509_said, x509_heard, x509_plan_from, x509_plan, IsX509Login}
use Rattle.mongo_sasl.specs.Login.{unasked}
use Rattle.mongo_sasl.proofs.Joining.{JoinsLogin}
use Rattle.mongo_sasl.proofs.LoginEvents.{LoginEnd}
use Rattle.mongo_sasl.proofs.OtherRows.{other_row}
use Rattle.mongo_sasl.proofs.X509Plan.{one_x509, x509_ended, x509_ends}

never_from : (speculated : Bool) (handed : X509Handed) → Never IncompatibleServer (x509_plan_from speculated handed)
never_from true handed = never_ending IncompatibleServer tt
never_from false handed =
    never_saying IncompatibleServer (x509_said handed) x509_heard (λ reply.
    never_unless IncompatibleServer (X509Row reply) (reading (AcceptsCertificate reply) (λ elements. ending tt)) (λ row. other_row _ IncompatibleServer row refl) (never_reading IncompatibleServer (AcceptsCertificate reply) (λ elements. ending tt) (λ elements. never_ending IncompatibleServer tt)))

pub x509_joins : (handed : X509Handed) → JoinsLogin (x509_plan handed) (unasked (IsX509Login handed)) handed.maximum
x509_joins handed = record {
  one = one_x509 handed;
  fits = never_from handed.speculated handed;
  ended = λ events done e. let found = x509_ended handed events done e in (found.1, found.2);
  ends = λ given commands replies is. (tt, subst (λ x. LoginEnd (x509_plan handed) tt handed.maximum x commands replies) (sym is.0) (x509_ends handed commands replies is.1));
}
