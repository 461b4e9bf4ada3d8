use Rattle.serde_json.specs.View.{members_view}
use Rattle.mongo_bson.specs.Framed.{IsFramed}
use Rattle.mongo_settings.specs.Properties.{member_elements}
use Rattle.mongo_settings.proofs.Grown.{Grows}
use Rattle.mongo_settings.proofs.settings.properties.properties_document.Given as goal

abbrev pub invariant-loop-key : goal.invariant-loop-key
invariant-loop-key l = record {
  framed : IsFramed l.document;
  grows : Grows l.document (member_elements (members_view l.members.entries)) (member_elements (members_view l.key-iterator));
}
